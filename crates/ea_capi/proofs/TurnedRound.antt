-- A road turned round, and a new search for latest departures.
use Rattle.std.proofs.Common.{◌≡◌, ◌∙◌, ℕ, Bool, ap, refl, inl, inr}
use Rattle.std.specs.Prelude.{MatchOption, Option, Some, None}
use Rattle.ea_load.specs.declared.road.Road.{Road}
use Rattle.ea_capi.specs.declared.handle.content.Content.{Content}
use Rattle.ea_capi.specs.declared.handle.content.LatestSearch.{LatestSearch}
use Rattle.ea_capi.specs.Calls.{IsThere}
use Rattle.ea_capi.specs.LatestCalls.{IsLatestBegun, IsLatestHeld, IsNewLatest, IsTurnedOf, IsTurnedRound, held, no_memory}
use Rattle.ea_capi.specs.States.{turned_in}

pub turned_made : (road : Option Road) (content : Content) (old new : Option Content) → IsTurnedOf road content → new ≡ Some content → IsTurnedRound road old new 0
turned_made None content old new is there = absurd is
turned_made (Some road) content old new is there = inl (ap turned_in there ∙ is, refl)

pub turned_refused : (road : Option Road) (old : Option Content) (number : ℕ) → MatchOption road (number ≡ 16) (λ _. number ≡ 13) → IsTurnedRound road old old number
turned_refused None old number is = (is, refl)
turned_refused (Some road) old number is = inr (refl, is)

pub begun : (road : Option Road) (walks : Bool) (search : LatestSearch) (old new : Option Content) (number : ℕ) → IsNewLatest road walks (Some search) → IsLatestHeld search old new number → IsLatestBegun road walks old new number
begun None walks search old new number is here = absurd is
begun (Some road) walks search old new number is (held there zero) = inl (search, there, is.0, is.1, zero)
begun (Some road) walks search old new number is (no_memory same refused) = inr (same, refused)

pub refused : (road : Option Road) (walks : Bool) (old : Option Content) → IsThere road → IsLatestBegun road walks old old 13
refused None walks old is = absurd is
refused (Some road) walks old is = inr (refl, refl)
