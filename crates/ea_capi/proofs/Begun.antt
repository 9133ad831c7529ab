-- A new search.
use Rattle.std.proofs.Common.{ℕ, Bool, refl, inl, inr}
use Rattle.std.specs.Prelude.{Option, Some, None}
use Rattle.ea_load.specs.declared.road.Road.{Road}
use Rattle.ea_capi.specs.declared.handle.content.Content.{Content}
use Rattle.ea_capi.specs.declared.handle.content.Session.{Session}
use Rattle.ea_capi.specs.Calls.{IsBegun, IsNew, IsHeld, IsThere, held, no_memory}

pub begun : (road : Option Road) (walks : Bool) (session : Session) (old new : Option Content) (number : ℕ) → IsNew road walks (Some session) → IsHeld session old new number → IsBegun road walks old new number
begun None walks session old new number is here = absurd is
begun (Some road) walks session old new number is (held there zero) = inl (session, there, is.0, is.1, zero)
begun (Some road) walks session old new number is (no_memory same refused) = inr (same, refused)

pub refused : (road : Option Road) (walks : Bool) (old : Option Content) → IsThere road → IsBegun road walks old old 13
refused None walks old is = absurd is
refused (Some road) walks old is = inr (refl, refl)
