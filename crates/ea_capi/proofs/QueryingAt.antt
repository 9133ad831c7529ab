-- A query for some nodes, from the search's contract to the handle's content.
use Rattle.std.proofs.Common.{◌≡◌, ℕ, List, refl, sym, subst}
use Rattle.std.specs.Prelude.{◌≢◌, Option, Some}
use Rattle.ea_road.specs.Queries.{Asking}
use Rattle.ea_capi.specs.declared.handle.content.Content.{Content}
use Rattle.ea_capi.specs.declared.handle.content.Content.TheVariants as content
use Rattle.ea_capi.specs.declared.handle.content.Session.{Session}
use Rattle.ea_capi.specs.Asked.{AreGoodAsked, IsAskedFor, IsFoundAt, IsLeft}
use Rattle.ea_capi.specs.Calls.{IsDoneOrScarce}
use Rattle.ea_capi.specs.States.{session_in}

module _ (nodes departures list : List ℕ) (query : Asking) where
  of_search : (session next : Session) (number : ℕ) → (number ≡ 0 → IsFoundAt query list session next) → (number ≢ 0 → IsLeft number session next) → (AreGoodAsked nodes departures list session → IsDoneOrScarce number)
      → IsAskedFor nodes departures list query (Some session) (Some (content.Search session)) (Some (content.Search next)) number
  of_search session next number found left good = (λ done. (next, refl, found done), λ refused. (next, refl, left refused), good)

  pub queried : (old : Content) (session next : Session) (number : ℕ) → old ≡ content.Search session → (number ≡ 0 → IsFoundAt query list session next) → (number ≢ 0 → IsLeft number session next) → (AreGoodAsked nodes departures list session → IsDoneOrScarce number)
      → IsAskedFor nodes departures list query (session_in (Some old)) (Some old) (Some (content.Search next)) number
  queried old session next number is found left good =
      subst (λ (it : Content). IsAskedFor nodes departures list query (session_in (Some it)) (Some it) (Some (content.Search next)) number) (sym is) (of_search session next number found left good)

  pub carried : (old new : Option Content) (before after : Content) (number : ℕ) → old ≡ Some before → new ≡ Some after → IsAskedFor nodes departures list query (session_in (Some before)) (Some before) (Some after) number
      → IsAskedFor nodes departures list query (session_in old) old new number
  carried old new before after number is becomes told =
      subst (λ (it : Option Content). IsAskedFor nodes departures list query (session_in it) it new number) (sym is)
      (subst (λ (it : Option Content). IsAskedFor nodes departures list query (session_in (Some before)) (Some before) it number) (sym becomes) told)
