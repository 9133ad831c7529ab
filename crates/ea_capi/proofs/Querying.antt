-- A query, from the search's contract to the handle's content.
use Rattle.std.proofs.Common.{◌≡◌, ℕ, refl, ap, sym, subst}
use Rattle.std.specs.Prelude.{◌≢◌, Option, Some}
use Rattle.ea_road.specs.Queries.{Asking}
use Rattle.ea_capi.specs.declared.handle.content.Content.{Content}
use Rattle.ea_capi.specs.declared.handle.content.Content.TheVariants as content
use Rattle.ea_capi.specs.declared.handle.content.Session.{Session}
use Rattle.ea_capi.specs.Calls.{IsFound, IsQueried}
use Rattle.ea_capi.specs.States.{session_in}

module _ (Good : Session → Type 0) (IsBorne : ℕ → Type 0) (query : Asking) where
  of_search : (session next : Session) (number : ℕ) → (number ≡ 0 → IsFound query session next number) → (number ≢ 0 → next ≡ session) → (Good session → IsBorne number)
      → IsQueried Good IsBorne query (Some session) (Some (content.Search session)) (Some (content.Search next)) number
  of_search session next number found kept good = (λ done. (next, refl, found done), λ refused. ap (λ (it : Session). Some (content.Search it)) (kept refused), good)

  pub queried : (old : Content) (session next : Session) (number : ℕ) → old ≡ content.Search session → (number ≡ 0 → IsFound query session next number) → (number ≢ 0 → next ≡ session) → (Good session → IsBorne number)
      → IsQueried Good IsBorne query (session_in (Some old)) (Some old) (Some (content.Search next)) number
  queried old session next number is found kept good =
      subst (λ (it : Content). IsQueried Good IsBorne query (session_in (Some it)) (Some it) (Some (content.Search next)) number) (sym is) (of_search session next number found kept good)

  pub carried : (old new : Option Content) (before after : Content) (number : ℕ) → old ≡ Some before → new ≡ Some after → IsQueried Good IsBorne query (session_in (Some before)) (Some before) (Some after) number → IsQueried Good IsBorne query (session_in old) old new number
  carried old new before after number is becomes told =
      subst (λ (it : Option Content). IsQueried Good IsBorne query (session_in it) it new number) (sym is)
      (subst (λ (it : Option Content). IsQueried Good IsBorne query (session_in (Some before)) (Some before) it number) (sym becomes) told)
