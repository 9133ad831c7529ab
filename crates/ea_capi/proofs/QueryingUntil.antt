-- A query for latest departures, from the search's contract to the handle's content.
use Rattle.std.proofs.Common.{◌≡◌, ℕ, List, refl, ap, sym, subst}
use Rattle.std.specs.Prelude.{◌≢◌, Option, Some}
use Rattle.ea_road.specs.declared.target.Target.{Target}
use Rattle.ea_capi.specs.declared.handle.content.Content.{Content}
use Rattle.ea_capi.specs.declared.handle.content.Content.TheVariants as content
use Rattle.ea_capi.specs.declared.handle.content.LatestSearch.{LatestSearch}
use Rattle.ea_capi.specs.LatestCalls.{IsFoundUntil, IsQueriedUntil}
use Rattle.ea_capi.specs.States.{latest_in}

module _ (Good : LatestSearch → Type 0) (IsBorne : ℕ → Type 0) (targets : List Target) (asked : Option ℕ) where
  of_search : (search next : LatestSearch) (number : ℕ) → (number ≡ 0 → IsFoundUntil targets asked search next) → (number ≢ 0 → next ≡ search) → (Good search → IsBorne number)
      → IsQueriedUntil Good IsBorne targets asked (Some search) (Some (content.Latest search)) (Some (content.Latest next)) number
  of_search search next number found kept good = (λ done. (next, refl, found done), λ refused. ap (λ (it : LatestSearch). Some (content.Latest it)) (kept refused), good)

  pub queried : (old : Content) (search next : LatestSearch) (number : ℕ) → old ≡ content.Latest search → (number ≡ 0 → IsFoundUntil targets asked search next) → (number ≢ 0 → next ≡ search) → (Good search → IsBorne number)
      → IsQueriedUntil Good IsBorne targets asked (latest_in (Some old)) (Some old) (Some (content.Latest next)) number
  queried old search next number is found kept good =
      subst (λ (it : Content). IsQueriedUntil Good IsBorne targets asked (latest_in (Some it)) (Some it) (Some (content.Latest next)) number) (sym is) (of_search search next number found kept good)

  pub carried : (old new : Option Content) (before after : Content) (number : ℕ) → old ≡ Some before → new ≡ Some after → IsQueriedUntil Good IsBorne targets asked (latest_in (Some before)) (Some before) (Some after) number
      → IsQueriedUntil Good IsBorne targets asked (latest_in old) old new number
  carried old new before after number is becomes told =
      subst (λ (it : Option Content). IsQueriedUntil Good IsBorne targets asked (latest_in it) it new number) (sym is)
      (subst (λ (it : Option Content). IsQueriedUntil Good IsBorne targets asked (latest_in (Some before)) (Some before) it number) (sym becomes) told)
