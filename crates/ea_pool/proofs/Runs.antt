-- Every run leaves the pool lawful.
use Rattle.std.proofs.Common.{◌≡◌, ◌≢◌, ℕ, ◌<◌, Bool, true, false, cond, List, ◌++◌, length, get_or, sym, refl, ap, ◌∙◌, subst, arith, eqb, eqb-true, Option, Some, None}
use Rattle.std.specs.Prelude.{slice_index}
use mathlib.Core.Option as maybe
use lib.ListN.{get_elem?}
use Rattle.atomic_table.proofs.Lists.{set_else}
use Rattle.ea_machine.proofs.Places.{value_at, at_weighed}
use Rattle.ea_machine.proofs.Runs as runs
use Rattle.ea_pool.specs.declared.heap.entry.Entry.{Entry}
use Rattle.ea_pool.specs.declared.shared.account.Held.{Held}
use Rattle.ea_pool.specs.declared.shared.account.SeatMemory.{SeatMemory}
use Rattle.ea_pool.specs.declared.shared.words.TheConstants.{OUT}
use Rattle.ea_pool.specs.Entries.{SameEntries, AreKnown}
use Rattle.ea_pool.specs.Kinds.{HeapKind, Shows}
use Rattle.ea_pool.specs.States.{nobody, content_of, IfHeld, forgot, pushed, popped, gave, joined}
use Rattle.ea_pool.specs.Core.{Core, at_home, IsLawful}
use Rattle.ea_pool.specs.Events.{Event, load, take, give_pushed, give_popped, give_back, split, join, opening, state_of, home_of, with_state, with_taken, with_home, after, IsLive, MayCome, after_all, MayRun, IsReached}
use Rattle.ea_pool.proofs.Lawful.{there, taken_home, load_lawful, take_lawful, miss_lawful, push_lawful, pop_lawful, back_lawful, split_lawful, join_lawful, opening_lawful}

live_at : (seats : List SeatMemory) (id : ℕ) → 0 < (get_or seats id nobody).shares → get_elem? seats id ≡ maybe.some (get_or seats id nobody)
live_at seats id h = at_weighed (λ (a : SeatMemory). a.shares) seats id nobody refl h

module _ (known : ℕ → ℕ → Type 0) (kind : HeapKind) where
  -- a heap whose word is not OUT is at home
  pub home_at : (core : Core) (o : IsLawful known kind core) (heap : ℕ) → heap < length core.words → slice_index core.words heap ≢ OUT → get_elem? core.homes heap ≡ maybe.some (maybe.some (home_of core heap))
  home_at core o heap near in_place =
      let t = there known kind core.homes heap (omega (arith, o.one_word_per_heap)) in
      let c = taken_home known kind core o heap t.0 t.1 in_place in
      let at : get_elem? core.homes heap ≡ maybe.some (maybe.some c.0) = t.1 ∙ ap maybe.some c.1 in
      let same : home_of core heap ≡ c.0 = ap at_home (value_at core.homes heap (maybe.some c.0) maybe.none at) in
      at ∙ ap (λ (es : List Entry). maybe.some (maybe.some es)) (sym same)

  take_event : (core : Core) (id heap seen : ℕ) → IsLawful known kind core → MayCome known kind core (take id heap seen) → (b : Bool) → eqb (slice_index core.words heap) seen ≡ b → IsLawful known kind (after core (take id heap seen))
  take_event core id heap seen o may true e =
      let hit : slice_index core.words heap ≡ seen = eqb-true _ _ e in
      rw e (take_lawful known kind core o id heap (state_of core id) (home_of core heap) (live_at core.seats id may.0) may.0 may.3 (home_at core o heap may.1 (λ out. may.2 (sym hit ∙ out))))
  take_event core id heap seen o may false e = rw e (miss_lawful known kind core o id (state_of core id) (live_at core.seats id may.0) may.0)

  push_event : (core : Core) (id word : ℕ) (added content : List Entry) (held : Option Held) → IsLawful known kind core → IsLive core id → (state_of core id).held ≡ held → Shows kind word content → IfHeld held (λ es. SameEntries content (added ++ es)) → AreKnown known added
      → IsLawful known kind (with_home core id word content (pushed (state_of core id) added) held)
  push_event core id word added content None o live is shown same may = absurd same
  push_event core id word added content (Some h) o live is shown same may = push_lawful known kind core o id h.heap word (state_of core id) h.content content added shown (live_at core.seats id live) live is same may

  pop_event : (core : Core) (id word : ℕ) (gone content : List Entry) (held : Option Held) → IsLawful known kind core → IsLive core id → (state_of core id).held ≡ held → Shows kind word content → IfHeld held (λ es. SameEntries es (gone ++ content))
      → IsLawful known kind (with_home core id word content (popped (state_of core id) gone) held)
  pop_event core id word gone content None o live is shown same = absurd same
  pop_event core id word gone content (Some h) o live is shown same = pop_lawful known kind core o id h.heap word (state_of core id) h.content content gone shown (live_at core.seats id live) live is same

  back_event : (core : Core) (id word : ℕ) (held : Option Held) → IsLawful known kind core → IsLive core id → (state_of core id).held ≡ held → IfHeld held (λ es. Shows kind word es)
      → IsLawful known kind (with_home core id word (content_of held) (gave (state_of core id)) held)
  back_event core id word None o live is some = absurd some
  back_event core id word (Some h) o live is some = back_lawful known kind core o id h.heap word (state_of core id) h.content some (live_at core.seats id live) live is

  step_lawful : (core : Core) (event : Event) → IsLawful known kind core → MayCome known kind core event → IsLawful known kind (after core event)
  step_lawful core (load id heap) o may = load_lawful known kind core o id heap (state_of core id) (live_at core.seats id may.0) may.0
  step_lawful core (take id heap seen) o may = take_event core id heap seen o may (eqb (slice_index core.words heap) seen) refl
  step_lawful core (give_pushed id word added content) o may = push_event core id word added content (state_of core id).held o may.0 refl may.1 may.2 may.3
  step_lawful core (give_popped id word gone content) o may = pop_event core id word gone content (state_of core id).held o may.0 refl may.1 may.2
  step_lawful core (give_back id word) o may = back_event core id word (state_of core id).held o may.0 refl may.1
  step_lawful core (split id) o may = split_lawful known kind core o id (state_of core id) (live_at core.seats id (omega arith)) may
  step_lawful core (join id other) o may =
      let both = joined (state_of core id) (state_of core other) in
      join_lawful known kind core o id (state_of core id) other (state_of core other) (live_at core.seats id may.0) may.0 may.3 (set_else core.seats id other both may.2 ∙ live_at core.seats other may.1)

  pub every_run : (heaps : ℕ) (events : List Event) → MayRun known kind (opening heaps) events → IsLawful known kind (after_all (opening heaps) events)
  every_run heaps events may = runs.kept_by_run after (MayCome known kind) (IsLawful known kind) step_lawful (opening heaps) events (opening_lawful known kind heaps) may

  -- the state at the end of a run is lawful
  pub reached_lawful : (heaps : ℕ) (core : Core) → IsReached known kind heaps core → IsLawful known kind core
  reached_lawful heaps core h = runs.kept_where_reached after (MayCome known kind) (IsLawful known kind) step_lawful (opening heaps) core (opening_lawful known kind heaps) h

  pub opening_reached : (heaps : ℕ) → IsReached known kind heaps (opening heaps)
  opening_reached heaps = runs.reached_first after (MayCome known kind) (opening heaps)

  -- and the run continues with each possible event
  pub reached_next : (heaps : ℕ) (core : Core) (event : Event) → IsReached known kind heaps core → MayCome known kind core event → IsReached known kind heaps (after core event)
  reached_next heaps core event h may = runs.reached_next after (MayCome known kind) (opening heaps) core event h may

  -- a take, whether or not it succeeds
  pub reached_take : (heaps : ℕ) (core : Core) (id heap seen : ℕ) → IsReached known kind heaps core → MayCome known kind core (take id heap seen) → (b : Bool) → eqb (slice_index core.words heap) seen ≡ b
      → IsReached known kind heaps (cond b (with_taken core id heap) (with_state core id (forgot (state_of core id))))
  reached_take heaps core id heap seen h may b e =
      subst (λ (b : Bool). IsReached known kind heaps (cond b (with_taken core id heap) (with_state core id (forgot (state_of core id))))) e (reached_next heaps core (take id heap seen) h may)
