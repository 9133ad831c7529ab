-- Runs of a machine, and their invariants.
use Rattle.std.proofs.Common.{◌≡◌, List, [], ◌∷◌, ◌++◌, sym, refl, ap, ◌∙◌, subst}
use Rattle.ea_machine.specs.Runs.{after_all, MayRun, IsReached}

module _ {Core Event : Type 0} (after : Core → Event → Core) where
  -- one more event at the end of a run
  after_one_more : (core : Core) (events : List Event) (event : Event) → after_all after core (events ++ event ∷ []) ≡ after (after_all after core events) event
  after_one_more core [] event = refl
  after_one_more core (e ∷ events) event = after_one_more (after core e) events event

  module _ (may_come : Core → Event → Type 0) where
    may_run_on : (core : Core) (events : List Event) (event : Event) → MayRun after may_come core events → may_come (after_all after core events) event → MayRun after may_come core (events ++ event ∷ [])
    may_run_on core [] event may next = (next, tt)
    may_run_on core (e ∷ events) event may next = (may.0, may_run_on (after core e) events event may.1 next)

    pub reached_first : (first : Core) → IsReached after may_come first first
    reached_first first = record { events = []; may_run = tt; leads = refl }

    -- a run continues with each possible event
    pub reached_next : (first core : Core) (event : Event) → IsReached after may_come first core → may_come core event → IsReached after may_come first (after core event)
    reached_next first core event h may = record {
      events = h.events ++ event ∷ [];
      may_run = may_run_on first h.events event h.may_run (subst (λ (c : Core). may_come c event) (sym h.leads) may);
      leads = after_one_more first h.events event ∙ ap (λ (c : Core). after c event) h.leads;
    }

    module _ (P : Core → Type 0) (keeps : (core : Core) (event : Event) → P core → may_come core event → P (after core event)) where
      -- an invariant of each event is one of each run
      pub kept_by_run : (core : Core) (events : List Event) → P core → MayRun after may_come core events → P (after_all after core events)
      kept_by_run core [] h may = h
      kept_by_run core (event ∷ events) h may = kept_by_run (after core event) events (keeps core event h may.0) may.1

      pub kept_where_reached : (first core : Core) → P first → IsReached after may_come first core → P core
      kept_where_reached first core h run = subst P run.leads (kept_by_run first run.events h run.may_run)
