-- Runs of a machine: a sequence of events, each possible in the state before it.
use Rattle.std.specs.Prelude.{◌≡◌, List, [], ◌∷◌}

module _ {Core Event : Type 0} (after : Core → Event → Core) where
  abbrev pub after_all : Core → List Event → Core
  after_all core [] = core
  after_all core (event ∷ events) = after_all (after core event) events

  module _ (may_come : Core → Event → Type 0) where
    abbrev pub MayRun : Core → List Event → Type 0
    MayRun core [] = Unit {0}
    MayRun core (event ∷ events) = may_come core event × MayRun (after core event) events

    -- Some run leads from the first state to this one.
    pub record IsReached (first core : Core) : Type 0 where
      pub events : List Event
      pub may_run : MayRun first events
      pub leads : after_all first events ≡ core
