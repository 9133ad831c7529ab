use Rattle.std.proofs.Common.{◌⊎◌, ℕ, Contains}
use Rattle.ea_paths.specs.Mended.{AreReady, IsReady, KeepsMended}
use Rattle.ea_search.specs.Links.{link}
use Rattle.ea_paths.proofs.repair.mend_waiting.Given as goal

-- what was passed stays passed, and one more level fits above links, except for waiting nodes
abbrev pub invariant-mending : goal.invariant-mending
invariant-mending g l = record {
  kept : KeepsMended l.network (g.T.TravelTimes.answers l.times) l.table l.initial.links l.initial.waiting l.links l.waiting;
  ready : AreReady l.initial.links → (v : ℕ) → IsReady (link l.links v) ⊎ Contains l.waiting.waiting v;
}
