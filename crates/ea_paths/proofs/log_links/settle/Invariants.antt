use Rattle.std.proofs.Common.{◌≡◌, ◌≤◌, ℕ, length}
use Rattle.ea_paths.specs.Mended.{IsReady}
use Rattle.ea_search.specs.Links.{link}
use Rattle.ea_paths.proofs.Numbered.{AreSettledTo}
use Rattle.ea_paths.proofs.log_links.settle.Given as goal

-- the links so far are settled, and one more level fits above each
abbrev pub invariant-loop-place : goal.invariant-loop-place
invariant-loop-place l = record {
  places : length l.links ≡ length l.initial.links;
  ready : (v : ℕ) → v ≤ l.place → IsReady (link l.initial.links v);
  settled : AreSettledTo l.network l.initial.links l.links l.place;
}
