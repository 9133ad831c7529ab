use Rattle.std.proofs.Common.{◌≡◌, ℕ, Contains, take}
use Rattle.ea_paths.specs.Replayed.{AreWoken}
use Rattle.ea_paths.proofs.ties.Ties.rise.Given as goal

-- the tails of the ties so far wait
abbrev pub invariant-loop-tie : goal.invariant-loop-tie
invariant-loop-tie l = record {
  room : l.waiting.nodes ≡ l.initial.waiting.nodes;
  kept : (v : ℕ) → Contains l.initial.waiting.waiting v → Contains l.waiting.waiting v;
  woken : AreWoken (take l.tie-index l.tie-items) l.node l.waiting.waiting;
}
