use Rattle.std.proofs.Common.{◌+◌, ◌-◌, ℕ, List, length}
use Rattle.ea_search.specs.declared.link.Link.{Link}
use Rattle.ea_check.specs.Paths.{IsPassed}
use Rattle.ea_check.proofs.judge.canonical_walk.make_places.Given as goal

abbrev pub invariant-loop-nodes : goal.invariant-loop-nodes
invariant-loop-nodes l = (links : List Link) (arcs : List ℕ) (known : ℕ) → IsPassed links arcs l.fn.nodes.items known → IsPassed links arcs l.nodes.items known

abbrev pub decreases-loop-nodes : goal.decreases-loop-nodes
decreases-loop-nodes l = l.len + 1 - length l.nodes.items
