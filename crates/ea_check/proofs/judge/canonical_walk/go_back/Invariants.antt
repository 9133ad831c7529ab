use Rattle.std.proofs.Common.{◌≡◌, ◌<◌, ◌≤◌, ℕ, take, length, get_or}
use Rattle.std.specs.Prelude.{◌↔◌}
use Rattle.ea_road.specs.Roads.{IsNode}
use Rattle.ea_search.specs.Links.{link, linked_walk, walk_along}
use Rattle.ea_search.specs.declared.link.TheConstants.{NO_LEVEL}
use Rattle.ea_check.specs.Paths.{IsPassed}
use Rattle.ea_check.proofs.judge.canonical_walk.go_back.Given as goal

-- The rest of the walk is the arcs of the links from here exactly if the whole is those from the node.
abbrev pub invariant-back : goal.invariant-back
invariant-back l = record {
  is_node : IsNode (length l.links) l.at;
  level : (link l.links l.at).level ≡ l.left;
  low : l.left < NO_LEVEL;
  left : l.left ≤ length l.arcs;
  same : (l.arcs ≡ linked_walk l.links l.node) ↔ (take {A = ℕ} l.left l.arcs ≡ walk_along l.links l.left l.at);
  passed : IsPassed l.links l.arcs l.fn.nodes l.known;
  places : length l.arcs < length l.nodes;
  before : (place : ℕ) → place ≤ l.left → get_or l.nodes place 0 ≡ get_or l.fn.nodes place 0;
  above : (place : ℕ) → l.left < place → place ≤ length l.arcs → take {A = ℕ} l.left l.arcs ≡ walk_along l.links l.left l.at → take {A = ℕ} place l.arcs ≡ walk_along l.links place (get_or l.nodes place 0);
}

abbrev pub decreases-back : goal.decreases-back
decreases-back l = l.left
