use Rattle.std.proofs.Common.{◌≡◌, ◌<◌, ◌≤◌, ◌++◌, length, reverse}
use Rattle.ea_search.specs.declared.link.TheConstants.{NO_LEVEL}
use Rattle.ea_search.specs.Links.{link, linked_walk}
use Rattle.ea_report.specs.Walks.{arcs_text}
use Rattle.ea_report.proofs.lines.push_arcs_back.Given as goal

-- what was written, with the rest of the walk from here, is all of it
abbrev pub invariant-back : goal.invariant-back
invariant-back l = record {
  above : 0 < l.at;
  within : l.at ≤ length l.links;
  linked : (link l.links l.at).level < NO_LEVEL;
  written : l.text.items ++ arcs_text (reverse (linked_walk l.links l.at)) ≡ l.fn.text.items ++ arcs_text (reverse (linked_walk l.links l.node));
}

abbrev pub decreases-back : goal.decreases-back
decreases-back l = (link l.links l.at).level
