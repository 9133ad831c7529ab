use Rattle.std.proofs.Common.{◌≡◌, ◌<◌, ◌≤◌, ◌++◌, length, reverse}
use Rattle.ea_search.specs.declared.link.TheConstants.{NO_LEVEL}
use Rattle.ea_search.specs.Links.{link, linked_walk, walk_along}
use Rattle.ea_paths.proofs.answer.Answer.walk.Given as goal

-- following links from here gives the rest of the walk
abbrev pub invariant-back : goal.invariant-back
invariant-back l = record {
  above : 0 < l.at;
  within : l.at ≤ length l.self-inside.links.items;
  linked : (link l.self-inside.links.items l.at).level < NO_LEVEL;
  followed : walk_along l.self-inside.links.items (link l.self-inside.links.items l.at).level l.at ++ reverse l.walk.items ≡ linked_walk l.self-inside.links.items l.node;
}

abbrev pub decreases-back : goal.decreases-back
decreases-back l = (link l.self-inside.links.items l.at).level
