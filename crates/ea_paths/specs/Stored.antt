-- How an answer is stored: a label for each node and, if it has walks, a link for each node, which leads back
-- to a source.
use Rattle.std.specs.Prelude.{◌≡◌, ◌≢◌, ℕ, ◌+◌, ◌<◌, true, List, length}
use Rattle.ea_road.specs.declared.TheConstants.{NONE}
use Rattle.ea_road.specs.Roads.{IsNode}
use Rattle.ea_road.specs.Queries.{IsAskedBy}
use Rattle.ea_road.specs.Labels.{label_of}
use Rattle.ea_search.specs.declared.link.Link.{Link}
use Rattle.ea_search.specs.declared.link.TheConstants.{NO_LEVEL}
use Rattle.ea_search.specs.Links.{link}
use Rattle.ea_search.specs.Answers.{Answered}

-- Each link above level 0 leads to a node one level below.
abbrev pub AreFollowable : List Link → Type 0
AreFollowable links = (node : ℕ) → 0 < (link links node).level → (link links node).level < NO_LEVEL → IsNode (length links) (link links node).from × ((link links (link links node).from).level + 1 ≡ (link links node).level)

pub record IsStoredAnswer (answer : Answered) : Type 0 where
  pub labels : length answer.labels ≡ answer.nodes
  pub links : answer.walks ≡ true → length answer.links ≡ answer.nodes
  pub followable : answer.walks ≡ true → AreFollowable answer.links
  pub linked : answer.walks ≡ true → (node : ℕ) → IsNode answer.nodes node → IsAskedBy answer.target node → label_of answer.labels node ≢ NONE → (link answer.links node).level < NO_LEVEL
