use Rattle.std.proofs.Common.{ap, sym, ◌∙◌, List, ℕ, length}
use Rattle.ea_hierarchy.proofs.Ordering.{length-ranks_in}
use Rattle.ea_hierarchy.proofs.ranks.Ranks.nodes.Goals as goal

pub returns : goal.returns
returns c = sym (length-ranks_in c.self.inside.nodes c.self.inside.list c.self.invariant) ∙ ap (λ (xs : List ℕ). length xs) c.self.view_is
