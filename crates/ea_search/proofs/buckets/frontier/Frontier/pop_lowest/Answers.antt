use Rattle.std.proofs.Common.{ℕ, subst}
use Rattle.ea_search.specs.Frontiers.{Frontage, Takes}
use Rattle.ea_search.proofs.buckets.frontier.Frontier.pop_lowest.Goals as goal

pub returns-in-Some : goal.returns-in-Some
returns-in-Some c =
    let P : Frontage → Type 0 = λ f. (label : ℕ → ℕ) → Takes label c.in-Some.entry f c.pop.new.self in
    subst P c.loop-list.invariant.same c.in-Some.ensures
