use Rattle.std.proofs.Common.{refl}
use Rattle.ea_hierarchy.proofs.prepared.Prepared.like.Goals as goal

pub returns-then-not-are_joined-clause-none : goal.returns-then-not-are_joined-clause-none
returns-then-not-are_joined-clause-none g c = λ over.
    let here = rw (← c.self.view_is) at over in
    c.if-not-are_joined.ensures.none refl here.joined
