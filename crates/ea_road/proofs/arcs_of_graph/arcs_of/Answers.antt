use Rattle.std.proofs.Common.{length, subst}
use Rattle.ea_road.specs.Assigned.{AreAssigned, assigned_of}
use Rattle.ea_road.proofs.arcs_of_graph.arcs_of.Goals as goal

pub arcs_by-requires : goal.arcs_by-requires
arcs_by-requires c =
    let known = subst (λ table. AreAssigned (length c.args.graph.now.arcs.items) (assigned_of table)) c.in-Some.is c.requires in
    rw (c.deref.ensures.value, c.deref-in-Some.ensures.value) known
