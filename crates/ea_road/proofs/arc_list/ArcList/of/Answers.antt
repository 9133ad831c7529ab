use Rattle.ea_road.proofs.ArcLists.{all_of}
use Rattle.ea_road.proofs.arc_list.ArcList.of.Goals as goal

pub returns : goal.returns
returns c = rw c.in_ok-raw.ensures (all_of c.in_ok-classes.classes.items c.args.arcs.now c.in_ok-classes.ensures)
