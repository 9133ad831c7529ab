use Rattle.std.proofs.Common.{arith}
use Rattle.ea_road.proofs.ArcLists.{length-beside}
use Rattle.ea_road.proofs.arc_list.ArcList.len.Goals as goal

pub returns : goal.returns
returns c =
    let list = c.self.inside in
    let many = length-beside list.classes.items 0 list.raw.items in
    rw (← c.self.view_is) (omega (arith, many, c.len.ensures, list.raw.ok.0))
