use Rattle.std.proofs.Common.{◌≡◌, ◌∙◌, ◌<◌, length, get_or, arith, ap}
use Rattle.std.proofs.lemmas.List.{get_or_read}
use Rattle.ea_road.proofs.ArcLists.{found_at, length-beside, no_raw}
use Rattle.ea_road.proofs.arc_list.ArcList.at.Goals as goal

pub index-requires : goal.index-requires
index-requires c =
    let list = c.self.inside in
    let many = length-beside list.classes.items 0 list.raw.items in
    let inside = rw (← c.self.view_is) at c.requires in
    omega (arith, many, inside, list.raw.ok.0)

pub returns : goal.returns
returns c =
    let list = c.self.inside in
    let place = c.args.place in
    let many = length-beside list.classes.items 0 list.raw.items in
    let below = rw (← c.self.view_is) at c.requires in
    let inside : place < length list.raw.items = omega (arith, many, below) in
    let raw = get_or_read list.raw.items place c.index.result.now inside c.index.ensures no_raw in
    let class : c.class_at.result ≡ get_or list.classes.items place 0 = c.class_at.ensures ∙ ap (λ classes. get_or classes place 0) c.deref.ensures.value in
    rw (← c.self.view_is, c.classed_arc.ensures, class, raw) (found_at list.classes.items list.raw.items place inside)
