use Rattle.std.proofs.Common.{◌≡◌, ◌∙◌, ℕ, ◌+◌, List, [], ◌∷◌, length, map, refl, ap, sym}
use Rattle.std.proofs.lemmas.List.{length-map, with_items_is}
use Rattle.std.specs.Prelude.{slice_index}
use Rattle.ea_base.specs.declared.graph.RawArc.{RawArc}
use Rattle.ea_road.specs.declared.arc.Arc.{Arc}
use Rattle.ea_road.specs.ArcLists.{arcs_beside}
use Rattle.ea_road.specs.Turned.{turned_arc, turned_raw}
use Rattle.ea_road.proofs.arc_list.ArcList.turned.Goals as goal

-- classes stay beside their arcs
beside : (classes : List ℕ) (place : ℕ) (raw : List RawArc) → arcs_beside classes place (map turned_raw raw) ≡ map turned_arc (arcs_beside classes place raw)
beside classes place [] = refl
beside classes place (arc ∷ raw) = ap (λ (rest : List Arc). turned_arc (record { tail = arc.tail; head = arc.head; weight = arc.weight; class = slice_index classes place }) ∷ rest) (beside classes (place + 1) raw)

pub returns : goal.returns
returns c =
    let inside = c.self.inside in
    let arcs : c.turn.new.arcs ≡ map turned_raw inside.raw.items = c.turn.ensures ∙ ap (map turned_raw) c.deref_mut.ensures.value in
    let filled : length c.turn.new.arcs ≡ inside.raw.len = ap (λ (xs : List RawArc). length xs) arcs ∙ length-map inside.raw.items turned_raw ∙ sym inside.raw.ok.0 in
    ap (λ (raw : List RawArc). arcs_beside inside.classes.items 0 raw) (with_items_is inside.raw c.turn.new.arcs filled ∙ arcs) ∙ beside inside.classes.items 0 inside.raw.items ∙ ap (map turned_arc) c.self.view_is
