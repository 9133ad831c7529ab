use Rattle.std.proofs.Common.{◌≡◌, true, length, refl, sym, ap, ◌∙◌, inr, arith}
use Rattle.std.proofs.lemmas.List.{with_items_is}
use Rattle.ea_search.specs.Worklist.{Worklist}
use Rattle.ea_paths.proofs.Answered.{is_answer, stored}
use Rattle.ea_search.proofs.Listings.{room_again}
use Rattle.ea_paths.proofs.Guided.{fits_too}
use Rattle.ea_paths.proofs.search.Search.find_all_walks.Goals as goal

pub find-lists-requires-clause-begins : goal.find-lists-requires-clause-begins
find-lists-requires-clause-begins g c =
    let arrays = c.into_arrays-table.ensures in
    record {
      none = rw (c.new-noted.ensures.labels, arrays.labels, c.requires.can.nodes) refl;
      unmet = λ v u k had. (rw c.new-noted.ensures.notes at had).1;
      emptied = arrays.lists;
      room = ap (λ (w : Worklist). w.nodes) arrays.todo ∙ c.requires.can.nodes;
    }

pub new-requires : goal.new-requires
new-requires g c =
    let finished = c.find-lists.ensures.ended.finished in
    let links = c.link_noted.ensures.are_links in
    let many = room_again _ _ _ true _ c.into_parts-waiting.ensures.links (sym finished.room) (c.find-lists.ensures.walks ∙ ap (λ (w : Worklist). w.walks) c.into_arrays-table.ensures.todo ∙ c.requires.can.walks) in
    let filled : length c.link_noted.new.links ≡ c.into_parts-waiting.result.1.len = omega (arith, many, links.places, c.into_parts-waiting.result.1.ok.0) in
    rw (with_items_is c.into_parts-waiting.result.1 c.link_noted.new.links filled, c.nodes.ensures.nodes, c.target.ensures.target) (stored c.args.network.now _ _ c.args.query.now c.nodes.ensures.network c.requires.can.problem (g.met.T.TravelTimes.fifo c.args.times.now) c.find-lists.new.table.labels.items finished.places finished.fixed c.link_noted.new.links links)

pub invariant_of-result : goal.invariant_of-result
invariant_of-result g c =
    let finished = c.find-lists.ensures.ended.finished in
    let links = c.link_noted.ensures.are_links in
    let many = room_again _ _ _ true _ c.into_parts-waiting.ensures.links (sym finished.room) (c.find-lists.ensures.walks ∙ ap (λ (w : Worklist). w.walks) c.into_arrays-table.ensures.todo ∙ c.requires.can.walks) in
    let filled : length c.link_noted.new.links ≡ c.into_parts-waiting.result.1.len = omega (arith, many, links.places, c.into_parts-waiting.result.1.ok.0) in
    let nodes = c.link_noted.ensures.room in
    rw (c.new.ensures, with_items_is c.into_parts-waiting.result.1 c.link_noted.new.links filled) (record {
      can = record {
        nobody = c.link_noted.ensures.nobody;
        labels = finished.places ∙ sym nodes;
        links = links.places ∙ sym nodes;
        many = c.find-lists.ensures.ended.emptied.0;
        none = c.find-lists.ensures.ended.emptied.1;
        reached = λ v has. c.add_all.ensures v;
        linked = λ v. inr (c.add_all.ensures v);
      };
      guide_fits = fits_too _ _ _ (c.requires.can.nodes ∙ sym nodes) c.into_arrays-table.ensures.guide;
    })

pub returns : goal.returns
returns g c =
    let finished = c.find-lists.ensures.ended.finished in
    let links = c.link_noted.ensures.are_links in
    let many = room_again _ _ _ true _ c.into_parts-waiting.ensures.links (sym finished.room) (c.find-lists.ensures.walks ∙ ap (λ (w : Worklist). w.walks) c.into_arrays-table.ensures.todo ∙ c.requires.can.walks) in
    let filled : length c.link_noted.new.links ≡ c.into_parts-waiting.result.1.len = omega (arith, many, links.places, c.into_parts-waiting.result.1.ok.0) in
    rw (c.new.ensures, with_items_is c.into_parts-waiting.result.1 c.link_noted.new.links filled, c.nodes.ensures.nodes, c.target.ensures.target) (record { answer = (is_answer c.args.network.now _ _ c.args.query.now c.nodes.ensures.network c.requires.can.problem (g.met.T.TravelTimes.fifo c.args.times.now) c.find-lists.new.table.labels.items finished.places finished.fixed c.link_noted.new.links links); room = (c.link_noted.ensures.room ∙ sym c.requires.can.nodes, refl) })
