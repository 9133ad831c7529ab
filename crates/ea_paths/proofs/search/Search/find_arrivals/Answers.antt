use Rattle.std.proofs.Common.{rules, false, refl, sym, ap, ◌∙◌, inl}
use Rattle.ea_paths.proofs.Answered.{has_arrivals}
use Rattle.ea_search.specs.Listings.{Searched}
use Rattle.ea_search.specs.Worklist.{Worklist}
use Rattle.ea_paths.proofs.Linkings.{link-none}
use Rattle.ea_search.proofs.Listings.{room_again}
use Rattle.ea_paths.proofs.Guided.{fits_too}
use Rattle.ea_paths.proofs.search.Search.find_arrivals.Goals as goal

pub invariant_of-result : goal.invariant_of-result
invariant_of-result g c =
    let finished = c.find-lists.ensures.ended.finished in
    rw c.new.ensures (record {
      can = record {
        nobody = c.into_parts-waiting.ensures.waiting ∙ finished.nobody;
        labels = finished.places ∙ sym (c.into_parts-waiting.ensures.nodes ∙ finished.room);
        links = room_again _ _ _ _ _ c.into_parts-waiting.ensures.links c.into_parts-waiting.ensures.nodes (c.find-lists.ensures.walks ∙ ap (λ (w : Worklist). w.walks) c.into_arrays-table.ensures.todo ∙ sym (ap (λ (s : Searched). s.walks) c.self.view_is));
        many = c.find-lists.ensures.ended.emptied.0;
        none = c.find-lists.ensures.ended.emptied.1;
        reached = c.find-lists.ensures.ended.listed;
        linked = rw c.into_parts-waiting.ensures.links (λ v. inl (link-none _ v));
      };
      guide_fits = fits_too _ _ _ (c.requires.nodes ∙ sym (c.into_parts-waiting.ensures.nodes ∙ finished.room)) c.into_arrays-table.ensures.guide;
    })

pub returns : goal.returns
returns g c =
    let finished = c.find-lists.ensures.ended.finished in
    rw (c.new.ensures, c.nodes.ensures.nodes, c.target.ensures.target) (record { arrivals = (has_arrivals c.args.network.now _ _ c.args.query.now c.nodes.ensures.network c.requires.problem (g.met.T.TravelTimes.fifo c.args.times.now) c.find-lists.new.table.labels.items finished.places finished.fixed _ false); none = refl; room = search rules })

pub find-lists-requires-clause-begins : goal.find-lists-requires-clause-begins
find-lists-requires-clause-begins g c =
    let arrays = c.into_arrays-table.ensures in
    record {
      none = rw (arrays.labels, c.requires.nodes) refl;
      unmet = λ v u k had. had;
      emptied = arrays.lists;
      room = ap (λ (w : Worklist). w.nodes) arrays.todo ∙ c.requires.nodes;
    }
