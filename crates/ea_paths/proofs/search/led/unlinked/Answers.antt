use Rattle.std.proofs.Common.{sym, ap, ◌∙◌, inl}
use Rattle.ea_paths.proofs.Linkings.{link-none}
use Rattle.ea_search.specs.Worklist.{Worklist}
use Rattle.ea_search.proofs.Listings.{room_again}
use Rattle.ea_paths.proofs.Guided.{fits_too}
use Rattle.ea_paths.proofs.search.led.unlinked.Goals as goal

pub invariant_of-result : goal.invariant_of-result
invariant_of-result c =
    let nodes = c.into_parts-waiting.ensures.nodes ∙ ap (λ (w : Worklist). w.nodes) c.requires.todo in
    rw c.new.ensures (record {
      can = record {
        nobody = c.into_parts-waiting.ensures.waiting ∙ ap (λ (w : Worklist). w.waiting) c.requires.todo;
        labels = c.requires.labels ∙ sym nodes;
        links = room_again _ _ _ _ _ c.into_parts-waiting.ensures.links c.into_parts-waiting.ensures.nodes (ap (λ (w : Worklist). w.walks) c.requires.todo);
        many = c.requires.lists.0;
        none = c.requires.lists.1;
        reached = c.requires.listed;
        linked = rw c.into_parts-waiting.ensures.links (λ v. inl (link-none _ v));
      };
      guide_fits = fits_too _ _ _ (sym nodes) c.requires.guide;
    })
