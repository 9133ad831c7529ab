use Rattle.std.proofs.Common.{◌≡◌, sym, ap, ◌∙◌, Bool, Option, None, ℕ}
use Rattle.ea_search.specs.Listings.{Searched}
use Rattle.ea_paths.specs.declared.search.Arrays.{Arrays}
use Rattle.ea_paths.specs.Searches.{AreReset}
use Rattle.ea_paths.proofs.Labelled.{labelled_by, labelled_reset}
use Rattle.ea_paths.proofs.search.Search.find_by_bounds.Goals as goal

-- arrays stay reset without those for led searches
without : (nodes count : ℕ) (walks also : Bool) (arrays : Arrays) (guide : Option ℕ) → count ≡ nodes → also ≡ walks → guide ≡ None → AreReset nodes walks arrays → AreReset count also (record arrays { guide = guide })
without nodes count walks also arrays guide same both none reset = record {
  labels = rw same reset.labels;
  todo = rw (same, both) reset.todo;
  lists = reset.lists;
  listed = reset.listed;
  notes = reset.notes;
  guide = rw none tt;
}

pub unlinked-requires : goal.unlinked-requires
unlinked-requires g c =
    let nodes = c.nodes-nodes.ensures.nodes ∙ sym c.requires.nodes in
    let walks = ap (λ (s : Searched). s.walks) c.self.view_is in
    labelled_reset _ _ _ (without _ _ _ _ _ _ nodes walks c.take.ensures.after c.into_arrays-arrays.ensures)

pub unlinked-requires-then-not-is_found : goal.unlinked-requires-then-not-is_found
unlinked-requires-then-not-is_found g c =
    let nodes = c.nodes-nodes.ensures.nodes in
    let walks = ap (λ (s : Searched). s.walks) c.self.view_is in
    rw nodes (labelled_by _ _ _ _ (without _ _ _ _ _ _ (sym c.requires.nodes) walks c.take.ensures.after c.into_arrays-arrays.ensures) c.lead_arrays-arrays.ensures.labels)

pub answered-requires-clause-labelled : goal.answered-requires-clause-labelled
answered-requires-clause-labelled g c =
    let walks = ap (λ (s : Searched). s.walks) c.self.view_is in
    labelled_by _ _ _ _ (without _ _ _ _ _ _ (sym c.requires.nodes) walks c.take.ensures.after c.into_arrays-arrays.ensures) c.lead_arrays-arrays.ensures.labels

pub returns : goal.returns
returns g c = c.answered.ensures c.args.self c.requires.nodes (sym (ap (λ (s : Searched). s.walks) c.self.view_is))
