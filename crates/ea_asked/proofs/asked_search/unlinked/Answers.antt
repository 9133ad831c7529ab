use Rattle.std.proofs.Common.{inl, ◌∙◌}
use Rattle.std.proofs.lemmas.List.{length-replicate}
use Rattle.ea_search.specs.Links.{no_link}
use Rattle.ea_paths.proofs.Linkings.{link-none}
use Rattle.ea_asked.proofs.asked_search.unlinked.Goals as goal

pub invariant_of-result : goal.invariant_of-result
invariant_of-result c = rw c.new.ensures (record {
  places = c.requires.answer.count;
  labels = rw c.deref.ensures.value at c.show.ensures.shows.places ∙ c.requires.answer.count;
  links = rw c.requires.answer.blank.links (length-replicate 0 no_link);
  waits = c.requires.answer.blank.waits;
  nobody = c.requires.answer.blank.nobody;
  reached = c.requires.listed;
  linked = rw c.requires.answer.blank.links (λ v. inl (link-none 0 v));
  shown = c.show.ensures.listed;
})
