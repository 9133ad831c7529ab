use Rattle.std.proofs.Common.{inr, rules}
use Rattle.std.proofs.lemmas.List.{length-replicate}
use Rattle.ea_search.specs.Links.{no_link}
use Rattle.ea_asked.proofs.asked_search.with_labels.Goals as goal

pub invariant_of-result : goal.invariant_of-result
invariant_of-result c = rw (c.new.ensures, c.nodes-nodes.ensures, c.into_arrays-labels.ensures.labels) (record {
  places = c.requires.count;
  labels = search rules;
  links = rw c.requires.blank.links (length-replicate 0 no_link);
  waits = c.requires.blank.waits;
  nobody = c.requires.blank.nobody;
  reached = λ v has. c.add_all.ensures v;
  linked = λ v. inr (c.add_all.ensures v);
  shown = λ v has. c.add_all-2.ensures v;
})
