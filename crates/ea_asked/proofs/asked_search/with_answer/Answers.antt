use Rattle.std.proofs.Common.{inr, rules}
use Rattle.ea_asked.proofs.asked_search.with_answer.Goals as goal

pub invariant_of-result : goal.invariant_of-result
invariant_of-result c = record {
  places = c.requires.can.count;
  labels = search rules;
  links = search rules;
  waits = c.requires.can.blank.waits;
  nobody = c.requires.can.blank.nobody;
  reached = λ v has. c.add_all.ensures v;
  linked = λ v. inr (c.add_all.ensures v);
  shown = λ v has. c.add_all-2.ensures v;
}
