-- Arrays that were reset, and then got labels.
use Rattle.std.proofs.Common.{ℕ, Bool, List, length, ap, ◌∙◌}
use Rattle.std.proofs.lemmas.List.{length-replicate}
use Rattle.ea_road.specs.declared.TheConstants.{NONE}
use Rattle.ea_search.specs.Underway.{bound_of}
use Rattle.ea_search.proofs.Entries.{bound_of-none}
use Rattle.ea_paths.specs.declared.search.Arrays.{Arrays}
use Rattle.ea_paths.specs.Searches.{AreLabelled, AreReset, GetLabels}

-- without a label, none has to be listed
pub labelled_reset : (nodes : ℕ) (walks : Bool) (arrays : Arrays) → AreReset nodes walks arrays → AreLabelled nodes walks arrays
labelled_reset nodes walks arrays reset = record {
  labels = ap (λ (xs : List ℕ). length xs) reset.labels ∙ length-replicate nodes NONE;
  todo = reset.todo;
  lists = reset.lists;
  listed = λ node has. absurd (has (ap (λ (xs : List ℕ). bound_of xs node) reset.labels ∙ bound_of-none nodes node));
  guide = reset.guide;
}

-- labels that a search found
pub labelled_by : (nodes : ℕ) (walks : Bool) (arrays arrays' : Arrays) → AreReset nodes walks arrays → GetLabels nodes arrays arrays' → AreLabelled nodes walks arrays'
labelled_by nodes walks arrays arrays' reset gets = record {
  labels = gets.labels;
  todo = gets.others.0 ∙ reset.todo;
  lists = rw gets.others.1 reset.lists;
  listed = gets.listed;
  guide = gets.guide;
}
