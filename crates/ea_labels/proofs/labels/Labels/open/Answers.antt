use Rattle.std.proofs.Common.{rules, refl, ◌∙◌}
use Rattle.ea_labels.proofs.Moves.{opened}
use Rattle.ea_labels.proofs.labels.Labels.open.Goals as goal

pub of_words-requires : goal.of_words-requires
of_words-requires g c = opened g.K.Known.is_known c.args.nodes c.as_slice.result.now _ (c.as_slice.ensures.value ∙ c.in_ok-kept.ensures.items_if_clones_equal (λ y e. search rules)) refl
