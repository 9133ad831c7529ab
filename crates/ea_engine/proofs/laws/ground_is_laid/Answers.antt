use Rattle.std.proofs.Common.{◌∙◌, ap}
use Rattle.ea_engine.proofs.GroundLemmas.{posed_of, classed_of}
use Rattle.ea_engine.proofs.laws.ground_is_laid.Goals as goal

pub returns : goal.returns
returns g c = record {
  posed = posed_of _ _ _ _ _ c.requires.named.named _ c.keeps_limits.ensures c.requires.named.is_problem;
  named = c.requires.named.named;
  classed = classed_of _ _ _ _ _ c.requires.named.named _ c.requires.named.is_problem;
  fifo = c.times_are_fifo.ensures;
  places_are = c.requires.places ∙ ap (λ n. n.nodes) c.requires.named.named.network_is;
}
