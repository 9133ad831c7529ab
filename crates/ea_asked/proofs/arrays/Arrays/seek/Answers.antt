use Rattle.std.proofs.Common.{ℕ, List, ap, length, rules, ◌∙◌}
use Rattle.std.proofs.lemmas.List.{length-replicate}
use Rattle.ea_road.specs.declared.TheConstants.{NONE}
use Rattle.ea_asked.proofs.Showing.{listed_none}
use Rattle.ea_asked.proofs.arrays.Arrays.seek.Goals as goal

pub seek-ended-requires : goal.seek-ended-requires
seek-ended-requires g c = record {
  start = record {
    starts = rw c.sources.ensures.sources (λ source among. (c.requires.problem.sources source among, c.requires.problem.departures source among));
    labels = c.requires.table;
    closed = c.clear.ensures;
  };
  are_nodes = c.requires.asked;
  classed = c.requires.problem.classed;
}

pub returns-clause-writes : goal.returns-clause-writes
returns-clause-writes g c = record {
  count = c.seek-ended.ensures.reached.count ∙ ap (λ (xs : List ℕ). length xs) c.requires.table ∙ length-replicate c.args.network.now.nodes NONE;
  listed = c.seek-ended.ensures.reached.listed (listed_none _ _ _ c.requires.table);
  blank = λ walks blank. search rules;
}
