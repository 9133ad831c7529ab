use Rattle.ea_batch.specs.Drafts.{ArePiled}
use Rattle.ea_batch.proofs.lane.collect.Given as goal

abbrev pub invariant-loop : goal.invariant-loop
invariant-loop g l = ArePiled l.job l.pile.items
