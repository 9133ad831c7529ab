use Rattle.ea_batch.specs.Drafts.{ArePiled}
use Rattle.ea_batch.proofs.lane.Desk.gather.Given as goal

abbrev pub invariant-loop-taker : goal.invariant-loop-taker
invariant-loop-taker g l = ArePiled l.job l.self.1.1.0.items
