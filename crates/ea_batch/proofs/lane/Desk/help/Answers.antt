use Rattle.std.specs.Prelude.{is_ok}
use Rattle.ea_batch.proofs.Piling.{piled_more}
use Rattle.ea_batch.proofs.lane.Desk.help.Goals as goal
use Rattle.ea_batch.proofs.lane.Desk.help.Goals.{in-Some+in-Err-1, in-Some+in-Ok-1, in-None}

pub returns-clause-pile : goal.returns-clause-pile
returns-clause-pile g c = elim c.match-take.branch [
  | in-Some+in-Err-1 w ↦ rw w.self-is (piled_more c.args.job c.args.self.now.pile.items w.push.new.self.items w.make_drafts-made.result (is_ok w.push.result) c.requires.pile w.make_drafts-made.ensures.drafts w.push.ensures.items)
  | in-Some+in-Ok-1 w ↦ rw w.self-is (piled_more c.args.job c.args.self.now.pile.items w.push.new.self.items w.make_drafts-made.result (is_ok w.push.result) c.requires.pile w.make_drafts-made.ensures.drafts w.push.ensures.items)
  | in-None w ↦ rw w.self-is c.requires.pile
]

pub returns-then-self-lt-MOST_IDLE-clause-pile : goal.returns-then-self-lt-MOST_IDLE-clause-pile
returns-then-self-lt-MOST_IDLE-clause-pile g c = elim c.match-take.branch [
  | in-Some+in-Err-1 w ↦ rw w.self-is (piled_more c.args.job c.args.self.now.pile.items w.push.new.self.items w.make_drafts-made.result (is_ok w.push.result) c.requires.pile w.make_drafts-made.ensures.drafts w.push.ensures.items)
  | in-Some+in-Ok-1 w ↦ rw w.self-is (piled_more c.args.job c.args.self.now.pile.items w.push.new.self.items w.make_drafts-made.result (is_ok w.push.result) c.requires.pile w.make_drafts-made.ensures.drafts w.push.ensures.items)
  | in-None w ↦ rw w.self-is c.requires.pile
]
