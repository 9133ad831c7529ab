use Rattle.ea_blocks.proofs.Fed.{finishes, fails, ends_badly}
use Rattle.ea_blocks.proofs.feed.Fed.finish.Goals as goal

pub returns-in-Some : goal.returns-in-Some
returns-in-Some g c = λ start text fed. fails g.R.LineReader.step g.R.LineReader.end g.R.LineReader.view start text _ _ c.args.self.fault c.in-Some.fault c.in-Some.is fed

pub returns-in-Ok : goal.returns-in-Ok
returns-in-Ok g c = λ start text fed. finishes g.R.LineReader.step g.R.LineReader.end g.R.LineReader.view start text _ _ c.args.self.fault c.in-Ok.read c.in_default.is fed c.in-Ok.ensures

pub returns-in-Err : goal.returns-in-Err
returns-in-Err g c = λ start text fed. rw c.fault_in.ensures (ends_badly g.R.LineReader.step g.R.LineReader.end g.R.LineReader.view start text _ _ c.args.self.fault c.in-Err.kind c.in_default.is fed c.in-Err.ensures)
