use Rattle.std.proofs.Common.{◌≡◌, ◌∙◌, ℕ, ◌+◌, List, ◌∷◌, ◌++◌, length, ap, arith, sym, subst}
use Rattle.std.proofs.lemmas.Result.{err_from_is_err_and}
use Rattle.ea_blocks.specs.declared.blocks.Blocks.{Blocks}
use Rattle.ea_blocks.specs.Taking.{StopsTaking}
use Rattle.ea_check.specs.declared.form.stop.Stop.{Stop}
use Rattle.ea_check.specs.Reads.{NodeWrong, ReadsNodes}
use Rattle.ea_check.specs.Runs.{saids}
use Rattle.ea_check.specs.Stops.{IsStop}
use Rattle.ea_check.specs.Streams.{FindsLine, ahead, line_of}
use Rattle.ea_check.proofs.Ahead.{Passes, few_ahead, found_number, none_ahead, passes_ahead, reads_ahead, saids_length}
use Rattle.ea_check.proofs.Stopping.{lines_here}
use Rattle.ea_check.proofs.Streaming.{leads_on}
use Rattle.ea_check.proofs.form.problem.read_ahead.Goals as goal

pub returns-then-node-last-clause-reads : goal.returns-then-node-last-clause-reads
returns-then-node-last-clause-reads g c =
    record { sound = c.requires.sound; read = none_ahead c.args.node c.args.reported.now _ c.args.lines.now c.requires.sound.ready.room }

pub returns-in_default-clause-reads : goal.returns-in_default-clause-reads
returns-in_default-clause-reads g c =
    record { sound = c.requires.sound; read = none_ahead c.args.node c.args.reported.now _ c.args.lines.now c.requires.sound.ready.room }

pub returns-in_default-line-clause-reads : goal.returns-in_default-line-clause-reads
returns-in_default-line-clause-reads g c =
    record { sound = c.requires.sound; read = none_ahead c.args.node c.args.reported.now _ c.args.lines.now c.requires.sound.ready.room }

pub returns-in_default-time_said-clause-reads : goal.returns-in_default-time_said-clause-reads
returns-in_default-time_said-clause-reads g c =
    record { sound = c.requires.sound; read = none_ahead c.args.node c.args.reported.now _ c.args.lines.now c.requires.sound.ready.room }

pub returns-in_err-keep_times-clause-reads : goal.returns-in_err-keep_times-clause-reads
returns-in_err-keep_times-clause-reads g c =
    let lines = c.args.lines.now in
    let p = err_from_is_err_and c.from_residual.result c.from_residual.ensures.1 in
    rw (p.1, p.2) (record { sound = tt; read = subst (λ (s : Stop). IsStop (NodeWrong c.args.node) (g.R.Device.seen c.args.device.now) lines (g.R.Device.seen c.args.device.now) lines s) (sym c.in_err-keep_times.ensures) (lines_here (λ text next. Unit {0}) _ lines c.requires.sound.ready.room (λ text. tt)) })

pub returns-in_err-find-clause-reads : goal.returns-in_err-find-clause-reads
returns-in_err-find-clause-reads g c =
    let p = err_from_is_err_and c.from_residual-in_err-find.result c.from_residual-in_err-find.ensures.1 in
    let passed = c.pass.ensures.passed in
    rw (p.1, p.2) (record { sound = tt; read = subst (λ (b : Blocks). StopsTaking (g.R.Device.seen c.args.device.now) b (g.R.Device.seen c.find.new.device) c.in_err-find.field-0.0) passed.blocks c.in_err-find.ensures.fault })

pub returns-clause-reads : goal.returns-clause-reads
returns-clause-reads g c =
    let before = c.args.lines.now in
    let mid = c.pass.new.self in
    let after = c.find.new.self in
    let node = c.args.node in
    let times = c.look_ahead.new.ahead.times.items in
    let is = c.in-Some.ensures in
    let passed = c.pass.ensures.passed in
    let size : c.len.result ≡ length times = omega (arith, c.len.ensures, c.look_ahead.new.ahead.times.ok.0) in
    let line = c.in-Some-line.line in
    let time = c.in-Some-time_said.time in
    let said = saids line.number (time ∷ times) in
    record {
      sound = c.in_ok-find.ensures.sound;
      read = record {
        said = said;
        grown = c.in_ok-keep_times.ensures ∙ ap (λ (ts : List ℕ). c.args.reported.now ++ saids line.number (time ∷ ts)) c.deref.ensures.value;
        many = omega (arith, saids_length line.number (time ∷ times), c.len-2.ensures, c.look_ahead.new.ahead.times.ok.0);
        read = leads_on (Passes before.way is.run.lines) (FindsLine mid after) (λ text next. ReadsNodes node said (ahead before text) (ahead after next))
            (λ text middle next passes found. reads_ahead before mid after (line_of line) node time times is.run.lines c.in-Some-line.ensures c.in-Some-time_said.ensures is.run.say passed.way (passed.counted ∙ ap (λ n. before.count + n) size) text middle next passes found) _ (g.R.Device.seen c.args.device.now) (g.R.Device.seen c.find.new.device) before mid after
            (passes_ahead _ before mid (node + 1) c.args.last times c.in-Some.bytes _ c.pass.ensures.ready.room is passed) c.in_ok-find.ensures.found;
      };
    }

pub keep_times-requires : goal.keep_times-requires
keep_times-requires g c =
    let fits = few_ahead c.args.lines.now (c.args.node + 1) c.args.last c.look_ahead.new.ahead.times.items c.in-Some.bytes c.requires.sound.ready c.in-Some.ensures in
    omega (arith, fits.0, found_number c.args.lines.now (line_of c.in-Some-line.line) c.in-Some-line.ensures, c.deref.ensures.len, c.look_ahead.new.ahead.times.ok.0)
