use Rattle.std.proofs.Common.{◌∙◌, ℕ, List, sym, subst, rules}
use Rattle.std.proofs.lemmas.Result.{MatchResult-weaker, err_from_is_err_and}
use Rattle.std.specs.Prelude.{None, Some}
use Rattle.ea_check.specs.declared.form.stop.Stop.{Stop}
use Rattle.ea_check.specs.Form.{SaysArcs, arcs_of, told_walk}
use Rattle.ea_check.specs.Reads.{ReadsWalk, WalkWrong}
use Rattle.ea_check.specs.Stops.{IsStop}
use Rattle.ea_check.specs.Streams.{FindsLine, ahead, behind, line_of, spoken}
use Rattle.ea_check.proofs.Reading.{walk_missing, walk_none, walk_other, walk_read}
use Rattle.std.proofs.lemmas.Bool.{false≢true}
use Rattle.ea_check.proofs.Steps.{told_twice}
use Rattle.ea_check.proofs.Stopping.{lines_here}
use Rattle.ea_check.proofs.Streaming.{leads_also}
use Rattle.ea_check.specs.Verdicts.{WrittenWalk}
use Rattle.ea_bytes.specs.Text.{fields_of}
use Rattle.ea_check.proofs.form.problem.read_walk.Goals as goal

pub returns-in_default : goal.returns-in_default
returns-in_default g c =
    let lines = c.args.lines.now in
    let node = c.args.node in
    record {
      sound = search rules;
      read = MatchResult-weaker c.keep_time.result c.keep_time.ensures
          (λ kept grown. record {
            walk = None;
            grown = grown;
            read = lines_here (ReadsWalk node None) _ lines c.requires.ready.room (λ text. walk_missing node (spoken lines) (behind lines text) c.in_default.ensures);
          })
          (λ stop same. subst (λ (s : Stop). IsStop (WalkWrong node) (g.R.Device.seen c.args.device.now) lines (g.R.Device.seen c.args.device.now) lines s) (sym same)
          (lines_here (λ text next. Unit {0}) _ lines c.requires.ready.room (λ text. tt)));
    }

pub returns-then-not-is_walk_line : goal.returns-then-not-is_walk_line
returns-then-not-is_walk_line g c =
    let lines = c.args.lines.now in
    let node = c.args.node in
    record {
      sound = search rules;
      read = MatchResult-weaker c.keep_time-then-not-is_walk_line.result c.keep_time-then-not-is_walk_line.ensures
          (λ kept grown. record {
            walk = None;
            grown = grown;
            read = lines_here (ReadsWalk node None) _ lines c.requires.ready.room (λ text. walk_none node (spoken lines) (behind lines text) (line_of c.in-Some.line) c.in-Some.ensures (λ walk. false≢true (sym c.if-not-is_walk_line.true ∙ c.is_walk_line.ensures.1 walk)));
          })
          (λ stop same. subst (λ (s : Stop). IsStop (WalkWrong node) (g.R.Device.seen c.args.device.now) lines (g.R.Device.seen c.args.device.now) lines s) (sym same)
          (lines_here (λ text next. Unit {0}) _ lines c.requires.ready.room (λ text. tt)));
    }

pub returns-in_default-says_walk : goal.returns-in_default-says_walk
returns-in_default-says_walk g c =
    let lines = c.args.lines.now in
    let node = c.args.node in
    record {
      sound = tt;
      read = lines_here (λ here others. WalkWrong node here c.in-Some.line.number) _ lines c.requires.ready.room
          (λ text. walk_other node (spoken lines) (behind lines text) (line_of c.in-Some.line) c.in-Some.ensures (c.is_walk_line.ensures.0 c.if-not-is_walk_line.false) (λ arcs says. c.in_default-says_walk.ensures (told_walk c.in-Some.line.way arcs) says));
    }

pub returns : goal.returns
returns g c =
    let lines = c.args.lines.now in
    let after = c.find.new.self in
    let node = c.args.node in
    let line = line_of c.in-Some.line in
    let written = arcs_of (fields_of c.in-Some-says_walk.arcs.now) in
    let walk : WrittenWalk = record { line = line.number; arcs = told_walk line.way written } in
    let says = subst (λ (arcs : List ℕ). SaysArcs line.fields node arcs) (sym (told_twice line.way written)) c.in-Some-says_walk.ensures.0 in
    record {
      sound = c.in_ok-find.ensures.sound;
      read = record {
        walk = Some walk;
        grown = c.in_ok-push.ensures;
        read = leads_also (FindsLine lines after) (λ text next. ReadsWalk node (Some walk) (ahead lines text) (ahead after next))
            (λ text next found. walk_read node (spoken lines) (behind lines text) line walk.arcs (ahead after next) c.in-Some.ensures says found) _ _ lines after c.in_ok-find.ensures.found;
      };
    }

pub returns-in_err-push : goal.returns-in_err-push
returns-in_err-push g c =
    let p = err_from_is_err_and c.from_residual.result c.from_residual.ensures.1 in
    rw (p.1, p.2) (record { sound = tt; read = rw (c.in_err-push.ensures) (lines_here (λ text next. Unit {0}) _ c.args.lines.now c.requires.ready.room (λ text. tt)) })
