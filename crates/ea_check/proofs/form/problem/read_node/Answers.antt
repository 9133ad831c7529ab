use Rattle.std.proofs.Common.{sym, subst, rules}
use Rattle.std.proofs.lemmas.Result.{MatchResult-weaker}
use Rattle.std.specs.Prelude.{None}
use Rattle.ea_check.specs.declared.form.stop.Stop.{Stop}
use Rattle.ea_check.specs.Reads.{NodeWrong, ReadsNode, ReadsWalk, WalkWrong}
use Rattle.ea_check.specs.Stops.{IsStop}
use Rattle.ea_check.specs.Streams.{FindsLine, ahead, behind, line_of, spoken}
use Rattle.ea_check.proofs.Reading.{node_missing, node_untimed, node_alone, node_read, walk_bad}
use Rattle.ea_check.specs.Verdicts.{Said}
use Rattle.ea_check.proofs.Stopping.{lines_here, stop_found}
use Rattle.ea_check.proofs.Streaming.{leads_also, leads_on}
use Rattle.ea_check.proofs.form.problem.read_node.Goals as goal

pub returns-in_default : goal.returns-in_default
returns-in_default g c =
    let lines = c.args.lines.now in
    record { sound = tt; read = lines_here (λ here others. NodeWrong c.args.node here 0) _ lines c.requires.ready.room (λ text. node_missing c.args.node (spoken lines) (behind lines text) c.in_default.ensures) }

pub returns-in_default-time_said : goal.returns-in_default-time_said
returns-in_default-time_said g c =
    let lines = c.args.lines.now in
    record {
      sound = tt;
      read = lines_here (λ here others. NodeWrong c.args.node here c.in-Some.line.number) _ lines c.requires.ready.room
          (λ text. node_untimed c.args.node (spoken lines) (behind lines text) (line_of c.in-Some.line) c.in-Some.ensures c.in_default-time_said.ensures);
    }

pub returns-then-time : goal.returns-then-time
returns-then-time g c =
    let lines = c.args.lines.now in
    let after = c.find.new.self in
    let node = c.args.node in
    let time = c.in-Some-time_said.time in
    let said : Said = record { line = c.in-Some.line.number; time = time; walk = None } in
    record {
      sound = search rules;
      read = MatchResult-weaker c.keep_time.result c.keep_time.ensures
          (λ kept grown. record {
            said = said;
            grown = grown;
            read = leads_also (FindsLine lines after) (λ text next. ReadsNode node said (ahead lines text) (ahead after next))
                (λ text next found. node_alone node (spoken lines) (behind lines text) (line_of c.in-Some.line) c.in-Some.ensures time c.in-Some-time_said.ensures (ahead after next) c.if-time.true (sym found)) _ _ lines after c.in_ok-find.ensures.found;
          })
          (λ stop same. subst (λ (s : Stop). IsStop (NodeWrong node) (g.R.Device.seen c.args.device.now) lines (g.R.Device.seen c.find.new.device) after s) (sym same)
          (leads_also (FindsLine lines after) (λ text next. Unit {0}) (λ text next found. tt) _ _ lines after c.in_ok-find.ensures.found));
    }

pub returns : goal.returns
returns g c =
    let lines = c.args.lines.now in
    let mid = c.find.new.self in
    let after = c.read_walk.new.lines in
    let node = c.args.node in
    let time = c.in-Some-time_said.time in
    record {
      sound = c.read_walk.ensures.sound;
      read = MatchResult-weaker c.read_walk.result c.read_walk.ensures.read
          (λ kept walked.
          let said : Said = record { line = c.in-Some.line.number; time = time; walk = walked.walk } in
          record {
            said = said;
            grown = walked.grown;
            read = leads_on (FindsLine lines mid) (λ text next. ReadsWalk node walked.walk (ahead mid text) (ahead after next)) (λ text next. ReadsNode node said (ahead lines text) (ahead after next))
                (λ text middle next found reads. node_read node (spoken lines) (behind lines text) (line_of c.in-Some.line) c.in-Some.ensures time c.in-Some-time_said.ensures walked.walk (ahead mid middle) (ahead after next) c.if-time.false (sym found) reads)
                _ (g.R.Device.seen c.find.new.device) _ lines mid after c.in_ok-find.ensures.found walked.read;
          })
          (λ stop stops. stop_found (WalkWrong node) (NodeWrong node) lines mid (λ text middle found number wrong. walk_bad node (spoken lines) (behind lines text) (line_of c.in-Some.line) c.in-Some.ensures time c.in-Some-time_said.ensures (ahead mid middle) number c.if-time.false (sym found) wrong)
          _ (g.R.Device.seen c.find.new.device) _ after stop c.in_ok-find.ensures.found stops);
    }
