use Rattle.std.proofs.Common.{◌∙◌, ◌+◌, ◌++◌, List, [], ap, arith, drop, length, refl, subst, sym}
use Rattle.std.proofs.lemmas.Result.{err_from_is_err_and}
use Rattle.std.specs.Prelude.{Ok, Err, Result}
use Rattle.ea_road.specs.declared.source.Source.{Source}
use Rattle.ea_road.specs.Queries.{Asking}
use Rattle.ea_road.specs.Roads.{Roads}
use Rattle.ea_check.specs.declared.fault.CheckFault.{CheckFault}
use Rattle.ea_check.specs.declared.fault.CheckFault.TheVariants.{BadLine}
use Rattle.ea_check.specs.declared.form.stop.Stop.TheVariants.{Report}
use Rattle.ea_check.specs.Checked.{IsChecked, sources_of}
use Rattle.ea_check.specs.declared.judge.part.Part.{Part}
use Rattle.ea_check.specs.Judging.{JudgesTo}
use Rattle.ea_check.specs.Lazy.{roads_in}
use Rattle.ea_check.specs.Parts.{AreParts}
use Rattle.ea_check.specs.Reads.{ProblemWrong, ReadsProblem, ReportWrong}
use Rattle.ea_check.specs.Streams.{ahead, behind, line_of, rest_of, spoken}
use Rattle.ea_check.proofs.Composing.{formed_of, form_too_long, wrong_checked, wrong_here, wrong_more, small_queries, no_query_left, next_query}
use Rattle.ea_check.proofs.Onward.{Onward, ProblemsLeft, onward_end, onward_more}
use Rattle.ea_check.proofs.Reading.{wrong_more as fault_more}
use Rattle.ea_check.proofs.Right.{task_of, faultless_right}
use Rattle.ea_check.proofs.Stopping.{lines_here, then_lines}
use Rattle.ea_check.proofs.Streamed.{ahead_in_order, judged_behind}
use Rattle.ea_check.proofs.Streaming.{leads_also}
use Rattle.ea_check.proofs.checking.check_lines.Goals as goal

pub returns-in_err-read_problem : goal.returns-in_err-read_problem
returns-in_err-read_problem g c =
    let p = err_from_is_err_and c.from_residual-in_err-read_problem.result c.from_residual-in_err-read_problem.ensures.1 in
    let roads = roads_in c.args.network.now in
    let answers = g.T.TravelTimes.answers c.args.times.now in
    let queries = sources_of c.args.queries.now in
    let place = c.loop-query.query-index in
    let query = c.query-item.result in
    let low = c.nodes-nodes.ensures.network.nodes_limit in
    let small = small_queries roads (g.T.TravelTimes.classes c.args.times.now) c.args.queries.now (omega arith) c.requires.checkable in
    let wrong = rw (c.nodes-nodes.ensures.nodes, c.sources.ensures.sources) at c.in_err-read_problem.ensures.read in
    rw (p.1, p.2) (judged_behind (IsChecked roads answers queries) (ProblemsLeft roads answers queries (sources_of (drop {A = Asking} place c.args.queries.now)) c.loop-query.verdict) (ProblemWrong roads.nodes query.sources)
    (λ lines next left fault here. wrong_checked roads answers queries lines fault (omega arith) small
    (fault_more (ProblemWrong roads.nodes query.sources next) (ReportWrong roads.nodes queries lines) fault (wrong_here roads.nodes c.args.queries.now place query c.loop-query-test.true c.query-item.is (ReportWrong roads.nodes queries lines) left.wrong) here))
    _ (g.R.Device.seen c.loop-query.device) _ c.args.lines.now c.loop-query.lines c.read_problem.new.lines _ c.loop-query.invariant.leads wrong)

pub check_next-verdict-requires-clause-problem : goal.check_next-verdict-requires-clause-problem
check_next-verdict-requires-clause-problem g c =
    let read = rw (c.nodes-nodes.ensures.nodes, c.sources.ensures.sources) at c.in_ok-read_problem.ensures.read in
    rw c.loop-query.invariant.network (record {
      task = task_of (roads_in c.args.network.now) (g.T.TravelTimes.classes c.args.times.now) c.query-item.result c.nodes-nodes.ensures.network (c.requires.checkable c.query-item.result (c.loop-query.query-index, (c.loop-query-test.true, c.query-item.is))).0;
      formed = formed_of (read.holds [] (λ ended. refl)) (ahead_in_order c.loop-query.lines (rest_of c.loop-query.lines ++ (read.got ++ [])) c.loop-query.invariant.sound);
    })

pub loop-query-init : goal.loop-query-init
loop-query-init g c =
    let roads = roads_in c.args.network.now in
    let answers = g.T.TravelTimes.answers c.args.times.now in
    let queries = sources_of c.args.queries.now in
    record {
      done = refl;
      network = refl;
      sound = c.requires.sound;
      parts = (subst (AreParts roads) (sym c.as_mut_slice-parts.ensures.value) (subst (λ (r : Roads). AreParts r c.in_ok-cut.cut.items) c.arcs.ensures c.in_ok-cut.ensures.0), omega (arith, ap (λ (ps : List Part). length ps) c.as_mut_slice-parts.ensures.value, c.in_ok-cut.ensures.1, c.size-2.ensures));
      leads = lines_here (ProblemsLeft roads answers queries queries (Ok tt)) _ c.args.lines.now c.requires.sound.ready.room (λ text. record { wrong = λ number wrong. wrong; onward = λ result form checked. checked });
    }

pub loop-query-preserved : goal.loop-query-preserved
loop-query-preserved g c =
    let roads = roads_in c.args.network.now in
    let answers = g.T.TravelTimes.answers c.args.times.now in
    let classes = g.T.TravelTimes.classes c.args.times.now in
    let queries = sources_of c.args.queries.now in
    let place = c.loop-query.query-index in
    let query = c.query-item.result in
    let reported = c.read_problem.new.reported in
    let read = rw (c.nodes-nodes.ensures.nodes, c.sources.ensures.sources) at c.in_ok-read_problem.ensures.read in
    let next_is = next_query roads.nodes c.args.queries.now place query c.loop-query-test.true c.query-item.is in
    let task = task_of roads classes query c.nodes-nodes.ensures.network (c.requires.checkable query (place, (c.loop-query-test.true, c.query-item.is))).0 in
    let formed = formed_of (read.holds [] (λ ended. refl)) (ahead_in_order c.loop-query.lines (rest_of c.loop-query.lines ++ (read.got ++ [])) c.loop-query.invariant.sound) in
    let right = faultless_right roads answers classes query.sources task (g.met.T.TravelTimes.fifo c.args.times.now) reported formed in
    let verdict = rw c.loop-query.invariant.network at c.check_next-verdict.ensures.verdict in
    record {
      done = omega (arith, c.loop-query.invariant.done);
      network = c.check_next-verdict.ensures.network ∙ c.loop-query.invariant.network;
      sound = c.in_ok-read_problem.ensures.sound;
      parts = rw c.loop-query.invariant.network at c.check_next-verdict.ensures.parts;
      leads = then_lines (ProblemsLeft roads answers queries (sources_of (drop {A = Asking} place c.args.queries.now)) c.loop-query.verdict) (ReadsProblem roads.nodes query.sources reported) (ProblemsLeft roads answers queries (sources_of (drop {A = Asking} (place + 1) c.args.queries.now)) c.check_next-verdict.result)
          (λ lines middle next left here. record {
            wrong = wrong_more roads.nodes c.args.queries.now place query c.loop-query-test.true c.query-item.is (ReportWrong roads.nodes queries lines) here left.wrong;
            onward = onward_more roads answers queries lines (sources_of (drop (place + 1) c.args.queries.now)) next c.loop-query.verdict c.check_next-verdict.result here right verdict (subst (λ (qs : List (List Source)). Onward roads answers queries lines qs middle c.loop-query.verdict) next_is left.onward);
          })
          _ (g.R.Device.seen c.loop-query.device) _ c.args.lines.now c.loop-query.lines c.read_problem.new.lines c.loop-query.invariant.leads read;
    }

pub returns-in_err-verdict-in-None : goal.returns-in_err-verdict-in-None
returns-in_err-verdict-in-None g c =
    let p = err_from_is_err_and c.from_residual-in_err-verdict-in-None.result c.from_residual-in_err-verdict-in-None.ensures.1 in
    let roads = roads_in c.args.network.now in
    let answers = g.T.TravelTimes.answers c.args.times.now in
    let queries = sources_of c.args.queries.now in
    let left_of = sources_of (drop {A = Asking} c.loop-query.query-index c.args.queries.now) in
    let now = c.loop-query.lines in
    let before = c.args.lines.now in
    rw (p.1, p.2) (leads_also (λ text next. ProblemsLeft roads answers queries left_of c.loop-query.verdict (ahead before text) (ahead now next)) (λ text next. IsChecked roads answers queries (ahead before text) (Err c.in_err-verdict-in-None.field-0.0))
    (λ text next left. subst (λ (r : Result (Unit {0}) CheckFault). IsChecked roads answers queries (ahead before text) r) c.in_err-verdict-in-None.was
    (onward_end roads answers queries (ahead before text) left_of (spoken now) (behind now next) c.loop-query.verdict (no_query_left c.args.queries.now c.loop-query.query-index c.loop-query-test.false) c.in-None.ensures left.onward))
    _ _ before now c.loop-query.invariant.leads)

pub returns-in-None : goal.returns-in-None
returns-in-None g c =
    let roads = roads_in c.args.network.now in
    let answers = g.T.TravelTimes.answers c.args.times.now in
    let queries = sources_of c.args.queries.now in
    let left_of = sources_of (drop {A = Asking} c.loop-query.query-index c.args.queries.now) in
    let now = c.loop-query.lines in
    let before = c.args.lines.now in
    leads_also (λ text next. ProblemsLeft roads answers queries left_of c.loop-query.verdict (ahead before text) (ahead now next)) (λ text next. IsChecked roads answers queries (ahead before text) (Ok tt))
    (λ text next left. subst (λ (r : Result (Unit {0}) CheckFault). IsChecked roads answers queries (ahead before text) r) c.in_ok-verdict-in-None.was
    (onward_end roads answers queries (ahead before text) left_of (spoken now) (behind now next) c.loop-query.verdict (no_query_left c.args.queries.now c.loop-query.query-index c.loop-query-test.false) c.in-None.ensures left.onward))
    _ _ before now c.loop-query.invariant.leads

pub returns : goal.returns
returns g c =
    let roads = roads_in c.args.network.now in
    let answers = g.T.TravelTimes.answers c.args.times.now in
    let queries = sources_of c.args.queries.now in
    let left_of = sources_of (drop {A = Asking} c.loop-query.query-index c.args.queries.now) in
    let now = c.loop-query.lines in
    let before = c.args.lines.now in
    let low = c.nodes-nodes.ensures.network.nodes_limit in
    let small = small_queries roads (g.T.TravelTimes.classes c.args.times.now) c.args.queries.now (omega arith) c.requires.checkable in
    leads_also (λ text next. ProblemsLeft roads answers queries left_of c.loop-query.verdict (ahead before text) (ahead now next)) (λ text next. IsChecked roads answers queries (ahead before text) (Err (BadLine c.in-Some.line.number)))
    (λ text next left. wrong_checked roads answers queries (ahead before text) (BadLine c.in-Some.line.number) (omega arith) small
    (form_too_long roads.nodes c.args.queries.now c.loop-query.query-index (spoken now) (line_of c.in-Some.line) (behind now next) (ReportWrong roads.nodes queries (ahead before text)) c.loop-query-test.false c.in-Some.ensures left.wrong))
    _ _ before now c.loop-query.invariant.leads

pub read_problem-requires-clause-departures : goal.read_problem-requires-clause-departures
read_problem-requires-clause-departures g c =
    let task = task_of (roads_in c.args.network.now) (g.T.TravelTimes.classes c.args.times.now) c.query-item.result c.nodes-nodes.ensures.network (c.requires.checkable c.query-item.result (c.loop-query.query-index, (c.loop-query-test.true, c.query-item.is))).0 in
    rw c.sources.ensures.sources (λ source among. (task.starts source among).1)

pub returns-in_err-ahead : goal.returns-in_err-ahead
returns-in_err-ahead g c =
    let p = err_from_is_err_and c.from_residual.result c.from_residual.ensures.1 in
    let lines = c.args.lines.now in
    let seen = g.R.Device.seen c.args.device.now in
    rw (p.1, p.2) (subst (λ (fault : CheckFault). JudgesTo (IsChecked (roads_in c.args.network.now) (g.T.TravelTimes.answers c.args.times.now) (sources_of c.args.queries.now)) seen lines seen lines (Err (Report fault))) (sym c.in_err-ahead.ensures) (lines_here (λ text next. Unit {0}) seen lines c.requires.sound.ready.room (λ text. tt)))

pub returns-in_err-cut : goal.returns-in_err-cut
returns-in_err-cut g c =
    let p = err_from_is_err_and c.from_residual-in_err-cut.result c.from_residual-in_err-cut.ensures.1 in
    let lines = c.args.lines.now in
    let seen = g.R.Device.seen c.args.device.now in
    rw (p.1, p.2) (subst (λ (fault : CheckFault). JudgesTo (IsChecked (roads_in c.args.network.now) (g.T.TravelTimes.answers c.args.times.now) (sources_of c.args.queries.now)) seen lines seen lines (Err (Report fault))) (sym c.in_err-cut.ensures) (lines_here (λ text next. Unit {0}) seen lines c.requires.sound.ready.room (λ text. tt)))
