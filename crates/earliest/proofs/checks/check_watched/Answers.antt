use Rattle.std.proofs.Common.{rules, ℕ, List, ◌≡◌, ◌<◌, length, sym, ◌∙◌, subst, refl, ap, arith, inr}
use Rattle.std.specs.Prelude.{All, IsTrue, None}
use Rattle.std.proofs.lemmas.Result.{err_from_is_err_and}
use Rattle.ea_input.specs.Sources.{DenotesSources}
use Rattle.ea_road.specs.Queries.{Asking}
use Rattle.ea_road.specs.Roads.{Roads}
use Rattle.ea_load.specs.Asked.{AreSound, files_of, in_extras}
use Rattle.ea_load.specs.Extra.{extras_in}
use Rattle.ea_load.specs.Files.{reading}
use Rattle.ea_load.specs.Given.{as_road}
use Rattle.ea_load.specs.Posed.{AreProblems}
use Rattle.ea_load.specs.Starts.{AreWithin, Plan, run_problems}
use Rattle.ea_load.proofs.Asking.{each_asked, none_aimed}
use Rattle.ea_load.proofs.Denoting.{sources_are_nodes}
use Rattle.ea_load.proofs.Outcomes.{all_read, first_there, given_is_sound, road_there}
use Rattle.ea_load.proofs.Posing.{run_is_posed}
use Rattle.earliest.specs.Checks.{in_report, in_run}
use Rattle.earliest.specs.Runs.{plan_by, run_asks}
use Rattle.earliest.proofs.Extras.{extra_fault_for, extras_for, optional_files, schedule_has}
use Rattle.earliest.proofs.Verdicts.{judged, unread}
use Rattle.earliest.proofs.checks.check_watched.Goals as goal

pub returns-in_err-files : goal.returns-in_err-files
returns-in_err-files g c =
    let p = err_from_is_err_and c.from_residual.result c.from_residual.ensures.1 in
    let o = c.args.options.now in
    let gr = reading g.G.Device.seen c.args.gr.now c.read_check_by.new.gr in
    let ss = reading g.S.Device.seen c.args.ss.now c.read_check_by.new.ss in
    let others = optional_files c.read_check_by.new.tp c.args.others.now.times c.args.others.now.nodes in
    let report = reading g.R.Device.seen c.args.report.now c.args.report.now in
    rw (p.1, p.2) (record { judged = tt; unjudged = (unread o (files_of gr ss g.T.Device.seen c.args.others.now others) report _ (in_run (first_there g.T.Device.seen (run_asks o) gr ss c.args.others.now others _ c.in_err-files.ensures.fault refl refl))) })

pub returns-in-Err : goal.returns-in-Err
returns-in-Err g c =
    let o = c.args.options.now in
    let given = c.in_ok-files.ensures.given in
    let found = c.in_ok-files.files in
    let gr = reading g.G.Device.seen c.args.gr.now c.read_check_by.new.gr in
    let ss = reading g.S.Device.seen c.args.ss.now c.read_check_by.new.ss in
    let others = optional_files c.read_check_by.new.tp c.read_extras.new.times c.read_extras.new.asked in
    let files = files_of gr ss g.T.Device.seen c.args.others.now others in
    let road = road_there (run_asks o) g.T.Device.seen gr ss c.args.others.now others given.0 found.sources.items given.1 c.in_ok-files.ensures.gr_borne c.in_ok-files.ensures.ss_borne c.in_ok-files.ensures.tp_borne in
    let many : c.len.result ≡ length found.sources.items = omega (arith, c.len.ensures, found.sources.ok.0) in
    let size : c.nodes.result ≡ given.0.graph.nodes = c.nodes.ensures.nodes ∙ ap (λ (r : Roads). r.nodes) given.2.network in
    let report = reading g.R.Device.seen c.args.report.now c.args.report.now in
    rw c.from.ensures (record { judged = tt; unjudged = (unread o files report _ (in_run (in_extras given.0 found.sources.items road (extra_fault_for _ (length found.sources.items) _ given.0.graph.nodes files.extras _ many size c.in-Err.ensures.fault)))) })

pub departures_fit-requires-clause-times : goal.departures_fit-requires-clause-times
departures_fit-requires-clause-times g c =
    let o = c.args.options.now in
    schedule_has o c.schedule_by-schedule.result _ (extras_in c.in-Ok.extras).times _ _ c.schedule_by-schedule.ensures.plan c.in-Ok.ensures.extras.times _ (omega (arith, c.len.ensures, c.len-2.ensures))

-- a time is beyond the horizon
pub returns-in_err-judged : goal.returns-in_err-judged
returns-in_err-judged g c =
    let p = err_from_is_err_and c.from_residual-in_err-judged.result c.from_residual-in_err-judged.ensures.1 in
    let o = c.args.options.now in
    let given = c.in_ok-files.ensures.given in
    let found = c.in_ok-files.files in
    let gr = reading g.G.Device.seen c.args.gr.now c.read_check_by.new.gr in
    let ss = reading g.S.Device.seen c.args.ss.now c.read_check_by.new.ss in
    let others = optional_files c.read_check_by.new.tp c.read_extras.new.times c.read_extras.new.asked in
    let files = files_of gr ss g.T.Device.seen c.args.others.now others in
    let road = road_there (run_asks o) g.T.Device.seen gr ss c.args.others.now others given.0 found.sources.items given.1 c.in_ok-files.ensures.gr_borne c.in_ok-files.ensures.ss_borne c.in_ok-files.ensures.tp_borne in
    let many : c.len.result ≡ length found.sources.items = omega (arith, c.len.ensures, found.sources.ok.0) in
    let size : c.nodes.result ≡ given.0.graph.nodes = c.nodes.ensures.nodes ∙ ap (λ (r : Roads). r.nodes) given.2.network in
    let extras = extras_in c.in-Ok.extras in
    let extra = extras_for _ (length found.sources.items) _ given.0.graph.nodes files.extras extras many size c.in-Ok.ensures.extras in
    let sound : AreSound (run_asks o) files given.0 found.sources.items extras = record { road = road; extra = extra } in
    let report = reading g.R.Device.seen c.args.report.now c.judge-judged.new.report in
    rw (p.1, p.2) (record { judged = tt; unjudged = (unread o files report _ (in_report (given.0, found.sources.items, extras, sound) c.in_err-judged.ensures)) })

pub returns-then-not-departures_fit : goal.returns-then-not-departures_fit
returns-then-not-departures_fit g c =
    let o = c.args.options.now in
    let given = c.in_ok-files.ensures.given in
    let found = c.in_ok-files.files in
    let gr = reading g.G.Device.seen c.args.gr.now c.read_check_by.new.gr in
    let ss = reading g.S.Device.seen c.args.ss.now c.read_check_by.new.ss in
    let others = optional_files c.read_check_by.new.tp c.read_extras.new.times c.read_extras.new.asked in
    let files = files_of gr ss g.T.Device.seen c.args.others.now others in
    let road = road_there (run_asks o) g.T.Device.seen gr ss c.args.others.now others given.0 found.sources.items given.1 c.in_ok-files.ensures.gr_borne c.in_ok-files.ensures.ss_borne c.in_ok-files.ensures.tp_borne in
    let many : c.len.result ≡ length found.sources.items = omega (arith, c.len.ensures, found.sources.ok.0) in
    let size : c.nodes.result ≡ given.0.graph.nodes = c.nodes.ensures.nodes ∙ ap (λ (r : Roads). r.nodes) given.2.network in
    let extras = extras_in c.in-Ok.extras in
    let extra = extras_for _ (length found.sources.items) _ given.0.graph.nodes files.extras extras many size c.in-Ok.ensures.extras in
    let sound : AreSound (run_asks o) files given.0 found.sources.items extras = record { road = road; extra = extra } in
    let plan = c.schedule_by-schedule.ensures.plan in
    let late : AreWithin (plan_by o extras.times) (length found.sources.items) → ⊥ =
    λ within. let fits : IsTrue c.departures_fit.result = c.departures_fit.ensures.1 (λ i inside. subst (λ (p : Plan). AreWithin p (length found.sources.items)) (sym plan) within i (omega (arith, inside, c.len-2.ensures, found.sources.ok.0))) in search rules in
    let has = c.in_ok-judged.ensures in
    record { judged = tt; unjudged = (record { given = given.0; found = found.sources.items; extras = extras; sound = sound; late = late }, (has.0, has.1)) }

pub run_queries-requires-clause-nodes : goal.run_queries-requires-clause-nodes
run_queries-requires-clause-nodes g c =
    let given = c.in_ok-files.ensures.given in
    let nodes = sources_are_nodes given.0.graph.nodes _ c.in_ok-files.files.sources.items given.1.starts_denoted in
    subst (All (λ node. 0 < node)) (sym c.deref.ensures.value) (λ k d lt. (nodes.0 k d lt).from_one)

pub run_queries-requires-clause-times : goal.run_queries-requires-clause-times
run_queries-requires-clause-times g c =
    let o = c.args.options.now in
    schedule_has o c.schedule_by-schedule.result _ (extras_in c.in-Ok.extras).times _ _ c.schedule_by-schedule.ensures.plan c.in-Ok.ensures.extras.times _ (omega (arith, c.len.ensures, c.deref.ensures.len))

pub run_queries-requires-clause-within : goal.run_queries-requires-clause-within
run_queries-requires-clause-within g c =
    let fits : IsTrue c.departures_fit.result = search rules in
    λ i inside. c.departures_fit.ensures.0 fits i (omega (arith, inside, c.deref.ensures.len, c.len-2.ensures))

pub returns-in-Err-run_queries : goal.returns-in-Err-run_queries
returns-in-Err-run_queries g c =
    let o = c.args.options.now in
    let given = c.in_ok-files.ensures.given in
    let found = c.in_ok-files.files in
    let gr = reading g.G.Device.seen c.args.gr.now c.read_check_by.new.gr in
    let ss = reading g.S.Device.seen c.args.ss.now c.read_check_by.new.ss in
    let others = optional_files c.read_check_by.new.tp c.read_extras.new.times c.read_extras.new.asked in
    let files = files_of gr ss g.T.Device.seen c.args.others.now others in
    let road = road_there (run_asks o) g.T.Device.seen gr ss c.args.others.now others given.0 found.sources.items given.1 c.in_ok-files.ensures.gr_borne c.in_ok-files.ensures.ss_borne c.in_ok-files.ensures.tp_borne in
    let many : c.len.result ≡ length found.sources.items = omega (arith, c.len.ensures, found.sources.ok.0) in
    let size : c.nodes.result ≡ given.0.graph.nodes = c.nodes.ensures.nodes ∙ ap (λ (r : Roads). r.nodes) given.2.network in
    let extras = extras_in c.in-Ok.extras in
    let extra = extras_for _ (length found.sources.items) _ given.0.graph.nodes files.extras extras many size c.in-Ok.ensures.extras in
    let sound : AreSound (run_asks o) files given.0 found.sources.items extras = record { road = road; extra = extra } in
    rw c.from-in-Err-run_queries.ensures (record { judged = tt; unjudged = (refl, inr (all_read (run_asks o) files given.0 found.sources.items extras sound, (refl, omega arith))) })

pub judge-judged-requires-2-clause-checkable : goal.judge-judged-requires-2-clause-checkable
judge-judged-requires-2-clause-checkable g c κs within_call =
    let o = c.args.options.now in
    let given = c.in_ok-files.ensures.given in
    let found = c.in_ok-files.files in
    let gr = reading g.G.Device.seen c.args.gr.now c.read_check_by.new.gr in
    let ss = reading g.S.Device.seen c.args.ss.now c.read_check_by.new.ss in
    let extras = extras_in c.in-Ok.extras in
    let plan = c.schedule_by-schedule.ensures.plan in
    let fits : IsTrue c.departures_fit.result = search rules in
    let within : AreWithin (plan_by o extras.times) (length found.sources.items) = subst (λ (p : Plan). AreWithin p (length found.sources.items)) plan (λ i inside. c.departures_fit.ensures.0 fits i (omega (arith, inside, c.len-2.ensures, found.sources.ok.0))) in
    let nodes = sources_are_nodes given.0.graph.nodes _ found.sources.items given.1.starts_denoted in
    let whole = given_is_sound DenotesSources _ _ _ given.0 found.sources.items given.1 in
    let queries = c.deref-2.ensures.value ∙ c.in-Ok-run_queries.ensures ∙ ap (λ (p : Plan). run_problems o.joint p c.deref.result.now) plan ∙ ap (λ (xs : List ℕ). run_problems o.joint (plan_by o extras.times) xs) c.deref.ensures.value in
    each_asked (as_road found.road) c.deref-2.result.now
    (subst (AreProblems (as_road found.road)) (sym queries) (run_is_posed given.0 (as_road found.road) o.direction given.2 whole (plan_by o extras.times) o.joint found.sources.items nodes within))
    (subst (All (λ (query : Asking). query.target ≡ None)) (sym queries) (none_aimed o.joint (plan_by o extras.times) found.sources.items))

pub returns-in_err-verdict : goal.returns-in_err-verdict
returns-in_err-verdict g c =
    let p = err_from_is_err_and c.from_residual-in_err-verdict.result c.from_residual-in_err-verdict.ensures.1 in
    let o = c.args.options.now in
    let given = c.in_ok-files.ensures.given in
    let found = c.in_ok-files.files in
    let gr = reading g.G.Device.seen c.args.gr.now c.read_check_by.new.gr in
    let ss = reading g.S.Device.seen c.args.ss.now c.read_check_by.new.ss in
    let others = optional_files c.read_check_by.new.tp c.read_extras.new.times c.read_extras.new.asked in
    let files = files_of gr ss g.T.Device.seen c.args.others.now others in
    let road = road_there (run_asks o) g.T.Device.seen gr ss c.args.others.now others given.0 found.sources.items given.1 c.in_ok-files.ensures.gr_borne c.in_ok-files.ensures.ss_borne c.in_ok-files.ensures.tp_borne in
    let many : c.len.result ≡ length found.sources.items = omega (arith, c.len.ensures, found.sources.ok.0) in
    let size : c.nodes.result ≡ given.0.graph.nodes = c.nodes.ensures.nodes ∙ ap (λ (r : Roads). r.nodes) given.2.network in
    let extras = extras_in c.in-Ok.extras in
    let extra = extras_for _ (length found.sources.items) _ given.0.graph.nodes files.extras extras many size c.in-Ok.ensures.extras in
    let sound : AreSound (run_asks o) files given.0 found.sources.items extras = record { road = road; extra = extra } in
    let report = reading g.R.Device.seen c.args.report.now c.judge-judged-2.new.report in
    rw (p.1, p.2) (record { judged = tt; unjudged = (unread o files report _ (in_report (given.0, found.sources.items, extras, sound) c.in_err-verdict.ensures)) })

pub returns : goal.returns
returns g c =
    let o = c.args.options.now in
    let given = c.in_ok-files.ensures.given in
    let found = c.in_ok-files.files in
    let gr = reading g.G.Device.seen c.args.gr.now c.read_check_by.new.gr in
    let ss = reading g.S.Device.seen c.args.ss.now c.read_check_by.new.ss in
    let others = optional_files c.read_check_by.new.tp c.read_extras.new.times c.read_extras.new.asked in
    let files = files_of gr ss g.T.Device.seen c.args.others.now others in
    let road = road_there (run_asks o) g.T.Device.seen gr ss c.args.others.now others given.0 found.sources.items given.1 c.in_ok-files.ensures.gr_borne c.in_ok-files.ensures.ss_borne c.in_ok-files.ensures.tp_borne in
    let many : c.len.result ≡ length found.sources.items = omega (arith, c.len.ensures, found.sources.ok.0) in
    let size : c.nodes.result ≡ given.0.graph.nodes = c.nodes.ensures.nodes ∙ ap (λ (r : Roads). r.nodes) given.2.network in
    let extras = extras_in c.in-Ok.extras in
    let extra = extras_for _ (length found.sources.items) _ given.0.graph.nodes files.extras extras many size c.in-Ok.ensures.extras in
    let sound : AreSound (run_asks o) files given.0 found.sources.items extras = record { road = road; extra = extra } in
    let plan = c.schedule_by-schedule.ensures.plan in
    let fits : IsTrue c.departures_fit.result = search rules in
    let within : AreWithin (plan_by o extras.times) (length found.sources.items) = subst (λ (p : Plan). AreWithin p (length found.sources.items)) plan (λ i inside. c.departures_fit.ensures.0 fits i (omega (arith, inside, c.len-2.ensures, found.sources.ok.0))) in
    let nodes = sources_are_nodes given.0.graph.nodes _ found.sources.items given.1.starts_denoted in
    let whole = given_is_sound DenotesSources _ _ _ given.0 found.sources.items given.1 in
    let queries = c.deref-2.ensures.value ∙ c.in-Ok-run_queries.ensures ∙ ap (λ (p : Plan). run_problems o.joint p c.deref.result.now) plan ∙ ap (λ (xs : List ℕ). run_problems o.joint (plan_by o extras.times) xs) c.deref.ensures.value in
    let report = reading g.R.Device.seen c.args.report.now c.judge-judged-2.new.report in
    record {
      judged = judged o files report given.0 found.sources.items extras sound within (as_road found.road) given.2 c.deref-2.result.now queries c.in_ok-verdict.verdict c.in_ok-verdict.ensures;
      unjudged = tt;
    }
