use Rattle.std.proofs.Common.{rules, ℕ, List, ◌≡◌, ◌≤◌, ◌<◌, length, sym, ◌∙◌, subst, refl, ap, arith, inl, inr}
use Rattle.std.specs.Prelude.{All, IsTrue}
use Rattle.std.proofs.lemmas.Result.{err_from_is_err_and}
use Rattle.ea_input.specs.Sources.{DenotesSources}
use Rattle.ea_road.specs.Roads.{Roads}
use Rattle.ea_load.specs.Asked.{AreSound, files_of, in_extras}
use Rattle.ea_load.specs.Extra.{extras_in}
use Rattle.ea_load.specs.Files.{reading}
use Rattle.ea_load.specs.Posed.{AreProblems}
use Rattle.ea_load.specs.Starts.{AreWithin, Plan, run_problems}
use Rattle.ea_load.proofs.Denoting.{sources_are_nodes}
use Rattle.ea_load.proofs.Outcomes.{all_read, answered, failed, files_failed, first_there, given_is_sound, road_there}
use Rattle.ea_load.proofs.Posing.{run_is_posed, few_runs, few_nodes}
use Rattle.ea_report.specs.Asked.{Shape, shape_of}
use Rattle.earliest.specs.Fronts.{shape_by}
use Rattle.earliest.specs.Runs.{run_asks, plan_by}
use Rattle.earliest.proofs.Extras.{shown_for, extra_fault_for, extras_for, optional_files, schedule_has}
use Rattle.earliest.proofs.Sending.{cuts_short}
use Rattle.earliest.proofs.answers.answer_watched.Goals as goal

pub returns-in_err-files : goal.returns-in_err-files
returns-in_err-files g c =
    let p = err_from_is_err_and c.from_residual.result c.from_residual.ensures.1 in
    let o = c.args.options.now in
    let gr = reading g.G.Device.seen c.args.gr.now c.read_run_by.new.gr in
    let starts = reading g.S.Device.seen c.args.ss.now c.read_run_by.new.ss in
    let others = optional_files c.read_run_by.new.tp c.args.others.now.times c.args.others.now.nodes in
    rw (p.1, p.2) (record { answered = tt; failed = (files_failed (run_asks o) (files_of gr starts g.T.Device.seen c.args.others.now others) _ _ (first_there g.T.Device.seen (run_asks o) gr starts c.args.others.now others _ c.in_err-files.ensures.fault refl refl)) })

pub returns-in-Err : goal.returns-in-Err
returns-in-Err g c =
    let o = c.args.options.now in
    let given = c.in_ok-files.ensures.given in
    let found = c.in_ok-files.files in
    let gr = reading g.G.Device.seen c.args.gr.now c.read_run_by.new.gr in
    let starts = reading g.S.Device.seen c.args.ss.now c.read_run_by.new.ss in
    let others = optional_files c.read_run_by.new.tp c.read_extras.new.times c.read_extras.new.asked in
    let files = files_of gr starts g.T.Device.seen c.args.others.now others in
    let road = road_there (run_asks o) g.T.Device.seen gr starts c.args.others.now others given.0 found.sources.items given.1 c.in_ok-files.ensures.gr_borne c.in_ok-files.ensures.ss_borne c.in_ok-files.ensures.tp_borne in
    let many : c.len.result ≡ length found.sources.items = omega (arith, c.len.ensures, found.sources.ok.0) in
    let size : c.nodes.result ≡ given.0.graph.nodes = c.nodes.ensures.nodes ∙ ap (λ (r : Roads). r.nodes) given.2.network in
    rw c.from.ensures (record { answered = tt; failed = (files_failed (run_asks o) files _ _ (in_extras given.0 found.sources.items road (extra_fault_for _ (length found.sources.items) _ given.0.graph.nodes files.extras _ many size c.in-Err.ensures.fault))) })

pub departures_fit-requires-clause-times : goal.departures_fit-requires-clause-times
departures_fit-requires-clause-times g c =
    let o = c.args.options.now in
    let found = c.in_ok-files.files in
    schedule_has o c.schedule_by-schedule.result _ (extras_in c.in-Ok.extras).times _ _ c.schedule_by-schedule.ensures.plan c.in-Ok.ensures.extras.times _ (omega (arith, c.len.ensures, c.len-2.ensures))

pub run_queries-requires-clause-nodes : goal.run_queries-requires-clause-nodes
run_queries-requires-clause-nodes g c =
    let given = c.in_ok-files.ensures.given in
    let nodes = sources_are_nodes given.0.graph.nodes _ c.in_ok-files.files.sources.items given.1.starts_denoted in
    subst (All (λ node. 0 < node)) (sym c.deref.ensures.value) (λ k d lt. (nodes.0 k d lt).from_one)

pub run_queries-requires-clause-times : goal.run_queries-requires-clause-times
run_queries-requires-clause-times g c =
    let o = c.args.options.now in
    schedule_has o c.schedule_by-schedule.result _ (extras_in c.in-Ok.extras).times _ _ c.schedule_by-schedule.ensures.plan c.in-Ok.ensures.extras.times _ (omega (arith, c.len.ensures, c.deref.ensures.len))

pub run_queries-requires-clause-within : goal.run_queries-requires-clause-within
run_queries-requires-clause-within g c =
    let fits : IsTrue c.departures_fit.result = search rules in
    λ i inside. c.departures_fit.ensures.0 fits i (omega (arith, inside, c.deref.ensures.len, c.len-2.ensures))

pub report_all-answered-requires-clause-run : goal.report_all-answered-requires-clause-run
report_all-answered-requires-clause-run g c κs lent =
    let o = c.args.options.now in
    let given = c.in_ok-files.ensures.given in
    let found = c.in_ok-files.files in
    let gr = reading g.G.Device.seen c.args.gr.now c.read_run_by.new.gr in
    let starts = reading g.S.Device.seen c.args.ss.now c.read_run_by.new.ss in
    let extras = extras_in c.in-Ok.extras in
    let plan = c.schedule_by-schedule.ensures.plan in
    let fits : IsTrue c.departures_fit.result = search rules in
    let within : AreWithin (plan_by o extras.times) (length found.sources.items) = subst (λ (p : Plan). AreWithin p (length found.sources.items)) plan (λ i inside. c.departures_fit.ensures.0 fits i (omega (arith, inside, c.len-2.ensures, found.sources.ok.0))) in
    let nodes = sources_are_nodes given.0.graph.nodes _ found.sources.items given.1.starts_denoted in
    let whole = given_is_sound DenotesSources _ _ _ given.0 found.sources.items given.1 in
    let queries = c.deref-2.ensures.value ∙ c.in-Ok-run_queries.ensures ∙ ap (λ (p : Plan). run_problems o.joint p c.deref.result.now) plan ∙ ap (λ (xs : List ℕ). run_problems o.joint (plan_by o extras.times) xs) c.deref.ensures.value in
    let shows = c.shown_by-shown.ensures in
    let shape = shape_of c.shown_by-shown.result in
    let chosen = ap (λ (s : Shape). s.chosen) c.shown_by-shown.ensures in
    record {
      reportable = record {
        problems = subst (AreProblems found.road) (sym queries) (run_is_posed given.0 found.road o.direction given.2 whole (plan_by o extras.times) o.joint found.sources.items nodes within);
        few = subst (λ qs. length qs ≤ 1000000) (sym queries) (few_runs given.0 found.road o.direction given.2 whole (plan_by o extras.times) o.joint found.sources.items nodes.1);
        few_nodes = few_nodes given.0 found.road o.direction given.2 whole;
        shown = shown_for found.road.network shape _ _ _ _ c.nodes.ensures.nodes chosen c.in-Ok.ensures.extras.nodes;
      };
      options_are = c.requires;
      asked = shows ∙ ap (λ (shape : Shape). shape_by c.args.options.now shape.chosen) (sym shows);
      aids = search rules;
    }

pub returns : goal.returns
returns g c =
    let o = c.args.options.now in
    let given = c.in_ok-files.ensures.given in
    let found = c.in_ok-files.files in
    let gr = reading g.G.Device.seen c.args.gr.now c.read_run_by.new.gr in
    let starts = reading g.S.Device.seen c.args.ss.now c.read_run_by.new.ss in
    let others = optional_files c.read_run_by.new.tp c.read_extras.new.times c.read_extras.new.asked in
    let files = files_of gr starts g.T.Device.seen c.args.others.now others in
    let road = road_there (run_asks o) g.T.Device.seen gr starts c.args.others.now others given.0 found.sources.items given.1 c.in_ok-files.ensures.gr_borne c.in_ok-files.ensures.ss_borne c.in_ok-files.ensures.tp_borne in
    let many : c.len.result ≡ length found.sources.items = omega (arith, c.len.ensures, found.sources.ok.0) in
    let size : c.nodes.result ≡ given.0.graph.nodes = c.nodes.ensures.nodes ∙ ap (λ (r : Roads). r.nodes) given.2.network in
    let extras = extras_in c.in-Ok.extras in
    let extra = extras_for _ (length found.sources.items) _ given.0.graph.nodes files.extras extras many size c.in-Ok.ensures.extras in
    let sound : AreSound (run_asks o) files given.0 found.sources.items extras = record { road = road; extra = extra } in
    let plan = c.schedule_by-schedule.ensures.plan in
    let fits : IsTrue c.departures_fit.result = search rules in
    let within : AreWithin (plan_by o extras.times) (length found.sources.items) = subst (λ (p : Plan). AreWithin p (length found.sources.items)) plan (λ i inside. c.departures_fit.ensures.0 fits i (omega (arith, inside, c.len-2.ensures, found.sources.ok.0))) in
    let nodes = sources_are_nodes given.0.graph.nodes _ found.sources.items given.1.starts_denoted in
    let whole = given_is_sound DenotesSources _ _ _ given.0 found.sources.items given.1 in
    let queries = c.deref-2.ensures.value ∙ c.in-Ok-run_queries.ensures ∙ ap (λ (p : Plan). run_problems o.joint p c.deref.result.now) plan ∙ ap (λ (xs : List ℕ). run_problems o.joint (plan_by o extras.times) xs) c.deref.ensures.value in
    let first = g.W.Device.seen c.args.out.now in
    let now = g.W.Device.seen c.report_all-answered.new.out in
    let chosen = ap (λ (s : Shape). s.chosen) c.shown_by-shown.ensures in
    record {
      answered = answered (run_asks o) files given.0 found.sources.items extras sound within found.road given.2 _ chosen c.deref-2.result.now queries first now c.report_all-answered.result c.report_all-answered.ensures.ok;
      failed = failed (run_asks o) files given.0 found.sources.items extras sound within found.road given.2 _ chosen c.deref-2.result.now queries (cuts_short o) first now c.report_all-answered.result c.report_all-answered.ensures.err;
    }

pub returns-then-not-departures_fit : goal.returns-then-not-departures_fit
returns-then-not-departures_fit g c =
    let o = c.args.options.now in
    let given = c.in_ok-files.ensures.given in
    let found = c.in_ok-files.files in
    let gr = reading g.G.Device.seen c.args.gr.now c.read_run_by.new.gr in
    let starts = reading g.S.Device.seen c.args.ss.now c.read_run_by.new.ss in
    let others = optional_files c.read_run_by.new.tp c.read_extras.new.times c.read_extras.new.asked in
    let files = files_of gr starts g.T.Device.seen c.args.others.now others in
    let road = road_there (run_asks o) g.T.Device.seen gr starts c.args.others.now others given.0 found.sources.items given.1 c.in_ok-files.ensures.gr_borne c.in_ok-files.ensures.ss_borne c.in_ok-files.ensures.tp_borne in
    let many : c.len.result ≡ length found.sources.items = omega (arith, c.len.ensures, found.sources.ok.0) in
    let size : c.nodes.result ≡ given.0.graph.nodes = c.nodes.ensures.nodes ∙ ap (λ (r : Roads). r.nodes) given.2.network in
    let extras = extras_in c.in-Ok.extras in
    let extra = extras_for _ (length found.sources.items) _ given.0.graph.nodes files.extras extras many size c.in-Ok.ensures.extras in
    let sound : AreSound (run_asks o) files given.0 found.sources.items extras = record { road = road; extra = extra } in
    let plan = c.schedule_by-schedule.ensures.plan in
    let late : AreWithin (plan_by o extras.times) (length found.sources.items) → ⊥ =
    λ within. let fits : IsTrue c.departures_fit.result = c.departures_fit.ensures.1 (λ i inside. subst (λ (p : Plan). AreWithin p (length found.sources.items)) (sym plan) within i (omega (arith, inside, c.len-2.ensures, found.sources.ok.0))) in search rules
    in record { answered = tt; failed = (record { given = given.0; found = found.sources.items; extras = extras; sound = sound; late = late }, refl) }

-- all files were read
pub returns-in-Err-run_queries : goal.returns-in-Err-run_queries
returns-in-Err-run_queries g c =
    let o = c.args.options.now in
    let given = c.in_ok-files.ensures.given in
    let found = c.in_ok-files.files in
    let gr = reading g.G.Device.seen c.args.gr.now c.read_run_by.new.gr in
    let starts = reading g.S.Device.seen c.args.ss.now c.read_run_by.new.ss in
    let others = optional_files c.read_run_by.new.tp c.read_extras.new.times c.read_extras.new.asked in
    let files = files_of gr starts g.T.Device.seen c.args.others.now others in
    let road = road_there (run_asks o) g.T.Device.seen gr starts c.args.others.now others given.0 found.sources.items given.1 c.in_ok-files.ensures.gr_borne c.in_ok-files.ensures.ss_borne c.in_ok-files.ensures.tp_borne in
    let many : c.len.result ≡ length found.sources.items = omega (arith, c.len.ensures, found.sources.ok.0) in
    let size : c.nodes.result ≡ given.0.graph.nodes = c.nodes.ensures.nodes ∙ ap (λ (r : Roads). r.nodes) given.2.network in
    let extras = extras_in c.in-Ok.extras in
    let extra = extras_for _ (length found.sources.items) _ given.0.graph.nodes files.extras extras many size c.in-Ok.ensures.extras in
    let sound : AreSound (run_asks o) files given.0 found.sources.items extras = record { road = road; extra = extra } in
    rw c.from-in-Err-run_queries.ensures (record { answered = tt; failed = (inl (refl, refl, inr (all_read (run_asks o) files given.0 found.sources.items extras sound))) })
