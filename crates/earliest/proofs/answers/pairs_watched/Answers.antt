use Rattle.std.proofs.Common.{rules, ℕ, List, ◌≡◌, ◌≤◌, ◌<◌, length, sym, ◌∙◌, subst, refl, ap, arith, inl, inr}
use Rattle.std.specs.Prelude.{All, IsTrue, None}
use Rattle.std.proofs.lemmas.Result.{err_from_is_err_and}
use Rattle.ea_input.specs.Pairs.{DenotesPairs}
use Rattle.ea_road.specs.Roads.{Roads}
use Rattle.ea_load.specs.Asked.{AreSound, files_of, in_extras}
use Rattle.ea_load.specs.Extra.{extras_in}
use Rattle.ea_load.specs.Files.{reading}
use Rattle.ea_load.specs.Posed.{AreProblems}
use Rattle.ea_batch.specs.declared.searching.Aids.{Aids}
use Rattle.ea_load.specs.declared.road.Road.{Road}
use Rattle.ea_load.specs.Starts.{AreWithin, Plan, pair_problems}
use Rattle.ea_load.proofs.Denoting.{pairs_are_nodes}
use Rattle.ea_load.proofs.Outcomes.{all_read, answered, failed, files_failed, first_there, given_is_sound, road_there}
use Rattle.ea_load.proofs.Posing.{pairs_are_posed, few_pairs, few_nodes}
use Rattle.ea_report.specs.Asked.{Shape, shape_of}
use Rattle.earliest.specs.Fronts.{shape_by}
use Rattle.earliest.specs.Running.{MayReportAll, WritesAll}
use Rattle.earliest.specs.Runs.{pair_asks, plan_by}
use Rattle.earliest.proofs.RunRoads.{lent_ready, lent_road}
use Rattle.earliest.proofs.Extras.{shown_for, extra_fault_for, extras_for, optional_files, schedule_has}
use Rattle.earliest.proofs.Sending.{cuts_short}
use Rattle.earliest.proofs.answers.pairs_watched.Goals as goal

pub returns-in_err-files : goal.returns-in_err-files
returns-in_err-files g c =
    let p = err_from_is_err_and c.from_residual.result c.from_residual.ensures.1 in
    let o = c.args.options.now in
    let gr = reading g.G.Device.seen c.args.gr.now c.read_pairs.new.gr in
    let starts = reading g.P.Device.seen c.args.p2p.now c.read_pairs.new.p2p in
    let others = optional_files c.read_pairs.new.tp c.args.others.now.times c.args.others.now.nodes in
    rw (p.1, p.2) (record { answered = tt; failed = (files_failed (pair_asks o) (files_of gr starts g.T.Device.seen c.args.others.now others) _ _ (first_there g.T.Device.seen (pair_asks o) gr starts c.args.others.now others _ c.in_err-files.ensures.fault refl refl)) })

pub returns-in-Err : goal.returns-in-Err
returns-in-Err g c =
    let o = c.args.options.now in
    let given = c.in_ok-files.ensures.given in
    let found = c.in_ok-files.files in
    let gr = reading g.G.Device.seen c.args.gr.now c.read_pairs.new.gr in
    let starts = reading g.P.Device.seen c.args.p2p.now c.read_pairs.new.p2p in
    let others = optional_files c.read_pairs.new.tp c.read_extras.new.times c.read_extras.new.asked in
    let files = files_of gr starts g.T.Device.seen c.args.others.now others in
    let road = road_there (pair_asks o) g.T.Device.seen gr starts c.args.others.now others given.0 found.pairs.items given.1 c.in_ok-files.ensures.gr_borne c.in_ok-files.ensures.p2p_borne c.in_ok-files.ensures.tp_borne in
    let many : c.len.result ≡ length found.pairs.items = omega (arith, c.len.ensures, found.pairs.ok.0) in
    let size : c.nodes.result ≡ given.0.graph.nodes = c.nodes.ensures.nodes ∙ ap (λ (r : Roads). r.nodes) given.2.network in
    rw c.from.ensures (record { answered = tt; failed = (files_failed (pair_asks o) files _ _ (in_extras given.0 found.pairs.items road (extra_fault_for _ (length found.pairs.items) _ given.0.graph.nodes files.extras _ many size c.in-Err.ensures.fault))) })

pub departures_fit-requires-clause-times : goal.departures_fit-requires-clause-times
departures_fit-requires-clause-times g c =
    let o = c.args.options.now in
    let found = c.in_ok-files.files in
    schedule_has o c.schedule_by-schedule.result _ (extras_in c.in-Ok.extras).times _ _ c.schedule_by-schedule.ensures.plan c.in-Ok.ensures.extras.times _ (omega (arith, c.len.ensures, c.len-2.ensures))

pub pair_queries-requires-clause-pairs : goal.pair_queries-requires-clause-pairs
pair_queries-requires-clause-pairs g c =
    let given = c.in_ok-files.ensures.given in
    let nodes = pairs_are_nodes given.0.graph.nodes _ c.in_ok-files.files.pairs.items given.1.starts_denoted in
    subst (All (λ (pair : ℕ × ℕ). (0 < pair.0) × (0 < pair.1))) (sym c.deref.ensures.value) (λ k d lt. ((nodes.0 k d lt).0.from_one, (nodes.0 k d lt).1.from_one))

pub pair_queries-requires-clause-times : goal.pair_queries-requires-clause-times
pair_queries-requires-clause-times g c =
    let o = c.args.options.now in
    schedule_has o c.schedule_by-schedule.result _ (extras_in c.in-Ok.extras).times _ _ c.schedule_by-schedule.ensures.plan c.in-Ok.ensures.extras.times _ (omega (arith, c.len.ensures, c.deref.ensures.len))

pub pair_queries-requires-clause-within : goal.pair_queries-requires-clause-within
pair_queries-requires-clause-within g c =
    let fits : IsTrue c.departures_fit.result = search rules in
    λ i inside. c.departures_fit.ensures.0 fits i (omega (arith, inside, c.deref.ensures.len, c.len-2.ensures))

pub road_for_pairs-road-requires : goal.road_for_pairs-road-requires
road_for_pairs-road-requires g c =
    let o = c.args.options.now in
    let given = c.in_ok-files.ensures.given in
    let found = c.in_ok-files.files in
    let gr = reading g.G.Device.seen c.args.gr.now c.read_pairs.new.gr in
    let starts = reading g.P.Device.seen c.args.p2p.now c.read_pairs.new.p2p in
    let extras = extras_in c.in-Ok.extras in
    let plan = c.schedule_by-schedule.ensures.plan in
    let fits : IsTrue c.departures_fit.result = search rules in
    let within : AreWithin (plan_by o extras.times) (length found.pairs.items) = subst (λ (p : Plan). AreWithin p (length found.pairs.items)) plan (λ i inside. c.departures_fit.ensures.0 fits i (omega (arith, inside, c.len-2.ensures, found.pairs.ok.0))) in
    let nodes = pairs_are_nodes given.0.graph.nodes _ found.pairs.items given.1.starts_denoted in
    let whole = given_is_sound DenotesPairs _ _ _ given.0 found.pairs.items given.1 in
    let queries = c.deref-2.ensures.value ∙ c.in-Ok-pair_queries.ensures ∙ ap (λ (p : Plan). pair_problems p 0 c.deref.result.now) plan ∙ ap (λ (xs : List (ℕ × ℕ)). pair_problems (plan_by o extras.times) 0 xs) c.deref.ensures.value in
    record {
      can = record {
        problems = subst (AreProblems found.road) (sym queries) (pairs_are_posed given.0 found.road o.direction given.2 whole (plan_by o extras.times) found.pairs.items nodes.0 within);
        options_are = c.requires;
      };
    }

pub report_all-answered-requires-clause-sound : goal.report_all-answered-requires-clause-sound
report_all-answered-requires-clause-sound g c κs lent =
    let made = c.road_for_pairs-road in
    rw (c.deref-3.ensures.value, ← c.deref-2.ensures.value) (lent_ready c.deref-2.result.now c.args.options.now c.in_ok-files.files.road made.result c.as_run.result made.ensures.road made.ensures.run c.as_run.ensures)

pub report_all-answered-requires-clause-run : goal.report_all-answered-requires-clause-run
report_all-answered-requires-clause-run g c κs lent =
    let made = c.road_for_pairs-road in
    let same = lent_road c.in_ok-files.files.road made.result c.as_run.result made.ensures.road c.as_run.ensures in
    let o = c.args.options.now in
    let given = c.in_ok-files.ensures.given in
    let found = c.in_ok-files.files in
    let gr = reading g.G.Device.seen c.args.gr.now c.read_pairs.new.gr in
    let starts = reading g.P.Device.seen c.args.p2p.now c.read_pairs.new.p2p in
    let extras = extras_in c.in-Ok.extras in
    let plan = c.schedule_by-schedule.ensures.plan in
    let fits : IsTrue c.departures_fit.result = search rules in
    let within : AreWithin (plan_by o extras.times) (length found.pairs.items) = subst (λ (p : Plan). AreWithin p (length found.pairs.items)) plan (λ i inside. c.departures_fit.ensures.0 fits i (omega (arith, inside, c.len-2.ensures, found.pairs.ok.0))) in
    let nodes = pairs_are_nodes given.0.graph.nodes _ found.pairs.items given.1.starts_denoted in
    let whole = given_is_sound DenotesPairs _ _ _ given.0 found.pairs.items given.1 in
    let queries = c.deref-3.ensures.value ∙ c.in-Ok-pair_queries.ensures ∙ ap (λ (p : Plan). pair_problems p 0 c.deref.result.now) plan ∙ ap (λ (xs : List (ℕ × ℕ)). pair_problems (plan_by o extras.times) 0 xs) c.deref.ensures.value in
    let shows = c.shown_by-shown.ensures in
    let shape = shape_of c.shown_by-shown.result in
    let chosen = ap (λ (s : Shape). s.chosen) c.shown_by-shown.ensures in
    let alone : Aids = record { layout = None } in
    subst (λ (r : Road). MayReportAll r c.deref-3.result.now o shape alone) (sym same) (record {
      reportable = record {
        problems = subst (AreProblems found.road) (sym queries) (pairs_are_posed given.0 found.road o.direction given.2 whole (plan_by o extras.times) found.pairs.items nodes.0 within);
        few = subst (λ qs. length qs ≤ 1000000) (sym queries) (few_pairs given.0 found.road o.direction given.2 whole (plan_by o extras.times) found.pairs.items nodes.1);
        few_nodes = few_nodes given.0 found.road o.direction given.2 whole;
        shown = shown_for found.road.network shape _ _ _ _ c.nodes.ensures.nodes chosen c.in-Ok.ensures.extras.nodes;
      };
      options_are = c.requires;
      asked = shows ∙ ap (λ (shape : Shape). shape_by c.args.options.now shape.chosen) (sym shows);
      aids = record { layout = tt };
    })

pub returns : goal.returns
returns g c =
    let o = c.args.options.now in
    let given = c.in_ok-files.ensures.given in
    let found = c.in_ok-files.files in
    let gr = reading g.G.Device.seen c.args.gr.now c.read_pairs.new.gr in
    let starts = reading g.P.Device.seen c.args.p2p.now c.read_pairs.new.p2p in
    let others = optional_files c.read_pairs.new.tp c.read_extras.new.times c.read_extras.new.asked in
    let files = files_of gr starts g.T.Device.seen c.args.others.now others in
    let road = road_there (pair_asks o) g.T.Device.seen gr starts c.args.others.now others given.0 found.pairs.items given.1 c.in_ok-files.ensures.gr_borne c.in_ok-files.ensures.p2p_borne c.in_ok-files.ensures.tp_borne in
    let many : c.len.result ≡ length found.pairs.items = omega (arith, c.len.ensures, found.pairs.ok.0) in
    let size : c.nodes.result ≡ given.0.graph.nodes = c.nodes.ensures.nodes ∙ ap (λ (r : Roads). r.nodes) given.2.network in
    let extras = extras_in c.in-Ok.extras in
    let extra = extras_for _ (length found.pairs.items) _ given.0.graph.nodes files.extras extras many size c.in-Ok.ensures.extras in
    let sound : AreSound (pair_asks o) files given.0 found.pairs.items extras = record { road = road; extra = extra } in
    let plan = c.schedule_by-schedule.ensures.plan in
    let fits : IsTrue c.departures_fit.result = search rules in
    let within : AreWithin (plan_by o extras.times) (length found.pairs.items) = subst (λ (p : Plan). AreWithin p (length found.pairs.items)) plan (λ i inside. c.departures_fit.ensures.0 fits i (omega (arith, inside, c.len-2.ensures, found.pairs.ok.0))) in
    let nodes = pairs_are_nodes given.0.graph.nodes _ found.pairs.items given.1.starts_denoted in
    let whole = given_is_sound DenotesPairs _ _ _ given.0 found.pairs.items given.1 in
    let queries = c.deref-3.ensures.value ∙ c.in-Ok-pair_queries.ensures ∙ ap (λ (p : Plan). pair_problems p 0 c.deref.result.now) plan ∙ ap (λ (xs : List (ℕ × ℕ)). pair_problems (plan_by o extras.times) 0 xs) c.deref.ensures.value in
    let first = g.W.Device.seen c.args.out.now in
    let now = g.W.Device.seen c.report_all-answered.new.out in
    let chosen = ap (λ (s : Shape). s.chosen) c.shown_by-shown.ensures in
    let made = c.road_for_pairs-road in
    let same = lent_road found.road made.result c.as_run.result made.ensures.road c.as_run.ensures in
    let written = subst (λ (r : Road). WritesAll o (shape_of c.shown_by-shown.result) r c.deref-3.result.now first now c.report_all-answered.result) same c.report_all-answered.ensures in
    record {
      answered = answered (pair_asks o) files given.0 found.pairs.items extras sound within found.road given.2 _ chosen c.deref-3.result.now queries first now c.report_all-answered.result written.ok;
      failed = failed (pair_asks o) files given.0 found.pairs.items extras sound within found.road given.2 _ chosen c.deref-3.result.now queries (cuts_short o) first now c.report_all-answered.result written.err;
    }

pub returns-then-not-departures_fit : goal.returns-then-not-departures_fit
returns-then-not-departures_fit g c =
    let o = c.args.options.now in
    let given = c.in_ok-files.ensures.given in
    let found = c.in_ok-files.files in
    let gr = reading g.G.Device.seen c.args.gr.now c.read_pairs.new.gr in
    let starts = reading g.P.Device.seen c.args.p2p.now c.read_pairs.new.p2p in
    let others = optional_files c.read_pairs.new.tp c.read_extras.new.times c.read_extras.new.asked in
    let files = files_of gr starts g.T.Device.seen c.args.others.now others in
    let road = road_there (pair_asks o) g.T.Device.seen gr starts c.args.others.now others given.0 found.pairs.items given.1 c.in_ok-files.ensures.gr_borne c.in_ok-files.ensures.p2p_borne c.in_ok-files.ensures.tp_borne in
    let many : c.len.result ≡ length found.pairs.items = omega (arith, c.len.ensures, found.pairs.ok.0) in
    let size : c.nodes.result ≡ given.0.graph.nodes = c.nodes.ensures.nodes ∙ ap (λ (r : Roads). r.nodes) given.2.network in
    let extras = extras_in c.in-Ok.extras in
    let extra = extras_for _ (length found.pairs.items) _ given.0.graph.nodes files.extras extras many size c.in-Ok.ensures.extras in
    let sound : AreSound (pair_asks o) files given.0 found.pairs.items extras = record { road = road; extra = extra } in
    let plan = c.schedule_by-schedule.ensures.plan in
    let late : AreWithin (plan_by o extras.times) (length found.pairs.items) → ⊥ =
    λ within. let fits : IsTrue c.departures_fit.result = c.departures_fit.ensures.1 (λ i inside. subst (λ (p : Plan). AreWithin p (length found.pairs.items)) (sym plan) within i (omega (arith, inside, c.len-2.ensures, found.pairs.ok.0))) in search rules
    in record { answered = tt; failed = (record { given = given.0; found = found.pairs.items; extras = extras; sound = sound; late = late }, refl) }

-- all files were read
pub returns-in-Err-pair_queries : goal.returns-in-Err-pair_queries
returns-in-Err-pair_queries g c =
    let o = c.args.options.now in
    let given = c.in_ok-files.ensures.given in
    let found = c.in_ok-files.files in
    let gr = reading g.G.Device.seen c.args.gr.now c.read_pairs.new.gr in
    let starts = reading g.P.Device.seen c.args.p2p.now c.read_pairs.new.p2p in
    let others = optional_files c.read_pairs.new.tp c.read_extras.new.times c.read_extras.new.asked in
    let files = files_of gr starts g.T.Device.seen c.args.others.now others in
    let road = road_there (pair_asks o) g.T.Device.seen gr starts c.args.others.now others given.0 found.pairs.items given.1 c.in_ok-files.ensures.gr_borne c.in_ok-files.ensures.p2p_borne c.in_ok-files.ensures.tp_borne in
    let many : c.len.result ≡ length found.pairs.items = omega (arith, c.len.ensures, found.pairs.ok.0) in
    let size : c.nodes.result ≡ given.0.graph.nodes = c.nodes.ensures.nodes ∙ ap (λ (r : Roads). r.nodes) given.2.network in
    let extras = extras_in c.in-Ok.extras in
    let extra = extras_for _ (length found.pairs.items) _ given.0.graph.nodes files.extras extras many size c.in-Ok.ensures.extras in
    let sound : AreSound (pair_asks o) files given.0 found.pairs.items extras = record { road = road; extra = extra } in
    rw c.from-in-Err-pair_queries.ensures (record { answered = tt; failed = (inl (refl, refl, inr (all_read (pair_asks o) files given.0 found.pairs.items extras sound))) })
