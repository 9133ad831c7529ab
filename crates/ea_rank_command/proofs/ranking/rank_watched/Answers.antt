use Rattle.std.proofs.Common.{rules, ℕ, ◌≤◌, ◌<◌, false, length, refl, inl, inr, sym, ◌∙◌, subst, ap, arith}
use Rattle.std.specs.Prelude.{All, IfErr, IsTrue, None, OnOk}
use Rattle.std.proofs.lemmas.Result.{err_from_is_err_and}
use Rattle.ea_input.specs.Sources.{DenotesSources}
use Rattle.ea_load.specs.Files.{reading}
use Rattle.ea_load.specs.Starts.{AreWithin, run_problems}
use Rattle.ea_load.proofs.Denoting.{sources_are_nodes}
use Rattle.ea_base.specs.declared.direction.Direction.TheVariants.{Forward}
use Rattle.ea_load.specs.Posed.{AreProblems, times_on}
use Rattle.ea_load.specs.declared.answer_fault.AnswerFault.{AnswerFault}
use Rattle.ea_load.proofs.Outcomes.{all_read, answered, failed, files_failed, first_there, given_is_sound}
use Rattle.ea_load.proofs.Posing.{few_runs, run_is_posed}
use Rattle.ea_rank_command.specs.Ranks.{HasOneSource, IsRanking, IsRankingCut, heaps_of, rank_asks, rank_files, rank_plan}
use Rattle.ea_rank_command.proofs.Ranked.{alone, alone_sound, each_alone, on_ok, ranking_cuts}
use Rattle.ea_rank_command.proofs.ranking.rank_watched.Goals as goal

pub returns-in_err-files-clause-unranked : goal.returns-in_err-files-clause-unranked
returns-in_err-files-clause-unranked g c =
    let p = err_from_is_err_and c.from_residual.result c.from_residual.ensures.1 in
    let o = c.args.options.now in
    let gr = reading g.G.Device.seen c.args.gr.now c.read_run.new.gr in
    let ss = reading g.S.Device.seen c.args.ss.now c.read_run.new.ss in
    rw (p.1, p.2) (files_failed (rank_asks o) (rank_files gr ss g.T.Device.seen c.args.tp.now c.read_run.new.tp) _ _
    (first_there g.T.Device.seen (rank_asks o) gr ss (record { tp = c.args.tp.now; times = None; nodes = None }) (record { tp = c.read_run.new.tp; times = None; nodes = None }) _ c.in_err-files.ensures.fault refl refl))

pub run_queries-requires-clause-nodes : goal.run_queries-requires-clause-nodes
run_queries-requires-clause-nodes g c =
    let given = c.in_ok-files.ensures.given in
    let nodes = sources_are_nodes given.0.graph.nodes _ c.in_ok-files.files.sources.items given.1.starts_denoted in
    subst (All (λ node. 0 < node)) (sym c.deref.ensures.value) (λ k d lt. (nodes.0 k d lt).from_one)

pub rank_each-requires-clause-problems : goal.rank_each-requires-clause-problems
rank_each-requires-clause-problems g c =
    let given = c.in_ok-files.ensures.given in
    let files = c.in_ok-files.files in
    let o = c.args.options.now in
    let nodes = sources_are_nodes given.0.graph.nodes _ files.sources.items given.1.starts_denoted in
    let sound = given_is_sound DenotesSources _ _ _ given.0 files.sources.items given.1 in
    let fits : IsTrue c.departures_fit.result = search rules in
    let within : AreWithin (rank_plan o) (length files.sources.items) = λ i inside. c.departures_fit.ensures.0 fits i (omega (arith, inside, files.sources.ok.0)) in
    let queries = c.deref-2.ensures.value ∙ c.in_ok-queries.ensures ∙ ap (run_problems false (rank_plan o)) c.deref.ensures.value in
    subst (AreProblems files.road) (sym queries) (run_is_posed given.0 files.road Forward given.2 sound (rank_plan o) false files.sources.items nodes within)

pub rank_each-requires-clause-one : goal.rank_each-requires-clause-one
rank_each-requires-clause-one g c =
    let files = c.in_ok-files.files in
    let o = c.args.options.now in
    let queries = c.deref-2.ensures.value ∙ c.in_ok-queries.ensures ∙ ap (run_problems false (rank_plan o)) c.deref.ensures.value in
    subst (All HasOneSource) (sym queries) (each_alone (rank_plan o) files.sources.items)

pub rank_each-requires-clause-few : goal.rank_each-requires-clause-few
rank_each-requires-clause-few g c =
    let given = c.in_ok-files.ensures.given in
    let files = c.in_ok-files.files in
    let o = c.args.options.now in
    let nodes = sources_are_nodes given.0.graph.nodes _ files.sources.items given.1.starts_denoted in
    let sound = given_is_sound DenotesSources _ _ _ given.0 files.sources.items given.1 in
    let queries = c.deref-2.ensures.value ∙ c.in_ok-queries.ensures ∙ ap (run_problems false (rank_plan o)) c.deref.ensures.value in
    subst (λ qs. length qs ≤ 1000000) (sym queries) (few_runs given.0 files.road Forward given.2 sound (rank_plan o) false files.sources.items nodes.1)

pub returns-clause-ranked : goal.returns-clause-ranked
returns-clause-ranked g c =
    let given = c.in_ok-files.ensures.given in
    let found = c.in_ok-files.files in
    let o = c.args.options.now in
    let fits : IsTrue c.departures_fit.result = search rules in
    let within : AreWithin (rank_plan o) (length found.sources.items) = λ i inside. c.departures_fit.ensures.0 fits i (omega (arith, inside, found.sources.ok.0)) in
    let queries = c.deref-2.ensures.value ∙ c.in_ok-queries.ensures ∙ ap (run_problems false (rank_plan o)) c.deref.ensures.value in
    let first = g.W.Device.seen c.args.out.now in
    let now = g.W.Device.seen c.rank_each.new.out in
    let gr = reading g.G.Device.seen c.args.gr.now c.read_run.new.gr in
    let ss = reading g.S.Device.seen c.args.ss.now c.read_run.new.ss in
    let files = rank_files gr ss g.T.Device.seen c.args.tp.now c.read_run.new.tp in
    let sound = alone_sound o g.T.Device.seen gr ss c.args.tp.now c.read_run.new.tp given.0 found.sources.items given.1 c.in_ok-files.ensures.gr_borne c.in_ok-files.ensures.ss_borne c.in_ok-files.ensures.tp_borne in
    let ok = subst (λ (h : ℕ). OnOk c.rank_each.result (IsRanking h o.seed found.road.network (times_on found.road) c.deref-2.result.now first now)) c.heaps_of_run-heaps.ensures.heaps c.rank_each.ensures.ok in
    answered (rank_asks o) files given.0 found.sources.items alone sound within found.road given.2 None refl c.deref-2.result.now queries first now c.rank_each.result (on_ok {E = AnswerFault} (IsRanking (heaps_of o) o.seed found.road.network (times_on found.road) c.deref-2.result.now first now) c.rank_each.result ok)

pub returns-clause-unranked : goal.returns-clause-unranked
returns-clause-unranked g c =
    let given = c.in_ok-files.ensures.given in
    let found = c.in_ok-files.files in
    let o = c.args.options.now in
    let fits : IsTrue c.departures_fit.result = search rules in
    let within : AreWithin (rank_plan o) (length found.sources.items) = λ i inside. c.departures_fit.ensures.0 fits i (omega (arith, inside, found.sources.ok.0)) in
    let queries = c.deref-2.ensures.value ∙ c.in_ok-queries.ensures ∙ ap (run_problems false (rank_plan o)) c.deref.ensures.value in
    let first = g.W.Device.seen c.args.out.now in
    let now = g.W.Device.seen c.rank_each.new.out in
    let gr = reading g.G.Device.seen c.args.gr.now c.read_run.new.gr in
    let ss = reading g.S.Device.seen c.args.ss.now c.read_run.new.ss in
    let files = rank_files gr ss g.T.Device.seen c.args.tp.now c.read_run.new.tp in
    let sound = alone_sound o g.T.Device.seen gr ss c.args.tp.now c.read_run.new.tp given.0 found.sources.items given.1 c.in_ok-files.ensures.gr_borne c.in_ok-files.ensures.ss_borne c.in_ok-files.ensures.tp_borne in
    let cut = subst (λ (h : ℕ). IfErr c.rank_each.result (IsRankingCut h o.seed found.road.network (times_on found.road) c.deref-2.result.now first now)) c.heaps_of_run-heaps.ensures.heaps c.rank_each.ensures.err in
    failed (rank_asks o) files given.0 found.sources.items alone sound within found.road given.2 None refl c.deref-2.result.now queries (λ nodes. ranking_cuts (heaps_of o) o.seed) first now c.rank_each.result cut

pub returns-then-not-departures_fit-clause-unranked : goal.returns-then-not-departures_fit-clause-unranked
returns-then-not-departures_fit-clause-unranked g c =
    let given = c.in_ok-files.ensures.given in
    let found = c.in_ok-files.files in
    let o = c.args.options.now in
    let gr = reading g.G.Device.seen c.args.gr.now c.read_run.new.gr in
    let ss = reading g.S.Device.seen c.args.ss.now c.read_run.new.ss in
    let late : AreWithin (rank_plan o) (length found.sources.items) → ⊥ =
    λ within. let fits : IsTrue c.departures_fit.result = c.departures_fit.ensures.1 (λ i inside. within i (omega (arith, inside, found.sources.ok.0))) in search rules
    in (
      record {
        given = given.0;
        found = found.sources.items;
        extras = alone;
        sound = alone_sound o g.T.Device.seen gr ss c.args.tp.now c.read_run.new.tp given.0 found.sources.items given.1 c.in_ok-files.ensures.gr_borne c.in_ok-files.ensures.ss_borne c.in_ok-files.ensures.tp_borne;
        late = late;
      },
      refl,
    )

-- all files were read
pub returns-in_err-queries-clause-unranked : goal.returns-in_err-queries-clause-unranked
returns-in_err-queries-clause-unranked g c =
    let p = err_from_is_err_and c.from_residual-in_err-queries.result c.from_residual-in_err-queries.ensures.1 in
    let given = c.in_ok-files.ensures.given in
    let o = c.args.options.now in
    let gr = reading g.G.Device.seen c.args.gr.now c.read_run.new.gr in
    let ss = reading g.S.Device.seen c.args.ss.now c.read_run.new.ss in
    let sound = alone_sound o g.T.Device.seen gr ss c.args.tp.now c.read_run.new.tp given.0 c.in_ok-files.files.sources.items given.1 c.in_ok-files.ensures.gr_borne c.in_ok-files.ensures.ss_borne c.in_ok-files.ensures.tp_borne in
    rw (p.1, p.2) (inl (refl, refl, inr (all_read (rank_asks o) (rank_files gr ss g.T.Device.seen c.args.tp.now c.read_run.new.tp) given.0 c.in_ok-files.files.sources.items alone sound)))
