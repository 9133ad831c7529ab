use Rattle.std.proofs.Common.{◌∙◌, ap, sym, subst, ℕ, List, take, drop}
use Rattle.ea_travel_times.specs.Departures.{IsLatest}
use Rattle.ea_travel_times.specs.Speeds.{AreRunSums, AreSpeeds, IsArrivalBySpeeds, speed_at}
use Rattle.ea_travel_times.specs.Timetables.{run_of}
use Rattle.ea_travel_times.proofs.RunSums.{run_sums}
use Rattle.ea_travel_times.proofs.latest_steps.by_speeds.Goals as goal

pub latest_by_speeds-requires-clause-speeds : goal.latest_by_speeds-requires-clause-speeds
latest_by_speeds-requires-clause-speeds c =
    let steps = c.steps_from-steps.ensures ∙ ap (λ (xs : List (ℕ × ℕ)). take c.args.count (drop c.args.first xs)) c.deref.ensures.value in
    let sums = c.sums_from-sums.ensures ∙ ap (λ (xs : List ℕ). take c.args.count (drop c.args.first xs)) c.deref-2.ensures.value in
    record {
      speeds = subst (λ (xs : List (ℕ × ℕ)). AreSpeeds c.args.period xs) (sym steps) c.requires.class.1;
      sums_are = subst (λ (xs : List (ℕ × ℕ)). AreRunSums xs c.sums_from-sums.result.now) (sym steps)
          (subst (λ (xs : List ℕ). AreRunSums (run_of c.args.table.now.list.items c.args.first c.args.count) xs) (sym sums)
          (run_sums c.args.period c.args.table.now.list.items c.args.table.now.sums.items c.args.first c.args.count c.args.table.now.summed c.requires.class.0 c.requires.class.1));
    }

pub returns : goal.returns
returns c =
    let steps = c.steps_from-steps.ensures ∙ ap (λ (xs : List (ℕ × ℕ)). take c.args.count (drop c.args.first xs)) c.deref.ensures.value in
    subst (λ (xs : List (ℕ × ℕ)). IsLatest (λ class. IsArrivalBySpeeds (speed_at xs c.args.period)) 0 c.args.weight c.args.arrival c.latest_by_speeds.result) steps c.latest_by_speeds.ensures
