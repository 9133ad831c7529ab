use Rattle.std.proofs.Common.{◌∙◌, ap, subst, ℕ, List, take, drop}
use Rattle.ea_travel_times.specs.Departures.{IsLatest}
use Rattle.ea_travel_times.specs.Points.{IsArrivalByPoints}
use Rattle.ea_travel_times.proofs.latest_steps.by_points.Goals as goal

pub returns : goal.returns
returns c =
    let steps = c.steps_from-steps.ensures ∙ ap (λ (xs : List (ℕ × ℕ)). take c.args.count (drop c.args.first xs)) c.deref.ensures.value in
    subst (λ (xs : List (ℕ × ℕ)). IsLatest (λ class. IsArrivalByPoints c.args.period xs) 0 c.args.weight c.args.arrival c.latest_by_points.result) steps c.latest_by_points.ensures
