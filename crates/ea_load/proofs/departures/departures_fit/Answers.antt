use Rattle.std.proofs.Common.{ℕ, List, Bor, ap}
use Rattle.std.specs.Prelude.{option_map}
use Rattle.ea_load.proofs.Departing.{own_times_fit}
use Rattle.ea_load.proofs.departures.departures_fit.Goals as goal

pub returns-in-Some : goal.returns-in-Some
returns-in-Some c =
    let there = ap (option_map (λ (times : Bor (List ℕ)). times.now)) c.in-Some.is in
    own_times_fit _ c.in-Some.times.now c.args.count c.args.schedule.depart c.args.schedule.gap there c.requires.times _ c.times_fit.ensures
