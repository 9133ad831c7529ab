use Rattle.std.proofs.Common.{sym, subst}
use Rattle.ea_base.specs.declared.timetable.RawKind.{RawKind}
use Rattle.ea_travel_times.specs.Departures.{IsLatest}
use Rattle.ea_travel_times.specs.Timetables.{KindAnswers}
use Rattle.ea_travel_times.proofs.latest_departures.latest_by.Goals as goal

pub returns-in-Plain : goal.returns-in-Plain
returns-in-Plain c = subst (λ (k : RawKind). IsLatest (λ class. KindAnswers k) 0 c.args.weight c.args.arrival c.latest_plain.result) (sym c.in-Plain.is) c.latest_plain.ensures

pub returns-in-Every : goal.returns-in-Every
returns-in-Every c = subst (λ (k : RawKind). IsLatest (λ class. KindAnswers k) 0 c.args.weight c.args.arrival c.latest_every.result) (sym c.in-Every.is) c.latest_every.ensures

pub returns-in-Closed : goal.returns-in-Closed
returns-in-Closed c = subst (λ (k : RawKind). IsLatest (λ class. KindAnswers k) 0 c.args.weight c.args.arrival c.latest_closed.result) (sym c.in-Closed.is) c.latest_closed.ensures

pub returns-in-Rush : goal.returns-in-Rush
returns-in-Rush c = subst (λ (k : RawKind). IsLatest (λ class. KindAnswers k) 0 c.args.weight c.args.arrival c.latest_rush.result) (sym c.in-Rush.is) c.latest_rush.ensures
