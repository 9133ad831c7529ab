use Rattle.std.proofs.Common.{ap, refl, sym, ◌∙◌}
use Rattle.ea_base.specs.declared.timetable.RawKind.TheVariants.{Plain}
use Rattle.ea_travel_times.specs.StepLists.{steps_in}
use Rattle.ea_travel_times.specs.TimetableLists.{kind_of}
use Rattle.ea_travel_times.proofs.Latest.{few_fits, latest_in_class, latest_in_list}
use Rattle.ea_travel_times.proofs.timetables.TimetablesTravelTimes.latest.Goals as goal

pub returns-then-class-eq0 : goal.returns-then-class-eq0
returns-then-class-eq0 c =
    let kinds = c.args.self.now.list.items in
    latest_in_list kinds (steps_in c.args.self.now.steps) c.args.class Plain (ap (λ n. kind_of kinds n) c.if-class-eq0.true) refl c.args.weight c.args.arrival c.latest_by.result c.latest_by.ensures

pub latest_by-requires-2-clause-kind : goal.latest_by-requires-2-clause-kind
latest_by-requires-2-clause-kind c = few_fits (steps_in c.args.self.now.steps) c.kind_at-kind.result (sym c.has_steps.ensures ∙ c.if-has_steps.false) c.kind_at-kind.ensures.fits

pub returns : goal.returns
returns c =
    latest_in_list c.args.self.now.list.items (steps_in c.args.self.now.steps) c.args.class c.kind_at-kind.result c.kind_at-kind.ensures.is (sym c.has_steps.ensures ∙ c.if-has_steps.false) c.args.weight c.args.arrival c.latest_by-2.result c.latest_by-2.ensures

pub returns-then-has_steps : goal.returns-then-has_steps
returns-then-has_steps c =
    latest_in_class c.args.self.now.list.items (steps_in c.args.self.now.steps) c.args.class c.kind_at-kind.result c.kind_at-kind.ensures.is c.args.weight c.args.arrival c.latest_by_steps.result c.latest_by_steps.ensures
