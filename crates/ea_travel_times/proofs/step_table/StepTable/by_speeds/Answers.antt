use Rattle.std.proofs.Common.{◌∙◌, ap, arith, sym, subst, ℕ, List, take, drop}
use Rattle.ea_travel_times.specs.Speeds.{AreRunSums}
use Rattle.ea_travel_times.specs.Timetables.{run_of}
use Rattle.ea_travel_times.proofs.RunSums.{run_sums}
use Rattle.ea_travel_times.proofs.step_table.StepTable.by_speeds.Goals as goal

pub arrive_by_speeds-requires-clause-speeds : goal.arrive_by_speeds-requires-clause-speeds
arrive_by_speeds-requires-clause-speeds c =
    let steps = c.steps_from-steps.ensures ∙ ap (λ (xs : List (ℕ × ℕ)). take c.args.count (drop c.args.first xs)) c.deref.ensures.value in
    let sums = c.sums_from-sums.ensures ∙ ap (λ (xs : List ℕ). take c.args.count (drop c.args.first xs)) c.deref-2.ensures.value in
    record {
      speeds = rw (c.steps_from-steps.ensures, c.deref.ensures.value) c.requires.class.1;
      sums_are = subst (λ (xs : List (ℕ × ℕ)). AreRunSums xs c.sums_from-sums.result.now) (sym steps)
          (subst (λ (xs : List ℕ). AreRunSums (run_of c.args.self.now.list.items c.args.first c.args.count) xs) (sym sums)
          (run_sums c.args.period c.args.self.now.list.items c.args.self.now.sums.items c.args.first c.args.count c.args.self.now.summed c.requires.class.0 c.requires.class.1));
    }

pub steps_from-steps-requires : goal.steps_from-steps-requires
steps_from-steps-requires c = omega (arith, c.requires.class.0, c.deref.ensures.len)

pub sums_from-sums-requires : goal.sums_from-sums-requires
sums_from-sums-requires c = omega (arith, c.requires.class.0, c.args.self.now.summed.count, c.deref-2.ensures.len)

pub returns : goal.returns
returns c = rw (c.steps_from-steps.ensures, c.deref.ensures.value) at c.arrive_by_speeds.ensures
