use Rattle.std.proofs.Common.{◌≡◌, ◌∙◌, ◌+◌, [], ℕ, List, ap, arith, drop, length, length-append, length-drop, ◌∷◌, rules, sym, subst}
use Rattle.ea_check.specs.Runs.{IsRun, TakesTime}
use Rattle.ea_check.proofs.Runs.{begins_with_time, no_run, rest_takes, run_on}
use Rattle.ea_check.proofs.form.plain_lines.take_times.Goals as goal

pub lines-init : goal.lines-init
lines-init c =
    let first = c.in-Some.ensures in
    let none = c.clear.ensures.items in
    let here : c.from.result ≡ c.args.first + length c.clear.new.self.items = omega (arith, c.from.ensures, ap (λ (l : List ℕ). length l) none) in
    record {
      inside = omega (arith, first.inside);
      few = omega (arith, ap (λ (l : List ℕ). length l) none);
      run = subst (λ (ts : List ℕ). IsRun c.args.way c.args.first ts []) (sym none) (no_run c.args.way c.args.first);
      here = subst (λ n. TakesTime c.args.way n c.in-Some.time c.args.text.now c.in-Some.size) here first;
    }

pub lines-preserved : goal.lines-preserved
lines-preserved c =
    let was = c.lines.invariant in
    let pushed = c.in-Ok.ensures.items in
    let one : length c.push.new.self.items ≡ length c.lines.times.items + 1 = ap (λ (l : List ℕ). length l) pushed ∙ length-append c.lines.times.items (c.lines.time ∷ []) in
    let node : c.from-in-lines.result + c.len-in-lines.result + 1 ≡ c.args.first + length c.push.new.self.items = omega (arith, c.from-in-lines.ensures, c.len-in-lines.ensures, one, c.lines.times.ok.0) in
    let next = rest_takes c.args.way (c.args.first + length c.push.new.self.items) _ c.in-Some-first_time.next c.args.text.now (c.lines.bytes + c.lines.size) c.in-Some-first_time.len node c.in-Some-first_time.ensures in
    record {
      inside = omega (arith, next.inside, length-drop (c.lines.bytes + c.lines.size) c.args.text.now, was.inside);
      few = omega (arith, one, c.lines-test.true);
      run = run_on c.args.way c.args.first c.lines.times.items c.push.new.self.items c.lines.time c.args.text.now c.lines.bytes c.lines.size pushed was.run was.here;
      here = next;
    }

pub returns-after-lines : goal.returns-after-lines
returns-after-lines c = record {
  inside = search rules;
  run = search rules;
  quiet = begins_with_time c.args.way _ c.lines.time (drop c.lines.bytes c.args.text.now) c.lines.size c.lines.invariant.here;
  few = search rules;
}

pub returns-in_default-first_time : goal.returns-in_default-first_time
returns-in_default-first_time c = record {
  inside = search rules;
  run = search rules;
  quiet = begins_with_time c.args.way _ c.lines.time (drop c.lines.bytes c.args.text.now) c.lines.size c.lines.invariant.here;
  few = search rules;
}

pub returns-in_default-push : goal.returns-in_default-push
returns-in_default-push c = record {
  inside = search rules;
  run = search rules;
  quiet = begins_with_time c.args.way _ c.lines.time (drop c.lines.bytes c.args.text.now) c.lines.size c.lines.invariant.here;
  few = search rules;
}
