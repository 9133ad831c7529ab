use Rattle.std.proofs.Common.{rules, arith, suc, ap, ap₂, ◌≡◌, ◌∙◌, ◌+◌, ◌++◌, ◌∷◌, [], List, ℕ}
use Rattle.std.specs.Prelude.{vec_len}
use Rattle.ea_rank_command.specs.Generators.{generator_from, generators_from, seed_of_worker}
use Rattle.earliest.proofs.solver_choice.generators.Goals as goal

pub loop-i-preserved : goal.loop-i-preserved
loop-i-preserved c =
    let i = c.loop-i.i in
    let front = c.loop-i.invariant in
    let state : c.seed_from_u64.result ≡ generator_from (seed_of_worker c.args.seed i) = c.seed_from_u64.ensures ∙ ap (λ n. generator_from (seed_of_worker c.args.seed n)) c.from.ensures in
    let pushed = c.in_ok-push.ensures.items in
    let len : vec_len c.push.new.self ≡ i + 1 = search rules in
    let number : suc i ≡ i + 1 = omega arith in
    let items : c.push.new.self.items ≡ generators_from c.args.seed (i + 1) = pushed ∙ ap₂ (λ (xs : List (List ℕ)) (x : List ℕ). xs ++ x ∷ []) front.1 state ∙ ap (generators_from c.args.seed) number in
    (len, items)
