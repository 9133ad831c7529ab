use Rattle.std.proofs.Common.{rules, arith, ap, sym, subst, ◌≡◌, ◌∙◌, ◌+◌, List, ℕ, length}
use Rattle.std.specs.Prelude.{vec_len}
use Rattle.ea_engine.specs.declared.worker.home_heaps.Homing.{Homing}
use Rattle.ea_engine.specs.Homes.{IsAtHome}
use Rattle.ea_engine.proofs.CounterLemmas.{index_push}
use Rattle.ea_rank_command.specs.Generators.{generator_from, seed_of_worker}
use Rattle.earliest.specs.Workers.{AreAtHome}
use Rattle.earliest.proofs.solver_choice.homing_generators.Goals as goal

pub loop-i-preserved : goal.loop-i-preserved
loop-i-preserved c =
    let seed = c.args.seed in
    let settings = c.args.settings in
    let front = c.loop-i.rngs.items in
    let before = c.loop-i.invariant in
    let state : c.seed_from_u64-below.result ≡ generator_from (seed_of_worker seed c.loop-i.i) = c.seed_from_u64-below.ensures ∙ ap (λ n. generator_from (seed_of_worker seed n)) c.from.ensures in
    let place : length front ≡ c.loop-i.i = omega (arith, c.loop-i.rngs.ok.0, before.0) in
    let one : IsAtHome (generator_from (seed_of_worker seed c.loop-i.i)) c.loop-i.i settings.workers settings.heaps c.new.result = subst (λ below. IsAtHome below c.loop-i.i settings.workers settings.heaps c.new.result) state c.new.ensures in
    let len : vec_len c.push.new.self ≡ c.loop-i.i + 1 = search rules in (
      len,
      subst (AreAtHome seed settings) (sym c.in_ok-push.ensures.items)
          (index_push (λ i (rng : Homing (List ℕ)). IsAtHome (generator_from (seed_of_worker seed i)) i settings.workers settings.heaps rng) front c.new.result before.1
          (subst (λ i. IsAtHome (generator_from (seed_of_worker seed i)) i settings.workers settings.heaps c.new.result) (sym place) one)),
    )
