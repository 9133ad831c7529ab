use Rattle.std.proofs.Common.{◌≡◌, ◌≢◌, ℕ, ◌+◌, ◌-◌, ◌*◌, ◌%◌, ◌<◌, List, length, get_or, set, refl, ◌∙◌, arith, below_more, length-set, get_or-set_other, get_or-set_same}
use Rattle.std.proofs.lemmas.Bool.Decides.{nat_tests}
use Rattle.std.specs.Prelude.{◌==◌, if◌then◌else◌}
use Rattle.ea_engine.specs.Homes.{IsWordAt}
use Rattle.ea_engine.proofs.worker.home_heaps.Homing.new.Goals as goal
use Rattle.ea_engine.proofs.worker.home_heaps.Homing.new.Goals.{then-at-eq0, else-at-eq0}

-- what holds of the first words and of one more holds after that one was written
one_more : (P : ℕ → ℕ → Type 0) (words : List ℕ) (place word : ℕ) → place < length words → ((k : ℕ) → k < place → P k (get_or words k 0)) → P place word
    → (k : ℕ) → k < place + 1 → P k (get_or (set words place word) k 0)
one_more P words place word here before now =
    below_more (λ k. P k (get_or (set words place word) k 0)) place
    (λ k lower. let other : k ≢ place = omega arith in rw get_or-set_other (before k lower))
    (rw get_or-set_same now)

where_zero : (n a b : ℕ) → n ≡ 0 → a ≡ (if n == 0 then a else b)
where_zero n a b is = rw is refl

where_more : (n a b : ℕ) → (n ≡ 0 → ⊥) → b ≡ (if n == 0 then a else b)
where_more n a b more = grind (arith, nat_tests)

pub loop-place-preserved : goal.loop-place-preserved
loop-place-preserved g c =
    let inv = c.loop-place.invariant in
    let place = c.loop-place.place in
    let all = c.args.workers * c.args.heaps in
    let here : place < length c.loop-place.words = omega (arith, inv.len) in
    record {
      len = length-set c.loop-place.words place c.word_at.result ∙ inv.len;
      own = one_more (λ k word. IsWordAt all (if k % c.args.heaps == 0 then all - c.args.heaps else 0) (c.args.worker * c.args.heaps + k % c.args.heaps) word) _ _ _ here inv.own (record {
        draws = c.word_at.ensures.draws;
        leads = c.word_at.ensures.leads ∙ elim c.if-at-eq0.branch [
          | then-at-eq0 w ↦ w.step-is ∙ where_zero (place % c.args.heaps) _ 0 w.if-at-eq0.true
          | else-at-eq0 w ↦ w.step-is ∙ where_more (place % c.args.heaps) (all - c.args.heaps) 0 w.if-at-eq0.false
        ];
      });
    }

pub returns : goal.returns
returns g c =
    let inv = c.loop-place.invariant in
    record {
      below_is = refl;
      first = refl;
      all_heaps = refl;
      own = λ k lower. inv.own k (omega (arith, lower, c.loop-place-test.false));
    }
