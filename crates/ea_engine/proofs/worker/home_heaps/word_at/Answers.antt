use Rattle.std.proofs.Common.{◌≡◌, ℕ, ◌+◌, ◌-◌, ◌*◌, ◌/◌, ◌%◌, ◌<◌, sym, ◌∙◌, ap, subst, arith, mul_comm}
use Rattle.std.proofs.Math.Nat.{add-mod_right, mod-add-div}
use Rattle.std.proofs.lemmas.Nat.{mod-mul-add}
use Rattle.ea_engine.proofs.worker.home_heaps.word_at.Goals as goal

-- the heap modulo the number of heaps
heap_of : (k s h t q : ℕ) → h < k + 1 → t + (k + 1) * q + h ≡ s + (k + 1) → (s + k * t) % (k + 1) ≡ h
heap_of k s h t q low e =
    let whole : s + k * t + (k + 1) ≡ (t + q) * (k + 1) + h = grind arith in
    sym (add-mod_right (s + k * t) (k + 1)) ∙ (ap (λ n. n % (k + 1)) whole ∙ mod-mul-add (t + q) (k + 1) h low)

heap_by : (heaps s h : ℕ) → h < heaps → (s + (heaps - 1) * ((s + heaps - h) % heaps)) % heaps ≡ h
heap_by heaps s h low =
    let k = heaps - 1 in
    let n = s + heaps - h in
    let same : k + 1 ≡ heaps = omega (arith, low) in
    let parts = mod-add-div n heaps in
    let behind : n % heaps + (k + 1) * (n / heaps) + h ≡ s + (k + 1) = omega (arith, parts, ap (λ m. m * (n / heaps)) same, same, low) in
    subst (λ m. (s + k * (n % heaps)) % m ≡ h) same (heap_of k s h (n % heaps) (n / heaps) (omega (arith, same, low)) behind)

pub returns : goal.returns
returns c =
    let k = c.args.heaps - 1 in
    let t = (c.args.step + c.args.heaps - c.args.heap) % c.args.heaps in
    let turned : c.args.step + k * t ≡ t * k + c.args.step = omega (arith, mul_comm k t) in
    record {
      draws = heap_by c.args.heaps c.args.step c.args.heap c.requires.0;
      leads = ap (λ n. n % k) turned ∙ mod-mul-add t k c.args.step (omega (arith, c.requires.1));
    }
