-- Lists of copies.
use Rattle.std.proofs.Common.{◌≡◌, ℕ, ◌<◌, List, length, get_or, replicate, ap, ◌∙◌, arith}
use Rattle.std.proofs.lemmas.List.{get_or-replicate, length-replicate}

pub copy_at : {X : Type 0} (x : X) (n : ℕ) (xs : List X) → xs ≡ replicate n x → (k : ℕ) (d : X) → k < length xs → get_or xs k d ≡ x
copy_at x n xs same k d lt =
    let inside : k < n = omega (arith, lt, ap length same, length-replicate n x) in
    ap (λ ys. get_or ys k d) same ∙ get_or-replicate n k x d inside
