-- Rows, one place at a time.
use Rattle.std.proofs.Common.{◌≡◌, ℕ, List, [], ◌∷◌, ◌++◌, length, get_or, refl, sym, ◌∙◌, ap, arith, length-append, append_assoc, below_more}
use Rattle.std.proofs.Math.Seq.{get_or-append_seam}
use Rattle.std.proofs.lemmas.List.{get_or_append_left, append-nil}
use Rattle.ea_engine.specs.declared.run.row.Place.{Place}
use Rattle.ea_engine.specs.declared.worker.means.Seats.{Seats}
use Rattle.ea_engine.specs.Rows.{IsSeated, IsSeatedRow}

get_or-append_at : {X : Type 0} (xs : List X) (y d : X) (n : ℕ) → length xs ≡ n → get_or (xs ++ y ∷ []) n d ≡ y
get_or-append_at xs y d n e = rw (sym e) (get_or-append_seam xs y [] d)

pub IsSeatedRow-push : {K R T E : Type 0} (ss : List (Seats K E)) (rs : List R) (ts : List T) (row : List (Place K R T E)) (s : Seats K E) (r : R) (t : T) (p : Place K R T E)
    → length ss ≡ length row → length rs ≡ length row → length ts ≡ length row → IsSeatedRow ss rs ts row → IsSeated s r t p → IsSeatedRow (ss ++ s ∷ []) (rs ++ r ∷ []) (ts ++ t ∷ []) (row ++ p ∷ [])
IsSeatedRow-push ss rs ts row s r t p ls lr lt before here k s0 r0 t0 d less =
    let P : ℕ → Type 0 = λ j. IsSeated (get_or (ss ++ s ∷ []) j s0) (get_or (rs ++ r ∷ []) j r0) (get_or (ts ++ t ∷ []) j t0) (get_or (row ++ p ∷ []) j d) in
    below_more P (length row)
    (λ j l. rw (get_or_append_left ss (s ∷ []) s0 j (omega arith), get_or_append_left rs (r ∷ []) r0 j (omega arith), get_or_append_left ts (t ∷ []) t0 j (omega arith), get_or_append_left row (p ∷ []) d j l) (before j s0 r0 t0 d l))
    (rw (get_or-append_at ss s s0 (length row) ls, get_or-append_at rs r r0 (length row) lr, get_or-append_at ts t t0 (length row) lt, get_or-append_at row p d (length row) refl) here)
    k (omega (arith, length-append row (p ∷ [])))

-- a list of which one more item was taken
pub taken_more : {X : Type 0} (all done : List X) (x : X) (rest rest' : List X) → all ≡ done ++ rest → rest ≡ x ∷ rest' → all ≡ (done ++ x ∷ []) ++ rest'
taken_more all done x rest rest' e f = e ∙ ap (λ ys. done ++ ys) f ∙ sym (append_assoc done (x ∷ []) rest')

pub all_taken : {X : Type 0} (all done rest : List X) → all ≡ done ++ rest → length rest ≡ 0 → done ≡ all
all_taken all done [] e z = sym (append-nil done) ∙ sym e
all_taken all done (x ∷ rest) e z = absurd (omega (arith, z))
