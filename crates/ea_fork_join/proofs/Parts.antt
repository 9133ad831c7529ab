-- What holds of the first part of a slice and of the rest holds of the whole slice.
use mathlib.Core.Path.{◌≡◌, refl, sym, subst, ap, ◌∙◌}
use mathlib.Core.List.{List, ◌++◌}
use mathlib.Core.Logic.{⊎_elim}
use Prim.Native.Nat.{ℕ, min, zero, suc, ◌+◌, ◌-◌, ◌*◌, ◌/◌, ◌%◌, ◌<◌, ◌≤◌}
use native.Mathlib.Nat.{add-mul, one-mul, suc-mul, zero-mul, mul-le-mul_right}
use native.Mathlib.Omega.{arith}
use lib.ListN.{length, get_or, take, drop}
use denote.Ref.{MutBor}
use denote.Param.Members.{Shared}
use Rattle.std.proofs.lemmas.List.{take_all, drop-append-le, take-append-le, drop-drop, drop_at, length-drop, length-take, length-append, get_or-take, get_or-drop}
use Rattle.std.proofs.lemmas.Bool.{cases_lt}
use Rattle.std.proofs.lemmas.Nat.{div-add-mod', mod-mul-add, mod_below}
use Rattle.std.specs.Fork.{slice_chunk, IsChunk, ChangesChunks, IsInChunk}
use Rattle.std.specs.Fork.Halves.{IsChunkCount, AllChunks, IsChunked, ChangesByChunks}

ends_Below : (n h size : ℕ) → n < h → n * size + size ≤ h * size
ends_Below n h size l =
    let up : n + 1 ≤ h = omega arith in
    omega (arith, mul-le-mul_right size up, add-mul n 1 size, one-mul size)

chunk_front : {X : Type 0} (size n h : ℕ) (xs ys : List X) → length xs ≡ h * size → n < h → slice_chunk (xs ++ ys) size n ≡ slice_chunk xs size n
chunk_front size n h xs ys e l =
    let room : n * size + size ≤ length xs = omega (arith, ends_Below n h size l) in
    ap (take size) (drop-append-le (n * size) xs ys (omega arith)) ∙ take-append-le size (drop (n * size) xs) ys (omega (arith, length-drop (n * size) xs))

chunk_back : {X : Type 0} (size n h : ℕ) (xs ys : List X) → length xs ≡ h * size → slice_chunk (xs ++ ys) size (h + n) ≡ slice_chunk ys size n
chunk_back size n h xs ys e =
    ap (λ k. take size (drop k (xs ++ ys))) (add-mul h n size) ∙ ap (take size) (sym (drop-drop (n * size) (h * size) (xs ++ ys)) ∙ ap (drop (n * size)) (drop_at xs ys (h * size) e))

below_half : (n h size : ℕ) → n * size < h * size → n < h
below_half n h size l = ⊎_elim (λ a. a) (λ b. omega (arith, mul-le-mul_right size b)) (cases_lt n h)

is_first : (n size m : ℕ) → n * size < m → m ≤ size → n ≡ 0
is_first zero size m l r = refl
is_first (suc n) size m l r = omega (arith, suc-mul n size)

first_chunk : {X : Type 0} (size : ℕ) (xs : List X) → length xs ≤ size → slice_chunk xs size 0 ≡ xs
first_chunk size xs l = ap (λ k. take size (drop k xs)) (zero-mul size) ∙ take_all size xs l

-- how the count that `div_ceil` gives compares with len
pub spans : (count len size : ℕ) → 0 < size → count ≡ len / size + min 1 (len % size) → (len ≤ count * size) × (count * size < len + size)
spans count len size p is =
    let q = len / size in let r = len % size in
    let a : q * size + r ≡ len = div-add-mod' len size in
    let b : r < size = mod_below len size p in
    ⊎_elim
    (λ h. let e : count ≡ q + 1 = omega arith in let w = ap (λ n. n * size) e ∙ add-mul q 1 size in let o = one-mul size in (omega arith, omega arith))
    (λ h. let e : count ≡ q = omega arith in let w = ap (λ n. n * size) e in (omega arith, omega arith))
    (cases_lt 0 r)

pub some_count : (count size len : ℕ) → 0 < len → len ≤ count * size → 0 < count
some_count zero size len l h = omega (arith, zero-mul size)
some_count (suc n) size len l h = omega arith

pub covers : (count len size : ℕ) → 0 < len → 0 < size → count ≡ len / size + min 1 (len % size) → IsChunkCount count size len
covers count len size l p e = let s = spans count len size p e in (some_count count size len l s.0, p, s.0, s.1)

pub starts_inside : (n count size len : ℕ) → n < count → count * size < len + size → n * size < len
starts_inside n count size len l k = omega (arith, ends_Below n count size l)

pub covers_one : (count size len : ℕ) → count ≡ 1 → IsChunkCount count size len → (0 < len) × (len ≤ size)
covers_one count size len e k =
    let z : count * size ≡ size = ap (λ n. n * size) e ∙ one-mul size in
    (omega arith, omega arith)

pub low_inside : (count low size len : ℕ) → low < count → IsChunkCount count size len → low * size < len
low_inside count low size len l k = omega (arith, ends_Below low count size l)

pub covers_low : (low size len : ℕ) → 0 < low → 0 < size → len ≡ low * size → IsChunkCount low size len
covers_low low size len l p e = (l, p, omega arith, omega arith)

pub covers_high : (count low size len all : ℕ) → low < count → len + low * size ≡ all → IsChunkCount count size all → IsChunkCount (count - low) size len
covers_high count low size len all l e k =
    let is : low + (count - low) ≡ count = omega arith in
    let sum : count * size ≡ low * size + (count - low) * size = sym (ap (λ n. n * size) is) ∙ add-mul low (count - low) size in
    (omega arith, k.1, omega arith, omega arith)

module _ {X : Type 0} (P : ℕ → List X → Type 0) (base size : ℕ) where
  pub at_only : (xs : List X) → 0 < length xs → length xs ≤ size → AllChunks P base size xs → P base xs
  at_only xs p l k =
      let z : base + 0 * size ≡ base = omega (arith, zero-mul size) in
      subst (λ b. P b xs) z (subst (P (base + 0 * size)) (first_chunk size xs l) (k 0 (omega (arith, zero-mul size))))

  pub at_front : (h : ℕ) (all xs ys : List X) → all ≡ xs ++ ys → length xs ≡ h * size → AllChunks P base size all → AllChunks P base size xs
  at_front h all xs ys e l k n u =
      subst (P (base + n * size)) (ap (λ l. slice_chunk l size n) e ∙ chunk_front size n h xs ys l (below_half n h size (omega arith))) (k n (omega (arith, ap length e, length-append xs ys)))

  pub at_back : (h up : ℕ) (all xs ys : List X) → all ≡ xs ++ ys → length xs ≡ h * size → up ≡ base + h * size → AllChunks P base size all → AllChunks P up size ys
  at_back h up all xs ys e l w k n u =
      let z : base + (h + n) * size ≡ up + n * size = omega (arith, add-mul h n size) in
      subst (λ b. P b (slice_chunk ys size n)) z (subst (P (base + (h + n) * size)) (ap (λ l. slice_chunk l size (h + n)) e ∙ chunk_back size n h xs ys l) (k (h + n) (omega (arith, ap length e, length-append xs ys, add-mul h n size))))

  pub ready_halves : (count low : ℕ) (all xs ys : List X) → 0 < low → low < count → all ≡ xs ++ ys → length xs ≡ low * size → IsChunked P base size count all → IsChunked P base size low xs × IsChunked P (base + low * size) size (count - low) ys
  ready_halves count low all xs ys p l e n r =
      let sum : length ys + low * size ≡ length all = omega (arith, ap length e, length-append xs ys) in (
        record { covers = covers_low low size _ p r.covers.1 n; room = omega arith; each = at_front low all xs ys e n r.each },
        record { covers = covers_high count low size _ _ l sum r.covers; room = omega arith; each = at_back low _ all xs ys e n refl r.each },
      )

pub moved : {X : Type 0} (R : ℕ → X → X → Type 0) {i j : ℕ} {x x' y y' : X} → i ≡ j → x ≡ x' → y ≡ y' → R i x y → R j x' y'
moved R {i} {j} {x} {x'} {y} {y'} a b c r = subst (λ k. R k x' y') a (subst (λ u. R i u y') b (subst (R i x) c r))

module _ {X : Type 0} (R : ℕ → List X → List X → Type 0) (base size : ℕ) where
  pub by_only : (xs ys : List X) → length xs ≤ size → length ys ≡ length xs → R base xs ys → ChangesByChunks R base size xs ys
  by_only xs ys l e r =
      record {
        len = e;
        each = λ n u. subst (λ k. R (base + k * size) (slice_chunk xs size k) (slice_chunk ys size k)) (sym (is_first n size (length xs) u l))
            (moved R (omega (arith, zero-mul size)) (sym (first_chunk size xs l)) (sym (first_chunk size ys (omega arith))) r);
      }

  pub by_both : (h up : ℕ) (all xs ys xs' ys' : List X) → 0 < size → all ≡ xs ++ ys → length xs ≡ h * size → up ≡ base + h * size → ChangesByChunks R base size xs xs' → ChangesByChunks R up size ys ys' → ChangesByChunks R base size all (xs' ++ ys')
  by_both h up all xs ys xs' ys' s e l w a b =
      let l' : length xs' ≡ h * size = a.len ∙ l in
      record {
        len = omega (arith, ap length e, length-append xs ys, length-append xs' ys');
        each = λ n u. ⊎_elim
            (λ p. moved R refl (sym (ap (λ l. slice_chunk l size n) e ∙ chunk_front size n h xs ys l p)) (sym (chunk_front size n h xs' ys' l' p))
            (a.each n (omega (arith, ends_Below n h size p))))
            (λ p. let m = n - h in let is : h + m ≡ n = omega arith in
            let sum : n * size ≡ h * size + m * size = sym (ap (λ k. k * size) is) ∙ add-mul h m size in
            subst (λ k. R (base + k * size) (slice_chunk all size k) (slice_chunk (xs' ++ ys') size k)) is
            (moved R (omega (arith, add-mul h m size)) (sym (ap (λ l. slice_chunk l size (h + m)) e ∙ chunk_back size m h xs ys l)) (sym (chunk_back size m h xs' ys' l'))
            (b.each m (omega (arith, ap length e, length-append xs ys)))))
            (cases_lt n h);
      }

pub is_chunk : {X : Type 0} (xs : List X) (size n : ℕ) → 0 < size → n * size < length xs → IsChunk xs size (n * size) (slice_chunk xs size n)
is_chunk xs size n p l =
    let a = length-take size (drop (n * size) xs) in let b = length-drop (n * size) xs in
    record {
      value = refl;
      start_is_multiple = subst (λ k. k % size ≡ 0) {x = n * size + 0} (omega arith) (mod-mul-add n size 0 p);
      len = omega arith;
      full_size = λ z. let q = length xs / size in let e : q * size ≡ length xs = omega (arith, div-add-mod' (length xs) size) in omega (arith, ends_Below n q size (below_half n q size (omega arith)));
      nonempty = omega arith;
      at_most_size = omega arith;
      in_bounds = omega arith;
      elements = λ k d h. get_or-take size (drop (n * size) xs) k d (omega arith) ∙ get_or-drop (n * size) xs k d;
    }

pub in_chunk : {F X : Type 0} (g : Shared F (ℕ × (MutBor (List X) × Unit {0})) (Unit {0} × (MutBor (List X) × Unit {0}))) (f : F) (size : ℕ) (xs ys : List X) → 0 < size → ChangesChunks g f size xs ys → (i : ℕ) (d : X) → i < length xs → IsInChunk g f size xs ys i d
in_chunk g f size xs ys p k i d l =
    let n = i / size in let o = i % size in
    let adds : n * size + o ≡ i = div-add-mod' i size in
    let low : o < size = mod_below i size p in
    let u : n * size < length xs = omega arith in
    let it = k n u in
    let a = length-take size (drop (n * size) xs) in let b = length-drop (n * size) xs in
    let read : (zs : List _) → get_or (slice_chunk zs size n) o d ≡ get_or zs i d = λ zs. get_or-take size (drop (n * size) zs) o d low ∙ (get_or-drop (n * size) zs o d ∙ ap (λ j. get_or zs j d) adds) in
    record {
      start = n * size;
      offset = o;
      start_plus_offset = adds;
      argument = it.argument;
      argument_is = subst (IsChunk xs size (n * size)) (sym it.argument_is) (is_chunk xs size n p u);
      offset_in_chunk = omega (arith, ap length it.argument_is);
      old_element = ap (λ zs. get_or zs o d) it.argument_is ∙ read xs;
      after_call = it.after_call;
      call = it.call;
      new_element = ap (λ zs. get_or zs o d) it.left ∙ read ys;
    }
