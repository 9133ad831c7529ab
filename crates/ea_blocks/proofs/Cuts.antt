-- Texts that are cut after a line feed.
use Rattle.std.proofs.Common.{◌≡◌, ◌⊎◌, Bool, true, false, ℕ, suc, zero, ◌<◌, cond, List, [], ◌∷◌, ◌++◌, append_assoc, length, length-append, get_or, take, drop, refl, ap, sym, ◌∙◌, arith, inl, inr}
use Rattle.std.proofs.Math.ListN.{length-take}
use Rattle.std.proofs.Math.Seq.{drop-append_seam, take-append_seam}
use Rattle.std.proofs.lemmas.List.{get_or-take, get_or_append_left}
use Rattle.std.specs.Prelude.{◌==◌}
use Rattle.std.specs.List.{onto_first}
use Rattle.ea_bytes.specs.Text.{lines_of}
use Rattle.ea_blocks.specs.Streams.{EndsLine}

-- a Boolean is one of two
pub two_ways : (b : Bool) → (b ≡ true) ⊎ (b ≡ false)
two_ways true = inl refl
two_ways false = inr refl

-- a list of lines that isn't empty
abbrev AreSome : List (List ℕ) → Type 0
AreSome lines = (first : List ℕ) × (others : List (List ℕ)) × (lines ≡ first ∷ others)

onto_some : (b : ℕ) (lines : List (List ℕ)) → AreSome (onto_first b lines)
onto_some b [] = (b ∷ [], [], refl)
onto_some b (line ∷ lines) = (b ∷ line, lines, refl)

-- A text that has a byte has a line.
some_line : (b : ℕ) (bs : List ℕ) → AreSome (lines_of (b ∷ bs))
some_line b bs = elim (two_ways (b == 10)) [
  | inl is ↦ ([], lines_of bs, ap (λ t. cond t ([] ∷ lines_of bs) (onto_first b (lines_of bs))) is)
  | inr is ↦
      let some = onto_some b (lines_of bs) in
      (some.0, some.1, ap (λ t. cond t ([] ∷ lines_of bs) (onto_first b (lines_of bs))) is ∙ some.2)
]

onto_both : (b : ℕ) (xs ys : List (List ℕ)) → AreSome xs → onto_first b (xs ++ ys) ≡ onto_first b xs ++ ys
onto_both b xs ys some = rw (some.2) refl

front_some : (bs : List ℕ) (i : ℕ) → i < length bs → AreSome (lines_of (take (suc i) bs))
front_some [] i h = absurd (omega arith)
front_some (b ∷ bs) i h = some_line b (take i bs)

-- The lines up to a line feed, and those after it.
pub cut : (text : List ℕ) (i : ℕ) → i < length text → get_or text i 0 ≡ 10 → lines_of text ≡ lines_of (take (suc i) text) ++ lines_of (drop (suc i) text)
cut [] i h e = absurd (omega arith)
cut (b ∷ bs) zero h e = rw e refl
cut (b ∷ bs) (suc i) h e =
    let rest = cut bs i (omega arith) e in
    elim (two_ways (b == 10)) [
      | inl is ↦ rw is (ap (λ lines. [] ∷ lines) rest)
      | inr is ↦ rw is (ap (onto_first b) rest ∙ onto_both b (lines_of (take (suc i) bs)) (lines_of (drop (suc i) bs)) (front_some bs i (omega arith)))
    ]

-- A new line begins after a line feed.
pub ends_line : (text : List ℕ) (i : ℕ) → i < length text → get_or text i 0 ≡ 10 → EndsLine (take (suc i) text)
ends_line text i h e = λ more.
    let front = take (suc i) text in
    let all = front ++ more in
    let size : length front ≡ suc i = rw length-take (omega (arith, h)) in
    let here : get_or all i 0 ≡ 10 = get_or_append_left front more 0 i (omega (arith, size)) ∙ get_or-take (suc i) text i 0 (omega arith) ∙ e in
    cut all i (omega (arith, size, length-append front more)) here
    ∙ ap (λ l. lines_of l ++ lines_of (drop (suc i) all)) (ap (λ n. take n all) (sym size) ∙ take-append_seam front more)
    ∙ ap (λ l. lines_of front ++ lines_of l) (ap (λ n. drop n all) (sym size) ∙ drop-append_seam front more)

pub nothing_ends : EndsLine []
nothing_ends = λ more. refl

-- A text whose back ends a line.
pub both_end : (front back : List ℕ) → EndsLine front → EndsLine back → EndsLine (front ++ back)
both_end front back p q = λ more.
    ap lines_of (append_assoc front back more) ∙ p (back ++ more) ∙ ap (λ l. lines_of front ++ l) (q more)
    ∙ sym (append_assoc (lines_of front) (lines_of back) (lines_of more)) ∙ ap (λ l. l ++ lines_of more) (sym (p back))
