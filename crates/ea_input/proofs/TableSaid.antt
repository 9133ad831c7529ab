-- What a line of a timetable says, by the grammar and by the checks.
use Rattle.std.proofs.Common.{◌≡◌, inl, inr, ℕ, ◌+◌, ◌-◌, ◌<◌, ◌^◌, ◌&&◌, min, Bool, true, false, cond, refl, ap, sym, ◌∙◌, subst, arith, List, [], ◌∷◌, length, ltb, lit<}
use Rattle.std.specs.Prelude.{Option, Some, None, Result, Ok, Err, codes, ◌==◌}
use Rattle.std.specs.Str.{bytes_eq}
use Rattle.std.proofs.lemmas.Bool.{ltb-true, ltb-false, lt-ltb, le-ltb}
use Rattle.ea_bytes.specs.Text.{is_comment, is_silent}
use Rattle.ea_blocks.specs.Fault.{◌>>=◌, numeral, within}
use Rattle.ea_input.specs.Range.{IsNumberIn}
use Rattle.ea_input.specs.Listing.{after_kinds}
use Rattle.ea_input.specs.Table.{Table, IsTableProblem, IsKind, IsKindLine, IsAssignedLine, TableRead, size_read, size_of, problem_line, two_read, interval_within, numbered, plain_of, every_within, every_read, every_of, closed_within, closed_read, closed_of, rush_within, rush_read, rush_of, speeds_within, speeds_read, speeds_of, trips_within, trips_read, trips_of, points_within, points_read, points_of, kind_of, kind_line, assigned_within, assigned_of, assigned_line, step_line, run_in, due_in, table_line}
use Rattle.ea_input.specs.StepLines.{Run, due, has_steps, is_last, first_step, arrives, least_time, most_time, least_value, most_value, IsStepLine, step_within, step_read, step_of}
use Rattle.ea_input.proofs.Numbered.{bind_ok, guard_ok, number_found, numeral_of, within_of}
use Rattle.ea_input.proofs.Said.{same_word, choice_ok}
use Rattle.ea_input.proofs.Items.{after_kinds_ok, after_kinds_of}
use Rattle.ea_blocks.specs.declared.fault.FaultKind.{FaultKind}
use Rattle.ea_blocks.specs.declared.fault.FaultKind.TheVariants.{TooFewLines, TooManyLines}
use Rattle.ea_base.specs.declared.timetable.RawKind.{RawKind}
use Rattle.ea_base.specs.declared.timetable.RawKind.TheVariants.{Plain, Every, Closed, Rush, Speeds, Trips, Points}
use Rattle.ea_input.specs.declared.timetable.TableSize.{TableSize}
use Rattle.ea_input.specs.declared.timetable.TableLine.{TableLine}
use Rattle.ea_input.specs.declared.timetable.TableLine.TheVariants.{Silent, Problem, Kind, Assigned, Step}

-- ---- numbers

two_read_ok : (a b : List ℕ) (r : ℕ × ℕ) → two_read a b ≡ Ok r → (numeral a ≡ Ok r.0) × (numeral b ≡ Ok r.1)
unfolding two_read
two_read_ok a b r e =
    let first = bind_ok (numeral a) _ r e in
    let second = bind_ok (numeral b) _ r first.2 in
    let same : (first.0, second.0) ≡ r = cc (second.2) in
    subst (λ (x : ℕ × ℕ). (numeral a ≡ Ok x.0) × (numeral b ≡ Ok x.1)) same (first.1, second.1)

two_read_of : (a b : List ℕ) (m n : ℕ) → numeral a ≡ Ok m → numeral b ≡ Ok n → two_read a b ≡ Ok (m, n)
unfolding two_read
two_read_of a b m n p q = rw (p, q) refl

-- A number that has to be one number is it.
found_at : (number m r : ℕ) (j : List ℕ) → number < 2 ^ 64 → numeral j ≡ Ok m → within number number m ≡ Ok r → IsNumberIn number number j number
found_at number m r j small is fits =
    let found = number_found number number j m r small is fits in
    let same : r ≡ number = omega (arith, found.1, found.2) in
    subst (λ (x : ℕ). IsNumberIn number number j x) same found

interval_ok : (b e : List ℕ) (m n : ℕ) (r : ℕ × ℕ) → numeral b ≡ Ok m → numeral e ≡ Ok n → interval_within m n ≡ Ok r → IsNumberIn 0 281474976710654 b r.0 × IsNumberIn (r.0 + 1) 281474976710655 e r.1
unfolding interval_within
interval_ok b e m n r p q h =
    let lo = bind_ok (within 0 281474976710654 m) _ r h in
    let hi = bind_ok (within (lo.0 + 1) 281474976710655 n) _ r lo.2 in
    let same : (lo.0, hi.0) ≡ r = cc (hi.2) in
    subst (λ (x : ℕ × ℕ). IsNumberIn 0 281474976710654 b x.0 × IsNumberIn (x.0 + 1) 281474976710655 e x.1) same
    (number_found 0 281474976710654 b m lo.0 (lit< tt) p lo.1, number_found (lo.0 + 1) 281474976710655 e n hi.0 (lit< tt) q hi.1)

interval_of : (b e : List ℕ) (lo hi : ℕ) → IsNumberIn 0 281474976710654 b lo → IsNumberIn (lo + 1) 281474976710655 e hi → interval_within lo hi ≡ Ok (lo, hi)
unfolding interval_within
interval_of b e lo hi p q = rw (within_of 0 281474976710654 lo p.1 p.2, within_of (lo + 1) 281474976710655 hi q.1 q.2) refl

-- ---- kinds

abbrev Numbered : ℕ → List ℕ → Type 0
Numbered number j = IsNumberIn number number j number

plain_ok : (number before : ℕ) (j name : List ℕ) (others : List (List ℕ)) (kind : RawKind) → number < 2 ^ 64 → name ≡ codes "plain" → plain_of number j others ≡ Ok kind → Numbered number j × IsKind before (name ∷ others) kind
unfolding plain_of numbered
plain_ok number before j name [] kind small w e =
    let n = bind_ok (numbered number j) (λ n. Ok Plain) kind e in
    let m = bind_ok (numeral j) (λ m. within number number m) n.0 n.1 in
    let same : Plain ≡ kind = cc (n.2) in
    (found_at number m.0 n.0 j small m.1 m.2, subst (λ (k : RawKind). IsKind before (name ∷ []) k) same w)
plain_ok number before j name (x ∷ rest) kind small w e = cc

every_ok : (number before : ℕ) (j name : List ℕ) (others : List (List ℕ)) (kind : RawKind) → number < 2 ^ 64 → name ≡ codes "every" → every_of number j others ≡ Ok kind → Numbered number j × IsKind before (name ∷ others) kind
unfolding every_of every_read every_within
every_ok number before j name [] kind small w e = cc
every_ok number before j name (p ∷ []) kind small w e = cc
every_ok number before j name (p ∷ o ∷ []) kind small w e =
    let m = bind_ok (numeral j) _ kind e in
    let n = bind_ok (two_read p o) _ kind m.2 in
    let numbers = two_read_ok p o n.0 n.1 in
    let at = bind_ok (within number number m.0) _ kind n.2 in
    let period = bind_ok (within 1 4294967296 n.0.0) _ kind at.2 in
    let offset = bind_ok (within 0 (period.0 - 1) n.0.1) _ kind period.2 in
    let same : Every period.0 offset.0 ≡ kind = cc (offset.2) in
    let is = number_found 1 4294967296 p n.0.0 period.0 (lit< tt) numbers.0 period.1 in
    (found_at number m.0 at.0 j small m.1 at.1, subst (λ (k : RawKind). IsKind before (name ∷ p ∷ o ∷ []) k) same (w, is, number_found 0 (period.0 - 1) o n.0.1 offset.0 (omega (arith, is.2)) numbers.1 offset.1))
every_ok number before j name (p ∷ o ∷ x ∷ rest) kind small w e = cc

closed_ok : (number before : ℕ) (j name : List ℕ) (others : List (List ℕ)) (kind : RawKind) → number < 2 ^ 64 → name ≡ codes "closed" → closed_of number j others ≡ Ok kind → Numbered number j × IsKind before (name ∷ others) kind
unfolding closed_of closed_read closed_within
closed_ok number before j name [] kind small w e = cc
closed_ok number before j name (b ∷ []) kind small w e = cc
closed_ok number before j name (b ∷ f ∷ []) kind small w e =
    let m = bind_ok (numeral j) _ kind e in
    let n = bind_ok (two_read b f) _ kind m.2 in
    let numbers = two_read_ok b f n.0 n.1 in
    let at = bind_ok (within number number m.0) _ kind n.2 in
    let interval = bind_ok (interval_within n.0.0 n.0.1) _ kind at.2 in
    let same : Closed interval.0.0 interval.0.1 ≡ kind = cc (interval.2) in
    let is = interval_ok b f n.0.0 n.0.1 interval.0 numbers.0 numbers.1 interval.1 in
    (found_at number m.0 at.0 j small m.1 at.1, subst (λ (k : RawKind). IsKind before (name ∷ b ∷ f ∷ []) k) same (w, is.0, is.1))
closed_ok number before j name (b ∷ f ∷ x ∷ rest) kind small w e = cc

rush_ok : (number before : ℕ) (j name : List ℕ) (others : List (List ℕ)) (kind : RawKind) → number < 2 ^ 64 → name ≡ codes "rush" → rush_of number j others ≡ Ok kind → Numbered number j × IsKind before (name ∷ others) kind
unfolding rush_of rush_read rush_within
rush_ok number before j name [] kind small w e = cc
rush_ok number before j name (b ∷ []) kind small w e = cc
rush_ok number before j name (b ∷ f ∷ []) kind small w e = cc
rush_ok number before j name (b ∷ f ∷ x ∷ []) kind small w e =
    let m = bind_ok (numeral j) _ kind e in
    let n = bind_ok (two_read b f) _ kind m.2 in
    let numbers = two_read_ok b f n.0 n.1 in
    let more = bind_ok (numeral x) _ kind n.2 in
    let at = bind_ok (within number number m.0) _ kind more.2 in
    let interval = bind_ok (interval_within n.0.0 n.0.1) _ kind at.2 in
    let extra = bind_ok (within 0 4294967296 more.0) _ kind interval.2 in
    let same : Rush interval.0.0 interval.0.1 extra.0 ≡ kind = cc (extra.2) in
    let is = interval_ok b f n.0.0 n.0.1 interval.0 numbers.0 numbers.1 interval.1 in
    (found_at number m.0 at.0 j small m.1 at.1, subst (λ (k : RawKind). IsKind before (name ∷ b ∷ f ∷ x ∷ []) k) same (w, is.0, is.1, number_found 0 4294967296 x more.0 extra.0 (lit< tt) more.1 extra.1))
rush_ok number before j name (b ∷ f ∷ x ∷ y ∷ rest) kind small w e = cc

speeds_ok : (number before : ℕ) (j name : List ℕ) (others : List (List ℕ)) (kind : RawKind) → number < 2 ^ 64 → name ≡ codes "speeds" → speeds_of number before j others ≡ Ok kind → Numbered number j × IsKind before (name ∷ others) kind
unfolding speeds_of speeds_read speeds_within
speeds_ok number before j name [] kind small w e = cc
speeds_ok number before j name (p ∷ []) kind small w e = cc
speeds_ok number before j name (p ∷ c ∷ []) kind small w e =
    let m = bind_ok (numeral j) _ kind e in
    let n = bind_ok (two_read p c) _ kind m.2 in
    let numbers = two_read_ok p c n.0 n.1 in
    let at = bind_ok (within number number m.0) _ kind n.2 in
    let period = bind_ok (within 1 4294967296 n.0.0) _ kind at.2 in
    let count = bind_ok (within 1 65536 n.0.1) _ kind period.2 in
    let same : Speeds period.0 before count.0 ≡ kind = cc (count.2) in
    (found_at number m.0 at.0 j small m.1 at.1, subst (λ (k : RawKind). IsKind before (name ∷ p ∷ c ∷ []) k) same (w, number_found 1 4294967296 p n.0.0 period.0 (lit< tt) numbers.0 period.1, number_found 1 65536 c n.0.1 count.0 (lit< tt) numbers.1 count.1, refl))
speeds_ok number before j name (p ∷ c ∷ x ∷ rest) kind small w e = cc

trips_ok : (number before : ℕ) (j name : List ℕ) (others : List (List ℕ)) (kind : RawKind) → number < 2 ^ 64 → name ≡ codes "trips" → trips_of number before j others ≡ Ok kind → Numbered number j × IsKind before (name ∷ others) kind
unfolding trips_of trips_read trips_within
trips_ok number before j name [] kind small w e = cc
trips_ok number before j name (p ∷ []) kind small w e = cc
trips_ok number before j name (p ∷ c ∷ []) kind small w e =
    let m = bind_ok (numeral j) _ kind e in
    let n = bind_ok (two_read p c) _ kind m.2 in
    let numbers = two_read_ok p c n.0 n.1 in
    let at = bind_ok (within number number m.0) _ kind n.2 in
    let period = bind_ok (within 0 4294967296 n.0.0) _ kind at.2 in
    let count = bind_ok (within 1 65536 n.0.1) _ kind period.2 in
    let same : Trips period.0 before count.0 ≡ kind = cc (count.2) in
    (found_at number m.0 at.0 j small m.1 at.1, subst (λ (k : RawKind). IsKind before (name ∷ p ∷ c ∷ []) k) same (w, number_found 0 4294967296 p n.0.0 period.0 (lit< tt) numbers.0 period.1, number_found 1 65536 c n.0.1 count.0 (lit< tt) numbers.1 count.1, refl))
trips_ok number before j name (p ∷ c ∷ x ∷ rest) kind small w e = cc

points_ok : (number before : ℕ) (j name : List ℕ) (others : List (List ℕ)) (kind : RawKind) → number < 2 ^ 64 → name ≡ codes "points" → points_of number before j others ≡ Ok kind → Numbered number j × IsKind before (name ∷ others) kind
unfolding points_of points_read points_within
points_ok number before j name [] kind small w e = cc
points_ok number before j name (p ∷ []) kind small w e = cc
points_ok number before j name (p ∷ c ∷ []) kind small w e =
    let m = bind_ok (numeral j) _ kind e in
    let n = bind_ok (two_read p c) _ kind m.2 in
    let numbers = two_read_ok p c n.0 n.1 in
    let at = bind_ok (within number number m.0) _ kind n.2 in
    let period = bind_ok (within 0 4294967296 n.0.0) _ kind at.2 in
    let count = bind_ok (within 1 65536 n.0.1) _ kind period.2 in
    let same : Points period.0 before count.0 ≡ kind = cc (count.2) in
    (found_at number m.0 at.0 j small m.1 at.1, subst (λ (k : RawKind). IsKind before (name ∷ p ∷ c ∷ []) k) same (w, number_found 0 4294967296 p n.0.0 period.0 (lit< tt) numbers.0 period.1, number_found 1 65536 c n.0.1 count.0 (lit< tt) numbers.1 count.1, refl))
points_ok number before j name (p ∷ c ∷ x ∷ rest) kind small w e = cc

named_ok : (number before : ℕ) (j name : List ℕ) (others : List (List ℕ)) (kind : RawKind) → number < 2 ^ 64 → kind_of number before (j ∷ name ∷ others) ≡ Ok kind → Numbered number j × IsKind before (name ∷ others) kind
unfolding kind_of
named_ok number before j name others kind small e = elim (choice_ok (bytes_eq name (codes "plain")) _ _ (Ok kind) e) [
  | inl p ↦ plain_ok number before j name others kind small (same_word name (codes "plain") p.0) p.1
  | inr p ↦ elim (choice_ok (bytes_eq name (codes "every")) _ _ (Ok kind) p.1) [
    | inl q ↦ every_ok number before j name others kind small (same_word name (codes "every") q.0) q.1
    | inr q ↦ elim (choice_ok (bytes_eq name (codes "closed")) _ _ (Ok kind) q.1) [
      | inl r ↦ closed_ok number before j name others kind small (same_word name (codes "closed") r.0) r.1
      | inr r ↦ elim (choice_ok (bytes_eq name (codes "rush")) _ _ (Ok kind) r.1) [
        | inl s ↦ rush_ok number before j name others kind small (same_word name (codes "rush") s.0) s.1
        | inr s ↦ elim (choice_ok (bytes_eq name (codes "speeds")) _ _ (Ok kind) s.1) [
          | inl t ↦ speeds_ok number before j name others kind small (same_word name (codes "speeds") t.0) t.1
          | inr t ↦ elim (choice_ok (bytes_eq name (codes "trips")) _ _ (Ok kind) t.1) [
            | inl u ↦ trips_ok number before j name others kind small (same_word name (codes "trips") u.0) u.1
            | inr u ↦ elim (choice_ok (bytes_eq name (codes "points")) _ _ (Ok kind) u.1) [
              | inl v ↦ points_ok number before j name others kind small (same_word name (codes "points") v.0) v.1
              | inr v ↦ cc (v.1)
            ]
          ]
        ]
      ]
    ]
  ]
]

kind_ok : (number before : ℕ) (word : List ℕ) (fields : List (List ℕ)) (kind : RawKind) → number < 2 ^ 64 → word ≡ codes "k" → kind_of number before fields ≡ Ok kind → IsKindLine number before (word ∷ fields) kind
unfolding kind_of
kind_ok number before word [] kind small w e = cc
kind_ok number before word (j ∷ []) kind small w e = cc
kind_ok number before word (j ∷ name ∷ others) kind small w e = let is = named_ok number before j name others kind small e in (w, is.0, is.1)

-- ---- and back

at_of : (number : ℕ) (j : List ℕ) → number < 2 ^ 64 → Numbered number j → (numeral j ≡ Ok number) × (within number number number ≡ Ok number)
at_of number j small is = (numeral_of number number j number small is, within_of number number number is.1 is.2)

plain_takes : (number : ℕ) (j : List ℕ) → number < 2 ^ 64 → Numbered number j → plain_of number j [] ≡ Ok Plain
unfolding plain_of numbered
plain_takes number j small is = let at = at_of number j small is in rw (at.0, at.1) refl

every_takes : (number : ℕ) (j p o : List ℕ) (period offset : ℕ) → number < 2 ^ 64 → Numbered number j → IsNumberIn 1 4294967296 p period → IsNumberIn 0 (period - 1) o offset → every_of number j (p ∷ o ∷ []) ≡ Ok (Every period offset)
unfolding every_of every_read every_within
every_takes number j p o period offset small is first second =
    let at = at_of number j small is in
    rw (at.0, two_read_of p o period offset (numeral_of 1 4294967296 p period (lit< tt) first) (numeral_of 0 (period - 1) o offset (omega (arith, first.2)) second), at.1, within_of 1 4294967296 period first.1 first.2, within_of 0 (period - 1) offset second.1 second.2) refl

closed_takes : (number : ℕ) (j b f : List ℕ) (lo hi : ℕ) → number < 2 ^ 64 → Numbered number j → IsNumberIn 0 281474976710654 b lo → IsNumberIn (lo + 1) 281474976710655 f hi → closed_of number j (b ∷ f ∷ []) ≡ Ok (Closed lo hi)
unfolding closed_of closed_read closed_within
closed_takes number j b f lo hi small is first second =
    let at = at_of number j small is in
    rw (at.0, two_read_of b f lo hi (numeral_of 0 281474976710654 b lo (lit< tt) first) (numeral_of (lo + 1) 281474976710655 f hi (lit< tt) second), at.1, interval_of b f lo hi first second) refl

rush_takes : (number : ℕ) (j b f x : List ℕ) (lo hi extra : ℕ) → number < 2 ^ 64 → Numbered number j → IsNumberIn 0 281474976710654 b lo → IsNumberIn (lo + 1) 281474976710655 f hi → IsNumberIn 0 4294967296 x extra → rush_of number j (b ∷ f ∷ x ∷ []) ≡ Ok (Rush lo hi extra)
unfolding rush_of rush_read rush_within
rush_takes number j b f x lo hi extra small is first second third =
    let at = at_of number j small is in
    rw (at.0, two_read_of b f lo hi (numeral_of 0 281474976710654 b lo (lit< tt) first) (numeral_of (lo + 1) 281474976710655 f hi (lit< tt) second), numeral_of 0 4294967296 x extra (lit< tt) third, at.1, interval_of b f lo hi first second, within_of 0 4294967296 extra third.1 third.2) refl

speeds_takes : (number before : ℕ) (j p c : List ℕ) (period first count : ℕ) → number < 2 ^ 64 → Numbered number j → IsNumberIn 1 4294967296 p period → IsNumberIn 1 65536 c count → first ≡ before → speeds_of number before j (p ∷ c ∷ []) ≡ Ok (Speeds period first count)
unfolding speeds_of speeds_read speeds_within
speeds_takes number before j p c period first count small is one two begins =
    let at = at_of number j small is in
    rw (at.0, two_read_of p c period count (numeral_of 1 4294967296 p period (lit< tt) one) (numeral_of 1 65536 c count (lit< tt) two), at.1, within_of 1 4294967296 period one.1 one.2, within_of 1 65536 count two.1 two.2, begins) refl

trips_takes : (number before : ℕ) (j p c : List ℕ) (period first count : ℕ) → number < 2 ^ 64 → Numbered number j → IsNumberIn 0 4294967296 p period → IsNumberIn 1 65536 c count → first ≡ before → trips_of number before j (p ∷ c ∷ []) ≡ Ok (Trips period first count)
unfolding trips_of trips_read trips_within
trips_takes number before j p c period first count small is one two begins =
    let at = at_of number j small is in
    rw (at.0, two_read_of p c period count (numeral_of 0 4294967296 p period (lit< tt) one) (numeral_of 1 65536 c count (lit< tt) two), at.1, within_of 0 4294967296 period one.1 one.2, within_of 1 65536 count two.1 two.2, begins) refl

points_takes : (number before : ℕ) (j p c : List ℕ) (period first count : ℕ) → number < 2 ^ 64 → Numbered number j → IsNumberIn 0 4294967296 p period → IsNumberIn 1 65536 c count → first ≡ before → points_of number before j (p ∷ c ∷ []) ≡ Ok (Points period first count)
unfolding points_of points_read points_within
points_takes number before j p c period first count small is one two begins =
    let at = at_of number j small is in
    rw (at.0, two_read_of p c period count (numeral_of 0 4294967296 p period (lit< tt) one) (numeral_of 1 65536 c count (lit< tt) two), at.1, within_of 0 4294967296 period one.1 one.2, within_of 1 65536 count two.1 two.2, begins) refl

kind_takes : (number before : ℕ) (j : List ℕ) (fields : List (List ℕ)) (kind : RawKind) → number < 2 ^ 64 → Numbered number j → IsKind before fields kind → kind_of number before (j ∷ fields) ≡ Ok kind
unfolding kind_of
kind_takes number before j [] Plain small at is = absurd is
kind_takes number before j [] (Every p o) small at is = absurd is
kind_takes number before j [] (Closed lo hi) small at is = absurd is
kind_takes number before j [] (Rush lo hi extra) small at is = absurd is
kind_takes number before j [] (Speeds period first count) small at is = absurd is
kind_takes number before j [] (Trips period first count) small at is = absurd is
kind_takes number before j [] (Points period first count) small at is = absurd is
kind_takes number before j (name ∷ []) Plain small at is = rw is (plain_takes number j small at)
kind_takes number before j (name ∷ []) (Every p o) small at is = absurd is
kind_takes number before j (name ∷ []) (Closed lo hi) small at is = absurd is
kind_takes number before j (name ∷ []) (Rush lo hi extra) small at is = absurd is
kind_takes number before j (name ∷ []) (Speeds period first count) small at is = absurd is
kind_takes number before j (name ∷ []) (Trips period first count) small at is = absurd is
kind_takes number before j (name ∷ []) (Points period first count) small at is = absurd is
kind_takes number before j (name ∷ a ∷ []) Plain small at is = absurd is
kind_takes number before j (name ∷ a ∷ []) (Every p o) small at is = absurd is
kind_takes number before j (name ∷ a ∷ []) (Closed lo hi) small at is = absurd is
kind_takes number before j (name ∷ a ∷ []) (Rush lo hi extra) small at is = absurd is
kind_takes number before j (name ∷ a ∷ []) (Speeds period first count) small at is = absurd is
kind_takes number before j (name ∷ a ∷ []) (Trips period first count) small at is = absurd is
kind_takes number before j (name ∷ a ∷ []) (Points period first count) small at is = absurd is
kind_takes number before j (name ∷ a ∷ b ∷ []) Plain small at is = absurd is
kind_takes number before j (name ∷ a ∷ b ∷ []) (Every p o) small at is = rw (is.0) (every_takes number j a b p o small at is.1 is.2)
kind_takes number before j (name ∷ a ∷ b ∷ []) (Closed lo hi) small at is = rw (is.0) (closed_takes number j a b lo hi small at is.1 is.2)
kind_takes number before j (name ∷ a ∷ b ∷ []) (Rush lo hi extra) small at is = absurd is
kind_takes number before j (name ∷ a ∷ b ∷ []) (Speeds period first count) small at is = rw (is.0) (speeds_takes number before j a b period first count small at is.1 is.2 is.3)
kind_takes number before j (name ∷ a ∷ b ∷ []) (Trips period first count) small at is = rw (is.0) (trips_takes number before j a b period first count small at is.1 is.2 is.3)
kind_takes number before j (name ∷ a ∷ b ∷ []) (Points period first count) small at is = rw (is.0) (points_takes number before j a b period first count small at is.1 is.2 is.3)
kind_takes number before j (name ∷ a ∷ b ∷ c ∷ []) Plain small at is = absurd is
kind_takes number before j (name ∷ a ∷ b ∷ c ∷ []) (Every p o) small at is = absurd is
kind_takes number before j (name ∷ a ∷ b ∷ c ∷ []) (Closed lo hi) small at is = absurd is
kind_takes number before j (name ∷ a ∷ b ∷ c ∷ []) (Rush lo hi extra) small at is = rw (is.0) (rush_takes number j a b c lo hi extra small at is.1 is.2 is.3)
kind_takes number before j (name ∷ a ∷ b ∷ c ∷ []) (Speeds period first count) small at is = absurd is
kind_takes number before j (name ∷ a ∷ b ∷ c ∷ []) (Trips period first count) small at is = absurd is
kind_takes number before j (name ∷ a ∷ b ∷ c ∷ []) (Points period first count) small at is = absurd is
kind_takes number before j (name ∷ a ∷ b ∷ c ∷ d ∷ rest) Plain small at is = absurd is
kind_takes number before j (name ∷ a ∷ b ∷ c ∷ d ∷ rest) (Every p o) small at is = absurd is
kind_takes number before j (name ∷ a ∷ b ∷ c ∷ d ∷ rest) (Closed lo hi) small at is = absurd is
kind_takes number before j (name ∷ a ∷ b ∷ c ∷ d ∷ rest) (Rush lo hi extra) small at is = absurd is
kind_takes number before j (name ∷ a ∷ b ∷ c ∷ d ∷ rest) (Speeds period first count) small at is = absurd is
kind_takes number before j (name ∷ a ∷ b ∷ c ∷ d ∷ rest) (Trips period first count) small at is = absurd is
kind_takes number before j (name ∷ a ∷ b ∷ c ∷ d ∷ rest) (Points period first count) small at is = absurd is

-- ---- sizes and assignments

size_ok : (word : List ℕ) (fields numbers : List (List ℕ)) (size : TableSize) → word ≡ codes "p" → fields ≡ codes "tp" ∷ numbers → size_of numbers ≡ Ok size → IsTableProblem (word ∷ fields) size.kinds size.assigned
unfolding size_of size_read
size_ok word fields [] size w t e = cc
size_ok word fields (k ∷ []) size w t e = cc
size_ok word fields (k ∷ a ∷ []) size w t e =
    let p = bind_ok (numeral k) _ size e in
    let q = bind_ok (numeral a) _ size p.2 in
    let kinds = bind_ok (within 0 65535 p.0) _ size q.2 in
    let assigned = bind_ok (within 0 268435456 q.0) _ size kinds.2 in
    let same : record { kinds = kinds.0; assigned = assigned.0 } ≡ size = cc (assigned.2) in
    let is : IsTableProblem (word ∷ codes "tp" ∷ k ∷ a ∷ []) size.kinds size.assigned =
    subst (λ (s : TableSize). IsTableProblem (word ∷ codes "tp" ∷ k ∷ a ∷ []) s.kinds s.assigned) same (w, refl, number_found 0 65535 k p.0 kinds.0 (lit< tt) p.1 kinds.1, number_found 0 268435456 a q.0 assigned.0 (lit< tt) q.1 assigned.1) in
    subst (λ (xs : List (List ℕ)). IsTableProblem (word ∷ xs) size.kinds size.assigned) (sym t) is
size_ok word fields (k ∷ a ∷ x ∷ rest) size w t e = cc

assigned_ok : (arcs classes : ℕ) (word : List ℕ) (fields : List (List ℕ)) (entry : ℕ × ℕ) → arcs < 2 ^ 64 → classes < 2 ^ 64 → word ≡ codes "t" → assigned_of arcs classes fields ≡ Ok entry → IsAssignedLine arcs classes (word ∷ fields) entry
unfolding assigned_of assigned_within
assigned_ok arcs classes word [] entry small few w e = cc
assigned_ok arcs classes word (f ∷ []) entry small few w e = cc
assigned_ok arcs classes word (f ∷ j ∷ []) entry small few w e =
    let n = bind_ok (two_read f j) _ entry e in
    let numbers = two_read_ok f j n.0 n.1 in
    let arc = bind_ok (within 1 arcs n.0.0) _ entry n.2 in
    let class = bind_ok (within 0 classes n.0.1) _ entry arc.2 in
    let same : (arc.0, class.0) ≡ entry = cc (class.2) in
    subst (λ (x : ℕ × ℕ). IsAssignedLine arcs classes (word ∷ f ∷ j ∷ []) x) same (w, number_found 1 arcs f n.0.0 arc.0 small numbers.0 arc.1, number_found 0 classes j n.0.1 class.0 few numbers.1 class.1)
assigned_ok arcs classes word (f ∷ j ∷ x ∷ rest) entry small few w e = cc

assigned_takes : (arcs classes : ℕ) (f j : List ℕ) (entry : ℕ × ℕ) → arcs < 2 ^ 64 → classes < 2 ^ 64 → IsNumberIn 1 arcs f entry.0 → IsNumberIn 0 classes j entry.1 → assigned_of arcs classes (f ∷ j ∷ []) ≡ Ok entry
unfolding assigned_of assigned_within
assigned_takes arcs classes f j entry small few first second =
    rw (two_read_of f j entry.0 entry.1 (numeral_of 1 arcs f entry.0 small first) (numeral_of 0 classes j entry.1 few second), within_of 1 arcs entry.0 first.1 first.2, within_of 0 classes entry.1 second.1 second.2) refl

-- ---- steps

below_either : (b : Bool) (x y n : ℕ) → x < n → y < n → cond b x y < n
below_either true x y n p q = p
below_either false x y n p q = q

pub time_small : (run : Run) → most_time run < 2 ^ 64
unfolding most_time
time_small run =
    below_either run.class.trips _ _ (2 ^ 64)
    (below_either (run.class.period == 0) 281474976710655 (min (run.class.period - 1) 281474976710655) (2 ^ 64) (lit< tt) (omega arith))
    (below_either (has_steps run) (min (run.class.period - 1) 281474976710655) 0 (2 ^ 64) (omega arith) (lit< tt))

pub value_small : (run : Run) (time : ℕ) → most_value run time < 2 ^ 64
unfolding most_value
value_small run time =
    below_either run.class.trips _ _ (2 ^ 64)
    (below_either (is_last run && has_steps run && ltb 0 run.class.period) (min (run.class.period + arrives (first_step run) - time) 4294967296) 4294967296 (2 ^ 64) (omega arith) (lit< tt))
    (lit< tt)

step_ok : (run : Run) (word : List ℕ) (fields : List (List ℕ)) (step : ℕ × ℕ) → word ≡ codes "v" → step_of run fields ≡ Ok step → IsStepLine run (word ∷ fields) step
unfolding step_of step_read step_within
step_ok run word [] step w e = cc
step_ok run word (t ∷ []) step w e = cc
step_ok run word (t ∷ x ∷ []) step w e =
    let p = bind_ok (numeral t) _ step e in
    let q = bind_ok (numeral x) _ step p.2 in
    let time = bind_ok (within (least_time run) (most_time run) p.0) _ step q.2 in
    let value = bind_ok (within (least_value run time.0) (most_value run time.0) q.0) _ step time.2 in
    let same : (time.0, value.0) ≡ step = cc (value.2) in
    subst (λ (s : ℕ × ℕ). IsStepLine run (word ∷ t ∷ x ∷ []) s) same
    (w, number_found (least_time run) (most_time run) t p.0 time.0 (time_small run) p.1 time.1, number_found (least_value run time.0) (most_value run time.0) x q.0 value.0 (value_small run time.0) q.1 value.1)
step_ok run word (t ∷ x ∷ y ∷ rest) step w e = cc

step_takes : (run : Run) (t x : List ℕ) (step : ℕ × ℕ) → IsNumberIn (least_time run) (most_time run) t step.0 → IsNumberIn (least_value run step.0) (most_value run step.0) x step.1 → step_of run (t ∷ x ∷ []) ≡ Ok step
unfolding step_of step_read step_within
step_takes run t x step time value =
    rw (numeral_of (least_time run) (most_time run) t step.0 (time_small run) time, numeral_of (least_value run step.0) (most_value run step.0) x step.1 (value_small run step.0) value, within_of (least_time run) (most_time run) step.0 time.1 time.2, within_of (least_value run step.0) (most_value run step.0) step.1 value.1 value.2) refl

-- ---- lines

-- What a line says, by the grammar, after others.
abbrev pub Says : TableRead → List (List ℕ) → TableLine → Type 0
Says read fields Silent = is_silent fields ≡ true
Says read fields (Problem new) = (is_silent fields ≡ false) × (read.size ≡ None) × IsTableProblem fields new.kinds new.assigned
Says read fields (Kind kind) = (is_silent fields ≡ false) × ((old : TableSize) × (read.size ≡ Some old) × (length read.table.kinds < old.kinds) × (due_in read ≡ 0) × (old.kinds < 2 ^ 64 → IsKindLine (length read.table.kinds + 1) (length read.table.steps) fields kind))
Says read fields (Assigned entry) = (is_silent fields ≡ false) × ((old : TableSize) × (read.size ≡ Some old) × (length read.table.assigned < old.assigned) × (due_in read ≡ 0) × (old.kinds < 2 ^ 64 → IsAssignedLine read.arcs old.kinds fields entry))
Says read fields (Step step) = (is_silent fields ≡ false) × ((old : TableSize) × (read.size ≡ Some old) × (0 < due_in read) × IsStepLine (run_in read.table) fields step)

problem_says : (read : TableRead) (size : Option TableSize) (word : List ℕ) (fields : List (List ℕ)) (said : TableLine) → read.size ≡ size → is_comment word ≡ false → word ≡ codes "p" → problem_line size fields ≡ Ok said → Says read (word ∷ fields) said
unfolding problem_line
problem_says read (Some old) word fields said at plain w h = cc
problem_says read None word fields said at plain w h =
    let n = bind_ok (after_kinds (codes "tp" ∷ []) fields) (λ numbers. size_of numbers >>= λ size. Ok (Problem size)) said h in
    let s = bind_ok (size_of n.0) (λ size. Ok (Problem size)) said n.2 in
    let same : Problem s.0 ≡ said = cc (s.2) in
    subst (λ (l : TableLine). Says read (word ∷ fields) l) same (plain, at, size_ok word fields n.0 s.0 w (after_kinds_ok (codes "tp" ∷ []) fields n.0 n.1) s.1)

none_due : (due : ℕ) → ltb 0 due ≡ false → due ≡ 0
none_due due e = omega (arith, ltb-false 0 due e)

kind_says : (read : TableRead) (size : Option TableSize) (word : List ℕ) (fields : List (List ℕ)) (said : TableLine) → read.size ≡ size → is_comment word ≡ false → word ≡ codes "k" → kind_line size (due_in read) (length read.table.kinds) (length read.table.steps) fields ≡ Ok said → Says read (word ∷ fields) said
unfolding kind_line
kind_says read None word fields said at plain w h = cc
kind_says read (Some old) word fields said at plain w h = elim (choice_ok (ltb 0 (due_in read)) _ _ (Ok said) h) [
  | inl p ↦ cc (p.1)
  | inr p ↦
      let k = bind_ok (kind_of (length read.table.kinds + 1) (length read.table.steps) fields) (λ kind. cond (ltb (length read.table.kinds) old.kinds) (Ok (Kind kind)) (Err TooManyLines)) said p.1 in
      let passed = guard_ok (ltb (length read.table.kinds) old.kinds) (Kind k.0) said TooManyLines k.2 in
      let room = ltb-true (length read.table.kinds) old.kinds passed.0 in
      subst (λ (l : TableLine). Says read (word ∷ fields) l) passed.1
      (plain, (old, at, room, none_due (due_in read) p.0, λ few. kind_ok (length read.table.kinds + 1) (length read.table.steps) word fields k.0 (omega (arith, room, few)) w k.1))
]

assigned_says : (read : TableRead) (size : Option TableSize) (word : List ℕ) (fields : List (List ℕ)) (said : TableLine) → read.arcs < 2 ^ 64 → read.size ≡ size → is_comment word ≡ false → word ≡ codes "t" → assigned_line read.arcs size (due_in read) (length read.table.assigned) fields ≡ Ok said → Says read (word ∷ fields) said
unfolding assigned_line
assigned_says read None word fields said small at plain w h = cc
assigned_says read (Some old) word fields said small at plain w h = elim (choice_ok (ltb 0 (due_in read)) _ _ (Ok said) h) [
  | inl p ↦ cc (p.1)
  | inr p ↦
      let a = bind_ok (assigned_of read.arcs old.kinds fields) (λ entry. cond (ltb (length read.table.assigned) old.assigned) (Ok (Assigned entry)) (Err TooManyLines)) said p.1 in
      let passed = guard_ok (ltb (length read.table.assigned) old.assigned) (Assigned a.0) said TooManyLines a.2 in
      subst (λ (l : TableLine). Says read (word ∷ fields) l) passed.1
      (plain, (old, at, ltb-true (length read.table.assigned) old.assigned passed.0, none_due (due_in read) p.0, λ few. assigned_ok read.arcs old.kinds word fields a.0 small few w a.1))
]

step_says : (read : TableRead) (size : Option TableSize) (word : List ℕ) (fields : List (List ℕ)) (said : TableLine) → read.size ≡ size → is_comment word ≡ false → word ≡ codes "v" → step_line size (run_in read.table) fields ≡ Ok said → Says read (word ∷ fields) said
unfolding step_line
step_says read None word fields said at plain w h = cc
step_says read (Some old) word fields said at plain w h = elim (choice_ok (ltb 0 (due_in read)) _ _ (Ok said) h) [
  | inl p ↦
      let s = bind_ok (step_of (run_in read.table) fields) (λ step. Ok (Step step)) said p.1 in
      let same : Step s.0 ≡ said = cc (s.2) in
      subst (λ (l : TableLine). Says read (word ∷ fields) l) same (plain, (old, at, ltb-true 0 (due_in read) p.0, step_ok (run_in read.table) word fields s.0 w s.1))
  | inr p ↦ cc (p.1)
]

silent_says : (read : TableRead) (fields : List (List ℕ)) (said : TableLine) → is_silent fields ≡ true → ◌≡◌ {A = Result TableLine FaultKind} (Ok Silent) (Ok said) → Says read fields said
silent_says read fields said silent e =
    let same : Silent ≡ said = cc in
    subst (λ (l : TableLine). Says read fields l) same silent

pub line_says : (read : TableRead) (fields : List (List ℕ)) (said : TableLine) → read.arcs < 2 ^ 64 → table_line read fields ≡ Ok said → Says read fields said
unfolding table_line
line_says read [] said small h = silent_says read [] said refl h
line_says read (word ∷ fields) said small h = elim (choice_ok (is_comment word) _ _ (Ok said) h) [
  | inl p ↦ silent_says read (word ∷ fields) said p.0 p.1
  | inr p ↦ elim (choice_ok (bytes_eq word (codes "p")) _ _ (Ok said) p.1) [
    | inl q ↦ problem_says read read.size word fields said refl p.0 (same_word word (codes "p") q.0) q.1
    | inr q ↦ elim (choice_ok (bytes_eq word (codes "k")) _ _ (Ok said) q.1) [
      | inl r ↦ kind_says read read.size word fields said refl p.0 (same_word word (codes "k") r.0) r.1
      | inr r ↦ elim (choice_ok (bytes_eq word (codes "t")) _ _ (Ok said) r.1) [
        | inl s ↦ assigned_says read read.size word fields said small refl p.0 (same_word word (codes "t") s.0) s.1
        | inr s ↦ elim (choice_ok (bytes_eq word (codes "v")) _ _ (Ok said) s.1) [
          | inl t ↦ step_says read read.size word fields said refl p.0 (same_word word (codes "v") t.0) t.1
          | inr t ↦ cc (t.1)
        ]
      ]
    ]
  ]
]

pub silent_line : (read : TableRead) (fields : List (List ℕ)) → is_silent fields ≡ true → table_line read fields ≡ Ok Silent
unfolding table_line
silent_line read [] e = refl
silent_line read (word ∷ fields) e = rw e refl

abbrev reader : ℕ → Option TableSize → Table → TableRead
reader arcs size table = record { arcs = arcs; size = size; table = table }

pub problem_line_of : (arcs : ℕ) (table : Table) (fields : List (List ℕ)) (size : TableSize) → IsTableProblem fields size.kinds size.assigned → table_line (reader arcs None table) fields ≡ Ok (Problem size)
unfolding table_line problem_line size_of size_read
problem_line_of arcs table [] size is = absurd is
problem_line_of arcs table (word ∷ []) size is = absurd is
problem_line_of arcs table (word ∷ tp ∷ []) size is = absurd is
problem_line_of arcs table (word ∷ tp ∷ k ∷ []) size is = absurd is
problem_line_of arcs table (word ∷ tp ∷ k ∷ t ∷ []) size is =
    rw (is.0, is.1, after_kinds_of (codes "tp" ∷ []) (k ∷ t ∷ []), numeral_of 0 65535 k size.kinds (lit< tt) is.2, numeral_of 0 268435456 t size.assigned (lit< tt) is.3, within_of 0 65535 size.kinds is.2.1 is.2.2, within_of 0 268435456 size.assigned is.3.1 is.3.2) refl
problem_line_of arcs table (word ∷ tp ∷ k ∷ t ∷ x ∷ rest) size is = absurd is

-- A guard that lets through, and what was read behind it.
let_through : {A : Type 0} (due : ℕ) (r : Result A FaultKind) (s : Result A FaultKind) → due ≡ 0 → r ≡ s → cond (ltb 0 due) (Err TooFewLines) r ≡ s
let_through due r s none e = ap (λ b. cond b (Err TooFewLines) r) (le-ltb 0 due (omega (arith, none))) ∙ e

pub kind_line_of : (arcs : ℕ) (size : TableSize) (table : Table) (fields : List (List ℕ)) (kind : RawKind) → size.kinds < 2 ^ 64 → due (run_in table) ≡ 0 → length table.kinds < size.kinds → IsKindLine (length table.kinds + 1) (length table.steps) fields kind → table_line (reader arcs (Some size) table) fields ≡ Ok (Kind kind)
unfolding table_line kind_line
kind_line_of arcs size table [] kind few none room is = absurd is
kind_line_of arcs size table (word ∷ []) kind few none room is = absurd is
kind_line_of arcs size table (word ∷ j ∷ fields) kind few none room is =
    rw (is.0) (let_through (due (run_in table)) _ _ none
    (ap (λ r. r >>= λ k. cond (ltb (length table.kinds) size.kinds) (Ok (Kind k)) (Err TooManyLines)) (kind_takes (length table.kinds + 1) (length table.steps) j fields kind (omega (arith, few, room)) is.1 is.2)
    ∙ ap (λ b. cond b (Ok (Kind kind)) (Err TooManyLines)) (lt-ltb (length table.kinds) size.kinds room)))

pub assigned_line_of : (arcs : ℕ) (size : TableSize) (table : Table) (fields : List (List ℕ)) (entry : ℕ × ℕ) → arcs < 2 ^ 64 → size.kinds < 2 ^ 64 → due (run_in table) ≡ 0 → length table.assigned < size.assigned → IsAssignedLine arcs size.kinds fields entry → table_line (reader arcs (Some size) table) fields ≡ Ok (Assigned entry)
unfolding table_line assigned_line
assigned_line_of arcs size table [] entry small few none room is = absurd is
assigned_line_of arcs size table (word ∷ []) entry small few none room is = absurd is
assigned_line_of arcs size table (word ∷ f ∷ []) entry small few none room is = absurd is
assigned_line_of arcs size table (word ∷ f ∷ j ∷ []) entry small few none room is =
    rw (is.0) (let_through (due (run_in table)) _ _ none
    (ap (λ r. r >>= λ a. cond (ltb (length table.assigned) size.assigned) (Ok (Assigned a)) (Err TooManyLines)) (assigned_takes arcs size.kinds f j entry small few is.1 is.2)
    ∙ ap (λ b. cond b (Ok (Assigned entry)) (Err TooManyLines)) (lt-ltb (length table.assigned) size.assigned room)))
assigned_line_of arcs size table (word ∷ f ∷ j ∷ x ∷ rest) entry small few none room is = absurd is

pub step_line_of : (arcs : ℕ) (size : TableSize) (table : Table) (fields : List (List ℕ)) (step : ℕ × ℕ) → 0 < due (run_in table) → IsStepLine (run_in table) fields step → table_line (reader arcs (Some size) table) fields ≡ Ok (Step step)
unfolding table_line step_line
step_line_of arcs size table [] step some is = absurd is
step_line_of arcs size table (word ∷ []) step some is = absurd is
step_line_of arcs size table (word ∷ t ∷ []) step some is = absurd is
step_line_of arcs size table (word ∷ t ∷ x ∷ []) step some is =
    rw (is.0) (ap (λ b. cond b (step_of (run_in table) (t ∷ x ∷ []) >>= λ s. Ok (Step s)) (Err TooManyLines)) (lt-ltb 0 (due (run_in table)) some)
    ∙ ap (λ r. r >>= λ s. Ok (Step s)) (step_takes (run_in table) t x step is.1 is.2))
step_line_of arcs size table (word ∷ t ∷ x ∷ y ∷ rest) step some is = absurd is
