-- What a line says, by the grammar and by the checks.
use Rattle.std.proofs.Common.{◌≡◌, ℕ, ◌<◌, ◌^◌, Bool, true, false, cond, refl, ap, ◌∙◌, List, [], ◌∷◌, ltb, subst, lit<, ◌⊎◌, inl, inr}
use Rattle.std.specs.Prelude.{Option, Some, None, Result, Ok, Err, codes}
use Rattle.std.specs.Str.{bytes_eq}
use Rattle.std.proofs.lemmas.Slice.Eq.{bytes_eq-Decides}
use Rattle.std.proofs.lemmas.Bool.{ltb-true, lt-ltb}
use Rattle.ea_bytes.specs.Text.{is_comment, is_silent}
use Rattle.ea_blocks.specs.Fault.{◌>>=◌, numeral, within}
use Rattle.ea_input.specs.Range.{IsNumberIn}
use Rattle.ea_input.specs.Graph.{IsProblemLine, IsArcLine, arc_within, arc_read, arc_of, size_read, size_of, problem_of, problem_line, arc_line, graph_line}
use Rattle.ea_input.proofs.Numbered.{bind_ok, guard_ok, number_found, numeral_of, within_of}
use Rattle.ea_blocks.specs.declared.fault.FaultKind.{FaultKind}
use Rattle.ea_blocks.specs.declared.fault.FaultKind.TheVariants.{BadKind, TooManyLines}
use Rattle.ea_base.specs.declared.graph.RawArc.{RawArc}
use Rattle.ea_input.specs.declared.graph.GraphSize.{GraphSize}
use Rattle.ea_input.specs.declared.graph.GraphLine.{GraphLine}
use Rattle.ea_input.specs.declared.graph.GraphLine.TheVariants.{Silent, Problem, Arc}

-- ---- arcs

abbrev IsArcOf : ℕ → List ℕ → List ℕ → List ℕ → RawArc → Type 0
IsArcOf nodes u v w arc = IsNumberIn 1 nodes u arc.tail × IsNumberIn 1 nodes v arc.head × IsNumberIn 0 4294967295 w arc.weight

arc_read_ok : (nodes : ℕ) (u v w : List ℕ) (arc : RawArc) → nodes < 2 ^ 64 → arc_read nodes u v w ≡ Ok arc → IsArcOf nodes u v w arc
unfolding arc_read arc_within
arc_read_ok nodes u v w arc small e =
    let t = bind_ok (numeral u) _ arc e in
    let h = bind_ok (numeral v) _ arc t.2 in
    let k = bind_ok (numeral w) _ arc h.2 in
    let tail = bind_ok (within 1 nodes t.0) _ arc k.2 in
    let head = bind_ok (within 1 nodes h.0) _ arc tail.2 in
    let weight = bind_ok (within 0 4294967295 k.0) _ arc head.2 in
    let same : record { tail = tail.0; head = head.0; weight = weight.0 } ≡ arc = cc (weight.2) in
    let tail_is = ap (λ (a : RawArc). a.tail) same in
    let head_is = ap (λ (a : RawArc). a.head) same in
    let weight_is = ap (λ (a : RawArc). a.weight) same in
    let P : ℕ → Type 0 = λ n. IsNumberIn 1 nodes u n in
    let Q : ℕ → Type 0 = λ n. IsNumberIn 1 nodes v n in
    let R : ℕ → Type 0 = λ n. IsNumberIn 0 4294967295 w n in (
      subst P tail_is (number_found 1 nodes u t.0 tail.0 small t.1 tail.1),
      subst Q head_is (number_found 1 nodes v h.0 head.0 small h.1 head.1),
      subst R weight_is (number_found 0 4294967295 w k.0 weight.0 (lit< tt) k.1 weight.1),
    )

arc_read_of : (nodes : ℕ) (u v w : List ℕ) (arc : RawArc) → nodes < 2 ^ 64 → IsArcOf nodes u v w arc → arc_read nodes u v w ≡ Ok arc
unfolding arc_read arc_within
arc_read_of nodes u v w arc small is =
    rw (
      numeral_of 1 nodes u arc.tail small is.0,
      numeral_of 1 nodes v arc.head small is.1,
      numeral_of 0 4294967295 w arc.weight (lit< tt) is.2,
      within_of 1 nodes arc.tail is.0.1 is.0.2,
      within_of 1 nodes arc.head is.1.1 is.1.2,
      within_of 0 4294967295 arc.weight is.2.1 is.2.2,
    ) refl

-- ---- sizes

abbrev IsSizeOf : List ℕ → List ℕ → GraphSize → Type 0
IsSizeOf n m size = IsNumberIn 1 67108864 n size.nodes × IsNumberIn 0 268435456 m size.arcs

size_read_ok : (n m : List ℕ) (size : GraphSize) → size_read n m ≡ Ok size → IsSizeOf n m size
unfolding size_read
size_read_ok n m size e =
    let h = bind_ok (numeral n) _ size e in
    let k = bind_ok (numeral m) _ size h.2 in
    let nodes = bind_ok (within 1 67108864 h.0) _ size k.2 in
    let arcs = bind_ok (within 0 268435456 k.0) _ size nodes.2 in
    let same : record { nodes = nodes.0; arcs = arcs.0 } ≡ size = cc (arcs.2) in
    let P : ℕ → Type 0 = λ x. IsNumberIn 1 67108864 n x in
    let Q : ℕ → Type 0 = λ x. IsNumberIn 0 268435456 m x in (
      subst P (ap (λ (s : GraphSize). s.nodes) same) (number_found 1 67108864 n h.0 nodes.0 (lit< tt) h.1 nodes.1),
      subst Q (ap (λ (s : GraphSize). s.arcs) same) (number_found 0 268435456 m k.0 arcs.0 (lit< tt) k.1 arcs.1),
    )

size_read_of : (n m : List ℕ) (size : GraphSize) → IsSizeOf n m size → size_read n m ≡ Ok size
unfolding size_read
size_read_of n m size is =
    rw (
      numeral_of 1 67108864 n size.nodes (lit< tt) is.0,
      numeral_of 0 268435456 m size.arcs (lit< tt) is.1,
      within_of 1 67108864 size.nodes is.0.1 is.0.2,
      within_of 0 268435456 size.arcs is.1.1 is.1.2,
    ) refl

-- ---- lines

pub same_word : (word text : List ℕ) → bytes_eq word text ≡ true → word ≡ text
same_word word text e = (bytes_eq-Decides word text).0 e

pub is_word : (word text : List ℕ) → word ≡ text → bytes_eq word text ≡ true
is_word word text e = (bytes_eq-Decides word text).1 e

arc_of_ok : (nodes : ℕ) (word : List ℕ) (fields : List (List ℕ)) (arc : RawArc) → nodes < 2 ^ 64 → word ≡ codes "a" → arc_of nodes fields ≡ Ok arc → IsArcLine nodes (word ∷ fields) arc
unfolding arc_of
arc_of_ok nodes word [] arc small e h = cc
arc_of_ok nodes word (u ∷ []) arc small e h = cc
arc_of_ok nodes word (u ∷ v ∷ []) arc small e h = cc
arc_of_ok nodes word (u ∷ v ∷ w ∷ []) arc small e h = let is = arc_read_ok nodes u v w arc small h in (e, is.0, is.1, is.2)
arc_of_ok nodes word (u ∷ v ∷ w ∷ x ∷ rest) arc small e h = cc

size_of_ok : (word kind : List ℕ) (fields : List (List ℕ)) (size : GraphSize) → word ≡ codes "p" → kind ≡ codes "sp" → size_of fields ≡ Ok size → IsProblemLine (word ∷ kind ∷ fields) size.nodes size.arcs
unfolding size_of
size_of_ok word kind [] size e k h = cc
size_of_ok word kind (n ∷ []) size e k h = cc
size_of_ok word kind (n ∷ m ∷ []) size e k h = let is = size_read_ok n m size h in (e, k, is.0, is.1)
size_of_ok word kind (n ∷ m ∷ x ∷ rest) size e k h = cc

-- A choice by a test, and which way it went.
pub choice_ok : {X : Type 0} (b : Bool) (x y z : X) → cond b x y ≡ z → ((b ≡ true) × (x ≡ z)) ⊎ ((b ≡ false) × (y ≡ z))
choice_ok true x y z e = inl (refl, e)
choice_ok false x y z e = inr (refl, e)

problem_of_ok : (word : List ℕ) (fields : List (List ℕ)) (size : GraphSize) → word ≡ codes "p" → problem_of fields ≡ Ok size → IsProblemLine (word ∷ fields) size.nodes size.arcs
unfolding problem_of
problem_of_ok word [] size e h = cc
problem_of_ok word (kind ∷ fields) size e h = elim (choice_ok (bytes_eq kind (codes "sp")) (size_of fields) (Err BadKind) (Ok size) h) [
  | inl p ↦ size_of_ok word kind fields size e (same_word kind (codes "sp") p.0) p.1
  | inr p ↦ cc (p.1)
]

-- What a line says, by the grammar, after a problem line or none, and this many arcs.
abbrev pub Says : Option GraphSize → ℕ → List (List ℕ) → GraphLine → Type 0
Says size count fields Silent = is_silent fields ≡ true
Says size count fields (Problem new) = (is_silent fields ≡ false) × (size ≡ None) × IsProblemLine fields new.nodes new.arcs
Says size count fields (Arc arc) = (is_silent fields ≡ false) × ((old : GraphSize) × (size ≡ Some old) × (count < old.arcs) × (old.nodes < 2 ^ 64 → IsArcLine old.nodes fields arc))

problem_line_says : (size : Option GraphSize) (count : ℕ) (word : List ℕ) (fields : List (List ℕ)) (said : GraphLine) → is_comment word ≡ false → word ≡ codes "p" → problem_line size fields ≡ Ok said → Says size count (word ∷ fields) said
unfolding problem_line
problem_line_says (Some old) count word fields said plain e h = cc
problem_line_says None count word fields said plain e h =
    let s = bind_ok (problem_of fields) (λ size. Ok (Problem size)) said h in
    let same : Problem s.0 ≡ said = cc (s.2) in
    let P : GraphLine → Type 0 = λ l. Says None count (word ∷ fields) l in
    subst P same (plain, refl, problem_of_ok word fields s.0 e s.1)

arc_line_says : (size : Option GraphSize) (count : ℕ) (word : List ℕ) (fields : List (List ℕ)) (said : GraphLine) → is_comment word ≡ false → word ≡ codes "a" → arc_line size count fields ≡ Ok said → Says size count (word ∷ fields) said
unfolding arc_line
arc_line_says None count word fields said plain e h = cc
arc_line_says (Some old) count word fields said plain e h =
    let a = bind_ok (arc_of old.nodes fields) (λ arc. cond (ltb count old.arcs) (Ok (Arc arc)) (Err TooManyLines)) said h in
    let passed = guard_ok (ltb count old.arcs) (Arc a.0) said TooManyLines a.2 in
    let P : GraphLine → Type 0 = λ l. Says (Some old) count (word ∷ fields) l in
    subst P passed.1 (plain, (old, refl, ltb-true count old.arcs passed.0, λ small. arc_of_ok old.nodes word fields a.0 small e a.1))

silent_says : (size : Option GraphSize) (count : ℕ) (fields : List (List ℕ)) (said : GraphLine) → is_silent fields ≡ true → ◌≡◌ {A = Result GraphLine FaultKind} (Ok Silent) (Ok said) → Says size count fields said
silent_says size count fields said silent e =
    let same : Silent ≡ said = cc in
    let P : GraphLine → Type 0 = λ l. Says size count fields l in
    subst P same silent

pub graph_line_says : (size : Option GraphSize) (count : ℕ) (fields : List (List ℕ)) (said : GraphLine) → graph_line size count fields ≡ Ok said → Says size count fields said
unfolding graph_line
graph_line_says size count [] said h = silent_says size count [] said refl h
graph_line_says size count (word ∷ fields) said h = elim (choice_ok (is_comment word) _ _ (Ok said) h) [
  | inl p ↦ silent_says size count (word ∷ fields) said p.0 p.1
  | inr p ↦ elim (choice_ok (bytes_eq word (codes "p")) _ _ (Ok said) p.1) [
    | inl q ↦ problem_line_says size count word fields said p.0 (same_word word (codes "p") q.0) q.1
    | inr q ↦ elim (choice_ok (bytes_eq word (codes "a")) _ _ (Ok said) q.1) [
      | inl r ↦ arc_line_says size count word fields said p.0 (same_word word (codes "a") r.0) r.1
      | inr r ↦ cc (r.1)
    ]
  ]
]

-- ---- and back

pub silent_line : (size : Option GraphSize) (count : ℕ) (fields : List (List ℕ)) → is_silent fields ≡ true → graph_line size count fields ≡ Ok Silent
unfolding graph_line
silent_line size count [] e = refl
silent_line size count (word ∷ fields) e = rw e refl

pub problem_line_of : (count : ℕ) (fields : List (List ℕ)) (size : GraphSize) → IsProblemLine fields size.nodes size.arcs → graph_line None count fields ≡ Ok (Problem size)
unfolding graph_line problem_line problem_of size_of
problem_line_of count [] size is = absurd is
problem_line_of count (word ∷ []) size is = absurd is
problem_line_of count (word ∷ kind ∷ []) size is = absurd is
problem_line_of count (word ∷ kind ∷ n ∷ []) size is = absurd is
problem_line_of count (word ∷ kind ∷ n ∷ m ∷ []) size is = rw (is.0, is.1) (ap (λ r. r >>= λ s. Ok (Problem s)) (size_read_of n m size (is.2, is.3)))
problem_line_of count (word ∷ kind ∷ n ∷ m ∷ x ∷ rest) size is = absurd is

pub arc_line_of : (size : GraphSize) (count : ℕ) (fields : List (List ℕ)) (arc : RawArc) → size.nodes < 2 ^ 64 → count < size.arcs → IsArcLine size.nodes fields arc → graph_line (Some size) count fields ≡ Ok (Arc arc)
unfolding graph_line arc_line arc_of
arc_line_of size count [] arc small room is = absurd is
arc_line_of size count (word ∷ []) arc small room is = absurd is
arc_line_of size count (word ∷ u ∷ []) arc small room is = absurd is
arc_line_of size count (word ∷ u ∷ v ∷ []) arc small room is = absurd is
arc_line_of size count (word ∷ u ∷ v ∷ w ∷ []) arc small room is =
    rw (is.0) (ap (λ r. r >>= λ a. cond (ltb count size.arcs) (Ok (Arc a)) (Err TooManyLines)) (arc_read_of size.nodes u v w arc small (is.1, is.2, is.3)) ∙ ap (λ b. cond b (Ok (Arc arc)) (Err TooManyLines)) (lt-ltb count size.arcs room))
arc_line_of size count (word ∷ u ∷ v ∷ w ∷ x ∷ rest) arc small room is = absurd is
