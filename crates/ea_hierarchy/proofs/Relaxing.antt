-- Numbers that fall, and the triangles that stay.
use Rattle.std.proofs.Common.{◌≡◌, ℕ, ◌+◌, ◌<◌, ◌≤◌, inl, inr, refl, ap, subst, ◌∙◌, arith, List, length}
use Rattle.std.specs.Prelude.{slice_index}
use Rattle.std.proofs.lemmas.Bool.Decides.{leb_tells}
use Rattle.ea_hierarchy.specs.Hierarchies.{AreNumbers, AreOver, IsFrom, IsTriangle, IsUpward, Joins, Lowers}
use Rattle.ea_hierarchy.specs.Numbers.{plus}
use Rattle.ea_hierarchy.proofs.Finding.{comes_first, inside, lie_behind}

pub lowers_none : (from : ℕ) (ups downs : List ℕ) → Lowers from ups downs ups downs
lowers_none from ups downs = record {
  upward = refl;
  downward = refl;
  stay = λ place below. (refl, refl);
  fall = λ place. (omega arith, omega arith);
}

pub lowers_then : (from next : ℕ) (ups downs middle_ups middle_downs new_ups new_downs : List ℕ) → from ≤ next → Lowers from ups downs middle_ups middle_downs → Lowers next middle_ups middle_downs new_ups new_downs → Lowers from ups downs new_ups new_downs
lowers_then from next ups downs middle_ups middle_downs new_ups new_downs order one two = record {
  upward = two.upward ∙ one.upward;
  downward = two.downward ∙ one.downward;
  stay = λ place below. let early = one.stay place below in let late = two.stay place (omega (arith, below, order)) in (late.0 ∙ early.0, late.1 ∙ early.1);
  fall = λ place. let early = one.fall place in let late = two.fall place in (omega (arith, early.0, late.0), omega (arith, early.1, late.1));
}

pub numbers_stay : (from : ℕ) (heads ups downs new_ups new_downs : List ℕ) → AreNumbers heads ups downs → Lowers from ups downs new_ups new_downs → AreNumbers heads new_ups new_downs
numbers_stay from heads ups downs new_ups new_downs are lowers = record { upward = lowers.upward ∙ are.upward; downward = lowers.downward ∙ are.downward }

-- a triangle stays if the numbers at its lower end do
pub triangle_stays : (firsts heads ups downs new_ups new_downs : List ℕ) (from place later joining : ℕ) → place < from → later < from → Lowers from ups downs new_ups new_downs → IsTriangle firsts heads ups downs place later joining → IsTriangle firsts heads new_ups new_downs place later joining
triangle_stays firsts heads ups downs new_ups new_downs from place later joining low also lowers is =
    let one = lowers.stay place low in
    let two = lowers.stay later also in
    let falls = lowers.fall joining in
    let up : plus (slice_index new_downs place) (slice_index new_ups later) ≡ plus (slice_index downs place) (slice_index ups later) = ap (λ n. plus n (slice_index new_ups later)) one.1 ∙ ap (plus (slice_index downs place)) two.0 in
    let down : plus (slice_index new_downs later) (slice_index new_ups place) ≡ plus (slice_index downs later) (slice_index ups place) = ap (λ n. plus n (slice_index new_ups place)) two.1 ∙ ap (plus (slice_index downs later)) one.0 in
    record {
      joins = is.joins;
      up = omega (arith, falls.0, is.up, up);
      down = omega (arith, falls.1, is.down, down);
    }

pub over_stays : (firsts heads ups downs new_ups new_downs : List ℕ) (from rank place to : ℕ) → place < from → to ≤ from → Lowers from ups downs new_ups new_downs → AreOver firsts heads ups downs rank place to → AreOver firsts heads new_ups new_downs rank place to
over_stays firsts heads ups downs new_ups new_downs from rank place to low upto lowers are later is after below =
    let third = are later is after below in
    (third.0, triangle_stays firsts heads ups downs new_ups new_downs from place later third.0 low (omega (arith, below, upto)) lowers third.1)

-- the numbers of the joining arc were lowered
pub triangle_made : (firsts heads ups downs new_ups new_downs : List ℕ) (place later joining : ℕ) → Joins firsts heads (slice_index heads place) (slice_index heads later) joining → place < joining → later < joining → Lowers joining ups downs new_ups new_downs
    → slice_index new_ups joining ≤ plus (slice_index downs place) (slice_index ups later) → slice_index new_downs joining ≤ plus (slice_index downs later) (slice_index ups place) → IsTriangle firsts heads new_ups new_downs place later joining
triangle_made firsts heads ups downs new_ups new_downs place later joining joins low also lowers up down =
    let one = lowers.stay place low in
    let two = lowers.stay later also in
    let same_up : plus (slice_index new_downs place) (slice_index new_ups later) ≡ plus (slice_index downs place) (slice_index ups later) = ap (λ n. plus n (slice_index new_ups later)) one.1 ∙ ap (plus (slice_index downs place)) two.0 in
    let same_down : plus (slice_index new_downs later) (slice_index new_ups place) ≡ plus (slice_index downs later) (slice_index ups place) = ap (λ n. plus n (slice_index new_ups place)) two.1 ∙ ap (plus (slice_index downs later)) one.0 in
    record { joins = joins; up = omega (arith, up, same_up); down = omega (arith, down, same_down) }

-- ---- the later arcs of a rank, one after the other

pub record IsRelaxing (firsts heads ups downs new_ups new_downs : List ℕ) (rank place from later : ℕ) : Type 0 where
  pub lowers : Lowers (slice_index firsts (rank + 1)) ups downs new_ups new_downs
  pub above : slice_index firsts (slice_index heads place) ≤ from
  pub ahead : (next joining : ℕ) → later ≤ next → IsFrom firsts rank next → Joins firsts heads (slice_index heads place) (slice_index heads next) joining → from ≤ joining
  pub triangles : AreOver firsts heads new_ups new_downs rank place later

module _ (nodes : ℕ) (firsts heads : List ℕ) (are : IsUpward nodes firsts heads) (rank place : ℕ) (below : rank < nodes) (is : IsFrom firsts rank place) where
  pub relaxes_none : (ups downs : List ℕ) → IsRelaxing firsts heads ups downs ups downs rank place (slice_index firsts (slice_index heads place)) (place + 1)
  relaxes_none ups downs = record {
    lowers = lowers_none (slice_index firsts (rank + 1)) ups downs;
    above = omega arith;
    ahead = λ next joining late is_next joins. joins.is_from.from;
    triangles = λ later is_later after before. absurd (omega (arith, after, before));
  }

  high : (rank < slice_index heads place) × (slice_index heads place < nodes)
  high = are.upward rank place below is

  -- the arc that joins two heads
  pub third_of : (ups downs new_ups new_downs : List ℕ) (from later : ℕ) → place < later → later < slice_index firsts (rank + 1) → IsRelaxing firsts heads ups downs new_ups new_downs rank place from later
      → (joining : ℕ) × (from ≤ joining) × (joining < length heads) × (slice_index heads joining ≡ slice_index heads later)
  third_of ups downs new_ups new_downs from later after before so_far =
      let is_later : IsFrom firsts rank later = record { from = omega (arith, after, is.from); before = before } in
      let third = are.chordal rank place later below is is_later after in
      (third.0, so_far.ahead later third.0 (omega arith) is_later third.1, inside nodes firsts heads are (slice_index heads place) third.0 high.1 third.1.is_from, third.1.head)

  -- what was found is that arc
  pub third_is : (ups downs new_ups new_downs : List ℕ) (from later found : ℕ) → place < later → later < slice_index firsts (rank + 1) → IsRelaxing firsts heads ups downs new_ups new_downs rank place from later
      → from ≤ found → slice_index heads found ≡ slice_index heads later → ((other : ℕ) → from ≤ other → other < length heads → slice_index heads other ≡ slice_index heads later → found ≤ other)
      → Joins firsts heads (slice_index heads place) (slice_index heads later) found
  third_is ups downs new_ups new_downs from later found after before so_far low head first =
      let third = third_of ups downs new_ups new_downs from later after before so_far in
      let is_later : IsFrom firsts rank later = record { from = omega (arith, after, is.from); before = before } in
      let known = are.chordal rank place later below is is_later after in
      let least = first known.0 (so_far.ahead later known.0 (omega arith) is_later known.1) (inside nodes firsts heads are (slice_index heads place) known.0 high.1 known.1.is_from) known.1.head in
      record {
        is_from = record { from = omega (arith, so_far.above, low); before = omega (arith, least, known.1.is_from.before) };
        head = head;
      }

  pub behind : (found : ℕ) → IsFrom firsts (slice_index heads place) found → slice_index firsts (rank + 1) ≤ found
  behind found from = let far = lie_behind nodes firsts heads are rank (slice_index heads place) high.0 high.1 in omega (arith, far, from.from)

  pub relaxes_more : (ups downs middle_ups middle_downs new_ups new_downs : List ℕ) (from later found : ℕ) → place < later → later < slice_index firsts (rank + 1) → IsRelaxing firsts heads ups downs middle_ups middle_downs rank place from later
      → Joins firsts heads (slice_index heads place) (slice_index heads later) found → Lowers found middle_ups middle_downs new_ups new_downs
      → slice_index new_ups found ≤ plus (slice_index middle_downs place) (slice_index middle_ups later) → slice_index new_downs found ≤ plus (slice_index middle_downs later) (slice_index middle_ups place)
      → IsRelaxing firsts heads ups downs new_ups new_downs rank place found (later + 1)
  relaxes_more ups downs middle_ups middle_downs new_ups new_downs from later found after before so_far joins lowers up down =
      let far = behind found joins.is_from in
      let is_later : IsFrom firsts rank later = record { from = omega (arith, after, is.from); before = before } in
      record {
        lowers = lowers_then (slice_index firsts (rank + 1)) found ups downs middle_ups middle_downs new_ups new_downs far so_far.lowers lowers;
        above = joins.is_from.from;
        ahead = λ next joining late is_next joins_next.
            let rises = are.ascend rank later next below is_later is_next (omega (arith, late)) in
            let first = comes_first nodes firsts heads are (slice_index heads place) found joining high.1 joins.is_from joins_next.is_from (omega (arith, joins.head, joins_next.head, rises)) in
            omega (arith, first);
        triangles = λ other is_other after_it before_it. elim (leb_tells later other) [
          | inl last ↦
              let same : later ≡ other = omega (arith, last.1, before_it) in
              let made = triangle_made firsts heads middle_ups middle_downs new_ups new_downs place later found joins (omega (arith, after, before, far)) (omega (arith, before, far)) lowers up down in
              (found, subst (λ n. IsTriangle firsts heads new_ups new_downs place n found) same made)
          | inr early ↦
              let third = so_far.triangles other is_other after_it early.1 in
              (third.0, triangle_stays firsts heads middle_ups middle_downs new_ups new_downs found place other third.0 (omega (arith, after, before, far)) (omega (arith, early.1, before, far)) lowers third.1)
        ];
      }
