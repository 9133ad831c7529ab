-- Ranks are reached over arcs downward from the target.
use Rattle.std.proofs.Common.{◌≡◌, ℕ, zero, suc, ◌+◌, ◌<◌, ◌≤◌, ◌⊎◌, inl, inr, refl, ap, sym, subst, ◌∙◌, arith, List, length}
use Rattle.std.specs.Prelude.{slice_index, slice_index_or}
use Rattle.std.proofs.lemmas.List.{get_or_default}
use Rattle.std.proofs.lemmas.Bool.Decides.{leb_tells, nat_tests}
use Rattle.ea_hierarchy.specs.Cells.{AreReached, AreStale, AreWithin, IsHighest, IsSameAbove, LowersReach, RelaxesLinks, RelaxesReach, reach_of}
use Rattle.ea_hierarchy.specs.Hierarchies.{HasArc, IsFrom, IsUpward, Joins}
use Rattle.ea_hierarchy.specs.Numbers.{plus}
use Rattle.ea_hierarchy.specs.Potentials.{IsReach}
use Rattle.ea_hierarchy.specs.Trimmed.{AreAscending, IsReplaced, IsTrimmed}
use Rattle.ea_hierarchy.proofs.Finding.{comes_first}
use Rattle.ea_hierarchy.proofs.Sums.{plus_grows, plus_under}
use Rattle.ea_hierarchy.specs.declared.cells.Aim.{Aim}
use Rattle.ea_hierarchy.specs.declared.cells.Cell.{Cell}
use Rattle.ea_hierarchy.specs.declared.trimmed.Link.{Link}
use Rattle.ea_hierarchy.specs.declared.numbers.TheConstants.{NONE}

pub same_or_not : (a b : ℕ) → (a ≡ b) ⊎ (a ≡ b → ⊥)
same_or_not a b = elim (leb_tells a b) [
  | inl to ↦ elim (leb_tells b a) [
    | inl from ↦ inl (omega (arith, to.1, from.1))
    | inr less ↦ inr (λ same. omega (arith, less.1, same))
  ]
  | inr more ↦ inr (λ same. omega (arith, more.1, same))
]

-- one more arc of a rank
pub relaxes_more : (nodes : ℕ) (firsts heads downs : List ℕ) (aim : Aim) (list middle after : List Cell) (rank to down highest higher : ℕ) → IsUpward nodes firsts heads → rank < nodes → IsFrom firsts rank to → down ≡ slice_index downs to
    → IsSameAbove aim middle after highest higher
    → RelaxesReach firsts heads downs aim list middle rank to highest → LowersReach aim middle after (slice_index heads to) (plus down (reach_of aim list rank)) → RelaxesReach firsts heads downs aim list after rank (to + 1) higher
relaxes_more nodes firsts heads downs aim list middle after rank to down highest higher are below is same_down same relaxes lowers = record {
  count = lowers.count ∙ relaxes.count;
  reached = λ all. lowers.reached (relaxes.reached all);
  fall = λ other. omega (arith, fall other, relaxes.fall other);
  kept = λ other. elim (same_or_not other (slice_index heads to)) [
    | inl is_head ↦ inr (to, record { is_from = is; head = sym is_head })
    | inr differs ↦ elim (relaxes.kept other) [
      | inl stays ↦ inl (lowers.others other differs ∙ stays)
      | inr has ↦ inr has
    ]
  ];
  over = λ place from early. elim (leb_tells to place) [
    | inl last ↦
        let same : to ≡ place = omega (arith, last.1, early) in
        let here : reach_of aim after (slice_index heads to) ≤ plus (slice_index downs to) (reach_of aim list rank) = subst (λ n. reach_of aim after (slice_index heads to) ≤ plus n (reach_of aim list rank)) same_down lowers.here.1 in
        inl (subst (λ p. reach_of aim after (slice_index heads p) ≤ plus (slice_index downs p) (reach_of aim list rank)) same here)
    | inr before ↦ elim (relaxes.over place from before.1) [
      | inl low ↦ inl (omega (arith, fall (slice_index heads place), low))
      | inr replaced ↦ inr replaced
    ]
  ];
  above = λ other over. same.same other over ∙ relaxes.above other (omega (arith, over, same.rises));
}
  where
    fall : (other : ℕ) → reach_of aim after other ≤ reach_of aim middle other
    fall other = elim (same_or_not other (slice_index heads to)) [
      | inl same ↦ subst (λ n. reach_of aim after n ≤ reach_of aim middle n) (sym same) lowers.here.0
      | inr differs ↦ omega (arith, lowers.others other differs)
    ]

pub far_sum : (down far : ℕ) → far ≤ NONE → far ≤ plus down far
unfolding plus
far_sum down far few = grind (arith, nat_tests, few)

-- a rank that is beyond the end of the look reaches no head within
pub relaxes_none : (firsts heads downs : List ℕ) (aim : Aim) (list : List Cell) (rank to highest : ℕ) → aim.far ≤ NONE → AreWithin aim list → aim.far ≤ reach_of aim list rank → RelaxesReach firsts heads downs aim list list rank to highest
relaxes_none firsts heads downs aim list rank to highest few within beyond =
    let is : reach_of aim list rank ≡ aim.far = omega (arith, beyond, within rank) in
    record {
      count = refl;
      reached = λ all. all;
      fall = λ other. omega arith;
      kept = λ other. inl refl;
      over = λ place from early. inl (rw is (omega (arith, within (slice_index heads place), far_sum (slice_index downs place) aim.far few)));
      above = λ other over. refl;
    }

-- one more link of a rank
pub links_more : (aim : Aim) (list middle after : List Cell) (links : List Link) (reach count highest higher : ℕ) (link : Link) → count < length links → slice_index_or links count link ≡ link → IsSameAbove aim middle after highest higher
    → RelaxesLinks aim list middle links reach count highest → LowersReach aim middle after link.head (plus link.number reach) → RelaxesLinks aim list after links reach (count + 1) higher
links_more aim list middle after links reach count highest higher link inside at same relaxes lowers = record {
  count_is = lowers.count ∙ relaxes.count_is;
  reached = λ all. lowers.reached (relaxes.reached all);
  fall = λ other. omega (arith, fall other, relaxes.fall other);
  kept = λ other. elim (same_or_not other link.head) [
    | inl same ↦ inr (link, (count, inside, at), sym same)
    | inr differs ↦ elim (relaxes.kept other) [
      | inl stays ↦ inl (lowers.others other differs ∙ stays)
      | inr has ↦ inr has
    ]
  ];
  over = λ k other before. elim (leb_tells count k) [
    | inl last ↦
        let here : slice_index_or links k other ≡ link = ap (λ n. slice_index_or links n other) (omega (arith, last.1, before)) ∙ get_or_default links count other link inside ∙ at in
        subst (λ (l : Link). reach_of aim after l.head ≤ plus l.number reach) (sym here) lowers.here.1
    | inr earlier ↦ omega (arith, fall (slice_index_or links k other).head, relaxes.over k other earlier.1)
  ];
  above = λ other over. same.same other over ∙ relaxes.above other (omega (arith, over, same.rises));
}
  where
    fall : (other : ℕ) → reach_of aim after other ≤ reach_of aim middle other
    fall other = elim (same_or_not other link.head) [
      | inl same ↦ subst (λ n. reach_of aim after n ≤ reach_of aim middle n) (sym same) lowers.here.0
      | inr differs ↦ omega (arith, lowers.others other differs)
    ]

plus_more : (number more reach : ℕ) → number ≤ more → plus number reach ≤ plus more reach
plus_more number more reach to = plus_grows number reach more reach to (omega arith)

-- the links from one on, over which all heads are beyond the end of the look
pub links_end : (aim : Aim) (list middle : List Cell) (links : List Link) (reach count highest : ℕ) (link : Link) → AreAscending links → AreWithin aim list → count < length links → slice_index_or links count link ≡ link → aim.far ≤ plus link.number reach
    → RelaxesLinks aim list middle links reach count highest → RelaxesLinks aim list middle links reach (length links) highest
links_end aim list middle links reach count highest link ascending within inside at beyond relaxes = record {
  count_is = relaxes.count_is;
  reached = relaxes.reached;
  fall = relaxes.fall;
  kept = relaxes.kept;
  over = λ k other early. elim (leb_tells count k) [
    | inl later ↦
        let higher : link.number ≤ (slice_index_or links k other).number = omega (arith, ascending count k other later.1 early, ap (λ (l : Link). l.number) (get_or_default links count other link inside ∙ at)) in
        omega (arith, relaxes.fall (slice_index_or links k other).head, within (slice_index_or links k other).head, beyond, plus_more link.number (slice_index_or links k other).number reach higher)
    | inr before ↦ relaxes.over k other before.1
  ];
  above = relaxes.above;
}

-- the arcs that are left serve for all
pub relaxes_all : (firsts heads downs : List ℕ) (aim : Aim) (list after : List Cell) (rank highest : ℕ) (links : List Link) → IsTrimmed firsts heads downs rank links → RelaxesLinks aim list after links (reach_of aim list rank) (length links) highest → RelaxesReach firsts heads downs aim list after rank (slice_index firsts (rank + 1)) highest
relaxes_all firsts heads downs aim list after rank highest links trimmed relaxes = record {
  count = relaxes.count_is;
  reached = relaxes.reached;
  fall = relaxes.fall;
  kept = λ other. elim (relaxes.kept other) [
    | inl stays ↦ inl stays
    | inr found ↦
        let arc = trimmed.arcs found.0 found.1 in
        inr (arc.place, record { is_from = arc.is_from; head = arc.head ∙ found.2 })
  ];
  over = λ place from early. elim (trimmed.rest place from) [
    | inl there ↦ inl (subst (λ (l : Link). reach_of aim after l.head ≤ plus l.number (reach_of aim list rank)) there.2 (relaxes.over there.0 _ there.1))
    | inr replaced ↦ inr replaced
  ];
  above = relaxes.above;
}

-- ---- up the path of lowest heads

-- a head isn't reached later than over an arc, or two others replace it
abbrev pub IsRelaxed : List ℕ → List ℕ → List ℕ → (ℕ → ℕ) → ℕ → ℕ → Type 0
IsRelaxed firsts heads downs reach rank place = (reach (slice_index heads place) ≤ plus (slice_index downs place) (reach rank)) ⊎ IsReplaced firsts heads downs rank place

-- the ranks before one are relaxed, and what is reached above it are its heads
pub record IsClimbing (nodes : ℕ) (firsts heads downs : List ℕ) (target : ℕ) (aim : Aim) (list : List Cell) (rank top : ℕ) : Type 0 where
  pub few : aim.far ≤ NONE
  pub count : length list ≡ nodes
  pub reached : AreReached aim.stamp list
  pub at_target : reach_of aim list target ≡ 0
  pub within : AreWithin aim list
  pub highest : IsHighest aim list top
  pub target_to : target ≤ rank
  pub relaxed : (other place : ℕ) → other < rank → IsFrom firsts other place → IsRelaxed firsts heads downs (reach_of aim list) other place
  pub above : (other : ℕ) → rank < other → reach_of aim list other < aim.far → HasArc firsts heads rank other

-- if each arc is relaxed or replaced, no head is reached later than over any
all_over : (nodes : ℕ) (firsts heads downs : List ℕ) (reach : ℕ → ℕ) → IsUpward nodes firsts heads → ((rank place : ℕ) → rank < nodes → IsFrom firsts rank place → IsRelaxed firsts heads downs reach rank place)
    → (steps few rank place : ℕ) → nodes ≤ rank + steps → place < few → rank < nodes → IsFrom firsts rank place → reach (slice_index heads place) ≤ plus (slice_index downs place) (reach rank)
all_over nodes firsts heads downs reach are relaxed zero few rank place far before below from = absurd (omega (arith, far, below))
all_over nodes firsts heads downs reach are relaxed (suc steps) zero rank place far before below from = absurd (omega (arith, before))
all_over nodes firsts heads downs reach are relaxed (suc steps) (suc few) rank place far before below from = elim (relaxed rank place below from) [
  | inl over ↦ over
  | inr replaced ↦
      let one = all_over nodes firsts heads downs reach are relaxed (suc steps) few rank replaced.earlier far (omega (arith, before, replaced.before)) below replaced.is_from in
      let up = are.upward rank replaced.earlier below replaced.is_from in
      let two = all_over nodes firsts heads downs reach are relaxed steps (suc replaced.joining) (slice_index heads replaced.earlier) replaced.joining (omega (arith, far, up.0)) (omega arith) up.1 replaced.joins.is_from in
      let to_head : reach (slice_index heads place) ≤ plus (slice_index downs replaced.joining) (reach (slice_index heads replaced.earlier)) = subst (λ n. reach n ≤ plus (slice_index downs replaced.joining) (reach (slice_index heads replaced.earlier))) replaced.joins.head two in
      plus_under (slice_index downs replaced.earlier) (slice_index downs replaced.joining) (slice_index downs place) (reach (slice_index heads replaced.earlier)) (reach (slice_index heads place)) (reach rank) replaced.shorter to_head one
]

module _ (nodes : ℕ) (firsts heads downs : List ℕ) (target : ℕ) (aim : Aim) (are : IsUpward nodes firsts heads) (list after : List Cell) (rank : ℕ) (below : rank < nodes)
    (top found : ℕ) (climbing : IsClimbing nodes firsts heads downs target aim list rank top)
    (relaxes : RelaxesReach firsts heads downs aim list after rank (slice_index firsts (rank + 1)) found)
  where
    -- below and at the rank nothing changes
    stays : (other : ℕ) → other ≤ rank → reach_of aim after other ≡ reach_of aim list other
    stays other low = elim (relaxes.kept other) [
      | inl same ↦ same
      | inr has ↦
          let up = are.upward rank has.0 below has.1.is_from in
          absurd (omega (arith, up.0, has.1.head, low))
    ]

    still_within : AreWithin aim after
    still_within other = omega (arith, relaxes.fall other, climbing.within other)

    pub higher : (new : ℕ) → top ≤ new → found ≤ new → IsHighest aim after new
    higher new at_least also other over = relaxes.above other (omega (arith, over, also)) ∙ climbing.highest other (omega (arith, over, at_least))

    head_of : (other : ℕ) → rank < other → reach_of aim after other < aim.far → HasArc firsts heads rank other
    head_of other high some = elim (relaxes.kept other) [
      | inl same ↦ climbing.above other high (omega (arith, some, same))
      | inr has ↦ has
    ]

    still_relaxed : (other place : ℕ) → other ≤ rank → IsFrom firsts other place → IsRelaxed firsts heads downs (reach_of aim after) other place
    still_relaxed other place low is = elim (leb_tells rank other) [
      | inl last ↦
          let same : rank ≡ other = omega (arith, last.1, low) in
          let here : IsFrom firsts rank place = subst (λ r. IsFrom firsts r place) (sym same) is in
          elim (relaxes.over place here here.before) [
            | inl over ↦
                let stay = stays rank (omega arith) in
                inl (subst (λ r. reach_of aim after (slice_index heads place) ≤ plus (slice_index downs place) (reach_of aim after r)) same (rw stay over))
            | inr replaced ↦ inr (subst (λ r. IsReplaced firsts heads downs r place) same replaced)
          ]
      | inr early ↦ elim (climbing.relaxed other place early.1 is) [
        | inl over ↦
            let stay = stays other low in
            inl (rw stay (omega (arith, relaxes.fall (slice_index heads place), over)))
        | inr replaced ↦ inr replaced
      ]
    ]

    -- a rank that isn't reached within is relaxed
    idle : (other place : ℕ) → aim.far ≤ reach_of aim after other → IsRelaxed firsts heads downs (reach_of aim after) other place
    idle other place none =
        let is : reach_of aim after other ≡ aim.far = omega (arith, none, still_within other) in
        inl (rw is (omega (arith, far_sum (slice_index downs place) aim.far climbing.few, still_within (slice_index heads place))))

    reach_target : reach_of aim after target ≡ 0
    reach_target = stays target climbing.target_to ∙ climbing.at_target

    pub climbs : (new : ℕ) → top ≤ new → found ≤ new → slice_index firsts rank < slice_index firsts (rank + 1) → IsClimbing nodes firsts heads downs target aim after (slice_index heads (slice_index firsts rank)) new
    climbs new at_least also some = record {
      few = climbing.few;
      count = relaxes.count ∙ climbing.count;
      reached = relaxes.reached climbing.reached;
      at_target = reach_target;
      within = still_within;
      highest = higher new at_least also;
      target_to = omega (arith, climbing.target_to, up.0);
      relaxed = λ other place early is. elim (leb_tells other rank) [
        | inl low ↦ still_relaxed other place low.1 is
        | inr high ↦ elim (leb_tells aim.far (reach_of aim after other)) [
          | inl none ↦ idle other place none.1
          | inr reached ↦
              let has = head_of other high.1 reached.1 in
              let first = comes_first nodes firsts heads are rank has.0 (slice_index firsts rank) below has.1.is_from lowest (omega (arith, has.1.head, early)) in
              absurd (omega (arith, first, has.1.is_from.from))
        ]
      ];
      above = λ other high reached.
          let has = head_of other (omega (arith, high, up.0)) reached in
          let later : slice_index firsts rank < has.0 = comes_first nodes firsts heads are rank (slice_index firsts rank) has.0 below lowest has.1.is_from (omega (arith, has.1.head, high)) in
          let third = are.chordal rank (slice_index firsts rank) has.0 below lowest has.1.is_from later in
          (third.0, subst (λ n. Joins firsts heads (slice_index heads (slice_index firsts rank)) n third.0) has.1.head third.1);
    }
      where
        lowest : IsFrom firsts rank (slice_index firsts rank)
        lowest = record { from = omega arith; before = some }

        up : (rank < slice_index heads (slice_index firsts rank)) × (slice_index heads (slice_index firsts rank) < nodes)
        up = are.upward rank (slice_index firsts rank) below lowest

    -- no rank above is reached within, since the rank has no head or its lowest is too high
    pub climbed : ((other : ℕ) → rank < other → reach_of aim after other < aim.far → ⊥) → IsReach nodes firsts heads downs target (reach_of aim after)
    climbed none = record {
      at_target = reach_target;
      to_none = λ other. omega (arith, still_within other, climbing.few);
      over = λ other place inside is. all_over nodes firsts heads downs (reach_of aim after) are (λ any at any_below any_from. elim (leb_tells any rank) [
        | inl low ↦ still_relaxed any at low.1 any_from
        | inr high ↦ elim (leb_tells aim.far (reach_of aim after any)) [
          | inl idle_there ↦ idle any at idle_there.1
          | inr reached ↦ absurd (none any high.1 reached.1)
        ]
      ]) nodes (suc place) other place (omega arith) (omega arith) inside is;
    }

    pub none_without_arcs : slice_index firsts (rank + 1) ≤ slice_index firsts rank → (other : ℕ) → rank < other → reach_of aim after other < aim.far → ⊥
    none_without_arcs none other high reached =
        let has = head_of other high reached in
        omega (arith, has.1.is_from.from, has.1.is_from.before, none)

    pub none_above : (new : ℕ) → top ≤ new → found ≤ new → slice_index firsts rank < slice_index firsts (rank + 1) → new < slice_index heads (slice_index firsts rank) → (other : ℕ) → rank < other → reach_of aim after other < aim.far → ⊥
    none_above new at_least also some over other high reached = elim (leb_tells other new) [
      | inl low ↦
          let has = head_of other high reached in
          let lowest : IsFrom firsts rank (slice_index firsts rank) = record { from = omega arith; before = some } in
          let first = comes_first nodes firsts heads are rank has.0 (slice_index firsts rank) below has.1.is_from lowest (omega (arith, has.1.head, low.1, over)) in
          omega (arith, first, has.1.is_from.from)
      | inr above ↦ omega (arith, reached, higher new at_least also other above.1)
    ]

-- at the beginning the target alone is reached
pub climbing_begins : (nodes : ℕ) (firsts heads downs : List ℕ) (target : ℕ) (aim : Aim) (list after : List Cell) → aim.far ≤ NONE → length list ≡ nodes → AreStale aim.stamp list → LowersReach aim list after target 0 → IsClimbing nodes firsts heads downs target aim after target target
climbing_begins nodes firsts heads downs target aim list after few count stale lowers = record {
  few = few;
  count = lowers.count ∙ count;
  reached = lowers.reached (λ other. let low = stale other in omega (arith, low));
  at_target = let low = lowers.here.1 in omega (arith, low);
  within = fine;
  highest = λ other over. lowers.others other (λ same. omega (arith, over, same)) ∙ stale_far other;
  target_to = omega arith;
  relaxed = λ other place early is. inl (rw (lowers.others other (λ same. omega (arith, early, same)) ∙ stale_far other) (omega (arith, far_sum (slice_index downs place) aim.far few, fine (slice_index heads place))));
  above = λ other high some. absurd (omega (arith, some, lowers.others other (λ same. omega (arith, high, same)), stale_far other));
}
  where
    stale_far : (other : ℕ) → reach_of aim list other ≡ aim.far
    stale_far other = let low = stale other in grind (arith, nat_tests, low)

    fine : AreWithin aim after
    fine other = elim (same_or_not other target) [
      | inl same ↦ let low : reach_of aim after target ≤ aim.far = omega (arith, lowers.here.1) in subst (λ n. reach_of aim after n ≤ aim.far) (sym same) low
      | inr differs ↦ omega (arith, lowers.others other differs, stale_far other)
    ]
