-- The upward arcs of one more rank; and when all are made, any two heads of a rank are joined.
use Rattle.std.proofs.Common.{◌≡◌, ℕ, zero, suc, ◌+◌, ◌-◌, ◌<◌, ◌≤◌, ◌⊎◌, inl, inr, refl, ap, sym, subst, ◌∙◌, arith, leb, List, [], ◌∷◌, ◌++◌, length, true, false}
use Rattle.std.specs.Prelude.{All, Contains, slice_index}
use Rattle.std.proofs.lemmas.Bool.{cases_eq}
use Rattle.std.proofs.lemmas.Bool.Decides.{leb_tells}
use Rattle.std.proofs.lemmas.List.{get_or_append_left, get_or_default, get_or_push, length-map, length_push}
use Rattle.ea_road.proofs.Arcs.{arc_inside}
use Rattle.ea_road.specs.Roads.{FitsNodes, IsNetwork, IsNode, Roads}
use Rattle.ea_hierarchy.proofs.Listing.{map_at}
use Rattle.ea_hierarchy.specs.Growth.{AreAbove, AreJoined, AreMade, IsOverArc, IsOverChild}
use Rattle.ea_hierarchy.specs.Hierarchies.{AreLowestHeads, AreRanks, HasArc, IsFrom, IsLowest, IsParent, IsUpward, Joins, rank_of}
use Rattle.ea_hierarchy.specs.Waiting.{Appends, higher_end, higher_ends, lower_end, lower_ends}
use Rattle.ea_hierarchy.specs.declared.numbers.TheConstants.{NONE}

-- one more rank: what was found is appended
module _ (nodes made : ℕ) (firsts heads found grown : List ℕ)
    (is : AreAbove nodes made firsts heads)
    (below : made < nodes)
    (low : All (λ head. head < nodes) found)
    (appends : Appends found made heads grown)
  where
    abbrev more : List ℕ
    more = firsts ++ length grown ∷ []

    more_count : length more ≡ made + 1 + 1
    more_count = omega (arith, length_push firsts (length grown), is.count)

    first_old : (rank : ℕ) → rank ≤ made → slice_index more rank ≡ slice_index firsts rank
    first_old rank to = get_or_append_left firsts (length grown ∷ []) 0 rank (omega (arith, is.count, to))

    first_new : slice_index more (made + 1) ≡ length grown
    first_new = get_or_push firsts (length grown) 0 (made + 1) is.count

    -- a place of a rank that was made before, and one of the new rank
    old_place : (rank place : ℕ) → rank < made → IsFrom more rank place → IsFrom firsts rank place
    old_place rank place early from = record {
      from = omega (arith, from.from, first_old rank (omega (arith, early)));
      before = omega (arith, from.before, first_old (rank + 1) (omega (arith, early)));
    }

    still_place : (rank place : ℕ) → rank < made → IsFrom firsts rank place → IsFrom more rank place
    still_place rank place early from = record {
      from = omega (arith, from.from, first_old rank (omega (arith, early)));
      before = omega (arith, from.before, first_old (rank + 1) (omega (arith, early)));
    }

    old_head : (rank place : ℕ) → rank < made → IsFrom firsts rank place → slice_index grown place ≡ slice_index heads place
    old_head rank place early from = appends.old place (omega (arith, from.before, is.within (rank + 1) (omega (arith, early))))

    record IsNew (rank place : ℕ) : Type 0 where
      is_made : rank ≡ made
      from : length heads ≤ place
      to : place < length grown

    new_place : (rank place : ℕ) → made ≤ rank → rank < made + 1 → IsFrom more rank place → IsNew rank place
    new_place rank place late early from =
        let same : rank ≡ made = omega (arith, late, early) in
        let at : slice_index more rank ≡ length heads = ap (slice_index more) same ∙ first_old made (omega arith) ∙ is.last in
        let end : slice_index more (rank + 1) ≡ length grown = ap (λ n. slice_index more (n + 1)) same ∙ first_new in
        record { is_made = same; from = omega (arith, from.from, at); to = omega (arith, from.before, end) }

    new_below : (place : ℕ) → length heads ≤ place → place < length grown → slice_index grown place < nodes
    new_below place from to =
        let one = appends.of_list place from to in
        let is_low = low one.0 0 one.1 in
        omega (arith, one.2, is_low)

    -- what was found above the rank is one of its heads
    new_arc : (high : ℕ) → made < high → Contains found high → HasArc more grown made high
    new_arc high rises in_it =
        let same : slice_index found in_it.0 ≡ high = get_or_default found in_it.0 0 high in_it.1 ∙ in_it.2 in
        let there = appends.all in_it.0 in_it.1 (omega (arith, rises, same)) in (
          there.0,
          record {
            is_from = record {
              from = omega (arith, there.1, first_old made (omega arith), is.last);
              before = omega (arith, there.2, first_new);
            };
            head = there.3 ∙ same;
          },
        )

    -- the arcs of a rank that was made before
    old_arc : (low high : ℕ) → low < made → HasArc firsts heads low high → HasArc more grown low high
    old_arc low high early arc = (arc.0, record { is_from = still_place low arc.0 early arc.1.is_from; head = old_head low arc.0 early arc.1.is_from ∙ arc.1.head })

    pub above_more : AreAbove nodes (made + 1) (firsts ++ length grown ∷ []) grown
    above_more = record {
      count = more_count;
      last = first_new;
      within = λ rank to. elim (leb_tells rank made) [
        | inl early ↦ omega (arith, first_old rank early.1, is.within rank early.1, appends.long)
        | inr late ↦ let same : rank ≡ made + 1 = omega (arith, to, late.1) in omega (arith, ap (slice_index more) same, first_new)
      ];
      rises = λ rank early. elim (leb_tells made rank) [
        | inl late ↦
            let same : rank ≡ made = omega (arith, late.1, early) in
            omega (arith, ap (slice_index more) same, ap (λ n. slice_index more (n + 1)) same, first_old made (omega arith), first_new, is.last, appends.long)
        | inr before ↦ omega (arith, first_old rank (omega (arith, before.1)), first_old (rank + 1) (omega (arith, before.1)), is.rises rank before.1)
      ];
      upward = λ rank place early from. elim (leb_tells made rank) [
        | inl late ↦
            let new = new_place rank place late.1 early from in
            (omega (arith, new.is_made, appends.above place new.from new.to), new_below place new.from new.to)
        | inr before ↦
            let old = old_place rank place before.1 from in
            let up = is.upward rank place before.1 old in
            (omega (arith, old_head rank place before.1 old, up.0), omega (arith, old_head rank place before.1 old, up.1))
      ];
      ascend = λ rank place later early from from_later order. elim (leb_tells made rank) [
        | inl late ↦
            let new = new_place rank place late.1 early from in
            let next = new_place rank later late.1 early from_later in
            appends.ascend place later new.from order next.to
        | inr before ↦
            let old = old_place rank place before.1 from in
            let next = old_place rank later before.1 from_later in
            omega (arith, old_head rank place before.1 old, old_head rank later before.1 next, is.ascend rank place later before.1 old next order)
      ];
    }

    -- the lowest heads
    lowest_still : (rank head : ℕ) → rank < made → IsLowest firsts heads rank head → IsLowest more grown rank head
    lowest_still rank head early lowest =
        let at = first_old rank (omega (arith, early)) in
        let end = first_old (rank + 1) (omega (arith, early)) in
        let from : IsFrom firsts rank (slice_index firsts rank) = record { from = omega arith; before = lowest.some } in
        record { some = omega (arith, at, end, lowest.some); is = ap (slice_index grown) at ∙ old_head rank (slice_index firsts rank) early from ∙ lowest.is }

    lowest_before : (rank head : ℕ) → rank < made → IsLowest more grown rank head → IsLowest firsts heads rank head
    lowest_before rank head early lowest =
        let at = first_old rank (omega (arith, early)) in
        let end = first_old (rank + 1) (omega (arith, early)) in
        let some : slice_index firsts rank < slice_index firsts (rank + 1) = omega (arith, at, end, lowest.some) in
        let from : IsFrom firsts rank (slice_index firsts rank) = record { from = omega arith; before = some } in
        record { some = some; is = sym (old_head rank (slice_index firsts rank) early from) ∙ ap (slice_index grown) (sym at) ∙ lowest.is }

    module _ (parents : List ℕ) (are : AreLowestHeads firsts heads parents) where
      many : length parents ≡ made
      many = omega (arith, are.count, is.count)

      parent_still : (rank : ℕ) → rank < made → IsParent more grown rank (slice_index parents rank)
      parent_still rank early =
          let each = are.each rank (omega (arith, early, is.count)) in
          record {
            lowest = λ some. lowest_still rank (slice_index parents rank) early (each.lowest some);
            none = λ none head lowest. each.none none head (lowest_before rank head early lowest);
          }

      pub parents_more : (parent : ℕ) → IsParent more grown made parent → AreLowestHeads (firsts ++ length grown ∷ []) grown (parents ++ parent ∷ [])
      parents_more parent new = record {
        count = omega (arith, length_push parents parent, many, more_count);
        each = λ rank inside. elim (leb_tells made rank) [
          | inl late ↦
              let same : rank ≡ made = omega (arith, late.1, inside, more_count) in
              let here : slice_index (parents ++ parent ∷ []) rank ≡ parent = get_or_push parents parent 0 rank (omega (arith, many, same)) in
              subst (λ p. IsParent more grown rank p) (sym here) (subst (λ n. IsParent more grown n parent) (sym same) new)
          | inr early ↦ subst (λ p. IsParent more grown rank p) (sym (get_or_append_left parents (parent ∷ []) 0 rank (omega (arith, early.1, many)))) (parent_still rank early.1)
        ];
      }

      -- a rank whose lowest head is another is a child of it
      is_parent : (rank head : ℕ) → rank < made → IsLowest firsts heads rank head → slice_index parents rank ≡ head
      is_parent rank head early lowest =
          let each = are.each rank (omega (arith, early, is.count)) in
          elim (cases_eq (slice_index parents rank) NONE) [
            | inl none ↦ absurd (each.none none head lowest)
            | inr some ↦ let one = each.lowest some in sym one.is ∙ lowest.is
          ]

      module _ (lows highs : List ℕ) (made_so_far : AreMade made lows highs firsts heads)
          (arcs : (head : ℕ) → IsOverArc lows highs made head → Contains found head)
          (children : (head : ℕ) → IsOverChild firsts heads parents made head → Contains found head) where
        pub made_more : AreMade (made + 1) lows highs (firsts ++ length grown ∷ []) grown
        made_more = record {
          arcs = λ low high early rises over. elim (leb_tells made low) [
            | inl late ↦
                let same : low ≡ made = omega (arith, late.1, early) in
                subst (λ n. HasArc more grown n high) (sym same) (new_arc high (omega (arith, same, rises)) (arcs high (subst (λ n. IsOverArc lows highs n high) same over)))
            | inr before ↦ old_arc low high before.1 (made_so_far.arcs low high before.1 rises over)
          ];
          handed = handed;
        }
          where
            handed : (rank place : ℕ) → rank < made + 1 → IsFrom more rank place → slice_index more rank < place → slice_index grown (slice_index more rank) < made + 1
                → HasArc more grown (slice_index grown (slice_index more rank)) (slice_index grown place)
            handed rank place early from later done = elim (leb_tells made rank) [
              | inl late ↦
                  let first : IsFrom more rank (slice_index more rank) = record { from = omega arith; before = omega (arith, from.from, from.before) } in
                  let new = new_place rank (slice_index more rank) late.1 early first in
                  absurd (omega (arith, done, appends.above (slice_index more rank) new.from new.to))
              | inr before ↦
                  let old = old_place rank place before.1 from in
                  let at : slice_index more rank ≡ slice_index firsts rank = first_old rank (omega (arith, before.1)) in
                  let after : slice_index firsts rank < place = omega (arith, later, at) in
                  let first : IsFrom firsts rank (slice_index firsts rank) = record { from = omega arith; before = omega (arith, old.from, old.before) } in
                  let head : slice_index grown (slice_index more rank) ≡ slice_index heads (slice_index firsts rank) = ap (slice_index grown) at ∙ old_head rank (slice_index firsts rank) before.1 first in
                  let last = old_head rank place before.1 old in
                  let rises = is.ascend rank (slice_index firsts rank) place before.1 first old after in
                  subst (λ n. HasArc more grown n (slice_index grown place)) (sym head)
                  (subst (λ n. HasArc more grown (slice_index heads (slice_index firsts rank)) n) (sym last)
                  (by_parent rank place before.1 old after first rises (omega (arith, head, done)) (leb_tells made (slice_index heads (slice_index firsts rank)))))
            ]
              where
                by_parent : (rank place : ℕ) → rank < made → IsFrom firsts rank place → slice_index firsts rank < place → IsFrom firsts rank (slice_index firsts rank) → slice_index heads (slice_index firsts rank) < slice_index heads place → slice_index heads (slice_index firsts rank) < made + 1
                    → ((leb made (slice_index heads (slice_index firsts rank)) ≡ true) × (made ≤ slice_index heads (slice_index firsts rank))) ⊎ ((leb made (slice_index heads (slice_index firsts rank)) ≡ false) × (slice_index heads (slice_index firsts rank) < made))
                    → HasArc more grown (slice_index heads (slice_index firsts rank)) (slice_index heads place)
                by_parent rank place before old after first rises done (inl late) =
                    let same : slice_index heads (slice_index firsts rank) ≡ made = omega (arith, late.1, done) in
                    let lowest : IsLowest firsts heads rank made = record { some = first.before; is = same } in
                    let over : IsOverChild firsts heads parents made (slice_index heads place) = record {
                      child = rank;
                      inside = omega (arith, before, many);
                      parent = is_parent rank made before lowest;
                      arc = (place, record { is_from = old; head = refl });
                    } in
                    subst (λ n. HasArc more grown n (slice_index heads place)) (sym same) (new_arc (slice_index heads place) (omega (arith, same, rises)) (children (slice_index heads place) over))
                by_parent rank place before old after first rises done (inr low) = old_arc (slice_index heads (slice_index firsts rank)) (slice_index heads place) low.1 (made_so_far.handed rank place before old after low.1)

-- nothing is made yet
pub above_none : (nodes : ℕ) → AreAbove nodes 0 (0 ∷ []) []
above_none nodes = record {
  count = refl;
  last = refl;
  within = λ rank to. let same : rank ≡ 0 = omega (arith, to) in subst (λ n. slice_index (0 ∷ []) n ≤ length {A = ℕ} []) (sym same) (omega arith);
  rises = λ rank early. absurd (omega (arith, early));
  upward = λ rank place early. absurd (omega (arith, early));
  ascend = λ rank place later early. absurd (omega (arith, early));
}

pub made_none : (lows highs firsts heads : List ℕ) → AreMade 0 lows highs firsts heads
made_none lows highs firsts heads = record {
  arcs = λ low high early. absurd (omega (arith, early));
  handed = λ rank place early. absurd (omega (arith, early));
}

-- all are made
module _ (nodes : ℕ) (lows highs firsts heads : List ℕ) (is : AreAbove nodes nodes firsts heads) (made : AreMade nodes lows highs firsts heads) where
  abbrev parent_of : ℕ → ℕ
  parent_of rank = slice_index heads (slice_index firsts rank)

  joined : (steps rank place later : ℕ) → nodes ≤ rank + steps → rank < nodes → IsFrom firsts rank place → IsFrom firsts rank later → place < later → (joining : ℕ) × Joins firsts heads (slice_index heads place) (slice_index heads later) joining
  joined zero rank place later far below from from_later order = absurd (omega (arith, far, below))
  joined (suc steps) rank place later far below from from_later order =
      by_first (λ low first second more is_below one two rises. joined steps low first second more is_below one two rises) (leb_tells place (slice_index firsts rank))
    where
      lowest : IsFrom firsts rank (slice_index firsts rank)
      lowest = record { from = omega arith; before = omega (arith, from.from, from.before) }

      up : (rank < (parent_of rank)) × ((parent_of rank) < nodes)
      up = is.upward rank (slice_index firsts rank) below lowest

      handed : (other : ℕ) → IsFrom firsts rank other → slice_index firsts rank < other → (joining : ℕ) × Joins firsts heads (parent_of rank) (slice_index heads other) joining
      handed other from_other after = made.handed rank other below from_other after up.1

      in_order : (a b : ℕ) → IsFrom firsts (parent_of rank) a → IsFrom firsts (parent_of rank) b → slice_index heads a < slice_index heads b → a < b
      in_order a b from_a from_b less = elim (leb_tells b a) [
        | inr order ↦ order.1
        | inl low ↦ elim (leb_tells a b) [
          | inl same ↦ let is_same : a ≡ b = omega (arith, low.1, same.1) in absurd (omega (arith, ap (slice_index heads) is_same, less))
          | inr strict ↦ let falls = is.ascend (parent_of rank) b a up.1 from_b from_a strict.1 in absurd (omega (arith, falls, less))
        ]
      ]

      by_first : ((low first second : ℕ) → nodes ≤ low + steps → low < nodes → IsFrom firsts low first → IsFrom firsts low second → first < second → (joining : ℕ) × Joins firsts heads (slice_index heads first) (slice_index heads second) joining)
          → ((leb place (slice_index firsts rank) ≡ true) × (place ≤ slice_index firsts rank)) ⊎ ((leb place (slice_index firsts rank) ≡ false) × (slice_index firsts rank < place)) → (joining : ℕ) × Joins firsts heads (slice_index heads place) (slice_index heads later) joining
      by_first above (inl first) =
          let same : place ≡ slice_index firsts rank = omega (arith, first.1, from.from) in
          let found = handed later from_later (omega (arith, order, same)) in
          (found.0, subst (λ n. Joins firsts heads (slice_index heads n) (slice_index heads later) found.0) (sym same) found.1)
      by_first above (inr after) =
          let one = handed place from after.1 in
          let two = handed later from_later (omega (arith, order, after.1)) in
          let rises = is.ascend rank place later below from from_later order in
          let before : one.0 < two.0 = in_order one.0 two.0 one.1.is_from two.1.is_from (omega (arith, one.1.head, two.1.head, rises)) in
          let found = above (parent_of rank) one.0 two.0 (omega (arith, far, up.0)) up.1 one.1.is_from two.1.is_from before in
          (found.0, subst (λ n. Joins firsts heads n (slice_index heads later) found.0) one.1.head (subst (λ n. Joins firsts heads (slice_index heads one.0) n found.0) two.1.head found.1))

  pub all_upward : IsUpward nodes firsts heads
  all_upward = record {
    count = is.count;
    within = is.within;
    rises = is.rises;
    upward = is.upward;
    ascend = is.ascend;
    chordal = λ rank place later below from from_later order. joined nodes rank place later (omega arith) below from from_later order;
  }

-- the arcs of a network have upward arcs
pub all_joined : (roads : Roads) (ranks firsts heads : List ℕ) → AreRanks roads.nodes ranks → IsNetwork roads
    → AreMade roads.nodes (lower_ends ranks roads.arcs) (higher_ends ranks roads.arcs) firsts heads → AreJoined roads ranks firsts heads
all_joined roads ranks firsts heads are network made number arc is = record {
  up = λ rises. made.arcs (rank_of ranks arc.tail) (rank_of ranks arc.head) (omega (arith, rises, low arc.head fits.head)) rises (over (rank_of ranks arc.tail) (rank_of ranks arc.head) (omega (arith, rises)) (omega (arith, rises)));
  down = λ falls. made.arcs (rank_of ranks arc.head) (rank_of ranks arc.tail) (omega (arith, falls, low arc.tail fits.tail)) falls (over (rank_of ranks arc.head) (rank_of ranks arc.tail) (omega (arith, falls)) (omega (arith, falls)));
}
  where
    fits : FitsNodes roads.nodes arc
    fits = network.each_fits number arc is

    low : (node : ℕ) → IsNode roads.nodes node → rank_of ranks node < roads.nodes
    low node is = are.below (node - 1) (omega (arith, is.from_one, is.to_last))

    over : (low high : ℕ) → lower_end ranks arc ≡ low → higher_end ranks arc ≡ high → IsOverArc (lower_ends ranks roads.arcs) (higher_ends ranks roads.arcs) low high
    over low high is_low is_high = record {
      place = number - 1;
      inside = omega (arith, arc_inside roads.arcs (number - 1) arc is.found, length-map roads.arcs (lower_end ranks));
      low_is = map_at (lower_end ranks) roads.arcs (number - 1) arc is.found ∙ is_low;
      high_is = map_at (higher_end ranks) roads.arcs (number - 1) arc is.found ∙ is_high;
    }
