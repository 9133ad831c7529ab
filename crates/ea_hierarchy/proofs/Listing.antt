-- Numbers that wait at ranks: one more, and a walk over all that wait at one.
use Rattle.std.proofs.Common.{◌≡◌, ℕ, zero, suc, ◌+◌, ◌-◌, ◌<◌, ◌≤◌, inl, inr, refl, ap, sym, subst, ◌∙◌, arith, List, [], ◌∷◌, ◌++◌, length, get_or, set, map, drop}
use Rattle.std.specs.Prelude.{All, Contains, Option, Some, slice_get, slice_index}
use Rattle.std.proofs.lemmas.Bool.{cases_eq}
use Rattle.std.proofs.lemmas.Bool.Decides.{leb_tells}
use Rattle.std.proofs.lemmas.List.{get_or-drop, get_or-set_other, get_or-set_same, get_or-take, get_or_append_left, get_or_default, get_or_past, get_or_push, length-drop, length-set, length-take-le, length_push}
use Rattle.std.proofs.lemmas.List.Elements.{All-append, All-push, Contains-append_left, Contains-append_right, Contains-push}
use Rattle.ea_road.specs.declared.arc.Arc.{Arc}
use Rattle.ea_hierarchy.specs.Growth.{AreAbove, IsOverArc, IsOverChild, heads_of}
use Rattle.ea_hierarchy.specs.Hierarchies.{HasArc}
use Rattle.ea_hierarchy.specs.Waiting.{AreWaiting, Finds}

-- a number after others
module _ (earlier : List ℕ) (first : ℕ) where
  abbrev more : List ℕ
  more = earlier ++ first ∷ []

  before : (place : ℕ) → place < length earlier → slice_index more place ≡ slice_index earlier place
  before place inside = get_or_append_left earlier (first ∷ []) 0 place inside

  at_end : slice_index more (length earlier) ≡ first
  at_end = get_or_push earlier first 0 (length earlier) refl

  past : (place : ℕ) → length earlier < place → slice_index more place ≡ 0
  past place out = get_or_past more place 0 (omega (arith, out, length_push earlier first))

  cases : (P : ℕ → Type 0) → ((place : ℕ) → place < length earlier → P place) → P (length earlier) → ((place : ℕ) → length earlier < place → P place) → (place : ℕ) → P place
  cases P low here high place = elim (leb_tells place (length earlier)) [
    | inl to ↦ elim (leb_tells (length earlier) place) [
      | inl from ↦ let same : length earlier ≡ place = omega (arith, to.1, from.1) in subst P same here
      | inr less ↦ low place less.1
    ]
    | inr out ↦ high place out.1
  ]

-- one more number waits
module _ (lows newest earlier : List ℕ) (rank : ℕ) (is : AreWaiting lows newest earlier) (there : slice_index lows (length earlier) ≡ rank) where
  pub waits_nowhere : length newest ≤ rank → AreWaiting lows newest (earlier ++ 0 ∷ [])
  waits_nowhere none = record {
    within = λ other. omega (arith, is.within other, length_push earlier 0);
    falls = cases earlier 0 (λ place. slice_index after place ≤ place) (λ place inside. omega (arith, before earlier 0 place inside, is.falls place)) (omega (arith, at_end earlier 0)) (λ place out. omega (arith, past earlier 0 place out));
    newest_there = is.newest_there;
    earlier_there = cases earlier 0 (λ place. 0 < slice_index after place → slice_index lows (slice_index after place - 1) ≡ slice_index lows place)
        (λ place inside. subst (λ n. 0 < n → slice_index lows (n - 1) ≡ slice_index lows place) (sym (before earlier 0 place inside)) (is.earlier_there place))
        (λ some. absurd (omega (arith, some, at_end earlier 0)))
        (λ place out some. absurd (omega (arith, some, past earlier 0 place out)));
    none_newer = λ place inside room. elim (leb_tells (length earlier) place) [
      | inl late ↦
          let same : place ≡ length earlier = omega (arith, late.1, inside, length_push earlier 0) in
          absurd (omega (arith, room, none, ap (slice_index lows) same, there))
      | inr early ↦ is.none_newer place early.1 room
    ];
    none_between = λ place later order inside same room. elim (leb_tells (length earlier) later) [
      | inl late ↦
          let last : later ≡ length earlier = omega (arith, late.1, inside, length_push earlier 0) in
          absurd (omega (arith, room, none, same, ap (slice_index lows) last, there))
      | inr early ↦ omega (arith, before earlier 0 later early.1, is.none_between place later order early.1 same room)
    ];
  }
    where
      after : List ℕ
      after = earlier ++ 0 ∷ []

  pub waits_there : rank < length newest → AreWaiting lows (set newest rank (length earlier + 1)) (earlier ++ slice_index newest rank ∷ [])
  waits_there inside_newest = record {
    within = λ other. elim (cases_eq other rank) [
      | inl same ↦ omega (arith, here other same, long)
      | inr not ↦ omega (arith, elsewhere other not, is.within other, long)
    ];
    falls = cases earlier first (λ place. slice_index after place ≤ place) (λ place inside. omega (arith, before earlier first place inside, is.falls place)) (omega (arith, at_end earlier first, is.within rank)) (λ place out. omega (arith, past earlier first place out));
    newest_there = λ other some. elim (cases_eq other rank) [
      | inl same ↦
          let at : slice_index now other - 1 ≡ length earlier = omega (arith, here other same) in
          ap (slice_index lows) at ∙ there ∙ sym same
      | inr not ↦ ap (λ n. slice_index lows (n - 1)) (elsewhere other not) ∙ is.newest_there other (omega (arith, some, elsewhere other not))
    ];
    earlier_there = cases earlier first (λ place. 0 < slice_index after place → slice_index lows (slice_index after place - 1) ≡ slice_index lows place)
        (λ place inside. subst (λ n. 0 < n → slice_index lows (n - 1) ≡ slice_index lows place) (sym (before earlier first place inside)) (is.earlier_there place))
        (λ some. ap (λ n. slice_index lows (n - 1)) (at_end earlier first) ∙ is.newest_there rank (omega (arith, some, at_end earlier first)) ∙ sym there)
        (λ place out some. absurd (omega (arith, some, past earlier first place out)));
    none_newer = λ place inside room. elim (cases_eq (slice_index lows place) rank) [
      | inl same ↦ omega (arith, here (slice_index lows place) same, inside, long)
      | inr not ↦ elim (leb_tells (length earlier) place) [
        | inl late ↦
            let last : place ≡ length earlier = omega (arith, late.1, inside, long) in
            absurd (not (ap (slice_index lows) last ∙ there))
        | inr early ↦ omega (arith, elsewhere (slice_index lows place) not, is.none_newer place early.1 (omega (arith, room, wide)))
      ]
    ];
    none_between = λ place later order inside same room. elim (leb_tells (length earlier) later) [
      | inl late ↦
          let last : later ≡ length earlier = omega (arith, late.1, inside, long) in
          let at : slice_index lows place ≡ rank = same ∙ ap (slice_index lows) last ∙ there in
          let newer = is.none_newer place (omega (arith, order, last)) (omega (arith, room, wide)) in
          omega (arith, ap (slice_index after) last, at_end earlier first, newer, ap (slice_index newest) at)
      | inr early ↦ omega (arith, before earlier first later early.1, is.none_between place later order early.1 same (omega (arith, room, wide)))
    ];
  }
    where
      first : ℕ
      first = slice_index newest rank

      now : List ℕ
      now = set newest rank (length earlier + 1)

      after : List ℕ
      after = earlier ++ first ∷ []

      long : length after ≡ length earlier + 1
      long = length_push earlier first

      wide : length now ≡ length newest
      wide = length-set newest rank (length earlier + 1)

      here : (other : ℕ) → other ≡ rank → slice_index now other ≡ length earlier + 1
      here other same = ap (slice_index now) same ∙ get_or-set_same newest rank (length earlier + 1) 0 inside_newest

      elsewhere : (other : ℕ) → (other ≡ rank → ⊥) → slice_index now other ≡ slice_index newest other
      elsewhere other not = get_or-set_other newest rank other (length earlier + 1) 0 not

-- the same over another list that says as much of those that wait
pub waits_among : (lows others newest earlier : List ℕ) → ((place : ℕ) → place < length earlier → slice_index others place ≡ slice_index lows place) → AreWaiting lows newest earlier → AreWaiting others newest earlier
waits_among lows others newest earlier agree is = record {
  within = is.within;
  falls = is.falls;
  newest_there = λ rank some. agree (slice_index newest rank - 1) (omega (arith, some, is.within rank)) ∙ is.newest_there rank some;
  earlier_there = λ place some.
      let inside : place < length earlier = elim (leb_tells (length earlier) place) [
        | inl out ↦ absurd (omega (arith, some, get_or_past earlier place 0 out.1))
        | inr inside ↦ inside.1
      ] in
      agree (slice_index earlier place - 1) (omega (arith, some, is.falls place, inside)) ∙ is.earlier_there place some ∙ sym (agree place inside);
  none_newer = λ place inside room.
      omega (arith, ap (slice_index newest) (agree place inside), is.none_newer place inside (omega (arith, room, agree place inside)));
  none_between = λ place later order inside same room.
      let early : place < length earlier = omega (arith, order, inside) in
      is.none_between place later order inside (sym (agree place early) ∙ same ∙ agree later inside) (omega (arith, room, agree place early));
}

-- a walk over the numbers at a rank: what was done with those from a number on
pub record IsWalked (lows earlier : List ℕ) (rank number : ℕ) (Done : ℕ → Type 0) : Type 0 where
  pub to : number ≤ length earlier
  pub there : 0 < number → slice_index lows (number - 1) ≡ rank
  pub done : (place : ℕ) → number ≤ place → place < length earlier → slice_index lows place ≡ rank → Done place

module _ (lows newest earlier : List ℕ) (rank : ℕ) (is : AreWaiting lows newest earlier) (room : rank < length newest) (Done : ℕ → Type 0) where
  pub walk_begins : IsWalked lows earlier rank (slice_index newest rank) Done
  walk_begins = record {
    to = is.within rank;
    there = is.newest_there rank;
    done = λ place from inside at.
        absurd (omega (arith, from, ap (slice_index newest) at, is.none_newer place inside (omega (arith, at, room))));
  }

  pub walk_goes_on : (After : ℕ → Type 0) (number : ℕ) → 0 < number → IsWalked lows earlier rank number Done → ((place : ℕ) → Done place → After place) → After (number - 1) → IsWalked lows earlier rank (slice_index earlier (number - 1)) After
  walk_goes_on After number some walked still here = record {
    to = omega (arith, is.falls (number - 1), walked.to);
    there = λ more. is.earlier_there (number - 1) more ∙ walked.there some;
    done = λ place from inside at. elim (leb_tells number place) [
      | inl late ↦ still place (walked.done place late.1 inside at)
      | inr early ↦ elim (leb_tells (number - 1) place) [
        | inl last ↦ let same : number - 1 ≡ place = omega (arith, last.1, early.1) in subst After same here
        | inr less ↦
            absurd (omega (arith, from, is.none_between place (number - 1) less.1 (omega (arith, some, walked.to)) (at ∙ sym (walked.there some)) (omega (arith, at, room))))
      ]
    ];
  }

-- what is written for each arc, at the place of one
same_arc : (a b : Arc) → ◌≡◌ {A = Option Arc} (Some a) (Some b) → a ≡ b
same_arc a b is = cc

pub map_at : (f : Arc → ℕ) (arcs : List Arc) (place : ℕ) (arc : Arc) → slice_get arcs place ≡ Some arc → slice_index (map f arcs) place ≡ f arc
map_at f [] place arc found = absurd (cc)
map_at f (first ∷ arcs) zero arc found = ap f (same_arc first arc found)
map_at f (first ∷ arcs) (suc place) arc found = map_at f arcs place arc found

-- ---- what a walk finds

-- so far: the higher ends of arcs
pub record FindsArcs (nodes : ℕ) (lows highs earlier before after : List ℕ) (rank number : ℕ) : Type 0 where
  pub walked : IsWalked lows earlier rank number (λ place. Contains after (slice_index highs place))
  pub kept : (number : ℕ) → Contains before number → Contains after number
  pub below : All (λ number. number < nodes) before → All (λ number. number < nodes) after

module _ (nodes : ℕ) (lows highs newest earlier before : List ℕ) (rank : ℕ) (is : AreWaiting lows newest earlier) (room : rank < length newest) where
  pub arcs_begin : FindsArcs nodes lows highs earlier before before rank (slice_index newest rank)
  arcs_begin = record {
    walked = walk_begins lows newest earlier rank is room (λ place. Contains before (slice_index highs place));
    kept = λ number in_it. in_it;
    below = λ all. all;
  }

  pub arcs_more : (after : List ℕ) (number high : ℕ) → 0 < number → high ≡ slice_index highs (number - 1) → high < nodes → FindsArcs nodes lows highs earlier before after rank number
      → FindsArcs nodes lows highs earlier before (after ++ high ∷ []) rank (slice_index earlier (number - 1))
  arcs_more after number high some same low so_far = record {
    walked = walk_goes_on lows newest earlier rank is room (λ place. Contains after (slice_index highs place)) (λ place. Contains (after ++ high ∷ []) (slice_index highs place)) number some so_far.walked
        (λ place in_it. Contains-append_left after (high ∷ []) (slice_index highs place) in_it)
        (subst (λ n. Contains (after ++ high ∷ []) n) same (Contains-push after high));
    kept = λ other in_it. Contains-append_left after (high ∷ []) other (so_far.kept other in_it);
    below = λ all. All-push (λ number. number < nodes) after high (so_far.below all) low;
  }

  pub arcs_all : (after : List ℕ) (number : ℕ) → number ≤ 0 → length lows ≤ length earlier → FindsArcs nodes lows highs earlier before after rank number → Finds nodes (IsOverArc lows highs rank) before after
  arcs_all after number none all so_far = record {
    kept = so_far.kept;
    all = λ head over. subst (λ n. Contains after n) over.high_is (so_far.walked.done over.place (omega (arith, none)) (omega (arith, over.inside, all)) over.low_is);
    below = so_far.below;
  }

-- the heads of a rank
module _ (nodes made : ℕ) (firsts heads : List ℕ) (is : AreAbove nodes made firsts heads) (rank : ℕ) (early : rank < made) where
  many : slice_index firsts (rank + 1) - slice_index firsts rank ≤ length (drop (slice_index firsts rank) heads)
  many = omega (arith, is.within (rank + 1) (omega (arith, early)), length-drop (slice_index firsts rank) heads)

  at : (place : ℕ) (d : ℕ) → place < slice_index firsts (rank + 1) - slice_index firsts rank → get_or (heads_of firsts heads rank) place d ≡ get_or heads (slice_index firsts rank + place) d
  at place d inside = get_or-take (slice_index firsts (rank + 1) - slice_index firsts rank) (drop (slice_index firsts rank) heads) place d inside ∙ get_or-drop (slice_index firsts rank) heads place d

  size : length (heads_of firsts heads rank) ≡ slice_index firsts (rank + 1) - slice_index firsts rank
  size = length-take-le (slice_index firsts (rank + 1) - slice_index firsts rank) (drop (slice_index firsts rank) heads) many

  pub heads_contain : (head : ℕ) → HasArc firsts heads rank head → Contains (heads_of firsts heads rank) head
  heads_contain head arc =
      let from = arc.1.is_from.from in
      let before = arc.1.is_from.before in
      let inside : arc.0 - slice_index firsts rank < slice_index firsts (rank + 1) - slice_index firsts rank = omega (arith, from, before) in
      let place : slice_index firsts rank + (arc.0 - slice_index firsts rank) ≡ arc.0 = omega (arith, from) in (
        arc.0 - slice_index firsts rank,
        omega (arith, inside, size),
        at (arc.0 - slice_index firsts rank) head inside ∙ ap (λ n. get_or heads n head) place
            ∙ get_or_default heads arc.0 head 0 (omega (arith, before, is.within (rank + 1) (omega (arith, early)))) ∙ arc.1.head,
      )

  pub heads_below : All (λ head. head < nodes) (heads_of firsts heads rank)
  heads_below place d inside =
      let within : place < slice_index firsts (rank + 1) - slice_index firsts rank = omega (arith, inside, size) in
      let up = is.upward rank (slice_index firsts rank + place) early (record { from = omega arith; before = omega (arith, within) }) in
      let same = get_or_default heads (slice_index firsts rank + place) d 0 (omega (arith, within, is.within (rank + 1) (omega (arith, early)))) in
      omega (arith, at place d within, same, up.1)

-- so far: the heads of children
abbrev pub HasHeads : List ℕ → List ℕ → List ℕ → ℕ → Type 0
HasHeads firsts heads after child = (head : ℕ) → HasArc firsts heads child head → Contains after head

pub record FindsHeads (nodes : ℕ) (firsts heads parents earlier before after : List ℕ) (rank number : ℕ) : Type 0 where
  pub walked : IsWalked parents earlier rank number (HasHeads firsts heads after)
  pub kept : (number : ℕ) → Contains before number → Contains after number
  pub below : All (λ number. number < nodes) before → All (λ number. number < nodes) after

module _ (nodes made : ℕ) (firsts heads parents newest earlier before : List ℕ) (rank : ℕ) (above : AreAbove nodes made firsts heads) (count : length earlier ≡ made) (is : AreWaiting parents newest earlier) (room : rank < length newest) where
  pub heads_begin : FindsHeads nodes firsts heads parents earlier before before rank (slice_index newest rank)
  heads_begin = record {
    walked = walk_begins parents newest earlier rank is room (HasHeads firsts heads before);
    kept = λ number in_it. in_it;
    below = λ all. all;
  }

  pub heads_more : (after : List ℕ) (number : ℕ) → 0 < number → FindsHeads nodes firsts heads parents earlier before after rank number
      → FindsHeads nodes firsts heads parents earlier before (after ++ heads_of firsts heads (number - 1)) rank (slice_index earlier (number - 1))
  heads_more after number some so_far = record {
    walked = walk_goes_on parents newest earlier rank is room (HasHeads firsts heads after) (HasHeads firsts heads (after ++ heads_of firsts heads (number - 1))) number some so_far.walked
        (λ child has head arc. Contains-append_left after (heads_of firsts heads (number - 1)) head (has head arc))
        (λ head arc. Contains-append_right after (heads_of firsts heads (number - 1)) head (heads_contain nodes made firsts heads above (number - 1) early head arc));
    kept = λ other in_it. Contains-append_left after (heads_of firsts heads (number - 1)) other (so_far.kept other in_it);
    below = λ all. All-append (λ number. number < nodes) after (heads_of firsts heads (number - 1)) (so_far.below all) (heads_below nodes made firsts heads above (number - 1) early);
  }
    where
      early : number - 1 < made
      early = omega (arith, some, so_far.walked.to, count)

  pub heads_all : (after : List ℕ) (number : ℕ) → number ≤ 0 → length parents ≤ length earlier → FindsHeads nodes firsts heads parents earlier before after rank number → Finds nodes (IsOverChild firsts heads parents rank) before after
  heads_all after number none all so_far = record {
    kept = so_far.kept;
    all = λ head over. so_far.walked.done over.child (omega (arith, none)) (omega (arith, over.inside, all)) over.parent head over.arc;
    below = so_far.below;
  }
