-- The effect of offering links.
use Rattle.std.proofs.Common.{◌≡◌, ℕ, zero, suc, ◌+◌, ◌-◌, ◌<◌, ◌≤◌, cond, leb, List, [], ◌∷◌, length, get_or, set, replicate, Contains, refl, sym, ◌∙◌, ap, subst, ◌⊎◌, inl, inr, arith}
use Rattle.std.specs.List.{IsAmong}
use Rattle.std.proofs.lemmas.Bool.{cases_lt, cases_eq}
use Rattle.std.proofs.lemmas.Bool.Decides.{leb_tells}
use Rattle.std.proofs.lemmas.List.{length-set, get_or_past, get_or_default, get_or_read, get_or-replicate, length-replicate}
use Rattle.std.proofs.lemmas.List.Sums.{sum_by-set, count_by-le-length}
use Rattle.ea_road.specs.declared.arc.Arc.{Arc}
use Rattle.ea_road.specs.declared.source.Source.{Source}
use Rattle.ea_base.specs.declared.limits.TheConstants.{HORIZON}
use Rattle.ea_road.specs.declared.TheConstants.{NONE}
use Rattle.ea_travel_times.specs.Answers.{IsFifo}
use Rattle.ea_road.specs.Roads.{Roads, IsArc, IsNetwork, top_class}
use Rattle.ea_road.proofs.Arcs.{is_question}
use Rattle.ea_road.proofs.Same.{one_answer}
use Rattle.ea_search.specs.declared.link.Link.{Link}
use Rattle.ea_search.specs.declared.link.TheConstants.{NO_LEVEL}
use Rattle.ea_search.specs.Underway.{bound_of}
use Rattle.ea_search.specs.Links.{no_link, link}
use Rattle.ea_paths.specs.Offers.{MeetsBound, IsSeed, Precedes, unlinked, levels, IsBounded, Offers, IsOne, IsSpread, IsSpent, Linking, AreSown}
use Rattle.ea_search.proofs.Worklists.{Contains-cons_cases, Contains-cons}
use Rattle.ea_search.proofs.Entries.{bound_of-at, step-head, step-answer}
use Rattle.ea_search.proofs.Places.{link-at, link-set_same, link-set_other}

-- a number with a level is a node's
pub link-node : (links : List Link) (v : ℕ) → (link links v).level < NO_LEVEL → (0 < v) × (v ≤ length links)
unfolding link
link-node links zero h = absurd (omega arith)
link-node links (suc k) h = elim (cases_lt k (length links)) [
  | inl l ↦ (omega arith, omega arith)
  | inr l ↦ (let e = ap (λ (x : Link). x.level) (get_or_past links k no_link l) in absurd (omega arith))
]

-- what precedes has no higher level, and what precedes it precedes
pub Precedes-level : (a b : Link) → Precedes a b → a.level ≤ b.level
Precedes-level a b (inl l) = omega arith
Precedes-level a b (inr e) = omega (arith, e.0)

pub Precedes-trans : (a b c : Link) → Precedes a b → Precedes b c → Precedes a c
Precedes-trans a b c (inl p) (inl q) = inl (omega arith)
Precedes-trans a b c (inl p) (inr q) = inl (omega (arith, q.0))
Precedes-trans a b c (inr p) (inl q) = inl (omega (arith, p.0))
Precedes-trans a b c (inr p) (inr q) = inr (p.0 ∙ q.0, omega (arith, p.1, q.1))

pub Precedes-not_itself : (a : Link) → Precedes a a → ⊥
Precedes-not_itself a (inl p) = omega arith
Precedes-not_itself a (inr p) = omega (arith, p.1)

-- 1 at a link with no level
abbrev bit : Link → ℕ
bit l = cond (leb NO_LEVEL l.level) 1 0

bit_cases : (l : Link) → ((bit l ≡ 1) × (NO_LEVEL ≤ l.level)) ⊎ ((bit l ≡ 0) × (l.level < NO_LEVEL))
bit_cases l = elim (leb_tells NO_LEVEL l.level) [
  | inl h ↦ inl (rw h.0 refl, h.1)
  | inr h ↦ inr (rw h.0 refl, h.1)
]

unlinked-set : (links : List Link) (v : ℕ) (x : Link) → 0 < v → v ≤ length links → unlinked (set links (v - 1) x) + bit (link links v) ≡ unlinked links + bit x
unlinked-set links v x h l = rw (link-at links v h) (sum_by-set bit links (v - 1) x no_link (omega arith))

levels-set : (links : List Link) (v : ℕ) (x : Link) → 0 < v → v ≤ length links → levels (set links (v - 1) x) + (link links v).level ≡ levels links + x.level
levels-set links v x h l = rw (link-at links v h) (sum_by-set (λ (y : Link). y.level) links (v - 1) x no_link (omega arith))

pub Offers-none : (nodes : ℕ) (offer : ℕ → Link → Type 0) (links : List Link) (waiting : List ℕ) → Offers nodes offer links waiting links waiting
Offers-none nodes offer links waiting = record {
  places = refl;
  each = λ v. inl refl;
  fallen = λ v falls. absurd (omega arith);
  kept = λ v there. there;
  only = λ v there. inl there;
  spent = omega arith;
  free = omega arith;
  bounded = λ low was. was;
}

pub Offers-weaker : (nodes : ℕ) (offer wider : ℕ → Link → Type 0) (links links' : List Link) (waiting waiting' : List ℕ) → ((v : ℕ) (l : Link) → offer v l → wider v l) → Offers nodes offer links waiting links' waiting' → Offers nodes wider links waiting links' waiting'
Offers-weaker nodes offer wider links links' waiting waiting' h offers = record {
  places = offers.places;
  each = λ v. elim (offers.each v) [ inl same ↦ inl same | inr new ↦ inr (h v (link links' v) new.0, new.1) ];
  fallen = offers.fallen;
  kept = offers.kept;
  only = offers.only;
  spent = offers.spent;
  free = offers.free;
  bounded = λ low was. offers.bounded (λ v l o. low v l (h v l o)) was;
}

-- what didn't precede a node's link doesn't precede a later one
pub Offers-passed : (nodes : ℕ) (offer : ℕ → Link → Type 0) (links links' : List Link) (waiting waiting' : List ℕ) → Offers nodes offer links waiting links' waiting' → (v : ℕ) (x : Link) → (Precedes x (link links v) → ⊥) → Precedes x (link links' v) → ⊥
Offers-passed nodes offer links links' waiting waiting' offers v x was better = elim (offers.each v) [
  | inl same ↦ (let P : Link → Type 0 = λ l. Precedes x l in was (subst P same better))
  | inr new ↦ was (Precedes-trans x (link links' v) (link links v) better new.1)
]

-- no level rises
pub Offers-lower : (nodes : ℕ) (offer : ℕ → Link → Type 0) (links links' : List Link) (waiting waiting' : List ℕ) → Offers nodes offer links waiting links' waiting' → (v : ℕ) → (link links' v).level ≤ (link links v).level
Offers-lower nodes offer links links' waiting waiting' offers v = elim (offers.each v) [
  | inl same ↦ (let e = ap (λ (l : Link). l.level) same in omega arith)
  | inr new ↦ Precedes-level (link links' v) (link links v) new.1
]

pub Offers-more : (nodes : ℕ) (offer : ℕ → Link → Type 0) (links links' links'' : List Link) (waiting waiting' waiting'' : List ℕ) → Offers nodes offer links waiting links' waiting' → Offers nodes offer links' waiting' links'' waiting'' → Offers nodes offer links waiting links'' waiting''
Offers-more nodes offer links links' links'' waiting waiting' waiting'' first last = record {
  places = last.places ∙ first.places;
  each = each;
  fallen = fallen;
  kept = λ v there. last.kept v (first.kept v there);
  only = only;
  spent = omega arith;
  free = omega arith;
  bounded = λ low was. last.bounded (λ v l o. (let most = low v l o in let free = first.free in omega arith)) (first.bounded low was);
}
  where
    lower : (v : ℕ) → (link links' v).level ≤ (link links v).level
    lower v = elim (first.each v) [
      | inl same ↦ (let e = ap (λ (l : Link). l.level) same in omega arith)
      | inr new ↦ Precedes-level (link links' v) (link links v) new.1
    ]

    lower' : (v : ℕ) → (link links'' v).level ≤ (link links' v).level
    lower' v = elim (last.each v) [
      | inl same ↦ (let e = ap (λ (l : Link). l.level) same in omega arith)
      | inr new ↦ Precedes-level (link links'' v) (link links' v) new.1
    ]

    each : (v : ℕ) → (link links'' v ≡ link links v) ⊎ (offer v (link links'' v) × Precedes (link links'' v) (link links v))
    each v = elim (last.each v) [
      | inl same ↦ elim (first.each v) [
        | inl was ↦ inl (same ∙ was)
        | inr new ↦ (
            let P : Link → Type 0 = λ l. offer v l × Precedes l (link links v) in
            inr (subst P (sym same) new))
      ]
      | inr new ↦ elim (first.each v) [
        | inl was ↦ (
            let P : Link → Type 0 = λ l. Precedes (link links'' v) l in
            inr (new.0, subst P was new.1))
        | inr old ↦ inr (new.0, Precedes-trans (link links'' v) (link links' v) (link links v) new.1 old.1)
      ]
    ]

    fallen : (v : ℕ) → (link links'' v).level < (link links v).level → Contains waiting'' v
    fallen v falls = elim (cases_lt (link links'' v).level (link links' v).level) [
      | inl again ↦ last.fallen v again
      | inr stays ↦ last.kept v (first.fallen v (omega arith))
    ]

    only : (v : ℕ) → Contains waiting'' v → Contains waiting v ⊎ ((link links'' v).level < (link links v).level)
    only v there = elim (last.only v there) [
      | inl before ↦ elim (first.only v before) [
        | inl old ↦ inl old
        | inr falls ↦ inr (let low = lower' v in omega arith)
      ]
      | inr falls ↦ inr (let low = lower v in omega arith)
    ]

-- a node takes a link
pub Offers-takes : (nodes : ℕ) (links : List Link) (waiting waiting' : List ℕ) (v : ℕ) (x : Link) → 0 < v → v ≤ length links → x.level < NO_LEVEL → Precedes x (link links v) → (x.level < (link links v).level → Contains waiting' v) → ((w : ℕ) → Contains waiting w → Contains waiting' w) → ((w : ℕ) → Contains waiting' w → Contains waiting w ⊎ ((w ≡ v) × (x.level < (link links v).level))) → x.level + length waiting' ≤ (link links v).level + length waiting → Offers nodes (IsOne v x) links waiting (set links (v - 1) x) waiting'
Offers-takes nodes links waiting waiting' v x h l small before waits kept only few = record {
  places = length-set links (v - 1) x;
  each = each;
  fallen = fallen;
  kept = kept;
  only = only';
  spent = (let e = levels-set links v x h l in omega arith);
  free = free;
  bounded = bounded;
}
  where
    here : link (set links (v - 1) x) v ≡ x
    here = link-set_same links v x h l

    same_level : (link (set links (v - 1) x) v).level ≡ x.level
    same_level = ap (λ (y : Link). y.level) here

    each : (w : ℕ) → (link (set links (v - 1) x) w ≡ link links w) ⊎ (IsOne v x w (link (set links (v - 1) x) w) × Precedes (link (set links (v - 1) x) w) (link links w))
    each w = elim (cases_eq w v) [
      | inl e ↦ (
          let P : ℕ → Type 0 = λ y. IsOne v x y (link (set links (v - 1) x) y) × Precedes (link (set links (v - 1) x) y) (link links y) in
          let Q : Link → Type 0 = λ y. Precedes y (link links v) in
          inr (subst P (sym e) ((refl, here), subst Q (sym here) before)))
      | inr ne ↦ inl (link-set_other links v w x h ne)
    ]

    fallen : (w : ℕ) → (link (set links (v - 1) x) w).level < (link links w).level → Contains waiting' w
    fallen w falls = elim (cases_eq w v) [
      | inl e ↦ (
          let P : ℕ → Type 0 = λ y. (link (set links (v - 1) x) y).level < (link links y).level in
          let Q : ℕ → Type 0 = λ y. Contains waiting' y in
          let at_v : (link (set links (v - 1) x) v).level < (link links v).level = subst P e falls in
          let level = same_level in
          subst Q (sym e) (waits (omega arith)))
      | inr ne ↦ (let e = ap (λ (y : Link). y.level) (link-set_other links v w x h ne) in absurd (omega arith))
    ]

    only' : (w : ℕ) → Contains waiting' w → Contains waiting w ⊎ ((link (set links (v - 1) x) w).level < (link links w).level)
    only' w there = elim (only w there) [
      | inl old ↦ inl old
      | inr new ↦ (
          let P : ℕ → Type 0 = λ y. (link (set links (v - 1) x) y).level < (link links y).level in
          let falls : x.level < (link links v).level = new.1 in
          let level = same_level in
          inr (subst P (sym new.0) (omega arith)))
    ]

    free : unlinked (set links (v - 1) x) ≤ unlinked links
    free = let e = unlinked-set links v x h l in elim (bit_cases x) [
      | inl high ↦ absurd (omega (arith, high.1))
      | inr low ↦ omega (arith, low.0)
    ]

    bounded : ((w : ℕ) (m : Link) → IsOne v x w m → m.level + unlinked links ≤ nodes) → IsBounded nodes links → IsBounded nodes (set links (v - 1) x)
    bounded low was w there = elim (cases_eq w v) [
      | inl e ↦ (
          let P : ℕ → Type 0 = λ y. (link (set links (v - 1) x) y).level + unlinked (set links (v - 1) x) < nodes in
          let at_v : (link (set links (v - 1) x) v).level + unlinked (set links (v - 1) x) < nodes = new_bound in
          subst P (sym e) at_v)
      | inr ne ↦ (
          let e = ap (λ (y : Link). y.level) (link-set_other links v w x h ne) in
          let old = was w (omega arith) in
          let less = free in
          omega arith)
    ]
      where
        new_bound : (link (set links (v - 1) x) v).level + unlinked (set links (v - 1) x) < nodes
        new_bound =
            let level = same_level in
            let most : x.level + unlinked links ≤ nodes = low v x (refl, refl) in
            let count = unlinked-set links v x h l in
            let falls : x.level ≤ (link links v).level = Precedes-level x (link links v) before in
            elim (bit_cases x) [
              | inl high ↦ absurd (omega (arith, high.1))
              | inr none ↦ elim (bit_cases (link links v)) [
                | inl fresh ↦ omega (arith, none.0, fresh.0)
                | inr there ↦ (let old = was v there.1 in omega (arith, none.0, there.0))
              ]
            ]

-- what an index into a `Vec` gives is the node's link, or its label
pub link_item : (links : List Link) (v : ℕ) (x : Link) → 0 < v → v ≤ length links → x ≡ get_or links (v - 1) x → x ≡ link links v
link_item links v x h l read = get_or_read links (v - 1) x (omega arith) read no_link ∙ sym (link-at links v h)

pub bound_of_item : (table : List ℕ) (v x : ℕ) → 0 < v → v ≤ length table → x ≡ get_or table (v - 1) x → x ≡ bound_of table v
bound_of_item table v x h l read = get_or_read table (v - 1) x (omega arith) read NONE ∙ sym (bound_of-at table v h)

-- the node's link, as the code reads it
pub link_read : (links : List Link) (v : ℕ) → 0 < v → v ≤ length links → get_or links (v - 1) (record { level = 0; arc = 0; from = 0 }) ≡ link links v
link_read links v h l = sym (link-at links v h ∙ get_or_default links (v - 1) no_link (record { level = 0; arc = 0; from = 0 }) (omega arith))

-- an arc that was left at its tail's label, and arrived at its head's, is tight
pub MeetsBound-arc : (roads : Roads) (answers : ℕ → ℕ → ℕ → ℕ → Type 0) (table : List ℕ) (u e d b : ℕ) (arc : Arc) → IsArc roads e arc → arc.tail ≡ u → answers arc.class arc.weight d b → d ≤ HORIZON → b ≤ HORIZON → d ≡ bound_of table u → b ≡ bound_of table arc.head → MeetsBound roads answers table u e arc.head
MeetsBound-arc roads answers table u e d b arc is_arc tail answer left in_time at_u at_head =
    let P : ℕ → Type 0 = λ x. answers arc.class arc.weight x (bound_of table arc.head) in
    let Q : ℕ → Type 0 = λ y. answers arc.class arc.weight d y in
    record {
      step = record {
        arc = arc;
        is_arc = is_arc;
        is_tail = tail;
        is_head = refl;
        answer = subst P at_u (subst Q at_head answer);
        in_time = omega arith;
      };
      from_within = omega arith;
    }

-- the arrival by a tight arc
pub tight-arrival : (roads : Roads) (answers : ℕ → ℕ → ℕ → ℕ → Type 0) (classes : ℕ) (table : List ℕ) (u e v d b : ℕ) (arc : Arc) → IsNetwork roads → top_class roads.arcs ≤ classes → IsFifo answers classes → IsArc roads e arc → d ≤ HORIZON → d ≡ bound_of table u → answers arc.class arc.weight d b → MeetsBound roads answers table u e v → (arc.head ≡ v) × (b ≡ bound_of table v) × (bound_of table v ≤ HORIZON)
tight-arrival roads answers classes table u e v d b arc network classed fifo is_arc in_time at_u answer tight =
    let P : ℕ → Type 0 = λ x. answers arc.class arc.weight x (bound_of table v) in
    let there : answers arc.class arc.weight d (bound_of table v) = subst P (sym at_u) (step-answer roads answers u (bound_of table u) e v (bound_of table v) arc is_arc tight.step) in
    let same = one_answer answers classes fifo arc.class arc.weight d b (bound_of table v) (is_question roads classes e d arc network classed is_arc in_time) answer there in
    (step-head roads answers u (bound_of table u) e v (bound_of table v) arc is_arc tight.step, same, tight.step.in_time)

-- a link by a tight arc that was offered to its head
pub Offers-tight : (roads : Roads) (answers : ℕ → ℕ → ℕ → ℕ → Type 0) (table : List ℕ) (nodes e head : ℕ) (new : Link) (links links' : List Link) (waiting waiting' : List ℕ) → MeetsBound roads answers table new.from e head → new.arc ≡ e → Offers nodes (IsOne head new) links waiting links' waiting' → Offers nodes (IsSpread roads answers table new.from new.level) links waiting links' waiting'
Offers-tight roads answers table nodes e head new links links' waiting waiting' tight arc offers =
    Offers-weaker nodes (IsOne head new) (IsSpread roads answers table new.from new.level) links links' waiting waiting' wider offers
  where
    wider : (v : ℕ) (l : Link) → IsOne head new v l → IsSpread roads answers table new.from new.level v l
    wider v l one =
        let P : ℕ → Type 0 = λ x. MeetsBound roads answers table new.from e x in
        let same : new ≡ record { level = new.level; arc = e; from = new.from } = ap (λ (n : ℕ). record { level = new.level; arc = n; from = new.from }) arc in
        (e, subst P (sym one.0) tight, one.1 ∙ same)

-- an arc's only head was offered the link
pub passed-at : (roads : Roads) (answers : ℕ → ℕ → ℕ → ℕ → Type 0) (table : List ℕ) (u e : ℕ) (arc : Arc) (new : Link) (links : List Link) → IsArc roads e arc → (Precedes new (link links arc.head) → ⊥) → (v : ℕ) → MeetsBound roads answers table u e v → Precedes new (link links v) → ⊥
passed-at roads answers table u e arc new links is passed v tight better =
    let P : ℕ → Type 0 = λ x. Precedes new (link links x) in
    passed (subst P (sym (step-head roads answers u (bound_of table u) e v (bound_of table v) arc is tight.step)) better)

-- the same arc by an equal number
pub passed-number : (roads : Roads) (answers : ℕ → ℕ → ℕ → ℕ → Type 0) (table : List ℕ) (u level e n : ℕ) (links : List Link) → n ≡ e → ((v : ℕ) → MeetsBound roads answers table u n v → Precedes (record { level = level; arc = n; from = u }) (link links v) → ⊥) → (v : ℕ) → MeetsBound roads answers table u e v → Precedes (record { level = level; arc = e; from = u }) (link links v) → ⊥
passed-number roads answers table u level e n links same passed =
    let P : ℕ → Type 0 = λ x. (v : ℕ) → MeetsBound roads answers table u x v → Precedes (record { level = level; arc = x; from = u }) (link links v) → ⊥ in
    subst P same passed

-- sources stay sown if no level rises
pub AreSown-lower : (sources : List Source) (table : List ℕ) (links links' : List Link) (n : ℕ) → AreSown sources table links n → ((v : ℕ) → (link links' v).level ≤ (link links v).level) → AreSown sources table links' n
AreSown-lower sources table links links' n sown lower k d l same =
    let low = lower (get_or sources k d).node in
    let was = sown k d l same in
    omega arith

pub AreSown-more : (sources : List Source) (table : List ℕ) (links links' : List Link) (n : ℕ) (s : Source) → AreSown sources table links n → n < length sources → ((get_or sources n s).departure ≡ bound_of table (get_or sources n s).node → (link links' (get_or sources n s).node).level ≡ 0) → ((v : ℕ) → (link links' v).level ≤ (link links v).level) → AreSown sources table links' (n + 1)
AreSown-more sources table links links' n s sown within here lower k d l = elim (cases_lt k n) [
  | inl early ↦ AreSown-lower sources table links links' n sown lower k d early
  | inr late ↦ (
      let at : k ≡ n = omega arith in
      let same : get_or sources n s ≡ get_or sources k d = get_or_default sources n s d within ∙ ap (λ (x : ℕ). get_or sources x d) (sym at) in
      let P : Source → Type 0 = λ x. x.departure ≡ bound_of table x.node → (link links' x.node).level ≡ 0 in
      subst P same here)
]

-- at the start no node has a link
pub link-none : (n v : ℕ) → link (replicate n no_link) v ≡ no_link
unfolding link
link-none n zero = refl
link-none n (suc k) = elim (cases_lt k n) [
  | inl l ↦ get_or-replicate n k no_link no_link l
  | inr l ↦ get_or_past (replicate n no_link) k no_link (rw length-replicate l)
]

module _ (roads : Roads) (answers : ℕ → ℕ → ℕ → ℕ → Type 0) (sources : List Source) (table : List ℕ) where
  pub Linking-none : Linking roads answers sources table (replicate roads.nodes no_link) []
  Linking-none = record {
    places = length-replicate roads.nodes no_link;
    linked = λ v there. absurd (unlinked_all v there);
    spent = λ v there. absurd (unlinked_all v there);
    bounded = λ v there. absurd (unlinked_all v there);
    waits = λ v there. absurd (omega (arith, there.1));
    low = λ v. (let e = ap (λ (l : Link). l.level) (link-none roads.nodes v) in omega arith);
    clean = λ v _. link-none roads.nodes v;
  }
    where
      unlinked_all : (v : ℕ) → (link (replicate roads.nodes no_link) v).level < NO_LEVEL → ⊥
      unlinked_all v there = let e = ap (λ (l : Link). l.level) (link-none roads.nodes v) in omega arith

  -- a linked node has a label
  pub Linking-time : (links : List Link) (waiting : List ℕ) → Linking roads answers sources table links waiting → (v : ℕ) → (link links v).level < NO_LEVEL → bound_of table v ≤ HORIZON
  Linking-time links waiting linking v there = elim (linking.linked v there) [
    | inl seed ↦ (let same = seed.1.departs in let low = seed.1.within in omega arith)
    | inr tight ↦ tight.0.step.in_time
  ]

  -- a node without a label has no link
  pub Linking-unlabelled : (links : List Link) (waiting : List ℕ) → Linking roads answers sources table links waiting → (v : ℕ) → bound_of table v ≡ NONE → link links v ≡ no_link
  Linking-unlabelled links waiting linking v none =
      let low = linking.low v in
      elim (cases_lt (link links v).level NO_LEVEL) [
        | inl there ↦ (let time = Linking-time links waiting linking v there in absurd (omega arith))
        | inr above ↦ linking.clean v (omega arith)
      ]

  -- a link that may be given to v: a seed's, or by a tight arc from a lower level
  abbrev pub IsGood : List Link → ℕ → Link → Type 0
  IsGood links v l = ((l.level ≡ 0) × IsSeed sources table v) ⊎ (MeetsBound roads answers table l.from l.arc v × ((link links l.from).level < l.level))

  -- offers of good links, after which each node that waited before waits or has nothing to offer
  pub Linking-offers : (offer : ℕ → Link → Type 0) (links links' : List Link) (before waiting waiting' : List ℕ) → Linking roads answers sources table links before → ((v : ℕ) → Contains waiting v → Contains before v) → ((v : ℕ) → Contains before v → Contains waiting v ⊎ IsSpent roads answers table links' v ((link links' v).level + 1)) → ((v : ℕ) (l : Link) → offer v l → IsGood links v l) → ((v : ℕ) (l : Link) → offer v l → l.level < NO_LEVEL) → ((v : ℕ) (l : Link) → offer v l → l.level + unlinked links ≤ roads.nodes) → Offers roads.nodes offer links waiting links' waiting' → Linking roads answers sources table links' waiting'
  Linking-offers offer links links' before waiting waiting' linking subset done good small room offers = record {
    places = offers.places ∙ linking.places;
    linked = linked;
    spent = spent;
    bounded = offers.bounded room linking.bounded;
    waits = waits;
    low = λ v. (let falls = lower v in let was = linking.low v in omega arith);
    clean = clean;
  }
    where
      lower : (v : ℕ) → (link links' v).level ≤ (link links v).level
      lower = Offers-lower roads.nodes offer links links' waiting waiting' offers

      -- good links stay good if levels fall
      still : (v : ℕ) (l : Link) → IsGood links v l → IsGood links' v l
      still v l (inl seed) = inl seed
      still v l (inr tight) = inr (tight.0, (let low = lower l.from in let was = tight.1 in omega arith))

      linked : (v : ℕ) → (link links' v).level < NO_LEVEL → IsGood links' v (link links' v)
      linked v there = elim (offers.each v) [
        | inl same ↦ (
            let e = ap (λ (l : Link). l.level) same in
            let P : Link → Type 0 = λ l. IsGood links' v l in
            subst P (sym same) (still v (link links v) (linking.linked v (omega arith))))
        | inr new ↦ still v (link links' v) (good v (link links' v) new.0)
      ]

      clean : (v : ℕ) → (link links' v).level ≡ NO_LEVEL → link links' v ≡ no_link
      clean v none = elim (offers.each v) [
        | inl same ↦ same ∙ linking.clean v (ap (λ (l : Link). l.level) (sym same) ∙ none)
        | inr new ↦ (let low = small v (link links' v) new.0 in absurd (omega arith))
      ]

      -- a node from which nothing was left to offer has nothing to offer now
      spent_on : (w : ℕ) → IsSpent roads answers table links w ((link links w).level + 1) → IsSpent roads answers table links' w ((link links w).level + 1)
      spent_on w was e v tight better = elim (offers.each v) [
        | inl same ↦ (
            let P : Link → Type 0 = λ l. Precedes (record { level = (link links w).level + 1; arc = e; from = w }) l in
            was e v tight (subst P same better))
        | inr new ↦ was e v tight (Precedes-trans (record { level = (link links w).level + 1; arc = e; from = w }) (link links' v) (link links v) better new.1)
      ]

      spent : (w : ℕ) → (link links' w).level < NO_LEVEL → IsSpent roads answers table links' w ((link links' w).level + 1) ⊎ Contains waiting' w
      spent w there = elim (cases_lt (link links' w).level (link links w).level) [
        | inl falls ↦ inr (offers.fallen w falls)
        | inr stays ↦ (
            let low = lower w in
            let same : (link links w).level ≡ (link links' w).level = omega arith in
            elim (linking.spent w (omega arith)) [
              | inl was ↦ (
                  let P : ℕ → Type 0 = λ n. IsSpent roads answers table links' w (n + 1) in
                  inl (subst P same (spent_on w was)))
              | inr waited ↦ elim (done w waited) [
                | inl waits ↦ inr (offers.kept w waits)
                | inr now ↦ inl now
              ]
            ])
      ]

      waits : (v : ℕ) → Contains waiting' v → (link links' v).level < NO_LEVEL
      waits v there = elim (offers.only v there) [
        | inl old ↦ (let low = lower v in let was = linking.waits v (subset v old) in omega arith)
        | inr falls ↦ elim (offers.each v) [
          | inl same ↦ (let e = ap (λ (l : Link). l.level) same in absurd (omega arith))
          | inr new ↦ small v (link links' v) new.0
        ]
      ]

  -- the node in front offered its links
  pub Linking-spread : (u : ℕ) (links links' : List Link) (waiting waiting' : List ℕ) → roads.nodes < NO_LEVEL → Linking roads answers sources table links (u ∷ waiting) → Offers roads.nodes (IsSpread roads answers table u ((link links u).level + 1)) links waiting links' waiting' → IsSpent roads answers table links' u ((link links u).level + 1) → Linking roads answers sources table links' waiting'
  Linking-spread u links links' waiting waiting' few linking offers spent =
      Linking-offers (IsSpread roads answers table u ((link links u).level + 1)) links links' (u ∷ waiting) waiting waiting' linking (λ v there. Contains-cons u v waiting there) done good small room offers
    where
      there : (link links u).level < NO_LEVEL
      there = linking.waits u (zero, omega arith, refl)

      level_is : (v : ℕ) (l : Link) → IsSpread roads answers table u ((link links u).level + 1) v l → l.level ≡ (link links u).level + 1
      level_is v l offer = ap (λ (x : Link). x.level) offer.2

      stays : (link links' u).level ≡ (link links u).level
      stays = elim (offers.each u) [
        | inl same ↦ ap (λ (l : Link). l.level) same
        | inr new ↦ (
            let high = level_is u (link links' u) new.0 in
            let low = Precedes-level (link links' u) (link links u) new.1 in
            absurd (omega arith))
      ]

      done : (v : ℕ) → Contains (u ∷ waiting) v → Contains waiting v ⊎ IsSpent roads answers table links' v ((link links' v).level + 1)
      done v waits = elim (Contains-cons_cases u v waiting waits) [
        | inl is_u ↦ (
            let P : ℕ → Type 0 = λ n. IsSpent roads answers table links' u (n + 1) in
            let Q : ℕ → Type 0 = λ x. IsSpent roads answers table links' x ((link links' x).level + 1) in
            inr (subst Q is_u (subst P (sym stays) spent)))
        | inr other ↦ inl other
      ]

      good : (v : ℕ) (l : Link) → IsSpread roads answers table u ((link links u).level + 1) v l → IsGood links v l
      good v l offer =
          let P : Link → Type 0 = λ x. IsGood links v x in
          subst P (sym offer.2) (inr (offer.1, omega arith))

      room : (v : ℕ) (l : Link) → IsSpread roads answers table u ((link links u).level + 1) v l → l.level + unlinked links ≤ roads.nodes
      room v l offer = let e = level_is v l offer in let bound = linking.bounded u there in omega arith

      small : (v : ℕ) (l : Link) → IsSpread roads answers table u ((link links u).level + 1) v l → l.level < NO_LEVEL
      small v l offer = let e = room v l offer in omega arith

  -- a seed was offered to its node
  pub Linking-seed : (v : ℕ) (links links' : List Link) (waiting waiting' : List ℕ) → IsSeed sources table v → Linking roads answers sources table links waiting → Offers roads.nodes (IsOne v (record { level = 0; arc = 0; from = 0 })) links waiting links' waiting' → Linking roads answers sources table links' waiting'
  Linking-seed v links links' waiting waiting' seed linking offers =
      Linking-offers (IsOne v (record { level = 0; arc = 0; from = 0 })) links links' waiting waiting waiting' linking (λ w there. there) (λ w there. inl there) good (λ w l offer. (let e = ap (λ (x : Link). x.level) offer.1 in omega arith)) (λ w l offer. (let e = ap (λ (x : Link). x.level) offer.1 in let count = few in let places = linking.places in omega arith)) offers
    where
      few : unlinked links ≤ length links
      few = count_by-le-length (λ (l : Link). leb NO_LEVEL l.level) links

      good : (w : ℕ) (l : Link) → IsOne v (record { level = 0; arc = 0; from = 0 }) w l → IsGood links w l
      good w l offer =
          let P : ℕ → Type 0 = λ x. IsSeed sources table x in
          inl (ap (λ (x : Link). x.level) offer.1, subst P (sym offer.0) seed)

  -- the effect of sowing a source
  pub record Sown (source : Source) (links links' : List Link) (waiting' : List ℕ) : Type 0 where
    pub linking : Linking roads answers sources table links' waiting'
    pub here : source.departure ≡ bound_of table source.node → (link links' source.node).level ≡ 0
    pub lower : (v : ℕ) → (link links' v).level ≤ (link links v).level

  pub sow_step : (source : Source) (links links' : List Link) (waiting waiting' : List ℕ) → IsAmong sources source → source.departure ≤ HORIZON → Linking roads answers sources table links waiting → (source.departure ≡ bound_of table source.node → Offers roads.nodes (IsOne source.node (record { level = 0; arc = 0; from = 0 })) links waiting links' waiting' × ((link links' source.node).level ≡ 0)) → ((source.departure ≡ bound_of table source.node → ⊥) → (links' ≡ links) × (waiting' ≡ waiting)) → Sown source links links' waiting'
  sow_step source links links' waiting waiting' among within linking seeds others = elim (cases_eq source.departure (bound_of table source.node)) [
    | inl same ↦ (
        let sown = seeds same in
        record {
          linking = Linking-seed source.node links links' waiting waiting' (record { source = source; among = among; is_node = refl; departs = same; within = within }) linking sown.0;
          here = λ _. sown.1;
          lower = Offers-lower roads.nodes (IsOne source.node (record { level = 0; arc = 0; from = 0 })) links links' waiting waiting' sown.0;
        })
    | inr differs ↦ (
        let kept = others differs in
        let P : List Link → Type 0 = λ xs. Linking roads answers sources table xs waiting' in
        let Q : List ℕ → Type 0 = λ xs. Linking roads answers sources table links xs in
        record {
          linking = subst P (sym kept.0) (subst Q (sym kept.1) linking);
          here = λ same. absurd (differs same);
          lower = λ v. (let e = ap (λ (xs : List Link). (link xs v).level) kept.0 in omega arith);
        })
  ]
