-- Labels that fall.
use Rattle.std.proofs.Common.{◌≡◌, ℕ, ◌+◌, ◌-◌, ◌<◌, ◌≤◌, ◌⊎◌, inl, inr, refl, ap, sym, subst, ◌∙◌, arith, List, length, set}
use Rattle.std.specs.Prelude.{◌==◌, if◌then◌else◌, None, Option, Some, sum}
use Rattle.std.proofs.lemmas.Bool.Decides.{eqb_tells, leb_tells}
use Rattle.std.proofs.lemmas.List.{get_or-set_other, get_or-set_same, length-set}
use Rattle.std.proofs.lemmas.List.Sums.{sum_by-set}
use Rattle.ea_road.specs.Labels.{label_of}
use Rattle.ea_hierarchy.specs.declared.numbers.TheConstants.{NONE as NO_WALK}
use Rattle.ea_hierarchy.specs.Bounds.{told}
use Rattle.ea_goal.specs.Frontiers.{Opens, Waits}
use Rattle.ea_goal.specs.Scans.{Falls, Offers, OpensNear}
use Rattle.ea_goal.specs.declared.frontier.Entry.{Entry}

pub same_or_not : (a b : ℕ) → (a ≡ b) ⊎ (a ≡ b → ⊥)
same_or_not a b = elim (leb_tells a b) [
  | inl to ↦ elim (leb_tells b a) [
    | inl from ↦ inl (omega (arith, to.1, from.1))
    | inr less ↦ inr (λ same. omega (arith, less.1, same))
  ]
  | inr more ↦ inr (λ same. omega (arith, more.1, same))
]

pub falls_none : (target : ℕ) (bound : ℕ → ℕ) (table : List ℕ) (entries : List Entry) → Falls target bound table entries table entries
falls_none target bound table entries = record {
  count = refl;
  spent = omega arith;
  lower = λ node from. omega arith;
  kept = λ time node waits. waits;
  keyed = λ are. are;
  fallen = λ node from falls some. absurd (omega (arith, falls));
}

pub falls_then : (target : ℕ) (bound : ℕ → ℕ) (table middle after : List ℕ) (entries between last : List Entry) → 0 < target → Falls target bound table entries middle between → Falls target bound middle between after last → Falls target bound table entries after last
falls_then target bound table middle after entries between last is_target one two = record {
  count = two.count ∙ one.count;
  spent = omega (arith, one.spent, two.spent);
  lower = λ node from. omega (arith, one.lower node from, two.lower node from);
  kept = λ time node waits. two.kept time node (one.kept time node waits);
  keyed = λ are. two.keyed (one.keyed are);
  fallen = λ node from falls some. elim (leb_tells (label_of middle node) (label_of after node)) [
    | inl stays ↦
        let same : label_of middle node ≡ label_of after node = omega (arith, stays.1, two.lower node from) in
        elim (one.fallen node from (omega (arith, same, falls)) some) [
          | inl waits ↦ inl (subst (λ t. Waits last t node) same (two.kept (label_of middle node) node waits))
          | inr far ↦ inr (omega (arith, far, same, two.lower target is_target))
        ]
    | inr again ↦ two.fallen node from again.1 some
  ];
}

pub offers_none : (target : ℕ) (bound : ℕ → ℕ) (table : List ℕ) (entries : List Entry) (node time : ℕ) → label_of table node ≤ time → Offers target bound table entries table entries node time
offers_none target bound table entries node time low = record {
  falls = falls_none target bound table entries;
  here = low;
  labels = λ other from. inl refl;
  came = λ at other waits. inl waits;
}

-- a node is not opened
module _ (last bound : ℕ) (entries : List Entry) (node time : ℕ) where
  pub opens_none : (bound < NO_WALK → last < time + bound) → OpensNear last bound entries entries node time
  opens_none far = record {
    there = λ some. inr (far some);
    kept = λ at other waits. waits;
    came = λ at other waits. inl waits;
    keyed = λ bounds same are. are;
    long = omega arith;
  }

  -- a node is opened with a key
  pub opens_with : (after : List Entry) (key : ℕ) → key ≤ time + bound → Opens entries after time node key → OpensNear last bound entries after node time
  opens_with after key near opens = record {
    there = λ some. inl opens.there;
    kept = opens.kept;
    came = λ at other waits. elim (opens.came at other waits) [ inl old ↦ inl old | inr is ↦ inr is.1 ];
    keyed = λ bounds same are. opens.keyed bounds (omega (arith, near, same)) are;
    long = omega (arith, opens.long);
  }

module _ (target : ℕ) (bound : ℕ → ℕ) (table : List ℕ) (entries after : List Entry) (node time : ℕ) (from_one : 0 < node) (inside : node ≤ length table) (low : time < label_of table node) where
  abbrev new : List ℕ
  new = set table (node - 1) time

  here : label_of new node ≡ time
  here = get_or-set_same table (node - 1) time 0 (omega (arith, from_one, inside))

  elsewhere : (other : ℕ) → 0 < other → (other ≡ node → ⊥) → label_of new other ≡ label_of table other
  elsewhere other from differs = get_or-set_other table (node - 1) (other - 1) time 0 (λ same. differs (omega (arith, same, from, from_one)))

  spent_by : sum new + 1 ≤ sum table
  spent_by =
      let e = sum_by-set (λ (x : ℕ). x) table (node - 1) time 0 (omega (arith, from_one, inside)) in
      omega (arith, e, low)

  lower_all : (other : ℕ) → 0 < other → label_of new other ≤ label_of table other
  lower_all other from = elim (same_or_not other node) [
    | inl same ↦ omega (arith, ap (label_of new) same, ap (label_of table) same, here, low)
    | inr differs ↦ omega (arith, elsewhere other from differs)
  ]

  labels_of : (other : ℕ) → 0 < other → (label_of new other ≡ label_of table other) ⊎ ((other ≡ node) × (label_of new other ≡ time))
  labels_of other from = elim (same_or_not other node) [
    | inl same ↦ inr (same, ap (label_of new) same ∙ here)
    | inr differs ↦ inl (elsewhere other from differs)
  ]

  -- the label falls, and the node is opened if it is near
  pub offers_near : OpensNear (label_of new target) (bound node) entries after node time → Offers target bound table entries new after node time
  offers_near opens = record {
    falls = record {
      count = length-set table (node - 1) time;
      spent = omega (arith, spent_by, opens.long);
      lower = lower_all;
      kept = opens.kept;
      keyed = opens.keyed bound refl;
      fallen = λ other from falls some. elim (labels_of other from) [
        | inl same ↦ absurd (omega (arith, same, falls))
        | inr at ↦
            let close : bound node < NO_WALK = subst (λ n. bound n < NO_WALK) at.0 some in
            elim (opens.there close) [
              | inl waits ↦ inl (subst (λ n. Waits after (label_of new n) n) (sym at.0) (subst (λ t. Waits after t node) (sym here) waits))
              | inr far ↦ inr (omega (arith, far, at.1, ap bound at.0))
            ]
      ];
    };
    here = omega (arith, here);
    labels = labels_of;
    came = opens.came;
  }

-- there was no bound
pub told_none : (bound : ℕ) → told bound ≡ None → NO_WALK ≤ bound
told_none bound none = elim (eqb_tells bound NO_WALK) [
  | inl same ↦ omega (arith, same.1)
  | inr differs ↦
      let some : (if bound == NO_WALK then None else Some bound) ≡ Some bound = rw differs.0 refl in
      absurd (not_some bound (sym some ∙ none))
]
  where
    not_some : (n : ℕ) → ◌≡◌ {A = Option ℕ} (Some n) None → ⊥
    not_some n same = cc

pub told_some : (bound some : ℕ) → told bound ≡ Some some → bound ≡ some
told_some bound some is = elim (eqb_tells bound NO_WALK) [
  | inl same ↦
      let none : (if bound == NO_WALK then None else Some bound) ≡ None = rw same.0 refl in
      absurd (not_none some (sym is ∙ none))
  | inr differs ↦
      let has : (if bound == NO_WALK then None else Some bound) ≡ Some bound = rw differs.0 refl in
      one_some bound some (sym has ∙ is)
]
  where
    not_none : (n : ℕ) → ◌≡◌ {A = Option ℕ} (Some n) None → ⊥
    not_none n same = cc

    one_some : (a b : ℕ) → ◌≡◌ {A = Option ℕ} (Some a) (Some b) → a ≡ b
    one_some a b same = cc
