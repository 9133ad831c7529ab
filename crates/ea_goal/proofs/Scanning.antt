-- Arcs that are left at a departure.
use Rattle.std.proofs.Common.{◌≡◌, ℕ, ◌+◌, ◌<◌, ◌≤◌, inl, inr, refl, ap, sym, subst, ◌∙◌, arith, List, length, get_or}
use Rattle.std.specs.Prelude.{Option, Some, slice_get}
use Rattle.std.proofs.lemmas.Bool.Decides.{leb_tells}
use Rattle.std.proofs.lemmas.Option.{slice_get-get_or}
use Rattle.ea_base.specs.declared.limits.TheConstants.{HORIZON}
use Rattle.ea_road.specs.Labels.{label_of}
use Rattle.ea_road.specs.Roads.{AreSideBySide, IsArc, IsNetwork, IsNode, Roads, leaving, with_tail}
use Rattle.ea_road.specs.declared.arc.Arc.{Arc}
use Rattle.ea_road.specs.declared.leaving_arc.LeavingArc.{LeavingArc}
use Rattle.ea_road.proofs.ByTail.{place_beside}
use Rattle.ea_goal.specs.Frontiers.{AreKeyed}
use Rattle.ea_goal.specs.Scans.{Falls, Follows, Offers, Scans, ScansTo}
use Rattle.ea_goal.specs.declared.frontier.Entry.{Entry}
use Rattle.ea_goal.proofs.Offering.{falls_none, falls_then}

module _ (answers : ℕ → ℕ → ℕ → ℕ → Type 0) (target : ℕ) (bound : ℕ → ℕ) (table : List ℕ) (entries : List Entry) (arc : Arc) (departure arrival : ℕ) (answer : answers arc.class arc.weight departure arrival) (one : (other : ℕ) → answers arc.class arc.weight departure other → arrival ≤ other) where
  pub follows_late : HORIZON < arrival → Follows answers target bound table entries table entries arc departure
  follows_late late = record {
    falls = falls_none target bound table entries;
    passed = λ other is within. let low = one other is in absurd (omega (arith, late, low, within));
    labels = λ other from. inl refl;
    came = λ at other waits. inl waits;
  }

  pub follows_offered : (new_table : List ℕ) (new_entries : List Entry) → arrival ≤ HORIZON → Offers target bound table entries new_table new_entries arc.head arrival → Follows answers target bound table entries new_table new_entries arc departure
  follows_offered new_table new_entries within offers = record {
    falls = offers.falls;
    passed = λ other is in_time. let low = one other is in omega (arith, low, offers.here);
    labels = λ other from. elim (offers.labels other from) [
      | inl same ↦ inl same
      | inr at ↦ inr (at.0, subst (λ t. answers arc.class arc.weight departure t) (sym at.1) answer, omega (arith, at.1, within))
    ];
    came = offers.came;
  }

-- the head was reached before the departure
pub follows_reached : (answers : ℕ → ℕ → ℕ → ℕ → Type 0) (target : ℕ) (bound : ℕ → ℕ) (table : List ℕ) (entries : List Entry) (arc : Arc) (departure : ℕ) → label_of table arc.head ≤ departure → ((arrival : ℕ) → answers arc.class arc.weight departure arrival → departure ≤ arrival) → Follows answers target bound table entries table entries arc departure
follows_reached answers target bound table entries arc departure low not_before = record {
  falls = falls_none target bound table entries;
  passed = λ arrival is within. let after = not_before arrival is in omega (arith, low, after);
  labels = λ other from. inl refl;
  came = λ at other waits. inl waits;
}

pub scans_none : (roads : Roads) (answers : ℕ → ℕ → ℕ → ℕ → Type 0) (target : ℕ) (bound : ℕ → ℕ) (table : List ℕ) (entries : List Entry) (node departure : ℕ) (arcs : List LeavingArc) → ScansTo roads answers target bound table entries table entries node departure arcs 0
scans_none roads answers target bound table entries node departure arcs = record {
  falls = falls_none target bound table entries;
  passed = λ place arrival arc early. absurd (omega (arith, early));
  labels = λ other from. inl refl;
  came = λ at other waits. inl waits;
}

same_arc : (a b : LeavingArc) → ◌≡◌ {A = Option LeavingArc} (Some a) (Some b) → a ≡ b
same_arc a b is = cc

module _ (roads : Roads) (network : IsNetwork roads) (answers : ℕ → ℕ → ℕ → ℕ → Type 0) (target : ℕ) (bound : ℕ → ℕ) (is_target : 0 < target) (node departure : ℕ) (arcs : List LeavingArc) (beside : AreSideBySide roads node (leaving roads node) arcs) where
  pub scans_more : (table middle after : List ℕ) (entries between last : List Entry) (place number : ℕ) (here : LeavingArc) → slice_get arcs place ≡ Some here → IsArc roads number (with_tail here node)
      → ScansTo roads answers target bound table entries middle between node departure arcs place → Follows answers target bound middle between after last (with_tail here node) departure
      → ScansTo roads answers target bound table entries after last node departure arcs (place + 1)
  scans_more table middle after entries between last place number here found is_arc so_far follows = record {
    falls = falls_then target bound table middle after entries between last is_target so_far.falls follows.falls;
    passed = λ at arrival arc early at_place answer within. elim (leb_tells place at) [
      | inl this ↦
          let same_place : at ≡ place = omega (arith, this.1, early) in
          let same : here ≡ arc = same_arc here arc (sym found ∙ ap (slice_get arcs) (sym same_place) ∙ at_place) in
          subst (λ (a : LeavingArc). label_of after a.head ≤ arrival) same (follows.passed arrival (subst (λ (a : LeavingArc). answers a.class a.weight departure arrival) (sym same) answer) within)
      | inr before ↦
          let low = so_far.passed at arrival arc before.1 at_place answer within in
          omega (arith, low, lower arc before.1 at_place)
    ];
    labels = λ other from. elim (follows.labels other from) [
      | inl same ↦ elim (so_far.labels other from) [
        | inl older ↦ inl (same ∙ older)
        | inr by ↦ inr (by.0, by.1, by.2, by.3, by.4, subst (λ t. answers by.1.class by.1.weight departure t) (sym same) by.5, omega (arith, by.6, same))
      ]
      | inr by ↦ inr (number, with_tail here node, is_arc, refl, sym by.0, by.1, by.2)
    ];
    came = λ at other waits. elim (follows.came at other waits) [
      | inl old ↦ so_far.came at other old
      | inr head ↦ inr (subst (λ n. IsNode roads.nodes n) (sym head) (network.each_fits number (with_tail here node) is_arc).head)
    ];
  }
    where
      lower : (arc : LeavingArc) {at : ℕ} → at < place → slice_get arcs at ≡ Some arc → label_of after arc.head ≤ label_of middle arc.head
      lower arc {at} early at_place =
          let is = beside.each at arc at_place in
          follows.falls.lower arc.head (network.each_fits _ (with_tail arc node) is).head.from_one

  pub scans_all : (table after : List ℕ) (entries last : List Entry) (to : ℕ) → length arcs ≤ to → ScansTo roads answers target bound table entries after last node departure arcs to → Scans roads answers target bound table entries after last node departure
  scans_all table after entries last to all so_far = record {
    falls = so_far.falls;
    passed = λ number arrival arc is_arc tail answer within.
        let found = place_beside roads node number arc none arcs beside is_arc tail in
        let there = slice_get-get_or arcs found.0 none found.1 in
        let low = so_far.passed found.0 arrival (get_or arcs found.0 none) (omega (arith, found.1, all)) there (subst (λ (a : Arc). answers a.class a.weight departure arrival) (sym found.3) answer) within in
        subst (λ (a : Arc). label_of after a.head ≤ arrival) found.3 low;
    labels = so_far.labels;
    came = so_far.came;
  }
    where
      none : LeavingArc
      none = record { head = 0; weight = 0; class = 0 }

-- keys are at most labels and bounds together by the same bounds, too
pub keyed_alike : (bound other : ℕ → ℕ) (entries : List Entry) → ((node : ℕ) → bound node ≡ other node) → AreKeyed bound entries → AreKeyed other entries
keyed_alike bound other entries same are entry there = let low = are entry there in omega (arith, low, same entry.node)

pub falls_alike : (target : ℕ) (bound other : ℕ → ℕ) (table after : List ℕ) (entries last : List Entry) → ((node : ℕ) → bound node ≡ other node) → Falls target bound table entries after last → Falls target other table entries after last
falls_alike target bound other table after entries last same falls = record {
  count = falls.count;
  spent = falls.spent;
  lower = falls.lower;
  kept = falls.kept;
  keyed = λ are. keyed_alike bound other last same (falls.keyed (keyed_alike other bound entries (λ node. sym (same node)) are));
  fallen = λ node from fell some. elim (falls.fallen node from fell (omega (arith, same node, some))) [
    | inl waits ↦ inl waits
    | inr far ↦ inr (omega (arith, far, same node))
  ];
}

pub offers_alike : (target : ℕ) (bound other : ℕ → ℕ) (table after : List ℕ) (entries last : List Entry) (node time : ℕ) → ((place : ℕ) → bound place ≡ other place) → Offers target bound table entries after last node time → Offers target other table entries after last node time
offers_alike target bound other table after entries last node time same offers = record {
  falls = falls_alike target bound other table after entries last same offers.falls;
  here = offers.here;
  labels = offers.labels;
  came = offers.came;
}

pub follows_alike : (answers : ℕ → ℕ → ℕ → ℕ → Type 0) (target : ℕ) (bound other : ℕ → ℕ) (table after : List ℕ) (entries last : List Entry) (arc : Arc) (departure : ℕ) → ((node : ℕ) → bound node ≡ other node) → Follows answers target bound table entries after last arc departure → Follows answers target other table entries after last arc departure
follows_alike answers target bound other table after entries last arc departure same follows = record {
  falls = falls_alike target bound other table after entries last same follows.falls;
  passed = follows.passed;
  labels = follows.labels;
  came = follows.came;
}

pub scans_alike : (roads : Roads) (answers : ℕ → ℕ → ℕ → ℕ → Type 0) (target : ℕ) (bound other : ℕ → ℕ) (table after : List ℕ) (entries last : List Entry) (node departure : ℕ) → ((place : ℕ) → bound place ≡ other place) → Scans roads answers target bound table entries after last node departure → Scans roads answers target other table entries after last node departure
scans_alike roads answers target bound other table after entries last node departure same scans = record {
  falls = falls_alike target bound other table after entries last same scans.falls;
  passed = scans.passed;
  labels = scans.labels;
  came = scans.came;
}
