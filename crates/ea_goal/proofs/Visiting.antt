-- An open node is visited.
use Rattle.std.proofs.Common.{◌≡◌, ℕ, ◌+◌, ◌-◌, ◌<◌, ◌≤◌, inl, inr, refl, ap, sym, subst, ◌∙◌, arith, List}
use Rattle.std.proofs.lemmas.Bool.Decides.{leb_tells}
use Rattle.ea_base.specs.declared.limits.TheConstants.{HORIZON}
use Rattle.ea_road.specs.declared.source.Source.{Source}
use Rattle.ea_road.specs.Arrivals.{Reaches}
use Rattle.ea_road.specs.Labels.{Satisfies, label_of}
use Rattle.ea_road.specs.Roads.{IsNetwork, IsNode, Roads}
use Rattle.ea_road.proofs.Reached.{reaches_more}
use Rattle.ea_hierarchy.specs.declared.numbers.TheConstants.{NONE as NO_WALK}
use Rattle.ea_goal.specs.Frontiers.{AreKeyed, Closes, Takes, Waits}
use Rattle.ea_goal.specs.Led.{IsBeyond, IsLed}
use Rattle.ea_goal.specs.Scans.{Scans}
use Rattle.ea_goal.specs.Visits.{AreOpenNodes, IsOpen, Leads, Visits}
use Rattle.ea_goal.specs.declared.frontier.Entry.{Entry}
use Rattle.ea_goal.specs.declared.frontier.TheConstants.{FARTHEST}
use Rattle.ea_goal.proofs.Scanning.{keyed_alike}

module _ (roads : Roads) (answers : ℕ → ℕ → ℕ → ℕ → Type 0) (target : ℕ) (bound : ℕ → ℕ) (table : List ℕ) (entries : List Entry) (entry : Entry) where
  -- the entry isn't needed
  pub visits_none : (label_of table entry.node ≡ entry.label → label_of table entry.node ≤ HORIZON → bound entry.node < NO_WALK → IsBeyond target bound (label_of table) entry.node) → Visits roads answers target bound table entries table entries entry
  visits_none beyond = record {
    count = refl;
    spent = omega arith;
    came = λ at other waits. inl waits;
    keyed = λ are. are;
    led = λ sources are led. record {
      at_sources = led.at_sources;
      reached = led.reached;
      settled = λ node is_node some near. elim (led.settled node is_node some near) [
        | inl satisfied ↦ inl satisfied
        | inr (inl far) ↦ inr (inl far)
        | inr (inr (inl waits)) ↦ inr (inr waits)
        | inr (inr (inr taken)) ↦
            let at : label_of table entry.node ≡ entry.label = ap (label_of table) (sym taken.1) ∙ taken.0 in
            let reaches = led.reached node is_node some in
            let within : label_of table entry.node ≤ HORIZON = omega (arith, reaches.within, ap (label_of table) taken.1) in
            let close : bound entry.node < NO_WALK = subst (λ n. bound n < NO_WALK) taken.1 near in
            inr (inl (subst (λ n. IsBeyond target bound (label_of table) n) (sym taken.1) (beyond at within close)))
      ];
    };
  }

  -- all are beyond the target
  pub visits_beyond : (new_entries : List Entry) → FARTHEST - entry.nearness ≤ entry.label + bound entry.node → AreKeyed bound entries → label_of table target < FARTHEST - entry.nearness → Closes (label_of table target) entries new_entries → Visits roads answers target bound table entries table new_entries entry
  visits_beyond new_entries key keys late closes = record {
    count = refl;
    spent = omega (arith, closes.long);
    came = λ at other waits. inl (record { nearness = waits.nearness; there = closes.fewer _ waits.there });
    keyed = λ are other there. are other (closes.fewer other there);
    led = λ sources are led. record {
      at_sources = led.at_sources;
      reached = led.reached;
      settled = λ node is_node some near. elim (led.settled node is_node some near) [
        | inl satisfied ↦ inl satisfied
        | inr (inl far) ↦ inr (inl far)
        | inr (inr (inl waits)) ↦ elim (closes.rest _ waits.there) [
          | inl there ↦ inr (inr (record { nearness = waits.nearness; there = there }))
          | inr above ↦ let low = keys _ waits.there in inr (inl (omega (arith, above, low)))
        ]
        | inr (inr (inr taken)) ↦ inr (inl (omega (arith, late, key, taken.0, ap bound taken.1)))
      ];
    };
  }

  -- its node was scanned
  pub visits_scanned : (new_table : List ℕ) (new_entries : List Entry) → IsNetwork roads → IsNode roads.nodes target → IsNode roads.nodes entry.node → label_of table entry.node ≤ HORIZON → Scans roads answers target bound table entries new_table new_entries entry.node (label_of table entry.node)
      → Visits roads answers target bound table entries new_table new_entries entry
  visits_scanned new_table new_entries network is_target is_entry within scans = record {
    count = scans.falls.count;
    spent = scans.falls.spent;
    came = scans.came;
    keyed = scans.falls.keyed;
    led = λ sources are led. record {
      at_sources = λ source among. omega (arith, lower source.node (are source among).from_one, led.at_sources source among);
      reached = λ node is_node some. elim (scans.labels node is_node.from_one) [
        | inl same ↦ subst (λ t. Reaches roads answers sources node t) (sym same) (led.reached node is_node (λ none. some (same ∙ none)))
        | inr by ↦
            let begin = led.reached entry.node is_entry (λ none. omega (arith, none, within)) in
            reaches_more roads answers sources entry.node (label_of table entry.node) by.0 node (label_of new_table node) by.1 begin by.2 by.3 by.4 by.5 by.6
      ];
      settled = λ node is_node some near. elim (leb_tells (label_of table node) (label_of new_table node)) [
        | inr fell ↦ elim (scans.falls.fallen node is_node.from_one fell.1 near) [
          | inl waits ↦ inr (inr waits)
          | inr far ↦ inr (inl far)
        ]
        | inl stays ↦
            let same : label_of new_table node ≡ label_of table node = omega (arith, stays.1, lower node is_node.from_one) in
            elim (led.settled node is_node (λ none. some (same ∙ none)) near) [
              | inl satisfied ↦ inl (still_satisfied node same satisfied)
              | inr (inl far) ↦ inr (inl (omega (arith, far, same, lower target is_target.from_one)))
              | inr (inr (inl waits)) ↦ inr (inr (subst (λ t. Waits new_entries t node) (sym same) (scans.falls.kept (label_of table node) node waits)))
              | inr (inr (inr taken)) ↦ inl (now_satisfied node same taken.1)
            ]
      ];
    };
  }
    where
      lower : (node : ℕ) → 0 < node → label_of new_table node ≤ label_of table node
      lower node from = scans.falls.lower node from

      still_satisfied : (node : ℕ) → label_of new_table node ≡ label_of table node → Satisfies roads answers (label_of table) node (label_of table node) → Satisfies roads answers (label_of new_table) node (label_of new_table node)
      still_satisfied node same satisfied number arc arrival is_arc tail answer in_time =
          let low = satisfied number arc arrival is_arc tail (subst (λ t. answers arc.class arc.weight t arrival) same answer) in_time in
          omega (arith, low, lower arc.head (network.each_fits number arc is_arc).head.from_one)

      now_satisfied : (node : ℕ) → label_of new_table node ≡ label_of table node → node ≡ entry.node → Satisfies roads answers (label_of new_table) node (label_of new_table node)
      now_satisfied node same is number arc arrival is_arc tail answer in_time =
          let at : label_of new_table node ≡ label_of table entry.node = same ∙ ap (label_of table) is in
          scans.passed number arrival arc is_arc (tail ∙ is) (subst (λ t. answers arc.class arc.weight t arrival) at answer) in_time

pub leads_none : (roads : Roads) (answers : ℕ → ℕ → ℕ → ℕ → Type 0) (target : ℕ) (bound : ℕ → ℕ) (table : List ℕ) (entries : List Entry) → AreOpenNodes roads.nodes entries → AreKeyed bound entries → Leads roads answers target bound table entries table entries
leads_none roads answers target bound table entries nodes keyed = record { count = refl; nodes = nodes; keyed = keyed; led = λ sources are led. led }

-- the same bounds serve as well
pub led_alike : (roads : Roads) (answers : ℕ → ℕ → ℕ → ℕ → Type 0) (target : ℕ) (sources : List Source) (one two label : ℕ → ℕ) (open_at : ℕ → ℕ → Type 0) → ((node : ℕ) → one node ≡ two node) → IsLed roads answers sources target one label open_at → IsLed roads answers sources target two label open_at
led_alike roads answers target sources one two label open_at alike led = record {
  at_sources = led.at_sources;
  reached = led.reached;
  settled = λ node is_node some near. elim (led.settled node is_node some (omega (arith, alike node, near))) [
    | inl satisfied ↦ inl satisfied
    | inr (inl far) ↦ inr (inl (omega (arith, far, alike node)))
    | inr (inr waits) ↦ inr (inr waits)
  ];
}

pub visits_alike : (roads : Roads) (answers : ℕ → ℕ → ℕ → ℕ → Type 0) (target : ℕ) (bound other : ℕ → ℕ) (table after : List ℕ) (entries last : List Entry) (entry : Entry) → ((node : ℕ) → bound node ≡ other node) → Visits roads answers target bound table entries after last entry → Visits roads answers target other table entries after last entry
visits_alike roads answers target bound other table after entries last entry same visits = record {
  count = visits.count;
  spent = visits.spent;
  came = visits.came;
  keyed = λ are. keyed_alike bound other last same (visits.keyed (keyed_alike other bound entries (λ node. sym (same node)) are));
  led = λ sources are led. led_alike roads answers target sources bound other (label_of after) (Waits last) same (visits.led sources are (led_alike roads answers target sources other bound (label_of table) (IsOpen entries entry) (λ node. sym (same node)) led));
}

-- an entry was taken and visited
pub leads_more : (roads : Roads) (answers : ℕ → ℕ → ℕ → ℕ → Type 0) (target : ℕ) (bound : ℕ → ℕ) (table middle after : List ℕ) (entries between taken last : List Entry) (entry : Entry) → Leads roads answers target bound table entries middle between → Takes between taken entry → Visits roads answers target bound middle taken after last entry → Leads roads answers target bound table entries after last
leads_more roads answers target bound table middle after entries between taken last entry leads takes visits = record {
  count = visits.count ∙ leads.count;
  nodes = λ at node waits. elim (visits.came at node waits) [
    | inl old ↦ leads.nodes at node (record { nearness = old.nearness; there = takes.fewer _ old.there })
    | inr is ↦ is
  ];
  keyed = visits.keyed (λ other there. leads.keyed other (takes.fewer other there));
  led = λ sources are led.
      let before = leads.led sources are led in
      visits.led sources are (record {
        at_sources = before.at_sources;
        reached = before.reached;
        settled = λ node is_node some near. elim (before.settled node is_node some near) [
          | inl satisfied ↦ inl satisfied
          | inr (inl far) ↦ inr (inl far)
          | inr (inr waits) ↦ inr (inr (takes.rest (label_of middle node) node waits))
        ];
      });
}
