-- What the search leaves, whichever of the asked nodes is the target.
use Rattle.std.proofs.Common.{◌≡◌, ℕ, ◌≤◌, arith, inl, inr, refl, List, length, Contains}
use Rattle.ea_base.specs.declared.limits.TheConstants.{HORIZON}
use Rattle.ea_travel_times.specs.Answers.{IsFifo}
use Rattle.ea_road.specs.Labels.{label_of}
use Rattle.ea_road.specs.Roads.{IsNetwork, IsNode, Roads, top_class}
use Rattle.ea_road.specs.declared.source.Source.{Source}
use Rattle.ea_road.proofs.Arcs.{is_question}
use Rattle.ea_search.specs.Links.{AreStarts}
use Rattle.ea_goal.specs.Frontiers.{AreKeyed, Takes}
use Rattle.ea_goal.specs.Led.{AreConsistent}
use Rattle.ea_goal.specs.Visits.{AreOpenNodes, Leads}
use Rattle.ea_goal.specs.declared.frontier.Entry.{Entry as Met}
use Rattle.ea_goal.proofs.Seeding.{seeded_all}
use Rattle.ea_goal.proofs.Visiting.{leads_more, leads_none, visits_none, visits_scanned}
use Rattle.ea_asked.specs.Open.{no_bound}
use Rattle.ea_asked.specs.Seeking.{AreLedTo, AreSeededFor, EndsFor, LeadsFor, ScansFor, VisitsFor}

module _ (roads : Roads) (answers : ℕ → ℕ → ℕ → ℕ → Type 0) (table : List ℕ) (entries : List Met) (entry : Met) where
  -- the label fell since, so that the entry isn't needed
  pub visits_stale : (label_of table entry.node ≡ entry.label → label_of table entry.node ≤ HORIZON → ⊥) → VisitsFor roads answers table entries table entries entry
  visits_stale stale = record {
    lower = λ node from. omega arith;
    spent = omega arith;
    visits = λ target is. visits_none roads answers target no_bound table entries entry (λ at within some. absurd (stale at within));
  }

  -- the node was scanned
  pub visits_fresh : (after : List ℕ) (last : List Met) → IsNetwork roads → IsNode roads.nodes entry.node → label_of table entry.node ≤ HORIZON → ScansFor roads answers table entries after last entry.node (label_of table entry.node) → VisitsFor roads answers table entries after last entry
  visits_fresh after last network is_entry within scans = record {
    lower = (scans 1 (omega arith)).falls.lower;
    spent = (scans 1 (omega arith)).falls.spent;
    visits = λ target is. visits_scanned roads answers target no_bound table entries entry after last network is is_entry within (scans target is.from_one);
  }

pub none_visited : (roads : Roads) (answers : ℕ → ℕ → ℕ → ℕ → Type 0) (table : List ℕ) (entries : List Met) → AreOpenNodes roads.nodes entries → AreKeyed no_bound entries → LeadsFor roads answers table entries table entries
none_visited roads answers table entries nodes keyed = record {
  nodes = nodes;
  leads = λ target is. leads_none roads answers target no_bound table entries nodes keyed;
}

-- an entry was taken and visited
pub one_more_visited : (roads : Roads) (answers : ℕ → ℕ → ℕ → ℕ → Type 0) (table middle after : List ℕ) (entries between taken last : List Met) (entry : Met) → LeadsFor roads answers table entries middle between → Takes between taken entry → VisitsFor roads answers middle taken after last entry → LeadsFor roads answers table entries after last
one_more_visited roads answers table middle after entries between taken last entry leads takes visits = record {
  nodes = (more entry.node (leads.nodes entry.label entry.node (record { nearness = entry.nearness; there = takes.here }))).nodes;
  leads = more;
}
  where
    more : (target : ℕ) → IsNode roads.nodes target → Leads roads answers target no_bound table entries after last
    more target is = leads_more roads answers target no_bound table middle after entries between taken last entry (leads.leads target is) takes (visits.visits target is)

module _
    (roads : Roads)
    (answers : ℕ → ℕ → ℕ → ℕ → Type 0)
    (classes : ℕ)
    (network : IsNetwork roads)
    (classed : top_class roads.arcs ≤ classes)
    (fifo : IsFifo answers classes)
  where
    -- no arc arrives before it is left
    no_bound_is_consistent : (target : ℕ) → AreConsistent roads answers target no_bound
    no_bound_is_consistent target = record {
      at_target = refl;
      along = λ number departure arrival arc is_arc left within answer some. (
        some,
        let onward = fifo.not_before arc.class arc.weight departure arrival (is_question roads classes number departure arc network classed is_arc left) answer in
            omega (arith, onward),
      );
    }

    -- nodes that are still open are beyond each asked node
    pub led_to_each : (sources : List Source) (begun after asked : List ℕ) (first last : List Met) → AreStarts roads.nodes sources → AreSeededFor roads.nodes sources begun first (length sources) → EndsFor roads answers begun first after last asked → ((node : ℕ) → Contains asked node → IsNode roads.nodes node) → AreLedTo roads answers sources asked (label_of after)
    led_to_each sources begun after asked first last starts seeded ends are target there =
        let is = are target there in
        let led = seeded_all roads answers sources target no_bound begun first starts (seeded target is.from_one) in
        let done = (ends.leads.leads target is).led sources (λ source among. (starts source among).0) led in
        record {
          bound = no_bound;
          consistent = no_bound_is_consistent target;
          led = record {
            at_sources = done.at_sources;
            reached = done.reached;
            settled = λ node is_node some near. elim (done.settled node is_node some near) [
              | inl satisfied ↦ inl satisfied
              | inr (inl far) ↦ inr (inl far)
              | inr (inr waits) ↦ (let beyond = ends.over (label_of after node) node target waits there in inr (inl (omega (arith, beyond))))
            ];
          };
        }
