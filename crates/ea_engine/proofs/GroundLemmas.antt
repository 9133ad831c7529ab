-- From the conditions of a run to what workers may rely on.
use Rattle.std.proofs.Common.{◌≡◌, ℕ, ◌≤◌, Some, None, Option, refl, sym, subst, inl, inr}
use Rattle.std.specs.Prelude.{IfSome, List}
use Rattle.ea_road.specs.Arrivals.{Arrives, Reaches}
use Rattle.ea_road.specs.declared.source.Source.{Source}
use Rattle.ea_road.specs.Labels.{label_of}
use Rattle.ea_road.specs.Queries.{Asking, IsProblem}
use Rattle.ea_road.specs.Roads.{Roads, IsNetwork, IsNode, top_class}
use Rattle.ea_search.specs.Underway.{IsUnderway}
use Rattle.ea_road.proofs.Reached.{reaches_node}
use Rattle.rand_core.specs.Stream.{Stream}
use Rattle.ea_engine.specs.declared.worker.counters.Counters.{Counters}
use Rattle.ea_engine.specs.declared.settings.Pace.{Pace}
use Rattle.ea_engine.specs.declared.worker.turn.Flow.{Flow}
use Rattle.ea_engine.specs.declared.worker.turn.Turn.{Turn}
use Rattle.ea_engine.specs.Problems.{Problem, AreReached, IsPosed, IsNamed}
use Rattle.ea_engine.specs.Reports.{AreReports}
use Rattle.ea_engine.specs.Turns.{visited_in_all}

each_target : (target : Option ℕ) (P : ℕ → Type 0) → ((node : ℕ) → target ≡ Some node → P node) → IfSome target P
each_target None P h = tt
each_target (Some node) P h = h node refl

-- The time of a known pair is that of a node.
pub node_of : (known : ℕ → ℕ → Type 0) (problem : Problem) → IsPosed known problem → (node time : ℕ) → known node time → IsNode problem.network.nodes node
node_of known problem posed node time knows =
    reaches_node problem.network problem.answers posed.network problem.query.sources node time (λ source among. (posed.sources_in source among).0) ((posed.names node time).0 knows)

module _ (known : ℕ → ℕ → Type 0) (problem : Problem) (network : Roads) (answers : ℕ → ℕ → ℕ → ℕ → Type 0) (query : Asking) (named : IsNamed known problem network answers query) where
  pub posed_of : (classes : ℕ) → IsNetwork network → IsProblem network classes query → IsPosed known problem
  posed_of classes is_network is_problem =
      let asked = subst (λ (q : Asking). IsProblem problem.network classes q) named.query_is (subst (λ (n : Roads). IsProblem n classes query) named.network_is is_problem) in
      record {
        network = subst IsNetwork named.network_is is_network;
        sources_in = λ source among. (asked.sources source among, asked.departures source among);
        target_in = each_target problem.query.target _ asked.target;
        names = named.names;
      }

  pub classed_of : (classes : ℕ) → IsProblem network classes query → top_class problem.network.arcs ≤ classes
  classed_of classes is_problem = subst (λ (n : Roads). top_class n.arcs ≤ classes) named.network_is is_problem.classed

  -- walks by the problem's answers are walks by those of the travel times
  walks_by : (start departure : ℕ) (walk : List ℕ) (node time : ℕ) → Arrives problem.network problem.answers start departure walk node time → Arrives problem.network answers start departure walk node time
  walks_by start departure walk node time Arrives.stays = Arrives.stays
  walks_by start departure walk node time (Arrives.goes before within is_arc tail answer) =
      Arrives.goes (walks_by start departure _ _ _ before) within is_arc tail ((named.answers_are _ _ _ _).1 answer)

  reached_by : (sources : List Source) (node time : ℕ) → Reaches problem.network problem.answers sources node time → Reaches problem.network answers sources node time
  reached_by sources node time r = record {
    source = r.source;
    walk = r.walk;
    among = r.among;
    arrives = walks_by _ _ _ _ _ r.arrives;
    within = r.within;
  }

  underway_here : (table waiting : List ℕ) → IsUnderway problem.network problem.answers problem.query table waiting → IsUnderway problem.network answers problem.query table waiting
  underway_here table waiting u = record {
    places = u.places;
    labels = record {
      at_sources = u.labels.at_sources;
      reached = λ node is some. reached_by problem.query.sources node (label_of table node) (u.labels.reached node is some);
      settled = λ node is some. elim (u.labels.settled node is some) [
        | inl satisfied ↦ inl (λ number arc arrival is_arc tail answer within. satisfied number arc arrival is_arc tail ((named.answers_are _ _ _ _).0 answer) within)
        | inr other ↦ inr other
      ];
    };
  }

  -- what is underway for the problem is so for the network, the travel times and the query
  pub underway_of : (table waiting : List ℕ) → IsUnderway problem.network problem.answers problem.query table waiting → IsUnderway network answers query table waiting
  underway_of table waiting u =
      subst (λ (n : Roads). IsUnderway n answers query table waiting) (sym named.network_is)
      (subst (λ (q : Asking). IsUnderway problem.network answers q table waiting) (sym named.query_is) (underway_here table waiting u))

  -- and so for reports
  pub reports_of : {R T : Type 0} (stream : R → Stream) (shows : T → Turn → Flow → T → Type 0) (pace : Pace) (rngs rngs' : List R) (tracers tracers' : List T) (counters : List Counters)
      → AreReports stream shows problem.network problem.answers problem.query.sources pace rngs rngs' tracers tracers' counters
      → AreReports stream shows network answers query.sources pace rngs rngs' tracers tracers' counters
  reports_of stream shows pace rngs rngs' tracers tracers' counters all k c r t lt =
      let one = all k c r t lt in
      record {
        turns = one.turns;
        lawful = one.lawful;
        shown = one.shown;
        counted = one.counted;
        reached = subst (λ (n : Roads). AreReached n answers query.sources (visited_in_all one.turns)) (sym named.network_is)
            (subst (λ (q : Asking). AreReached problem.network answers q.sources (visited_in_all one.turns)) (sym named.query_is)
            (λ i d inside. reached_by problem.query.sources _ _ (one.reached i d inside)));
        words_are = one.words_are;
      }
