use Rattle.std.proofs.Common.{◌≡◌, ◌≢◌, ◌<◌, ◌≤◌, ◌+◌, ◌∷◌, ◌++◌, [], ℕ, List, length, replicate, Option, sym, ap, ◌∙◌, arith, subst, inl, inr, Ok}
use Rattle.std.proofs.lemmas.List.{length-replicate}
use Rattle.ea_road.specs.declared.TheConstants.{NONE}
use Rattle.ea_road.specs.Labels.{label_of}
use Rattle.ea_road.specs.Queries.{IsAskedBy}
use Rattle.ea_road.specs.Roads.{leaving}
use Rattle.ea_road.proofs.ByTail.{leaving_has}
use Rattle.ea_pool.specs.declared.heap.entry.Entry.{Entry}
use Rattle.ea_machine.specs.Totals.{total}
use Rattle.ea_pool.specs.Entries.{times}
use Rattle.ea_rank.specs.declared.event.Event.{Event}
use Rattle.ea_rank.specs.Ranks.{rank_errors, queue_after}
use Rattle.ea_rank.specs.Runs.{State, entry_of, weighs}
use Rattle.ea_rank.specs.States.{state_of}
use Rattle.ea_rank.specs.Tallies.{added}
use Rattle.ea_rank.proofs.Books.{none_weighs, fresh_weighs, fresh_length, takes-length}
use Rattle.ea_rank.specs.Courses.Turns.{begins}
use Rattle.ea_rank.proofs.Coursing.{turn_stale, turn_scans}
use Rattle.ea_rank.proofs.Occurring.{popped_as_often}
use Rattle.ea_rank.proofs.Recording.{recorded-none, recorded-pops, recorded-empty}
use Rattle.ea_rank.proofs.Underways.{less-pops, underway-none, underway-pops, underway-fixed, underway-popped, popped_known}
use Rattle.ea_rank.proofs.turns.record_run.Goals as goal

pub sow-requires-clause-may : goal.sow-requires-clause-may
sow-requires-clause-may g c = record {
  on_course =
      let made = c.in_ok-run.ensures in
      let state = state_of c.in_ok-run.run' in
      let none : (f : Entry → ℕ) → weighs f c.in_ok-run.run'.heaps ≡ 0 = λ f. ap (weighs f) made.1 ∙ fresh_weighs f c.args.heaps in
      let empty : total (λ (es : List Entry). length es) c.in_ok-run.run'.heaps ≡ 0 = ap (total (λ (es : List Entry). length es)) made.1 ∙ fresh_length c.args.heaps in
      let labels : c.in_ok-run.run'.labels.items ≡ replicate c.args.network.now.nodes NONE = made.0 ∙ ap (λ (n : ℕ). replicate n NONE) c.nodes.ensures.nodes in
      ([], underway-none c.args.network.now _ c.args.query.now.sources c.nodes.ensures.network [] state labels (none (λ e. 1)) empty, recorded-none state made.2 none);
  two_heaps = omega (arith, ap (λ (heaps : List (List Entry)). length heaps) c.in_ok-run.ensures.1, length-replicate {A = List Entry} c.args.heaps [], c.requires.heaps.0);
}

pub label-requires : goal.label-requires
label-requires g c =
    let moved = rw c.in-Some.is at c.in_ok-entry.ensures in
    let inv = c.loop-run.invariant in
    let known = popped_known c.args.network.now _ c.args.query.now.sources c.nodes.ensures.network inv.underway.0 _ _ c.in-Some.entry (state_of c.loop-run.run) (state_of c.pop.new.self) inv.underway.1 moved in
    (known.0.from_one, omega (arith, known.0.to_last, inv.underway.1.places, ap (λ (l : List ℕ). length l) moved.labels))

pub scan-requires-clause-may : goal.scan-requires-clause-may
scan-requires-clause-may g c = record {
  is_node =
      let moved = rw c.in-Some.is at c.in_ok-entry.ensures in
      let inv = c.loop-run.invariant in
      (popped_known c.args.network.now _ c.args.query.now.sources c.nodes.ensures.network inv.underway.0 _ _ c.in-Some.entry (state_of c.loop-run.run) (state_of c.pop.new.self) inv.underway.1 moved).0;
  in_time =
      let moved = rw c.in-Some.is at c.in_ok-entry.ensures in
      let inv = c.loop-run.invariant in
      (popped_known c.args.network.now _ c.args.query.now.sources c.nodes.ensures.network inv.underway.0 _ _ c.in-Some.entry (state_of c.loop-run.run) (state_of c.pop.new.self) inv.underway.1 moved).1;
  label_is =
      let moved = rw c.in-Some.is at c.in_ok-entry.ensures in
      let inv = c.loop-run.invariant in
      let known = popped_known c.args.network.now _ c.args.query.now.sources c.nodes.ensures.network inv.underway.0 _ _ c.in-Some.entry (state_of c.loop-run.run) (state_of c.pop.new.self) inv.underway.1 moved in
      omega (arith, known.2, c.label.ensures, c.if-entry-label.true);
  may_go_on = record {
    on_course =
        let moved = rw c.in-Some.is at c.in_ok-entry.ensures in
        let inv = c.loop-run.invariant in
        let roads = c.args.network.now in
        let entry = c.in-Some.entry in (
          inv.underway.0 ++ entry ∷ [],
          underway-pops roads _ c.args.query.now.sources c.nodes.ensures.network (leaving roads entry.node) inv.underway.0 _ _ entry (state_of c.loop-run.run) (state_of c.pop.new.self) (inr (λ number arc is_arc tail. leaving_has roads entry.node number arc is_arc tail)) inv.underway.1 moved,
          recorded-pops _ _ entry inv.underway.0 (state_of c.loop-run.run) (state_of c.pop.new.self) inv.underway.2 moved,
        );
    two_heaps =
        let moved = rw c.in-Some.is at c.in_ok-entry.ensures in
        omega (arith, takes-length _ c.in-Some.entry c.loop-run.run.heaps c.pop.new.self.heaps moved.heaps.taken, c.loop-run.invariant.heaps, c.requires.heaps.0);
  };
}

pub loop-run-smaller-in-Continue-branch-5 : goal.loop-run-smaller-in-Continue-branch-5
loop-run-smaller-in-Continue-branch-5 g c =
    let moved = rw c.in-Some.is at c.in_ok-entry.ensures in
    let less : added c.scan.new.run.labels.items + weighs (λ e. 1) c.scan.new.run.heaps < added c.loop-run.run.labels.items + weighs (λ e. 1) c.loop-run.run.heaps = omega (arith, c.in_ok-scan.ensures.less, less-pops _ _ c.in-Some.entry (state_of c.loop-run.run) (state_of c.pop.new.self) moved) in
    less

pub loop-run-smaller : goal.loop-run-smaller
loop-run-smaller g c =
    let moved = rw c.in-Some.is at c.in_ok-entry.ensures in
    let less : added c.pop.new.self.labels.items + weighs (λ e. 1) c.pop.new.self.heaps < added c.loop-run.run.labels.items + weighs (λ e. 1) c.loop-run.run.heaps = less-pops _ _ c.in-Some.entry (state_of c.loop-run.run) (state_of c.pop.new.self) moved in
    less

pub loop-run-preserved : goal.loop-run-preserved
loop-run-preserved g c =
    let moved = rw c.in-Some.is at c.in_ok-entry.ensures in
    let inv = c.loop-run.invariant in
    let entry = c.in-Some.entry in
    let stale : label_of c.loop-run.run.labels.items entry.node < entry.key = omega (arith, c.label.ensures, c.if-entry-label.false, ap (λ (l : List ℕ). label_of l entry.node) moved.labels) in
    let stale_now : label_of c.pop.new.self.labels.items entry.node < entry.key = omega (arith, c.label.ensures, c.if-entry-label.false) in record {
      underway = (
        inv.underway.0 ++ entry ∷ [],
        underway-pops c.args.network.now _ c.args.query.now.sources c.nodes.ensures.network [] inv.underway.0 _ _ entry (state_of c.loop-run.run) (state_of c.pop.new.self) (inl stale) inv.underway.1 moved,
        recorded-pops _ _ entry inv.underway.0 (state_of c.loop-run.run) (state_of c.pop.new.self) inv.underway.2 moved,
      );
      heaps = takes-length _ entry c.loop-run.run.heaps c.pop.new.self.heaps moved.heaps.taken ∙ inv.heaps;
      course = turn_stale c.args.network.now _ c.args.heaps _ _ _ _ c.args.query.now.sources (state_of c.loop-run.run) (state_of c.pop.new.self) _ _ entry inv.course c.next_u64.ensures c.next_u64-in-loop-run.ensures moved stale_now;
    }

pub fixed_labels_are_least-requires-clause-fixed : goal.fixed_labels_are_least-requires-clause-fixed
fixed_labels_are_least-requires-clause-fixed g c =
    let told = rw c.in_default.is at c.in_ok-entry.ensures in
    let inv = c.loop-run.invariant in
    let labels = ap (λ (s : State). s.labels) told.1 in
    rw (c.deref.ensures.value, labels) (underway-fixed c.args.network.now _ c.args.query.now.sources c.nodes.ensures.network c.args.query.now.target inv.underway.0 (state_of c.loop-run.run) told.0 inv.underway.1)

pub returns : goal.returns
returns g c = record {
  ranks =
      let told = rw c.in_default.is at c.in_ok-entry.ensures in
      let recorded = c.loop-run.invariant.underway.2 in
      let events = ap (λ (s : State). s.events) told.1 in record {
        ranks = recorded.ranks;
        found = subst (λ (e : List Event). rank_errors e ≡ Ok recorded.ranks) (sym events) recorded.found;
        exact = λ two. recorded.exact (c.loop-run.invariant.heaps ∙ two);
      };
  empty =
      let told = rw c.in_default.is at c.in_ok-entry.ensures in
      let inv = c.loop-run.invariant in
      let events = ap (λ (s : State). s.events) told.1 in
      subst (λ (e : List Event). queue_after [] e ≡ []) (sym events) (recorded-empty inv.underway.0 (state_of c.loop-run.run) (none_weighs (λ e. 1) c.loop-run.run.heaps told.0) inv.underway.2);
  least =
      let told = rw c.in_default.is at c.in_ok-entry.ensures in
      let inv = c.loop-run.invariant in
      let popped = inv.underway.0 in
      let u = inv.underway.1 in
      let labels = ap (λ (s : State). s.labels) told.1 in
      let events = ap (λ (s : State). s.events) told.1 in
      let old = c.loop-run.run.labels.items in
      let least = rw (c.deref.ensures.value, labels) at c.fixed_labels_are_least.ensures.asked in record {
        labels = old;
        places = u.places;
        least = λ node there. least node there (subst (λ (target : Option ℕ). IsAskedBy target node) (sym c.requires.asks_all) tt);
        contained = λ time within. rw events (popped_as_often time old popped _
            (λ node some near at. (
            let labelled : label_of old node ≢ NONE = λ z. absurd (omega arith) in
            let there = underway-popped c.args.network.now _ c.args.query.now.sources c.nodes.ensures.network popped (state_of c.loop-run.run) told.0 u node (record { from_one = some; to_last = omega (arith, u.places) }) labelled in
            subst (λ (x : ℕ). 0 < times (entry_of node x) popped) at there))
            inv.underway.2.keys);
      };
  course =
      let told = rw c.in_default.is at c.in_ok-entry.ensures in record {
        rest = g.R.Rng.stream c.loop-run.rng;
        state = state_of c.loop-run.run;
        begun = c.loop-run.invariant.course;
        empty = told.0;
        events_are = ap (λ (s : State). s.events) told.1;
      };
}

pub loop-run-init : goal.loop-run-init
loop-run-init g c =
    let made = c.in_ok-run.ensures in
    let sown = c.in_ok-sow.ensures in record {
      underway = c.in_ok-sow.ensures.on_course;
      heaps = c.in_ok-sow.ensures.heaps_are ∙ ap (λ (heaps : List (List Entry)). length heaps) made.1 ∙ length-replicate c.args.heaps [];
      course = record {
        start = state_of c.in_ok-run.run';
        sown = state_of c.sow.new.run;
        pushes = sown.pushes;
        labels = made.0 ∙ ap (λ (n : ℕ). replicate n NONE) c.nodes.ensures.nodes;
        heaps_are = made.1;
        nothing = made.2;
        sows = sown.sows;
        turns = begins;
      };
    }

pub loop-run-preserved-in-Continue-branch-5 : goal.loop-run-preserved-in-Continue-branch-5
loop-run-preserved-in-Continue-branch-5 g c =
    let moved = rw c.in-Some.is at c.in_ok-entry.ensures in
    let inv = c.loop-run.invariant in
    let entry = c.in-Some.entry in
    let fresh : entry.key ≤ label_of c.pop.new.self.labels.items entry.node = omega (arith, c.label.ensures, c.if-entry-label.true) in record {
      underway = c.in_ok-scan.ensures.on_course;
      heaps = c.in_ok-scan.ensures.heaps_are ∙ takes-length _ entry c.loop-run.run.heaps c.pop.new.self.heaps moved.heaps.taken ∙ inv.heaps;
      course = turn_scans c.args.network.now _ c.args.heaps _ _ _ _ _ c.args.query.now.sources (state_of c.loop-run.run) (state_of c.pop.new.self) (state_of c.scan.new.run) _ _ entry inv.course c.next_u64.ensures c.next_u64-in-loop-run.ensures moved fresh c.in_ok-scan.ensures.course;
    }

pub pop-requires : goal.pop-requires
pop-requires g c = record { are = c.loop-run.invariant.heaps; two = c.requires.heaps.0; few = c.requires.heaps.1 }
