use Rattle.std.proofs.Common.{ℕ, ◌<◌, ◌≤◌, ◌+◌, [], length, get_or, refl, sym, ap, arith, subst, below_more}
use Rattle.std.proofs.lemmas.Bool.{false≢true}
use Rattle.ea_road.specs.declared.arc.Arc.{Arc}
use Rattle.ea_road.specs.declared.leaving_arc.LeavingArc.{LeavingArc}
use Rattle.ea_road.specs.Roads.{Roads, IsNode, AreSideBySide, leaving, with_tail}
use Rattle.ea_road.proofs.Beside.{no_leaving}
use Rattle.ea_road.proofs.ByTail.{arc_beside, place_beside, leaving_few}
use Rattle.ea_travel_times.proofs.Lists.{any_default}
use Rattle.ea_engine.proofs.GroundLemmas.{node_of}
use Rattle.ea_engine.specs.Closed.{IsFollowed}
use Rattle.ea_engine.proofs.ProgressLemmas.{Progress-none, Progress-then}
use Rattle.ea_engine.proofs.BoundLemmas.{IsFollowed-more}
use Rattle.ea_engine.proofs.worker.scan.scan_entry.Goals as goal
use Rattle.ea_engine.proofs.worker.scan.scan_entry.Goals.{in-Unchanged, in-Lowered, in-Pushed, After-follow, After-leaving}

pub leaving-requires : goal.leaving-requires
leaving-requires g c =
    let ground = c.requires.may.is_ground in
    subst (λ (n : Roads). IsNode n.nodes c.args.entry.node) (sym ground.named.network_is) (node_of g.K.Known.is_known g.K.Posed.problem ground.posed c.args.entry.node c.args.entry.key c.requires.may.is_known)

-- the arcs and the numbers of the leaving arcs correspond
beside : (g : _) (c : After-leaving g) → AreSideBySide g.K.Posed.problem.network c.args.entry.node (leaving g.K.Posed.problem.network c.args.entry.node) c.leaving.result.arcs.now
beside g c =
    subst (λ (n : Roads). AreSideBySide n c.args.entry.node (leaving n c.args.entry.node) c.leaving.result.arcs.now) c.requires.may.is_ground.named.network_is
    (subst (λ numbers. AreSideBySide c.args.ground.now.network.now c.args.entry.node numbers c.leaving.result.arcs.now) c.leaving.ensures.numbers c.leaving.ensures.arcs)

pub loop-arc-init : goal.loop-arc-init
loop-arc-init g c = record {
  are_means = c.requires.may.are_means;
  room = c.requires.may.room;
  progress = Progress-none _;
  spent = λ k default lt. absurd (omega (arith, lt));
  few = omega arith;
  pushes = omega arith;
  one = λ is. refl;
}

pub follow-requires-clause-may : goal.follow-requires-clause-may
follow-requires-clause-may g c κs outlives =
    let d = (goal.at.follow-requires-clause-may g c).After-leaving in
    record {
      may_scan = record {
        is_ground = c.requires.may.is_ground;
        are_means = c.loop-arc.invariant.are_means;
        room = c.loop-arc.invariant.room;
        batch_few = c.requires.may.batch_few;
        is_known = c.requires.may.is_known;
      };
      number = get_or (leaving g.K.Posed.problem.network c.args.entry.node) c.loop-arc.arc-index 0;
      is_arc = rw c.with_tail-arc.ensures (arc_beside g.K.Posed.problem.network c.args.entry.node (leaving g.K.Posed.problem.network c.args.entry.node) c.leaving.result.arcs.now c.loop-arc.arc-index no_leaving (beside g d) c.loop-arc-test.true);
      tail_is = ap (λ (arc : Arc). arc.tail) c.with_tail-arc.ensures;
    }

-- the arc relaxed last is spent, and those before it stay so
spent : (g : _) (c : After-follow g) (k : ℕ) (default : LeavingArc) → k < c.loop-arc.arc-index + 1
    → IsFollowed g.K.Posed.problem c.follow.new.means.label_seat.history.bounds c.args.entry.key (with_tail (get_or c.leaving.result.arcs.now k default) c.args.entry.node)
spent g c k default lt =
    let arcs = c.leaving.result.arcs.now in
    let problem = g.K.Posed.problem in
    let before = c.loop-arc.means.label_seat.history.bounds in
    let after = c.follow.new.means.label_seat.history.bounds in
    let P : ℕ → Type 0 = λ j. IsFollowed problem after c.args.entry.key (with_tail (get_or arcs j default) c.args.entry.node) in
    below_more P c.loop-arc.arc-index
    (λ j lower. IsFollowed-more before after c.follow.ensures.relaxed.progress.bounds_stay problem c.args.entry.key (with_tail (get_or arcs j default) c.args.entry.node) (c.loop-arc.invariant.spent j default lower))
    (subst (λ (a : LeavingArc). IsFollowed problem after c.args.entry.key (with_tail a c.args.entry.node)) (any_default arcs c.loop-arc.arc-index _ default c.loop-arc-test.true) (rw c.with_tail-arc.ensures at c.follow.ensures.relaxed.spent))
    k lt

pub loop-arc-preserved : goal.loop-arc-preserved
loop-arc-preserved g c = record {
  are_means = c.follow.ensures.means;
  room = elim c.match-follow.branch [
    | in-Unchanged w ↦ w.in-Unchanged.ensures.relaxed.left
    | in-Lowered w ↦ w.in-Lowered.ensures.relaxed.left
    | in-Pushed w ↦ w.in-Pushed.ensures.relaxed.left
  ];
  progress = elim c.match-follow.branch [
    | in-Unchanged w ↦ Progress-then _ _ _ [] [] [] c.loop-arc.pushes 0 _ c.loop-arc.lowered 0 _ c.loop-arc.invariant.progress w.in-Unchanged.ensures.relaxed.progress refl (omega arith) (omega arith)
    | in-Lowered w ↦ Progress-then _ _ _ [] [] [] c.loop-arc.pushes 0 _ c.loop-arc.lowered 1 _ c.loop-arc.invariant.progress w.in-Lowered.ensures.relaxed.progress refl (omega arith) (omega arith)
    | in-Pushed w ↦ Progress-then _ _ _ [] [] [] c.loop-arc.pushes 1 _ c.loop-arc.lowered 1 _ c.loop-arc.invariant.progress w.in-Pushed.ensures.relaxed.progress refl (omega arith) (omega arith)
  ];
  spent = spent g (goal.at.loop-arc-preserved g c).After-follow;
  few = elim c.match-follow.branch [ in-Unchanged w ↦ omega arith | in-Lowered w ↦ omega arith | in-Pushed w ↦ omega arith ];
  pushes = elim c.match-follow.branch [ in-Unchanged w ↦ omega arith | in-Lowered w ↦ omega arith | in-Pushed w ↦ omega arith ];
  one = λ is. elim c.match-follow.branch [
    | in-Unchanged w ↦ omega (arith, c.loop-arc.invariant.one is)
    | in-Lowered w ↦ omega (arith, c.loop-arc.invariant.one is, w.in-Lowered.ensures.relaxed.one_push_each is)
    | in-Pushed w ↦ omega (arith, c.loop-arc.invariant.one is)
  ];
}

-- the number of leaving arcs is bounded
few_arcs : (g : _) (c : After-leaving g) → length c.leaving.result.arcs.now ≤ 268435456
few_arcs g c =
    let lengths = (beside g c).lengths in
    omega (arith, leaving_few c.args.entry.node 1 g.K.Posed.problem.network.arcs, c.requires.may.is_ground.posed.network.arcs_limit)

pub returns-in-Refused : goal.returns-in-Refused
returns-in-Refused g c = record {
  means = c.in-Refused.ensures.means;
  scan =
      let so_far = c.loop-arc.invariant in
      let relaxed = c.in-Refused.ensures.relaxed in
      record {
        progress = Progress-then _ _ _ [] [] [] c.loop-arc.pushes 1 _ c.loop-arc.lowered 1 _ so_far.progress relaxed.progress refl refl refl;
        left = relaxed.left;
        scanned = λ whole. absurd (false≢true (sym whole));
        refused = λ is. omega arith;
        few = omega (arith, few_arcs g (goal.at.returns-in-Refused g c).After-leaving, so_far.few, c.loop-arc-test.true);
        pushes = omega (arith, so_far.pushes);
        one_push_each = λ is. omega (arith, so_far.one is);
      };
}

pub returns : goal.returns
returns g c = record {
  means = c.loop-arc.invariant.are_means;
  scan =
      let so_far = c.loop-arc.invariant in
      let d = (goal.at.returns g c).After-leaving in
      record {
        progress = so_far.progress;
        left = so_far.room;
        scanned = λ whole number arc is_arc tail.
            let at = place_beside g.K.Posed.problem.network c.args.entry.node number arc no_leaving c.leaving.result.arcs.now (beside g d) is_arc tail in
            subst (λ (a : Arc). IsFollowed g.K.Posed.problem c.loop-arc.means.label_seat.history.bounds c.args.entry.key a) at.3
            (so_far.spent at.0 no_leaving (omega (arith, at.1)));
        refused = λ is. absurd (false≢true is);
        few = omega (arith, few_arcs g d, so_far.few, c.loop-arc.auto.arc-index-end);
        pushes = so_far.pushes;
        one_push_each = so_far.one;
      };
}
