use Rattle.std.proofs.Common.{[], refl, sym, ◌∙◌, ap, arith, subst, zero-add}
use Rattle.std.proofs.lemmas.Bool.{false≢true}
use Rattle.ea_engine.specs.Closed.{IsCut, IsStale}
use Rattle.ea_engine.specs.Equipped.{AreMeans}
use Rattle.ea_engine.specs.Grounds.{tables_of}
use Rattle.ea_engine.specs.Seated.{kit_of}
use Rattle.ea_engine.specs.Worked.{kit, Progress}
use Rattle.ea_engine.proofs.ProgressLemmas.{Progress-noted, Progress-saw, Progress-then}
use Rattle.ea_engine.proofs.BoundLemmas.{IsCut-noted, IsReachedBefore-noted, least_is_before}
use Rattle.ea_engine.proofs.GroundLemmas.{node_of}
use Rattle.ea_engine.proofs.Multisets.{Contains-head}
use Rattle.ea_engine.proofs.worker.visit.visit.Goals as goal
use Rattle.ea_engine.proofs.worker.visit.visit.Goals.{After-is_above_target, After-scan_entry-end}

pub read-label-requires-clause-node : goal.read-label-requires-clause-node
read-label-requires-clause-node g c κs outlives =
    let ground = c.requires.entry.is_ground in
    let is = node_of g.K.Known.is_known g.K.Posed.problem ground.posed c.args.entry.node c.args.entry.key c.requires.entry.is_known in
    record { from_one = is.from_one; to_last = omega (arith, is.to_last, ground.places_are) }

pub read-label-requires-clause-same_table : goal.read-label-requires-clause-same_table
read-label-requires-clause-same_table g c κs outlives = c.requires.entry.are_means.seats.labels

pub is_above_target-requires-clause-seat : goal.is_above_target-requires-clause-seat
is_above_target-requires-clause-seat g c κs outlives = c.read-label.ensures.same_table ∙ c.requires.entry.are_means.seats.labels

-- the means after two labels were read
means_looked : (g : _) (c : After-is_above_target g) → AreMeans g.K.Known.is_known (tables_of c.args.ground.now) (record c.args.means.now { label_seat = c.is_above_target.new.seat }) c.args.fresh.now.items
means_looked g c =
    let means = c.requires.entry.are_means in
    record {
      seats = record { labels = c.is_above_target.ensures.saw.same_table ∙ c.read-label.ensures.same_table ∙ means.seats.labels; pool = means.seats.pool };
      fresh_known = means.fresh_known;
    }

pub scan_entry-end-requires-clause-may : goal.scan_entry-end-requires-clause-may
scan_entry-end-requires-clause-may g c κs outlives = record {
  is_ground = c.requires.entry.is_ground;
  are_means = means_looked g (goal.at.scan_entry-end-requires-clause-may g c).After-is_above_target;
  room = c.requires.entry.room;
  batch_few = c.requires.entry.batch_few;
  is_known = c.requires.entry.is_known;
}

-- two labels were read
looked : (g : _) (c : After-is_above_target g) → Progress (kit_of g.R.Rng.stream c.args.means.now [] c.args.fresh.now.items) (kit c.is_above_target.new.seat.history c.args.means.now.pool_seat.account (g.R.Rng.stream c.args.means.now.rng) [] c.args.fresh.now.items) [] 0 0
looked g c =
    let read = Progress-noted _ _ _ _ [] c.args.fresh.now.items c.args.entry.node c.read-label.result c.read-label.ensures.gains in
    Progress-then _ _ _ [] [] [] 0 0 0 0 0 0 read (Progress-saw _ _ _ _ [] _ c.is_above_target.ensures.saw.saw) refl refl refl

-- the label isn't below the key, and the key isn't above the target's label
not_stale : (g : _) (c : After-is_above_target g) → IsStale c.args.means.now.label_seat.history.bounds c.args.entry → ⊥
not_stale g c stale =
    let low = least_is_before _ c.args.entry.node c.read-label.result c.args.entry.key c.read-label.ensures.least stale in
    omega (arith, low, c.if-label-entry.false)

not_cut : (g : _) (c : After-scan_entry-end g) → IsCut g.K.Posed.problem.query.target c.args.means.now.label_seat.history.bounds c.args.entry → ⊥
not_cut g c cut =
    let before = subst (λ t. IsCut t c.args.means.now.label_seat.history.bounds c.args.entry) (sym c.requires.target) cut in
    let known = IsCut-noted _ _ c.args.entry.node c.read-label.result c.args.target c.args.entry (ap (λ x. x.bounds) c.read-label.ensures.gains) before in
    false≢true (sym c.if-is_above_target.false ∙ c.is_above_target.ensures.known known)

pub returns-then-label-entry : goal.returns-then-label-entry
returns-then-label-entry g c = record {
  means =
      let means = c.requires.entry.are_means in
      record {
        seats = record { labels = c.read-label.ensures.same_table ∙ means.seats.labels; pool = means.seats.pool };
        fresh_known = means.fresh_known;
      };
  visited = rw c.visited_turn.ensures (record {
    visited = refl;
    number_is = refl;
    shaped = refl;
    few = omega arith;
    broken_is = refl;
    broken_visited = λ popped inside. absurd (omega (arith, inside.1));
    broken_inside = tt;
    pops = refl;
    pushes = omega arith;
    one_push_each = λ one_each. refl;
    fresh_few = c.requires.entry.room;
    progress = Progress-noted _ _ _ _ _ _ c.args.entry.node c.read-label.result c.read-label.ensures.gains;
    closed = IsReachedBefore-noted _ _ c.args.entry.node c.read-label.result c.args.entry.key (ap (λ x. x.bounds) c.read-label.ensures.gains) c.if-label-entry.true;
    fresh = tt;
  });
}

pub returns-then-is_above_target : goal.returns-then-is_above_target
returns-then-is_above_target g c = record {
  means = means_looked g (goal.at.returns-then-is_above_target g c).After-is_above_target;
  visited =
      let d = (goal.at.returns-then-is_above_target g c).After-is_above_target in
      rw c.visited_turn-then-is_above_target.ensures (record {
        visited = refl;
        number_is = refl;
        shaped = refl;
        few = omega arith;
        broken_is = refl;
        broken_visited = λ popped inside. absurd (omega (arith, inside.1));
        broken_inside = tt;
        pops = refl;
        pushes = omega arith;
        one_push_each = λ one_each. refl;
        fresh_few = c.requires.entry.room;
        progress = looked g d;
        closed = subst (λ t. IsCut t c.is_above_target.new.seat.history.bounds c.args.entry) c.requires.target (c.is_above_target.ensures.cut c.if-is_above_target.true);
        fresh = not_stale g d;
      });
}

pub returns-then-end : goal.returns-then-end
returns-then-end g c = record {
  means = c.scan_entry-end.ensures.means;
  visited =
      let d = (goal.at.returns-then-end g c).After-is_above_target in
      let e = (goal.at.returns-then-end g c).After-scan_entry-end in
      let end = c.scan_entry-end.result in
      let scan = c.scan_entry-end.ensures.scan in
      rw c.visited_turn-turn.ensures (record {
        visited = refl;
        number_is = refl;
        shaped = scan.refused c.if-end.true;
        few = scan.few;
        broken_is = refl;
        broken_visited = λ popped inside. inside;
        broken_inside = node_of g.K.Known.is_known g.K.Posed.problem c.requires.entry.is_ground.posed c.args.entry.node c.args.entry.key c.requires.entry.is_known;
        pops = refl;
        pushes = scan.pushes;
        one_push_each = scan.one_push_each;
        fresh_few = rw c.if-end.true at scan.left;
        progress = Progress-then _ _ _ [] [] [] 0 end.pushes end.pushes 0 end.lowered end.lowered (looked g d) scan.progress refl (sym (zero-add end.pushes)) (sym (zero-add end.lowered));
        closed = Contains-head c.args.entry [];
        fresh = (not_stale g d, not_cut g e);
      });
}

pub returns : goal.returns
returns g c = record {
  means = c.scan_entry-end.ensures.means;
  visited =
      let d = (goal.at.returns g c).After-is_above_target in
      let e = (goal.at.returns g c).After-scan_entry-end in
      let end = c.scan_entry-end.result in
      let scan = c.scan_entry-end.ensures.scan in
      rw c.visited_turn-turn-2.ensures (record {
        visited = refl;
        number_is = refl;
        shaped = tt;
        few = scan.few;
        broken_is = refl;
        broken_visited = λ popped inside. absurd (omega (arith, inside.1));
        broken_inside = tt;
        pops = refl;
        pushes = scan.pushes;
        one_push_each = scan.one_push_each;
        fresh_few = rw c.if-end.false at scan.left;
        progress = Progress-then _ _ _ [] [] [] 0 end.pushes end.pushes 0 end.lowered end.lowered (looked g d) scan.progress refl (sym (zero-add end.pushes)) (sym (zero-add end.lowered));
        closed = scan.scanned c.if-end.false;
        fresh = (not_stale g d, not_cut g e);
      });
}
