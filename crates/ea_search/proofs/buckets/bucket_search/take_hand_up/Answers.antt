use Rattle.std.proofs.Common.{◌≡◌, ◌∙◌, ◌≤◌, ℕ, Some, length, option_to_list, ap, inl, inr, refl, subst, sym, arith}
use Rattle.std.proofs.lemmas.Bool.{false≢true}
use Rattle.std.proofs.lemmas.Option.{none-some}
use Rattle.std.specs.Prelude.{IfSome}
use Rattle.ea_road.specs.Roads.{IsNode}
use Rattle.ea_search.specs.Underway.{bound_of}
use Rattle.ea_search.proofs.Gatherings.{had_none, next_node, next_rest, next_room, pending_stays}
use Rattle.ea_search.proofs.buckets.bucket_search.take_hand_up.Goals as goal

pub loop-next-init : goal.loop-next-init
loop-next-init g c = record {
  rest = λ node waits. elim waits [
    | inl is ↦ inr (inl (ap (λ (e : ℕ × ℕ). Some e) is))
    | inr still ↦ inl (inl still)
  ];
  had = rw c.requires.none (had_none c.args.network.now _ (g.L.Table.labels c.args.table.now) c.args.last);
  fewer = omega arith;
  nodes = refl;
  walks = refl;
  is_node = c.requires.can.is_node;
}

pub loop-next-preserved : goal.loop-next-preserved
loop-next-preserved g c =
    let table = (g.L.Table.labels c.args.table.now) in
    let inv = c.loop-next.invariant in
    let taken = c.take_up.ensures.taken c.if-not-take_up.false in
    let room = next_room c.take_drawn-next.result _ _ c.take_drawn-next.ensures in
    record {
      rest = λ node waits. elim (inv.rest node waits) [
        | inl (inl before) ↦ elim (next_rest (bound_of table) c.take_drawn-next.result _ _ c.take_drawn-next.ensures node before) [
          | inl still ↦ inl (inl still)
          | inr found ↦ inr (inl found)
        ]
        | inl (inr pending) ↦ inl (inr (pending_stays c.args.network.now _ table node _ _ taken.kept pending))
        | inr (inl is_next) ↦ (
            let same : c.in-Some.entry ≡ (bound_of table node, node) = cc in
            elim (taken.pending node same) [
              | inl pends ↦ inl (inr pends)
              | inr late ↦ inr (inr late)
            ])
        | inr (inr late) ↦ inr (inr late)
      ];
      had = taken.had inv.had;
      fewer = omega (arith, room.0, inv.fewer);
      nodes = room.1 ∙ inv.nodes;
      walks = room.2 ∙ inv.walks;
      is_node = next_node c.take_drawn-next.result _ _ c.args.network.now.nodes (inv.nodes ∙ c.requires.room) c.take_drawn-next.ensures;
    }

pub loop-next-smaller : goal.loop-next-smaller
loop-next-smaller g c =
    let room = next_room c.take_drawn-next.result _ _ c.take_drawn-next.ensures in
    let one : length (option_to_list c.loop-next.next) ≡ 1 = rw c.in-Some.is refl in
    omega (arith, room.0, one)

pub returns-then-not-take_up-clause-emptied : goal.returns-then-not-take_up-clause-emptied
returns-then-not-take_up-clause-emptied g c =
    let table = (g.L.Table.labels c.args.table.now) in
    let inv = c.loop-next.invariant in
    let crowded = c.take_up.ensures.crowded (λ yes. absurd (false≢true (sym c.if-not-take_up.true ∙ yes))) in
    record {
      rest = λ node waits. elim (inv.rest node waits) [
        | inl (inl before) ↦ inl (inl before)
        | inl (inr pending) ↦ inl (inr (rw crowded.2 pending))
        | inr (inl is_next) ↦ (
            let same : c.in-Some.entry ≡ (bound_of table node, node) = cc in
            inr (inl (ap (λ (e : ℕ × ℕ). Some e.1) same)))
        | inr (inr late) ↦ inr (inr late)
      ];
      had = rw crowded.2 inv.had;
      fewer = inv.fewer;
      nodes = inv.nodes;
      walks = inv.walks;
    }

pub take_up-requires : goal.take_up-requires
take_up-requires g c = record {
  is_node = subst (λ next. IfSome next (λ entry. IsNode c.args.network.now.nodes entry.1)) c.in-Some.is c.loop-next.invariant.is_node;
  in_time = c.requires.can.in_time;
  classed = c.requires.can.classed;
  places = c.requires.can.places;
}

pub returns-then-not-take_up-clause-crowded : goal.returns-then-not-take_up-clause-crowded
returns-then-not-take_up-clause-crowded g c =
    let crowded = c.take_up.ensures.crowded (λ yes. absurd (false≢true (sym c.if-not-take_up.true ∙ yes))) in
    (subst (λ next. IfSome next (λ entry. IsNode c.args.network.now.nodes entry.1)) c.in-Some.is c.loop-next.invariant.is_node, subst (λ time. time ≤ c.args.last) crowded.0 crowded.1)

pub returns-clause-emptied : goal.returns-clause-emptied
returns-clause-emptied g c =
    let inv = c.loop-next.invariant in
    record {
      rest = λ node waits. elim (inv.rest node waits) [
        | inl here ↦ inl here
        | inr (inl is_next) ↦ absurd (none-some _ (sym c.in_default.is ∙ is_next))
        | inr (inr late) ↦ inr (inr late)
      ];
      had = inv.had;
      fewer = inv.fewer;
      nodes = inv.nodes;
      walks = inv.walks;
    }
