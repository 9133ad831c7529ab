use Rattle.std.proofs.Common.{◌≡◌, ◌+◌, ◌<◌, ◌≤◌, [], ◌∷◌, ◌++◌, ◌∙◌, length, length-append, arith, subst, sym, inl, inr}
use Rattle.std.specs.Prelude.{Contains}
use Rattle.std.proofs.lemmas.List.Elements.{Contains-append_cases, Contains-append_left, Contains-append_right}
use Rattle.ea_labels.specs.Core.{IsLawful}
use Rattle.ea_pool.specs.declared.heap.entry.Entry.{Entry}
use Rattle.ea_engine.specs.Opened.{AreJoinedAndClosed}
use Rattle.ea_engine.specs.Openings.{OpensUpTo}
use Rattle.ea_engine.proofs.GroundLemmas.{node_of}
use Rattle.ea_engine.proofs.Nothing.{may_finish}
use Rattle.ea_engine.proofs.Settling.{left_known}
use Rattle.ea_engine.proofs.Multisets.{same_length}
use Rattle.ea_engine.proofs.run.closing.settle.Goals as goal
use Rattle.ea_engine.proofs.run.closing.settle.Goals.{After-close-closed}

over : (g : _) (c : After-close-closed g) → AreJoinedAndClosed g.K.Known.is_known g.K.Posed.problem c.close-table.result.items c.args.seats.label_seat.history c.args.seats.pool_seat.account c.close-closed.result
    c.requires.joined.account.gathered.back c.requires.joined.account.gathered.refused
over g c = record {
  labels = subst (λ n. IsLawful g.K.Known.is_known n c.close-table.result.items (c.args.seats.label_seat.history ∷ [])) c.requires.posed.nodes_are c.close-table.ensures.lawful;
  entries = c.close-closed.ensures.left_is;
  closed = c.requires.joined.account.gathered.closed;
}

-- what was pushed was popped or is left
left_count : (g : _) (c : After-close-closed g) → length c.args.seats.pool_seat.account.pushed ≡ length c.args.seats.pool_seat.account.popped + length c.close-closed.result
left_count g c =
    omega (arith, same_length c.args.seats.pool_seat.account.pushed (c.args.seats.pool_seat.account.popped ++ c.close-closed.result) c.close-closed.ensures.left_is, length-append c.args.seats.pool_seat.account.popped c.close-closed.result)

in_range : (g : _) (c : After-close-closed g) (e : Entry) → g.K.Known.is_known e.node e.key → (0 < e.node) × (e.node ≤ c.args.labels.nodes)
in_range g c e known =
    let is = node_of g.K.Known.is_known g.K.Posed.problem c.requires.posed.posed e.node e.key known in
    (is.from_one, omega (arith, is.to_last, c.requires.posed.nodes_are))

pub close-table-requires-clause-same_table : goal.close-table-requires-clause-same_table
close-table-requires-clause-same_table g c κs outlives = c.requires.joined.account.fit.labels

pub close-table-requires-clause-all_shares : goal.close-table-requires-clause-all_shares
close-table-requires-clause-all_shares g c κs outlives = c.requires.joined.shares.labels

pub close-closed-requires-clause-seat : goal.close-closed-requires-clause-seat
close-closed-requires-clause-seat g c κs outlives = c.requires.joined.account.fit.pool

pub close-closed-requires-clause-all : goal.close-closed-requires-clause-all
close-closed-requires-clause-all g c κs outlives = c.requires.joined.shares.pool

pub drain-drained-requires-clause-nodes : goal.drain-drained-requires-clause-nodes
drain-drained-requires-clause-nodes g c =
    let d = (goal.at.drain-drained-requires-clause-nodes g c).After-close-closed in
    λ e inside.
    let is = in_range g d e (left_known _ _ _ _ _ _ _ _ (over g d) e inside) in
    record { from_one = is.0; to_last = omega (arith, is.1, c.requires.joined.account.nodes_are) }

pub drain-drained-requires-clause-few : goal.drain-drained-requires-clause-few
drain-drained-requires-clause-few g c =
    let d = (goal.at.drain-drained-requires-clause-few g c).After-close-closed in
    omega (arith, left_count g d, c.requires.joined.few)

pub returns : goal.returns
returns g c =
    let d = (goal.at.returns g c).After-close-closed in
    let h = c.requires.joined.account.gathered in
    let left = c.close-closed.result in
    let drains = c.drain-drained.ensures.drained in
    let old : (e : Entry) → Contains (h.back ++ h.refused) e → Contains c.drain-drained.new.todo.waiting e.node = λ e i. drains.opens.kept e.node (h.waits e i) in
    record {
      underway = may_finish _ _ _ _ _ _ _ _ (over g d) (λ node time knows. (c.requires.posed.posed.names node time).0 knows) c.requires.joined.offered _
          (λ e inside. elim (Contains-append_cases (left ++ h.back) h.refused e inside) [
            | inl front ↦ elim (Contains-append_cases left h.back e front) [
              | inl stays ↦ drains.waits e stays
              | inr back ↦ old e (Contains-append_left h.back h.refused e back)
            ]
            | inr refused ↦ old e (Contains-append_right h.back h.refused e refused)
          ]);
      nodes_are = drains.opens.nodes_are ∙ c.requires.joined.account.nodes_are ∙ c.requires.posed.nodes_are;
      drained = omega (arith, left_count g d, c.drain-drained.ensures.counted);
      opens = subst (λ n. OpensUpTo n c.args.todo c.drain-drained.new.todo) (sym c.drain-drained.ensures.counted) drains.opens;
    }
