-- One more worker's seats are joined, and the nodes of its hand wait.
use Rattle.std.proofs.Common.{◌≡◌, ℕ, List, ◌++◌, inl, inr}
use Rattle.std.specs.Prelude.{Contains, IfSome}
use Rattle.std.specs.Option.{option_to_list}
use Rattle.std.proofs.lemmas.List.Elements.{Contains-append_cases, Contains-append_left, Contains-append_right}
use Rattle.ea_labels.specs.declared.record.SeatRecord.{SeatRecord}
use Rattle.ea_labels.specs.Core.{joined}
use Rattle.ea_pool.specs.declared.shared.account.Account.{Account}
use Rattle.ea_pool.specs.declared.heap.entry.Entry.{Entry}
use Rattle.ea_engine.specs.Problems.{Problem}
use Rattle.ea_engine.specs.declared.worker.turn.Hand.{Hand}
use Rattle.ea_engine.specs.Closed.{IsClosedAccount}
use Rattle.ea_engine.specs.Gathered.{IsGathered}
use Rattle.ea_engine.proofs.AccountLemmas.{closed_joined}
use Rattle.ea_engine.specs.Worked.{back_of}
use Rattle.ea_engine.proofs.Settling.{of_option}

-- The nodes of a hand wait beside those that waited.
pub waits_hand : (back refused : List Entry) (hand : Hand) (before after : List ℕ)
    → ((entry : Entry) → Contains (back ++ refused) entry → Contains before entry.node)
    → ((node : ℕ) → Contains before node → Contains after node)
    → IfSome hand.popped (λ e. Contains after e.node)
    → ((e : Entry) → Contains hand.taken.items e → Contains after e.node) → ((e : Entry) → Contains hand.fresh.items e → Contains after e.node)
    → (entry : Entry) → Contains ((back ++ back_of hand) ++ (refused ++ hand.fresh.items)) entry → Contains after entry.node
waits_hand back refused hand before after waits kept popped taken fresh entry inside =
    let on = option_to_list hand.popped in
    let held = hand.taken.items in
    let off = hand.fresh.items in
    elim (Contains-append_cases (back ++ (on ++ held)) (refused ++ off) entry inside) [
      | inl front ↦ elim (Contains-append_cases back (on ++ held) entry front) [
        | inl old ↦ kept entry.node (waits entry (Contains-append_left back refused entry old))
        | inr now ↦ elim (Contains-append_cases on held entry now) [
          | inl one ↦ of_option hand.popped _ popped entry one
          | inr other ↦ taken entry other
        ]
      ]
      | inr end ↦ elim (Contains-append_cases refused off entry end) [
        | inl old ↦ kept entry.node (waits entry (Contains-append_right back refused entry old))
        | inr now ↦ fresh entry now
      ]
    ]

module _ (problem : Problem) where
  pub gathered_joined : (r s both : SeatRecord) (a b sum : Account) (hand : Hand) (before after : List ℕ)
      → both ≡ joined r s → sum.pushed ≡ a.pushed ++ b.pushed → sum.popped ≡ a.popped ++ b.popped
      → IsGathered problem r a before
      → IsClosedAccount problem s b (back_of hand) hand.fresh.items
      → ((node : ℕ) → Contains before node → Contains after node)
      → IfSome hand.popped (λ e. Contains after e.node)
      → ((e : Entry) → Contains hand.taken.items e → Contains after e.node) → ((e : Entry) → Contains hand.fresh.items e → Contains after e.node)
      → IsGathered problem both sum after
  gathered_joined r s both a b sum hand before after e pushed popped h k kept on held off = record {
    back = h.back ++ back_of hand;
    refused = h.refused ++ hand.fresh.items;
    closed = closed_joined problem r s both a b sum h.back (back_of hand) h.refused hand.fresh.items e pushed popped h.closed k;
    waits = waits_hand h.back h.refused hand before after h.waits kept on held off;
  }
