-- What a worker leaves is known.
use Rattle.std.proofs.Common.{◌≡◌, ◌+◌, ◌≤◌, ◌∙◌, length, ℕ, zero, suc, List, [], ◌∷◌, ◌++◌, map, refl, sym, ap, arith, subst, Option, Some, None}
use Rattle.std.specs.Prelude.{Contains, All, IfSome}
use Rattle.std.specs.Option.{option_to_list}
use Rattle.std.proofs.lemmas.List.Elements.{All-head, All-tail, Contains-append_left, Contains-append_right}
use Rattle.ea_labels.specs.declared.record.Lowering.{Lowering}
use Rattle.ea_labels.specs.declared.record.SeatRecord.{SeatRecord}
use Rattle.ea_labels.specs.Core.{IsLawfulLowering, IsLawfulSeat, first_record}
use Rattle.ea_pool.specs.declared.heap.entry.Entry.{Entry}
use Rattle.ea_pool.specs.declared.shared.account.Account.{Account}
use Rattle.ea_engine.specs.Problems.{Problem}
use Rattle.ea_engine.specs.Closed.{entry_of}
use Rattle.ea_engine.specs.Opened.{AreJoinedAndClosed}
use Rattle.ea_engine.specs.Gathered.{IsGathered}
use Rattle.ea_engine.specs.declared.worker.means.Seats.{Seats}
use Rattle.ea_engine.specs.Seeds.{HasPushed}
use Rattle.ea_engine.proofs.Multisets.{Contains-same}

module _ (known : ℕ → ℕ → Type 0) (problem : Problem)
    (table : List ℕ) (history : SeatRecord) (account : Account) (left back refused : List Entry)
    (over : AreJoinedAndClosed known problem table history account left back refused) where
  go : (ls : List Lowering) → All (IsLawfulLowering known problem.network.nodes table (history ∷ [])) ls → (e : Entry) → Contains (map entry_of ls) e → known e.node e.key
  go [] all e h = absurd (omega (arith, h.1))
  go (l ∷ ls) all e (zero, lt, at) = subst (λ (x : Entry). known x.node x.key) at (All-head (IsLawfulLowering known problem.network.nodes table (history ∷ [])) l ls all).is_known
  go (l ∷ ls) all e (suc i, lt, at) = go ls (All-tail (IsLawfulLowering known problem.network.nodes table (history ∷ [])) l ls all) e (i, omega (arith, lt), at)

  own_known : (e : Entry) → Contains (account.pushed ++ refused) e → known e.node e.key
  own_known e h = go history.lowerings (All-head (IsLawfulSeat known problem.network.nodes table (history ∷ [])) history [] over.labels.each_seat).lowerings e
      (Contains-same (account.pushed ++ refused) (map entry_of history.lowerings) e (λ f. sym (over.closed.own f)) h)

  pub refused_known : (e : Entry) → Contains refused e → known e.node e.key
  refused_known e h = own_known e (Contains-append_right account.pushed refused e h)

  through_known : (e : Entry) → Contains (account.popped ++ left) e → known e.node e.key
  through_known e h = own_known e (Contains-append_left account.pushed refused e (Contains-same (account.popped ++ left) account.pushed e (λ f. sym (over.entries f)) h))

  pub popped_known : (e : Entry) → Contains account.popped e → known e.node e.key
  popped_known e h = through_known e (Contains-append_left account.popped left e h)

  pub left_known : (e : Entry) → Contains left e → known e.node e.key
  left_known e h = through_known e (Contains-append_right account.popped left e h)

pub in_option : (o : Option Entry) (e : Entry) → o ≡ Some e → Contains (option_to_list o) e
in_option o e at = rw at (0, omega arith, refl)

pub each_of_option : (o : Option Entry) (P : Entry → Type 0) → ((e : Entry) → Contains (option_to_list o) e → P e) → IfSome o P
each_of_option None P h = tt
each_of_option (Some e) P h = h e (0, omega arith, refl)

pub of_option : (o : Option Entry) (P : Entry → Type 0) → IfSome o P → (e : Entry) → Contains (option_to_list o) e → P e
of_option None P h e inside = absurd (omega (arith, inside.1))
of_option (Some x) P h e inside = let z : inside.0 ≡ 0 = omega (arith, inside.1) in subst P (rw z at inside.2) h

-- two seats of new tables
pub gathered_start : (problem : Problem) (history : SeatRecord) (account : Account) (waiting : List ℕ)
    → history ≡ first_record → account.pushed ≡ [] → account.popped ≡ [] → IsGathered problem history account waiting
gathered_start problem history account waiting e pushed popped = record {
  back = [];
  refused = [];
  closed = record {
    own = λ f. rw (ap (λ (x : SeatRecord). x.lowerings) e, pushed) refl;
    closed = λ entry inside. absurd (omega (arith, (rw popped at inside).1));
  };
  waits = λ entry inside. absurd (omega (arith, inside.1));
}

-- an option is a list of at most one
pub option_short : (o : Option Entry) → length (option_to_list o) ≤ 1
option_short None = omega arith
option_short (Some e) = omega arith

-- shares were given away
pub gathered_same : (problem : Problem) (r s : SeatRecord) (a b : Account) (waiting : List ℕ)
    → s.bounds ≡ r.bounds → s.lowerings ≡ r.lowerings → b.pushed ≡ a.pushed → b.popped ≡ a.popped
    → IsGathered problem r a waiting → IsGathered problem s b waiting
gathered_same problem r s a b waiting bounds lowerings pushed popped h = record {
  back = h.back;
  refused = h.refused;
  closed = record {
    own = λ f. rw (lowerings, pushed) (h.closed.own f);
    closed = λ entry inside. rw bounds (h.closed.closed entry (rw popped at inside));
  };
  waits = h.waits;
}

-- what was pushed, and then pushed
pub pushed_then : {K E : Type 0} (a b c : Seats K E) (n m k : ℕ) → HasPushed n a b → HasPushed m b c → k ≡ n + m → HasPushed k a c
pushed_then a b c n m k p q is = record {
  pushed_is = omega (arith, p.pushed_is, q.pushed_is, is);
  popped_is = q.popped_is ∙ p.popped_is;
  label_shares = q.label_shares ∙ p.label_shares;
  pool_shares = q.pool_shares ∙ p.pool_shares;
}
