-- Every run leaves the label table lawful.
use Rattle.std.proofs.Common.{◌≡◌, ℕ, ◌≤◌, Bool, true, false, nat_lt, List, [], ◌∷◌, get_or, replicate, refl, ◌∙◌, inl, arith}
use mathlib.Core.Option.{some}
use lib.ListN.{get_elem?}
use Rattle.std.proofs.lemmas.Bool.Decides.{nat_tests}
use Rattle.std.proofs.lemmas.Grind.{common_steps}
use Rattle.atomic_table.proofs.Lists.{set_else}
use Rattle.std.proofs.lemmas.List.Elements.{All-nil, All-cons}
use Rattle.ea_machine.proofs.Places.{at_weighed}
use Rattle.ea_machine.proofs.Runs as runs
use Rattle.ea_road.specs.declared.TheConstants.{NONE}
use Rattle.ea_labels.specs.declared.record.SeatRecord.{SeatRecord}
use Rattle.ea_road.specs.Labels.{label_of}
use Rattle.ea_labels.specs.Core.{first_record, joined, spent, IsLawfulBound, IsLawfulLowering, IsLawfulSeat, IsLawful}
use Rattle.ea_labels.specs.Events.{Core, Event, load, fetch_min, split, join, opening, record_of, after, MayCome, after_all, MayRun, IsReached}
use Rattle.ea_labels.proofs.Lawful.{load_lawful, lower_lawful, split_lawful, join_lawful}

live_at : (seats : List SeatRecord) (id : ℕ) → 1 ≤ (get_or seats id spent).shares → get_elem? seats id ≡ some (get_or seats id spent)
live_at seats id h = at_weighed (λ (s : SeatRecord). s.shares) seats id spent refl h

module _ (known : ℕ → ℕ → Type 0) (nodes : ℕ) where
  abbrev Lawful : Core → Type 0
  Lawful core = IsLawful known nodes core.words core.seats

  fetch_lawful : (core : Core) (id node time : ℕ) → Lawful core → MayCome known nodes core (fetch_min id node time) → (b : Bool) → nat_lt time (label_of core.words node) ≡ b → Lawful (after core (fetch_min id node time))
  fetch_lawful core id node time h may true e = rw e
      (lower_lawful known nodes core.words core.seats id (record_of core id) node time h (live_at core.seats id may.0) may.0 may.1 may.2 (grind (arith, nat_tests)))
  fetch_lawful core id node time h may false e = rw e
      (load_lawful known nodes core.words core.seats id (record_of core id) node h (live_at core.seats id may.0) may.0 may.1)

  step_lawful : (core : Core) (event : Event) → Lawful core → MayCome known nodes core event → Lawful (after core event)
  step_lawful core (load id node) h may = load_lawful known nodes core.words core.seats id (record_of core id) node h (live_at core.seats id may.0) may.0 may.1
  step_lawful core (fetch_min id node time) h may = fetch_lawful core id node time h may (nat_lt time (label_of core.words node)) refl
  step_lawful core (split id) h may = split_lawful known nodes core.words core.seats id (record_of core id) h (live_at core.seats id (omega arith)) may
  step_lawful core (join id other) h may =
      let both = joined (record_of core id) (record_of core other) in
      join_lawful known nodes core.words core.seats id other (record_of core id) (record_of core other) h (live_at core.seats id may.0) may.0 may.2
      (set_else core.seats id other both may.2 ∙ live_at core.seats other may.1)

  opening_lawful : Lawful (opening nodes)
  opening_lawful = record {
    one_word_per_node = grind (arith, common_steps);
    words_come_from = λ node is. inl (grind (arith, common_steps));
    each_seat = All-cons (IsLawfulSeat known nodes (replicate nodes NONE) (first_record ∷ [])) first_record []
        (record { bounds = All-nil (IsLawfulBound nodes (replicate nodes NONE) (first_record ∷ [])); lowerings = All-nil (IsLawfulLowering known nodes (replicate nodes NONE) (first_record ∷ [])); live_or_spent = inl (omega arith) }) (All-nil (IsLawfulSeat known nodes (replicate nodes NONE) (first_record ∷ [])));
    lowerings_differ = λ n f. omega arith;
    shares_add_up = refl;
  }

  pub every_run : (events : List Event) → MayRun known nodes (opening nodes) events → Lawful (after_all (opening nodes) events)
  every_run events may = runs.kept_by_run after (MayCome known nodes) Lawful step_lawful (opening nodes) events opening_lawful may

  -- the state at the end of a run is lawful
  pub reached_lawful : (core : Core) → IsReached known nodes core → Lawful core
  reached_lawful core h = runs.kept_where_reached after (MayCome known nodes) Lawful step_lawful (opening nodes) core opening_lawful h

  pub opening_reached : IsReached known nodes (opening nodes)
  opening_reached = runs.reached_first after (MayCome known nodes) (opening nodes)

  -- and the run continues with each possible event
  pub reached_next : (core : Core) (event : Event) → IsReached known nodes core → MayCome known nodes core event → IsReached known nodes (after core event)
  reached_next core event h may = runs.reached_next after (MayCome known nodes) (opening nodes) core event h may
