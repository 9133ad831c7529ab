-- The laws of the grammars, and what their readers answer.
use Rattle.std.proofs.Common.{◌≡◌, ◌⊎◌, inl, inr, ℕ, ◌<◌, ◌^◌, refl, subst, cond, ltb, List, [], ◌∷◌, length, arith, tests, lit<}
use Rattle.std.specs.Prelude.{false, ◌==◌, Result, Ok, Err, IfErr, IfOk, MatchResult}
use Rattle.ea_blocks.specs.Fault.{◌>>=◌, Gives, out_of_memory}
use Rattle.ea_blocks.specs.Reading.{text_after}
use Rattle.ea_input.specs.Listing.{only_number, list_end, nothing_listed}
use Rattle.ea_input.specs.Sources.{DenotesSources, source_of, source_step}
use Rattle.ea_base.specs.declared.limits.TheConstants.{HORIZON}
use Rattle.ea_input.specs.Pairs.{DenotesPairs, pair_of, pair_read, pair_step}
use Rattle.ea_input.specs.Times.{DenotesTimes, time_of, time_step}
use Rattle.ea_input.specs.Graph.{Graph, DenotesGraph, graph_of, graph_step, graph_end, no_graph}
use Rattle.ea_input.specs.Table.{Table, DenotesTable, table_step, table_end, no_table}
use Rattle.ea_input.specs.Checks.{Line, Format, value_of, first_failing, IsFaultOf, IsFaultTold}
use Rattle.ea_input.specs.Formats.{graph_format, source_format, pair_format, table_format, time_format}
use Rattle.ea_bytes.specs.Device.{Seen}
use Rattle.ea_bytes.specs.Text.{field_lines}
use Rattle.ea_input.specs.Grammar.{IsGrammar}
use Rattle.ea_blocks.specs.Streams.{DenotesWhole, GivesWhole}
use Rattle.ea_input.specs.StreamFaults.{IsStreamFault}
use Rattle.ea_blocks.specs.declared.stream.StreamFault.{StreamFault}
use Rattle.ea_blocks.specs.declared.stream.StreamFault.TheVariants.{Read, Input}
use Rattle.ea_input.proofs.Denoted as graphs
use Rattle.ea_input.proofs.Items as items
use Rattle.ea_input.proofs.TableDenoted as tables
use Rattle.ea_input.proofs.Sorts.{of_sources, of_pairs, of_times}
use Rattle.ea_input.proofs.Forms.{one_form, pair_form}
use Rattle.ea_input.proofs.Matching.{count_matches, item_matches}
use Rattle.ea_input.proofs.Faults.{Matches, Outcome, Follows, text_outcome, one_fault, sound_text}
use Rattle.ea_input.proofs.GraphFaults.{graph_follows}
use Rattle.ea_input.proofs.ListFaults.{item_checks, list_follows}
use Rattle.ea_input.proofs.TableFaults.{table_follows}
use Rattle.ea_blocks.specs.declared.fault.FaultKind.{FaultKind}
use Rattle.ea_blocks.specs.declared.fault.FaultKind.TheVariants.{TooManyLines}
use Rattle.ea_blocks.specs.declared.fault.InputFault.{InputFault}
use Rattle.ea_input.specs.declared.problem_line.ListLine.TheVariants.{Item}

-- A text's reading, both ways.
pub record Grammar (X : Type 0) : Type 1 where
  pub Denotes : List Line → X → Type 0
  pub format : Format
  pub read : List Line → Result X InputFault
  pub denoted : (lines : List Line) (x : X) → read lines ≡ Ok x → Denotes lines x
  pub taken : (lines : List Line) (x : X) → Denotes lines x → read lines ≡ Ok x
  pub faulty : (lines : List Line) (f : InputFault) → read lines ≡ Err f → IsFaultOf format lines f
  pub sound : (lines : List Line) (x : X) (f : InputFault) → read lines ≡ Ok x → IsFaultOf format lines f → ⊥

pub faulty_text : {S X : Type 0} (format : Format) (step : S → Line → Result S FaultKind) (end : S → Result X FaultKind) (start : S) → Follows format step end start → (lines : List Line) (f : InputFault) → text_after step end start lines ≡ Err f → IsFaultOf format lines f
faulty_text format step end start follows lines f e = subst (λ r. Outcome format lines r) e (text_outcome format step end start follows lines)

pub sound_reading : {S X : Type 0} (format : Format) (step : S → Line → Result S FaultKind) (end : S → Result X FaultKind) (start : S) → Follows format step end start → (lines : List Line) (x : X) (f : InputFault) → text_after step end start lines ≡ Ok x → IsFaultOf format lines f → ⊥
sound_reading format step end start follows lines x f e is = sound_text format lines f (subst (λ r. Outcome format lines r) e (text_outcome format step end start follows lines)) is

same_answer : {X : Type 0} (r : Result X InputFault) (x y : X) → r ≡ Ok x → r ≡ Ok y → x ≡ y
same_answer r x y p q = cc

either : {X : Type 0} (g : Grammar X) (lines : List Line) (r : Result X InputFault) → g.read lines ≡ r → ((x : X) × g.Denotes lines x) ⊎ ((f : InputFault) × IsFaultOf g.format lines f)
either g lines (Ok x) e = inl (x, g.denoted lines x e)
either g lines (Err f) e = inr (f, g.faulty lines f e)

pub grammar_law : {X : Type 0} (g : Grammar X) → IsGrammar g.Denotes g.format
grammar_law g = record {
  one_value = λ lines x y p q. same_answer (g.read lines) x y (g.taken lines x p) (g.taken lines y q);
  one_fault = one_fault g.format;
  some_of_both = λ lines. either g lines (g.read lines) refl;
  not_both = λ lines x f p q. g.sound lines x f (g.taken lines x p) q;
}

-- ---- a reader's answer

pub gives_denoted : {X Y : Type 0} (g : Grammar X) (view : Y → X) (r : Result Y InputFault) (lines : List Line) → Gives view r (g.read lines) → IfOk r (λ y. g.Denotes lines (view y))
gives_denoted g view (Ok y) lines h = g.denoted lines (view y) h
gives_denoted g view (Err fault) lines h = tt

pub gives_only : {X Y : Type 0} (g : Grammar X) (view : Y → X) (r : Result Y InputFault) (lines : List Line) → Gives view r (g.read lines) → (x : X) → g.Denotes lines x → MatchResult r (λ y. view y ≡ x) (λ fault. fault ≡ out_of_memory)
gives_only g view (Ok y) lines h x is = same_answer (g.read lines) (view y) x h (g.taken lines x is)
gives_only g view (Err fault) lines (inl refused) x is = refused
gives_only g view (Err fault) lines (inr said) x is = let e = g.taken lines x is in cc

pub gives_fault : {X Y : Type 0} (g : Grammar X) (view : Y → X) (r : Result Y InputFault) (lines : List Line) → Gives view r (g.read lines) → IfErr r (λ fault. (fault ≡ out_of_memory) ⊎ IsFaultOf g.format lines fault)
gives_fault g view (Ok y) lines h = tt
gives_fault g view (Err fault) lines (inl refused) = inl refused
gives_fault g view (Err fault) lines (inr said) = inr (g.faulty lines fault said)

pub gives_that_fault : {X Y : Type 0} (g : Grammar X) (view : Y → X) (r : Result Y InputFault) (lines : List Line) → Gives view r (g.read lines) → (fault : InputFault) → IsFaultOf g.format lines fault → MatchResult r (λ y. ⊥) (λ found. (found ≡ out_of_memory) ⊎ (found ≡ fault))
gives_that_fault g view (Ok y) lines h fault is = g.sound lines (view y) fault h is
gives_that_fault g view (Err found) lines (inl refused) fault is = inl refused
gives_that_fault g view (Err found) lines (inr said) fault is = inr (one_fault g.format lines found fault (g.faulty lines found said) is)

-- The same of a reader that takes a device's text block by block.
pub whole_denoted : {X Y : Type 0} (g : Grammar X) (view : Y → X) (limit : ℕ) (old new : Seen) (r : Result Y StreamFault) → GivesWhole view g.read limit old new r → IfOk r (λ y. DenotesWhole g.Denotes limit old new (view y))
whole_denoted g view limit old new (Ok y) given = (given.0, given.1, g.denoted (field_lines given.0) (view y) given.2)
whole_denoted g view limit old new (Err fault) given = tt

told : {X : Type 0} (g : Grammar X) (fault : InputFault) (lines : List Line) → (fault ≡ out_of_memory) ⊎ (g.read lines ≡ Err fault) → IsFaultTold g.format lines fault
told g fault lines (inl refused) = inl refused
told g fault lines (inr said) = inr (g.faulty lines fault said)

pub whole_fault : {X Y : Type 0} (g : Grammar X) (view : Y → X) (limit : ℕ) (old new : Seen) (r : Result Y StreamFault) → GivesWhole view g.read limit old new r → IfErr r (IsStreamFault g.format limit old new)
whole_fault g view limit old new (Ok y) given = tt
whole_fault g view limit old new (Err (Read fault)) given = given
whole_fault g view limit old new (Err (Input fault)) given = (given.0, given.1, told g fault (field_lines given.0) given.2)

-- ---- the files

abbrev pub graph_grammar : Grammar Graph
graph_grammar = record {
  Denotes = DenotesGraph;
  format = graph_format;
  read = graph_of;
  denoted = graphs.denoted;
  taken = graphs.read_of_denoted;
  faulty = faulty_text graph_format graph_step graph_end no_graph graph_follows;
  sound = sound_reading graph_format graph_step graph_end no_graph graph_follows;
}

pub source_checked : (nodes : ℕ) (small : nodes < 2 ^ 64) (others : Line) (size count : ℕ) → (a : ℕ) × Matches (first_failing (item_checks 1 (1, nodes) others size count)) (source_of nodes others >>= λ a. cond (ltb count size) (Ok (Item a)) (Err TooManyLines)) (Item a)
unfolding only_number
source_checked nodes small [] size count = (0, refl)
source_checked nodes small (s ∷ []) size count = (value_of s, item_matches _ _ size count (only_number 1 nodes (s ∷ [])) _ Item (one_form 1 nodes s small))
source_checked nodes small (s ∷ x ∷ rest) size count =
    let long : (length ([] ∷ s ∷ x ∷ rest) == 2) ≡ false = grind (arith, tests) in
    (0, count_matches _ _ _ long)

pub pair_checked : (nodes : ℕ) (small : nodes < 2 ^ 64) (others : Line) (size count : ℕ) → (a : ℕ × ℕ) × Matches (first_failing (item_checks 2 (1, nodes) others size count)) (pair_of nodes others >>= λ a. cond (ltb count size) (Ok (Item a)) (Err TooManyLines)) (Item a)
unfolding pair_of
pair_checked nodes small [] size count = ((0, 0), refl)
pair_checked nodes small (s ∷ []) size count = ((0, 0), refl)
pair_checked nodes small (s ∷ t ∷ []) size count = ((value_of s, value_of t), item_matches _ _ size count (pair_read nodes s t) _ Item (pair_form nodes s t small))
pair_checked nodes small (s ∷ t ∷ x ∷ rest) size count =
    let long : (length ([] ∷ s ∷ t ∷ x ∷ rest) == 3) ≡ false = grind (arith, tests) in
    ((0, 0), count_matches _ _ _ long)

abbrev pub source_grammar : (nodes : ℕ) → nodes < 2 ^ 64 → Grammar (List ℕ)
source_grammar nodes small =
    let follows = list_follows (of_sources nodes small) 1 (1, nodes) (record { item = source_checked nodes small }) in
    record {
      Denotes = DenotesSources nodes;
      format = source_format nodes;
      read = text_after source_step list_end (nothing_listed nodes);
      denoted = items.denoted (of_sources nodes small);
      taken = items.read_of_denoted (of_sources nodes small);
      faulty = faulty_text (source_format nodes) source_step list_end (nothing_listed nodes) follows;
      sound = sound_reading (source_format nodes) source_step list_end (nothing_listed nodes) follows;
    }

abbrev pub pair_grammar : (nodes : ℕ) → nodes < 2 ^ 64 → Grammar (List (ℕ × ℕ))
pair_grammar nodes small =
    let follows = list_follows (of_pairs nodes small) 2 (1, nodes) (record { item = pair_checked nodes small }) in
    record {
      Denotes = DenotesPairs nodes;
      format = pair_format nodes;
      read = text_after pair_step list_end (nothing_listed nodes);
      denoted = items.denoted (of_pairs nodes small);
      taken = items.read_of_denoted (of_pairs nodes small);
      faulty = faulty_text (pair_format nodes) pair_step list_end (nothing_listed nodes) follows;
      sound = sound_reading (pair_format nodes) pair_step list_end (nothing_listed nodes) follows;
    }

pub time_checked : (n : ℕ) (others : Line) (size count : ℕ) → (a : ℕ) × Matches (first_failing (item_checks 1 (0, HORIZON) others size count)) (time_of n others >>= λ a. cond (ltb count size) (Ok (Item a)) (Err TooManyLines)) (Item a)
unfolding only_number
time_checked n [] size count = (0, refl)
time_checked n (t ∷ []) size count = (value_of t, item_matches _ _ size count (only_number 0 HORIZON (t ∷ [])) _ Item (one_form 0 HORIZON t (lit< tt)))
time_checked n (t ∷ x ∷ rest) size count =
    let long : (length ([] ∷ t ∷ x ∷ rest) == 2) ≡ false = grind (arith, tests) in
    (0, count_matches _ _ _ long)

abbrev pub time_grammar : (count : ℕ) → count < 2 ^ 64 → Grammar (List ℕ)
time_grammar count small =
    let follows = list_follows (of_times count small) 1 (0, HORIZON) (record { item = time_checked count }) in
    record {
      Denotes = DenotesTimes count;
      format = time_format count;
      read = text_after time_step list_end (nothing_listed count);
      denoted = items.denoted (of_times count small);
      taken = items.read_of_denoted (of_times count small);
      faulty = faulty_text (time_format count) time_step list_end (nothing_listed count) follows;
      sound = sound_reading (time_format count) time_step list_end (nothing_listed count) follows;
    }

abbrev pub table_grammar : (arcs : ℕ) → arcs < 2 ^ 64 → Grammar Table
table_grammar arcs small =
    let follows = table_follows arcs small in
    record {
      Denotes = DenotesTable arcs;
      format = table_format arcs;
      read = text_after table_step table_end (no_table arcs);
      denoted = λ lines t e. tables.denoted arcs lines t small e;
      taken = λ lines t is. tables.read_of_denoted arcs lines t small is;
      faulty = faulty_text (table_format arcs) table_step table_end (no_table arcs) follows;
      sound = sound_reading (table_format arcs) table_step table_end (no_table arcs) follows;
    }
