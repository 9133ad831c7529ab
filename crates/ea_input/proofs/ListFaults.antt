-- Texts of items, line by line, by their checks.
use Rattle.std.proofs.Common.{◌≡◌, inl, inr, ℕ, ◌+◌, Bool, true, false, cond, refl, ap, sym, ◌∙◌, ◌&&◌, ◌||◌, subst, List, [], ◌∷◌, ◌++◌, map, length, length-append, leb, ltb, arith, tests, lit<}
use Rattle.std.specs.Prelude.{Option, Some, None, Result, Ok, Err, codes, not, ◌==◌, find, count_by}
use Rattle.std.specs.Option.{option_map}
use Rattle.std.specs.List.{list_all}
use Rattle.std.specs.Str.{bytes_eq}
use Rattle.std.proofs.lemmas.Bool.{false≢true}
use Rattle.ea_bytes.specs.Text.{is_comment, is_silent}
use Rattle.ea_blocks.specs.Fault.{◌>>=◌}
use Rattle.ea_input.specs.Listing.{IsCountLine, IsItemLine, after_kinds, only_number, announced, problem_line, item_line, list_line, list_step, list_end, Listed, nothing_listed, with_line}
use Rattle.ea_input.specs.Checks.{Line, Format, Before, before_of, begins_with, run_of_lines, is_number, lies_in, line_fault, end_fault, first_failing}
use Rattle.ea_input.specs.StepLines.{Run, no_run}
use Rattle.ea_input.specs.Formats.{list_format, list_count}
use Rattle.ea_input.proofs.Numbered.{bind_ok}
use Rattle.ea_input.proofs.Said.{same_word, is_word}
use Rattle.ea_blocks.proofs.Cuts.{two_ways}
use Rattle.ea_input.proofs.Items.{Sort, Says, line_says}
use Rattle.ea_input.proofs.Faults.{Matches, Follows}
use Rattle.ea_input.proofs.Forms.{one_form}
use Rattle.ea_input.proofs.Matching.{bind_matches, count_matches, numbers_match, few_matches, found_before, found_now, counted_before, counted_now, silent_word, none_mapped, number_is}
use Rattle.ea_blocks.specs.declared.fault.FaultKind.{FaultKind}
use Rattle.ea_blocks.specs.declared.fault.FaultKind.TheVariants.{FieldCount, BadNumber, OutOfRange, TooManyLines, TooFewLines, BadKind}
use Rattle.ea_input.specs.declared.problem_line.ListLine.{ListLine}
use Rattle.ea_input.specs.declared.problem_line.ListLine.TheVariants.{Silent, Problem, Item}

-- The checks of an item's line from the number of its fields on.
abbrev pub item_checks : ℕ → ℕ × ℕ → Line → ℕ → ℕ → List (Bool × FaultKind)
item_checks fields numbers others size count =
    (not (length ([] ∷ others) == 1 + fields), FieldCount) ∷ (not (list_all is_number others), BadNumber) ∷ (not (list_all (λ fits. fits) (map (lies_in numbers.0 numbers.1) others)), OutOfRange) ∷ (leb size count, TooManyLines) ∷ []

-- A sort of lines whose items are this many numbers of a range.
pub record Checked {A : Type 0} (f : Sort A) (fields : ℕ) (numbers : ℕ × ℕ) : Type 0 where
  pub item : (others : Line) (size count : ℕ) → (a : A) × Matches (first_failing (item_checks fields numbers others size count)) (f.item_of f.nodes others >>= λ a. cond (ltb count size) (Ok (Item a)) (Err TooManyLines)) (Item a)

abbrev came : Option Line → (List ℕ → ℕ) → Run → Before
came problem count run = record { problem = problem; count = count; run = run }

abbrev format_of : {A : Type 0} → Sort A → ℕ → ℕ × ℕ → Format
format_of f fields numbers = list_format f.kind f.word fields (f.counts f.nodes) numbers

-- ---- a line

kinds_match : {X Y : Type 0} (a b c : Bool) (F : Result X FaultKind → Result Y FaultKind) → F (Err BadKind) ≡ Err BadKind → (rest : Option FaultKind) (r : Result X FaultKind) (y : Y) → Matches rest (F r) y
    → Matches (cond (not (a && (b && (c && true)))) (Some BadKind) rest) (F (cond a (cond b (cond c r (Err BadKind)) (Err BadKind)) (Err BadKind))) y
kinds_match true true true F strict rest r y h = h
kinds_match true true false F strict rest r y h = strict
kinds_match true false c F strict rest r y h = strict
kinds_match false b c F strict rest r y h = strict

two_kinds_match : {X Y : Type 0} (a b : Bool) (F : Result X FaultKind → Result Y FaultKind) → F (Err BadKind) ≡ Err BadKind → (rest : Option FaultKind) (r : Result X FaultKind) (y : Y) → Matches rest (F r) y
    → Matches (cond (not (a && (b && true))) (Some BadKind) rest) (F (cond a (cond b r (Err BadKind)) (Err BadKind))) y
two_kinds_match true true F strict rest r y h = h
two_kinds_match true false F strict rest r y h = strict
two_kinds_match false b F strict rest r y h = strict

pub one_kind_matches : {X Y : Type 0} (a : Bool) (F : Result X FaultKind → Result Y FaultKind) → F (Err BadKind) ≡ Err BadKind → (rest : Option FaultKind) (r : Result X FaultKind) (y : Y) → Matches rest (F r) y
    → Matches (cond (not (a && true)) (Some BadKind) rest) (F (cond a r (Err BadKind))) y
one_kind_matches true F strict rest r y h = h
one_kind_matches false F strict rest r y h = strict

abbrev size_read : {A : Type 0} → ℕ × ℕ → Result (List (List ℕ)) FaultKind → Result (ListLine A) FaultKind
size_read counts r = (r >>= λ numbers. only_number counts.0 counts.1 numbers) >>= λ size. Ok (Problem size)

problem_matches : {A : Type 0} (f : Sort A) (k : ℕ) (numbers : ℕ × ℕ) (count : List ℕ → ℕ) (run : Run) (n : ℕ) (problem : Option Line) (size : Option ℕ) (fields : Line) → size ≡ option_map list_count problem
    → Matches (line_fault (format_of f k numbers) (came problem count run) (codes "p" ∷ fields)) (list_line f.kind f.word (f.counts f.nodes) (f.item_of f.nodes) size n (codes "p" ∷ fields)) (Problem (list_count (codes "p" ∷ fields)))
unfolding line_fault list_line problem_line announced after_kinds only_number
problem_matches f k numbers count run n (Some old) (Some size) fields e = refl
problem_matches f k numbers count run n (Some old) None fields e = cc
problem_matches f k numbers count run n None (Some size) fields e = cc
problem_matches f k numbers count run n None None [] e = refl
problem_matches f k numbers count run n None None (a ∷ []) e = one_kind_matches (bytes_eq a (codes "aux")) (size_read (f.counts f.nodes)) refl _ (Err FieldCount) _ refl
problem_matches f k numbers count run n None None (a ∷ b ∷ []) e = two_kinds_match (bytes_eq a (codes "aux")) (bytes_eq b (codes "sp")) (size_read (f.counts f.nodes)) refl _ (Err FieldCount) _ refl
problem_matches f k numbers count run n None None (a ∷ b ∷ c ∷ []) e = kinds_match (bytes_eq a (codes "aux")) (bytes_eq b (codes "sp")) (bytes_eq c f.kind) (size_read (f.counts f.nodes)) refl _ (Ok []) _ refl
problem_matches f k numbers count run n None None (a ∷ b ∷ c ∷ x ∷ []) e = kinds_match (bytes_eq a (codes "aux")) (bytes_eq b (codes "sp")) (bytes_eq c f.kind) (size_read (f.counts f.nodes)) refl _ (Ok (x ∷ [])) _ (numbers_match _ _ (only_number (f.counts f.nodes).0 (f.counts f.nodes).1 (x ∷ [])) _ Problem (one_form (f.counts f.nodes).0 (f.counts f.nodes).1 x f.few))
problem_matches f k numbers count run n None None (a ∷ b ∷ c ∷ x ∷ y ∷ rest) e =
    let long : (length (codes "p" ∷ a ∷ b ∷ c ∷ x ∷ y ∷ rest) == 5) ≡ false = grind (arith, tests) in
    kinds_match (bytes_eq a (codes "aux")) (bytes_eq b (codes "sp")) (bytes_eq c f.kind) (size_read (f.counts f.nodes)) refl _ (Ok (x ∷ y ∷ rest)) _ (count_matches _ _ _ long)

item_line_matches : {A : Type 0} (f : Sort A) (k : ℕ) (numbers : ℕ × ℕ) (checked : Checked f k numbers) (count : List ℕ → ℕ) (run : Run) (problem : Option Line) (size : Option ℕ) (fields : Line) → size ≡ option_map list_count problem
    → (a : A) × Matches (line_fault (format_of f k numbers) (came problem count run) (f.word ∷ fields)) (list_line f.kind f.word (f.counts f.nodes) (f.item_of f.nodes) size (count f.word) (f.word ∷ fields)) (Item a)
unfolding line_fault list_line item_line
item_line_matches f k numbers checked count run None None fields e = ((checked.item fields 0 0).0, rw (f.plain, f.other, is_word f.word f.word refl) refl)
item_line_matches f k numbers checked count run None (Some size) fields e = cc
item_line_matches f k numbers checked count run (Some line) None fields e = cc
item_line_matches f k numbers checked count run (Some line) (Some size) fields e =
    let same : list_count line ≡ size = cc in
    let one = checked.item fields (list_count line) (count f.word) in
    (one.0, rw (f.plain, f.other, is_word f.word f.word refl) (subst (λ (n : ℕ). Matches (first_failing (item_checks k numbers fields (list_count line) (count f.word))) (f.item_of f.nodes fields >>= λ a. cond (ltb (count f.word) n) (Ok (Item a)) (Err TooManyLines)) (Item one.0)) same one.1))

other_matches : {A : Type 0} (f : Sort A) (k : ℕ) (numbers : ℕ × ℕ) (before : Before) (size : Option ℕ) (n : ℕ) (word : List ℕ) (fields : Line) → is_comment word ≡ false → bytes_eq word (codes "p") ≡ false → bytes_eq word f.word ≡ false → Matches (line_fault (format_of f k numbers) before (word ∷ fields)) (list_line f.kind f.word (f.counts f.nodes) (f.item_of f.nodes) size n (word ∷ fields)) Silent
unfolding line_fault list_line
other_matches f k numbers before size n word fields c p a = rw (c, p, a) refl

silent_matches : {A : Type 0} (f : Sort A) (k : ℕ) (numbers : ℕ × ℕ) (before : Before) (size : Option ℕ) (n : ℕ) (line : Line) → is_silent line ≡ true → Matches (line_fault (format_of f k numbers) before line) (list_line f.kind f.word (f.counts f.nodes) (f.item_of f.nodes) size n line) Silent
unfolding line_fault list_line
silent_matches f k numbers before size n [] e = refl
silent_matches f k numbers before size n (word ∷ fields) e = rw e refl

not_word : (word other : List ℕ) → word ≡ codes "p" → bytes_eq other (codes "p") ≡ false → bytes_eq word other ≡ false
not_word word other e apart = elim (two_ways (bytes_eq word other)) [
  | inl same ↦ absurd (false≢true (sym apart ∙ is_word other (codes "p") (sym (same_word word other same) ∙ e)))
  | inr differs ↦ differs
]

-- ---- states

pub record Stands {A : Type 0} (f : Sort A) (read : Listed A) (lines : List Line) : Type 0 where
  pub nodes : read.nodes ≡ f.nodes
  pub size : read.size ≡ option_map list_count (find (begins_with (codes "p")) lines)
  pub count : length read.items ≡ count_by (begins_with f.word) lines

-- ---- reading one more line

problem_facts : {A : Type 0} (f : Sort A) (line : Line) (new : ℕ) → IsCountLine f.kind (f.counts f.nodes) line new → (begins_with (codes "p") line ≡ true) × (begins_with f.word line ≡ false) × (list_count line ≡ new)
problem_facts f [] new is = absurd is
problem_facts f (word ∷ []) new is = absurd is
problem_facts f (word ∷ a ∷ []) new is = absurd is
problem_facts f (word ∷ a ∷ b ∷ []) new is = absurd is
problem_facts f (word ∷ a ∷ b ∷ c ∷ []) new is = absurd is
problem_facts f (word ∷ a ∷ b ∷ c ∷ n ∷ []) new is = (is_word word (codes "p") is.0, not_word word f.word is.0 f.other, number_is (f.counts f.nodes).0 (f.counts f.nodes).1 n new is.4)
problem_facts f (word ∷ a ∷ b ∷ c ∷ n ∷ x ∷ rest) new is = absurd is

item_facts : {A : Type 0} (f : Sort A) (line : Line) (item : A) → IsItemLine f.word f.IsItem line item → (begins_with f.word line ≡ true) × (begins_with (codes "p") line ≡ false)
item_facts f [] item is = absurd is
item_facts f (word ∷ fields) item is = (is_word word f.word is.0, ap (λ (w : List ℕ). bytes_eq w (codes "p")) is.0 ∙ f.other)

stands_after : {A : Type 0} (f : Sort A) (read : Listed A) (lines : List Line) (line : Line) (said : ListLine A) → Stands f read lines → Says f read.size (length read.items) line said → Stands f (with_line read said) (lines ++ line ∷ [])
stands_after f read lines line Silent stands says = record {
  nodes = stands.nodes;
  size = stands.size ∙ ap (option_map list_count) (sym (found_before (begins_with (codes "p")) lines line (silent_word (codes "p") line refl says)));
  count = stands.count ∙ sym (counted_before (begins_with f.word) lines line (silent_word f.word line f.plain says));
}
stands_after f read lines line (Problem new) stands says =
    let facts = problem_facts f line new says.2 in
    let none : find (begins_with (codes "p")) lines ≡ None = none_mapped list_count _ (sym says.1 ∙ stands.size) in
    record {
      nodes = stands.nodes;
      size = ap (λ (s : ℕ). Some s) (sym facts.2) ∙ ap (option_map list_count) (sym (found_now (begins_with (codes "p")) lines line none facts.0));
      count = stands.count ∙ sym (counted_before (begins_with f.word) lines line facts.1);
    }
stands_after f read lines line (Item item) stands says =
    let facts = item_facts f line item says.1.3 in
    record {
      nodes = stands.nodes;
      size = stands.size ∙ ap (option_map list_count) (sym (found_before (begins_with (codes "p")) lines line facts.1));
      count = length-append read.items (item ∷ []) ∙ ap (λ k. k + 1) stands.count ∙ sym (counted_now (begins_with f.word) lines line facts.0);
    }

line_is : {A : Type 0} (f : Sort A) (read : Listed A) (line : Line) → read.nodes ≡ f.nodes → list_line f.kind f.word (f.counts read.nodes) (f.item_of read.nodes) read.size (length read.items) line ≡ list_line f.kind f.word (f.counts f.nodes) (f.item_of f.nodes) read.size (length read.items) line
line_is f read line e = ap (λ n. list_line f.kind f.word (f.counts n) (f.item_of n) read.size (length read.items) line) e

pub goes_on : {A : Type 0} (f : Sort A) (read next : Listed A) (lines : List Line) (line : Line) → Stands f read lines → list_step f.kind f.word f.counts f.item_of read line ≡ Ok next → Stands f next (lines ++ line ∷ [])
unfolding list_step
goes_on {A = A} f read next lines line stands e =
    let said = bind_ok (list_line f.kind f.word (f.counts read.nodes) (f.item_of read.nodes) read.size (length read.items) line) (λ s. Ok (with_line read s)) next e in
    let same : with_line read said.0 ≡ next = cc (said.2) in
    subst (λ (r : Listed A). Stands f r (lines ++ line ∷ [])) same (stands_after f read lines line said.0 stands (line_says f read.size (length read.items) line said.0 (sym (line_is f read line stands.nodes) ∙ said.1)))

abbrev Reads : {A : Type 0} → Sort A → ℕ → ℕ × ℕ → Listed A → List Line → Line → Type 0
Reads {A = A} f k numbers read lines line = (next : Listed A) × Matches (line_fault (format_of f k numbers) (before_of lines) line) (list_step f.kind f.word f.counts f.item_of read line) next

said_reads : {A : Type 0} (f : Sort A) (k : ℕ) (numbers : ℕ × ℕ) (read : Listed A) (lines : List Line) (line : Line) (said : ListLine A) → read.nodes ≡ f.nodes → Matches (line_fault (format_of f k numbers) (before_of lines) line) (list_line f.kind f.word (f.counts f.nodes) (f.item_of f.nodes) read.size (length read.items) line) said → Reads f k numbers read lines line
unfolding list_step
said_reads {A = A} f k numbers read lines line said e h = (
  with_line read said,
  bind_matches _ (list_line f.kind f.word (f.counts read.nodes) (f.item_of read.nodes) read.size (length read.items) line) said (with_line read)
      (subst (λ r. Matches (line_fault (format_of f k numbers) (before_of lines) line) r said) (sym (line_is f read line e)) h),
)

problem_reads : {A : Type 0} (f : Sort A) (k : ℕ) (numbers : ℕ × ℕ) (read : Listed A) (lines : List Line) (word : List ℕ) (fields : Line) → Stands f read lines → word ≡ codes "p" → Reads f k numbers read lines (word ∷ fields)
problem_reads f k numbers read lines word fields stands e =
    subst (λ (w : List ℕ). Reads f k numbers read lines (w ∷ fields)) (sym e) (said_reads f k numbers read lines (codes "p" ∷ fields) (Problem (list_count (codes "p" ∷ fields))) stands.nodes (problem_matches f k numbers (λ w. count_by (begins_with w) lines) (run_of_lines no_run lines) (length read.items) (find (begins_with (codes "p")) lines) read.size fields stands.size))

item_reads : {A : Type 0} (f : Sort A) (k : ℕ) (numbers : ℕ × ℕ) (checked : Checked f k numbers) (read : Listed A) (lines : List Line) (word : List ℕ) (fields : Line) → Stands f read lines → word ≡ f.word → Reads f k numbers read lines (word ∷ fields)
item_reads f k numbers checked read lines word fields stands e =
    let matched = item_line_matches f k numbers checked (λ w. count_by (begins_with w) lines) (run_of_lines no_run lines) (find (begins_with (codes "p")) lines) read.size fields stands.size in
    subst (λ (w : List ℕ). Reads f k numbers read lines (w ∷ fields)) (sym e) (said_reads f k numbers read lines (f.word ∷ fields) (Item matched.0) stands.nodes
    (subst (λ (n : ℕ). Matches (line_fault (format_of f k numbers) (before_of lines) (f.word ∷ fields)) (list_line f.kind f.word (f.counts f.nodes) (f.item_of f.nodes) read.size n (f.word ∷ fields)) (Item matched.0)) (sym stands.count) matched.1))

pub reads : {A : Type 0} (f : Sort A) (k : ℕ) (numbers : ℕ × ℕ) (checked : Checked f k numbers) (read : Listed A) (lines : List Line) (line : Line) → Stands f read lines → Reads f k numbers read lines line
reads f k numbers checked read lines [] stands = said_reads f k numbers read lines [] Silent stands.nodes (silent_matches f k numbers (before_of lines) read.size (length read.items) [] refl)
reads f k numbers checked read lines (word ∷ fields) stands = elim (two_ways (is_comment word)) [
  | inl comment ↦ said_reads f k numbers read lines (word ∷ fields) Silent stands.nodes (silent_matches f k numbers (before_of lines) read.size (length read.items) (word ∷ fields) comment)
  | inr plain ↦ elim (two_ways (bytes_eq word (codes "p"))) [
    | inl p ↦ problem_reads f k numbers read lines word fields stands (same_word word (codes "p") p)
    | inr no_p ↦ elim (two_ways (bytes_eq word f.word)) [
      | inl a ↦ item_reads f k numbers checked read lines word fields stands (same_word word f.word a)
      | inr no_a ↦ said_reads f k numbers read lines (word ∷ fields) Silent stands.nodes (other_matches f k numbers (before_of lines) read.size (length read.items) word fields plain no_p no_a)
    ]
  ]
]

-- ---- the end

end_matches : {A : Type 0} (f : Sort A) (k : ℕ) (numbers : ℕ × ℕ) (problem : Option Line) (count : List ℕ → ℕ) (run : Run) (nodes : ℕ) (size : Option ℕ) (items : List A) → size ≡ option_map list_count problem → length items ≡ count f.word
    → (all : List A) × Matches (end_fault (format_of f k numbers) (came problem count run)) (list_end (record { nodes = nodes; size = size; items = items })) all
unfolding list_end end_fault
end_matches f k numbers None count run nodes None items e h = ([], refl)
end_matches f k numbers None count run nodes (Some size) items e h = cc
end_matches f k numbers (Some line) count run nodes None items e h = cc
end_matches f k numbers (Some line) count run nodes (Some size) items e h =
    let same : size ≡ list_count line = cc in (
      items,
      subst (λ (s : ℕ). Matches (cond (ltb (count f.word) s || false) (Some TooFewLines) None) (cond (ltb (length items) size) (Err TooFewLines) (Ok items)) items) same
          (subst (λ (n : ℕ). Matches (cond (ltb n size || false) (Some TooFewLines) None) (cond (ltb (length items) size) (Err TooFewLines) (Ok items)) items) h (few_matches (ltb (length items) size) items)),
    )

-- Reading a list follows its checks.
pub list_follows : {A : Type 0} (f : Sort A) (k : ℕ) (numbers : ℕ × ℕ) → Checked f k numbers → Follows (format_of f k numbers) (list_step f.kind f.word f.counts f.item_of) list_end (nothing_listed {A = A} f.nodes)
list_follows f k numbers checked = record {
  Stands = Stands f;
  starts = record { nodes = refl; size = refl; count = refl };
  reads = reads f k numbers checked;
  goes_on = goes_on f;
  ends = λ read lines stands. end_matches f k numbers (find (begins_with (codes "p")) lines) (λ w. count_by (begins_with w) lines) (run_of_lines no_run lines) read.nodes read.size read.items stands.size stands.count;
}
