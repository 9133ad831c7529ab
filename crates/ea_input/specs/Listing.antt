-- Texts of a problem line with a number, and that many other lines of one sort.
use Rattle.std.specs.Prelude.{◌≡◌, ℕ, List, [], ◌∷◌, ◌++◌, length, codes, nat_lt, if◌then◌else◌, Option, Some, None, Result, Ok, Err}
use Rattle.std.specs.Str.{bytes_eq}
use Rattle.std.specs.Option.{ok_or}
use Rattle.ea_base.specs.declared.limits.TheConstants.{MOST_STARTS}
use Rattle.ea_bytes.specs.Text.{is_comment, speaking}
use Rattle.ea_blocks.specs.Fault.{◌>>=◌, numeral, within}
use Rattle.ea_input.specs.Range.{IsNumberIn}
use Rattle.ea_blocks.specs.declared.fault.FaultKind.{FaultKind}
use Rattle.ea_blocks.specs.declared.fault.FaultKind.TheVariants.{NoProblemLine, SecondProblemLine, UnknownLine, FieldCount, TooManyLines, TooFewLines, BadKind}
use Rattle.ea_input.specs.declared.problem_line.ListLine.{ListLine}
use Rattle.ea_input.specs.declared.problem_line.ListLine.TheVariants.{Silent, Problem, Item}

-- WHAT A TEXT DENOTES

-- How many lines may be announced, from the first number to the second: any number up to the limit, or
-- exactly this one.
abbrev pub any_count : ℕ → ℕ × ℕ
any_count _ = (0, MOST_STARTS)

abbrev pub this_count : ℕ → ℕ × ℕ
this_count count = (count, count)

-- A line `p aux sp KIND N` that announces this many lines.
abbrev pub IsCountLine : List ℕ → ℕ × ℕ → List (List ℕ) → ℕ → Type 0
IsCountLine kind counts (word ∷ aux ∷ sp ∷ third ∷ n ∷ []) count =
    (word ≡ codes "p") × (aux ≡ codes "aux") × (sp ≡ codes "sp") × (third ≡ kind) × IsNumberIn counts.0 counts.1 n count
IsCountLine kind counts _ count = ⊥

-- A line of this word, whose other fields are those of an item.
abbrev pub IsItemLine : {A : Type 0} → List ℕ → (List (List ℕ) → A → Type 0) → List (List ℕ) → A → Type 0
IsItemLine word IsItem [] item = ⊥
IsItemLine word IsItem (first ∷ fields) item = (first ≡ word) × IsItem fields item

-- Lines of items, one for each item and in their order.
abbrev pub AreItemLines : {A : Type 0} → List ℕ → (List (List ℕ) → A → Type 0) → List (List (List ℕ)) → List A → Type 0
AreItemLines word IsItem [] [] = Unit {0}
AreItemLines word IsItem [] (item ∷ items) = ⊥
AreItemLines word IsItem (line ∷ lines) [] = ⊥
AreItemLines word IsItem (line ∷ lines) (item ∷ items) = IsItemLine word IsItem line item × AreItemLines word IsItem lines items

-- Lines denote items: but for those that say nothing they are one problem line and then the items' lines.
pub record DenotesItems {A : Type 0} (kind word : List ℕ) (counts : ℕ × ℕ) (IsItem : List (List ℕ) → A → Type 0) (lines : List (List (List ℕ))) (items : List A) : Type 0 where
  pub problem : List (List ℕ)
  pub others : List (List (List ℕ))
  pub speaks : speaking lines ≡ problem ∷ others
  pub announces : IsCountLine kind counts problem (length items)
  pub lists : AreItemLines word IsItem others items

-- HOW A READER GOES, STEP BY STEP (no public clause names it: what a text denotes is above, and its fault is `IsFaultOf` in Checks)

-- The fields after the words between `p` and the numbers.
unfoldable pub after_kinds : List (List ℕ) → List (List ℕ) → Result (List (List ℕ)) FaultKind
after_kinds [] fields = Ok fields
after_kinds (kind ∷ kinds) [] = Err FieldCount
after_kinds (kind ∷ kinds) (field ∷ fields) = if bytes_eq field kind then after_kinds kinds fields else Err BadKind

-- The one number of a line, in its range.
unfoldable pub only_number : ℕ → ℕ → List (List ℕ) → Result ℕ FaultKind
only_number low high (field ∷ []) = numeral field >>= λ n. within low high n
only_number low high _ = Err FieldCount

-- The number of lines that the fields behind `p` announce.
unfoldable pub announced : List ℕ → ℕ × ℕ → List (List ℕ) → Result ℕ FaultKind
announced kind counts fields = after_kinds (codes "aux" ∷ codes "sp" ∷ kind ∷ []) fields >>= λ numbers. only_number counts.0 counts.1 numbers

-- The fields behind `p`, if no problem line came before.
unfoldable pub problem_line : {A : Type 0} → List ℕ → ℕ × ℕ → Option ℕ → List (List ℕ) → Result (ListLine A) FaultKind
problem_line kind counts (Some size) fields = Err SecondProblemLine
problem_line kind counts None fields = announced kind counts fields >>= λ size. Ok (Problem size)

-- The fields behind an item's word, after this many items.
unfoldable pub item_line : {A : Type 0} → (List (List ℕ) → Result A FaultKind) → Option ℕ → ℕ → List (List ℕ) → Result (ListLine A) FaultKind
item_line item_of None count fields = Err NoProblemLine
item_line item_of (Some size) count fields = item_of fields >>= λ item. if nat_lt count size then Ok (Item item) else Err TooManyLines

-- What a line says after a problem line or none, and this many items; or its first fault.
unfoldable pub list_line : {A : Type 0} → List ℕ → List ℕ → ℕ × ℕ → (List (List ℕ) → Result A FaultKind) → Option ℕ → ℕ → List (List ℕ) → Result (ListLine A) FaultKind
list_line kind word counts item_of size count [] = Ok Silent
list_line kind word counts item_of size count (first ∷ fields) =
    if is_comment first then Ok Silent else
    (if bytes_eq first (codes "p") then problem_line kind counts size fields else
    (if bytes_eq first word then item_line item_of size count fields else Err UnknownLine))

-- What the lines so far say; items are of a range up to `nodes`.
pub record Listed (A : Type 0) : Type 0 where
  pub nodes : ℕ
  pub size : Option ℕ
  pub items : List A

abbrev pub nothing_listed : {A : Type 0} → ℕ → Listed A
nothing_listed nodes = record { nodes = nodes; size = None; items = [] }

abbrev pub with_line : {A : Type 0} → Listed A → ListLine A → Listed A
with_line read Silent = read
with_line read (Problem size) = record read { size = Some size }
with_line read (Item item) = record read { items = read.items ++ item ∷ [] }

unfoldable pub list_step : {A : Type 0} → List ℕ → List ℕ → (ℕ → ℕ × ℕ) → (ℕ → List (List ℕ) → Result A FaultKind) → Listed A → List (List ℕ) → Result (Listed A) FaultKind
list_step kind word counts item_of read fields = list_line kind word (counts read.nodes) (item_of read.nodes) read.size (length read.items) fields >>= λ said. Ok (with_line read said)

-- The items at the end of the text.
unfoldable pub list_end : {A : Type 0} → Listed A → Result (List A) FaultKind
list_end read = ok_or read.size NoProblemLine >>= λ size. if nat_lt (length read.items) size then Err TooFewLines else Ok read.items
