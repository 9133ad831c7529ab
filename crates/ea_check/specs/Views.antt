-- The lines of a report, as contracts see them.
use Rattle.std.specs.Prelude.{◌≡◌, ◌⊎◌, ℕ, ◌+◌, ◌-◌, ◌≤◌, List, [], ◌∷◌, ◌++◌, length, take, drop, replicate, Option, Some, None}
use Rattle.ea_base.specs.declared.direction.Direction.{Direction}
use Rattle.ea_bytes.specs.Text.{fields_of}
use Rattle.ea_check.specs.declared.form.kept.Kept.{Kept}
use Rattle.ea_check.specs.declared.form.kept.KeptWalk.{KeptWalk}
use Rattle.ea_check.specs.declared.form.kept.SaidLine.{SaidLine}
use Rattle.ea_check.specs.declared.form.kept.WalkLine.{WalkLine}
use Rattle.ea_check.specs.Shared.{arcs_in}
use Rattle.ea_check.specs.Verdicts.{WrittenWalk, Said}

-- The arcs of a walk in the network that was searched.
abbrev pub arcs_said : WalkLine → List ℕ
arcs_said walk = arcs_in walk.way walk.arcs.now

abbrev pub walk_of : Option WalkLine → Option WrittenWalk
walk_of None = None
walk_of (Some walk) = Some (record { line = walk.line; arcs = arcs_said walk })

abbrev pub said_of : SaidLine → Said
said_of said = record { line = said.line; time = said.time; walk = walk_of said.walk }

-- The number of a walk's arcs is right.
abbrev pub HasCount : Option WalkLine → Type 0
HasCount None = Unit {0}
HasCount (Some walk) = walk.count ≡ length (fields_of walk.arcs.now)

-- WHAT IS KEPT

-- The arcs of a walk, given the walk before it and the arcs that are not shared from this walk on.
abbrev pub arcs_kept : KeptWalk → List ℕ → List ℕ → List ℕ
arcs_kept walk last own = take walk.shared last ++ take walk.own own

-- What is said of nodes by the walks that are kept, and by the numbers and times of their lines.
abbrev pub said_from : List ℕ → List ℕ → List (Option KeptWalk) → List ℕ → List ℕ → List Said
said_from last own walks [] times = []
said_from last own walks (line ∷ lines) [] = []
said_from last own [] (line ∷ lines) (time ∷ times) =
    record { line = line; time = time; walk = None } ∷ said_from last own [] lines times
said_from last own (None ∷ walks) (line ∷ lines) (time ∷ times) =
    record { line = line; time = time; walk = None } ∷ said_from last own walks lines times
said_from last own (Some walk ∷ walks) (line ∷ lines) (time ∷ times) =
    record { line = line; time = time; walk = Some (record { line = walk.line; arcs = arcs_kept walk last own }) } ∷ said_from (arcs_kept walk last own) (drop walk.own own) walks lines times

-- The last walk.
abbrev pub last_from : List ℕ → List ℕ → List (Option KeptWalk) → List ℕ
last_from last own [] = last
last_from last own (None ∷ walks) = last_from last own walks
last_from last own (Some walk ∷ walks) = last_from (arcs_kept walk last own) (drop walk.own own) walks

-- How many arcs are not shared.
abbrev pub own_count : List (Option KeptWalk) → ℕ
own_count [] = 0
own_count (None ∷ walks) = own_count walks
own_count (Some walk ∷ walks) = walk.own + own_count walks

abbrev pub said_kept : Kept → List Said
said_kept kept = said_from [] kept.own.items kept.walks.items kept.lines.items kept.table.items

pub record AreKept (kept : Kept) : Type 0 where
  pub times : length kept.table.items ≡ length kept.lines.items
  pub few : length kept.walks.items ≤ length kept.lines.items
  pub own : own_count kept.walks.items ≡ length kept.own.items
  pub last : last_from [] kept.own.items kept.walks.items ≡ arcs_in kept.way kept.text.items

-- This is what is kept.
pub record Keeps (said : List Said) (kept : Kept) : Type 0 where
  pub are : AreKept kept
  pub view : said_kept kept ≡ said

-- The text of the last walk's arcs if its report is of a run in this direction; otherwise an empty text.
abbrev pub IsLastText : Direction → Kept → List ℕ → Type 0
IsLastText way kept text = ((text ≡ kept.text.items) × (way ≡ kept.way)) ⊎ (text ≡ [])

-- The walk of the next node was kept; the node's other line is not kept yet.
pub record KeepsWalk (line : ℕ) (arcs : List ℕ) (old new : Kept) : Type 0 where
  pub lines : new.lines.items ≡ old.lines.items
  pub table : new.table.items ≡ old.table.items
  pub walk : KeptWalk
  pub own : List ℕ
  pub walks : new.walks.items ≡ (old.walks.items ++ replicate (length old.lines.items - length old.walks.items) None) ++ Some walk ∷ []
  pub more : new.own.items ≡ old.own.items ++ own
  pub count : walk.own ≡ length own
  pub number : walk.line ≡ line
  pub shared : take walk.shared (last_from [] old.own.items old.walks.items) ++ own ≡ arcs
  pub last : arcs_in new.way new.text.items ≡ arcs

-- The number and the time of a node's `d` line were kept.
pub record KeepsTime (line time : ℕ) (old new : Kept) : Type 0 where
  pub lines : new.lines.items ≡ old.lines.items ++ line ∷ []
  pub table : new.table.items ≡ old.table.items ++ time ∷ []
  pub walks : new.walks.items ≡ old.walks.items
  pub own : new.own.items ≡ old.own.items
  pub text : new.text.items ≡ old.text.items
  pub way : new.way ≡ old.way
