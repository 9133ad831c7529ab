-- The form of a report: the order of its lines, and what each says.
use Rattle.std.specs.Prelude.{◌≡◌, ◌≢◌, ◌⊎◌, ℕ, ◌+◌, ◌-◌, ◌<◌, ◌≤◌, ◌^◌, nat_lt, if◌then◌else◌, List, [], ◌∷◌, ◌++◌, length, map, reverse, codes, Option, Some, None}
use Rattle.ea_bytes.specs.Text.{number_of, is_silent, field_lines}
use Rattle.ea_base.specs.declared.direction.Direction.{Direction}
use Rattle.ea_base.specs.declared.direction.Direction.TheVariants.{Forward, Turned}
use Rattle.ea_base.specs.declared.limits.TheConstants.{HORIZON}
use Rattle.ea_road.specs.declared.TheConstants.{NONE}
use Rattle.ea_road.specs.declared.source.Source.{Source}
use Rattle.ea_check.specs.Verdicts.{WrittenWalk, Said}

-- A line of a report: its number, from 1, its fields, and the direction of its run. What may follow a line
-- doesn't depend on the direction.
pub record Line : Type 0 where
  pub number : ℕ
  pub fields : List (List ℕ)
  pub way : Direction

-- The lines that are neither blank nor comments, numbered from that of the first line.
abbrev pub spoken_from : Direction → ℕ → List (List (List ℕ)) → List Line
spoken_from way number [] = []
spoken_from way number (fields ∷ rest) =
    if is_silent fields then spoken_from way (number + 1) rest else record { number = number; fields = fields; way = way } ∷ spoken_from way (number + 1) rest

-- The lines of a report of a run in this direction.
abbrev pub report_lines : Direction → List ℕ → List Line
report_lines way text = spoken_from way 1 (field_lines text)

-- The lines of a report of earliest arrivals.
abbrev pub lines_of_report : List ℕ → List Line
lines_of_report text = report_lines Forward text

-- Lines whose numbers ascend.
abbrev pub IsAfter : ℕ → List Line → Type 0
IsAfter number [] = Unit {0}
IsAfter number (line ∷ lines) = (number < line.number) × IsAfter line.number lines

abbrev pub AreInOrder : List Line → Type 0
AreInOrder lines = IsAfter 0 lines

-- The word of a line of a source, or of a target.
abbrev pub start_word : Direction → List ℕ
start_word Forward = codes "s"
start_word Turned = codes "t"

-- The word in place of a time: nothing arrives, or nothing departs in time.
abbrev pub none_word : Direction → List ℕ
none_word Forward = codes "inf"
none_word Turned = codes "none"

-- The time in a report, and the time of the network that was searched: a latest departure is the horizon less
-- the arrival in the network turned round. Each gives the other.
abbrev pub told_time : Direction → ℕ → ℕ
told_time Forward time = time
told_time Turned time = HORIZON - time

-- The arcs in a report, and those of a walk in the network that was searched: a walk to a target is written
-- in the order in which it is driven. Each gives the other.
abbrev pub told_walk : Direction → List ℕ → List ℕ
told_walk Forward arcs = arcs
told_walk Turned arcs = reverse arcs

-- A line `s S D` of a source, or `t T A` of a target.
abbrev pub SaysSource : Direction → List (List ℕ) → ℕ → ℕ → Type 0
SaysSource way (word ∷ source ∷ time ∷ []) node departure =
    (word ≡ start_word way) × (number_of source ≡ Some node) × (number_of time ≡ Some (told_time way departure))
SaysSource way _ node departure = ⊥

-- A time within the horizon, or the word in its place.
abbrev pub IsTime : Direction → List ℕ → ℕ → Type 0
IsTime way field time = ((field ≡ none_word way) × (time ≡ NONE)) ⊎ ((number_of field ≡ Some (told_time way time)) × (time ≤ HORIZON))

-- A line `d V A` or `d V inf` of an arrival, or `d V D` or `d V none` of a departure.
abbrev pub SaysTime : Direction → List (List ℕ) → ℕ → ℕ → Type 0
SaysTime way (word ∷ place ∷ arrival ∷ []) node time =
    (word ≡ codes "d") × (number_of place ≡ Some node) × IsTime way arrival time
SaysTime way _ node time = ⊥

-- An arc number. A number of more than 32 bits becomes 0, which is no arc's.
abbrev pub arc_number : ℕ → ℕ
arc_number n = if nat_lt n (2 ^ 32) then n else 0

-- Numbers of at most 32 bits.
abbrev pub AreShort : List ℕ → Type 0
AreShort [] = Unit {0}
AreShort (arc ∷ arcs) = (arc < 2 ^ 32) × AreShort arcs

abbrev pub IsArcNumber : List ℕ → ℕ → Type 0
IsArcNumber field arc = (n : ℕ) × (number_of field ≡ Some n) × (arc ≡ arc_number n)

-- The arc number in a field; 0 if the field is no number.
abbrev pub arc_found : Option ℕ → ℕ
arc_found (Some n) = arc_number n
arc_found None = 0

abbrev pub arc_of : List ℕ → ℕ
arc_of field = arc_found (number_of field)

-- The arc numbers in fields.
abbrev pub arcs_of : List (List ℕ) → List ℕ
arcs_of fields = map arc_of fields

abbrev pub AreArcNumbers : List (List ℕ) → List ℕ → Type 0
AreArcNumbers [] [] = Unit {0}
AreArcNumbers [] (arc ∷ arcs) = ⊥
AreArcNumbers (field ∷ fields) [] = ⊥
AreArcNumbers (field ∷ fields) (arc ∷ arcs) =
    IsArcNumber field arc × AreArcNumbers fields arcs

-- A line that begins with `w`.
abbrev pub IsWalkLine : List (List ℕ) → Type 0
IsWalkLine [] = ⊥
IsWalkLine (word ∷ others) = word ≡ codes "w"

-- A line `w V k e1 .. ek`, whose arcs are these as they are written.
abbrev pub SaysArcs : List (List ℕ) → ℕ → List ℕ → Type 0
SaysArcs (word ∷ place ∷ count ∷ numbers) node arcs =
    (word ≡ codes "w") × (number_of place ≡ Some node) × (number_of count ≡ Some (length numbers)) × AreArcNumbers numbers arcs
SaysArcs _ node arcs = ⊥

-- A line `w V k e1 .. ek`, given the arcs of the walk in the network that was searched.
abbrev pub SaysWalk : Direction → List (List ℕ) → ℕ → List ℕ → Type 0
SaysWalk way fields node arcs = SaysArcs fields node (told_walk way arcs)

-- The lines of a node: its `d` line and, if that has a time, maybe a `w` line.
pub data SaysNode (node : ℕ) (said : Said) : List Line → Type 0 where
  alone : {line : Line} → SaysTime line.way line.fields node said.time → said.line ≡ line.number → said.walk ≡ None → SaysNode node said (line ∷ [])
  with_walk : {line next : Line} {walk : WrittenWalk} → SaysTime line.way line.fields node said.time → said.time ≢ NONE → said.line ≡ line.number → said.walk ≡ Some walk → walk.line ≡ next.number → SaysWalk next.way next.fields node walk.arcs → SaysNode node said (line ∷ next ∷ [])

-- The lines of nodes, one node after another from this one on.
pub data SaysNodes : ℕ → List Said → List Line → Type 0 where
  no_node : {node : ℕ} → SaysNodes node [] []
  next_node : {node : ℕ} {said : Said} {rest : List Said} {lines others : List Line} → SaysNode node said lines → SaysNodes (node + 1) rest others → SaysNodes node (said ∷ rest) (lines ++ others)

-- The lines of sources, in their order.
abbrev pub SaysSources : List Source → List Line → Type 0
SaysSources [] [] = Unit {0}
SaysSources [] (line ∷ lines) = ⊥
SaysSources (source ∷ sources) [] = ⊥
SaysSources (source ∷ sources) (line ∷ lines) =
    SaysSource line.way line.fields source.node source.departure × SaysSources sources lines

-- The lines of a problem: those of its sources, then those of all nodes.
pub record SaysProblem (nodes : ℕ) (sources : List Source) (reported : List Said) (lines : List Line) : Type 0 where
  pub first : List Line
  pub others : List Line
  pub cut : lines ≡ first ++ others
  pub of_sources : SaysSources sources first
  pub of_nodes : SaysNodes 1 reported others
  pub each_node : length reported ≡ nodes

-- The lines of a report: those of its problems, one after another.
pub data SaysProblems (nodes : ℕ) : List (List Source) → List (List Said) → List Line → Type 0 where
  no_problem : SaysProblems nodes [] [] []
  next_problem : {sources : List Source} {queries : List (List Source)} {reported : List Said} {problems : List (List Said)} {lines others : List Line} → SaysProblem nodes sources reported lines → SaysProblems nodes queries problems others → SaysProblems nodes (sources ∷ queries) (reported ∷ problems) (lines ++ others)

-- Lines with which a report of right form can begin.
pub record CanGoOn (nodes : ℕ) (queries : List (List Source)) (lines : List Line) : Type 0 where
  pub rest : List Line
  pub problems : List (List Said)
  pub whole : SaysProblems nodes queries problems (lines ++ rest)

-- The first line that is not what its place requires: a report of right form can begin with the lines before
-- it, but not with it too. Line 0 means that the report ends too early.
pub data IsBadLine (nodes : ℕ) (queries : List (List Source)) (lines : List Line) : ℕ → Type 0 where
  at_line : (before after : List Line) (bad : Line) → lines ≡ before ++ bad ∷ after → CanGoOn nodes queries before → (CanGoOn nodes queries (before ++ bad ∷ []) → ⊥) → IsBadLine nodes queries lines bad.number
  at_end : CanGoOn nodes queries lines → ((problems : List (List Said)) → SaysProblems nodes queries problems lines → ⊥) → IsBadLine nodes queries lines 0
