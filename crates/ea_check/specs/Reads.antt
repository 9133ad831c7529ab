-- What the lines that are still to be read say, place by place, and which are wrong.
use Rattle.std.specs.Prelude.{◌≡◌, ◌≢◌, ◌⊎◌, ℕ, suc, ◌+◌, List, [], ◌∷◌, length, Option, Some, None}
use Rattle.ea_bytes.specs.Text.{fields_of, number_of}
use Rattle.ea_road.specs.declared.TheConstants.{NONE}
use Rattle.ea_road.specs.declared.source.Source.{Source}
use Rattle.ea_check.specs.declared.fault.CheckFault.{CheckFault}
use Rattle.ea_check.specs.declared.fault.CheckFault.TheVariants.{BadLine, NotAttained, NotLeast, OutOfMemory, NotCanonical}
use Rattle.ea_check.specs.Verdicts.{WrittenWalk, Said}
use Rattle.ea_check.specs.Form.{Line, arc_of, IsWalkLine, SaysSource, SaysTime, SaysWalk}

-- A line's first field has this number, and the other fields are those of the rest.
abbrev pub BeginsWithNumber : List ℕ → ℕ → List ℕ → Type 0
BeginsWithNumber text n rest = (field : List ℕ) × (fields_of text ≡ field ∷ fields_of rest) × (number_of field ≡ Some n)

-- A line's first field has this arc number, and the other fields are those of the rest.
abbrev pub BeginsWithArc : List ℕ → ℕ → List ℕ → Type 0
BeginsWithArc text arc rest = (field : List ℕ) × (fields_of text ≡ field ∷ fields_of rest) × (arc ≡ arc_of field)

-- The meaning of a fault of reading, given what makes a line bad. Refused memory says nothing.
abbrev pub IsWrong : (ℕ → Type 0) → CheckFault → Type 0
IsWrong IsBad (BadLine number) = IsBad number
IsWrong IsBad OutOfMemory = Unit {0}
IsWrong IsBad (NotAttained number) = ⊥
IsWrong IsBad (NotLeast number) = ⊥
IsWrong IsBad (NotCanonical number) = ⊥

-- These sources' lines come first, then the others.
abbrev pub ReadsSources : List Source → List Line → List Line → Type 0
ReadsSources [] lines others = lines ≡ others
ReadsSources (source ∷ sources) [] others = ⊥
ReadsSources (source ∷ sources) (line ∷ lines) others = SaysSource line.way line.fields source.node source.departure × ReadsSources sources lines others

-- The first line that is not its source's; 0 if the lines end.
abbrev pub SourcesWrong : List Source → List Line → ℕ → Type 0
SourcesWrong [] lines number = ⊥
SourcesWrong (source ∷ sources) [] number = number ≡ 0
SourcesWrong (source ∷ sources) (line ∷ lines) number =
    ((number ≡ line.number) × (SaysSource line.way line.fields source.node source.departure → ⊥))
    ⊎ (SaysSource line.way line.fields source.node source.departure × SourcesWrong sources lines number)

-- No line that begins with `w` comes next.
abbrev pub NoWalkNext : List Line → Type 0
NoWalkNext [] = Unit {0}
NoWalkNext (line ∷ lines) = IsWalkLine line.fields → ⊥

-- The `w` line of a node comes first, if a `w` line comes at all, then the others.
abbrev pub ReadsWalk : ℕ → Option WrittenWalk → List Line → List Line → Type 0
ReadsWalk node None lines others = (lines ≡ others) × NoWalkNext lines
ReadsWalk node (Some walk) [] others = ⊥
ReadsWalk node (Some walk) (line ∷ lines) others = (walk.line ≡ line.number) × SaysWalk line.way line.fields node walk.arcs × (lines ≡ others)

-- The next line begins with `w`, and is not the node's.
abbrev pub WalkWrong : ℕ → List Line → ℕ → Type 0
WalkWrong node [] number = ⊥
WalkWrong node (line ∷ lines) number = (number ≡ line.number) × IsWalkLine line.fields × ((arcs : List ℕ) → SaysWalk line.way line.fields node arcs → ⊥)

-- A node's lines come first, then the others: its `d` line and, if that has a time, its `w` line if one comes
-- next.
pub data ReadsNode (node : ℕ) (said : Said) : List Line → List Line → Type 0 where
  without_walk : {line : Line} {others : List Line} → SaysTime line.way line.fields node said.time → said.line ≡ line.number → said.walk ≡ None → (said.time ≢ NONE → NoWalkNext others) → ReadsNode node said (line ∷ others) others
  and_walk : {line next : Line} {walk : WrittenWalk} {others : List Line} → SaysTime line.way line.fields node said.time → said.time ≢ NONE → said.line ≡ line.number → said.walk ≡ Some walk → walk.line ≡ next.number → SaysWalk next.way next.fields node walk.arcs → ReadsNode node said (line ∷ next ∷ others) others

-- The first of a node's lines that is not what its place requires.
pub data NodeWrong (node : ℕ) : List Line → ℕ → Type 0 where
  no_line : NodeWrong node [] 0
  no_time : {line : Line} {others : List Line} → ((time : ℕ) → SaysTime line.way line.fields node time → ⊥) → NodeWrong node (line ∷ others) line.number
  no_such_walk : {line next : Line} {others : List Line} (time : ℕ) → SaysTime line.way line.fields node time → time ≢ NONE → IsWalkLine next.fields → ((arcs : List ℕ) → SaysWalk next.way next.fields node arcs → ⊥) → NodeWrong node (line ∷ next ∷ others) next.number

-- The lines of nodes come first, one node after another from this one on, then the others.
pub data ReadsNodes : ℕ → List Said → List Line → List Line → Type 0 where
  no_more : {node : ℕ} {lines : List Line} → ReadsNodes node [] lines lines
  one_more : {node : ℕ} {said : Said} {later : List Said} {lines middle others : List Line} → ReadsNode node said lines middle → ReadsNodes (node + 1) later middle others → ReadsNodes node (said ∷ later) lines others

-- The first line of this many nodes, from this one on, that is not what its place requires.
pub data NodesWrong : ℕ → ℕ → List Line → ℕ → Type 0 where
  in_node : {node count number : ℕ} {lines : List Line} → NodeWrong node lines number → NodesWrong node (suc count) lines number
  behind_node : {node count number : ℕ} {said : Said} {lines middle : List Line} → ReadsNode node said lines middle → NodesWrong (node + 1) count middle number → NodesWrong node (suc count) lines number

-- The lines of a problem come first, then the others.
pub record ReadsProblem (nodes : ℕ) (sources : List Source) (reported : List Said) (lines others : List Line) : Type 0 where
  pub middle : List Line
  pub of_sources : ReadsSources sources lines middle
  pub of_nodes : ReadsNodes 1 reported middle others
  pub each_node : length reported ≡ nodes

-- The first line of a problem that is not what its place requires.
pub data ProblemWrong (nodes : ℕ) (sources : List Source) (lines : List Line) (number : ℕ) : Type 0 where
  in_sources : SourcesWrong sources lines number → ProblemWrong nodes sources lines number
  in_nodes : {middle : List Line} → ReadsSources sources lines middle → NodesWrong 1 nodes middle number → ProblemWrong nodes sources lines number

-- The first line of a report that is not what its place requires.
pub data ReportWrong (nodes : ℕ) : List (List Source) → List Line → ℕ → Type 0 where
  too_long : {line : Line} {others : List Line} → ReportWrong nodes [] (line ∷ others) line.number
  in_problem : {sources : List Source} {queries : List (List Source)} {lines : List Line} {number : ℕ} → ProblemWrong nodes sources lines number → ReportWrong nodes (sources ∷ queries) lines number
  behind_problem : {sources : List Source} {queries : List (List Source)} {reported : List Said} {lines others : List Line} {number : ℕ} → ReadsProblem nodes sources reported lines others → ReportWrong nodes queries others number → ReportWrong nodes (sources ∷ queries) lines number

-- The lines of problems, one after another, and nothing else.
pub data ReadsReport (nodes : ℕ) : List (List Source) → List Line → Type 0 where
  all_read : ReadsReport nodes [] []
  one_read : {sources : List Source} {queries : List (List Source)} {reported : List Said} {lines others : List Line} → ReadsProblem nodes sources reported lines others → ReadsReport nodes queries others → ReadsReport nodes (sources ∷ queries) lines
