-- The text of a graph.
use Rattle.std.specs.Prelude.{◌≡◌, ℕ, List, [], ◌∷◌, ◌++◌, length, codes, nat_lt, if◌then◌else◌, Option, Some, None, Result, Ok, Err}
use Rattle.std.specs.Str.{bytes_eq}
use Rattle.std.specs.Option.{ok_or}
use Rattle.ea_base.specs.declared.limits.TheConstants.{MOST_ARCS, MOST_NODES}
use Rattle.ea_bytes.specs.Text.{is_comment, speaking}
use Rattle.ea_input.specs.Range.{IsNumberIn}
use Rattle.ea_blocks.specs.Fault.{◌>>=◌, numeral, within}
use Rattle.ea_blocks.specs.Reading.{text_after}
use Rattle.ea_blocks.specs.declared.fault.FaultKind.{FaultKind}
use Rattle.ea_blocks.specs.declared.fault.FaultKind.TheVariants.{NoProblemLine, SecondProblemLine, UnknownLine, FieldCount, TooManyLines, TooFewLines, BadKind}
use Rattle.ea_blocks.specs.declared.fault.InputFault.{InputFault}
use Rattle.ea_base.specs.declared.graph.RawArc.{RawArc}
use Rattle.ea_input.specs.declared.graph.GraphSize.{GraphSize}
use Rattle.ea_input.specs.declared.graph.GraphLine.{GraphLine}
use Rattle.ea_input.specs.declared.graph.GraphLine.TheVariants.{Silent, Problem, Arc}

-- A graph without its place in memory.
pub record Graph : Type 0 where
  pub nodes : ℕ
  pub arcs : List RawArc

-- WHAT A TEXT DENOTES

-- A line `p sp N M` of a graph of these nodes and this many arcs.
abbrev pub IsProblemLine : List (List ℕ) → ℕ → ℕ → Type 0
IsProblemLine (word ∷ kind ∷ n ∷ m ∷ []) nodes arcs =
    (word ≡ codes "p") × (kind ≡ codes "sp") × IsNumberIn 1 MOST_NODES n nodes × IsNumberIn 0 MOST_ARCS m arcs
IsProblemLine _ nodes arcs = ⊥

-- A line `a U V W` of an arc among these nodes.
abbrev pub IsArcLine : ℕ → List (List ℕ) → RawArc → Type 0
IsArcLine nodes (word ∷ u ∷ v ∷ w ∷ []) arc =
    (word ≡ codes "a") × IsNumberIn 1 nodes u arc.tail × IsNumberIn 1 nodes v arc.head × IsNumberIn 0 4294967295 w arc.weight
IsArcLine nodes _ arc = ⊥

-- Lines of arcs, one for each arc and in their order.
abbrev pub AreArcLines : ℕ → List (List (List ℕ)) → List RawArc → Type 0
AreArcLines nodes [] [] = Unit {0}
AreArcLines nodes [] (arc ∷ arcs) = ⊥
AreArcLines nodes (line ∷ lines) [] = ⊥
AreArcLines nodes (line ∷ lines) (arc ∷ arcs) = IsArcLine nodes line arc × AreArcLines nodes lines arcs

-- Lines denote a graph: but for those that say nothing they are one problem line and then its arcs.
pub record DenotesGraph (lines : List (List (List ℕ))) (graph : Graph) : Type 0 where
  pub problem : List (List ℕ)
  pub others : List (List (List ℕ))
  pub speaks : speaking lines ≡ problem ∷ others
  pub announces : IsProblemLine problem graph.nodes (length graph.arcs)
  pub lists : AreArcLines graph.nodes others graph.arcs

-- HOW A READER GOES, STEP BY STEP (no public clause names it: what a text denotes is above, and its fault is `IsFaultOf` in Checks)

-- The size whose numbers these fields are.
unfoldable pub size_read : List ℕ → List ℕ → Result GraphSize FaultKind
size_read n m = do
  nodes ← numeral n
  arcs ← numeral m
  nodes ← within 1 MOST_NODES nodes
  arcs ← within 0 MOST_ARCS arcs
  Ok (record { nodes = nodes; arcs = arcs })

-- The numbers of a problem line.
unfoldable pub size_of : List (List ℕ) → Result GraphSize FaultKind
size_of (n ∷ m ∷ []) = size_read n m
size_of _ = Err FieldCount

-- The fields behind `p`.
unfoldable pub problem_of : List (List ℕ) → Result GraphSize FaultKind
problem_of [] = Err FieldCount
problem_of (kind ∷ numbers) = if bytes_eq kind (codes "sp") then size_of numbers else Err BadKind

-- An arc of these numbers, if each is in its range.
unfoldable pub arc_within : ℕ → ℕ → ℕ → ℕ → Result RawArc FaultKind
arc_within nodes tail head weight = do
  tail ← within 1 nodes tail
  head ← within 1 nodes head
  weight ← within 0 4294967295 weight
  Ok (record { tail = tail; head = head; weight = weight })

-- An arc whose numbers these fields are.
unfoldable pub arc_read : ℕ → List ℕ → List ℕ → List ℕ → Result RawArc FaultKind
arc_read nodes u v w = do
  tail ← numeral u
  head ← numeral v
  weight ← numeral w
  arc_within nodes tail head weight

-- The fields behind `a`.
unfoldable pub arc_of : ℕ → List (List ℕ) → Result RawArc FaultKind
arc_of nodes (u ∷ v ∷ w ∷ []) = arc_read nodes u v w
arc_of nodes _ = Err FieldCount

-- The fields behind `p`, if no problem line came before.
unfoldable pub problem_line : Option GraphSize → List (List ℕ) → Result GraphLine FaultKind
problem_line (Some size) fields = Err SecondProblemLine
problem_line None fields = problem_of fields >>= λ size. Ok (Problem size)

-- The fields behind `a`, after this many arcs.
unfoldable pub arc_line : Option GraphSize → ℕ → List (List ℕ) → Result GraphLine FaultKind
arc_line None count fields = Err NoProblemLine
arc_line (Some size) count fields = arc_of size.nodes fields >>= λ arc. if nat_lt count size.arcs then Ok (Arc arc) else Err TooManyLines

-- What a line says after a problem line or none, and this many arcs; or its first fault.
unfoldable pub graph_line : Option GraphSize → ℕ → List (List ℕ) → Result GraphLine FaultKind
graph_line size count [] = Ok Silent
graph_line size count (word ∷ fields) =
    if is_comment word then Ok Silent else
    (if bytes_eq word (codes "p") then problem_line size fields else
    (if bytes_eq word (codes "a") then arc_line size count fields else Err UnknownLine))

-- The same of a line whose fields are numbers.
unfoldable pub numbers_line : Option GraphSize → ℕ → ℕ → ℕ → ℕ → Result GraphLine FaultKind
numbers_line None count tail head weight = Err NoProblemLine
numbers_line (Some size) count tail head weight = arc_within size.nodes tail head weight >>= λ arc. if nat_lt count size.arcs then Ok (Arc arc) else Err TooManyLines

-- What the lines so far say.
pub record GraphRead : Type 0 where
  pub size : Option GraphSize
  pub arcs : List RawArc

abbrev pub no_graph : GraphRead
no_graph = record { size = None; arcs = [] }

abbrev pub with_line : GraphRead → GraphLine → GraphRead
with_line read Silent = read
with_line read (Problem size) = record read { size = Some size }
with_line read (Arc arc) = record read { arcs = read.arcs ++ arc ∷ [] }

-- After what a line says.
unfoldable pub after_said : GraphRead → Result GraphLine FaultKind → Result GraphRead FaultKind
after_said read said = said >>= λ line. Ok (with_line read line)

unfoldable pub graph_step : GraphRead → List (List ℕ) → Result GraphRead FaultKind
graph_step read fields = after_said read (graph_line read.size (length read.arcs) fields)

-- The graph at the end of the text.
unfoldable pub graph_end : GraphRead → Result Graph FaultKind
graph_end read = ok_or read.size NoProblemLine >>= λ size. if nat_lt (length read.arcs) size.arcs then Err TooFewLines else Ok (record { nodes = size.nodes; arcs = read.arcs })

-- What a reader finds: the graph of a text, or a fault.
abbrev pub graph_of : List (List (List ℕ)) → Result Graph InputFault
graph_of lines = text_after graph_step graph_end no_graph lines
