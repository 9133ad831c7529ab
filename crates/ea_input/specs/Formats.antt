-- What each file asks of its lines.
use Rattle.std.specs.Prelude.{ℕ, ◌+◌, ◌-◌, ◌||◌, not, Bool, true, false, List, [], ◌∷◌, map, drop, codes, if◌then◌else◌}
use Rattle.std.specs.Option.{option_map_or}
use Rattle.std.specs.List.{list_any}
use Rattle.std.specs.Str.{bytes_eq}
use Rattle.ea_base.specs.declared.limits.TheConstants.{HORIZON, MOST_ARCS, MOST_CLASSES, MOST_NODES, MOST_PERIOD, MOST_STEPS}
use Rattle.ea_input.specs.Listing.{any_count, this_count}
use Rattle.ea_input.specs.Checks.{Line, Format, begins_with, value_of, lies_in, words_fit}
use Rattle.ea_input.specs.StepLines.{Run, due, least_time, most_time, least_value, most_value}

abbrev pub is_problem : Line → Bool
is_problem line = begins_with (codes "p") line

-- ---- a graph: `p sp N M`, and M lines `a U V W`

abbrev pub graph_nodes : Line → ℕ
graph_nodes (p ∷ sp ∷ n ∷ m ∷ []) = value_of n
graph_nodes _ = 0

abbrev pub graph_arcs : Line → ℕ
graph_arcs (p ∷ sp ∷ n ∷ m ∷ []) = value_of m
graph_arcs _ = 0

-- The second to fourth fields of a line: those of a problem line, or those of an arc.
abbrev pub graph_ranges : Bool → ℕ → Line → List Bool
graph_ranges problem nodes (word ∷ x ∷ y ∷ z ∷ []) =
    if problem then lies_in 1 MOST_NODES y ∷ lies_in 0 MOST_ARCS z ∷ []
    else (lies_in 1 nodes x ∷ lies_in 1 nodes y ∷ lies_in 0 4294967295 z ∷ [])
graph_ranges problem nodes _ = []

abbrev pub graph_format : Format
graph_format = record {
  words = codes "a" ∷ [];
  is_step = λ line. false;
  due = λ before. 0;
  kind_fits = λ line. not (is_problem line) || words_fit (codes "sp" ∷ []) (drop 1 line);
  field_count = λ line. 4;
  numbers = λ line. drop (if is_problem line then 2 else 1) line;
  in_range = λ before line. graph_ranges (is_problem line) (option_map_or graph_nodes before.problem 0) line;
  announced = λ problem word. graph_arcs problem;
}

-- ---- sources, pairs and times: `p aux sp KIND N`, and N lines of a word and as many numbers as the kind has

abbrev pub list_count : Line → ℕ
list_count (p ∷ aux ∷ sp ∷ kind ∷ n ∷ []) = value_of n
list_count _ = 0

-- `counts` has the least and the greatest N, `numbers` those of the numbers.
abbrev pub list_format : List ℕ → List ℕ → ℕ → ℕ × ℕ → ℕ × ℕ → Format
list_format kind word fields counts numbers = record {
  words = word ∷ [];
  is_step = λ line. false;
  due = λ before. 0;
  kind_fits = λ line. not (is_problem line) || words_fit (codes "aux" ∷ codes "sp" ∷ kind ∷ []) (drop 1 line);
  field_count = λ line. if is_problem line then 5 else (1 + fields);
  numbers = λ line. drop (if is_problem line then 4 else 1) line;
  in_range = λ before line. if is_problem line then map (lies_in counts.0 counts.1) (drop 4 line) else map (lies_in numbers.0 numbers.1) (drop 1 line);
  announced = λ problem w. list_count problem;
}

-- `p aux sp ss N`, and N lines `s S`
abbrev pub source_format : ℕ → Format
source_format nodes = list_format (codes "ss") (codes "s") 1 (any_count nodes) (1, nodes)

-- `p aux sp p2p N`, and N lines `q S T`
abbrev pub pair_format : ℕ → Format
pair_format nodes = list_format (codes "p2p") (codes "q") 2 (any_count nodes) (1, nodes)

-- `p aux sp at N` with N the number of sources or pairs, and N lines `t D`
abbrev pub time_format : ℕ → Format
time_format count = list_format (codes "at") (codes "t") 1 (this_count count) (0, HORIZON)

-- ---- a timetable: `p tp K T`, and K lines `k J ..`, some with lines `v T X` behind them, and T lines `t E J`

abbrev pub is_kind : Line → Bool
is_kind line = begins_with (codes "k") line

abbrev pub is_step : Line → Bool
is_step line = begins_with (codes "v") line

abbrev pub table_kinds : Line → ℕ
table_kinds (p ∷ tp ∷ k ∷ t ∷ []) = value_of k
table_kinds _ = 0

abbrev pub table_assigned : Line → ℕ
table_assigned (p ∷ tp ∷ k ∷ t ∷ []) = value_of t
table_assigned _ = 0

-- The third field of a line `k J ..` is a kind's name, if there is one.
abbrev pub kind_name_fits : Line → Bool
kind_name_fits (k ∷ j ∷ name ∷ fields) = list_any (bytes_eq name) (codes "plain" ∷ codes "every" ∷ codes "closed" ∷ codes "rush" ∷ codes "speeds" ∷ codes "trips" ∷ codes "points" ∷ [])
kind_name_fits _ = true

-- `k J plain`, `k J every P O`, `k J closed B E`, `k J rush B E X`, `k J speeds P N`, `k J trips P N`, `k J points P N`
abbrev pub kind_fields : Line → ℕ
kind_fields (k ∷ j ∷ name ∷ fields) =
    if bytes_eq name (codes "plain") then 3 else
    (if bytes_eq name (codes "every") then 5 else
    (if bytes_eq name (codes "closed") then 5 else
    (if bytes_eq name (codes "rush") then 6 else 5)))
kind_fields _ = 3

-- The fields of a line `k J NAME ..` that are numbers.
abbrev pub kind_numbers : Line → Line
kind_numbers (k ∷ j ∷ name ∷ fields) = j ∷ fields
kind_numbers _ = []

-- An interval `B E` of times.
abbrev pub interval_ranges : List ℕ → List ℕ → List Bool → List Bool
interval_ranges b e others = lies_in 0 (HORIZON - 1) b ∷ lies_in (value_of b + 1) HORIZON e ∷ others

-- The numbers of the line of a kind that has this number.
abbrev pub kind_ranges : ℕ → Line → List Bool
kind_ranges number (k ∷ j ∷ name ∷ []) = lies_in number number j ∷ []
kind_ranges number (k ∷ j ∷ name ∷ x ∷ y ∷ []) =
    lies_in number number j ∷
    (if bytes_eq name (codes "every") then lies_in 1 MOST_PERIOD x ∷ lies_in 0 (value_of x - 1) y ∷ [] else
    (if bytes_eq name (codes "closed") then interval_ranges x y [] else
    (if bytes_eq name (codes "speeds") then lies_in 1 MOST_PERIOD x ∷ lies_in 1 MOST_STEPS y ∷ [] else (lies_in 0 MOST_PERIOD x ∷ lies_in 1 MOST_STEPS y ∷ []))))
kind_ranges number (k ∷ j ∷ name ∷ b ∷ e ∷ x ∷ []) = lies_in number number j ∷ interval_ranges b e (lies_in 0 MOST_PERIOD x ∷ [])
kind_ranges number _ = []

abbrev pub size_ranges : Line → List Bool
size_ranges (p ∷ tp ∷ k ∷ t ∷ []) = lies_in 0 MOST_CLASSES k ∷ lies_in 0 MOST_ARCS t ∷ []
size_ranges _ = []

-- The numbers of a line `t E J` of a graph with this many arcs and a file of this many kinds.
abbrev pub assigned_ranges : ℕ → ℕ → Line → List Bool
assigned_ranges arcs kinds (t ∷ e ∷ j ∷ []) = lies_in 1 arcs e ∷ lies_in 0 kinds j ∷ []
assigned_ranges arcs kinds _ = []

-- The numbers of a line `v T X`, after some steps of its class.
abbrev pub step_ranges : Run → Line → List Bool
step_ranges run (v ∷ t ∷ x ∷ []) =
    lies_in (least_time run) (most_time run) t ∷ lies_in (least_value run (value_of t)) (most_value run (value_of t)) x ∷ []
step_ranges run _ = []

abbrev pub table_format : ℕ → Format
table_format arcs = record {
  words = codes "k" ∷ codes "t" ∷ codes "v" ∷ [];
  is_step = is_step;
  due = λ before. due before.run;
  kind_fits = λ line. if is_problem line then words_fit (codes "tp" ∷ []) (drop 1 line) else (not (is_kind line) || kind_name_fits line);
  field_count = λ line. if is_problem line then 4 else (if is_kind line then kind_fields line else 3);
  numbers = λ line. if is_problem line then drop 2 line else (if is_kind line then kind_numbers line else drop 1 line);
  in_range = λ before line. if is_problem line then size_ranges line else
      (if is_kind line then kind_ranges (before.count (codes "k") + 1) line else
      (if is_step line then step_ranges before.run line else assigned_ranges arcs (option_map_or table_kinds before.problem 0) line));
  announced = λ problem word. if bytes_eq word (codes "k") then table_kinds problem else (if bytes_eq word (codes "t") then table_assigned problem else 0);
}
