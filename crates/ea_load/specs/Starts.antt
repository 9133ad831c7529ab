-- The sources of searches and when they begin, and their problems.
use Rattle.std.specs.Prelude.{ℕ, ◌+◌, ◌-◌, ◌*◌, ◌<◌, ◌≤◌, Bool, List, [], ◌∷◌, map, option_map, slice_index, if◌then◌else◌, Option, Some, None}
use Rattle.ea_base.specs.declared.direction.Direction.{Direction}
use Rattle.ea_base.specs.declared.direction.Direction.TheVariants.{Forward, Turned}
use Rattle.ea_base.specs.declared.limits.TheConstants.{HORIZON}
use Rattle.ea_road.specs.declared.source.Source.{Source}
use Rattle.ea_road.specs.Queries.{Asking}
use Rattle.ea_load.specs.declared.departures.Schedule.{Schedule}

-- When starts depart or, turned round, have to be reached: a first time and a gap, or a time for each.
pub record Plan : Type 0 where
  pub depart : ℕ
  pub gap : ℕ
  pub times : Option (List ℕ)
  pub direction : Direction

abbrev pub plan_of : Schedule → Plan
plan_of schedule = record { depart = schedule.depart; gap = schedule.gap; times = option_map (λ times. times.now) schedule.times; direction = schedule.direction }

-- The time of the source or pair with number i, from 0: its own, or `depart + i * gap`.
abbrev pub own_time : Option (List ℕ) → ℕ → ℕ → ℕ → ℕ
own_time None depart gap i = depart + i * gap
own_time (Some times) depart gap i = slice_index times i

abbrev pub time_at : Plan → ℕ → ℕ
time_at plan i = own_time plan.times plan.depart plan.gap i

-- When its search begins: in a network turned round a time becomes HORIZON less it.
abbrev pub in_direction : Direction → ℕ → ℕ
in_direction Forward time = time
in_direction Turned time = HORIZON - time

abbrev pub begins_at : Plan → ℕ → ℕ
begins_at plan i = in_direction plan.direction (time_at plan i)

-- The times of this many starts are within the horizon.
abbrev pub AreWithin : Plan → ℕ → Type 0
AreWithin plan count = (i : ℕ) → i < count → time_at plan i ≤ HORIZON

-- Nodes as sources, the first of which has number i.
abbrev pub sources_from : Plan → ℕ → List ℕ → List Source
sources_from plan i [] = []
sources_from plan i (node ∷ nodes) = record { node = node; departure = begins_at plan i } ∷ sources_from plan (i + 1) nodes

-- A problem that asks for all nodes.
abbrev pub asks_all : List Source → Asking
asks_all sources = record { sources = sources; target = None }

-- The problems of a run: each source alone, or all together.
abbrev pub run_problems : Bool → Plan → List ℕ → List Asking
run_problems joint plan nodes =
    let sources = sources_from plan 0 nodes in
    if joint then asks_all sources ∷ [] else map (λ source. asks_all (source ∷ [])) sources

-- The node at which the search of a pair begins, and the node that it asks for: turned round, it begins at the second node.
abbrev pub begin_of : Direction → ℕ × ℕ → ℕ
begin_of Forward pair = pair.0
begin_of Turned pair = pair.1

abbrev pub aim_of : Direction → ℕ × ℕ → ℕ
aim_of Forward pair = pair.1
aim_of Turned pair = pair.0

-- A pair as a problem that begins at a time.
abbrev pub pair_problem : Direction → ℕ → ℕ × ℕ → Asking
pair_problem direction time pair = record { sources = record { node = begin_of direction pair; departure = time } ∷ []; target = Some (aim_of direction pair) }

-- Pairs of source and target as problems, the first of which has number i.
abbrev pub pair_problems : Plan → ℕ → List (ℕ × ℕ) → List Asking
pair_problems plan i [] = []
pair_problems plan i (pair ∷ pairs) = pair_problem plan.direction (begins_at plan i) pair ∷ pair_problems plan (i + 1) pairs
