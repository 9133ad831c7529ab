-- Which search a problem gets, by what was asked, the number of processors, and the size. No
-- byte of a report depends on it; its time does.
use Rattle.std.specs.Prelude.{◌≡◌, ◌<◌, ◌≤◌, ℕ, true, false, length, ◌*◌, ◌^◌, ◌/◌, ◌-◌, Bool, IfSome, List, Option, Some, None, min, max, if◌then◌else◌, is_some, nat_le, nat_lt, ◌==◌, ◌&&◌, ◌||◌, not, unwrap_or}
use Rattle.ea_base.specs.declared.limits.TheConstants.{MOST_AT_ONCE, MOST_TURNS, MOST_WORKERS}
use Rattle.ea_engine.specs.Limits.{AreSettings}
use Rattle.ea_engine.specs.declared.settings.Settings.{Settings}
use Rattle.ea_load.specs.Posed.{AreProblems}
use Rattle.ea_load.specs.declared.road.Road.{Road}
use Rattle.ea_road.specs.Queries.{Asking}
use Rattle.ea_options.specs.declared.defaults.TheConstants.{DEFAULT_TURNS}
use Rattle.ea_options.specs.Limits.{AreOptions, counted_workers}
use Rattle.ea_options.specs.declared.options.RunOptions.{RunOptions}
use Rattle.earliest.specs.Workers.{settings_with}
use Rattle.earliest.specs.declared.solver_choice.TheConstants.{FEW_FOR_TWO, FEW_NODES, MANY_FOR_TWO, MANY_NODES}
use Rattle.earliest.specs.declared.preparing.TheConstants.{FEW_PROBLEMS, OFFERS_BY_NODE}

-- A number from 1 to a most is this choice.
pub record IsChosen (most choice number : ℕ) : Type 0 where
  pub some : 1 ≤ number
  pub few : number ≤ most
  pub chosen : number ≡ choice

-- Options, and the number of processors, if it is known.
pub record CanChoose (options : RunOptions) (processors : Option ℕ) : Type 0 where
  pub options_are : AreOptions options
  pub processors_are : IfSome processors (λ count. 1 ≤ count)

-- Problems on a road, and options.
pub record CanPrepare (road : Road) (queries : List Asking) (options : RunOptions) : Type 0 where
  pub problems : AreProblems road queries
  pub options_are : AreOptions options

-- The number of processors, if it is known, and of the workers that are asked for, if any are.
pub record CanLimit (processors workers : Option ℕ) : Type 0 where
  pub processors_are : IfSome processors (λ count. 1 ≤ count)
  pub workers_are : IfSome workers (λ count. (1 ≤ count) × (count ≤ MOST_WORKERS))

-- Options, and a number of workers that they can be set up for.
pub record CanSetUp (options : RunOptions) (workers : ℕ) : Type 0 where
  pub options_are : AreOptions options
  pub some : 1 ≤ workers
  pub few : workers ≤ MOST_WORKERS

-- The number of problems that are searched at once: as asked for; else one if workers or statistics are asked for; else
-- one for each processor.
abbrev pub at_once_on : Option ℕ → RunOptions → ℕ
at_once_on processors options = unwrap_or options.at_once
    (if is_some options.workers || options.stats then 1 else min (unwrap_or processors 1) MOST_AT_ONCE)

-- Statistics, or several workers, are asked for: then there is no preparation, and no layout.
abbrev pub asks_for_workers : RunOptions → Bool
asks_for_workers options = options.stats || nat_lt 1 (unwrap_or options.workers 1)

-- A problem is searched by the search of one thread: by one worker, whose turns aren't counted.
abbrev pub is_alone : RunOptions → ℕ → Bool
is_alone options workers = (workers == 1) && not options.stats

-- The number of problems that are searched at once, each by a worker whose turns are counted.
abbrev pub counted_at_once : Option ℕ → RunOptions → ℕ
counted_at_once processors options = if options.stats && (counted_workers options == 1) then at_once_on processors options else 1

-- One worker for each processor, if that many are faster on this number of nodes than one thread; else one.
abbrev pub workers_on : Option ℕ → ℕ → ℕ
workers_on None nodes = 1
workers_on (Some count) nodes = if nat_le 4 count || nat_le MANY_FOR_TWO nodes then min count MOST_WORKERS else 1

-- One worker in place of two or three, if there are few nodes.
abbrev pub worth_starting : ℕ → ℕ → ℕ
worth_starting workers nodes = if nat_lt workers 4 && nat_lt nodes FEW_FOR_TWO then 1 else workers

-- As many workers as are asked for, but no more than processors.
abbrev pub workers_asked : Option ℕ → ℕ → ℕ → ℕ
workers_asked processors workers nodes = worth_starting (min workers (unwrap_or processors MOST_WORKERS)) nodes

-- The workers of a problem without statistics, by the workers that are asked for. If none are, many nodes have to be asked for, and
-- without walks.
abbrev pub workers_by : Option ℕ → Option ℕ → ℕ → Bool → ℕ
workers_by processors (Some workers) nodes is_alone = workers_asked processors workers nodes
workers_by processors None nodes is_alone = if nat_lt nodes MANY_NODES || is_alone then 1 else workers_on processors nodes

-- The workers of a problem: with statistics those that are counted; on few nodes one.
abbrev pub workers_for : Option ℕ → ℕ → Bool → RunOptions → ℕ
workers_for processors nodes is_few options =
    if options.stats then counted_workers options
    else (if nat_lt nodes FEW_NODES then 1 else workers_by processors options.workers nodes (options.walks || is_few))

-- The settings of this number of workers. Turns are limited if statistics are asked for, or if the option isn't the default.
abbrev pub settings_for : RunOptions → ℕ → Settings
settings_for options workers =
    if options.stats || not (options.turns == DEFAULT_TURNS) then settings_with options workers
    else record (settings_with options workers) { turns = MOST_TURNS }

-- Allowed settings of this number of workers are those; with statistics, as options ask for.
pub record AreSettingsFor (options : RunOptions) (workers : ℕ) (settings : Settings) : Type 0 where
  pub allowed : AreSettings settings
  pub workers_are : settings.workers ≡ workers
  pub asked : options.stats ≡ true → settings ≡ settings_with options workers
  pub chosen : settings ≡ settings_for options workers

-- There are problems, and no workers and no statistics are asked for, so a road may be renumbered for them.
pub record CanRenumber (queries : List Asking) (options : RunOptions) : Type 0 where
  pub some : 0 < length queries
  pub alone : asks_for_workers options ≡ false

-- Several threads search problems at the same time, each by itself.
abbrev pub goes_ahead : RunOptions → ℕ → ℕ → Bool
goes_ahead options threads problems = not (asks_for_workers options) && (nat_lt 1 threads && nat_lt 1 problems)

-- A preparation takes less time than the searches of pairs that threads share, if each search makes this many offers.
abbrev pub pays_for : ℕ → ℕ → ℕ → ℕ → Bool
pays_for pairs offers nodes threads = nat_lt (nodes * OFFERS_BY_NODE) (min (pairs * offers) (2 ^ 64 - 1) / max threads 1)

-- Each thread has enough problems for a layout.
abbrev pub are_many : ℕ → ℕ → Bool
are_many problems threads = nat_le FEW_PROBLEMS (problems / max threads 1)
