-- The options of a command in parts, each read alone.
use Rattle.std.specs.Prelude.{◌≤◌, IfSome, List, Option, Some, codes, unwrap_or}
use Rattle.ea_base.specs.declared.limits.TheConstants.{HORIZON, LEAST_HEAPS, MOST_AT_ONCE, MOST_BATCH, MOST_HEAPS, MOST_TURNS, MOST_WORKERS}
use Rattle.ea_options.specs.declared.defaults.TheConstants.{DEFAULT_DEPARTURE, DEFAULT_GAP, DEFAULT_HEAPS, DEFAULT_SEED, DEFAULT_TURNS}
use Rattle.clap.specs.Words.{Row}
use Rattle.ea_options.specs.declared.chosen.Counts.{Counts}
use Rattle.ea_options.specs.declared.chosen.Departures.{Departures}
use Rattle.ea_options.specs.declared.chosen.Flags.{Flags}
use Rattle.ea_options.specs.declared.chosen.Queue.{Queue}
use Rattle.ea_options.specs.Limits.{IsUpTo}
use Rattle.ea_options.specs.Meaning.{◌>>=◌, direction_of}
use Rattle.ea_options.specs.Values.{chosen_of, option_of, is_given}

-- The parts of `options_of`.
unfoldable pub counts_of : List Row → Option Counts
counts_of rows = do
  workers ← chosen_of (codes "workers") 1 MOST_WORKERS rows
  at_once ← chosen_of (codes "at-once") 1 MOST_AT_ONCE rows
  batch ← chosen_of (codes "batch") 1 MOST_BATCH rows
  Some (record { workers = workers; at_once = at_once; batch = batch })

unfoldable pub queue_of : List Row → Option Queue
queue_of rows = do
  heaps ← option_of (codes "heaps") DEFAULT_HEAPS LEAST_HEAPS MOST_HEAPS rows
  turns ← option_of (codes "turns") DEFAULT_TURNS 0 MOST_TURNS rows
  seed ← option_of (codes "seed") DEFAULT_SEED 0 18446744073709551615 rows
  Some (record { heaps = heaps; turns = turns; seed = seed })

unfoldable pub departures_of : List Row → Option Departures
departures_of rows = do
  depart ← option_of (codes "depart") DEFAULT_DEPARTURE 0 HORIZON rows
  arrive ← chosen_of (codes "arrive") 0 HORIZON rows
  gap ← option_of (codes "gap") DEFAULT_GAP 0 HORIZON rows
  direction ← direction_of rows
  Some (record { depart = unwrap_or arrive depart; gap = gap; direction = direction })

abbrev pub flags_of : List Row → Flags
flags_of rows = record {
  joint = is_given (codes "joint") rows;
  walks = is_given (codes "walks") rows;
  stats = is_given (codes "stats") rows;
  progress = is_given (codes "progress") rows;
}

-- The parts of `AreOptions`.
pub record AreCounts (counts : Counts) : Type 0 where
  pub workers : IfSome counts.workers (IsUpTo MOST_WORKERS)
  pub at_once : IfSome counts.at_once (IsUpTo MOST_AT_ONCE)
  pub batch : IfSome counts.batch (IsUpTo MOST_BATCH)

pub record IsQueue (queue : Queue) : Type 0 where
  pub two_heaps : LEAST_HEAPS ≤ queue.heaps
  pub heaps : queue.heaps ≤ MOST_HEAPS
  pub turns : queue.turns ≤ MOST_TURNS

pub record AreDepartures (departures : Departures) : Type 0 where
  pub depart : departures.depart ≤ HORIZON
  pub gap : departures.gap ≤ HORIZON
