-- The limits of options, and their defaults.
use Rattle.std.specs.Prelude.{ℕ, ◌≤◌, IfSome, if◌then◌else◌, nat_le, unwrap_or}
use Rattle.ea_base.specs.declared.limits.TheConstants.{HORIZON, LEAST_HEAPS, MOST_AT_ONCE, MOST_BATCH, MOST_HEAPS, MOST_TURNS, MOST_WORKERS}
use Rattle.ea_options.specs.declared.defaults.TheConstants.{DEFAULT_COUNTED_WORKERS}
use Rattle.ea_options.specs.declared.options.RunOptions.{RunOptions}
use Rattle.ea_options.specs.declared.options.Command.{Command}
use Rattle.ea_options.specs.declared.options.Command.TheVariants.{Stored, Run, Pairs, Rank, Check, Explain, Formats}

-- An optional number is from 1 to its limit, if it is given.
abbrev pub IsUpTo : ℕ → ℕ → Type 0
IsUpTo most n = (1 ≤ n) × (n ≤ most)

pub record AreOptions (options : RunOptions) : Type 0 where
  pub workers : IfSome options.workers (IsUpTo MOST_WORKERS)
  pub at_once : IfSome options.at_once (IsUpTo MOST_AT_ONCE)
  pub batch : IfSome options.batch (IsUpTo MOST_BATCH)
  pub two_heaps : LEAST_HEAPS ≤ options.heaps
  pub heaps : options.heaps ≤ MOST_HEAPS
  pub turns : options.turns ≤ MOST_TURNS
  pub depart : options.depart ≤ HORIZON
  pub gap : options.gap ≤ HORIZON

-- The options of a command are within the limits.
abbrev pub HasLimits : Command → Type 0
HasLimits Stored = Unit {0}
HasLimits (Run gr ss tp times nodes output options) = AreOptions options
HasLimits (Pairs gr p2p tp times output options) = AreOptions options
HasLimits (Rank gr ss tp output options) = AreOptions options
HasLimits (Check gr ss tp times report options) = AreOptions options
HasLimits (Explain fault) = Unit {0}
HasLimits Formats = Unit {0}

-- The workers that statistics and rank errors count: as asked for, else one if several problems are to be
-- searched at once, else 4.
abbrev pub counted_workers : RunOptions → ℕ
counted_workers options = unwrap_or options.workers (if nat_le 2 (unwrap_or options.at_once 1) then 1 else DEFAULT_COUNTED_WORKERS)
