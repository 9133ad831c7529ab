-- The limits of settings.
use Rattle.std.specs.Prelude.{◌≤◌}
use Rattle.ea_base.specs.declared.limits.TheConstants.{LEAST_HEAPS, MOST_BATCH, MOST_HEAPS, MOST_PATIENCE, MOST_TURNS, MOST_WORKERS}
use Rattle.ea_engine.specs.declared.settings.Pace.{Pace}
use Rattle.ea_engine.specs.declared.settings.Settings.{Settings}

pub record AreSettings (settings : Settings) : Type 0 where
  pub some_worker : 1 ≤ settings.workers
  pub workers : settings.workers ≤ MOST_WORKERS
  pub two_heaps : LEAST_HEAPS ≤ settings.heaps
  pub heaps : settings.heaps ≤ MOST_HEAPS
  pub turns : settings.turns ≤ MOST_TURNS
  pub some_batch : 1 ≤ settings.batch
  pub batch : settings.batch ≤ MOST_BATCH
  pub some_patience : 1 ≤ settings.patience
  pub patience : settings.patience ≤ MOST_PATIENCE

-- The pace of each worker.
abbrev pub pace_of : Settings → Pace
pace_of settings = record { turns = settings.turns; batch = settings.batch; patience = settings.patience }

-- The limits of a worker's pace.
pub record IsPace (pace : Pace) : Type 0 where
  pub turns : pace.turns ≤ MOST_TURNS
  pub some_batch : 1 ≤ pace.batch
  pub batch : pace.batch ≤ MOST_BATCH
  pub some_patience : 1 ≤ pace.patience
  pub patience : pace.patience ≤ MOST_PATIENCE
