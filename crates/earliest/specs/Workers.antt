-- How options set up the workers of a run.
use Rattle.std.specs.Prelude.{ℕ, ◌<◌, ◌==◌, List, if◌then◌else◌, length, slice_index_or, unwrap_or}
use Rattle.ea_engine.specs.declared.worker.home_heaps.Homing.{Homing}
use Rattle.ea_engine.specs.declared.settings.Settings.{Settings}
use Rattle.ea_engine.specs.Homes.{IsAtHome}
use Rattle.ea_rank_command.specs.Generators.{generator_from, seed_of_worker}
use Rattle.ea_options.specs.declared.defaults.TheConstants.{DEFAULT_BATCH}
use Rattle.ea_options.specs.Limits.{counted_workers}
use Rattle.ea_options.specs.declared.options.RunOptions.{RunOptions}

-- The size of batches for this many workers, if none is asked for.
abbrev pub batch_of : ℕ → ℕ
batch_of workers = if workers == 1 then 1 else DEFAULT_BATCH

-- The consecutive idle turns after which a worker ends.
abbrev pub patience_of : ℕ → ℕ
patience_of workers = if workers == 1 then 32 else 65536

-- This many workers, with the heaps, turns and batches that are asked for.
abbrev pub settings_with : RunOptions → ℕ → Settings
settings_with options workers = record {
  workers = workers;
  heaps = options.heaps;
  turns = options.turns;
  batch = unwrap_or options.batch (batch_of workers);
  patience = patience_of workers;
}

-- The workers whose turns are counted.
abbrev pub settings_by : RunOptions → Settings
settings_by options = settings_with options (counted_workers options)

-- The generator of each worker has its seed, and mostly draws its own heaps.
abbrev pub AreAtHome : ℕ → Settings → List (Homing (List ℕ)) → Type 0
AreAtHome seed settings rngs = (i : ℕ) (rng : Homing (List ℕ)) → i < length rngs → IsAtHome (generator_from (seed_of_worker seed i)) i settings.workers settings.heaps (slice_index_or rngs i rng)
