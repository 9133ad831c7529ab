-- The options of a command are its parts together.
use Rattle.std.proofs.Common.{◌≡◌, ◌∙◌, ℕ, Bool, List, refl, sym, ap}
use Rattle.std.specs.Prelude.{Option, Some, None, codes, unwrap_or}
use Rattle.ea_base.specs.declared.direction.Direction.{Direction}
use Rattle.ea_base.specs.declared.limits.TheConstants.{HORIZON, LEAST_HEAPS, MOST_AT_ONCE, MOST_BATCH, MOST_HEAPS, MOST_TURNS, MOST_WORKERS}
use Rattle.ea_options.specs.declared.defaults.TheConstants.{DEFAULT_DEPARTURE, DEFAULT_GAP, DEFAULT_HEAPS, DEFAULT_SEED, DEFAULT_TURNS}
use Rattle.clap.specs.Words.{Row}
use Rattle.ea_options.specs.declared.chosen.Counts.{Counts}
use Rattle.ea_options.specs.declared.chosen.Departures.{Departures}
use Rattle.ea_options.specs.declared.chosen.Flags.{Flags}
use Rattle.ea_options.specs.declared.chosen.Queue.{Queue}
use Rattle.ea_options.specs.declared.options.RunOptions.{RunOptions}
use Rattle.ea_options.specs.Chosen.{counts_of, departures_of, flags_of, queue_of}
use Rattle.ea_options.specs.Meaning.{◌>>=◌, direction_of, options_of}
use Rattle.ea_options.specs.Values.{chosen_of, chosen_yes_or_no_of, option_of}

-- Whether the road is prepared.
abbrev prepare_of : List Row → Option (Option Bool)
prepare_of rows = chosen_yes_or_no_of (codes "prepare") rows

together : Counts → Queue → Departures → Option Bool → Flags → RunOptions
together counts queue departures prepare flags = record {
  joint = flags.joint;
  walks = flags.walks;
  stats = flags.stats;
  progress = flags.progress;
  workers = counts.workers;
  at_once = counts.at_once;
  batch = counts.batch;
  prepare = prepare;
  heaps = queue.heaps;
  turns = queue.turns;
  seed = queue.seed;
  depart = departures.depart;
  gap = departures.gap;
  direction = departures.direction;
}

joined : Option Counts → Option Queue → Option Departures → Option (Option Bool) → Flags → Option RunOptions
joined counts queue departures prepare flags = counts >>= λ c. queue >>= λ q. departures >>= λ d. prepare >>= λ p. Some (together c q d p flags)

in_turn : (workers at_once batch : Option (Option ℕ)) (heaps turns seed depart : Option ℕ) (arrive : Option (Option ℕ)) (gap : Option ℕ) (direction : Option Direction) (prepare : Option (Option Bool)) → Flags → Option RunOptions
in_turn workers at_once batch heaps turns seed depart arrive gap direction prepare flags =
    workers >>= λ w. at_once >>= λ a. batch >>= λ b. heaps >>= λ h. turns >>= λ t. seed >>= λ s. depart >>= λ d. arrive >>= λ by. gap >>= λ g. direction >>= λ way. prepare >>= λ p.
    Some (together (record { workers = w; at_once = a; batch = b }) (record { heaps = h; turns = t; seed = s }) (record { depart = unwrap_or by d; gap = g; direction = way }) p flags)

counted : (workers at_once batch : Option (Option ℕ)) → Option Counts
counted workers at_once batch = workers >>= λ w. at_once >>= λ a. batch >>= λ b. Some (record { workers = w; at_once = a; batch = b })

queued : (heaps turns seed : Option ℕ) → Option Queue
queued heaps turns seed = heaps >>= λ h. turns >>= λ t. seed >>= λ s. Some (record { heaps = h; turns = t; seed = s })

departing : (depart : Option ℕ) (arrive : Option (Option ℕ)) (gap : Option ℕ) (direction : Option Direction) → Option Departures
departing depart arrive gap direction = depart >>= λ d. arrive >>= λ by. gap >>= λ g. direction >>= λ way. Some (record { depart = unwrap_or by d; gap = g; direction = way })

in_parts : (workers at_once batch : Option (Option ℕ)) (heaps turns seed depart : Option ℕ) (arrive : Option (Option ℕ)) (gap : Option ℕ) (direction : Option Direction) (prepare : Option (Option Bool)) (flags : Flags)
    → in_turn workers at_once batch heaps turns seed depart arrive gap direction prepare flags ≡ joined (counted workers at_once batch) (queued heaps turns seed) (departing depart arrive gap direction) prepare flags
unfolding in_turn joined counted queued departing
in_parts None a b h t s d by g way p flags = refl
in_parts (Some w) None b h t s d by g way p flags = refl
in_parts (Some w) (Some a) None h t s d by g way p flags = refl
in_parts (Some w) (Some a) (Some b) None t s d by g way p flags = refl
in_parts (Some w) (Some a) (Some b) (Some h) None s d by g way p flags = refl
in_parts (Some w) (Some a) (Some b) (Some h) (Some t) None d by g way p flags = refl
in_parts (Some w) (Some a) (Some b) (Some h) (Some t) (Some s) None by g way p flags = refl
in_parts (Some w) (Some a) (Some b) (Some h) (Some t) (Some s) (Some d) None g way p flags = refl
in_parts (Some w) (Some a) (Some b) (Some h) (Some t) (Some s) (Some d) (Some by) None way p flags = refl
in_parts (Some w) (Some a) (Some b) (Some h) (Some t) (Some s) (Some d) (Some by) (Some g) None p flags = refl
in_parts (Some w) (Some a) (Some b) (Some h) (Some t) (Some s) (Some d) (Some by) (Some g) (Some way) None flags = refl
in_parts (Some w) (Some a) (Some b) (Some h) (Some t) (Some s) (Some d) (Some by) (Some g) (Some way) (Some p) flags = refl

of_parts : (rows : List Row) → options_of rows ≡ joined (counts_of rows) (queue_of rows) (departures_of rows) (prepare_of rows) (flags_of rows)
unfolding options_of counts_of queue_of departures_of in_turn counted queued departing together
of_parts rows = in_parts
    (chosen_of (codes "workers") 1 MOST_WORKERS rows) (chosen_of (codes "at-once") 1 MOST_AT_ONCE rows) (chosen_of (codes "batch") 1 MOST_BATCH rows)
    (option_of (codes "heaps") DEFAULT_HEAPS LEAST_HEAPS MOST_HEAPS rows) (option_of (codes "turns") DEFAULT_TURNS 0 MOST_TURNS rows) (option_of (codes "seed") DEFAULT_SEED 0 18446744073709551615 rows)
    (option_of (codes "depart") DEFAULT_DEPARTURE 0 HORIZON rows) (chosen_of (codes "arrive") 0 HORIZON rows) (option_of (codes "gap") DEFAULT_GAP 0 HORIZON rows) (direction_of rows) (prepare_of rows) (flags_of rows)

pub no_counts : (rows : List Row) → None ≡ counts_of rows → None ≡ options_of rows
unfolding joined
no_counts rows none = ap (λ (counts : Option Counts). joined counts (queue_of rows) (departures_of rows) (prepare_of rows) (flags_of rows)) none ∙ sym (of_parts rows)

pub no_queue : (rows : List Row) (counts : Counts) → Some counts ≡ counts_of rows → None ≡ queue_of rows → None ≡ options_of rows
unfolding joined
no_queue rows counts first none =
    ap (λ (queue : Option Queue). joined (Some counts) queue (departures_of rows) (prepare_of rows) (flags_of rows)) none
    ∙ ap (λ (counts : Option Counts). joined counts (queue_of rows) (departures_of rows) (prepare_of rows) (flags_of rows)) first ∙ sym (of_parts rows)

pub no_departures : (rows : List Row) (counts : Counts) (queue : Queue) → Some counts ≡ counts_of rows → Some queue ≡ queue_of rows → None ≡ departures_of rows → None ≡ options_of rows
unfolding joined
no_departures rows counts queue first second none =
    ap (λ (departures : Option Departures). joined (Some counts) (Some queue) departures (prepare_of rows) (flags_of rows)) none
    ∙ ap (λ (queue : Option Queue). joined (Some counts) queue (departures_of rows) (prepare_of rows) (flags_of rows)) second
    ∙ ap (λ (counts : Option Counts). joined counts (queue_of rows) (departures_of rows) (prepare_of rows) (flags_of rows)) first ∙ sym (of_parts rows)

-- The three parts are there.
three_there : (rows : List Row) (counts : Counts) (queue : Queue) (departures : Departures) → Some counts ≡ counts_of rows → Some queue ≡ queue_of rows → Some departures ≡ departures_of rows
    → joined (Some counts) (Some queue) (Some departures) (prepare_of rows) (flags_of rows) ≡ options_of rows
three_there rows counts queue departures first second third =
    ap (λ (departures : Option Departures). joined (Some counts) (Some queue) departures (prepare_of rows) (flags_of rows)) third
    ∙ ap (λ (queue : Option Queue). joined (Some counts) queue (departures_of rows) (prepare_of rows) (flags_of rows)) second
    ∙ ap (λ (counts : Option Counts). joined counts (queue_of rows) (departures_of rows) (prepare_of rows) (flags_of rows)) first ∙ sym (of_parts rows)

pub no_prepare : (rows : List Row) (counts : Counts) (queue : Queue) (departures : Departures) → Some counts ≡ counts_of rows → Some queue ≡ queue_of rows → Some departures ≡ departures_of rows
    → None ≡ chosen_yes_or_no_of (codes "prepare") rows → None ≡ options_of rows
unfolding joined
no_prepare rows counts queue departures first second third none =
    ap (λ (prepare : Option (Option Bool)). joined (Some counts) (Some queue) (Some departures) prepare (flags_of rows)) none
    ∙ three_there rows counts queue departures first second third

pub all_there : (rows : List Row) (counts : Counts) (queue : Queue) (departures : Departures) (prepare : Option Bool) (flags : Flags) → Some counts ≡ counts_of rows → Some queue ≡ queue_of rows
    → Some departures ≡ departures_of rows → Some prepare ≡ chosen_yes_or_no_of (codes "prepare") rows → flags ≡ flags_of rows → Some (record {
      joint = flags.joint;
      walks = flags.walks;
      stats = flags.stats;
      progress = flags.progress;
      workers = counts.workers;
      at_once = counts.at_once;
      batch = counts.batch;
      prepare = prepare;
      heaps = queue.heaps;
      turns = queue.turns;
      seed = queue.seed;
      depart = departures.depart;
      gap = departures.gap;
      direction = departures.direction;
    }) ≡ options_of rows
unfolding joined together
all_there rows counts queue departures prepare flags first second third fourth fifth =
    ap (joined (Some counts) (Some queue) (Some departures) (Some prepare)) fifth
    ∙ ap (λ (prepare : Option (Option Bool)). joined (Some counts) (Some queue) (Some departures) prepare (flags_of rows)) fourth
    ∙ three_there rows counts queue departures first second third
