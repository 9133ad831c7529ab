-- What words ask for. No words ask for the built-in run. Words that begin with a command's name ask for what
-- clap makes of the others, with the defaults and limits of each option.
use Rattle.std.specs.Prelude.{ℕ, ◌+◌, ◌&&◌, Bool, true, false, nat_le, unwrap_or, List, codes, Option, Some, None, option_and_then, option_map, if◌then◌else◌}
use Rattle.std.specs.Str.{bytes_eq}
use Rattle.ea_base.specs.declared.direction.Direction.{Direction}
use Rattle.ea_base.specs.declared.direction.Direction.TheVariants.{Forward, Turned}
use Rattle.ea_base.specs.declared.limits.TheConstants.{HORIZON, LEAST_HEAPS, MOST_AT_ONCE, MOST_BATCH, MOST_HEAPS, MOST_TURNS, MOST_WORKERS}
use Rattle.ea_options.specs.declared.defaults.TheConstants.{DEFAULT_DEPARTURE, DEFAULT_GAP, DEFAULT_HEAPS, DEFAULT_SEED, DEFAULT_TURNS}
use Rattle.clap.specs.Words.{App, Row, Text, first_of, matches_of}
use Rattle.ea_options.specs.declared.meaning.Names.{Names}
use Rattle.ea_options.specs.declared.options.RunOptions.{RunOptions}
use Rattle.ea_options.specs.declared.options.Command.{Command}
use Rattle.ea_options.specs.declared.options.Command.TheVariants as command
use Rattle.ea_options.specs.Grammar.{run_app, pairs_app, rank_app, check_app}
use Rattle.ea_options.specs.Values.{chosen_of, chosen_yes_or_no_of, either_of, given, option_of, is_given}

infixl 10 ◌>>=◌
abbrev pub ◌>>=◌ : {A B : Type 0} → Option A → (A → Option B) → Option B
o >>= f = option_and_then f o

-- At most one option says when, and a file of times leaves no gap to be said.
abbrev pub is_clear : List Row → Bool
is_clear rows =
    nat_le (given (first_of (codes "depart") rows) + given (first_of (codes "departs") rows) + given (first_of (codes "arrive") rows) + given (first_of (codes "arrives") rows)) 1
    && nat_le (given (first_of (codes "departs") rows) + given (first_of (codes "arrives") rows) + given (first_of (codes "gap") rows)) 1

-- Times by which targets have to be reached turn the question round.
abbrev pub direction_of : List Row → Option Direction
direction_of rows =
    if is_clear rows then
    (if nat_le 1 (given (first_of (codes "arrive") rows) + given (first_of (codes "arrives") rows)) then Some Turned else Some Forward)
    else None

-- The values of the options, if each takes its value and none excludes another.
unfoldable pub options_of : List Row → Option RunOptions
options_of rows = do
  workers ← chosen_of (codes "workers") 1 MOST_WORKERS rows
  at_once ← chosen_of (codes "at-once") 1 MOST_AT_ONCE rows
  batch ← chosen_of (codes "batch") 1 MOST_BATCH rows
  heaps ← option_of (codes "heaps") DEFAULT_HEAPS LEAST_HEAPS MOST_HEAPS rows
  turns ← option_of (codes "turns") DEFAULT_TURNS 0 MOST_TURNS rows
  seed ← option_of (codes "seed") DEFAULT_SEED 0 18446744073709551615 rows
  depart ← option_of (codes "depart") DEFAULT_DEPARTURE 0 HORIZON rows
  arrive ← chosen_of (codes "arrive") 0 HORIZON rows
  gap ← option_of (codes "gap") DEFAULT_GAP 0 HORIZON rows
  direction ← direction_of rows
  prepare ← chosen_yes_or_no_of (codes "prepare") rows
  Some (record {
    joint = is_given (codes "joint") rows;
    walks = is_given (codes "walks") rows;
    stats = is_given (codes "stats") rows;
    progress = is_given (codes "progress") rows;
    workers = workers;
    at_once = at_once;
    batch = batch;
    prepare = prepare;
    heaps = heaps;
    turns = turns;
    seed = seed;
    depart = unwrap_or arrive depart;
    gap = gap;
    direction = direction;
  })

-- The names of a command's files. A report is checked, or an output written.
pub record Files : Type 0 where
  pub gr : Text
  pub starts : Text
  pub tp : Option Text
  pub times : Option Text
  pub nodes : Option Text
  pub report : Option Text
  pub output : Option Text

abbrev pub files : Names → Files
files names = record {
  gr = names.gr.now;
  starts = names.starts.now;
  tp = option_map (λ t. t.now) names.tp;
  times = option_map (λ t. t.now) names.times;
  nodes = option_map (λ t. t.now) names.nodes;
  report = option_map (λ t. t.now) names.report;
  output = option_map (λ t. t.now) names.output;
}

-- The name `-` means standard input, for at most one file.
abbrev pub input_by : Text → ℕ
input_by name = if bytes_eq name (codes "-") then 1 else 0

abbrev pub input_if_named : Option Text → ℕ
input_if_named None = 0
input_if_named (Some name) = input_by name

abbrev pub has_input_twice : Files → Bool
has_input_twice files =
    nat_le 2 (input_by files.gr + input_by files.starts + input_if_named files.tp + input_if_named files.times + input_if_named files.nodes + input_if_named files.report)

-- A name that is required only if it is wanted.
abbrev pub wanted : Bool → Option Text → Option (Option Text)
wanted true None = None
wanted true (Some name) = Some (Some name)
wanted false name = Some name

-- The files in a command's rows. `second` names the second file; a report may be wanted.
unfoldable pub files_of : Text → Bool → List Row → Option Files
files_of second reported rows = do
  gr ← first_of (codes "gr") rows
  starts ← first_of second rows
  report ← wanted reported (first_of (codes "report") rows)
  Some (record {
    gr = gr;
    starts = starts;
    tp = first_of (codes "tp") rows;
    times = either_of (first_of (codes "departs") rows) (first_of (codes "arrives") rows);
    nodes = first_of (codes "nodes") rows;
    report = report;
    output = first_of (codes "output") rows;
  })

-- What is asked for: the built-in run, a command's files and options, what a fault means, or the formats.
pub data Asked : Type 0 where
  stored : Asked
  run : Files → RunOptions → Asked
  pairs : Files → RunOptions → Asked
  rank : Files → RunOptions → Asked
  check : Files → RunOptions → Asked
  explain : Option Text → Asked
  formats : Asked

abbrev pub asked : Command → Asked
asked command.Stored = stored
asked (command.Run gr ss tp times nodes output options) = run (record { gr = gr.now; starts = ss.now; tp = option_map (λ t. t.now) tp; times = option_map (λ t. t.now) times; nodes = option_map (λ t. t.now) nodes; report = None; output = option_map (λ t. t.now) output }) options
asked (command.Pairs gr p2p tp times output options) = pairs (record { gr = gr.now; starts = p2p.now; tp = option_map (λ t. t.now) tp; times = option_map (λ t. t.now) times; nodes = None; report = None; output = option_map (λ t. t.now) output }) options
asked (command.Rank gr ss tp output options) = rank (record { gr = gr.now; starts = ss.now; tp = option_map (λ t. t.now) tp; times = None; nodes = None; report = None; output = option_map (λ t. t.now) output }) options
asked (command.Check gr ss tp times report options) = check (record { gr = gr.now; starts = ss.now; tp = option_map (λ t. t.now) tp; times = option_map (λ t. t.now) times; nodes = None; report = Some report.now; output = None }) options
asked (command.Explain fault) = explain (option_map (λ t. t.now) fault)
asked command.Formats = formats

-- The commands, as clap knows them, the name of each one's second file, and whether it wants a report.
pub data Verb : Type 0 where
  run_verb : Verb
  pairs_verb : Verb
  rank_verb : Verb
  check_verb : Verb

-- What a first word names: a command with files, one of those without, or none.
pub data Head : Type 0 where
  of_files : Verb → Head
  of_explain : Head
  of_formats : Head
  of_none : Head

abbrev pub head_of : Text → Head
head_of word =
    if bytes_eq word (codes "run") then of_files run_verb else
    (if bytes_eq word (codes "pairs") then of_files pairs_verb else
    (if bytes_eq word (codes "rank") then of_files rank_verb else
    (if bytes_eq word (codes "check") then of_files check_verb else
    (if bytes_eq word (codes "explain") then of_explain else
    (if bytes_eq word (codes "formats") then of_formats else of_none)))))

abbrev pub app_by : Verb → App
app_by run_verb = run_app
app_by pairs_verb = pairs_app
app_by rank_verb = rank_app
app_by check_verb = check_app

abbrev pub second_by : Verb → Text
second_by run_verb = codes "ss"
second_by pairs_verb = codes "p2p"
second_by rank_verb = codes "ss"
second_by check_verb = codes "ss"

abbrev pub reported_by : Verb → Bool
reported_by run_verb = false
reported_by pairs_verb = false
reported_by rank_verb = false
reported_by check_verb = true

-- Each command has its own optional files: a check has no output and the others check no report; only a run
-- has asked nodes, and rank errors have no own times.
abbrev pub own_files : Verb → Files → Files
own_files run_verb files = record files { report = None }
own_files pairs_verb files = record files { nodes = None; report = None }
own_files rank_verb files = record files { times = None; nodes = None; report = None }
own_files check_verb files = record files { nodes = None; output = None }

abbrev pub ask_by : Verb → Files → RunOptions → Asked
ask_by run_verb files = run (own_files run_verb files)
ask_by pairs_verb files = pairs (own_files pairs_verb files)
ask_by rank_verb files = rank (own_files rank_verb files)
ask_by check_verb files = check (own_files check_verb files)

-- The files and the options that clap makes of a command's words.
abbrev pub files_by : Verb → List Text → Option Files
files_by verb words = files_of (second_by verb) (reported_by verb) (matches_of (app_by verb) words)

abbrev pub options_by : Verb → List Text → Option RunOptions
options_by verb words = options_of (matches_of (app_by verb) words)

-- What they ask for, if at most one file is standard input.
abbrev pub asked_once : Verb → Files → RunOptions → Option Asked
asked_once verb files options = if has_input_twice files then None else Some (ask_by verb files options)

abbrev pub meaning_by : Verb → List Text → Option Asked
meaning_by verb words = files_by verb words >>= λ files. options_by verb words >>= λ options. asked_once verb files options
