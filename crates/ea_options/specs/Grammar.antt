-- The arguments of each command, as clap knows them.
use Rattle.std.specs.Prelude.{true, codes, Some}
use Rattle.clap.specs.Words.{App, Rule, Text, new_app, new_rule, with_rule, with_subcommand}
use Rattle.clap.specs.declared.builder.action.ArgAction.TheVariants.{Set, SetTrue}

-- An option with a value, a flag, and the name of a file.
abbrev pub valued : Text → Rule
valued name = record (new_rule name) { long = Some name; action = Some Set; value_names = 1 }

abbrev pub flag : Text → Rule
flag name = record (new_rule name) { long = Some name; action = Some SetTrue }

abbrev pub file : Text → Rule
file name = record (new_rule name) { action = Some Set; required = true; value_names = 1 }

-- An optional word.
abbrev pub optional : Text → Rule
optional name = record (new_rule name) { action = Some Set; value_names = 1 }

-- The file that a report goes to: `--output` or `-o`.
abbrev pub output : Rule
output = record (valued (codes "output")) { short = Some 111 }

abbrev pub with_output : App → App
with_output app = with_rule app output

-- The options for standard error: progress, and what a fault means.
abbrev pub with_telling : App → App
with_telling app = with_rule (with_rule app (flag (codes "progress"))) (flag (codes "explain"))

-- The timetables and the departures, which each command has.
abbrev pub with_departures : App → App
with_departures app = with_rule (with_rule (with_rule app
    (valued (codes "tp"))) (valued (codes "depart"))) (valued (codes "gap"))

-- The other ways to say when: own departures, and times by which targets have to be reached.
abbrev pub with_times : App → App
with_times app = with_rule (with_rule (with_rule app
    (valued (codes "departs"))) (valued (codes "arrive"))) (valued (codes "arrives"))

-- The options for workers.
abbrev pub with_workers : App → App
with_workers app = with_rule (with_rule (with_rule app
    (valued (codes "workers"))) (valued (codes "heaps"))) (valued (codes "seed"))

-- The problems searched at once, the batches and turns of workers, and the contents of a report.
abbrev pub with_report : App → App
with_report app = with_rule (with_rule (with_rule (with_rule (with_rule app
    (valued (codes "at-once"))) (valued (codes "batch"))) (valued (codes "turns"))) (flag (codes "walks"))) (flag (codes "stats"))

unfoldable pub run_app : App
run_app = with_telling (with_output (with_rule (with_rule (with_report (with_workers (with_times (with_departures (with_rule (with_rule (new_app (codes "run"))
    (file (codes "gr"))) (file (codes "ss"))))))) (valued (codes "nodes"))) (flag (codes "joint"))))

unfoldable pub pairs_app : App
pairs_app = with_telling (with_output (with_rule (with_report (with_workers (with_times (with_departures (with_rule (with_rule (new_app (codes "pairs"))
    (file (codes "gr"))) (file (codes "p2p"))))))) (valued (codes "prepare"))))

unfoldable pub rank_app : App
rank_app = with_telling (with_output (with_workers (with_departures (with_rule (with_rule (new_app (codes "rank"))
    (file (codes "gr"))) (file (codes "ss"))))))

unfoldable pub check_app : App
check_app = with_telling (with_rule (with_times (with_departures (with_rule (with_rule (with_rule (new_app (codes "check"))
    (file (codes "gr"))) (file (codes "ss"))) (file (codes "report"))))) (flag (codes "joint")))

-- The commands without files.
unfoldable pub explain_app : App
explain_app = with_rule (new_app (codes "explain")) (optional (codes "fault"))

unfoldable pub formats_app : App
formats_app = new_app (codes "formats")

-- The program, for words that begin with no command's name: they are refused, or ask for help or the version.
abbrev pub bare_program : App
bare_program = let app = new_app (codes "earliest") in
    record app { top = record app.top { no_binary_name = true; has_version = true; subcommand_required = true } }

unfoldable pub program : App
program = with_subcommand (with_subcommand (with_subcommand (with_subcommand (with_subcommand (with_subcommand bare_program
    run_app.top) pairs_app.top) rank_app.top) check_app.top) explain_app.top) formats_app.top
