-- A command that wants a report has one; a command's files are named if each name is present.
use Rattle.std.proofs.Common.{◌≡◌, List, Bool, true, false, true≢false, is_some, refl, ap, sym, ◌∙◌}
use Rattle.std.specs.Prelude.{Option, Some, None, codes, option_map, unwrap_or}
use Rattle.std.proofs.lemmas.Option.{none-some}
use Rattle.clap.specs.Words.{Row, Text, first_of}
use Rattle.ea_options.specs.declared.meaning.Names.{Names}
use Rattle.ea_options.specs.declared.options.RunOptions.{RunOptions}
use Rattle.ea_options.specs.Meaning.{Files, ask_by, check, check_verb, files, files_of, wanted, ◌>>=◌}
use Rattle.ea_options.specs.Values.{either_of}

-- The files of names.
chain : Option Text → Option Text → Option (Option Text) → Option Text → Option Text → Option Text → Option Text → Option Files
chain gr starts report tp times nodes output = gr >>= λ a. starts >>= λ b. report >>= λ c. Some (record { gr = a; starts = b; tp = tp; times = times; nodes = nodes; report = c; output = output })

no_name : (gr starts : Option Text) (report tp times nodes output : Option Text) (files : Files) → chain gr starts (wanted true report) tp times nodes output ≡ Some files → files.report ≡ None → ⊥
unfolding chain
no_name None starts report tp times nodes output files made none = none-some files made
no_name (Some a) None report tp times nodes output files made none = none-some files made
no_name (Some a) (Some b) None tp times nodes output files made none = none-some files made
no_name (Some a) (Some b) (Some c) tp times nodes output files made none =
    none-some c (sym none ∙ sym (ap (λ (o : Option Files). (unwrap_or o files).report) made))

pub has_report : (second : Text) (rows : List Row) (files : Files) → files_of second true rows ≡ Some files → files.report ≡ None → ⊥
unfolding files_of chain
has_report second rows files made none = no_name (first_of (codes "gr") rows) (first_of second rows) (first_of (codes "report") rows) (first_of (codes "tp") rows) (either_of (first_of (codes "departs") rows) (first_of (codes "arrives") rows)) (first_of (codes "nodes") rows) (first_of (codes "output") rows) files made none

all_named : (gr starts : Option Text) (report : Option (Option Text)) (tp times nodes output : Option Text) → is_some gr ≡ true → is_some starts ≡ true → is_some report ≡ true → is_some (chain gr starts report tp times nodes output) ≡ true
unfolding chain
all_named None starts report tp times nodes output a b c = absurd (true≢false (sym a))
all_named (Some gr) None report tp times nodes output a b c = absurd (true≢false (sym b))
all_named (Some gr) (Some starts) None tp times nodes output a b c = absurd (true≢false (sym c))
all_named (Some gr) (Some starts) (Some report) tp times nodes output a b c = refl

pub unwanted : (name : Option Text) → is_some (wanted false name) ≡ true
unwanted name = refl

pub there : (name : Option Text) → is_some name ≡ true → is_some (wanted true name) ≡ true
there None some = absurd (true≢false (sym some))
there (Some name) some = refl

pub has_files : (second : Text) (reported : Bool) (rows : List Row) → is_some (first_of (codes "gr") rows) ≡ true → is_some (first_of second rows) ≡ true
    → is_some (wanted reported (first_of (codes "report") rows)) ≡ true → is_some (files_of second reported rows) ≡ true
unfolding files_of chain
has_files second reported rows = all_named (first_of (codes "gr") rows) (first_of second rows) (wanted reported (first_of (codes "report") rows)) (first_of (codes "tp") rows) (either_of (first_of (codes "departs") rows) (first_of (codes "arrives") rows)) (first_of (codes "nodes") rows) (first_of (codes "output") rows)

pub report_there : (second : Text) (rows : List Row) (files : Files) → files_of second true rows ≡ Some files → is_some files.report ≡ true
report_there second rows files made = go files.report refl
  where
    go : (report : Option Text) → files.report ≡ report → is_some report ≡ true
    go None none = absurd (has_report second rows files made none)
    go (Some report) some = refl

-- The command, if the report that is checked is named.
pub check_asked : (names : Names) (report : Text) (options : RunOptions) → option_map (λ t. t.now) names.report ≡ Some report
    → ask_by check_verb (files names) options ≡ check (record { gr = names.gr.now; starts = names.starts.now; tp = option_map (λ t. t.now) names.tp; times = option_map (λ t. t.now) names.times; nodes = None; report = Some report; output = None }) options
check_asked names report options is = ap (λ (o : Option Text). check (record (files names) { nodes = None; report = o; output = None }) options) is
