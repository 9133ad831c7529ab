-- Why words are refused.
use Rattle.std.specs.Prelude.{◌≡◌, ◌⊎◌, Bool, true, false, List, [], ◌∷◌, codes, Result, Some, None}
use Rattle.clap.specs.Words.{Kinds, IsAmong, Row, Text, fault_of, first_of, matches_of}
use Rattle.clap.specs.Words.{kind_of}
use Rattle.clap.specs.declared.builder.command.Command.{Command as Clap}
use Rattle.clap.specs.declared.error.Error.{Error}
use Rattle.clap.specs.declared.error.kind.ErrorKind.{ErrorKind}
use Rattle.clap.specs.declared.error.kind.ErrorKind.TheVariants as kind
use Rattle.clap.specs.declared.error.kind.ErrorKind.TheVariants.{DisplayHelp, DisplayVersion, InvalidSubcommand}
use Rattle.ea_options.specs.declared.fault.CommandFault.{CommandFault}
use Rattle.ea_options.specs.declared.fault.CommandFault.TheVariants.{Words, BadOption, OutOfMemory}
use Rattle.ea_options.specs.declared.options.Command.{Command}
use Rattle.ea_options.specs.declared.options.RunOptions.{RunOptions}
use Rattle.ea_options.specs.Building.{Builds}
use Rattle.ea_options.specs.Grammar.{explain_app, formats_app, program}
use Rattle.ea_options.specs.Meaning.{Files, Head, Verb, of_files, of_explain, of_formats, of_none, stored, explain, formats, head_of, app_by, second_by, reported_by, meaning_by, asked, files_by, files_of, has_input_twice, options_by, options_of}

-- Whether a text of this kind was asked for.
abbrev pub is_shown : ErrorKind → Bool
is_shown DisplayHelp = true
is_shown DisplayVersion = true
is_shown _ = false

-- The kinds of error that clap gives for the words, none if it takes them. Words that begin with no command's
-- name are always refused.
abbrev pub some_kind : Kinds → Kinds
some_kind [] = InvalidSubcommand ∷ []
some_kind (kind ∷ kinds) = kind ∷ kinds

abbrev pub kinds_by : Head → List Text → Kinds
kinds_by (of_files verb) words = fault_of (app_by verb) words
kinds_by of_explain words = fault_of explain_app words
kinds_by of_formats words = fault_of formats_app words
kinds_by of_none words = some_kind (fault_of program words)

-- The names are present, and some option doesn't take its value or excludes another, or two files are standard
-- input.
abbrev pub HasBadOption : Text → Bool → List Row → Type 0
HasBadOption second reported rows =
    (files : Files) × (files_of second reported rows ≡ Some files) × ((options_of rows ≡ None) ⊎ (has_input_twice files ≡ true))

abbrev pub IsBadBy : Head → List Text → Type 0
IsBadBy (of_files verb) words = HasBadOption (second_by verb) (reported_by verb) (matches_of (app_by verb) words)
IsBadBy _ words = ⊥

-- A text has one of the kinds, and says whether it was asked for.
abbrev pub IsTextOf : Kinds → Bool → Type 0
IsTextOf kinds help = (kind : ErrorKind) × IsAmong kind kinds × (help ≡ is_shown kind)

-- A refusal for these kinds of clap's.
abbrev pub IsRefusalBy : Kinds → CommandFault → Type 0
IsRefusalBy kinds (Words help text) = IsTextOf kinds help
IsRefusalBy kinds BadOption = ⊥
IsRefusalBy kinds OutOfMemory = Unit {0}

-- The fault for clap's error.
abbrev pub IsFaultOf : Error → CommandFault → Type 0
IsFaultOf error (Words help text) = ((kind_of error ≡ kind.OutOfMemory) → ⊥) × (help ≡ is_shown (kind_of error))
IsFaultOf error BadOption = ⊥
IsFaultOf error OutOfMemory = Unit {0}

-- A text that was not asked for, or refused memory.
abbrev pub IsComplaint : CommandFault → Type 0
IsComplaint (Words help text) = help ≡ false
IsComplaint BadOption = ⊥
IsComplaint OutOfMemory = Unit {0}

-- Why rows that name all files are refused: an option's value is bad, and nothing else.
abbrev pub IsUnasked : Text → Bool → List Row → CommandFault → Type 0
IsUnasked second reported rows (Words help text) = ⊥
IsUnasked second reported rows BadOption = HasBadOption second reported rows
IsUnasked second reported rows OutOfMemory = ⊥

-- Why words with this head are refused. A text only if clap refuses the words, and it says whether it was
-- asked for; BadOption only if clap takes them; memory may always be refused.
abbrev pub IsRefusedBy : Head → List Text → CommandFault → Type 0
IsRefusedBy head words (Words help text) = IsTextOf (kinds_by head words) help
IsRefusedBy head words BadOption = (kinds_by head words ≡ []) × IsBadBy head words
IsRefusedBy head words OutOfMemory = Unit {0}

-- A command with files as it is built, the name of its second file, and whether it wants a report.
pub record IsReadBy (verb : Verb) {E : Type 0} (command : Result Clap E) (second : Text) (reported : Bool) : Type 0 where
  pub built : Builds (app_by verb) command
  pub called : second ≡ second_by verb
  pub wants : reported ≡ reported_by verb

-- Clap takes the words of a command with files, and they name these files and have these options.
pub record IsAskedBy (verb : Verb) (words : List Text) (files : Files) (options : RunOptions) : Type 0 where
  pub taken : kinds_by (of_files verb) words ≡ []
  pub named : files_by verb words ≡ Some files
  pub read : options_by verb words ≡ Some options
  pub once : has_input_twice files ≡ false

-- Clap takes the words of a command, and they ask for this.
pub record AsksBy (verb : Verb) (words : List Text) (command : Command) : Type 0 where
  pub taken : kinds_by (of_files verb) words ≡ []
  pub means : meaning_by verb words ≡ Some (asked command)

abbrev pub IsRefusal : List Text → CommandFault → Type 0
IsRefusal [] fault = ⊥
IsRefusal (word ∷ words) fault = IsRefusedBy (head_of word) (word ∷ words) fault

-- Clap takes words that ask what a fault means, and they name this one or none; or words that ask for the
-- formats.
abbrev pub AsksAs : Head → List Text → Command → Type 0
AsksAs (of_files verb) words command = AsksBy verb words command
AsksAs of_explain words command =
    (kinds_by of_explain words ≡ []) × (asked command ≡ explain (first_of (codes "fault") (matches_of explain_app words)))
AsksAs of_formats words command = (kinds_by of_formats words ≡ []) × (asked command ≡ formats)
AsksAs of_none words command = ⊥

-- No words ask for the built-in run, others for what their command makes of them.
abbrev pub Asks : List Text → Command → Type 0
Asks [] command = asked command ≡ stored
Asks (word ∷ words) command = AsksAs (head_of word) (word ∷ words) command
