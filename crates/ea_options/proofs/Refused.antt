-- From clap's errors to the errors of words.
use Rattle.std.proofs.Common.{◌≡◌, ◌∙◌, Bool, false, List, [], ◌∷◌, ap, subst, sym, refl, Some, inl}
use Rattle.clap.specs.Words.{Kinds, Row, Text}
use Rattle.clap.specs.declared.error.kind.ErrorKind.TheVariants.{InvalidSubcommand}
use Rattle.ea_options.specs.declared.fault.CommandFault.{CommandFault}
use Rattle.ea_options.specs.declared.fault.CommandFault.TheVariants.{Words, BadOption, OutOfMemory}
use Rattle.clap.specs.Words.{fault_of, matches_of}
use Rattle.ea_options.specs.Grammar.{explain_app, formats_app, program}
use Rattle.ea_options.specs.declared.options.Command.{Command}
use Rattle.ea_options.specs.declared.options.RunOptions.{RunOptions}
use Rattle.ea_options.specs.Meaning.{Files, Verb, of_files, of_explain, of_formats, of_none, app_by, second_by, reported_by, ask_by, asked, files_by, files_of, options_by, options_of, meaning_by, has_input_twice}
use Rattle.ea_options.specs.Refusals.{AsksBy, HasBadOption, IsAskedBy, IsTextOf, IsRefusalBy, IsRefusedBy, IsComplaint, IsUnasked, some_kind}

-- A refusal stays one if there is always a kind.
pub kept_by_some : (kinds : Kinds) (help : Bool) → IsTextOf kinds help → IsTextOf (some_kind kinds) help
kept_by_some [] help text = absurd text.1
kept_by_some (kind ∷ kinds) help text = text

-- Words that clap takes and that begin with no command's name.
pub stray_text : (kinds : Kinds) (help : Bool) → kinds ≡ [] → help ≡ false → IsTextOf (some_kind kinds) help
stray_text kinds help none plain = rw none (InvalidSubcommand, inl refl, plain)

-- What clap refuses is refused.
pub refused_by_clap : (verb : Verb) (words : List Text) (fault : CommandFault) → IsRefusalBy (fault_of (app_by verb) words) fault → IsRefusedBy (of_files verb) words fault
refused_by_clap verb words (Words help text) refused = refused
refused_by_clap verb words BadOption refused = absurd refused
refused_by_clap verb words OutOfMemory refused = refused

pub explain_refused : (words : List Text) (fault : CommandFault) → IsRefusalBy (fault_of explain_app words) fault → IsRefusedBy of_explain words fault
explain_refused words (Words help text) refused = refused
explain_refused words BadOption refused = absurd refused
explain_refused words OutOfMemory refused = refused

pub formats_refused : (words : List Text) (fault : CommandFault) → IsRefusalBy (fault_of formats_app words) fault → IsRefusedBy of_formats words fault
formats_refused words (Words help text) refused = refused
formats_refused words BadOption refused = absurd refused
formats_refused words OutOfMemory refused = refused

pub stray_refused : (words : List Text) (fault : CommandFault) → IsRefusalBy (fault_of program words) fault → IsRefusedBy of_none words fault
stray_refused words (Words help text) refused = kept_by_some (fault_of program words) help refused
stray_refused words BadOption refused = absurd refused
stray_refused words OutOfMemory refused = refused

pub stray_taken : (words : List Text) (fault : CommandFault) → fault_of program words ≡ [] → IsComplaint fault → IsRefusedBy of_none words fault
stray_taken words (Words help text) taken missing = stray_text (fault_of program words) help taken missing
stray_taken words BadOption taken missing = absurd missing
stray_taken words OutOfMemory taken missing = missing

-- If an option's value is bad, the words that clap takes are refused.
pub unasked_refused : (verb : Verb) (words : List Text) (second : Text) (wants : Bool) (rows : List Row) (fault : CommandFault) → second ≡ second_by verb → wants ≡ reported_by verb
    → rows ≡ matches_of (app_by verb) words → fault_of (app_by verb) words ≡ [] → IsUnasked second wants rows fault → IsRefusedBy (of_files verb) words fault
unasked_refused verb words second wants rows (Words help text) called is same taken unasked = absurd unasked
unasked_refused verb words second wants rows BadOption called is same taken unasked =
    (taken, subst (λ (rows : List Row). HasBadOption (second_by verb) (reported_by verb) rows) same (subst (λ (wants : Bool). HasBadOption (second_by verb) wants rows) is (subst (λ (second : Text). HasBadOption second wants rows) called unasked)))
unasked_refused verb words second wants rows OutOfMemory called is same taken unasked = absurd unasked

-- Otherwise it names its files and has its options.
pub asked_by : (verb : Verb) (words : List Text) (second : Text) (wants : Bool) (rows : List Row) (files : Files) (options : RunOptions) → second ≡ second_by verb → wants ≡ reported_by verb
    → rows ≡ matches_of (app_by verb) words → fault_of (app_by verb) words ≡ [] → files_of second wants rows ≡ Some files → options_of rows ≡ Some options → has_input_twice files ≡ false
    → IsAskedBy verb words files options
asked_by verb words second wants rows files options called is same taken named read once = record {
  taken = taken;
  named = ap (λ (t : Text). files_of t (reported_by verb) (matches_of (app_by verb) words)) (sym called)
      ∙ ap (λ (w : Bool). files_of second w (matches_of (app_by verb) words)) (sym is) ∙ ap (files_of second wants) (sym same) ∙ named;
  read = ap options_of (sym same) ∙ read;
  once = once;
}

-- So it asks for them.
pub asks_by : (verb : Verb) (words : List Text) (files : Files) (options : RunOptions) (command : Command) → IsAskedBy verb words files options
    → ask_by verb files options ≡ asked command → AsksBy verb words command
asks_by verb words files options command is same = record {
  taken = is.taken;
  means = means_asked verb words files options is.named is.read is.once ∙ ap Some same;
}
  where
    means_asked : (verb : Verb) (words : List Text) (files : Files) (options : RunOptions) → files_by verb words ≡ Some files → options_by verb words ≡ Some options
        → has_input_twice files ≡ false → meaning_by verb words ≡ Some (ask_by verb files options)
    means_asked verb words files options named read once = rw (named, read, once) refl
