use Rattle.std.proofs.Common.{◌∷◌, [], ◌∙◌, sym}
use Rattle.std.proofs.lemmas.Bool.{false≢true}
use Rattle.ea_check.specs.Reads.{SourcesWrong}
use Rattle.ea_check.specs.Streams.{behind, line_of, spoken}
use Rattle.ea_check.proofs.Reading.{source_missing, source_other}
use Rattle.ea_check.proofs.Stopping.{lines_here}
use Rattle.ea_check.proofs.form.problem.read_source.Goals as goal

pub returns-in_default : goal.returns-in_default
returns-in_default g c =
    let lines = c.args.lines.now in
    record { sound = tt; read = lines_here (λ here others. SourcesWrong (c.args.source ∷ []) here 0) _ lines c.requires.sound.ready.room (λ text. source_missing c.args.source (spoken lines) (behind lines text) c.in_default.ensures) }

pub returns-then-not-says_source : goal.returns-then-not-says_source
returns-then-not-says_source g c =
    let lines = c.args.lines.now in
    record {
      sound = tt;
      read = lines_here (λ here others. SourcesWrong (c.args.source ∷ []) here c.in-Some.line.number) _ lines c.requires.sound.ready.room
          (λ text. source_other c.args.source (spoken lines) (behind lines text) (line_of c.in-Some.line) c.in-Some.ensures (λ says. false≢true (sym c.if-not-says_source.true ∙ c.says_source.ensures.1 says)));
    }
