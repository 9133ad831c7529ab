use Rattle.std.proofs.Common.{map}
use Rattle.std.proofs.lemmas.Result.{IfErr-weaker, IfOk-weaker}
use Rattle.clap.specs.Words.{found_of, rows_of}
use Rattle.ea_options.specs.Meaning.{app_by, files}
use Rattle.ea_options.proofs.Named.{files_read}
use Rattle.ea_options.proofs.Refused.{asked_by, refused_by_clap, unasked_refused}
use Rattle.ea_options.proofs.SimpleApps.{free_built, free_by, simple_built, simple_by}
use Rattle.ea_options.proofs.meaning.asked_of_words.Goals as goal

pub matches_of_built-requires-clause-simple : goal.matches_of_built-requires-clause-simple
matches_of_built-requires-clause-simple g c = simple_built (app_by c.requires.0) c.args.command (simple_by c.requires.0) c.requires.1.built

pub matches_of_built-requires-clause-free : goal.matches_of_built-requires-clause-free
matches_of_built-requires-clause-free g c = free_built (app_by c.requires.0) c.args.command (free_by c.requires.0) c.requires.1.built

pub asked_in-requires : goal.asked_in-requires
asked_in-requires g c = record { named = files_read c.requires.0 c.args.command c.args.second.now c.args.reported c.in-Ok.matches c.requires.1 c.in-Ok.ensures.parsed }

pub returns-in-Ok-clause-ok : goal.returns-in-Ok-clause-ok
returns-in-Ok-clause-ok g c = λ verb read.
    let words = map g.S.AsStr.text c.args.words.now in
    let rows = rows_of (found_of c.in-Ok.matches) in
    IfOk-weaker c.asked_in.result _ _
    (λ asked is. asked_by verb words c.args.second.now c.args.reported rows (files asked.0) asked.1 read.called read.wants
    (c.in-Ok.ensures.rows (app_by verb) read.built) (c.in-Ok.ensures.taken (app_by verb) read.built) is.0 is.1 is.2)
    c.asked_in.ensures.ok

pub returns-in-Ok-clause-err : goal.returns-in-Ok-clause-err
returns-in-Ok-clause-err g c = λ verb read.
    let words = map g.S.AsStr.text c.args.words.now in
    let rows = rows_of (found_of c.in-Ok.matches) in
    IfErr-weaker c.asked_in.result _ _
    (λ fault unasked. unasked_refused verb words c.args.second.now c.args.reported rows fault read.called read.wants
    (c.in-Ok.ensures.rows (app_by verb) read.built) (c.in-Ok.ensures.taken (app_by verb) read.built) unasked)
    c.asked_in.ensures.err

pub returns-in-Err-clause-err : goal.returns-in-Err-clause-err
returns-in-Err-clause-err g c = λ verb read.
    refused_by_clap verb (map g.S.AsStr.text c.args.words.now) c.in-Err.fault (c.in-Err.ensures.refused (app_by verb) read.built)
