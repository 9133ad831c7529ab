use Rattle.std.proofs.Common.{ap, codes, map}
use Rattle.clap.specs.Words.{first_of}
use Rattle.clap.proofs.TakesLemmas.{passed_up}
use Rattle.ea_options.specs.Grammar.{explain_app}
use Rattle.ea_options.proofs.Refused.{explain_refused}
use Rattle.ea_options.proofs.SimpleApps.{simple_explain, simple_built, free_explain, free_built}
use Rattle.ea_options.proofs.meaning.explain_of_words.Goals as goal

pub matches_of_built-requires-clause-simple : goal.matches_of_built-requires-clause-simple
matches_of_built-requires-clause-simple g c = simple_built explain_app c.explain_command.result simple_explain c.explain_command.ensures

pub matches_of_built-requires-clause-free : goal.matches_of_built-requires-clause-free
matches_of_built-requires-clause-free g c = free_built explain_app c.explain_command.result free_explain c.explain_command.ensures

pub returns-in_err-matches-clause-err : goal.returns-in_err-matches-clause-err
returns-in_err-matches-clause-err g c =
    let fault = c.in_err-matches.field-0.0 in
    passed_up c.from_residual.result fault _ c.from_residual.ensures.1 (explain_refused (map g.S.AsStr.text c.args.words.now) fault (c.in_err-matches.ensures.refused explain_app c.explain_command.ensures))

pub returns-clause-ok : goal.returns-clause-ok
returns-clause-ok g c = (c.in_ok-matches.ensures.taken explain_app c.explain_command.ensures, cc (ap (first_of (codes "fault")) (c.in_ok-matches.ensures.rows explain_app c.explain_command.ensures)))
