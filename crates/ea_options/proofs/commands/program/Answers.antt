use Rattle.ea_options.specs.Grammar.{bare_program, program}
use Rattle.ea_options.proofs.commands.program.Goals as goal

pub returns : goal.returns
unfolding program
returns c =
    let bare = c.named-command.ensures bare_program (record { known = c.bare_program.ensures.app; local = c.bare_program.ensures.local }) in
    let first = c.with_command-command.ensures _ _ bare c.run_command.ensures in
    let second = c.with_command-command-2.ensures _ _ first c.pairs_command.ensures in
    let third = c.with_command-command-3.ensures _ _ second c.rank_command.ensures in
    let fourth = c.with_command-command-4.ensures _ _ third c.check_command.ensures in
    let fifth = c.with_command-command-5.ensures _ _ fourth c.explain_command.ensures in
    c.with_command.ensures _ _ fifth c.formats_command.ensures
