-- Commands as they are built, step by step.
use Rattle.std.specs.Prelude.{◌≡◌, false, Result, IfOk}
use Rattle.clap.specs.Words.{App, app_of}
use Rattle.clap.specs.declared.builder.command.Command.{Command}
use Rattle.clap.specs.declared.builder.command.Command.TheViews.{out-Command as fields_of}

-- Clap knows a command in this form, and it passes no argument on to commands below it.
pub record IsBuilt (app : App) (command : Command) : Type 0 where
  pub known : app_of command ≡ app
  pub local : (fields_of command).has_globals ≡ false

-- A command is built, unless memory was refused.
abbrev pub Builds : {E : Type 0} → App → Result Command E → Type 0
Builds app found = IfOk found (IsBuilt app)
