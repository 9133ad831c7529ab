-- Why the text of a device gave nothing.
use Rattle.std.specs.Prelude.{◌≡◌, ◌<◌, ℕ, List, length, IfSome}
use Rattle.ea_bytes.specs.Device.{Seen}
use Rattle.ea_blocks.specs.Outcome.{FaultCounts}
use Rattle.ea_bytes.specs.Text.{field_lines}
use Rattle.ea_blocks.specs.declared.blocks.ReadFault.TheVariants.{TooLarge}
use Rattle.ea_blocks.specs.Streams.{IsWhole}
use Rattle.ea_blocks.specs.declared.stream.StreamFault.{StreamFault}
use Rattle.ea_blocks.specs.declared.stream.StreamFault.TheVariants.{Read, Input}
use Rattle.ea_input.specs.Checks.{Format, IsFaultTold}

-- Why a device's text gave nothing: it couldn't be read, or it has this fault, or memory was refused.
abbrev pub IsStreamFault : Format → ℕ → Seen → Seen → StreamFault → Type 0
IsStreamFault format limit old new (Read fault) = FaultCounts fault old new × (fault ≡ TooLarge → IfSome old.bytes (λ had. limit < length had))
IsStreamFault format limit old new (Input fault) = (text : List ℕ) × IsWhole limit old new text × IsFaultTold format (field_lines text) fault
