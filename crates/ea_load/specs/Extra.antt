-- The lists of the files of times and of nodes, as contracts see them.
use Rattle.std.specs.Prelude.{option_map}
use Rattle.ea_load.specs.Files.{Extras}
use Rattle.ea_load.specs.declared.files.ExtraLists.{ExtraLists}

abbrev pub extras_in : ExtraLists → Extras
extras_in lists = record { times = option_map (λ times. times.items) lists.times; nodes = option_map (λ nodes. nodes.items) lists.nodes }
