use Rattle.std.proofs.Common.{◌≡◌, map, take}
use Rattle.ea_layout.specs.Renamed.{renamed_arc}
use Rattle.ea_layout.proofs.layout.renamed_arcs.Given as goal

abbrev pub invariant-loop-place : goal.invariant-loop-place
invariant-loop-place l = l.arcs.items ≡ map (renamed_arc l.places) (take l.place l.list)
