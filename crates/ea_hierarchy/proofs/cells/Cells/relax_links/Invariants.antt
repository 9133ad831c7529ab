use Rattle.std.proofs.Common.{◌≡◌}
use Rattle.ea_hierarchy.specs.Cells.{RelaxesLinks}
use Rattle.ea_hierarchy.proofs.cells.Cells.relax_links.Given as goal

abbrev pub invariant-loop-link : goal.invariant-loop-link
invariant-loop-link l = record {
  aim : l.self.aim ≡ l.initial.self.aim;
  relaxes : RelaxesLinks l.initial.self.aim l.initial.self.list.items l.self.list.items l.links l.reach l.link-index l.highest;
}
