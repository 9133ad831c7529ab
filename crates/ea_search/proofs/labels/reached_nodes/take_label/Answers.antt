use Rattle.std.proofs.Common.{refl, arith}
use Rattle.ea_road.specs.declared.TheConstants.{NONE}
use Rattle.ea_search.proofs.Entries.{bound_of-set_same, bound_of-set_other}
use Rattle.ea_search.proofs.Listings.{no_label_outside}
use Rattle.ea_search.proofs.labels.reached_nodes.take_label.Goals as goal

pub returns-then-place-table-clause-resets : goal.returns-then-place-table-clause-resets
returns-then-place-table-clause-resets c = record {
  reset = bound_of-set_same c.args.table.now c.args.node NONE (omega arith) (omega arith);
  others = λ v differs. bound_of-set_other c.args.table.now c.args.node v NONE (omega arith) differs;
}

pub returns-else-place-table-clause-resets : goal.returns-else-place-table-clause-resets
returns-else-place-table-clause-resets c = record { reset = no_label_outside c.args.table.now c.args.node (λ above inside. omega arith); others = λ v differs. refl }

pub returns-else-node-gt0-clause-resets : goal.returns-else-node-gt0-clause-resets
returns-else-node-gt0-clause-resets c = record { reset = no_label_outside c.args.table.now c.args.node (λ above inside. omega arith); others = λ v differs. refl }
