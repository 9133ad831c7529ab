use Rattle.std.proofs.Common.{refl, arith}
use Rattle.ea_search.specs.Links.{no_link}
use Rattle.ea_search.proofs.Places.{link-set_same, link-set_other}
use Rattle.ea_search.proofs.Listings.{no_link_outside}
use Rattle.ea_search.proofs.labels.reached_nodes.take_link.Goals as goal

pub returns-then-place-links-clause-resets : goal.returns-then-place-links-clause-resets
returns-then-place-links-clause-resets c = record {
  reset = link-set_same c.args.links.now c.args.node no_link (omega arith) (omega arith);
  others = λ v differs. link-set_other c.args.links.now c.args.node v no_link (omega arith) differs;
}

pub returns-else-place-links-clause-resets : goal.returns-else-place-links-clause-resets
returns-else-place-links-clause-resets c = record { reset = no_link_outside c.args.links.now c.args.node (λ above inside. omega arith); others = λ v differs. refl }

pub returns-else-node-gt0-clause-resets : goal.returns-else-node-gt0-clause-resets
returns-else-node-gt0-clause-resets c = record { reset = no_link_outside c.args.links.now c.args.node (λ above inside. omega arith); others = λ v differs. refl }
