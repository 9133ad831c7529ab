use Rattle.std.proofs.Common.{◌≡◌, subst, sym}
use Rattle.std.proofs.lemmas.List.{length-set}
use Rattle.ea_road.specs.Roads.{IsNode}
use Rattle.ea_search.specs.declared.link.Link.{Link}
use Rattle.ea_search.specs.Links.{link}
use Rattle.ea_search.proofs.Places.{link-set_other, link-set_same}
use Rattle.ea_layout.specs.Copied.{IsCopyOf}
use Rattle.ea_layout.specs.Renamed.{number_of}
use Rattle.ea_layout.proofs.Places.{read_link, read_number}
use Rattle.ea_layout.proofs.walk_copy.copy_link.Goals as goal

pub returns : goal.returns
returns c =
    let reverse = c.requires.can.reverse in
    let nodes = c.args.layout.now.nodes.items in
    let at = subst (λ n. IsNode n c.args.at) (sym reverse.back_length) c.requires.at in
    let read : c.index-node.result.now ≡ number_of nodes c.args.at = read_number nodes c.args.at c.index-node.result.now at c.index-node.ensures in
    let back = reverse.back_node c.args.at c.requires.at in
    let is = subst (λ n. IsNode n (number_of nodes c.args.at)) (sym c.requires.can.places) back in
    let none : Link = record { level = 0; arc = 0; from = 0 } in
    let copy : IsCopyOf nodes (link c.args.laid.now c.args.at) c.copy_of.result = rw (c.deref.ensures.value, read_link c.args.laid.now c.args.at none c.requires.at) at c.copy_of.ensures in
    record {
      places = length-set c.args.links.now _ c.copy_of.result;
      copied = rw (read, reverse.there_back c.args.at c.requires.at, link-set_same c.args.links.now (number_of nodes c.args.at) c.copy_of.result is.from_one is.to_last) copy;
      others = λ node differ. rw read (link-set_other c.args.links.now (number_of nodes c.args.at) node c.copy_of.result back.from_one differ);
      there = rw read at c.add.ensures.there;
      kept = c.add.ensures.kept;
    }
