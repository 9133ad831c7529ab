use Rattle.std.proofs.Common.{refl, ◌∙◌, List, ◌-◌, ◌++◌, ◌≤◌, length, get_or, sym, ap, arith}
use Rattle.ea_road.specs.Labels.{label_of}
use Rattle.ea_search.specs.declared.link.Link.{Link}
use Rattle.ea_search.specs.Links.{linked_walk}
use Rattle.ea_paths.proofs.Followed.{linked_length}
use Rattle.ea_paths.proofs.Linkings.{link_read}
use Rattle.ea_report.specs.Walks.{arcs_text}
use Rattle.ea_report.proofs.Following.{has_walk, labelled, ok_then, walk_text_of}
use Rattle.ea_report.proofs.lines.push_found_walk.Goals as goal

pub go_to-requires : goal.go_to-requires
go_to-requires c =
    let some = labelled c.arrival.result (label_of c.args.answer.now.labels c.args.node) c.if-is_none.ensures c.arrival.ensures in
    has_walk c.args.arcs.now.links c.args.answer.now c.args.node c.links-links.ensures.stored c.requires some

pub returns-clause-text : goal.returns-clause-text
returns-clause-text c =
    let answer = c.args.answer.now in
    let node = c.args.node in
    let walk = linked_walk answer.links node in
    let stored = c.links-links.ensures.stored in
    let some = labelled c.arrival.result (label_of answer.labels node) c.if-is_none.ensures c.arrival.ensures in
    let within : node ≤ length answer.links = omega (arith, stored.links (c.requires.has_walks refl), c.requires.is_node.to_last) in
    let level = ap (λ (links : List Link). (get_or links (node - 1) (record { level = 0; arc = 0; from = 0 })).level) c.links-links.ensures.links ∙ ap (λ (l : Link). l.level) (link_read answer.links node c.requires.is_node.from_one within) in
    let text = c.text.ensures ∙ c.in_ok-go_to.ensures.text ∙ ap (λ (links : List Link). arcs_text (linked_walk links node)) c.requires.links_are in
    let line = walk_text_of answer node some in
    ok_then c.push_walk.result c.push_walk.ensures (λ said. said walk (linked_length answer.links node ∙ sym level) text ∙ ap (λ t. c.args.text.now.items ++ t) (sym line))
