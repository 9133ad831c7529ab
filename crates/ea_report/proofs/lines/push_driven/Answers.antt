use Rattle.std.proofs.Common.{◌≡◌, ◌∙◌, List, ◌++◌, reverse, sym, ap, subst}
use Rattle.ea_road.specs.Labels.{label_of}
use Rattle.ea_search.specs.declared.link.Link.{Link}
use Rattle.ea_search.specs.Answers.{walk_of}
use Rattle.ea_search.specs.Links.{linked_walk}
use Rattle.ea_report.specs.Report.{driven_text, walk_line}
use Rattle.ea_report.specs.Walks.{HasWalk}
use Rattle.ea_report.proofs.Following.{driven_text_of, has_walk, labelled, ok_then}
use Rattle.ea_report.proofs.lines.push_driven.Goals as goal

pub push_walk_back-requires : goal.push_walk_back-requires
push_walk_back-requires c =
    let some = labelled c.arrival.result (label_of c.args.answer.now.labels c.args.node) c.if-is_none.ensures c.arrival.ensures in
    let P : List Link → Type 0 = λ links. HasWalk links c.args.node in
    subst P (sym c.links.ensures.links) (has_walk c.args.answer.now.links c.args.answer.now c.args.node c.links.ensures.stored c.requires some)

pub returns : goal.returns
returns c =
    let answer = c.args.answer.now in
    let node = c.args.node in
    let some = labelled c.arrival.result (label_of answer.labels node) c.if-is_none.ensures c.arrival.ensures in
    let line : walk_line node (reverse (linked_walk c.links.result.now node)) ≡ driven_text node (walk_of answer node) = ap (λ (links : List Link). walk_line node (reverse (linked_walk links node))) c.links.ensures.links ∙ sym (driven_text_of answer node some) in
    ok_then c.push_walk_back.result c.push_walk_back.ensures (λ said. said ∙ ap (λ t. c.args.text.now.items ++ t) line)
