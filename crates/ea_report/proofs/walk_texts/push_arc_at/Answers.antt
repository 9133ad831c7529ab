use Rattle.std.proofs.Common.{◌≡◌, ◌∙◌, ℕ, List, ◌-◌, ◌++◌, length, get_or, sym, ap, subst, arith}
use Rattle.std.specs.Prelude.{decimal, slice_index, OnOk}
use Rattle.ea_road.specs.Roads.{IsNode}
use Rattle.ea_search.specs.declared.link.Link.{Link}
use Rattle.ea_search.specs.Links.{link, linked_walk}
use Rattle.ea_paths.proofs.Linkings.{link_read}
use Rattle.ea_report.specs.Report.{spaced}
use Rattle.ea_report.specs.Walks.{arcs_text}
use Rattle.ea_report.proofs.Following.{no_arcs, arc_more}
use Rattle.ea_report.proofs.walk_texts.push_arc_at.Goals as goal

read : (links : List Link) (node : ℕ) → IsNode (length links) node → get_or links (node - 1) (record { level = 0; arc = 0; from = 0 }) ≡ link links node
read links node is_node = link_read links node is_node.from_one is_node.to_last

pub returns-then-place-eq0 : goal.returns-then-place-eq0
returns-then-place-eq0 c =
    c.requires.text.none (omega arith) ∙ sym (no_arcs c.args.links.now (slice_index c.args.nodes.now c.args.place) (c.requires.step.level ∙ c.if-place-eq0.true))

pub returns : goal.returns
returns c =
    let links = c.args.links.now in
    let node = slice_index c.args.nodes.now c.args.place in
    let before = c.requires.step.before (omega arith) in
    let arc = c.from.ensures ∙ ap (λ (l : Link). l.arc) (read links node c.requires.step.is_node) in
    let text = c.requires.text.whole (omega arith) in
    let more = arc_more links node (slice_index c.args.nodes.now (c.args.place - 1)) before.0 (omega (arith, before.1, c.requires.step.level)) in
    let P : List ℕ → Type 0 = λ t. OnOk c.push_number.result (c.push_number.new.text.items ≡ t) in
    subst P (ap (λ t. t ++ spaced (decimal c.from.result)) text ∙ ap (λ n. arcs_text (linked_walk links (slice_index c.args.nodes.now (c.args.place - 1))) ++ spaced (decimal n)) arc ∙ sym more) c.push_number.ensures
