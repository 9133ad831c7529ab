use Rattle.std.proofs.Common.{◌++◌, reverse, refl, sym, ◌∙◌, ap, arith, append_assoc, append-nil}
use Rattle.std.specs.Prelude.{decimal}
use Rattle.ea_search.specs.declared.link.Link.{Link}
use Rattle.ea_search.specs.Links.{link, linked_walk}
use Rattle.ea_paths.proofs.Linkings.{link_read}
use Rattle.ea_report.specs.Report.{spaced}
use Rattle.ea_report.specs.Walks.{arcs_text}
use Rattle.ea_report.proofs.Following.{arc_back, no_arc_back}
use Rattle.ea_report.proofs.lines.push_arcs_back.Goals as goal

pub back-init : goal.back-init
back-init c = record {
  above = c.requires.is_node.from_one;
  within = c.requires.is_node.to_last;
  linked = c.requires.level;
  written = refl;
}

pub back-smaller : goal.back-smaller
back-smaller c =
    let links = c.args.links.now in
    let inv = c.back.invariant in
    let end = link_read links c.back.at inv.above inv.within in
    let level = ap (λ (l : Link). l.level) end in
    let below = c.requires.followable c.back.at (omega (arith, level, c.back-test.true)) inv.linked in
    rw end (omega (arith, below.1))

pub back-preserved : goal.back-preserved
back-preserved c =
    let links = c.args.links.now in
    let inv = c.back.invariant in
    let end = link_read links c.back.at inv.above inv.within in
    let level = ap (λ (l : Link). l.level) end in
    let below = c.requires.followable c.back.at (omega (arith, level, c.back-test.true)) inv.linked in
    let rest = arcs_text (reverse (linked_walk links (link links c.back.at).from)) in
    record {
      above = rw end below.0.from_one;
      within = rw end below.0.to_last;
      linked = rw end (omega (arith, below.1, inv.linked));
      written = rw (c.in_ok-push_number.ensures, c.from.ensures, end) (append_assoc c.back.text.items (spaced (decimal (link links c.back.at).arc)) rest ∙ ap (λ t. c.back.text.items ++ t) (sym (arc_back links c.back.at below.1)) ∙ inv.written);
    }

pub returns : goal.returns
returns c =
    let links = c.args.links.now in
    let inv = c.back.invariant in
    let level = ap (λ (l : Link). l.level) (link_read links c.back.at inv.above inv.within) in
    let none = no_arc_back links c.back.at (omega (arith, level, c.back-test.false)) in
    sym (append-nil c.back.text.items) ∙ ap (λ t. c.back.text.items ++ t) (sym none) ∙ inv.written
