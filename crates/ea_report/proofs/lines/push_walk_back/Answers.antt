use Rattle.std.proofs.Common.{◌≡◌, ◌-◌, ◌++◌, length, get_or, reverse, sym, ◌∙◌, ap}
use Rattle.std.specs.Prelude.{decimal}
use Rattle.std.proofs.lemmas.List.{length-reverse}
use Rattle.ea_search.specs.declared.link.Link.{Link}
use Rattle.ea_search.specs.Links.{linked_walk}
use Rattle.ea_paths.proofs.Followed.{linked_length}
use Rattle.ea_paths.proofs.Linkings.{link_read}
use Rattle.ea_report.specs.Report.{spaced}
use Rattle.ea_report.proofs.Following.{walk_line_of}
use Rattle.ea_report.proofs.lines.push_walk_back.Goals as goal

pub returns : goal.returns
returns c =
    let links = c.args.links.now in
    let node = c.args.node in
    let walk = reverse (linked_walk links node) in
    let level = ap (λ (l : Link). l.level) (link_read links node c.requires.is_node.from_one c.requires.is_node.to_last) in
    let count : (get_or links (node - 1) (record { level = 0; arc = 0; from = 0 })).level ≡ length walk = level ∙ sym (length-reverse (linked_walk links node) ∙ linked_length links node) in
    let known = c.in_ok-push_number.ensures ∙ ap (λ n. c.push.new.self.items ++ spaced (decimal n)) c.from.ensures in
    let counted = c.in_ok-push_number-2.ensures ∙ ap (λ n. c.push_number.new.text.items ++ spaced (decimal n)) c.from-2.ensures in
    walk_line_of c.args.text.now.items _ _ _ _ c.push-2.new.self.items node _ walk count c.in_ok-push.ensures.items known counted c.in_ok-push_arcs_back.ensures c.in_ok-push-2.ensures.items
