use Rattle.std.proofs.Common.{ap}
use Rattle.ea_search.specs.declared.link.Link.{Link}
use Rattle.ea_paths.proofs.Linkings.{link_read}
use Rattle.ea_report.proofs.Following.{goes_back}
use Rattle.ea_report.proofs.walk_texts.go_back.Goals as goal

pub back-preserved : goal.back-preserved
back-preserved c =
    let at = c.back.invariant.at_hand c.back-test.true in
    let from = ap (λ (l : Link). l.from) (link_read c.args.links.now c.back.at at.0.from_one at.0.to_last) in
    goes_back c.args.links.now c.args.nodes.now.items c.back.nodes.items c.back.left c.back.at c.args.node _ c.requires.walk.followable c.requires.walk.level c.requires.places c.back-test.true from c.back.invariant
