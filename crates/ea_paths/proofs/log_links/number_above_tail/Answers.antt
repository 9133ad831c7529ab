use Rattle.std.proofs.Common.{ap, arith}
use Rattle.std.proofs.lemmas.Option.{IfSome_then}
use Rattle.ea_search.specs.declared.link.Link.{Link}
use Rattle.ea_paths.proofs.Linkings.{link_read}
use Rattle.ea_paths.proofs.log_links.number_above_tail.Goals as goal

pub returns : goal.returns
returns c =
    let read = ap (λ (l : Link). l.level) (link_read c.args.links.now c.args.old.from c.requires.by_arc (omega (arith, c.requires.places, c.if-old-nodes.false))) in
    IfSome_then c.number_of.result c.number_of.ensures (λ number placed. (placed, omega (arith, read, c.if-links-old.false)))
