use Rattle.std.proofs.Common.{List, sym, subst, rules, Contains}
use Rattle.ea_hierarchy.specs.Trimmed.{IsTrimmed}
use Rattle.ea_hierarchy.specs.declared.trimmed.Link.{Link}
use Rattle.ea_hierarchy.proofs.trimmed.Trimmed.links.Goals as goal

pub returns-then-row-rank : goal.returns-then-row-rank
returns-then-row-rank c = λ firsts heads numbers are.
    let row = c.in_ok-row.row.now in
    let there : Contains c.args.self.now.rows.items row = search rules in
    let here : IsTrimmed firsts heads numbers c.args.rank row.links.items = subst (λ r. IsTrimmed firsts heads numbers r row.links.items) c.if-row-rank.true (are.each row there) in
    subst (λ (ls : List Link). IsTrimmed firsts heads numbers c.args.rank ls) (sym c.deref-then-row-rank.ensures.value) here
