use Rattle.std.proofs.Common.{◌-◌, sym, ◌∙◌, arith}
use Rattle.std.proofs.lemmas.List.{get_or_read}
use Rattle.ea_road.specs.declared.TheConstants.{NONE}
use Rattle.ea_search.proofs.Entries.{bound_of-at}
use Rattle.ea_search.proofs.labels.table.ReachedTable.label.Goals as goal

pub returns : goal.returns
returns c =
    let table = c.args.self.now.labels.items in
    get_or_read table (c.args.node - 1) c.index.result.now (omega arith) c.index.ensures NONE ∙ sym (bound_of-at table c.args.node c.requires.0)
