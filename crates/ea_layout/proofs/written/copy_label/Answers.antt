use Rattle.std.proofs.Common.{rules}
use Rattle.ea_search.proofs.Entries.{bound_of-set_other}
use Rattle.ea_layout.proofs.written.copy_label.Goals as goal

pub returns : goal.returns
returns c = record {
  copied = search rules;
  others = λ node differ. bound_of-set_other c.args.labels.now c.args.target node _ c.requires.target.from_one differ;
}
