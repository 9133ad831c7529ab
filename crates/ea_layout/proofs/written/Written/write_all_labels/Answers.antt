use Rattle.std.proofs.Common.{◌≡◌, length, refl, inr, arith}
use Rattle.std.proofs.lemmas.List.{with_items_is}
use Rattle.ea_layout.proofs.written.Written.write_all_labels.Goals as goal

pub returns : goal.returns
returns c =
    let labels = c.args.self.now.labels in
    let filled : length c.copy_labels.new.labels ≡ labels.len = omega (arith, c.copy_labels.ensures.places, c.requires.can.places, labels.ok.0) in
    let same = with_items_is labels c.copy_labels.new.labels filled in
    record {
      can = rw same (record {
        places = c.copy_labels.ensures.places;
        reached = λ node has. c.add_all.ensures node;
        linked = λ node. inr (c.add_all.ensures node);
      });
      copied = rw same c.copy_labels.ensures;
      many = refl;
      cleared = λ asked none. cc;
    }
