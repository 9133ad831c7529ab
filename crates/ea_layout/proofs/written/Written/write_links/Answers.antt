use Rattle.std.proofs.Common.{◌≡◌, ℕ, List, length, refl, inr, arith}
use Rattle.std.proofs.lemmas.List.{with_items_is}
use Rattle.ea_layout.proofs.written.Written.write_links.Goals as goal

pub returns-in-None : goal.returns-in-None
returns-in-None c =
    let it = c.requires in
    let links = c.args.self.now.links in
    let filled : length c.copy_links.new.links ≡ links.len = omega (arith, c.copy_links.ensures.copied.places, it.copies.can.places, links.ok.0) in
    let same = with_items_is links c.copy_links.new.links filled in
    record {
      can = rw same (record {
        places = it.can.places;
        reached = λ node has. c.add_all.ensures node;
        linked = λ node. inr (c.add_all.ensures node);
      });
      labels = refl {A = List ℕ};
      copied = rw same c.copy_links.ensures.copied;
      asked = λ node is asked some. rw same (c.copy_links.ensures.all node is);
    }
