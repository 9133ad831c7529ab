use Rattle.std.proofs.Common.{◌≡◌, length, arith}
use Rattle.std.proofs.lemmas.List.{with_items_is}
use Rattle.ea_search.proofs.Entries.{bound_of-none}
use Rattle.ea_paths.proofs.Linkings.{link-none}
use Rattle.ea_layout.proofs.written.Written.reset.Goals as goal

pub returns : goal.returns
returns c =
    let old = c.args.self.now in
    let labels : length c.put_back.new.table ≡ old.labels.len = omega (arith, c.put_back.auto.table, c.deref_mut.ensures.len) in
    let links : length c.put_back.new.links ≡ old.links.len = omega (arith, c.put_back.auto.links, c.deref_mut-2.ensures.len) in
    record {
      places = rw (with_items_is old.labels c.put_back.new.table labels) (omega (arith, labels, old.labels.ok.0));
      labels = rw (with_items_is old.labels c.put_back.new.table labels, c.put_back.ensures.labels) (λ node. bound_of-none _ node);
      many = rw (with_items_is old.links c.put_back.new.links links) (omega (arith, links, old.links.ok.0));
      links = rw (with_items_is old.links c.put_back.new.links links, c.put_back.ensures.links) (λ node. link-none _ node);
    }
