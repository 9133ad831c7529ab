use Rattle.std.proofs.Common.{◌≡◌, ℕ, ◌-◌, length, inl, ap, refl, sym, ◌∙◌, subst, arith}
use Rattle.std.proofs.lemmas.List.{get_or_read, with_items_is}
use Rattle.ea_road.specs.Labels.{label_of}
use Rattle.ea_search.specs.declared.link.Link.{Link}
use Rattle.ea_layout.specs.Copied.{IsLinkCopied}
use Rattle.ea_layout.proofs.written.Written.write_walk.Goals as goal

pub copy_walk-requires-clause-target : goal.copy_walk-requires-clause-target
copy_walk-requires-clause-target c =
    let it = c.requires in
    let labels = c.args.self.now.labels.items in
    let node = it.is_node c.args.target refl in
    let read : c.index.result.now ≡ label_of labels c.args.target = get_or_read labels (c.args.target - 1) c.index.result.now (omega (arith, node.from_one, node.to_last, it.can.places)) c.index.ensures 0 in
    record {
      is_node = node;
      level = it.level c.args.target refl (λ none. c.if-index.true (read ∙ none));
    }

pub returns-then-index : goal.returns-then-index
returns-then-index c =
    let it = c.requires in
    let links = c.args.self.now.links in
    let filled : length c.copy_walk.new.links ≡ links.len = omega (arith, c.copy_walk.ensures.copied.places, it.copies.can.places, links.ok.0) in
    let same = with_items_is links c.copy_walk.new.links filled in
    let P : ℕ → Type 0 = λ n. IsLinkCopied c.args.layout.now.places.items c.args.layout.now.nodes.items c.args.laid.now c.copy_walk.new.links n in
    record {
      can = rw same (record {
        places = it.can.places;
        reached = λ node has. c.copy_walk.ensures.kept node (it.can.reached node has);
        linked = c.copy_walk.ensures.listed;
      });
      labels = refl;
      copied = rw same c.copy_walk.ensures.copied;
      asked = λ node is asked some. rw same (subst P (sym asked) c.copy_walk.ensures.of_target);
    }

pub returns-else-index : goal.returns-else-index
returns-else-index c =
    let it = c.requires in
    let labels = c.args.self.now.labels.items in
    let node = it.is_node c.args.target refl in
    let read : c.index.result.now ≡ label_of labels c.args.target = get_or_read labels (c.args.target - 1) c.index.result.now (omega (arith, node.from_one, node.to_last, it.can.places)) c.index.ensures 0 in
    record {
      can = it.can;
      labels = refl;
      copied = record {
        places = it.copies.can.places;
        each = λ node is. inl (it.cleared c.args.target refl node);
        before = λ node is high level.
            let none = ap (λ (l : Link). l.level) (it.cleared c.args.target refl node) in
            absurd (omega (arith, none, level));
      };
      asked = λ node is asked some. absurd (some (ap (label_of labels) asked ∙ sym read ∙ c.if-index.false));
    }
