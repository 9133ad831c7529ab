use Rattle.std.proofs.Common.{◌≡◌, ◌≢◌, ℕ, length, refl, inl, inr, arith, sym, ◌∙◌, subst}
use Rattle.std.proofs.lemmas.Bool.{cases_eq}
use Rattle.std.proofs.lemmas.List.{with_items_is}
use Rattle.ea_road.specs.declared.TheConstants.{NONE}
use Rattle.ea_search.specs.Listings.{IsListed}
use Rattle.ea_search.specs.Underway.{bound_of}
use Rattle.ea_layout.proofs.written.Written.write_label.Goals as goal

pub copy_label-requires-clause-target : goal.copy_label-requires-clause-target
copy_label-requires-clause-target c = c.requires.is_node c.args.target refl

pub returns : goal.returns
returns c =
    let labels = c.reset.new.self.labels in
    let filled : length c.copy_label.new.labels ≡ labels.len = omega (arith, c.copy_label.ensures.copied.places, c.reset.ensures.places, c.requires.can.places, labels.ok.0) in
    let same = with_items_is labels c.copy_label.new.labels filled in
    record {
      can = rw same (record {
        places = c.copy_label.ensures.copied.places;
        reached = reached;
        linked = λ node. inl (c.reset.ensures.links node);
      });
      copied = rw same c.copy_label.ensures.copied;
      many = c.reset.ensures.many;
      cleared = λ asked is. c.reset.ensures.links;
    }
  where
    -- only the target has a label
    reached : (node : ℕ) → bound_of c.copy_label.new.labels node ≢ NONE → IsListed c.add.new.self node
    reached node has = elim (cases_eq node c.args.target) [
      | inl same ↦ subst (λ n. IsListed c.add.new.self n) (sym same) c.add.ensures.there
      | inr differ ↦ (let none = c.reset.ensures.labels node in absurd (has (rw c.deref_mut.ensures.value at (c.copy_label.ensures.others node differ) ∙ none)))
    ]
