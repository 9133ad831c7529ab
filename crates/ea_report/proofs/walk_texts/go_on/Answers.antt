use Rattle.std.proofs.Common.{◌≡◌, ◌∙◌, ℕ, List, ◌-◌, ◌+◌, length, get_or, sym, ap, subst, arith}
use Rattle.std.specs.Prelude.{slice_index, OnOk}
use Rattle.std.proofs.lemmas.List.{length-take-le}
use Rattle.ea_search.specs.declared.link.Link.{Link}
use Rattle.ea_paths.proofs.Linkings.{link_read}
use Rattle.ea_report.specs.Walks.{AreWritten, HoldsWalk, IsPath}
use Rattle.ea_report.proofs.Following.{written_kept}
use Rattle.ea_report.proofs.walk_texts.go_on.Goals as goal

pub go_back-kept-requires-clause-places : goal.go_back-kept-requires-clause-places
go_back-kept-requires-clause-places c =
    let level = ap (λ (l : Link). l.level) (link_read c.args.links.now c.args.node c.requires.walk.is_node.from_one c.requires.walk.is_node.to_last) in
    c.in_ok-make_places.ensures.places ∙ ap (λ n. n + 1) level

pub write_on-requires-clause-path : goal.write_on-requires-clause-path
write_on-requires-clause-path c =
    let level = ap (λ (l : Link). l.level) (link_read c.args.links.now c.args.node c.requires.walk.is_node.from_one c.requires.walk.is_node.to_last) in
    let gone = c.go_back-kept.ensures.fills in
    let made = c.in_ok-make_places.ensures in
    let size = ap (λ (xs : List ℕ). length xs) c.deref.ensures.value ∙ gone.places ∙ made.places ∙ ap (λ n. n + 1) level in
    let cut : length c.cut_to.new.ends.items ≡ c.go_back-kept.result = ap (λ (xs : List ℕ). length xs) c.cut_to.ensures.ends ∙ length-take-le c.go_back-kept.result c.make_places.new.ends.items (omega (arith, c.go_back-kept.ensures.known, c.len.ensures)) in
    let P : List ℕ → ℕ → Type 0 = λ xs from. IsPath c.args.links.now xs from in
    record {
      followable = c.requires.walk.followable;
      few = omega (arith, size, c.requires.walk.level);
      some = omega (arith, size);
      path = subst (λ xs. P xs (length c.cut_to.new.ends.items)) (sym c.deref.ensures.value) (subst (λ from. P c.go_back-kept.new.nodes.items from) (sym cut) gone.path);
    }

pub write_on-requires-clause-written : goal.write_on-requires-clause-written
write_on-requires-clause-written c =
    let made = c.in_ok-make_places.ensures in
    let gone = c.go_back-kept.ensures.fills in
    let P : List ℕ → Type 0 = λ xs. AreWritten c.args.links.now xs c.cut_to.new.ends.items c.cut_to.new.text.items in
    subst P (sym c.deref.ensures.value) (written_kept c.args.links.now c.args.nodes.now.items c.make_places.new.nodes.items c.go_back-kept.new.nodes.items c.args.ends.now.items c.make_places.new.ends.items c.cut_to.new.ends.items c.args.text.now.items c.cut_to.new.text.items c.go_back-kept.result
    c.requires.fronts made.keeps (omega (arith, c.go_back-kept.ensures.known, c.len.ensures)) (omega (arith, gone.within, gone.places)) gone.same c.cut_to.ensures.ends c.cut_to.ensures.text)

pub returns : goal.returns
returns c =
    let level = ap (λ (l : Link). l.level) (link_read c.args.links.now c.args.node c.requires.walk.is_node.from_one c.requires.walk.is_node.to_last) in
    let size = ap (λ (xs : List ℕ). length xs) c.deref.ensures.value ∙ c.go_back-kept.ensures.fills.places ∙ c.in_ok-make_places.ensures.places ∙ ap (λ n. n + 1) level in
    let last : slice_index c.deref.result.now (length c.deref.result.now - 1) ≡ c.args.node =
    ap (λ (xs : List ℕ). get_or xs (length c.deref.result.now - 1) 0) c.deref.ensures.value ∙ ap (λ n. get_or c.go_back-kept.new.nodes.items n 0) (omega (arith, size)) ∙ c.go_back-kept.ensures.fills.last in
    let nodes = c.go_back-kept.new.nodes.items in
    let P : List ℕ → ℕ → Type 0 = λ xs n. OnOk c.write_on.result (HoldsWalk c.args.links.now xs c.write_on.new.ends.items c.write_on.new.text.items n) in
    subst (λ xs. P xs c.args.node) c.deref.ensures.value (subst (λ n. P c.deref.result.now n) last c.write_on.ensures)
