use Rattle.std.proofs.Common.{◌≡◌, ℕ, Bool, List, [], length, replicate, sym, ◌∙◌, ap, inl, inr, arith}
use Rattle.std.proofs.lemmas.Bool.{cases_eq}
use Rattle.std.proofs.lemmas.List.{append-nil, nil_from_length}
use Rattle.ea_road.specs.declared.TheConstants.{NONE}
use Rattle.ea_search.specs.Links.{no_link}
use Rattle.ea_search.specs.Listings.{Listing}
use Rattle.ea_search.specs.Underway.{bound_of}
use Rattle.ea_search.proofs.Listings.{no_labels, no_links_left}
use Rattle.ea_search.proofs.labels.reached_nodes.Listed.put_back.Goals as goal

pub returns-clause-nothing : goal.returns-clause-nothing
returns-clause-nothing c =
    let listing : List ℕ → Bool → Listing = λ nodes all. record { nodes = nodes; all = all } in
    let same = c.in_default.ensures.items ∙ append-nil c.pop.new.self.items in
    let none : length c.loop-node.self-inside.nodes.items ≡ 0 = omega (arith, c.loop-node.self-inside.nodes.ok.0, c.in_default.ensures.cases.0) in
    ap (λ nodes. listing nodes c.loop-node.self-inside.all) (sym same ∙ nil_from_length c.loop-node.self-inside.nodes.items none) ∙ ap (listing []) c.loop-node.invariant.some

pub returns-clause-labels : goal.returns-clause-labels
returns-clause-labels c =
    let none : length c.loop-node.self-inside.nodes.items ≡ 0 = omega (arith, c.loop-node.self-inside.nodes.ok.0, c.in_default.ensures.cases.0) in
    no_labels c.loop-node.table (λ v. elim (cases_eq (bound_of c.loop-node.table v) NONE) [
      | inl free ↦ free
      | inr has ↦ (let there = c.loop-node.invariant.labels v has in absurd (omega (arith, there.1, none)))
    ]) ∙ ap (λ count. replicate count NONE) c.loop-node.auto.table

pub returns-clause-links : goal.returns-clause-links
returns-clause-links c =
    let none : length c.loop-node.self-inside.nodes.items ≡ 0 = omega (arith, c.loop-node.self-inside.nodes.ok.0, c.in_default.ensures.cases.0) in
    no_links_left c.loop-node.links (λ v. elim (c.loop-node.invariant.links v) [
      | inl free ↦ free
      | inr there ↦ absurd (omega (arith, there.1, none))
    ]) ∙ ap (λ count. replicate count no_link) c.loop-node.auto.links
