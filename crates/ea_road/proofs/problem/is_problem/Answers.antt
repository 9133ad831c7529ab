use Rattle.std.proofs.Common.{◌≡◌, ℕ, ◌<◌, ◌≤◌, Some, Bool, true, false, inl, inr, length, get_or, refl, sym, ◌∙◌, ap, arith}
use Rattle.std.specs.Prelude.{IsTrue}
use Rattle.std.proofs.lemmas.Bool.Decides.{leb_tells}
use Rattle.std.proofs.lemmas.List.{get_or_read, get_or_default}
use Rattle.ea_road.specs.declared.source.Source.{Source}
use Rattle.ea_road.specs.Roads.{Roads, top_class}
use Rattle.ea_road.specs.Queries.{Asking, IsProblem, IsQuery}
use Rattle.ea_road.proofs.problem.is_problem.Goals as goal

abbrev none : Source
none = record { node = 0; departure = 0 }

problem_of : (roads : Roads) (classes : ℕ) (query : Asking) → IsQuery query → top_class roads.arcs ≤ classes → ((place : ℕ) → place < length query.sources → (get_or query.sources place none).node ≤ roads.nodes) → ((node : ℕ) → query.target ≡ Some node → node ≤ roads.nodes) → IsProblem roads classes query
problem_of roads classes query is classed each target = record {
  classed = classed;
  sources = λ source among.
      let read : source ≡ get_or query.sources among.0 none = get_or_read query.sources among.0 source among.1.0 among.1.1 none in
      let low = each among.0 among.1.0 in
      let e = ap (λ (s : Source). s.node) read in
      record { from_one = (is.sources.each source among).from_one; to_last = omega arith };
  departures = λ source among. (is.sources.each source among).within;
  target = λ node same. record { from_one = is.target node same; to_last = target node same };
}

no_truth : (b : Bool) → b ≡ false → IsTrue b → ⊥
no_truth true same holds = cc
no_truth false same holds = cc

pub returns-then-source-nodes : goal.returns-then-source-nodes
returns-then-source-nodes c = (
  λ no. cc,
  λ problem.
      let sources = c.args.query.now.sources in
      let place = c.loop-source.source-index in
      let within = rw c.sources-source-items.ensures.sources at c.loop-source-test.true in
      let high = rw c.sources-source-items.ensures.sources at c.if-source-nodes.true in
      let node = problem.sources (get_or sources place none) (place, (within, get_or_default sources place none (get_or sources place none) within)) in
      let low = node.to_last in
      absurd (omega arith),
)

pub returns-in-None : goal.returns-in-None
returns-in-None c = (
  λ _.
      let each = rw c.sources-source-items.ensures.sources at c.loop-source.invariant in
      let past = rw c.sources-source-items.ensures.sources at c.loop-source-test.false in
      let none_is = sym c.target.ensures.target ∙ c.in-None.is in
      problem_of c.args.network.now c.args.classes c.args.query.now c.target.ensures.query (omega arith) (λ place low. let h = each place (omega arith) in omega arith) (λ node same. let h = sym none_is ∙ same in cc),
  λ _. refl,
)

pub returns-in-Some : goal.returns-in-Some
returns-in-Some c =
    let some_is : c.args.query.now.target ≡ Some c.in-Some.target = sym c.target.ensures.target ∙ c.in-Some.is in
    let each = rw c.sources-source-items.ensures.sources at c.loop-source.invariant in
    let past = rw c.sources-source-items.ensures.sources at c.loop-source-test.false in
    let nodes = c.nodes-nodes.ensures.nodes in
    elim (leb_tells c.in-Some.target c.nodes-nodes.result) [
      | inl low ↦ (
        λ _. problem_of c.args.network.now c.args.classes c.args.query.now c.target.ensures.query (omega arith) (λ place under. let h = each place (omega arith) in omega arith) (λ node same. let equal : c.in-Some.target ≡ node = (let h = sym some_is ∙ same in cc) in omega (arith, low.1)),
        λ _. rw low.0 refl,
      )
      | inr high ↦ (
        λ holds. absurd (no_truth _ high.0 holds),
        λ problem. let node = problem.target c.in-Some.target some_is in let bound = node.to_last in absurd (omega (arith, high.1)),
      )
    ]
