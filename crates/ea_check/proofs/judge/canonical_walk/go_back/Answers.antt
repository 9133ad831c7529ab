use Rattle.std.proofs.Common.{◌≡◌, ◌∙◌, sym, ap, refl, arith, get_or, ◌-◌, ℕ, List, subst, length, take, ◌<◌}
use Rattle.std.proofs.lemmas.Bool.{false≢true}
use Rattle.std.proofs.lemmas.List.{length-set}
use Rattle.ea_road.specs.Roads.{IsNode}
use Rattle.ea_search.specs.declared.link.Link.{Link}
use Rattle.ea_search.specs.Links.{link, walk_along}
use Rattle.ea_paths.proofs.Linkings.{link_read}
use Rattle.ea_check.proofs.Backwards.{as_many, starts, goes_back, refuses, ends}
use Rattle.ea_check.proofs.Passed.{above_more, all_passed, before_more}
use Rattle.ea_check.proofs.judge.canonical_walk.go_back.Goals as goal

read : (links : List Link) (node : ℕ) → IsNode (length links) node → get_or links (node - 1) (record { level = 0; arc = 0; from = 0 }) ≡ link links node
read links node is_node = link_read links node is_node.from_one is_node.to_last

pub returns-then-arcs-links : goal.returns-then-arcs-links
returns-then-arcs-links c =
    let level = ap (λ (l : Link). l.level) (read c.args.links.now c.args.node c.requires.walk.is_node) in
    record {
      same = (λ no. absurd (false≢true no), λ same. absurd (c.if-arcs-links.true (as_many c.args.links.now c.args.node c.args.arcs.now same ∙ sym level)));
      passed = λ no. absurd (false≢true no);
    }

pub back-init : goal.back-init
back-init c =
    let level = ap (λ (l : Link). l.level) (read c.args.links.now c.args.node c.requires.walk.is_node) in
    let size = c.if-arcs-links.false ∙ level in
    record {
      is_node = c.requires.walk.is_node;
      level = sym size;
      low = omega (arith, c.requires.walk.level, size);
      left = omega arith;
      same = starts c.args.links.now c.args.node c.args.arcs.now (length c.args.arcs.now) refl size;
      passed = c.requires.passed;
      places = c.requires.places;
      before = λ place low. refl;
      above = λ place high low rest. absurd (omega (arith, high, low));
    }

pub returns-then-stands_at : goal.returns-then-stands_at
returns-then-stands_at c =
    let inv = c.back.invariant in
    let links = c.args.links.now in
    let arcs = c.args.arcs.now in
    let known = (c.stands_at.ensures c.if-stands_at.true).0 in
    let at = (c.stands_at.ensures c.if-stands_at.true).1 in
    let here : take {A = ℕ} c.back.left arcs ≡ walk_along links c.back.left (get_or c.back.nodes c.back.left 0) =
    inv.passed.each c.back.left known ∙ ap (walk_along links c.back.left) (sym (inv.before c.back.left (omega arith))) in
    let rest : take {A = ℕ} c.back.left arcs ≡ walk_along links c.back.left c.back.at = here ∙ ap (walk_along links c.back.left) at in
    record {
      same = (λ yes. inv.same.1 rest, λ same. refl);
      passed = λ yes. all_passed links arcs c.back.nodes c.args.nodes.now c.back.left c.args.known inv.places inv.passed inv.before (λ place high low. inv.above place high low rest) here (omega (arith, known));
    }

pub returns-then-link-arcs : goal.returns-then-link-arcs
returns-then-link-arcs c =
    let inv = c.back.invariant in
    let arc = ap (λ (l : Link). l.arc) (read c.args.links.now c.back.at inv.is_node) in
    record {
      same = (λ no. absurd (false≢true no), λ same. absurd (refuses c.args.links.now c.back.at c.args.arcs.now c.back.left c.back-test.true inv.left (λ also. c.if-link-arcs.true (arc ∙ also)) (inv.same.0 same)));
      passed = λ no. absurd (false≢true no);
    }

pub back-preserved : goal.back-preserved
back-preserved c =
    let inv = c.back.invariant in
    let links = c.args.links.now in
    let here = read links c.back.at inv.is_node in
    let arc = ap (λ (l : Link). l.arc) here in
    let from = ap (λ (l : Link). l.from) here in
    let step = c.requires.walk.followable c.back.at (omega (arith, inv.level, c.back-test.true)) (omega (arith, inv.level, inv.low)) in
    let back = goes_back links c.back.at c.args.arcs.now c.back.left c.back-test.true inv.left (sym arc ∙ c.if-link-arcs.false) in
    let inside : c.back.left < length c.back.nodes = omega (arith, inv.left, inv.places) in
    let P : ℕ → Type 0 = λ n. take {A = ℕ} (c.back.left - 1) c.args.arcs.now ≡ walk_along links (c.back.left - 1) n in
    record {
      is_node = subst (λ n. IsNode (length links) n) (sym from) step.0;
      level = ap (λ n. (link links n).level) from ∙ omega (arith, step.1, inv.level);
      low = omega (arith, inv.low);
      left = omega (arith, inv.left);
      same = (λ whole. subst P (sym from) (back.0 (inv.same.0 whole)), λ part. inv.same.1 (back.1 (subst P from part)));
      passed = inv.passed;
      places = omega (arith, inv.places, length-set c.back.nodes c.back.left c.back.at);
      before = before_more links c.args.arcs.now c.back.nodes c.back.at c.back.left c.back-test.true inside c.args.nodes.now inv.before;
      above = above_more links c.args.arcs.now c.back.nodes c.back.at c.back.left c.back-test.true inside _ (λ part. back.1 (subst P from part)) inv.above;
    }

pub returns : goal.returns
returns c =
    let inv = c.back.invariant in
    let links = c.args.links.now in
    let arcs = c.args.arcs.now in
    let rest = ends links c.back.at arcs c.back.left (omega (arith, c.back-test.false)) in
    let here = ends links (get_or c.back.nodes c.back.left 0) arcs c.back.left (omega (arith, c.back-test.false)) in
    record {
      same = (λ yes. inv.same.1 rest, λ same. refl);
      passed = λ yes. all_passed links arcs c.back.nodes c.args.nodes.now c.back.left c.args.known inv.places inv.passed inv.before (λ place high low. inv.above place high low rest) here (omega (arith, c.back-test.false));
    }
