use Rattle.std.proofs.Common.{◌≡◌, ℕ, ◌+◌, ◌<◌, List, ◌∷◌, [], length, get_or, take, Contains, refl, sym, ◌∙◌, ap, subst, inl, inr, arith}
use Rattle.std.proofs.lemmas.List.{take_more, take_all}
use Rattle.std.proofs.lemmas.List.Elements.{Contains-append_cases}
use Rattle.ea_road.specs.declared.arc.Arc.{Arc}
use Rattle.ea_road.specs.declared.leaving_arc.LeavingArc.{LeavingArc}
use Rattle.ea_road.proofs.ByTail.{arc_beside, leaving_has}
use Rattle.ea_search.specs.declared.link.Link.{Link}
use Rattle.ea_search.specs.Links.{link}
use Rattle.ea_search.proofs.Entries.{Contains-one}
use Rattle.ea_paths.proofs.Linkings.{link_read, Offers-more, Offers-passed, passed-number}
use Rattle.ea_paths.proofs.Offerings.{along_wider, each_spent}
use Rattle.ea_search.proofs.Places.{bound_of_read}
use Rattle.ea_paths.proofs.link_search.spread.Goals as goal

abbrev none : LeavingArc
none = record { head = 0; weight = 0; class = 0 }

pub overflow_add-level : goal.overflow_add-level
overflow_add-level g c =
    let node = c.requires.node in
    let read = ap (λ (l : Link). l.level) (link_read c.args.links.now c.args.node node.is_node.from_one (omega (arith, node.is_node.to_last, c.requires.can.places))) in
    omega (arith, read, node.level)

pub pass-requires-clause-can : goal.pass-requires-clause-can
pass-requires-clause-can g c =
    let can = c.requires.can in
    record {
      classed = can.classed;
      labels = can.labels;
      places = c.loop-place.invariant.offers.places ∙ can.places;
      room = c.loop-place.invariant.room ∙ can.room;
    }

pub pass-requires-clause-link : goal.pass-requires-clause-link
pass-requires-clause-link g c =
    let node = c.requires.node in
    let read = bound_of_read c.args.table.now c.args.node node.is_node.from_one (omega (arith, node.is_node.to_last, c.requires.can.labels)) in
    let level = ap (λ (l : Link). l.level) (link_read c.args.links.now c.args.node node.is_node.from_one (omega (arith, node.is_node.to_last, c.requires.can.places))) in
    record {
      is_arc = rw c.with_tail.ensures (arc_beside c.args.network.now c.args.node c.leaving-leaving.result.numbers.now c.leaving-leaving.result.arcs.now c.loop-place.place none c.leaving-leaving.ensures.arcs c.loop-place-test.true);
      tail = ap (λ (arc : Arc). arc.tail) c.with_tail.ensures;
      within = omega (arith, read, node.departure);
      departs = read;
      level = omega (arith, level, node.level);
    }

pub loop-place-preserved : goal.loop-place-preserved
loop-place-preserved g c =
    let numbers = c.leaving-leaving.result.numbers.now in
    let place = c.loop-place.place in
    let lengths = c.leaving-leaving.ensures.arcs.lengths in
    let near : place < length numbers = omega (arith, lengths, c.loop-place-test.true) in
    let number = get_or numbers place 0 in
    let node = c.requires.node.is_node in
    let read = link_read c.args.links.now c.args.node node.from_one (omega (arith, node.to_last, c.requires.can.places)) in
    let pass = rw read at c.pass.ensures in
    let level = (link c.args.links.now c.args.node).level + 1 in
    let new : Link = record { level = level; arc = number; from = c.args.node } in
    let offers = along_wider c.args.network.now _ c.args.table.now _ new level refl _ _ _ _ pass.offers in
    record {
      offers = Offers-more _ _ _ _ _ _ _ _ c.loop-place.invariant.offers offers;
      passed = λ e v there tight. (
          let two = rw (take_more numbers place 0 near) at there in
          elim (Contains-append_cases (take place numbers) (number ∷ []) e two) [
            | inl early ↦ Offers-passed _ _ _ _ _ _ offers v (record { level = level; arc = e; from = c.args.node }) (c.loop-place.invariant.passed e v early tight)
            | inr late ↦ passed-number _ _ _ _ level e number _ (Contains-one e number late) (λ w met. pass.passed w new (met, refl)) v tight
          ]);
      room = pass.room ∙ c.loop-place.invariant.room;
    }

pub returns : goal.returns
returns g c =
    let numbers = c.leaving-leaving.result.numbers.now in
    let lengths = c.leaving-leaving.ensures.arcs.lengths in
    let level = (link c.args.links.now c.args.node).level + 1 in
    let all : take c.loop-place.place numbers ≡ numbers = take_all c.loop-place.place numbers (omega (arith, lengths, c.loop-place-test.false)) in
    record {
      offers = c.loop-place.invariant.offers;
      passed = each_spent c.args.network.now _ c.args.table.now c.loop-place.links c.args.node level (λ e v tight.
          let there = leaving_has c.args.network.now c.args.node e tight.step.arc tight.step.is_arc tight.step.is_tail in
          let Q : List ℕ → Type 0 = λ xs. Contains xs e in
          c.loop-place.invariant.passed e v (subst Q (sym all) (subst Q (sym c.leaving-leaving.ensures.numbers) there)) tight);
      room = c.loop-place.invariant.room;
    }
