use Rattle.std.proofs.Common.{refl, ap, arith}
use Rattle.std.proofs.lemmas.Bool.{false≢true}
use Rattle.ea_search.specs.declared.link.Link.{Link}
use Rattle.ea_paths.proofs.Linkings.{link_read, Offers-none}
use Rattle.ea_paths.proofs.Offerings.{spent_each}
use Rattle.ea_search.proofs.Places.{bound_of_read}
use Rattle.ea_paths.proofs.repair.mend.Goals.{else-time-le-HORIZON-via-then-time-le-HORIZON+else-level-lt-NO_LEVEL, else-time-le-HORIZON-via-else-time-le-HORIZON}
use Rattle.ea_paths.proofs.repair.mend.Goals as goal

pub spread-requires-clause-node : goal.spread-requires-clause-node
spread-requires-clause-node g c =
    let node = c.requires.node in
    let bound = bound_of_read c.args.table.now c.args.node node.from_one (omega (arith, node.to_last, c.requires.can.labels)) in
    let level = ap (λ (l : Link). l.level) (link_read c.args.links.now c.args.node node.from_one (omega (arith, node.to_last, c.requires.can.places))) in
    record {
      is_node = node;
      departure = omega (arith, bound, c.if-time-le-HORIZON.true);
      level = omega (arith, level, c.if-level.false, c.if-level-lt-NO_LEVEL.true);
    }

pub returns-then-level : goal.returns-then-level
returns-then-level g c =
    let node = c.requires.node in
    let level = ap (λ (l : Link). l.level) (link_read c.args.links.now c.args.node node.from_one (omega (arith, node.to_last, c.requires.can.places))) in
    record {
      offers = Offers-none _ _ _ _;
      spent = λ room. absurd (omega (arith, level, room, c.if-level.true));
      room = refl;
      ready = λ yes. absurd (false≢true yes);
    }

pub returns-then-level-lt-NO_LEVEL : goal.returns-then-level-lt-NO_LEVEL
returns-then-level-lt-NO_LEVEL g c =
    let node = c.requires.node in
    let level = ap (λ (l : Link). l.level) (link_read c.args.links.now c.args.node node.from_one (omega (arith, node.to_last, c.requires.can.places))) in
    record {
      offers = c.spread.ensures.offers;
      spent = λ _. spent_each _ _ _ _ c.args.node _ c.spread.ensures.passed;
      room = c.spread.ensures.room;
      ready = λ _ there. omega (arith, level, there, c.if-level.false);
    }

pub returns-else-time-le-HORIZON : goal.returns-else-time-le-HORIZON
returns-else-time-le-HORIZON g c =
    let node = c.requires.node in
    let level = ap (λ (l : Link). l.level) (link_read c.args.links.now c.args.node node.from_one (omega (arith, node.to_last, c.requires.can.places))) in
    let bound = bound_of_read c.args.table.now c.args.node node.from_one (omega (arith, node.to_last, c.requires.can.labels)) in
    record {
      offers = Offers-none _ _ _ _;
      spent = λ room e v tight better. elim c.else-time-le-HORIZON.branch [
        | else-time-le-HORIZON-via-then-time-le-HORIZON+else-level-lt-NO_LEVEL w ↦ omega (arith, level, room, w.if-level-lt-NO_LEVEL.false)
        | else-time-le-HORIZON-via-else-time-le-HORIZON w ↦ omega (arith, bound, w.if-time-le-HORIZON.false, tight.from_within)
      ];
      room = refl;
      ready = λ _ there. omega (arith, level, there, c.if-level.false);
    }
