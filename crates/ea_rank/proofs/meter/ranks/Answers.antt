use Rattle.std.proofs.Common.{◌≡◌, ◌<◌, ℕ, List, [], length, get_or, replicate, sym, ap, ◌∙◌, arith, subst, append-nil}
use Rattle.ea_rank.specs.declared.event.Event.TheVariants.{Push}
use Rattle.ea_rank.specs.Ranks.{key_of, with_key, without_key, after_ranks, errors_from, rank_errors}
use Rattle.ea_rank.specs.Tallies.{added, raised, lowered}
use Rattle.ea_rank.proofs.Tallying.{added-raised, added-lowered, added-replicate}
use Rattle.ea_rank.proofs.Placing.{place_near, place_found, contains_key}
use Rattle.ea_rank.proofs.Metering.{Tracks, tracks-none, tracks-push, tracks-pop, rank_is, rank_is_none, goes_on-push, so_far-pop, so_far-none, after_ranks-none}
use Rattle.std.proofs.lemmas.List.{drop_all, length-map}
use Rattle.std.specs.Prelude.{Ok}
use Rattle.ea_rank.specs.declared.event.Event.{Event}
use Rattle.ea_rank.proofs.meter.ranks.Goals as goal
use Rattle.ea_rank.proofs.meter.ranks.Goals.{in-Push, in-Pop+else-at-eq0+in_ok-push-in-Pop}

pub loop-index-init : goal.loop-index-init
loop-index-init c =
    let found = c.in_ok-places.ensures in
    let keys = found.0 in
    let is : c.in_ok-tally.tally ≡ replicate {A = ℕ} (length keys) 0 = c.in_ok-tally.ensures ∙ ap (λ (n : ℕ). replicate {A = ℕ} n 0) (sym found.2) in
    let events = c.args.recorded.now.events.items in (
      [],
      keys,
      record {
        places = rw c.deref.ensures.value at found.1;
        tracks = subst (λ (l : List ℕ). Tracks keys [] l) (sym is) (tracks-none keys);
        few = omega (arith, ap added is, added-replicate (length keys));
        so_far = sym (ap (λ (l : List ℕ). after_ranks l (errors_from 0 [] events)) c.new-ranks.ensures.items ∙ after_ranks-none (errors_from 0 [] events));
      },
    )

pub raise-requires : goal.raise-requires
raise-requires c = record {
  inside =
      let st = c.loop-index.invariant.2 in
      let inside : c.loop-index.index < length c.args.recorded.now.events.items = omega (arith, c.loop-index-test.true, c.deref-event-items.ensures.len) in
      let near = place_near c.args.recorded.now.events.items c.loop-index.invariant.1 c.in_ok-places.places.of_events.items c.loop-index.index c.index-place.result.now st.places inside c.index-place.ensures in
      omega (arith, near, st.tracks.places);
  room = omega (arith, c.loop-index.invariant.2.few, c.loop-index-test.true, c.deref-event-items.type_inv.0);
}

pub at-requires : goal.at-requires
at-requires c =
    let st = c.loop-index.invariant.2 in
    let inside : c.loop-index.index < length c.args.recorded.now.events.items = omega (arith, c.loop-index-test.true, c.deref-event-items.ensures.len) in
    let near = place_near c.args.recorded.now.events.items c.loop-index.invariant.1 c.in_ok-places.places.of_events.items c.loop-index.index c.index-place.result.now st.places inside c.index-place.ensures in
    omega (arith, near, st.tracks.places)

pub returns-then-at-eq0-clause-fault : goal.returns-then-at-eq0-clause-fault
returns-then-at-eq0-clause-fault c =
    let events = c.args.recorded.now.events.items in
    let i = c.loop-index.index in
    let queue = c.loop-index.invariant.0 in
    let keys = c.loop-index.invariant.1 in
    let st = c.loop-index.invariant.2 in
    let place = c.index-place.result.now in
    let key = c.in-Pop.field-0 in
    let event = rw c.deref-event-items.ensures.value at c.in-Pop.is in
    let inside : i < length events = omega (arith, c.loop-index-test.true, c.deref-event-items.ensures.len) in
    let found = place_found events keys c.in_ok-places.places.of_events.items i key place (Push 0) st.places inside c.index-place.ensures (ap key_of event) in
    so_far-none events i key queue c.loop-index.ranks.items (Push 0) (rank_errors events) inside event
    (rank_is_none keys st.places.ascending queue c.loop-index.tally place key st.tracks found.0 found.1 (omega (arith, c.at.ensures, c.if-at-eq0.true))) st.so_far

pub loop-index-preserved : goal.loop-index-preserved
loop-index-preserved c =
    let events = c.args.recorded.now.events.items in
    let i = c.loop-index.index in
    let queue = c.loop-index.invariant.0 in
    let keys = c.loop-index.invariant.1 in
    let st = c.loop-index.invariant.2 in
    let up = st.places.ascending in
    let place = c.index-place.result.now in
    let inside : i < length events = omega (arith, c.loop-index-test.true, c.deref-event-items.ensures.len) in
    elim c.match-event.branch [
      | in-Push w ↦ (
          let key = w.in-Push.field-0 in
          let event = rw c.deref-event-items.ensures.value at w.in-Push.is in
          let found = place_found events keys c.in_ok-places.places.of_events.items i key place (Push 0) st.places inside c.index-place.ensures (ap key_of event) in
          let is : c.match-event.tally ≡ raised place c.loop-index.tally = w.tally-is ∙ w.raise.ensures in
          let next = tracks-push keys up queue c.loop-index.tally place key st.tracks found.0 found.1 (contains_key keys place key found.0 found.1) in (
            with_key key queue,
            keys,
            record {
              places = st.places;
              tracks = subst (λ (l : List ℕ). Tracks keys (with_key key queue) l) (sym is) next;
              few = omega (arith, ap added is, added-raised place c.loop-index.tally (omega (arith, st.tracks.places, found.0)), st.few);
              so_far = rw w.ranks-is (st.so_far ∙ ap (after_ranks c.loop-index.ranks.items) (goes_on-push events i key queue (Push 0) inside event));
            },
          ))
      | in-Pop+else-at-eq0+in_ok-push-in-Pop w ↦ (
          let key = w.in-Pop.field-0 in
          let event = rw c.deref-event-items.ensures.value at w.in-Pop.is in
          let found = place_found events keys c.in_ok-places.places.of_events.items i key place (Push 0) st.places inside c.index-place.ensures (ap key_of event) in
          let is : c.match-event.tally ≡ lowered place c.loop-index.tally = w.tally-is ∙ w.lower.ensures in
          let some : 0 < get_or c.loop-index.tally place 0 = omega (arith, w.at.ensures, w.if-at-eq0.false) in
          let rank = rank_is keys up queue c.loop-index.tally place key st.tracks found.0 found.1 some in
          let next = tracks-pop keys up queue c.loop-index.tally place key st.tracks found.0 found.1 some in (
            without_key key queue,
            keys,
            record {
              places = st.places;
              tracks = subst (λ (l : List ℕ). Tracks keys (without_key key queue) l) (sym is) next;
              few = omega (arith, ap added is, added-lowered place c.loop-index.tally, st.few);
              so_far = rw (w.ranks-is, w.in_ok-push-in-Pop.ensures.items, w.before-in-Pop.ensures) (so_far-pop events i key _ queue c.loop-index.ranks.items (Push 0) (rank_errors events) inside event rank st.so_far);
            },
          ))
    ]

pub before-requires : goal.before-requires
before-requires c = record {
  inside =
      let st = c.loop-index.invariant.2 in
      let inside : c.loop-index.index < length c.args.recorded.now.events.items = omega (arith, c.loop-index-test.true, c.deref-event-items.ensures.len) in
      let near = place_near c.args.recorded.now.events.items c.loop-index.invariant.1 c.in_ok-places.places.of_events.items c.loop-index.index c.index-place.result.now st.places inside c.index-place.ensures in
      omega (arith, near, st.tracks.places);
  room = omega (arith, c.loop-index.invariant.2.few, c.loop-index-test.true, c.deref-event-items.type_inv.0);
}

pub lower-requires : goal.lower-requires
lower-requires c = record {
  inside =
      let st = c.loop-index.invariant.2 in
      let inside : c.loop-index.index < length c.args.recorded.now.events.items = omega (arith, c.loop-index-test.true, c.deref-event-items.ensures.len) in
      let near = place_near c.args.recorded.now.events.items c.loop-index.invariant.1 c.in_ok-places.places.of_events.items c.loop-index.index c.index-place.result.now st.places inside c.index-place.ensures in
      omega (arith, near, st.tracks.places);
  some = omega (arith, c.at.ensures, c.if-at-eq0.false);
}

pub index-place-requires : goal.index-place-requires
index-place-requires c =
    omega (arith, c.loop-index-test.true, c.deref-event-items.ensures.value, c.deref-event-items.ensures.len, c.loop-index.invariant.2.places.lengths, length-map c.args.recorded.now.events.items key_of, c.in_ok-places.places.of_events.ok.0)

pub returns-clause-ranks : goal.returns-clause-ranks
returns-clause-ranks c =
    let i = c.loop-index.index in
    let queue = c.loop-index.invariant.0 in
    let ranks = c.loop-index.ranks.items in
    let none = drop_all i c.args.recorded.now.events.items (omega (arith, c.loop-index-test.false, c.deref-event-items.ensures.len)) in
    c.loop-index.invariant.2.so_far ∙ ap (λ (rest : List Event). after_ranks ranks (errors_from i queue rest)) none ∙ ap Ok (append-nil ranks)
