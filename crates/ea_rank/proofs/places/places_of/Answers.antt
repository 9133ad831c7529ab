use Rattle.std.proofs.Common.{◌≡◌, ◌<◌, length, get_or, map, ◌+◌, refl, sym, ◌∙◌, arith}
use Rattle.std.proofs.lemmas.List.{length-map}
use Rattle.std.proofs.lemmas.Option.{slice_get-get_or}
use Rattle.ea_rank.specs.Ranks.{key_of}
use Rattle.ea_rank.proofs.Placing.{none, contains_at, numbered-none, key_of_first, none_is_not_some, numbered-turns, numbered-writes}
use Rattle.ea_rank.proofs.places.places_of.Goals as goal
use Rattle.ea_rank.proofs.places.places_of.Goals.{in-Some, in-None, then-mark-last, else-mark-last}

pub loop-mark-init : goal.loop-mark-init
loop-mark-init c =
    let marks = c.deref-mark-items.result.now in
    let are = rw (sym c.deref-mark-items.ensures.value) at c.in_ok-marks.ensures in
    let same : c.deref.result.now ≡ marks = c.deref.ensures.value ∙ sym c.deref-mark-items.ensures.value in
    let found = rw same at c.first.ensures.value in
    let first : 0 < length marks → c.match-first.last ≡ (get_or marks 0 none).key = λ some. (
    let there = slice_get-get_or marks 0 none some in
    elim c.match-first.branch [
      | in-Some w ↦ (let told = rw w.in-Some.is at found in w.last-is ∙ key_of_first _ _ (told ∙ there))
      | in-None w ↦ (let told = rw w.in-None.is at found in absurd (none_is_not_some _ (told ∙ there)))
    ]) in record {
      numbered = numbered-none (map key_of c.args.events.now) marks c.in_ok-of_events.of_events.items c.match-first.last are (omega (arith, c.in_ok-of_events.ensures.len, length-map c.args.events.now key_of)) first;
      few = omega arith;
    }

pub index_mut-requires : goal.index_mut-requires
index_mut-requires c =
    let marks = c.deref-mark-items.result.now in
    let are = rw (sym c.deref-mark-items.ensures.value) at c.in_ok-marks.ensures in
    omega (arith, (are.only (get_or marks c.loop-mark.mark-index none) (contains_at marks c.loop-mark.mark-index c.loop-mark-test.true)).0, c.loop-mark.invariant.numbered.lengths)

pub loop-mark-preserved : goal.loop-mark-preserved
loop-mark-preserved c =
    let all = map key_of c.args.events.now in
    let marks = c.deref-mark-items.result.now in
    let done = c.loop-mark.mark-index in
    let are = rw (sym c.deref-mark-items.ensures.value) at c.in_ok-marks.ensures in
    let before = c.loop-mark.invariant.numbered in
    elim c.if-mark-last.branch [
      | then-mark-last w ↦ rw (w.place-is, w.last-is) (record {
        numbered = numbered-writes all marks done c.loop-mark.of_events.items (c.loop-mark.place + 1) (get_or marks done none).key are
            (numbered-turns all marks done c.loop-mark.of_events.items c.loop-mark.place c.loop-mark.last (get_or marks done none).key before c.loop-mark-test.true refl w.if-mark-last.true)
            c.loop-mark-test.true refl;
        few = omega (arith, c.loop-mark.invariant.few);
      })
      | else-mark-last w ↦ rw (w.place-is, w.last-is) (record {
        numbered = numbered-writes all marks done c.loop-mark.of_events.items c.loop-mark.place c.loop-mark.last are before c.loop-mark-test.true (omega (arith, w.if-mark-last.false));
        few = omega (arith, c.loop-mark.invariant.few);
      })
    ]
