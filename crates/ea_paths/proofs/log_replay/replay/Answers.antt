use Rattle.std.proofs.Common.{◌≡◌, ℕ, ◌+◌, List, [], ◌∷◌, ◌++◌, take, get_or, subst, sym, ◌∙◌, arith}
use Rattle.std.proofs.lemmas.List.{map_more, take_all}
use Rattle.ea_search.specs.declared.log.note.Note.{Note}
use Rattle.ea_search.specs.Notes.{note_in, notes_in}
use Rattle.ea_paths.specs.Replayed.{AreAfter}
use Rattle.ea_paths.proofs.Replayings.{AreTied-none, AreAfter-more}
use Rattle.ea_paths.proofs.log_replay.replay.Goals as goal

pub loop-word-init : goal.loop-word-init
loop-word-init c = record {
  places = c.requires;
  after = λ sources table begun. (begun, AreTied-none c.args.links.now c.clear.new.self.list.items);
}

pub loop-word-preserved : goal.loop-word-preserved
loop-word-preserved c =
    let words = c.args.notes.now in
    let place = c.loop-word.word-index in
    let note = note_in (get_or words place 0) in
    let notes = notes_in (take place words) in
    let before = c.loop-word.invariant in
    let passes = c.pass_on.ensures in
    let followed = rw c.note_in-note.ensures at (c.follow_note.ensures.done c.if-not-follow_note.false) in
    let more : notes_in (take (place + 1) words) ≡ notes ++ note ∷ [] = map_more note_in words place 0 c.loop-word-test.true in
    let more_after = AreAfter-more c.args.network.now notes note _ _ _ _ _ _ followed in
    record {
      places = record { places = passes.places.places ∙ c.follow_note.ensures.places.room; room = passes.places.room ∙ c.follow_note.ensures.places.room };
      after = λ sources table begun. (
          let P : List Note → Type 0 = λ xs. AreAfter c.args.network.now sources table xs c.pass_on.new.links c.pass_on.new.waiting.waiting c.pass_on.new.ties.list.items in
          subst P (sym more) (passes.done c.if-not-pass_on.false c.args.network.now sources table (notes ++ note ∷ []) (more_after sources table (before.after sources table begun))));
    }

pub returns : goal.returns
returns c = record {
  places = c.loop-word.invariant.places;
  done = λ yes. λ sources table begun.
      let words = c.args.notes.now in
      let all : take c.loop-word.word-index words ≡ words = take_all c.loop-word.word-index words (omega arith) in
      let Q : List ℕ → Type 0 = λ xs. AreAfter c.args.network.now sources table (notes_in xs) c.loop-word.links c.loop-word.waiting.waiting c.loop-word.ties.list.items in
      subst Q all (c.loop-word.invariant.after sources table begun);
}
