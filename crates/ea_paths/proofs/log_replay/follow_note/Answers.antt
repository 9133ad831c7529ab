use Rattle.std.proofs.Common.{rules, ◌≡◌, ℕ, ◌-◌, ◌<◌, length, set, subst, arith, refl, sym, ◌∙◌}
use Rattle.std.proofs.lemmas.Bool.{false≢true}
use Rattle.ea_search.specs.declared.link.Link.{Link}
use Rattle.ea_paths.specs.Replayed.{IsReachedAgain, IsFallen}
use Rattle.ea_paths.proofs.Replayings.{IsFallen-set, link_of-read}
use Rattle.ea_paths.proofs.log_replay.follow_note.Goals as goal

pub returns-then-note : goal.returns-then-note
returns-then-note c = record {
  places = search rules;
  done = λ yes.
      let tail : (0 < c.args.note.from) × (c.in-Some.from ≡ c.args.note.from - 1) × (c.in-Some.from < length c.args.links.now) = c.in-Some.ensures in
      let new = link_of-read c.args.note c.args.links.now c.in-Some.from c.saturating_add-level.result c.args.note.place tail.0 tail.1 tail.2 c.saturating_add-level.ensures refl in
      let P : Link → Type 0 = λ l. IsReachedAgain c.args.network.now c.args.note.node l c.args.links.now c.args.waiting.now.waiting c.args.ties.now.list.items c.tie.new.links c.tie.new.waiting.waiting c.tie.new.ties.list.items in
      record {
        fell = λ falls. absurd (false≢true (sym falls ∙ c.if-note.true));
        again = λ again. subst P new (rw c.link_by.ensures at (c.tie.ensures.done yes));
      };
}

pub returns : goal.returns
returns c = record {
  places = search rules;
  done = λ yes.
      let links = c.args.links.now in
      let tail : (0 < c.args.note.from) × (c.in-Some.from ≡ c.args.note.from - 1) × (c.in-Some.from < length links) = c.in-Some.ensures in
      let node : (0 < c.args.note.node) × (c.in-Some-place_of.place ≡ c.args.note.node - 1) × (c.in-Some-place_of.place < length links) = c.in-Some-place_of.ensures in
      let made : Link = record { level = c.saturating_add-level.result; arc = c.args.note.place; from = c.args.note.from } in
      let new = link_of-read c.args.note links c.in-Some.from c.saturating_add-level.result c.args.note.place tail.0 tail.1 tail.2 c.saturating_add-level.ensures refl in
      let P : Link → Type 0 = λ l. IsFallen c.args.note.node l links (set links c.in-Some-place_of.place made) in
      let Q : ℕ → Type 0 = λ k. IsFallen c.args.note.node made links (set links k made) in
      record {
        fell = λ falls. (rw c.link_by-2.ensures (subst P new (subst Q (sym node.1) (IsFallen-set c.args.note.node made links node.0 (omega (arith, node.1, node.2))))), (refl, refl));
        again = λ again. absurd (false≢true (sym c.if-note.false ∙ again));
      };
}
