use Rattle.std.proofs.Common.{◌≡◌, ◌-◌, ◌<◌, ℕ, List, length, true, get_or, ap, subst, refl, sym, ◌∙◌, arith}
use Rattle.ea_search.specs.declared.link.Link.{Link}
use Rattle.ea_search.specs.declared.log.note.Note.{Note}
use Rattle.ea_search.specs.Links.{link}
use Rattle.ea_paths.specs.Replayed.{HaveOneArc, IsReachedAgain, link_of}
use Rattle.ea_paths.proofs.Linkings.{link_read}
use Rattle.ea_paths.proofs.Replayings.{AreAfter-passed, link_of-read}
use Rattle.ea_paths.proofs.level_updates.pass_to_head.Goals as goal

abbrev empty : Link
empty = record { level = 0; arc = 0; from = 0 }

-- the head's link, as the code reads it
read : (links : List Link) (node place nodes count : ℕ) → (0 < node) × (place ≡ node - 1) × (place < count) → count ≡ length links → get_or links place empty ≡ link links node
read links node place nodes count at same = ap (λ (k : ℕ). get_or links k empty) at.1 ∙ link_read links node at.0 (omega (arith, at.0, at.1, at.2))

pub relevel-requires-clause-node : goal.relevel-requires-clause-node
relevel-requires-clause-node c =
    let links = c.args.links.now in
    let at : (0 < c.args.head) × (c.in-Some-place_of.at ≡ c.args.head - 1) × (c.in-Some-place_of.at < length links) = c.in-Some-place_of.ensures in
    let old = read links c.args.head c.in-Some-place_of.at 0 (length links) at refl in
    record {
      place = record {
        is_node = record { from_one = at.0; to_last = omega (arith, at.0, at.1, at.2, c.requires.places) };
        places = c.requires.places;
      };
      level = λ none. c.if-old-eq0.false (ap (λ (l : Link). l.level) old ∙ none);
    }

pub relevel-requires-clause-same : goal.relevel-requires-clause-same
relevel-requires-clause-same c =
    let links = c.args.links.now in
    let old = sym (read links c.args.head c.in-Some-place_of.at 0 (length links) c.in-Some-place_of.ensures refl) in
    (ap (λ (l : Link). l.from) old ∙ c.if-old-node.false, ap (λ (l : Link). l.arc) old)

pub returns : goal.returns
returns c = record {
  places = c.relevel.ensures.kept.places;
  done = λ yes roads sources table notes before.
      let links = c.args.links.now in
      let tail : (0 < c.args.node) × (c.in-Some.from ≡ c.args.node - 1) × (c.in-Some.from < length links) = c.in-Some.ensures in
      let old = read links c.args.head c.in-Some-place_of.at 0 (length links) c.in-Some-place_of.ensures refl in
      let level = ap (λ (l : Link). l.level) old in
      let arc = (get_or links c.in-Some-place_of.at empty).arc in
      let note : Note = record { node = c.args.head; from = c.args.node; place = arc; again = true } in
      let made : Link = record { level = c.saturating_add.result; arc = arc; from = c.args.node } in
      let new : made ≡ link_of note links = link_of-read note links c.in-Some.from c.saturating_add.result arc tail.0 tail.1 tail.2 c.saturating_add.ensures refl in
      let same : HaveOneArc (link links c.args.head) (link_of note links) = (ap (λ (l : Link). l.from) (sym old) ∙ c.if-old-node.false, ap (λ (l : Link). l.arc) (sym old)) in
      let P : Link → Type 0 = λ l. IsReachedAgain roads c.args.head l links c.args.waiting.now.waiting c.args.ties.now.list.items c.relevel.new.links c.relevel.new.waiting.waiting c.relevel.new.ties.list.items in
      let reached = subst P new (c.relevel.ensures.reached yes roads) in
      AreAfter-passed roads note notes links c.relevel.new.links _ _ _ _ refl same (λ none. c.if-old-eq0.false (level ∙ none)) (omega (arith, level, c.if-old-ge-NO_LEVEL.false)) reached sources table before;
}
