use Rattle.std.proofs.Common.{arith, ap, length, subst, sym, ◌+◌, ◌-◌, ◌<◌, ◌≡◌, ◌≤◌, ◌∙◌, ℕ, List}
use Rattle.std.specs.Prelude.{slice_index}
use Rattle.ea_hierarchy.specs.Hierarchies.{IsFrom}
use Rattle.ea_hierarchy.proofs.Finding.{inside, read_at}
use Rattle.ea_hierarchy.proofs.Relaxing.{behind, relaxes_more, third_is, third_of}
use Rattle.ea_hierarchy.proofs.customize.relax_arc.Goals as goal

pub place_from-from-requires : goal.place_from-from-requires
place_from-from-requires c =
    let firsts = c.args.upward.now.firsts.items in
    let heads = c.args.upward.now.heads.items in
    let nodes : ℕ = length firsts - 1 in
    let so_far = c.loop-later.invariant in
    let end : slice_index firsts (c.args.rank + 1) ≡ c.index.result.now = read_at firsts (c.args.rank + 1) c.index.result.now (omega (arith, c.requires.rank)) c.index.ensures in
    let before : c.loop-later.later < slice_index firsts (c.args.rank + 1) = omega (arith, end, c.loop-later-test.true) in
    let after : c.args.place < c.loop-later.later = omega (arith, c.loop-later.auto.later) in
    let is_later : IsFrom firsts c.args.rank c.loop-later.later = record { from = omega (arith, after, c.requires.place.from); before = before } in
    let whole : c.deref.result.now ≡ heads = c.deref.ensures.value in
    let read = read_at heads c.loop-later.later c.index-in-loop-later.result.now (inside nodes firsts heads c.requires.upward c.args.rank c.loop-later.later c.requires.rank is_later) c.index-in-loop-later.ensures in
    let third = third_of nodes firsts heads c.requires.upward c.args.rank c.args.place c.requires.rank c.requires.place c.args.numbers.now.ups.items c.args.numbers.now.downs.items c.loop-later.numbers.ups.items c.loop-later.numbers.downs.items c.loop-later.from c.loop-later.later after before so_far in
    (third.0, third.1, subst (λ (xs : List ℕ). third.0 < length xs) (sym whole) third.2, ap (λ (xs : List ℕ). slice_index xs third.0) whole ∙ third.3 ∙ read)

pub lower-requires-clause-place : goal.lower-requires-clause-place
lower-requires-clause-place c =
    let firsts = c.args.upward.now.firsts.items in
    let heads = c.args.upward.now.heads.items in
    let nodes : ℕ = length firsts - 1 in
    let so_far = c.loop-later.invariant in
    let end : slice_index firsts (c.args.rank + 1) ≡ c.index.result.now = read_at firsts (c.args.rank + 1) c.index.result.now (omega (arith, c.requires.rank)) c.index.ensures in
    let before : c.loop-later.later < slice_index firsts (c.args.rank + 1) = omega (arith, end, c.loop-later-test.true) in
    let after : c.args.place < c.loop-later.later = omega (arith, c.loop-later.auto.later) in
    let is_later : IsFrom firsts c.args.rank c.loop-later.later = record { from = omega (arith, after, c.requires.place.from); before = before } in
    let whole : c.deref.result.now ≡ heads = c.deref.ensures.value in
    let read = read_at heads c.loop-later.later c.index-in-loop-later.result.now (inside nodes firsts heads c.requires.upward c.args.rank c.loop-later.later c.requires.rank is_later) c.index-in-loop-later.ensures in
    let ups = c.args.numbers.now.ups.items in
    let downs = c.args.numbers.now.downs.items in
    let middle = c.loop-later.numbers in
    let found : ℕ = c.place_from-from.result in
    let head : slice_index heads found ≡ slice_index heads c.loop-later.later = ap (λ (xs : List ℕ). slice_index xs found) (sym whole) ∙ c.place_from-from.ensures.head ∙ sym read in
    let first : (other : ℕ) → c.loop-later.from ≤ other → other < length heads → slice_index heads other ≡ slice_index heads c.loop-later.later → found ≤ other =
    λ other from below same. c.place_from-from.ensures.first other from (subst (λ (xs : List ℕ). other < length xs) (sym whole) below) (ap (λ (xs : List ℕ). slice_index xs other) whole ∙ same ∙ read) in
    let joins = third_is nodes firsts heads c.requires.upward c.args.rank c.args.place c.requires.rank c.requires.place ups downs middle.ups.items middle.downs.items c.loop-later.from c.loop-later.later found after before so_far c.place_from-from.ensures.from head first in
    let far = behind nodes firsts heads c.requires.upward c.args.rank c.args.place c.requires.rank c.requires.place found joins.is_from in
    omega (arith, far, c.requires.place.before)

pub lower-requires-clause-later : goal.lower-requires-clause-later
lower-requires-clause-later c =
    let firsts = c.args.upward.now.firsts.items in
    let heads = c.args.upward.now.heads.items in
    let nodes : ℕ = length firsts - 1 in
    let so_far = c.loop-later.invariant in
    let end : slice_index firsts (c.args.rank + 1) ≡ c.index.result.now = read_at firsts (c.args.rank + 1) c.index.result.now (omega (arith, c.requires.rank)) c.index.ensures in
    let before : c.loop-later.later < slice_index firsts (c.args.rank + 1) = omega (arith, end, c.loop-later-test.true) in
    let after : c.args.place < c.loop-later.later = omega (arith, c.loop-later.auto.later) in
    let is_later : IsFrom firsts c.args.rank c.loop-later.later = record { from = omega (arith, after, c.requires.place.from); before = before } in
    let whole : c.deref.result.now ≡ heads = c.deref.ensures.value in
    let read = read_at heads c.loop-later.later c.index-in-loop-later.result.now (inside nodes firsts heads c.requires.upward c.args.rank c.loop-later.later c.requires.rank is_later) c.index-in-loop-later.ensures in
    let ups = c.args.numbers.now.ups.items in
    let downs = c.args.numbers.now.downs.items in
    let middle = c.loop-later.numbers in
    let found : ℕ = c.place_from-from.result in
    let head : slice_index heads found ≡ slice_index heads c.loop-later.later = ap (λ (xs : List ℕ). slice_index xs found) (sym whole) ∙ c.place_from-from.ensures.head ∙ sym read in
    let first : (other : ℕ) → c.loop-later.from ≤ other → other < length heads → slice_index heads other ≡ slice_index heads c.loop-later.later → found ≤ other =
    λ other from below same. c.place_from-from.ensures.first other from (subst (λ (xs : List ℕ). other < length xs) (sym whole) below) (ap (λ (xs : List ℕ). slice_index xs other) whole ∙ same ∙ read) in
    let joins = third_is nodes firsts heads c.requires.upward c.args.rank c.args.place c.requires.rank c.requires.place ups downs middle.ups.items middle.downs.items c.loop-later.from c.loop-later.later found after before so_far c.place_from-from.ensures.from head first in
    let far = behind nodes firsts heads c.requires.upward c.args.rank c.args.place c.requires.rank c.requires.place found joins.is_from in
    omega (arith, far, before)

pub loop-later-preserved : goal.loop-later-preserved
loop-later-preserved c =
    let firsts = c.args.upward.now.firsts.items in
    let heads = c.args.upward.now.heads.items in
    let nodes : ℕ = length firsts - 1 in
    let so_far = c.loop-later.invariant in
    let end : slice_index firsts (c.args.rank + 1) ≡ c.index.result.now = read_at firsts (c.args.rank + 1) c.index.result.now (omega (arith, c.requires.rank)) c.index.ensures in
    let before : c.loop-later.later < slice_index firsts (c.args.rank + 1) = omega (arith, end, c.loop-later-test.true) in
    let after : c.args.place < c.loop-later.later = omega (arith, c.loop-later.auto.later) in
    let is_later : IsFrom firsts c.args.rank c.loop-later.later = record { from = omega (arith, after, c.requires.place.from); before = before } in
    let whole : c.deref.result.now ≡ heads = c.deref.ensures.value in
    let read = read_at heads c.loop-later.later c.index-in-loop-later.result.now (inside nodes firsts heads c.requires.upward c.args.rank c.loop-later.later c.requires.rank is_later) c.index-in-loop-later.ensures in
    let ups = c.args.numbers.now.ups.items in
    let downs = c.args.numbers.now.downs.items in
    let middle = c.loop-later.numbers in
    let found : ℕ = c.place_from-from.result in
    let head : slice_index heads found ≡ slice_index heads c.loop-later.later = ap (λ (xs : List ℕ). slice_index xs found) (sym whole) ∙ c.place_from-from.ensures.head ∙ sym read in
    let first : (other : ℕ) → c.loop-later.from ≤ other → other < length heads → slice_index heads other ≡ slice_index heads c.loop-later.later → found ≤ other =
    λ other from below same. c.place_from-from.ensures.first other from (subst (λ (xs : List ℕ). other < length xs) (sym whole) below) (ap (λ (xs : List ℕ). slice_index xs other) whole ∙ same ∙ read) in
    let joins = third_is nodes firsts heads c.requires.upward c.args.rank c.args.place c.requires.rank c.requires.place ups downs middle.ups.items middle.downs.items c.loop-later.from c.loop-later.later found after before so_far c.place_from-from.ensures.from head first in
    let far = behind nodes firsts heads c.requires.upward c.args.rank c.args.place c.requires.rank c.requires.place found joins.is_from in
    relaxes_more nodes firsts heads c.requires.upward c.args.rank c.args.place c.requires.rank c.requires.place ups downs middle.ups.items middle.downs.items c.lower.new.numbers.ups.items c.lower.new.numbers.downs.items c.loop-later.from c.loop-later.later found after before so_far joins c.lower.ensures.lowers c.lower.ensures.up c.lower.ensures.down
