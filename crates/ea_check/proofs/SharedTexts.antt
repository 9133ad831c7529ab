-- Texts of walks that share their front or their back.
use Rattle.std.proofs.Common.{◌≡◌, ◌∙◌, refl, ℕ, zero, suc, ◌+◌, ◌-◌, ◌<◌, ◌≤◌, inl, inr, Bool, true, false, filter, length-drop, List, [], ◌∷◌, ◌++◌, length, take, drop, reverse, get_or, arith, ap, sym, subst, take-take}
use Rattle.std.proofs.Math.Seq.{drop-cons, drop-nil, take-add, take-append_seam, take-length, take-nil}
use Rattle.std.proofs.lemmas.List.{map-append, reverse-append, take-append-drop}
use Rattle.std.proofs.lemmas.List.Elements.{filter-append}
use Rattle.std.proofs.lemmas.List.Splits.{slice_split-cons_yes, slice_split-cons_no}
use Rattle.std.specs.Prelude.{nat_lt}
use Rattle.std.specs.List.{slice_split, onto_first}
use Rattle.ea_base.specs.declared.direction.Direction.{Direction}
use Rattle.ea_base.specs.declared.direction.Direction.TheVariants.{Forward, Turned}
use Rattle.ea_bytes.specs.Text.{fields_of, is_blank}
use Rattle.ea_check.specs.Form.{arc_of, arcs_of}
use Rattle.ea_check.specs.Shared.{BeginsBlank, EndsBlank, IsOwnPart, arcs_in, part}

-- ---- fields at a blank

onto_more : (x : ℕ) (parts others : List (List ℕ)) → 0 < length parts → onto_first x (parts ++ others) ≡ onto_first x parts ++ others
onto_more x [] others some = absurd (omega arith)
onto_more x (part ∷ parts) others some = refl

onto_some : (x : ℕ) (parts : List (List ℕ)) → 0 < length (onto_first x parts)
onto_some x [] = omega arith
onto_some x (part ∷ parts) = omega arith

split_some : (xs : List ℕ) → 0 < length (slice_split is_blank xs)
split_some [] = omega arith
split_some (x ∷ xs) = by_test (is_blank x) refl
  where
    by_test : (here : Bool) → is_blank x ≡ here → 0 < length (slice_split is_blank (x ∷ xs))
    by_test true blank = rw (slice_split-cons_yes is_blank x xs blank) (omega arith)
    by_test false solid = rw (slice_split-cons_no is_blank x xs solid) (onto_some x (slice_split is_blank xs))

split_next : (x : ℕ) (xs ys behind : List ℕ) (here : Bool) → is_blank x ≡ here → slice_split is_blank behind ≡ slice_split is_blank xs ++ slice_split is_blank ys → slice_split is_blank (x ∷ behind) ≡ slice_split is_blank (x ∷ xs) ++ slice_split is_blank ys
split_next x xs ys behind true blank rest =
    slice_split-cons_yes is_blank x behind blank ∙ ap (λ (ps : List (List ℕ)). [] ∷ ps) rest
    ∙ ap (λ (ps : List (List ℕ)). ps ++ slice_split is_blank ys) (sym (slice_split-cons_yes is_blank x xs blank))
split_next x xs ys behind false solid rest =
    slice_split-cons_no is_blank x behind solid ∙ ap (onto_first x) rest
    ∙ onto_more x (slice_split is_blank xs) (slice_split is_blank ys) (split_some xs)
    ∙ ap (λ (ps : List (List ℕ)). ps ++ slice_split is_blank ys) (sym (slice_split-cons_no is_blank x xs solid))

split_cut : (xs : List ℕ) (b : ℕ) (ys : List ℕ) → is_blank b ≡ true → slice_split is_blank (xs ++ b ∷ ys) ≡ slice_split is_blank xs ++ slice_split is_blank ys
split_cut [] b ys blank = slice_split-cons_yes is_blank b ys blank
split_cut (x ∷ xs) b ys blank = split_next x xs ys (xs ++ b ∷ ys) (is_blank x) refl (split_cut xs b ys blank)

-- a blank ends a field
fields_cut : (xs : List ℕ) (b : ℕ) (ys : List ℕ) → is_blank b ≡ true → fields_of (xs ++ b ∷ ys) ≡ fields_of xs ++ fields_of ys
fields_cut xs b ys blank =
    ap (filter (λ part. nat_lt 0 (length part))) (split_cut xs b ys blank) ∙ filter-append (λ part. nat_lt 0 (length part)) (slice_split is_blank xs) (slice_split is_blank ys)

at_place : (text : List ℕ) (place : ℕ) → place < length text → take place text ++ get_or text place 0 ∷ drop (suc place) text ≡ text
at_place text place inside =
    ap (λ (rest : List ℕ). take place text ++ rest) (sym (drop-cons text place 0 inside)) ∙ take-append-drop place text

-- the fields before and behind a blank at a place
arcs_cut : (text : List ℕ) (place : ℕ) → place < length text → is_blank (get_or text place 0) ≡ true → arcs_of (fields_of text) ≡ arcs_of (fields_of (take place text)) ++ arcs_of (fields_of (drop (suc place) text))
arcs_cut text place inside blank =
    ap (λ (t : List ℕ). arcs_of (fields_of t)) (sym (at_place text place inside))
    ∙ ap arcs_of (fields_cut (take place text) (get_or text place 0) (drop (suc place) text) blank)
    ∙ map-append arc_of (fields_of (take place text)) (fields_of (drop (suc place) text))

-- ---- the front that is shared

front_part : (way : Direction) (text other front rest also : List ℕ) → arcs_in way text ≡ front ++ rest → arcs_in way other ≡ front ++ also → take (length front) (arcs_in way other) ≡ front
front_part way text other front rest also cut same = ap (take (length front)) same ∙ take-append_seam front also

whole_part : (text : List ℕ) (start : ℕ) → start ≤ length text → part text start (length text) ≡ drop start text
whole_part text start inside = ap (λ n. take n (drop start text)) (omega (arith, length-drop start text)) ∙ take-length (drop start text)

-- ---- one more piece that is the same

pub drop_drop : (n m : ℕ) (xs : List ℕ) → drop m (drop n xs) ≡ drop (n + m) xs
drop_drop zero m xs = ap (λ k. drop k xs) (omega arith)
drop_drop (suc n) m [] = drop-nil m ∙ sym (drop-nil (suc n + m))
drop_drop (suc n) m (x ∷ xs) =
    let more : suc (n + m) ≡ suc n + m = omega arith in
    drop_drop n m xs ∙ ap (λ k. drop k (x ∷ xs)) more

pub front_more : (text other : List ℕ) (len piece : ℕ) → take len text ≡ take len other → part text len (len + piece) ≡ part other len (len + piece) → take (len + piece) text ≡ take (len + piece) other
front_more text other len piece same here =
    let size : len + piece - len ≡ piece = omega arith in
    let next : take piece (drop len text) ≡ take piece (drop len other) = subst (λ n. take n (drop len text) ≡ take n (drop len other)) size here in
    take-add len piece text ∙ ap (λ (xs : List ℕ). xs ++ take piece (drop len text)) same ∙ ap (λ (xs : List ℕ). take len other ++ xs) next ∙ sym (take-add len piece other)

back_here : (text : List ℕ) (start piece : ℕ) → take piece (drop start text) ++ drop (start + piece) text ≡ drop start text
back_here text start piece = ap (λ (xs : List ℕ). take piece (drop start text) ++ xs) (sym (drop_drop start piece text)) ∙ take-append-drop piece (drop start text)

back_more : (text other : List ℕ) (start also piece : ℕ) → drop (start + piece) text ≡ drop (also + piece) other → take piece (drop start text) ≡ take piece (drop also other) → drop start text ≡ drop also other
back_more text other start also piece same here =
    sym (back_here text start piece) ∙ ap (λ (xs : List ℕ). xs ++ drop (start + piece) text) here ∙ ap (λ (xs : List ℕ). take piece (drop also other) ++ xs) same ∙ back_here other also piece

pub back_longer : (text other : List ℕ) (len piece : ℕ) → len + piece ≤ length text → len + piece ≤ length other → drop (length text - len) text ≡ drop (length other - len) other → part text (length text - len - piece) (length text - len) ≡ part other (length other - len - piece) (length other - len) → drop (length text - (len + piece)) text ≡ drop (length other - (len + piece)) other
back_longer text other len piece inside also same here =
    let start = length text - (len + piece) in
    let begin = length other - (len + piece) in
    back_more text other start begin piece
    (ap (λ n. drop n text) (omega arith) ∙ same ∙ ap (λ n. drop n other) (omega arith))
    (ap (λ n. take n (drop start text)) (omega arith) ∙ ap (λ n. take (length text - len - (length text - len - piece)) (drop n text)) (omega arith) ∙ here ∙ ap (λ n. take n (drop (length other - len - piece) other)) (omega arith) ∙ ap (λ n. take piece (drop n other)) (omega arith))

-- ---- the part that isn't shared

front_shorter : (text other : List ℕ) (len end : ℕ) → end ≤ len → take len text ≡ take len other → take end text ≡ take end other
front_shorter text other len end less same =
    sym (shorter text) ∙ ap (take end) same ∙ shorter other
  where
    shorter : (xs : List ℕ) → take end (take len xs) ≡ take end xs
    shorter xs = take-take end len xs less

front_fields : (text other : List ℕ) (place : ℕ) → place < length text → place < length other → take (suc place) text ≡ take (suc place) other → is_blank (get_or text place 0) ≡ true → (front : List ℕ) × (arcs_of (fields_of text) ≡ front ++ arcs_of (fields_of (drop (suc place) text))) × (arcs_of (fields_of other) ≡ front ++ arcs_of (fields_of (drop (suc place) other)))
front_fields text other place inside also same blank =
    let fronts = front_shorter text other (suc place) place (omega arith) same in
    let bytes = place_of text other place same in
    let behind = arcs_cut other place also (ap is_blank (sym bytes) ∙ blank) in
    (arcs_of (fields_of (take place text)), arcs_cut text place inside blank, behind ∙ ap (λ (t : List ℕ). arcs_of (fields_of t) ++ arcs_of (fields_of (drop (suc place) other))) (sym fronts))
  where
    place_of : (xs ys : List ℕ) (place : ℕ) → take (suc place) xs ≡ take (suc place) ys → get_or xs place 0 ≡ get_or ys place 0
    place_of [] [] place equal = refl
    place_of [] (y ∷ ys) place equal = cc
    place_of (x ∷ xs) [] place equal = cc
    place_of (x ∷ xs) (y ∷ ys) zero equal = cc
    place_of (x ∷ xs) (y ∷ ys) (suc place) equal = place_of xs ys place (cc)

pub own_forward : (text other : List ℕ) (len end : ℕ) → len ≤ length text → len ≤ length other → take len text ≡ take len other → end ≤ len → EndsBlank text end → IsOwnPart Forward text (arcs_in Forward other) end (length text)
own_forward text other len end inside also same fewer (inl none) = rw none (record {
  in_order = omega arith;
  inside = omega arith;
  front = [];
  cut = sym (ap (arcs_in Forward) (whole_part text 0 (omega arith)));
  shared = refl;
})
own_forward text other len end inside also same fewer (inr blank) =
    let is : suc (end - 1) ≡ end = let some = blank.0 in omega arith in
    let fields = front_fields text other (end - 1) (let some = blank.0 in omega arith) (let some = blank.0 in omega arith) (rw is (front_shorter text other len end fewer same)) blank.1 in
    record {
      in_order = omega arith;
      inside = omega arith;
      front = fields.0;
      cut = fields.1 ∙ ap (λ (t : List ℕ). fields.0 ++ arcs_of (fields_of t)) (ap (λ n. drop n text) is ∙ sym (whole_part text end (omega arith)));
      shared = front_part Forward text other fields.0 _ _ fields.1 fields.2;
    }

back_fields : (text other : List ℕ) (place also : ℕ) → place < length text → also < length other → drop place text ≡ drop also other → is_blank (get_or text place 0) ≡ true → (back : List ℕ) × (arcs_of (fields_of text) ≡ arcs_of (fields_of (take place text)) ++ back) × (arcs_of (fields_of other) ≡ arcs_of (fields_of (take also other)) ++ back)
back_fields text other place also inside within same blank =
    let both : get_or text place 0 ∷ drop (suc place) text ≡ get_or other also 0 ∷ drop (suc also) other = sym (drop-cons text place 0 inside) ∙ same ∙ drop-cons other also 0 within in
    let bytes : get_or text place 0 ≡ get_or other also 0 = cc in
    let rests : drop (suc place) text ≡ drop (suc also) other = cc in
    let behind = arcs_cut other also within (ap is_blank (sym bytes) ∙ blank) in
    (arcs_of (fields_of (drop (suc place) text)), arcs_cut text place inside blank, behind ∙ ap (λ (t : List ℕ). arcs_of (fields_of (take also other)) ++ arcs_of (fields_of t)) (sym rests))

pub own_turned : (text other : List ℕ) (len left : ℕ) → len ≤ length text → len ≤ length other → drop (length text - len) text ≡ drop (length other - len) other → left ≤ len → BeginsBlank text left → IsOwnPart Turned text (arcs_in Turned other) 0 (length text - left)
own_turned text other len left inside also same fewer (inl none) = rw none (record {
  in_order = omega arith;
  inside = omega arith;
  front = [];
  cut = sym (ap (arcs_in Turned) (ap (λ n. take n text) (omega arith) ∙ take-length text));
  shared = refl;
})
own_turned text other len left inside also same fewer (inr blank) =
    let some = blank.0 in
    let place = length text - left in
    let at = length other - left in
    let apart = len - left in
    let ends : drop place text ≡ drop at other = ap (λ n. drop n text) (omega arith) ∙ sym (drop_drop (length text - len) apart text) ∙ ap (drop apart) same ∙ drop_drop (length other - len) apart other ∙ ap (λ n. drop n other) (omega arith) in
    let fields = back_fields text other place at (omega arith) (omega arith) ends blank.1 in
    let here : place ≡ place - 0 = omega arith in
    let cut : arcs_in Turned text ≡ reverse fields.0 ++ arcs_in Turned (take place text) = ap reverse fields.1 ∙ reverse-append (arcs_of (fields_of (take place text))) fields.0 in
    let behind : arcs_in Turned other ≡ reverse fields.0 ++ arcs_in Turned (take at other) = ap reverse fields.2 ∙ reverse-append (arcs_of (fields_of (take at other))) fields.0 in
    record {
      in_order = omega arith;
      inside = omega arith;
      front = reverse fields.0;
      cut = cut ∙ ap (λ n. reverse fields.0 ++ arcs_in Turned (take n text)) here;
      shared = front_part Turned text other (reverse fields.0) _ _ cut behind;
    }

-- nothing is shared with a text that has no arcs
pub own_alone : (way : Direction) (text last : List ℕ) (start end : ℕ) → IsOwnPart way text (arcs_in way []) start end → IsOwnPart way text last start end
own_alone way text last start end own =
    let none : own.front ≡ [] = sym own.shared ∙ ap (take (length own.front)) (empty way) ∙ take-nil (length own.front) in
    record {
      in_order = own.in_order;
      inside = own.inside;
      front = [];
      cut = own.cut ∙ ap (λ (xs : List ℕ). xs ++ arcs_in way (part text start end)) none;
      shared = refl;
    }
  where
    empty : (way : Direction) → arcs_in way [] ≡ []
    empty Forward = refl
    empty Turned = refl
