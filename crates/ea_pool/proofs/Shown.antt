-- What the words of both kinds of heap have in common, and the entries that they give.
use Rattle.std.proofs.Common.{◌≡◌, ℕ, ◌≤◌, List, [], ◌∷◌, ◌++◌, refl, sym, ap, arith, ◌∙◌}
use Rattle.ea_pool.specs.declared.heap.entry.Entry.{Entry}
use Rattle.ea_pool.specs.declared.shared.words.TheConstants.{EMPTY}
use Rattle.ea_pool.specs.Entries.{SameEntries, face}
use Rattle.ea_pool.specs.Kinds.{HeapKind, Least, Buckets, Shows, Gives, GivesOne}

pub face_low : (es : List Entry) → face es ≤ EMPTY
face_low [] = omega arith
face_low (e ∷ es) = let h = face_low es in omega arith

-- no key is below the word
pub shown_face : (kind : HeapKind) (word : ℕ) (es : List Entry) → Shows kind word es → word ≤ face es
shown_face Least word es h = omega (arith, h)
shown_face Buckets word es h = h.0

pub shown_low : (kind : HeapKind) (word : ℕ) (es : List Entry) → Shows kind word es → word ≤ EMPTY
shown_low kind word es h = omega (arith, shown_face kind word es h, face_low es)

-- a heap with no entry has the word EMPTY
pub shown_none : (kind : HeapKind) → Shows kind EMPTY []
shown_none Least = refl
shown_none Buckets = (omega arith, λ none. refl)

pub shown_empty : (kind : HeapKind) (word : ℕ) (es : List Entry) → Shows kind word es → es ≡ [] → word ≡ EMPTY
shown_empty Least word es h none = sym h ∙ ap face none
shown_empty Buckets word es h none = h.1 none

-- what came out and what is left is what was there
pub given_parts : (kind : HeapKind) (out content rest : List Entry) → Gives kind out content rest → SameEntries content (out ++ rest)
given_parts Least out content rest h = h.parts
given_parts Buckets out content rest h = h

pub given_one : (kind : HeapKind) (e : Entry) (content rest : List Entry) → GivesOne kind e content rest → SameEntries content (e ∷ rest)
given_one Least e content rest h = h.1
given_one Buckets e content rest h = h
