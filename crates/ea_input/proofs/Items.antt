-- Texts of items denote them exactly if they are read as such.
use Rattle.std.proofs.Common.{◌≡◌, inl, inr, ℕ, ◌+◌, ◌<◌, ◌≤◌, ◌^◌, true, false, cond, refl, ap, ap₂, sym, ◌∙◌, subst, arith, List, [], ◌∷◌, ◌++◌, length, ltb, lit<, append-nil, append_assoc, length-append}
use Rattle.std.specs.Prelude.{Option, Some, None, Result, Ok, Err, IfOk, MatchResult, codes}
use Rattle.std.specs.Str.{bytes_eq}
use Rattle.std.proofs.lemmas.Bool.{ltb-true, lt-ltb, ltb-false, le-ltb}
use Rattle.ea_bytes.specs.Text.{is_comment, is_silent, speaking}
use Rattle.ea_blocks.specs.Fault.{◌>>=◌, numeral, within, Gives, out_of_memory}
use Rattle.ea_input.specs.Range.{IsNumberIn}
use Rattle.ea_blocks.specs.Reading.{text_after}
use Rattle.ea_input.specs.Listing.{IsCountLine, IsItemLine, AreItemLines, DenotesItems, after_kinds, only_number, announced, problem_line, item_line, list_line, list_step, list_end, Listed, nothing_listed, with_line}
use Rattle.ea_input.proofs.Numbered.{bind_ok, guard_ok, number_found, numeral_of, within_of}
use Rattle.ea_input.proofs.Said.{same_word, is_word, choice_ok}
use Rattle.ea_input.proofs.Denoted.{speaking_silent, speaking_loud, unless_ok}
use Rattle.ea_blocks.proofs.Cuts.{two_ways}
use Rattle.ea_input.proofs.OneByOne.{rest_of, one_line, next_line, no_line, at_end}
use Rattle.ea_blocks.specs.declared.fault.FaultKind.{FaultKind}
use Rattle.ea_blocks.specs.declared.fault.FaultKind.TheVariants.{TooManyLines, TooFewLines, BadKind}
use Rattle.ea_blocks.specs.declared.fault.InputFault.{InputFault}
use Rattle.ea_input.specs.declared.problem_line.ListLine.{ListLine}
use Rattle.ea_input.specs.declared.problem_line.ListLine.TheVariants.{Silent, Problem, Item}

-- A sort of lines: its words, its fields by the checks and by the grammar.
pub record Sort (A : Type 0) : Type 1 where
  pub kind : List ℕ
  pub word : List ℕ
  pub plain : is_comment word ≡ false
  pub other : bytes_eq word (codes "p") ≡ false
  pub nodes : ℕ
  pub counts : ℕ → ℕ × ℕ
  pub few : (counts nodes).1 < 2 ^ 64
  pub item_of : ℕ → List (List ℕ) → Result A FaultKind
  pub IsItem : List (List ℕ) → A → Type 0
  pub taken : (fields : List (List ℕ)) (item : A) → item_of nodes fields ≡ Ok item → IsItem fields item
  pub takes : (fields : List (List ℕ)) (item : A) → IsItem fields item → item_of nodes fields ≡ Ok item

-- ---- a line, by the checks and by the grammar

pub after_kinds_ok : (kinds fields others : List (List ℕ)) → after_kinds kinds fields ≡ Ok others → fields ≡ kinds ++ others
unfolding after_kinds
after_kinds_ok [] fields others e = cc
after_kinds_ok (kind ∷ kinds) [] others e = cc
after_kinds_ok (kind ∷ kinds) (field ∷ fields) others e = elim (choice_ok (bytes_eq field kind) (after_kinds kinds fields) (Err BadKind) (Ok others) e) [
  | inl p ↦ ap₂ (λ (x : List ℕ) (xs : List (List ℕ)). x ∷ xs) (same_word field kind p.0) (after_kinds_ok kinds fields others p.1)
  | inr p ↦ cc (p.1)
]

pub after_kinds_of : (kinds others : List (List ℕ)) → after_kinds kinds (kinds ++ others) ≡ Ok others
unfolding after_kinds
after_kinds_of [] others = refl
after_kinds_of (kind ∷ kinds) others = ap (λ b. cond b (after_kinds kinds (kinds ++ others)) (Err BadKind)) (is_word kind kind refl) ∙ after_kinds_of kinds others

pub only_number_ok : (low high : ℕ) (fields : List (List ℕ)) (n : ℕ) → high < 2 ^ 64 → only_number low high fields ≡ Ok n → (field : List ℕ) × (fields ≡ field ∷ []) × IsNumberIn low high field n
unfolding only_number
only_number_ok low high [] n small e = cc
only_number_ok low high (field ∷ []) n small e = let m = bind_ok (numeral field) (λ m. within low high m) n e in (field, refl, number_found low high field m.0 n small m.1 m.2)
only_number_ok low high (field ∷ x ∷ rest) n small e = cc

pub only_number_of : (low high : ℕ) (field : List ℕ) (n : ℕ) → high < 2 ^ 64 → IsNumberIn low high field n → only_number low high (field ∷ []) ≡ Ok n
unfolding only_number
only_number_of low high field n small is = rw (numeral_of low high field n small is) (within_of low high n is.1 is.2)

count_ok : (kind word : List ℕ) (counts : ℕ × ℕ) (fields : List (List ℕ)) (n : ℕ) → counts.1 < 2 ^ 64 → word ≡ codes "p" → announced kind counts fields ≡ Ok n → IsCountLine kind counts (word ∷ fields) n
unfolding announced
count_ok kind word counts fields n few e h =
    let numbers = bind_ok (after_kinds (codes "aux" ∷ codes "sp" ∷ kind ∷ []) fields) (λ numbers. only_number counts.0 counts.1 numbers) n h in
    let front = after_kinds_ok (codes "aux" ∷ codes "sp" ∷ kind ∷ []) fields numbers.0 numbers.1 in
    let last = only_number_ok counts.0 counts.1 numbers.0 n few numbers.2 in
    let all : fields ≡ codes "aux" ∷ codes "sp" ∷ kind ∷ last.0 ∷ [] = front ∙ ap (λ (xs : List (List ℕ)). codes "aux" ∷ codes "sp" ∷ kind ∷ xs) last.1 in
    subst (λ (xs : List (List ℕ)). IsCountLine kind counts (word ∷ xs) n) (sym all) (e, refl, refl, refl, last.2)

announced_of : (kind aux sp third n : List ℕ) (counts : ℕ × ℕ) (count : ℕ) → counts.1 < 2 ^ 64 → aux ≡ codes "aux" → sp ≡ codes "sp" → third ≡ kind → IsNumberIn counts.0 counts.1 n count → announced kind counts (aux ∷ sp ∷ third ∷ n ∷ []) ≡ Ok count
unfolding announced
announced_of kind aux sp third n counts count few a s t is =
    rw (a, s, t) (ap (λ r. r >>= λ numbers. only_number counts.0 counts.1 numbers) (after_kinds_of (codes "aux" ∷ codes "sp" ∷ kind ∷ []) (n ∷ [])) ∙ only_number_of counts.0 counts.1 n count few is)

-- What a line says, by the grammar, after a problem line or none, and this many items.
abbrev pub Says : {A : Type 0} → Sort A → Option ℕ → ℕ → List (List ℕ) → ListLine A → Type 0
Says f size count fields Silent = is_silent fields ≡ true
Says f size count fields (Problem new) = (is_silent fields ≡ false) × (size ≡ None) × IsCountLine f.kind (f.counts f.nodes) fields new
Says f size count fields (Item item) = (is_silent fields ≡ false) × ((old : ℕ) × (size ≡ Some old) × (count < old) × IsItemLine f.word f.IsItem fields item)

problem_line_says : {A : Type 0} (f : Sort A) (size : Option ℕ) (count : ℕ) (word : List ℕ) (fields : List (List ℕ)) (said : ListLine A) → is_comment word ≡ false → word ≡ codes "p" → problem_line f.kind (f.counts f.nodes) size fields ≡ Ok said → Says f size count (word ∷ fields) said
unfolding problem_line
problem_line_says f (Some old) count word fields said plain e h = cc
problem_line_says {A = A} f None count word fields said plain e h =
    let s = bind_ok (announced f.kind (f.counts f.nodes) fields) (λ size. Ok (Problem size)) said h in
    let same : Problem s.0 ≡ said = cc (s.2) in
    let P : ListLine A → Type 0 = λ l. Says f None count (word ∷ fields) l in
    subst P same (plain, refl, count_ok f.kind word (f.counts f.nodes) fields s.0 f.few e s.1)

item_line_says : {A : Type 0} (f : Sort A) (size : Option ℕ) (count : ℕ) (word : List ℕ) (fields : List (List ℕ)) (said : ListLine A) → is_comment word ≡ false → word ≡ f.word → item_line (f.item_of f.nodes) size count fields ≡ Ok said → Says f size count (word ∷ fields) said
unfolding item_line
item_line_says f None count word fields said plain e h = cc
item_line_says {A = A} f (Some old) count word fields said plain e h =
    let a = bind_ok (f.item_of f.nodes fields) (λ item. cond (ltb count old) (Ok (Item item)) (Err TooManyLines)) said h in
    let passed = guard_ok (ltb count old) (Item a.0) said TooManyLines a.2 in
    let P : ListLine A → Type 0 = λ l. Says f (Some old) count (word ∷ fields) l in
    subst P passed.1 (plain, (old, refl, ltb-true count old passed.0, (e, f.taken fields a.0 a.1)))

silent_says : {A : Type 0} (f : Sort A) (size : Option ℕ) (count : ℕ) (fields : List (List ℕ)) (said : ListLine A) → is_silent fields ≡ true → ◌≡◌ {A = Result (ListLine A) FaultKind} (Ok Silent) (Ok said) → Says f size count fields said
silent_says {A = A} f size count fields said silent e =
    let same : Silent ≡ said = cc in
    let P : ListLine A → Type 0 = λ l. Says f size count fields l in
    subst P same silent

pub line_says : {A : Type 0} (f : Sort A) (size : Option ℕ) (count : ℕ) (fields : List (List ℕ)) (said : ListLine A) → list_line f.kind f.word (f.counts f.nodes) (f.item_of f.nodes) size count fields ≡ Ok said → Says f size count fields said
unfolding list_line
line_says f size count [] said h = silent_says f size count [] said refl h
line_says f size count (word ∷ fields) said h = elim (choice_ok (is_comment word) _ _ (Ok said) h) [
  | inl p ↦ silent_says f size count (word ∷ fields) said p.0 p.1
  | inr p ↦ elim (choice_ok (bytes_eq word (codes "p")) _ _ (Ok said) p.1) [
    | inl q ↦ problem_line_says f size count word fields said p.0 (same_word word (codes "p") q.0) q.1
    | inr q ↦ elim (choice_ok (bytes_eq word f.word) _ _ (Ok said) q.1) [
      | inl r ↦ item_line_says f size count word fields said p.0 (same_word word f.word r.0) r.1
      | inr r ↦ cc (r.1)
    ]
  ]
]

-- ---- and back

silent_line : {A : Type 0} (f : Sort A) (size : Option ℕ) (count : ℕ) (fields : List (List ℕ)) → is_silent fields ≡ true → list_line f.kind f.word (f.counts f.nodes) (f.item_of f.nodes) size count fields ≡ Ok Silent
unfolding list_line
silent_line f size count [] e = refl
silent_line f size count (word ∷ fields) e = rw e refl

count_line_of : {A : Type 0} (f : Sort A) (count : ℕ) (fields : List (List ℕ)) (n : ℕ) → IsCountLine f.kind (f.counts f.nodes) fields n → list_line f.kind f.word (f.counts f.nodes) (f.item_of f.nodes) None count fields ≡ Ok (Problem n)
unfolding list_line problem_line
count_line_of f count [] n is = absurd is
count_line_of f count (word ∷ []) n is = absurd is
count_line_of f count (word ∷ aux ∷ []) n is = absurd is
count_line_of f count (word ∷ aux ∷ sp ∷ []) n is = absurd is
count_line_of f count (word ∷ aux ∷ sp ∷ third ∷ []) n is = absurd is
count_line_of f count (word ∷ aux ∷ sp ∷ third ∷ m ∷ []) n is = rw (is.0) (ap (λ r. r >>= λ s. Ok (Problem s)) (announced_of f.kind aux sp third m (f.counts f.nodes) n f.few is.1 is.2 is.3 is.4))
count_line_of f count (word ∷ aux ∷ sp ∷ third ∷ m ∷ x ∷ rest) n is = absurd is

item_line_of : {A : Type 0} (f : Sort A) (size count : ℕ) (fields : List (List ℕ)) (item : A) → count < size → IsItemLine f.word f.IsItem fields item → list_line f.kind f.word (f.counts f.nodes) (f.item_of f.nodes) (Some size) count fields ≡ Ok (Item item)
unfolding list_line item_line
item_line_of f size count [] item room is = absurd is
item_line_of f size count (word ∷ fields) item room is =
    rw (is.0, f.plain, f.other, is_word f.word f.word refl) (ap (λ r. r >>= λ a. cond (ltb count size) (Ok (Item a)) (Err TooManyLines)) (f.takes fields item is.1) ∙ ap (λ b. cond b (Ok (Item item)) (Err TooManyLines)) (lt-ltb count size room))

-- ---- lines

abbrev rest : {A : Type 0} → Sort A → ℕ → Option ℕ → List A → List (List (List ℕ)) → Result (List A) InputFault
rest f n size items lines = rest_of (list_step f.kind f.word f.counts f.item_of) list_end n (record { nodes = f.nodes; size = size; items = items }) lines

-- A line that is read says something, and the rest is read after it.
said_line : {A : Type 0} (f : Sort A) (n : ℕ) (size : Option ℕ) (items : List A) (line : List (List ℕ)) (lines : List (List (List ℕ))) (all : List A) → rest f n size items (line ∷ lines) ≡ Ok all
    → (said : ListLine A) × Says f size (length items) line said × (rest_of (list_step f.kind f.word f.counts f.item_of) list_end (n + 1) (with_line (record { nodes = f.nodes; size = size; items = items }) said) lines ≡ Ok all)
unfolding list_step
said_line {A = A} f n size items line lines all e =
    let start : Listed A = record { nodes = f.nodes; size = size; items = items } in
    let one = one_line (list_step f.kind f.word f.counts f.item_of) list_end n start line lines all e in
    let said = bind_ok (list_line f.kind f.word (f.counts f.nodes) (f.item_of f.nodes) size (length items) line) (λ s. Ok (with_line start s)) one.0 one.1 in
    let same : with_line start said.0 ≡ one.0 = cc (said.2) in
    let P : Listed A → Type 0 = λ s. rest_of (list_step f.kind f.word f.counts f.item_of) list_end (n + 1) s lines ≡ Ok all in
    (said.0, line_says f size (length items) line said.0 said.1, subst P (sym same) one.2)

-- The same the other way.
line_said : {A : Type 0} (f : Sort A) (n : ℕ) (size : Option ℕ) (items : List A) (line : List (List ℕ)) (lines : List (List (List ℕ))) (said : ListLine A) → list_line f.kind f.word (f.counts f.nodes) (f.item_of f.nodes) size (length items) line ≡ Ok said
    → rest f n size items (line ∷ lines) ≡ rest_of (list_step f.kind f.word f.counts f.item_of) list_end (n + 1) (with_line (record { nodes = f.nodes; size = size; items = items }) said) lines
unfolding list_step
line_said {A = A} f n size items line lines said e =
    let start : Listed A = record { nodes = f.nodes; size = size; items = items } in
    next_line (list_step f.kind f.word f.counts f.item_of) list_end n start (with_line start said) line lines (ap (λ r. r >>= λ s. Ok (with_line start s)) e)

record Rest {A : Type 0} (f : Sort A) (size : ℕ) (items : List A) (lines : List (List (List ℕ))) (all : List A) : Type 0 where
  more : List A
  whole : all ≡ items ++ more
  lists : AreItemLines f.word f.IsItem (speaking lines) more
  count : length all ≡ size

ended : {A : Type 0} (f : Sort A) (n size : ℕ) (items all : List A) → length items ≤ size → rest f n (Some size) items [] ≡ Ok all → Rest f size items [] all
unfolding list_end
ended f n size items all few e =
    let last = no_line (list_step f.kind f.word f.counts f.item_of) list_end n (record { nodes = f.nodes; size = Some size; items = items }) all e in
    let passed = unless_ok (ltb (length items) size) items all TooFewLines last in
    let enough = ltb-false (length items) size passed.0 in
    let count_is : length items ≡ size = omega arith in
    record { more = []; whole = sym passed.1 ∙ sym (append-nil items); lists = tt; count = ap length (sym passed.1) ∙ count_is }

some_line : {A : Type 0} (f : Sort A) (n size : ℕ) (items : List A) (line : List (List ℕ)) (lines : List (List (List ℕ))) (all : List A) (said : ListLine A) → length items ≤ size
    → Says f (Some size) (length items) line said → rest_of (list_step f.kind f.word f.counts f.item_of) list_end (n + 1) (with_line (record { nodes = f.nodes; size = Some size; items = items }) said) lines ≡ Ok all
    → ((m : ℕ) (known : List A) → length known ≤ size → rest f m (Some size) known lines ≡ Ok all → Rest f size known lines all) → Rest f size items (line ∷ lines) all
some_line f n size items line lines all Silent few says e after =
    let r = after (n + 1) items few e in
    let P : List (List (List ℕ)) → Type 0 = λ ls. AreItemLines f.word f.IsItem ls r.more in
    record { more = r.more; whole = r.whole; lists = subst P (sym (speaking_silent line lines says)) r.lists; count = r.count }
some_line f n size items line lines all (Problem new) few says e after = cc (says.1)
some_line f n size items line lines all (Item item) few says e after =
    let old = says.1.0 in
    let same : old ≡ size = cc (says.1.1) in
    let room : length items < size = omega (arith, same, says.1.2) in
    let r = after (n + 1) (items ++ item ∷ []) (rw (length-append items (item ∷ [])) (omega arith)) e in
    let P : List (List (List ℕ)) → Type 0 = λ ls. AreItemLines f.word f.IsItem ls (item ∷ r.more) in
    record { more = item ∷ r.more; whole = r.whole ∙ append_assoc items (item ∷ []) r.more; lists = subst P (sym (speaking_loud line lines says.0)) (says.1.3, r.lists); count = r.count }

after_some : {A : Type 0} (f : Sort A) (lines : List (List (List ℕ))) (n size : ℕ) (items all : List A) → length items ≤ size → rest f n (Some size) items lines ≡ Ok all → Rest f size items lines all
after_some f [] n size items all few e = ended f n size items all few e
after_some f (line ∷ lines) n size items all few e =
    let one = said_line f n (Some size) items line lines all e in
    some_line f n size items line lines all one.0 few one.1 one.2 (λ m known ok h. after_some f lines m size known all ok h)

none_line : {A : Type 0} (f : Sort A) (n : ℕ) (line : List (List ℕ)) (lines : List (List (List ℕ))) (all : List A) (said : ListLine A) → Says f None 0 line said
    → rest_of (list_step f.kind f.word f.counts f.item_of) list_end (n + 1) (with_line (record { nodes = f.nodes; size = None; items = [] }) said) lines ≡ Ok all
    → ((m : ℕ) → rest f m None [] lines ≡ Ok all → DenotesItems f.kind f.word (f.counts f.nodes) f.IsItem lines all) → DenotesItems f.kind f.word (f.counts f.nodes) f.IsItem (line ∷ lines) all
none_line f n line lines all Silent says e after =
    let r = after (n + 1) e in
    record { problem = r.problem; others = r.others; speaks = speaking_silent line lines says ∙ r.speaks; announces = r.announces; lists = r.lists }
none_line {A = A} f n line lines all (Problem size) says e after =
    let r = after_some f lines (n + 1) size [] all (omega arith) e in
    let P : List A → Type 0 = λ items. AreItemLines f.word f.IsItem (speaking lines) items in
    let S : ℕ → Type 0 = λ count. IsCountLine f.kind (f.counts f.nodes) line count in
    record { problem = line; others = speaking lines; speaks = speaking_loud line lines says.0; announces = subst S (sym r.count) says.2; lists = subst P (sym r.whole) r.lists }
none_line f n line lines all (Item item) says e after = cc (says.1.1)

none_end : {A : Type 0} (f : Sort A) (n : ℕ) (all : List A) → rest f n None [] [] ≡ Ok all → DenotesItems f.kind f.word (f.counts f.nodes) f.IsItem [] all
unfolding list_end
none_end f n all e = let last = no_line (list_step f.kind f.word f.counts f.item_of) list_end n (record { nodes = f.nodes; size = None; items = [] }) all e in cc

after_none : {A : Type 0} (f : Sort A) (lines : List (List (List ℕ))) (n : ℕ) (all : List A) → rest f n None [] lines ≡ Ok all → DenotesItems f.kind f.word (f.counts f.nodes) f.IsItem lines all
after_none f [] n all e = none_end f n all e
after_none f (line ∷ lines) n all e =
    let one = said_line f n None [] line lines all e in
    none_line f n line lines all one.0 one.1 one.2 (λ m h. after_none f lines m all h)

-- ---- and back

end_of : {A : Type 0} (f : Sort A) (n size : ℕ) (items more : List A) → length (items ++ more) ≡ size → AreItemLines f.word f.IsItem [] more → rest f n (Some size) items [] ≡ Ok (items ++ more)
unfolding list_end
end_of f n size items [] count lists =
    let few : ltb (length items) size ≡ false = le-ltb (length items) size (omega (arith, count, ap length (append-nil items))) in
    at_end (list_step f.kind f.word f.counts f.item_of) list_end n (record { nodes = f.nodes; size = Some size; items = items }) (items ++ []) (ap (λ b. cond b (Err TooFewLines) (Ok items)) few ∙ ap (λ xs. Ok xs) (sym (append-nil items)))
end_of f n size items (item ∷ more) count lists = absurd lists

after_item : {A : Type 0} (f : Sort A) (line : List (List ℕ)) (lines : List (List (List ℕ))) (n size : ℕ) (items more : List A) → length (items ++ more) ≡ size → AreItemLines f.word f.IsItem (line ∷ speaking lines) more
    → ((m : ℕ) (known others : List A) → length (known ++ others) ≡ size → AreItemLines f.word f.IsItem (speaking lines) others → rest f m (Some size) known lines ≡ Ok (known ++ others)) → rest f n (Some size) items (line ∷ lines) ≡ Ok (items ++ more)
after_item f line lines n size items [] count lists after = absurd lists
after_item f line lines n size items (item ∷ more) count lists after =
    let joined : (items ++ item ∷ []) ++ more ≡ items ++ item ∷ more = append_assoc items (item ∷ []) more in
    let room : length items < size = omega (arith, count, length-append items (item ∷ more)) in
    line_said f n (Some size) items line lines (Item item) (item_line_of f size (length items) line item room lists.0)
    ∙ after (n + 1) (items ++ item ∷ []) more (ap length joined ∙ count) lists.1
    ∙ ap (λ xs. Ok xs) joined

some_of : {A : Type 0} (f : Sort A) (lines : List (List (List ℕ))) (n size : ℕ) (items more : List A) → length (items ++ more) ≡ size → AreItemLines f.word f.IsItem (speaking lines) more → rest f n (Some size) items lines ≡ Ok (items ++ more)
some_of f [] n size items more count lists = end_of f n size items more count lists
some_of f (line ∷ lines) n size items more count lists =
    let P : List (List (List ℕ)) → Type 0 = λ ls. AreItemLines f.word f.IsItem ls more in
    elim (two_ways (is_silent line)) [
      | inl silent ↦ line_said f n (Some size) items line lines Silent (silent_line f (Some size) (length items) line silent) ∙ some_of f lines (n + 1) size items more count (subst P (speaking_silent line lines silent) lists)
      | inr loud ↦ after_item f line lines n size items more count (subst P (speaking_loud line lines loud) lists) (λ m known others c l. some_of f lines m size known others c l)
    ]

none_of : {A : Type 0} (f : Sort A) (lines : List (List (List ℕ))) (n : ℕ) (all : List A) (problem : List (List ℕ)) (others : List (List (List ℕ))) → speaking lines ≡ problem ∷ others → IsCountLine f.kind (f.counts f.nodes) problem (length all) → AreItemLines f.word f.IsItem others all → rest f n None [] lines ≡ Ok all
none_of f [] n all problem others spoken announces lists = cc
none_of f (line ∷ lines) n all problem others spoken announces lists = elim (two_ways (is_silent line)) [
  | inl silent ↦ line_said f n None [] line lines Silent (silent_line f None 0 line silent) ∙ none_of f lines (n + 1) all problem others (sym (speaking_silent line lines silent) ∙ spoken) announces lists
  | inr loud ↦
      let both : line ∷ speaking lines ≡ problem ∷ others = sym (speaking_loud line lines loud) ∙ spoken in
      let head : problem ≡ line = cc in
      let tail : others ≡ speaking lines = cc in
      let is : IsCountLine f.kind (f.counts f.nodes) line (length all) = subst (λ (p : List (List ℕ)). IsCountLine f.kind (f.counts f.nodes) p (length all)) head announces in
      let are : AreItemLines f.word f.IsItem (speaking lines) all = subst (λ (ls : List (List (List ℕ))). AreItemLines f.word f.IsItem ls all) tail lists in
      line_said f n None [] line lines (Problem (length all)) (count_line_of f 0 line (length all) is) ∙ some_of f lines (n + 1) (length all) [] all refl are
]

abbrev text_of : {A : Type 0} → Sort A → List (List (List ℕ)) → Result (List A) InputFault
text_of f lines = text_after (list_step f.kind f.word f.counts f.item_of) list_end (nothing_listed f.nodes) lines

-- What is read is denoted.
pub denoted : {A : Type 0} (f : Sort A) (lines : List (List (List ℕ))) (all : List A) → text_of f lines ≡ Ok all → DenotesItems f.kind f.word (f.counts f.nodes) f.IsItem lines all
unfolding text_after
denoted f lines all e = after_none f lines 0 all e

-- What is denoted is read.
pub read_of_denoted : {A : Type 0} (f : Sort A) (lines : List (List (List ℕ))) (all : List A) → DenotesItems f.kind f.word (f.counts f.nodes) f.IsItem lines all → text_of f lines ≡ Ok all
unfolding text_after
read_of_denoted f lines all is = none_of f lines 0 all is.problem is.others is.speaks is.announces is.lists

-- What a reader answers, by what a text denotes.
pub gives_denoted : {A X : Type 0} (f : Sort A) (view : X → List A) (r : Result X InputFault) (lines : List (List (List ℕ))) → Gives view r (text_of f lines) → IfOk r (λ x. DenotesItems f.kind f.word (f.counts f.nodes) f.IsItem lines (view x))
gives_denoted f view (Ok x) lines h = denoted f lines (view x) h
gives_denoted f view (Err fault) lines h = tt

pub gives_only : {A X : Type 0} (f : Sort A) (view : X → List A) (r : Result X InputFault) (lines : List (List (List ℕ))) → Gives view r (text_of f lines) → (all : List A) → DenotesItems f.kind f.word (f.counts f.nodes) f.IsItem lines all → MatchResult r (λ x. view x ≡ all) (λ fault. fault ≡ out_of_memory)
gives_only f view (Ok x) lines h all is = let e = read_of_denoted f lines all is in cc
gives_only f view (Err fault) lines (inl refused) all is = refused
gives_only f view (Err fault) lines (inr said) all is = let e = read_of_denoted f lines all is in cc
