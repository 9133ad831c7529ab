-- Lines of nodes that have a `d` line alone, one after another.
use Rattle.std.proofs.Common.{◌≡◌, ◌∙◌, refl, ℕ, suc, ◌+◌, ◌-◌, ◌<◌, true, false, cond, List, [], ◌∷◌, ◌++◌, length, take, drop, get_or, arith, ap, sym, subst, append_assoc, append-nil, length-append, inl, inr}
use Rattle.std.proofs.Math.Seq.{drop-cons}
use Rattle.std.proofs.lemmas.List.{take-append-drop, take-take, drop-take, length-take-le, take_at, take_rest}
use Rattle.std.specs.Prelude.{Some, None, codes}
use Rattle.std.specs.Str.{all_ascii_digits}
use Rattle.std.specs.Str.Parse.{digits_value}
use Rattle.ea_base.specs.declared.direction.Direction.{Direction}
use Rattle.ea_base.specs.declared.direction.Direction.TheVariants.{Forward, Turned}
use Rattle.ea_bytes.specs.Text.{field_lines, is_comment, is_silent}
use Rattle.ea_report.specs.Report.{line}
use Rattle.ea_check.specs.Form.{Line, SaysTime, none_word, spoken_from}
use Rattle.ea_check.specs.Reads.{NoWalkNext, ReadsNode, ReadsNodes, no_more, one_more, without_walk}
use Rattle.ea_check.specs.Runs.{BeginsWithNoWalk, IsRun, NumberThen, SayTimes, TakesTime, TimeThen, saids}
use Rattle.ea_check.specs.Verdicts.{Said}
use Rattle.ea_check.proofs.Fields.{IsField, digits_clear}
use Rattle.ea_check.proofs.Counting.{digits_are_number}
use Rattle.ea_check.proofs.Leading.{rest_of as behind_byte}
use Rattle.ea_check.proofs.Steps.{time_no_walk}
use Rattle.ea_check.proofs.Written.{d_field, inf_field, line_cut}

-- ---- one line

-- Digits to a byte are the number that a text begins with.
pub number_then : (text : List ℕ) (stop i value : ℕ) → 0 < i → i < length text → get_or text i 0 ≡ stop → all_ascii_digits (take i text) ≡ true → value ≡ digits_value 10 (take i text) → NumberThen text stop value (take (length text - (i + 1)) (drop (i + 1) text))
number_then text stop i value some inside stops digits is =
    let long : length (take i text) ≡ i = length-take-le i text (omega arith) in
    let rest = behind_byte text i inside in
    let back : drop i text ≡ stop ∷ drop (suc i) text = drop-cons text i 0 inside ∙ ap (λ b. b ∷ drop (suc i) text) stops in
    let number = digits_are_number (take i text) (omega (arith, long)) digits in
    subst (NumberThen text stop value) (sym rest) (record {
      field = take i text;
      cut = sym (take-append-drop i text) ∙ ap (λ (l : List ℕ). take i text ++ l) back;
      digits = digits;
      some = omega (arith, long);
      number = number ∙ ap (λ n. Some n) (sym is);
    })

digit_field : (text : List ℕ) (stop value : ℕ) (rest : List ℕ) (is : NumberThen text stop value rest) → IsField is.field
digit_field text stop value rest is = record { clear = digits_clear is.field is.digits; some = is.some }

-- The word in place of a time.
none_field : (way : Direction) → IsField (none_word way)
none_field Forward = inf_field
none_field Turned = record {
  clear = ((λ same. omega arith), (λ same. omega arith), refl, ((λ same. omega arith), (λ same. omega arith), refl, ((λ same. omega arith), (λ same. omega arith), refl, ((λ same. omega arith), (λ same. omega arith), refl, tt))));
  some = omega arith;
}

time_field : (way : Direction) (text : List ℕ) (time : ℕ) (rest : List ℕ) (is : TimeThen way text time rest) → IsField is.field
time_field way text time rest is = elim is.plain [
  | inl digits ↦ record { clear = digits_clear is.field digits; some = is.some }
  | inr none ↦ subst IsField (sym none) (none_field way)
]

-- A word, a number, a time, single spaces and a line feed are a line of a node.
pub takes_time : (way : Direction) (node place time : ℕ) (text behind between rest : List ℕ) (bytes : ℕ) → text ≡ 100 ∷ 32 ∷ behind → NumberThen behind 32 place between → TimeThen way between time rest → place ≡ node → bytes ≡ length text - length rest → TakesTime way node time text bytes
takes_time way node place time text behind between rest bytes begins first second here size =
    let u = first.field in
    let v = second.field in
    let front : List ℕ = line (codes "d") (u ∷ v ∷ []) in
    let joined : (((u ++ 32 ∷ (v ++ [])) ++ 10 ∷ []) ++ rest) ≡ u ++ 32 ∷ (v ++ 10 ∷ rest) = simp (append_assoc, append-nil) in
    let whole : text ≡ front ++ rest = begins ∙ ap (λ (l : List ℕ). 100 ∷ 32 ∷ l) (first.cut ∙ ap (λ (l : List ℕ). u ++ 32 ∷ l) second.cut ∙ sym joined) in
    let long : length text ≡ length front + length rest = ap (λ (l : List ℕ). length l) whole ∙ length-append front rest in
    let some : 0 < length front = omega arith in
    let taken : take bytes text ≡ front = ap (take bytes) whole ∙ take_at front rest bytes (omega arith) in
    record {
      some = omega arith;
      inside = omega arith;
      run = subst (IsRun way node (time ∷ [])) (sym taken) (record {
        lines = (codes "d" ∷ u ∷ v ∷ []) ∷ [];
        reads = λ more. line_cut (codes "d") (u ∷ v ∷ []) more d_field (digit_field behind 32 place between first, (time_field way between time rest second, tt));
        say = ((refl, first.number ∙ ap (λ n. Some n) here, second.is_time), tt);
        few = omega arith;
      });
    }

-- ---- more lines

pub no_run : (way : Direction) (node : ℕ) → IsRun way node [] []
no_run way node = record { lines = []; reads = λ more. refl; say = tt; few = omega arith }

say_both : (way : Direction) (node : ℕ) (times more : List ℕ) (lines others : List (List (List ℕ))) → SayTimes way node times lines → SayTimes way (node + length times) more others → SayTimes way node (times ++ more) (lines ++ others)
say_both way node [] more [] others here there = subst (λ n. SayTimes way n more others) (omega arith) there
say_both way node [] more (fields ∷ lines) others here there = absurd here
say_both way node (first ∷ times) more [] others here there = absurd here
say_both way node (first ∷ times) more (fields ∷ lines) others here there =
    (here.0, say_both way (node + 1) times more lines others here.1 (subst (λ n. SayTimes way n more others) (omega arith) there))

-- Lines, and those that follow them.
pub run_both : (way : Direction) (node : ℕ) (times more front back : List ℕ) → IsRun way node times front → IsRun way (node + length times) more back → IsRun way node (times ++ more) (front ++ back)
run_both way node times more front back here there = record {
  lines = here.lines ++ there.lines;
  reads = λ rest.
      ap field_lines (append_assoc front back rest) ∙ here.reads (back ++ rest) ∙ ap (λ (ls : List (List (List ℕ))). here.lines ++ ls) (there.reads rest) ∙ sym (append_assoc here.lines there.lines (field_lines rest));
  say = say_both way node times more here.lines there.lines here.say there.say;
  few = omega (arith, here.few, there.few, length-append times more, length-append front back);
}

pub take_both : (n m : ℕ) (xs : List ℕ) → take n xs ++ take m (drop n xs) ≡ take (n + m) xs
take_both n m xs =
    ap (λ (l : List ℕ). l ++ take m (drop n xs)) (sym (take-take n (n + m) xs (omega arith))) ∙ ap (λ (l : List ℕ). take n (take (n + m) xs) ++ l) (sym (drop-take n m xs)) ∙ take-append-drop n (take (n + m) xs)

-- One more line at the front of what is left of a text.
pub run_on : (way : Direction) (node : ℕ) (old new : List ℕ) (time : ℕ) (text : List ℕ) (bytes size : ℕ) → new ≡ old ++ time ∷ [] → IsRun way node old (take bytes text) → TakesTime way (node + length old) time (drop bytes text) size → IsRun way node new (take (bytes + size) text)
run_on way node old new time text bytes size pushed run here =
    let joined : take bytes text ++ take size (drop bytes text) ≡ take (bytes + size) text = take_both bytes size text in
    subst (IsRun way node new) joined (subst (λ (ts : List ℕ). IsRun way node ts (take bytes text ++ take size (drop bytes text))) (sym pushed) (run_both way node old (time ∷ []) (take bytes text) (take size (drop bytes text)) run here.run))

-- What is left of a text, as a slice of it.
pub rest_takes : (way : Direction) (node next time : ℕ) (text : List ℕ) (bytes size : ℕ) → next ≡ node → TakesTime way next time (take (length text - bytes) (drop bytes text)) size → TakesTime way node time (drop bytes text) size
rest_takes way node next time text bytes size same takes =
    subst (λ n. TakesTime way n time (drop bytes text) size) same (subst (λ (l : List ℕ). TakesTime way next time l size) (take_rest text bytes) takes)

-- ---- no walk comes first

time_speaks : (way : Direction) (fields : List (List ℕ)) (node time : ℕ) → SaysTime way fields node time → is_silent fields ≡ false
time_speaks way [] node time says = absurd says
time_speaks way (word ∷ []) node time says = absurd says
time_speaks way (word ∷ place ∷ []) node time says = absurd says
time_speaks way (word ∷ place ∷ field ∷ []) node time says = ap is_comment says.0
time_speaks way (word ∷ place ∷ field ∷ more ∷ rest) node time says = absurd says

spoken_first : (way : Direction) (number : ℕ) (fields : List (List ℕ)) (rest : List (List (List ℕ))) → is_silent fields ≡ false → spoken_from way number (fields ∷ rest) ≡ record { number = number; fields = fields; way = way } ∷ spoken_from way (number + 1) rest
spoken_first way number fields rest speaks =
    ap (λ t. cond t (spoken_from way (number + 1) rest) (record { number = number; fields = fields; way = way } ∷ spoken_from way (number + 1) rest)) speaks

no_walk_first : (way : Direction) (number node time : ℕ) (fields : List (List ℕ)) (rest : List (List (List ℕ))) → SaysTime way fields node time → NoWalkNext (spoken_from way number (fields ∷ rest))
no_walk_first way number node time fields rest says =
    subst NoWalkNext (sym (spoken_first way number fields rest (time_speaks way fields node time says))) (time_no_walk way fields node time says)

pub some_no_walk : (way : Direction) (number node : ℕ) (times : List ℕ) (lines rest : List (List (List ℕ))) → SayTimes way node times lines → NoWalkNext (spoken_from way (number + length times) rest) → NoWalkNext (spoken_from way number (lines ++ rest))
some_no_walk way number node [] [] rest say none = subst (λ n. NoWalkNext (spoken_from way n rest)) (omega arith) none
some_no_walk way number node [] (fields ∷ lines) rest say none = absurd say
some_no_walk way number node (time ∷ times) [] rest say none = absurd say
some_no_walk way number node (time ∷ times) (fields ∷ lines) rest say none = no_walk_first way number node time fields (lines ++ rest) say.0

one_no_walk : (way : Direction) (number node time : ℕ) (lines rest : List (List (List ℕ))) → SayTimes way node (time ∷ []) lines → NoWalkNext (spoken_from way number (lines ++ rest))
one_no_walk way number node time [] rest say = absurd say
one_no_walk way number node time (fields ∷ lines) rest say = no_walk_first way number node time fields (lines ++ rest) say.0

pub begins_with_time : (way : Direction) (node time : ℕ) (text : List ℕ) (bytes : ℕ) → TakesTime way node time text bytes → BeginsWithNoWalk way text
begins_with_time way node time text bytes takes = λ more number.
    let cut : text ++ more ≡ take bytes text ++ (drop bytes text ++ more) = ap (λ (l : List ℕ). l ++ more) (sym (take-append-drop bytes text)) ∙ append_assoc (take bytes text) (drop bytes text) more in
    let lines = ap field_lines cut ∙ takes.run.reads (drop bytes text ++ more) in
    subst (λ (ls : List (List (List ℕ))). NoWalkNext (spoken_from way number ls)) (sym lines) (one_no_walk way number node time takes.run.lines (field_lines (drop bytes text ++ more)) takes.run.say)

-- ---- nodes that were read

-- Lines that say times are read as those of nodes without walks, if no walk follows.
pub reads_run : (way : Direction) (number node : ℕ) (times : List ℕ) (lines rest : List (List (List ℕ))) → SayTimes way node times lines → NoWalkNext (spoken_from way (number + length times) rest) → ReadsNodes node (saids number times) (spoken_from way number (lines ++ rest)) (spoken_from way (number + length times) rest)
reads_run way number node [] [] rest say none = subst (λ n. ReadsNodes node [] (spoken_from way number rest) (spoken_from way n rest)) (omega arith) no_more
reads_run way number node [] (fields ∷ lines) rest say none = absurd say
reads_run way number node (time ∷ times) [] rest say none = absurd say
reads_run way number node (time ∷ times) (fields ∷ lines) rest say none =
    let next : number + 1 + length times ≡ number + length (time ∷ times) = omega arith in
    let later = subst (λ n. NoWalkNext (spoken_from way n rest)) (sym next) none in
    let here : Line = record { number = number; fields = fields; way = way } in
    let others = spoken_from way (number + 1) (lines ++ rest) in
    let said : Said = record { line = number; time = time; walk = None } in
    let one : ReadsNode node said (here ∷ others) others = without_walk say.0 refl refl (λ some. some_no_walk way (number + 1) (node + 1) times lines rest say.1 later) in
    let behind = subst (λ n. ReadsNodes (node + 1) (saids (number + 1) times) others (spoken_from way n rest)) next (reads_run way (number + 1) (node + 1) times lines rest say.1 later) in
    subst (λ (ls : List Line). ReadsNodes node (saids number (time ∷ times)) ls (spoken_from way (number + length (time ∷ times)) rest)) (sym (spoken_first way number fields (lines ++ rest) (time_speaks way fields node time say.0))) (one_more one behind)
