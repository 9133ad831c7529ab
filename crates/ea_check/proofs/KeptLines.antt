-- What kept lines say, as more are kept and as walks are read.
use Rattle.std.proofs.Common.{◌≡◌, ◌∙◌, refl, ℕ, zero, suc, ◌+◌, ◌-◌, ◌<◌, ◌≤◌, List, [], ◌∷◌, ◌++◌, length, take, drop, replicate, get_or, inl, inr, min, arith, ap, sym, subst, append_assoc, append-nil, length-append, length-drop}
use Rattle.std.proofs.Math.Seq.{take-length, drop-append_seam, drop-nil, take-nil}
use Rattle.std.proofs.lemmas.List.{drop-append-le, length-map, length-reverse, take-append-le}
use Rattle.std.specs.Prelude.{Option, Some, None, slice_get}
use Rattle.ea_base.specs.declared.direction.Direction.{Direction}
use Rattle.ea_base.specs.declared.direction.Direction.TheVariants.{Forward, Turned}
use Rattle.ea_bytes.specs.Text.{fields_of}
use Rattle.ea_check.specs.declared.form.kept.Kept.{Kept}
use Rattle.ea_check.specs.declared.form.kept.KeptWalk.{KeptWalk}
use Rattle.ea_check.specs.Form.{arc_of, arcs_of, told_walk}
use Rattle.ea_check.specs.Shared.{IsOwnPart, arcs_in, part}
use Rattle.ea_check.specs.declared.form.walk_reader.WalkReader.{WalkReader}
use Rattle.ea_check.specs.WalksLeft.{IsAtNode, ReadsNext}
use Rattle.ea_check.specs.Verdicts.{Said, IsSaid, WrittenWalk, times_of}
use Rattle.ea_check.proofs.SharedTexts.{own_alone, drop_drop as drops}
use Rattle.ea_check.specs.Runs.{numbers, saids}
use Rattle.ea_check.specs.Views.{AreKept, IsLastText, Keeps, KeepsTime, KeepsWalk, arcs_kept, last_from, own_count, said_from, said_kept}

-- ---- the times and the numbers of lines

pub times_from : (last own : List ℕ) (walks : List (Option KeptWalk)) (lines times : List ℕ) → length times ≡ length lines → times_of (said_from last own walks lines times) ≡ times
times_from last own walks [] [] sizes = refl
times_from last own walks [] (time ∷ times) sizes = absurd (omega arith)
times_from last own walks (line ∷ lines) [] sizes = absurd (omega arith)
times_from last own [] (line ∷ lines) (time ∷ times) sizes = ap (λ (ts : List ℕ). time ∷ ts) (times_from last own [] lines times (omega arith))
times_from last own (None ∷ walks) (line ∷ lines) (time ∷ times) sizes = ap (λ (ts : List ℕ). time ∷ ts) (times_from last own walks lines times (omega arith))
times_from last own (Some walk ∷ walks) (line ∷ lines) (time ∷ times) sizes = ap (λ (ts : List ℕ). time ∷ ts) (times_from (arcs_kept walk last own) (drop walk.own own) walks lines times (omega arith))

pub lines_from : (last own : List ℕ) (walks : List (Option KeptWalk)) (lines times : List ℕ) (place : ℕ) (said : Said) → slice_get (said_from last own walks lines times) place ≡ Some said → get_or lines place 0 ≡ said.line
lines_from last own walks [] times place said found = cc
lines_from last own walks (line ∷ lines) [] place said found = cc
lines_from last own [] (line ∷ lines) (time ∷ times) zero said found = let e : record { line = line; time = time; walk = None } ≡ said = cc in ap (λ (s : Said). s.line) e
lines_from last own [] (line ∷ lines) (time ∷ times) (suc place) said found = lines_from last own [] lines times place said found
lines_from last own (None ∷ walks) (line ∷ lines) (time ∷ times) zero said found = let e : record { line = line; time = time; walk = None } ≡ said = cc in ap (λ (s : Said). s.line) e
lines_from last own (None ∷ walks) (line ∷ lines) (time ∷ times) (suc place) said found = lines_from last own walks lines times place said found
lines_from last own (Some walk ∷ walks) (line ∷ lines) (time ∷ times) zero said found = let e : record { line = line; time = time; walk = Some (record { line = walk.line; arcs = arcs_kept walk last own }) } ≡ said = cc in ap (λ (s : Said). s.line) e
lines_from last own (Some walk ∷ walks) (line ∷ lines) (time ∷ times) (suc place) said found = lines_from (arcs_kept walk last own) (drop walk.own own) walks lines times place said found

-- without walks none is said
pub no_walk_from : (last own lines times : List ℕ) (place : ℕ) (said : Said) → slice_get (said_from last own [] lines times) place ≡ Some said → said.walk ≡ None
no_walk_from last own [] times place said found = cc
no_walk_from last own (line ∷ lines) [] place said found = cc
no_walk_from last own (line ∷ lines) (time ∷ times) zero said found = let e : record { line = line; time = time; walk = None } ≡ said = cc in sym (ap (λ (s : Said). s.walk) e)
no_walk_from last own (line ∷ lines) (time ∷ times) (suc place) said found = no_walk_from last own lines times place said found

pub length_from : (last own : List ℕ) (walks : List (Option KeptWalk)) (lines times : List ℕ) → length times ≡ length lines → length (said_from last own walks lines times) ≡ length lines
length_from last own walks lines times sizes =
    sym (length-map (said_from last own walks lines times) (λ said. said.time)) ∙ ap (λ (ts : List ℕ). length ts) (times_from last own walks lines times sizes) ∙ sizes

pub no_items : (walks : List (Option KeptWalk)) → length walks ≡ 0 → walks ≡ []
no_items [] none = refl
no_items (walk ∷ walks) none = absurd (omega arith)

pub some_items : (walks behind : List (Option KeptWalk)) (first : Option KeptWalk) → 0 < length walks → first ≡ get_or walks 0 None → behind ≡ drop 1 walks → walks ≡ first ∷ behind
some_items [] behind first some is rest = absurd (omega arith)
some_items (walk ∷ walks) behind first some is rest = cc

-- no more than there are
pub own_taken : (count : ℕ) (own : List ℕ) → take (min count (length own)) own ≡ take count own
own_taken zero own = let none : min 0 (length own) ≡ 0 = omega arith in ap (λ n. take n own) none
own_taken (suc count) [] = take-nil _ ∙ sym (take-nil (suc count))
own_taken (suc count) (arc ∷ own) =
    let more : min (suc count) (length (arc ∷ own)) ≡ suc (min count (length own)) = omega arith in
    ap (λ n. take n (arc ∷ own)) more ∙ ap (λ (xs : List ℕ). arc ∷ xs) (own_taken count own)

pub own_left : (count : ℕ) (own : List ℕ) → drop (min count (length own)) own ≡ drop count own
own_left zero own = let none : min 0 (length own) ≡ 0 = omega arith in ap (λ n. drop n own) none
own_left (suc count) [] = drop-nil _ ∙ sym (drop-nil (suc count))
own_left (suc count) (arc ∷ own) =
    let more : min (suc count) (length (arc ∷ own)) ≡ suc (min count (length own)) = omega arith in
    ap (λ n. drop n (arc ∷ own)) more ∙ own_left count own

-- ---- more arcs behind

more_kept : (walk : KeptWalk) (last own more : List ℕ) → walk.own ≤ length own → arcs_kept walk last (own ++ more) ≡ arcs_kept walk last own
more_kept walk last own more enough = ap (λ (xs : List ℕ). take walk.shared last ++ xs) (take-append-le walk.own own more enough)

said_more : (last own more : List ℕ) (walks : List (Option KeptWalk)) (lines times : List ℕ) → own_count walks ≤ length own → said_from last (own ++ more) walks lines times ≡ said_from last own walks lines times
said_more last own more walks [] times enough = refl
said_more last own more walks (line ∷ lines) [] enough = refl
said_more last own more [] (line ∷ lines) (time ∷ times) enough =
    ap (λ (ss : List Said). record { line = line; time = time; walk = None } ∷ ss) (said_more last own more [] lines times enough)
said_more last own more (None ∷ walks) (line ∷ lines) (time ∷ times) enough =
    ap (λ (ss : List Said). record { line = line; time = time; walk = None } ∷ ss) (said_more last own more walks lines times enough)
said_more last own more (Some walk ∷ walks) (line ∷ lines) (time ∷ times) enough =
    let kept = more_kept walk last own more (omega arith) in
    let left = drop-append-le walk.own own more (omega arith) in
    ap (λ (arcs : List ℕ). record { line = line; time = time; walk = Some (record { line = walk.line; arcs = arcs }) } ∷ said_from arcs (drop walk.own (own ++ more)) walks lines times) kept
    ∙ ap (λ (ss : List Said). record { line = line; time = time; walk = Some (record { line = walk.line; arcs = arcs_kept walk last own }) } ∷ ss)
    (ap (λ (rest : List ℕ). said_from (arcs_kept walk last own) rest walks lines times) left ∙ said_more (arcs_kept walk last own) (drop walk.own own) more walks lines times (omega (arith, length-drop walk.own own)))

last_more : (last own more : List ℕ) (walks : List (Option KeptWalk)) → own_count walks ≤ length own → last_from last (own ++ more) walks ≡ last_from last own walks
last_more last own more [] enough = refl
last_more last own more (None ∷ walks) enough = last_more last own more walks enough
last_more last own more (Some walk ∷ walks) enough =
    let kept = more_kept walk last own more (omega arith) in
    let left = drop-append-le walk.own own more (omega arith) in
    ap (λ (arcs : List ℕ). last_from arcs (drop walk.own (own ++ more)) walks) kept
    ∙ ap (λ (rest : List ℕ). last_from (arcs_kept walk last own) rest walks) left
    ∙ last_more (arcs_kept walk last own) (drop walk.own own) more walks (omega (arith, length-drop walk.own own))

-- ---- nodes without walks

pad_none : (last own : List ℕ) (count : ℕ) (lines times : List ℕ) → said_from last own (replicate count None) lines times ≡ said_from last own [] lines times
pad_none last own zero lines times = refl
pad_none last own (suc count) [] times = refl
pad_none last own (suc count) (line ∷ lines) [] = refl
pad_none last own (suc count) (line ∷ lines) (time ∷ times) =
    ap (λ (ss : List Said). record { line = line; time = time; walk = None } ∷ ss) (pad_none last own count lines times)

pad_said : (last own : List ℕ) (walks : List (Option KeptWalk)) (count : ℕ) (lines times : List ℕ) → said_from last own (walks ++ replicate count None) lines times ≡ said_from last own walks lines times
pad_said last own walks count [] times = refl
pad_said last own walks count (line ∷ lines) [] = refl
pad_said last own [] count (line ∷ lines) (time ∷ times) = pad_none last own count (line ∷ lines) (time ∷ times)
pad_said last own (None ∷ walks) count (line ∷ lines) (time ∷ times) =
    ap (λ (ss : List Said). record { line = line; time = time; walk = None } ∷ ss) (pad_said last own walks count lines times)
pad_said last own (Some walk ∷ walks) count (line ∷ lines) (time ∷ times) =
    ap (λ (ss : List Said). record { line = line; time = time; walk = Some (record { line = walk.line; arcs = arcs_kept walk last own }) } ∷ ss) (pad_said (arcs_kept walk last own) (drop walk.own own) walks count lines times)

pad_last : (last own : List ℕ) (walks : List (Option KeptWalk)) (count : ℕ) → last_from last own (walks ++ replicate count None) ≡ last_from last own walks
pad_last last own [] zero = refl
pad_last last own [] (suc count) = pad_last last own [] count
pad_last last own (None ∷ walks) count = pad_last last own walks count
pad_last last own (Some walk ∷ walks) count = pad_last (arcs_kept walk last own) (drop walk.own own) walks count

pad_count : (walks : List (Option KeptWalk)) (count : ℕ) → own_count (walks ++ replicate count None) ≡ own_count walks
pad_count [] zero = refl
pad_count [] (suc count) = pad_count [] count
pad_count (None ∷ walks) count = pad_count walks count
pad_count (Some walk ∷ walks) count = ap (λ n. walk.own + n) (pad_count walks count)

pad_length : (walks : List (Option KeptWalk)) (count : ℕ) → length (walks ++ replicate count None) ≡ length walks + count
pad_length [] zero = omega arith
pad_length [] (suc count) = let rest = pad_length [] count in omega arith
pad_length (walk ∷ walks) count = let rest = pad_length walks count in omega arith

-- ---- one more node

said_none : (last own : List ℕ) (walks : List (Option KeptWalk)) (lines times : List ℕ) (line time : ℕ) → length walks ≤ length lines → length times ≡ length lines → said_from last own walks (lines ++ line ∷ []) (times ++ time ∷ []) ≡ said_from last own walks lines times ++ record { line = line; time = time; walk = None } ∷ []
said_none last own [] [] [] line time few sizes = refl
said_none last own (walk ∷ walks) [] [] line time few sizes = absurd (omega arith)
said_none last own walks [] (other ∷ times) line time few sizes = absurd (omega arith)
said_none last own walks (first ∷ lines) [] line time few sizes = absurd (omega arith)
said_none last own [] (first ∷ lines) (other ∷ times) line time few sizes =
    ap (λ (ss : List Said). record { line = first; time = other; walk = None } ∷ ss) (said_none last own [] lines times line time (omega arith) (omega arith))
said_none last own (None ∷ walks) (first ∷ lines) (other ∷ times) line time few sizes =
    ap (λ (ss : List Said). record { line = first; time = other; walk = None } ∷ ss) (said_none last own walks lines times line time (omega arith) (omega arith))
said_none last own (Some walk ∷ walks) (first ∷ lines) (other ∷ times) line time few sizes =
    ap (λ (ss : List Said). record { line = first; time = other; walk = Some (record { line = walk.line; arcs = arcs_kept walk last own }) } ∷ ss) (said_none (arcs_kept walk last own) (drop walk.own own) walks lines times line time (omega arith) (omega arith))

said_walk : (last own : List ℕ) (walks : List (Option KeptWalk)) (lines times : List ℕ) (line time : ℕ) (here : KeptWalk) → length walks ≡ length lines → length times ≡ length lines → said_from last own (walks ++ Some here ∷ []) (lines ++ line ∷ []) (times ++ time ∷ []) ≡ said_from last own walks lines times ++ record { line = line; time = time; walk = Some (record { line = here.line; arcs = arcs_kept here (last_from last own walks) (drop (own_count walks) own) }) } ∷ []
said_walk last own [] [] [] line time here few sizes = refl
said_walk last own (walk ∷ walks) [] times line time here few sizes = absurd (omega arith)
said_walk last own [] [] (other ∷ times) line time here few sizes = absurd (omega arith)
said_walk last own [] (first ∷ lines) times line time here few sizes = absurd (omega arith)
said_walk last own (walk ∷ walks) (first ∷ lines) [] line time here few sizes = absurd (omega arith)
said_walk last own (None ∷ walks) (first ∷ lines) (other ∷ times) line time here few sizes =
    ap (λ (ss : List Said). record { line = first; time = other; walk = None } ∷ ss) (said_walk last own walks lines times line time here (omega arith) (omega arith))
said_walk last own (Some walk ∷ walks) (first ∷ lines) (other ∷ times) line time here few sizes =
    ap (λ (ss : List Said). record { line = first; time = other; walk = Some (record { line = walk.line; arcs = arcs_kept walk last own }) } ∷ ss)
    (said_walk (arcs_kept walk last own) (drop walk.own own) walks lines times line time here (omega arith) (omega arith)
    ∙ ap (λ (rest : List ℕ). said_from (arcs_kept walk last own) (drop walk.own own) walks lines times ++ record { line = line; time = time; walk = Some (record { line = here.line; arcs = arcs_kept here (last_from (arcs_kept walk last own) (drop walk.own own) walks) rest }) } ∷ []) (drops walk.own (own_count walks) own))

last_walk : (last own : List ℕ) (walks : List (Option KeptWalk)) (here : KeptWalk) → last_from last own (walks ++ Some here ∷ []) ≡ arcs_kept here (last_from last own walks) (drop (own_count walks) own)
last_walk last own [] here = refl
last_walk last own (None ∷ walks) here = last_walk last own walks here
last_walk last own (Some walk ∷ walks) here =
    last_walk (arcs_kept walk last own) (drop walk.own own) walks here ∙ ap (λ (rest : List ℕ). arcs_kept here (last_from (arcs_kept walk last own) (drop walk.own own) walks) rest) (drops walk.own (own_count walks) own)

count_walk : (walks : List (Option KeptWalk)) (here : KeptWalk) → own_count (walks ++ Some here ∷ []) ≡ own_count walks + here.own
count_walk [] here = omega arith
count_walk (None ∷ walks) here = count_walk walks here
count_walk (Some walk ∷ walks) here = let rest = count_walk walks here in omega arith

-- ---- what is kept after one more node

times_more : (xs ys : List ℕ) (x y : ℕ) → length xs ≡ length ys → length (xs ++ x ∷ []) ≡ length (ys ++ y ∷ [])
times_more xs ys x y sizes = omega (arith, length-append xs (x ∷ []), length-append ys (y ∷ []))

module _ (old new : Kept) (are : AreKept old) (line time : ℕ) where
  pub keeps_time : KeepsTime line time old new → Keeps (said_kept old ++ record { line = line; time = time; walk = None } ∷ []) new
  keeps_time kept = record {
    are = record {
      times = ap (λ (xs : List ℕ). length xs) kept.table ∙ times_more old.table.items old.lines.items time line are.times ∙ ap (λ (xs : List ℕ). length xs) (sym kept.lines);
      few = omega (arith, are.few, ap (λ (xs : List ℕ). length xs) kept.lines, length-append old.lines.items (line ∷ []), ap (λ (ws : List (Option KeptWalk)). length ws) kept.walks);
      own = ap own_count kept.walks ∙ are.own ∙ ap (λ (xs : List ℕ). length xs) (sym kept.own);
      last = rw (kept.own, kept.walks, kept.text, kept.way) are.last;
    };
    view = rw (kept.own, kept.walks, kept.lines, kept.table) (said_none [] old.own.items old.walks.items old.lines.items old.table.items line time are.few are.times);
  }

  module _ (mid : Kept) (number : ℕ) (arcs : List ℕ) (kept : KeepsWalk number arcs old mid) where
    pads : ℕ
    pads = length old.lines.items - length old.walks.items

    padded : List (Option KeptWalk)
    padded = old.walks.items ++ replicate pads None

    pub keeps_both : KeepsTime line time mid new → Keeps (said_kept old ++ record { line = line; time = time; walk = Some (record { line = number; arcs = arcs }) } ∷ []) new
    unfolding pads padded
    keeps_both then =
        let more = then.own ∙ kept.more in
        let longer = then.walks ∙ kept.walks in
        let lined = then.lines ∙ ap (λ (xs : List ℕ). xs ++ line ∷ []) kept.lines in
        let timed = then.table ∙ ap (λ (xs : List ℕ). xs ++ time ∷ []) kept.table in
        let count = pad_count old.walks.items pads in
        let enough : own_count padded ≤ length old.own.items = omega (arith, are.own) in
        let size : length padded ≡ length old.lines.items = omega (arith, are.few, pad_length old.walks.items pads) in
        let last = last_more [] old.own.items kept.own padded enough ∙ pad_last [] old.own.items old.walks.items pads in
        let rest : take kept.walk.own (drop (own_count padded) (old.own.items ++ kept.own)) ≡ kept.own =
        ap (λ n. take kept.walk.own (drop n (old.own.items ++ kept.own))) (count ∙ are.own) ∙ ap (take kept.walk.own) (drop-append_seam old.own.items kept.own) ∙ ap (λ n. take n kept.own) kept.count ∙ take-length kept.own in
        let whole : arcs_kept kept.walk (last_from [] (old.own.items ++ kept.own) padded) (drop (own_count padded) (old.own.items ++ kept.own)) ≡ arcs =
        ap (λ (xs : List ℕ). take kept.walk.shared xs ++ take kept.walk.own (drop (own_count padded) (old.own.items ++ kept.own))) last
        ∙ ap (λ (xs : List ℕ). take kept.walk.shared (last_from [] old.own.items old.walks.items) ++ xs) rest ∙ kept.shared in
        record {
          are = record {
            times = ap (λ (xs : List ℕ). length xs) timed ∙ times_more old.table.items old.lines.items time line are.times ∙ ap (λ (xs : List ℕ). length xs) (sym lined);
            few = omega (arith, size, ap (λ (xs : List ℕ). length xs) lined, length-append old.lines.items (line ∷ []), ap (λ (ws : List (Option KeptWalk)). length ws) longer, length-append padded (Some kept.walk ∷ []));
            own = ap own_count longer ∙ count_walk padded kept.walk ∙ omega (arith, count, are.own, kept.count, ap (λ (xs : List ℕ). length xs) more, length-append old.own.items kept.own);
            last = rw (more, longer) (last_walk [] (old.own.items ++ kept.own) padded kept.walk ∙ whole ∙ sym kept.last ∙ ap (λ (w : Direction). arcs_in w mid.text.items) (sym then.way) ∙ ap (arcs_in new.way) (sym then.text));
          };
          view = rw (more, longer, lined, timed)
              (said_walk [] (old.own.items ++ kept.own) padded old.lines.items old.table.items line time kept.walk size are.times
              ∙ ap (λ (xs : List ℕ). said_from [] (old.own.items ++ kept.own) padded old.lines.items old.table.items ++ record { line = line; time = time; walk = Some (record { line = kept.walk.line; arcs = xs }) } ∷ []) whole
              ∙ ap (λ n. said_from [] (old.own.items ++ kept.own) padded old.lines.items old.table.items ++ record { line = line; time = time; walk = Some (record { line = n; arcs = arcs }) } ∷ []) kept.number
              ∙ ap (λ (ss : List Said). ss ++ record { line = line; time = time; walk = Some (record { line = number; arcs = arcs }) } ∷ []) (said_more [] old.own.items kept.own padded old.lines.items old.table.items enough ∙ pad_said [] old.own.items old.walks.items pads old.lines.items old.table.items));
        }

-- ---- what is kept after more nodes without walks

pub numbers_more : (number count : ℕ) → numbers number (count + 1) ≡ numbers number count ++ (number + count) ∷ []
numbers_more number zero = ap (λ n. n ∷ []) (omega arith)
numbers_more number (suc count) =
    let next : suc count + 1 ≡ suc (count + 1) = omega arith in
    ap (numbers number) next ∙ ap (λ (ns : List ℕ). number ∷ ns) (numbers_more (number + 1) count) ∙ ap (λ n. number ∷ (numbers (number + 1) count ++ n ∷ [])) (omega arith)

said_run : (last own : List ℕ) (walks : List (Option KeptWalk)) (lines times : List ℕ) (number : ℕ) (more : List ℕ) → length walks ≤ length lines → length times ≡ length lines → said_from last own walks (lines ++ numbers number (length more)) (times ++ more) ≡ said_from last own walks lines times ++ saids number more
said_run last own walks lines times number [] few sizes = rw (append-nil, append-nil, append-nil) refl
said_run last own walks lines times number (time ∷ more) few sizes =
    let here : Said = record { line = number; time = time; walk = None } in
    ap (λ (ls : List ℕ). said_from last own walks ls (times ++ time ∷ more)) (sym (append_assoc lines (number ∷ []) (numbers (number + 1) (length more))))
    ∙ ap (λ (ts : List ℕ). said_from last own walks ((lines ++ number ∷ []) ++ numbers (number + 1) (length more)) ts) (sym (append_assoc times (time ∷ []) more))
    ∙ said_run last own walks (lines ++ number ∷ []) (times ++ time ∷ []) (number + 1) more (omega (arith, length-append lines (number ∷ []))) (omega (arith, length-append lines (number ∷ []), length-append times (time ∷ [])))
    ∙ ap (λ (ss : List Said). ss ++ saids (number + 1) more) (said_none last own walks lines times number time few sizes)
    ∙ append_assoc (said_from last own walks lines times) (here ∷ []) (saids (number + 1) more)

numbers_length : (number count : ℕ) → length (numbers number count) ≡ count
numbers_length number zero = refl
numbers_length number (suc count) = let rest = numbers_length (number + 1) count in omega (arith, rest)

pub keeps_run : (old new : Kept) (number : ℕ) (times : List ℕ) → AreKept old → new.lines.items ≡ old.lines.items ++ numbers number (length times) → new.table.items ≡ old.table.items ++ times → new.walks.items ≡ old.walks.items → new.own.items ≡ old.own.items → new.text.items ≡ old.text.items → new.way ≡ old.way → Keeps (said_kept old ++ saids number times) new
keeps_run old new number times are lines table walks own text way = record {
  are = record {
    times = omega (arith, ap (λ (xs : List ℕ). length xs) table, ap (λ (xs : List ℕ). length xs) lines, length-append old.table.items times, length-append old.lines.items (numbers number (length times)), numbers_length number (length times), are.times);
    few = omega (arith, are.few, ap (λ (xs : List ℕ). length xs) lines, length-append old.lines.items (numbers number (length times)), ap (λ (ws : List (Option KeptWalk)). length ws) walks);
    own = ap own_count walks ∙ are.own ∙ ap (λ (xs : List ℕ). length xs) (sym own);
    last = rw (own, walks, text, way) are.last;
  };
  view = rw (own, walks, lines, table) (said_run [] old.own.items old.walks.items old.lines.items old.table.items number times are.few are.times);
}

-- what a walk shares with the last one
pub own_after : (way : Direction) (text : List ℕ) (kept : Kept) (other : List ℕ) (start end : ℕ) → IsLastText way kept other → IsOwnPart way text (arcs_in way other) start end → IsOwnPart way text (arcs_in kept.way kept.text.items) start end
own_after way text kept other start end (inl same) own =
    subst (λ (w : Direction). IsOwnPart way text (arcs_in w kept.text.items) start end) same.1 (subst (λ (t : List ℕ). IsOwnPart way text (arcs_in way t) start end) same.0 own)
own_after way text kept other start end (inr none) own =
    own_alone way text (arcs_in kept.way kept.text.items) start end (subst (λ (t : List ℕ). IsOwnPart way text (arcs_in way t) start end) none own)

at_end : {A : Type 0} (x : A) (count : ℕ) → replicate count x ++ x ∷ [] ≡ replicate (suc count) x
at_end x zero = refl
at_end x (suc count) = ap (λ ys. x ∷ ys) (at_end x count)

pub padded_more : (old now next : List (Option KeptWalk)) (len : ℕ) → next ≡ now ++ None ∷ [] → length old ≤ length now → now ≡ old ++ replicate (length now - length old) None → length now < len → (length old ≤ length next) × (length next ≤ len) × (next ≡ old ++ replicate (length next - length old) None)
padded_more old now next len pushed grown was less =
    let size : length next ≡ length now + 1 = ap (λ (ws : List (Option KeptWalk)). length ws) pushed ∙ length-append now (None ∷ []) in
    let more : length next - length old ≡ suc (length now - length old) = omega arith in
    (omega arith, omega arith, pushed ∙ ap (λ (ws : List (Option KeptWalk)). ws ++ None ∷ []) was ∙ append_assoc old (replicate (length now - length old) None) (None ∷ []) ∙ ap (λ (ws : List (Option KeptWalk)). old ++ ws) (at_end None (length now - length old)) ∙ ap (λ n. old ++ replicate n None) (sym more))

-- the walk of the next node
pub keeps_walk : (old new : Kept) (way : Direction) (text own : List ℕ) (start end count line : ℕ) → AreKept old → IsOwnPart way text (arcs_in old.way old.text.items) start end → own ≡ arcs_in way (part text start end) → count ≡ length (fields_of text) → new.lines.items ≡ old.lines.items → new.table.items ≡ old.table.items → new.walks.items ≡ (old.walks.items ++ replicate (length old.lines.items - length old.walks.items) None) ++ Some (record { line = line; shared = count - length own; own = length own }) ∷ [] → new.own.items ≡ old.own.items ++ own → new.way ≡ way → new.text.items ≡ text → KeepsWalk line (arcs_in way text) old new
keeps_walk old new way text own start end count line are part is counted lines table walks more same texts =
    let whole : arcs_in way text ≡ part.front ++ own = part.cut ∙ ap (λ (xs : List ℕ). part.front ++ xs) (sym is) in
    let shared : count - length own ≡ length part.front = omega (arith, counted, sizes way (fields_of text), ap (λ (xs : List ℕ). length xs) whole, length-append part.front own) in
    record {
      lines = lines;
      table = table;
      walk = record { line = line; shared = count - length own; own = length own };
      own = own;
      walks = walks;
      more = more;
      count = refl;
      number = refl;
      shared = ap (λ n. take n (last_from [] old.own.items old.walks.items) ++ own) shared ∙ ap (λ (xs : List ℕ). take (length part.front) xs ++ own) are.last ∙ ap (λ (xs : List ℕ). xs ++ own) part.shared ∙ sym whole;
      last = ap (λ (w : Direction). arcs_in w new.text.items) same ∙ ap (arcs_in way) texts;
    }
  where
    sizes : (way : Direction) (fields : List (List ℕ)) → length (told_walk way (arcs_of fields)) ≡ length fields
    sizes Forward fields = length-map fields arc_of
    sizes Turned fields = length-reverse (arcs_of fields) ∙ length-map fields arc_of

-- ---- walks that are read again

Left : List ℕ → List ℕ → List (Option KeptWalk) → List Said → Type 0
Left arcs own walks rest = (lines : List ℕ) × (times : List ℕ) × (said_from arcs own walks lines times ≡ rest)

left_alone : (arcs own lines times : List ℕ) (said : Said) (rest : List Said) → said_from arcs own [] lines times ≡ said ∷ rest → Left arcs own [] rest × (said.walk ≡ None)
unfolding Left
left_alone arcs own [] times said rest same = cc
left_alone arcs own (line ∷ lines) [] said rest same = cc
left_alone arcs own (line ∷ lines) (time ∷ times) said rest same =
    let here : record { line = line; time = time; walk = None } ≡ said = cc in
    let later : said_from arcs own [] lines times ≡ rest = cc in
    ((lines, times, later), sym (ap (λ (s : Said). s.walk) here))

left_none : (arcs own lines times : List ℕ) (walks : List (Option KeptWalk)) (said : Said) (rest : List Said) → said_from arcs own (None ∷ walks) lines times ≡ said ∷ rest → Left arcs own walks rest × (said.walk ≡ None)
unfolding Left
left_none arcs own [] times walks said rest same = cc
left_none arcs own (line ∷ lines) [] walks said rest same = cc
left_none arcs own (line ∷ lines) (time ∷ times) walks said rest same =
    let here : record { line = line; time = time; walk = None } ≡ said = cc in
    let later : said_from arcs own walks lines times ≡ rest = cc in
    ((lines, times, later), sym (ap (λ (s : Said). s.walk) here))

left_walk : (arcs own lines times : List ℕ) (walk : KeptWalk) (walks : List (Option KeptWalk)) (said : Said) (rest : List Said) → said_from arcs own (Some walk ∷ walks) lines times ≡ said ∷ rest → Left (arcs_kept walk arcs own) (drop walk.own own) walks rest × (said.walk ≡ Some (record { line = walk.line; arcs = arcs_kept walk arcs own }))
unfolding Left
left_walk arcs own [] times walk walks said rest same = cc
left_walk arcs own (line ∷ lines) [] walk walks said rest same = cc
left_walk arcs own (line ∷ lines) (time ∷ times) walk walks said rest same =
    let here : record { line = line; time = time; walk = Some (record { line = walk.line; arcs = arcs_kept walk arcs own }) } ≡ said = cc in
    let later : said_from (arcs_kept walk arcs own) (drop walk.own own) walks lines times ≡ rest = cc in
    ((lines, times, later), sym (ap (λ (s : Said). s.walk) here))

from_here : (reported : List Said) (place : ℕ) (said : Said) → slice_get reported place ≡ Some said → drop place reported ≡ said ∷ drop (suc place) reported
from_here [] place said found = cc
from_here (first ∷ rest) zero said found = let e : first ≡ said = cc in ap (λ (s : Said). s ∷ rest) e
from_here (first ∷ rest) (suc place) said found = from_here rest place said found

module _ (old new : WalkReader) where
  at_next : (reported : List Said) (node : ℕ) (said : Said) (walk : Option WrittenWalk) → IsSaid reported node said → Left new.arcs.items new.own.now new.walks.now (drop (suc (node - 1)) reported) × (said.walk ≡ walk) → IsAtNode reported (node + 1) new × (said.walk ≡ walk)
  unfolding Left
  at_next reported node said walk is_said found =
      let place : suc (node - 1) ≡ node + 1 - 1 = let some = is_said.0 in omega arith in
      (record { lines = found.0.0; times = found.0.1; left = found.0.2 ∙ ap (λ n. drop n reported) place }, found.1)

  here : (reported : List Said) (node : ℕ) (said : Said) (at : IsAtNode reported node old) → IsSaid reported node said → said_from old.arcs.items old.own.now old.walks.now at.lines at.times ≡ said ∷ drop (suc (node - 1)) reported
  here reported node said at is_said = at.left ∙ from_here reported (node - 1) said is_said.1

  pub reads_none_left : old.walks.now ≡ [] → new.walks.now ≡ [] → new.own.now ≡ old.own.now → new.arcs.items ≡ old.arcs.items → ReadsNext None old new
  reads_none_left before after own arcs reported node said at is_said =
      at_next reported node said None is_said (rw (arcs, own, after) (left_alone old.arcs.items old.own.now at.lines at.times said (drop (suc (node - 1)) reported) (rw before at (here reported node said at is_said))))

  module _ (first : Option KeptWalk) (walks : List (Option KeptWalk)) (before : old.walks.now ≡ first ∷ walks) (after : new.walks.now ≡ walks) where
    pub reads_none : first ≡ None → new.own.now ≡ old.own.now → new.arcs.items ≡ old.arcs.items → ReadsNext None old new
    reads_none none own arcs reported node said at is_said =
        at_next reported node said None is_said (rw (arcs, own, after) (left_none old.arcs.items old.own.now at.lines at.times walks said (drop (suc (node - 1)) reported) (rw (before, none) at (here reported node said at is_said))))

    pub reads_walk : (walk : KeptWalk) → first ≡ Some walk → new.own.now ≡ drop walk.own old.own.now → new.arcs.items ≡ arcs_kept walk old.arcs.items old.own.now → ReadsNext (Some walk.line) old new
    reads_walk walk some own arcs reported node said at is_said =
        at_next reported node said (Some (record { line = walk.line; arcs = new.arcs.items })) is_said (rw (own, after, arcs) (left_walk old.arcs.items old.own.now at.lines at.times walk walks said (drop (suc (node - 1)) reported) (rw (before, some) at (here reported node said at is_said))))
