-- A device's text that is read block by block.
use Rattle.std.proofs.Common.{◌≡◌, Bool, true, false, if◌then◌else◌, ℕ, ◌+◌, ◌<◌, ◌≤◌, List, [], ◌++◌, length, length-append, append_assoc, ap, sym, ◌∙◌, subst, refl, arith}
use Rattle.std.specs.Prelude.{IfSome, Option, None}
use Rattle.std.specs.Io.KnownBytes.{IsAtEnd}
use Rattle.ea_bytes.specs.Device.{Seen}
use Rattle.ea_blocks.specs.Outcome.{FaultCounts}
use Rattle.ea_blocks.specs.Taking.{GoesOnTaking, IsTakenBy, StopsTaking}
use Rattle.ea_blocks.proofs.Taken.{all_taken, from_start, was_borne, within_limit}
use Rattle.ea_blocks.specs.declared.blocks.Blocks.{Blocks}
use Rattle.ea_blocks.specs.declared.blocks.ReadFault.{ReadFault}
use Rattle.ea_blocks.specs.declared.blocks.ReadFault.TheVariants.{TooLarge}
use Rattle.ea_blocks.specs.Reading.{lines_after}
use Rattle.ea_blocks.specs.Streams.{EndsLine, FeedsOn, HasFed, IsReadUpTo, IsWhole}
use Rattle.ea_blocks.proofs.Cuts.{both_end, nothing_ends}
use Rattle.ea_blocks.proofs.Steps.{Step}
use Rattle.ea_blocks.specs.declared.fault.InputFault.{InputFault}

-- Nothing has been read yet.
nothing_fed : {S : Type 0} (step : Step S) (start : S) → HasFed step start [] start 0 None
unfolding lines_after
nothing_fed step start = (refl, refl)

-- The first block.
pub begun : {S : Type 0} (step : Step S) (start : S) (limit : ℕ) (first now : Seen) (blocks after : Blocks) (none block : List ℕ) → none ≡ [] → IsTakenBy blocks limit first first []
    → GoesOnTaking first blocks now after none block → IsReadUpTo step start limit first now start 0 None after block
begun step start limit first now blocks after none block empty new goes =
    ([], nothing_ends, nothing_fed step start, omega arith, from_start limit first now blocks.left blocks.interruptions after.left after.interruptions none block empty goes new)

-- The same of a reader for which nothing waits.
pub begun_with : {S : Type 0} (step : Step S) (start : S) (limit : ℕ) (first now : Seen) (after : Blocks) (waiting block : List ℕ) (other : S) (lines : ℕ) (fault : Option InputFault)
    → waiting ≡ [] → other ≡ start → lines ≡ 0 → fault ≡ None → IsReadUpTo step start limit first now start 0 None after block → IsReadUpTo step start limit first now other lines fault after (waiting ++ block)
begun_with step start limit first now after waiting block other lines fault none same zero sound is =
    subst (λ w. IsReadUpTo step start limit first now other lines fault after (w ++ block)) (sym none)
    (subst (λ s. IsReadUpTo step start limit first now s lines fault after block) (sym same)
    (subst (λ n. IsReadUpTo step start limit first now start n fault after block) (sym zero)
    (subst (λ f. IsReadUpTo step start limit first now start 0 f after block) (sym sound) is)))

-- Fewer bytes are left for a block that is not the last, and a block that is the last comes once.
pub smaller : (ended now : Bool) (left after tail grown size : ℕ) → ended ≡ false → grown + after ≡ tail + left → (now ≡ false → size ≤ grown) → tail < size → tail ≤ grown
    → after + (if now then 0 else 1) < left + (if ended then 0 else 1)
smaller true now left after tail grown size e total full short low = cc
smaller false true left after tail grown size e total full short low = omega (arith, total, low)
smaller false false left after tail grown size e total full short low = omega (arith, total, full refl, short)

-- What waits, the lines of a block and what follows them are the lines that are given, those that wait then, and what follows.
pub block_cut : (waiting block lines tail front left : List ℕ) → block ≡ lines ++ tail → waiting ++ lines ≡ front ++ left → waiting ++ block ≡ front ++ (left ++ tail)
block_cut waiting block lines tail front left cut given =
    ap (λ l. waiting ++ l) cut ∙ sym (append_assoc waiting lines tail) ∙ ap (λ l. l ++ tail) given ∙ append_assoc front left tail

-- Bytes are taken behind others.
pub taken_behind : (old new : Seen) (blocks after : Blocks) (front block grown : List ℕ) → GoesOnTaking old blocks new after block grown → GoesOnTaking old blocks new after (front ++ block) (front ++ grown)
taken_behind old new blocks after front block grown goes = (goes.0, ap (λ l. front ++ l) goes.1 ∙ sym (append_assoc front block goes.0), goes.2)

-- The lines of what is at hand can be counted.
pub few_lines : {S : Type 0} (step : Step S) (start : S) (limit : ℕ) (first now : Seen) (state : S) (lines : ℕ) (fault : Option InputFault) (blocks : Blocks) (hand : List ℕ)
    → IsReadUpTo step start limit first now state lines fault blocks hand → lines + length hand ≤ limit
few_lines step start limit first now state lines fault blocks hand is = omega (arith, is.3, is.4.within, length-append is.0 hand)

-- Some of what is at hand is given to a reader, and more bytes are taken.
pub went_on : {S : Type 0} (step : Step S) (start : S) (limit : ℕ) (first now next : Seen) (state last : S) (lines count : ℕ) (fault known : Option InputFault) (blocks after : Blocks) (block front rest grown kept : List ℕ)
    → IsReadUpTo step start limit first now state lines fault blocks block → EndsLine front → block ≡ front ++ rest → FeedsOn step state lines fault last count known front
    → GoesOnTaking now blocks next after rest grown → kept ≡ grown → IsReadUpTo step start limit first next last count known after kept
went_on step start limit first now next state last lines count fault known blocks after block front rest grown kept is ends cut fed goes swapped =
    let before = is.0 in
    let taken = goes.2 limit first (before ++ block) is.4 in
    let same : (before ++ block) ++ goes.0 ≡ (before ++ front) ++ kept =
    append_assoc before block goes.0 ∙ ap (λ l. before ++ (l ++ goes.0)) cut ∙ ap (λ l. before ++ l) (append_assoc front rest goes.0 ∙ ap (λ l. front ++ l) (sym (swapped ∙ goes.1))) ∙ sym (append_assoc before front kept) in (
      before ++ front,
      both_end before front is.1 ends,
      fed.fed start before is.1 is.2,
      omega (arith, fed.lines, is.3, length-append before front),
      subst (λ l. IsTakenBy after limit first next l) same taken,
    )

-- Why reading a device stopped.
abbrev pub IsWhy : ReadFault → ℕ → Seen → Seen → Type 0
IsWhy fault limit first now = FaultCounts fault first now × (fault ≡ TooLarge → IfSome first.bytes (λ had. limit < length had))

pub never_begun : (limit : ℕ) (first now : Seen) (blocks : Blocks) (fault : ReadFault) → IsTakenBy blocks limit first first [] → StopsTaking first blocks now fault → IsWhy fault limit first now
never_begun limit first now blocks fault new stops = let why = stops limit first [] new in (why.counts, why.too_large)

pub broken_off : {S : Type 0} (step : Step S) (start : S) (limit : ℕ) (first now next : Seen) (state : S) (lines : ℕ) (known : Option InputFault) (blocks : Blocks) (block : List ℕ) (fault : ReadFault)
    → IsReadUpTo step start limit first now state lines known blocks block → StopsTaking now blocks next fault → IsWhy fault limit first next
broken_off step start limit first now next state lines known blocks block fault is stops = let why = stops limit first (is.0 ++ block) is.4 in (why.counts, why.too_large)

-- All lines are read, and the device has ended.
pub all_read : {S : Type 0} (step : Step S) (start : S) (limit : ℕ) (first now : Seen) (state last : S) (lines count : ℕ) (fault known : Option InputFault) (blocks : Blocks) (block shown : List ℕ)
    → IsReadUpTo step start limit first now state lines fault blocks block → IsAtEnd now.bytes → shown ≡ block → FeedsOn step state lines fault last count known shown
    → (text : List ℕ) × IsWhole limit first now text × HasFed step start text last count known
all_read step start limit first now state last lines count fault known blocks block shown is end same fed =
    let text = is.0 ++ block in (
      text,
      record {
        all = all_taken limit first now text blocks.left blocks.interruptions is.4 end;
        few = within_limit limit first now text blocks.left blocks.interruptions is.4;
        borne = was_borne limit first now text blocks.left blocks.interruptions is.4;
      },
      subst (λ l. HasFed step start (is.0 ++ l) last count known) same (fed.fed start is.0 is.1 is.2),
    )
