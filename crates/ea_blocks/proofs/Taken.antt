-- Bytes taken from a device, piece by piece.
use Rattle.std.proofs.Common.{◌≡◌, Bool, true, false, ◌⊎◌, ℕ, ◌+◌, ◌-◌, ◌<◌, ◌≤◌, ◌^◌, List, [], ◌++◌, length, refl, ap, sym, ◌∙◌, subst, arith, tests, inl, inr, append_assoc, append-nil, length-append}
use Rattle.std.specs.Prelude.{Option, Some, None, IfSome}
use Rattle.std.specs.Io.KnownBytes.{Consumes, IsAtEnd}
use Rattle.std.proofs.KnownBytes.{Consumes-all, Consumes-trans}
use Rattle.std.proofs.lemmas.Grind.{common_steps}
use Rattle.ea_bytes.specs.Device.{Seen, BearsOn, HasGivenUp, TakesAtMost, GivesUp, one_more}
use Rattle.ea_blocks.specs.Outcome.{FaultCounts}
use Rattle.ea_blocks.specs.Taking.{IsStopped, IsTaken, Takes}
use Rattle.ea_blocks.specs.declared.blocks.ReadFault.{ReadFault}
use Rattle.ea_blocks.specs.declared.blocks.ReadFault.TheVariants.{OutOfMemory, ReadFailed, TooLarge}

-- If more bytes than a limit were taken, the device had more.
pub more_left : (a b : Option (List ℕ)) (bytes : List ℕ) (limit : ℕ) → limit < length bytes → Consumes a b bytes → IfSome a (λ left. limit < length left)
more_left None b bytes limit more taken = tt
more_left (Some x) None bytes limit more taken = absurd taken
more_left (Some x) (Some y) bytes limit more taken = omega (arith, ap length taken, length-append bytes y)

-- Bytes that were taken, and then some more.
pub taken_more : (a b c : Seen) (bytes : List ℕ) (more most : ℕ) → Consumes a.bytes b.bytes bytes → TakesAtMost more b c → length bytes + more ≤ most → TakesAtMost most a c
taken_more a b c bytes more most front back fits = (bytes ++ back.0, Consumes-trans a.bytes b.bytes c.bytes bytes back.0 front back.1, omega (arith, back.2, fits, length-append bytes back.0))

-- ---- block by block

-- Interruptions counted so far, as far as the counts reach.
counted_more : (first mid now n : ℕ) → now ≡ one_more mid → (first + n ≤ mid) ⊎ (mid ≡ 2 ^ 64 - 1) → (first + (n + 1) ≤ now) ⊎ (now ≡ 2 ^ 64 - 1)
counted_more first mid now n e (inl h) = grind (arith, tests, common_steps)
counted_more first mid now n e (inr h) = inr (omega (arith, e, h))

one_too_many : (first mid now n : ℕ) → now ≡ one_more mid → 1000 ≤ n → (first + n ≤ mid) ⊎ (mid ≡ 2 ^ 64 - 1) → (first + 1000 < now) ⊎ (now ≡ 2 ^ 64 - 1)
one_too_many first mid now n e over (inl h) = grind (arith, tests, common_steps)
one_too_many first mid now n e over (inr h) = inr (omega (arith, e, h))

-- Bytes taken after those before, for the bytes left and the number of interruptions.
abbrev Goes : Seen → ℕ → ℕ → Seen → ℕ → ℕ → List ℕ → List ℕ → Type 0
Goes old left n new left_after n_after block grown =
    (got : List ℕ) × (grown ≡ block ++ got)
    × ((limit : ℕ) (first : Seen) (bytes : List ℕ) → IsTaken limit first old bytes left n → IsTaken limit first new (bytes ++ got) left_after n_after)

-- No more are taken, for this reason.
abbrev Stops : Seen → ℕ → ℕ → Seen → ReadFault → Type 0
Stops old left n new fault = (limit : ℕ) (first : Seen) (bytes : List ℕ) → IsTaken limit first old bytes left n → IsStopped limit first new fault

-- How much a block grew.
pub grown : (before after : List ℕ) (old new : Seen) (t : Takes old new before after) → length after ≡ length before + length t.0
grown before after old new t = ap length t.1 ∙ length-append before t.0

-- A read that gave bytes.
pub some_taken : (mid now : Seen) (before after : List ℕ) (left n count : ℕ) → Takes mid now before after → now.failed ≡ mid.failed → now.interrupted ≡ mid.interrupted
    → length after ≡ length before + count → count ≤ left → Goes mid left n now (left - count) n before after
some_taken mid now before after left n count t failed interrupted size fits = (
  t.0,
  t.1,
  λ limit first bytes is. record {
    all = Consumes-trans first.bytes mid.bytes now.bytes bytes t.0 is.all t.2;
    within = omega (arith, is.within, fits, size, grown before after mid now t, length-append bytes t.0);
    borne = is.borne;
    counted = rw interrupted is.counted;
    at_most = omega (arith, is.at_most, interrupted);
    failed = failed ∙ is.failed;
  },
)

-- A read that was interrupted.
pub interrupted_taken : (mid now : Seen) (before after : List ℕ) (left n : ℕ) → Takes mid now before after → now.failed ≡ mid.failed → now.interrupted ≡ one_more mid.interrupted
    → after ≡ before → n < 1000 → Goes mid left n now left (n + 1) before after
interrupted_taken mid now before after left n t failed interrupted same fits = (
  t.0,
  t.1,
  λ limit first bytes is. record {
    all = Consumes-trans first.bytes mid.bytes now.bytes bytes t.0 is.all t.2;
    within = omega (arith, is.within, ap length same, grown before after mid now t, length-append bytes t.0);
    borne = omega (arith, fits);
    counted = counted_more first.interrupted mid.interrupted now.interrupted n interrupted is.counted;
    at_most = omega (arith, is.at_most, interrupted);
    failed = failed ∙ is.failed;
  },
)

-- A read at the end, or one that gave nothing.
pub none_taken : (mid now : Seen) (before after : List ℕ) (left n : ℕ) → Takes mid now before after → now.failed ≡ mid.failed → now.interrupted ≡ mid.interrupted
    → after ≡ before → Goes mid left n now left n before after
none_taken mid now before after left n t failed interrupted same = (
  t.0,
  t.1,
  λ limit first bytes is. record {
    all = Consumes-trans first.bytes mid.bytes now.bytes bytes t.0 is.all t.2;
    within = omega (arith, is.within, ap length same, grown before after mid now t, length-append bytes t.0);
    borne = is.borne;
    counted = rw interrupted is.counted;
    at_most = omega (arith, is.at_most, interrupted);
    failed = failed ∙ is.failed;
  },
)

-- Reads one after another.
pub goes_on : (a b c : Seen) (p i q j r k : ℕ) (x y z : List ℕ) → Goes a p i b q j x y → Goes b q j c r k y z → Goes a p i c r k x z
goes_on a b c p i q j r k x y z front back = (
  front.0 ++ back.0,
  back.1 ∙ ap (λ l. l ++ back.0) front.1 ∙ append_assoc x front.0 back.0,
  λ limit first bytes is. subst (λ l. IsTaken limit first c l r k) (append_assoc bytes front.0 back.0) (back.2 limit first (bytes ++ front.0) (front.2 limit first bytes is)),
)

pub nothing_yet : (a : Seen) (p i : ℕ) (x : List ℕ) → Goes a p i a p i x x
nothing_yet a p i x = ([], sym (append-nil x), λ limit first bytes is. subst (λ l. IsTaken limit first a l p i) (sym (append-nil bytes)) is)

-- Reads that end in a fault.
pub stops : (a b c : Seen) (p i q j : ℕ) (x y : List ℕ) (fault : ReadFault) → Goes a p i b q j x y → Stops b q j c fault → Stops a p i c fault
stops a b c p i q j x y fault front back = λ limit first bytes is. back limit first (bytes ++ front.0) (front.2 limit first bytes is)

-- More bytes than are allowed.
pub stops_large : (mid now : Seen) (before after : List ℕ) (left n count : ℕ) → Takes mid now before after → now.failed ≡ mid.failed → now.interrupted ≡ mid.interrupted
    → length after ≡ length before + count → left < count → count ≤ left + 1 → Stops mid left n now TooLarge
stops_large mid now before after left n count t failed interrupted size over most = λ limit first bytes is.
    let all = Consumes-trans first.bytes mid.bytes now.bytes bytes t.0 is.all t.2 in
    let long : length (bytes ++ t.0) ≡ limit + 1 = omega (arith, is.within, over, most, size, grown before after mid now t, length-append bytes t.0) in
    record {
      counts = (failed ∙ is.failed, omega (arith, is.at_most, is.borne, interrupted));
      taken = (bytes ++ t.0, all, omega (arith, long));
      too_large = λ _. more_left first.bytes now.bytes (bytes ++ t.0) limit (omega (arith, long)) all;
    }

-- A read that failed.
pub stops_failed : (mid now : Seen) (before after : List ℕ) (left n : ℕ) → Takes mid now before after → now.failed ≡ one_more mid.failed → now.interrupted ≡ mid.interrupted
    → after ≡ before → Stops mid left n now ReadFailed
stops_failed mid now before after left n t failed interrupted same = λ limit first bytes is.
    record {
      counts = inl (rw (← is.failed) failed, omega (arith, is.at_most, is.borne, interrupted));
      taken = (bytes ++ t.0, Consumes-trans first.bytes mid.bytes now.bytes bytes t.0 is.all t.2, omega (arith, is.within, ap length same, grown before after mid now t, length-append bytes t.0));
      too_large = λ e. cc;
    }

-- One interruption too many.
pub stops_interrupted : (mid now : Seen) (before after : List ℕ) (left n : ℕ) → Takes mid now before after → now.failed ≡ mid.failed → now.interrupted ≡ one_more mid.interrupted
    → after ≡ before → 1000 ≤ n → Stops mid left n now ReadFailed
stops_interrupted mid now before after left n t failed interrupted same over = λ limit first bytes is.
    record {
      counts = inr (failed ∙ is.failed, omega (arith, is.at_most, is.borne, interrupted), one_too_many first.interrupted mid.interrupted now.interrupted n interrupted over is.counted);
      taken = (bytes ++ t.0, Consumes-trans first.bytes mid.bytes now.bytes bytes t.0 is.all t.2, omega (arith, is.within, ap length same, grown before after mid now t, length-append bytes t.0));
      too_large = λ e. cc;
    }

-- Memory that was refused for the bytes of a read.
pub stops_refused : (mid now : Seen) (left n most : ℕ) → TakesAtMost most mid now → now.failed ≡ mid.failed → now.interrupted ≡ mid.interrupted → most ≤ left + 1 → Stops mid left n now OutOfMemory
stops_refused mid now left n most t failed interrupted fits = λ limit first bytes is.
    record {
      counts = (failed ∙ is.failed, omega (arith, is.at_most, is.borne, interrupted));
      taken = taken_more first mid now bytes most (limit + 1) is.all t (omega (arith, is.within, fits));
      too_large = λ e. cc;
    }

-- ---- all bytes

gives_up : (old new : Seen) → GivesUp old new → HasGivenUp old new
gives_up old new (inl h) = grind (arith, tests, common_steps)
gives_up old new (inr h) = elim (h.2) [
  | inl p ↦ inr (inl p)
  | inr p ↦ inr (inr (inr p))
]

-- What a read that failed says of the counts.
pub failed_so : (limit : ℕ) (first now : Seen) (fault : ReadFault) → IsStopped limit first now fault → fault ≡ ReadFailed → HasGivenUp first now
failed_so limit first now fault stopped e = gives_up first now (subst (λ f. FaultCounts f first now) e stopped.counts)

-- What was taken up to the end is all.
pub all_taken : (limit : ℕ) (first now : Seen) (bytes : List ℕ) (left n : ℕ) → IsTaken limit first now bytes left n → IsAtEnd now.bytes → IfSome first.bytes (λ had. bytes ≡ had)
all_taken limit first now bytes left n is end = Consumes-all first.bytes now.bytes bytes [] bytes is.all end refl

-- What was taken since the device was first seen is the block that was filled.
pub from_start : (limit : ℕ) (first now : Seen) (left n left_after n_after : ℕ) (none block : List ℕ) → none ≡ [] → Goes first left n now left_after n_after none block → IsTaken limit first first [] left n → IsTaken limit first now block left_after n_after
from_start limit first now left n left_after n_after none block empty goes start =
    let same : block ≡ [] ++ goes.0 = goes.1 ∙ ap (λ l. l ++ goes.0) empty in
    subst (λ l. IsTaken limit first now l left_after n_after) (sym same) (goes.2 limit first [] start)

-- What was taken is within the limit, and the device did not give up.
pub within_limit : (limit : ℕ) (first now : Seen) (bytes : List ℕ) (left n : ℕ) → IsTaken limit first now bytes left n → length bytes ≤ limit
within_limit limit first now bytes left n is = omega (arith, is.within)

pub at_most_taken : (limit : ℕ) (first now : Seen) (bytes : List ℕ) (left n : ℕ) → IsTaken limit first now bytes left n → TakesAtMost (limit + 1) first now
at_most_taken limit first now bytes left n is = (bytes, is.all, omega (arith, is.within))

pub was_borne : (limit : ℕ) (first now : Seen) (bytes : List ℕ) (left n : ℕ) → IsTaken limit first now bytes left n → BearsOn first now
was_borne limit first now bytes left n is = (is.failed, omega (arith, is.at_most, is.borne))

-- A block that can't be full was filled to the end.
pub ended : (ended : Bool) (P : Type 0) (size len : ℕ) → (ended ≡ false → size ≤ len) → (ended ≡ true → P) → len < size → P
ended true P size len full end short = end refl
ended false P size len full end short = absurd (omega (arith, full refl, short))
