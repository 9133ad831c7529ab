-- Texts on their way to a device.
use Rattle.std.proofs.Common.{◌≡◌, ℕ, zero, suc, ◌+◌, ◌-◌, ◌*◌, ◌^◌, ◌<◌, ◌≤◌, min, List, [], ◌∷◌, ◌++◌, length, take, drop, refl, ap, ap₂, sym, ◌∙◌, inl, inr, arith, subst, length-drop, length-append, append-nil, append_assoc, get_or, map}
use Rattle.std.proofs.Math.Seq.{take-add, take-length, take-append-add}
use Rattle.std.proofs.lemmas.List.{take-append-le}
use Rattle.ea_report.specs.Report.{each_node, some_nodes}
use Rattle.std.specs.Prelude.{Option, Result, Ok, Err, IfErr, OnOk}
use Rattle.std.specs.List.{flat_map}
use Rattle.std.specs.Io.KnownBytes.{Appends}
use Rattle.std.proofs.KnownBytes.{Appends-trans, Appends-nil}
use Rattle.ea_bytes.specs.Device.{Seen, one_more, BearsOn, GivesUp, HasGivenUp}
use Rattle.ea_report.specs.Delivery.{Delivery, all_sent, with_more}
use Rattle.ea_report.specs.Sent.{AreCounted, HasBorne, IsExact, IsNotLess, IsCutAt, IsCutBy, IsReason, Delivers, IsWhole, Adds, Cuts, DeliversMore, SendsWhole, SendsFront, Stops}
use Rattle.ea_report.specs.Writers.{AddsOrGivesUp, AddsOrStops, GoesOnOrCuts}
use Rattle.ea_report.specs.declared.report.TheConstants.{PIECE}
use Rattle.ea_report.specs.declared.report.WriteFault.{WriteFault}
use Rattle.ea_report.specs.declared.report.WriteFaultKind.TheVariants.{WriteFailed, OutOfMemory}
use native.Mathlib.Decide.{dec_le}

pub rest_whole : (bytes : List ℕ) (s : ℕ) → take (length bytes - s) (drop s bytes) ≡ drop s bytes
rest_whole bytes s = rw (← length-drop s bytes) (take-length (drop s bytes))

front_more : (bytes : List ℕ) (s n : ℕ) → take s bytes ++ take n (take (length bytes - s) (drop s bytes)) ≡ take (s + n) bytes
front_more bytes s n = ap (λ rest. take s bytes ++ take n rest) (rest_whole bytes s) ∙ sym (take-add s n bytes)

-- What was sent, and then the front of the rest.
pub sent_more : (a b c : Option (List ℕ)) (bytes : List ℕ) (s n : ℕ) → Appends a b (take s bytes) → Appends b c (take n (take (length bytes - s) (drop s bytes))) → Appends a c (take (s + n) bytes)
sent_more a b c bytes s n before now = subst (λ sent. Appends a c sent) (front_more bytes s n) (Appends-trans a b c (take s bytes) _ before now)

-- One more interruption.
counted_more : (first old new count : ℕ) → new ≡ one_more old → AreCounted first old count → AreCounted first new (count + 1)
counted_more first old new count e (few, inl h) = elim (dec_le (2 ^ 64 - 1) old) [ yes p ↦ (omega arith, inr (omega arith)) | no p ↦ (omega arith, inl (omega arith)) ]
counted_more first old new count e (few, inr h) = (omega arith, inr (omega arith))

-- A device with only tolerated interruptions continues.
pub borne_on : (first old now : Seen) (count : ℕ) → now.failed ≡ old.failed → now.interrupted ≡ old.interrupted → HasBorne first old count → HasBorne first now count
borne_on first old now count unfailed same h = (unfailed ∙ h.0, rw same h.1)

pub borne_more : (first old now : Seen) (count : ℕ) → now.failed ≡ old.failed → now.interrupted ≡ one_more old.interrupted → HasBorne first old count → HasBorne first now (count + 1)
borne_more first old now count unfailed more h = (unfailed ∙ h.0, counted_more first.interrupted old.interrupted now.interrupted count more h.1)

-- A device that failed, or was interrupted once too often, gave a reason.
pub failed_gives_up : (first old now : Seen) (count : ℕ) → now.failed ≡ one_more old.failed → now.interrupted ≡ old.interrupted → count ≤ 1000 → HasBorne first old count → GivesUp first now
failed_gives_up first old now count e same few h = inl (e ∙ ap one_more h.0, omega (arith, same, h.1.0))

pub interrupted_gives_up : (first old now : Seen) → now.failed ≡ old.failed → now.interrupted ≡ one_more old.interrupted → HasBorne first old 1000 → GivesUp first now
interrupted_gives_up first old now unfailed more h =
    let counted = counted_more first.interrupted old.interrupted now.interrupted 1000 more h.1 in
    inr (unfailed ∙ h.0, omega (arith, counted.0), elim counted.1 [ inl more ↦ inl (omega (arith, more)) | inr end ↦ inr end ])

-- A count that has reached its end stays there.
again : (a b end : ℕ) → min (min a end + b) end ≡ min (a + b) end
again a b end = omega arith

-- All that was pending is sent.
pub delivery_sent : (first old now : Seen) (d : Delivery) (after : ℕ) (text : List ℕ) → SendsWhole old now d.pending d.interruptions after
    → Delivers first old d text → Delivers first now (all_sent (min (d.written + length d.pending) (2 ^ 128 - 1)) after) text
delivery_sent first old now d after text sends way = record {
  sent = way.sent ++ d.pending;
  appended = Appends-trans first.bytes old.bytes now.bytes way.sent d.pending way.appended sends.sent;
  whole = way.whole ∙ sym (append-nil (way.sent ++ d.pending));
  counted = rw (way.counted, length-append way.sent d.pending) (again (length way.sent) (length d.pending) (2 ^ 128 - 1));
  borne = sends.counted first way.borne;
}

-- Only a front of what was pending is sent.
pub delivery_cut : (first old now : Seen) (d : Delivery) (text : List ℕ) (sent written : ℕ) → SendsFront old now d.pending d.interruptions sent → written ≡ min (d.written + sent) (2 ^ 128 - 1) → IsExact written
    → Delivers first old d text → IsCutBy first now text (record { written = written; kind = WriteFailed })
delivery_cut first old now d text sent written sends count exact way =
    let size : written ≡ length way.sent + sent = omega (arith, count, exact, way.counted) in
    let front : take written text ≡ way.sent ++ take sent d.pending = rw (size, way.whole) (take-append-add way.sent d.pending sent) in (
      (rw (size, way.whole, length-append way.sent d.pending) (omega (arith, sends.cut.0)), subst (λ t. Appends first.bytes now.bytes t) (sym front) (Appends-trans first.bytes old.bytes now.bytes way.sent (take sent d.pending) way.appended sends.cut.1)),
      sends.given_up first way.borne,
    )

-- More is pending.
pub delivery_more : (first now : Seen) (d : Delivery) (text more : List ℕ) → Delivers first now d text → Delivers first now (with_more d more) (text ++ more)
delivery_more first now d text more way = record {
  sent = way.sent;
  appended = way.appended;
  whole = ap (λ t. t ++ more) way.whole ∙ append_assoc way.sent d.pending more;
  counted = way.counted;
  borne = way.borne;
}

-- A front of a text is a front of a longer one.
pub cut_more : (first now : Seen) (text more : List ℕ) (fault : WriteFault) → IsCutBy first now text fault → IsCutBy first now (text ++ more) fault
cut_more first now text more fault cut =
    ((rw (length-append text more) (omega (arith, cut.0.0)), subst (λ t. Appends first.bytes now.bytes t) (sym (take-append-le fault.written text more cut.0.0)) cut.0.1), cut.1)

-- The texts of nodes 1 to n, at one of them.
pub each_node-at : (text : ℕ → List ℕ) (n i : ℕ) → i < n → (rest : List ℕ) × (each_node text n ≡ (each_node text i ++ text (i + 1)) ++ rest)
each_node-at text zero i h = absurd (omega arith)
each_node-at text (suc n) i h = elim (dec_le n i) [
  | yes p ↦
      let same : n ≡ i = omega arith in
      let next : suc n ≡ i + 1 = omega arith in
      ([], ap₂ (λ a b. each_node text a ++ text b) same next ∙ sym (append-nil (each_node text i ++ text (i + 1))))
  | no p ↦
      let before = each_node-at text n i (omega arith) in
      (before.0 ++ text (suc n), ap (λ t. t ++ text (suc n)) before.1 ∙ append_assoc (each_node text i ++ text (i + 1)) before.0 (text (suc n)))
]

pub each_node-next : (text : ℕ → List ℕ) (i : ℕ) → each_node text (i + 1) ≡ each_node text i ++ text (i + 1)
each_node-next text i =
    let next : i + 1 ≡ suc i = omega arith in
    ap (each_node text) next ∙ ap (λ n. each_node text i ++ text n) (sym next)

-- The texts of nodes up to one, and then those of some more.
pub each_node-then : (text : ℕ → List ℕ) (after count : ℕ) → each_node text after ++ some_nodes text after count ≡ each_node text (after + count)
each_node-then text after zero =
    let none : after ≡ after + 0 = omega arith in
    append-nil (each_node text after) ∙ ap (each_node text) none
each_node-then text after (suc n) =
    let more : suc after + n ≡ after + suc n = omega arith in
    sym (append_assoc (each_node text after) (text (suc after)) (some_nodes text (suc after) n)) ∙ each_node-then text (suc after) n ∙ ap (each_node text) more

-- The text of the first of some nodes, and those of the others.
pub some_nodes-first : (text : ℕ → List ℕ) (after node n : ℕ) → suc after ≡ node → some_nodes text after (n + 1) ≡ text node ++ some_nodes text node n
some_nodes-first text after node n e =
    let next : n + 1 ≡ suc n = omega arith in
    ap (some_nodes text after) next ∙ ap (λ m. text m ++ some_nodes text m n) e

-- The texts of all nodes begin with those.
pub each_node-front : (text : ℕ → List ℕ) (after count n : ℕ) → after + count ≤ n → (rest : List ℕ) × (each_node text n ≡ (each_node text after ++ some_nodes text after count) ++ rest)
each_node-front text after count n few =
    let whole : after + count + (n - (after + count)) ≡ n = omega (arith, few) in
    (some_nodes text (after + count) (n - (after + count)), sym (ap (λ t. t ++ some_nodes text (after + count) (n - (after + count))) (each_node-then text after count) ∙ each_node-then text (after + count) (n - (after + count)) ∙ ap (each_node text) whole))

-- The same texts by other names.
pub each_node-as : (text other : ℕ → List ℕ) → ((node : ℕ) → text node ≡ other node) → (n : ℕ) → each_node text n ≡ each_node other n
each_node-as text other same zero = refl
each_node-as text other same (suc n) = ap₂ (λ a b. a ++ b) (each_node-as text other same n) (same (suc n))

-- A text that stops while more of it is pending stops as the longer text.
pub stops_after : {T : Type 0} (r : Result T WriteFault) (old new : Seen) (d : Delivery) (pending more : List ℕ) → pending ≡ d.pending ++ more
    → IfErr r (λ fault. IsExact fault.written → Cuts old (record d { pending = pending }) new fault)
    → IfErr r (λ fault. IsExact fault.written → Stops old d new fault more)
stops_after (Ok x) old new d pending more e h = tt
stops_after (Err fault) old new d pending more e h = λ exact first text way.
    h exact first (text ++ more) (rw e (delivery_more first old d text more way))

-- Nothing was added yet.
pub adds_none : (old : Seen) (d : Delivery) → Adds old d old d []
adds_none old d = λ first text way. rw (append-nil text) way

-- More and more.
pub adds_more : (a b c : Seen) (d e f : Delivery) (more next : List ℕ) → Adds a d b e more → Adds b e c f next → Adds a d c f (more ++ next)
adds_more a b c d e f more next one two = λ first text way. subst (λ t. Delivers first c f t) (append_assoc text more next) (two first (text ++ more) (one first text way))

-- More, and then it stops; and what was still to come doesn't matter.
pub stops_more : (a b c : Seen) (d e : Delivery) (fault : WriteFault) (more next rest whole : List ℕ) → whole ≡ (more ++ next) ++ rest → Adds a d b e more → Stops b e c fault next → Stops a d c fault whole
stops_more a b c d e fault more next rest whole is adds stops = λ first text way.
    let cut = cut_more first c ((text ++ more) ++ next) rest fault (stops first (text ++ more) (adds first text way)) in
    let same : ((text ++ more) ++ next) ++ rest ≡ text ++ whole = rw is (simp append_assoc) in
    subst (λ t. IsCutBy first c t fault) same cut

-- A text of many parts, at one of them.
pub flat_map-at : {X : Type 0} (f : X → List ℕ) (xs : List X) (i : ℕ) (d : X) → i < length xs → flat_map f xs ≡ (flat_map f (take i xs) ++ f (get_or xs i d)) ++ flat_map f (drop (suc i) xs)
flat_map-at f [] i d h = absurd (omega arith)
flat_map-at f (x ∷ xs) zero d h = refl
flat_map-at f (x ∷ xs) (suc i) d h = ap (λ t. f x ++ t) (flat_map-at f xs i d (omega arith)) ∙ simp append_assoc

pub flat_map-map : {X Y : Type 0} (f : Y → List ℕ) (g : X → Y) (xs : List X) → flat_map (λ x. f (g x)) xs ≡ flat_map f (map g xs)
flat_map-map f g [] = refl
flat_map-map f g (x ∷ xs) = ap (λ t. f (g x) ++ t) (flat_map-map f g xs)

pub flat_map-next : {X : Type 0} (f : X → List ℕ) (xs : List X) (i : ℕ) (d : X) → i < length xs → flat_map f (take (suc i) xs) ≡ flat_map f (take i xs) ++ f (get_or xs i d)
flat_map-next f [] i d h = absurd (omega arith)
flat_map-next f (x ∷ xs) zero d h = append-nil (f x)
flat_map-next f (x ∷ xs) (suc i) d h = ap (λ t. f x ++ t) (flat_map-next f xs i d (omega arith)) ∙ simp append_assoc

-- At the start nothing is sent or pending.
pub delivery_starts : (now : Seen) (d : Delivery) → d ≡ all_sent 0 0 → Delivers now now d []
delivery_starts now d e =
    let start : Delivers now now (all_sent 0 0) [] = record { sent = []; appended = Appends-nil now.bytes; whole = refl; counted = omega arith; borne = (refl, (omega arith, inl (omega arith))) } in
    subst (λ t. Delivers now now t []) (sym e) start

-- A count that continues doesn't fall.
not_less : (old new count : ℕ) → AreCounted old new count → IsNotLess old new
not_less old new count (few, inl h) = inl (omega (arith, h))
not_less old new count (few, inr h) = inr h

-- At the end everything is sent.
pub delivery_ends : (first now : Seen) (d : Delivery) (text : List ℕ) → d.pending ≡ [] → d.interruptions ≤ 1000 → IsExact d.written → Delivers first now d text → IsWhole first now text d.written
delivery_ends first now d text e few exact way =
    let same : text ≡ way.sent = way.whole ∙ ap (λ p. way.sent ++ p) e ∙ append-nil way.sent in
    let size : d.written ≡ length way.sent = omega (arith, way.counted, exact) in
    (size ∙ ap length (sym same), subst (λ t. Appends first.bytes now.bytes t) (sym same) way.appended, (way.borne.0, omega (arith, few, way.borne.1.0)), not_less first.interrupted now.interrupted d.interruptions way.borne.1)

-- Bytes that were sent at once.
pub adds_sent : (old now : Seen) (bytes : List ℕ) (written count before after : ℕ) → count ≡ length bytes → SendsWhole old now bytes before after
    → Adds old (all_sent written before) now (all_sent (min (written + count) (2 ^ 128 - 1)) after) bytes
adds_sent old now bytes written count before after size sends = λ first text way.
    let pending = with_more (all_sent written before) bytes in
    subst (λ n. Delivers first now (all_sent (min (written + n) (2 ^ 128 - 1)) after) (text ++ bytes)) (sym size)
    (delivery_sent first old now pending after (text ++ bytes) sends (delivery_more first old (all_sent written before) text bytes way))

pub stops_sent : (old now : Seen) (bytes : List ℕ) (written borne sent told : ℕ) → SendsFront old now bytes borne sent → told ≡ min (written + sent) (2 ^ 128 - 1) → IsExact told
    → Stops old (all_sent written borne) now (record { written = told; kind = WriteFailed }) bytes
stops_sent old now bytes written borne sent told sends count exact = λ first text way.
    let pending = with_more (all_sent written borne) bytes in
    delivery_cut first old now pending (text ++ bytes) sent told sends count exact (delivery_more first old (all_sent written borne) text bytes way)

-- A device that is the cause shows it.
shown : (old new : Seen) → GivesUp old new → HasGivenUp old new
shown old new (inl p) = elim (dec_le (2 ^ 64 - 1) old.failed) [ yes q ↦ inr (inr (inl (omega (arith, p.0)))) | no q ↦ inl (omega (arith, p.0)) ]
shown old new (inr p) = elim p.2 [ inl h ↦ inr (inl h) | inr h ↦ inr (inr (inr h)) ]

pub given_up : {T : Type 0} (r : Result T WriteFault) (first now : Seen) (text : List ℕ) → IfErr r (λ fault. IsCutBy first now text fault) → IfErr r (λ fault. fault.kind ≡ WriteFailed → HasGivenUp first now)
given_up (Ok x) first now text h = tt
given_up (Err fault) first now text h = λ e. shown first now (subst (λ k. IsReason k first now) e h.1)

-- ---- what writers did

adds_after : {T : Type 0} (r : Result T WriteFault) (old new : Seen) (d after : Delivery) (pending more : List ℕ) → pending ≡ d.pending ++ more
    → OnOk r (DeliversMore old (record d { pending = pending }) new after) → OnOk r (Adds old d new after more)
adds_after (Ok x) old new d after pending more e h = λ first text way. h first (text ++ more) (rw e (delivery_more first old d text more way))
adds_after (Err fault) old new d after pending more e h = tt

-- Lines that were added to what is pending, and sent with it if it was long.
pub lines_added : {T : Type 0} (r : Result T WriteFault) (old new : Seen) (d after : Delivery) (pending more : List ℕ) → pending ≡ d.pending ++ more
    → GoesOnOrCuts old (record d { pending = pending }) new after r → AddsOrStops old d new after 1 more r
lines_added r old new d after pending more e sends = record {
  ok = adds_after r old new d after pending more e sends.ok;
  err = stops_after r old new d pending more e sends.err;
  count = 1;
  within = omega arith;
  few = omega arith;
  bound = omega (arith, sends.bound);
  small = small r sends.small;
  held = sends.held;
}
  where
    small : {T : Type 0} (r : Result T WriteFault) → IfErr r (λ fault. fault.written ≤ d.written + 2 ^ 63) → IfErr r (λ fault. fault.written ≤ d.written + 1 * 2 ^ 63)
    small (Ok x) h = tt
    small (Err fault) h = omega (arith, h)

-- Lines for which memory was refused.
pub lines_refused : {T : Type 0} (old : Seen) (d after : Delivery) (fault : WriteFault) (more : List ℕ) → after.written ≡ d.written → d.interruptions ≤ 1000 → fault ≡ record { written = d.written; kind = OutOfMemory }
    → AddsOrStops {T = T} old d old after 1 more (Err fault)
lines_refused old d after fault more same borne is = record {
  ok = tt;
  err = λ exact first text way. (
      let written : fault.written ≡ d.written = ap (λ (f : WriteFault). f.written) is in
      let size : d.written ≡ length way.sent = omega (arith, written, exact, way.counted) in
      let whole : take (length way.sent) text ≡ way.sent = rw way.whole (take-append-le (length way.sent) way.sent d.pending (omega arith) ∙ take-length way.sent) in
      let cut : IsCutAt first.bytes old.bytes text (length way.sent) = (rw (way.whole, length-append way.sent d.pending) (omega arith), subst (λ t. Appends first.bytes old.bytes t) (sym whole) way.appended) in
      let bears : BearsOn first old = (way.borne.0, omega (arith, borne, way.borne.1.0)) in
      let by : IsCutBy first old text (record { written = length way.sent; kind = OutOfMemory }) = (cut, bears) in
      let short : IsCutBy first old text (record { written = d.written; kind = OutOfMemory }) = subst (λ n. IsCutBy first old text (record { written = n; kind = OutOfMemory })) (sym size) by in
      subst (λ f. IsCutBy first old (text ++ more) f) (sym is) (cut_more first old text more (record { written = d.written; kind = OutOfMemory }) short));
  count = 1;
  within = omega arith;
  few = omega arith;
  bound = omega (arith, same);
  small = omega (arith, ap (λ (f : WriteFault). f.written) is);
  held = tt;
}

-- Some lines, and then the rest of them.
pub lines_then : {T : Type 0} (r : Result T WriteFault) (a b c : Seen) (d e f : Delivery) (many more_many : ℕ) (more next : List ℕ)
    → many + more_many < 2 ^ 64 + 2 ^ 33 → Adds a d b e more → e.written ≤ d.written + many * 2 ^ 63
    → AddsOrStops b e c f more_many next r → AddsOrStops a d c f (many + more_many) (more ++ next) r
lines_then (Ok x) a b c d e f many more_many more next few adds before then = record {
  ok = adds_more a b c d e f more next adds then.ok;
  err = tt;
  count = many + then.count;
  within = omega (arith, then.within);
  few = omega (arith, few, then.within);
  bound = omega (arith, before, then.bound);
  small = tt;
  held = then.held;
}
lines_then (Err fault) a b c d e f many more_many more next few adds before then = record {
  ok = tt;
  err = λ exact. stops_more a b c d e fault more next [] (more ++ next) (sym (append-nil (more ++ next))) adds (then.err exact);
  count = many + then.count;
  within = omega (arith, then.within);
  few = omega (arith, few, then.within);
  bound = omega (arith, before, then.bound);
  small = omega (arith, before, then.small);
  held = tt;
}

-- Lines within which the text stopped, of more.
pub lines_stop : {T : Type 0} (a b c : Seen) (d e f : Delivery) (fault : WriteFault) (many some most : ℕ) (more next rest whole : List ℕ) → many + some ≤ most → whole ≡ (more ++ next) ++ rest
    → Adds a d b e more → e.written ≤ d.written + many * 2 ^ 63
    → most < 2 ^ 64 + 2 ^ 33 → (IsExact fault.written → Stops b e c fault next) → f.written ≤ e.written + some * 2 ^ 63 → fault.written ≤ e.written + some * 2 ^ 63
    → AddsOrStops {T = T} a d c f most whole (Err fault)
lines_stop a b c d e f fault many some most more next rest whole few is adds before fits stops bound small = record {
  ok = tt;
  err = λ exact. stops_more a b c d e fault more next rest whole is adds (stops exact);
  count = most;
  within = omega arith;
  few = fits;
  bound = omega (arith, before, bound, few);
  small = omega (arith, before, small, few);
  held = tt;
}

pub lines_stop_first : {T : Type 0} (a c : Seen) (d f : Delivery) (fault : WriteFault) (some most : ℕ) (next rest : List ℕ) → some ≤ most
    → most < 2 ^ 64 + 2 ^ 33 → (IsExact fault.written → Stops a d c fault next) → f.written ≤ d.written + some * 2 ^ 63 → fault.written ≤ d.written + some * 2 ^ 63
    → AddsOrStops {T = T} a d c f most (next ++ rest) (Err fault)
lines_stop_first a c d f fault some most next rest few fits stops bound small =
    lines_stop a a c d d f fault 0 some most [] next rest (next ++ rest) (omega (arith, few)) refl (adds_none a d) (omega arith) fits stops bound small

-- All lines.
pub lines_done : {T : Type 0} (x : T) (a c : Seen) (d f : Delivery) (many : ℕ) (more : List ℕ) → many < 2 ^ 64 + 2 ^ 33 → Adds a d c f more → f.written ≤ d.written + many * 2 ^ 63 → length f.pending < PIECE
    → AddsOrStops a d c f many more (Ok x)
lines_done x a c d f many more few adds bound held = record { ok = adds; err = tt; count = many; within = omega arith; few = few; bound = bound; small = tt; held = held }

-- The same lines, by another name of their text and a greater count.
pub lines_as : {T : Type 0} (r : Result T WriteFault) (a c : Seen) (d f : Delivery) (many most : ℕ) (more whole : List ℕ) → many ≤ most → more ≡ whole
    → AddsOrStops a d c f many more r → AddsOrStops a d c f most whole r
lines_as (Ok x) a c d f many most more whole few is then = record {
  ok = subst (λ (t : List ℕ). Adds a d c f t) is then.ok;
  err = tt;
  count = then.count;
  within = omega (arith, few, then.within);
  few = then.few;
  bound = then.bound;
  small = tt;
  held = then.held;
}
lines_as (Err fault) a c d f many most more whole few is then = record {
  ok = tt;
  err = λ exact. subst (λ (t : List ℕ). Stops a d c fault t) is (then.err exact);
  count = then.count;
  within = omega (arith, few, then.within);
  few = then.few;
  bound = then.bound;
  small = then.small;
  held = tt;
}

-- A piece that was sent, and then more of them.
pub pieces_then : {T : Type 0} (r : Result T WriteFault) (a b c : Seen) (d e f : Delivery) (many some most : ℕ) (more next whole : List ℕ) → many + some ≤ most → whole ≡ more ++ next
    → Adds a d b e more → e.written ≤ d.written + many * 2 ^ 64
    → AddsOrGivesUp b e c f some next r → AddsOrGivesUp a d c f most whole r
pieces_then (Ok x) a b c d e f many some most more next whole few is adds before then = record {
  ok = rw is (adds_more a b c d e f more next adds then.ok);
  err = tt;
  device = tt;
  bound = omega (arith, few, before, then.bound);
  small = tt;
}
pieces_then (Err fault) a b c d e f many some most more next whole few is adds before then = record {
  ok = tt;
  err = λ exact. stops_more a b c d e fault more next [] whole (is ∙ sym (append-nil (more ++ next))) adds (then.err exact);
  device = then.device;
  bound = omega (arith, few, before, then.bound);
  small = omega (arith, few, before, then.small);
}

-- Pieces within which the device gave up, of more.
pub pieces_stop : {T : Type 0} (a b c : Seen) (d e f : Delivery) (fault : WriteFault) (many some most : ℕ) (more next rest whole : List ℕ) → many + some ≤ most → whole ≡ (more ++ next) ++ rest
    → Adds a d b e more → e.written ≤ d.written + many * 2 ^ 64
    → (IsExact fault.written → Stops b e c fault next) → fault.kind ≡ WriteFailed → f.written ≤ e.written + some * 2 ^ 64 → fault.written ≤ e.written + some * 2 ^ 64
    → AddsOrGivesUp {T = T} a d c f most whole (Err fault)
pieces_stop a b c d e f fault many some most more next rest whole few is adds before stops device bound small = record {
  ok = tt;
  err = λ exact. stops_more a b c d e fault more next rest whole is adds (stops exact);
  device = device;
  bound = omega (arith, before, bound, few);
  small = omega (arith, before, small, few);
}

pub pieces_stop_first : {T : Type 0} (a c : Seen) (d f : Delivery) (fault : WriteFault) (some most : ℕ) (next rest whole : List ℕ) → some ≤ most → whole ≡ next ++ rest
    → (IsExact fault.written → Stops a d c fault next) → fault.kind ≡ WriteFailed → f.written ≤ d.written + some * 2 ^ 64 → fault.written ≤ d.written + some * 2 ^ 64
    → AddsOrGivesUp {T = T} a d c f most whole (Err fault)
pieces_stop_first a c d f fault some most next rest whole few is stops device bound small =
    pieces_stop a a c d d f fault 0 some most [] next rest whole (omega (arith, few)) is (adds_none a d) (omega arith) stops device bound small
