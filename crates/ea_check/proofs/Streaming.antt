-- Reading a report's lines as the bytes of its device come.
use Rattle.std.proofs.Common.{◌≡◌, ◌≢◌, ◌∙◌, refl, Bool, true, false, ℕ, suc, ◌+◌, ◌<◌, ◌≤◌, List, [], ◌∷◌, ◌++◌, length, map, take, drop, get_or, arith, ap, sym, subst, append_assoc, append-nil, length-append}
use Rattle.std.proofs.Math.Numerals.{add-one}
use Rattle.std.proofs.lemmas.Bool.{false≢true}
use Rattle.std.proofs.lemmas.List.{drop-append-le, drop_all, get_or_append_left, take-append-le, take_all}
use Rattle.std.specs.Str.Lines.{strip_carriage_return}
use Rattle.std.specs.Io.KnownBytes.{IsAtEnd}
use Rattle.memchr.specs.Find.{IsFirstByte, is_byte}
use Rattle.std.specs.Prelude.{if◌then◌else◌, IsTrue, MatchOption, Option, Some, None}
use Rattle.ea_bytes.proofs.Cutting.{feed_at, lines_at, lines_end, no_feed}
use Rattle.ea_blocks.proofs.Taken.{at_most_taken, was_borne}
use Rattle.ea_base.specs.declared.direction.Direction.{Direction}
use Rattle.ea_bytes.specs.Device.{Seen}
use Rattle.ea_blocks.specs.Taking.{GoesOnTaking, HasRoom, IsTakenBy, StopsTaking}
use Rattle.ea_bytes.specs.Text.{field_lines, fields_of, is_silent, lines_of}
use Rattle.ea_blocks.specs.declared.blocks.Blocks.{Blocks}
use Rattle.ea_blocks.specs.declared.blocks.ReadFault.{ReadFault}
use Rattle.ea_blocks.specs.declared.blocks.ReadFault.TheVariants.{OutOfMemory}
use Rattle.ea_check.specs.declared.form.report_lines.ReportLines.{ReportLines}
use Rattle.ea_check.specs.Form.{Line, spoken_from}
use Rattle.ea_check.specs.Streams.{BeginsWithLine, Leads, TakesLine, rest_of}

-- ---- one state after another

module _ (P Q R : List ℕ → List ℕ → Type 0) where
  pub leads_on : ((text middle next : List ℕ) → P text middle → Q middle next → R text next) → (old mid new : Seen) (before between after : ReportLines) → Leads P old before mid between → Leads Q mid between new after → Leads R old before new after
  leads_on all old mid new before between after front back = record {
    got = front.got ++ back.got;
    room = back.room;
    taken = λ limit first bytes is. subst (λ (l : List ℕ). IsTakenBy after.blocks limit first new l) (append_assoc bytes front.got back.got) (back.taken limit first (bytes ++ front.got) (front.taken limit first bytes is));
    ended = λ was.
        let here = front.ended was in
        let there = back.ended here.0 in
        (there.0, ap (λ (l : List ℕ). l ++ back.got) here.1 ∙ there.1);
    end = λ at. back.end (front.end at);
    holds = λ later none.
        let here = front.holds (back.got ++ later) (λ was. let there = back.ended was in ap (λ (l : List ℕ). l ++ later) there.1 ∙ none there.0) in
        subst (λ (l : List ℕ). R (rest_of before ++ l) (rest_of after ++ later)) (sym (append_assoc front.got back.got later)) (all _ _ _ here (back.holds later none));
  }

module _ (P Q : List ℕ → List ℕ → Type 0) where
  pub leads_also : ((text next : List ℕ) → P text next → Q text next) → (old new : Seen) (before after : ReportLines) → Leads P old before new after → Leads Q old before new after
  leads_also more old new before after leads = record {
    got = leads.got;
    room = leads.room;
    taken = leads.taken;
    ended = leads.ended;
    end = leads.end;
    holds = λ later none. more _ _ (leads.holds later none);
  }

module _ (P Q : List ℕ → List ℕ → Type 0) where
  -- The same for a state of which the same is left.
  pub leads_moved : ((text next : List ℕ) → P text next → Q text next) → (old new : Seen) (before mid after : ReportLines) → after.blocks ≡ mid.blocks → after.ended ≡ mid.ended → rest_of after ≡ rest_of mid → Leads P old before new mid → Leads Q old before new after
  leads_moved more old new before mid after blocks ended rest leads = record {
    got = leads.got;
    room = subst HasRoom (sym blocks) leads.room;
    taken = λ limit first bytes is. subst (λ (b : Blocks). IsTakenBy b limit first new (bytes ++ leads.got)) (sym blocks) (leads.taken limit first bytes is);
    ended = λ was.
        let there = leads.ended was in
        (ended ∙ there.0, there.1);
    end = λ at is. leads.end at (sym ended ∙ is);
    holds = λ later none.
        subst (λ (r : List ℕ). Q (rest_of before ++ (leads.got ++ later)) (r ++ later)) (sym rest) (more _ _ (leads.holds later (λ is. none (ended ∙ is))));
  }

module _ (P : List ℕ → List ℕ → Type 0) where
  -- Nothing was taken from the device.
  pub leads_here : (seen : Seen) (before after : ReportLines) → HasRoom after.blocks → after.blocks ≡ before.blocks → after.ended ≡ before.ended
      → ((later : List ℕ) → (after.ended ≡ true → later ≡ []) → P (rest_of before ++ later) (rest_of after ++ later)) → Leads P seen before seen after
  leads_here seen before after room blocks ended holds = record {
    got = [];
    room = room;
    taken = λ limit first bytes is.
        subst (λ (b : Blocks). IsTakenBy b limit first seen (bytes ++ [])) (sym blocks) (subst (λ (l : List ℕ). IsTakenBy before.blocks limit first seen l) (sym (append-nil bytes)) is);
    ended = λ was. (ended ∙ was, refl);
    end = λ at is. at (sym ended ∙ is);
    holds = holds;
  }

  -- Reading that stops later.
  pub stops_on : (old mid new : Seen) (before between : ReportLines) (fault : ReadFault) → Leads P old before mid between → StopsTaking mid between.blocks new fault → StopsTaking old before.blocks new fault
  stops_on old mid new before between fault front stops = λ limit first bytes is. stops limit first (bytes ++ front.got) (front.taken limit first bytes is)

-- Memory was refused.
pub memory_stops : (seen : Seen) (blocks : Blocks) → StopsTaking seen blocks seen OutOfMemory
memory_stops seen blocks = λ limit first bytes is. record {
  counts = was_borne limit first seen bytes blocks.left blocks.interruptions is;
  taken = at_most_taken limit first seen bytes blocks.left blocks.interruptions is;
  too_large = λ e. cc;
}

-- ---- lines

-- The first line feed ends the first line, whatever follows the text.
pub begins_at : (text : List ℕ) (i : ℕ) → i < length text → get_or text i 0 ≡ 10 → ((k : ℕ) → k < i → get_or text k 0 ≢ 10) → BeginsWithLine text (take i text) (drop (i + 1) text)
begins_at text i inside feed none = λ more.
    let all = text ++ more in
    let there = λ (k : ℕ) (low : k < length text). get_or_append_left text more 0 k low in
    let cut = lines_at all i (omega (arith, length-append text more)) (there i inside ∙ feed) (λ k low is. none k low (sym (there k (omega arith)) ∙ is)) in
    cut ∙ ap (λ (l : List ℕ). l ∷ lines_of (drop (suc i) all)) (take-append-le i text more (omega arith))
    ∙ ap (λ (l : List ℕ). take i text ∷ lines_of l) (drop-append-le (suc i) text more (omega arith))
    ∙ ap (λ n. take i text ∷ lines_of (drop n text ++ more)) (sym (add-one i))

-- The same of the fields of lines.
pub fields_begin_at : (text line rest : List ℕ) → BeginsWithLine text line rest → (more : List ℕ) → field_lines (text ++ more) ≡ fields_of (strip_carriage_return line) ∷ field_lines (rest ++ more)
fields_begin_at text line rest begins more = ap (λ (ls : List (List ℕ)). map (λ line. fields_of (strip_carriage_return line)) ls) (begins more)

-- The last line of a text, which no line feed ends.
pub last_fields : (text : List ℕ) → lines_of text ≡ text ∷ [] → field_lines text ≡ fields_of (strip_carriage_return text) ∷ []
last_fields text is = ap (λ (ls : List (List ℕ)). map (λ line. fields_of (strip_carriage_return line)) ls) is

-- The end of the first line of a text.
pub cut_by : (text : List ℕ) (end : Option ℕ) → IsFirstByte (is_byte 10) text end
    → MatchOption end (0 < length text → lines_of text ≡ text ∷ []) (λ end. (end < length text) × BeginsWithLine text (take end text) (drop (end + 1) text))
cut_by text None none = λ some. lines_end text some (λ k low. no_feed text k (none k (omega arith) low))
cut_by text (Some i) found = (
  found.0.high,
  begins_at text i found.0.high (feed_at text i found.1) (λ k low. no_feed text k (found.0.before k (omega arith) low)),
)

-- Bytes that were taken, and then something of the same bytes.
module _ (Q : List ℕ → List ℕ → Type 0) where
  pub leads_same : (old mid new : Seen) (before between after : ReportLines) → Leads (λ text next. text ≡ next) old before mid between → Leads Q mid between new after → Leads Q old before new after
  leads_same old mid new before between after front back =
      leads_on (λ text next. text ≡ next) Q Q (λ text middle next same holds. subst (λ (t : List ℕ). Q t next) (sym same) holds) old mid new before between after front back

-- The first line of what is left.
pub takes_first : (text rest line shown : List ℕ) (end : ℕ) → shown ≡ text → BeginsWithLine shown (take end shown) (drop (end + 1) shown) → rest ≡ drop (end + 1) text → line ≡ strip_carriage_return (take end text)
    → (later : List ℕ) → TakesLine true line (text ++ later) (rest ++ later)
takes_first text rest line shown end same begins behind stripped later =
    let here = subst (λ (t : List ℕ). BeginsWithLine t (take end t) (drop (end + 1) t)) same begins in
    fields_begin_at text (take end text) (drop (end + 1) text) here later
    ∙ ap (λ (l : List ℕ). fields_of l ∷ field_lines (drop (end + 1) text ++ later)) (sym stripped)
    ∙ ap (λ (l : List ℕ). fields_of line ∷ field_lines (l ++ later)) (sym behind)

-- The last line, which no line feed ends.
pub takes_last : (text rest line shown : List ℕ) (count : ℕ) → shown ≡ text → (0 < length shown → lines_of shown ≡ shown ∷ []) → 0 < count → count ≡ length text → rest ≡ drop count text → line ≡ strip_carriage_return (take count text)
    → (later : List ℕ) → later ≡ [] → TakesLine true line (text ++ later) (rest ++ later)
takes_last text rest line shown count same last some size behind stripped later none =
    let whole = subst (λ (t : List ℕ). 0 < length t → lines_of t ≡ t ∷ []) same last (omega arith) in
    let all : text ++ later ≡ text = ap (λ (l : List ℕ). text ++ l) none ∙ append-nil text in
    let empty : rest ++ later ≡ [] = ap (λ (l : List ℕ). rest ++ l) none ∙ append-nil rest ∙ behind ∙ drop_all count text (omega arith) in
    let read : line ≡ strip_carriage_return text = stripped ∙ ap strip_carriage_return (take_all count text (omega arith)) in
    ap field_lines all ∙ last_fields text whole ∙ ap (λ (l : List ℕ). fields_of l ∷ []) (sym read) ∙ ap (λ (l : List ℕ). fields_of line ∷ field_lines l) (sym empty)

-- A measure: fewer bytes are left, or the device has ended.
pub falls : (was ended : Bool) (before left : ℕ) → was ≡ false → left ≤ before → (ended ≡ false → left < before) → left + (if ended then 0 else 1) < before + (if was then 0 else 1)
falls true ended before left more less on = cc
falls false true before left more less on = omega (arith, less)
falls false false before left more less on = omega (arith, on refl)

-- ---- lines that say something

module _ (way next_way : Direction) (number next_number : ℕ) (fields : List (List ℕ)) (text next : List ℕ) (same : next_way ≡ way) (count : next_number ≡ number + 1) where
  abbrev more : Bool → List Line
  more silent =
      if silent then spoken_from way (number + 1 + 1) (field_lines next) else (record { number = number + 1; fields = fields; way = way } ∷ spoken_from way (number + 1 + 1) (field_lines next))

  pub silent_line : is_silent fields ≡ true → field_lines text ≡ fields ∷ field_lines next → spoken_from way (number + 1) (field_lines text) ≡ spoken_from next_way (next_number + 1) (field_lines next)
  silent_line silent is =
      ap (spoken_from way (number + 1)) is ∙ ap more silent ∙ ap (λ n. spoken_from way (n + 1) (field_lines next)) (sym count) ∙ ap (λ w. spoken_from w (next_number + 1) (field_lines next)) (sym same)

  pub spoken_line : is_silent fields ≡ false → field_lines text ≡ fields ∷ field_lines next → spoken_from way (number + 1) (field_lines text) ≡ record { number = next_number; fields = fields; way = next_way } ∷ spoken_from next_way (next_number + 1) (field_lines next)
  spoken_line speaks is =
      ap (spoken_from way (number + 1)) is ∙ ap more speaks ∙ ap (λ n. record { number = n; fields = fields; way = way } ∷ spoken_from way (n + 1) (field_lines next)) (sym count)
      ∙ ap (λ w. record { number = next_number; fields = fields; way = w } ∷ spoken_from w (next_number + 1) (field_lines next)) (sym same)

pub no_line_left : (way : Direction) (number : ℕ) (text : List ℕ) → text ≡ [] → spoken_from way number (field_lines text) ≡ []
no_line_left way number text none = ap (λ (t : List ℕ). spoken_from way number (field_lines t)) none

not_true : (b : Bool) → (b ≡ false → b ≡ true → ⊥) → (b ≡ false → ⊥) → b ≡ true
not_true true both none = refl
not_true false both none = absurd (none refl)

pub is_quiet : (says : Bool) (fields : List (List ℕ)) → (IsTrue says → is_silent fields ≡ false) × (is_silent fields ≡ false → IsTrue says) → says ≡ false → is_silent fields ≡ true
is_quiet says fields means none = not_true (is_silent fields) (λ this that. false≢true (sym this ∙ that)) (λ speaks. false≢true (sym none ∙ means.1 speaks))

-- More bytes were taken, which are not looked at.
pub skips_more : (old mid new : Seen) (before between after : ReportLines) (block grown : List ℕ) → Leads (λ text next. Unit {0}) old before mid between → HasRoom after.blocks
    → GoesOnTaking mid between.blocks new after.blocks block grown → between.ended ≡ false → (after.ended ≡ true → IsAtEnd new.bytes) → Leads (λ text next. Unit {0}) old before new after
skips_more old mid new before between after block grown front room goes more end =
    leads_on (λ text next. Unit {0}) (λ text next. Unit {0}) (λ text next. Unit {0}) (λ text middle next here there. tt) old mid new before between after front
    (record {
      got = goes.0;
      room = room;
      taken = goes.2;
      ended = λ was. absurd (false≢true (sym more ∙ was));
      end = λ at. end;
      holds = λ later none. tt;
    })
