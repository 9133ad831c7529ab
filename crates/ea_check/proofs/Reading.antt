-- What the lines that are read say, step by step.
use Rattle.std.proofs.Common.{◌≡◌, ◌≢◌, ◌∙◌, refl, ℕ, ◌+◌, ◌<◌, List, [], ◌∷◌, length, drop, get_or, ap, sym, subst, inl, inr}
use Rattle.std.proofs.Math.Numerals.{add-one}
use Rattle.std.proofs.Math.Seq.{drop-cons}
use Rattle.std.specs.Prelude.{Option, Some, None}
use Rattle.ea_road.specs.declared.source.Source.{Source}
use Rattle.ea_road.specs.declared.TheConstants.{NONE}
use Rattle.ea_check.specs.declared.fault.CheckFault.{CheckFault}
use Rattle.ea_check.specs.declared.fault.CheckFault.TheVariants.{BadLine, NotAttained, NotLeast, OutOfMemory, NotCanonical}
use Rattle.ea_check.specs.Verdicts.{WrittenWalk}
use Rattle.ea_check.specs.Form.{Line, IsWalkLine, SaysSource, SaysTime, SaysWalk}
use Rattle.ea_check.specs.Streams.{found_then}
use Rattle.ea_check.specs.Reads.{ReadsSources, SourcesWrong, IsWrong, NoWalkNext, ReadsWalk, WalkWrong, ReadsNode, without_walk, and_walk, NodeWrong, no_line, no_time, no_such_walk}

-- The lines of the first sources were read: what holds of those that are left holds of all.
pub record SourcesLeft (sources left : List Source) (lines next : List Line) : Type 0 where
  pub reads : (others : List Line) → ReadsSources left next others → ReadsSources sources lines others
  pub wrong : (number : ℕ) → SourcesWrong left next number → SourcesWrong sources lines number

next_source : (sources rest : List Source) (source : Source) (lines next others : List Line) → SourcesLeft sources (source ∷ rest) lines next → ReadsSources (source ∷ []) next others → SourcesLeft sources rest lines others
next_source sources rest source lines [] others left here = absurd here
next_source sources rest source lines (line ∷ next) others left here = record {
  reads = λ last reads. left.reads last (here.0, subst (λ (ls : List Line). ReadsSources rest ls last) (sym here.1) reads);
  wrong = λ number wrong. left.wrong number (inr (here.0, subst (λ (ls : List Line). SourcesWrong rest ls number) (sym here.1) wrong));
}

abbrev pub no_source : Source
no_source = record { node = 0; departure = 0 }

module _ (sources : List Source) (place : ℕ) (inside : place < length sources) (lines next : List Line) where
  abbrev source : Source
  source = get_or sources place no_source

  here : drop place sources ≡ source ∷ drop (place + 1) sources
  here =
      let parts = drop-cons sources place no_source inside in
      parts ∙ ap (λ n. source ∷ drop n sources) (sym (add-one place))

  pub source_more : (others : List Line) → SourcesLeft sources (drop place sources) lines next → ReadsSources (source ∷ []) next others → SourcesLeft sources (drop (place + 1) sources) lines others
  source_more others left read = next_source sources (drop (place + 1) sources) source lines next others (subst (λ (ss : List Source). SourcesLeft sources ss lines next) here left) read

  only : (rest : List Source) (next : List Line) (number : ℕ) → SourcesWrong (source ∷ []) next number → SourcesWrong (source ∷ rest) next number
  only rest [] number wrong = wrong
  only rest (line ∷ next) number (inl wrong) = inl wrong
  only rest (line ∷ next) number (inr wrong) = absurd wrong.1

  pub source_wrong : SourcesLeft sources (drop place sources) lines next → (number : ℕ) → SourcesWrong (source ∷ []) next number → SourcesWrong sources lines number
  source_wrong left number wrong = left.wrong number (subst (λ (ss : List Source). SourcesWrong ss next number) (sym here) (only (drop (place + 1) sources) next number wrong))

-- a walk is read, or there is none
module _ (node : ℕ) (found : Option Line) (behind : List Line) where
  pub walk_missing : found ≡ None → ReadsWalk node None (found_then found behind) (found_then found behind)
  walk_missing none = rw none (refl, tt)

  pub walk_none : (line : Line) → found ≡ Some line → (IsWalkLine line.fields → ⊥) → ReadsWalk node None (found_then found behind) (found_then found behind)
  walk_none line is other = rw is (refl, other)

  pub walk_read : (line : Line) (arcs : List ℕ) (others : List Line) → found ≡ Some line → SaysWalk line.way line.fields node arcs → behind ≡ others → ReadsWalk node (Some (record { line = line.number; arcs = arcs })) (found_then found behind) others
  walk_read line arcs others is says same = rw is (refl, says, same)

  pub walk_other : (line : Line) → found ≡ Some line → IsWalkLine line.fields → ((arcs : List ℕ) → SaysWalk line.way line.fields node arcs → ⊥) → WalkWrong node (found_then found behind) line.number
  walk_other line is begins none = rw is (refl, begins, none)

module _ (node : ℕ) (found : Option Line) (behind : List Line) where
  pub node_missing : found ≡ None → NodeWrong node (found_then found behind) 0
  node_missing none = rw none no_line

  module _ (line : Line) (is : found ≡ Some line) where
    pub node_untimed : ((time : ℕ) → SaysTime line.way line.fields node time → ⊥) → NodeWrong node (found_then found behind) line.number
    node_untimed none = rw is (no_time {line = line} none)

    module _ (time : ℕ) (says : SaysTime line.way line.fields node time) where
      pub node_alone : (others : List Line) → time ≡ NONE → others ≡ behind → ReadsNode node (record { line = line.number; time = time; walk = None }) (found_then found behind) others
      node_alone others none same =
          let here : ReadsNode node (record { line = line.number; time = time; walk = None }) (line ∷ behind) behind = without_walk says refl refl (λ some. absurd (some none)) in
          rw (is, same) here

      node_with : (walk : Option WrittenWalk) (middle others : List Line) → time ≢ NONE → ReadsWalk node walk middle others → ReadsNode node (record { line = line.number; time = time; walk = walk }) (line ∷ middle) others
      node_with None middle others some reads =
          subst (λ (ls : List Line). ReadsNode node (record { line = line.number; time = time; walk = None }) (line ∷ ls) others) (sym reads.0) (without_walk says refl refl (λ has. subst NoWalkNext reads.0 reads.1))
      node_with (Some walk) [] others some reads = absurd reads
      node_with (Some walk) (next ∷ middle) others some reads =
          subst (λ (ls : List Line). ReadsNode node (record { line = line.number; time = time; walk = Some walk }) (line ∷ next ∷ ls) others) (sym reads.2) (and_walk says some refl refl reads.0 reads.1)

      pub node_read : (walk : Option WrittenWalk) (middle others : List Line) → time ≢ NONE → middle ≡ behind → ReadsWalk node walk middle others → ReadsNode node (record { line = line.number; time = time; walk = walk }) (found_then found behind) others
      node_read walk middle others some same reads =
          let here = subst (λ (ls : List Line). ReadsNode node (record { line = line.number; time = time; walk = walk }) (line ∷ ls) others) same (node_with walk middle others some reads) in
          rw is here

      node_walk : (middle : List Line) (number : ℕ) → time ≢ NONE → WalkWrong node middle number → NodeWrong node (line ∷ middle) number
      node_walk [] number some wrong = absurd wrong
      node_walk (next ∷ middle) number some wrong =
          subst (λ n. NodeWrong node (line ∷ next ∷ middle) n) (sym wrong.0) (no_such_walk time says some wrong.1 wrong.2)

      pub walk_bad : (middle : List Line) (number : ℕ) → time ≢ NONE → middle ≡ behind → WalkWrong node middle number → NodeWrong node (found_then found behind) number
      walk_bad middle number some same wrong =
          let here = subst (λ (ls : List Line). NodeWrong node (line ∷ ls) number) same (node_walk middle number some wrong) in
          rw is here

-- what is bad for a part is bad for the whole
pub wrong_more : (Part Whole : ℕ → Type 0) (fault : CheckFault) → ((number : ℕ) → Part number → Whole number) → IsWrong Part fault → IsWrong Whole fault
wrong_more Part Whole (BadLine number) more wrong = more number wrong
wrong_more Part Whole OutOfMemory more wrong = tt
wrong_more Part Whole (NotAttained number) more wrong = wrong
wrong_more Part Whole (NotLeast number) more wrong = wrong
wrong_more Part Whole (NotCanonical number) more wrong = wrong

-- the line of a source
pub source_missing : (source : Source) (found : Option Line) (behind : List Line) → found ≡ None → SourcesWrong (source ∷ []) (found_then found behind) 0
source_missing source None behind none = refl
source_missing source (Some line) behind none = cc

pub source_other : (source : Source) (found : Option Line) (behind : List Line) (line : Line) → found ≡ Some line → (SaysSource line.way line.fields source.node source.departure → ⊥) → SourcesWrong (source ∷ []) (found_then found behind) line.number
source_other source found behind line is says =
    subst (λ (f : Option Line). SourcesWrong (source ∷ []) (found_then f behind) line.number) (sym is) (inl (refl, says))
