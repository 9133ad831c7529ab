-- A line that was read by its numbers is read as its fields are.
use Rattle.std.proofs.Common.{◌≡◌, ◌⊎◌, ℕ, ◌<◌, ◌^◌, min, refl, ap, ◌∙◌, arith, List, [], ◌∷◌, length, inl, inr}
use Rattle.std.specs.Prelude.{Option, Some, None, Ok, Err, codes}
use Rattle.std.specs.Option.{ok_or, option_map}
use Rattle.std.specs.Borrow.{Bor}
use Rattle.std.specs.Str.Lines.{strip_carriage_return}
use Rattle.ea_bytes.specs.Text.{number_of, fields_of}
use Rattle.ea_blocks.specs.Fault.{numeral}
use Rattle.ea_input.specs.Ahead.{ArcThen}
use Rattle.ea_input.specs.Graph.{GraphRead, arc_read, arc_of, arc_line, graph_line, numbers_line, after_said, graph_step}
use Rattle.ea_blocks.specs.Reading.{ReadsFront}
use Rattle.ea_blocks.specs.declared.fault.FaultKind.{FaultKind}
use Rattle.ea_blocks.specs.declared.fault.FaultKind.TheVariants.{BadNumber, OutOfMemory}
use Rattle.ea_input.specs.declared.graph.GraphSize.{GraphSize}

pub numeral_is : (field : List ℕ) (n : ℕ) → number_of field ≡ Some n → n < 2 ^ 64 → numeral field ≡ Ok n
unfolding numeral
numeral_is field n is small =
    let cut : min n (2 ^ 64) ≡ n = omega (arith, small) in
    ap (λ o. ok_or (option_map (λ m. min m (2 ^ 64)) o) BadNumber) is ∙ ap (λ k. Ok k) cut

arc_line_is : (size : Option GraphSize) (count : ℕ) (u v w : List ℕ) (tail head weight : ℕ) → numeral u ≡ Ok tail → numeral v ≡ Ok head → numeral w ≡ Ok weight → graph_line size count (codes "a" ∷ u ∷ v ∷ w ∷ []) ≡ numbers_line size count tail head weight
unfolding graph_line arc_line arc_of arc_read numbers_line
arc_line_is None count u v w tail head weight p q r = refl
arc_line_is (Some size) count u v w tail head weight p q r = rw (p, q, r) refl

-- What is said of a line that was read by its numbers, in the words of its fields.
pub line_is : (read : GraphRead) (text : List ℕ) (tail head weight : ℕ) (rest : List ℕ) (arc : ArcThen text tail head weight rest) → graph_step read (fields_of (strip_carriage_return arc.line)) ≡ after_said read (numbers_line read.size (length read.arcs) tail head weight)
unfolding graph_step
line_is read text tail head weight rest arc =
    ap (λ fields. after_said read (graph_line read.size (length read.arcs) fields)) arc.fields
    ∙ ap (after_said read) (arc_line_is read.size (length read.arcs) arc.tail_field arc.head_field arc.weight_field tail head weight
    (numeral_is arc.tail_field tail arc.tail_is.0 arc.tail_is.1) (numeral_is arc.head_field head arc.head_is.0 arc.head_is.1) (numeral_is arc.weight_field weight arc.weight_is.0 arc.weight_is.1))

-- The line of these numbers at the front of a text was read.
pub reads_front : (read after : GraphRead) (text : List ℕ) (tail head weight : ℕ) (rest : Bor (List ℕ)) → ArcThen text tail head weight rest.now → after_said read (numbers_line read.size (length read.arcs) tail head weight) ≡ Ok after → ReadsFront graph_step text read after (Ok rest)
reads_front read after text tail head weight rest arc said = (arc.line, arc.cut, arc.shorter, line_is read text tail head weight rest.now arc ∙ said)

pub refuses_front : (read after : GraphRead) (text : List ℕ) (tail head weight : ℕ) (rest : List ℕ) (kind : FaultKind) → ArcThen text tail head weight rest → (kind ≡ OutOfMemory) ⊎ (after_said read (numbers_line read.size (length read.arcs) tail head weight) ≡ Err kind) → ReadsFront graph_step text read after (Err kind)
refuses_front read after text tail head weight rest kind arc (inl refused) = (arc.line, rest, arc.cut, inl refused)
refuses_front read after text tail head weight rest kind arc (inr said) = (arc.line, rest, arc.cut, inr (line_is read text tail head weight rest arc ∙ said))
