-- The report of an answer, as lines that are read.
use Rattle.std.proofs.Common.{◌≡◌, ◌≢◌, ◌∙◌, refl, ℕ, zero, suc, ◌+◌, ◌-◌, ◌^◌, ◌<◌, ◌≤◌, ◌==◌, Bool, true, false, cond, List, [], ◌∷◌, ◌++◌, length, map, take, get_or, inl, inr, arith, ap, sym, subst, append_assoc, eqb-true}
use Rattle.std.proofs.lemmas.Bool.{ne_eqb, eqb-false}
use Rattle.std.proofs.lemmas.List.{append-nil}
use Rattle.std.specs.Prelude.{Some, None, codes, decimal, if◌then◌else◌, slice_get, Ok}
use Rattle.std.specs.List.{onto_first, flat_map}
use Rattle.std.specs.Str.Lines.{strip_carriage_return}
use Rattle.ea_bytes.specs.Text.{lines_of, is_blank, fields_of, field_lines, is_comment}
use Rattle.ea_bytes.specs.Text.{number_of}
use Rattle.ea_base.specs.declared.direction.Direction.TheVariants.{Forward}
use Rattle.ea_base.specs.declared.limits.TheConstants.{HORIZON}
use Rattle.ea_road.specs.declared.TheConstants.{NONE}
use Rattle.ea_road.specs.declared.source.Source.{Source}
use Rattle.ea_road.specs.Labels.{label_of}
use Rattle.ea_road.specs.Labels.{time_of}
use Rattle.ea_road.specs.Levels.{IsCanonical}
use Rattle.ea_road.specs.Arrivals.{IsLeast, IsLeastAt}
use Rattle.ea_road.specs.Queries.{IsProblem}
use Rattle.ea_road.specs.Roads.{Roads, IsNode, IsNetwork}
use Rattle.ea_search.specs.Answers.{Answered, HasArrivals, walk_of}
use Rattle.ea_search.specs.Links.{linked_walk}
use Rattle.ea_report.specs.Report.{spaced, line, source_line, arrival_line, walk_line, walk_text, node_text, each_node}
use Rattle.ea_check.specs.Form.{Line, spoken_from, lines_of_report, AreShort, SaysProblems, no_problem, next_problem}
use Rattle.ea_check.specs.Checked.{IsChecked}
use Rattle.ea_check.specs.Places.{AreSmall}
use Rattle.ea_check.specs.Verdicts.{WrittenWalk, Said, IsRight}
use Rattle.ea_check.specs.Reads.{ReadsSources, ReadsNode, without_walk, and_walk, NoWalkNext, ReadsNodes, no_more, one_more, ReadsProblem}
use Rattle.ea_check.proofs.Composing.{front_problem, small_sources}
use Rattle.ea_check.proofs.Right.{all_from, node_of_said, time_of_some}
use Rattle.ea_check.proofs.BadLines.{number_written}
use Rattle.ea_check.proofs.Steps.{d_is_not_w}
use Rattle.ea_check.proofs.Fields.{Clear, IsField, AreFields, fields_line, number_field, arc_fields, arcs_written, short_canonical}

-- bytes that are neither a line feed nor a carriage return
abbrev pub Plain : List ℕ → Type 0
Plain [] = Unit {0}
Plain (b ∷ bs) = (b ≢ 10) × (b ≢ 13) × Plain bs

plain_of : (bs : List ℕ) → Clear bs → Plain bs
plain_of [] clear = tt
plain_of (b ∷ bs) clear = (clear.0, clear.1, plain_of bs clear.3)

plain_more : (first rest : List ℕ) → Plain first → Plain rest → Plain (first ++ rest)
plain_more [] rest this that = that
plain_more (b ∷ first) rest this that = (this.0, this.1, plain_more first rest this.2 that)

plain_fields : (fields : List (List ℕ)) → AreFields fields → Plain (flat_map spaced fields)
plain_fields [] are = tt
plain_fields (field ∷ fields) are =
    ((λ same. omega arith), (λ same. omega arith), plain_more field (flat_map spaced fields) (plain_of field are.0.clear) (plain_fields fields are.1))

feed_cut : (body rest : List ℕ) → Plain body → lines_of (body ++ 10 ∷ rest) ≡ body ∷ lines_of rest
feed_cut [] rest plain = refl
feed_cut (b ∷ bs) rest plain =
    ap (λ t. cond t ([] ∷ lines_of (bs ++ 10 ∷ rest)) (onto_first b (lines_of (bs ++ 10 ∷ rest)))) (ne_eqb b 10 plain.0) ∙ ap (onto_first b) (feed_cut bs rest plain.2)

no_return : (bs : List ℕ) (place : ℕ) → Plain bs → get_or bs place 0 ≢ 13
no_return [] place plain = λ same. omega arith
no_return (b ∷ bs) zero plain = plain.1
no_return (b ∷ bs) (suc place) plain = no_return bs place plain.2

kept : (bs : List ℕ) → Plain bs → strip_carriage_return bs ≡ bs
kept bs plain = ap (λ t. cond t (take (length bs - 1) bs) bs) (ne_eqb (get_or bs (length bs - 1) 0) 13 (no_return bs (length bs - 1) plain))

pub line_cut : (word : List ℕ) (fields : List (List ℕ)) (rest : List ℕ) → IsField word → AreFields fields → field_lines (line word fields ++ rest) ≡ (word ∷ fields) ∷ field_lines rest
line_cut word fields rest is are =
    let body : List ℕ = word ++ flat_map spaced fields in
    let plain = plain_more word (flat_map spaced fields) (plain_of word is.clear) (plain_fields fields are) in
    let joined : line word fields ++ rest ≡ body ++ 10 ∷ rest =
    append_assoc body (10 ∷ []) rest in
    ap field_lines joined ∙ ap (map (λ l. fields_of (strip_carriage_return l))) (feed_cut body rest plain) ∙ ap (λ (fs : List (List ℕ)). fs ∷ field_lines rest) (ap fields_of (kept body plain) ∙ fields_line word fields is are)

-- the lines of a text that begins with a written line
pub line_spoken : (word : List ℕ) (fields : List (List ℕ)) (rest : List ℕ) (number : ℕ) → IsField word → AreFields fields → is_comment word ≡ false → spoken_from Forward number (field_lines (line word fields ++ rest)) ≡ record { number = number; fields = word ∷ fields; way = Forward } ∷ spoken_from Forward (number + 1) (field_lines rest)
line_spoken word fields rest number is are loud =
    let here : Line = record { number = number; fields = word ∷ fields; way = Forward } in
    ap (spoken_from Forward number) (line_cut word fields rest is are) ∙ ap (λ t. cond t (spoken_from Forward (number + 1) (field_lines rest)) (here ∷ spoken_from Forward (number + 1) (field_lines rest))) loud

word_field : (b : ℕ) → b ≢ 10 → b ≢ 13 → is_blank b ≡ false → IsField (b ∷ [])
word_field b feed return blank = record { clear = (feed, return, blank, tt); some = omega arith }

s_field : IsField (codes "s")
s_field = word_field 115 (λ same. omega arith) (λ same. omega arith) refl

pub d_field : IsField (codes "d")
d_field = word_field 100 (λ same. omega arith) (λ same. omega arith) refl

w_field : IsField (codes "w")
w_field = word_field 119 (λ same. omega arith) (λ same. omega arith) refl

pub inf_field : IsField (codes "inf")
inf_field = record {
  clear = ((λ same. omega arith), (λ same. omega arith), refl, ((λ same. omega arith), (λ same. omega arith), refl, ((λ same. omega arith), (λ same. omega arith), refl, tt)));
  some = omega arith;
}

-- the lines of sources
pub sources_written : (sources : List Source) → AreSmall sources → (rest : List ℕ) (number : ℕ) → (next : ℕ) × ReadsSources sources (spoken_from Forward number (field_lines (flat_map source_line sources ++ rest))) (spoken_from Forward next (field_lines rest))
sources_written [] small rest number = (number, refl)
sources_written (source ∷ sources) small rest number =
    let on = sources_written sources small.2 rest (number + 1) in
    let fields : List (List ℕ) = decimal source.node ∷ decimal source.departure ∷ [] in
    let joined = append_assoc (source_line source) (flat_map source_line sources) rest in
    let lines = ap (λ (text : List ℕ). spoken_from Forward number (field_lines text)) joined ∙ line_spoken (codes "s") fields (flat_map source_line sources ++ rest) number s_field (number_field source.node small.0, (number_field source.departure small.1, tt)) refl in
    (on.0, subst (λ (ls : List Line). ReadsSources (source ∷ sources) ls (spoken_from Forward on.0 (field_lines rest))) (sym lines) ((refl, number_written source.node small.0, number_written source.departure small.1), on.1))

map_length : (arcs : List ℕ) → length (map decimal arcs) ≡ length arcs
map_length [] = refl
map_length (arc ∷ arcs) = ap suc (map_length arcs)

-- a node's lines
pub record NodeRead (walks : Bool) (node number : ℕ) (text rest : List ℕ) (label : ℕ) (linked : List ℕ) : Type 0 where
  pub said : Said
  pub next : ℕ
  pub reads : ReadsNode node said (spoken_from Forward number (field_lines text)) (spoken_from Forward next (field_lines rest))
  pub time : said.time ≡ label
  pub walk : (written : WrittenWalk) → said.walk ≡ Some written → (written.arcs ≡ linked) × (label ≢ NONE) × (walks ≡ true)

abbrev Quiet : List ℕ → Type 0
Quiet rest = (number : ℕ) → NoWalkNext (spoken_from Forward number (field_lines rest))

module _ (node : ℕ) (small : node < 2 ^ 64) where
  time_spoken : (fields : List (List ℕ)) (rest : List ℕ) (number : ℕ) → AreFields fields → spoken_from Forward number (field_lines (line (codes "d") fields ++ rest)) ≡ record { number = number; fields = codes "d" ∷ fields; way = Forward } ∷ spoken_from Forward (number + 1) (field_lines rest)
  time_spoken fields rest number are = line_spoken (codes "d") fields rest number d_field are refl

  quiet_time : (fields : List (List ℕ)) (rest : List ℕ) → AreFields fields → Quiet (line (codes "d") fields ++ rest)
  quiet_time fields rest are number = subst NoWalkNext (sym (time_spoken fields rest number are)) d_is_not_w

  no_arrival : (walks : Bool) (number : ℕ) (rest linked : List ℕ) → Quiet rest → NodeRead walks node number (line (codes "d") (decimal node ∷ codes "inf" ∷ []) ++ rest) rest NONE linked
  no_arrival walks number rest linked quiet =
      let fields : List (List ℕ) = decimal node ∷ codes "inf" ∷ [] in
      let here : Line = record { number = number; fields = codes "d" ∷ fields; way = Forward } in
      let said : Said = record { line = number; time = NONE; walk = None } in
      let reads : ReadsNode node said (here ∷ spoken_from Forward (number + 1) (field_lines rest)) (spoken_from Forward (number + 1) (field_lines rest)) =
      without_walk (refl, number_written node small, inl (refl, refl)) refl refl (λ has. absurd (has refl)) in
      record {
        said = said;
        next = number + 1;
        reads = subst (λ (ls : List Line). ReadsNode node said ls (spoken_from Forward (number + 1) (field_lines rest))) (sym (time_spoken fields rest number (number_field node small, (inf_field, tt)))) reads;
        time = refl;
        walk = λ written same. cc;
      }

  module _ (label : ℕ) (within : label ≤ HORIZON) where
    arrival_fields : AreFields (decimal node ∷ decimal label ∷ [])
    arrival_fields = (number_field node small, (number_field label (omega arith), tt))

    arrival_alone : (walks : Bool) (number : ℕ) (rest linked : List ℕ) → Quiet rest → NodeRead walks node number (line (codes "d") (decimal node ∷ decimal label ∷ []) ++ rest) rest label linked
    arrival_alone walks number rest linked quiet =
        let fields : List (List ℕ) = decimal node ∷ decimal label ∷ [] in
        let here : Line = record { number = number; fields = codes "d" ∷ fields; way = Forward } in
        let said : Said = record { line = number; time = label; walk = None } in
        let reads : ReadsNode node said (here ∷ spoken_from Forward (number + 1) (field_lines rest)) (spoken_from Forward (number + 1) (field_lines rest)) =
        without_walk (refl, number_written node small, inr (number_written label (omega arith), within)) refl refl (λ has. quiet (number + 1)) in
        record {
          said = said;
          next = number + 1;
          reads = subst (λ (ls : List Line). ReadsNode node said ls (spoken_from Forward (number + 1) (field_lines rest))) (sym (time_spoken fields rest number arrival_fields)) reads;
          time = refl;
          walk = λ written same. cc;
        }

    arrival_walk : (number : ℕ) (rest linked : List ℕ) → AreShort linked → length linked < 2 ^ 64 → NodeRead true node number (line (codes "d") (decimal node ∷ decimal label ∷ []) ++ (walk_line node linked ++ rest)) rest label linked
    arrival_walk number rest linked short long =
        let fields : List (List ℕ) = decimal node ∷ decimal label ∷ [] in
        let walked : List (List ℕ) = decimal node ∷ decimal (length linked) ∷ map decimal linked in
        let here : Line = record { number = number; fields = codes "d" ∷ fields; way = Forward } in
        let behind : Line = record { number = number + 1; fields = codes "w" ∷ walked; way = Forward } in
        let walk : WrittenWalk = record { line = number + 1; arcs = linked } in
        let said : Said = record { line = number; time = label; walk = Some walk } in
        let others : List Line = spoken_from Forward (number + 1 + 1) (field_lines rest) in
        let counted : number_of (decimal (length linked)) ≡ Some (length (map decimal linked)) = number_written (length linked) long ∙ ap (λ n. Some n) (sym (map_length linked)) in
        let reads : ReadsNode node said (here ∷ behind ∷ others) others =
        and_walk (refl, number_written node small, inr (number_written label (omega arith), within)) (λ none. omega arith) refl refl refl (refl, number_written node small, counted, arcs_written linked short) in
        let lines = time_spoken fields (walk_line node linked ++ rest) number arrival_fields ∙ ap (λ (ls : List Line). here ∷ ls) (line_spoken (codes "w") walked rest (number + 1) w_field (number_field node small, (number_field (length linked) long, arc_fields linked short)) refl) in
        record {
          said = said;
          next = number + 1 + 1;
          reads = subst (λ (ls : List Line). ReadsNode node said ls others) (sym lines) reads;
          time = refl;
          walk = λ written same. let e : walk ≡ written = cc in (ap (λ (w : WrittenWalk). w.arcs) (sym e), (λ none. omega arith), refl);
        }

    -- with a walk or without, if there is a time
    arrival_node : (walks : Bool) (number : ℕ) (rest linked : List ℕ) → Quiet rest → (walks ≡ true → AreShort linked × (length linked < 2 ^ 64)) → NodeRead walks node number ((line (codes "d") (decimal node ∷ decimal label ∷ []) ++ (if walks then walk_line node linked else [])) ++ rest) rest label linked
    arrival_node true number rest linked quiet short =
        let here = short refl in
        subst (λ (text : List ℕ). NodeRead true node number text rest label linked) (sym (append_assoc (line (codes "d") (decimal node ∷ decimal label ∷ [])) (walk_line node linked) rest)) (arrival_walk number rest linked here.0 here.1)
    arrival_node false number rest linked quiet short =
        subst (λ (text : List ℕ). NodeRead false node number text rest label linked) (ap (λ (text : List ℕ). text ++ rest) (sym (append-nil (line (codes "d") (decimal node ∷ decimal label ∷ []))))) (arrival_alone false number rest linked quiet)

  nothing_node : (walks : Bool) (number : ℕ) (rest linked : List ℕ) → Quiet rest → NodeRead walks node number ((line (codes "d") (decimal node ∷ codes "inf" ∷ []) ++ (if walks then [] else [])) ++ rest) rest NONE linked
  nothing_node true number rest linked quiet =
      subst (λ (text : List ℕ). NodeRead true node number text rest NONE linked) (ap (λ (text : List ℕ). text ++ rest) (sym (append-nil (line (codes "d") (decimal node ∷ codes "inf" ∷ []))))) (no_arrival true number rest linked quiet)
  nothing_node false number rest linked quiet =
      subst (λ (text : List ℕ). NodeRead false node number text rest NONE linked) (ap (λ (text : List ℕ). text ++ rest) (sym (append-nil (line (codes "d") (decimal node ∷ codes "inf" ∷ []))))) (no_arrival false number rest linked quiet)

-- the conditions for writing an answer
pub record CanWrite (walks : Bool) (answer : Answered) (node : ℕ) : Type 0 where
  pub within : label_of answer.labels node ≢ NONE → label_of answer.labels node ≤ HORIZON
  pub short : label_of answer.labels node ≢ NONE → walks ≡ true → AreShort (linked_walk answer.links node) × (length (linked_walk answer.links node) < 2 ^ 64)

node_written : (walks : Bool) (answer : Answered) (node : ℕ) → node < 2 ^ 64 → CanWrite walks answer node → (number : ℕ) (rest : List ℕ) → Quiet rest → NodeRead walks node number (node_text walks answer node ++ rest) rest (label_of answer.labels node) (linked_walk answer.links node)
node_written walks answer node small can number rest quiet = by_test (label_of answer.labels node == NONE) refl
  where
    by_test : (none : Bool) → (label_of answer.labels node == NONE) ≡ none → NodeRead walks node number ((arrival_line node (if none then None else Some (label_of answer.labels node)) ++ (if walks then walk_text node (if none then None else Some (linked_walk answer.links node)) else [])) ++ rest) rest (label_of answer.labels node) (linked_walk answer.links node)
    by_test true same =
        let label = eqb-true (label_of answer.labels node) NONE same in
        subst (λ l. NodeRead walks node number ((line (codes "d") (decimal node ∷ codes "inf" ∷ []) ++ (if walks then [] else [])) ++ rest) rest l (linked_walk answer.links node)) (sym label) (nothing_node node small walks number rest (linked_walk answer.links node) quiet)
    by_test false differs =
        let some : label_of answer.labels node ≢ NONE = eqb-false (label_of answer.labels node) NONE differs in
        arrival_node node small (label_of answer.labels node) (can.within some) walks number rest (linked_walk answer.links node) quiet (can.short some)

quiet_node : (walks : Bool) (answer : Answered) (node : ℕ) → node < 2 ^ 64 → CanWrite walks answer node → (rest : List ℕ) → Quiet (node_text walks answer node ++ rest)
quiet_node walks answer node small can rest = by_test (label_of answer.labels node == NONE) refl
  where
    behind : Bool → List ℕ
    behind none = if walks then walk_text node (if none then None else Some (linked_walk answer.links node)) else []

    by_test : (none : Bool) → (label_of answer.labels node == NONE) ≡ none → Quiet ((arrival_line node (if none then None else Some (label_of answer.labels node)) ++ (if walks then walk_text node (if none then None else Some (linked_walk answer.links node)) else [])) ++ rest)
    by_test true same number =
        subst (λ (text : List ℕ). NoWalkNext (spoken_from Forward number (field_lines text))) (sym (append_assoc (line (codes "d") (decimal node ∷ codes "inf" ∷ [])) (if walks then [] else []) rest)) (quiet_time node small (decimal node ∷ codes "inf" ∷ []) ((if walks then [] else []) ++ rest) (number_field node small, (inf_field, tt)) number)
    by_test false differs number =
        let some : label_of answer.labels node ≢ NONE = eqb-false (label_of answer.labels node) NONE differs in
        subst (λ (text : List ℕ). NoWalkNext (spoken_from Forward number (field_lines text))) (sym (append_assoc (line (codes "d") (decimal node ∷ decimal (label_of answer.labels node) ∷ [])) (if walks then walk_line node (linked_walk answer.links node) else []) rest)) (quiet_time node small (decimal node ∷ decimal (label_of answer.labels node) ∷ []) ((if walks then walk_line node (linked_walk answer.links node) else []) ++ rest) (arrival_fields node small (label_of answer.labels node) (can.within some)) number)

-- the texts of nodes, from one on
from_node : (ℕ → List ℕ) → ℕ → ℕ → List ℕ
from_node text node zero = []
from_node text node (suc count) = text node ++ from_node text (node + 1) count

from_more : (text : ℕ → List ℕ) (count node : ℕ) → from_node text node (suc count) ≡ from_node text node count ++ text (node + count)
unfolding from_node
from_more text zero node =
    let same : node + 0 ≡ node = omega arith in
    append-nil (text node) ∙ ap text (sym same)
from_more text (suc count) node =
    let same : node + 1 + count ≡ node + suc count = omega arith in
    ap (λ (t : List ℕ). text node ++ t) (from_more text count (node + 1)) ∙ sym (append_assoc (text node) (from_node text (node + 1) count) (text (node + 1 + count))) ∙ ap (λ n. (text node ++ from_node text (node + 1) count) ++ text n) same

all_nodes : (text : ℕ → List ℕ) (count : ℕ) → each_node text count ≡ from_node text 1 count
unfolding from_node
all_nodes text zero = refl
all_nodes text (suc count) =
    let same : suc count ≡ 1 + count = omega arith in
    ap (λ (t : List ℕ). t ++ text (suc count)) (all_nodes text count) ∙ ap (λ n. from_node text 1 count ++ text n) same ∙ sym (from_more text count 1)

record NodesRead (walks : Bool) (answer : Answered) (node count number : ℕ) (text : List ℕ) : Type 0 where
  pub reported : List Said
  pub next : ℕ
  pub reads : ReadsNodes node reported (spoken_from Forward number (field_lines text)) (spoken_from Forward next [])
  pub each_node : length reported ≡ count
  pub time : (place : ℕ) (said : Said) → slice_get reported place ≡ Some said → said.time ≡ label_of answer.labels (node + place)
  pub walk : (place : ℕ) (said : Said) (written : WrittenWalk) → slice_get reported place ≡ Some said → said.walk ≡ Some written → (written.arcs ≡ linked_walk answer.links (node + place)) × (label_of answer.labels (node + place) ≢ NONE) × (walks ≡ true)

module _ (walks : Bool) (answer : Answered) where
  quiet_nodes : (count node : ℕ) → node + count < 2 ^ 64 → ((other : ℕ) → other < node + count → node ≤ other → CanWrite walks answer other) → Quiet (from_node (node_text walks answer) node count)
  unfolding from_node
  quiet_nodes zero node small can number = tt
  quiet_nodes (suc count) node small can number =
      quiet_node walks answer node (omega arith) (can node (omega arith) (omega arith)) (from_node (node_text walks answer) (node + 1) count) number

  nodes_written : (count node number : ℕ) → node + count < 2 ^ 64 → ((other : ℕ) → other < node + count → node ≤ other → CanWrite walks answer other) → NodesRead walks answer node count number (from_node (node_text walks answer) node count)
  unfolding from_node
  nodes_written zero node number small can = record {
    reported = [];
    next = number;
    reads = no_more;
    each_node = refl;
    time = λ place said found. cc;
    walk = λ place said written found some. cc;
  }
  nodes_written (suc count) node number small can =
      let text = node_text walks answer in
      let later : (other : ℕ) → other < node + 1 + count → node + 1 ≤ other → CanWrite walks answer other = λ other low high. can other (omega arith) (omega arith) in
      let here = node_written walks answer node (omega arith) (can node (omega arith) (omega arith)) number (from_node text (node + 1) count) (quiet_nodes count (node + 1) (omega arith) later) in
      let on = nodes_written count (node + 1) here.next (omega arith) later in
      record {
        reported = here.said ∷ on.reported;
        next = on.next;
        reads = one_more here.reads on.reads;
        each_node = ap suc on.each_node;
        time = time_at here on;
        walk = walk_at here on;
      }
    where
      time_at : (here : NodeRead walks node number (node_text walks answer node ++ from_node (node_text walks answer) (node + 1) count) (from_node (node_text walks answer) (node + 1) count) (label_of answer.labels node) (linked_walk answer.links node)) (on : NodesRead walks answer (node + 1) count here.next (from_node (node_text walks answer) (node + 1) count)) (place : ℕ) (said : Said) → slice_get (here.said ∷ on.reported) place ≡ Some said → said.time ≡ label_of answer.labels (node + place)
      time_at here on zero said found =
          let first : here.said ≡ said = cc in
          let same : node + 0 ≡ node = omega arith in
          ap (λ (s : Said). s.time) (sym first) ∙ here.time ∙ ap (label_of answer.labels) (sym same)
      time_at here on (suc place) said found =
          let same : node + 1 + place ≡ node + suc place = omega arith in
          on.time place said found ∙ ap (label_of answer.labels) same

      walk_at : (here : NodeRead walks node number (node_text walks answer node ++ from_node (node_text walks answer) (node + 1) count) (from_node (node_text walks answer) (node + 1) count) (label_of answer.labels node) (linked_walk answer.links node)) (on : NodesRead walks answer (node + 1) count here.next (from_node (node_text walks answer) (node + 1) count)) (place : ℕ) (said : Said) (written : WrittenWalk) → slice_get (here.said ∷ on.reported) place ≡ Some said → said.walk ≡ Some written → (written.arcs ≡ linked_walk answer.links (node + place)) × (label_of answer.labels (node + place) ≢ NONE) × (walks ≡ true)
      walk_at here on zero said written found some =
          let first : here.said ≡ said = cc in
          let same : node + 0 ≡ node = omega arith in
          let walk = here.walk written (ap (λ (s : Said). s.walk) first ∙ some) in
          (walk.0 ∙ ap (linked_walk answer.links) (sym same), subst (λ n. label_of answer.labels n ≢ NONE) (sym same) walk.1, walk.2)
      walk_at here on (suc place) said written found some =
          let same : node + 1 + place ≡ node + suc place = omega arith in
          let walk = on.walk place said written found some in
          (walk.0 ∙ ap (linked_walk answer.links) same, subst (λ n. label_of answer.labels n ≢ NONE) same walk.1, walk.2)

module _
    (roads : Roads)
    (answers : ℕ → ℕ → ℕ → ℕ → Type 0)
    (classes : ℕ)
    (sources : List Source)
    (network : IsNetwork roads)
    (problem : IsProblem roads classes (all_from sources))
    (walks : Bool)
    (answer : Answered)
    (has : HasArrivals roads answers (all_from sources) answer)
    (canonical : walks ≡ true → (node : ℕ) (walk : List ℕ) → IsNode roads.nodes node → walk_of answer node ≡ Some walk → IsCanonical roads answers sources (IsLeastAt roads answers sources) node walk)
    (bounded : walks ≡ true → (node : ℕ) (walk : List ℕ) → walk_of answer node ≡ Some walk → length walk < 2 ^ 64)
  where
    some_walk : (node : ℕ) → label_of answer.labels node ≢ NONE → walk_of answer node ≡ Some (linked_walk answer.links node)
    some_walk node some = ap (λ t. cond t None (Some (linked_walk answer.links node))) (ne_eqb (label_of answer.labels node) NONE some)

    can_write : (node : ℕ) → node < 1 + roads.nodes → 1 ≤ node → CanWrite walks answer node
    can_write node low high =
        let is_node : IsNode roads.nodes node = record { from_one = omega arith; to_last = omega arith } in
        record {
          within = λ some.
              let least = subst (λ t. IsLeast roads answers sources node t) (time_of_some (label_of answer.labels node) some) (has.least node is_node tt) in
              least.0.within;
          short = λ some asked.
              let walk = some_walk node some in
              (short_canonical roads answers sources (IsLeastAt roads answers sources) network (canonical asked node (linked_walk answer.links node) is_node walk), bounded asked node (linked_walk answer.links node) walk);
        }

    pub written_checked : IsChecked roads answers (sources ∷ []) (lines_of_report (flat_map source_line sources ++ each_node (node_text walks answer) roads.nodes)) (Ok tt)
    written_checked =
        let few = network.nodes_limit in
        let rest : List ℕ = each_node (node_text walks answer) roads.nodes in
        let small = small_sources roads.nodes sources (omega arith) (λ source among. (problem.sources source among, problem.departures source among)) in
        let first = sources_written sources small rest 1 in
        let nodes = nodes_written walks answer roads.nodes 1 first.0 (omega arith) can_write in
        let reads : ReadsProblem roads.nodes sources nodes.reported (lines_of_report (flat_map source_line sources ++ rest)) [] = record {
          middle = spoken_from Forward first.0 (field_lines rest);
          of_sources = first.1;
          of_nodes = subst (λ (t : List ℕ). ReadsNodes 1 nodes.reported (spoken_from Forward first.0 (field_lines t)) []) (sym (all_nodes (node_text walks answer) roads.nodes)) nodes.reads;
          each_node = nodes.each_node;
        } in
        let front = front_problem reads in
        let right : IsRight roads answers sources nodes.reported = record {
          least = λ node said is_said.
              let is_node = node_of_said roads.nodes nodes.reported node said nodes.each_node is_said in
              let some = is_node.from_one in
              let same : 1 + (node - 1) ≡ node = omega arith in
              let time = nodes.time (node - 1) said is_said.1 ∙ ap (label_of answer.labels) same in
              subst (λ t. IsLeast roads answers sources node (time_of t)) (sym time) (has.least node is_node tt);
          walks = λ node said written is_said some.
              let is_node = node_of_said roads.nodes nodes.reported node said nodes.each_node is_said in
              let one = is_node.from_one in
              let same : 1 + (node - 1) ≡ node = omega arith in
              let walk = nodes.walk (node - 1) said written is_said.1 some in
              let reached = subst (λ n. label_of answer.labels n ≢ NONE) same walk.1 in
              subst (λ (w : List ℕ). IsCanonical roads answers sources (IsLeastAt roads answers sources) node w) (sym (walk.0 ∙ ap (linked_walk answer.links) same)) (canonical walk.2 node (linked_walk answer.links node) is_node (some_walk node reached));
        } in
        (nodes.reported ∷ [], subst (λ (ls : List Line). SaysProblems roads.nodes (sources ∷ []) (nodes.reported ∷ []) ls) (sym front.cut) (next_problem front.says no_problem), (right, tt))
