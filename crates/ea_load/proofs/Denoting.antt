-- What texts denote is within the limits of networks and timetables.
use Rattle.std.proofs.Common.{◌≡◌, ℕ, zero, suc, ◌+◌, ◌-◌, ◌^◌, ◌<◌, ◌≤◌, ◌==◌, List, [], ◌∷◌, ◌++◌, length, get_or, cond, Bool, true, false, ap, sym, arith, subst, inl, inr}
use Rattle.std.specs.Prelude.{All, codes, Option, Some, None, slice_get, unwrap_or}
use Rattle.std.proofs.lemmas.Option.{none-some}
use Rattle.ea_road.proofs.Assigning.{length-arcs_from}
use Rattle.ea_base.specs.declared.graph.RawArc.{RawArc}
use Rattle.ea_input.specs.Graph.{Graph, DenotesGraph, IsArcLine, AreArcLines, IsProblemLine}
use Rattle.ea_input.specs.Listing.{IsCountLine, IsItemLine, AreItemLines, any_count, this_count}
use Rattle.ea_input.specs.Times.{DenotesTimes}
use Rattle.ea_input.specs.Sources.{IsSource, DenotesSources}
use Rattle.ea_input.specs.Pairs.{IsPair, DenotesPairs}
use Rattle.ea_input.specs.Table.{Table, nothing, IsAssignedLine, IsTableAfter, AreTableLines}
use Rattle.ea_road.specs.declared.arc.Arc.{Arc}
use Rattle.ea_road.specs.Roads.{IsNode, IsArc, FitsNodes, IsNetwork, top_class}
use Rattle.ea_road.specs.Assigned.{class_after, arcs_from, arcs_with}
use Rattle.ea_travel_times.specs.Timetables.{AreFit}
use Rattle.ea_load.proofs.Stepping.{kinds_fit, nothing_fits}
use Rattle.ea_load.specs.Given.{Given, IsTableOf}
use Rattle.ea_load.specs.Sound.{IsSound}

-- ---- arcs

-- A raw arc's ends are nodes, and its weight has 32 bits.
record FitsRaw (nodes : ℕ) (raw : RawArc) : Type 0 where
  tail : IsNode nodes raw.tail
  head : IsNode nodes raw.head
  weight : raw.weight < 2 ^ 32

arc_fits : (nodes : ℕ) (line : List (List ℕ)) (raw : RawArc) → IsArcLine nodes line raw → FitsRaw nodes raw
arc_fits nodes [] raw h = absurd h
arc_fits nodes (a ∷ []) raw h = absurd h
arc_fits nodes (a ∷ b ∷ []) raw h = absurd h
arc_fits nodes (a ∷ b ∷ c ∷ []) raw h = absurd h
arc_fits nodes (a ∷ b ∷ c ∷ d ∷ e ∷ rest) raw h = absurd h
arc_fits nodes (a ∷ u ∷ v ∷ w ∷ []) raw h = record {
  tail = record { from_one = h.1.1; to_last = h.1.2 };
  head = record { from_one = h.2.1; to_last = h.2.2 };
  weight = omega (arith, h.3.2);
}

arcs_fit : (nodes : ℕ) (lines : List (List (List ℕ))) (arcs : List RawArc) → AreArcLines nodes lines arcs → (k : ℕ) (d : RawArc) → k < length arcs → FitsRaw nodes (get_or arcs k d)
arcs_fit nodes [] [] h k d lt = absurd (omega arith)
arcs_fit nodes [] (arc ∷ arcs) h k d lt = absurd h
arcs_fit nodes (line ∷ lines) [] h k d lt = absurd h
arcs_fit nodes (line ∷ lines) (arc ∷ arcs) h zero d lt = arc_fits nodes line arc h.0
arcs_fit nodes (line ∷ lines) (arc ∷ arcs) h (suc k) d lt = arcs_fit nodes lines arcs h.1 k d (omega arith)

-- The arc at a place has the ends and the weight of the raw arc there.
arc_at : (nodes : ℕ) (assigned : List (ℕ × ℕ)) (first : ℕ) (raw : List RawArc) → ((k : ℕ) (d : RawArc) → k < length raw → FitsRaw nodes (get_or raw k d))
    → (k : ℕ) (arc : Arc) → slice_get (arcs_from assigned first raw) k ≡ Some arc → FitsNodes nodes arc
arc_at nodes assigned first [] fits k arc found = absurd (none-some _ found)
arc_at nodes assigned first (r ∷ rest) fits zero arc found = subst (FitsNodes nodes) (ap (λ o. unwrap_or o arc) found) (record { tail = (fits 0 r (omega arith)).tail; head = (fits 0 r (omega arith)).head; weight = (fits 0 r (omega arith)).weight })
arc_at nodes assigned first (r ∷ rest) fits (suc k) arc found = arc_at nodes assigned (first + 1) rest (λ j d lt. fits (suc j) d (omega arith)) k arc found

arcs_within : (nodes : ℕ) (assigned : List (ℕ × ℕ)) (raw : List RawArc) → ((k : ℕ) (d : RawArc) → k < length raw → FitsRaw nodes (get_or raw k d)) → (number : ℕ) (arc : Arc) → IsArc (record { nodes = nodes; arcs = arcs_with assigned raw }) number arc → FitsNodes nodes arc
arcs_within nodes assigned raw fits number arc is_arc = arc_at nodes assigned 1 raw fits (number - 1) arc is_arc.found

nodes_in_limits : (line : List (List ℕ)) (nodes arcs : ℕ) → IsProblemLine line nodes arcs → (0 < nodes) × (nodes ≤ 67108864) × (arcs ≤ 268435456)
nodes_in_limits [] nodes arcs h = absurd h
nodes_in_limits (a ∷ []) nodes arcs h = absurd h
nodes_in_limits (a ∷ b ∷ []) nodes arcs h = absurd h
nodes_in_limits (a ∷ b ∷ c ∷ []) nodes arcs h = absurd h
nodes_in_limits (a ∷ b ∷ c ∷ d ∷ e ∷ rest) nodes arcs h = absurd h
nodes_in_limits (a ∷ b ∷ c ∷ d ∷ []) nodes arcs h = (omega (arith, h.2.1), h.2.2, h.3.2)

pub few_arcs : (lines : List (List (List ℕ))) (graph : Graph) → DenotesGraph lines graph → length graph.arcs ≤ 268435456
few_arcs lines graph denoted = (nodes_in_limits denoted.problem graph.nodes (length graph.arcs) denoted.announces).2

is_network : (lines : List (List (List ℕ))) (graph : Graph) (assigned : List (ℕ × ℕ)) → DenotesGraph lines graph → IsNetwork (record { nodes = graph.nodes; arcs = arcs_with assigned graph.arcs })
is_network lines graph assigned denoted =
    let limits = nodes_in_limits denoted.problem graph.nodes (length graph.arcs) denoted.announces in
    record {
      has_nodes = limits.0;
      nodes_limit = limits.1;
      arcs_limit = rw (length-arcs_from assigned 1 graph.arcs) limits.2;
      each_fits = arcs_within graph.nodes assigned graph.arcs (arcs_fit graph.nodes denoted.others graph.arcs denoted.lists);
    }

-- ---- entries

entry_fits : (arcs classes : ℕ) (line : List (List ℕ)) (entry : ℕ × ℕ) → IsAssignedLine arcs classes line entry → (0 < entry.0) × (entry.0 ≤ arcs) × (entry.1 ≤ classes)
entry_fits arcs classes [] entry h = absurd h
entry_fits arcs classes (a ∷ []) entry h = absurd h
entry_fits arcs classes (a ∷ b ∷ []) entry h = absurd h
entry_fits arcs classes (a ∷ b ∷ c ∷ d ∷ rest) entry h = absurd h
entry_fits arcs classes (a ∷ b ∷ c ∷ []) entry h = (omega (arith, h.1.1), h.1.2, h.2.2)

-- Each entry of a table.
abbrev EntriesFit : ℕ → ℕ → List (ℕ × ℕ) → Type 0
EntriesFit arcs classes assigned = (k : ℕ) (d : ℕ × ℕ) → k < length assigned → (0 < (get_or assigned k d).0) × ((get_or assigned k d).0 ≤ arcs) × ((get_or assigned k d).1 ≤ classes)

one_entry : (arcs classes : ℕ) (assigned : List (ℕ × ℕ)) (entry : ℕ × ℕ) → EntriesFit arcs classes assigned → (0 < entry.0) × (entry.0 ≤ arcs) × (entry.1 ≤ classes) → EntriesFit arcs classes (assigned ++ entry ∷ [])
one_entry arcs classes [] entry each fits zero d lt = fits
one_entry arcs classes [] entry each fits (suc k) d lt = absurd (omega (arith, lt))
one_entry arcs classes (first ∷ assigned) entry each fits zero d lt = each 0 d (omega arith)
one_entry arcs classes (first ∷ assigned) entry each fits (suc k) d lt = one_entry arcs classes assigned entry (λ j e inside. each (suc j) e (omega (arith, inside))) fits k d (omega (arith, lt))

entries_more : (arcs classes : ℕ) (table next : Table) (line : List (List ℕ)) → EntriesFit arcs classes table.assigned → IsTableAfter arcs classes table line next → EntriesFit arcs classes next.assigned
entries_more arcs classes table next line each (inl h) = subst (λ (t : Table). EntriesFit arcs classes t.assigned) (sym h.1.2) each
entries_more arcs classes table next line each (inr (inl h)) = subst (λ (t : Table). EntriesFit arcs classes t.assigned) (sym h.1.2) (one_entry arcs classes table.assigned h.1.0 each (entry_fits arcs classes line h.1.0 h.1.1))
entries_more arcs classes table next line each (inr (inr h)) = subst (λ (t : Table). EntriesFit arcs classes t.assigned) (sym h.1.2) each

entries_fit : (arcs classes : ℕ) (lines : List (List (List ℕ))) (table end : Table) → EntriesFit arcs classes table.assigned → AreTableLines arcs classes table lines end → EntriesFit arcs classes end.assigned
entries_fit arcs classes [] table end each are = subst (λ (t : Table). EntriesFit arcs classes t.assigned) are.0 each
entries_fit arcs classes (line ∷ lines) table end each are = entries_fit arcs classes lines are.0 end (entries_more arcs classes table are.0 line each are.1) are.2

-- The kinds with their steps, and the entries.
record TableFits (arcs : ℕ) (table : Table) : Type 0 where
  kinds : AreFit table.kinds table.steps
  entries : EntriesFit arcs (length table.kinds) table.assigned

no_entries : (arcs classes : ℕ) → EntriesFit arcs classes []
no_entries arcs classes k d lt = absurd (omega arith)

table_fits : (arcs : ℕ) (text : Option (List ℕ)) (table : Table) → IsTableOf arcs text table → TableFits arcs table
table_fits arcs None table h = subst (λ (t : Table). TableFits arcs t) (sym h) (record { kinds = nothing_fits; entries = no_entries arcs 0 })
table_fits arcs (Some text) table h = record {
  kinds = kinds_fit arcs (length table.kinds) h.others table h.lists;
  entries = entries_fit arcs (length table.kinds) h.others nothing table (no_entries arcs (length table.kinds)) h.lists;
}

-- ---- classes

class_below : (classes number : ℕ) (assigned : List (ℕ × ℕ)) (class : ℕ) → class ≤ classes → ((k : ℕ) (d : ℕ × ℕ) → k < length assigned → (get_or assigned k d).1 ≤ classes) → class_after assigned number class ≤ classes
class_below classes number [] class below each = below
class_below classes number (given ∷ rest) class below each = class_below classes number rest _ (either (given.0 == number)) (λ k d lt. each (suc k) d (omega arith)) where
  either : (b : Bool) → (cond b given.1 class) ≤ classes
  either true = each 0 given (omega arith)
  either false = below

top_below : (classes first : ℕ) (assigned : List (ℕ × ℕ)) (raw : List RawArc) → ((k : ℕ) (d : ℕ × ℕ) → k < length assigned → (get_or assigned k d).1 ≤ classes) → top_class (arcs_from assigned first raw) ≤ classes
top_below classes first assigned [] each = omega arith
top_below classes first assigned (r ∷ rest) each =
    let here = class_below classes first assigned 0 (omega arith) each in
    let there = top_below classes (first + 1) assigned rest each in
    omega (arith, here, there)

-- What texts denote is sound.
pub denoting_is_sound : (lines : List (List (List ℕ))) (tp : Option (List ℕ)) (given : Given) → DenotesGraph lines given.graph → IsTableOf (length given.graph.arcs) tp given.table → IsSound given
denoting_is_sound lines tp given graph table =
    let fits = table_fits (length given.graph.arcs) tp given.table table in
    record {
      network = is_network lines given.graph given.table.assigned graph;
      assigned = λ entry among. subst (λ (e : ℕ × ℕ). (0 < e.0) × (e.0 ≤ length given.graph.arcs)) (sym among.1.1) (let e = fits.entries among.0 entry among.1.0 in (e.0, e.1));
      kinds = fits.kinds;
      classed = top_below (length given.table.kinds) 1 given.table.assigned given.graph.arcs (λ k d lt. (fits.entries k d lt).2);
    }

-- ---- sources and pairs

few_items : (kind : List ℕ) (counts : ℕ × ℕ) (line : List (List ℕ)) (count : ℕ) → IsCountLine kind counts line count → (counts.0 ≤ count) × (count ≤ counts.1)
few_items kind counts [] count h = absurd h
few_items kind counts (a ∷ []) count h = absurd h
few_items kind counts (a ∷ b ∷ []) count h = absurd h
few_items kind counts (a ∷ b ∷ c ∷ []) count h = absurd h
few_items kind counts (a ∷ b ∷ c ∷ d ∷ []) count h = absurd h
few_items kind counts (a ∷ b ∷ c ∷ d ∷ e ∷ f ∷ rest) count h = absurd h
few_items kind counts (a ∷ b ∷ c ∷ d ∷ e ∷ []) count h = (h.4.1, h.4.2)

item_of : {A : Type 0} (word : List ℕ) (IsItem : List (List ℕ) → A → Type 0) (line : List (List ℕ)) (item : A) → IsItemLine word IsItem line item → (fields : List (List ℕ)) × IsItem fields item
item_of word IsItem [] item h = absurd h
item_of word IsItem (first ∷ fields) item h = (fields, h.1)

each_item : {A : Type 0} (word : List ℕ) (IsItem : List (List ℕ) → A → Type 0) (P : A → Type 0) → ((fields : List (List ℕ)) (item : A) → IsItem fields item → P item)
    → (lines : List (List (List ℕ))) (items : List A) → AreItemLines word IsItem lines items → All P items
each_item word IsItem P holds [] [] h k d lt = absurd (omega arith)
each_item word IsItem P holds [] (item ∷ items) h k d lt = absurd h
each_item word IsItem P holds (line ∷ lines) [] h k d lt = absurd h
each_item word IsItem P holds (line ∷ lines) (item ∷ items) h zero d lt = let fields = item_of word IsItem line item h.0 in holds fields.0 item fields.1
each_item word IsItem P holds (line ∷ lines) (item ∷ items) h (suc k) d lt = each_item word IsItem P holds lines items h.1 k d (omega arith)

source_is_node : (nodes : ℕ) (fields : List (List ℕ)) (source : ℕ) → IsSource nodes fields source → IsNode nodes source
source_is_node nodes [] source h = absurd h
source_is_node nodes (a ∷ b ∷ rest) source h = absurd h
source_is_node nodes (s ∷ []) source h = record { from_one = h.1; to_last = h.2 }

pair_is_nodes : (nodes : ℕ) (fields : List (List ℕ)) (pair : ℕ × ℕ) → IsPair nodes fields pair → IsNode nodes pair.0 × IsNode nodes pair.1
pair_is_nodes nodes [] pair h = absurd h
pair_is_nodes nodes (a ∷ []) pair h = absurd h
pair_is_nodes nodes (a ∷ b ∷ c ∷ rest) pair h = absurd h
pair_is_nodes nodes (s ∷ t ∷ []) pair h = (record { from_one = h.0.1; to_last = h.0.2 }, record { from_one = h.1.1; to_last = h.1.2 })

pub sources_are_nodes : (nodes : ℕ) (lines : List (List (List ℕ))) (sources : List ℕ) → DenotesSources nodes lines sources → All (IsNode nodes) sources × (length sources ≤ 1000000)
sources_are_nodes nodes lines sources denoted =
    (each_item (codes "s") (IsSource nodes) (IsNode nodes) (source_is_node nodes) denoted.others sources denoted.lists, (few_items (codes "ss") (any_count nodes) denoted.problem (length sources) denoted.announces).1)

pub pairs_are_nodes : (nodes : ℕ) (lines : List (List (List ℕ))) (pairs : List (ℕ × ℕ)) → DenotesPairs nodes lines pairs → All (λ pair. IsNode nodes pair.0 × IsNode nodes pair.1) pairs × (length pairs ≤ 1000000)
pairs_are_nodes nodes lines pairs denoted =
    (each_item (codes "q") (IsPair nodes) (λ pair. IsNode nodes pair.0 × IsNode nodes pair.1) (pair_is_nodes nodes) denoted.others pairs denoted.lists, (few_items (codes "p2p") (any_count nodes) denoted.problem (length pairs) denoted.announces).1)

-- A file of times has one for each start.
pub times_are_many : (starts : ℕ) (lines : List (List (List ℕ))) (times : List ℕ) → DenotesTimes starts lines times → length times ≡ starts
times_are_many starts lines times denoted =
    let counted = few_items (codes "at") (this_count starts) denoted.problem (length times) denoted.announces in
    omega (arith, counted.0, counted.1)
