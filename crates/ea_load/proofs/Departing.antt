-- Sources and pairs, one after the other, and their departures.
use Rattle.std.proofs.Common.{◌≡◌, ℕ, zero, suc, ◌+◌, ◌<◌, ◌≤◌, List, [], ◌∷◌, ◌++◌, length, take, get_or, refl, ap, sym, ◌∙◌, arith, subst}
use Rattle.std.specs.Prelude.{◌↔◌, All, IfSome, Option, Some, None, slice_index, unwrap_or}
use Rattle.std.proofs.lemmas.Option.{none-some}
use Rattle.std.proofs.lemmas.List.{get_or_default, take_more, length-take-le}
use Rattle.ea_base.specs.declared.limits.TheConstants.{HORIZON}
use Rattle.ea_road.specs.declared.source.Source.{Source}
use Rattle.ea_road.specs.Queries.{Asking, AreSources, IsSource}
use Rattle.ea_base.specs.declared.direction.Direction.{Direction}
use Rattle.ea_base.specs.declared.direction.Direction.TheVariants.{Forward, Turned}
use Rattle.ea_load.specs.Starts.{AreWithin, Plan, begins_at, in_direction, own_time, pair_problem, pair_problems, sources_from, time_at}

-- One more source.
pub sources_more : (plan : Plan) (i : ℕ) (front : List ℕ) (node : ℕ) → sources_from plan i (front ++ node ∷ []) ≡ sources_from plan i front ++ record { node = node; departure = begins_at plan (i + length front) } ∷ []
sources_more plan i [] node = ap (λ (n : ℕ). record { node = node; departure = begins_at plan n } ∷ []) (omega arith)
sources_more plan i (x ∷ xs) node =
    let more = sources_more plan (i + 1) xs node in
    let number : (i + 1) + length xs ≡ i + length (x ∷ xs) = omega arith in
    let there : List Source = record { node = x; departure = begins_at plan i } ∷ [] in
    ap (λ rest. record { node = x; departure = begins_at plan i } ∷ rest) (subst (λ (n : ℕ). sources_from plan (i + 1) (xs ++ node ∷ []) ≡ sources_from plan (i + 1) xs ++ record { node = node; departure = begins_at plan n } ∷ []) number more)

pub sources_next : (plan : Plan) (i : ℕ) (nodes : List ℕ) → i < length nodes → sources_from plan 0 (take (i + 1) nodes) ≡ sources_from plan 0 (take i nodes) ++ record { node = get_or nodes i 0; departure = begins_at plan i } ∷ []
sources_next plan i nodes lt =
    let front : 0 + length (take i nodes) ≡ i = omega (arith, length-take-le i nodes (omega arith)) in
    ap (sources_from plan 0) (take_more nodes i 0 lt)
    ∙ sources_more plan 0 (take i nodes) (get_or nodes i 0)
    ∙ ap (λ (n : ℕ). sources_from plan 0 (take i nodes) ++ record { node = get_or nodes i 0; departure = begins_at plan n } ∷ []) front

-- One more pair.
pub pairs_more : (plan : Plan) (i : ℕ) (front : List (ℕ × ℕ)) (pair : ℕ × ℕ)
    → pair_problems plan i (front ++ pair ∷ []) ≡ pair_problems plan i front ++ pair_problem plan.direction (begins_at plan (i + length front)) pair ∷ []
pairs_more plan i [] pair = ap (λ (n : ℕ). pair_problem plan.direction (begins_at plan n) pair ∷ []) (omega arith)
pairs_more plan i (x ∷ xs) pair =
    let more = pairs_more plan (i + 1) xs pair in
    let number : (i + 1) + length xs ≡ i + length (x ∷ xs) = omega arith in
    ap (λ rest. pair_problem plan.direction (begins_at plan i) x ∷ rest)
    (subst (λ (n : ℕ). pair_problems plan (i + 1) (xs ++ pair ∷ []) ≡ pair_problems plan (i + 1) xs ++ pair_problem plan.direction (begins_at plan n) pair ∷ []) number more)

pub pairs_next : (plan : Plan) (i : ℕ) (pairs : List (ℕ × ℕ)) (d : ℕ × ℕ) → i < length pairs
    → pair_problems plan 0 (take (i + 1) pairs) ≡ pair_problems plan 0 (take i pairs) ++ pair_problem plan.direction (begins_at plan i) (get_or pairs i d) ∷ []
pairs_next plan i pairs d lt =
    let front : 0 + length (take i pairs) ≡ i = omega (arith, length-take-le i pairs (omega arith)) in
    ap (pair_problems plan 0) (take_more pairs i d lt)
    ∙ pairs_more plan 0 (take i pairs) (get_or pairs i d)
    ∙ ap (λ (n : ℕ). pair_problems plan 0 (take i pairs) ++ pair_problem plan.direction (begins_at plan n) (get_or pairs i d) ∷ []) front

-- A time within the horizon begins within the horizon.
in_direction_within : (direction : Direction) (time : ℕ) → time ≤ HORIZON → in_direction direction time ≤ HORIZON
in_direction_within Forward time within = within
in_direction_within Turned time within = omega arith

pub begins_within : (plan : Plan) (i : ℕ) → time_at plan i ≤ HORIZON → begins_at plan i ≤ HORIZON
begins_within plan i within = in_direction_within plan.direction (time_at plan i) within

-- Each of the sources is one.
each_is_source : (plan : Plan) (i : ℕ) (nodes : List ℕ) → All (λ node. 0 < node) nodes → ((k : ℕ) → k < length nodes → begins_at plan (i + k) ≤ HORIZON) → All IsSource (sources_from plan i nodes)
each_is_source plan i [] some within k d lt = absurd (omega arith)
each_is_source plan i (x ∷ xs) some within zero d lt = record { from_one = some 0 0 (omega arith); within = subst (λ (n : ℕ). begins_at plan n ≤ HORIZON) (omega arith) (within 0 (omega arith)) }
each_is_source plan i (x ∷ xs) some within (suc k) d lt =
    each_is_source plan (i + 1) xs (λ j e inside. some (suc j) e (omega arith)) (λ j inside. subst (λ (n : ℕ). begins_at plan n ≤ HORIZON) (omega arith) (within (suc j) (omega arith))) k d (omega arith)

pub are_sources : (sources : List Source) → All IsSource sources → AreSources sources
are_sources sources all = record { each = λ source among. subst IsSource (sym among.1.1) (all among.0 source among.1.0) }

pub all_are_sources : (plan : Plan) (nodes : List ℕ) → All (λ node. 0 < node) nodes → AreWithin plan (length nodes) → All IsSource (sources_from plan 0 nodes)
all_are_sources plan nodes some within = each_is_source plan 0 nodes some (λ k inside. subst (λ (n : ℕ). begins_at plan n ≤ HORIZON) (omega arith) (begins_within plan k (within k inside)))

-- What holds of each node at its departure holds of each source.
pub each_from : (P : Source → Type 0) (plan : Plan) (i : ℕ) (nodes : List ℕ) → ((k : ℕ) → k < length nodes → P (record { node = get_or nodes k 0; departure = begins_at plan (i + k) })) → All P (sources_from plan i nodes)
each_from P plan i [] holds k d lt = absurd (omega arith)
each_from P plan i (x ∷ xs) holds zero d lt = subst (λ (n : ℕ). P (record { node = x; departure = begins_at plan n })) (omega arith) (holds 0 (omega arith))
each_from P plan i (x ∷ xs) holds (suc k) d lt =
    each_from P plan (i + 1) xs (λ j inside. subst (λ (n : ℕ). P (record { node = get_or xs j 0; departure = begins_at plan n })) (omega arith) (holds (suc j) (omega arith))) k d (omega arith)

pub length-sources_from : (plan : Plan) (i : ℕ) (nodes : List ℕ) → length (sources_from plan i nodes) ≡ length nodes
length-sources_from plan i [] = refl
length-sources_from plan i (x ∷ xs) = let more = length-sources_from plan (i + 1) xs in omega arith

-- What holds of each pair at its departure holds of each problem.
pub each_pair : (P : Asking → Type 0) (plan : Plan) (i : ℕ) (pairs : List (ℕ × ℕ)) → ((k : ℕ) (d : ℕ × ℕ) → k < length pairs → P (pair_problem plan.direction (begins_at plan (i + k)) (get_or pairs k d))) → All P (pair_problems plan i pairs)
each_pair P plan i [] holds k d lt = absurd (omega arith)
each_pair P plan i (x ∷ xs) holds zero d lt = subst (λ (n : ℕ). P (pair_problem plan.direction (begins_at plan n) x)) (omega arith) (holds 0 x (omega arith))
each_pair P plan i (x ∷ xs) holds (suc k) d lt =
    each_pair P plan (i + 1) xs (λ j e inside. subst (λ (n : ℕ). P (pair_problem plan.direction (begins_at plan n) (get_or xs j e))) (omega arith) (holds (suc j) e (omega arith))) k d (omega arith)

pub length-pair_problems : (plan : Plan) (i : ℕ) (pairs : List (ℕ × ℕ)) → length (pair_problems plan i pairs) ≡ length pairs
length-pair_problems plan i [] = refl
length-pair_problems plan i (x ∷ xs) = let more = length-pair_problems plan (i + 1) xs in omega arith

-- Times of a list are within the horizon exactly if all of them are.
pub own_times_fit : (times : Option (List ℕ)) (list : List ℕ) (count depart gap : ℕ) → times ≡ Some list → IfSome times (λ own. length own ≡ count) → (fits : Type 0) → fits ↔ All (λ time. time ≤ HORIZON) list
    → fits ↔ ((i : ℕ) → i < count → own_time times depart gap i ≤ HORIZON)
own_times_fit None list count depart gap there size fits tested = absurd (none-some list there)
own_times_fit (Some own) list count depart gap there size fits tested =
    let same : own ≡ list = ap (λ o. unwrap_or o own) there in (
      λ is i inside. subst (λ (xs : List ℕ). slice_index xs i ≤ HORIZON) (sym same) (tested.0 is i 0 (omega (arith, inside, size, ap (λ (xs : List ℕ). length xs) same))),
      λ all. tested.1 (λ k d inside. subst (λ (xs : List ℕ). get_or xs k d ≤ HORIZON) same (at_any own k d (omega (arith, inside, ap (λ (xs : List ℕ). length xs) same)) (all k (omega (arith, inside, size, ap (λ (xs : List ℕ). length xs) same))))),
    )
  where
    at_any : (xs : List ℕ) (k d : ℕ) → k < length xs → slice_index xs k ≤ HORIZON → get_or xs k d ≤ HORIZON
    at_any xs k d inside within = subst (λ (n : ℕ). n ≤ HORIZON) (get_or_default xs k 0 d inside) within
