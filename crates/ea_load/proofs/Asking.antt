-- What the problems of a run ask.
use Rattle.std.proofs.Common.{◌≡◌, ℕ, zero, suc, Bool, true, false, List, [], ◌∷◌, length, map, refl, sym, arith, subst}
use Rattle.std.specs.Prelude.{All, None}
use Rattle.std.specs.List.{IsAmong}
use Rattle.ea_road.specs.Queries.{Asking, IsProblem}
use Rattle.ea_load.specs.declared.road.Road.{Road}
use Rattle.ea_load.specs.Starts.{Plan, asks_all, sources_from, run_problems}
use Rattle.ea_load.specs.Posed.{AreProblems}

each_mapped : {X Y : Type 0} (P : Y → Type 0) (f : X → Y) → ((x : X) → P (f x)) → (xs : List X) → All P (map f xs)
each_mapped P f holds [] k d lt = absurd (omega arith)
each_mapped P f holds (x ∷ xs) zero d lt = holds x
each_mapped P f holds (x ∷ xs) (suc k) d lt = each_mapped P f holds xs k d (omega arith)

-- They ask all nodes.
pub none_aimed : (joint : Bool) (plan : Plan) (nodes : List ℕ) → All (λ (query : Asking). query.target ≡ None) (run_problems joint plan nodes)
none_aimed true plan nodes = λ k d lt. alone k d lt where
  alone : All (λ (query : Asking). query.target ≡ None) (asks_all (sources_from plan 0 nodes) ∷ [])
  alone zero d lt = refl
  alone (suc k) d lt = absurd (omega arith)
none_aimed false plan nodes = each_mapped (λ (query : Asking). query.target ≡ None) (λ source. asks_all (source ∷ [])) (λ source. refl) (sources_from plan 0 nodes)

-- Each of them is a problem of the road that asks all nodes.
pub each_asked : (road : Road) (queries : List Asking) → AreProblems road queries → All (λ (query : Asking). query.target ≡ None) queries → (query : Asking) → IsAmong queries query → IsProblem road.network (length road.times.tables.list.items) query × (query.target ≡ None)
each_asked road queries problems none query among = (
  subst (λ (q : Asking). IsProblem road.network (length road.times.tables.list.items) q) (sym among.1.1) (problems among.0 query among.1.0).0,
  subst (λ (q : Asking). q.target ≡ None) (sym among.1.1) (none among.0 query among.1.0),
)
