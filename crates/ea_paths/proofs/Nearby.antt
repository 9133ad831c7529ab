-- A search near the sources leaves labels that are led by bounds of 0.
use Rattle.std.proofs.Common.{◌≡◌, ℕ, Bool, List, [], Option, Some, inl, inr, ap, ◌∙◌, arith}
use Rattle.std.proofs.lemmas.Bool.Decides.{leb_tells}
use Rattle.ea_road.specs.Labels.{IsFixed, limit}
use Rattle.ea_road.specs.Queries.{Asking, IsProblem}
use Rattle.ea_road.specs.Roads.{IsNetwork, Roads}
use Rattle.ea_travel_times.specs.Answers.{IsFifo}
use Rattle.ea_search.specs.Worklist.{Worklist}
use Rattle.ea_goal.specs.Led.{IsLedTo}
use Rattle.ea_goal.proofs.Unled.{zero_is_consistent}

pub fixed_is_led : (roads : Roads) (answers : ℕ → ℕ → ℕ → ℕ → Type 0) (classes : ℕ) (query : Asking) (target : ℕ) (label : ℕ → ℕ) → query.target ≡ Some target → IsNetwork roads → IsProblem roads classes query → IsFifo answers classes → IsFixed roads answers query label → IsLedTo roads answers query.sources target label
fixed_is_led roads answers classes query target label asked network problem fifo fixed = record {
  bound = λ node. 0;
  consistent = zero_is_consistent roads answers classes target network problem.classed fifo;
  led = record {
    at_sources = fixed.at_sources;
    reached = fixed.reached;
    settled = λ node is_node some near. elim (leb_tells (label node) (label target)) [
      | inl early ↦ inl (fixed.satisfied node is_node some (omega (arith, early.1, at_limit)))
      | inr late ↦ inr (inl (omega (arith, late.1)))
    ];
  };
}
  where
    at_limit : limit query.target label ≡ label target
    at_limit = ap (λ (t : Option ℕ). limit t label) asked

-- a list of waiting nodes without one
pub worklist_is : (todo : Worklist) (nodes : ℕ) (walks : Bool) → todo.nodes ≡ nodes → todo.waiting ≡ [] → todo.walks ≡ walks → todo ≡ record { nodes = nodes; waiting = []; walks = walks }
worklist_is todo nodes walks room nobody links =
    ap (λ (n : ℕ). (λ (w : Worklist). w) (record { nodes = n; waiting = todo.waiting; walks = todo.walks })) room
    ∙ ap (λ (ns : List ℕ). (λ (w : Worklist). w) (record { nodes = nodes; waiting = ns; walks = todo.walks })) nobody
    ∙ ap (λ (l : Bool). (λ (w : Worklist). w) (record { nodes = nodes; waiting = []; walks = l })) links
