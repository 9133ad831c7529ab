-- Labels of a search without bounds.
use Rattle.std.proofs.Common.{ℕ, ◌≤◌, refl, arith}
use Rattle.ea_road.specs.Roads.{IsNetwork, Roads, top_class}
use Rattle.ea_road.proofs.Arcs.{is_question}
use Rattle.ea_travel_times.specs.Answers.{IsFifo}
use Rattle.ea_goal.specs.Led.{AreConsistent}

-- a bound of 0 for each node is consistent
pub zero_is_consistent : (roads : Roads) (answers : ℕ → ℕ → ℕ → ℕ → Type 0) (classes target : ℕ) → IsNetwork roads → top_class roads.arcs ≤ classes → IsFifo answers classes → AreConsistent roads answers target (λ node. 0)
zero_is_consistent roads answers classes target network classed fifo = record {
  at_target = refl;
  along = λ number departure arrival arc is_arc left within answer some.
      let question = is_question roads classes number departure arc network classed is_arc left in
      let later = fifo.not_before arc.class arc.weight departure arrival question answer in
      (omega arith, omega (arith, later));
}
