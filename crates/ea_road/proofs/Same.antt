-- Two relations of answers, one contained in the other, have the same arrivals.
use Rattle.std.proofs.Common.{◌≡◌, ℕ, ◌≤◌, List, arith, subst}
use Rattle.std.specs.Prelude.{Option, Some, None}
use Rattle.ea_road.specs.declared.source.Source.{Source}
use Rattle.ea_travel_times.specs.Answers.{IsFifo, IsQuestion, IsWithin}
use Rattle.ea_road.specs.Roads.{Roads, IsNetwork, top_class}
use Rattle.ea_road.specs.Arrivals.{Arrives, stays, goes, Reaches, IsLeast}
use Rattle.ea_road.proofs.Arcs.{is_question}

-- a question has one answer
pub one_answer : (answers : ℕ → ℕ → ℕ → ℕ → Type 0) (classes : ℕ) → IsFifo answers classes → (class weight departure arrival other : ℕ) → IsQuestion classes class weight departure → answers class weight departure arrival → answers class weight departure other → arrival ≡ other
one_answer answers classes fifo class weight departure arrival other question this that =
    let up = fifo.in_order class weight departure departure arrival other question question this that (omega arith) in
    let down = fifo.in_order class weight departure departure other arrival question question that this (omega arith) in
    omega arith

pub within_back : (first second : ℕ → ℕ → ℕ → ℕ → Type 0) (classes : ℕ) → IsFifo first classes → IsFifo second classes → IsWithin first second classes → IsWithin second first classes
within_back first second classes fifo_first fifo_second within class weight departure arrival question answer =
    let best = fifo_first.has_answer class weight departure question in
    let same = one_answer second classes fifo_second class weight departure best.0 arrival question (within class weight departure best.0 question best.1) answer in
    subst (λ a. first class weight departure a) same best.1

module _
    (roads : Roads)
    (classes : ℕ)
    (network : IsNetwork roads)
    (classed : top_class roads.arcs ≤ classes)
    (first second : ℕ → ℕ → ℕ → ℕ → Type 0)
    (within : IsWithin first second classes)
  where
    arrives_within : {start departure node time : ℕ} {walk : List ℕ} → Arrives roads first start departure walk node time → Arrives roads second start departure walk node time
    arrives_within stays = stays
    arrives_within (goes {node} {time} {number} {arrival} {arc} before inside is_arc tail answer) =
        goes (arrives_within before) inside is_arc tail (within arc.class arc.weight time arrival (is_question roads classes number time arc network classed is_arc inside) answer)

    pub reaches_within : (sources : List Source) (node time : ℕ) → Reaches roads first sources node time → Reaches roads second sources node time
    reaches_within sources node time reaches = record {
      source = reaches.source;
      walk = reaches.walk;
      among = reaches.among;
      arrives = arrives_within reaches.arrives;
      within = reaches.within;
    }

pub least_within : (roads : Roads) (classes : ℕ) → IsNetwork roads → top_class roads.arcs ≤ classes → (first second : ℕ → ℕ → ℕ → ℕ → Type 0) → IsWithin first second classes → IsWithin second first classes → (sources : List Source) (node : ℕ) (arrival : Option ℕ) → IsLeast roads first sources node arrival → IsLeast roads second sources node arrival
least_within roads classes network classed first second there back sources node (Some time) least = (
  reaches_within roads classes network classed first second there sources node time least.0,
  λ other reaches. least.1 other (reaches_within roads classes network classed second first back sources node other reaches),
)
least_within roads classes network classed first second there back sources node None least =
    λ other reaches. least other (reaches_within roads classes network classed second first back sources node other reaches)
