-- The next step of a course, from the contracts of the generator's calls.
use Rattle.std.proofs.Common.{◌≡◌, ℕ, ◌<◌, ◌≤◌, List, [], ◌∷◌, ◌++◌, sym, subst}
use Rattle.rand_core.specs.Stream.{Stream, next_u64}
use Rattle.ea_base.specs.declared.limits.TheConstants.{HORIZON}
use Rattle.ea_road.specs.declared.arc.Arc.{Arc}
use Rattle.ea_road.specs.declared.source.Source.{Source}
use Rattle.ea_road.specs.Labels.{label_of}
use Rattle.ea_road.specs.Roads.{Roads, IsArc, leaving}
use Rattle.ea_pool.specs.declared.heap.entry.Entry.{Entry}
use Rattle.ea_rank.specs.Runs.{State, PopsFound}
use Rattle.ea_rank.specs.Courses.{LowersBy, Scans, Turns, Begun}
use Rattle.ea_rank.specs.Courses as course

module _ (roads : Roads) (answers : ℕ → ℕ → ℕ → ℕ → Type 0) where
  pub scan_pushes : (departure : ℕ) (numbers : List ℕ) (words words' rest : Stream) (old middle new : State) (number arrival word : ℕ) (arc : Arc) → Scans roads answers departure numbers words old words' middle → IsArc roads number arc → answers arc.class arc.weight departure arrival
      → arrival ≤ HORIZON → arrival < label_of middle.labels arc.head → LowersBy word arc.head arrival middle new → (word, rest) ≡ next_u64 words' → Scans roads answers departure (numbers ++ number ∷ []) words old rest new
  scan_pushes departure numbers words words' rest old middle new number arrival word arc before is_arc answer within low by drawn =
      let P : ℕ × Stream → Type 0 = λ p. LowersBy p.0 arc.head arrival middle new → Scans roads answers departure (numbers ++ number ∷ []) words old p.1 new in
      subst P (sym drawn) (λ same. course.Scans.pushes before is_arc answer within low same) by

  pub turn_stale : (heaps : ℕ) (words words' middle' rest : Stream) (sources : List Source) (middle new : State) (first second : ℕ) (entry : Entry) → Begun roads answers heaps words sources words' middle → (first, middle') ≡ next_u64 words' → (second, rest) ≡ next_u64 middle'
      → PopsFound first second entry middle new → label_of new.labels entry.node < entry.key → Begun roads answers heaps words sources rest new
  turn_stale heaps words words' middle' rest sources middle new first second entry begun one two pops stale =
      let P : ℕ × Stream → Type 0 = λ p. (second, rest) ≡ next_u64 p.1 → PopsFound p.0 second entry middle new → Begun roads answers heaps words sources rest new in
      subst P (sym one) (λ next. (
      let Q : ℕ × Stream → Type 0 = λ p. PopsFound (next_u64 words').0 p.0 entry middle new → Begun roads answers heaps words sources p.1 new in
      subst Q (sym next) (λ same. record {
        start = begun.start;
        sown = begun.sown;
        pushes = begun.pushes;
        labels = begun.labels;
        heaps_are = begun.heaps_are;
        nothing = begun.nothing;
        sows = begun.sows;
        turns = course.Turns.stale begun.turns same stale;
      }))) two pops

  pub turn_scans : (heaps : ℕ) (words words' middle' rest after : Stream) (sources : List Source) (middle popped new : State) (first second : ℕ) (entry : Entry) → Begun roads answers heaps words sources words' middle → (first, middle') ≡ next_u64 words' → (second, rest) ≡ next_u64 middle'
      → PopsFound first second entry middle popped → entry.key ≤ label_of popped.labels entry.node → Scans roads answers entry.key (leaving roads entry.node) rest popped after new → Begun roads answers heaps words sources after new
  turn_scans heaps words words' middle' rest after sources middle popped new first second entry begun one two pops fresh scans =
      let P : ℕ × Stream → Type 0 = λ p. (second, rest) ≡ next_u64 p.1 → PopsFound p.0 second entry middle popped → Scans roads answers entry.key (leaving roads entry.node) rest popped after new → Begun roads answers heaps words sources after new in
      subst P (sym one) (λ next. (
      let Q : ℕ × Stream → Type 0 = λ p. PopsFound (next_u64 words').0 p.0 entry middle popped → Scans roads answers entry.key (leaving roads entry.node) p.1 popped after new → Begun roads answers heaps words sources after new in
      subst Q (sym next) (λ same passed. record {
        start = begun.start;
        sown = begun.sown;
        pushes = begun.pushes;
        labels = begun.labels;
        heaps_are = begun.heaps_are;
        nothing = begun.nothing;
        sows = begun.sows;
        turns = course.Turns.scans begun.turns same fresh passed;
      }))) two pops scans
