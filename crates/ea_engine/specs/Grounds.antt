-- What workers read, and when it belongs to a problem.
use Rattle.std.specs.Prelude.{◌≡◌, ℕ, ◌≤◌}
use Rattle.ea_travel_times.specs.Answers.{IsFifo}
use Rattle.ea_road.specs.Roads.{top_class}
use Rattle.ea_engine.specs.declared.run.ground.Ground.{Ground}
use Rattle.ea_engine.specs.Problems.{Problem, IsPosed, IsNamed}
use Rattle.ea_engine.specs.Seated.{Tables, tables}

-- The network, the travel times and the query are those of the problem, and the label table has a place for
-- each node.
pub record IsGround {K T E : Type 0} (known : ℕ → ℕ → Type 0) (problem : Problem) (answers : T → ℕ → ℕ → ℕ → ℕ → Type 0) (classes : T → ℕ) (ground : Ground K T E) : Type 0 where
  pub posed : IsPosed known problem
  pub named : IsNamed known problem ground.network.now (answers ground.times.now) ground.query.now
  pub classed : top_class problem.network.arcs ≤ classes ground.times.now
  pub fifo : IsFifo (answers ground.times.now) (classes ground.times.now)
  pub places_are : ground.labels.now.nodes ≡ problem.network.nodes

abbrev pub tables_of : {K T E : Type 0} → Ground K T E → Tables
tables_of ground = tables ground.labels.now ground.pool.now
