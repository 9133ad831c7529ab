-- What the report of a problem needs.
use Rattle.std.specs.Prelude.{◌≤◌, List, length}
use Rattle.ea_base.specs.declared.limits.TheConstants.{MOST_NODES, MOST_STARTS}
use Rattle.ea_road.specs.Queries.{Asking, IsProblem}
use Rattle.ea_load.specs.declared.road.Road.{Road}
use Rattle.ea_load.specs.Posed.{AreProblems}
use Rattle.ea_report.specs.Asked.{Shape}
use Rattle.ea_batch.specs.Solved.{IsShown}

-- A problem on a road, of at most the limits' sources and nodes, whose report shows nodes of the road.
pub record IsReportable (road : Road) (shape : Shape) (query : Asking) : Type 0 where
  pub problem : IsProblem road.network (length road.times.tables.list.items) query
  pub few_sources : length query.sources ≤ MOST_STARTS
  pub few_nodes : road.network.nodes ≤ MOST_NODES
  pub shown : IsShown road.network shape

-- The same of problems, which are no more than a file has.
pub record AreReportable (road : Road) (shape : Shape) (queries : List Asking) : Type 0 where
  pub problems : AreProblems road queries
  pub few : length queries ≤ MOST_STARTS
  pub few_nodes : road.network.nodes ≤ MOST_NODES
  pub shown : IsShown road.network shape
