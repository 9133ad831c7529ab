-- The road of pairs, lent to a run.
use Rattle.std.proofs.Common.{◌≡◌, List, ap, subst, sym, ◌∙◌}
use Rattle.ea_batch.specs.Solved.{IsLaidOut}
use Rattle.ea_load.specs.declared.road.Road.{Road}
use Rattle.ea_options.specs.declared.options.RunOptions.{RunOptions}
use Rattle.ea_road.specs.Queries.{Asking}
use Rattle.earliest.specs.RunRoads.{CanRunOn, HoldsRoad, IsLentOf, IsReadyFor, road_in, road_of_run}
use Rattle.earliest.specs.declared.run_road.PairRoad.{PairRoad}
use Rattle.earliest.specs.declared.run_road.PairRoad.TheVariants as pair
use Rattle.earliest.specs.declared.run_road.RenumberedRoad.{RenumberedRoad}
use Rattle.earliest.specs.declared.run_road.RunRoad.{RunRoad}
use Rattle.earliest.specs.declared.run_road.RunRoad.TheVariants as run

-- it is the road that was read
pub lent_road : (road : Road) (pairs : PairRoad) (lent : RunRoad) → HoldsRoad road pairs → IsLentOf pairs lent → road_of_run lent ≡ road
lent_road road (pair.AsRead it) (run.AsRead lent) holds same = same ∙ holds
lent_road road (pair.AsRead it) (run.Renumbered lent) holds same = absurd same
lent_road road (pair.Renumbered it) (run.AsRead lent) holds same = absurd same
lent_road road (pair.Renumbered it) (run.Renumbered lent) holds same = ap road_in same ∙ holds.same

pub lent_ready : (queries : List Asking) (options : RunOptions) (road : Road) (pairs : PairRoad) (lent : RunRoad) → HoldsRoad road pairs → CanRunOn queries options pairs → IsLentOf pairs lent → IsReadyFor queries options lent
lent_ready queries options road (pair.AsRead it) (run.AsRead lent) holds can same = tt
lent_ready queries options road (pair.AsRead it) (run.Renumbered lent) holds can same = absurd same
lent_ready queries options road (pair.Renumbered it) (run.AsRead lent) holds can same = absurd same
lent_ready queries options road (pair.Renumbered it) (run.Renumbered lent) holds can same =
    (subst (λ (r : RenumberedRoad). IsLaidOut (road_in r) r.layout) (sym same) holds.laid_out, can)
