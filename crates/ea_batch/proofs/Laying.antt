-- Searches on a layout, told of the road in the numbers of its files.
use Rattle.std.proofs.Common.{◌≡◌, ℕ, Bool, true, false, length, subst, sym, ◌∙◌}
use Rattle.std.specs.Prelude.{IfOk, Result, Ok, Err}
use Rattle.ea_batch.specs.Solved.{HasFoundOn, IsLaidOut}
use Rattle.ea_layout.specs.declared.layout.Layout.{Layout}
use Rattle.ea_layout.specs.Laid.{CanFindLaid}
use Rattle.ea_layout.specs.Orders.{file_roads}
use Rattle.ea_layout.proofs.Told.{told_back}
use Rattle.ea_load.specs.declared.road.Road.{Road}
use Rattle.ea_load.specs.Posed.{times_on}
use Rattle.ea_road.specs.Queries.{Asking, IsProblem}
use Rattle.ea_road.specs.Roads.{IsNetwork, Roads}
use Rattle.ea_search.specs.Answers.{HasArrivals, IsAnswer}
use Rattle.ea_search.specs.Listings.{Searched}
use Rattle.ea_travel_times.specs.declared.road_times.RoadTimes.{RoadTimes}

module _ (road : Road) (layout : Layout) (query : Asking) (times : RoadTimes) (same : times ≡ road.times) (network : IsNetwork road.network) (laid : IsLaidOut road layout) where
  -- a road with these travel times
  abbrev at_times : RoadTimes → Road
  at_times t = record { network = road.network; times = t }

  told : file_roads layout ≡ road.network
  told = told_back road.network layout network laid.laid_out

  pub can_find : (search : Searched) → IsProblem road.network (length road.times.tables.list.items) query → search.nodes ≡ road.network.nodes
      → CanFindLaid (file_roads layout) (times_on (at_times times)) layout (length times.tables.list.items) query search
  can_find search problem nodes =
      let here : CanFindLaid road.network (times_on road) layout (length road.times.tables.list.items) query search = record { laid_out = laid.laid_out; prepared = laid.prepared; problem = problem; nodes = nodes } in
      let there = subst (λ (r : Roads). CanFindLaid r (times_on road) layout (length road.times.tables.list.items) query search) (sym told) here in
      subst (λ (t : RoadTimes). CanFindLaid (file_roads layout) (times_on (at_times t)) layout (length t.tables.list.items) query search) (sym same) there

  pub found_walks : {E : Type 0} (walks : Bool) → walks ≡ true → (nodes : ℕ) → nodes ≡ road.network.nodes → (result : Result Searched E)
      → IfOk result (λ search. IsAnswer (file_roads layout) (times_on (at_times times)) query search.answer) → IfOk result (λ search. (search.nodes ≡ nodes) × (search.walks ≡ true))
      → IfOk result (HasFoundOn walks road query)
  found_walks walks on nodes many (Ok search) answer room =
      let there = subst (λ (r : Roads). IsAnswer r (times_on (at_times times)) query search.answer) told answer in
      let it : IsAnswer road.network (times_on road) query search.answer = subst (λ (t : RoadTimes). IsAnswer road.network (times_on (at_times t)) query search.answer) same there in
      record { arrivals = it.arrivals; canonical = λ asked. it; ready = (room.0 ∙ many, room.1 ∙ sym on) }
  found_walks walks on nodes many (Err refused) answer room = tt

  pub found_arrivals : {E : Type 0} (walks has : Bool) → walks ≡ false → has ≡ walks → (nodes : ℕ) → nodes ≡ road.network.nodes → (result : Result Searched E)
      → IfOk result (λ search. HasArrivals (file_roads layout) (times_on (at_times times)) query search.answer) → IfOk result (λ search. (search.nodes ≡ nodes) × (search.walks ≡ has))
      → IfOk result (HasFoundOn walks road query)
  found_arrivals walks has off same_walks nodes many (Ok search) arrivals room =
      let there = subst (λ (r : Roads). HasArrivals r (times_on (at_times times)) query search.answer) told arrivals in
      let it : HasArrivals road.network (times_on road) query search.answer = subst (λ (t : RoadTimes). HasArrivals road.network (times_on (at_times t)) query search.answer) same there in
      record { arrivals = it; canonical = λ on. let none : false ≡ true = sym off ∙ on in cc; ready = (room.0 ∙ many, room.1 ∙ same_walks) }
  found_arrivals walks has off same_walks nodes many (Err refused) arrivals room = tt
