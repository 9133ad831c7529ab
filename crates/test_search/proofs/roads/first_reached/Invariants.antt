use Rattle.ea_road.specs.Arrivals.{Reaches}
use Rattle.test_search.proofs.roads.first_reached.Given as goal

-- the pairs that some walk from one of the sources attains within the horizon
abbrev pub ghosts-first_known : goal.ghosts-first_known
ghosts-first_known g a = record {
  is_known = λ node time. Reaches a.network.now (g.T.TravelTimes.answers a.times.now) a.query.now.sources node time;
  within = λ node time reaches. reaches.within;
}
