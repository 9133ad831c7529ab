use Rattle.ea_road.specs.Arrivals.{Reaches}
use Rattle.ea_engine.proofs.run.solve_calls.solve_arrivals.Given as goal

-- the pairs that some walk from one of the sources attains within the horizon
abbrev pub ghosts-run_named-K-Known : goal.ghosts-run_named-K-Known
ghosts-run_named-K-Known g a = record {
  is_known = λ node time. Reaches a.network.now (g.T.TravelTimes.answers a.times.now) a.query.now.sources node time;
  within = λ node time reaches. reaches.within;
}

-- the problem of this call
abbrev pub ghosts-run_named-K-Posed : goal.ghosts-run_named-K-Posed
ghosts-run_named-K-Posed g a = record {
  problem = record { network = a.network.now; answers = g.T.TravelTimes.answers a.times.now; query = a.query.now };
}
