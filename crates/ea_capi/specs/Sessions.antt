-- Searches as callers see them: queries, answers and refusals.
use Rattle.std.specs.Prelude.{◌≡◌, ℕ, ◌≤◌, true, List, [], ◌∷◌}
use Rattle.ea_base.specs.declared.limits.TheConstants.{HORIZON}
use Rattle.ea_road.specs.declared.source.Source.{Source}
use Rattle.ea_load.specs.Posed.{times_on}
use Rattle.ea_road.specs.Roads.{IsNode}
use Rattle.ea_road.specs.Queries.{Asking}
use Rattle.ea_search.specs.Answers.{HasArrivals, IsAnswer}
use Rattle.ea_load.specs.declared.road.Road.{Road}
use Rattle.ea_capi.specs.declared.handle.content.Session.{Session}
use Rattle.ea_capi.specs.States.{road_of}

-- The arrival by an arc of the road.
abbrev pub answers_on : Road → ℕ → ℕ → ℕ → ℕ → Type 0
answers_on road = times_on road

-- A source for this number of nodes: one of these, with a departure within the horizon.
pub record IsStart (nodes : ℕ) (source : Source) : Type 0 where
  pub node : IsNode nodes source.node
  pub departure : source.departure ≤ HORIZON

-- Nodes with their departures.
abbrev pub starts : List ℕ → List ℕ → List Source
starts [] departures = []
starts (node ∷ nodes) [] = []
starts (node ∷ nodes) (departure ∷ departures) = record { node = node; departure = departure } ∷ starts nodes departures

-- The search has the answer of a query on its road, with canonical walks if it has room for walks.
pub record IsAnswered (query : Asking) (session : Session) : Type 0 where
  pub arrivals : HasArrivals (road_of session).network (answers_on (road_of session)) query session.search.answer
  pub walks : session.walks ≡ true → IsAnswer (road_of session).network (answers_on (road_of session)) query session.search.answer

-- The road, its layout, the room and the answer at some nodes are unchanged.
pub record IsSame (old new : Session) : Type 0 where
  pub road : road_of new ≡ road_of old
  pub layout : new.share.layout ≡ old.share.layout
  pub walks : new.walks ≡ old.walks
  pub asked : new.asked ≡ old.asked
