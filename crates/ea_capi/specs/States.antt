-- The content of a handle, as callers see it: a road, a search, a road turned round, or a search for latest departures.
use Rattle.std.specs.Prelude.{Option, Some, None}
use Rattle.std.specs.Arc.{arc_value}
use Rattle.ea_load.specs.declared.road.Road.{Road}
use Rattle.ea_capi.specs.declared.handle.content.Session.{Session}
use Rattle.ea_capi.specs.declared.handle.content.LatestSearch.{LatestSearch}
use Rattle.ea_capi.specs.declared.handle.content.Content.{Content}
use Rattle.ea_capi.specs.declared.handle.content.Content.TheVariants as content

-- The road of a handle that holds one.
abbrev pub road_in : Option Content → Option Road
road_in None = None
road_in (Some (content.Road share)) = Some share.road
road_in (Some (content.Search session)) = None
road_in (Some (content.Turned turned)) = None
road_in (Some (content.Latest search)) = None
road_in (Some content.Away) = None

-- The search of a handle that holds one.
abbrev pub session_in : Option Content → Option Session
session_in None = None
session_in (Some (content.Road share)) = None
session_in (Some (content.Search session)) = Some session
session_in (Some (content.Turned turned)) = None
session_in (Some (content.Latest search)) = None
session_in (Some content.Away) = None

-- The road of a search.
abbrev pub road_of : Session → Road
road_of session = session.share.road

-- The road behind a road turned round, if a handle holds one.
abbrev pub turned_in : Option Content → Option Road
turned_in None = None
turned_in (Some (content.Road share)) = None
turned_in (Some (content.Search session)) = None
turned_in (Some (content.Turned share)) = Some (arc_value share.turned.terrain).road
turned_in (Some (content.Latest search)) = None
turned_in (Some content.Away) = None

-- The search for latest departures of a handle that holds one.
abbrev pub latest_in : Option Content → Option LatestSearch
latest_in None = None
latest_in (Some (content.Road share)) = None
latest_in (Some (content.Search session)) = None
latest_in (Some (content.Turned turned)) = None
latest_in (Some (content.Latest search)) = Some search
latest_in (Some content.Away) = None

-- The road of a search for latest departures.
abbrev pub road_behind : LatestSearch → Road
road_behind search = (arc_value search.share.turned.terrain).road
