-- The arrays of a search on a road.
use Rattle.ea_capi.specs.declared.handle.road_search.Arrays.{Arrays}
use Rattle.ea_capi.specs.declared.handle.road_search.Arrays.TheVariants as arrays
use Rattle.ea_search.specs.Listings.{Searched}

-- What they are for, and their last answer, whichever sort they are.
abbrev pub searched_by : Arrays → Searched
searched_by (arrays.Plain search) = search
searched_by (arrays.Laid search) = search
