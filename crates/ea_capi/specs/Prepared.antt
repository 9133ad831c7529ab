-- Roads with layouts, prepared or not, and the outcomes of the calls that make them.
use Rattle.std.specs.Prelude.{◌≡◌, ◌⊎◌, ℕ, IsTrue, List, Option, Some, None, is_some}
use Rattle.ea_hierarchy.specs.Orders.{IsOrder}
use Rattle.ea_hierarchy.specs.declared.unprepared.Unprepared.{Unprepared}
use Rattle.ea_hierarchy.specs.declared.unprepared.Unprepared.TheVariants.{NoOrder, NotWorth, OutOfMemory}
use Rattle.ea_layout.specs.declared.layout.Layout.{Layout}
use Rattle.ea_load.specs.declared.road.Road.{Road}
use Rattle.ea_capi.specs.declared.handle.content.Content.{Content}
use Rattle.ea_capi.specs.declared.handle.content.Content.TheVariants as content
use Rattle.ea_capi.specs.Shared.{IsLaidFor}
use Rattle.ea_capi.specs.States.{road_in}

-- The layout of the road or the search of a handle, if it has one.
abbrev pub layout_in : Option Content → Option Layout
layout_in None = None
layout_in (Some (content.Road share)) = share.layout
layout_in (Some (content.Search session)) = session.share.layout
layout_in (Some (content.Turned turned)) = None
layout_in (Some (content.Latest search)) = None
layout_in (Some content.Away) = None

-- The number of why a road isn't prepared.
abbrev pub unprepared_number : Unprepared → ℕ
unprepared_number NotWorth = 26
unprepared_number NoOrder = 27
unprepared_number OutOfMemory = 13

-- The content is this road, and has this layout of it.
pub record IsRoadOn (road : Road) (layout : Layout) (content : Option Content) : Type 0 where
  pub same : road_in content ≡ Some road
  pub there : layout_in content ≡ Some layout
  pub fits : IsLaidFor road layout

-- The content is this road, and has a layout of it.
pub record IsRoadLaidOut (road : Road) (content : Option Content) : Type 0 where
  pub layout : Layout
  pub on : IsRoadOn road layout content

-- The content is this road, and has a layout of it that is prepared for its travel times.
pub record IsRoadPrepared (road : Road) (content : Option Content) : Type 0 where
  pub layout : Layout
  pub on : IsRoadOn road layout content
  pub is_there : IsTrue (is_some layout.prepared)

-- A layout isn't likely to pay, or memory was refused.
abbrev pub IsUnlaid : ℕ → Type 0
IsUnlaid number = (number ≡ 26) ⊎ (number ≡ 13)

-- The content is the road laid out, if there is one.
abbrev pub IsLaidOutOf : Option Road → Content → Type 0
IsLaidOutOf None content = ⊥
IsLaidOutOf (Some road) content = IsRoadLaidOut road (Some content)

-- The handle holds the road laid out; or it is unchanged, as there is no road, or a layout isn't likely to pay, or memory was refused.
abbrev pub IsLaidOut : Option Road → Option Content → Option Content → ℕ → Type 0
IsLaidOut None old new number = (number ≡ 16) × (new ≡ old)
IsLaidOut (Some road) old new number = (IsRoadLaidOut road new × (number ≡ 0)) ⊎ ((new ≡ old) × IsUnlaid number)

-- The road is worth no preparation, or a list is no order of its nodes, or memory was refused.
abbrev pub IsUnprepared : ℕ → Type 0
IsUnprepared number = (why : Unprepared) × (number ≡ unprepared_number why)

-- The content is the road prepared, if there is one.
abbrev pub IsPreparedOf : Option Road → Content → Type 0
IsPreparedOf None content = ⊥
IsPreparedOf (Some road) content = IsRoadPrepared road (Some content)

-- A list is an order of the road's nodes.
abbrev pub IsOrderOf : Option Road → List ℕ → Type 0
IsOrderOf None order = ⊥
IsOrderOf (Some road) order = IsOrder road.network.nodes order

-- The handle holds the road prepared; or it is unchanged, as there is no road, or it is not worth it, or a list is no order, or memory was
-- refused.
abbrev pub IsPrepared : Option Road → Option Content → Option Content → ℕ → Type 0
IsPrepared None old new number = (number ≡ 16) × (new ≡ old)
IsPrepared (Some road) old new number = (IsRoadPrepared road new × (number ≡ 0)) ⊎ ((new ≡ old) × IsUnprepared number)

-- A call that succeeded made a search that uses the road's layout, if it has one.
abbrev pub IsLedAlike : Option Content → Option Content → ℕ → Type 0
IsLedAlike road search number = number ≡ 0 → layout_in search ≡ layout_in road
