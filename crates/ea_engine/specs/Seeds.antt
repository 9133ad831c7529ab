-- Which sources lower a label, and how many of their entries the pool took and handed back.
use Rattle.std.specs.Prelude.{◌≡◌, ℕ, ◌+◌, ◌^◌, ◌<◌, ◌≤◌, List, [], ◌∷◌, ◌++◌, length, Any, Contains}
use Rattle.ea_base.specs.declared.limits.TheConstants.{SHARES}
use Rattle.ea_road.specs.declared.source.Source.{Source}
use Rattle.ea_search.specs.Worklist.{Worklist}
use Rattle.ea_labels.specs.declared.record.SeatRecord.{SeatRecord}
use Rattle.ea_road.specs.Roads.{IsNode}
use Rattle.ea_labels.specs.declared.record.Bound.{Bound}
use Rattle.ea_labels.specs.Core.{first_record, lowered, lowering}
use Rattle.ea_pool.specs.Seats as pools
use Rattle.ea_pool.specs.declared.shared.account.Account.{Account}
use Rattle.ea_engine.specs.Closed.{IsReachedBy}
use Rattle.ea_engine.specs.Gathered.{AccountForAll, IsGathered}
use Rattle.ea_engine.specs.Grounds.{IsGround, tables_of}
use Rattle.ea_engine.specs.Opened.{AreOffered}
use Rattle.ea_engine.specs.Openings.{HoldsBack, OpensUpTo}
use Rattle.ea_engine.specs.Problems.{Problem}
use Rattle.ea_engine.specs.Seated.{Tables}
use Rattle.ea_engine.specs.declared.run.ground.Ground.{Ground}
use Rattle.ea_engine.specs.declared.worker.means.Seats.{Seats}
use Rattle.ea_engine.specs.declared.run.seeds.Seeded.{Seeded}
use Rattle.ea_engine.specs.declared.run.seeds.Seeds.{Seeds}
use Rattle.ea_engine.specs.declared.run.seeds.Seeded.TheVariants.{Kept, Pushed, HandedBack}

abbrev pub seeded_by : Seeded → ℕ
seeded_by Kept = 0
seeded_by Pushed = 1
seeded_by HandedBack = 0

abbrev pub back_by : Seeded → ℕ
back_by Kept = 0
back_by Pushed = 0
back_by HandedBack = 1

-- This many more entries were pushed, none was popped, and no share was given.
pub record HasPushed {K E : Type 0} (pushed : ℕ) (before after : Seats K E) : Type 0 where
  pub pushed_is : length after.pool_seat.account.pushed ≡ length before.pool_seat.account.pushed + pushed
  pub popped_is : after.pool_seat.account.popped ≡ before.pool_seat.account.popped
  pub label_shares : after.label_seat.history.shares ≡ before.label_seat.history.shares
  pub pool_shares : after.pool_seat.account.shares ≡ before.pool_seat.account.shares

-- One of the earlier sources is at the same node and departs no later.
abbrev pub IsForestalled : List Source → Source → Type 0
IsForestalled earlier source = Any (λ s. (s.node ≡ source.node) × (s.departure ≤ source.departure)) earlier

-- This many of the sources lower a label if they are offered in order: those that depart before each earlier
-- one at their node.
pub data AreSeeds : List Source → ℕ → Type 0 where
  none : AreSeeds [] 0
  forestalled : {earlier : List Source} {count : ℕ} {source : Source} → AreSeeds earlier count → IsForestalled earlier source → AreSeeds (earlier ++ source ∷ []) count
  first : {earlier : List Source} {count : ℕ} {source : Source} → AreSeeds earlier count → (IsForestalled earlier source → ⊥) → AreSeeds (earlier ++ source ∷ []) (count + 1)

-- The offer of a source lowered no label, and a seat with all shares had lowered its node's label as far.
pub record KeepsSeed (before after : SeatRecord) (source : Source) : Type 0 where
  pub same : after.lowerings ≡ before.lowerings
  pub alone : before.shares ≡ SHARES → Any (λ l. (l.node ≡ source.node) × (l.to ≤ source.departure)) before.lowerings

-- The offer of a source lowered its node's label; the seat had seen no time as early.
pub record SowsSeed (before after : SeatRecord) (source : Source) : Type 0 where
  pub from : ℕ
  pub later : IsReachedBy before.bounds source.node source.departure → ⊥
  pub lowered : after.lowerings ≡ lowering source.node from source.departure ∷ before.lowerings

-- The label of a source's node fell to its departure.
pub record Lowers (before : SeatRecord) (source : Source) (after : SeatRecord) : Type 0 where
  pub from : ℕ
  pub after_is : after ≡ lowered before source.node from source.departure

-- This many more entries were pushed with a seat of the pool, and nothing else changed.
pub record Sows (pushed : ℕ) (before after : Account) : Type 0 where
  pub pushed_is : length after.pushed ≡ length before.pushed + pushed
  pub popped_is : after.popped ≡ before.popped
  pub shares_are : after.shares ≡ before.shares

abbrev pub OffersSeed : Seeded → SeatRecord → SeatRecord → Source → Type 0
OffersSeed Kept before after source = KeepsSeed before after source
OffersSeed Pushed before after source = SowsSeed before after source
OffersSeed HandedBack before after source = SowsSeed before after source

-- A source at one of this many nodes that is known to be reached at its departure.
pub record MayOffer (known : ℕ → ℕ → Type 0) (nodes : ℕ) (source : Source) : Type 0 where
  pub node : IsNode nodes source.node
  pub is_known : known source.node source.departure

-- The seats account for all, with a worklist for the nodes of the problem's ground.
pub record MaySeed {K T E : Type 0} (known : ℕ → ℕ → Type 0) (problem : Problem) (answers : T → ℕ → ℕ → ℕ → ℕ → Type 0) (classes : T → ℕ) (ground : Ground K T E) (seats : Seats K E) (todo : Worklist) : Type 0 where
  pub is_ground : IsGround known problem answers classes ground
  pub account : AccountForAll problem (tables_of ground) ground.labels.now.nodes seats todo

-- What offering a source does to the seats of these tables and a worklist for this many nodes.
pub record HasOffered {K E : Type 0} (problem : Problem) (tables : Tables) (nodes : ℕ) (seeded : Seeded) (before after : Seats K E) (todo todo' : Worklist) (source : Source) : Type 0 where
  pub account : AccountForAll problem tables nodes after todo'
  pub reached : IsReachedBy after.label_seat.history.bounds source.node source.departure
  pub bounds : (b : Bound) → Contains before.label_seat.history.bounds b → Contains after.label_seat.history.bounds b
  pub offers : OffersSeed seeded before.label_seat.history after.label_seat.history source
  pub step : HasPushed (seeded_by seeded) before after
  pub opens : OpensUpTo (back_by seeded) todo todo'

-- What pushing the entry of a source does, whose label fell.
pub record HasSown (problem : Problem) (pool : pools.PoolView) (seeded : Seeded) (before after : pools.SeatView) (todo todo' : Worklist) (source : Source) : Type 0 where
  pub of_pool : pools.IsSeatOf pool after
  pub gathered : (r s : SeatRecord) → Lowers r source s → IsGathered problem r before.account todo.waiting → IsGathered problem s after.account todo'.waiting
  pub offers : (r s : SeatRecord) → SowsSeed r s source → OffersSeed seeded r s source
  pub step : Sows (seeded_by seeded) before.account after.account
  pub opens : OpensUpTo (back_by seeded) todo todo'

-- The seeding of an empty worklist with these sources: the nodes of those that were handed back wait.
pub record IsSeeding (sources : List Source) (before after : Worklist) (seeds : Seeds) : Type 0 where
  pub small : seeds.seeded + seeds.returned < 2 ^ 64
  pub counted : AreSeeds sources (seeds.seeded + seeds.returned)
  pub todo : HoldsBack before.nodes seeds.returned after
  pub walks_are : after.walks ≡ before.walks

-- What offering all sources in their order does to the seats and a worklist.
pub record HaveOffered {K E : Type 0} (problem : Problem) (tables : Tables) (nodes : ℕ) (before after : Seats K E) (todo todo' : Worklist) (seeds : Seeds) : Type 0 where
  pub account : AccountForAll problem tables nodes after todo'
  pub offered : AreOffered problem.query.sources after.label_seat.history
  pub step : HasPushed seeds.seeded before after
  pub opens : OpensUpTo seeds.returned todo todo'
  pub small : seeds.seeded + seeds.returned < 2 ^ 64
  pub counted : before.label_seat.history ≡ first_record → AreSeeds problem.query.sources (seeds.seeded + seeds.returned)
