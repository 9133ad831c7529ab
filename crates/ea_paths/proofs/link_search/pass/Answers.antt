use Rattle.std.proofs.Common.{◌≡◌, ℕ, ◌-◌, get_or, sym, ◌∙◌, ap, subst, inl, inr, arith}
use Rattle.ea_road.proofs.Arcs.{is_question}
use Rattle.ea_search.specs.Links.{link}
use Rattle.ea_search.specs.Underway.{bound_of}
use Rattle.ea_search.proofs.Entries.{step-head, step-answer}
use Rattle.ea_paths.specs.Offers.{IsOne, MeetsBound, OffersEach, Precedes}
use Rattle.ea_paths.proofs.Linkings.{MeetsBound-arc, tight-arrival}
use Rattle.ea_paths.proofs.Offerings.{along_none, along_one}
use Rattle.ea_search.proofs.Places.{bound_of_read}
use Rattle.ea_paths.proofs.link_search.pass.Goals as goal

pub arrive-arrival-requires : goal.arrive-arrival-requires
arrive-arrival-requires g c =
    let by = c.requires.link in
    rw c.from.ensures (is_question c.args.network.now _ c.args.new.arc c.args.departure c.args.arc c.keeps_limits.ensures c.requires.can.classed by.is_arc by.within)

pub returns-then-arrival-least : goal.returns-then-arrival-least
returns-then-arrival-least g c =
    let table = c.args.table.now in
    let arc = c.args.arc in
    let by = c.requires.link in
    let answer = rw c.from.ensures at c.arrive-arrival.ensures in
    let node = (c.keeps_limits.ensures.each_fits c.args.new.arc arc by.is_arc).head in
    let at_head : c.arrive-arrival.result ≡ bound_of table arc.head = c.if-arrival-least.true ∙ bound_of_read table arc.head node.from_one (omega (arith, node.to_last, c.requires.can.labels)) in
    let tight = MeetsBound-arc _ _ table c.args.new.from c.args.new.arc c.args.departure c.arrive-arrival.result arc by.is_arc by.tail answer by.within c.if-arrival-le-HORIZON.true by.departs at_head in
    let P : ℕ → Type 0 = λ n. OffersEach n (IsOne arc.head c.args.new) c.args.links.now c.args.waiting.now c.relink.new.links c.relink.new.waiting in
    along_one _ _ table _ c.args.new arc _ _ _ _ by.is_arc tight (subst P c.requires.can.room c.relink.ensures)

pub returns-else-arrival-le-HORIZON :
    goal.returns-else-arrival-le-HORIZON
returns-else-arrival-le-HORIZON g c = along_none _ _ c.args.table.now _ c.args.new c.args.links.now c.args.waiting.now never
  where
    never : (v : ℕ) → MeetsBound c.args.network.now (g.T.TravelTimes.answers c.args.times.now) c.args.table.now c.args.new.from c.args.new.arc v → Precedes c.args.new (link c.args.links.now v) → ⊥
    never v tight better =
        let table = c.args.table.now in
        let arc = c.args.arc in
        let by = c.requires.link in
        let answer = rw c.from.ensures at c.arrive-arrival.ensures in
        let node = (c.keeps_limits.ensures.each_fits c.args.new.arc arc by.is_arc).head in
        let fifo = g.met.T.TravelTimes.fifo c.args.times.now in
        let here = tight-arrival _ _ _ table c.args.new.from c.args.new.arc v c.args.departure c.arrive-arrival.result arc c.keeps_limits.ensures c.requires.can.classed fifo by.is_arc by.within by.departs answer tight in
        let read : get_or table (arc.head - 1) 0 ≡ bound_of table v = bound_of_read table arc.head node.from_one (omega (arith, node.to_last, c.requires.can.labels)) ∙ ap (bound_of table) here.0 in
        elim c.else-arrival-le-HORIZON.either [
          | inl other ↦ absurd (other.1 (here.1 ∙ sym read))
          | inr late ↦ omega (arith, here.1, here.2, late)
        ]

pub returns-then-least-departure : goal.returns-then-least-departure
returns-then-least-departure g c = along_none _ _ c.args.table.now _ c.args.new c.args.links.now c.args.waiting.now never
  where
    never : (v : ℕ) → MeetsBound c.args.network.now (g.T.TravelTimes.answers c.args.times.now) c.args.table.now c.args.new.from c.args.new.arc v → Precedes c.args.new (link c.args.links.now v) → ⊥
    never v tight better =
        let table = c.args.table.now in
        let arc = c.args.arc in
        let by = c.requires.link in
        let network = c.keeps_limits.ensures in
        let node = (network.each_fits c.args.new.arc arc by.is_arc).head in
        let fifo = g.met.T.TravelTimes.fifo c.args.times.now in
        let head = step-head _ _ c.args.new.from (bound_of table c.args.new.from) c.args.new.arc v (bound_of table v) arc by.is_arc tight.step in
        let answer = step-answer _ _ c.args.new.from (bound_of table c.args.new.from) c.args.new.arc v (bound_of table v) arc by.is_arc tight.step in
        let question = is_question c.args.network.now _ c.args.new.arc (bound_of table c.args.new.from) arc network c.requires.can.classed by.is_arc tight.from_within in
        let onward = fifo.not_before arc.class arc.weight (bound_of table c.args.new.from) (bound_of table v) question answer in
        let read : get_or table (arc.head - 1) 0 ≡ bound_of table v = bound_of_read table arc.head node.from_one (omega (arith, node.to_last, c.requires.can.labels)) ∙ ap (bound_of table) head in
        let low = c.if-least-departure.true in
        let same = by.departs in
        omega (arith, low, read, onward, same)
