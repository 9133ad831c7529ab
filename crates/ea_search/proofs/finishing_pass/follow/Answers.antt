use Rattle.std.proofs.Common.{refl, arith}
use Rattle.ea_road.proofs.Arcs.{is_question}
use Rattle.ea_search.specs.Scans.{number_at}
use Rattle.ea_search.proofs.Entries.{Scanned-lowers, Scanned-late, Scanned-settled}
use Rattle.ea_search.proofs.Had.{AreHad-adds, KeepsLess-lower, had_at}
use Rattle.ea_search.proofs.finishing_pass.follow.Goals as goal

pub arrive-arrival-requires : goal.arrive-arrival-requires
arrive-arrival-requires g c =
    rw c.from.ensures (is_question c.args.network.now _ (number_at c.args.network.now c.args.arc.tail c.args.place) c.args.departure c.args.arc c.keeps_limits.ensures c.requires.can.classed c.requires.can.is_arc c.requires.can.in_time)

pub returns-then-arrival-le-HORIZON-clause-scanned :
    goal.returns-then-arrival-le-HORIZON-clause-scanned
returns-then-arrival-le-HORIZON-clause-scanned g c =
    let arc = c.args.arc in
    let fifo = g.met.T.TravelTimes.fifo c.args.times.now in
    let question = is_question c.args.network.now _ (number_at c.args.network.now c.args.arc.tail c.args.place) c.args.departure arc c.keeps_limits.ensures c.requires.can.classed c.requires.can.is_arc c.requires.can.in_time in
    let answer = rw c.from.ensures at c.arrive-arrival.ensures in
    Scanned-lowers _ _ _ _ c.arrive-arrival.result c.args.place arc _ _ _ _ _ _ c.requires.can.is_arc (c.requires.can.placed, refl) answer c.if-arrival-le-HORIZON.true
    (λ a h. fifo.in_order arc.class arc.weight c.args.departure c.args.departure c.arrive-arrival.result a question question answer h (omega arith))
    c.lower.ensures.offered.lowers c.lower.ensures.offered.meets c.lower.ensures.offered.still

pub returns-then-arrival-le-HORIZON-clause-had : goal.returns-then-arrival-le-HORIZON-clause-had
returns-then-arrival-le-HORIZON-clause-had g c later before =
    let arc = c.args.arc in
    let number = number_at c.args.network.now arc.tail c.args.place in
    let low = KeepsLess-lower _ _ _ _ _ _ c.lower.ensures.offered.lowers in
    AreHad-adds c.args.network.now _ _ _ _ _ _ low c.lower.ensures.offered.adds
    (had_at c.args.network.now _ _ _ arc.head arc.tail c.args.place c.arrive-arrival.result c.args.departure number (c.requires.can.placed, refl) later c.requires.can.in_time
    (record { arc = arc; is_arc = c.requires.can.is_arc; is_tail = refl; is_head = refl; answer = rw c.from.ensures at c.arrive-arrival.ensures; in_time = c.if-arrival-le-HORIZON.true })
    low) before

pub returns-else-arrival-le-HORIZON-clause-scanned :
    goal.returns-else-arrival-le-HORIZON-clause-scanned
returns-else-arrival-le-HORIZON-clause-scanned g c =
    let arc = c.args.arc in
    let fifo = g.met.T.TravelTimes.fifo c.args.times.now in
    let question = is_question c.args.network.now _ (number_at c.args.network.now c.args.arc.tail c.args.place) c.args.departure arc c.keeps_limits.ensures c.requires.can.classed c.requires.can.is_arc c.requires.can.in_time in
    let answer = rw c.from.ensures at c.arrive-arrival.ensures in
    Scanned-late _ _ _ _ c.arrive-arrival.result arc _ _ _ c.requires.can.is_arc c.if-arrival-le-HORIZON.false
    (λ a h. fifo.in_order arc.class arc.weight c.args.departure c.args.departure c.arrive-arrival.result a question question answer h (omega arith))

pub returns-then-label-departure-clause-scanned : goal.returns-then-label-departure-clause-scanned
returns-then-label-departure-clause-scanned g c =
    let arc = c.args.arc in
    let table = g.L.Table.labels c.args.table.now in
    let fifo = g.met.T.TravelTimes.fifo c.args.times.now in
    let question = is_question c.args.network.now _ (number_at c.args.network.now c.args.arc.tail c.args.place) c.args.departure arc c.keeps_limits.ensures c.requires.can.classed c.requires.can.is_arc c.requires.can.in_time in
    Scanned-settled _ _ _ c.args.departure arc table _ _ c.requires.can.is_arc (omega (arith, c.label.ensures, c.if-label-departure.true)) (λ a answer. fifo.not_before arc.class arc.weight c.args.departure a question answer)
