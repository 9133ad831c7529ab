use Rattle.std.proofs.Common.{inl, inr, refl, arith}
use Rattle.std.proofs.lemmas.Bool.{cases_lt}
use Rattle.ea_road.proofs.Arcs.{is_question}
use Rattle.ea_search.specs.Scans.{number_at}
use Rattle.ea_search.proofs.Gatherings.{Gathered-adds, Gathered-keeps}
use Rattle.ea_search.proofs.buckets.candidates.Candidates.look_at.Goals as goal

pub arrive-time-requires : goal.arrive-time-requires
arrive-time-requires g c =
    rw c.from.ensures (is_question c.args.network.now _ (number_at c.args.network.now c.args.arc.tail c.args.place) c.args.departure c.args.arc c.keeps_limits.ensures c.requires.can.classed c.requires.can.is_arc c.requires.can.in_time)

pub returns-clause-gathered : goal.returns-clause-gathered
returns-clause-gathered g c =
    let arc = c.args.arc in
    let table = g.L.Table.labels c.args.table.now in
    let time = c.arrive-time.result in
    let fifo = g.met.T.TravelTimes.fifo c.args.times.now in
    let question = is_question c.args.network.now _ (number_at c.args.network.now c.args.arc.tail c.args.place) c.args.departure arc c.keeps_limits.ensures c.requires.can.classed c.requires.can.is_arc c.requires.can.in_time in
    let answer = rw c.from.ensures at c.arrive-time.ensures in
    elim (cases_lt c.last-last.result time) [
      | inl late ↦ rw (c.add.ensures.late late) (Gathered-keeps c.args.network.now _ (number_at c.args.network.now c.args.arc.tail c.args.place) c.args.departure arc table c.args.self.now c.requires.can.is_arc
          (λ a other in_time. let low = fifo.in_order arc.class arc.weight c.args.departure c.args.departure time a question question answer other (omega arith) in omega (arith, low, late, c.last-last.ensures, in_time)))
      | inr soon ↦ rw (c.add.ensures.in_time soon) (Gathered-adds c.args.network.now _ (number_at c.args.network.now c.args.arc.tail c.args.place) c.args.departure time c.args.place arc table c.args.self.now c.requires.can.is_arc (c.requires.can.placed, refl) answer (omega (arith, soon, c.last-last.ensures))
          (λ a other.
          let low = fifo.in_order arc.class arc.weight c.args.departure c.args.departure time a question question answer other (omega arith) in
          let high = fifo.in_order arc.class arc.weight c.args.departure c.args.departure a time question question other answer (omega arith) in
          omega (arith, low, high)))
    ]

pub returns-then-last-departure-clause-gathered : goal.returns-then-last-departure-clause-gathered
returns-then-last-departure-clause-gathered g c =
    let arc = c.args.arc in
    let table = g.L.Table.labels c.args.table.now in
    let fifo = g.met.T.TravelTimes.fifo c.args.times.now in
    let question = is_question c.args.network.now _ (number_at c.args.network.now c.args.arc.tail c.args.place) c.args.departure arc c.keeps_limits.ensures c.requires.can.classed c.requires.can.is_arc c.requires.can.in_time in
    Gathered-keeps c.args.network.now _ (number_at c.args.network.now c.args.arc.tail c.args.place) c.args.departure arc table c.args.self.now c.requires.can.is_arc
    (λ a answer in_time. let after = fifo.not_before arc.class arc.weight c.args.departure a question answer in omega (arith, after, c.if-last-departure.true, c.last-last.ensures, c.requires.can.in_time))
