use Rattle.ea_road.specs.Labels.{label_of}
use Rattle.ea_paths.proofs.Nearby.{fixed_is_led}
use Rattle.ea_paths.proofs.search.led.search_arrays.Goals as goal

pub returns-clause-led : goal.returns-clause-led
returns-clause-led g c = λ none.
    let pair = c.requires.pair in
    let finished = c.find_near-lists.ensures.finished none in
    fixed_is_led c.args.network.now (g.T.TravelTimes.answers c.args.times.now) (g.T.TravelTimes.classes c.args.times.now) c.args.query.now c.args.target (label_of c.find_near-lists.new.table.labels.items) pair.asks c.keeps_limits.ensures pair.problem (g.met.T.TravelTimes.fifo c.args.times.now) finished.fixed
