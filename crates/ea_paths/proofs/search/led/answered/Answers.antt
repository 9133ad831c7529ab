use Rattle.std.proofs.Common.{sym, ◌∙◌}
use Rattle.std.proofs.lemmas.Bool.{false≢true}
use Rattle.ea_paths.proofs.LedAnswers.{led_has_arrivals}
use Rattle.ea_paths.proofs.search.led.answered.Goals as goal

pub returns-else-walks : goal.returns-else-walks
returns-else-walks g c = λ before nodes walks.
    let answer = c.unlinked.ensures in
    let pair = c.requires.pair in
    let network = c.nodes.ensures.network in
    let has = led_has_arrivals c.args.network.now _ _ c.args.query.now _ pair.asks network pair.problem (g.met.T.TravelTimes.fifo c.args.times.now) _ c.requires.labelled.labels c.requires.led c.unlinked.result.answer.links c.unlinked.result.answer.walks in
    record {
      arrivals = record {
        nodes = answer.asked.0 ∙ c.nodes.ensures.nodes;
        target = answer.asked.1 ∙ sym pair.asks;
        least = rw answer.labels has.least;
      };
      answer = λ yes. absurd (false≢true (sym c.if-walks.false ∙ sym walks ∙ yes));
      room = (answer.room.0 ∙ c.nodes.ensures.nodes ∙ sym nodes, answer.room.1 ∙ sym walks);
    }
