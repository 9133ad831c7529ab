use Rattle.std.proofs.Common.{◌≡◌, false, rules, Contains, ap, sym, ◌∙◌}
use Rattle.ea_road.specs.Queries.{IsAsked}
use Rattle.ea_search.specs.Listings.{Searched}
use Rattle.ea_asked.proofs.Answering.{all_asked, fewer_found, has_arrivals_at}
use Rattle.ea_asked.proofs.asked_search.AskedSearch.find.Goals as goal

pub returns-then-not-is_found : goal.returns-then-not-is_found
returns-then-not-is_found g c =
    let query = c.args.query.now in
    let same = ap (λ (s : Searched). s.walks) c.self.view_is in
    rw (← same) (fewer_found c.args.network.now (g.T.TravelTimes.answers c.args.times.now) query (IsAsked query) (Contains c.args.asked.now) (λ node there. all_asked query c.requires.asks.all node) c.self.inside.walks c.whole.result c.whole.ensures)

pub returns-else-walks : goal.returns-else-walks
returns-else-walks g c =
    let is = c.unlinked.ensures.unlinked in
    let same = ap (λ (s : Searched). s.walks) c.self.view_is in
    let off : c.args.self.walks ≡ false = search rules in
    let has = has_arrivals_at c.args.network.now (g.T.TravelTimes.answers c.args.times.now) (g.T.TravelTimes.classes c.args.times.now) c.args.query.now c.nodes.ensures.network c.requires.asks.problem (g.met.T.TravelTimes.fifo c.args.times.now) c.seek-arrays.result.0.table.items c.args.asked.now c.unlinked.result.answer.labels c.seek-arrays.ensures.writes.count c.requires.are_nodes (c.seek-arrays.ensures.led c.if-not-is_found.false) c.unlinked.ensures.shows c.requires.asks.all c.unlinked.result.answer.links c.unlinked.result.answer.walks in
    record {
      arrivals = record {
        nodes = is.asked.0 ∙ c.nodes.ensures.nodes;
        target = is.asked.1 ∙ sym c.requires.asks.all;
        least = has.least;
      };
      answer = λ on. absurd (search rules);
      room = record { nodes = is.room.0 ∙ c.nodes.ensures.nodes; walks = is.room.1 ∙ sym off };
    }
