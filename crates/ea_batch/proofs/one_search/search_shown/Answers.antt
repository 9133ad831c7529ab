use Rattle.std.proofs.lemmas.Result.{IfOk-weaker}
use Rattle.ea_report.specs.Asked.{chosen_by}
use Rattle.ea_batch.specs.Solved.{HasFoundAt, HasFoundOn, searched}
use Rattle.ea_batch.proofs.Showing.{found_shown}
use Rattle.ea_batch.proofs.one_search.search_shown.Goals as goal

pub returns-in_default : goal.returns-in_default
returns-in_default c =
    let road = c.args.road.now in
    let query = c.args.query.now in
    let chosen = chosen_by c.args.shown in
    let walks = c.args.shown.style.walks in
    IfOk-weaker c.search_given.result (λ search. HasFoundOn walks road query (searched search)) (λ search. HasFoundAt chosen walks road query (searched search))
    (λ search found. found_shown chosen walks road query (searched search) found) c.search_given.ensures
