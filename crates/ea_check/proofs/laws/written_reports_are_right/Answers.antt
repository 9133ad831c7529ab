use Rattle.std.proofs.Common.{◌≡◌, [], ◌∷◌, false, true, ap, sym, subst}
use Rattle.std.specs.Prelude.{None, Ok}
use Rattle.ea_road.specs.Queries.{Asking, IsProblem}
use Rattle.ea_search.specs.Answers.{HasArrivals, IsAnswer}
use Rattle.ea_report.specs.Report.{problem_text}
use Rattle.ea_check.specs.Checked.{IsChecked}
use Rattle.ea_check.specs.Form.{lines_of_report}
use Rattle.ea_check.proofs.Right.{all_from}
use Rattle.ea_check.proofs.Written.{written_checked}
use Rattle.ea_check.proofs.laws.written_reports_are_right.Goals as goal

same_query : (query : Asking) → query.target ≡ None → query ≡ all_from query.sources
same_query query all = ap (λ t. record { sources = query.sources; target = t }) all

pub returns-clause-arrivals : goal.returns-clause-arrivals
returns-clause-arrivals g c = λ answer has.
    let roads = c.args.network.now in
    let query = c.args.query.now in
    let answers = g.T.TravelTimes.answers c.args.times.now in
    let same = same_query query c.requires.all in
    let problem = subst (λ (q : Asking). IsProblem roads (g.T.TravelTimes.classes c.args.times.now) q) same c.requires.problem in
    let arrivals = subst (λ (q : Asking). HasArrivals roads answers q answer) same has in
    subst (λ (q : Asking). IsChecked roads answers (query.sources ∷ []) (lines_of_report (problem_text false roads.nodes q answer)) (Ok tt)) (sym same)
    (written_checked roads answers (g.T.TravelTimes.classes c.args.times.now) query.sources c.keeps_limits.ensures problem false answer arrivals (λ asked. cc) (λ asked. cc))

pub returns-clause-walks : goal.returns-clause-walks
returns-clause-walks g c = λ answer is bounded.
    let roads = c.args.network.now in
    let query = c.args.query.now in
    let answers = g.T.TravelTimes.answers c.args.times.now in
    let same = same_query query c.requires.all in
    let problem = subst (λ (q : Asking). IsProblem roads (g.T.TravelTimes.classes c.args.times.now) q) same c.requires.problem in
    let whole = subst (λ (q : Asking). IsAnswer roads answers q answer) same is in
    subst (λ (q : Asking). IsChecked roads answers (query.sources ∷ []) (lines_of_report (problem_text true roads.nodes q answer)) (Ok tt)) (sym same)
    (written_checked roads answers (g.T.TravelTimes.classes c.args.times.now) query.sources c.keeps_limits.ensures problem true answer whole.arrivals (λ asked node walk is_node found. whole.canonical node walk is_node tt found) (λ asked. bounded))
