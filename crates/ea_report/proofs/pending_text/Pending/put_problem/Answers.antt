use Rattle.std.proofs.Common.{◌≡◌, List, ◌++◌, ap, ap₂, sym, ◌∙◌, arith, length}
use Rattle.std.specs.List.{flat_map}
use Rattle.ea_road.specs.declared.source.Source.{Source}
use Rattle.ea_report.specs.Asked.{chosen_by}
use Rattle.ea_report.specs.Report.{asked_line, node_count, report_text, reported_node, reported_nodes, start_line}
use Rattle.ea_report.proofs.Pieces.{lines_as}
use Rattle.ea_report.proofs.Problems.{all_text, target_text}
use Rattle.ea_report.proofs.pending_text.Pending.put_problem.Goals as goal

pub returns-in-None : goal.returns-in-None
returns-in-None g c =
    let style = c.args.options.style in
    let chosen = chosen_by c.args.options in
    let answer = c.args.answer.now in
    let text : flat_map (start_line style.direction) c.sources-sources.result.now ++ reported_nodes style chosen c.nodes.result answer ≡ report_text style chosen c.args.network.now.nodes c.args.query.now answer =
    ap₂ (λ sources nodes. flat_map (start_line style.direction) sources ++ reported_nodes style chosen nodes answer) c.sources-sources.ensures.sources c.nodes.ensures.nodes
    ∙ all_text style chosen c.args.network.now.nodes c.args.query.now answer (sym c.target.ensures.target ∙ c.in-None.is) in
    let sources = ap (λ (xs : List Source). length xs) c.sources-sources.ensures.sources in
    let nodes = ap (node_count chosen) c.nodes.ensures.nodes in
    lines_as c.put_all.result _ _ _ _ _ _ _ _ (omega (arith, sources, nodes)) text c.put_all.ensures

pub returns-in-Some : goal.returns-in-Some
returns-in-Some g c =
    let style = c.args.options.style in
    let chosen = chosen_by c.args.options in
    let answer = c.args.answer.now in
    let target = c.in-Some.target in
    let text : flat_map (asked_line style.direction target) c.sources-sources.result.now ++ reported_node style answer target ≡ report_text style chosen c.args.network.now.nodes c.args.query.now answer =
    ap (λ sources. flat_map (asked_line style.direction target) sources ++ reported_node style answer target) c.sources-sources.ensures.sources
    ∙ target_text style chosen c.args.network.now.nodes c.args.query.now answer target (sym c.target.ensures.target ∙ c.in-Some.is) in
    let sources = ap (λ (xs : List Source). length xs) c.sources-sources.ensures.sources in
    lines_as c.put_target.result _ _ _ _ _ _ _ _ (omega (arith, sources)) text c.put_target.ensures
