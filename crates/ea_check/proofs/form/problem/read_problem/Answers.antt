use Rattle.std.proofs.lemmas.Result.{MatchResult-weaker, err_from_is_err_and}
use Rattle.ea_check.specs.Reads.{NodesWrong, ProblemWrong, ReadsNodes, ReadsProblem, ReadsSources, SourcesWrong, in_nodes, in_sources}
use Rattle.ea_check.proofs.Stopping.{stop_also, stop_behind, then_lines}
use Rattle.ea_check.proofs.form.problem.read_problem.Goals as goal

pub returns-in_err-read_sources : goal.returns-in_err-read_sources
returns-in_err-read_sources g c =
    let p = err_from_is_err_and c.from_residual.result c.from_residual.ensures.1 in
    rw (p.1, p.2) (record { sound = tt; read = stop_also (SourcesWrong c.args.sources.now) (ProblemWrong c.args.nodes c.args.sources.now) (λ lines number wrong. in_sources wrong) _ _ c.args.lines.now c.read_sources.new.lines _ c.in_err-read_sources.ensures.read })

pub returns : goal.returns
returns g c =
    let sources = c.args.sources.now in
    let nodes = c.args.nodes in
    let mid = g.R.Device.seen c.read_sources.new.device in
    record {
      sound = c.read_nodes.ensures.sound;
      read = MatchResult-weaker c.read_nodes.result c.read_nodes.ensures.read
          (λ _ read. then_lines (ReadsSources sources) (ReadsNodes 1 c.read_nodes.new.reported) (ReadsProblem nodes sources c.read_nodes.new.reported)
          (λ lines middle next here there. record { middle = middle; of_sources = here; of_nodes = there; each_node = read.each_node }) _ mid _ c.args.lines.now c.read_sources.new.lines c.read_nodes.new.lines c.in_ok-read_sources.ensures.read read.read)
          (λ stop stops. stop_behind (ReadsSources sources) (NodesWrong 1 nodes) (ProblemWrong nodes sources) (λ lines next here number wrong. in_nodes here wrong) _ mid _ c.args.lines.now c.read_sources.new.lines c.read_nodes.new.lines stop c.in_ok-read_sources.ensures.read stops);
    }
