use Rattle.std.proofs.Common.{◌≡◌, ◌+◌, ◌≤◌, List, [], ◌∷◌, ap, arith, length, length-append, subst}
use Rattle.std.proofs.lemmas.Result.{err_from_is_err_and}
use Rattle.ea_check.specs.Reads.{NodeWrong, NodesWrong, ReadsNode, ReadsNodes}
use Rattle.ea_check.specs.Verdicts.{Said}
use Rattle.ea_check.proofs.Keeping.{NodesLeft, all_nodes, node_more, node_wrong, nodes_ahead}
use Rattle.ea_check.proofs.Stopping.{lines_also, stop_behind, then_lines}
use Rattle.ea_check.proofs.form.problem.read_nodes.Goals as goal

pub returns-in_err-count : goal.returns-in_err-count
returns-in_err-count g c =
    let p = err_from_is_err_and c.from_residual-in_err-count.result c.from_residual-in_err-count.ensures.1 in
    let node = c.nodes.node in
    let nodes = c.args.nodes in
    rw (p.1, p.2) (record {
      sound = tt;
      read = stop_behind (NodesLeft node nodes c.nodes.reported) (NodeWrong node) (NodesWrong 1 nodes)
          (λ lines next left number wrong. node_wrong node nodes c.nodes.reported lines next left (omega (arith, c.nodes-test.true)) number wrong) _ (g.R.Device.seen c.nodes.device) _ c.args.lines.now c.nodes.lines c.read_ahead.new.lines _ c.nodes.invariant.leads c.in_err-count.ensures.reads.read;
    })

pub returns-in_err-read_node : goal.returns-in_err-read_node
returns-in_err-read_node g c =
    let p = err_from_is_err_and c.from_residual-in_err-read_node.result c.from_residual-in_err-read_node.ensures.1 in
    let node = c.nodes.node in
    let nodes = c.args.nodes in
    let kept = c.nodes.reported in
    let ahead = c.in_ok-count.ensures.reads.read in
    let more = c.read_ahead.new.reported in
    let here = node + c.in_ok-count.count in
    let low : here ≤ nodes = omega (arith, c.in_ok-count.ensures.few, c.nodes-test.true) in
    let left = then_lines (NodesLeft node nodes kept) (ReadsNodes node ahead.said) (NodesLeft here nodes more)
    (λ lines middle next left reads. nodes_ahead node nodes c.in_ok-count.count kept more ahead.said lines middle next ahead.grown ahead.many left reads) _ (g.R.Device.seen c.nodes.device) _ c.args.lines.now c.nodes.lines c.read_ahead.new.lines c.nodes.invariant.leads ahead.read in
    rw (p.1, p.2) (record {
      sound = tt;
      read = stop_behind (NodesLeft here nodes more) (NodeWrong here) (NodesWrong 1 nodes)
          (λ lines next left number wrong. node_wrong here nodes more lines next left low number wrong) _ (g.R.Device.seen c.read_ahead.new.device) _ c.args.lines.now c.read_ahead.new.lines c.read_node.new.lines _ left c.in_err-read_node.ensures.read;
    })

pub nodes-preserved : goal.nodes-preserved
nodes-preserved g c =
    let node = c.nodes.node in
    let nodes = c.args.nodes in
    let kept = c.nodes.reported in
    let ahead = c.in_ok-count.ensures.reads.read in
    let more = c.read_ahead.new.reported in
    let here = node + c.in_ok-count.count in
    let read = c.in_ok-read_node.ensures.read in
    let last = c.read_node.new.reported in
    let next_node : here + 1 ≡ node + (c.in_ok-count.count + 1) = omega arith in
    let low : here ≤ nodes = omega (arith, c.in_ok-count.ensures.few, c.nodes-test.true) in
    let left = then_lines (NodesLeft node nodes kept) (ReadsNodes node ahead.said) (NodesLeft here nodes more)
    (λ lines middle next left reads. nodes_ahead node nodes c.in_ok-count.count kept more ahead.said lines middle next ahead.grown ahead.many left reads) _ (g.R.Device.seen c.nodes.device) _ c.args.lines.now c.nodes.lines c.read_ahead.new.lines c.nodes.invariant.leads ahead.read in
    record {
      sound = c.in_ok-read_node.ensures.sound;
      each_node = omega (arith, ap (λ (l : List Said). length l) ahead.grown, length-append kept ahead.said, ahead.many, ap (λ (l : List Said). length l) read.grown, length-append more (read.said ∷ []), c.nodes.invariant.each_node);
      few = omega (arith, low);
      leads = then_lines (NodesLeft here nodes more) (ReadsNode here read.said) (NodesLeft (node + (c.in_ok-count.count + 1)) nodes last)
          (λ lines middle next left one. subst (λ n. NodesLeft n nodes last lines next) next_node (node_more here nodes more last read.said lines middle next left read.grown one)) _ (g.R.Device.seen c.read_ahead.new.device) _ c.args.lines.now c.read_ahead.new.lines c.read_node.new.lines left read.read;
    }

pub returns : goal.returns
returns g c =
    let node = c.nodes.node in
    let nodes = c.args.nodes in
    let kept = c.nodes.reported in
    record {
      sound = c.nodes.invariant.sound;
      read = record {
        each_node = omega (arith, c.nodes.invariant.each_node, c.nodes.invariant.few, c.nodes-test.false);
        read = lines_also (NodesLeft node nodes kept) (ReadsNodes 1 kept) (λ lines next left. all_nodes node nodes kept lines next left) _ _ c.args.lines.now c.nodes.lines c.nodes.invariant.leads;
      };
    }
