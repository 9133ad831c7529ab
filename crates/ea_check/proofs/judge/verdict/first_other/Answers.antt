use Rattle.std.proofs.Common.{arith}
use Rattle.std.proofs.lemmas.Result.{err_from_is_err_and}
use Rattle.ea_check.proofs.Judged.{attained_more, known_all, known_fault, known_more}
use Rattle.ea_check.proofs.judge.verdict.first_other.Goals as goal

pub returns-in_err-other : goal.returns-in_err-other
returns-in_err-other g c =
    let p = err_from_is_err_and c.from_residual.result c.from_residual.ensures.1 in
    rw (p.1, p.2) (known_fault c.args.network.now _ (g.T.TravelTimes.classes c.args.times.now) c.args.query.now.sources c.args.reported.now c.requires.task (g.met.T.TravelTimes.fifo c.args.times.now) c.requires.formed c.loop-node.node c.in_err-other.field-0.0 c.loop-node.invariant.attained c.in_err-other.ensures.other)

pub loop-node-preserved : goal.loop-node-preserved
loop-node-preserved g c = record {
  compares = c.in_ok-other.ensures.compares;
  attained = attained_more c.args.network.now _ (g.T.TravelTimes.classes c.args.times.now) c.args.query.now.sources c.args.reported.now c.requires.task (g.met.T.TravelTimes.fifo c.args.times.now) c.requires.formed c.loop-node.node c.in_ok-other.other c.in_ok-other.ensures.other c.loop-node.invariant.attained;
  canonical = rw c.or-first.ensures (known_more c.args.network.now _ (g.T.TravelTimes.classes c.args.times.now) c.args.query.now.sources c.args.reported.now c.requires.task (g.met.T.TravelTimes.fifo c.args.times.now) c.requires.formed c.loop-node.node c.loop-node.first c.in_ok-other.other c.in_ok-other.ensures.other c.loop-node.invariant.canonical);
}

pub returns : goal.returns
returns g c = known_all c.args.network.now _ (g.T.TravelTimes.classes c.args.times.now) c.args.query.now.sources c.args.reported.now c.requires.task (g.met.T.TravelTimes.fifo c.args.times.now) c.requires.formed c.loop-node.node c.loop-node.first (omega (arith, c.nodes-node-end.ensures.nodes)) c.loop-node.invariant.attained c.loop-node.invariant.canonical

pub loop-node-init : goal.loop-node-init
loop-node-init g c = record {
  compares = record { left = c.reader.ensures; passed = c.new.ensures c.args.links.now c.reader.result.arcs.items };
  attained = λ before less. record {
    level = λ said is_said has_time. absurd (omega (arith, is_said.0, less));
    walk = λ said walk is_said writes. absurd (omega (arith, is_said.0, less));
  };
  canonical = λ before less said walk is_said writes. absurd (omega (arith, is_said.0, less));
}
