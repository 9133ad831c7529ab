use Rattle.ea_check.specs.Lazy.{roads_in}
use Rattle.ea_check.proofs.Supported.{right_by_marks}
use Rattle.ea_check.proofs.judge.verdict.first_by_marks.Goals as goal

pub returns-then-are_all_marked-clause-other : goal.returns-then-are_all_marked-clause-other
returns-then-are_all_marked-clause-other g c =
    right_by_marks (roads_in c.args.network.now) _ (g.T.TravelTimes.classes c.args.times.now) c.args.query.now.sources c.args.reported.now c.requires.task c.requires.formed c.args.marks.now c.requires.are_supported (c.are_all_marked.ensures c.if-are_all_marked.true) (c.has_no_walks.ensures c.if-has_no_walks.true)
