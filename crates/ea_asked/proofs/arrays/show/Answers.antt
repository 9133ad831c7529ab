use Rattle.ea_asked.proofs.Showing.{listed_more, listed_none, shows_more, shows_none}
use Rattle.ea_asked.proofs.arrays.show.Goals as goal

pub loop-node-init : goal.loop-node-init
loop-node-init c = record {
  shows = shows_none c.args.table.now c.args.asked.now c.args.labels.now.items c.requires.none.unlabelled;
  listed = listed_none _ c.args.labels.now.items c.args.shown.now c.requires.none.unlabelled;
}

pub loop-node-preserved : goal.loop-node-preserved
loop-node-preserved c =
    let is = c.requires.asked c.loop-node.node-index 0 c.loop-node-test.true in
    let so_far = c.loop-node.invariant in
    record {
      shows = shows_more c.args.table.now c.args.asked.now c.loop-node.labels.items c.loop-node.node-index c.loop-node-test.true is so_far.shows;
      listed = listed_more c.args.table.now c.args.asked.now c.loop-node.labels.items c.loop-node.node-index c.loop-node-test.true is so_far.shows c.loop-node.shown c.add.new.self so_far.listed c.add.ensures.there c.add.ensures.kept;
    }
