use Rattle.std.proofs.Common.{◌∙◌}
use Rattle.ea_paths.proofs.search.led.search_around.Goals as goal

pub search_farther-requires-clause-can : goal.search_farther-requires-clause-can
search_farther-requires-clause-can g c = record {
  problem = c.requires.can.problem;
  room = c.search_near.ensures.room.nodes ∙ c.requires.can.room;
  underway = c.search_near.ensures.underway;
}

pub returns-clause-room : goal.returns-clause-room
returns-clause-room g c = record {
  nodes = c.search_farther.ensures.room.nodes ∙ c.search_near.ensures.room.nodes;
  walks = c.search_farther.ensures.room.walks ∙ c.search_near.ensures.room.walks;
}
