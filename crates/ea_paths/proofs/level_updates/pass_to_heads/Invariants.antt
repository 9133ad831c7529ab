use Rattle.ea_paths.specs.Places.{HavePlaces}
use Rattle.ea_paths.specs.Replayed.{StayAfter}
use Rattle.ea_paths.proofs.level_updates.pass_to_heads.Given as goal

-- what was passed on so far
abbrev pub invariant-loop-arc : goal.invariant-loop-arc
invariant-loop-arc l = record {
  places : HavePlaces l.initial.waiting.nodes l.links l.waiting;
  stay : StayAfter l.initial.links l.initial.waiting.waiting l.initial.ties.list.items l.links l.waiting.waiting l.ties.list.items;
}
