use Rattle.std.proofs.Common.{ℕ, List, take}
use Rattle.ea_road.specs.declared.source.Source.{Source}
use Rattle.ea_search.specs.Notes.{by_none, notes_in}
use Rattle.ea_paths.specs.Places.{HavePlaces}
use Rattle.ea_paths.specs.Replayed.{AreAfter, AreReplayed}
use Rattle.ea_paths.proofs.log_replay.replay.Given as goal

-- the notes so far were replayed
abbrev pub invariant-loop-word : goal.invariant-loop-word
invariant-loop-word l = record {
  places : HavePlaces l.network.nodes l.links l.waiting;
  after : (sources : List Source) (table : List ℕ) → AreReplayed l.network sources table by_none by_none l.initial.links l.initial.waiting.waiting → AreAfter l.network sources table (notes_in (take l.word-index l.notes)) l.links l.waiting.waiting l.ties.list.items;
}
