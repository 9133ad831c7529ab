use Rattle.std.proofs.Common.{ap, sym, ◌∙◌}
use Rattle.std.proofs.lemmas.List.{length-map}
use Rattle.ea_search.specs.Frontiers.{Frontage}
use Rattle.ea_paths.proofs.search.find.Goals as goal

pub over-frontier-requires-clause-length : goal.over-frontier-requires-clause-length
over-frontier-requires-clause-length g c = sym (length-map _ _) ∙ c.requires.begins.emptied.0

pub over-frontier-requires-clause-entries : goal.over-frontier-requires-clause-entries
over-frontier-requires-clause-entries g c = λ entry is. absurd (c.requires.begins.emptied.1 entry is)

pub finish_noted-todo-requires : goal.finish_noted-todo-requires
finish_noted-todo-requires g c = rw c.into_parts-lists.ensures.todo (record {
  problem = c.requires.problem;
  room = c.search.ensures.room.nodes ∙ ap (λ (f : Frontage). f.todo.nodes) c.over-frontier.ensures ∙ c.requires.begins.room;
  underway = c.search.ensures.underway;
})

pub returns-clause-ended : goal.returns-clause-ended
returns-clause-ended g c =
    let finish = c.finish_noted-todo.ensures in
    record {
      finished = finish.finished;
      met = finish.met;
      had = finish.onward.are_had c.search.ensures.had;
      listed = finish.onward.listed c.search.ensures.listed;
      emptied = (rw length-map c.into_parts-lists.ensures.length, rw c.into_parts-lists.ensures.lists c.search.ensures.none);
    }
