use Rattle.std.proofs.Common.{ap, ◌∙◌, inl, inr}
use Rattle.std.proofs.lemmas.List.{length-map}
use Rattle.ea_search.specs.Frontiers.{Frontage}
use Rattle.ea_search.specs.Underway.{bound_of}
use Rattle.ea_search.specs.Worklist.{Worklist}
use Rattle.ea_search.proofs.Entries.{AwaitsScansFrom-moved}
use Rattle.ea_paths.proofs.Nearby.{worklist_is}
use Rattle.ea_paths.proofs.search.led.find_near.Goals as goal

pub over-frontier-requires-clause-entries : goal.over-frontier-requires-clause-entries
over-frontier-requires-clause-entries g c = λ entry is. absurd (c.requires.begins.emptied.1 entry is)

pub finish_noted-todo-requires : goal.finish_noted-todo-requires
finish_noted-todo-requires g c =
    let table = (g.L.Table.labels c.search_around.new.table) in
    rw c.into_parts-lists.ensures.todo (record {
      problem = c.requires.problem;
      room = c.search_around.ensures.room.nodes ∙ ap (λ (f : Frontage). f.todo.nodes) c.over-frontier.ensures ∙ c.requires.begins.room;
      underway = AwaitsScansFrom-moved _ _ _ _ table _ _ _ c.search_around.ensures.underway (λ v waits. elim waits [
        | inl listed ↦ listed
        | inr entered ↦ absurd (c.search_around.ensures.none c.if-search_around.true (bound_of table v, v) entered)
      ]);
    })

pub returns-then-search_around-clause-ends : goal.returns-then-search_around-clause-ends
returns-then-search_around-clause-ends g c =
    let finish = c.finish_noted-todo.ensures in
    let walks = finish.walks ∙ ap (λ (w : Worklist). w.walks) c.into_parts-lists.ensures.todo ∙ c.search_around.ensures.room.walks ∙ ap (λ (f : Frontage). f.todo.walks) c.over-frontier.ensures in
    record {
      places = finish.finished.places;
      listed = finish.onward.listed c.search_around.ensures.listed;
      emptied = (rw length-map c.into_parts-lists.ensures.length, rw c.into_parts-lists.ensures.lists (c.search_around.ensures.none c.if-search_around.true));
      nobody = worklist_is c.finish_noted-todo.result c.args.network.now.nodes c.args.todo.walks finish.finished.room finish.finished.nobody walks;
    }

pub returns-clause-ends : goal.returns-clause-ends
returns-clause-ends g c =
    let todo = c.into_parts-lists-2.ensures.todo in
    let nodes = ap (λ (w : Worklist). w.nodes) todo ∙ c.clear.ensures.room.nodes ∙ c.search_around.ensures.room.nodes ∙ ap (λ (f : Frontage). f.todo.nodes) c.over-frontier.ensures ∙ c.requires.begins.room in
    let walks = ap (λ (w : Worklist). w.walks) todo ∙ c.clear.ensures.room.walks ∙ c.search_around.ensures.room.walks ∙ ap (λ (f : Frontage). f.todo.walks) c.over-frontier.ensures in
    record {
      places = c.search_around.ensures.underway.places;
      listed = c.search_around.ensures.listed;
      emptied = (rw length-map c.into_parts-lists-2.ensures.length, rw c.into_parts-lists-2.ensures.lists c.clear.ensures.none);
      nobody = worklist_is c.into_parts-lists-2.result.1 c.args.network.now.nodes c.args.todo.walks nodes (ap (λ (w : Worklist). w.waiting) todo ∙ c.clear.ensures.nobody) walks;
    }
