use Rattle.std.proofs.Common.{true, sym, inl, inr}
use Rattle.std.proofs.lemmas.Bool.{false≢true}
use Rattle.ea_search.specs.declared.log.note.Note.{Note}
use Rattle.ea_search.proofs.Notings.{had_adds, met_here, met_still}
use Rattle.ea_search.proofs.labels.logged_table.NotedTable.meet.Goals as goal

pub returns-clause-notes : goal.returns-clause-notes
returns-clause-notes c =
    let note : Note = record { node = c.args.node; from = c.args.from; place = c.args.place; again = true } in
    record {
      meets = met_here _ _ _ _ note c.note.ensures.noted;
      still = λ v u k met. met_still _ _ _ _ note c.note.ensures.noted v u k (λ fell. absurd (false≢true (sym fell))) met;
      adds = λ v u k has. elim (had_adds _ _ _ _ note c.note.ensures.noted v u k has) [
        | inl new ↦ inl new
        | inr old ↦ inr old.1
      ];
    }
