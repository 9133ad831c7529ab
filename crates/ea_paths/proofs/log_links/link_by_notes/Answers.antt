use Rattle.std.proofs.Common.{rules, List, sym, subst, arith}
use Rattle.ea_search.specs.declared.link.Link.{Link}
use Rattle.ea_search.specs.Notes.{by_none, had_after, met_after, notes_in}
use Rattle.ea_paths.specs.Replayed.{AreReplayed}
use Rattle.ea_paths.proofs.Mendings.{Settled-mended}
use Rattle.ea_paths.proofs.Linked.{are_links}
use Rattle.ea_paths.proofs.Linkings.{AreSown-lower}
use Rattle.ea_paths.proofs.Numbered.{AreMended-replayed}
use Rattle.ea_paths.proofs.Sowings.{AreReplayed-none, AreReplayed-sown}
use Rattle.ea_paths.proofs.log_links.link_by_notes.Goals as goal

pub sow_all-requires-clause-sources : goal.sow_all-requires-clause-sources
sow_all-requires-clause-sources g c = rw c.requires.can.begins.room c.requires.can.starts

pub sow_all-requires-2-clause-sources : goal.sow_all-requires-2-clause-sources
sow_all-requires-2-clause-sources g c = rw c.replay.ensures.places.room c.requires.can.starts

pub returns : goal.returns
returns g c = record {
  places = search rules;
  done = rw (← c.deref-table.ensures.value) (λ yes.
      let network = c.args.network.now in
      let answers = g.T.TravelTimes.answers c.args.times.now in
      let fifo = g.met.T.TravelTimes.fifo c.args.times.now in
      let can = c.requires.can in
      let sources = c.args.sources.now in
      let table = c.deref-table.result.now in
      let notes = notes_in c.as_slice.result.now in
      let waiting = c.sow_all-2.new.waiting.waiting in
      let had = had_after notes by_none in
      let met = met_after notes by_none in
      let P : List Link → Type 0 = λ xs. AreReplayed network sources table by_none by_none xs c.args.waiting.now.waiting in
      let first = subst P (sym c.requires.can.begins.none) (AreReplayed-none network sources table c.args.waiting.now.waiting) in
      let begun = AreReplayed-sown network sources table by_none by_none _ _ _ _ _ first c.sow_all.ensures.offers in
      let followed = c.replay.ensures.done c.if-not-replay.false sources table begun in
      let again = AreReplayed-sown network sources table had met _ _ _ _ _ followed.0 c.sow_all-2.ensures.offers in
      let settled = c.settle.ensures.settled c.if-not-settle.false in
      let told = rw (← c.deref-table.ensures.value, ← c.as_slice.ensures) at c.requires.notes in
      let settled_by = AreMended-replayed network answers _ c.keeps_limits.ensures can.classed fifo table had met told.had told.met sources c.sow_all-2.new.links c.settle.new.links waiting c.settle.ensures.places again settled.0 in
      let kept = c.mend_waiting.ensures.kept in
      let mended = kept.mended sources settled_by in
      let done = c.mend_waiting.ensures.done yes in
      let all = Settled-mended network answers sources table c.mend_waiting.new.links _ done.0 mended (done.1 settled.1) in
      let sown = AreSown-lower sources table _ c.mend_waiting.new.links _ c.sow_all-2.ensures.sown (λ v. (let same = (settled.0 v).level in let low = kept.lower v in omega arith)) in
      record {
        are_links = are_links network answers _ sources c.keeps_limits.ensures can.classed fifo can.starts table (rw (← c.deref-table.ensures.value) at can.labels) c.mend_waiting.new.links all sown;
        nobody = done.0;
        room = kept.places.room;
      });
}
