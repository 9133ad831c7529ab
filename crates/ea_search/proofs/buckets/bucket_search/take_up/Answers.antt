use Rattle.std.proofs.Common.{◌∙◌, ℕ, ap, inl, subst, sym}
use Rattle.ea_road.proofs.ByTail.{leaving_has}
use Rattle.ea_search.specs.Candidates.{IsPending}
use Rattle.ea_search.specs.Underway.{bound_of}
use Rattle.ea_search.proofs.Gatherings.{gathered_is_pending, had_more}
use Rattle.ea_search.proofs.buckets.bucket_search.take_up.Goals as goal

pub returns-then-time-last-clause-taken : goal.returns-then-time-last-clause-taken
returns-then-time-last-clause-taken g c = λ yes.
    let roads = c.args.network.now in
    let table = (g.L.Table.labels c.args.table.now) in
    let node = c.args.entry.1 in
    let is_node = c.requires.is_node in
    let at_label = sym c.if-label-time.true ∙ c.label.ensures in
    let gathered = c.gather.ensures.gathered yes in
    record {
      kept = gathered.kept;
      had = λ before. had_more roads _ table c.args.last node c.args.entry.0 _ _ _ before at_label c.if-time-last.true gathered;
      pending = λ v is. inl (subst (IsPending roads _ table c.gather.new.self) (ap (λ (e : ℕ × ℕ). e.1) is) (gathered_is_pending roads _ table node c.args.entry.0 _ _ _ at_label (λ n arc is_arc tail. leaving_has roads node n arc is_arc tail) gathered));
    }

pub returns-then-time-last-clause-crowded : goal.returns-then-time-last-clause-crowded
returns-then-time-last-clause-crowded g c = λ no.
    let table = (g.L.Table.labels c.args.table.now) in
    let is_node = c.requires.is_node in
    let at_label = sym c.if-label-time.true ∙ c.label.ensures in
    (at_label, c.if-time-last.true, c.gather.ensures.crowded no)

pub returns-else-label-time-clause-taken : goal.returns-else-label-time-clause-taken
returns-else-label-time-clause-taken g c = λ yes.
    let table = (g.L.Table.labels c.args.table.now) in
    let is_node = c.requires.is_node in
    let at_label = c.label.ensures in
    record {
      kept = λ other there. there;
      had = λ before. before;
      pending = λ v is. absurd (c.if-label-time.false (at_label ∙ ap (bound_of table) (ap (λ (e : ℕ × ℕ). e.1) is) ∙ sym (ap (λ (e : ℕ × ℕ). e.0) is)));
    }
