use Rattle.std.proofs.Common.{rules, ◌≡◌, ◌<◌, length, ap, subst, ◌∙◌, [], ◌∷◌}
use Rattle.ea_labels.specs.Core.{IsLawful}
use Rattle.ea_labels.specs.Events.{IsRunEnd}
use Rattle.ea_labels.proofs.Lawful.{word_known, words_least, words_lowered}
use Rattle.ea_labels.proofs.Moves.{closed_run, run_end, run_lawful_alone, one_more_copied}
use Rattle.ea_labels.proofs.labels.Labels.close.Goals as goal

pub loop-place-preserved : goal.loop-place-preserved
loop-place-preserved g c =
    let room : c.loop-place.place < length c.loop-place.kept.items = search rules in
    record { len = c.loop-place.invariant.len; copied = one_more_copied c.loop-place.kept.items _ _ _ room c.word.ensures c.loop-place.invariant.copied }

pub returns : goal.returns
returns g c =
    let known = g.K.Known.is_known in
    let words = c.loop-place.kept.items in
    let seat = ap (λ s. s.history) c.seat.view_is in
    let nodes : c.self.inside.table.shared.key ≡ c.args.self.nodes = c.self.invariant.2 ∙ ap (λ t. t.nodes) c.self.view_is in
    let own = c.seat.inside.seat.me.0 in
    let key = c.self.inside.table.shared.key in
    let run = closed_run known key _ own _ _ words c.close_with-closed.ensures.values.2 (search rules) (λ k h. c.loop-place.invariant.copied k (search rules)) in
    let lawful = subst (λ s. IsLawful known c.args.self.nodes words (s ∷ [])) seat
    (subst (λ n. IsLawful known n words (own ∷ [])) nodes
    (run_lawful_alone known key own words _ run.0 (ap (λ s. s.shares) seat ∙ c.requires.all_shares) run.1 run.2 run.3)) in
    record {
      len = search rules;
      known = λ node is. word_known known c.args.self.nodes words _ node lawful is;
      least = words_least known c.args.self.nodes words c.args.seat.history lawful;
      lowered_to = words_lowered known c.args.self.nodes words c.args.seat.history lawful;
      lawful = lawful;
      run = subst (λ s. IsRunEnd known c.args.self.nodes words s) seat (subst (λ n. IsRunEnd known n words own) nodes (run_end known key own words _ run.0 run.1 run.2 run.3));
    }
