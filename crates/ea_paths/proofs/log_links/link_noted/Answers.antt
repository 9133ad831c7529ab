use Rattle.std.proofs.Common.{rules, ◌≡◌, ◌≤◌, inl, inr, sym, ◌∙◌, ap, arith}
use Rattle.std.proofs.lemmas.Bool.{false≢true}
use Rattle.ea_base.specs.declared.limits.TheConstants.{HORIZON}
use Rattle.ea_road.specs.declared.TheConstants.{NONE}
use Rattle.ea_road.specs.Labels.{limit}
use Rattle.ea_search.specs.Underway.{bound_of}
use Rattle.ea_paths.proofs.log_links.link_noted.Goals as goal

pub link_by_notes-requires-clause-can : goal.link_by_notes-requires-clause-can
link_by_notes-requires-clause-can g c =
    let problem = c.requires.all.problem in
    record {
      classed = problem.classed;
      starts = rw c.sources-sources.ensures.sources (λ source among. (problem.sources source among, problem.departures source among));
      labels = c.requires.log.met.places;
      begins = c.requires.none;
    }

pub link_by_notes-requires-clause-notes : goal.link_by_notes-requires-clause-notes
link_by_notes-requires-clause-notes g c = record {
  had = λ v u k was. c.requires.log.had v u k (c.tell.ensures c.if-tell.true, was);
  met = λ node has.
      let table = c.args.noted.now.labels.items in
      let before = c.requires.log.met in
      elim (before.settled node has) [
        | inl all ↦ λ number head arrival step. (
          (all number head arrival step).0,
          λ same.
              let found = (all number head arrival step).1 same in
              elim found.2 [
                | inl cut ↦ absurd (false≢true (sym cut ∙ c.tell.ensures c.if-tell.true))
                | inr met ↦ (found.0, found.1, met)
              ],
        )
        | inr (inl waits) ↦ absurd (omega (arith, waits.1))
        | inr (inr beyond) ↦ (
            let time : bound_of table node ≤ HORIZON = (before.reached node has).within in
            let none : limit c.args.query.now.target (bound_of table) ≡ NONE = ap (λ target. limit target (bound_of table)) c.requires.all.all in
            absurd (omega (arith, beyond)))
      ];
}

pub link_all-requires : goal.link_all-requires
link_all-requires g c =
    let problem = c.requires.all.problem in
    record {
      classed = problem.classed;
      starts = rw c.sources-sources.ensures.sources (λ source among. (problem.sources source among, problem.departures source among));
      labels = rw c.deref.ensures.value c.requires.log.met.places;
      begins = search rules;
    }
