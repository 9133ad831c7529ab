use Rattle.std.proofs.Common.{ap, ◌∙◌, ℕ, List}
use Rattle.ea_search.specs.Underway.{bound_of}
use Rattle.ea_search.proofs.Entries.{bound_of-none}
use Rattle.ea_goal.proofs.guide.lead.Goals as goal

pub seek-ended-requires-clause-sources : goal.seek-ended-requires-clause-sources
seek-ended-requires-clause-sources g c =
    rw c.sources.ensures.sources (λ source among. (c.requires.problem.sources source among, c.requires.problem.departures source among))

pub returns-clause-listed : goal.returns-clause-listed
returns-clause-listed g c = c.seek-ended.ensures.reached.listed (λ node has. absurd (has (ap (λ (xs : List ℕ). bound_of xs node) c.requires.labels ∙ bound_of-none c.args.network.now.nodes node)))
