use Rattle.ea_paths.specs.Linkable.{LinksSources}
use Rattle.ea_paths.proofs.log_links.sow_all.Given as goal

-- the sources so far were sown
abbrev pub invariant-loop-source : goal.invariant-loop-source
invariant-loop-source l = record {
  linked : LinksSources l.sources l.table l.source-index l.initial.links l.initial.waiting l.links l.waiting;
}
