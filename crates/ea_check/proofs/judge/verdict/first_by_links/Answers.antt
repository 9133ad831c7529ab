use Rattle.std.proofs.Common.{rules}
use Rattle.ea_check.proofs.judge.verdict.first_by_links.Goals as goal

pub find_links-links-requires-clause-sources : goal.find_links-links-requires-clause-sources
find_links-links-requires-clause-sources g c = rw c.sources.ensures.sources c.requires.task.starts

pub first_other-requires : goal.first_other-requires
first_other-requires g c =
    let links = rw (c.sources.ensures.sources, c.table.ensures) at c.find_links-links.ensures in
    record {
      task = c.requires.task;
      formed = c.requires.formed;
      are_ordered = search rules;
      are_links = rw c.deref-2.ensures.value links;
    }
