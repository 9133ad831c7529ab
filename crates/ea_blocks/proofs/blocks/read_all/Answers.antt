use Rattle.std.proofs.Common.{[], arith, length}
use Rattle.std.proofs.lemmas.Grind.{common_steps}
use Rattle.ea_blocks.proofs.Taken.{all_taken, at_most_taken, ended, failed_so, from_start, was_borne, within_limit}
use Rattle.ea_blocks.proofs.blocks.read_all.Goals as goal

pub returns-in-Ok-clause-all : goal.returns-in-Ok-clause-all
returns-in-Ok-clause-all g c =
    let taken = from_start c.args.limit _ _ _ _ _ _ _ _ c.new-bytes.ensures.items c.in-Ok.ensures.more (c.in_ok-blocks.ensures.1 _) in
    all_taken c.args.limit _ _ c.fill.new.block.items _ _ taken (ended c.in-Ok.field-0 _ 18446744073709551615 (length c.fill.new.block.items) c.in-Ok.ensures.full c.in-Ok.ensures.end (grind (arith, common_steps)))

pub returns-in-Ok-clause-within : goal.returns-in-Ok-clause-within
returns-in-Ok-clause-within g c =
    let taken = from_start c.args.limit _ _ _ _ _ _ _ _ c.new-bytes.ensures.items c.in-Ok.ensures.more (c.in_ok-blocks.ensures.1 _) in
    within_limit c.args.limit _ _ c.fill.new.block.items _ _ taken

pub returns-in-Ok-clause-left : goal.returns-in-Ok-clause-left
returns-in-Ok-clause-left g c =
    let taken = from_start c.args.limit _ _ _ _ _ _ _ _ c.new-bytes.ensures.items c.in-Ok.ensures.more (c.in_ok-blocks.ensures.1 _) in
    at_most_taken c.args.limit _ _ c.fill.new.block.items _ _ taken

pub returns-in-Ok-clause-counts : goal.returns-in-Ok-clause-counts
returns-in-Ok-clause-counts g c =
    let taken = from_start c.args.limit _ _ _ _ _ _ _ _ c.new-bytes.ensures.items c.in-Ok.ensures.more (c.in_ok-blocks.ensures.1 _) in
    was_borne c.args.limit _ _ c.fill.new.block.items _ _ taken

pub returns-clause-too_large : goal.returns-clause-too_large
returns-clause-too_large g c =
    let stopped = c.in-Err.ensures.fault c.args.limit _ [] (c.in_ok-blocks.ensures.1 _) in
    λ e. stopped.too_large cc

pub returns-clause-read_failed : goal.returns-clause-read_failed
returns-clause-read_failed g c =
    let stopped = c.in-Err.ensures.fault c.args.limit _ [] (c.in_ok-blocks.ensures.1 _) in
    λ e. failed_so c.args.limit _ _ c.in-Err.fault stopped cc

pub returns-clause-left : goal.returns-clause-left
returns-clause-left g c =
    let stopped = c.in-Err.ensures.fault c.args.limit _ [] (c.in_ok-blocks.ensures.1 _) in
    stopped.taken

pub returns-clause-counts : goal.returns-clause-counts
returns-clause-counts g c =
    let stopped = c.in-Err.ensures.fault c.args.limit _ [] (c.in_ok-blocks.ensures.1 _) in
    stopped.counts
