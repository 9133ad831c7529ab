use Rattle.clap.specs.Words.{found_of, rows_of}
use Rattle.ea_options.proofs.InParts.{all_there, no_counts, no_departures, no_prepare, no_queue}
use Rattle.ea_options.proofs.chosen.options_in.Goals as goal

pub returns-in_err-counts-clause-options : goal.returns-in_err-counts-clause-options
returns-in_err-counts-clause-options c = cc (no_counts (rows_of (found_of c.args.matches.now)) c.in_err-counts.ensures.counts)

pub returns-in_err-queue-clause-options : goal.returns-in_err-queue-clause-options
returns-in_err-queue-clause-options c = cc (no_queue (rows_of (found_of c.args.matches.now)) c.in_ok-counts.counts c.in_ok-counts.ensures.counts c.in_err-queue.ensures.queue)

pub returns-in_err-departures-clause-options : goal.returns-in_err-departures-clause-options
returns-in_err-departures-clause-options c =
    cc (no_departures (rows_of (found_of c.args.matches.now)) c.in_ok-counts.counts c.in_ok-queue.queue c.in_ok-counts.ensures.counts c.in_ok-queue.ensures.queue c.in_err-departures.ensures.departures)

pub returns-in_err-prepare-clause-options : goal.returns-in_err-prepare-clause-options
returns-in_err-prepare-clause-options c =
    cc (no_prepare (rows_of (found_of c.args.matches.now)) c.in_ok-counts.counts c.in_ok-queue.queue c.in_ok-departures.departures c.in_ok-counts.ensures.counts c.in_ok-queue.ensures.queue c.in_ok-departures.ensures.departures c.in_err-prepare.ensures)

pub returns-clause-options : goal.returns-clause-options
returns-clause-options c = all_there (rows_of (found_of c.args.matches.now)) c.in_ok-counts.counts c.in_ok-queue.queue c.in_ok-departures.departures c.in_ok-prepare.prepare c.flags_in-flags.result
    c.in_ok-counts.ensures.counts c.in_ok-queue.ensures.queue c.in_ok-departures.ensures.departures c.in_ok-prepare.ensures c.flags_in-flags.ensures
