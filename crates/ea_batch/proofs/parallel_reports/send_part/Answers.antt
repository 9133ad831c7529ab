use Rattle.std.proofs.Common.{◌≡◌, ◌∙◌, ◌+◌, ◌<◌, arith, length, refl, sym, subst, take}
use Rattle.std.proofs.lemmas.Result.{err_from_is_err_and}
use Rattle.ea_load.specs.Posed.{IsPosed, times_on}
use Rattle.ea_report.specs.Asked.{shape_of}
use Rattle.ea_batch.specs.Sent.{AreSent}
use Rattle.ea_batch.proofs.Sent.{sent_next, stops}
use Rattle.std.proofs.lemmas.Option.{slice_get_read}
use Rattle.ea_batch.specs.Drafts.{SendsUpTo}
use Rattle.ea_batch.proofs.Going.{goes_nowhere}
use Rattle.ea_batch.proofs.parallel_reports.send_part.Goals as goal

pub returns-in_err-send_draft-clause-sends : goal.returns-in_err-send_draft-clause-sends
returns-in_err-send_draft-clause-sends g c =
    let p = err_from_is_err_and c.from_residual.result c.from_residual.ensures.1 in
    let i = c.args.span.from + c.loop-k.k in
    let inside : i < length c.args.job.queries.now = omega (arith, c.loop-k-test.true, c.loop-k.auto.k-end, c.requires.span.0, c.requires.span.1) in
    rw (p.1, p.2) (record { cut = λ first fits before. stops (shape_of c.args.job.shown) c.args.job.road.now.network (times_on c.args.job.road.now) c.args.job.queries.now i c.index-queries-span.result inside c.index-queries-span.is first _ _ _ (c.loop-k.invariant.sent.sent first fits before) _ c.in_err-send_draft.ensures.sends })

pub loop-k-preserved : goal.loop-k-preserved
loop-k-preserved g c =
    let i = c.args.span.from + c.loop-k.k in
    let k = c.loop-k.k in
    let inv = c.loop-k.invariant in
    let shape = shape_of c.args.job.shown in
    let network = c.args.job.road.now.network in
    let times = times_on c.args.job.road.now in
    let all = c.args.job.queries.now in
    let now = g.W.Device.seen c.send_draft.new.out in
    let inside : i < length all = omega (arith, c.loop-k-test.true, c.loop-k.auto.k-end, c.requires.span.0, c.requires.span.1) in
    let more : i + 1 ≡ c.args.span.from + (k + 1) = omega arith in
    record {
      sent = record { sent = λ first fits before. subst (λ n. AreSent shape network times (take n all) first now c.send_draft.new.self.written) more (sent_next shape network times all i c.index-queries-span.result inside c.index-queries-span.is first _ now _ c.send_draft.new.self.written fits (inv.sent.sent first fits before) c.in_ok-send_draft.ensures.sends.sent) };
      bound = omega (arith, c.in_ok-send_draft.ensures.sends.bound, inv.bound);
      search = c.send_draft.ensures.aided.search;
      aids = c.send_draft.ensures.aided.aids ∙ inv.aids;
      left = c.take_draft-draft.ensures.left;
    }

pub loop-k-init : goal.loop-k-init
loop-k-init g c =
    let now = g.W.Device.seen c.args.out.now in
    let from = c.args.span.from in
    let written = c.args.progress.now.written in
    let start : from ≡ from + 0 = omega arith in
    record {
      sent = subst (λ n. SendsUpTo c.args.job from n now written now written) start (goes_nowhere c.args.job from now written);
      bound = omega (arith, c.requires.stands.room);
      search = c.requires.stands.aided.search;
      aids = refl;
      left = λ j d low inside. c.requires.drafts j d inside;
    }

pub returns-clause-sends : goal.returns-clause-sends
returns-clause-sends g c =
    let inv = c.loop-k.invariant in
    let end : c.args.span.from + c.loop-k.k ≡ c.args.span.to = omega (arith, c.loop-k-test.false, c.loop-k.auto.k-end, c.requires.span.0) in
    record {
      went = subst (λ n. SendsUpTo c.args.job c.args.span.from n (g.W.Device.seen c.args.out.now) c.args.progress.now.written (g.W.Device.seen c.loop-k.out) c.loop-k.progress.written) end inv.sent;
      stands = record {
        is_job = c.requires.stands.is_job;
        room = omega (arith, inv.bound, c.loop-k-test.false, c.loop-k.auto.k-end, c.requires.span.0);
        aided = record { search = inv.search; aids = rw inv.aids c.requires.stands.aided.aids };
      };
    }

pub send_draft-requires-clause-draft : goal.send_draft-requires-clause-draft
send_draft-requires-clause-draft g c =
    let all = c.args.job.queries.now in
    let i = c.args.span.from + c.loop-k.k in
    let inside : i < length all = omega (arith, c.loop-k-test.true, c.loop-k.auto.k-end, c.requires.span.0, c.requires.span.1) in
    c.take_draft-draft.ensures.draft c.index-queries-span.result (slice_get_read all (length all) i c.index-queries-span.result refl inside c.index-queries-span.is)

pub send_draft-requires-clause-reportable : goal.send_draft-requires-clause-reportable
send_draft-requires-clause-reportable g c =
    let i = c.args.span.from + c.loop-k.k in
    let job = c.requires.stands.is_job in
    let inside : i < length c.args.job.queries.now = omega (arith, c.loop-k-test.true, c.loop-k.auto.k-end, c.requires.span.0, c.requires.span.1) in
    let posed = subst (IsPosed c.args.job.road.now) (sym c.index-queries-span.is) (job.problems i c.index-queries-span.result inside) in
    record { problem = posed.0; few_sources = posed.1; few_nodes = job.nodes; shown = job.shown }

pub send_draft-requires-clause-can : goal.send_draft-requires-clause-can
send_draft-requires-clause-can g c =
    let inv = c.loop-k.invariant in
    record {
      room = omega (arith, inv.bound, c.loop-k-test.true, c.loop-k.auto.k-end, c.requires.span.0, c.requires.span.1, c.requires.stands.is_job.few);
      aided = record { search = inv.search; aids = rw inv.aids c.requires.stands.aided.aids };
    }
