use Rattle.std.proofs.Common.{arith, ◌≡◌, take, drop, suc, subst}
use Rattle.std.proofs.lemmas.List.{take_all}
use Rattle.std.proofs.lemmas.Result.{err_from_is_err_and}
use Rattle.std.specs.List.{flat_map}
use Rattle.ea_report.specs.Deliverers.{direct_delivery}
use Rattle.ea_report.specs.Sent.{Adds}
use Rattle.ea_report.proofs.Pieces.{pieces_stop, flat_map-at}
use Rattle.ea_report.proofs.direct_text.Direct.put_pieces.Goals as goal

pub returns-in_err-put : goal.returns-in_err-put
returns-in_err-put g c =
    let p = err_from_is_err_and c.from_residual.result c.from_residual.ensures.1 in
    let i = c.loop-piece.piece-index in
    let pieces = c.args.pieces.now in
    let e = c.in_err-put.ensures in
    rw (p.1, p.2) (pieces_stop _ _ _ _ _ _ _ i 1 _ (flat_map (λ piece. piece.now) (take i pieces)) _ (flat_map (λ piece. piece.now) (drop (suc i) pieces)) _ (omega arith) (flat_map-at (λ piece. piece.now) pieces i _ (omega arith)) c.loop-piece.invariant.added c.loop-piece.invariant.bound e.err e.device e.bound e.small)

pub returns : goal.returns
returns g c =
    let pieces = c.args.pieces.now in
    let all : take c.loop-piece.piece-index pieces ≡ pieces = take_all c.loop-piece.piece-index pieces (omega (arith, c.loop-piece-test.false)) in record {
      ok = subst (λ ps. Adds (g.W.Device.seen c.args.out.now) (direct_delivery c.args.self.now) (g.W.Device.seen c.loop-piece.out) (direct_delivery c.loop-piece.self) (flat_map (λ piece. piece.now) ps)) all c.loop-piece.invariant.added;
      err = tt;
      device = tt;
      bound = omega (arith, c.loop-piece.invariant.bound);
      small = tt;
    }
