use Rattle.std.proofs.Common.{◌≤◌, ◌+◌, ◌*◌, ◌^◌, take}
use Rattle.std.specs.List.{flat_map}
use Rattle.ea_report.specs.Deliverers.{direct_delivery}
use Rattle.ea_report.specs.Sent.{Adds}
use Rattle.ea_report.proofs.direct_text.Direct.put_pieces.Given as goal

abbrev pub invariant-loop-piece : goal.invariant-loop-piece
invariant-loop-piece g l = record {
  added : Adds (g.W.Device.seen l.fn.out) (direct_delivery l.fn.self) (g.W.Device.seen l.out) (direct_delivery l.self) (flat_map (λ piece. piece.now) (take l.piece-index l.pieces));
  bound : l.self.written ≤ l.fn.self.written + l.piece-index * 2 ^ 64;
}
