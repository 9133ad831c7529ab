use Rattle.std.specs.List.{flat_map}
use Rattle.ea_messages.proofs.Telling.{told}
use Rattle.ea_messages.proofs.outcome_lines.put.Goals as goal

pub returns : goal.returns
returns g c =
    let first = g.W.Device.seen c.args.out.now in
    let now = g.W.Device.seen c.write_pieces.new.out in
    told c.write_pieces.result first now (flat_map (λ piece. piece.now) c.args.pieces.now) c.write_pieces.ensures.ok c.write_pieces.ensures.err c.write_pieces.ensures.kind
