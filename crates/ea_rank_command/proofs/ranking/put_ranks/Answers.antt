use Rattle.std.proofs.Common.{◌≡◌, ℕ, List, ap, length, map, refl, subst}
use Rattle.std.specs.Prelude.{decimal}
use Rattle.std.specs.List.{flat_map}
use Rattle.ea_report.specs.Deliverers.{direct_delivery}
use Rattle.ea_report.specs.Writers.{AddsOrGivesUp}
use Rattle.ea_rank_command.proofs.Ranked.{two_lines_pieces, two_lines_of}
use Rattle.ea_rank_command.proofs.ranking.put_ranks.Goals as goal

pub returns : goal.returns
returns g c =
    let source = c.args.source in
    let summary = c.args.summary in
    let old = g.W.Device.seen c.args.out.now in
    let now = g.W.Device.seen c.put_pieces.new.out in
    let pieces : map (λ piece. piece.now) c.as_slice-7.result.now ≡ two_lines_pieces (decimal source.node) (decimal source.departure) (decimal summary.pops) (decimal summary.greatest) (decimal summary.sum) = rw (c.as_slice-7.ensures, c.as_slice.ensures, c.as_bytes.ensures.value, c.format.ensures.text, c.as_slice-2.ensures, c.as_bytes-2.ensures.value, c.format-2.ensures.text, c.as_slice-3.ensures, c.as_bytes-3.ensures.value, c.format-3.ensures.text, c.as_slice-4.ensures, c.as_bytes-4.ensures.value, c.format-4.ensures.text, c.as_slice-5.ensures, c.as_bytes-5.ensures.value, c.format-5.ensures.text, c.as_slice-6.ensures) refl in
    let text = two_lines_of (λ piece. piece.now) c.as_slice-7.result.now _ _ _ _ _ pieces in
    let few : length c.as_slice-7.result.now ≡ 11 = ap (λ xs. length xs) c.as_slice-7.ensures in
    let before = direct_delivery c.args.direct.now in
    let after = direct_delivery c.put_pieces.new.self in
    let sent = subst (λ n. AddsOrGivesUp old before now after n (flat_map (λ piece. piece.now) c.as_slice-7.result.now) c.put_pieces.result) few c.put_pieces.ensures in
    subst (λ (t : List ℕ). AddsOrGivesUp old before now after 11 t c.put_pieces.result) text sent
