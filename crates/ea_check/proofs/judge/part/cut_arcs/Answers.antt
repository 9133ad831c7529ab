use Rattle.std.proofs.Common.{◌+◌, ◌≡◌, ◌≤◌, ◌<◌, List, length, arith, ap, length-append, ◌∷◌, []}
use Rattle.ea_check.specs.declared.judge.part.Part.{Part}
use Rattle.ea_check.specs.Parts.{AreParts}
use Rattle.ea_check.proofs.Parts.{cover_more, each_more, is_part}
use Rattle.ea_check.proofs.judge.part.cut_arcs.Goals as goal

pub loop-preserved : goal.loop-preserved
loop-preserved c =
    let was = c.loop.invariant in
    let pushed = c.in_ok-push_part.ensures in
    let some : 0 < c.min-to.result = omega (arith, c.min-to.ensures, c.saturating_add.ensures, was.from_one, c.len-arcs.ensures) in
    let low : c.min-to.result ≤ length c.args.network.now.arcs + 1 = omega (arith, c.min-to.ensures, c.len-arcs.ensures, ap (λ l. length l) c.arcs.ensures.arcs) in
    let here = is_part c.args.network.now pushed.0 c.loop.from c.min-to.result pushed.2 was.from_one low pushed.3 in
    record {
      from_one = some;
      to_last = low;
      few = omega (arith, was.few, ap (λ (ps : List Part). length ps) pushed.1, length-append c.loop.parts.items (pushed.0 ∷ []));
      each = each_more c.loop.parts.items _ pushed.0 pushed.1 c.args.network.now was.each here;
      cover = cover_more c.loop.parts.items _ pushed.0 pushed.1 c.loop.from c.min-to.result was.cover pushed.2;
    }

pub returns : goal.returns
returns c =
    let was = c.loop.invariant in
    let pushed = c.in_ok-push_part-2.ensures in
    let end : c.len-arcs.result + 1 ≡ length c.args.network.now.arcs + 1 = omega (arith, c.len-arcs.ensures, ap (λ l. length l) c.arcs.ensures.arcs) in
    let here = is_part c.args.network.now pushed.0 c.loop.from (c.len-arcs.result + 1) pushed.2 was.from_one (omega (arith, end)) pushed.3 in
    let parts : AreParts c.args.network.now c.push_part-2.new.parts.items = record {
      each = each_more c.loop.parts.items _ pushed.0 pushed.1 c.args.network.now was.each here;
      cover = λ number from to. cover_more c.loop.parts.items _ pushed.0 pushed.1 c.loop.from (c.len-arcs.result + 1) was.cover pushed.2 number from (omega (arith, to, end));
    } in
    (parts, omega (arith, was.few, ap (λ (ps : List Part). length ps) pushed.1, length-append c.loop.parts.items (pushed.0 ∷ [])))
