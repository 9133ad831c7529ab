use Rattle.std.proofs.Common.{arith, ap, length, sym, ◌+◌, ◌-◌, ◌<◌, ◌∙◌, ℕ}
use Rattle.std.specs.Prelude.{slice_index}
use Rattle.ea_hierarchy.specs.Hierarchies.{IsFrom}
use Rattle.ea_hierarchy.proofs.Finding.{inside, read_at}
use Rattle.ea_hierarchy.proofs.trimmed.replace.Goals as goal

pub returns : goal.returns
returns c = λ is.
    let firsts = c.args.upward.now.firsts.items in
    let heads = c.args.upward.now.heads.items in
    let nodes : ℕ = length firsts - 1 in
    let up = c.requires.upward.upward c.args.rank c.args.place c.requires.rank c.requires.place in
    let head = read_at heads c.args.place c.index-head.result.now (inside nodes firsts heads c.requires.upward c.args.rank c.args.place c.requires.rank c.requires.place) c.index-head.ensures in
    let end = read_at firsts (c.index-head.result.now + 1) c.index.result.now (omega (arith, head, up.1)) c.index.ensures in
    let before : c.args.joining < slice_index firsts (slice_index heads c.args.place + 1) = omega (arith, end, c.if-joining-index.false, ap (λ n. slice_index firsts (n + 1)) head) in
    let joins : IsFrom firsts (slice_index heads c.args.place) c.args.joining = record { from = c.requires.joining; before = before } in
    let one = read_at heads c.args.joining c.index-2.result.now (inside nodes firsts heads c.requires.upward (slice_index heads c.args.place) c.args.joining up.1 joins) c.index-2.ensures in
    let other = read_at heads c.args.later c.index-3.result.now (inside nodes firsts heads c.requires.upward c.args.rank c.args.later c.requires.rank c.requires.later.0) c.index-3.ensures in
    record {
      earlier = c.args.place;
      is_from = c.requires.place;
      before = c.requires.later.1;
      joining = c.args.joining;
      joins = record { is_from = joins; head = one ∙ c.if-index.false ∙ sym other };
      shorter = omega (arith, c.plus.ensures, c.if-numbers-later.false);
    }
