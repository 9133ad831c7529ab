use borrow.Author.Rules.{rules}
use mathlib.Core.Path.{refl, sym, subst}
use Prim.Native.Nat.{◌+◌, ◌*◌, ◌<◌}
use native.Mathlib.Omega.{arith}
use lib.ListN.{length}
use Rattle.std.specs.Fork.{slice_chunk, IsChunk, ChangesAt, ChangesChunks}
use Rattle.ea_fork_join.proofs.Parts.{covers, is_chunk, in_chunk}
use Rattle.ea_fork_join.proofs.rows.for_each_chunk_mut.Goals as goal

pub parts_from-requires : goal.parts_from-requires
parts_from-requires g c =
    let xs = c.args.row.now in let size = c.args.size in
    let filled : 0 < length xs = search rules in (
      search rules,
      (
        search rules,
        (
          search rules,
          record {
            covers = covers c.div_ceil.result (length xs) size filled c.requires.size c.div_ceil.ensures;
            room = search rules;
            each = λ n u p e. subst (λ i. g.F.Fn.pre c.args.f.now (i, (p, tt))) {x = n * size} (omega arith)
                (c.requires.accepts (n * size) p (subst (IsChunk xs size (n * size)) (sym e) (is_chunk xs size n c.requires.size u)));
          },
        ),
      ),
    )

pub returns-then-not-is_empty : goal.returns-then-not-is_empty
returns-then-not-is_empty g c =
    let xs = c.args.row.now in let ys = c.parts_from.new.row in let size = c.args.size in
    let chunks : ChangesChunks g.F.Fn c.args.f.now size xs ys = λ n u.
    subst (λ i. ChangesAt g.F.Fn c.args.f.now i (slice_chunk xs size n) (slice_chunk ys size n)) {x = 0 + n * size} (omega arith) (c.parts_from.ensures.each n u) in
    record { chunks = chunks; by_index = λ i d l. (refl, in_chunk _ _ size xs ys c.requires.size chunks i d l) }
