use borrow.Author.Rules.{rules}
use mathlib.Core.Path.{refl, sym, subst}
use Prim.Native.Nat.{◌+◌, ◌*◌, ◌<◌}
use native.Mathlib.Omega.{arith}
use lib.ListN.{length}
use Rattle.std.specs.Fork.{slice_chunk, IsChunk, ChangesAt, ChangesChunks}
use Rattle.ea_fork_join.proofs.Parts.{covers, is_chunk, in_chunk}
use Rattle.ea_fork_join.proofs.beside_join.for_each_chunk_mut_beside.Goals as goal

pub parts_beside-requires-clause-row : goal.parts_beside-requires-clause-row
parts_beside-requires-clause-row g c κs within =
    let xs = c.args.row.now in let size = c.args.size in
    let filled : 0 < length xs = search rules in
    record {
      covers = covers c.div_ceil.result (length xs) size filled c.requires.size c.div_ceil.ensures;
      room = search rules;
      each = λ n u p e. subst (λ i. g.F.Fn.pre c.args.f.now (i, (p, tt))) {x = n * size} (omega arith)
          (c.requires.accepts (n * size) p (subst (IsChunk xs size (n * size)) (sym e) (is_chunk xs size n c.requires.size u)));
    }

pub returns : goal.returns
returns g c =
    let xs = c.args.row.now in let ys = c.parts_beside.new.row in let size = c.args.size in
    let chunks : ChangesChunks g.F.Fn c.args.f.now size xs ys = λ n u.
    subst (λ i. ChangesAt g.F.Fn c.args.f.now i (slice_chunk xs size n) (slice_chunk ys size n)) {x = 0 + n * size} (omega arith) (c.parts_beside.ensures.row.each n u) in
    record { chunks = chunks; by_index = λ i d l. (refl, in_chunk _ _ size xs ys c.requires.size chunks i d l); beside = c.parts_beside.ensures.beside }
