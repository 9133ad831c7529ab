use mathlib.Core.Path.{◌≡◌, refl, sym, ap, ◌∙◌}
use native.Mathlib.Omega.{arith}
use lib.ListN.{get_or}
use Rattle.std.specs.Fork.{ChangesAt}
use Rattle.ea_fork_join.proofs.Parts.{moved}
use Rattle.ea_fork_join.proofs.beside_join.for_each_mut_beside.Goals as goal

pub returns-clause-row : goal.returns-clause-row
returns-clause-row g c i d l =
    let at = (c.for_each_chunk_mut_beside.ensures.by_index i d l).1 in
    let first : at.offset ≡ 0 = omega (arith, at.offset_in_chunk, at.argument_is.at_most_size) in
    let start : at.start ≡ i = omega (arith, at.start_plus_offset) in (
      refl,
      moved (ChangesAt g.F.Fn c.args.f.now) start
          (ap (λ k. get_or at.argument.now k d) (sym first) ∙ at.old_element)
          (ap (λ k. get_or at.after_call.now k d) (sym first) ∙ at.new_element)
          (at.call d),
    )
