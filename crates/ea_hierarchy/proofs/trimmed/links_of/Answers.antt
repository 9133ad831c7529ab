use Rattle.std.proofs.Common.{◌≡◌, ◌+◌, ◌-◌, rules, sym, subst, ap, ◌∙◌, arith, List, [], ◌∷◌, ◌++◌, true, false, Vec, Global, length}
use Rattle.std.specs.Prelude.{slice_index, slice_index_or}
use Rattle.std.proofs.lemmas.List.{get_or_default}
use Rattle.std.proofs.lemmas.List.Sorted.{IsNonDecreasingBy-from_sort_by_key}
use Rattle.ea_hierarchy.specs.Hierarchies.{IsFrom}
use Rattle.ea_hierarchy.specs.declared.trimmed.Link.{Link}
use Rattle.ea_hierarchy.proofs.Finding.{inside, read_at}
use Rattle.ea_hierarchy.proofs.Trimming.{AreGathered, gathered_more, gathered_skips, link_at, trimmed_of}
use Rattle.ea_hierarchy.proofs.trimmed.links_of.Goals.{then-not-index-2+in_ok-push, else-not-index-2}
use Rattle.ea_hierarchy.proofs.trimmed.links_of.Goals as goal

pub loop-place-2-preserved : goal.loop-place-2-preserved
loop-place-2-preserved c =
    let firsts = c.args.upward.now.firsts.items in
    let heads = c.args.upward.now.heads.items in
    let numbers = c.args.numbers.now in
    let rank = c.args.rank in
    let place = c.loop-place-2.place in
    let marks = c.loop-place.marks.items in
    let begin = read_at firsts rank c.index.result.now (omega (arith, c.requires.rank)) c.index.ensures in
    let end = read_at firsts (rank + 1) c.index-2.result.now (omega (arith, c.requires.rank)) c.index-2.ensures in
    let is : IsFrom firsts rank place = record { from = omega (arith, begin, c.loop-place-2.auto.place); before = omega (arith, end, c.loop-place-2-test.true) } in
    elim c.if-not-index-2.branch [
      | then-not-index-2+in_ok-push w ↦
          let links = c.loop-place-2.links.items in
          let head = read_at heads place w.index-then-not-index-2.result.now (inside (length firsts - 1) firsts heads c.requires.upward rank place c.requires.rank is) w.index-then-not-index-2.ensures in
          let same : c.if-not-index-2.links.items ≡ links ++ link_at heads numbers place ∷ [] =
          ap (λ (v : Vec Link Global). v.items) w.links-is ∙ w.in_ok-push.ensures.items ∙ ap (λ h. links ++ record { head = h; number = slice_index numbers place } ∷ []) (sym head) in
          subst (λ (xs : List Link). AreGathered firsts heads numbers rank marks xs (place + 1)) (sym same) (gathered_more firsts heads numbers rank marks links place is c.loop-place-2.invariant)
      | else-not-index-2 w ↦
          let marked : slice_index_or marks (place - slice_index firsts rank) false ≡ true = ap (λ b. slice_index_or marks (place - b) false) begin ∙ sym (get_or_default marks (place - c.index.result.now) c.index-in-loop-place-2.result.now false (omega (arith, begin, end, c.loop-place-2.auto.place, c.loop-place-2-test.true, c.loop-place.invariant.count))) ∙ sym c.index-in-loop-place-2.ensures ∙ w.if-not-index-2.false in
          subst (λ (v : Vec Link Global). AreGathered firsts heads numbers rank marks v.items (place + 1)) (sym w.links-is) (gathered_skips firsts heads numbers rank marks c.loop-place-2.links.items place marked c.loop-place-2.invariant)
    ]

pub returns : goal.returns
returns c =
    let firsts = c.args.upward.now.firsts.items in
    let heads = c.args.upward.now.heads.items in
    let rank = c.args.rank in
    let marks = c.loop-place.marks.items in
    let links = c.loop-place-2.links.items in
    let sorted = c.sort_unstable_by_key.new.self.items in
    let begin = read_at firsts rank c.index.result.now (omega (arith, c.requires.rank)) c.index.ensures in
    let end = read_at firsts (rank + 1) c.index-2.result.now (omega (arith, c.requires.rank)) c.index-2.ensures in
    let last : c.loop-place-2.place ≡ slice_index firsts (rank + 1) = omega (arith, begin, end, c.requires.upward.rises rank c.requires.rank, c.loop-place-2-test.false, c.loop-place-2.auto.place-end) in
    let gathered = subst (λ n. AreGathered firsts heads c.args.numbers.now rank marks links n) last c.loop-place-2.invariant in
    trimmed_of firsts heads c.args.numbers.now rank marks links sorted c.loop-place.invariant gathered c.sort_unstable_by_key.ensures.permutation
    (IsNonDecreasingBy-from_sort_by_key (λ (link : Link). link.number) sorted c.sort_unstable_by_key.ensures.sorted (λ a r q k. search rules))
