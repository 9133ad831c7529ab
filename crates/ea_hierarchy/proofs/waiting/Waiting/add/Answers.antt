use Rattle.std.proofs.Common.{arith, length, ◌+◌, ◌∙◌, ◌≡◌}
use Rattle.std.specs.Prelude.{slice_index}
use Rattle.std.proofs.lemmas.List.{get_or_default}
use Rattle.ea_hierarchy.proofs.Listing.{waits_nowhere, waits_there}
use Rattle.ea_hierarchy.proofs.waiting.Waiting.add.Goals as goal

pub returns-then-rank-len-clause-waiting : goal.returns-then-rank-len-clause-waiting
returns-then-rank-len-clause-waiting c = λ lows is there.
    rw c.in_ok-push.ensures.items (waits_nowhere lows c.args.self.now.newest.items c.args.self.now.earlier.items c.args.rank is there (omega arith))

pub returns-clause-waiting : goal.returns-clause-waiting
returns-clause-waiting c = λ lows is there.
    let newest = c.args.self.now.newest.items in
    let earlier = c.args.self.now.earlier.items in
    let first : c.index-newest.result.now ≡ slice_index newest c.args.rank = c.index-newest.ensures ∙ get_or_default newest c.args.rank c.index-newest.result.now 0 (omega arith) in
    let count : c.len-2.result ≡ length earlier + 1 = omega (arith, c.len-2.ensures, c.in_ok-push-2.ensures.len) in
    rw (count, c.in_ok-push-2.ensures.items, first) (waits_there lows newest earlier c.args.rank is there (omega arith))
