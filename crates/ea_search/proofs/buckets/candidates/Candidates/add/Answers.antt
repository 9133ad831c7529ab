use Rattle.std.proofs.Common.{◌≡◌, ◌+◌, ◌%◌, arith}
use Rattle.std.proofs.lemmas.Bool.Decides.{nat_tests}
use Rattle.std.proofs.lemmas.List.{length-take-le, take-set}
use Rattle.ea_search.proofs.Gatherings.{candidates_more}
use Rattle.ea_search.proofs.buckets.candidates.Candidates.add.Goals as goal

pub returns-clause-in_time : goal.returns-clause-in_time
returns-clause-in_time c in_time =
    let it = c.self.inside in
    let one : c.from.result ≡ 1 = grind (arith, nat_tests, c.from.ensures, in_time) in
    let many = length-take-le it.count it.list (omega (arith, c.self.invariant)) in
    let room = rw (← c.self.view_is) at c.requires in
    let rest : it.count % 128 ≡ it.count = omega (arith, many, room) in
    rw (rest, one, ← c.self.view_is) (candidates_more it.list it.count c.args.candidate (omega (arith, many, room, c.self.invariant.1)))

pub returns-clause-late : goal.returns-clause-late
returns-clause-late c late =
    let it = c.self.inside in
    let none : c.from.result ≡ 0 = grind (arith, nat_tests, c.from.ensures, late) in
    let same : it.count + c.from.result ≡ it.count = omega arith in
    let many = length-take-le it.count it.list (omega (arith, c.self.invariant)) in
    let room = rw (← c.self.view_is) at c.requires in
    let rest : it.count % 128 ≡ it.count = omega (arith, many, room) in
    rw (same, rest, ← c.self.view_is) (take-set it.list it.count c.args.candidate)
