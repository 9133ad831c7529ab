use Rattle.std.proofs.Common.{ℕ, List, sym, subst}
use Rattle.ea_check.specs.Paths.{IsPassed}
use Rattle.ea_check.proofs.judge.canonical_walk.Path.leads_to.Goals as goal

pub go_back-same-requires-clause-passed : goal.go_back-same-requires-clause-passed
go_back-same-requires-clause-passed c =
    subst (λ (xs : List ℕ). IsPassed c.args.links.now c.args.arcs.now xs c.args.self.now.known) (sym c.deref_mut.ensures.value) (c.in_ok-make_places.ensures.passed c.args.links.now c.args.arcs.now c.args.self.now.known c.requires.passed)
