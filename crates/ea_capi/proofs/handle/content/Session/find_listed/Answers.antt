use Rattle.std.proofs.Common.{ℕ, List, subst}
use Rattle.std.specs.Prelude.{None}
use Rattle.ea_capi.specs.Asked.{IsFoundAt}
use Rattle.ea_capi.proofs.handle.content.Session.find_listed.Goals as goal

pub returns-in-Ok-clause-found : goal.returns-in-Ok-clause-found
returns-in-Ok-clause-found c = λ zero.
    subst (λ (it : List ℕ). IsFoundAt (record { sources = c.args.sources.items; target = None }) it c.args.self c.find_at.result.0) c.in-Ok.ensures (c.find_at.ensures.found zero)
