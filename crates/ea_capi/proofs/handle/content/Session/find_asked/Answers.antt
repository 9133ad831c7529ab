use Rattle.std.proofs.Common.{List, subst}
use Rattle.std.specs.Prelude.{None}
use Rattle.ea_road.specs.declared.source.Source.{Source}
use Rattle.ea_capi.specs.Asked.{IsFoundAt}
use Rattle.ea_capi.proofs.handle.content.Session.find_asked.Goals as goal

pub returns-clause-found : goal.returns-clause-found
returns-clause-found c = λ zero.
    subst (λ (it : List Source). IsFoundAt (record { sources = it; target = None }) c.args.list.now c.args.self c.find_listed.result.0) c.in-Ok.ensures (c.find_listed.ensures.found zero)
