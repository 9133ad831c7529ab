use Rattle.std.proofs.Common.{◌≡◌, ◌∙◌, sym, ap, subst, nat_lt}
use Rattle.std.specs.Prelude.{Option, Some}
use Rattle.ea_capi.specs.declared.handle.content.Content.{Content}
use Rattle.ea_capi.specs.Calls.{IsThere}
use Rattle.ea_capi.specs.LatestCalls.{IsNewLatest}
use Rattle.ea_capi.specs.States.{turned_in}
use Rattle.ea_capi.proofs.TurnedRound.{begun, refused}
use Rattle.ea_capi.proofs.session.latest.earliest_search_new_until.Goals as goal

pub returns-in-Ok-Some-clause-begun : goal.returns-in-Ok-Some-clause-begun
returns-in-Ok-Some-clause-begun c =
    let e : c.args.turned.now.value ≡ Some c.deref.result.now = c.in-Some.ensures.old ∙ ap (λ (it : Content). Some it) (sym c.deref.ensures) in
    begun (turned_in c.args.turned.now.value) (nat_lt 0 c.args.walks) c.in-Ok-Some.found c.args.search.now.value c.keep.new.handle.value c.keep.result
    (subst (λ (it : Option Content). IsNewLatest (turned_in it) (nat_lt 0 c.args.walks) (Some c.in-Ok-Some.found)) (sym e)
    (subst (IsNewLatest (turned_in (Some c.deref.result.now)) (nat_lt 0 c.args.walks)) c.in-Ok-Some.field-0-is c.in-Ok-Some.ensures.made)) c.keep.ensures

pub returns-in-Err-clause-begun : goal.returns-in-Err-clause-begun
returns-in-Err-clause-begun c =
    let e : c.args.turned.now.value ≡ Some c.deref.result.now = c.in-Some.ensures.old ∙ ap (λ (it : Content). Some it) (sym c.deref.ensures) in
    refused (turned_in c.args.turned.now.value) (nat_lt 0 c.args.walks) c.args.search.now.value (subst (λ (it : Option Content). IsThere (turned_in it)) (sym e) c.in-Err.ensures.refused)
