use Rattle.std.proofs.Common.{◌≡◌, ◌∙◌, sym, ap, subst, nat_lt}
use Rattle.std.specs.Prelude.{Option, Some}
use Rattle.ea_capi.specs.declared.handle.content.Content.{Content}
use Rattle.ea_capi.specs.Calls.{IsNew, IsThere}
use Rattle.ea_capi.specs.States.{road_in}
use Rattle.ea_capi.proofs.Begun.{begun, refused}
use Rattle.ea_capi.proofs.session.begin.earliest_search_new.Goals as goal

pub returns-in-Ok-Some-clause-begun : goal.returns-in-Ok-Some-clause-begun
returns-in-Ok-Some-clause-begun c =
    let e : c.args.road.now.value ≡ Some c.deref.result.now = c.in-Some.ensures.old ∙ ap (λ (it : Content). Some it) (sym c.deref.ensures) in
    begun (road_in c.args.road.now.value) (nat_lt 0 c.args.walks) c.in-Ok-Some.session c.args.search.now.value c.keep.new.handle.value c.keep.result
    (subst (λ (it : Option Content). IsNew (road_in it) (nat_lt 0 c.args.walks) (Some c.in-Ok-Some.session)) (sym e)
    (subst (IsNew (road_in (Some c.deref.result.now)) (nat_lt 0 c.args.walks)) c.in-Ok-Some.field-0-is c.in-Ok-Some.ensures.made)) c.keep.ensures

pub returns-in-Err-clause-begun : goal.returns-in-Err-clause-begun
returns-in-Err-clause-begun c =
    let e : c.args.road.now.value ≡ Some c.deref.result.now = c.in-Some.ensures.old ∙ ap (λ (it : Content). Some it) (sym c.deref.ensures) in
    refused (road_in c.args.road.now.value) (nat_lt 0 c.args.walks) c.args.search.now.value (subst (λ (it : Option Content). IsThere (road_in it)) (sym e) c.in-Err.ensures.refused)
