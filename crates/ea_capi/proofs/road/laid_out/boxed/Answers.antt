use Rattle.std.proofs.Common.{ap, subst, sym}
use Rattle.std.specs.Arc.{arc_value}
use Rattle.std.specs.Prelude.{Some}
use Rattle.ea_layout.specs.declared.layout.Layout.{Layout}
use Rattle.ea_capi.specs.Prepared.{IsRoadOn}
use Rattle.ea_capi.specs.Shared.{Shared}
use Rattle.ea_capi.specs.declared.handle.content.Content.{Content}
use Rattle.ea_capi.specs.declared.handle.content.Content.TheVariants as content
use Rattle.ea_capi.specs.declared.handle.terrain.Terrain.{Terrain}
use Rattle.ea_capi.proofs.road.laid_out.boxed.Goals as goal

pub returns : goal.returns
returns c =
    let road = (arc_value c.args.terrain.now).road in
    let shared = subst (λ (it : Shared). IsRoadOn road c.args.layout (Some (content.Road it))) (sym c.with.ensures) (record { same = ap (λ (it : Terrain). Some it.road) c.in_ok-terrain.ensures; there = ap (λ (it : Layout). Some it) c.in_ok-layout.ensures.ok; fits = c.requires }) in
    subst (λ (it : Content). IsRoadOn road c.args.layout (Some it)) (sym c.in_ok-new.ensures.ok) shared
