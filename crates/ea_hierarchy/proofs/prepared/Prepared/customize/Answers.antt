use Rattle.std.proofs.Common.{subst, sym}
use Rattle.ea_hierarchy.specs.Hierarchies.{Hierarchy}
use Rattle.ea_hierarchy.specs.Preparations.{IsPreparedOver}
use Rattle.ea_hierarchy.proofs.Covering.{stays_covered}
use Rattle.ea_hierarchy.proofs.prepared.Prepared.customize.Goals as goal

pub cover-requires-clause-joined : goal.cover-requires-clause-joined
cover-requires-clause-joined g c =
    let over = subst (λ (h : Hierarchy). IsPreparedOver c.args.network.now h) (sym c.self.view_is) c.requires.over in
    over.joined

pub returns : goal.returns
returns g c =
    let inside = c.self.inside in
    let answers = g.T.TravelTimes.answers c.args.times.now in
    let before = c.cover.new.numbers in
    let after = c.relax.new.numbers in
    let over = subst (λ (h : Hierarchy). IsPreparedOver c.args.network.now h) (sym c.self.view_is) c.requires.over in
    record {
      over = record { ranked = over.ranked; nodes = over.nodes; joined = over.joined };
      covered = λ number arc is. stays_covered answers inside.ranks inside.upward.firsts.items inside.upward.heads.items 0 before.ups.items before.downs.items after.ups.items after.downs.items arc c.relax.ensures.lowers (c.cover.ensures.covered number arc is);
    }
