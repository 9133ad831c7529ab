use Rattle.std.proofs.Common.{arith, length, subst, ◌-◌, ◌≡◌}
use Rattle.ea_hierarchy.specs.Hierarchies.{AreRanks}
use Rattle.ea_hierarchy.proofs.Covering.{stays_covered}
use Rattle.ea_hierarchy.proofs.Relaxing.{numbers_stay}
use Rattle.ea_hierarchy.proofs.prepared.numbers_for.Goals as goal

pub relax-requires-clause-few : goal.relax-requires-clause-few
relax-requires-clause-few g c =
    let few = c.keeps_limits.ensures.nodes_limit in
    omega (arith, few, c.requires.nodes)

pub returns : goal.returns
returns g c =
    let firsts = c.args.upward.now.firsts.items in
    let heads = c.args.upward.now.heads.items in
    let before = c.cover.new.numbers in
    let after = c.relax.new.numbers in
    let few = c.keeps_limits.ensures.nodes_limit in
    let same : c.args.network.now.nodes ≡ length firsts - 1 = omega (arith, c.requires.nodes) in (
      record {
        over = record { ranked = c.requires.ranks.count; nodes = c.requires.nodes; joined = c.requires.joined };
        covered = λ number arc is. stays_covered (g.T.TravelTimes.answers c.args.times.now) c.args.ranks.now firsts heads 0 before.ups.items before.downs.items after.ups.items after.downs.items arc c.relax.ensures.lowers (c.cover.ensures.covered number arc is);
      },
      record {
        few = omega (arith, few, c.requires.nodes);
        ranks = subst (λ n. AreRanks n c.args.ranks.now) same c.requires.ranks;
        upward = c.requires.upward;
        numbers = numbers_stay 0 heads before.ups.items before.downs.items after.ups.items after.downs.items c.cover.ensures.numbers c.relax.ensures.lowers;
        triangles = c.relax.ensures.triangles;
      },
    )
