use Rattle.std.proofs.Common.{arith, ap, length, refl, subst, sym, ◌+◌, ◌-◌, ◌<◌, ◌≡◌, ◌∙◌, ℕ}
use Rattle.std.specs.Prelude.{slice_index}
use Rattle.ea_hierarchy.specs.Cells.{reach_of}
use Rattle.ea_hierarchy.specs.Hierarchies.{IsFrom}
use Rattle.ea_hierarchy.specs.declared.cells.Aim.{Aim}
use Rattle.ea_hierarchy.specs.Potentials.{IsReach}
use Rattle.ea_hierarchy.proofs.Finding.{inside, read_at}
use Rattle.ea_hierarchy.proofs.Reaching.{IsClimbing, climbed, climbing_begins, climbs, none_above, none_without_arcs}
use Rattle.ea_hierarchy.proofs.cells.Cells.reach_up.Goals as goal

pub loop-target-init : goal.loop-target-init
loop-target-init c =
    let firsts = c.args.upward.now.firsts.items in
    let heads = c.args.upward.now.heads.items in
    let downs = c.args.numbers.now.downs.items in
    let begins = climbing_begins (length firsts - 1) firsts heads downs c.args.target c.args.self.now.aim c.args.self.now.list.items c.lower.new.self.list.items c.requires.few c.requires.count c.requires.stale c.lower.ensures.lowers in
    record {
      aim = refl;
      below = c.requires.target;
      climbing = subst (λ (a : Aim). IsClimbing (length firsts - 1) firsts heads downs c.args.target a c.lower.new.self.list.items c.args.target c.args.target) (sym c.lower.ensures.aim) begins;
    }

pub returns-then-first-index-clause-reach : goal.returns-then-first-index-clause-reach
returns-then-first-index-clause-reach c =
    let firsts = c.args.upward.now.firsts.items in
    let heads = c.args.upward.now.heads.items in
    let downs = c.args.numbers.now.downs.items in
    let nodes : ℕ = length firsts - 1 in
    let rank = c.loop-target.rank in
    let so_far = c.loop-target.invariant in
    let list = c.loop-target.self.list.items in
    let after = c.relax-highest.new.self.list.items in
    let aim = c.loop-target.self.aim in
    let top = c.loop-target.top in
    let found = c.relax-highest.result in
    let relaxes = c.relax-highest.ensures.relaxes in
    let begin = read_at firsts rank c.index-first.result.now (omega (arith, so_far.below)) c.index-first.ensures in
    let end = read_at firsts (rank + 1) c.index.result.now (omega (arith, so_far.below)) c.index.ensures in
    let none = none_without_arcs nodes firsts heads downs c.args.target aim c.requires.upward list after rank so_far.below top found so_far.climbing relaxes (omega (arith, begin, end, c.if-first-index.true)) in
    subst (λ (a : Aim). IsReach nodes firsts heads downs c.args.target (reach_of a after)) (sym c.relax-highest.ensures.aim) (climbed nodes firsts heads downs c.args.target aim c.requires.upward list after rank so_far.below top found so_far.climbing relaxes none)

pub returns-then-rank-top-clause-reach : goal.returns-then-rank-top-clause-reach
returns-then-rank-top-clause-reach c =
    let firsts = c.args.upward.now.firsts.items in
    let heads = c.args.upward.now.heads.items in
    let downs = c.args.numbers.now.downs.items in
    let nodes : ℕ = length firsts - 1 in
    let rank = c.loop-target.rank in
    let so_far = c.loop-target.invariant in
    let list = c.loop-target.self.list.items in
    let after = c.relax-highest.new.self.list.items in
    let aim = c.loop-target.self.aim in
    let top = c.loop-target.top in
    let found = c.relax-highest.result in
    let new = c.max-top.result in
    let relaxes = c.relax-highest.ensures.relaxes in
    let begin = read_at firsts rank c.index-first.result.now (omega (arith, so_far.below)) c.index-first.ensures in
    let end = read_at firsts (rank + 1) c.index.result.now (omega (arith, so_far.below)) c.index.ensures in
    let some : slice_index firsts rank < slice_index firsts (rank + 1) = omega (arith, begin, end, c.if-first-index.false) in
    let lowest : IsFrom firsts rank (slice_index firsts rank) = record { from = omega arith; before = some } in
    let within = inside nodes firsts heads c.requires.upward rank (slice_index firsts rank) so_far.below lowest in
    let head : slice_index heads (slice_index firsts rank) ≡ c.index-rank.result.now =
    ap (slice_index heads) begin ∙ read_at heads c.index-first.result.now c.index-rank.result.now (omega (arith, within, begin)) c.index-rank.ensures in
    let none = none_above nodes firsts heads downs c.args.target aim c.requires.upward list after rank so_far.below top found so_far.climbing relaxes new (omega (arith, c.max-top.ensures)) (omega (arith, c.max-top.ensures)) some (omega (arith, head, c.if-rank-top.true)) in
    subst (λ (a : Aim). IsReach nodes firsts heads downs c.args.target (reach_of a after)) (sym c.relax-highest.ensures.aim) (climbed nodes firsts heads downs c.args.target aim c.requires.upward list after rank so_far.below top found so_far.climbing relaxes none)

pub loop-target-preserved : goal.loop-target-preserved
loop-target-preserved c =
    let firsts = c.args.upward.now.firsts.items in
    let heads = c.args.upward.now.heads.items in
    let downs = c.args.numbers.now.downs.items in
    let nodes : ℕ = length firsts - 1 in
    let rank = c.loop-target.rank in
    let so_far = c.loop-target.invariant in
    let list = c.loop-target.self.list.items in
    let after = c.relax-highest.new.self.list.items in
    let aim = c.loop-target.self.aim in
    let top = c.loop-target.top in
    let found = c.relax-highest.result in
    let new = c.max-top.result in
    let relaxes = c.relax-highest.ensures.relaxes in
    let begin = read_at firsts rank c.index-first.result.now (omega (arith, so_far.below)) c.index-first.ensures in
    let end = read_at firsts (rank + 1) c.index.result.now (omega (arith, so_far.below)) c.index.ensures in
    let some : slice_index firsts rank < slice_index firsts (rank + 1) = omega (arith, begin, end, c.if-first-index.false) in
    let lowest : IsFrom firsts rank (slice_index firsts rank) = record { from = omega arith; before = some } in
    let within = inside nodes firsts heads c.requires.upward rank (slice_index firsts rank) so_far.below lowest in
    let head : slice_index heads (slice_index firsts rank) ≡ c.index-rank.result.now =
    ap (slice_index heads) begin ∙ read_at heads c.index-first.result.now c.index-rank.result.now (omega (arith, within, begin)) c.index-rank.ensures in
    let up = c.requires.upward.upward rank (slice_index firsts rank) so_far.below lowest in
    let next = climbs nodes firsts heads downs c.args.target aim c.requires.upward list after rank so_far.below top found so_far.climbing relaxes new (omega (arith, c.max-top.ensures)) (omega (arith, c.max-top.ensures)) some in
    record {
      aim = c.relax-highest.ensures.aim ∙ so_far.aim;
      below = omega (arith, up.1, head);
      climbing = subst (λ (a : Aim). IsClimbing nodes firsts heads downs c.args.target a after c.index-rank.result.now new) (sym c.relax-highest.ensures.aim) (subst (λ r. IsClimbing nodes firsts heads downs c.args.target aim after r new) head next);
    }
