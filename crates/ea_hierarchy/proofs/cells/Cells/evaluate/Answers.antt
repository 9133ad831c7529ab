use Rattle.std.proofs.Common.{◌≡◌, ℕ, ◌-◌, subst, ◌∙◌, arith, length, Contains}
use Rattle.std.specs.Prelude.{slice_index}
use Rattle.ea_hierarchy.specs.Cells.{bound_at, reach_of, worth_of}
use Rattle.ea_hierarchy.specs.declared.trimmed.Link.{Link}
use Rattle.ea_hierarchy.proofs.Bounding.{found_more}
use Rattle.ea_hierarchy.proofs.Trimming.{least_alike, least_is_worth}
use Rattle.ea_hierarchy.proofs.cells.Cells.evaluate.Goals.{in-Some, in-None}
use Rattle.ea_hierarchy.proofs.cells.Cells.evaluate.Goals as goal

pub least_by_links-bound-requires-clause-links : goal.least_by_links-bound-requires-clause-links
least_by_links-bound-requires-clause-links c = λ link there.
    let trimmed = c.in-Some.ensures c.args.upward.now.firsts.items c.args.upward.now.heads.items c.args.numbers.now.ups.items c.requires.trimmed in
    let arc = trimmed.arcs link there in
    let up = c.requires.upward.upward c.args.rank arc.place c.requires.rank arc.is_from in
    omega (arith, up.1, arc.head, c.requires.found.count)

pub returns-clause-found : goal.returns-clause-found
returns-clause-found c =
    let firsts = c.args.upward.now.firsts.items in
    let heads = c.args.upward.now.heads.items in
    let ups = c.args.numbers.now.ups.items in
    let nodes : ℕ = length firsts - 1 in
    let aim = c.args.self.now.aim in
    let list = c.args.self.now.list.items in
    let rank : ℕ = c.args.rank in
    let worth : c.match-links.bound ≡ worth_of firsts heads ups aim list rank = elim c.match-links.branch [
      | in-Some w ↦
          let trimmed = w.in-Some.ensures firsts heads ups c.requires.trimmed in
          let alike : (link : Link) → Contains w.in-Some.links.now link → bound_at aim list link.head ≡ worth_of firsts heads ups aim list link.head = λ link there.
          let arc = trimmed.arcs link there in
          let up = c.requires.upward.upward rank arc.place c.requires.rank arc.is_from in
          subst (λ h. bound_at aim list h ≡ worth_of firsts heads ups aim list h) arc.head (c.requires.found.final (slice_index heads arc.place) up.1 (c.requires.heads arc.place arc.is_from)) in
          let by = least_alike (bound_at aim list) (worth_of firsts heads ups aim list) w.in-Some.links.now c.reach-reach.result (reach_of aim list rank) w.least_by_links-bound.result alike c.reach-reach.ensures w.least_by_links-bound.ensures in
          w.bound-is ∙ least_is_worth nodes firsts heads ups c.requires.upward (reach_of aim list) rank c.requires.rank w.in-Some.links.now trimmed w.least_by_links-bound.result by
      | in-None w ↦ w.bound-is ∙ w.least_by_arcs-bound.ensures
    ] in
    found_more firsts heads ups aim list c.requires.upward c.requires.found rank c.reach-reach.result c.match-links.bound c.requires.rank c.requires.heads c.reach-reach.ensures worth
