use Rattle.std.proofs.Common.{◌≡◌, ℕ, arith, ◌-◌, ◌++◌, ◌∷◌, [], refl, ap, ◌∙◌, List, length, replicate}
use Rattle.std.specs.Prelude.{Option, Some, None}
use Rattle.ea_check.specs.declared.form.kept.KeptWalk.{KeptWalk}
use Rattle.ea_check.proofs.KeptLines.{keeps_walk}
use Rattle.ea_check.proofs.form.kept.keep_walk.Goals as goal

pub returns : goal.returns
returns c =
    let old = c.args.kept.now in
    let own = c.read_walk_arcs.new.arcs.items in
    let size : c.len-own.result ≡ length own = omega (arith, c.len-own.ensures, c.read_walk_arcs.new.arcs.ok.0) in
    let lines : c.len.result ≡ length old.lines.items = omega (arith, c.len.ensures, old.lines.ok.0) in
    keeps_walk old _ c.args.walk.way c.args.walk.arcs.now own c.part_to_keep-start.result.0 c.part_to_keep-start.result.1 c.args.walk.count c.args.walk.line c.requires.kept c.part_to_keep-start.ensures c.in_ok-read_walk_arcs.ensures c.requires.count refl refl
    (c.in_ok-push.ensures.items ∙ ap (λ n. c.pad.new.walks.items ++ Some (record { line = c.args.walk.line; shared = c.args.walk.count - n; own = n }) ∷ []) size
    ∙ ap (λ (ws : List (Option KeptWalk)). ws ++ Some (record { line = c.args.walk.line; shared = c.args.walk.count - length own; own = length own }) ∷ []) c.in_ok-pad.ensures
    ∙ ap (λ n. (old.walks.items ++ replicate (n - length old.walks.items) None) ++ Some (record { line = c.args.walk.line; shared = c.args.walk.count - length own; own = length own }) ∷ []) lines)
    (c.in_ok-extend_from_slice.ensures.items ∙ ap (λ (xs : List ℕ). old.own.items ++ xs) c.deref.ensures.value)
    refl
    (c.in_ok-extend_from_slice-2.ensures.items ∙ ap (λ (xs : List ℕ). xs ++ c.args.walk.arcs.now) c.clear.ensures.items)
