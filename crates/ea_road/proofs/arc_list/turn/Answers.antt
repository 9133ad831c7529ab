use Rattle.std.proofs.Common.{◌≡◌, ◌∙◌, ℕ, zero, suc, ◌+◌, ◌<◌, List, [], ◌∷◌, ◌++◌, length, map, take, drop, set, get_or, refl, ap, arith}
use Rattle.ea_base.specs.declared.graph.RawArc.{RawArc}
use Rattle.ea_road.specs.Turned.{turned_raw}
use Rattle.ea_road.proofs.arc_list.turn.Goals as goal

-- what is done before a place is done at it, too
one_more : {A : Type 0} (f : A → A) (xs : List A) (place : ℕ) (d : A) → place < length xs
    → set (map f (take place xs) ++ drop place xs) place (f (get_or (map f (take place xs) ++ drop place xs) place d)) ≡ map f (take (suc place) xs) ++ drop (suc place) xs
one_more f [] place d inside = absurd (omega arith)
one_more f (x ∷ xs) zero d inside = refl
one_more f (x ∷ xs) (suc place) d inside = ap (λ rest. f x ∷ rest) (one_more f xs place d (omega arith))

abbrev none : RawArc
none = record { tail = 0; head = 0; weight = 0 }

pub loop-arc-preserved : goal.loop-arc-preserved
loop-arc-preserved c =
    let place = c.loop-arc.arc-index in
    let next : suc place ≡ place + 1 = omega arith in
    ap (λ (xs : List RawArc). set xs place (turned_raw (get_or xs place none))) c.loop-arc.invariant
    ∙ one_more turned_raw c.args.arcs.now place none (omega arith)
    ∙ ap (λ (n : ℕ). map turned_raw (take n c.args.arcs.now) ++ drop n c.args.arcs.now) next
