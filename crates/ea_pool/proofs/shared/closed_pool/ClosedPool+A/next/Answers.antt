use Rattle.std.proofs.Common.{◌≡◌, ◌≤◌, ℕ, List, [], ◌∷◌, length, set, subst, arith, MatchOption, IfSome, Some}
use Rattle.std.proofs.lemmas.List.{take_all}
use Rattle.std.specs.List.{AllByRecursion}
use Rattle.ea_pool.specs.declared.heap.entry.Entry.{Entry}
use Rattle.ea_pool.specs.Entries.{SameEntries, HasLeastKey, gathered}
use Rattle.ea_pool.specs.Left.{IsBestOf}
use Rattle.ea_pool.proofs.Leaving.{takes_one, takes_least}
use Rattle.ea_pool.proofs.shared.closed_pool.ClosedPool+A.next.Goals as goal

pub returns-clause-taken : goal.returns-clause-taken
returns-clause-taken g c =
    let heaps : List (List Entry) = c.self.inside.heaps.items in
    let best = subst (λ (hs : List (List Entry)). IsBestOf hs (length hs) (Some (c.in-Some.place, c.in-Some.field-0-1))) c.as_slice.ensures.value c.in-Some.ensures in
    subst (λ (l : List Entry). MatchOption c.pop.result ((l ≡ []) × (gathered (set heaps c.in-Some.place c.pop.new.self) ≡ [])) (λ e. SameEntries l (e ∷ gathered (set heaps c.in-Some.place c.pop.new.self))))
    c.self.view_is
    (takes_one heaps c.in-Some.place c.in-Some.field-0-1 c.index_mut-heap.result.now c.pop.new.self best.0 c.index_mut-heap.ensures.value best.1 c.pop.result c.pop.ensures)

pub returns-clause-least : goal.returns-clause-least
returns-clause-least g c =
    let heaps : List (List Entry) = c.self.inside.heaps.items in
    let key : ℕ = c.in-Some.field-0-1 in
    let best = subst (λ (hs : List (List Entry)). IsBestOf hs (length hs) (Some (c.in-Some.place, key))) c.as_slice.ensures.value c.in-Some.ensures in
    let low : AllByRecursion (λ d. key ≤ d.key) (gathered heaps) = subst (λ (hs : List (List Entry)). AllByRecursion (λ d. key ≤ d.key) (gathered hs)) (take_all (length heaps) heaps (omega arith)) best.2 in
    subst (λ (l : List Entry). IfSome c.pop.result (λ e. HasLeastKey e l)) c.self.view_is
    (takes_least heaps c.in-Some.place key c.index_mut-heap.result.now c.pop.new.self best.0 c.index_mut-heap.ensures.value best.1 c.pop.result c.pop.ensures low)
