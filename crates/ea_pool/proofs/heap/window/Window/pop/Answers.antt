use Rattle.std.proofs.Common.{subst, ◌≡◌, ◌≤◌, List, [], ◌∷◌, ◌++◌, refl, sym, ap, ◌∙◌, length, arith, rules}
use Rattle.std.specs.Option.{option_to_list}
use Rattle.ea_pool.specs.declared.heap.entry.Entry.{Entry}
use Rattle.ea_pool.specs.Entries.{face}
use Rattle.ea_pool.proofs.Windowed.{face_front}
use Rattle.ea_pool.proofs.heap.window.Window.pop.Goals as goal

front_none : (xs ys : List Entry) → xs ++ ys ≡ [] → xs ≡ []
front_none [] ys none = refl
front_none (x ∷ xs) ys none = absurd (omega (arith, ap length none))

pub invariant_of-self-else-is_empty : goal.invariant_of-self-else-is_empty
invariant_of-self-else-is_empty g c =
    let left = c.pop-entry.new.self.items in
    let taken = option_to_list c.pop-entry.result in
    record {
      low = face_front c.self.inside.floor left taken (subst (λ (es : List Entry). c.self.inside.floor ≤ face es) c.pop-entry.ensures.items c.self.invariant.low);
      none = λ e. absurd (search (e, c.if-is_empty.false, c.is_empty.ensures, rules));
      some = λ e. front_none left taken (sym c.pop-entry.ensures.items ∙ c.self.invariant.some e);
    }
