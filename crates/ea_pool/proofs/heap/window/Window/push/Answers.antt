use Rattle.std.proofs.Common.{subst, ◌≤◌, List, [], ◌∷◌, sym, ap, ◌∙◌, length, length-append, arith}
use Rattle.ea_pool.specs.declared.heap.entry.Entry.{Entry}
use Rattle.ea_pool.specs.Entries.{face}
use Rattle.ea_pool.proofs.Windowed.{face_snoc}
use Rattle.ea_pool.proofs.heap.window.Window.push.Goals as goal

pub invariant_of-self : goal.invariant_of-self
invariant_of-self g c =
    let before = c.self.inside.entries.items in
    let floor = c.min-floor.result in
    record {
      low = subst (λ (es : List Entry). floor ≤ face es) (sym c.in-Ok.ensures.items)
          (face_snoc floor before c.args.entry (omega (arith, c.min-floor.ensures, c.self.invariant.low)) (omega (arith, c.min-floor.ensures, c.min.ensures)));
      none = λ e. absurd (omega (arith, ap length (sym c.in-Ok.ensures.items ∙ e), length-append before (c.args.entry ∷ [])));
      some = λ e. absurd (omega (arith, c.min-floor.ensures, c.min.ensures, e));
    }
