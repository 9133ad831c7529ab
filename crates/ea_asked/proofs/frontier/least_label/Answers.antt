use Rattle.std.proofs.Common.{ap, arith, inl, inr, subst, sym, ◌≤◌, ◌∙◌, ◌≡◌, get_or}
use Rattle.std.proofs.lemmas.Bool.Decides.{leb_tells}
use Rattle.std.proofs.lemmas.List.{get_or_default}
use Rattle.ea_asked.specs.declared.frontier.Entry.{Entry}
use Rattle.ea_asked.proofs.frontier.least_label.Goals as goal

abbrev none : Entry
none = record { label = 0; node = 0 }

pub loop-entry-init : goal.loop-entry-init
loop-entry-init c = λ place other before. absurd (omega (arith, before))

pub loop-entry-preserved : goal.loop-entry-preserved
loop-entry-preserved c = λ place other before. elim (leb_tells c.loop-entry.entry-index place) [
  | inl this ↦
      let same : place ≡ c.loop-entry.entry-index = omega (arith, this.1, before) in
      let is : get_or c.args.entries.now place other ≡ get_or c.args.entries.now c.loop-entry.entry-index none = ap (λ k. get_or c.args.entries.now k other) same ∙ get_or_default c.args.entries.now c.loop-entry.entry-index other none c.loop-entry-test.true in
      subst (λ (e : Entry). c.min-least.result ≤ e.label) (sym is) (omega (arith, c.min-least.ensures))
  | inr earlier ↦ omega (arith, c.min-least.ensures, c.loop-entry.invariant place other earlier.1)
]

pub returns : goal.returns
returns c = λ place other inside. c.loop-entry.invariant place other (omega (arith, inside))
