use Rattle.std.proofs.Common.{ap, arith, inl, inr, subst, sym, ◌-◌, ◌<◌, ◌∙◌, ◌≡◌, get_or}
use Rattle.std.proofs.lemmas.Bool.Decides.{leb_tells}
use Rattle.std.proofs.lemmas.List.{get_or_default}
use Rattle.ea_goal.specs.declared.frontier.Entry.{Entry}
use Rattle.ea_goal.specs.declared.frontier.TheConstants.{FARTHEST}
use Rattle.ea_goal.proofs.frontier.are_above.Goals as goal

abbrev none : Entry
none = record { nearness = 0; label = 0; node = 0 }

pub loop-entry-init : goal.loop-entry-init
loop-entry-init c = λ place other before. absurd (omega (arith, before))

pub loop-entry-preserved : goal.loop-entry-preserved
loop-entry-preserved c = λ place other before. elim (leb_tells c.loop-entry.entry-index place) [
  | inl this ↦
      let same : place ≡ c.loop-entry.entry-index = omega (arith, this.1, before) in
      let is : get_or c.args.entries.now place other ≡ get_or c.args.entries.now c.loop-entry.entry-index none = ap (λ k. get_or c.args.entries.now k other) same ∙ get_or_default c.args.entries.now c.loop-entry.entry-index other none c.loop-entry-test.true in
      subst (λ (e : Entry). c.args.last < FARTHEST - e.nearness) (sym is) c.if-entry-last.false
  | inr earlier ↦ c.loop-entry.invariant place other earlier.1
]

pub returns : goal.returns
returns c = λ is entry there.
    let above = c.loop-entry.invariant there.0 entry (omega (arith, there.1)) in
    subst (λ (e : Entry). c.args.last < FARTHEST - e.nearness) there.2 above
