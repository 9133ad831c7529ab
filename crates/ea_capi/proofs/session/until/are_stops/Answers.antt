use Rattle.std.proofs.Common.{◌≡◌, ℕ, ◌<◌, List, length, get_or, refl, sym, subst, arith}
use Rattle.std.proofs.lemmas.List.{get_or_read, get_or_default}
use Rattle.ea_road.specs.declared.target.Target.{Target}
use Rattle.ea_capi.specs.Latest.{AreStops, IsStop}
use Rattle.ea_capi.proofs.session.until.are_stops.Goals as goal

abbrev none : Target
none = record { node = 0; time = 0 }

targets_of : (nodes : ℕ) (targets : List Target) → ((place : ℕ) → place < length targets → IsStop nodes (get_or targets place none)) → AreStops nodes targets
targets_of nodes targets each = record {
  each = λ source among.
      let read : source ≡ get_or targets among.0 none = get_or_read targets among.0 source among.1.0 among.1.1 none in
      subst (λ (s : Target). IsStop nodes s) (sym read) (each among.0 among.1.0);
}

pub returns-then-not-is_stop : goal.returns-then-not-is_stop
returns-then-not-is_stop c = (
  λ no. cc,
  λ targets.
      let place = c.loop-target.target-index in
      let fits = c.is_stop.ensures.1 (targets.each (get_or c.args.targets.now place none) (place, (c.loop-target-test.true, get_or_default c.args.targets.now place none (get_or c.args.targets.now place none) c.loop-target-test.true))) in
      let fails = c.if-not-is_stop.true in
      cc,
)

pub returns : goal.returns
returns c = (
  λ _. targets_of c.args.nodes c.args.targets.now (λ place low. c.loop-target.invariant place (omega arith)),
  λ _. refl,
)
