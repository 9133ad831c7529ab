use Rattle.std.proofs.Common.{◌≡◌, ◌≢◌, ℕ, ◌+◌, ◌<◌, ◌≤◌, List, length, get_or, set, refl, sym, ◌∙◌, ap, subst, arith}
use Rattle.ea_road.specs.Roads.{Roads, leaving}
use Rattle.ea_search.specs.declared.link.Link.{Link}
use Rattle.ea_search.specs.declared.link.TheConstants.{NO_LEVEL}
use Rattle.ea_search.specs.Links.{link}
use Rattle.ea_paths.specs.Replayed.{IsSettled}
use Rattle.ea_search.specs.Scans.{number_at}
use Rattle.ea_paths.proofs.Mendings.{Ready-all, Ready-more, Ready-none, Ready-same, link-next}
use Rattle.ea_paths.proofs.Numbered.{AreSettledTo, IsSettled-arc, IsSettled-else, SettledTo-none, SettledTo-more, SettledTo-level, SettledTo-all, link-set_next, link-set_else}
use Rattle.ea_paths.proofs.log_links.settle.Goals.{then-old-lt-NO_LEVEL+then-old-gt0+in-Some, else-old-lt-NO_LEVEL, else-old-lt-NO_LEVEL-via-then-old-lt-NO_LEVEL+else-old-gt0, else-old-lt-NO_LEVEL-via-else-old-lt-NO_LEVEL}
use Rattle.ea_paths.proofs.log_links.settle.Goals as goal

pub loop-place-init : goal.loop-place-init
loop-place-init c = record { places = refl; ready = Ready-none c.args.links.now; settled = SettledTo-none c.args.network.now c.args.links.now }

-- the link of a node, as the code reads it
abbrev none : Link
none = record { level = 0; arc = 0; from = 0 }

-- one more link, which stays or gets the number of its arc
module _ (network : Roads) (links links' : List Link) (place : ℕ) (inside : place < length links') (to : AreSettledTo network links links' place) where
  abbrev old : Link
  old = get_or links' place none

  read : old ≡ link links (place + 1)
  read = link-next links' place none inside ∙ to.rest (place + 1) (omega arith)

  pub keeps : ((link links (place + 1)).level < NO_LEVEL → (link links (place + 1)).from ≢ 0 → ⊥) → AreSettledTo network links links' (place + 1)
  keeps never = SettledTo-more network links links' links' place to (λ v _. refl) (IsSettled-else network links (place + 1) (link links' (place + 1)) (to.rest (place + 1) (omega arith)) never)

  pub writes : (number : ℕ) → number ≡ number_at network old.from old.arc → old.arc < length (leaving network old.from) → (link links' old.from).level < old.level → 0 < old.from → AreSettledTo network links (set links' place (record { level = old.level; arc = number; from = old.from })) (place + 1)
  writes number arc room lower far =
      let new : Link = record { level = old.level; arc = number; from = old.from } in
      let same = SettledTo-level network links links' place to old.from in
      let is : IsSettled network links (place + 1) new = IsSettled-arc network links (place + 1) number old read arc room (omega arith) far in
      let P : Link → Type 0 = λ l. IsSettled network links (place + 1) l in
      SettledTo-more network links links' (set links' place new) place to (λ v ne. link-set_else links' place v new ne) (subst P (sym (link-set_next links' place new inside)) is)

pub loop-place-preserved : goal.loop-place-preserved
loop-place-preserved c =
    let network = c.args.network.now in
    let links = c.args.links.now in
    let links' = c.loop-place.links in
    let place = c.loop-place.place in
    let to = c.loop-place.invariant.settled in
    let inside : place < length links' = omega (arith, c.loop-place-test.true, c.loop-place.invariant.places) in
    let at = read network links links' place inside to in
    let level = ap (λ (l : Link). l.level) at in
    let from = ap (λ (l : Link). l.from) at in
    let P : List Link → Type 0 = λ xs. AreSettledTo network links xs (place + 1) in
    record {
      places = c.if-old-lt-NO_LEVEL.auto.links ∙ c.loop-place.invariant.places;
      ready = Ready-more links place (c.loop-place.invariant.ready) (λ there. omega (arith, level, there, c.if-old.false));
      settled = elim c.if-old-lt-NO_LEVEL.branch [
        | then-old-lt-NO_LEVEL+then-old-gt0+in-Some w ↦ (
            let is = w.in-Some.ensures in
            subst P (sym w.links-is) (writes network links links' place inside to w.in-Some.number (sym is.0.1) is.0.0 is.1 w.if-old-gt0.true))
        | else-old-lt-NO_LEVEL w ↦ (
            let never : (link links (place + 1)).level < NO_LEVEL → (link links (place + 1)).from ≢ 0 → ⊥ = λ there far. elim w.else-old-lt-NO_LEVEL.branch [
              | else-old-lt-NO_LEVEL-via-then-old-lt-NO_LEVEL+else-old-gt0 w' ↦ omega (arith, w'.if-old-gt0.false)
              | else-old-lt-NO_LEVEL-via-else-old-lt-NO_LEVEL w' ↦ omega (arith, w'.if-old-lt-NO_LEVEL.false)
            ] in
            subst P (sym w.links-is) (keeps network links links' place inside to never))
      ];
    }

pub returns-clause-settled : goal.returns-clause-settled
returns-clause-settled c = λ _.
    let network = c.args.network.now in
    let links = c.args.links.now in
    let links' = c.loop-place.links in
    let place = c.loop-place.place in
    let before = c.loop-place.invariant in
    let past : length links ≤ place = omega (arith, before.places, c.loop-place-test.false) in (
      SettledTo-all network links links' place past before.settled,
      Ready-same links links' (SettledTo-level network links links' place before.settled) (Ready-all links place past before.ready),
    )
