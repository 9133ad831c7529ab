use Rattle.std.proofs.Common.{◌≡◌, ℕ, ◌-◌, ◌+◌, ◌<◌, get_or, set, refl, subst, sym, ◌∙◌, arith, inl, inr}
use Rattle.std.proofs.lemmas.Bool.{cases_eq}
use Rattle.std.proofs.lemmas.List.{get_or-set_same, get_or-set_other, get_or_default, get_or_read, length-set}
use Rattle.ea_layout.specs.Copied.{IsCopyOf}
use Rattle.ea_layout.proofs.Places.{link_by_place, links_copied, node_at}
use Rattle.ea_search.specs.declared.link.Link.{Link}
use Rattle.ea_search.specs.Links.{no_link}
use Rattle.ea_layout.proofs.written.copy_links.Goals as goal

-- the number that was read is a node's
pub overflow_sub-index : goal.overflow_sub-index
overflow_sub-index c =
    let reverse = c.requires.can.reverse in
    let long = reverse.there_length in
    let low = c.loop-slot-test.true in
    let length = c.requires.can.places in
    let is = node_at _ c.args.layout.now.places.items c.loop-slot.slot reverse.there_node (omega (arith, low, length)) in
    let read = get_or_read c.args.layout.now.places.items c.loop-slot.slot c.index.result.now (omega (arith, low, length, long)) c.index.ensures 0 in
    rw read is.from_one

pub bounds-laid-index : goal.bounds-laid-index
bounds-laid-index c =
    let reverse = c.requires.can.reverse in
    let long = reverse.there_length in
    let low = c.loop-slot-test.true in
    let length = c.requires.can.places in
    let is = node_at _ c.args.layout.now.places.items c.loop-slot.slot reverse.there_node (omega (arith, low, length)) in
    let read = get_or_read c.args.layout.now.places.items c.loop-slot.slot c.index.result.now (omega (arith, low, length, long)) c.index.ensures 0 in
    let from = is.from_one in
    let to = is.to_last in
    rw read (omega (arith, from, to))

pub loop-slot-preserved : goal.loop-slot-preserved
loop-slot-preserved c =
    let reverse = c.requires.can.reverse in
    let long = reverse.there_length in
    let low = c.loop-slot-test.true in
    let whole = c.requires.can.places in
    let places = c.args.layout.now.places.items in
    let is = node_at _ places c.loop-slot.slot reverse.there_node (omega (arith, low, whole)) in
    let from = is.from_one in
    let to = is.to_last in
    let read : c.index.result.now ≡ get_or places c.loop-slot.slot 0 = get_or_read places c.loop-slot.slot c.index.result.now (omega (arith, low, whole, long)) c.index.ensures 0 in
    let none : Link = record { level = 0; arc = 0; from = 0 } in
    let copy : IsCopyOf c.args.layout.now.nodes.items (get_or c.args.laid.now (get_or places c.loop-slot.slot 0 - 1) none) c.copy_of.result = rw (c.deref.ensures.value, read) at c.copy_of.ensures in
    let default = get_or_default c.args.laid.now (get_or places c.loop-slot.slot 0 - 1) none no_link (omega (arith, from, to)) in
    record {
      many = length-set c.loop-slot.links c.loop-slot.slot c.copy_of.result ∙ c.loop-slot.invariant.many;
      each = each (subst (λ (l : Link). IsCopyOf c.args.layout.now.nodes.items l c.copy_of.result) default copy);
    }
  where
    each : IsCopyOf c.args.layout.now.nodes.items (get_or c.args.laid.now (get_or c.args.layout.now.places.items c.loop-slot.slot 0 - 1) no_link) c.copy_of.result → (at : ℕ) → at < c.loop-slot.slot + 1 → IsCopyOf c.args.layout.now.nodes.items (get_or c.args.laid.now (get_or c.args.layout.now.places.items at 0 - 1) no_link) (get_or (set c.loop-slot.links c.loop-slot.slot c.copy_of.result) at no_link)
    each copy at before = elim (cases_eq at c.loop-slot.slot) [
      | inl same ↦ (let many = c.loop-slot.auto.links in
          let low = c.loop-slot-test.true in
          let here = get_or-set_same c.loop-slot.links c.loop-slot.slot c.copy_of.result no_link (omega (arith, many, low)) in
          subst (λ n. IsCopyOf c.args.layout.now.nodes.items (get_or c.args.laid.now (get_or c.args.layout.now.places.items n 0 - 1) no_link) (get_or (set c.loop-slot.links c.loop-slot.slot c.copy_of.result) n no_link)) (sym same) (rw here copy))
      | inr differ ↦ (let other = get_or-set_other c.loop-slot.links c.loop-slot.slot at c.copy_of.result no_link differ in
          rw other (c.loop-slot.invariant.each at (omega (arith, before, differ))))
    ]

pub returns : goal.returns
returns c =
    let reverse = c.requires.can.reverse in
    let inv = c.loop-slot.invariant in
    let done = c.loop-slot-test.false in
    let whole = c.requires.can.places in
    let all = link_by_place _ c.args.layout.now.places.items c.args.layout.now.nodes.items reverse c.args.laid.now c.loop-slot.links (λ at low. inv.each at (omega (arith, low, done, whole))) in
    record { copied = links_copied _ c.args.layout.now.places.items c.args.layout.now.nodes.items reverse c.args.laid.now c.loop-slot.links inv.many all refl c.requires.followable; all = all }
