use Rattle.std.proofs.Common.{◌≡◌, ◌+◌, ◌<◌, ℕ, false, arith, ap, sym, ◌∙◌, subst, get_or, take, ◌++◌, ◌∷◌, [], List, Bool}
use Rattle.std.specs.Mem.Slots.{slots_items, slots_filled, slots_len}
use Rattle.std.proofs.lemmas.List.{take_all}
use Rattle.ea_machine.specs.Totals.{total}
use Rattle.ea_pool.specs.declared.shared.account.Account.{Account}
use Rattle.ea_base.specs.declared.limits.TheConstants.{SHARES}
use Rattle.ea_pool.specs.declared.heap.entry.Entry.{Entry}
use Rattle.ea_pool.specs.Entries.{only, times, gathered}
use Rattle.ea_pool.specs.Pools.{books, IsRunEnd}
use Rattle.ea_machine.proofs.Totals.{total-append}
use Rattle.ea_pool.proofs.Gathered.{total_gathered}
use Rattle.ea_pool.proofs.Moves.{closes, left_known, run_end}
use Rattle.ea_pool.proofs.Rows.{take_one_more, still_filled, more_emptied}
use Rattle.ea_pool.proofs.shared.pool.Pool.close.Goals as goal

pub loop-k-preserved : goal.loop-k-preserved
loop-k-preserved g c =
    let i = c.loop-k.invariant in
    let t = c.take.ensures in
    let p = c.push_reserved.ensures in
    let filled = slots_filled c.loop-k.closed.slots in (
      t.others.0 ∙ i.0,
      t.others.2 ∙ i.1,
      p.items ∙ (ap (λ (l : List _). l ++ c.take.result ∷ []) i.2 ∙ (sym (take_one_more (slots_items c.loop-k.closed.slots) c.loop-k.k c.take.result t.value) ∙ ap (take (c.loop-k.k + 1)) (sym t.others.0))),
      omega (arith, p.len, i.3),
      omega (arith, p.capacity, i.4),
      (λ j after near. ap (λ (l : List Bool). get_or l j false) t.others.1 ∙ still_filled filled c.loop-k.k (slots_len c.loop-k.closed.slots) j i.5 after (subst (λ (n : ℕ). j < n) t.others.2 near)),
      (λ j after. ap (λ (l : List Bool). get_or l j false) t.others.1 ∙ more_emptied filled c.loop-k.k j i.6 after),
    )

pub returns : goal.returns
returns g c =
    let i = c.loop-k.invariant in
    let known = g.K.Known.is_known in
    let me = c.seat.inside.seat.me.0 in
    let rests = c.seat.invariant.0 in
    let items = slots_items c.close_with-closed.result.slots in
    let words = slots_items c.close_with-closed.result.words in
    let long = c.close_with-closed.result.slots.ok in
    let same = ap (λ s. s.account) c.seat.view_is in
    let whole : me.shares ≡ SHARES = ap (λ (a : Account). a.shares) same ∙ c.requires.all in
    let ended = c.close_with-closed.ensures.values.2 in
    let all : c.loop-k.row.items ≡ items = i.2 ∙ (ap (take c.loop-k.k) i.0 ∙ take_all c.loop-k.k items (omega (arith, long.0, c.close_with-closed.ensures.counts.1, c.self.invariant.1, c.loop-k-test.false))) in
    let key = c.self.inside.table.shared.key in
    record {
      left_is = λ f. omega (
        arith,
        closes known g.H.EntryHeap.kind key c.seat.inside.seat.id me words items whole rests.1 ended f,
        ap (λ (a : Account). total f a.pushed) same,
        ap (λ (a : Account). total f a.popped) same,
        total-append f c.args.seat.account.popped (gathered c.loop-k.row.items),
        total_gathered f c.loop-k.row.items,
        ap (total (total f)) all,
      );
      left_known = λ e some. left_known known g.H.EntryHeap.kind key c.seat.inside.seat.id me words items whole rests.1 ended e
          (omega (arith, some, total_gathered (only e) c.loop-k.row.items, ap (total (times e)) all));
      run =
          let ends = run_end known g.H.EntryHeap.kind key c.seat.inside.seat.id me words items whole rests.1 ended in
          let heaps : key ≡ c.args.self.heaps = c.self.invariant.2 ∙ ap (λ p. p.heaps) c.self.view_is in
          subst (λ (n : ℕ). IsRunEnd known g.H.EntryHeap.kind n (gathered c.loop-k.row.items) c.args.seat.account) heaps
          (subst (λ (a : Account). IsRunEnd known g.H.EntryHeap.kind key (gathered c.loop-k.row.items) a) same
          (subst (λ (row : List (List Entry)). IsRunEnd known g.H.EntryHeap.kind key (gathered row) (books me)) (sym all) ends));
    }
