use Rattle.std.proofs.Common.{◌∙◌, ℕ, refl, get_or, arith, ap, List, take, drop, ◌++◌, ◌≡◌, length}
use Rattle.std.specs.Prelude.{None}
use Rattle.ea_check.proofs.KeptLines.{no_items, some_items, reads_none_left, reads_none, reads_walk, own_left, own_taken}
use Rattle.ea_check.proofs.Passed.{shares}
use Rattle.ea_check.proofs.form.walk_reader.WalkReader.read_next.Goals as goal

pub returns-then-self-eq0 : goal.returns-then-self-eq0
returns-then-self-eq0 c =
    let none = no_items c.args.self.now.walks.now (omega arith) in
    let old = c.args.self.now in
    record { read = reads_none_left old (record { walks = old.walks; own = old.own; arcs = old.arcs; shared = c.len-self.result }) none none refl refl; shared = refl }

pub returns-in_default : goal.returns-in_default
returns-in_default c =
    let old = c.args.self.now in
    let first = get_or old.walks.now 0 None in
    record { shared = refl; read = reads_none old (record { walks = c.split_at.result.1; own = old.own; arcs = old.arcs; shared = c.len-self.result }) first c.split_at.result.1.now (some_items old.walks.now c.split_at.result.1.now first (omega arith) refl c.split_at.ensures.back) refl c.in_default.is refl refl }

pub returns : goal.returns
returns c =
    let old = c.args.self.now in
    let first = get_or old.walks.now 0 None in
    let walk = c.in-Some.walk in
    let front = c.split_at-2.ensures.front ∙ ap (λ n. take n old.own.now) c.min.ensures ∙ own_taken walk.own old.own.now in
    let back = c.split_at-2.ensures.back ∙ ap (λ n. drop n old.own.now) c.min.ensures ∙ own_left walk.own old.own.now in
    let grown = c.in_ok-extend_from_slice.ensures.items ∙ ap (λ (xs : List ℕ). xs ++ c.split_at-2.result.0.now) c.truncate.ensures.items in
    let size : c.len-self-2.result ≡ length (take walk.shared old.arcs.items) = omega (arith, c.len-self-2.ensures, c.truncate.new.self.ok.0, ap (λ (xs : List ℕ). length xs) c.truncate.ensures.items) in
    record {
      shared = shares old.arcs.items c.extend_from_slice.new.self.items c.split_at-2.result.0.now walk.shared c.len-self-2.result size grown;
      read = reads_walk old (record { walks = c.split_at.result.1; own = c.split_at-2.result.1; arcs = c.extend_from_slice.new.self; shared = c.len-self-2.result }) first c.split_at.result.1.now (some_items old.walks.now c.split_at.result.1.now first (omega arith) refl c.split_at.ensures.back) refl walk c.in-Some.is back
          (grown ∙ ap (λ (xs : List ℕ). take walk.shared old.arcs.items ++ xs) front);
    }
