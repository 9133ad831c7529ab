-- Opening nodes, one after the other.
use Rattle.std.proofs.Common.{◌≡◌, ℕ, zero, suc, ◌+◌, ◌<◌, ◌≤◌, ◌∙◌, length, refl, arith}
use Rattle.std.specs.Prelude.{Contains}
use Rattle.ea_search.specs.Worklist.{Worklist}
use Rattle.ea_engine.specs.Openings.{OpensUpTo}

pub OpensUpTo-none : (a : Worklist) → OpensUpTo 0 a a
OpensUpTo-none a = record { kept = λ node waits. waits; few = omega arith; some = λ some. omega (arith, some); nodes_are = refl; walks_are = refl }

-- a node was added
pub OpensUpTo-added : (a b : Worklist) (node : ℕ) → ((other : ℕ) → Contains a.waiting other → Contains b.waiting other) → Contains b.waiting node → length b.waiting ≤ length a.waiting + 1
    → (b.nodes ≡ a.nodes) × (b.walks ≡ a.walks) → OpensUpTo 1 a b
OpensUpTo-added a b node kept inside few room = record {
  kept = kept;
  few = few;
  some = λ some. omega (arith, inside.1);
  nodes_are = room.0;
  walks_are = room.1;
}

pub OpensUpTo-then : (a b c : Worklist) (n m k : ℕ) → OpensUpTo n a b → OpensUpTo m b c → k ≡ n + m → OpensUpTo k a c
OpensUpTo-then a b c n m k p q is = record {
  kept = λ node waits. q.kept node (p.kept node waits);
  few = omega (arith, p.few, q.few, is);
  some = λ some. go (length a.waiting + n) refl some;
  nodes_are = q.nodes_are ∙ p.nodes_are;
  walks_are = q.walks_are ∙ p.walks_are;
}
  where
    go : (x : ℕ) → x ≡ length a.waiting + n → 0 < length a.waiting + k → 0 < length c.waiting
    go zero none some = q.some (omega (arith, some, none, is))
    go (suc x) more some = q.some (omega (arith, p.some (omega (arith, more))))
