-- What is kept of the nodes that were read, as more are read.
use Rattle.std.proofs.Common.{◌≡◌, ◌∙◌, refl, ℕ, suc, ◌+◌, ◌-◌, ◌≤◌, List, [], ◌∷◌, ◌++◌, length, arith, ap, sym, subst, append_assoc, append-nil}
use Rattle.ea_check.specs.Verdicts.{Said}
use Rattle.ea_check.specs.Form.{Line}
use Rattle.ea_check.specs.Reads.{ReadsNode, ReadsNodes, one_more, no_more, NodeWrong, NodesWrong, in_node, behind_node}

-- The lines of the nodes before this one were read: what holds of those that are left holds of all.
pub record NodesLeft (node nodes : ℕ) (kept : List Said) (lines next : List Line) : Type 0 where
  pub reads : (later : List Said) (others : List Line) → ReadsNodes node later next others → ReadsNodes 1 (kept ++ later) lines others
  pub wrong : (count number : ℕ) → node + count ≡ nodes + 1 → NodesWrong node count next number → NodesWrong 1 nodes lines number

module _ (node nodes : ℕ) (kept more : List Said) (said : Said) (lines next others : List Line) where
  pub node_more : NodesLeft node nodes kept lines next → more ≡ kept ++ said ∷ [] → ReadsNode node said next others → NodesLeft (node + 1) nodes more lines others
  node_more left grown here = record {
    reads = λ later last reads.
        subst (λ (ss : List Said). ReadsNodes 1 ss lines last) (sym (append_assoc kept (said ∷ []) later) ∙ ap (λ (ss : List Said). ss ++ later) (sym grown)) (left.reads (said ∷ later) last (one_more here reads));
    wrong = λ count number same later. left.wrong (suc count) number (omega arith) (behind_node here later);
  }

-- The lines of more nodes were read.
pub nodes_more : (node nodes : ℕ) (kept said : List Said) (lines next others : List Line) → NodesLeft node nodes kept lines next → ReadsNodes node said next others → NodesLeft (node + length said) nodes (kept ++ said) lines others
nodes_more node nodes kept [] lines next others left no_more =
    subst (λ n. NodesLeft n nodes (kept ++ []) lines next) (omega arith) (subst (λ (ss : List Said). NodesLeft node nodes ss lines next) (sym (append-nil kept)) left)
nodes_more node nodes kept (first ∷ said) lines next others left (one_more {middle} here later) =
    let one = node_more node nodes kept (kept ++ first ∷ []) first lines next middle left refl here in
    let all = nodes_more (node + 1) nodes (kept ++ first ∷ []) said lines middle others one later in
    subst (λ n. NodesLeft n nodes (kept ++ first ∷ said) lines others) (omega arith) (subst (λ (ss : List Said). NodesLeft (node + 1 + length said) nodes ss lines others) (append_assoc kept (first ∷ []) said) all)

pub nodes_ahead : (node nodes count : ℕ) (kept more said : List Said) (lines next others : List Line) → more ≡ kept ++ said → length said ≡ count → NodesLeft node nodes kept lines next → ReadsNodes node said next others → NodesLeft (node + count) nodes more lines others
nodes_ahead node nodes count kept more said lines next others grown many left reads =
    subst (λ n. NodesLeft (node + n) nodes more lines others) many (subst (λ (ss : List Said). NodesLeft (node + length said) nodes ss lines others) (sym grown) (nodes_more node nodes kept said lines next others left reads))

pub node_wrong : (node nodes : ℕ) (kept : List Said) (lines next : List Line) → NodesLeft node nodes kept lines next → node ≤ nodes → (number : ℕ) → NodeWrong node next number → NodesWrong 1 nodes lines number
node_wrong node nodes kept lines next left low number here = left.wrong (suc (nodes - node)) number (omega arith) (in_node here)

pub all_nodes : (node nodes : ℕ) (kept : List Said) (lines next : List Line) → NodesLeft node nodes kept lines next → ReadsNodes 1 kept lines next
all_nodes node nodes kept lines next left = subst (λ (ss : List Said). ReadsNodes 1 ss lines next) (append-nil kept) (left.reads [] next no_more)
