-- Rank errors in three numbers.
use Rattle.std.specs.Prelude.{ℕ, max, List, [], ◌∷◌, length}
use Rattle.ea_rank.specs.declared.summary.Summary.{Summary}
use Rattle.ea_rank.specs.Tallies.{added}

-- The greatest of the numbers, 0 if there is none.
abbrev pub greatest : List ℕ → ℕ
greatest [] = 0
greatest (x ∷ xs) = max x (greatest xs)

abbrev pub summary_of : List ℕ → Summary
summary_of ranks = record { pops = length ranks; greatest = greatest ranks; sum = added ranks }
