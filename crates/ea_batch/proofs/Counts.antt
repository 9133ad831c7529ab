-- How many nodes a report shows.
use Rattle.std.proofs.Common.{ℕ, ◌≤◌, List, length, arith}
use Rattle.std.specs.Prelude.{IfSome, Option, Some, None}
use Rattle.ea_report.specs.Report.{node_count}

pub few_shown : (chosen : Option (List ℕ)) (nodes : ℕ) → nodes ≤ 67108864 → IfSome chosen (λ list. length list ≤ 1000000) → node_count chosen nodes ≤ 67108864
few_shown None nodes few short = few
few_shown (Some list) nodes few short = omega (arith, short)
