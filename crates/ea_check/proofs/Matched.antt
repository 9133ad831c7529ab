-- What is known of an option.
use Rattle.std.proofs.Common.{◌≡◌, ℕ, List, sym, subst}
use Rattle.std.specs.Prelude.{Option, Some, None, MatchOption}
use Rattle.ea_base.specs.declared.direction.Direction.{Direction}
use Rattle.ea_check.specs.Form.{SaysTime}

pub match_weaker : {A : Type 0} (option : Option A) (P P' : Type 0) (Q Q' : A → Type 0) → MatchOption option P Q → (P → P') → ((value : A) → Q value → Q' value) → MatchOption option P' Q'
match_weaker None P P' Q Q' holds none some = none holds
match_weaker (Some value) P P' Q Q' holds none some = some value holds

pub match_fields : (way : Direction) (fields parts : List (List ℕ)) (node : ℕ) (option : Option ℕ) → fields ≡ parts → MatchOption option ((time : ℕ) → SaysTime way parts node time → ⊥) (λ time. SaysTime way parts node time) → MatchOption option ((time : ℕ) → SaysTime way fields node time → ⊥) (λ time. SaysTime way fields node time)
match_fields way fields parts node option same holds =
    subst (λ (f : List (List ℕ)). MatchOption option ((time : ℕ) → SaysTime way f node time → ⊥) (λ time. SaysTime way f node time)) (sym same) holds
