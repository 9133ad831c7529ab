-- Arrays for led searches fit as many nodes as before.
use Rattle.std.proofs.Common.{◌≡◌, ℕ, IfSome, Option, Some, None, ◌∙◌}

pub fits_too : (guide : Option ℕ) (nodes other : ℕ) → nodes ≡ other → IfSome guide (λ n. n ≡ nodes) → IfSome guide (λ n. n ≡ other)
fits_too (Some n) nodes other same fits = fits ∙ same
fits_too None nodes other same fits = fits
