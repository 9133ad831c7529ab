-- The generators of workers and their words, by the seed of a run.
use Rattle.std.specs.Prelude.{ℕ, zero, suc, ◌+◌, ◌%◌, ◌^◌, List, [], ◌∷◌, ◌++◌}
use Rattle.rand_core.specs.Steps.{stream_of, steps_u64_high}
use Rattle.rand_core.specs.Stream.{Stream}
use Rattle.rand_xoshiro.specs.SplitMix64.{splitmix_seed}
use Rattle.rand_xoshiro.specs.Xoshiro256.{of_seed, plus_plus}

-- The seed of the worker with this number, from 0.
abbrev pub seed_of_worker : ℕ → ℕ → ℕ
seed_of_worker seed number = (seed + number) % 2 ^ 64

-- The state of the generator Xoshiro256++ for a seed.
abbrev pub generator_from : ℕ → List ℕ
generator_from seed = of_seed (splitmix_seed 32 seed)

-- The generators of this many workers, in their order.
abbrev pub generators_from : ℕ → ℕ → List (List ℕ)
generators_from seed zero = []
generators_from seed (suc number) = generators_from seed number ++ generator_from (seed_of_worker seed number) ∷ []

-- The words of that generator.
abbrev pub words_from : ℕ → Stream
words_from seed = stream_of (steps_u64_high plus_plus) (generator_from seed)
