-- What a turn that popped nothing says of the heaps that its words drew.
use Rattle.std.specs.Prelude.{ℕ, List}
use Rattle.rand_core.specs.Stream.{Stream, next_u64}
use Rattle.ea_pool.specs.declared.shared.words.TheConstants.{EMPTY}
use Rattle.ea_pool.specs.Draws.{first_draw, second_draw}
use Rattle.ea_pool.specs.Tries.{LookedAt, WasBusy}
use Rattle.ea_engine.specs.declared.worker.turn.TurnKind.{TurnKind}
use Rattle.ea_engine.specs.declared.worker.turn.TurnKind.TheVariants as kind
use Rattle.ea_engine.specs.Words.{after_words}

-- The word of a generator after this many words.
abbrev pub word_after : ℕ → Stream → ℕ
word_after n words = (next_u64 (after_words n words)).0

-- The heaps that a turn's first two words draw.
abbrev pub first_heap : ℕ → Stream → ℕ
first_heap heaps words = first_draw heaps (word_after 0 words)

abbrev pub second_heap : ℕ → Stream → ℕ
second_heap heaps words = second_draw heaps (word_after 0 words) (word_after 1 words)

-- Of the heaps that two words draw, an empty turn saw both without an entry, and a busy one saw one that was
-- out, or lost an exchange. Earlier observations of the seat precede them.
abbrev pub SawAs : TurnKind → ℕ → ℕ → List (ℕ × ℕ) → List (ℕ × ℕ) → Type 0
SawAs kind.Empty i j before after = LookedAt i EMPTY j EMPTY before after
SawAs kind.Busy i j before after = WasBusy i j before after
SawAs kind.Stale i j before after = Unit {0}
SawAs kind.Scanned i j before after = Unit {0}
SawAs kind.Refused i j before after = Unit {0}
SawAs kind.Cut i j before after = Unit {0}
