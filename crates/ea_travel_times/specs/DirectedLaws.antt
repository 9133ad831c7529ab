-- Travel times are first in, first out in either direction.
use Rattle.std.proofs.Common.{ℕ}
use Rattle.ea_base.specs.declared.direction.Direction.{Direction}
use Rattle.ea_base.specs.declared.direction.Direction.TheVariants.{Forward, Turned}
use Rattle.ea_travel_times.specs.Answers.{IsFifo}
use Rattle.ea_travel_times.specs.Directed.{IsDirected}
use Rattle.ea_travel_times.specs.TurnedLaws.{turned_is_fifo}

pub directed_is_fifo : (direction : Direction) (answers : ℕ → ℕ → ℕ → ℕ → Type 0) (classes : ℕ) → IsFifo answers classes → IsFifo (IsDirected direction answers) classes
directed_is_fifo Forward answers classes fifo = fifo
directed_is_fifo Turned answers classes fifo = turned_is_fifo answers classes fifo
