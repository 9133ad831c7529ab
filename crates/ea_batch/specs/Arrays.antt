-- What was sent and may be used again, between two reports.
use Rattle.std.specs.Prelude.{◌≡◌, ◌≤◌, ◌*◌, ◌^◌, Bool, IfSome, None, Option}
use Rattle.ea_base.specs.declared.limits.TheConstants.{MOST_STARTS}
use Rattle.ea_load.specs.declared.road.Road.{Road}
use Rattle.ea_batch.specs.declared.progress.Progress.{Progress}
use Rattle.ea_batch.specs.declared.searching.Aids.{Aids}
use Rattle.ea_batch.specs.declared.searching.Searching.{Searching}
use Rattle.ea_batch.specs.Solved.{AreAidsOn, Serves}

-- The arrays that the next search uses again, and what it may use besides, are of the road.
pub record IsAided (road : Road) (walks : Bool) (arrays : Option Searching) (means : Aids) : Type 0 where
  pub search : IfSome arrays (Serves road.network walks)
  pub aids : AreAidsOn road means

-- Nothing was sent and no arrays are there yet.
pub record HasSentNothing (means : Aids) (progress : Progress) : Type 0 where
  pub written : progress.written ≡ 0
  pub search : progress.search ≡ None
  pub aids : progress.aids ≡ means

-- One more report may be made and sent.
pub record CanReport (road : Road) (walks : Bool) (progress : Progress) : Type 0 where
  pub room : progress.written ≤ MOST_STARTS * 2 ^ 90
  pub aided : IsAided road walks progress.search progress.aids

-- The arrays, and what searches may use, stayed as they were.
pub record KeepsArrays (before after : Progress) : Type 0 where
  pub search : after.search ≡ before.search
  pub aids : after.aids ≡ before.aids

-- The arrays are of the road, and what searches may use stayed.
pub record StaysAided (road : Road) (walks : Bool) (before after : Progress) : Type 0 where
  pub search : IfSome after.search (Serves road.network walks)
  pub aids : after.aids ≡ before.aids
