-- The forms of a query, as contracts see them.
use Rattle.std.specs.Prelude.{Some, None}
use Rattle.ea_road.specs.Queries.{Asking}
use Rattle.ea_road.specs.declared.query.QueryForm.{QueryForm}
use Rattle.ea_road.specs.declared.query.QueryForm.TheVariants.{All, One, Pair}

abbrev pub asking_of : QueryForm → Asking
asking_of (All sources) = record { sources = sources.items; target = None }
asking_of (One source) = record { sources = source; target = None }
asking_of (Pair source target) = record { sources = source; target = Some target }
