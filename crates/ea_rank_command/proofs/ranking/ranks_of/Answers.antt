use Rattle.std.proofs.Common.{ℕ, List, subst}
use Rattle.rand_core.specs.Steps.{stream_of, steps_u64_high}
use Rattle.rand_xoshiro.specs.Xoshiro256.{plus_plus}
use Rattle.ea_rank.specs.Courses.{IsRunBy}
use Rattle.ea_load.specs.Posed.{times_on}
use Rattle.ea_rank_command.proofs.ranking.ranks_of.Goals as goal

pub returns-in-Ok : goal.returns-in-Ok
returns-in-Ok c =
    let run = c.in_ok-recorded.ensures in
    let P : List ℕ → Type 0 = λ state. IsRunBy c.args.road.now.network (times_on c.args.road.now) c.args.heaps (stream_of (steps_u64_high plus_plus) state) c.args.query.now.sources c.in_ok-recorded.recorded.events.items in
    record {
      events = c.in_ok-recorded.recorded.events.items;
      course = subst P c.seed_from_u64-rng.ensures run.course;
      right = run.ranks;
      empty = run.empty;
      least = run.least;
      found = c.in-Ok.ensures.ranks;
    }
