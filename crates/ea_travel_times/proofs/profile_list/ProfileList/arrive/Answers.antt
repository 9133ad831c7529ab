use Rattle.std.proofs.Common.{rules}
use Rattle.std.proofs.lemmas.Option.{slice_get_read}
use Rattle.ea_travel_times.specs.ProfileLaws.{plain_answer, listed_answer, profile_not_before}
use Rattle.ea_travel_times.proofs.profile_list.ProfileList.arrive.Goals as goal

pub returns-then-class-eq0-clause-answer : goal.returns-then-class-eq0-clause-answer
returns-then-class-eq0-clause-answer g c = plain_answer _ _ _ _ _ c.if-class-eq0.true

pub returns-else-class-eq0-clause-answer : goal.returns-else-class-eq0-clause-answer
returns-else-class-eq0-clause-answer g c = listed_answer _ _ _ _ _ _ c.index-profile.result.now (search rules) (search (rules, slice_get_read)) c.arrive.ensures

pub returns-else-class-eq0-clause-not_before : goal.returns-else-class-eq0-clause-not_before
returns-else-class-eq0-clause-not_before g c = profile_not_before c.index-profile.result.now.fifo (search rules) c.arrive.ensures
