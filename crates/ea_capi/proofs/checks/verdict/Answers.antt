use Rattle.ea_capi.specs.Checks.{wrong}
use Rattle.ea_capi.proofs.checks.verdict.Goals as goal

pub returns-in-Err : goal.returns-in-Err
returns-in-Err c = wrong c.in-Err.fault c.tell_of_check.ensures c.in-Err.ensures
