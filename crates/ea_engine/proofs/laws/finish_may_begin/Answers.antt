use Rattle.ea_engine.proofs.Nothing.{may_finish}
use Rattle.ea_engine.proofs.laws.finish_may_begin.Goals as goal

pub returns : goal.returns
returns g c = λ table history account left back refused waiting over offered waits.
    may_finish _ _ table history account left back refused over (λ node time knows. (c.requires.names node time).0 knows) offered waiting waits
