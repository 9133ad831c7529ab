use Rattle.ea_engine.proofs.Nothing.{nothing_is_lost}
use Rattle.ea_engine.proofs.laws.nothing_open_is_lost.Goals as goal

pub returns : goal.returns
returns g c = λ table history account left back refused over. nothing_is_lost _ _ table history account left back refused over
