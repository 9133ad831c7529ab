use Rattle.std.proofs.Common.{sym, ap}
use Rattle.ea_search.specs.Listings.{Searched}
use Rattle.ea_paths.proofs.search.Search.find_target.Goals as goal

pub returns-in_default : goal.returns-in_default
returns-in_default g c = c.answered.ensures c.args.self c.requires.nodes (sym (ap (λ (s : Searched). s.walks) c.self.view_is))
