use Rattle.std.proofs.Common.{[], subst}
use Rattle.std.specs.Option.{option_to_list}
use Rattle.ea_engine.specs.Worked.{AreInside}
use Rattle.ea_engine.proofs.Multisets.{Contains-head}
use Rattle.ea_engine.proofs.run.gathering.keep.Goals as goal

pub add-requires : goal.add-requires
add-requires c =
    let is = (subst (λ o. AreInside c.args.todo.now.nodes (option_to_list o)) c.in-Some.is c.requires) c.in-Some.entry (Contains-head c.in-Some.entry []) in
    (is.from_one, is.to_last)
