use Rattle.ea_batch.specs.Drafts.{IsFit}
use Rattle.ea_batch.proofs.Placing.{put_behind}
use Rattle.ea_batch.proofs.hand_over.give.Goals as goal

pub push_as-requires-clause-pushes : goal.push_as-requires-clause-pushes
push_as-requires-clause-pushes g c = λ items views held at.
    let fit : IsFit g.J.Asks.fits c.args.made = λ k d inside. (c.requires.named.same _ _).1 (c.requires.drafts k d inside) in
    (tt, put_behind (λ n. IsFit g.J.Asks.fits) 0 items c.args.made held fit, tt)
