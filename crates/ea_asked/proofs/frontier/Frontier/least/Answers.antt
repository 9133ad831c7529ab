use Rattle.std.proofs.Common.{subst, List}
use Rattle.std.specs.List.{All}
use Rattle.ea_asked.specs.Open.{IsFrom}
use Rattle.ea_asked.specs.declared.frontier.Entry.{Entry}
use Rattle.ea_asked.proofs.Opening.{are_from}
use Rattle.ea_asked.proofs.frontier.Frontier.least.Goals as goal

pub returns-then-self-len : goal.returns-then-self-len
returns-then-self-len c =
    let least = c.least_label.result in
    let all : All (IsFrom least) c.self.inside.entries.items = subst (λ (xs : List Entry). All (IsFrom least) xs) c.deref.ensures.value c.least_label.ensures in
    rw (← c.self.view_is) (are_from least c.self.inside.entries.items all)

pub returns-else-self-len : goal.returns-else-self-len
returns-else-self-len c = rw (← c.self.view_is) (are_from c.self.inside.least c.self.inside.entries.items c.self.invariant)
