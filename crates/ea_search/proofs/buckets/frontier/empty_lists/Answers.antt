use Rattle.std.proofs.Common.{arith}
use Rattle.std.proofs.lemmas.List.{length_push}
use Rattle.ea_search.proofs.Fronts.{none_in, pushed_none}
use Rattle.ea_search.proofs.buckets.frontier.empty_lists.Goals as goal

pub adding-preserved : goal.adding-preserved
adding-preserved c = record {
  many = rw c.in_ok-push.ensures.items (omega (arith, length_push c.adding.lists.items c.new.result, c.adding.invariant.many));
  none = pushed_none (λ v. v.items) c.adding.lists.items c.push.new.self.items c.new.result c.in_ok-push.ensures.items c.new.ensures.items c.adding.invariant.none;
}

pub returns-clause-length : goal.returns-clause-length
returns-clause-length c = omega (arith, c.adding.invariant.many)

pub returns-clause-empty : goal.returns-clause-empty
returns-clause-empty c = none_in _ c.adding.invariant.none
