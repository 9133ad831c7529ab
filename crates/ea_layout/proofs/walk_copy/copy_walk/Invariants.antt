use Rattle.std.proofs.Common.{length}
use Rattle.ea_search.specs.Links.{link}
use Rattle.ea_search.specs.Listings.{AreLinksListed, IsListed, KeepsListed}
use Rattle.ea_layout.proofs.Walking.{IsCopiedBackTo}
use Rattle.ea_layout.proofs.walk_copy.copy_walk.Given as goal

abbrev pub invariant-loop-at : goal.invariant-loop-at
invariant-loop-at l = record {
  copied : IsCopiedBackTo (length l.laid) l.layout.places.items l.layout.nodes.items l.laid l.fn.target l.links l.at;
  listed : AreLinksListed l.links (IsListed l.listed);
  kept : KeepsListed (IsListed l.fn.listed) (IsListed l.listed);
}

abbrev pub decreases-loop-at : goal.decreases-loop-at
decreases-loop-at l = (link l.laid l.at).level
