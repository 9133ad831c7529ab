use Rattle.std.proofs.Common.{◌≡◌, ◌+◌, ℕ, take, Contains}
use Rattle.ea_search.specs.Links.{link}
use Rattle.ea_paths.specs.Offers.{Offers, IsSpread, MeetsBound, Precedes}
use Rattle.ea_paths.proofs.link_search.spread.Given as goal

-- the arcs so far were passed
abbrev pub invariant-loop-place : goal.invariant-loop-place
invariant-loop-place g l = record {
  offers : Offers l.network.nodes (IsSpread l.network (g.T.TravelTimes.answers l.times) l.table l.node ((link l.initial.links l.node).level + 1)) l.initial.links l.initial.waiting.waiting l.links l.waiting.waiting;
  passed : (e v : ℕ) → Contains (take l.place l.numbers) e → MeetsBound l.network (g.T.TravelTimes.answers l.times) l.table l.node e v → Precedes (record { level = (link l.initial.links l.node).level + 1; arc = e; from = l.node }) (link l.links v) → ⊥;
  room : l.waiting.nodes ≡ l.initial.waiting.nodes;
}
