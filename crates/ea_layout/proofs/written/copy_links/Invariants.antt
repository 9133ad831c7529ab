use Rattle.std.proofs.Common.{◌≡◌, ℕ, ◌-◌, ◌<◌, get_or, length}
use Rattle.ea_layout.specs.Copied.{IsCopyOf}
use Rattle.ea_search.specs.Links.{no_link}
use Rattle.ea_layout.proofs.written.copy_links.Given as goal

abbrev pub invariant-loop-slot : goal.invariant-loop-slot
invariant-loop-slot l = record {
  many : length l.links ≡ length l.laid;
  each : (at : ℕ) → at < l.slot → IsCopyOf l.layout.nodes.items (get_or l.laid (get_or l.layout.places.items at 0 - 1) no_link) (get_or l.links at no_link);
}
