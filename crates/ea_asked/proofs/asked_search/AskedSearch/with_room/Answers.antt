use Rattle.std.proofs.Common.{inl, rules, ◌∙◌}
use Rattle.std.proofs.lemmas.List.{length-replicate}
use Rattle.ea_road.specs.declared.TheConstants.{NONE}
use Rattle.ea_search.specs.Links.{no_link}
use Rattle.ea_search.proofs.Entries.{bound_of-none}
use Rattle.ea_paths.proofs.Linkings.{link-none}
use Rattle.ea_asked.proofs.asked_search.AskedSearch.with_room.Goals as goal

pub invariant_of-result : goal.invariant_of-result
invariant_of-result c =
    let table = c.in_ok-table.ensures.items_if_clones_equal (λ y e. search rules) in
    let labels = c.in_ok-labels.ensures.items_if_clones_equal (λ y e. search rules) in
    let links = c.in_ok-links.ensures.items_if_clones_equal (λ y e. search rules) in
    rw (c.new-3.ensures, table, labels, links) (record {
      places = length-replicate c.args.nodes NONE;
      labels = length-replicate c.args.nodes NONE;
      links = length-replicate c.room_for-room.result no_link ∙ c.room_for-room.ensures;
      waits = c.in_ok-waiting.ensures.0 ∙ c.room_for-room.ensures;
      nobody = c.in_ok-waiting.ensures.1;
      reached = λ v has. absurd (has (bound_of-none _ v));
      linked = λ v. inl (link-none _ v);
      shown = λ v has. absurd (has (bound_of-none _ v));
    })
