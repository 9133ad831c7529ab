use Rattle.std.proofs.Common.{inl, rules, ◌∙◌, sym, ap}
use Rattle.std.specs.Prelude.{if◌then◌else◌}
use Rattle.std.proofs.lemmas.List.{length-replicate}
use Rattle.ea_road.specs.declared.TheConstants.{NONE}
use Rattle.ea_search.specs.Links.{no_link}
use Rattle.ea_search.proofs.Entries.{bound_of-none}
use Rattle.ea_paths.proofs.Linkings.{link-none}
use Rattle.ea_layout.proofs.laid_search.LaidSearch.with_search.Goals as goal

pub invariant_of-result : goal.invariant_of-result
invariant_of-result c =
    let table = c.in_ok-labels.ensures.items_if_clones_equal (λ y e. search rules) in
    let links = c.in_ok-links.ensures.items_if_clones_equal (λ y e. search rules) in
    rw (c.new.ensures, c.new-2.ensures, table, links) (
      record {
        places = length-replicate c.args.nodes NONE ∙ sym c.requires.0;
        reached = λ v has. absurd (has (bound_of-none _ v));
        linked = λ v. inl (link-none _ v);
      },
      length-replicate c.room_of-room.result no_link ∙ c.room_of-room.ensures ∙ sym (ap (λ nodes. if c.args.walks then nodes else 0) c.requires.0) ∙ sym (ap (λ walks. if walks then c.args.search.nodes else 0) c.requires.1),
      sym c.requires.1,
    )
