use Rattle.std.proofs.Common.{refl, sym, ◌∙◌, inl, inr, arith}
use Rattle.std.proofs.lemmas.Bool.{cases_lt}
use Rattle.ea_search.specs.Links.{link}
use Rattle.ea_search.proofs.Places.{bound_of_read}
use Rattle.ea_paths.proofs.link_search.sow.Goals as goal

pub returns-then-table-source : goal.returns-then-table-source
returns-then-table-source c =
    let node = c.requires.place.is_node in
    let read = bound_of_read c.args.table.now c.args.source.node node.from_one (omega (arith, node.to_last, c.requires.labels)) in
    record {
      seeds = λ same. (
        c.relink.ensures.offers,
        elim (cases_lt 0 (link c.relink.new.links c.args.source.node).level) [
          | inl above ↦ absurd (c.relink.ensures.passed c.args.source.node (record { level = 0; arc = 0; from = 0 }) (refl, refl) (inl above))
          | inr none ↦ omega arith
        ],
      );
      others = λ never. absurd (never (sym c.if-table-source.true ∙ read));
      room = c.relink.ensures.room;
    }

pub returns-else-table-source : goal.returns-else-table-source
returns-else-table-source c =
    let node = c.requires.place.is_node in
    let read = bound_of_read c.args.table.now c.args.source.node node.from_one (omega (arith, node.to_last, c.requires.labels)) in
    record {
      seeds = λ same. absurd (c.if-table-source.false (read ∙ sym same));
      others = λ never. (refl, refl);
      room = refl;
    }
