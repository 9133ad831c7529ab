use Rattle.std.proofs.Common.{◌≡◌, ◌∙◌, ℕ, List, ◌+◌, ◌<◌, ◌≤◌, ◌++◌, ◌∷◌, [], length, sym, ap, subst, arith, length-append}
use Rattle.std.specs.Prelude.{slice_index}
use Rattle.ea_search.specs.Links.{linked_walk}
use Rattle.ea_report.specs.Walks.{AreFronts, arcs_text}
use Rattle.ea_report.proofs.Following.{fronts_more, step_at, text_more}
use Rattle.ea_report.proofs.walk_texts.write_on.Goals as goal

pub push_arc_at-requires-clause-step : goal.push_arc_at-requires-clause-step
push_arc_at-requires-clause-step c =
    let inv = c.on.invariant in
    step_at c.args.links.now c.args.nodes.now (length c.args.ends.now.items) c.len-in-on.result c.requires.path (omega (arith, inv.more, c.len-in-on.ensures)) (omega (arith, c.on-test.true, c.len-in-on.ensures, c.len.ensures))

pub on-preserved : goal.on-preserved
on-preserved c =
    let links = c.args.links.now in
    let nodes = c.args.nodes.now in
    let ends = c.on.ends.items in
    let inv = c.on.invariant in
    let text = c.on.text.items in
    let text' = c.push_arc_at.new.text.items in
    let at : c.len-in-on.result ≡ length ends = omega (arith, c.len-in-on.ensures) in
    let there : length ends < length nodes = omega (arith, c.on-test.true, c.len.ensures) in
    let from : length c.args.ends.now.items ≤ length ends = inv.more in
    let size : c.len-in-on-2.result ≡ length text' = omega (arith, c.len-in-on-2.ensures) in
    let walk : text' ≡ arcs_text (linked_walk links (slice_index nodes (length ends))) = c.in_ok-push_arc_at.ensures ∙ ap (λ n. arcs_text (linked_walk links (slice_index nodes n))) at in
    let more = text_more links nodes text text' (length ends) (step_at links nodes (length c.args.ends.now.items) (length ends) c.requires.path from there) inv.written.text_is walk in
    let ended : c.push.new.self.items ≡ ends ++ length text' ∷ [] = c.in_ok-push.ensures.items ∙ ap (λ n. ends ++ n ∷ []) size in
    let longer : length c.push.new.self.items ≡ length ends + 1 = ap (λ (xs : List ℕ). length xs) ended ∙ length-append ends (length text' ∷ []) in
    let P : List ℕ → Type 0 = λ xs. AreFronts links nodes xs text' in
    record {
      more = omega (arith, longer, from);
      written = record {
        fronts = subst P (sym ended) (fronts_more links nodes ends text text' more.0 inv.written.fronts there more.1 walk);
        text_is = record {
          whole = λ some. walk ∙ ap (λ n. arcs_text (linked_walk links (slice_index nodes n))) (omega (arith, longer));
          none = λ none. absurd (omega (arith, longer, none));
        };
      };
    }
