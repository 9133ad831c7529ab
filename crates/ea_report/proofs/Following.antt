-- The text of walks along links.
use Rattle.std.proofs.Common.{◌≡◌, ◌≢◌, ℕ, zero, suc, ◌+◌, ◌-◌, ◌<◌, ◌≤◌, List, [], ◌∷◌, ◌++◌, length, take, set, get_or, refl, ap, sym, ◌∙◌, subst, inl, inr, arith, append-nil, append_assoc, eqb-true, eq-eqb}
use Rattle.std.specs.Prelude.{decimal, reverse, slice_index, Bool, true, false, ◌==◌, if◌then◌else◌, Option, Some, None, Result, Ok, Err, OnOk}
use Rattle.std.specs.Option.{is_some}
use Rattle.std.proofs.lemmas.Bool.{cases_eq, false≢true}
use Rattle.std.proofs.lemmas.List.{reverse-append, length-set, length-append, length-take-le, take-set, take-take, take_all, take-append-le, get_or_append_left, get_or-append_right, get_or-take, get_or-set_same, get_or-set_other}
use Rattle.ea_road.specs.Roads.{IsNode}
use Rattle.ea_search.specs.declared.link.Link.{Link}
use Rattle.ea_search.specs.declared.link.TheConstants.{NO_LEVEL}
use Rattle.ea_search.specs.Links.{link, linked_walk, walk_along}
use Rattle.ea_paths.specs.Stored.{AreFollowable, IsStoredAnswer}
use Rattle.ea_paths.proofs.Followed.{along-zero, along-back, linked-walk}
use Rattle.ea_search.specs.Answers.{Answered, walk_of}
use Rattle.ea_road.specs.declared.TheConstants.{NONE}
use Rattle.ea_road.specs.Labels.{label_of, time_of}
use Rattle.ea_report.specs.Asked.{MayWriteNode}
use Rattle.ea_report.specs.Report.{driven_text, spaced, walk_line, walk_text}
use Rattle.ea_report.specs.Walks.{arcs_text, AreFronts, AreWritten, FollowLinks, HasWalk, IsStep, IsWalkText, KeepsFronts, front_end}

-- one arc more
pub arcs_text-push : (arcs : List ℕ) (arc : ℕ) → arcs_text (arcs ++ arc ∷ []) ≡ arcs_text arcs ++ spaced (decimal arc)
arcs_text-push [] arc = append-nil (spaced (decimal arc))
arcs_text-push (first ∷ rest) arc = ap (λ t. spaced (decimal first) ++ t) (arcs_text-push rest arc) ∙ sym (append_assoc (spaced (decimal first)) (arcs_text rest) (spaced (decimal arc)))

-- a node of level 0 has the empty walk
pub no_arcs : (links : List Link) (node : ℕ) → (link links node).level ≡ 0 → arcs_text (linked_walk links node) ≡ []
no_arcs links node same = ap arcs_text (linked-walk links node ∙ along-zero links (link links node).level node same)

-- every other node's walk extends the walk of the node before
pub one_more : (links : List Link) (node : ℕ) → (link links (link links node).from).level + 1 ≡ (link links node).level → linked_walk links node ≡ linked_walk links (link links node).from ++ (link links node).arc ∷ []
one_more links node below =
    linked-walk links node
    ∙ sym (along-back links node [] below ∙ append-nil (walk_along links (link links node).level node))
    ∙ ap (λ (front : List ℕ). front ++ (link links node).arc ∷ []) (sym (linked-walk links (link links node).from))

pub arc_more : (links : List Link) (node before : ℕ) → (link links node).from ≡ before → (link links before).level + 1 ≡ (link links node).level → arcs_text (linked_walk links node) ≡ arcs_text (linked_walk links before) ++ spaced (decimal (link links node).arc)
arc_more links node before from below =
    let P : ℕ → Type 0 = λ n. (link links n).level + 1 ≡ (link links node).level in
    ap arcs_text (one_more links node (subst P (sym from) below) ∙ ap (λ n. linked_walk links n ++ (link links node).arc ∷ []) from)
    ∙ arcs_text-push (linked_walk links before) (link links node).arc

-- Following links back: the places from `left` on are filled, and the node at hand belongs before them.
pub record IsGoingBack (links : List Link) (before nodes : List ℕ) (left hand node : ℕ) : Type 0 where
  pub places : length nodes ≡ length before
  pub low : left ≤ length nodes
  pub stay : take left nodes ≡ take left before
  pub at_hand : 0 < left → IsNode (length links) hand × ((link links hand).level + 1 ≡ left)
  pub nodes_there : (place : ℕ) → left ≤ place → place < length nodes → IsNode (length links) (slice_index nodes place) × ((link links (slice_index nodes place)).level ≡ place)
  pub joined : (place : ℕ) → left < place → place < length nodes → (link links (slice_index nodes place)).from ≡ slice_index nodes (place - 1)
  pub next : (place : ℕ) → left ≡ place → 0 < place → place < length nodes → (link links (slice_index nodes place)).from ≡ hand
  pub begun : left ≡ length nodes → hand ≡ node
  pub last : left < length nodes → slice_index nodes (link links node).level ≡ node

pub goes_back : (links : List Link) (before nodes : List ℕ) (left hand node next : ℕ) → AreFollowable links → (link links node).level < NO_LEVEL → length before ≡ (link links node).level + 1 → 0 < left
    → next ≡ (link links hand).from → IsGoingBack links before nodes left hand node → IsGoingBack links before (set nodes (left - 1) hand) (left - 1) next node
goes_back links before nodes left hand node next follows level size some is_from at = record {
  places = length-set nodes (left - 1) hand ∙ at.places;
  low = omega (arith, at.low, length-set nodes (left - 1) hand);
  stay = take-set nodes (left - 1) hand ∙ shorter;
  at_hand = λ more. (
      let step = follows hand (omega (arith, here.1, more)) small in
      (subst (λ n. IsNode (length links) n) (sym is_from) step.0, ap (λ n. (link links n).level + 1) is_from ∙ omega (arith, step.1, here.1)));
  nodes_there = λ place from within. elim (cases_eq place (left - 1)) [
    | inl same ↦ (let P : ℕ → Type 0 = λ n. IsNode (length links) n × ((link links n).level ≡ place) in subst P (sym (at_place place same)) (here.0, omega (arith, here.1, same)))
    | inr differs ↦ (
        let P : ℕ → Type 0 = λ n. IsNode (length links) n × ((link links n).level ≡ place) in
        subst P (sym (beside place differs)) (at.nodes_there place (omega (arith, from, differs)) (omega (arith, within, length-set nodes (left - 1) hand))))
  ];
  joined = λ place from within. (
      let inside : place < length nodes = omega (arith, within, length-set nodes (left - 1) hand) in
      let old = beside place (λ same. omega (arith, same, from)) in
      elim (cases_eq place left) [
        | inl same ↦ ap (λ n. (link links n).from) old ∙ at.next place (sym same) (omega arith) inside ∙ sym (at_place (place - 1) (omega (arith, same)))
        | inr differs ↦ ap (λ n. (link links n).from) old ∙ at.joined place (omega (arith, from, differs)) inside ∙ sym (beside (place - 1) (λ same. omega (arith, same, from, differs)))
      ]);
  next = λ place same some' within. ap (λ n. (link links n).from) (at_place place (sym same)) ∙ sym is_from;
  begun = λ same. absurd (omega (arith, same, at.low, some, length-set nodes (left - 1) hand));
  last = λ within. elim (cases_eq (link links node).level (left - 1)) [
    | inl same ↦ at_place (link links node).level same ∙ at.begun (omega (arith, same, size, at.places, some))
    | inr differs ↦ beside (link links node).level differs ∙ at.last (omega (arith, differs, size, at.places, at.low))
  ];
}
  where
    here : IsNode (length links) hand × ((link links hand).level + 1 ≡ left)
    here = at.at_hand some

    small : (link links hand).level < NO_LEVEL
    small = omega (arith, here.1, at.low, at.places, size, level)

    at_place : (place : ℕ) → place ≡ left - 1 → slice_index (set nodes (left - 1) hand) place ≡ hand
    at_place place same = ap (λ n. get_or (set nodes (left - 1) hand) n 0) same ∙ get_or-set_same nodes (left - 1) hand 0 (omega (arith, at.low, some))

    beside : (place : ℕ) → place ≢ left - 1 → slice_index (set nodes (left - 1) hand) place ≡ slice_index nodes place
    beside place differs = get_or-set_other nodes (left - 1) place hand 0 differs

    shorter : take (left - 1) nodes ≡ take (left - 1) before
    shorter = sym (take-take (left - 1) left nodes (omega arith)) ∙ ap (λ t. take (left - 1) t) at.stay ∙ take-take (left - 1) left before (omega arith)

-- one more place
pub fronts_more : (links : List Link) (nodes ends text text' more : List ℕ) → AreFronts links nodes ends text → length ends < length nodes → text' ≡ text ++ more
    → text' ≡ arcs_text (linked_walk links (slice_index nodes (length ends))) → AreFronts links nodes (ends ++ length text' ∷ []) text'
fronts_more links nodes ends text text' more fronts room same walk = record {
  few = omega (arith, size, room);
  within = λ place inside. elim (cases_eq place (length ends)) [
    | inl last ↦ omega (arith, at_end place last)
    | inr differs ↦ (let low : place < length ends = omega (arith, inside, size, differs) in omega (arith, before place low, fronts.within place low, longer))
  ];
  ascending = λ place next ordered inside. elim (cases_eq next (length ends)) [
    | inl last ↦ (elim (cases_eq place (length ends)) [
      | inl also ↦ omega (arith, at_end place also, at_end next last)
      | inr differs ↦ (let low : place < length ends = omega (arith, ordered, last, differs) in omega (arith, at_end next last, before place low, fronts.within place low, longer))
    ])
    | inr differs ↦ (let low : next < length ends = omega (arith, inside, size, differs) in omega (arith, before place (omega (arith, ordered, low)), before next low, fronts.ascending place next ordered low))
  ];
  texts = λ place inside. elim (cases_eq place (length ends)) [
    | inl last ↦ ap (λ n. take n text') (at_end place last) ∙ take_all (length text') text' (omega arith) ∙ walk ∙ ap (λ n. arcs_text (linked_walk links (slice_index nodes n))) (sym last)
    | inr differs ↦ (
        let low : place < length ends = omega (arith, inside, size, differs) in
        ap (λ n. take n text') (before place low) ∙ ap (λ t. take (slice_index ends place) t) same ∙ take-append-le (slice_index ends place) text more (fronts.within place low) ∙ fronts.texts place low)
  ];
}
  where
    size : length (ends ++ length text' ∷ []) ≡ length ends + 1
    size = length-append ends (length text' ∷ [])

    longer : length text ≤ length text'
    longer = omega (arith, ap (λ (t : List ℕ). length t) same, length-append text more)

    at_end : (place : ℕ) → place ≡ length ends → slice_index (ends ++ length text' ∷ []) place ≡ length text'
    at_end place last = ap (λ n. get_or (ends ++ length text' ∷ []) n 0) last ∙ get_or-append_right ends (length text' ∷ []) (length ends) (length ends) 0 refl (omega arith) ∙ ap (λ n. get_or (length text' ∷ []) n 0) (let e : length ends - length ends ≡ 0 = omega arith in e)

    before : (place : ℕ) → place < length ends → slice_index (ends ++ length text' ∷ []) place ≡ slice_index ends place
    before place low = get_or_append_left ends (length text' ∷ []) 0 place low

-- fewer places, over nodes that are the same there
pub fronts_cut : (links : List Link) (nodes nodes' ends text text' : List ℕ) (kept : ℕ) → AreFronts links nodes ends text → kept ≤ length ends → kept ≤ length nodes' → take kept nodes' ≡ take kept nodes
    → (0 < kept → text' ≡ take (slice_index ends (kept - 1)) text) → AreFronts links nodes' (take kept ends) text'
fronts_cut links nodes nodes' ends text text' kept fronts low inside stay cut = record {
  few = omega (arith, size, inside);
  within = λ place there. omega (
    arith,
    end place (below place there),
    ap (λ (t : List ℕ). length t) (cut (omega (arith, below place there))),
    length-take-le (slice_index ends (kept - 1)) text (fronts.within (kept - 1) (omega (arith, below place there, low))),
    fronts.ascending place (kept - 1) (omega (arith, below place there)) (omega (arith, below place there, low)),
  );
  ascending = λ place next ordered there. omega (arith, end place (omega (arith, ordered, below next there)), end next (below next there), fronts.ascending place next ordered (omega (arith, below next there, low)));
  texts = λ place there. (
      let few : place < kept = below place there in
      ap (λ n. take n text') (end place few) ∙ ap (λ t. take (slice_index ends place) t) (cut (omega (arith, few))) ∙ take-take (slice_index ends place) (slice_index ends (kept - 1)) text (fronts.ascending place (kept - 1) (omega (arith, few)) (omega (arith, few, low)))
      ∙ fronts.texts place (omega (arith, few, low)) ∙ ap (λ n. arcs_text (linked_walk links n)) (sym (same_node place few)));
}
  where
    size : length (take kept ends) ≡ kept
    size = length-take-le kept ends low

    below : (place : ℕ) → place < length (take kept ends) → place < kept
    below place there = omega (arith, there, size)

    end : (place : ℕ) → place < kept → slice_index (take kept ends) place ≡ slice_index ends place
    end place few = get_or-take kept ends place 0 few

    same_node : (place : ℕ) → place < kept → slice_index nodes' place ≡ slice_index nodes place
    same_node place few = sym (get_or-take kept nodes' place 0 few) ∙ ap (λ (xs : List ℕ). get_or xs place 0) stay ∙ get_or-take kept nodes place 0 few

-- each place has a step
pub step_at : (links : List Link) (nodes : List ℕ) (start place : ℕ) → FollowLinks links nodes start → start ≤ place → place < length nodes → IsStep links nodes place
step_at links nodes start place follow from there =
    let here = follow.path place from there in record {
      there = there;
      is_node = here.0;
      level = here.1;
      before = λ some. (
          let before = here.2 some in
          let step = follow.followable (slice_index nodes place) (omega (arith, here.1, some)) (omega (arith, here.1, there, follow.few)) in
          (before, sym (ap (λ n. (link links n).level) before) ∙ omega (arith, step.1, here.1)));
    }

-- the walk to a place extends the text of the walk to the place before
pub text_more : (links : List Link) (nodes text text' : List ℕ) (place : ℕ) → IsStep links nodes place → IsWalkText links nodes place text
    → text' ≡ arcs_text (linked_walk links (slice_index nodes place)) → (more : List ℕ) × (text' ≡ text ++ more)
text_more links nodes text text' zero step before walk = (text', ap (λ t. t ++ text') (sym (before.none (omega arith))))
text_more links nodes text text' (suc last) step before walk =
    let below = step.before (omega arith) in (
      spaced (decimal (link links (slice_index nodes (suc last))).arc),
      walk ∙ arc_more links (slice_index nodes (suc last)) (slice_index nodes (suc last - 1)) below.0 (omega (arith, below.1, step.level)) ∙ ap (λ t. t ++ spaced (decimal (link links (slice_index nodes (suc last))).arc)) (sym (before.whole (omega arith))),
    )

end_at : (ends : List ℕ) (place : ℕ) → 0 < place → front_end ends place ≡ slice_index ends (place - 1)
end_at ends zero some = absurd (omega (arith, some))
end_at ends (suc place) some = ap (λ n. slice_index ends n) (omega arith)

-- what is kept, over the nodes that were put in their places
module _ (links : List Link) (nodes places nodes' ends ends₁ ends' text text' : List ℕ) (kept : ℕ)
    (fronts : AreFronts links nodes ends text) (keeps : KeepsFronts nodes ends places ends₁)
    (known : kept ≤ length ends₁) (within : kept ≤ length nodes') (stay : take kept nodes' ≡ take kept places) (cut : ends' ≡ take kept ends₁)
    (texts : text' ≡ take (front_end ends₁ kept) text) where
  some : 0 < kept → text' ≡ take (slice_index ends₁ (kept - 1)) text
  some more = texts ∙ ap (λ n. take n text) (end_at ends₁ kept more)

  shorter : ends' ≡ take kept ends
  shorter = cut ∙ ap (λ (xs : List ℕ). take kept xs) keeps.ends_are ∙ take-take kept (length ends₁) ends known

  size : length ends' ≡ kept
  size = ap (λ (xs : List ℕ). length xs) shorter ∙ length-take-le kept ends (omega (arith, known, keeps.less))

  end : 0 < kept → slice_index ends₁ (kept - 1) ≡ slice_index ends (kept - 1)
  end more = ap (λ (xs : List ℕ). get_or xs (kept - 1) 0) keeps.ends_are ∙ get_or-take (length ends₁) ends (kept - 1) 0 (omega (arith, more, known))

  front : 0 < kept → text' ≡ take (slice_index ends (kept - 1)) text
  front more = some more ∙ ap (λ n. take n text) (end more)

  kept_nodes : take kept nodes' ≡ take kept nodes
  kept_nodes = stay ∙ sym (take-take kept (length ends₁) places known) ∙ ap (λ (xs : List ℕ). take kept xs) keeps.same ∙ take-take kept (length ends₁) nodes known

  fronts_kept : AreFronts links nodes' ends' text'
  fronts_kept =
      let P : List ℕ → Type 0 = λ xs. AreFronts links nodes' xs text' in
      subst P (sym shorter) (fronts_cut links nodes nodes' ends text text' kept fronts (omega (arith, known, keeps.less)) within kept_nodes front)

  whole : 0 < length ends' → text' ≡ arcs_text (linked_walk links (slice_index nodes' (length ends' - 1)))
  whole more =
      let last : 0 < kept = omega (arith, more, size) in
      let long : slice_index ends' (length ends' - 1) ≡ length text' =
      ap (λ n. get_or ends' (n - 1) 0) size ∙ ap (λ (xs : List ℕ). get_or xs (kept - 1) 0) shorter ∙ get_or-take kept ends (kept - 1) 0 (omega (arith, last))
      ∙ sym (ap (λ (t : List ℕ). length t) (front last) ∙ length-take-le (slice_index ends (kept - 1)) text (fronts.within (kept - 1) (omega (arith, last, known, keeps.less)))) in
      sym (take_all (slice_index ends' (length ends' - 1)) text' (omega (arith, long))) ∙ fronts_kept.texts (length ends' - 1) (omega (arith, more))

  pub written_kept : AreWritten links nodes' ends' text'
  written_kept = record {
    fronts = fronts_kept;
    text_is = record {
      whole = whole;
      none = λ few. (let empty : kept ≡ 0 = omega (arith, few, size) in texts ∙ ap (λ n. take (front_end ends₁ n) text) empty);
    };
  }

-- an asked node with an arrival has the walk along its links
pub walk_text_of : (answer : Answered) (node : ℕ) → label_of answer.labels node ≢ NONE → walk_text node (walk_of answer node) ≡ walk_line node (linked_walk answer.links node)
walk_text_of answer node some = by_test (label_of answer.labels node == NONE) refl
  where
    by_test : (b : Bool) → (label_of answer.labels node == NONE) ≡ b → walk_text node (if b then None else Some (linked_walk answer.links node)) ≡ walk_line node (linked_walk answer.links node)
    by_test true same = absurd (some (eqb-true _ _ same))
    by_test false differs = refl

pub no_walk_text : (answer : Answered) (node : ℕ) → label_of answer.labels node ≡ NONE → walk_text node (walk_of answer node) ≡ []
no_walk_text answer node none = rw (eq-eqb (label_of answer.labels node) NONE none) refl

pub driven_text_of : (answer : Answered) (node : ℕ) → label_of answer.labels node ≢ NONE → driven_text node (walk_of answer node) ≡ walk_line node (reverse (linked_walk answer.links node))
driven_text_of answer node some = by_test (label_of answer.labels node == NONE) refl
  where
    by_test : (b : Bool) → (label_of answer.labels node == NONE) ≡ b → driven_text node (if b then None else Some (linked_walk answer.links node)) ≡ walk_line node (reverse (linked_walk answer.links node))
    by_test true same = absurd (some (eqb-true _ _ same))
    by_test false differs = refl

pub no_driven_text : (answer : Answered) (node : ℕ) → label_of answer.labels node ≡ NONE → driven_text node (walk_of answer node) ≡ []
no_driven_text answer node none = rw (eq-eqb (label_of answer.labels node) NONE none) refl

-- a node with an arrival has a label
pub labelled : (found : Option ℕ) (label : ℕ) → is_some found ≡ true → found ≡ time_of label → label ≢ NONE
labelled found label some same = λ none. false≢true (sym (rw (eq-eqb label NONE none) refl) ∙ ap (λ (o : Option ℕ). is_some o) (sym same) ∙ some)

-- an asked node with an arrival has a walk along the answer's links
pub has_walk : (links : List Link) (answer : Answered) (node : ℕ) → IsStoredAnswer answer → MayWriteNode true links answer node → label_of answer.labels node ≢ NONE → HasWalk links node
has_walk links answer node stored may some =
    let walks : answer.walks ≡ true = may.has_walks refl in
    let P : List Link → Type 0 = λ xs. HasWalk xs node in
    subst P (sym may.links_are) (record {
      is_node = record { from_one = may.is_node.from_one; to_last = omega (arith, stored.links walks, may.is_node.to_last) };
      followable = stored.followable walks;
      level = stored.linked walks node may.is_node may.asked some;
    })

pub ok_then : {T E P Q : Type 0} (r : Result T E) → OnOk r P → (P → Q) → OnOk r Q
ok_then (Ok x) p f = f p
ok_then (Err e) p f = tt

-- the last arc comes first in the walk the other way round
pub arc_back : (links : List Link) (node : ℕ) → (link links (link links node).from).level + 1 ≡ (link links node).level
    → arcs_text (reverse (linked_walk links node)) ≡ spaced (decimal (link links node).arc) ++ arcs_text (reverse (linked_walk links (link links node).from))
arc_back links node below =
    let front = linked_walk links (link links node).from in
    ap (λ (walk : List ℕ). arcs_text (reverse walk)) (one_more links node below) ∙ ap arcs_text (reverse-append front ((link links node).arc ∷ []))

pub no_arc_back : (links : List Link) (node : ℕ) → (link links node).level ≡ 0 → arcs_text (reverse (linked_walk links node)) ≡ []
no_arc_back links node same = ap (λ (walk : List ℕ). arcs_text (reverse walk)) (linked-walk links node ∙ along-zero links (link links node).level node same)

-- the line of a walk, part by part
pub walk_line_of : (old word known counted pushed new : List ℕ) (node count : ℕ) (walk : List ℕ) → count ≡ length walk
    → word ≡ old ++ 119 ∷ [] → known ≡ word ++ spaced (decimal node) → counted ≡ known ++ spaced (decimal count) → pushed ≡ counted ++ arcs_text walk → new ≡ pushed ++ 10 ∷ [] → new ≡ old ++ walk_line node walk
walk_line_of old word known counted pushed new node count walk same a b c d e =
    rw (e, d, c, b, a, same) (lines_up (119 ∷ []) (spaced (decimal node)) (spaced (decimal (length walk))) (arcs_text walk) (10 ∷ []))
  where
    lines_up : (w x y z e : List ℕ) → ((((old ++ w) ++ x) ++ y) ++ z) ++ e ≡ old ++ ((w ++ (x ++ (y ++ z))) ++ e)
    lines_up w x y z e =
        ap (λ t. t ++ e) (append_assoc ((old ++ w) ++ x) y z) ∙ ap (λ t. t ++ e) (append_assoc (old ++ w) x (y ++ z)) ∙ ap (λ t. t ++ e) (append_assoc old w (x ++ (y ++ z)))
        ∙ append_assoc old (w ++ (x ++ (y ++ z))) e
