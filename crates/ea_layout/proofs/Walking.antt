-- Copying the links of a walk back from its target.
use Rattle.std.proofs.Common.{◌≡◌, ◌≢◌, ℕ, ◌<◌, List, length, refl, sym, ◌∙◌, ap, subst, ◌⊎◌, inl, inr, arith}
use Rattle.std.proofs.lemmas.Bool.{cases_eq}
use Rattle.ea_road.specs.Roads.{IsNode}
use Rattle.ea_search.specs.declared.link.Link.{Link}
use Rattle.ea_search.specs.Links.{link, no_link}
use Rattle.ea_search.specs.Listings.{AreLinksListed, KeepsListed}
use Rattle.ea_paths.specs.Stored.{AreFollowable}
use Rattle.ea_layout.specs.Copied.{AreLinksCopied, HasLevel, IsCopyOf, IsLinkCopied}
use Rattle.ea_layout.specs.Renamed.{AreReverse, number_of}

-- The links of a walk were copied from its target back to a node, whose new number this is, but for the
-- node's own.
pub record IsCopiedBackTo
    (count : ℕ)
    (numbers nodes : List ℕ)
    (laid : List Link)
    (target : ℕ)
    (links : List Link)
    (at : ℕ)
    : Type 0 where
  pub at_node : IsNode count at
  pub level : HasLevel laid at
  pub many : length links ≡ count
  pub each : (node : ℕ) → IsNode count node → (link links node ≡ no_link) ⊎ IsLinkCopied numbers nodes laid links node
  pub before : (node : ℕ) → IsNode count node → 0 < (link links node).level → HasLevel links node → (number_of numbers (link links node).from ≡ at) ⊎ IsLinkCopied numbers nodes laid links (link links node).from
  pub end : (number_of numbers target ≡ at) ⊎ IsLinkCopied numbers nodes laid links target

module _
    (count : ℕ)
    (numbers nodes : List ℕ)
    (reverse : AreReverse count numbers nodes)
    (laid : List Link)
    (same : length laid ≡ count)
    (followable : AreFollowable laid)
    (target : ℕ)
    (is_target : IsNode count target)
  where
    pub nothing_copied : (links : List Link) → length links ≡ count → ((node : ℕ) → link links node ≡ no_link) → HasLevel laid (number_of numbers target) → IsCopiedBackTo count numbers nodes laid target links (number_of numbers target)
    nothing_copied links many none level = record {
      at_node = reverse.there_node target is_target;
      level = level;
      many = many;
      each = λ node is. inl (none node);
      before = λ node is some has. let no_level = ap (λ (l : Link). l.level) (none node) in absurd (omega (arith, no_level, has));
      end = inl refl;
    }

    -- the node before a copied one
    from_copied : (links : List Link) (node : ℕ) → IsNode count node → IsLinkCopied numbers nodes laid links node → 0 < (link links node).level → HasLevel links node → IsNode count (link links node).from × (number_of numbers (link links node).from ≡ (link laid (number_of numbers node)).from)
    from_copied links node is copy some level =
        let as_laid = copy.level in
        let below = followable (number_of numbers node) (omega (arith, as_laid, some)) (omega (arith, as_laid, level)) in
        let from = (link laid (number_of numbers node)).from in
        let laid_node : IsNode count from = subst (λ n. IsNode n from) same below.0 in
        let from_is = copy.from (subst (λ n. IsNode n from) (sym reverse.back_length) laid_node) in (
          subst (λ n. IsNode count n) (sym from_is) (reverse.back_node from laid_node),
          ap (λ n. number_of numbers n) from_is ∙ reverse.there_back from laid_node,
        )

    module _
        (links links' : List Link)
        (at : ℕ)
        (was : IsCopiedBackTo count numbers nodes laid target links at)
        (many : length links' ≡ length links)
        (here : IsLinkCopied numbers nodes laid links' (number_of nodes at))
        (others : (node : ℕ) → node ≢ number_of nodes at → link links' node ≡ link links node)
      where
        -- a node with this number
        at_it : (node : ℕ) → IsNode count node → number_of numbers node ≡ at → IsLinkCopied numbers nodes laid links' node
        at_it node is there =
            let it : number_of nodes at ≡ node = ap (λ n. number_of nodes n) (sym there) ∙ reverse.back_there node is in
            subst (λ n. IsLinkCopied numbers nodes laid links' n) it here

        still : (node : ℕ) → IsLinkCopied numbers nodes laid links node → IsLinkCopied numbers nodes laid links' node
        still node copy = elim (cases_eq node (number_of nodes at)) [
          | inl is ↦ subst (λ n. IsLinkCopied numbers nodes laid links' n) (sym is) here
          | inr differ ↦ subst (λ (l : Link). IsCopyOf nodes (link laid (number_of numbers node)) l) (sym (others node differ)) copy
        ]

        each_after : (node : ℕ) → IsNode count node → (link links' node ≡ no_link) ⊎ IsLinkCopied numbers nodes laid links' node
        each_after node is = elim (cases_eq node (number_of nodes at)) [
          | inl it ↦ inr (subst (λ n. IsLinkCopied numbers nodes laid links' n) (sym it) here)
          | inr differ ↦ elim (was.each node is) [ inl none ↦ inl (others node differ ∙ none) | inr copy ↦ inr (still node copy) ]
        ]

        before_old : (node : ℕ) → IsNode count node → 0 < (link links node).level → HasLevel links node → IsLinkCopied numbers nodes laid links' (link links node).from
        before_old node is some level = elim (was.before node is some level) [
          | inl there ↦ elim (was.each node is) [
            | inl none ↦ (let no_level = ap (λ (l : Link). l.level) none in absurd (omega (arith, no_level, level)))
            | inr copy ↦ at_it (link links node).from (from_copied links node is copy some level).0 there
          ]
          | inr copy ↦ still (link links node).from copy
        ]

        -- the node before each is the next to be copied, or is copied
        before_after : (node : ℕ) → IsNode count node → 0 < (link links' node).level → HasLevel links' node
            → ((0 < (link laid at).level) × (number_of numbers (link links' node).from ≡ (link laid at).from)) ⊎ IsLinkCopied numbers nodes laid links' (link links' node).from
        before_after node is some level = elim (cases_eq node (number_of nodes at)) [
          | inl it ↦ (let there : number_of numbers node ≡ at = ap (λ n. number_of numbers n) it ∙ reverse.there_back at was.at_node in
              let copy = subst (λ n. IsLinkCopied numbers nodes laid links' n) (sym it) here in
              let as_laid = copy.level ∙ ap (λ n. (link laid n).level) there in
              inl (omega (arith, as_laid, some), (from_copied links' node is copy some level).1 ∙ ap (λ n. (link laid n).from) there))
          | inr differ ↦ (let old = others node differ in
              let as_old = ap (λ (l : Link). l.level) old in
              inr (subst (λ (l : Link). IsLinkCopied numbers nodes laid links' l.from) (sym old) (before_old node is (omega (arith, as_old, some)) (omega (arith, as_old, level)))))
        ]

        end_after : IsLinkCopied numbers nodes laid links' target
        end_after = elim was.end [ inl there ↦ at_it target is_target there | inr copy ↦ still target copy ]

        pub one_further : 0 < (link laid at).level → IsCopiedBackTo count numbers nodes laid target links' (link laid at).from
        one_further some =
            let below = followable at some was.level in
            let level = was.level in
            record {
              at_node = subst (λ n. IsNode n (link laid at).from) same below.0;
              level = omega (arith, below.1, level);
              many = many ∙ was.many;
              each = each_after;
              before = λ node is positive has. elim (before_after node is positive has) [ inl next ↦ inl next.1 | inr copy ↦ inr copy ];
              end = inr end_after;
            }

        pub all_copied : (link laid at).level ≡ 0 → AreLinksCopied count numbers nodes laid links' × IsLinkCopied numbers nodes laid links' target
        all_copied none = (
          record {
            places = many ∙ was.many;
            each = each_after;
            before = λ node is positive has. elim (before_after node is positive has) [ inl next ↦ (let some = next.0 in absurd (omega (arith, none, some))) | inr copy ↦ copy ];
          },
          end_after,
        )

-- one more link is written, and its node is listed
pub listed_after : (links links' : List Link) (node : ℕ) (listed listed' : ℕ → Type 0) → AreLinksListed links listed → ((other : ℕ) → other ≢ node → link links' other ≡ link links other) → listed' node → KeepsListed listed listed' → AreLinksListed links' listed'
listed_after links links' node listed listed' are others there kept = λ other. elim (cases_eq other node) [
  | inl same ↦ inr (subst (λ n. listed' n) (sym same) there)
  | inr differ ↦ elim (are other) [ inl none ↦ inl (others other differ ∙ none) | inr was ↦ inr (kept other was) ]
]
