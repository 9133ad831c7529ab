-- What is read at the places of lists of numbers, labels and links.
use Rattle.std.proofs.Common.{◌∙◌, ◌≡◌, ℕ, ◌+◌, ◌-◌, ◌<◌, List, length, get_or, sym, subst, inr, arith}
use Rattle.std.specs.Prelude.{None}
use Rattle.std.specs.List.{IsAmong}
use Rattle.std.proofs.lemmas.List.{get_or_default, get_or_read}
use Rattle.ea_road.specs.declared.source.Source.{Source}
use Rattle.ea_road.specs.Queries.{AreSources, IsSource}
use Rattle.ea_road.specs.Roads.{IsNode}
use Rattle.ea_search.specs.declared.link.Link.{Link}
use Rattle.ea_search.specs.Links.{link, no_link}
use Rattle.ea_search.proofs.Places.{link-at}
use Rattle.ea_paths.specs.Stored.{AreFollowable}
use Rattle.ea_layout.specs.Copied.{AreLabelsCopied, AreLinksCopied, IsCopyOf, IsLinkCopied}
use Rattle.ea_layout.specs.Renamed.{AreReverse, number_of, renamed_source, renamed_sources}
use Rattle.ea_layout.proofs.Renaming.{source_from}

-- the number at a place is a node's
pub node_at : (nodes : ℕ) (numbers : List ℕ) (slot : ℕ) → ((node : ℕ) → IsNode nodes node → IsNode nodes (number_of numbers node)) → slot < nodes → IsNode nodes (get_or numbers slot 0)
node_at nodes numbers slot inside low =
    let same : slot + 1 - 1 ≡ slot = omega arith in
    subst (λ n. IsNode nodes (get_or numbers n 0)) same (inside (slot + 1) (record { from_one = omega arith; to_last = omega (arith, low) }))

pub among_at : (sources : List Source) (slot : ℕ) (none : Source) → slot < length sources → IsAmong sources (get_or sources slot none)
among_at sources slot none low = (slot, (low, get_or_default sources slot none (get_or sources slot none) low))

pub labels_copied : (nodes : ℕ) (numbers laid labels : List ℕ) → length labels ≡ nodes → ((at : ℕ) → at < nodes → get_or labels at 0 ≡ get_or laid (get_or numbers at 0 - 1) 0) → AreLabelsCopied nodes None numbers laid labels
labels_copied nodes numbers laid labels many each = record {
  places = many;
  each = λ node is asked. let low = is.from_one in let high = is.to_last in each (node - 1) (omega (arith, low, high));
}

module _
    (count : ℕ)
    (numbers nodes : List ℕ)
    (reverse : AreReverse count numbers nodes)
    (laid links : List Link)
    (many : length links ≡ count)
    (all : (node : ℕ) → IsNode count node → IsLinkCopied numbers nodes laid links node)
    (same : length laid ≡ count)
    (followable : AreFollowable laid)
  where
    pub links_copied : AreLinksCopied count numbers nodes laid links
    links_copied = record {
      places = many;
      each = λ node is. inr (all node is);
      before = λ node is some level.
          let copy = all node is in
          let as_laid = copy.level in
          let below = followable (number_of numbers node) (omega (arith, as_laid, some)) (omega (arith, as_laid, level)) in
          let from = (link laid (number_of numbers node)).from in
          let laid_node : IsNode count from = subst (λ n. IsNode n from) same below.0 in
          let from_is = copy.from (subst (λ n. IsNode n from) (sym reverse.back_length) laid_node) in
          all (link links node).from (subst (λ n. IsNode count n) (sym from_is) (reverse.back_node from laid_node));
    }

-- links that were copied place by place
pub link_by_place : (count : ℕ) (numbers nodes : List ℕ) → AreReverse count numbers nodes → (laid links : List Link) → ((at : ℕ) → at < count → IsCopyOf nodes (get_or laid (get_or numbers at 0 - 1) no_link) (get_or links at no_link)) → (node : ℕ) → IsNode count node → IsLinkCopied numbers nodes laid links node
link_by_place count numbers nodes reverse laid links each node is =
    let low = is.from_one in
    let high = is.to_last in
    let there = reverse.there_node node is in
    let copy = each (node - 1) (omega (arith, low, high)) in
    rw (link-at links node low, link-at laid (number_of numbers node) there.from_one) copy

-- sources under new numbers are sources
pub laid_is_source : (numbers : List ℕ) (source : Source) → ((node : ℕ) → IsNode (length numbers) node → IsNode (length numbers) (number_of numbers node)) → IsNode (length numbers) source.node → IsSource source → IsSource (renamed_source numbers source)
laid_is_source numbers source inside is of_query = record { from_one = (inside source.node is).from_one; within = of_query.within }

pub laid_are_sources : (numbers : List ℕ) (sources : List Source) → ((node : ℕ) → IsNode (length numbers) node → IsNode (length numbers) (number_of numbers node)) → ((source : Source) → IsAmong sources source → IsNode (length numbers) source.node) → AreSources sources → AreSources (renamed_sources numbers sources)
laid_are_sources numbers sources inside are of_query = record {
  each = λ source among.
      let first = source_from numbers sources source among in
      subst (λ (s : Source). IsSource s) (sym first.2) (laid_is_source numbers first.0 inside (are first.0 first.1) (of_query.each first.0 first.1));
}

-- the link that is read at a number's place
pub read_link : (links : List Link) (node : ℕ) (none : Link) → IsNode (length links) node → get_or links (node - 1) none ≡ link links node
read_link links node none is =
    let low = is.from_one in
    let high = is.to_last in
    get_or_default links (node - 1) none no_link (omega (arith, low, high)) ∙ sym (link-at links node low)

-- the number that is read for a node
pub read_number : (numbers : List ℕ) (node read : ℕ) → IsNode (length numbers) node → read ≡ get_or numbers (node - 1) read → read ≡ number_of numbers node
read_number numbers node read is at =
    let low = is.from_one in
    let high = is.to_last in
    get_or_read numbers (node - 1) read (omega (arith, low, high)) at 0
