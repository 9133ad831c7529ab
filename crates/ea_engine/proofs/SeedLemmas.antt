-- How many sources lower a label.
use Rattle.std.proofs.Common.{◌≡◌, ℕ, ◌+◌, ◌<◌, ◌≤◌, List, [], ◌∷◌, ◌++◌, length, get_or, take, refl, sym, ap, ◌∙◌, subst, arith, add-one, length-append}
use Rattle.std.specs.Prelude.{All, Any}
use Rattle.std.proofs.Math.Seq.{take-suc}
use Rattle.std.proofs.lemmas.List.{get_or-take, length-take}
use Rattle.std.proofs.lemmas.List.Elements.{All-nil, All-cons, All-weaker, All-contains}
use Rattle.ea_base.specs.declared.limits.TheConstants.{SHARES}
use Rattle.ea_machine.proofs.Places.{Any_left, Any_right, Any_head}
use Rattle.ea_road.specs.declared.source.Source.{Source}
use Rattle.ea_labels.specs.declared.record.Lowering.{Lowering}
use Rattle.ea_labels.specs.declared.record.SeatRecord.{SeatRecord}
use Rattle.ea_labels.specs.Core.{lowering}
use Rattle.ea_labels.specs.Offers.{LowersWord}
use Rattle.ea_engine.specs.Closed.{IsReachedBy}
use Rattle.ea_engine.specs.Seeds.{IsForestalled, AreSeeds, KeepsSeed, SowsSeed}

-- the lowering is that of one of the sources
abbrev IsOf : List Source → Lowering → Type 0
IsOf sources l = Any (λ s. (s.node ≡ l.node) × (s.departure ≡ l.to)) sources

-- This many of the sources before a place lowered a label, and these are all lowerings.
pub record IsSown (sources : List Source) (place : ℕ) (lowerings : List Lowering) (count : ℕ) : Type 0 where
  pub seeds : AreSeeds (take place sources) count
  pub each : All (IsOf (take place sources)) lowerings

pub IsSown-start : (sources : List Source) (lowerings : List Lowering) → lowerings ≡ [] → IsSown sources 0 lowerings 0
IsSown-start sources lowerings none = record { seeds = AreSeeds.none; each = rw none (All-nil (IsOf [])) }

module _ (sources : List Source) (place : ℕ) (d : Source) (here : place < length sources) (before after : SeatRecord) (count : ℕ) (h : IsSown sources place before.lowerings count) where
  one_more : take (place + 1) sources ≡ take place sources ++ get_or sources place d ∷ []
  one_more = ap (λ n. take n sources) (add-one place) ∙ take-suc sources place d here

  still : All (IsOf (take (place + 1) sources)) before.lowerings
  still = All-weaker (IsOf (take place sources)) (IsOf (take (place + 1) sources))
      (λ l one. rw one_more (Any_left (λ s. (s.node ≡ l.node) × (s.departure ≡ l.to)) (take place sources) (get_or sources place d ∷ []) one))
      before.lowerings h.each

  pub IsSown-kept : KeepsSeed before after (get_or sources place d) → before.shares ≡ SHARES → IsSown sources (place + 1) after.lowerings count
  IsSown-kept kept whole =
      let low = kept.alone whole in
      let is = All-contains (IsOf (take place sources)) before.lowerings low.1 h.each (low.0, low.2, low.3) in
      record {
        seeds = subst (λ xs. AreSeeds xs count) (sym one_more) (AreSeeds.forestalled h.seeds (is.0, is.1, is.2, is.3, (is.4.0 ∙ low.4.0, omega (arith, is.4.1, low.4.1))));
        each = subst (λ ls. All (IsOf (take (place + 1) sources)) ls) (sym kept.same) still;
      }

  pub IsSown-lowered : SowsSeed before after (get_or sources place d)
      → ((k : ℕ) (e : Source) → k < place → IsReachedBy before.bounds (get_or sources k e).node (get_or sources k e).departure)
      → IsSown sources (place + 1) after.lowerings (count + 1)
  IsSown-lowered sown offered =
      let source = get_or sources place d in
      let none : IsForestalled (take place sources) source → ⊥ = λ f.
      let low : f.0 < place = omega (arith, f.2, length-take place sources) in
      let is : get_or sources f.0 f.1 ≡ f.1 = sym (get_or-take place sources f.0 f.1 low) ∙ f.3 in
      let reached = subst (λ (s : Source). IsReachedBy before.bounds s.node s.departure) is (offered f.0 f.1 low) in
      sown.later (reached.0, reached.1, reached.2, reached.3, (reached.4.0 ∙ f.4.0, omega (arith, reached.4.1, f.4.1))) in
      let own = lowering source.node sown.from source.departure in
      record {
        seeds = subst (λ xs. AreSeeds xs (count + 1)) (sym one_more) (AreSeeds.first h.seeds none);
        each = subst (λ ls. All (IsOf (take (place + 1) sources)) ls) (sym sown.lowered)
            (All-cons (IsOf (take (place + 1) sources)) own before.lowerings
            (rw one_more (Any_right (λ s. (s.node ≡ own.node) × (s.departure ≡ own.to)) (take place sources) (source ∷ []) (Any_head (λ s. (s.node ≡ own.node) × (s.departure ≡ own.to)) source [] (refl, refl))))
            still);
      }

-- the offer of a source that lowered a label
pub sows_of : (known : ℕ → ℕ → Type 0) (before after : SeatRecord) (source : Source) → LowersWord known before source.node source.departure after → SowsSeed before after source
sows_of known before after source fell = record {
  from = fell.0;
  later = λ reached. omega (arith, fell.1, reached.4.1, All-contains (λ b. b.node ≡ source.node → fell.0 ≤ b.time) before.bounds reached.1 fell.3 (reached.0, reached.2, reached.3) reached.4.0);
  lowered = ap (λ (r : SeatRecord). r.lowerings) fell.4;
}

-- the first source is one
pub AreSeeds-some : (sources : List Source) (count : ℕ) → AreSeeds sources count → 0 < length sources → 0 < count
AreSeeds-some sources count AreSeeds.none some = absurd (omega (arith, some))
AreSeeds-some sources count (AreSeeds.forestalled earlier one) some = AreSeeds-some _ count earlier (omega (arith, one.2))
AreSeeds-some sources count (AreSeeds.first earlier none) some = omega arith

pub AreSeeds-few : (sources : List Source) (count : ℕ) → AreSeeds sources count → count ≤ length sources
AreSeeds-few sources count AreSeeds.none = omega arith
AreSeeds-few sources count (AreSeeds.forestalled {earlier = earlier} {source = source} h one) = omega (arith, AreSeeds-few _ count h, length-append earlier (source ∷ []))
AreSeeds-few sources count (AreSeeds.first {earlier = earlier} {count = n} {source = source} h none) = omega (arith, AreSeeds-few _ n h, length-append earlier (source ∷ []))
