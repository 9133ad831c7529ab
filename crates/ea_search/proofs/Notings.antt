-- What is known of arcs after one more note.
use Rattle.std.proofs.Common.{◌≡◌, ◌≢◌, ℕ, Bool, true, false, List, [], ◌∷◌, ◌++◌, refl, sym, ◌∙◌, subst, ◌⊎◌, inl, inr}
use Rattle.std.proofs.lemmas.Bool.{cases_Bool, false≢true}
use Rattle.ea_search.specs.declared.log.note.Note.{Note}
use Rattle.ea_search.specs.Notes.{and_had, and_met, by_none, had_after, met_after}
use Rattle.ea_search.specs.Scans.{IsArcOf}

-- what the last note says, and the others
pub had-last : (notes : List Note) (note : Note) (had : ℕ → ℕ → ℕ → Type 0) (v u k : ℕ) → had_after (notes ++ note ∷ []) had v u k → and_had note (had_after notes had) v u k
had-last [] note had v u k by = by
had-last (first ∷ notes) note had v u k by = had-last notes note (and_had first had) v u k by

pub had-then : (notes : List Note) (note : Note) (had : ℕ → ℕ → ℕ → Type 0) (v u k : ℕ) → and_had note (had_after notes had) v u k → had_after (notes ++ note ∷ []) had v u k
had-then [] note had v u k by = by
had-then (first ∷ notes) note had v u k by = had-then notes note (and_had first had) v u k by

pub met-last : (notes : List Note) (note : Note) (met : ℕ → ℕ → ℕ → Type 0) (v u k : ℕ) → met_after (notes ++ note ∷ []) met v u k → and_met note (met_after notes met) v u k
met-last [] note met v u k by = by
met-last (first ∷ notes) note met v u k by = met-last notes note (and_met first met) v u k by

pub met-then : (notes : List Note) (note : Note) (met : ℕ → ℕ → ℕ → Type 0) (v u k : ℕ) → and_met note (met_after notes met) v u k → met_after (notes ++ note ∷ []) met v u k
met-then [] note met v u k by = by
met-then (first ∷ notes) note met v u k by = met-then notes note (and_met first met) v u k by

-- an arc by which a label was met is one by which it was had
pub met-had : (notes : List Note) (had met : ℕ → ℕ → ℕ → Type 0) → ((v u k : ℕ) → met v u k → had v u k) → (v u k : ℕ) → met_after notes met v u k → had_after notes had v u k
met-had [] had met included v u k by = included v u k by
met-had (note ∷ notes) had met included v u k by = met-had notes (and_had note had) (and_met note met) one v u k by
  where
    one : (x y z : ℕ) → and_met note met x y z → and_had note had x y z
    one x y z (inl of) = inl of
    one x y z (inr old) = inr (λ falls. (old.0 falls).0, included x y z old.1)

-- one more note was written, or something is missing
module _ (whole whole' : Bool) (notes notes' : List Note) (note : Note) (noted : whole' ≡ true → (whole ≡ true) × (notes' ≡ notes ++ note ∷ [])) where
  abbrev met_by : Bool → List Note → ℕ → ℕ → ℕ → Type 0
  met_by b ns v u k = (b ≡ false) ⊎ met_after ns by_none v u k

  abbrev had_by : Bool → List Note → ℕ → ℕ → ℕ → Type 0
  had_by b ns v u k = (b ≡ true) × had_after ns by_none v u k

  met_after_note : (v u k : ℕ) → (whole' ≡ true → and_met note (met_after notes by_none) v u k) → met_by whole' notes' v u k
  met_after_note v u k by = elim (cases_Bool whole') [
    | inl is_whole ↦ inr (subst (λ (ns : List Note). met_after ns by_none v u k) (sym (noted is_whole).1) (met-then notes note by_none v u k (by is_whole)))
    | inr cut ↦ inl cut
  ]

  pub met_here : met_by whole' notes' note.node note.from note.place
  met_here = met_after_note note.node note.from note.place (λ is_whole. inl (refl, refl, refl))

  pub met_still : (v u k : ℕ) → (note.again ≡ false → (v ≢ note.node) × (u ≢ note.node)) → met_by whole notes v u k → met_by whole' notes' v u k
  met_still v u k apart was = met_after_note v u k (λ is_whole. elim was [
    | inl cut ↦ absurd (false≢true (sym cut ∙ (noted is_whole).0))
    | inr met ↦ inr (apart, met)
  ])

  pub had_adds : (v u k : ℕ) → had_by whole' notes' v u k → IsArcOf note.node note.from note.place v u k ⊎ ((note.again ≡ false → v ≢ note.node) × had_by whole notes v u k)
  had_adds v u k has =
      let is = noted has.0 in
      elim (had-last notes note by_none v u k (subst (λ (ns : List Note). had_after ns by_none v u k) is.1 has.1)) [
        | inl new ↦ inl new
        | inr old ↦ inr (old.0, (is.0, old.1))
      ]
