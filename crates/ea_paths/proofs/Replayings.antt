-- Replaying notes.
use Rattle.std.proofs.Common.{◌≡◌, ◌≢◌, ℕ, ◌+◌, ◌-◌, ◌<◌, ◌≤◌, min, true, false, List, [], ◌∷◌, ◌++◌, length, get_or, set, Contains, refl, sym, ◌∙◌, ap, subst, ◌⊎◌, inl, inr, arith}
use Rattle.std.proofs.lemmas.Bool.{cases_lt, cases_eq, cases_Bool, false≢true}
use Rattle.std.proofs.lemmas.List.{append_assoc, length-set}
use Rattle.std.proofs.lemmas.List.Elements.{Contains-append_left, Contains-push}
use Rattle.ea_road.specs.declared.source.Source.{Source}
use Rattle.ea_road.specs.Roads.{Roads}
use Rattle.ea_search.specs.declared.link.Link.{Link}
use Rattle.ea_search.specs.declared.link.TheConstants.{NO_LEVEL}
use Rattle.ea_search.specs.declared.log.note.Note.{Note}
use Rattle.ea_search.specs.Links.{link}
use Rattle.ea_search.specs.Notes.{IsNoteOf, and_had, and_met, had_after, met_after, by_none}
use Rattle.ea_search.proofs.Notings.{had-last, had-then, met-last, met-had}
use Rattle.ea_paths.specs.Offers.{IsSeed, Precedes}
use Rattle.ea_paths.specs.Replayed.{AreAfter, AreReplayed, AreTied, AreWoken, HaveOneArc, IsFallen, IsFollowed, IsReachedAgain, link_of, with_number}
use Rattle.ea_search.specs.Scans.{number_at}
use Rattle.ea_paths.proofs.Linkings.{link_read, Precedes-not_itself, Precedes-trans}
use Rattle.ea_search.proofs.Places.{link-set_same, link-set_other}

-- the same arc from a lower level precedes too
Precedes-lower : (level level' arc from : ℕ) (b : Link) → level ≤ level' → Precedes (record { level = level'; arc = arc; from = from }) b → Precedes (record { level = level; arc = arc; from = from }) b
Precedes-lower level level' arc from b low (inl less) = inl (omega arith)
Precedes-lower level level' arc from b low (inr same) = elim (cases_lt level level') [
  | inl less ↦ inl (omega (arith, same.0))
  | inr high ↦ inr (omega (arith, same.0), same.1)
]

-- a link one level above another does not precede it
Precedes-above : (arc from : ℕ) (b : Link) → Precedes (record { level = b.level + 1; arc = arc; from = from }) b → ⊥
Precedes-above arc from b (inl less) = omega arith
Precedes-above arc from b (inr same) = omega (arith, same.0)

-- entries appended to a list are in it
pub Contains-two : (xs : List (ℕ × ℕ)) (a b : ℕ × ℕ) → Contains (xs ++ a ∷ b ∷ []) a × Contains (xs ++ a ∷ b ∷ []) b
Contains-two xs a b =
    let one : (xs ++ a ∷ []) ++ b ∷ [] ≡ xs ++ a ∷ b ∷ [] = append_assoc xs (a ∷ []) (b ∷ []) in (
      subst (λ (ys : List (ℕ × ℕ)). Contains ys a) one (Contains-append_left (xs ++ a ∷ []) (b ∷ []) a (Contains-push xs a)),
      subst (λ (ys : List (ℕ × ℕ)). Contains ys b) one (Contains-push (xs ++ a ∷ []) b),
    )

-- a node keeps its link
pub IsReachedAgain-kept : (roads : Roads) (node : ℕ) (new : Link) (links : List Link) (waiting : List ℕ) (ties ties' : List (ℕ × ℕ)) → (new.level < NO_LEVEL → Precedes (with_number roads new) (with_number roads (link links node)) → ⊥) → ((tie : ℕ × ℕ) → Contains ties tie → Contains ties' tie) → ((link links node).level ≡ 0) ⊎ (((link links node).level ≢ 0) × (Contains ties' (node, new.from) × Contains ties' (node, (link links node).from))) → IsReachedAgain roads node new links waiting ties links waiting ties'
IsReachedAgain-kept roads node new links waiting ties ties' passed listed tied = record {
  places = refl;
  others = λ v ne. refl;
  here = inl refl;
  fallen = λ fell. absurd (omega arith);
  kept = λ v there. there;
  passed = passed;
  better = inl (λ l there. there);
  listed = listed;
  tied = elim tied [ inl begins ↦ inl begins | inr there ↦ inr (inr there) ];
}

-- a node takes the new link
module _ (roads : Roads) (node : ℕ) (new : Link) (links : List Link) (waiting waiting' : List ℕ) (ties ties' : List (ℕ × ℕ)) (first : 0 < node) (last : node ≤ length links) (fallen : new.level < (link links node).level → Contains waiting' node) (kept : (v : ℕ) → Contains waiting v → Contains waiting' v) where
  abbrev now : List Link
  now = set links (node - 1) new

  at_node : link now node ≡ new
  at_node = link-set_same links node new first last

  -- and it had another arc
  pub IsReachedAgain-taken : Precedes (with_number roads new) (with_number roads (link links node)) → ((tie : ℕ × ℕ) → Contains ties tie → Contains ties' tie) → (link links node).level ≢ 0 → Contains ties' (node, new.from) → Contains ties' (node, (link links node).from) → IsReachedAgain roads node new links waiting ties now waiting' ties'
  IsReachedAgain-taken better listed linked tied other =
      let level = ap (λ (l : Link). l.level) at_node in
      let P : Link → Type 0 = λ x. Precedes (with_number roads new) (with_number roads x) in
      let Q : Link → Type 0 = λ x. (l : Link) → Precedes l (with_number roads x) → Precedes l (with_number roads (link links node)) in
      record {
        places = length-set links (node - 1) new;
        others = λ v ne. link-set_other links node v new first ne;
        here = inr at_node;
        fallen = λ fell. fallen (omega arith);
        kept = kept;
        passed = λ room there. Precedes-not_itself (with_number roads new) (subst P at_node there);
        better = inl (subst Q (sym at_node) (λ l there. Precedes-trans l (with_number roads new) (with_number roads (link links node)) there better));
        listed = listed;
        tied = inr (inr (linked, (tied, other)));
      }

  -- or the link keeps its arc
  pub IsReachedAgain-moved : (link links node).level ≢ 0 → HaveOneArc (link links node) new → ((link links node).level < new.level → AreWoken ties node waiting') → IsReachedAgain roads node new links waiting ties now waiting' ties
  IsReachedAgain-moved linked same woken =
      let level = ap (λ (l : Link). l.level) at_node in
      let P : Link → Type 0 = λ x. Precedes (with_number roads new) (with_number roads x) in
      let Q : Link → Type 0 = λ x. (l : Link) → Precedes l (with_number roads x) → Precedes l (with_number roads (link links node)) in
      record {
        places = length-set links (node - 1) new;
        others = λ v ne. link-set_other links node v new first ne;
        here = inr at_node;
        fallen = λ fell. fallen (omega arith);
        kept = kept;
        passed = λ room there. Precedes-not_itself (with_number roads new) (subst P at_node there);
        better = elim (cases_lt (link links node).level new.level) [
          | inl risen ↦ inr ((linked, same), woken risen)
          | inr low ↦ inl (subst Q (sym at_node) (λ l there. lower l low there))
        ];
        listed = λ v there. there;
        tied = inr (inl (linked, (same, (ap (λ (l : Link). l.from) at_node, ap (λ (l : Link). l.arc) at_node))));
      }
    where
      number : number_at roads (link links node).from (link links node).arc ≡ number_at roads new.from new.arc
      number = ap (λ (from : ℕ). number_at roads from (link links node).arc) same.0 ∙ ap (number_at roads new.from) same.1

      lower : (l : Link) → new.level ≤ (link links node).level → Precedes l (with_number roads new) → Precedes l (with_number roads (link links node))
      lower l low (inl less) = inl (omega arith)
      lower l low (inr equal) = elim (cases_lt new.level (link links node).level) [
        | inl less ↦ inl (omega (arith, equal.0))
        | inr high ↦ inr (omega (arith, equal.0), subst (λ (n : ℕ). l.arc < n) (sym number) equal.1)
      ]

abbrev empty : Link
empty = record { level = 0; arc = 0; from = 0 }

-- the link that the code makes of a note
pub link_of-read : (note : Note) (links : List Link) (place level arc : ℕ) → 0 < note.from → place ≡ note.from - 1 → place < length links → level ≡ min ((get_or links place empty).level + 1) NO_LEVEL → arc ≡ note.place → record { level = level; arc = arc; from = note.from } ≡ link_of note links
link_of-read note links place level arc first at inside above same =
    let read : get_or links place empty ≡ link links note.from = ap (λ (k : ℕ). get_or links k empty) at ∙ link_read links note.from first (omega arith) in
    let low : level ≡ (link_of note links).level = above ∙ ap (λ (l : Link). min (l.level + 1) NO_LEVEL) read in
    let one : record { level = level; arc = arc; from = note.from } ≡ record { level = level; arc = note.place; from = note.from } = ap (λ (x : ℕ). record { level = level; arc = x; from = note.from }) same in
    one ∙ ap (λ (x : ℕ). record { level = x; arc = note.place; from = note.from }) low

-- a node whose label fell has its new link
pub IsFallen-set : (node : ℕ) (new : Link) (links : List Link) → 0 < node → node ≤ length links → IsFallen node new links (set links (node - 1) new)
IsFallen-set node new links first last = record {
  places = length-set links (node - 1) new;
  others = λ v ne. link-set_other links node v new first ne;
  here = link-set_same links node new first last;
}

-- the effect of one note
module _ (roads : Roads) (note : Note) (had met : ℕ → ℕ → ℕ → Type 0) (links links' : List Link) (waiting waiting' : List ℕ) (ties ties' : List (ℕ × ℕ)) where
  abbrev step : List Link → ℕ → ℕ → Link
  step xs u k = record { level = (link xs u).level + 1; arc = number_at roads u k; from = u }

  -- a level that did not fall gives nothing better
  still : (v u k : ℕ) → (link links u).level ≤ (link links' u).level → link links' v ≡ link links v → (Precedes (step links u k) (with_number roads (link links v)) → ⊥) → Precedes (step links' u k) (with_number roads (link links' v)) → ⊥
  still v u k low same was there =
      let P : Link → Type 0 = λ x. Precedes (step links u k) (with_number roads x) in
      was (subst P same (Precedes-lower ((link links u).level + 1) ((link links' u).level + 1) (number_at roads u k) u (with_number roads (link links' v)) (omega arith) there))

  -- a node does not offer itself a better link
  itself : (v u k : ℕ) → v ≡ u → Precedes (step links' u k) (with_number roads (link links' v)) → ⊥
  itself v u k same there =
      let P : ℕ → Type 0 = λ x. Precedes (step links' u k) (with_number roads (link links' x)) in
      Precedes-above (number_at roads u k) u (with_number roads (link links' u)) (subst P same there)

  module _ (sources : List Source) (table : List ℕ) (before : AreReplayed roads sources table had met links waiting) (small : (link_of note links).level ≤ NO_LEVEL) where
    abbrev Good : ℕ → Link → Type 0
    Good v l = ((l.level ≡ 0) × ((l.from ≡ 0) × IsSeed sources table v)) ⊎ and_had note had v l.from l.arc

    -- so is the new link
    Good-new : Good note.node (link_of note links)
    Good-new = inr (inl (refl, refl, refl))

    -- and the link of a node whose label did not fall
    Good-old : (v : ℕ) → (note.again ≡ false → v ≢ note.node) → link links' v ≡ link links v → (link links' v).level < NO_LEVEL → Good v (link links' v)
    Good-old v stays same there =
        let level = ap (λ (l : Link). l.level) same in
        subst (Good v) (sym same) (elim (before.linked v (omega arith)) [
          | inl seed ↦ inl seed
          | inr by ↦ inr (inr (stays, by))
        ])

    low_new : link links' note.node ≡ link_of note links → (link links' note.node).level ≤ NO_LEVEL
    low_new same = let level = ap (λ (l : Link). l.level) same in omega arith

    low_old : (v : ℕ) → link links' v ≡ link links v → (link links' v).level ≤ NO_LEVEL
    low_old v same = let level = ap (λ (l : Link). l.level) same in let was = before.low v in omega arith

    -- the arc of the note gives no better link if its tail is another node
    by_note : (u k level : ℕ) → u ≡ note.from → k ≡ note.place → level ≡ (link links u).level + 1 → level < NO_LEVEL → (x : Link) → Precedes (record { level = level; arc = number_at roads u k; from = u }) x → ((link_of note links).level < NO_LEVEL) × Precedes (with_number roads (link_of note links)) x
    by_note u k level from place above room x better =
        let at : (link links note.from).level ≡ (link links u).level = ap (λ (n : ℕ). (link links n).level) (sym from) in
        let one : number_at roads u k ≡ number_at roads note.from note.place = ap (λ (n : ℕ). number_at roads n k) from ∙ ap (number_at roads note.from) place in (
          omega arith,
          elim better [
            | inl less ↦ inl (omega arith)
            | inr same ↦ inr (omega (arith, same.0), subst (λ (n : ℕ). n < x.arc) one same.1)
          ],
        )

    -- a label fell
    AreReplayed-fell : note.again ≡ false → IsFallen note.node (link_of note links) links links' → AreReplayed roads sources table (and_had note had) (and_met note met) links' waiting
    AreReplayed-fell falls fell = record {
      places = fell.places ∙ before.places;
      low = λ v. elim (cases_eq v note.node) [
        | inl e ↦ subst (λ (x : ℕ). (link links' x).level ≤ NO_LEVEL) (sym e) (low_new fell.here)
        | inr ne ↦ low_old v (fell.others v ne)
      ];
      linked = λ v there. elim (cases_eq v note.node) [
        | inl e ↦ subst (λ (x : ℕ). Good x (link links' x)) (sym e) (subst (Good note.node) (sym fell.here) Good-new)
        | inr ne ↦ Good-old v (λ _. ne) (fell.others v ne) there
      ];
      passed = passed;
    }
      where
        new : (v u k : ℕ) → v ≢ u → IsNoteOf note v u k → (link links' u).level + 1 < NO_LEVEL → Precedes (step links' u k) (with_number roads (link links' v)) → ⊥
        new v u k other of room better =
            let at_v : link links' v ≡ link_of note links = ap (link links') of.0 ∙ fell.here in
            let at_u = ap (λ (l : Link). l.level) (fell.others u (λ e. other (of.0 ∙ sym e))) in
            let P : Link → Type 0 = λ x. Precedes (step links' u k) (with_number roads x) in
            Precedes-not_itself (with_number roads (link_of note links)) (by_note u k ((link links' u).level + 1) of.1 of.2 (omega arith) room (with_number roads (link_of note links)) (subst P at_v better)).1

        passed : (v u k : ℕ) → and_met note met v u k → (link links' u).level + 1 < NO_LEVEL → (Precedes (step links' u k) (with_number roads (link links' v)) → ⊥) ⊎ Contains waiting u
        passed v u k by room = elim (cases_eq v u) [
          | inl same ↦ inl (itself v u k same)
          | inr other ↦ elim by [
            | inl of ↦ inl (new v u k other of room)
            | inr old ↦ (
                let apart = old.0 falls in
                let at_u = ap (λ (l : Link). l.level) (fell.others u apart.1) in
                elim (before.passed v u k old.1 (omega arith)) [
                  | inl was ↦ inl (still v u k (omega arith) (fell.others v apart.0) was)
                  | inr waits ↦ inr waits
                ])
          ]
        ]

    -- a label was met
    AreReplayed-again : ((v u k : ℕ) → met v u k → had v u k) → AreTied had links ties → note.again ≡ true → IsReachedAgain roads note.node (link_of note links) links waiting ties links' waiting' ties' → AreReplayed roads sources table (and_had note had) (and_met note met) links' waiting'
    AreReplayed-again included tied again reached = record {
      places = reached.places ∙ before.places;
      low = λ v. elim (cases_eq v note.node) [
        | inl e ↦ subst (λ (x : ℕ). (link links' x).level ≤ NO_LEVEL) (sym e) (elim reached.here [ inl same ↦ low_old note.node same | inr new ↦ low_new new ])
        | inr ne ↦ low_old v (reached.others v ne)
      ];
      linked = λ v there. elim (cases_eq v note.node) [
        | inl e ↦ elim reached.here [
          | inl same ↦ Good-old v never (subst (λ (x : ℕ). link links' x ≡ link links x) (sym e) same) there
          | inr new ↦ subst (λ (x : ℕ). Good x (link links' x)) (sym e) (subst (Good note.node) (sym new) Good-new)
        ]
        | inr ne ↦ Good-old v never (reached.others v ne) there
      ];
      passed = passed;
    }
      where
        never : {v : ℕ} → note.again ≡ false → v ≢ note.node
        never falls = absurd (false≢true (sym falls ∙ again))

        -- into the node, from another one
        into : (u k : ℕ) → u ≢ note.node → and_met note met note.node u k → (link links' u).level + 1 < NO_LEVEL → (Precedes (step links' u k) (with_number roads (link links' note.node)) → ⊥) ⊎ Contains waiting' u
        into u k other by room = elim by [
          | inl of ↦ inl (λ better. new of.1 of.2 better)
          | inr old ↦ elim (before.passed note.node u k old.1 (omega (arith, at_u))) [
            | inr waits ↦ inr (reached.kept u waits)
            | inl was ↦ elim reached.better [
              | inl worse ↦ inl (λ better. was (worse (step links u k) (subst (λ (n : ℕ). Precedes (record { level = n + 1; arc = number_at roads u k; from = u }) (with_number roads (link links' note.node))) at_u better)))
              | inr risen ↦ elim (tied note.node u k (included note.node u k old.1)) [
                | inl begins ↦ absurd (risen.0.0 begins)
                | inr (inl own) ↦ inl (λ better. new (own.0 ∙ risen.0.1.0) (own.1 ∙ risen.0.1.1) better)
                | inr (inr there) ↦ inr (risen.1 u there)
              ]
            ]
          ]
        ]
          where
            at_u : (link links' u).level ≡ (link links u).level
            at_u = ap (λ (l : Link). l.level) (reached.others u other)

            new : u ≡ note.from → k ≡ note.place → Precedes (step links' u k) (with_number roads (link links' note.node)) → ⊥
            new from place better =
                let by = by_note u k ((link links' u).level + 1) from place (omega (arith, at_u)) room (with_number roads (link links' note.node)) better in
                reached.passed by.0 by.1

        -- into another one
        out : (v u k : ℕ) → v ≢ note.node → met v u k → (link links' u).level + 1 < NO_LEVEL → (Precedes (step links' u k) (with_number roads (link links' v)) → ⊥) ⊎ Contains waiting' u
        out v u k other old room = elim (cases_lt (link links' u).level (link links u).level) [
          | inl fell ↦ elim (cases_eq u note.node) [
            | inl e ↦ inr (subst (Contains waiting') (sym e) (reached.fallen (subst (λ (x : ℕ). (link links' x).level < (link links x).level) e fell)))
            | inr ne ↦ (let at_u = ap (λ (l : Link). l.level) (reached.others u ne) in absurd (omega arith))
          ]
          | inr stays ↦ elim (before.passed v u k old (omega arith)) [
            | inl was ↦ inl (still v u k (omega arith) (reached.others v other) was)
            | inr waits ↦ inr (reached.kept u waits)
          ]
        ]

        passed : (v u k : ℕ) → and_met note met v u k → (link links' u).level + 1 < NO_LEVEL → (Precedes (step links' u k) (with_number roads (link links' v)) → ⊥) ⊎ Contains waiting' u
        passed v u k by room = elim (cases_eq v u) [
          | inl same ↦ inl (itself v u k same)
          | inr other ↦ elim (cases_eq v note.node) [
            | inl e ↦ (
                let P : ℕ → Type 0 = λ x. and_met note met x u k → (Precedes (step links' u k) (with_number roads (link links' x)) → ⊥) ⊎ Contains waiting' u in
                subst P (sym e) (λ there. into u k (λ is. other (e ∙ sym is)) there room) by)
            | inr ne ↦ elim by [
              | inl of ↦ absurd (ne of.0)
              | inr old ↦ out v u k ne old.1 room
            ]
          ]
        ]

    -- a note was replayed
    pub AreReplayed-followed : ((v u k : ℕ) → met v u k → had v u k) → AreTied had links ties → IsFollowed roads note links waiting ties links' waiting' ties' → AreReplayed roads sources table (and_had note had) (and_met note met) links' waiting'
    AreReplayed-followed included tied followed = elim (cases_Bool note.again) [
      | inl again ↦ AreReplayed-again included tied again (followed.again again)
      | inr falls ↦ (
          let fell = followed.fell falls in
          subst (AreReplayed roads sources table (and_had note had) (and_met note met) links') (sym fell.1.0) (AreReplayed-fell falls fell.0))
    ]

  -- what was listed stays listed if a label was met
  AreTied-again : AreTied had links ties → IsReachedAgain roads note.node (link_of note links) links waiting ties links' waiting' ties' → AreTied (and_had note had) links' ties'
  AreTied-again tied reached v u k by = elim (cases_eq v note.node) [
    | inl e ↦ (
        let P : ℕ → Type 0 = λ x. and_had note had x u k → Tie x u k in
        subst P (sym e) here by)
    | inr ne ↦ elim by [
      | inl of ↦ absurd (ne of.0)
      | inr old ↦ elim (tied v u k old.1) [
        | inl begins ↦ (let at_v = ap (λ (l : Link). l.level) (reached.others v ne) in inl (at_v ∙ begins))
        | inr (inl own) ↦ inr (inl (own.0 ∙ sym (ap (λ (l : Link). l.from) (reached.others v ne)), own.1 ∙ sym (ap (λ (l : Link). l.arc) (reached.others v ne))))
        | inr (inr there) ↦ inr (inr (reached.listed (v, u) there))
      ]
    ]
  ]
    where
      Tie : ℕ → ℕ → ℕ → Type 0
      Tie x u k = ((link links' x).level ≡ 0) ⊎ (((u ≡ (link links' x).from) × (k ≡ (link links' x).arc)) ⊎ Contains ties' (x, u))

      listed : (x : ℕ) → u ≡ x → Contains ties' (note.node, x) → Contains ties' (note.node, u)
      listed x same there = subst (λ (n : ℕ). Contains ties' (note.node, n)) (sym same) there

      here : and_had note had note.node u k → Tie note.node u k
      here there = elim reached.tied [
        | inl begins ↦ inl begins
        | inr (inr two) ↦ elim there [
          | inl of ↦ inr (inr (listed note.from of.1 two.1.0))
          | inr old ↦ elim (tied note.node u k old.1) [
            | inl begins ↦ absurd (two.0 begins)
            | inr (inl own) ↦ inr (inr (listed (link links note.node).from own.0 two.1.1))
            | inr (inr before) ↦ inr (inr (reached.listed (note.node, u) before))
          ]
        ]
        | inr (inl one) ↦ elim there [
          | inl of ↦ inr (inl (of.1 ∙ sym one.1.1.0, of.2 ∙ sym one.1.1.1))
          | inr old ↦ elim (tied note.node u k old.1) [
            | inl begins ↦ absurd (one.0 begins)
            | inr (inl own) ↦ inr (inl (own.0 ∙ one.1.0.0 ∙ sym one.1.1.0, own.1 ∙ one.1.0.1 ∙ sym one.1.1.1))
            | inr (inr before) ↦ inr (inr (reached.listed (note.node, u) before))
          ]
        ]
      ]

  -- and if it fell
  AreTied-fell : AreTied had links ties → note.again ≡ false → IsFallen note.node (link_of note links) links links' → AreTied (and_had note had) links' ties
  AreTied-fell tied falls fell v u k by = elim by [
    | inl of ↦ (
        let at_v : link links' v ≡ link_of note links = ap (link links') of.0 ∙ fell.here in
        inr (inl (of.1 ∙ sym (ap (λ (l : Link). l.from) at_v), of.2 ∙ sym (ap (λ (l : Link). l.arc) at_v))))
    | inr old ↦ (
        let at_v = fell.others v (old.0 falls) in
        elim (tied v u k old.1) [
          | inl begins ↦ inl (ap (λ (l : Link). l.level) at_v ∙ begins)
          | inr (inl own) ↦ inr (inl (own.0 ∙ sym (ap (λ (l : Link). l.from) at_v), own.1 ∙ sym (ap (λ (l : Link). l.arc) at_v)))
          | inr (inr there) ↦ inr (inr there)
        ])
  ]

  pub AreTied-followed : AreTied had links ties → IsFollowed roads note links waiting ties links' waiting' ties' → AreTied (and_had note had) links' ties'
  AreTied-followed tied followed = elim (cases_Bool note.again) [
    | inl again ↦ AreTied-again tied (followed.again again)
    | inr falls ↦ (
        let fell = followed.fell falls in
        subst (AreTied (and_had note had) links') (sym fell.1.1) (AreTied-fell tied falls fell.0))
  ]

-- a level was passed on: the node was met again by the arc of its link
module _ (roads : Roads) (note : Note) (notes : List Note) (links links' : List Link) (waiting waiting' : List ℕ) (ties ties' : List (ℕ × ℕ)) (again : note.again ≡ true) (same : HaveOneArc (link links note.node) (link_of note links)) (begun : (link links note.node).level ≢ 0) (linked : (link links note.node).level < NO_LEVEL) (reached : IsReachedAgain roads note.node (link_of note links) links waiting ties links' waiting' ties') where
  abbrev had : ℕ → ℕ → ℕ → Type 0
  had = had_after notes by_none

  abbrev met : ℕ → ℕ → ℕ → Type 0
  met = met_after notes by_none

  never : {v : ℕ} → note.again ≡ false → v ≢ note.node
  never falls = absurd (false≢true (sym falls ∙ again))

  pub AreAfter-passed : (sources : List Source) (table : List ℕ) → AreAfter roads sources table notes links waiting ties → AreAfter roads sources table notes links' waiting' ties'
  AreAfter-passed sources table before = (
    record {
      places = after.places;
      low = after.low;
      linked = λ v there. elim (after.linked v there) [
        | inl seed ↦ inl seed
        | inr (inl of) ↦ inr (here v (link links' v).from (link links' v).arc of)
        | inr (inr by) ↦ inr by.1
      ];
      passed = λ v u k by. after.passed v u k (inr ((λ falls. absurd (false≢true (sym falls ∙ again))), by));
    },
    λ v u k by. AreTied-followed roads note had by_none links links' waiting waiting' ties ties' before.1 followed v u k (inr (never, by)),
  )
    where
      followed : IsFollowed roads note links waiting ties links' waiting' ties'
      followed = record { fell = λ falls. absurd (false≢true (sym falls ∙ again)); again = λ _. reached }

      after : AreReplayed roads sources table (and_had note had) (and_met note met) links' waiting'
      after = AreReplayed-followed roads note had met links links' waiting waiting' ties ties' sources table before.0 (omega arith) (met-had notes by_none by_none (λ v u k by. by)) before.1 followed

      -- the arc of the note is that of the link, by which the label was had
      here : (v u k : ℕ) → IsNoteOf note v u k → had v u k
      here v u k of = elim (before.0.linked note.node linked) [
        | inl seed ↦ absurd (begun seed.0)
        | inr by ↦ (
            subst (λ (x : ℕ). had x u k) (sym of.0) (subst (λ (x : ℕ). had note.node u x) (same.1 ∙ sym of.2) (subst (λ (x : ℕ). had note.node x (link links note.node).arc) (same.0 ∙ sym of.1) by)))
      ]

-- some notes were replayed, and one more
pub AreAfter-more : (roads : Roads) (notes : List Note) (note : Note) (links links' : List Link) (waiting waiting' : List ℕ) (ties ties' : List (ℕ × ℕ)) → IsFollowed roads note links waiting ties links' waiting' ties' → (sources : List Source) (table : List ℕ) → AreAfter roads sources table notes links waiting ties → AreAfter roads sources table (notes ++ note ∷ []) links' waiting' ties'
AreAfter-more roads notes note links links' waiting waiting' ties ties' followed sources table before =
    let after = AreReplayed-followed roads note (had_after notes by_none) (met_after notes by_none) links links' waiting waiting' ties ties' sources table before.0 (omega arith) (met-had notes by_none by_none (λ v u k by. by)) before.1 followed in (
      record {
        places = after.places;
        low = after.low;
        linked = λ v there. elim (after.linked v there) [ inl seed ↦ inl seed | inr by ↦ inr (had-then notes note by_none v (link links' v).from (link links' v).arc by) ];
        passed = λ v u k by. after.passed v u k (met-last notes note by_none v u k by);
      },
      λ v u k by. AreTied-followed roads note (had_after notes by_none) by_none links links' waiting waiting' ties ties' before.1 followed v u k (had-last notes note by_none v u k by),
    )

-- before the first note
pub AreTied-none : (links : List Link) (ties : List (ℕ × ℕ)) → AreTied (had_after [] by_none) links ties
AreTied-none links ties v u k by = absurd by
