-- Replacing the places of arcs in links by the arcs' numbers.
use Rattle.std.proofs.Common.{◌≡◌, ◌≢◌, ℕ, ◌+◌, ◌-◌, ◌<◌, ◌≤◌, List, length, set, Contains, refl, sym, ◌∙◌, ap, subst, ◌⊎◌, inl, inr, arith}
use Rattle.std.proofs.lemmas.Bool.{cases_lt, cases_eq}
use Rattle.ea_base.specs.declared.limits.TheConstants.{HORIZON}
use Rattle.ea_road.specs.declared.TheConstants.{NONE}
use Rattle.ea_road.specs.declared.source.Source.{Source}
use Rattle.ea_travel_times.specs.Answers.{IsFifo}
use Rattle.ea_road.specs.Roads.{Roads, IsNetwork, leaving, top_class}
use Rattle.ea_road.proofs.Arcs.{is_question}
use Rattle.ea_search.specs.declared.link.Link.{Link}
use Rattle.ea_search.specs.declared.link.TheConstants.{NO_LEVEL}
use Rattle.ea_paths.specs.Mended.{AreMended}
use Rattle.ea_search.specs.Links.{link}
use Rattle.ea_search.specs.Notes.{AreHad}
use Rattle.ea_paths.specs.Offers.{IsSeed, MeetsBound, Precedes}
use Rattle.ea_paths.specs.Replayed.{AreReplayed, AreSettled, IsSettled, with_number}
use Rattle.ea_search.specs.Scans.{MeetsAll, Step, number_at}
use Rattle.ea_search.specs.Underway.{bound_of}
use Rattle.ea_paths.proofs.Mendings.{link-past, link-zero}
use Rattle.ea_search.proofs.Places.{link-set_same, link-set_other}

-- a place was written: its node has what was written, and others what they had
pub link-set_next : (links : List Link) (place : ℕ) (x : Link) → place < length links → link (set links place x) (place + 1) ≡ x
link-set_next links place x inside =
    let e : place + 1 - 1 ≡ place = omega arith in
    subst (λ (k : ℕ). link (set links k x) (place + 1) ≡ x) e (link-set_same links (place + 1) x (omega arith) (omega arith))

pub link-set_else : (links : List Link) (place v : ℕ) (x : Link) → v ≢ place + 1 → link (set links place x) v ≡ link links v
link-set_else links place v x ne =
    let e : place + 1 - 1 ≡ place = omega arith in
    subst (λ (k : ℕ). link (set links k x) v ≡ link links v) e (link-set_other links (place + 1) v x (omega arith) ne)

module _ (roads : Roads) (links : List Link) where
  -- a link without an arc stays
  pub IsSettled-else : (v : ℕ) (l : Link) → l ≡ link links v → ((link links v).level < NO_LEVEL → (link links v).from ≢ 0 → ⊥) → IsSettled roads links v l
  IsSettled-else v l same never = record {
    level = ap (λ (l : Link). l.level) same;
    begins = λ _. same;
    by_arc = λ there far. absurd (never there far);
    inside = λ there far. absurd (never there far);
    lower = λ there far. absurd (never there far);
  }

  -- a link gets the number of its arc, if its tail is lower
  pub IsSettled-arc : (v number : ℕ) (l : Link) → l ≡ link links v → number ≡ number_at roads l.from l.arc → l.arc < length (leaving roads l.from) → (link links l.from).level < l.level → 0 < l.from → IsSettled roads links v (record { level = l.level; arc = number; from = l.from })
  IsSettled-arc v number l same arc inside lower far = record {
    level = ap (λ (x : Link). x.level) same;
    begins = λ none. (let e = ap (λ (x : Link). x.from) same in absurd (omega arith));
    by_arc = λ _ _. ap (λ (n : ℕ). record { level = l.level; arc = n; from = l.from }) arc ∙ ap (with_number roads) same;
    inside = λ _ _. (let P : Link → Type 0 = λ x. x.arc < length (leaving roads x.from) in subst P same inside);
    lower = λ _ _. (let P : Link → Type 0 = λ x. (link links x.from).level < x.level in subst P same lower);
  }

  -- The links up to a place are settled, and the others unchanged.
  pub record AreSettledTo (links' : List Link) (place : ℕ) : Type 0 where
    pub done : (v : ℕ) → v ≤ place → IsSettled roads links v (link links' v)
    pub rest : (v : ℕ) → place < v → link links' v ≡ link links v

  pub SettledTo-none : AreSettledTo links 0
  SettledTo-none = record {
    done = λ v first. IsSettled-else v (link links v) refl (λ there far. (let none = link-zero links v first in omega arith));
    rest = λ v _. refl;
  }

  pub SettledTo-more : (links' links'' : List Link) (place : ℕ) → AreSettledTo links' place → ((v : ℕ) → v ≢ place + 1 → link links'' v ≡ link links' v) → IsSettled roads links (place + 1) (link links'' (place + 1)) → AreSettledTo links'' (place + 1)
  SettledTo-more links' links'' place before others here = record {
    done = done;
    rest = λ v late. others v (λ e. omega (arith, e)) ∙ before.rest v (omega arith);
  }
    where
      done : (v : ℕ) → v ≤ place + 1 → IsSettled roads links v (link links'' v)
      done v most = elim (cases_eq v (place + 1)) [
        | inl at ↦ (
            let P : ℕ → Type 0 = λ x. IsSettled roads links x (link links'' x) in
            subst P (sym at) here)
        | inr ne ↦ (
            let P : Link → Type 0 = λ l. IsSettled roads links v l in
            subst P (sym (others v ne)) (before.done v (omega arith)))
      ]

  pub SettledTo-level : (links' : List Link) (place : ℕ) → AreSettledTo links' place → (v : ℕ) → (link links' v).level ≡ (link links v).level
  SettledTo-level links' place to v = elim (cases_lt place v) [
    | inl late ↦ ap (λ (l : Link). l.level) (to.rest v late)
    | inr early ↦ (to.done v early).level
  ]

  pub SettledTo-all : (links' : List Link) (place : ℕ) → length links ≤ place → AreSettledTo links' place → AreSettled roads links links'
  SettledTo-all links' place all to v = elim (cases_lt place v) [
    | inl late ↦ IsSettled-else v (link links' v) (to.rest v late) (λ there far. (let none = link-past links v (omega arith) in omega arith))
    | inr early ↦ to.done v early
  ]

module _
    (roads : Roads)
    (answers : ℕ → ℕ → ℕ → ℕ → Type 0)
    (classes : ℕ)
    (network : IsNetwork roads)
    (classed : top_class roads.arcs ≤ classes)
    (fifo : IsFifo answers classes)
    (table : List ℕ)
    (had met : ℕ → ℕ → ℕ → Type 0)
    (are_had : AreHad roads answers table had)
    (meet : (node : ℕ) → bound_of table node ≢ NONE → MeetsAll roads answers table met node (bound_of table node))
  where
    -- An arc from which a label is had is tight, since it is left in time at its tail's label.
    had_tight : (v u k : ℕ) → had v u k → (0 < u) × MeetsBound roads answers table u (number_at roads u k) v
    had_tight v u k was =
        let is = are_had v u k was in
        let step = is.step in
        let later = is.later in
        let within = is.within in
        let low : bound_of table u ≤ HORIZON = omega arith in
        let question = is_question roads classes is.number (bound_of table u) step.arc network classed step.is_arc low in
        let late = is_question roads classes is.number is.departure step.arc network classed step.is_arc within in
        let best = fifo.has_answer step.arc.class step.arc.weight (bound_of table u) question in
        let order : best.0 ≤ bound_of table v = fifo.in_order step.arc.class step.arc.weight (bound_of table u) is.departure best.0 (bound_of table v) question late best.1 step.answer later in
        let in_time = step.in_time in
        let first : Step roads answers u (bound_of table u) is.number v best.0 = record {
          arc = step.arc;
          is_arc = step.is_arc;
          is_tail = step.is_tail;
          is_head = step.is_head;
          answer = best.1;
          in_time = omega arith;
        } in
        let least : bound_of table v ≤ best.0 = (meet u (λ e. omega (arith, e)) is.number v best.0 first).0 in
        let same : best.0 ≡ bound_of table v = omega arith in
        let P : ℕ → Type 0 = λ x. Step roads answers u (bound_of table u) is.number v x in
        let Q : ℕ → Type 0 = λ x. MeetsBound roads answers table u x v in
        let tail = (network.each_fits is.number step.arc step.is_arc).tail.from_one in
        let is_tail = step.is_tail in
        (omega arith, subst Q (sym is.placed.1) (record { step = subst P same first; from_within = low }))

    -- Links from the replay, once settled, are mended except for waiting nodes.
    module _ (sources : List Source) (links links' : List Link) (waiting : List ℕ) (places : length links' ≡ length links) (replayed : AreReplayed roads sources table had met links waiting) (settled : AreSettled roads links links') where
      abbrev Good : ℕ → Link → Type 0
      Good v l = ((l.level ≡ 0) × IsSeed sources table v) ⊎ (MeetsBound roads answers table l.from l.arc v × ((link links' l.from).level < l.level))

      by_had : (v : ℕ) → (link links v).level < NO_LEVEL → had v (link links v).from (link links v).arc → Good v (link links' v)
      by_had v there was =
          let tight = had_tight v (link links v).from (link links v).arc was in
          let far : (link links v).from ≢ 0 = λ e. omega (arith, tight.0, e) in
          let lower = (settled v).lower there far in
          let same = (settled (link links v).from).level in
          subst (Good v) (sym ((settled v).by_arc there far)) (inr (tight.1, omega arith))

      linked : (v : ℕ) → (link links' v).level < NO_LEVEL → Good v (link links' v)
      linked v there =
          let level = (settled v).level in
          elim (replayed.linked v (omega arith)) [
            | inl begins ↦ inl (omega (arith, begins.0, level), begins.1.1)
            | inr was ↦ by_had v (omega arith) was
          ]

      -- what does not precede a link with its number does not precede the settled link, above level 0
      still : (v : ℕ) (x : Link) → 0 < x.level → x.level < NO_LEVEL → (Precedes x (with_number roads (link links v)) → ⊥) → Precedes x (link links' v) → ⊥
      still v x above room never =
          elim (cases_lt (link links v).level NO_LEVEL) [
            | inl there ↦ elim (replayed.linked v there) [
              | inl begins ↦ (
                  let low : (link links' v).level ≡ 0 = omega (arith, begins.0, (settled v).level) in
                  none (link links' v) low)
              | inr was ↦ (
                  let tight = had_tight v (link links v).from (link links v).arc was in
                  let far : (link links v).from ≢ 0 = λ e. omega (arith, tight.0, e) in
                  let P : Link → Type 0 = λ l. Precedes x l → ⊥ in
                  subst P (sym ((settled v).by_arc there far)) never)
            ]
            | inr without ↦ absurd (never (inl (omega arith)))
          ]
        where
          none : (l : Link) → l.level ≡ 0 → Precedes x l → ⊥
          none l low (inl less) = omega arith
          none l low (inr same) = omega (arith, same.0)

      passed : (e u v : ℕ) → MeetsBound roads answers table u e v → (link links' u).level + 1 < NO_LEVEL → (Precedes (record { level = (link links' u).level + 1; arc = e; from = u }) (link links' v) → ⊥) ⊎ Contains waiting u
      passed e u v tight room =
          let low = tight.from_within in
          let level = (settled u).level in
          let found = (meet u (λ e. omega (arith, e)) e v (bound_of table v) tight.step).1 refl in
          let P : ℕ → ℕ → Type 0 = λ n a. Precedes (record { level = n + 1; arc = a; from = u }) (link links' v) → ⊥ in
          elim (replayed.passed v u found.0 found.2 (omega arith)) [
            | inl never ↦ inl (subst (λ n. P n e) (sym level) (subst (P (link links u).level) found.1.1 (still v (record { level = (link links u).level + 1; arc = number_at roads u found.0; from = u }) (omega arith) (omega arith) never)))
            | inr waits ↦ inr waits
          ]

      pub AreMended-replayed : AreMended roads answers sources table links' waiting
      AreMended-replayed = record {
        places = places ∙ replayed.places;
        low = λ v. (let same = (settled v).level in let was = replayed.low v in omega arith);
        linked = linked;
        passed = passed;
      }
