-- Walks: the last arc, the prefixes, and that a walk has one end and one arrival.
use Rattle.std.proofs.Common.{◌≡◌, ◌∙◌, refl, ℕ, zero, suc, ◌+◌, ◌<◌, ◌≤◌, List, [], ◌∷◌, ◌++◌, take, length, get_or, inl, inr, arith, ap, subst, sym, length-append}
use Rattle.std.proofs.lemmas.Bool.Decides.{leb_tells}
use Rattle.std.proofs.lemmas.List.{same_from_push, take-append-le, take_all, take_more}
use Rattle.ea_base.specs.declared.limits.TheConstants.{HORIZON}
use Rattle.ea_road.specs.declared.arc.Arc.{Arc}
use Rattle.ea_travel_times.specs.Answers.{IsFifo}
use Rattle.ea_road.specs.Roads.{Roads, IsArc, IsNetwork, top_class}
use Rattle.ea_road.specs.Arrivals.{Arrives, stays, goes, GoesOn}
use Rattle.ea_road.proofs.Arcs.{is_question, one_arc}
use Rattle.ea_road.proofs.Same.{one_answer}

module _
    (roads : Roads)
    (answers : ℕ → ℕ → ℕ → ℕ → Type 0)
    (classes : ℕ)
    (start departure : ℕ)
  where
    -- a walk that arrives within the horizon can be extended
    pub arrives_more : (walk : List ℕ) (node time number head arrival : ℕ) → Arrives roads answers start departure walk node time → time ≤ HORIZON → GoesOn roads answers node time number head arrival → Arrives roads answers start departure (walk ++ number ∷ []) head arrival
    arrives_more walk node time number head arrival front within on =
        subst (λ h. Arrives roads answers start departure (walk ++ number ∷ []) h arrival) on.is_head (goes front within on.is_arc on.is_tail on.answer)

    -- what is known of a walk that has a last arc
    pub record Last (front : List ℕ) (number node time : ℕ) : Type 0 where
      pub before : ℕ
      pub at : ℕ
      pub arc : Arc
      pub front_arrives : Arrives roads answers start departure front before at
      pub within : at ≤ HORIZON
      pub is_arc : IsArc roads number arc
      pub tail : arc.tail ≡ before
      pub answer : answers arc.class arc.weight at time
      pub head : arc.head ≡ node

    pub last_of : {walk : List ℕ} {node time : ℕ} (front : List ℕ) (number : ℕ) → walk ≡ front ++ number ∷ [] → Arrives roads answers start departure walk node time → Last front number node time
    last_of front number same stays = absurd (no_push front number same)
      where
        no_push : (front : List ℕ) (number : ℕ) → [] ≡ front ++ number ∷ [] → ⊥
        no_push front number same = omega (arith, ap length same, length-append front (number ∷ []))
    last_of front number same (goes {walk} {node} {time} {number = step} {arrival} {arc} prior within is_arc tail answer) =
        let parts = same_from_push walk front step number same in
        record {
          before = node;
          at = time;
          arc = arc;
          front_arrives = subst (λ w. Arrives roads answers start departure w node time) parts.0 prior;
          within = within;
          is_arc = subst (λ n. IsArc roads n arc) parts.1 is_arc;
          tail = tail;
          answer = answer;
          head = refl;
        }

    -- each prefix of a walk that arrives within the horizon does so too
    pub record Begins (walk : List ℕ) : Type 0 where
      pub node : ℕ
      pub time : ℕ
      pub arrives : Arrives roads answers start departure walk node time
      pub within : time ≤ HORIZON

    pub begins_take : {walk : List ℕ} {node time : ℕ} (count : ℕ) → Arrives roads answers start departure walk node time → time ≤ HORIZON → Begins (take count walk)
    begins_take {node} {time} count stays within =
        subst (λ w. Begins w) (sym (take_nil count)) (record { node = node; time = time; arrives = stays; within = within })
      where
        take_nil : (count : ℕ) → take {A = ℕ} count [] ≡ []
        take_nil zero = refl
        take_nil (suc count) = refl
    begins_take count (goes {walk} {node} {time} {number} {arrival} {arc} prior inside is_arc tail answer) within =
        elim (leb_tells count (length walk)) [
          | inl short ↦
              subst (λ w. Begins w) (sym (take-append-le count walk (number ∷ []) short.1)) (begins_take count prior inside)
          | inr long ↦
              let whole = take_all count (walk ++ number ∷ []) (omega (arith, length-append walk (number ∷ []), long.1)) in
              subst (λ w. Begins w) (sym whole) (record { node = arc.head; time = arrival; arrives = goes prior inside is_arc tail answer; within = within })
        ]

    module _
        (network : IsNetwork roads)
        (classed : top_class roads.arcs ≤ classes)
        (fifo : IsFifo answers classes)
      where
        pub same_answer : (number first second arrival other : ℕ) (this that : Arc) → this ≡ that → first ≡ second → first ≤ HORIZON → IsArc roads number this → answers this.class this.weight first arrival → answers that.class that.weight second other → arrival ≡ other
        same_answer number first second arrival other this that arcs times within is_arc answer also =
            let back : answers this.class this.weight second other = subst (λ (arc : Arc). answers arc.class arc.weight second other) (sym arcs) also in
            let moved : answers this.class this.weight first other = subst (λ t. answers this.class this.weight t other) (sym times) back in
            one_answer answers classes fifo this.class this.weight first arrival other (is_question roads classes number first this network classed is_arc within) answer moved

        -- a walk ends at one node, and arrives at one time
        pub one_end : {walk : List ℕ} {node time : ℕ} (place other : ℕ) → Arrives roads answers start departure walk node time → Arrives roads answers start departure walk place other → (node ≡ place) × (time ≡ other)
        one_end place other stays that = at_start refl that
          where
            at_start : {walk : List ℕ} {place other : ℕ} → [] ≡ walk → Arrives roads answers start departure walk place other → (start ≡ place) × (departure ≡ other)
            at_start same stays = (refl, refl)
            at_start same (goes {walk} {number} prior inside is_arc tail answer) = absurd (no_push walk number same)
              where
                no_push : (front : List ℕ) (number : ℕ) → [] ≡ front ++ number ∷ [] → ⊥
                no_push front number same = omega (arith, ap length same, length-append front (number ∷ []))
        one_end place other (goes {walk} {node} {time} {number} {arrival} {arc} prior inside is_arc tail answer) that =
            let last = last_of walk number refl that in
            let ends = one_end last.before last.at prior last.front_arrives in
            let arcs = one_arc roads number arc last.arc is_arc last.is_arc in
            let heads : arc.head ≡ last.arc.head = ap (λ (a : Arc). a.head) arcs in (
              heads ∙ last.head,
              same_answer number time last.at arrival other arc last.arc arcs ends.1 inside is_arc answer last.answer,
            )

        -- if no arc of the next number extends the walk, the whole walk does not arrive within the horizon
        pub stops : (walk : List ℕ) (count node time : ℕ) → count < length walk → Arrives roads answers start departure (take count walk) node time → ((head arrival : ℕ) → GoesOn roads answers node time (get_or walk count 0) head arrival → HORIZON < arrival) → (place other : ℕ) → Arrives roads answers start departure walk place other → HORIZON < other
        stops walk count node time inside front none place other whole =
            elim (leb_tells other HORIZON) [
              | inl within ↦
                  let begins = begins_take (count + 1) whole within.1 in
                  let last = last_of (take count walk) (get_or walk count 0) (take_more walk count 0 inside) begins.arrives in
                  let ends = one_end last.before last.at front last.front_arrives in
                  let on : GoesOn roads answers node time (get_or walk count 0) begins.node begins.time = record {
                    arc = last.arc;
                    is_arc = last.is_arc;
                    is_tail = last.tail ∙ sym ends.0;
                    is_head = last.head;
                    answer = subst (λ t. answers last.arc.class last.arc.weight t begins.time) (sym ends.1) last.answer;
                  } in
                  let beyond = none begins.node begins.time on in
                  let before = begins.within in
                  absurd (omega arith)
              | inr beyond ↦ beyond.1
            ]
