-- Canonical walks for any times of nodes: a node has at most one, and it attains the node's time.
use Rattle.std.proofs.Common.{◌≡◌, ◌∙◌, refl, ℕ, suc, ◌≤◌, List, [], ◌∷◌, ◌++◌, arith, ap, subst, sym}
use Rattle.std.specs.List.{IsAmong}
use Rattle.ea_base.specs.declared.limits.TheConstants.{HORIZON}
use Rattle.ea_road.specs.declared.arc.Arc.{Arc}
use Rattle.ea_road.specs.declared.source.Source.{Source}
use Rattle.ea_road.specs.Roads.{Roads, IsArc}
use Rattle.ea_road.specs.Levels.{HasChain, begins, follows, IsLevel, IsCanonical, at_source, by_arc}
use Rattle.ea_road.specs.Arrivals.{Arrives, Attains, stays, goes}
use Rattle.ea_road.proofs.Arcs.{one_arc}

module _
    (roads : Roads)
    (answers : ℕ → ℕ → ℕ → ℕ → Type 0)
    (sources : List Source)
    (times : ℕ → ℕ → Type 0)
  where
    pub same_level : (node level other : ℕ) → IsLevel roads answers sources times node level → IsLevel roads answers sources times node other → level ≡ other
    same_level node level other this that =
        let up = this.fewest other that.chain in
        let down = that.fewest level this.chain in
        omega arith

    -- a node has one canonical walk
    pub one_canonical : {node : ℕ} {walk other : List ℕ} → IsCanonical roads answers sources times node walk → IsCanonical roads answers sources times node other → walk ≡ other
    one_canonical (at_source level) (at_source also) = refl
    one_canonical (at_source {node} level) (by_arc {level = count} front lower upper tight lowest) =
        absurd (omega (arith, same_level node 0 (suc count) level upper))
    one_canonical (by_arc {level = count} front lower upper tight lowest) (at_source {node} level) =
        absurd (omega (arith, same_level node (suc count) 0 upper level))
    one_canonical (by_arc {tail} {head} {number} {level = count} {walk} front lower upper tight lowest) (by_arc {tail = from} {number = step} {level = size} {walk = path} before under above close least) =
        let levels = same_level head (suc count) (suc size) upper above in
        let sizes : size ≡ count = omega arith in
        let under_too = subst (λ n. IsLevel roads answers sources times from n) sizes under in
        let lower_too = subst (λ n. IsLevel roads answers sources times tail n) (sym sizes) lower in
        let up = lowest step from close under_too in
        let down = least number tail tight lower_too in
        let numbers : number ≡ step = omega arith in
        let arcs = one_arc roads step tight.arc close.arc (subst (λ n. IsArc roads n tight.arc) numbers tight.is_arc) close.is_arc in
        let tails : from ≡ tail = sym close.is_tail ∙ ap (λ (a : Arc). a.tail) (sym arcs) ∙ tight.is_tail in
        let fronts = one_canonical front (subst (λ n. IsCanonical roads answers sources times n path) tails before) in
        ap (λ w. w ++ number ∷ []) fronts ∙ ap (λ n. path ++ n ∷ []) numbers

    -- the source at which a chain of no arc begins
    pub record Begins (node : ℕ) : Type 0 where
      pub source : Source
      pub among : IsAmong sources source
      pub is_node : source.node ≡ node
      pub at : times node source.departure

    pub begins_of : {node count : ℕ} → HasChain roads answers sources times node count → count ≡ 0 → Begins node
    begins_of (begins {source} among at) none = record { source = source; among = among; is_node = refl; at = at }
    begins_of (follows chain tight) none = absurd (omega arith)

    module _
        (within : (node time : ℕ) → times node time → time ≤ HORIZON)
        (one : (node time other : ℕ) → times node time → times node other → time ≡ other)
      where
        -- a canonical walk leads from a source, left at its departure, to the node at its time
        pub canonical_attains : {node : ℕ} {walk : List ℕ} (time : ℕ) → times node time → IsCanonical roads answers sources times node walk → Attains roads answers sources walk node time
        canonical_attains time at (at_source {node} level) =
            let start = begins_of level.chain refl in
            record {
              source = start.source;
              among = start.among;
              arrives = subst (λ t. Arrives roads answers start.source.node start.source.departure [] node t) (one node start.source.departure time start.at at) (subst (λ n. Arrives roads answers start.source.node start.source.departure [] n start.source.departure) start.is_node stays);
            }
        canonical_attains time at (by_arc {tail} {head} {number} {level} {walk} front lower upper tight lowest) =
            let before = canonical_attains tight.departure tight.at_tail front in
            let step = goes before.arrives (within tail tight.departure tight.at_tail) tight.is_arc tight.is_tail tight.answer in
            record {
              source = before.source;
              among = before.among;
              arrives = subst (λ t. Arrives roads answers before.source.node before.source.departure (walk ++ number ∷ []) head t) (one head tight.arrival time tight.at_head at) (subst (λ h. Arrives roads answers before.source.node before.source.departure (walk ++ number ∷ []) h tight.arrival) tight.is_head step);
            }
