-- What links, walks and arcs show of a report's lines.
use Rattle.std.proofs.Common.{◌≡◌, ◌∙◌, refl, ℕ, ◌+◌, ◌-◌, ◌<◌, ◌≤◌, List, length, get_or, ◌⊎◌, inl, inr, arith, ap, sym, subst}
use Rattle.std.proofs.lemmas.Bool.Decides.{eqb_tells, leb_tells}
use Rattle.std.proofs.lemmas.List.{get_or_default}
use Rattle.std.specs.Prelude.{◌≢◌, Option, Some, None, MatchOption, Ok, Err}
use Rattle.std.specs.Option.{option_or}
use Rattle.std.specs.List.{IsAmong}
use Rattle.ea_base.specs.declared.limits.TheConstants.{HORIZON}
use Rattle.ea_road.specs.declared.TheConstants.{NONE}
use Rattle.ea_road.specs.declared.arc.Arc.{Arc}
use Rattle.ea_road.specs.declared.source.Source.{Source}
use Rattle.ea_road.specs.Roads.{Roads, IsArc, IsNode}
use Rattle.ea_travel_times.specs.Answers.{IsFifo, IsQuestion}
use Rattle.ea_road.specs.Arrivals.{Attains}
use Rattle.ea_road.specs.Levels.{HasChain, IsCanonical}
use Rattle.ea_road.proofs.Arcs.{is_question, one_arc}
use Rattle.ea_road.proofs.Canonical.{canonical_attains, one_canonical}
use Rattle.ea_road.proofs.Walked.{labels_are_times}
use Rattle.ea_road.proofs.WalkLaws.{same_answer}
use Rattle.ea_search.specs.declared.link.Link.{Link}
use Rattle.ea_search.specs.declared.link.TheConstants.{NO_LEVEL}
use Rattle.ea_search.specs.Links.{AreLinks, link, linked_walk}
use Rattle.ea_paths.proofs.Linkings.{link_read}
use Rattle.ea_check.specs.Verdicts.{WrittenWalk, Said, IsSaid, reported_time, IsReported, Improves, by_source, by_arc, IsNotAttained, no_level, astray, IsNotCanonical, other_walk, IsNotLeast, improved, IsAttained, IsCanonicalAt, IsWellFormed, IsFirst, IsTask, AreUnimproved, AreAttained, AreCanonical}
use Rattle.ea_check.specs.Nodes.{IsFirstAt, IsFirstOther, IsOtherAt}
use Rattle.ea_check.specs.declared.fault.CheckFault.{CheckFault}
use Rattle.ea_check.specs.declared.fault.CheckFault.TheVariants.{BadLine, NotAttained, NotLeast, OutOfMemory, NotCanonical}
use Rattle.ea_check.specs.declared.form.walk_reader.WalkReader.{WalkReader}
use Rattle.ea_check.specs.WalksLeft.{IsAtNode, ReadsNext}
use Rattle.ea_check.proofs.Right.{said_of, time_of_said, node_of_said}
use Rattle.ea_check.proofs.Firsts.{one_walk, first_at, line_not_least, line_not_attained, line_not_canonical, attained_no_fault, canonical_no_fault, first_no_level, first_astray, first_other_walk, first_not_least}

module _
    (roads : Roads)
    (answers : ℕ → ℕ → ℕ → ℕ → Type 0)
    (classes : ℕ)
    (sources : List Source)
    (reported : List Said)
    (task : IsTask roads classes sources)
    (fifo : IsFifo answers classes)
    (formed : IsWellFormed roads.nodes reported)
  where
    said_at : (node : ℕ) → IsNode roads.nodes node → (said : Said) × IsSaid reported node said
    said_at node is_node = said_of reported node (subst (λ n. IsNode n node) (sym formed.each_node) is_node)

    pub time_within : (node : ℕ) → IsNode roads.nodes node → reported_time reported node ≢ NONE → reported_time reported node ≤ HORIZON
    time_within node is_node has_time =
        let said = said_at node is_node in
        let same = time_of_said reported node said.0 said.1 in
        subst (λ t. t ≤ HORIZON) (sym same) (formed.times node said.0 said.1 (λ none. has_time (same ∙ none)))

    -- the walks behind that of a node
    pub next_node : (node : ℕ) → IsNode roads.nodes node → (line : Option ℕ) (old new : WalkReader) → IsAtNode reported node old → ReadsNext line old new → IsAtNode reported (node + 1) new
    next_node node is_node line old new at reads = let said = said_at node is_node in (reads reported node said.0 at said.1).0

    -- a node with no time has no walk
    pub right_unreached : (node : ℕ) → reported_time reported node ≡ NONE → IsAttained roads answers sources reported node × IsCanonicalAt roads answers sources reported node
    right_unreached node none = (
      record {
        level = λ said is_said has_time. absurd (has_time (sym (time_of_said reported node said is_said) ∙ none));
        walk = λ said walk is_said written. absurd (no_walk said walk is_said written);
      },
      λ said walk is_said written. absurd (no_walk said walk is_said written),
    )
      where
        no_walk : (said : Said) (walk : WrittenWalk) → IsSaid reported node said → said.walk ≡ Some walk → ⊥
        no_walk said walk is_said written =
            (formed.walks node said walk is_said written).0 (sym (time_of_said reported node said is_said) ∙ none)

    module _
        (links : List Link)
        (are : AreLinks roads answers sources (IsReported reported) links)
        (node : ℕ)
        (is_node : IsNode roads.nodes node)
      where
        abbrev Chain : Type 0
        Chain = (count : ℕ) × HasChain roads answers sources (IsReported reported) node count

        -- the level that the code reads
        pub read_level : (get_or links (node - 1) (record { level = 0; arc = 0; from = 0 })).level ≡ (link links node).level
        read_level =
            let some = is_node.from_one in
            let few = is_node.to_last in
            let places = are.places in
            ap (λ (l : Link). l.level) (link_read links node some (omega arith))

        -- a level other than NO_LEVEL is lower
        pub low_level : (link links node).level ≢ NO_LEVEL → (link links node).level < NO_LEVEL
        low_level there = let bound = (are.each node is_node).low in omega arith

        chain_of : (link links node).level ≢ NO_LEVEL → Chain
        chain_of there =
            ((link links node).level, ((are.each node is_node).level there).chain)

        pub faults_no_level : (line : ℕ) → reported_time reported node ≢ NONE → (link links node).level ≡ NO_LEVEL → ((said : Said) → IsSaid reported node said → line ≡ said.line) → IsFirstAt (IsNotAttained roads answers sources reported) node line
        faults_no_level line has_time without is_line =
            let said = said_at node is_node in
            let same = time_of_said reported node said.0 said.1 in
            let lines = is_line said.0 said.1 in
            let fault : IsNotAttained roads answers sources reported node said.0.line =
            no_level said.1 (λ none. has_time (same ∙ none)) ((are.each node is_node).without without) in
            record {
              fault = subst (λ l. IsNotAttained roads answers sources reported node l) (sym lines) fault;
              first = λ next also. let first = first_no_level roads answers sources reported roads.nodes node said.0 formed said.1 next also in omega arith;
            }

        pub right_alone : (link links node).level ≢ NO_LEVEL → ((said : Said) → IsSaid reported node said → said.walk ≡ None) → IsAttained roads answers sources reported node × IsCanonicalAt roads answers sources reported node
        right_alone there alone =
            let never : (said : Said) (walk : WrittenWalk) → IsSaid reported node said → said.walk ≡ Some walk → ⊥ = λ said walk is_said written. both said.walk walk (alone said is_said) written in (
              record {
                level = λ said is_said has_time. chain_of there;
                walk = λ said walk is_said written. absurd (never said walk is_said written);
              },
              λ said walk is_said written. absurd (never said walk is_said written),
            )
          where
            both : (writes : Option WrittenWalk) (walk : WrittenWalk) → writes ≡ None → writes ≡ Some walk → ⊥
            both writes walk none some = cc

        pub attained_by : (line : ℕ) (arcs : List ℕ) → (link links node).level ≢ NO_LEVEL → ((said : Said) → IsSaid reported node said → said.walk ≡ Some (record { line = line; arcs = arcs })) → Attains roads answers sources arcs node (reported_time reported node) → IsAttained roads answers sources reported node
        attained_by line arcs there writes attains = record {
          level = λ said is_said has_time. chain_of there;
          walk = λ said walk is_said written.
              let same = one_walk said said (record { line = line; arcs = arcs }) walk refl (writes said is_said) written in
              let path = ap (λ (w : WrittenWalk). w.arcs) same in
              let time = time_of_said reported node said is_said in
              subst (λ a. Attains roads answers sources a node said.time) path (subst (λ t. Attains roads answers sources arcs node t) time attains);
        }

        -- the walk along the links is the canonical one, and there is no other
        pub canonical_linked : (arcs : List ℕ) → (link links node).level ≢ NO_LEVEL → arcs ≡ linked_walk links node → IsCanonical roads answers sources (IsReported reported) node arcs
        canonical_linked arcs there same =
            subst (λ (w : List ℕ). IsCanonical roads answers sources (IsReported reported) node w) (sym same) ((are.each node is_node).walk there)

        pub linked_canonical : (arcs : List ℕ) → (link links node).level ≢ NO_LEVEL → IsCanonical roads answers sources (IsReported reported) node arcs → arcs ≡ linked_walk links node
        linked_canonical arcs there canonical = one_canonical roads answers sources (IsReported reported) canonical ((are.each node is_node).walk there)

        pub right_linked : (line : ℕ) (arcs : List ℕ) → reported_time reported node ≢ NONE → (link links node).level ≢ NO_LEVEL → ((said : Said) → IsSaid reported node said → said.walk ≡ Some (record { line = line; arcs = arcs })) → arcs ≡ linked_walk links node → IsAttained roads answers sources reported node × IsCanonicalAt roads answers sources reported node
        right_linked line arcs has_time there writes same =
            let times = labels_are_times (reported_time reported) in
            let canonical = canonical_linked arcs there same in (
              attained_by line arcs there writes (canonical_attains roads answers sources (IsReported reported) times.within times.one (reported_time reported node) (refl, time_within node is_node has_time) canonical),
              λ said walk is_said written.
                  let one = one_walk said said (record { line = line; arcs = arcs }) walk refl (writes said is_said) written in
                  subst (λ (w : WrittenWalk). IsCanonical roads answers sources (IsReported reported) node w.arcs) one canonical,
            )

        pub faults_astray : (line : ℕ) (arcs : List ℕ) → (link links node).level ≢ NO_LEVEL → ((said : Said) → IsSaid reported node said → said.walk ≡ Some (record { line = line; arcs = arcs })) → (Attains roads answers sources arcs node (reported_time reported node) → ⊥) → IsFirstAt (IsNotAttained roads answers sources reported) node line
        faults_astray line arcs there writes none =
            let said = said_at node is_node in
            let time = time_of_said reported node said.0 said.1 in
            let chain = chain_of there in
            record {
              fault = astray said.1 (writes said.0 said.1) (λ attains. none (subst (λ t. Attains roads answers sources arcs node t) (sym time) attains));
              first = first_astray roads answers sources reported node chain.0 said.0 (record { line = line; arcs = arcs }) chain.1 said.1 (writes said.0 said.1);
            }

        pub faults_other_walk : (line : ℕ) (arcs : List ℕ) → ((said : Said) → IsSaid reported node said → said.walk ≡ Some (record { line = line; arcs = arcs })) → (IsCanonical roads answers sources (IsReported reported) node arcs → ⊥) → IsFirstAt (IsNotCanonical roads answers sources reported) node line
        faults_other_walk line arcs writes none =
            let said = said_at node is_node in
            record {
              fault = other_walk said.1 (writes said.0 said.1) none;
              first = first_other_walk roads answers sources reported node said.0 (record { line = line; arcs = arcs }) said.1 (writes said.0 said.1);
            }

    pub question_of : (number departure : ℕ) (arc : Arc) → IsArc roads number arc → departure ≡ reported_time reported arc.tail → departure ≢ NONE → IsQuestion classes arc.class arc.weight departure
    question_of number departure arc is_arc same has_time =
        let within = time_within arc.tail (task.network.each_fits number arc is_arc).tail (λ none. has_time (same ∙ none)) in
        is_question roads classes number departure arc task.network task.classed is_arc (subst (λ t. t ≤ HORIZON) (sym same) within)

    pub arc_improves : (number departure arrival time : ℕ) (arc : Arc) → IsArc roads number arc → departure ≡ reported_time reported arc.tail → departure ≢ NONE → answers arc.class arc.weight departure arrival → arrival ≤ HORIZON → time ≡ reported_time reported arc.head → arrival < time → Improves roads answers sources (reported_time reported) arc.head
    arc_improves number departure arrival time arc is_arc same has_time answer within head late =
        let tail_within = time_within arc.tail (task.network.each_fits number arc is_arc).tail (λ none. has_time (same ∙ none)) in
        by_arc is_arc tail_within (subst (λ t. answers arc.class arc.weight t arrival) same answer) within (omega arith)

    -- if the arc's arrival is late or no better, the arc improves nothing
    pub arc_passes : (number departure arrival : ℕ) (here : Arc) → IsArc roads number here → departure ≡ reported_time reported here.tail → departure ≢ NONE → answers here.class here.weight departure arrival → (arrival ≤ HORIZON → arrival < reported_time reported here.head → ⊥) → (arc : Arc) (other : ℕ) → IsArc roads number arc → answers arc.class arc.weight (reported_time reported arc.tail) other → other ≤ HORIZON → other < reported_time reported arc.head → ⊥
    arc_passes number departure arrival here is_here same has_time answer never arc other is_arc also within late =
        let arcs = one_arc roads number here arc is_here is_arc in
        let times : departure ≡ reported_time reported arc.tail = same ∙ ap (λ (a : Arc). reported_time reported a.tail) arcs in
        let tail_within = time_within here.tail (task.network.each_fits number here is_here).tail (λ none. has_time (same ∙ none)) in
        let equal = same_answer roads answers classes 0 0 task.network task.classed fifo number departure (reported_time reported arc.tail) arrival other here arc arcs times (subst (λ t. t ≤ HORIZON) (sym same) tail_within) is_here answer also in
        let heads = ap (λ (a : Arc). reported_time reported a.head) arcs in
        never (omega arith) (omega arith)

    least_improved : (lowest : ℕ) → ((source : Source) → IsAmong sources source → source.departure < reported_time reported source.node → lowest ≤ source.node) → ((number : ℕ) (arc : Arc) (arrival : ℕ) → IsArc roads number arc → reported_time reported arc.tail ≤ HORIZON → answers arc.class arc.weight (reported_time reported arc.tail) arrival → arrival ≤ HORIZON → arrival < reported_time reported arc.head → lowest ≤ arc.head) → (node : ℕ) → Improves roads answers sources (reported_time reported) node → lowest ≤ node
    least_improved lowest by_sources by_arcs node (by_source {source} among late) = by_sources source among late
    least_improved lowest by_sources by_arcs node (by_arc {number} {arrival} {arc} is_arc within answer horizon late) = by_arcs number arc arrival is_arc within answer horizon late

    pub unimproved : (lowest : ℕ) → roads.nodes < lowest → ((source : Source) → IsAmong sources source → source.departure < reported_time reported source.node → lowest ≤ source.node) → ((number : ℕ) (arc : Arc) (arrival : ℕ) → IsArc roads number arc → reported_time reported arc.tail ≤ HORIZON → answers arc.class arc.weight (reported_time reported arc.tail) arrival → arrival ≤ HORIZON → arrival < reported_time reported arc.head → lowest ≤ arc.head) → AreUnimproved roads answers sources reported
    unimproved lowest beyond by_sources by_arcs node is_node improves =
        let bound = least_improved lowest by_sources by_arcs node improves in
        let few = is_node.to_last in
        omega arith

    none_beyond : (node : ℕ) (said : Said) → roads.nodes < node → IsSaid reported node said → ⊥
    none_beyond node said beyond is_said =
        let few = (node_of_said roads.nodes reported node said formed.each_node is_said).to_last in
        omega arith

    attained_all : (above : ℕ) → roads.nodes < above → ((before : ℕ) → before < above → IsAttained roads answers sources reported before) → AreAttained roads answers sources reported
    attained_all above beyond each node =
        elim (leb_tells above node) [
          | inr before ↦ each node (omega (arith, before.1))
          | inl after ↦
              let far : roads.nodes < node = omega (arith, after.1) in
              record {
                level = λ said is_said has_time. absurd (none_beyond node said far is_said);
                walk = λ said walk is_said written. absurd (none_beyond node said far is_said);
              }
        ]

    canonical_all : (above : ℕ) → roads.nodes < above → ((before : ℕ) → before < above → IsCanonicalAt roads answers sources reported before) → AreCanonical roads answers sources reported
    canonical_all above beyond each node said walk is_said written =
        elim (leb_tells above node) [
          | inr before ↦ each node (omega (arith, before.1)) said walk is_said written
          | inl after ↦ absurd (none_beyond node said (omega (arith, after.1)) is_said)
        ]

    first_fault_attained : (node line : ℕ) → IsFirstAt (IsNotAttained roads answers sources reported) node line → ((before : ℕ) → before < node → IsAttained roads answers sources reported before) → IsFirst (IsNotAttained roads answers sources reported) line
    first_fault_attained node line fault each =
        first_at (IsNotAttained roads answers sources reported) roads.nodes reported formed (line_not_attained roads answers sources reported) node line fault.fault fault.first (λ before next less also. attained_no_fault roads answers sources reported before next (each before less) also)

    first_fault_canonical : (node line : ℕ) → IsFirstAt (IsNotCanonical roads answers sources reported) node line → ((before : ℕ) → before < node → IsCanonicalAt roads answers sources reported before) → IsFirst (IsNotCanonical roads answers sources reported) line
    first_fault_canonical node line fault each =
        first_at (IsNotCanonical roads answers sources reported) roads.nodes reported formed (line_not_canonical roads answers sources reported) node line fault.fault fault.first (λ before next less also. canonical_no_fault roads answers sources reported before next (each before less) also)

    one_more : (P : ℕ → Type 0) (node : ℕ) → ((before : ℕ) → before < node → P before) → P node → (before : ℕ) → before < node + 1 → P before
    one_more P node each here before less =
        elim (eqb_tells node before) [
          | inl same ↦ subst P same.1 here
          | inr other ↦ each before (omega (arith, other.1))
        ]

    abbrev Attained : ℕ → Type 0
    Attained above = (before : ℕ) → before < above → IsAttained roads answers sources reported before

    -- the first line of the nodes before that is not canonical
    abbrev Known : ℕ → Option ℕ → Type 0
    Known above first = MatchOption first ((before : ℕ) → before < above → IsCanonicalAt roads answers sources reported before) (λ line. IsFirst (IsNotCanonical roads answers sources reported) line)

    -- one more node
    pub attained_more : (node : ℕ) (other : Option ℕ) → IsOtherAt roads answers sources reported node (Ok other) → Attained node → Attained (node + 1)
    attained_more node None here each = one_more (λ node. IsAttained roads answers sources reported node) node each here.0
    attained_more node (Some line) here each = one_more (λ node. IsAttained roads answers sources reported node) node each here.0

    pub known_more : (node : ℕ) (first other : Option ℕ) → IsOtherAt roads answers sources reported node (Ok other) → Known node first → Known (node + 1) (option_or first other)
    known_more node (Some line) other here known = known
    known_more node None None here known = one_more (λ node. IsCanonicalAt roads answers sources reported node) node known here.1
    known_more node None (Some line) here known = first_fault_canonical node line here.1 known

    pub known_fault : (node : ℕ) (fault : CheckFault) → Attained node → IsOtherAt roads answers sources reported node (Err fault) → IsFirstOther roads answers sources reported (Err fault)
    known_fault node (NotAttained line) each here = first_fault_attained node line here each
    known_fault node OutOfMemory each here = tt
    known_fault node (NotCanonical line) each here = here
    known_fault node (NotLeast line) each here = here
    known_fault node (BadLine line) each here = here

    pub known_all : (above : ℕ) (first : Option ℕ) → roads.nodes < above → Attained above → Known above first → IsFirstOther roads answers sources reported (Ok first)
    known_all above None beyond each known = (attained_all above beyond each, canonical_all above beyond known)
    known_all above (Some line) beyond each known = (attained_all above beyond each, known)

    pub source_improves : (source : Source) (time : ℕ) → IsAmong sources source → time ≡ reported_time reported source.node → source.departure < time → Improves roads answers sources (reported_time reported) source.node
    source_improves source time among same late = by_source among (omega arith)

    -- the lowest improved node is that of the first line
    pub first_fault_least : (lowest line : ℕ) → IsNode roads.nodes lowest → ((said : Said) → IsSaid reported lowest said → line ≡ said.line) → Improves roads answers sources (reported_time reported) lowest → ((source : Source) → IsAmong sources source → source.departure < reported_time reported source.node → lowest ≤ source.node) → ((number : ℕ) (arc : Arc) (arrival : ℕ) → IsArc roads number arc → reported_time reported arc.tail ≤ HORIZON → answers arc.class arc.weight (reported_time reported arc.tail) arrival → arrival ≤ HORIZON → arrival < reported_time reported arc.head → lowest ≤ arc.head) → IsFirst (IsNotLeast roads answers sources reported) line
    first_fault_least lowest line is_node is_line improves by_sources by_arcs =
        let said = said_at lowest is_node in
        let lines = is_line said.0 said.1 in
        let fault : IsNotLeast roads answers sources reported lowest said.0.line = improved said.1 improves in
        first_at (IsNotLeast roads answers sources reported) roads.nodes reported formed (line_not_least roads answers sources reported) lowest line
        (subst (λ l. IsNotLeast roads answers sources reported lowest l) (sym lines) fault)
        (λ next also. let first = first_not_least roads answers sources reported lowest said.0 said.1 next also in omega arith)
        (λ before next less also. let bound = least_fault before next also in omega arith)
      where
        least_fault : (before next : ℕ) → IsNotLeast roads answers sources reported before next → lowest ≤ before
        least_fault before next (improved is_said also) = least_improved lowest by_sources by_arcs before also

    pub improved_node : (node : ℕ) → Improves roads answers sources (reported_time reported) node → IsNode roads.nodes node
    improved_node node (by_source {source} among late) = (task.starts source among).0
    improved_node node (by_arc {number} {arrival} {arc} is_arc within answer horizon late) = (task.network.each_fits number arc is_arc).head

    pub lowest_improves : (lowest by_sources above : ℕ) → (lowest ≡ by_sources) ⊎ Improves roads answers sources (reported_time reported) lowest → (by_sources ≡ above) ⊎ Improves roads answers sources (reported_time reported) by_sources → lowest ≢ above → Improves roads answers sources (reported_time reported) lowest
    lowest_improves lowest by_sources above (inr improves) either differs = improves
    lowest_improves lowest by_sources above (inl same) (inl also) differs = absurd (differs (same ∙ also))
    lowest_improves lowest by_sources above (inl same) (inr improves) differs =
        subst (λ n. Improves roads answers sources (reported_time reported) n) (sym same) improves

-- what was found so far, whether or not a step finds it
pub still_found : (IsFound : ℕ → Type 0) (before now above : ℕ) → (before ≡ above) ⊎ IsFound before → (now ≡ before) ⊎ IsFound now → (now ≡ above) ⊎ IsFound now
still_found IsFound before now above was (inl same) = subst (λ n. (n ≡ above) ⊎ IsFound n) (sym same) was
still_found IsFound before now above was (inr found) = inr found

-- what was passed so far, and the next source
pub still_passed : (items : List Source) (time : ℕ → ℕ) (place before now : ℕ) (none : Source) → place < length items → now ≤ before → ((other : ℕ) (source : Source) → other < place → (get_or items other source).departure < time (get_or items other source).node → before ≤ (get_or items other source).node) → ((get_or items place none).departure < time (get_or items place none).node → now ≤ (get_or items place none).node) → (other : ℕ) (source : Source) → other < place + 1 → (get_or items other source).departure < time (get_or items other source).node → now ≤ (get_or items other source).node
still_passed items time place before now none inside lower was here other source below sooner = elim (eqb_tells other place) [
  | inl same ↦
      let one = get_or_default items place none source inside in
      rw same.1 (subst (λ (s : Source). now ≤ s.node) one (here (subst (λ (s : Source). s.departure < time s.node) (sym one) (rw same.1 at sooner))))
  | inr differs ↦ omega (arith, was other source (omega (arith, differs.1)) sooner)
]
