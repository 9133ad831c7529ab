use Rattle.std.proofs.Common.{◌≡◌, ◌∙◌, ap, sym, ℕ, List, subst, rules}
use Rattle.ea_check.specs.Paths.{IsPassed}
use Rattle.std.proofs.lemmas.Bool.{false≢true}
use Rattle.std.specs.Prelude.{Some}
use Rattle.ea_check.specs.Verdicts.{Said, IsSaid}
use Rattle.ea_check.specs.WalksLeft.{written}
use Rattle.ea_check.proofs.Backwards.{followable}
use Rattle.ea_check.proofs.Judged.{attained_by, faults_astray, faults_no_level, faults_other_walk, linked_canonical, low_level, next_node, read_level, right_alone, right_linked, right_unreached, time_within}
use Rattle.ea_check.proofs.judge.verdict.other_at.Goals as goal

pub returns-then-time-clause-other : goal.returns-then-time-clause-other
returns-then-time-clause-other g c =
    right_unreached c.args.network.now _ (g.T.TravelTimes.classes c.args.times.now) c.args.query.now.sources c.args.reported.now c.requires.problem.task (g.met.T.TravelTimes.fifo c.args.times.now) c.requires.problem.formed c.args.node (sym c.time-time.ensures ∙ c.if-time.true)

pub returns-then-links-node-clause-other : goal.returns-then-links-node-clause-other
returns-then-links-node-clause-other g c =
    let read = read_level c.args.network.now _ (g.T.TravelTimes.classes c.args.times.now) c.args.query.now.sources c.args.reported.now c.requires.problem.task (g.met.T.TravelTimes.fifo c.args.times.now) c.requires.problem.formed c.args.links.now c.requires.problem.are_links c.args.node c.requires.node in
    faults_no_level c.args.network.now _ (g.T.TravelTimes.classes c.args.times.now) c.args.query.now.sources c.args.reported.now c.requires.problem.task (g.met.T.TravelTimes.fifo c.args.times.now) c.requires.problem.formed c.args.links.now c.requires.problem.are_links c.args.node c.requires.node c.line.result (λ none. c.if-time.false (c.time-time.ensures ∙ none)) (sym read ∙ c.if-links-node.true) c.line.ensures

pub returns-in_default-clause-other : goal.returns-in_default-clause-other
returns-in_default-clause-other g c =
    let read = read_level c.args.network.now _ (g.T.TravelTimes.classes c.args.times.now) c.args.query.now.sources c.args.reported.now c.requires.problem.task (g.met.T.TravelTimes.fifo c.args.times.now) c.requires.problem.formed c.args.links.now c.requires.problem.are_links c.args.node c.requires.node in
    right_alone c.args.network.now _ (g.T.TravelTimes.classes c.args.times.now) c.args.query.now.sources c.args.reported.now c.requires.problem.task (g.met.T.TravelTimes.fifo c.args.times.now) c.requires.problem.formed c.args.links.now c.requires.problem.are_links c.args.node c.requires.node (λ none. c.if-links-node.false (read ∙ none))
    (λ said is_said. (c.in_ok-walk.ensures.read c.args.reported.now c.args.node said c.requires.compares.left is_said).1 ∙ ap (λ line. written line c.read_next.new.self.arcs.items) c.in_default.is)

pub leads_to-requires-clause-walk : goal.leads_to-requires-clause-walk
leads_to-requires-clause-walk g c =
    let read = read_level c.args.network.now _ (g.T.TravelTimes.classes c.args.times.now) c.args.query.now.sources c.args.reported.now c.requires.problem.task (g.met.T.TravelTimes.fifo c.args.times.now) c.requires.problem.formed c.args.links.now c.requires.problem.are_links c.args.node c.requires.node in
    record {
      is_node = search rules;
      followable = followable c.args.network.now _ c.args.query.now.sources _ c.args.links.now c.requires.problem.task.network c.requires.problem.are_links;
      level = low_level c.args.network.now _ (g.T.TravelTimes.classes c.args.times.now) c.args.query.now.sources c.args.reported.now c.requires.problem.task (g.met.T.TravelTimes.fifo c.args.times.now) c.requires.problem.formed c.args.links.now c.requires.problem.are_links c.args.node c.requires.node (λ none. c.if-links-node.false (read ∙ none));
    }

pub returns-then-branch-clause-other : goal.returns-then-branch-clause-other
returns-then-branch-clause-other g c =
    let read = read_level c.args.network.now _ (g.T.TravelTimes.classes c.args.times.now) c.args.query.now.sources c.args.reported.now c.requires.problem.task (g.met.T.TravelTimes.fifo c.args.times.now) c.requires.problem.formed c.args.links.now c.requires.problem.are_links c.args.node c.requires.node in
    let writes : (said : Said) → IsSaid c.args.reported.now c.args.node said → said.walk ≡ Some (record { line = c.in-Some.line; arcs = c.read_next.new.self.arcs.items }) = λ said is_said.
    (c.in_ok-walk.ensures.read c.args.reported.now c.args.node said c.requires.compares.left is_said).1 ∙ ap (λ line. written line c.read_next.new.self.arcs.items) c.in-Some.is in
    right_linked c.args.network.now _ (g.T.TravelTimes.classes c.args.times.now) c.args.query.now.sources c.args.reported.now c.requires.problem.task (g.met.T.TravelTimes.fifo c.args.times.now) c.requires.problem.formed c.args.links.now c.requires.problem.are_links c.args.node c.requires.node c.in-Some.line c.read_next.new.self.arcs.items (λ none. c.if-time.false (c.time-time.ensures ∙ none)) (λ none. c.if-links-node.false (read ∙ none)) writes (sym c.deref.ensures.value ∙ c.in_ok-leads_to.ensures.same.0 c.if-branch.true)

pub attains-requires-clause-time : goal.attains-requires-clause-time
attains-requires-clause-time g c =
    rw c.time-time.ensures (time_within c.args.network.now _ (g.T.TravelTimes.classes c.args.times.now) c.args.query.now.sources c.args.reported.now c.requires.problem.task (g.met.T.TravelTimes.fifo c.args.times.now) c.requires.problem.formed c.args.node c.requires.node (λ none. c.if-time.false (c.time-time.ensures ∙ none)))

pub returns-then-attains-clause-other : goal.returns-then-attains-clause-other
returns-then-attains-clause-other g c =
    let read = read_level c.args.network.now _ (g.T.TravelTimes.classes c.args.times.now) c.args.query.now.sources c.args.reported.now c.requires.problem.task (g.met.T.TravelTimes.fifo c.args.times.now) c.requires.problem.formed c.args.links.now c.requires.problem.are_links c.args.node c.requires.node in
    let writes : (said : Said) → IsSaid c.args.reported.now c.args.node said → said.walk ≡ Some (record { line = c.in-Some.line; arcs = c.read_next.new.self.arcs.items }) = λ said is_said.
    (c.in_ok-walk.ensures.read c.args.reported.now c.args.node said c.requires.compares.left is_said).1 ∙ ap (λ line. written line c.read_next.new.self.arcs.items) c.in-Some.is in
    let attains = c.attains.ensures.0 c.if-attains.true in (
      attained_by c.args.network.now _ (g.T.TravelTimes.classes c.args.times.now) c.args.query.now.sources c.args.reported.now c.requires.problem.task (g.met.T.TravelTimes.fifo c.args.times.now) c.requires.problem.formed c.args.links.now c.requires.problem.are_links c.args.node c.requires.node c.in-Some.line c.read_next.new.self.arcs.items (λ none. c.if-links-node.false (read ∙ none)) writes (rw (sym c.time-time.ensures, sym c.deref-2.ensures.value) attains),
      faults_other_walk c.args.network.now _ (g.T.TravelTimes.classes c.args.times.now) c.args.query.now.sources c.args.reported.now c.requires.problem.task (g.met.T.TravelTimes.fifo c.args.times.now) c.requires.problem.formed c.args.links.now c.requires.problem.are_links c.args.node c.requires.node c.in-Some.line c.read_next.new.self.arcs.items writes (λ canonical. false≢true (sym c.if-branch.false ∙ c.in_ok-leads_to.ensures.same.1 (c.deref.ensures.value ∙ linked_canonical c.args.network.now _ (g.T.TravelTimes.classes c.args.times.now) c.args.query.now.sources c.args.reported.now c.requires.problem.task (g.met.T.TravelTimes.fifo c.args.times.now) c.requires.problem.formed c.args.links.now c.requires.problem.are_links c.args.node c.requires.node c.read_next.new.self.arcs.items (λ none. c.if-links-node.false (read ∙ none)) canonical))),
    )

pub returns-else-attains-clause-other : goal.returns-else-attains-clause-other
returns-else-attains-clause-other g c =
    let read = read_level c.args.network.now _ (g.T.TravelTimes.classes c.args.times.now) c.args.query.now.sources c.args.reported.now c.requires.problem.task (g.met.T.TravelTimes.fifo c.args.times.now) c.requires.problem.formed c.args.links.now c.requires.problem.are_links c.args.node c.requires.node in
    let writes : (said : Said) → IsSaid c.args.reported.now c.args.node said → said.walk ≡ Some (record { line = c.in-Some.line; arcs = c.read_next.new.self.arcs.items }) = λ said is_said.
    (c.in_ok-walk.ensures.read c.args.reported.now c.args.node said c.requires.compares.left is_said).1 ∙ ap (λ line. written line c.read_next.new.self.arcs.items) c.in-Some.is in
    faults_astray c.args.network.now _ (g.T.TravelTimes.classes c.args.times.now) c.args.query.now.sources c.args.reported.now c.requires.problem.task (g.met.T.TravelTimes.fifo c.args.times.now) c.requires.problem.formed c.args.links.now c.requires.problem.are_links c.args.node c.requires.node c.in-Some.line c.read_next.new.self.arcs.items (λ none. c.if-links-node.false (read ∙ none)) writes (λ attains. false≢true (sym c.if-attains.false ∙ c.attains.ensures.1 (rw (c.time-time.ensures, c.deref-2.ensures.value) attains)))

pub leads_to-requires-clause-passed : goal.leads_to-requires-clause-passed
leads_to-requires-clause-passed g c =
    subst (λ (arcs : List ℕ). IsPassed c.args.links.now arcs c.keep.new.self.nodes.items c.keep.new.self.known) (sym c.deref.ensures.value) (c.keep.ensures c.args.links.now c.args.walks.now.reader.arcs.items c.read_next.new.self.arcs.items c.in_ok-walk.ensures.shared c.requires.compares.passed)

pub returns-then-time-clause-compares : goal.returns-then-time-clause-compares
returns-then-time-clause-compares g c = record {
  left = next_node c.args.network.now _ (g.T.TravelTimes.classes c.args.times.now) c.args.query.now.sources c.args.reported.now c.requires.problem.task (g.met.T.TravelTimes.fifo c.args.times.now) c.requires.problem.formed c.args.node c.requires.node _ _ _ c.requires.compares.left c.in_ok-walk.ensures.read;
  passed = c.keep.ensures c.args.links.now c.args.walks.now.reader.arcs.items c.read_next.new.self.arcs.items c.in_ok-walk.ensures.shared c.requires.compares.passed;
}

pub returns-in_default-clause-compares : goal.returns-in_default-clause-compares
returns-in_default-clause-compares g c = record {
  left = next_node c.args.network.now _ (g.T.TravelTimes.classes c.args.times.now) c.args.query.now.sources c.args.reported.now c.requires.problem.task (g.met.T.TravelTimes.fifo c.args.times.now) c.requires.problem.formed c.args.node c.requires.node _ _ _ c.requires.compares.left c.in_ok-walk.ensures.read;
  passed = c.keep.ensures c.args.links.now c.args.walks.now.reader.arcs.items c.read_next.new.self.arcs.items c.in_ok-walk.ensures.shared c.requires.compares.passed;
}

pub returns-then-branch-clause-compares : goal.returns-then-branch-clause-compares
returns-then-branch-clause-compares g c = record {
  left = next_node c.args.network.now _ (g.T.TravelTimes.classes c.args.times.now) c.args.query.now.sources c.args.reported.now c.requires.problem.task (g.met.T.TravelTimes.fifo c.args.times.now) c.requires.problem.formed c.args.node c.requires.node _ _ _ c.requires.compares.left c.in_ok-walk.ensures.read;
  passed = search rules;
}

pub returns-then-attains-clause-compares : goal.returns-then-attains-clause-compares
returns-then-attains-clause-compares g c = record {
  left = next_node c.args.network.now _ (g.T.TravelTimes.classes c.args.times.now) c.args.query.now.sources c.args.reported.now c.requires.problem.task (g.met.T.TravelTimes.fifo c.args.times.now) c.requires.problem.formed c.args.node c.requires.node _ _ _ c.requires.compares.left c.in_ok-walk.ensures.read;
  passed = search rules;
}
