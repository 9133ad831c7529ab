use Rattle.std.proofs.Common.{◌≡◌, ◌∙◌, Bool, ℕ, List, ◌∷◌, [], refl, subst, true, false}
use Rattle.std.proofs.lemmas.Result.{err_from_is_err_and}
use Rattle.ea_bytes.specs.Text.{fields_of, is_silent}
use Rattle.ea_check.specs.Streams.{Leads, TakesLine, behind, last_of}
use Rattle.ea_check.proofs.Streaming.{is_quiet, leads_moved, leads_on, no_line_left, silent_line, spoken_line, stops_on}
use Rattle.ea_check.proofs.form.report_lines.ReportLines.find.Goals as goal

pub returns-in_err-take_line-clause-fault : goal.returns-in_err-take_line-clause-fault
returns-in_err-take_line-clause-fault g c =
    let p = err_from_is_err_and c.from_residual.result c.from_residual.ensures.1 in
    rw (p.1, p.2) (stops_on (λ text next. behind c.args.self.now text ≡ behind c.lines.self next) _ _ _ _ c.lines.self _ c.lines.invariant.leads c.in_err-take_line.ensures.fault)

pub returns-then-speaks-clause-found : goal.returns-then-speaks-clause-found
returns-then-speaks-clause-found g c =
    let before = c.args.self.now in
    let mid = c.lines.self in
    let now = c.take_line.new.self in
    let line = last_of now in
    let speaks : is_silent (fields_of line) ≡ false = subst (λ (t : List ℕ). is_silent (fields_of t) ≡ false) c.last.ensures (c.speaks.ensures.0 c.if-speaks.true) in
    let count = (c.in_ok-take_line.ensures.some c.if-branch.true).0 in
    let taken = subst (λ (b : Bool). Leads (TakesLine b line) (g.R.Device.seen c.lines.device) mid (g.R.Device.seen c.take_line.new.device) now) c.if-branch.true c.in_ok-take_line.ensures.taken in
    leads_moved _ _ (λ text next holds. holds) _ _ before now _ refl refl refl
    (leads_on (λ text next. behind before text ≡ behind mid next) (TakesLine true line) (λ text next. behind before text ≡ record { number = now.count; fields = fields_of line; way = now.way } ∷ behind now next)
    (λ text middle next here there. here ∙ spoken_line mid.way now.way mid.count now.count (fields_of line) middle next c.take_line.ensures.way count speaks there) _ _ _ before mid now c.lines.invariant.leads taken)

pub lines-preserved : goal.lines-preserved
lines-preserved g c =
    let before = c.args.self.now in
    let mid = c.lines.self in
    let now = c.take_line.new.self in
    let line = last_of now in
    let quiet : is_silent (fields_of line) ≡ true = subst (λ (t : List ℕ). is_silent (fields_of t) ≡ true) c.last.ensures (is_quiet c.speaks.result (fields_of c.last.result.now) c.speaks.ensures c.if-speaks.false) in
    let count = (c.in_ok-take_line.ensures.some c.if-branch.true).0 in
    let taken = subst (λ (b : Bool). Leads (TakesLine b line) (g.R.Device.seen c.lines.device) mid (g.R.Device.seen c.take_line.new.device) now) c.if-branch.true c.in_ok-take_line.ensures.taken in
    record {
      ready = c.in_ok-take_line.ensures.ready;
      leads = leads_on (λ text next. behind before text ≡ behind mid next) (TakesLine true line) (λ text next. behind before text ≡ behind now next)
          (λ text middle next here there. here ∙ silent_line mid.way now.way mid.count now.count (fields_of line) middle next c.take_line.ensures.way count quiet there) _ _ _ before mid now c.lines.invariant.leads taken;
    }

pub returns-clause-found : goal.returns-clause-found
returns-clause-found g c =
    let before = c.args.self.now in
    let mid = c.lines.self in
    let now = c.take_line.new.self in
    let line = last_of now in
    let taken = subst (λ (b : Bool). Leads (TakesLine b line) (g.R.Device.seen c.lines.device) mid (g.R.Device.seen c.take_line.new.device) now) c.if-branch.false c.in_ok-take_line.ensures.taken in
    leads_moved _ _ (λ text next holds. holds) _ _ before now _ refl refl refl
    (leads_on (λ text next. behind before text ≡ behind mid next) (TakesLine false line) (λ text next. behind before text ≡ [])
    (λ text middle next here there. here ∙ no_line_left mid.way _ middle there.0) _ _ _ before mid now c.lines.invariant.leads taken)
