use Rattle.std.proofs.Common.{◌≡◌, ◌∙◌, true, false, List, map, subst, sym, refl, Result}
use Rattle.std.specs.Prelude.{IfErr, IfOk, codes}
use Rattle.std.specs.Str.{bytes_eq}
use Rattle.clap.specs.Words.{Text}
use Rattle.ea_options.specs.declared.fault.CommandFault.{CommandFault}
use Rattle.ea_options.specs.declared.options.Command.{Command}
use Rattle.ea_options.specs.Meaning.{Head, run_verb, pairs_verb, rank_verb, check_verb, of_files, of_explain, of_formats, of_none, head_of}
use Rattle.ea_options.specs.Refusals.{AsksAs, IsRefusedBy}
use Rattle.ea_options.proofs.meaning.answer_to.Goals as goal

-- What is known for a head is known for a word with that head.
asked_as : (result : Result Command CommandFault) (words : List Text) (head named : Head) → head ≡ named → IfOk result (AsksAs named words) → IfOk result (AsksAs head words)
asked_as result words head named is = subst (λ (h : Head). IfOk result (AsksAs h words)) (sym is)

refused_by : (result : Result Command CommandFault) (words : List Text) (head named : Head) → head ≡ named → IfErr result (IsRefusedBy named words) → IfErr result (IsRefusedBy head words)
refused_by result words head named is = subst (λ (h : Head). IfErr result (IsRefusedBy h words)) (sym is)

-- A word's head, by its tests in turn.
is_run : (word : Text) → bytes_eq word (codes "run") ≡ true → head_of word ≡ of_files run_verb
is_run word a = rw (a) refl

is_pairs : (word : Text) → bytes_eq word (codes "run") ≡ false → bytes_eq word (codes "pairs") ≡ true → head_of word ≡ of_files pairs_verb
is_pairs word a b = rw (a, b) refl

is_rank : (word : Text) → bytes_eq word (codes "run") ≡ false → bytes_eq word (codes "pairs") ≡ false → bytes_eq word (codes "rank") ≡ true → head_of word ≡ of_files rank_verb
is_rank word a b c = rw (a, b, c) refl

is_check : (word : Text) → bytes_eq word (codes "run") ≡ false → bytes_eq word (codes "pairs") ≡ false → bytes_eq word (codes "rank") ≡ false → bytes_eq word (codes "check") ≡ true → head_of word ≡ of_files check_verb
is_check word a b c d = rw (a, b, c, d) refl

is_explain : (word : Text) → bytes_eq word (codes "run") ≡ false → bytes_eq word (codes "pairs") ≡ false → bytes_eq word (codes "rank") ≡ false → bytes_eq word (codes "check") ≡ false → bytes_eq word (codes "explain") ≡ true → head_of word ≡ of_explain
is_explain word a b c d e = rw (a, b, c, d, e) refl

is_formats : (word : Text) → bytes_eq word (codes "run") ≡ false → bytes_eq word (codes "pairs") ≡ false → bytes_eq word (codes "rank") ≡ false → bytes_eq word (codes "check") ≡ false → bytes_eq word (codes "explain") ≡ false → bytes_eq word (codes "formats") ≡ true → head_of word ≡ of_formats
is_formats word a b c d e f = rw (a, b, c, d, e, f) refl

is_none : (word : Text) → bytes_eq word (codes "run") ≡ false → bytes_eq word (codes "pairs") ≡ false → bytes_eq word (codes "rank") ≡ false → bytes_eq word (codes "check") ≡ false → bytes_eq word (codes "explain") ≡ false → bytes_eq word (codes "formats") ≡ false → head_of word ≡ of_none
is_none word a b c d e f = rw (a, b, c, d, e, f) refl

pub returns-then-eq-clause-ok : goal.returns-then-eq-clause-ok
returns-then-eq-clause-ok g c = asked_as c.run_of_words.result (map g.S.AsStr.text c.args.words.now) (head_of c.args.verb.now) (of_files run_verb) (is_run c.args.verb.now (sym c.eq.ensures ∙ c.if-eq.true)) c.run_of_words.ensures.ok

pub returns-then-eq-clause-err : goal.returns-then-eq-clause-err
returns-then-eq-clause-err g c = refused_by c.run_of_words.result (map g.S.AsStr.text c.args.words.now) (head_of c.args.verb.now) (of_files run_verb) (is_run c.args.verb.now (sym c.eq.ensures ∙ c.if-eq.true)) c.run_of_words.ensures.err

pub returns-then-eq-2-clause-ok : goal.returns-then-eq-2-clause-ok
returns-then-eq-2-clause-ok g c = asked_as c.pairs_of_words.result (map g.S.AsStr.text c.args.words.now) (head_of c.args.verb.now) (of_files pairs_verb) (is_pairs c.args.verb.now (sym c.eq.ensures ∙ c.if-eq.false) (sym c.eq-else-eq.ensures ∙ c.if-eq-2.true)) c.pairs_of_words.ensures.ok

pub returns-then-eq-2-clause-err : goal.returns-then-eq-2-clause-err
returns-then-eq-2-clause-err g c = refused_by c.pairs_of_words.result (map g.S.AsStr.text c.args.words.now) (head_of c.args.verb.now) (of_files pairs_verb) (is_pairs c.args.verb.now (sym c.eq.ensures ∙ c.if-eq.false) (sym c.eq-else-eq.ensures ∙ c.if-eq-2.true)) c.pairs_of_words.ensures.err

pub returns-then-eq-3-clause-ok : goal.returns-then-eq-3-clause-ok
returns-then-eq-3-clause-ok g c = asked_as c.rank_of_words.result (map g.S.AsStr.text c.args.words.now) (head_of c.args.verb.now) (of_files rank_verb) (is_rank c.args.verb.now (sym c.eq.ensures ∙ c.if-eq.false) (sym c.eq-else-eq.ensures ∙ c.if-eq-2.false) (sym c.eq-else-eq-2.ensures ∙ c.if-eq-3.true)) c.rank_of_words.ensures.ok

pub returns-then-eq-3-clause-err : goal.returns-then-eq-3-clause-err
returns-then-eq-3-clause-err g c = refused_by c.rank_of_words.result (map g.S.AsStr.text c.args.words.now) (head_of c.args.verb.now) (of_files rank_verb) (is_rank c.args.verb.now (sym c.eq.ensures ∙ c.if-eq.false) (sym c.eq-else-eq.ensures ∙ c.if-eq-2.false) (sym c.eq-else-eq-2.ensures ∙ c.if-eq-3.true)) c.rank_of_words.ensures.err

pub returns-then-eq-4-clause-ok : goal.returns-then-eq-4-clause-ok
returns-then-eq-4-clause-ok g c = asked_as c.check_of_words.result (map g.S.AsStr.text c.args.words.now) (head_of c.args.verb.now) (of_files check_verb) (is_check c.args.verb.now (sym c.eq.ensures ∙ c.if-eq.false) (sym c.eq-else-eq.ensures ∙ c.if-eq-2.false) (sym c.eq-else-eq-2.ensures ∙ c.if-eq-3.false) (sym c.eq-else-eq-3.ensures ∙ c.if-eq-4.true)) c.check_of_words.ensures.ok

pub returns-then-eq-4-clause-err : goal.returns-then-eq-4-clause-err
returns-then-eq-4-clause-err g c = refused_by c.check_of_words.result (map g.S.AsStr.text c.args.words.now) (head_of c.args.verb.now) (of_files check_verb) (is_check c.args.verb.now (sym c.eq.ensures ∙ c.if-eq.false) (sym c.eq-else-eq.ensures ∙ c.if-eq-2.false) (sym c.eq-else-eq-2.ensures ∙ c.if-eq-3.false) (sym c.eq-else-eq-3.ensures ∙ c.if-eq-4.true)) c.check_of_words.ensures.err

pub returns-then-eq-5-clause-ok : goal.returns-then-eq-5-clause-ok
returns-then-eq-5-clause-ok g c = asked_as c.explain_of_words.result (map g.S.AsStr.text c.args.words.now) (head_of c.args.verb.now) of_explain (is_explain c.args.verb.now (sym c.eq.ensures ∙ c.if-eq.false) (sym c.eq-else-eq.ensures ∙ c.if-eq-2.false) (sym c.eq-else-eq-2.ensures ∙ c.if-eq-3.false) (sym c.eq-else-eq-3.ensures ∙ c.if-eq-4.false) (sym c.eq-else-eq-4.ensures ∙ c.if-eq-5.true)) c.explain_of_words.ensures.ok

pub returns-then-eq-5-clause-err : goal.returns-then-eq-5-clause-err
returns-then-eq-5-clause-err g c = refused_by c.explain_of_words.result (map g.S.AsStr.text c.args.words.now) (head_of c.args.verb.now) of_explain (is_explain c.args.verb.now (sym c.eq.ensures ∙ c.if-eq.false) (sym c.eq-else-eq.ensures ∙ c.if-eq-2.false) (sym c.eq-else-eq-2.ensures ∙ c.if-eq-3.false) (sym c.eq-else-eq-3.ensures ∙ c.if-eq-4.false) (sym c.eq-else-eq-4.ensures ∙ c.if-eq-5.true)) c.explain_of_words.ensures.err

pub returns-then-eq-6-clause-ok : goal.returns-then-eq-6-clause-ok
returns-then-eq-6-clause-ok g c = asked_as c.formats_of_words.result (map g.S.AsStr.text c.args.words.now) (head_of c.args.verb.now) of_formats (is_formats c.args.verb.now (sym c.eq.ensures ∙ c.if-eq.false) (sym c.eq-else-eq.ensures ∙ c.if-eq-2.false) (sym c.eq-else-eq-2.ensures ∙ c.if-eq-3.false) (sym c.eq-else-eq-3.ensures ∙ c.if-eq-4.false) (sym c.eq-else-eq-4.ensures ∙ c.if-eq-5.false) (sym c.eq-else-eq-5.ensures ∙ c.if-eq-6.true)) c.formats_of_words.ensures.ok

pub returns-then-eq-6-clause-err : goal.returns-then-eq-6-clause-err
returns-then-eq-6-clause-err g c = refused_by c.formats_of_words.result (map g.S.AsStr.text c.args.words.now) (head_of c.args.verb.now) of_formats (is_formats c.args.verb.now (sym c.eq.ensures ∙ c.if-eq.false) (sym c.eq-else-eq.ensures ∙ c.if-eq-2.false) (sym c.eq-else-eq-2.ensures ∙ c.if-eq-3.false) (sym c.eq-else-eq-3.ensures ∙ c.if-eq-4.false) (sym c.eq-else-eq-4.ensures ∙ c.if-eq-5.false) (sym c.eq-else-eq-5.ensures ∙ c.if-eq-6.true)) c.formats_of_words.ensures.err

pub returns-else-eq-6-clause-err : goal.returns-else-eq-6-clause-err
returns-else-eq-6-clause-err g c = subst (λ (h : Head). IsRefusedBy h (map g.S.AsStr.text c.args.words.now) c.refusal_of_words.result) (sym (is_none c.args.verb.now (sym c.eq.ensures ∙ c.if-eq.false) (sym c.eq-else-eq.ensures ∙ c.if-eq-2.false) (sym c.eq-else-eq-2.ensures ∙ c.if-eq-3.false) (sym c.eq-else-eq-3.ensures ∙ c.if-eq-4.false) (sym c.eq-else-eq-4.ensures ∙ c.if-eq-5.false) (sym c.eq-else-eq-5.ensures ∙ c.if-eq-6.false))) c.refusal_of_words.ensures
