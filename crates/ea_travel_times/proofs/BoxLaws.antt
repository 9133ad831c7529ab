-- A box has the fact of a profile if the closure in it has. A caller's proof at `Profile::new` cites this with the
-- entry of its closure in the function's own table, and then proves the fact of the closure's own clauses.
use Rattle.std.proofs.Common.{ℕ, ◌≡◌, refl, sym, subst}
use mir.Syntax.{Dict}
use denote.Param.Callables.{Sure}
use denote.Param.Members.{Mut}
use denote.Param.Object.{Made, read_made}
use denote.Param.Table.{Table}
use Rattle.ea_travel_times.specs.ProfileLists.{IsFifoProfile}

abbrev Question : Type 0
Question = ℕ × (ℕ × Unit {0})

module _ (T : Table (λ X. Mut X Question ℕ) Dict) (at i : T.I) (boxed : (T.entry i).0.Denot) (closure : (T.entry at).0.Denot)
    (made : Made (λ j. (T.entry j).0.coded.code) (T.entry at).0.coded.code at i boxed closure) where
  asks : (weight departure : ℕ) → (T.entry at).1.pre closure (weight, (departure, tt)) → Sure ((T.entry i).1.pre boxed (weight, (departure, tt)))
  asks weight departure may =
      ∣ subst (λ (P : Type 0). P) (sym (read_made T (T.entry at) at refl (Type 0) (λ j v. j.1.pre v (weight, (departure, tt))) i boxed closure made)) may ∣₁

  same : (weight departure arrival : ℕ) → (T.entry i).1.post boxed (weight, (departure, tt)) arrival ≡ (T.entry at).1.post closure (weight, (departure, tt)) arrival
  same weight departure arrival = read_made T (T.entry at) at refl (Type 0) (λ j v. j.1.post v (weight, (departure, tt)) arrival) i boxed closure made

  told : (weight departure arrival : ℕ) → (T.entry i).1.post boxed (weight, (departure, tt)) arrival → (T.entry at).1.post closure (weight, (departure, tt)) arrival
  told weight departure arrival = subst (λ (P : Type 0). P) (same weight departure arrival)

  pub box_is_fifo :
      IsFifoProfile (λ weight departure. (T.entry at).1.pre closure (weight, (departure, tt))) (λ weight departure arrival. (T.entry at).1.post closure (weight, (departure, tt)) arrival) →
      IsFifoProfile (λ weight departure. Sure ((T.entry i).1.pre boxed (weight, (departure, tt)))) (λ weight departure arrival. (T.entry i).1.post boxed (weight, (departure, tt)) arrival)
  box_is_fifo function = record {
    may_ask = λ weight departure asked. asks weight departure (function.may_ask weight departure asked);
    has_answer = λ weight departure asked.
        let answer = function.has_answer weight departure asked in
        (answer.0, subst (λ (P : Type 0). P) (sym (same weight departure answer.0)) answer.1);
    not_before = λ weight departure arrival asked answer. function.not_before weight departure arrival asked (told weight departure arrival answer);
    in_order = λ weight departure later arrival next asked asked_later answer other order.
        function.in_order weight departure later arrival next asked asked_later (told weight departure arrival answer) (told weight later next other) order;
  }
