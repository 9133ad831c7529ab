use Rattle.std.proofs.Common.{◌≡◌, ◌∙◌, List, [], ◌∷◌, ◌++◌, All, sym, ap, arith, subst, slice_index_or}
use Rattle.test_engine.proofs.ran.run_with.Given as given
use Rattle.test_engine.proofs.ran.run_with.Goals as goal

-- what holds of the one element of a list
all_one : {X : Type 0} (P : X → Type 0) (x : X) (xs : List X) → xs ≡ x ∷ [] → P x → All P xs
all_one {X} P x xs is h =
    subst (λ ys. All P ys) (sym is) (λ k d lt. let z : k ≡ 0 = omega (arith, lt) in subst (λ n. P (slice_index_or (x ∷ []) n d)) (sym z) h)

pub run-requires-clause-tracers : goal.run-requires-clause-tracers
run-requires-clause-tracers g c κs within =
    all_one (given.T-IsAlwaysCallable g) c.args.tracer c.push-2.new.self.items (c.in_ok-push-2.ensures.items ∙ ap (λ xs. xs ++ c.args.tracer ∷ []) c.new-tracers.ensures.items) c.requires
