-- If clap takes the words, each required name of a file is present.
use Rattle.std.proofs.Common.{◌≡◌, ◌∙◌, ◌<◌, ◌≤◌, ◌&&◌, ℕ, Bool, true, false, not, zero, suc, refl, sym, ap, subst, arith, true≢false, inl, inr, List, [], ◌∷◌, map, length, Option, Some, None, is_some}
use Rattle.std.proofs.lemmas.List.{get_or-map, length-map}
use Rattle.std.proofs.lemmas.Slice.Eq.{bytes_eq-Decides}
use Rattle.std.specs.List.{All, slice_index_or}
use Rattle.std.specs.Prelude.{codes}
use Rattle.std.specs.Str.{bytes_eq}
use Rattle.clap.specs.Built.{IsParsedFrom, IsPlain, IsPlainArg}
use Rattle.clap.specs.Facts.{args_of, least_values, unwrap_or_range}
use Rattle.clap.specs.Faults.{has_free_rules}
use Rattle.clap.specs.Matches.{found_of}
use Rattle.clap.specs.Simple.{Shape, has_simple_rules, new_rule, shape_of}
use Rattle.clap.specs.Walk.{Rule, Text, is_free_arg, is_simple_arg, rows_of, rule_of}
use Rattle.clap.specs.Words.{first_of, first_value}
use Rattle.clap.specs.declared.builder.action.ArgAction.TheVariants.{Set}
use Rattle.clap.specs.declared.builder.arg.Arg.{Arg}
use Rattle.clap.specs.declared.builder.command.Command.{Command}
use Rattle.clap.specs.declared.parser.matches.ArgMatches.{ArgMatches}
use Rattle.clap.proofs.CallerLemmas.{required_has_value}
use Rattle.clap.proofs.SimpleLemmas.{is_false, is_nil, plain_fields}
use Rattle.clap.proofs.TakesLemmas.{each_rule}
use Rattle.clap.proofs.WalkLemmas.{both, first_value-rows}

is_none : {X : Type 0} (o : Option X) → not (is_some o) ≡ true → o ≡ None
is_none None e = refl
is_none (Some x) e = absurd (true≢false (sym e))

differs : (id text : Text) → bytes_eq id text ≡ false → id ≡ text → ⊥
differs id text unlike same = true≢false (sym ((bytes_eq-Decides id text).1 same) ∙ unlike)

-- An argument without settings that exclude others or cut its values.
plain_arg : (a : Arg) → is_simple_arg a ≡ true → is_free_arg a ≡ true → IsPlainArg a × (a.val_delim ≡ None)
plain_arg a simple free =
    let p = both _ _ simple in
    let q = both _ _ p.1 in
    let r = both _ _ q.1 in
    let s = both _ _ r.1 in
    let x = both _ _ free in
    let y = both _ _ x.1 in
    ((is_false _ x.0, is_nil _ y.0, is_nil _ p.0, is_nil _ r.0), is_none _ s.0)

plain_args : (c : Command) → has_simple_rules (shape_of c) ≡ true → has_free_rules (shape_of c) ≡ true → All (λ (a : Arg). IsPlainArg a × (a.val_delim ≡ None)) (args_of c)
plain_args c simple free = λ k d lt.
    plain_arg (slice_index_or (args_of c) k d) (each_rule (λ a. a.is_simple) (args_of c) (both _ _ simple).1 k d lt) (each_rule (λ a. a.is_free) (args_of c) free k d lt)

plain_command : (c : Command) → has_simple_rules (shape_of c) ≡ true → has_free_rules (shape_of c) ≡ true → IsPlain c
plain_command c simple free = ((λ k d lt. (plain_args c simple free k d lt).0), (plain_fields c (both _ _ simple).0).groups)

-- No rule but the one at a place has this id.
abbrev pub has_other_ids : Text → List Rule → Bool
has_other_ids id [] = true
has_other_ids id (rule ∷ rules) = not (bytes_eq rule.id id) && has_other_ids id rules

abbrev pub is_alone : ℕ → Text → List Rule → Bool
is_alone k id [] = false
is_alone zero id (rule ∷ rules) = has_other_ids id rules
is_alone (suc k) id (rule ∷ rules) = not (bytes_eq rule.id id) && is_alone k id rules

other : (rules : List Rule) (id : Text) → has_other_ids id rules ≡ true → (j : ℕ) (e : Rule) → j < length rules
    → bytes_eq (slice_index_or rules j e).id id ≡ true → ⊥
other [] id others j e lt same = omega arith
other (rule ∷ rules) id others zero e lt same = true≢false (sym same ∙ is_false _ (both _ _ others).0)
other (rule ∷ rules) id others (suc j) e lt same = other rules id (both _ _ others).1 j e (omega arith) same

alone : (rules : List Rule) (k : ℕ) (id : Text) → is_alone k id rules ≡ true → (j : ℕ) (e : Rule) → j < length rules
    → bytes_eq (slice_index_or rules j e).id id ≡ true → j ≡ k
alone [] k id only j e lt same = absurd (omega arith)
alone (rule ∷ rules) zero id only zero e lt same = refl
alone (rule ∷ rules) zero id only (suc j) e lt same = absurd (other rules id only j e (omega arith) same)
alone (rule ∷ rules) (suc k) id only zero e lt same = absurd (true≢false (sym same ∙ is_false _ (both _ _ only).0))
alone (rule ∷ rules) (suc k) id only (suc j) e lt same = ap suc (alone rules k id (both _ _ only).1 j e (omega arith) same)

-- The rule at a place requires one value, with an id that no other rule has.
pub record IsWanted (rules : List Rule) (k : ℕ) (id : Text) : Type 0 where
  pub there : k < length rules
  pub named : (slice_index_or rules k (new_rule [])).id ≡ id
  pub required : (slice_index_or rules k (new_rule [])).required ≡ true
  pub action : (slice_index_or rules k (new_rule [])).action ≡ Some Set
  pub range : (slice_index_or rules k (new_rule [])).range ≡ None
  pub alone : is_alone k id rules ≡ true
  pub not_empty : bytes_eq id [] ≡ false
  pub not_help : bytes_eq id (codes "help") ≡ false
  pub not_version : bytes_eq id (codes "version") ≡ false

-- A command whose arguments are simple, with no rule on another, and which always requires its names.
pub record IsStrict (shape : Shape) : Type 0 where
  pub simple : has_simple_rules shape ≡ true
  pub free : has_free_rules shape ≡ true
  pub asks : shape.subcommand_negates_reqs ≡ false

has_name_at : (c : Command) (m : ArgMatches) (k : ℕ) (id : Text) (d : Arg) → IsParsedFrom c m → IsStrict (shape_of c)
    → IsWanted (shape_of c).rules k id → k < length (args_of c) → is_some (first_of id (rows_of (found_of m))) ≡ true
has_name_at c m k id d parsed strict wanted lt =
    let xs = args_of c in
    let rules = map rule_of xs in
    let a = slice_index_or xs k d in
    let rule_is : slice_index_or rules k (new_rule []) ≡ rule_of a = get_or-map rule_of xs k d (new_rule []) lt in
    let id_is : a.id.now ≡ id = sym (ap (λ (r : Rule). r.id) rule_is) ∙ wanted.named in
    let required : a.required ≡ true = sym (ap (λ (r : Rule). r.required) rule_is) ∙ wanted.required in
    let action : a.action ≡ Some Set = sym (ap (λ (r : Rule). r.action) rule_is) ∙ wanted.action in
    let range : a.num_vals ≡ None = sym (ap (λ (r : Rule). r.range) rule_is) ∙ wanted.range in
    let delimiter : a.val_delim ≡ None = (plain_args c strict.simple strict.free k d lt).1 in
    let least : 1 ≤ least_values a = subst (λ o. 1 ≤ (unwrap_or_range o).start_inclusive) (sym range) (omega arith) in
    let unique : (j : ℕ) (e : Arg) → j < length xs → bytes_eq (slice_index_or xs j e).id.now a.id.now ≡ true → j ≡ k =
    λ j e low same.
    let at : slice_index_or rules j (rule_of e) ≡ rule_of (slice_index_or xs j e) = get_or-map rule_of xs j e (rule_of e) low in
    alone rules k id wanted.alone j (rule_of e) (omega (arith, length-map xs rule_of))
    (ap (λ (r : Rule). bytes_eq r.id id) at ∙ (ap (λ t. bytes_eq (slice_index_or xs j e).id.now t) (sym id_is) ∙ same)) in
    let fields = plain_fields c (both _ _ strict.simple).0 in
    let has = required_has_value c m parsed (plain_command c strict.simple strict.free) fields.globals strict.asks k d lt required action delimiter least unique
    (λ empty. differs id [] wanted.not_empty (sym id_is ∙ empty))
    (λ auto. elim auto [ inl h ↦ differs id (codes "help") wanted.not_help (sym id_is ∙ h) | inr h ↦ differs id (codes "version") wanted.not_version (sym id_is ∙ h) ]) in
    ap is_some (sym (first_value-rows (found_of m) id)) ∙ subst (λ t. is_some (first_value (found_of m) t) ≡ true) id_is has

pub has_name : (c : Command) (m : ArgMatches) (k : ℕ) (id : Text) → IsParsedFrom c m → IsStrict (shape_of c)
    → IsWanted (shape_of c).rules k id → is_some (first_of id (rows_of (found_of m))) ≡ true
has_name c m k id parsed strict wanted = go (args_of c) refl
  where
    go : (xs : List Arg) → args_of c ≡ xs → is_some (first_of id (rows_of (found_of m))) ≡ true
    go [] none =
        let short : k < 0 = subst (λ (ys : List Arg). k < length (map rule_of ys)) none wanted.there in
        absurd (omega arith)
    go (d ∷ xs) some = has_name_at c m k id d parsed strict wanted (omega (arith, wanted.there, length-map (args_of c) rule_of))
