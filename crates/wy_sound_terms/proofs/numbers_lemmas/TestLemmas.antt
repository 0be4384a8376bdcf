-- Types whose clauses have numbers, and tests of them.
use Rattle.std.proofs.Common.{◌≡◌, ℕ, zero, suc, ◌+◌, List, [], ◌∷◌, length, Bool, true, false, ◌||◌, Option, Some, None, refl, sym, ap, ap₂, ◌∙◌}
use mathlib.Core.Path.{fun_ext}
use Rattle.wy_term_subst.specs.wy_value.Datum.{Datum}
use Rattle.wy_vc_spec.specs.wy_core.Types.{Ty}
use Rattle.wy_vc_spec.specs.wy_core.CoreTree.{Expr, Alias, Decl, AliasDecl, RoutineDecl, aliases_of}
use Rattle.wy_vc_spec.specs.wy_sem.Meter.{Meter, Outcome, Run, ◌>>=◌, choose}
use Rattle.wy_vc_spec.specs.wy_sem.Operations.{as_truth}
use Rattle.wy_vc_spec.specs.wy_sem.Expressions.{Store, Setting, no_calls, node, eval}
use Rattle.wy_vc_spec.specs.wy_sem.TypeTests.{Test, answer, alias_at, no_alias, has_clauses, mentions, is_constrained_name, is_constrained, Questions, tested, all_hold, alias_holds, set_if, unset, tests, forgiven, clause_setting, member}
use Rattle.wy_vc_spec.specs.Sizes.{exprs_in}
use Rattle.wy_vc_spec.specs.Numbered.{Node, numbered, numbered_list, numbered_alias, numbered_decl, numbered_decls, exprs_in_decl}
use Rattle.wy_sound_terms.specs.numbers.Numbers.{place_of}
use Rattle.wy_sound_terms.proofs.numbers_lemmas.ExpressionLemmas.{with_numbers, eval_is, place_is}

-- ---- declared types, each with some numbers

-- the same types, of which each has numbers
pub data AreNumbered : List (Alias ℕ) → List (Alias Node) → Type 0 where
  no_types : AreNumbered [] []
  more_types : (a : Alias ℕ) (k : ℕ) {as' : List (Alias ℕ)} {bs : List (Alias Node)} → AreNumbered as' bs → AreNumbered (a ∷ as') (numbered_alias a k ∷ bs)

pub aliases_numbered : (ds : List (Decl ℕ)) (k : ℕ) → AreNumbered (aliases_of ds) (aliases_of (numbered_decls ds k))
aliases_numbered [] k = no_types
aliases_numbered (AliasDecl a ∷ ds) k = more_types a k (aliases_numbered ds (k + exprs_in_decl (AliasDecl a)))
aliases_numbered (RoutineDecl r ∷ ds) k = aliases_numbered ds (k + exprs_in_decl (RoutineDecl r))

pub length_is : {types : List (Alias ℕ)} {others : List (Alias Node)} → AreNumbered types others → length others ≡ length types
length_is no_types = refl
length_is (more_types a k rest) = ap suc (length_is rest)

-- a type is one with some numbers
pub data IsNumbered : Alias ℕ → Alias Node → Type 0 where
  with_number : (a : Alias ℕ) (k : ℕ) → IsNumbered a (numbered_alias a k)

pub alias_numbered : {types : List (Alias ℕ)} {others : List (Alias Node)} → AreNumbered types others → (n : ℕ) → IsNumbered (alias_at types n) (alias_at others n)
alias_numbered no_types n = with_number no_alias 0
alias_numbered (more_types a k rest) zero = with_number a k
alias_numbered (more_types a k rest) (suc n) = alias_numbered rest n

pub ty_is : {a : Alias ℕ} {b : Alias Node} → IsNumbered a b → b.ty ≡ a.ty
ty_is (with_number a k) = refl

clauses_listed : (es : List (Expr ℕ)) (k : ℕ) → has_clauses (numbered_list es k) ≡ has_clauses es
clauses_listed [] k = refl
clauses_listed (e ∷ es) k = refl

has_is : {a : Alias ℕ} {b : Alias Node} → IsNumbered a b → has_clauses b.clauses ≡ has_clauses a.clauses
has_is (with_number a k) = clauses_listed a.clauses k

-- ---- which types have clauses

name_is : {types : List (Alias ℕ)} {others : List (Alias Node)} → AreNumbered types others → (j : ℕ) → is_constrained_name others j ≡ is_constrained_name types j
name_is all zero = refl
name_is {types} {others} all (suc j) = fun_ext (λ n.
    ap₂ (λ (b c : Bool). b || c) (has_is (alias_numbered all n))
    (ap₂ (λ (p : ℕ → Bool) (t : Ty). mentions p t) (name_is all j) (ty_is (alias_numbered all n))))

pub constrained_is : {types : List (Alias ℕ)} {others : List (Alias Node)} → AreNumbered types others → (t : Ty) → is_constrained others t ≡ is_constrained types t
constrained_is {types} {others} all t = ap (λ (i : ℕ). mentions (is_constrained_name others (suc i)) t) (length_is all) ∙ ap (λ (p : ℕ → Bool). mentions p t) (name_is all (suc (length types)))

-- ---- tests

pub all_hold_is : (w : Setting ℕ) (paid : Bool) (es : List (Expr ℕ)) (k : ℕ) (s : Store) → all_hold (with_numbers w) paid (numbered_list es k) s ≡ all_hold w paid es s
all_hold_is w paid [] k s = refl
all_hold_is w paid (e ∷ es) k s =
    ap (λ (at : ℕ). λ m. eval (with_numbers w) paid (numbered e k) s m >>= (λ v. as_truth at v (λ b. choose b (all_hold (with_numbers w) paid (numbered_list es (k + exprs_in e)) s) (answer false)))) (place_is w.place e k)
    ∙ ap₂ (λ (r : Run Datum) (t : Test). λ m. r m >>= (λ v. as_truth (w.place (node e)) v (λ b. choose b t (answer false)))) (eval_is w paid e k s) (all_hold_is w paid es (k + exprs_in e) s)

pub alias_is : (w : Setting ℕ) (paid : Bool) {a : Alias ℕ} {b : Alias Node} → IsNumbered a b → (d : Datum) → alias_holds (with_numbers w) paid b d ≡ alias_holds w paid a d
alias_is w paid (with_number a k) d = all_hold_is w paid a.clauses k (set_if (unset a.variables) a.variable (Some d))

module _ (place : ℕ → ℕ) (limit : Option ℕ) {types : List (Alias ℕ)} {others : List (Alias Node)} (all : AreNumbered types others) where
  -- what a test goes by
  abbrev asks : Bool → ℕ → (ℕ → Ty) → (ℕ → Datum → Test) → Questions
  asks paid bare definition clause = record { paid = paid; limit = limit; definition = definition; bare = bare; clause = clause }

  definitions_are : ◌≡◌ {A = ℕ → Ty} (λ n. (alias_at others n).ty) (λ n. (alias_at types n).ty)
  definitions_are = fun_ext (λ n. ty_is (alias_numbered all n))

  asked_same : (paid : Bool) (clause clause2 : ℕ → Datum → Test) → clause ≡ clause2 → (t : Ty) (d : Datum)
      → tested (asks paid (length others) (λ n. (alias_at others n).ty) clause) d t ≡ tested (asks paid (length types) (λ n. (alias_at types n).ty) clause2) d t
  asked_same paid clause clause2 e t d =
      ap (λ (i : ℕ). tested (asks paid i (λ n. (alias_at others n).ty) clause) d t) (length_is all)
      ∙ ap (λ (f : ℕ → Ty). tested (asks paid (length types) f clause) d t) definitions_are
      ∙ ap (λ (g : ℕ → Datum → Test). tested (asks paid (length types) (λ n. (alias_at types n).ty) g) d t) e

  abbrev clause_of : ℕ → Setting ℕ
  clause_of j = record { place = place; limit = limit; test = tests place limit types j; call = no_calls }

  pub tests_are : (j : ℕ) → tests (place_of place) limit others j ≡ tests place limit types j
  tests_are zero = refl
  tests_are (suc j) = fun_ext (λ paid. fun_ext (λ t. fun_ext (λ d.
      asked_same paid
      (λ n e. alias_holds (record { place = place_of place; limit = limit; test = tests (place_of place) limit others j; call = no_calls }) paid (alias_at others n) e)
      (λ n e. alias_holds (clause_of j) paid (alias_at types n) e)
      (ap (λ (f : Bool → Ty → Datum → Test). λ (n : ℕ) (e : Datum). alias_holds (record { place = place_of place; limit = limit; test = f; call = no_calls }) paid (alias_at others n) e) (tests_are j)
      ∙ fun_ext (λ n. fun_ext (λ e. alias_is (clause_of j) paid (alias_numbered all n) e)))
      t d)))

  pub member_is : (t : Ty) (d : Datum) → member (place_of place) limit others t d ≡ member place limit types t d
  member_is t d =
      asked_same false
      (λ n e m. forgiven (alias_holds (clause_setting (place_of place) limit others) false (alias_at others n) e m))
      (λ n e m. forgiven (alias_holds (clause_setting place limit types) false (alias_at types n) e m))
      (ap (λ (i : ℕ). λ (n : ℕ) (e : Datum) (m : Meter). forgiven (alias_holds (record { place = place_of place; limit = limit; test = tests (place_of place) limit others (suc i); call = no_calls }) false (alias_at others n) e m)) (length_is all)
      ∙ ap (λ (f : Bool → Ty → Datum → Test). λ (n : ℕ) (e : Datum) (m : Meter). forgiven (alias_holds (record { place = place_of place; limit = limit; test = f; call = no_calls }) false (alias_at others n) e m)) (tests_are (suc (length types)))
      ∙ fun_ext (λ n. fun_ext (λ e. ap (λ (r : Test). λ (m : Meter). forgiven (r m)) (alias_is (clause_of (suc (length types))) false (alias_numbered all n) e))))
      t d
