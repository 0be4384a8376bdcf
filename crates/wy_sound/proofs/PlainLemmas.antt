-- What is asked of arguments and said of results is the same where expressions have numbers.
use Rattle.std.proofs.Common.{◌≡◌, ℕ, zero, suc, ◌+◌, List, [], ◌∷◌, length, Bool, false, None, sym, ap, ◌∙◌}
use mathlib.Core.Path.{fun_ext}
use Rattle.wy_value.specs.Datum.{Datum}
use Rattle.wy_core.specs.Types.{Ty}
use Rattle.wy_core.specs.CoreTree.{Expr, Alias, Routine, Decl, AliasDecl, RoutineDecl, Core, aliases_of, routines_of}
use Rattle.wy_sound_programs.specs.wy_sem.Expressions.{Store, Setting, no_calls, holds}
use Rattle.wy_sound_programs.specs.wy_sem.TypeTests.{Test, alias_at, alias_holds, tests, clause_setting}
use Rattle.wy_sound_programs.specs.wy_sem.Membership.{Meaning, is_in, is_yes, clauses_true, is_member}
use Rattle.wy_sound_programs.specs.wy_sem.Precondition.{AreTrue}
use Rattle.wy_sound_programs.specs.wy_sem.Evaluation.{Callee, Declared, Print, PrintInt, Undeclared, callee, start}
use Rattle.wy_sound_programs.specs.wy_vc_spec.Sizes.{exprs_in}
use Rattle.wy_sound_programs.specs.wy_vc_spec.Numbered.{Node, numbered, numbered_list, numbered_routine, numbered_decls, exprs_in_decl, numbered_core}
use Rattle.wy_sound_programs.specs.wy_sound_terms.numbers.Numbers.{place_of}
use Rattle.wy_sound_programs.proofs.wy_sound_terms_proofs.numbers_lemmas.ExpressionLemmas.{with_numbers, holds_is}
use Rattle.wy_sound_programs.proofs.wy_sound_terms_proofs.numbers_lemmas.TestLemmas.{AreNumbered, aliases_numbered, length_is, alias_numbered, tests_are, ty_is, alias_is}

-- ---- what a number calls

same_declared : (a b : Routine ℕ) → ◌≡◌ {A = Callee ℕ} (Declared a) (Declared b) → a ≡ b
same_declared a b e = cc

no_print : {X : Type 0} (r : Routine ℕ) → ◌≡◌ {A = Callee ℕ} Print (Declared r) → X
no_print r e = absurd cc

no_int : {X : Type 0} (r : Routine ℕ) → ◌≡◌ {A = Callee ℕ} PrintInt (Declared r) → X
no_int r e = absurd cc

no_other : {X : Type 0} (r : Routine ℕ) → ◌≡◌ {A = Callee ℕ} Undeclared (Declared r) → X
no_other r e = absurd cc

pub callee_numbered : (ds : List (Decl ℕ)) (k f : ℕ) (r : Routine ℕ) → callee (routines_of ds) f ≡ Declared r → (j : ℕ) × (callee (routines_of (numbered_decls ds k)) f ≡ Declared (numbered_routine r j))
callee_numbered [] k zero r e = no_print r e
callee_numbered [] k (suc zero) r e = no_int r e
callee_numbered [] k (suc (suc f)) r e = no_other r e
callee_numbered (AliasDecl a ∷ ds) k f r e = callee_numbered ds (k + exprs_in_decl (AliasDecl a)) f r e
callee_numbered (RoutineDecl x ∷ ds) k zero r e = (k, ap (λ (y : Routine ℕ). Declared (numbered_routine y k)) (same_declared x r e))
callee_numbered (RoutineDecl x ∷ ds) k (suc f) r e = callee_numbered ds (k + exprs_in_decl (RoutineDecl x)) f r e

-- ---- types with numbers

-- ---- contracts

module _ (place : ℕ → ℕ) (core : Core ℕ) where
  abbrev types : List (Alias ℕ)
  types = aliases_of core

  abbrev others : List (Alias Node)
  others = aliases_of (numbered_core core)

  all : AreNumbered types others
  all = aliases_numbered core 0

  abbrev setting_with : (Bool → Ty → Datum → Test) → Setting ℕ
  setting_with test = record { place = place; limit = None; test = test; call = no_calls }

  setting_is : clause_setting (place_of place) None others ≡ with_numbers (clause_setting place None types)
  setting_is =
      ap (λ (i : ℕ). with_numbers (setting_with (tests (place_of place) None others (suc i)))) (length_is all)
      ∙ ap (λ (test : Bool → Ty → Datum → Test). with_numbers (setting_with test)) (tests_are place None all (suc (length types)))

  holding_is : (e : Expr ℕ) (k : ℕ) (s : Store) → holds (clause_setting (place_of place) None others) (numbered e k) s ≡ holds (clause_setting place None types) e s
  holding_is e k s = ap (λ (w : Setting Node). holds w (numbered e k) s) setting_is ∙ holds_is (clause_setting place None types) e k s

  yes_is : (e : Expr ℕ) (k : ℕ) (s : Store) → is_yes (holds (clause_setting (place_of place) None others) (numbered e k) s (start 0)) ≡ is_yes (holds (clause_setting place None types) e s (start 0))
  yes_is e k s = ap (λ (r : Test). is_yes (r (start 0))) (holding_is e k s)

  pub true_numbered : (es : List (Expr ℕ)) (k : ℕ) (s : Store) → AreTrue (clause_setting place None types) es s → AreTrue (clause_setting (place_of place) None others) (numbered_list es k) s
  true_numbered [] k s h = tt
  true_numbered (e ∷ es) k s h = (yes_is e k s ∙ h.0, true_numbered es (k + exprs_in e) s h.1)

  pub true_plain : (es : List (Expr ℕ)) (k : ℕ) (s : Store) → AreTrue (clause_setting (place_of place) None others) (numbered_list es k) s → AreTrue (clause_setting place None types) es s
  true_plain [] k s h = tt
  true_plain (e ∷ es) k s h = (sym (yes_is e k s) ∙ h.0, true_plain es (k + exprs_in e) s h.1)

  -- ---- membership

  abbrev meaning : (ℕ → Ty) → ℕ → (ℕ → Datum → Bool) → Meaning
  meaning definition bare clause = record { definition = definition; bare = bare; clause = clause }

  clauses_are : clauses_true (place_of place) others ≡ clauses_true place types
  clauses_are = fun_ext (λ n. fun_ext (λ d.
      ap (λ (w : Setting Node). is_yes (alias_holds w false (alias_at others n) d (start 0))) setting_is
      ∙ ap (λ (r : Test). is_yes (r (start 0))) (alias_is (clause_setting place None types) false (alias_numbered all n) d)))

  pub member_same : (d : Datum) (t : Ty) → is_member (place_of place) others d t ≡ is_member place types d t
  member_same d t =
      ap (λ (f : ℕ → Ty). is_in (meaning f (length others) (clauses_true (place_of place) others)) d t) (fun_ext (λ n. ty_is (alias_numbered all n)))
      ∙ ap (λ (i : ℕ). is_in (meaning (λ n. (alias_at types n).ty) i (clauses_true (place_of place) others)) d t) (length_is all)
      ∙ ap (λ (g : ℕ → Datum → Bool). is_in (meaning (λ n. (alias_at types n).ty) (length types) g) d t) clauses_are
