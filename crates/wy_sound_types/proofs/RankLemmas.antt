-- Tests of types answer as types say, since the clauses of a type test deeper types alone.
use Rattle.std.proofs.Common.{◌≡◌, ℕ, zero, suc, List, [], ◌∷◌, length, Bool, true, false, Option, refl, sym, subst}
use Rattle.wy_value.specs.Datum.{Datum}
use Rattle.wy_core.specs.Types.{Ty}
use Rattle.wy_core.specs.CoreTree.{Decl, AliasDecl, RoutineDecl, Core, aliases_of}
use Rattle.wy_core.specs.formed.Offers.{offers_of}
use Rattle.wy_sem.specs.Meter.{choose}
use Rattle.wy_sem.specs.TypeTests.{Questions, answer, alias_at, alias_holds, forgiven, tests, member}
use Rattle.wy_sound_statements.specs.wy_vc_spec.Numbered.{Node, numbered_core}
use Rattle.wy_sound_statements.specs.wy_vc_spec.Values.{Setting, named_in}
use Rattle.wy_sound_statements.specs.wy_vc_spec.Walks.{Program}
use Rattle.wy_sound_statements.specs.wy_vc_spec.Programs.{alias_conditions, decl_conditions, decls_conditions, program_of}
use Rattle.wy_sound_statements.specs.wy_sound_walks.expressions.Truth.{AreTrueBy}
use Rattle.wy_sound_statements.specs.wy_sound_walks.expressions.Types.{is_in}
use Rattle.wy_sound_statements.specs.wy_sound_walks.expressions.Laws.{NamesTold}
use Rattle.wy_sound_statements.proofs.wy_sound_walks_proofs.expressions_lemmas.GoodLemmas.{true_left, true_right}
use Rattle.wy_sound_statements.specs.wy_sound_walks.expressions.Suits.{Answers}
use Rattle.wy_sound_statements.specs.wy_sound_kinds.Bounded.{IsBounded}
use Rattle.wy_sound_types.specs.members.Denotations.{alias_denotes}
use Rattle.wy_sound_types.specs.Tests.{TestsTell, setting_to}
use Rattle.wy_sound_types.specs.members.Laws.{told_by}
use Rattle.wy_sound_types.specs.Laws.{TypesHold, TestsAreRight, ChecksAreRight}
use Rattle.wy_sound_types.proofs.members_lemmas.ToldLemmas.{AliasWritten, alias_written, told, defined_is}
use Rattle.wy_sound_types.proofs.TestLemmas.{Tells, tells_forgiven, tested_tells}
use Rattle.wy_sound_types.proofs.AliasLemmas.{alias_tells}

-- what the clauses of each type owe is true
alias_true : (p : Program Node) (members : ℕ → Datum → Bool) (ds : List (Decl Node)) → AreTrueBy members (decls_conditions p ds) → (b : ℕ) → AreTrueBy members (alias_conditions p (alias_at (aliases_of ds) b) (alias_at (aliases_of ds) b).variable)
alias_true p members [] h b = tt
alias_true p members (AliasDecl a ∷ ds) h zero = true_left members (alias_conditions p a a.variable) (decls_conditions p ds) h
alias_true p members (AliasDecl a ∷ ds) h (suc b) = alias_true p members ds (true_right members (alias_conditions p a a.variable) (decls_conditions p ds) h) b
alias_true p members (RoutineDecl r ∷ ds) h b = alias_true p members ds (true_right members (decl_conditions p (RoutineDecl r)) (decls_conditions p ds) h) b

module _ (core : Core ℕ) (flow : List Ty) (members : ℕ → Datum → Bool) (h : TypesHold core flow members) (place : Node → ℕ) (limit : Option ℕ) where
  abbrev s : Setting Node
  s = told_by core flow

  names_told : NamesTold members (named_in s)
  names_told = told core flow members h.types.bound h.types.recursion h.types.meet

  abbrev says : ℕ → Datum → Bool
  says b d = alias_denotes members s.is_number (alias_at s.types b) d

  pub clause_tells : (depth : ℕ) (paid : Bool) → TestsTell members (tests place limit s.types depth paid) → (b : ℕ) (d : Datum) → IsBounded d → is_in members (alias_at s.types b).ty d ≡ true
      → Tells (says b d) (alias_holds (setting_to place limit s.types depth) paid (alias_at s.types b) d)
  clause_tells depth paid right b d bounded inside =
      let a = alias_at s.types b in
      let written : AliasWritten a = alias_written (offers_of core) core h.types.bound 0 b in
      record {
        tells = λ m.
            alias_tells (setting_to place limit s.types depth) paid (program_of (numbered_core core) flow) members names_told a written.ty written.clauses d inside a.variable (h.types.variables b)
            (alias_true (program_of (numbered_core core) flow) members (numbered_core core) h.conditions b) (λ y e. h.clauses place limit depth paid right b y e d bounded inside) m;
      }

  abbrev questions : ℕ → Bool → Questions
  questions depth paid = record {
    paid = paid;
    limit = limit;
    definition = (λ n. (alias_at s.types n).ty);
    bare = length s.types;
    clause = (λ n e. alias_holds (setting_to place limit s.types depth) paid (alias_at s.types n) e);
  }

  pub tests_right : (depth : ℕ) (paid : Bool) → TestsTell members (tests place limit s.types depth paid)
  tests_right zero paid t d m bounded = tt
  tests_right (suc depth) paid t d m bounded =
      (tested_tells (questions depth paid) members says (λ c e. defined_is core flow members h.types.bound h.types.recursion h.types.meet c e) (λ c e b inside. clause_tells depth paid (tests_right depth paid) c e b inside) d bounded t).tells m

  abbrev forgiving : Questions
  forgiving = record {
    paid = false;
    limit = limit;
    definition = (λ n. (alias_at s.types n).ty);
    bare = length s.types;
    clause = (λ n e m. forgiven (alias_holds (setting_to place limit s.types (suc (length s.types))) false (alias_at s.types n) e m));
  }

  member_right : TestsTell members (member place limit s.types)
  member_right t d m bounded =
      (tested_tells forgiving members says (λ c e. defined_is core flow members h.types.bound h.types.recursion h.types.meet c e)
      (λ c e b inside. tells_forgiven (alias_holds (setting_to place limit s.types (suc (length s.types))) false (alias_at s.types c) e) (says c e) (clause_tells (suc (length s.types)) false (tests_right (suc (length s.types)) false) c e b inside)) d bounded t).tells m

pub are_right : TestsAreRight
are_right = record {
  tests = λ core flow members h place limit depth paid t d m bounded. tests_right core flow members h place limit depth paid t d m bounded;
  member = λ core flow members h place limit t d m bounded. member_right core flow members h place limit t d m bounded;
}

pub checks_are_right : ChecksAreRight
checks_are_right core flow members h place limit = record {
  asked = λ t d m bounded e.
      subst (λ (c : Bool). Answers (is_in members t d) (choose c (member place limit (told_by core flow).types t d) (answer true) m)) (sym e) (member_right core flow members h place limit t d m bounded);
  free = λ t d m bounded e. subst (λ (c : Bool). Answers true (choose c (member place limit (told_by core flow).types t d) (answer true) m)) (sym e) refl;
}
