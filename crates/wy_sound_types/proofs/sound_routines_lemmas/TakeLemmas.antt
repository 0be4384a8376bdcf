-- Calls of a typed program are taken as the law of depths asks.
use Rattle.std.proofs.Common.{◌≡◌, ℕ, zero, suc, List, [], ◌∷◌, length, Bool, false, true, Option, refl, sym, subst}
use Rattle.wy_value.specs.Datum.{Datum}
use Rattle.wy_core.specs.Types.{Ty}
use Rattle.wy_core.specs.CoreTree.{Routine, Decl, AliasDecl, RoutineDecl, Core, routines_of}
use Rattle.wy_sem.specs.Evaluation.{Callee, Declared, Print, PrintInt, Undeclared, callee}
use Rattle.wy_sound_statements.specs.wy_vc_spec.Numbered.{Node, numbered_core}
use Rattle.wy_sound_statements.specs.wy_vc_spec.Walks.{Program}
use Rattle.wy_sound_statements.specs.wy_vc_spec.Programs.{program_of, alias_conditions, contract_conditions, body_conditions, decl_conditions, decls_conditions}
use Rattle.wy_sound_statements.specs.wy_sound_walks.expressions.Truth.{AreTrueBy}
use Rattle.wy_sound_statements.proofs.wy_sound_walks_proofs.expressions_lemmas.GoodLemmas.{true_left, true_right}
use Rattle.wy_types.specs.Names.{names_in}
use Rattle.wy_sound_statements.specs.wy_flow_spec.typing.Programs.{types_of}
use Rattle.wy_sound_statements.specs.wy_sound_kinds.Ready.{Rules}
use Rattle.wy_sound_statements.specs.wy_sound_kinds.Kinds.{AreIn}
use Rattle.wy_sound_statements.specs.calls.CallLaws.{ArgumentsFit, ClausesFit}
use Rattle.wy_sound_types.specs.members.Laws.{told_by}
use Rattle.wy_sound_types.proofs.members_lemmas.ToldLemmas.{told}
use Rattle.wy_sound_types.specs.Laws.{TypesHold}
use Rattle.wy_sound_types.proofs.RankLemmas.{tests_right, checks_are_right}
use Rattle.wy_sound_types.proofs.RoutineLemmas.{contracts_fit}
use Rattle.wy_sound_types.specs.sound_routines.Entries.{ParamsApart}
use Rattle.wy_sound_types.specs.sound_routines.Depths.{setting_at, Taken}
use Rattle.wy_sound_types.specs.sound_routines.Takes.{TakesWell, TypedCallsAreTaken}
use Rattle.wy_sound_types.proofs.sound_routines_lemmas.ParamLemmas.{parameters_in}

-- what a routine owes is true: its contract, and its body
record OwesTrue (p : Program Node) (members : ℕ → Datum → Bool) (n : Routine Node) : Type 0 where
  contract : AreTrueBy members (contract_conditions p n)
  body : AreTrueBy members (body_conditions p n)

declared_same : (x n : Routine Node) → ◌≡◌ {A = Callee Node} (Declared x) (Declared n) → x ≡ n
declared_same x n e = cc

no_print : (n : Routine Node) → ◌≡◌ {A = Callee Node} Print (Declared n) → ⊥
no_print n e = absurd cc

no_int : (n : Routine Node) → ◌≡◌ {A = Callee Node} PrintInt (Declared n) → ⊥
no_int n e = absurd cc

no_other : (n : Routine Node) → ◌≡◌ {A = Callee Node} Undeclared (Declared n) → ⊥
no_other n e = absurd cc

owes_true : (p : Program Node) (members : ℕ → Datum → Bool) (ds : List (Decl Node)) → AreTrueBy members (decls_conditions p ds) → (f : ℕ) (n : Routine Node) → callee (routines_of ds) f ≡ Declared n → OwesTrue p members n
owes_true p members [] h zero n e = absurd (no_print n e)
owes_true p members [] h (suc zero) n e = absurd (no_int n e)
owes_true p members [] h (suc (suc f)) n e = absurd (no_other n e)
owes_true p members (AliasDecl a ∷ ds) h f n e = owes_true p members ds (true_right members (alias_conditions p a a.variable) (decls_conditions p ds) h) f n e
owes_true p members (RoutineDecl x ∷ ds) h zero n e =
    let own = true_left members (decl_conditions p (RoutineDecl x)) (decls_conditions p ds) h in
    subst (OwesTrue p members) (declared_same x n e) (record { contract = true_left members (contract_conditions p x) (body_conditions p x) own; body = true_right members (contract_conditions p x) (body_conditions p x) own })
owes_true p members (RoutineDecl x ∷ ds) h (suc f) n e = owes_true p members ds (true_right members (decl_conditions p (RoutineDecl x)) (decls_conditions p ds) h) f n e

module _ (core : Core ℕ) (flow : List Ty) (members : ℕ → Datum → Bool) (h : TypesHold core flow members) (place : Node → ℕ) (limit : Option ℕ) (takes : ℕ → List Datum → Bool) (r : Rules) (well : TakesWell core flow members place limit takes r) where
  abbrev p : Program Node
  p = program_of (numbered_core core) flow

  one : (f : ℕ) (vs : List Datum) (n : Routine Node) → takes f vs ≡ true → callee (routines_of (numbered_core core)) f ≡ Declared n → Taken place limit (numbered_core core) p members takes n vs
  one f vs n taken is =
      let st = well.stands f n is in
      let args = well.arguments f vs n taken is in
      let owed = owes_true p members (numbered_core core) h.conditions f n is in
      record {
        count = args.0;
        arguments = subst (λ (x : Routine Node). ArgumentsFit (told_by core flow) members x.params vs) (sym st.is)
            (contracts_fit.arguments core flow members h.types (length st.routine.variables) st.routine.params vs (subst (λ (x : Routine Node). length vs ≡ length x.params) st.is args.0) st.typed.among args.1 (subst (λ (x : Routine Node). AreIn (names_in core) (types_of x.params) vs) st.is args.2));
        last = parameters_in.last n.params vs args.0;
        params = λ inside. parameters_in.inside members n vs (subst (λ (x : Routine Node). ParamsApart (length x.variables) x.params) (sym st.is) st.apart) args.0 inside;
        fits = λ depth.
            subst (λ (x : Routine Node). ClausesFit (setting_at place limit (numbered_core core) depth) (told_by core flow) members x vs) (sym st.is)
            (contracts_fit.clauses core flow members h.types r well.written (setting_at place limit (numbered_core core) depth)
            (λ t d m b. tests_right core flow members h place limit (suc (length (told_by core flow).types)) false t d m b)
            st.routine st.before st.typed vs (subst (λ (x : Routine Node). length vs ≡ length x.params) st.is args.0) args.1 (subst (λ (x : Routine Node). AreIn (names_in core) (types_of x.params) vs) st.is args.2));
        contract = owed.contract;
        keeps = λ depth handled safe. well.bodies f vs n depth taken is owed.body handled safe;
      }

pub calls_taken : TypedCallsAreTaken
calls_taken core flow members h place limit takes r well = record {
  routines = refl;
  told = told core flow members h.types.bound h.types.recursion h.types.meet;
  checks = checks_are_right core flow members h place limit;
  declared = λ f vs n taken is. one core flow members h place limit takes r well f vs n taken is;
  texts = well.texts;
  numbers = well.numbers;
  others = well.others;
}
