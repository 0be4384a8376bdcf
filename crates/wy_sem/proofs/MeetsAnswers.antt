-- The test of a precondition answers as it should.
use Rattle.std.proofs.Common.{◌≡◌, refl, sym, ◌∙◌, ℕ, ◌+◌, List, [], ◌∷◌, Bool, true, false, length}
use Rattle.std.specs.Prelude.{None, nat_eq}
use Rattle.std.proofs.lemmas.Bool.{eqb-true, eq-eqb}
use Rattle.wy_term.specs.wy_value.Datum.{Datum}
use Rattle.wy_types.specs.wy_core.CoreTree.{Expr, Alias, Routine, Param, Core, aliases_of, routines_of}
use Rattle.wy_sem.specs.Meter.{Meter, Outcome, Done, Fault, More, Spent, Run, ◌>>=◌}
use Rattle.wy_sem.specs.Expressions.{Store, holds}
use Rattle.wy_sem.specs.TypeTests.{clause_setting}
use Rattle.wy_sem.specs.Membership.{is_member, is_yes}
use Rattle.wy_sem.specs.Evaluation.{Callee, Declared, Print, PrintInt, Undeclared, callee, entry_of, start}
use Rattle.wy_sem.specs.Precondition.{Verdict, Met, CountFails, TypeFails, RequiresFails, passed, requires_met, types_met, callee_met, AreMembers, AreTrue, RoutineMeets, CalleeMeets, MetIsExact}
use Rattle.wy_sem.proofs.MemberAnswers.{member-says, holds-says}

-- where the run has an answer, it is Met exactly where this holds
record Tells (r : Run Verdict) (Holds : Type 0) : Type 0 where
  tells : (m : Meter) (v : Verdict) (k : Meter) → r m ≡ Done v k → (v ≡ Met → Holds) × (Holds → v ≡ Met)

-- the first question has a yes or a no, and the others are asked after a yes
tells-passed : (o : Outcome Bool) (b : Bool) (wrong : Verdict) (next : Run Verdict) (Rest : Type 0) → (wrong ≡ Met → ⊥) → ((x : Bool) (k : Meter) → o ≡ Done x k → x ≡ b) → Tells next Rest
    → (v : Verdict) (k : Meter) → (o >>= (λ y. passed y wrong next)) ≡ Done v k → (v ≡ Met → (b ≡ true) × Rest) × ((b ≡ true) × Rest → v ≡ Met)
tells-passed (Done true m) b wrong next Rest bad h p v k e = let same : true ≡ b = h true m refl in let rest : (v ≡ Met → Rest) × (Rest → v ≡ Met) = p.tells m v k e in
    ((λ g. (sym same, rest.0 g)), (λ g. rest.1 g.1))
tells-passed (Done false m) b wrong next Rest bad h p v k e = let same : false ≡ b = h false m refl in let is : wrong ≡ v = cc in
    ((λ g. absurd (bad (is ∙ g))), (λ g. let no : b ≡ true = g.0 in absurd (cc)))
tells-passed (Fault kind at m) b wrong next Rest bad h p v k e = absurd (cc)
tells-passed (More m) b wrong next Rest bad h p v k e = absurd (cc)
tells-passed Spent b wrong next Rest bad h p v k e = absurd (cc)

module _ {N : Type 0} (place : N → ℕ) (types : List (Alias N)) where
  requires-tells : (es : List (Expr N)) (s : Store) (n : ℕ) → Tells (requires_met (clause_setting place None types) es s n) (AreTrue (clause_setting place None types) es s)
  requires-tells [] s n = record { tells = λ m v k e. ((λ g. tt), (λ g. cc)) }
  requires-tells (e ∷ es) s n = record {
    tells = λ m v k h. tells-passed _ (is_yes (holds (clause_setting place None types) e s (start 0))) (RequiresFails n) _ (AreTrue (clause_setting place None types) es s) (λ g. cc)
        (λ x j i. holds-says place types e s m x j i) (requires-tells es s (n + 1)) v k h;
  }

  types-tell : (ps : List Param) (vs : List Datum) (n : ℕ) (next : Run Verdict) (Rest : Type 0) → Tells next Rest → Tells (types_met place None types ps vs n next) (AreMembers place types ps vs × Rest)
  types-tell [] vs n next Rest p = record { tells = λ m v k e. let rest : (v ≡ Met → Rest) × (Rest → v ≡ Met) = p.tells m v k e in ((λ g. (tt, rest.0 g)), (λ g. rest.1 g.1)) }
  types-tell (a ∷ ps) [] n next Rest p = record { tells = λ m v k e. let rest : (v ≡ Met → Rest) × (Rest → v ≡ Met) = p.tells m v k e in ((λ g. (tt, rest.0 g)), (λ g. rest.1 g.1)) }
  types-tell (a ∷ ps) (d ∷ vs) n next Rest p = record {
    tells = λ m v k e.
        let both : (v ≡ Met → (is_member place types d a.ty ≡ true) × (AreMembers place types ps vs × Rest)) × ((is_member place types d a.ty ≡ true) × (AreMembers place types ps vs × Rest) → v ≡ Met)
        = tells-passed _ (is_member place types d a.ty) (TypeFails n) _ (AreMembers place types ps vs × Rest) (λ g. cc) (λ x j i. member-says place types a.ty d m x j i) (types-tell ps vs (n + 1) next Rest p) v k e in
        ((λ g. let all : (is_member place types d a.ty ≡ true) × (AreMembers place types ps vs × Rest) = both.0 g in ((all.0, all.1.0), all.1.1)), (λ g. both.1 (g.0.0, (g.0.1, g.1))));
  }

  count-tells : (r : Routine N) (vs : List Datum) (b : Bool) → nat_eq (length vs) (length r.params) ≡ b → (v : Verdict) (k : Meter)
      → passed b CountFails (types_met place None types r.params vs 1 (requires_met (clause_setting place None types) r.preconditions (entry_of r vs) 1)) (start 0) ≡ Done v k
      → (v ≡ Met → RoutineMeets place types r vs) × (RoutineMeets place types r vs → v ≡ Met)
  count-tells r vs true e v k h =
      let all : (v ≡ Met → AreMembers place types r.params vs × AreTrue (clause_setting place None types) r.preconditions (entry_of r vs)) × (AreMembers place types r.params vs × AreTrue (clause_setting place None types) r.preconditions (entry_of r vs) → v ≡ Met)
      = (types-tell r.params vs 1 _ _ (requires-tells r.preconditions (entry_of r vs) 1)).tells (start 0) v k h in
      ((λ g. record { count = eqb-true (length vs) (length r.params) e; members = (all.0 g).0; requires_hold = (all.0 g).1 }), (λ g. all.1 (g.members, g.requires_hold)))
  count-tells r vs false e v k h = let is : CountFails ≡ v = cc in
      ((λ g. absurd (cc)), (λ g. let no : nat_eq (length vs) (length r.params) ≡ true = eq-eqb (length vs) (length r.params) g.count in absurd (cc)))

  callee-tells : (g : Callee N) (vs : List Datum) (v : Verdict) (k : Meter) → callee_met place None types g vs (start 0) ≡ Done v k → (v ≡ Met → CalleeMeets place types g vs) × (CalleeMeets place types g vs → v ≡ Met)
  callee-tells (Declared r) vs v k h = count-tells r vs (nat_eq (length vs) (length r.params)) refl v k h
  callee-tells Print vs v k h = let is : CountFails ≡ v = cc in ((λ g. absurd (cc)), (λ g. absurd g))
  callee-tells PrintInt vs v k h = let is : CountFails ≡ v = cc in ((λ g. absurd (cc)), (λ g. absurd g))
  callee-tells Undeclared vs v k h = let is : CountFails ≡ v = cc in ((λ g. absurd (cc)), (λ g. absurd g))

-- the test says Met exactly where the arguments meet the function
pub met_is_exact : {N : Type 0} (place : N → ℕ) (core : Core N) (f : ℕ) (vs : List Datum) → MetIsExact place core f vs
met_is_exact place core f vs v m e = callee-tells place (aliases_of core) (callee (routines_of core) f) vs v m e
