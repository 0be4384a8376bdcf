-- Each type of a typed program is typed behind the expressions before it.
use Rattle.std.proofs.Common.{◌≡◌, ◌<◌, ℕ, zero, suc, ◌+◌, List, [], ◌∷◌, length, Some, refl, sym, ap, ◌∙◌, subst, arith}
use Rattle.std.specs.Prelude.{slice_get}
use Rattle.wy_core.specs.Types.{Ty}
use Rattle.wy_core.specs.CoreTree.{Expr, Alias, Decl, AliasDecl, RoutineDecl, aliases_of}
use Rattle.wy_flow_spec.specs.typing.Outcomes.{Gives}
use Rattle.wy_flow_spec.specs.typing.Contexts.{Program}
use Rattle.wy_flow_spec.specs.typing.Programs.{program_of, AliasTyped, DeclsTyped}
use Rattle.wy_sound_programs.specs.wy_sem.TypeTests.{alias_at, has_clauses}
use Rattle.wy_sound_programs.specs.wy_vc_spec.Numbered.{numbered_alias, numbered_list, numbered_decls, exprs_in_decl}
use Rattle.wy_sound_programs.proofs.wy_sound_kinds_proofs.TypeLemmas.{then_gives, given_is}
use Rattle.wy_sound_programs.specs.wy_sound_kinds.suits.Laws.{Begins}
use Rattle.wy_sound_programs.proofs.wy_sound_kinds_proofs.suits_lemmas.FlowLemmas.{FlowAll, begins_self, begins_more}
use Rattle.wy_sound_types.specs.Tests.{HaveVariables}
use Rattle.wy_sound.specs.typing.Sources.{NumberedHaveVariables}
use Rattle.wy_sound.specs.typing.Typed.{AliasesAreTyped}
use Rattle.wy_sound.proofs.typing_lemmas.FlowLemmas.{IsWell, decl_flow}

-- ---- with numbers

same_clauses : (es : List (Expr ℕ)) (k : ℕ) → has_clauses (numbered_list es k) ≡ has_clauses es
same_clauses [] k = refl
same_clauses (e ∷ es) k = refl

numbered_have : (ds : List (Decl ℕ)) (k : ℕ) → HaveVariables (aliases_of ds) → HaveVariables (aliases_of (numbered_decls ds k))
numbered_have [] k h b = h b
numbered_have (AliasDecl a ∷ ds) k h zero = h zero ∙ sym (same_clauses a.clauses k)
numbered_have (AliasDecl a ∷ ds) k h (suc b) = numbered_have ds (k + exprs_in_decl (AliasDecl a)) (λ c. h (suc c)) b
numbered_have (RoutineDecl r ∷ ds) k h b = numbered_have ds (k + exprs_in_decl (RoutineDecl r)) h b

pub numbered_types_have : NumberedHaveVariables
numbered_types_have core flow h = numbered_have core 0 h

-- ---- declarations in order

-- the first declaration has a variable if it has clauses
pub first_well : (d : Decl ℕ) (ds : List (Decl ℕ)) → HaveVariables (aliases_of (d ∷ ds)) → IsWell d
first_well (AliasDecl a) ds h = h zero
first_well (RoutineDecl r) ds h = tt

-- and so have the others
pub rest_have : (d : Decl ℕ) (ds : List (Decl ℕ)) → HaveVariables (aliases_of (d ∷ ds)) → HaveVariables (aliases_of ds)
rest_have (AliasDecl a) ds h b = h (suc b)
rest_have (RoutineDecl r) ds h b = h b

-- the types behind declarations begin with those before
pub decls_begin : (p : Program) (ds : List (Decl ℕ)) (before out : List Ty) → HaveVariables (aliases_of ds) → DeclsTyped p ds before (Gives out) → Begins before out
decls_begin p [] before out has h = subst (Begins before) (sym (given_is out before h)) (begins_self before)
decls_begin p (d ∷ ds) before out has h =
    let t = then_gives _ _ out h in
    begins_more before t.0 out (decl_flow p d before t.0 (first_well d ds has) t.1).begins (decls_begin p ds t.0 out (rest_have d ds has) t.2)

-- the numbers behind a declaration are those of the types behind it
pub counted_on : (k n : ℕ) (before out : List Ty) → k ≡ length before → FlowAll n before out → k + n ≡ length out
counted_on k n before out is f = let c = f.counted in omega (arith, is, c)

-- ---- types

-- the type with this number, whose clauses are typed behind those before
record One (p : Program) (ds : List (Decl ℕ)) (k : ℕ) (flow : List Ty) (b : ℕ) : Type 0 where
  pub alias : Alias ℕ
  pub stands : slice_get (aliases_of ds) b ≡ Some alias
  pub before : List Ty
  pub behind : List Ty
  pub is : alias_at (aliases_of (numbered_decls ds k)) b ≡ numbered_alias alias (length before)
  pub typed : AliasTyped p alias before alias.variable (Gives behind)
  pub begins : Begins behind flow

one_of : (p : Program) (ds : List (Decl ℕ)) (k : ℕ) (before flow : List Ty) → k ≡ length before → HaveVariables (aliases_of ds) → DeclsTyped p ds before (Gives flow) → (b : ℕ) → b < length (aliases_of (numbered_decls ds k)) → One p ds k flow b
one_of p [] k before flow is has h b less = absurd (omega (arith, less))
one_of p (AliasDecl a ∷ ds) k before flow is has h zero less =
    let t = then_gives _ _ flow h in
    record { alias = a; stands = refl; before = before; behind = t.0; is = ap (numbered_alias a) is; typed = t.1; begins = decls_begin p ds t.0 flow (rest_have (AliasDecl a) ds has) t.2 }
one_of p (AliasDecl a ∷ ds) k before flow is has h (suc b) less =
    let t = then_gives _ _ flow h in
    let f = decl_flow p (AliasDecl a) before t.0 (has zero) t.1 in
    let u = one_of p ds (k + exprs_in_decl (AliasDecl a)) t.0 flow (counted_on k (exprs_in_decl (AliasDecl a)) before t.0 is f) (rest_have (AliasDecl a) ds has) t.2 b (omega (arith, less)) in
    record { alias = u.alias; stands = u.stands; before = u.before; behind = u.behind; is = u.is; typed = u.typed; begins = u.begins }
one_of p (RoutineDecl r ∷ ds) k before flow is has h b less =
    let t = then_gives _ _ flow h in
    let f = decl_flow p (RoutineDecl r) before t.0 tt t.1 in
    let u = one_of p ds (k + exprs_in_decl (RoutineDecl r)) t.0 flow (counted_on k (exprs_in_decl (RoutineDecl r)) before t.0 is f) has t.2 b less in
    record { alias = u.alias; stands = u.stands; before = u.before; behind = u.behind; is = u.is; typed = u.typed; begins = u.begins }

pub aliases_typed : AliasesAreTyped
aliases_typed core flow h has b less =
    let u = one_of (program_of core) core 0 [] flow refl has h b less in
    record { alias = u.alias; stands = u.stands; before = u.before; behind = u.behind; is = u.is; typed = u.typed; begins = u.begins }
