-- Bodies and contracts of formed programs are such as the kinds of expressions ask for.
use Rattle.std.proofs.Common.{◌≡◌, ℕ, ◌+◌, ◌≤◌, List, [], ◌∷◌, Bool, true, false, ◌==◌, Some, None, ℤ, Less, nat_cmp, refl, ap, subst, arith}
use Rattle.std.proofs.lemmas.Bool.{or_right}
use Rattle.std.specs.Cmp.Lexicographic.{slice_cmp, nat_list_cmp_total}
use Rattle.std.specs.List.{AllByRecursion}
use Rattle.std.specs.List.Sorted.{IsStrictlySortedBy}
use Rattle.wy_lemmas.proofs.Choices.{at_most_test as at_most, false_true as no_quiet}
use Rattle.wy_value.specs.Values as values
use Rattle.wy_value.specs.Numbers.{is_int}
use Rattle.wy_value.specs.declared.bounds.TheConstants.{INT_MIN, INT_MAX}
use Rattle.wy_core.specs.CoreTree.{Expr, NullExpr, BoolExpr, IntExpr, VarExpr, CallExpr, NegExpr, NotExpr, LenExpr, BinaryExpr, IsExpr, IndexExpr, FieldExpr, ListExpr, RepeatExpr, RecordExpr, QuantExpr, Exprs, NoExprs, MoreExprs, Fields, NoFields, MoreFields, Step, IndexStep, FieldStep, Stmt, DeclareStmt, AssignStmt, CallStmt, ReturnStmt, AssertStmt, BreakStmt, ContinueStmt, SkipStmt, FailStmt, IfStmt, WhileStmt, Stmts, NoStmts, MoreStmts}
use Rattle.wy_core.specs.formed.Offers.{Offers, IsCall}
use Rattle.wy_core.specs.formed.Bound as bound
use Rattle.wy_core.specs.formed.Bound.{Around, looped, behind, BoundTy, BoundExpr, BoundExprs, BoundFields, BoundClauses, BoundOption, BoundPath, BoundStmt, BoundStmts}
use Rattle.wy_core.specs.formed.Calls.{Nothing, MayCall, CallsExpr, CallsExprs, CallsFields, CallsClauses, CallsStmt, CallsStmts}
use Rattle.wy_core.specs.formed.Literals.{IsInt, IntsExpr, IntsExprs, IntsFields, IntsClauses, IntsPath, IntsStmt, IntsStmts}
use Rattle.wy_core.specs.formed.Sizes.{size, sizes, field_sizes, IsSmall}
use Rattle.wy_core.specs.formed.Wholes.{IsQuiet, AreQuiet, FieldsQuiet, EachArgument, EachClause, EachIndex, EachWhole, EachWholeIn}
use Rattle.wy_sound_statements.specs.wy_sound_kinds.Ready.{with_one, count_of, names_in, Ready, AllReady, FieldsReady}
use Rattle.wy_sound_statements.specs.wy_sound_kinds.fits.Fit.{ClausesReady}
use Rattle.wy_sound_programs.specs.Along.{Allowed}
use Rattle.wy_sound_programs.specs.Made.{all_marked, PathMade, Made, AllMade}
use Rattle.wy_sound_programs.specs.FormedBodies.{Offering, FormedBodiesAreMade}

-- ---- numbers and names

int_made : (z : ℤ) → IsInt z → is_int z ≡ true
int_made z h = rw (at_most INT_MIN z h.least, at_most z INT_MAX h.greatest) refl

below_more : (a b : List ℕ) (ns : List (List ℕ)) → slice_cmp nat_cmp a b ≡ Less → AllByRecursion (λ m. slice_cmp nat_cmp b m ≡ Less) ns → AllByRecursion (λ m. slice_cmp nat_cmp a m ≡ Less) ns
below_more a b [] less h = tt
below_more a b (n ∷ ns) less h = (nat_list_cmp_total.trans a b n less h.0, below_more a b ns less h.1)

-- names that rise one by one rise all
rise_made : (ns : List (List ℕ)) → bound.Rise ns → values.Rise ns
unfolding IsStrictlySortedBy
rise_made [] h = tt
rise_made (n ∷ []) h = (tt, tt)
rise_made (n ∷ m ∷ ns) h = let rest = rise_made (m ∷ ns) h.1 in ((h.0, below_more n m ns h.0 rest.0), rest)

same_names : {N : Type 0} (fs : Fields N) → bound.names_of fs ≡ names_in fs
same_names NoFields = refl
same_names (MoreFields name e fs) = ap (λ (l : List (List ℕ)). name ∷ l) (same_names fs)

same_count : {N : Type 0} (es : Exprs N) → bound.count_of es ≡ count_of es
same_count NoExprs = refl
same_count (MoreExprs e es) = ap (λ (n : ℕ). n + 1) (same_count es)

-- each expression has a node
mutual
  one_node : (e : Expr ℕ) → 1 ≤ size e
  one_node (NullExpr at) = omega arith
  one_node (BoolExpr at b) = omega arith
  one_node (IntExpr at z) = omega arith
  one_node (VarExpr at x) = omega arith
  one_node (CallExpr at f es) = omega arith
  one_node (NegExpr at a) = omega arith
  one_node (NotExpr at a) = omega arith
  one_node (LenExpr at a) = omega arith
  one_node (BinaryExpr at o a b) = omega arith
  one_node (IsExpr at a t) = omega arith
  one_node (IndexExpr at a b) = omega arith
  one_node (FieldExpr at a name) = omega arith
  one_node (ListExpr at es) = omega arith
  one_node (RepeatExpr at a b) = omega arith
  one_node (RecordExpr at fs) = omega arith
  one_node (QuantExpr at all x a b body) = omega arith

  few_nodes : (es : Exprs ℕ) → count_of es ≤ sizes es
  few_nodes NoExprs = omega arith
  few_nodes (MoreExprs e es) = let x = one_node e in let y = few_nodes es in omega (arith, x, y)

-- ---- what calls nothing has quiet quantifiers

mutual
  calm : (e : Expr ℕ) → CallsExpr Nothing e → IsQuiet e
  calm (NullExpr at) h = tt
  calm (BoolExpr at b) h = tt
  calm (IntExpr at z) h = tt
  calm (VarExpr at x) h = tt
  calm (CallExpr at f es) h = all_calm es h.1
  calm (NegExpr at a) h = calm a h
  calm (NotExpr at a) h = calm a h
  calm (LenExpr at a) h = calm a h
  calm (BinaryExpr at o a b) h = (calm a h.0, calm b h.1)
  calm (IsExpr at a t) h = calm a h
  calm (IndexExpr at a b) h = (calm a h.0, calm b h.1)
  calm (FieldExpr at a name) h = calm a h
  calm (ListExpr at es) h = all_calm es h
  calm (RepeatExpr at a b) h = (calm a h.0, calm b h.1)
  calm (RecordExpr at fs) h = fields_calm fs h
  calm (QuantExpr at all x a b body) h = h

  all_calm : (es : Exprs ℕ) → CallsExprs Nothing es → AreQuiet es
  all_calm NoExprs h = tt
  all_calm (MoreExprs e es) h = (calm e h.0, all_calm es h.1)

  fields_calm : (fs : Fields ℕ) → CallsFields Nothing fs → FieldsQuiet fs
  fields_calm NoFields h = tt
  fields_calm (MoreFields name e fs) h = (calm e h.0, fields_calm fs h.1)

module _ (o : Offers) (a : Allowed) (offers : Offering o a) where
  abbrev All : (ℕ → Bool) → Type 0
  All seen = (x : ℕ) → seen x ≡ true

  -- where nothing is called, the Boolean says so
  abbrev IfQuiet : Bool → Type 0 → Type 0
  IfQuiet q P = q ≡ true → P

  one_more : (x : ℕ) (seen : ℕ → Bool) → All seen → All (with_one x seen)
  one_more x seen h y = or_right (x == y) (seen y) (h y)

  may_call : (q : Bool) (f : ℕ) (es : Exprs ℕ) → IfQuiet q (CallsExpr Nothing (CallExpr 0 f es)) → q ≡ false
  may_call false f es h = refl
  may_call true f es h = absurd (h refl).0

  mutual
    made : (q : Bool) (e : Expr ℕ) (vs : bound.Scope) (seen : ℕ → Bool) → All seen → BoundExpr o a.many vs e → IntsExpr e → IsQuiet e → IfQuiet q (CallsExpr Nothing e) → size e ≤ 4096 → Ready a.rules q a.many seen e
    made q (NullExpr at) vs seen all b i quiet calls small = tt
    made q (BoolExpr at c) vs seen all b i quiet calls small = tt
    made q (IntExpr at z) vs seen all b i quiet calls small = int_made z i
    made q (VarExpr at x) vs seen all b i quiet calls small = all x
    made q (CallExpr at f es) vs seen all b i quiet calls small =
        (may_call q f es calls, offers.called f (count_of es) (subst (λ (n : ℕ). IsCall o true f n) (same_count es) b.0), all_made q es vs seen all b.1 i quiet (λ e. (calls e).1) (omega (arith, small)))
    made q (NegExpr at c) vs seen all b i quiet calls small = made q c vs seen all b i quiet calls (omega (arith, small))
    made q (NotExpr at c) vs seen all b i quiet calls small = made q c vs seen all b i quiet calls (omega (arith, small))
    made q (LenExpr at c) vs seen all b i quiet calls small = made q c vs seen all b i quiet calls (omega (arith, small))
    made q (BinaryExpr at op c d) vs seen all b i quiet calls small =
        (made q c vs seen all b.0 i.0 quiet.0 (λ e. (calls e).0) (omega (arith, small)), made q d vs seen all b.1 i.1 quiet.1 (λ e. (calls e).1) (omega (arith, small)))
    made q (IsExpr at c t) vs seen all b i quiet calls small = (offers.tested t b.1, made q c vs seen all b.0 i quiet calls (omega (arith, small)))
    made q (IndexExpr at c d) vs seen all b i quiet calls small =
        (made q c vs seen all b.0 i.0 quiet.0 (λ e. (calls e).0) (omega (arith, small)), made q d vs seen all b.1 i.1 quiet.1 (λ e. (calls e).1) (omega (arith, small)))
    made q (FieldExpr at c name) vs seen all b i quiet calls small = made q c vs seen all b i quiet calls (omega (arith, small))
    made q (ListExpr at es) vs seen all b i quiet calls small = let few = few_nodes es in (omega (arith, small, few), all_made q es vs seen all b i quiet calls (omega (arith, small)))
    made q (RepeatExpr at c d) vs seen all b i quiet calls small =
        (made q c vs seen all b.0 i.0 quiet.0 (λ e. (calls e).0) (omega (arith, small)), made q d vs seen all b.1 i.1 quiet.1 (λ e. (calls e).1) (omega (arith, small)))
    made q (RecordExpr at fs) vs seen all b i quiet calls small = (rise_made (names_in fs) (subst bound.Rise (same_names fs) b.0), fields_made q fs vs seen all b.1 i quiet calls (omega (arith, small)))
    made q (QuantExpr at every x c d body) vs seen all b i quiet calls small = (
      b.0.0,
      made q c vs seen all b.1 i.0 (calm c quiet.0) (λ e. quiet.0) (omega (arith, small)),
      made q d vs seen all b.2 i.1 (calm d quiet.1) (λ e. quiet.1) (omega (arith, small)),
      made true body (x ∷ vs) (with_one x seen) (one_more x seen all) b.3 i.2 (calm body quiet.2) (λ e. quiet.2) (omega (arith, small)),
    )

    all_made : (q : Bool) (es : Exprs ℕ) (vs : bound.Scope) (seen : ℕ → Bool) → All seen → BoundExprs o a.many vs es → IntsExprs es → AreQuiet es → IfQuiet q (CallsExprs Nothing es) → sizes es ≤ 4096 → AllReady a.rules q a.many seen es
    all_made q NoExprs vs seen all b i quiet calls small = tt
    all_made q (MoreExprs e es) vs seen all b i quiet calls small =
        (made q e vs seen all b.0 i.0 quiet.0 (λ c. (calls c).0) (omega (arith, small)), all_made q es vs seen all b.1 i.1 quiet.1 (λ c. (calls c).1) (omega (arith, small)))

    fields_made : (q : Bool) (fs : Fields ℕ) (vs : bound.Scope) (seen : ℕ → Bool) → All seen → BoundFields o a.many vs fs → IntsFields fs → FieldsQuiet fs → IfQuiet q (CallsFields Nothing fs) → field_sizes fs ≤ 4096 → FieldsReady a.rules q a.many seen fs
    fields_made q NoFields vs seen all b i quiet calls small = tt
    fields_made q (MoreFields name e fs) vs seen all b i quiet calls small =
        (made q e vs seen all b.0 i.0 quiet.0 (λ c. (calls c).0) (omega (arith, small)), fields_made q fs vs seen all b.1 i.1 quiet.1 (λ c. (calls c).1) (omega (arith, small)))

  every : All all_marked
  every x = refl

  code : (e : Expr ℕ) (vs : bound.Scope) → BoundExpr o a.many vs e → IntsExpr e → IsQuiet e → IsSmall e → Ready a.rules false a.many all_marked e
  code e vs b i quiet small = made false e vs all_marked every b i quiet (λ q. no_quiet q) small.nodes

  clause : (e : Expr ℕ) (vs : bound.Scope) → BoundExpr o a.many vs e → CallsExpr Nothing e → IntsExpr e → IsSmall e → Ready a.rules true a.many all_marked e
  clause e vs b calls i small = made true e vs all_marked every b i (calm e calls) (λ q. calls) small.nodes

  all_clauses : (es : List (Expr ℕ)) (vs : bound.Scope) → BoundClauses o a.many vs es → CallsClauses Nothing es → IntsClauses es → EachClause IsSmall es → ClausesReady a.rules a.many all_marked es
  all_clauses [] vs b calls i small = tt
  all_clauses (e ∷ es) vs b calls i small = (clause e vs b.0 calls.0 i.0 small.0, all_clauses es vs b.1 calls.1 i.1 small.1)

  arguments : (es : Exprs ℕ) (vs : bound.Scope) → BoundExprs o a.many vs es → IntsExprs es → EachArgument IsQuiet es → EachArgument IsSmall es → AllReady a.rules false a.many all_marked es
  arguments NoExprs vs b i quiet small = tt
  arguments (MoreExprs e es) vs b i quiet small = (code e vs b.0 i.0 quiet.0 small.0, arguments es vs b.1 i.1 quiet.1 small.1)

  path : (steps : List (Step ℕ)) (vs : bound.Scope) → BoundPath o a.many vs steps → IntsPath steps → EachIndex IsQuiet steps → EachIndex IsSmall steps → PathMade a steps
  path [] vs b i quiet small = tt
  path (IndexStep at e ∷ steps) vs b i quiet small = (code e vs b.0 i.0 quiet.0 small.0, path steps vs b.1 i.1 quiet.1 small.1)
  path (FieldStep at name ∷ steps) vs b i quiet small = path steps vs b i quiet small

  mutual
    statement : (st : Stmt ℕ) (around : Around) (vs : bound.Scope) (P : ℕ → Type 0) → BoundStmt o a.many around vs st → CallsStmt P st → IntsStmt st → EachWhole IsQuiet st → EachWhole IsSmall st → Made a st
    statement (DeclareStmt at t x None) around vs P b calls i quiet small = tt
    statement (DeclareStmt at t x (Some e)) around vs P b calls i quiet small = code e vs b.1 i quiet small
    statement (AssignStmt at x steps e) around vs P b calls i quiet small = (path steps vs b.1 i.0 quiet.0 small.0, code e vs b.2 i.1 quiet.1 small.1)
    statement (CallStmt at f es) around vs P b calls i quiet small = (arguments es vs b.1 i quiet small, offers.stated f (count_of es) (subst (λ (n : ℕ). IsCall o false f n) (same_count es) b.0))
    statement (ReturnStmt at None) around vs P b calls i quiet small = tt
    statement (ReturnStmt at (Some e)) around vs P b calls i quiet small = code e vs b.1 i quiet small
    statement (AssertStmt at e) around vs P b calls i quiet small = clause e vs b calls i small
    statement (BreakStmt at) around vs P b calls i quiet small = tt
    statement (ContinueStmt at) around vs P b calls i quiet small = tt
    statement (SkipStmt at) around vs P b calls i quiet small = tt
    statement (FailStmt at) around vs P b calls i quiet small = tt
    statement (IfStmt at e first second) around vs P b calls i quiet small =
        (code e vs b.0 i.0 quiet.0 small.0, block first around vs P b.1 calls.1 i.1 quiet.1 small.1, block second around vs P b.2 calls.2 i.2 quiet.2 small.2)
    statement (WhileStmt at e invariants body) around vs P b calls i quiet small =
        (all_clauses invariants vs b.1 calls.1 i.1 small.1, code e vs b.0 i.0 quiet.0 small.0, block body (looped around) vs P b.2 calls.2 i.2 quiet.2 small.2)

    block : (ss : Stmts ℕ) (around : Around) (vs : bound.Scope) (P : ℕ → Type 0) → BoundStmts o a.many around vs ss → CallsStmts P ss → IntsStmts ss → EachWholeIn IsQuiet ss → EachWholeIn IsSmall ss → AllMade a ss
    block NoStmts around vs P b calls i quiet small = tt
    block (MoreStmts first rest) around vs P b calls i quiet small = (statement first around vs P b.0 calls.0 i.0 quiet.0 small.0, block rest around (behind vs first) P b.1 calls.1 i.1 quiet.1 small.1)

pub formed_made : FormedBodiesAreMade
formed_made = record {
  body = λ o a around vs method ss offers b calls i quiet small. block o a offers ss around vs (MayCall o method) b calls i quiet small;
  clauses = λ o a vs es offers b calls i small. all_clauses o a offers es vs b calls i small;
}
