-- The expressions of a program without a fault of names are bound.
use Rattle.std.proofs.Common.{◌≡◌, ◌∙◌, ◌<◌, ◌≤◌, ◌⊎◌, inl, inr, ℕ, ◌+◌, Bool, true, false, not, ◌&&◌, ◌==◌, List, [], ◌∷◌, length, Option, Some, None, refl, sym, ap, subst, arith}
use Rattle.std.specs.List.{slice_get}
use Rattle.std.proofs.Math.Dec.{eqb}
use Rattle.std.proofs.lemmas.Bool.Decides.{eqb_tells}
use Rattle.wy_ast.specs.SurfaceTree.{Expr, Exprs, Fields, Ranges, NullExpr, BoolExpr, IntExpr, TextExpr, VarExpr, CallExpr, NegExpr, NotExpr, LenExpr, BinaryExpr, IsExpr, IndexExpr, FieldExpr, ListExpr, RepeatExpr, RecordExpr, QuantExpr, NoExprs, MoreExprs, NoFields, MoreFields, NoRanges, MoreRanges}
use Rattle.wy_ast.specs.declared.expressions.Op as surface_op
use Rattle.wy_ast.specs.declared.expressions.Op.TheVariants as sop
use Rattle.wy_core.specs.CoreTree as core
use Rattle.wy_lemmas.proofs.Choices.{not_false}
use Rattle.wy_lemmas.proofs.Lists.{Each, keys}
use Rattle.wy_names_scope.specs.declared.fault.Cause.TheVariants as cause
use Rattle.wy_names_scope.specs.declared.table.Entry.{Entry}
use Rattle.wy_names_scope.specs.declared.table.Entry.TheVariants as entry
use Rattle.wy_names_scope.specs.declared.table.Signature.{Signature}
use Rattle.wy_names_scope.specs.Faults.{Found, noted_where}
use Rattle.wy_names_scope.specs.Places.{place_of_expr}
use Rattle.wy_names_scope.specs.Scope.{Scope, entry_of, has, with_name}
use Rattle.wy_names_recursion.specs.declared.context.Context.{Context}
use Rattle.wy_names_recursion.specs.Calls.{contract, call, is_variable}
use Rattle.wy_names_recursion.specs.TypeNames.{just_a_name}
use Rattle.wy_names_recursion.specs.ExprNames as bind
use Rattle.wy_names_recursion.specs.ExprNames.{with_ranges}
use Rattle.wy_names_lower.specs.Variables.{Variables, declared, named, variable_of}
use Rattle.wy_names_lower.specs.Uses.{With, Template, is_used, expansion, called}
use Rattle.wy_names_lower.specs.TypesLowered.{placed}
use Rattle.wy_names_lower.specs.ExprsLowered.{operator, text, Head, quantified, kept, in_expr, in_exprs, in_args, in_fields, in_ranges}
use Rattle.wy_core.specs.formed.Offers.{Offers, IsCall}
use Rattle.wy_core.specs.formed.Bound as formed
use Rattle.wy_core.specs.formed.Bound.{Has, Rise, names_of, count_of, BoundExpr, BoundExprs, BoundFields, BoundClauses}
use Rattle.wy_core.specs.formed.Moves.{Moves}
use Rattle.wy_core.proofs.formed_lemmas.MoveLemmas.{moved_expr}
use Rattle.wy_names.proofs.resolved_lemmas.NotedLemmas.{none_noted, noted_none}
use Rattle.wy_names.proofs.resolved_lemmas.BindLemmas.{Owed, of_routine, before_ty, before_expr, before_exprs, field_value, range_ends}
use Rattle.wy_names.proofs.resolved_lemmas.ScopeLemmas.{erased, erased_option, seen_entry, erased_more, signature, TemplateLeads, Leads, entry_leads, leads_more, Below, below_later, below_more, is_new}
use Rattle.wy_names.proofs.resolved_lemmas.GrowLemmas.{through, length_more, length_named, grows_expr, grows_exprs, grows_args, grows_fields, grows_ranges}
use Rattle.wy_names.proofs.resolved_lemmas.FieldLemmas.{rise_placed, each_placed, names_exprs, each_expr}
use Rattle.wy_names.proofs.resolved_lemmas.TypeLemmas.{bound_ty}
use Rattle.wy_names.proofs.resolved_lemmas.InstanceLemmas.{expansion_bound}

-- ---- lists

pub exprs_bound : (o : Offers) (n : ℕ) (vs : formed.Scope) (es : List (core.Expr ℕ)) → BoundClauses o n vs es → BoundExprs o n vs (core.exprs_of es)
exprs_bound o n vs [] b = tt
exprs_bound o n vs (e ∷ es) b = (b.0, exprs_bound o n vs es b.1)

pub clauses_moved : (o : Offers) (n m : ℕ) (vs ws : formed.Scope) → Moves n m vs ws → (es : List (core.Expr ℕ)) → BoundClauses o n vs es → BoundClauses o m ws es
clauses_moved o n m vs ws h [] b = tt
clauses_moved o n m vs ws h (e ∷ es) b = (moved_expr o h e b.0, clauses_moved o n m vs ws h es b.1)

pub count_exprs : (es : List (core.Expr ℕ)) → count_of (core.exprs_of es) ≡ length es
count_exprs [] = refl
count_exprs (e ∷ es) = let same = count_exprs es in omega (arith, same)

-- more names
pub wider : (n m : ℕ) (vs : formed.Scope) → n ≤ m → Moves n m vs vs
wider n m vs le = record { within = le; all = λ (v : ℕ) (h : Has vs v). h; none = λ (v : ℕ) (h : Has vs v) (less : v < n). h }

text_bound : (o : Offers) (n : ℕ) (vs : formed.Scope) (at : ℕ) (bytes : List ℕ) → BoundExprs o n vs (core.exprs_of (text at bytes))
text_bound o n vs at [] = tt
text_bound o n vs at (b ∷ bs) = (tt, text_bound o n vs at bs)

operator_bound : (o : Offers) (n : ℕ) (vs : formed.Scope) (at : ℕ) (op : surface_op.Op) (a b : core.Expr ℕ) → BoundExpr o n vs a → BoundExpr o n vs b → BoundExpr o n vs (operator at op a b)
operator_bound o n vs at sop.Add a b x y = (x, y)
operator_bound o n vs at sop.Sub a b x y = (x, y)
operator_bound o n vs at sop.Mul a b x y = (x, y)
operator_bound o n vs at sop.Div a b x y = (x, y)
operator_bound o n vs at sop.Mod a b x y = (x, y)
operator_bound o n vs at sop.Equal a b x y = (x, y)
operator_bound o n vs at sop.NotEqual a b x y = (x, y)
operator_bound o n vs at sop.Less a b x y = (x, y)
operator_bound o n vs at sop.LessEqual a b x y = (x, y)
operator_bound o n vs at sop.Greater a b x y = (x, y)
operator_bound o n vs at sop.GreaterEqual a b x y = (x, y)
operator_bound o n vs at sop.And a b x y = (x, y)
operator_bound o n vs at sop.Or a b x y = (x, y)
operator_bound o n vs at sop.Implies a b x y = (x, y)

-- ---- tests

pub same_count : (a b : ℕ) → not (a == b) ≡ false → b ≡ a
same_count a b h = by (eqb_tells a b) (not_false (a == b) h)
  where
    by : ((eqb a b ≡ true) × (a ≡ b)) ⊎ ((eqb a b ≡ false) × (a ≡ b → ⊥)) → (a == b) ≡ true → b ≡ a
    by (inl e) k = sym e.1
    by (inr e) k = absurd (let left : eqb a b ≡ false = e.0 in let right : eqb a b ≡ true = k in cc (left, right))

-- a call that owes nothing is one of what is offered
pub is_call : (o : Offers) (c : Context) (v : Bool) (s : Signature) (count : ℕ) → Owed c v s count → slice_get o.routines s.number ≡ Some (signature s) → IsCall o v s.number count
is_call o c v s count w at = record { called = signature s; offered = at; arity = same_count count s.arity w.arity; value = λ (e : v ≡ true). by v s.has_result e w.value }
  where
    by : (b r : Bool) → b ≡ true → (b && not r) ≡ false → r ≡ true
    by true r e k = not_false r k
    by false r e k = absurd (cc)

module _ (o : Offers) (ts : List Template) where
  pub variable_bound : (vs : formed.Scope) (b s : Scope) (name : List ℕ) → b ≡ erased s → Leads o ts vs s → is_variable (entry_of b name) ≡ true → Has vs (variable_of (entry_of s name))
  variable_bound vs b s name h l is = by (entry_of s name) refl (ap is_variable (sym (seen_entry b s name h)) ∙ is)
    where
      by : (e : Option Entry) → entry_of s name ≡ e → is_variable (erased_option e) ≡ true → Has vs (variable_of e)
      by None at k = absurd (cc)
      by (Some (entry.Type n decl)) at k = absurd (cc)
      by (Some (entry.Routine r)) at k = absurd (cc)
      by (Some (entry.Property decl arity)) at k = absurd (cc)
      by (Some (entry.Variable n)) at k = entry_leads o ts vs s name (entry.Variable n) l at

  -- a property's clauses with these arguments
  property_bound : (vs : formed.Scope) (at : ℕ) (t : Option Template) (names : Variables) (xs : List (core.Expr ℕ)) (m : ℕ) → Below vs (length names) → BoundClauses o (length names) vs xs
      → TemplateLeads o (length xs) t → length (expansion at t names xs).0 ≤ m → BoundExpr o m vs (expansion at t names xs).1
  property_bound vs at None names xs m low b leads le = tt
  property_bound vs at (Some t) names xs m low b leads le =
      expansion_bound o at t names vs xs m low b leads (let sum = length_more names t.names in omega (arith, le, sum))

  called_bound : (vs : formed.Scope) (c : Context) (b s : Scope) (name : List ℕ) → b ≡ erased s → Leads o ts vs s → (count at : ℕ) (found : Found) → call c true (entry_of b name) count at found ≡ None
      → (names : Variables) (xs : List (core.Expr ℕ)) (m : ℕ) → Below vs (length names) → BoundClauses o (length names) vs xs → length xs ≡ count
      → length (called ts at (entry_of s name) names xs).0 ≤ m → BoundExpr o m vs (called ts at (entry_of s name) names xs).1
  called_bound vs c b s name h l count at found k names xs m low bound is le =
      by (entry_of s name) refl (ap (λ (e : Option Entry). call c true e count at found) (sym (seen_entry b s name h)) ∙ k) le
    where
      by : (e : Option Entry) → entry_of s name ≡ e → call c true (erased_option e) count at found ≡ None → length (called ts at e names xs).0 ≤ m → BoundExpr o m vs (called ts at e names xs).1
      by None there j le = absurd (none_noted found at cause.Unknown j)
      by (Some (entry.Type n decl)) there j le = absurd (none_noted found at cause.Unknown j)
      by (Some (entry.Routine r)) there j le =
          let owed : Owed c true r count = (of_routine c true r count at found j).1 in
          let one : IsCall o true r.number count = is_call o c true r count owed (entry_leads o ts vs s name (entry.Routine r) l there) in
          (subst (λ (z : ℕ). IsCall o true r.number z) (sym (count_exprs xs ∙ is)) one, exprs_bound o m vs xs (clauses_moved o (length names) m vs vs (wider (length names) m vs le) xs bound))
      by (Some (entry.Property decl arity)) there j le =
          let same : arity ≡ count = same_count count arity (noted_none (not (count == arity)) found at cause.Arity j).1 in
          property_bound vs at (slice_get ts decl) names xs m low bound
          (subst (λ (z : ℕ). TemplateLeads o z (slice_get ts decl)) (same ∙ sym is) (entry_leads o ts vs s name (entry.Property decl arity) l there)) le
      by (Some (entry.Variable n)) there j le = absurd (none_noted found at cause.Unknown j)

  -- an argument that is dropped
  kept_bound : (vs : formed.Scope) (m : ℕ) (used : Bool) (names : Variables) (x : With (core.Expr ℕ)) → (length x.0 ≤ m → BoundExpr o m vs x.1) → length (kept used names x).0 ≤ m
      → BoundExpr o m vs (kept used names x).1
  kept_bound vs m true names x f le = f le
  kept_bound vs m false names x f le = tt

  kept_grows : (used : Bool) (names : Variables) (x : With (core.Expr ℕ)) → length names ≤ length x.0 → length names ≤ length (kept used names x).0
  kept_grows true names x h = h
  kept_grows false names x h = omega arith

  length_args : (s : Scope) (names : Variables) (callee : Option Entry) (i : ℕ) (es : Exprs) → length (in_args ts s names callee i es).1 ≡ bind.count_of es
  length_args s names callee i NoExprs = refl
  length_args s names callee i (MoreExprs e rest) =
      let same = length_args s (kept (is_used ts callee i) names (in_expr ts s names e)).0 callee (i + 1) rest in omega (arith, same)

  -- ---- ranges

  -- the variables in scope behind ranges
  abbrev pub range_scope : formed.Scope → List Head → formed.Scope
  range_scope vs [] = vs
  range_scope vs (h ∷ hs) = range_scope (h.variable ∷ vs) hs

  pub ranges_erased : (b s : Scope) → b ≡ erased s → (names : Variables) (rs : Ranges) → with_ranges b rs ≡ erased (in_ranges ts s names rs).0
  ranges_erased b s h names NoRanges = h
  ranges_erased b s h names (MoreRanges name x y rest) =
      let behind : Variables = (in_expr ts s (in_expr ts s names x).0 y).0 in
      ranges_erased (with_name b name just_a_name) (declared s behind name) (erased_more b s name (length behind) h) (named behind name) rest

  pub ranges_lead : (vs : formed.Scope) (s : Scope) → Leads o ts vs s → (names : Variables) (rs : Ranges) → Leads o ts (range_scope vs (in_ranges ts s names rs).2) (in_ranges ts s names rs).0
  ranges_lead vs s l names NoRanges = l
  ranges_lead vs s l names (MoreRanges name x y rest) =
      let behind : Variables = (in_expr ts s (in_expr ts s names x).0 y).0 in
      ranges_lead (length behind ∷ vs) (declared s behind name) (leads_more o ts vs s name (length behind) l) (named behind name) rest

  pub ranges_below : (vs : formed.Scope) (s : Scope) (names : Variables) (rs : Ranges) → Below vs (length names) → Below (range_scope vs (in_ranges ts s names rs).2) (length (in_ranges ts s names rs).1)
  ranges_below vs s names NoRanges low = low
  ranges_below vs s names (MoreRanges name x y rest) low =
      let first : Variables = (in_expr ts s names x).0 in
      let behind : Variables = (in_expr ts s first y).0 in
      let one = length_named behind name in
      let a : length names ≤ length first = grows_expr ts s names x in
      let c : length first ≤ length behind = grows_expr ts s first y in
      ranges_below (length behind ∷ vs) (declared s behind name) (named behind name) rest (below_more (length behind) low (omega (arith, a, c, one)) (omega (arith, one)))

  -- ---- expressions

  abbrev MadeFields : ℕ → formed.Scope → List (List ℕ × core.Expr ℕ) → Type 0
  MadeFields m vs fs = Rise (keys fs) × Each (BoundExpr o m vs) fs

  made_record : (m : ℕ) (vs : formed.Scope) (at : ℕ) (fs : List (List ℕ × core.Expr ℕ)) → MadeFields m vs fs → BoundExpr o m vs (core.RecordExpr at (core.fields_of fs))
  made_record m vs at fs h = (subst (λ (ns : List (List ℕ)). Rise ns) (names_exprs fs) h.0, each_expr o m vs fs h.1)

  mutual
    pub bound_expr : (c : Context) (b s : Scope) → b ≡ erased s → (vs : formed.Scope) → Leads o ts vs s → (e : Expr) (found : Found) → bind.in_expr c b e found ≡ None
        → (names : Variables) → Below vs (length names) → (m : ℕ) → length (in_expr ts s names e).0 ≤ m → BoundExpr o m vs (in_expr ts s names e).1
    bound_expr c b s h vs l (NullExpr at) found k names low m le = tt
    bound_expr c b s h vs l (BoolExpr at truth) found k names low m le = tt
    bound_expr c b s h vs l (IntExpr at z) found k names low m le = tt
    bound_expr c b s h vs l (TextExpr at bytes) found k names low m le = text_bound o m vs at bytes
    bound_expr c b s h vs l (VarExpr at name) found k names low m le =
        variable_bound vs b s name h l (not_false (is_variable (entry_of b name)) (noted_none (not (is_variable (entry_of b name))) found at cause.Unknown k).1)
    bound_expr c b s h vs l (CallExpr at name args) found k names low m le =
        let e : Option Entry = entry_of s name in
        let behind : Variables = (in_args ts s names e 0 args).0 in
        let xs : List (core.Expr ℕ) = (in_args ts s names e 0 args).1 in
        let before : Found = call c true (entry_of b name) (bind.count_of args) at found in
        called_bound vs c b s name h l (bind.count_of args) at found (before_exprs c b args before k) behind xs m (below_later low (grows_args ts s names e 0 args))
        (bound_args c b s h vs l e 0 args before k names low (length behind) (omega arith)) (length_args s names e 0 args) le
    bound_expr c b s h vs l (NegExpr at x) found k names low m le = bound_expr c b s h vs l x found k names low m le
    bound_expr c b s h vs l (NotExpr at x) found k names low m le = bound_expr c b s h vs l x found k names low m le
    bound_expr c b s h vs l (LenExpr at x) found k names low m le = bound_expr c b s h vs l x found k names low m le
    bound_expr c b s h vs l (BinaryExpr at op x y) found k names low m le =
        let z : With (core.Expr ℕ) = in_expr ts s names x in
        operator_bound o m vs at op z.1 (in_expr ts s z.0 y).1
        (bound_expr c b s h vs l x found (before_expr c b y (bind.in_expr c b x found) k) names low m (through (grows_expr ts s z.0 y) le))
        (bound_expr c b s h vs l y (bind.in_expr c b x found) k z.0 (below_later low (grows_expr ts s names x)) m le)
    bound_expr c b s h vs l (IsExpr at x t) found k names low m le =
        (bound_expr c b s h vs l x found (before_ty b t (bind.in_expr c b x found) k) names low m le, bound_ty o ts vs b s h l t (bind.in_expr c b x found) k)
    bound_expr c b s h vs l (IndexExpr at x y) found k names low m le =
        let z : With (core.Expr ℕ) = in_expr ts s names x in (
          bound_expr c b s h vs l x found (before_expr c b y (bind.in_expr c b x found) k) names low m (through (grows_expr ts s z.0 y) le),
          bound_expr c b s h vs l y (bind.in_expr c b x found) k z.0 (below_later low (grows_expr ts s names x)) m le,
        )
    bound_expr c b s h vs l (FieldExpr at x name) found k names low m le = bound_expr c b s h vs l x found k names low m le
    bound_expr c b s h vs l (ListExpr at items) found k names low m le = exprs_bound o m vs (in_exprs ts s names items).1 (bound_exprs c b s h vs l items found k names low m le)
    bound_expr c b s h vs l (RepeatExpr at x y) found k names low m le =
        let z : With (core.Expr ℕ) = in_expr ts s names x in (
          bound_expr c b s h vs l x found (before_expr c b y (bind.in_expr c b x found) k) names low m (through (grows_expr ts s z.0 y) le),
          bound_expr c b s h vs l y (bind.in_expr c b x found) k z.0 (below_later low (grows_expr ts s names x)) m le,
        )
    bound_expr c b s h vs l (RecordExpr at fs) found k names low m le =
        made_record m vs at (in_fields ts s names [] fs).1 (bound_fields c b s h vs l [] [] fs found k names low m le (tt, tt))
    bound_expr c b s h vs l (QuantExpr at all rs body) found k names low m le =
        let behind : Found = bind.in_ranges (contract c) b at rs found in
        let inner : Scope = (in_ranges ts s names rs).0 in
        let between : Variables = (in_ranges ts s names rs).1 in
        bound_ranges (contract c) b s h vs l at rs found (before_expr (contract c) (with_ranges b rs) body behind k) names low m (through (grows_expr ts inner between body) le) at all
        (in_expr ts inner between body).1
        (bound_expr (contract c) (with_ranges b rs) inner (ranges_erased b s h names rs) (range_scope vs (in_ranges ts s names rs).2) (ranges_lead vs s l names rs) body behind k between
        (ranges_below vs s names rs low) m le)

    pub bound_exprs : (c : Context) (b s : Scope) → b ≡ erased s → (vs : formed.Scope) → Leads o ts vs s → (es : Exprs) (found : Found) → bind.in_exprs c b es found ≡ None
        → (names : Variables) → Below vs (length names) → (m : ℕ) → length (in_exprs ts s names es).0 ≤ m → BoundClauses o m vs (in_exprs ts s names es).1
    bound_exprs c b s h vs l NoExprs found k names low m le = tt
    bound_exprs c b s h vs l (MoreExprs e rest) found k names low m le =
        let z : With (core.Expr ℕ) = in_expr ts s names e in (
          bound_expr c b s h vs l e found (before_exprs c b rest (bind.in_expr c b e found) k) names low m (through (grows_exprs ts s z.0 rest) le),
          bound_exprs c b s h vs l rest (bind.in_expr c b e found) k z.0 (below_later low (grows_expr ts s names e)) m le,
        )

    bound_args : (c : Context) (b s : Scope) → b ≡ erased s → (vs : formed.Scope) → Leads o ts vs s → (callee : Option Entry) (i : ℕ) (es : Exprs) (found : Found) → bind.in_exprs c b es found ≡ None
        → (names : Variables) → Below vs (length names) → (m : ℕ) → length (in_args ts s names callee i es).0 ≤ m → BoundClauses o m vs (in_args ts s names callee i es).1
    bound_args c b s h vs l callee i NoExprs found k names low m le = tt
    bound_args c b s h vs l callee i (MoreExprs e rest) found k names low m le =
        let x : With (core.Expr ℕ) = in_expr ts s names e in
        let z : With (core.Expr ℕ) = kept (is_used ts callee i) names x in (
          kept_bound vs m (is_used ts callee i) names x (λ (less : length x.0 ≤ m). bound_expr c b s h vs l e found (before_exprs c b rest (bind.in_expr c b e found) k) names low m less)
              (through (grows_args ts s z.0 callee (i + 1) rest) le),
          bound_args c b s h vs l callee (i + 1) rest (bind.in_expr c b e found) k z.0 (below_later low (kept_grows (is_used ts callee i) names x (grows_expr ts s names e))) m le,
        )

    bound_fields : (c : Context) (b s : Scope) → b ≡ erased s → (vs : formed.Scope) → Leads o ts vs s → (seen : Scope) (made : List (List ℕ × core.Expr ℕ)) (fs : Fields) (found : Found)
        → bind.in_fields c b seen fs found ≡ None → (names : Variables) → Below vs (length names) → (m : ℕ) → length (in_fields ts s names made fs).0 ≤ m → MadeFields m vs made
        → MadeFields m vs (in_fields ts s names made fs).1
    bound_fields c b s h vs l seen made NoFields found k names low m le f = f
    bound_fields c b s h vs l seen made (MoreFields name e rest) found k names low m le f =
        let z : With (core.Expr ℕ) = in_expr ts s names e in
        let here : BoundExpr o m vs z.1 =
        bound_expr c b s h vs l e found (field_value c b seen name e rest found k) names low m (through (grows_fields ts s z.0 (placed made name z.1) rest) le)
        in
        bound_fields c b s h vs l (with_name seen name just_a_name) (placed made name z.1) rest (noted_where (has seen name) (bind.in_expr c b e found) (place_of_expr e) cause.Twice) k z.0
        (below_later low (grows_expr ts s names e)) m le (rise_placed made name z.1 f.0, each_placed (BoundExpr o m vs) made name z.1 here f.1)

    bound_ranges : (c : Context) (b s : Scope) → b ≡ erased s → (vs : formed.Scope) → Leads o ts vs s → (at : ℕ) (rs : Ranges) (found : Found) → bind.in_ranges c b at rs found ≡ None
        → (names : Variables) → Below vs (length names) → (m : ℕ) → length (in_ranges ts s names rs).1 ≤ m → (p : ℕ) (all : Bool) (body : core.Expr ℕ)
        → BoundExpr o m (range_scope vs (in_ranges ts s names rs).2) body → BoundExpr o m vs (quantified p all (in_ranges ts s names rs).2 body)
    bound_ranges c b s h vs l at NoRanges found k names low m le p all body inside = inside
    bound_ranges c b s h vs l at (MoreRanges name x y rest) found k names low m le p all body inside =
        let first : Variables = (in_expr ts s names x).0 in
        let behind : Variables = (in_expr ts s first y).0 in
        let ends : Found = bind.in_expr c b y (bind.in_expr c b x found) in
        let one = length_named behind name in
        let d : length names ≤ length first = grows_expr ts s names x in
        let e : length first ≤ length behind = grows_expr ts s first y in
        let f : length (named behind name) ≤ m = through (grows_ranges ts (declared s behind name) (named behind name) rest) le in
        let ended : ends ≡ None = range_ends c b at name x y rest found k in (
          is_new m (below_later low (through d e)) (omega (arith, one, f)),
          bound_expr c b s h vs l x found (before_expr c b y (bind.in_expr c b x found) ended) names low m (omega (arith, e, one, f)),
          bound_expr c b s h vs l y (bind.in_expr c b x found) ended first (below_later low d) m (omega (arith, one, f)),
          bound_ranges c (with_name b name just_a_name) (declared s behind name) (erased_more b s name (length behind) h) (length behind ∷ vs) (leads_more o ts vs s name (length behind) l) at rest
              (noted_where (has b name) ends at cause.Twice) k (named behind name) (below_more (length behind) low (omega (arith, d, e, one)) (omega (arith, one))) m le p all body inside,
        )
