-- The expressions of a program without a fault of names call what they may.
use Rattle.std.proofs.Common.{◌≡◌, ◌∙◌, ℕ, zero, suc, ◌+◌, Bool, true, false, List, [], ◌∷◌, length, Option, Some, None, refl, sym, ap, subst}
use Rattle.std.specs.List.{slice_get}
use Rattle.wy_ast.specs.SurfaceTree as surface
use Rattle.wy_ast.specs.declared.expressions.Op as surface_op
use Rattle.wy_ast.specs.declared.expressions.Op.TheVariants as sop
use Rattle.wy_core.specs.CoreTree.{Expr, NullExpr, BoolExpr, IntExpr, VarExpr, CallExpr, NegExpr, NotExpr, LenExpr, BinaryExpr, IsExpr, IndexExpr, FieldExpr, ListExpr, RepeatExpr, RecordExpr, QuantExpr, Exprs, NoExprs, MoreExprs, Fields, NoFields, MoreFields, exprs_of, fields_of}
use Rattle.wy_core.specs.declared.expressions.Op.TheVariants as op
use Rattle.wy_names_lower.specs.wy_core_build.Instances.{renumbered, argument_or, variable, instance_of, instances, instance_fields, joined_behind}
use Rattle.wy_lemmas.proofs.Lists.{Each}
use Rattle.wy_names.proofs.resolved_lemmas.NumberLemmas.{some_expr}
use Rattle.wy_names_scope.specs.declared.fault.Cause.TheVariants as cause
use Rattle.wy_names_scope.specs.declared.table.Entry.{Entry}
use Rattle.wy_names_scope.specs.declared.table.Entry.TheVariants as entry
use Rattle.wy_names_scope.specs.declared.table.Signature.{Signature}
use Rattle.wy_names_scope.specs.Faults.{Found, noted_where}
use Rattle.wy_names_scope.specs.Places.{place_of_expr}
use Rattle.wy_names_scope.specs.Scope.{Scope, entry_of, has, with_name}
use Rattle.wy_names_recursion.specs.declared.context.Context.{Context}
use Rattle.wy_names_recursion.specs.Calls.{contract, call}
use Rattle.wy_names_recursion.specs.TypeNames.{just_a_name}
use Rattle.wy_names_recursion.specs.ExprNames as bind
use Rattle.wy_names_recursion.specs.ExprNames.{with_ranges}
use Rattle.wy_names_lower.specs.Variables.{Variables, declared, named}
use Rattle.wy_names_lower.specs.Uses.{With, Template, is_used, expansion, called}
use Rattle.wy_names_lower.specs.TypesLowered.{placed}
use Rattle.wy_names_lower.specs.ExprsLowered.{operator, text, quantified, kept, in_expr, in_exprs, in_args, in_fields, in_ranges}
use Rattle.wy_core.specs.formed.Offers.{Offers}
use Rattle.wy_core.specs.formed.Bound as formed
use Rattle.wy_core.specs.formed.Calls.{CallsExpr, CallsExprs, CallsFields, CallsClauses, Nothing}
use Rattle.wy_names.proofs.resolved_lemmas.NotedLemmas.{none_noted}
use Rattle.wy_names.proofs.resolved_lemmas.BindLemmas.{Owed, of_routine, before_ty, before_expr, before_exprs, field_value, range_ends}
use Rattle.wy_names.proofs.resolved_lemmas.ScopeLemmas.{erased, erased_option, seen_entry, erased_more, signature, Leads, entry_leads, leads_more}
use Rattle.wy_names.proofs.resolved_lemmas.FieldLemmas.{each_placed}
use Rattle.wy_names.proofs.resolved_lemmas.ExprLemmas.{range_scope, ranges_erased, ranges_lead}

-- what the context lets a call be is one of these
abbrev pub Permits : Offers → (ℕ → Type 0) → Context → Type 0
Permits o P c = (s : Signature) (v : Bool) (count : ℕ) → Owed c v s count → slice_get o.routines s.number ≡ Some (signature s) → P s.number

-- nothing is called in a contract
pub in_contract : (o : Offers) (P : ℕ → Type 0) (c : Context) → Permits o P (contract c)
in_contract o P c s v count w at = absurd (let no_call : true ≡ false = w.contract in cc)

-- a template whose clauses call nothing
abbrev pub FreeTemplate : Option Template → Type 0
FreeTemplate None = Unit {0}
FreeTemplate (Some t) = CallsClauses Nothing t.clauses

abbrev pub FreeTemplates : List Template → Type 0
FreeTemplates ts = (i : ℕ) → FreeTemplate (slice_get ts i)

argument_calls : (P : ℕ → Type 0) (args : List (Expr ℕ)) (i : ℕ) (x : Expr ℕ) → CallsClauses P args → slice_get args i ≡ Some x → CallsExpr P x
argument_calls P [] i x b h = absurd (cc)
argument_calls P (a ∷ args) zero x b h = subst (λ (z : Expr ℕ). CallsExpr P z) (some_expr a x h) b.0
argument_calls P (a ∷ args) (suc i) x b h = argument_calls P args i x b.1 h

module _ (P : ℕ → Type 0) (at : ℕ) (args : List (Expr ℕ)) (base : ℕ) (b : CallsClauses P args) where
  variable_calls : (v : ℕ) → CallsExpr P (variable at args base v)
  variable_calls v = by (slice_get args v) refl
    where
      by : (x : Option (Expr ℕ)) → slice_get args v ≡ x → CallsExpr P (argument_or (VarExpr at (renumbered args base v)) x)
      by None e = tt
      by (Some x) e = argument_calls P args v x b e

  mutual
    instance_calls : (e : Expr ℕ) → CallsExpr Nothing e → CallsExpr P (instance_of at args base e)
    instance_calls (NullExpr p) h = tt
    instance_calls (BoolExpr p truth) h = tt
    instance_calls (IntExpr p z) h = tt
    instance_calls (VarExpr p v) h = variable_calls v
    instance_calls (CallExpr p routine es) h = absurd h.0
    instance_calls (NegExpr p a) h = instance_calls a h
    instance_calls (NotExpr p a) h = instance_calls a h
    instance_calls (LenExpr p a) h = instance_calls a h
    instance_calls (BinaryExpr p op x y) h = (instance_calls x h.0, instance_calls y h.1)
    instance_calls (IsExpr p a t) h = instance_calls a h
    instance_calls (IndexExpr p x y) h = (instance_calls x h.0, instance_calls y h.1)
    instance_calls (FieldExpr p a name) h = instance_calls a h
    instance_calls (ListExpr p items) h = instances_call items h
    instance_calls (RepeatExpr p x y) h = (instance_calls x h.0, instance_calls y h.1)
    instance_calls (RecordExpr p fs) h = instance_fields_call fs h
    instance_calls (QuantExpr p all v from to body) h = (instance_calls from h.0, instance_calls to h.1, instance_calls body h.2)

    instances_call : (es : Exprs ℕ) → CallsExprs Nothing es → CallsExprs P (instances at args base es)
    instances_call NoExprs h = tt
    instances_call (MoreExprs e rest) h = (instance_calls e h.0, instances_call rest h.1)

    instance_fields_call : (fs : Fields ℕ) → CallsFields Nothing fs → CallsFields P (instance_fields at args base fs)
    instance_fields_call NoFields h = tt
    instance_fields_call (MoreFields name e rest) h = (instance_calls e h.0, instance_fields_call rest h.1)

  joined_calls : (first : Bool) (e : Expr ℕ) → CallsExpr P e → (cs : List (Expr ℕ)) → CallsClauses Nothing cs → CallsExpr P (joined_behind at args base first e cs)
  joined_calls first e h [] k = h
  joined_calls true e h (c ∷ cs) k = joined_calls false (instance_of at args base c) (instance_calls c k.0) cs k.1
  joined_calls false e h (c ∷ cs) k = joined_calls false (BinaryExpr at op.And e (instance_of at args base c)) (h, instance_calls c k.0) cs k.1

-- ---- lists

pub exprs_call : (P : ℕ → Type 0) (es : List (Expr ℕ)) → CallsClauses P es → CallsExprs P (exprs_of es)
exprs_call P [] b = tt
exprs_call P (e ∷ es) b = (b.0, exprs_call P es b.1)

fields_call : (P : ℕ → Type 0) (fs : List (List ℕ × Expr ℕ)) → Each (CallsExpr P) fs → CallsFields P (fields_of fs)
fields_call P [] h = tt
fields_call P (f ∷ fs) h = (h.0, fields_call P fs h.1)

text_calls : (P : ℕ → Type 0) (at : ℕ) (bytes : List ℕ) → CallsExprs P (exprs_of (text at bytes))
text_calls P at [] = tt
text_calls P at (b ∷ bs) = (tt, text_calls P at bs)

operator_calls : (P : ℕ → Type 0) (at : ℕ) (op : surface_op.Op) (a b : Expr ℕ) → CallsExpr P a → CallsExpr P b → CallsExpr P (operator at op a b)
operator_calls P at sop.Add a b x y = (x, y)
operator_calls P at sop.Sub a b x y = (x, y)
operator_calls P at sop.Mul a b x y = (x, y)
operator_calls P at sop.Div a b x y = (x, y)
operator_calls P at sop.Mod a b x y = (x, y)
operator_calls P at sop.Equal a b x y = (x, y)
operator_calls P at sop.NotEqual a b x y = (x, y)
operator_calls P at sop.Less a b x y = (x, y)
operator_calls P at sop.LessEqual a b x y = (x, y)
operator_calls P at sop.Greater a b x y = (x, y)
operator_calls P at sop.GreaterEqual a b x y = (x, y)
operator_calls P at sop.And a b x y = (x, y)
operator_calls P at sop.Or a b x y = (x, y)
operator_calls P at sop.Implies a b x y = (x, y)

-- ---- the walk

module _ (o : Offers) (ts : List Template) (free : FreeTemplates ts) where
  expansion_calls : (P : ℕ → Type 0) (at : ℕ) (t : Option Template) → FreeTemplate t → (names : Variables) (xs : List (Expr ℕ)) → CallsClauses P xs → CallsExpr P (expansion at t names xs).1
  expansion_calls P at None f names xs b = tt
  expansion_calls P at (Some t) f names xs b = joined_calls P at xs (length names) b true (BoolExpr at true) tt t.clauses f

  called_calls : (P : ℕ → Type 0) (c : Context) → Permits o P c → (vs : formed.Scope) (b s : Scope) (name : List ℕ) → b ≡ erased s → Leads o ts vs s → (count at : ℕ) (found : Found)
      → call c true (entry_of b name) count at found ≡ None → (names : Variables) (xs : List (Expr ℕ)) → CallsClauses P xs → CallsExpr P (called ts at (entry_of s name) names xs).1
  called_calls P c ok vs b s name h l count at found k names xs e =
      by (entry_of s name) refl (ap (λ (x : Option Entry). call c true x count at found) (sym (seen_entry b s name h)) ∙ k)
    where
      by : (x : Option Entry) → entry_of s name ≡ x → call c true (erased_option x) count at found ≡ None → CallsExpr P (called ts at x names xs).1
      by None there j = absurd (none_noted found at cause.Unknown j)
      by (Some (entry.Type n decl)) there j = absurd (none_noted found at cause.Unknown j)
      by (Some (entry.Routine r)) there j = (ok r true count (of_routine c true r count at found j).1 (entry_leads o ts vs s name (entry.Routine r) l there), exprs_call P xs e)
      by (Some (entry.Property decl arity)) there j = expansion_calls P at (slice_get ts decl) (free decl) names xs e
      by (Some (entry.Variable n)) there j = absurd (none_noted found at cause.Unknown j)

  kept_calls : (P : ℕ → Type 0) (used : Bool) (names : Variables) (x : With (Expr ℕ)) → CallsExpr P x.1 → CallsExpr P (kept used names x).1
  kept_calls P true names x h = h
  kept_calls P false names x h = tt

  mutual
    pub calls_expr : (P : ℕ → Type 0) (c : Context) → Permits o P c → (b s : Scope) → b ≡ erased s → (vs : formed.Scope) → Leads o ts vs s → (e : surface.Expr) (found : Found) → bind.in_expr c b e found ≡ None
        → (names : Variables) → CallsExpr P (in_expr ts s names e).1
    calls_expr P c ok b s h vs l (surface.NullExpr at) found k names = tt
    calls_expr P c ok b s h vs l (surface.BoolExpr at truth) found k names = tt
    calls_expr P c ok b s h vs l (surface.IntExpr at z) found k names = tt
    calls_expr P c ok b s h vs l (surface.TextExpr at bytes) found k names = text_calls P at bytes
    calls_expr P c ok b s h vs l (surface.VarExpr at name) found k names = tt
    calls_expr P c ok b s h vs l (surface.CallExpr at name args) found k names =
        let e : Option Entry = entry_of s name in
        let before : Found = call c true (entry_of b name) (bind.count_of args) at found in
        called_calls P c ok vs b s name h l (bind.count_of args) at found (before_exprs c b args before k) (in_args ts s names e 0 args).0 (in_args ts s names e 0 args).1
        (calls_args P c ok b s h vs l e 0 args before k names)
    calls_expr P c ok b s h vs l (surface.NegExpr at x) found k names = calls_expr P c ok b s h vs l x found k names
    calls_expr P c ok b s h vs l (surface.NotExpr at x) found k names = calls_expr P c ok b s h vs l x found k names
    calls_expr P c ok b s h vs l (surface.LenExpr at x) found k names = calls_expr P c ok b s h vs l x found k names
    calls_expr P c ok b s h vs l (surface.BinaryExpr at op x y) found k names =
        let z : With (Expr ℕ) = in_expr ts s names x in
        operator_calls P at op z.1 (in_expr ts s z.0 y).1 (calls_expr P c ok b s h vs l x found (before_expr c b y (bind.in_expr c b x found) k) names)
        (calls_expr P c ok b s h vs l y (bind.in_expr c b x found) k z.0)
    calls_expr P c ok b s h vs l (surface.IsExpr at x t) found k names = calls_expr P c ok b s h vs l x found (before_ty b t (bind.in_expr c b x found) k) names
    calls_expr P c ok b s h vs l (surface.IndexExpr at x y) found k names =
        (calls_expr P c ok b s h vs l x found (before_expr c b y (bind.in_expr c b x found) k) names, calls_expr P c ok b s h vs l y (bind.in_expr c b x found) k (in_expr ts s names x).0)
    calls_expr P c ok b s h vs l (surface.FieldExpr at x name) found k names = calls_expr P c ok b s h vs l x found k names
    calls_expr P c ok b s h vs l (surface.ListExpr at items) found k names = exprs_call P (in_exprs ts s names items).1 (calls_exprs P c ok b s h vs l items found k names)
    calls_expr P c ok b s h vs l (surface.RepeatExpr at x y) found k names =
        (calls_expr P c ok b s h vs l x found (before_expr c b y (bind.in_expr c b x found) k) names, calls_expr P c ok b s h vs l y (bind.in_expr c b x found) k (in_expr ts s names x).0)
    calls_expr P c ok b s h vs l (surface.RecordExpr at fs) found k names = fields_call P (in_fields ts s names [] fs).1 (calls_fields P c ok b s h vs l [] [] fs found k names tt)
    calls_expr P c ok b s h vs l (surface.QuantExpr at all rs body) found k names =
        let behind : Found = bind.in_ranges (contract c) b at rs found in
        let inner : Scope = (in_ranges ts s names rs).0 in
        let between : Variables = (in_ranges ts s names rs).1 in
        calls_ranges P (contract c) (in_contract o P c) b s h vs l at rs found (before_expr (contract c) (with_ranges b rs) body behind k) names at all (in_expr ts inner between body).1
        (calls_expr P (contract c) (in_contract o P c) (with_ranges b rs) inner (ranges_erased o ts b s h names rs) (range_scope o ts vs (in_ranges ts s names rs).2) (ranges_lead o ts vs s l names rs) body behind k between)

    pub calls_exprs : (P : ℕ → Type 0) (c : Context) → Permits o P c → (b s : Scope) → b ≡ erased s → (vs : formed.Scope) → Leads o ts vs s → (es : surface.Exprs) (found : Found) → bind.in_exprs c b es found ≡ None
        → (names : Variables) → CallsClauses P (in_exprs ts s names es).1
    calls_exprs P c ok b s h vs l surface.NoExprs found k names = tt
    calls_exprs P c ok b s h vs l (surface.MoreExprs e rest) found k names =
        (calls_expr P c ok b s h vs l e found (before_exprs c b rest (bind.in_expr c b e found) k) names, calls_exprs P c ok b s h vs l rest (bind.in_expr c b e found) k (in_expr ts s names e).0)

    calls_args : (P : ℕ → Type 0) (c : Context) → Permits o P c → (b s : Scope) → b ≡ erased s → (vs : formed.Scope) → Leads o ts vs s → (callee : Option Entry) (i : ℕ) (es : surface.Exprs) (found : Found)
        → bind.in_exprs c b es found ≡ None → (names : Variables) → CallsClauses P (in_args ts s names callee i es).1
    calls_args P c ok b s h vs l callee i surface.NoExprs found k names = tt
    calls_args P c ok b s h vs l callee i (surface.MoreExprs e rest) found k names =
        let x : With (Expr ℕ) = in_expr ts s names e in (
          kept_calls P (is_used ts callee i) names x (calls_expr P c ok b s h vs l e found (before_exprs c b rest (bind.in_expr c b e found) k) names),
          calls_args P c ok b s h vs l callee (i + 1) rest (bind.in_expr c b e found) k (kept (is_used ts callee i) names x).0,
        )

    calls_fields : (P : ℕ → Type 0) (c : Context) → Permits o P c → (b s : Scope) → b ≡ erased s → (vs : formed.Scope) → Leads o ts vs s → (seen : Scope) (made : List (List ℕ × Expr ℕ)) (fs : surface.Fields)
        (found : Found) → bind.in_fields c b seen fs found ≡ None → (names : Variables) → Each (CallsExpr P) made → Each (CallsExpr P) (in_fields ts s names made fs).1
    calls_fields P c ok b s h vs l seen made surface.NoFields found k names f = f
    calls_fields P c ok b s h vs l seen made (surface.MoreFields name e rest) found k names f =
        let z : With (Expr ℕ) = in_expr ts s names e in
        let here : CallsExpr P z.1 = calls_expr P c ok b s h vs l e found (field_value c b seen name e rest found k) names in
        calls_fields P c ok b s h vs l (with_name seen name just_a_name) (placed made name z.1) rest (noted_where (has seen name) (bind.in_expr c b e found) (place_of_expr e) cause.Twice) k z.0
        (each_placed (CallsExpr P) made name z.1 here f)

    calls_ranges : (P : ℕ → Type 0) (c : Context) → Permits o P c → (b s : Scope) → b ≡ erased s → (vs : formed.Scope) → Leads o ts vs s → (at : ℕ) (rs : surface.Ranges) (found : Found)
        → bind.in_ranges c b at rs found ≡ None → (names : Variables) (p : ℕ) (all : Bool) (body : Expr ℕ) → CallsExpr P body → CallsExpr P (quantified p all (in_ranges ts s names rs).2 body)
    calls_ranges P c ok b s h vs l at surface.NoRanges found k names p all body inside = inside
    calls_ranges P c ok b s h vs l at (surface.MoreRanges name x y rest) found k names p all body inside =
        let first : Variables = (in_expr ts s names x).0 in
        let behind : Variables = (in_expr ts s first y).0 in
        let ends : Found = bind.in_expr c b y (bind.in_expr c b x found) in
        let ended : ends ≡ None = range_ends c b at name x y rest found k in (
          calls_expr P c ok b s h vs l x found (before_expr c b y (bind.in_expr c b x found) ended) names,
          calls_expr P c ok b s h vs l y (bind.in_expr c b x found) ended first,
          calls_ranges P c ok (with_name b name just_a_name) (declared s behind name) (erased_more b s name (length behind) h) (length behind ∷ vs) (leads_more o ts vs s name (length behind) l) at rest
              (noted_where (has b name) ends at cause.Twice) k (named behind name) p all body inside,
        )
