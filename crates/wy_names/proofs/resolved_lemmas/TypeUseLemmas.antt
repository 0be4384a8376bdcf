-- Each type that a lowered type names is used in the source.
use Rattle.std.proofs.Common.{◌≡◌, ◌∙◌, ◌⊎◌, inl, inr, ℕ, Bool, true, false, not, cond, List, [], ◌∷◌, ◌++◌, Option, Some, None, refl, sym, ap, subst, if◌then◌else◌}
use Rattle.std.specs.Str.{bytes_eq}
use Rattle.wy_ast.specs.SurfaceTree.{Ty, FieldTys, NullTy, BoolTy, IntTy, AnyTy, VoidTy, RecordTy, ArrayTy, UnionTy, InterTy, NotTy, NamedTy, NoFieldTys, MoreFieldTys}
use Rattle.wy_core.specs.Types as core
use Rattle.wy_core.specs.CoreSeen.{field_tys_of}
use Rattle.wy_lemmas.proofs.Choices.{not_false, either}
use Rattle.wy_names.proofs.resolved_lemmas.IndexLemmas.{some_entry}
use Rattle.wy_names_scope.specs.declared.fault.Cause.TheVariants as cause
use Rattle.wy_names_scope.specs.declared.table.Entry.{Entry}
use Rattle.wy_names_scope.specs.declared.table.Entry.TheVariants as entry
use Rattle.wy_names_scope.specs.Faults.{Found, noted_where}
use Rattle.wy_names_scope.specs.Places.{place_of_ty}
use Rattle.wy_names_scope.specs.Scope.{Scope, entry_of, has, with_name}
use Rattle.wy_names_recursion.specs.Calls.{is_type, is_variable}
use Rattle.wy_names_recursion.specs.TypeNames as bind
use Rattle.wy_names_recursion.specs.TypeNames.{just_a_name}
use Rattle.wy_names_recursion.specs.declared.edges.Edge.{Edge}
use Rattle.wy_names_recursion.specs.declared.edges.Way.{Way}
use Rattle.wy_names_recursion.specs.declared.edges.Way.TheVariants as way
use Rattle.wy_names_recursion.specs.Uses.{Edges, guarded, type_named}
use Rattle.wy_names_recursion.specs.TypeUses as uses
use Rattle.wy_names.proofs.resolved_lemmas.UseLemmas.{Each, of_last, before_ty}
use Rattle.wy_names_lower.specs.Variables.{type_of}
use Rattle.wy_names_lower.specs.TypesLowered.{placed, in_ty, in_fields}
use Rattle.wy_core.specs.formed.Recursion.{Inside, NamesIn, NamesInFields}
use Rattle.wy_names.proofs.resolved_lemmas.NotedLemmas.{noted_none}
use Rattle.wy_names.proofs.resolved_lemmas.BindLemmas as names
use Rattle.wy_names.proofs.resolved_lemmas.BindLemmas.{field_ty}
use Rattle.wy_names.proofs.resolved_lemmas.ScopeLemmas.{erased, erased_option, seen_entry}
use Rattle.wy_names.proofs.resolved_lemmas.FieldLemmas as fields
use Rattle.wy_names.proofs.resolved_lemmas.FieldLemmas.{each_placed}

-- ---- nested scopes

-- the types and properties of the nested scope are those of the one around it
pub record Nests (s c : Scope) : Type 0 where
  pub types : (name : List ℕ) (n d : ℕ) → entry_of c name ≡ Some (entry.Type n d) → entry_of s name ≡ Some (entry.Type n d)
  pub properties : (name : List ℕ) (d arity : ℕ) → entry_of c name ≡ Some (entry.Property d arity) → entry_of s name ≡ Some (entry.Property d arity)

pub nests_itself : (s : Scope) → Nests s s
nests_itself s = record {
  types = λ (name : List ℕ) (n d : ℕ) (h : entry_of s name ≡ Some (entry.Type n d)). h;
  properties = λ (name : List ℕ) (d arity : ℕ) (h : entry_of s name ≡ Some (entry.Property d arity)). h;
}

last_variable : (s : Scope) (name x : List ℕ) (v : ℕ) (e : Entry) → is_variable (Some e) ≡ false → entry_of (s ++ (name, entry.Variable v) ∷ []) x ≡ Some e → entry_of s x ≡ Some e
last_variable [] name x v e no_variable h = by (bytes_eq x name) h
  where
    by : (b : Bool) → cond b (Some (entry.Variable v)) None ≡ Some e → None ≡ Some e
    by true k =
        let same : is_variable (Some (entry.Variable v)) ≡ is_variable (Some e) = ap (λ (z : Entry). is_variable (Some z)) (some_entry (entry.Variable v) e k) in
        absurd (let wrong : true ≡ false = same ∙ no_variable in cc)
    by false k = k
last_variable (y ∷ s) name x v e no_variable h = by (bytes_eq x y.0) (λ k. last_variable s name x v e no_variable k) h
  where
    by : (b : Bool)
        → (entry_of (s ++ (name, entry.Variable v) ∷ []) x ≡ Some e → entry_of s x ≡ Some e)
        → cond b (Some y.1) (entry_of (s ++ (name, entry.Variable v) ∷ []) x) ≡ Some e
        → cond b (Some y.1) (entry_of s x) ≡ Some e
    by true next k = k
    by false next k = next k

with_variable : (s : Scope) (name x : List ℕ) (v : ℕ) (e : Entry) → is_variable (Some e) ≡ false → entry_of (with_name s name (entry.Variable v)) x ≡ Some e → entry_of s x ≡ Some e
with_variable s name x v e no_variable h = by (has s name) h
  where
    by : (b : Bool) → entry_of (if b then s else s ++ (name, entry.Variable v) ∷ []) x ≡ Some e → entry_of s x ≡ Some e
    by true k = k
    by false k = last_variable s name x v e no_variable k

pub nests_more : (s c : Scope) (name : List ℕ) (v : ℕ) → Nests s c → Nests s (with_name c name (entry.Variable v))
nests_more s c name v n = record { types = types; properties = properties }
  where
    types : (x : List ℕ) (m d : ℕ) → entry_of (with_name c name (entry.Variable v)) x ≡ Some (entry.Type m d) → entry_of s x ≡ Some (entry.Type m d)
    types x m d h = n.types x m d (with_variable c name x v (entry.Type m d) refl h)

    properties : (x : List ℕ) (d arity : ℕ) → entry_of (with_name c name (entry.Variable v)) x ≡ Some (entry.Property d arity) → entry_of s x ≡ Some (entry.Property d arity)
    properties x d arity h = n.properties x d arity (with_variable c name x v (entry.Property d arity) refl h)

-- ---- uses of types

abbrev pub edge_of : ℕ → ℕ → ℕ → Way → Edge
edge_of from to at w = record { from = from; to = to; at = at; way = w }

-- the ways in which a name in a type may be used, all names counting or those outside of records and arrays alone
abbrev pub Ways : Bool → Way → Way → Type 0
Ways true w v = (v ≡ w) ⊎ (v ≡ guarded w)
Ways false w v = v ≡ w

guarded_once : (w : Way) → guarded (guarded w) ≡ guarded w
guarded_once way.Bare = refl
guarded_once way.Guarded = refl
guarded_once way.Mention = refl
guarded_once way.Use = refl

ways_guarded : (w v : Way) → Ways true (guarded w) v → Ways true w v
ways_guarded w v (inl e) = inr e
ways_guarded w v (inr e) = inr (e ∙ guarded_once w)

own_way : (all : Bool) (w : Way) → Ways all w w
own_way true w = inl refl
own_way false w = refl

-- a use of the type with this number, whose declaration stands where the index says
pub record UsedBy (G : Edge → Type 0) (index : ℕ → ℕ) (all : Bool) (from : ℕ) (w : Way) (x : ℕ) : Type 0 where
  pub at : ℕ
  pub by : Way
  pub ways : Ways all w by
  pub used : G (edge_of from (index x) at by)

inside : {A B : Type 0} (all : Bool) → (A → B) → Inside all A → Inside all B
inside true f a = f a
inside false f a = a

module _ (G : Edge → Type 0) (s : Scope) (index : ℕ → ℕ) (from : ℕ) (indexed : (name : List ℕ) (n d : ℕ) → entry_of s name ≡ Some (entry.Type n d) → d ≡ index n) where
  any_use : (all : Bool) (w : Way) (x : ℕ) → Inside all (UsedBy G index true from (guarded w) x) → UsedBy G index all from w x
  any_use true w x u = record { at = u.at; by = u.by; ways = ways_guarded w u.by u.ways; used = u.used }
  any_use false w x u = absurd u

  named_used : (c b : Scope) → b ≡ erased c → Nests s c → (w : Way) (all : Bool) (at : ℕ) (name : List ℕ) (es : Edges) → Each G (type_named from w at (entry_of s name) es) → is_type (entry_of b name) ≡ true → (x : ℕ)
      → type_of (entry_of c name) ≡ x → UsedBy G index all from w x
  named_used c b h n w all at name es each is x same = by (entry_of c name) refl (ap is_type (sym (seen_entry b c name h)) ∙ is) same
    where
      by : (e : Option Entry) → entry_of c name ≡ e → is_type (erased_option e) ≡ true → type_of e ≡ x → UsedBy G index all from w x
      by None there k q = absurd (cc)
      by (Some (entry.Type m d)) there k q =
          let outer : entry_of s name ≡ Some (entry.Type m d) = n.types name m d there in
          let edge : G (edge_of from d at w) = of_last G es (edge_of from d at w) (subst (λ (o : Option Entry). Each G (type_named from w at o es)) outer each) in
          let place : d ≡ index x = indexed name m d outer ∙ ap index q in
          record { at = at; by = w; ways = own_way all w; used = subst (λ (z : ℕ). G (edge_of from z at w)) place edge }
      by (Some (entry.Routine r)) there k q = absurd (cc)
      by (Some (entry.Property d arity)) there k q = absurd (cc)
      by (Some (entry.Variable v)) there k q = absurd (cc)

  before_rest : (w : Way) (fs : FieldTys) (es : Edges) → Each G (uses.in_fields s from w fs es) → Each G es
  before_rest w NoFieldTys es each = each
  before_rest w (MoreFieldTys name t rest) es each = before_ty G s from w t es (before_rest w rest (uses.in_ty s from w t es) each)

  -- what a field's type names is used
  abbrev Field : Way → core.Ty → Type 0
  Field w t = (x : ℕ) → NamesIn true t x → UsedBy G index true from w x

  fields_used : (w : Way) (made : List (List ℕ × core.Ty)) → fields.Each (Field w) made → (x : ℕ) → NamesInFields (field_tys_of made) x → UsedBy G index true from w x
  fields_used w [] h x k = absurd k
  fields_used w (f ∷ fs) h x (inl k) = h.0 x k
  fields_used w (f ∷ fs) h x (inr k) = fields_used w fs h.1 x k

  mutual
    pub type_used : (c b : Scope) → b ≡ erased c → Nests s c → (w : Way) (t : Ty) (es : Edges) → Each G (uses.in_ty s from w t es) → (found : Found) → bind.in_ty b t found ≡ None → (all : Bool) (x : ℕ)
        → NamesIn all (in_ty c t) x → UsedBy G index all from w x
    type_used c b h n w (NullTy at) es each found k all x q = absurd q
    type_used c b h n w (BoolTy at) es each found k all x q = absurd q
    type_used c b h n w (IntTy at) es each found k all x q = absurd q
    type_used c b h n w (AnyTy at) es each found k all x q = absurd q
    type_used c b h n w (VoidTy at) es each found k all x q = absurd q
    type_used c b h n w (RecordTy at fs) es each found k all x q =
        any_use all w x (inside all (fields_used (guarded w) (in_fields c [] fs) (field_types_used c b h n (guarded w) [] [] fs es each found k tt) x) q)
    type_used c b h n w (ArrayTy at item) es each found k all x q = any_use all w x (inside all (type_used c b h n (guarded w) item es each found k true x) q)
    type_used c b h n w (UnionTy at y z) es each found k all x q =
        let middle : Edges = uses.in_ty s from w y es in
        let first : Found = bind.in_ty b y found in
        either (type_used c b h n w y es (before_ty G s from w z middle each) found (names.before_ty b z first k) all x) (type_used c b h n w z middle each first k all x) q
    type_used c b h n w (InterTy at y z) es each found k all x q =
        let middle : Edges = uses.in_ty s from w y es in
        let first : Found = bind.in_ty b y found in
        either (type_used c b h n w y es (before_ty G s from w z middle each) found (names.before_ty b z first k) all x) (type_used c b h n w z middle each first k all x) q
    type_used c b h n w (NotTy at t) es each found k all x q = type_used c b h n w t es each found k all x q
    type_used c b h n w (NamedTy at name) es each found k all x q =
        named_used c b h n w all at name es each (not_false (is_type (entry_of b name)) (noted_none (not (is_type (entry_of b name))) found at cause.Unknown k).1) x q

    field_types_used : (c b : Scope) → b ≡ erased c → Nests s c → (w : Way) (seen : Scope) (made : List (List ℕ × core.Ty)) (fs : FieldTys) (es : Edges) → Each G (uses.in_fields s from w fs es) → (found : Found)
        → bind.in_fields b seen fs found ≡ None → fields.Each (Field w) made → fields.Each (Field w) (in_fields c made fs)
    field_types_used c b h n w seen made NoFieldTys es each found k f = f
    field_types_used c b h n w seen made (MoreFieldTys name t rest) es each found k f =
        let behind : Edges = uses.in_ty s from w t es in
        let here : Field w (in_ty c t) = type_used c b h n w t es (before_rest w rest behind each) found (field_ty b seen name t rest found k) true in
        field_types_used c b h n w (with_name seen name just_a_name) (placed made name (in_ty c t)) rest behind each (noted_where (has seen name) (bind.in_ty b t found) (place_of_ty t) cause.Twice) k
        (each_placed (Field w) made name (in_ty c t) here f)
