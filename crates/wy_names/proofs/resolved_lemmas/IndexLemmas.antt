-- Which declaration is that of a type, by its number.
use Rattle.std.proofs.Common.{◌≡◌, ◌∙◌, ℕ, zero, suc, ◌+◌, Bool, true, false, List, [], ◌∷◌, ◌++◌, cond, Some, None, refl, sym, ap, subst, arith, if◌then◌else◌}
use Rattle.std.specs.List.{slice_get}
use Rattle.std.specs.Str.{bytes_eq}
use Rattle.wy_ast.specs.SurfaceTree as surface
use Rattle.wy_ast.specs.SurfaceTree.{AliasDecl, FunctionDecl, MethodDecl, PropertyDecl}
use Rattle.wy_core.specs.CoreTree as core
use Rattle.wy_core.specs.CoreTree.{aliases_of}
use Rattle.wy_names_scope.specs.declared.fault.Cause.TheVariants as cause
use Rattle.wy_names_scope.specs.declared.table.Entry.{Entry}
use Rattle.wy_names_scope.specs.declared.table.Entry.TheVariants as entry
use Rattle.wy_names_scope.specs.Declarations.{routine_count, name_of, place_of, entry_of, builtins, declared_behind, declared}
use Rattle.wy_names_scope.specs.Faults.{Found, noted_where}
use Rattle.wy_names_scope.specs.Scope as scopes
use Rattle.wy_names_scope.specs.Scope.{Scope, has, with_name}
use Rattle.wy_names_lower.specs.Uses.{Template}
use Rattle.wy_names_lower.specs.DeclsLowered.{in_alias, in_decls}

abbrev pub alias_index : List surface.Decl → ℕ → ℕ
alias_index [] n = 0
alias_index (AliasDecl a ∷ ds) zero = 0
alias_index (AliasDecl a ∷ ds) (suc n) = suc (alias_index ds n)
alias_index (FunctionDecl f ∷ ds) n = suc (alias_index ds n)
alias_index (MethodDecl m ∷ ds) n = suc (alias_index ds n)
alias_index (PropertyDecl p ∷ ds) n = suc (alias_index ds n)

pub record AliasAt (ts : List Template) (s : Scope) (ds : List surface.Decl) (a : ℕ) (x : core.Alias ℕ) : Type 0 where
  pub it : surface.Alias
  pub there : slice_get ds (alias_index ds a) ≡ Some (AliasDecl it)
  pub same : in_alias ts s it ≡ x

pub some_alias : (x y : core.Alias ℕ) → Some x ≡ Some y → x ≡ y
some_alias x y e = cc

pub alias_at : (ts : List Template) (s : Scope) (ds : List surface.Decl) (a : ℕ) (x : core.Alias ℕ) → slice_get (aliases_of (in_decls ts s ds)) a ≡ Some x → AliasAt ts s ds a x
alias_at ts s [] a x h = absurd (cc)
alias_at ts s (AliasDecl y ∷ ds) zero x h = record { it = y; there = refl; same = some_alias (in_alias ts s y) x h }
alias_at ts s (AliasDecl y ∷ ds) (suc a) x h = let r = alias_at ts s ds a x h in record { it = r.it; there = r.there; same = r.same }
alias_at ts s (FunctionDecl f ∷ ds) a x h = let r = alias_at ts s ds a x h in record { it = r.it; there = r.there; same = r.same }
alias_at ts s (MethodDecl m ∷ ds) a x h = let r = alias_at ts s ds a x h in record { it = r.it; there = r.there; same = r.same }
alias_at ts s (PropertyDecl p ∷ ds) a x h = let r = alias_at ts s ds a x h in record { it = r.it; there = r.there; same = r.same }

-- the entries of types have the indices of their declarations
abbrev pub IndexedEntry : (ℕ → ℕ) → Entry → Type 0
IndexedEntry index (entry.Type n d) = d ≡ index n
IndexedEntry index (entry.Routine r) = Unit {0}
IndexedEntry index (entry.Property d arity) = Unit {0}
IndexedEntry index (entry.Variable v) = Unit {0}

abbrev pub Indexed : (ℕ → ℕ) → Scope → Type 0
Indexed index [] = Unit {0}
Indexed index (e ∷ s) = IndexedEntry index e.1 × Indexed index s

pub some_entry : (x y : Entry) → Some x ≡ Some y → x ≡ y
some_entry x y e = cc

pub indexed_entry : (index : ℕ → ℕ) (s : Scope) (name : List ℕ) (e : Entry) → Indexed index s → scopes.entry_of s name ≡ Some e → IndexedEntry index e
indexed_entry index [] name e h is = absurd (cc)
indexed_entry index (x ∷ s) name e h is = by (bytes_eq name x.0) (λ k. indexed_entry index s name e h.1 k) is
  where
    by : (b : Bool) → (scopes.entry_of s name ≡ Some e → IndexedEntry index e) → cond b (Some x.1) (scopes.entry_of s name) ≡ Some e → IndexedEntry index e
    by true next k = subst (λ (z : Entry). IndexedEntry index z) (some_entry x.1 e k) h.0
    by false next k = next k

pub indexed_last : (index : ℕ → ℕ) (s : Scope) (name : List ℕ) (e : Entry) → Indexed index s → IndexedEntry index e → Indexed index (s ++ (name, e) ∷ [])
indexed_last index [] name e h k = (k, tt)
indexed_last index (x ∷ s) name e h k = (h.0, indexed_last index s name e h.1 k)

pub indexed_with : (index : ℕ → ℕ) (s : Scope) (name : List ℕ) (e : Entry) → Indexed index s → IndexedEntry index e → Indexed index (with_name s name e)
indexed_with index s name e h k = by (has s name)
  where
    by : (b : Bool) → Indexed index (if b then s else s ++ (name, e) ∷ [])
    by true = h
    by false = indexed_last index s name e h k

-- the entry of a declaration behind so many types, functions and methods, and declarations
abbrev pub entry_behind : surface.Decl → ℕ → ℕ → ℕ → Entry
entry_behind d t r i = entry_of d (record { types = t; routines = r; decls = i })

abbrev pub scope_more : Scope → surface.Decl → ℕ → ℕ → ℕ → Scope
scope_more scope d t r i = with_name scope (name_of d) (entry_behind d t r i)

abbrev pub found_more : Scope → Found → surface.Decl → Found
found_more scope found d = noted_where (has scope (name_of d)) found (place_of d) cause.Twice

-- the types from this number on stand among the declarations from this index on
abbrev pub Continues : (ℕ → ℕ) → ℕ → ℕ → List surface.Decl → Type 0
Continues index t i ds = (n : ℕ) → index (t + n) ≡ i + alias_index ds n

pub first_index : (index : ℕ → ℕ) (t i : ℕ) (a : surface.Alias) (ds : List surface.Decl) → Continues index t i (AliasDecl a ∷ ds) → i ≡ index t
first_index index t i a ds h = let e : index (t + 0) ≡ i + 0 = h 0 in let z : i ≡ i + 0 = omega arith in z ∙ sym e ∙ ap index {x = t + 0} {y = t} (omega arith)

pub next_alias : (index : ℕ → ℕ) (t i : ℕ) (a : surface.Alias) (ds : List surface.Decl) → Continues index t i (AliasDecl a ∷ ds) → Continues index (t + 1) (i + 1) ds
next_alias index t i a ds h n =
    let z : i + suc (alias_index ds n) ≡ (i + 1) + alias_index ds n = omega arith in
    ap index {x = (t + 1) + n} {y = t + suc n} (omega arith) ∙ h (suc n) ∙ z

pub next_other : (index : ℕ → ℕ) (t i : ℕ) (ds : List surface.Decl) → ((n : ℕ) → index (t + n) ≡ i + suc (alias_index ds n)) → Continues index t (i + 1) ds
next_other index t i ds h n = let z : i + suc (alias_index ds n) ≡ (i + 1) + alias_index ds n = omega arith in h n ∙ z

pub declared_indexed : (index : ℕ → ℕ) (scope : Scope) (found : Found) (t r i : ℕ) (ds : List surface.Decl) → Indexed index scope → Continues index t i ds
    → Indexed index (declared_behind scope found (record { types = t; routines = r; decls = i }) ds).0
declared_indexed index scope found t r i [] l h = l
declared_indexed index scope found t r i (AliasDecl a ∷ ds) l h =
    declared_indexed index (scope_more scope (AliasDecl a) t r i) (found_more scope found (AliasDecl a)) (t + 1) r (i + 1) ds
    (indexed_with index scope a.name (entry_behind (AliasDecl a) t r i) l (first_index index t i a ds h)) (next_alias index t i a ds h)
declared_indexed index scope found t r i (FunctionDecl f ∷ ds) l h =
    declared_indexed index (scope_more scope (FunctionDecl f) t r i) (found_more scope found (FunctionDecl f)) t (r + 1) (i + 1) ds
    (indexed_with index scope f.name (entry_behind (FunctionDecl f) t r i) l tt) (next_other index t i ds h)
declared_indexed index scope found t r i (MethodDecl m ∷ ds) l h =
    declared_indexed index (scope_more scope (MethodDecl m) t r i) (found_more scope found (MethodDecl m)) t (r + 1) (i + 1) ds
    (indexed_with index scope m.name (entry_behind (MethodDecl m) t r i) l tt) (next_other index t i ds h)
declared_indexed index scope found t r i (PropertyDecl p ∷ ds) l h =
    declared_indexed index (scope_more scope (PropertyDecl p) t r i) (found_more scope found (PropertyDecl p)) t r (i + 1) ds
    (indexed_with index scope p.name (entry_behind (PropertyDecl p) t r i) l tt) (next_other index t i ds h)

pub all_continue : (ds : List surface.Decl) → Continues (alias_index ds) 0 0 ds
all_continue ds n = let z : alias_index ds n ≡ 0 + alias_index ds n = omega arith in ap (alias_index ds) {x = 0 + n} {y = n} (omega arith) ∙ z

pub scope_indexed : (ds : List surface.Decl) (name : List ℕ) (n d : ℕ) → scopes.entry_of (declared ds).0 name ≡ Some (entry.Type n d) → d ≡ alias_index ds n
scope_indexed ds name n d is =
    indexed_entry (alias_index ds) (declared ds).0 name (entry.Type n d) (declared_indexed (alias_index ds) (builtins (routine_count ds)) None 0 0 0 ds (tt, (tt, tt)) (all_continue ds)) is
