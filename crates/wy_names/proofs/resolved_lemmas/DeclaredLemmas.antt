-- What the names of declarations stand for.
use Rattle.std.proofs.Common.{◌≡◌, ◌∙◌, ℕ, suc, ◌+◌, Bool, true, false, cond, List, [], ◌∷◌, ◌++◌, length, Some, None, refl, sym, ap, subst, arith, if◌then◌else◌}
use Rattle.std.specs.List.{slice_get}
use Rattle.std.specs.Str.{bytes_eq}
use Rattle.wy_ast.specs.SurfaceTree.{Decl, Property, AliasDecl, FunctionDecl, MethodDecl, PropertyDecl}
use Rattle.wy_names.proofs.resolved_lemmas.IndexLemmas.{some_entry}
use Rattle.wy_names_scope.specs.declared.fault.Cause.TheVariants as cause
use Rattle.wy_names_scope.specs.declared.table.Entry.{Entry}
use Rattle.wy_names_scope.specs.declared.table.Entry.TheVariants as entry
use Rattle.wy_names_scope.specs.Declarations as declarations
use Rattle.wy_names_scope.specs.Declarations.{routine_count, name_of, place_of, behind, builtins, declared_behind, declared}
use Rattle.wy_names_scope.specs.Faults.{Found, noted_where}
use Rattle.wy_names_scope.specs.Scope.{Scope, entry_of, has, with_name}

-- what is counted of the declarations before one
abbrev Second : {A B C : Type 0} → (A → B → C) → Type 0
Second {A} {B} {C} f = B

abbrev Counts : Type 0
Counts = Second declarations.entry_of

-- the property with this index
pub record PropertyAt (ds : List Decl) (decl n : ℕ) : Type 0 where
  pub it : Property
  pub there : slice_get ds decl ≡ Some (PropertyDecl it)
  pub arity : n ≡ length it.params

-- an entry of a declaration
abbrev pub IsDeclared : List Decl → Entry → Type 0
IsDeclared ds (entry.Type n decl) = Unit {0}
IsDeclared ds (entry.Routine r) = Unit {0}
IsDeclared ds (entry.Property decl n) = PropertyAt ds decl n
IsDeclared ds (entry.Variable v) = ⊥

abbrev pub AreDeclared : List Decl → Scope → Type 0
AreDeclared ds [] = Unit {0}
AreDeclared ds (e ∷ s) = IsDeclared ds e.1 × AreDeclared ds s

is_declared : (ds : List Decl) (s : Scope) (name : List ℕ) (e : Entry) → AreDeclared ds s → entry_of s name ≡ Some e → IsDeclared ds e
is_declared ds [] name e h is = absurd (cc)
is_declared ds (x ∷ s) name e h is = by (bytes_eq name x.0) (λ k. is_declared ds s name e h.1 k) is
  where
    by : (b : Bool) → (entry_of s name ≡ Some e → IsDeclared ds e) → cond b (Some x.1) (entry_of s name) ≡ Some e → IsDeclared ds e
    by true next k = subst (λ (z : Entry). IsDeclared ds z) (some_entry x.1 e k) h.0
    by false next k = next k

last_declared : (ds : List Decl) (s : Scope) (name : List ℕ) (e : Entry) → AreDeclared ds s → IsDeclared ds e → AreDeclared ds (s ++ (name, e) ∷ [])
last_declared ds [] name e h k = (k, tt)
last_declared ds (x ∷ s) name e h k = (h.0, last_declared ds s name e h.1 k)

with_declared : (ds : List Decl) (s : Scope) (name : List ℕ) (e : Entry) → AreDeclared ds s → IsDeclared ds e → AreDeclared ds (with_name s name e)
with_declared ds s name e h k = by (has s name)
  where
    by : (b : Bool) → AreDeclared ds (if b then s else s ++ (name, e) ∷ [])
    by true = h
    by false = last_declared ds s name e h k

own_entry : (ds : List Decl) (d : Decl) (n : Counts) → slice_get ds n.decls ≡ Some d → IsDeclared ds (declarations.entry_of d n)
own_entry ds (AliasDecl a) n at = tt
own_entry ds (FunctionDecl f) n at = tt
own_entry ds (MethodDecl m) n at = tt
own_entry ds (PropertyDecl p) n at = record { it = p; there = at; arity = refl }

counts_more : (d : Decl) (n : Counts) → (behind d n).decls ≡ n.decls + 1
counts_more (AliasDecl a) n = refl
counts_more (FunctionDecl f) n = refl
counts_more (MethodDecl m) n = refl
counts_more (PropertyDecl p) n = refl

declared_behind_all : (ds : List Decl) (scope : Scope) (found : Found) (n : Counts) (rest : List Decl) → AreDeclared ds scope → ((i : ℕ) → slice_get rest i ≡ slice_get ds (n.decls + i)) → AreDeclared ds (declared_behind scope found n rest).0
declared_behind_all ds scope found n [] h at = h
declared_behind_all ds scope found n (d ∷ rest) h at =
    declared_behind_all ds (with_name scope (name_of d) (declarations.entry_of d n)) (noted_where (has scope (name_of d)) found (place_of d) cause.Twice) (behind d n) rest
    (with_declared ds scope (name_of d) (declarations.entry_of d n) h (own_entry ds d n here)) next
  where
    here : slice_get ds n.decls ≡ Some d
    here = let e : n.decls + 0 ≡ n.decls = omega arith in sym (at 0 ∙ ap (slice_get ds) e)

    next : (i : ℕ) → slice_get rest i ≡ slice_get ds ((behind d n).decls + i)
    next i =
        let one = counts_more d n in
        let e : n.decls + suc i ≡ (behind d n).decls + i = omega (arith, one) in
        at (suc i) ∙ ap (slice_get ds) e

pub all_declared : (ds : List Decl) → AreDeclared ds (declared ds).0
all_declared ds =
    declared_behind_all ds (builtins (routine_count ds)) None (record { types = 0; routines = 0; decls = 0 }) ds (tt, (tt, tt))
    (λ (i : ℕ). let e : i ≡ 0 + i = omega arith in ap (slice_get ds) e)

-- a property in scope
pub scope_property : (ds : List Decl) (name : List ℕ) (decl n : ℕ) → entry_of (declared ds).0 name ≡ Some (entry.Property decl n) → PropertyAt ds decl n
scope_property ds name decl n h = is_declared ds (declared ds).0 name (entry.Property decl n) (all_declared ds) h

-- no variable is in scope
pub scope_variable : (ds : List Decl) (name : List ℕ) (v : ℕ) → entry_of (declared ds).0 name ≡ Some (entry.Variable v) → ⊥
scope_variable ds name v h = is_declared ds (declared ds).0 name (entry.Variable v) (all_declared ds) h
