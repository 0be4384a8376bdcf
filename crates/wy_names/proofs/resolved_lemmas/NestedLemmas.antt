-- A property that a nested scope names is one of the scope around it: variables alone are declared in it.
use Rattle.std.proofs.Common.{◌≡◌, ℕ, Bool, true, false, cond, List, [], ◌∷◌, ◌++◌, length, Some, None}
use Rattle.std.specs.Str.{bytes_eq}
use Rattle.wy_ast.specs.SurfaceTree.{Ranges, NoRanges, MoreRanges, Param}
use Rattle.wy_names_scope.specs.Scope.{Scope, entry_of, has}
use Rattle.wy_names_scope.specs.declared.table.Entry.TheVariants as entry
use Rattle.wy_names_lower.specs.Variables.{Variables, declared, named}
use Rattle.wy_names_lower.specs.Uses.{Template}
use Rattle.wy_names_lower.specs.ExprsLowered as lowered
use Rattle.wy_names_lower.specs.Templates.{params_scope}

-- each property of the nested scope is one of the outer scope
abbrev pub Nested : Scope → Scope → Type 0
Nested outer inner = (name : List ℕ) (decl arity : ℕ) → entry_of inner name ≡ Some (entry.Property decl arity) → entry_of outer name ≡ Some (entry.Property decl arity)

pub nested_itself : (s : Scope) → Nested s s
nested_itself s name decl arity h = h

-- a variable at the end is no property
no_variable : (b : Bool) (v decl arity : ℕ) → cond b (Some (entry.Variable v)) None ≡ Some (entry.Property decl arity) → ⊥
no_variable true v decl arity h = absurd (cc)
no_variable false v decl arity h = absurd (cc)

not_last : (s : Scope) (name n : List ℕ) (v decl arity : ℕ) → entry_of (s ++ (name, entry.Variable v) ∷ []) n ≡ Some (entry.Property decl arity) → entry_of s n ≡ Some (entry.Property decl arity)
not_last [] name n v decl arity h = absurd (no_variable (bytes_eq n name) v decl arity h)
not_last (e ∷ s) name n v decl arity h = by (bytes_eq n e.0) (λ k. not_last s name n v decl arity k) h
  where
    by : (b : Bool)
        → (entry_of (s ++ (name, entry.Variable v) ∷ []) n ≡ Some (entry.Property decl arity) → entry_of s n ≡ Some (entry.Property decl arity))
        → cond b (Some e.1) (entry_of (s ++ (name, entry.Variable v) ∷ []) n) ≡ Some (entry.Property decl arity)
        → cond b (Some e.1) (entry_of s n) ≡ Some (entry.Property decl arity)
    by true next k = k
    by false next k = next k

one_declared : (s : Scope) (name n : List ℕ) (v decl arity : ℕ) (b : Bool) → entry_of (cond b s (s ++ (name, entry.Variable v) ∷ [])) n ≡ Some (entry.Property decl arity) → entry_of s n ≡ Some (entry.Property decl arity)
one_declared s name n v decl arity true h = h
one_declared s name n v decl arity false h = not_last s name n v decl arity h

pub nested_more : (outer inner : Scope) (vs : Variables) (name : List ℕ) → Nested outer inner → Nested outer (declared inner vs name)
nested_more outer inner vs name h n decl arity is = h n decl arity (one_declared inner name n (length vs) decl arity (has inner name) is)

pub nested_params : (outer inner : Scope) (vs : Variables) (ps : List Param) → Nested outer inner → Nested outer (params_scope inner vs ps)
nested_params outer inner vs [] h = h
nested_params outer inner vs (p ∷ ps) h = nested_params outer (declared inner vs p.name) (named vs p.name) ps (nested_more outer inner vs p.name h)

pub nested_ranges : (outer inner : Scope) (ts : List Template) (vs : Variables) (rs : Ranges) → Nested outer inner → Nested outer (lowered.in_ranges ts inner vs rs).0
nested_ranges outer inner ts vs NoRanges h = h
nested_ranges outer inner ts vs (MoreRanges name a b rest) h =
    let first = lowered.in_expr ts inner vs a in
    let second = lowered.in_expr ts inner first.0 b in
    nested_ranges outer (declared inner second.0 name) ts (named second.0 name) rest (nested_more outer inner second.0 name h)
