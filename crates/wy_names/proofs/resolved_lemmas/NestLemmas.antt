-- The scopes of a clause: the names of declarations, the parameters of the property whose clause it is, and all that is in scope.
use Rattle.std.proofs.Common.{◌≡◌, ◌∙◌, ◌<◌, ◌≤◌, ℕ, ◌+◌, Bool, true, false, cond, List, [], ◌∷◌, ◌++◌, Option, Some, None, is_some, refl, sym, ap, subst, arith, if◌then◌else◌}
use Rattle.std.specs.Str.{bytes_eq}
use Rattle.wy_names.proofs.resolved_lemmas.IndexLemmas.{some_entry}
use Rattle.wy_names_scope.specs.declared.table.Entry.{Entry}
use Rattle.wy_names_scope.specs.declared.table.Entry.TheVariants as entry
use Rattle.wy_names_scope.specs.Scope.{Scope, entry_of, has, with_name}
use Rattle.wy_names_recursion.specs.Calls.{is_variable}

-- the variable v, where the parameters are the first p variables
abbrev pub Leads : ℕ → ℕ → Option Entry → Type 0
Leads p v None = p ≤ v
Leads p v (Some (entry.Type n decl)) = ⊥
Leads p v (Some (entry.Routine r)) = ⊥
Leads p v (Some (entry.Property decl arity)) = ⊥
Leads p v (Some (entry.Variable i)) = (i ≡ v) × (v < p)

-- all that is in scope: declarations, parameters and other variables
pub record Nests (scope params : Scope) (p : ℕ) (s : Scope) : Type 0 where
  pub declared : (name : List ℕ) (e : Entry) → is_variable (Some e) ≡ false → entry_of s name ≡ Some e → entry_of scope name ≡ Some e
  pub variables : (name : List ℕ) (v : ℕ) → entry_of s name ≡ Some (entry.Variable v) → Leads p v (entry_of params name)
  pub within : (name : List ℕ) → has params name ≡ true → has s name ≡ true

pub same_number : (v n : ℕ) → Some (entry.Variable v) ≡ Some (entry.Variable n) → v ≡ n
same_number v n e = cc

-- what a name stands for where one more is put behind the others
pub data Found (s : Scope) (name x : List ℕ) (n v : ℕ) : Type 0 where
  old : entry_of s x ≡ Some (entry.Variable v) → Found s name x n v
  new : n ≡ v → entry_of s x ≡ None → bytes_eq x name ≡ true → Found s name x n v

last_found : (s : Scope) (name x : List ℕ) (n v : ℕ) → entry_of (s ++ (name, entry.Variable n) ∷ []) x ≡ Some (entry.Variable v) → Found s name x n v
last_found [] name x n v h = by (bytes_eq x name) refl h
  where
    by : (b : Bool) → bytes_eq x name ≡ b → cond b (Some (entry.Variable n)) None ≡ Some (entry.Variable v) → Found [] name x n v
    by true is k = new (same_number n v k) refl is
    by false is k = absurd (cc)
last_found (y ∷ s) name x n v h = by (bytes_eq x y.0) refl h (λ k. last_found s name x n v k)
  where
    by : (b : Bool) → bytes_eq x y.0 ≡ b → cond b (Some y.1) (entry_of (s ++ (name, entry.Variable n) ∷ []) x) ≡ Some (entry.Variable v)
        → (entry_of (s ++ (name, entry.Variable n) ∷ []) x ≡ Some (entry.Variable v) → Found s name x n v) → Found (y ∷ s) name x n v
    by true is k next = old (ap (λ (b : Bool). cond b (Some y.1) (entry_of s x)) is ∙ k)
    by false is k next = elim (next k) as (λ _. Found (y ∷ s) name x n v) [ old e ↦ old (ap (λ (b : Bool). cond b (Some y.1) (entry_of s x)) is ∙ e) | new e z w ↦ new e (ap (λ (b : Bool). cond b (Some y.1) (entry_of s x)) is ∙ z) w ]

with_found : (s : Scope) (name x : List ℕ) (n v : ℕ) → entry_of (with_name s name (entry.Variable n)) x ≡ Some (entry.Variable v) → Found s name x n v
with_found s name x n v h = by (has s name) h
  where
    by : (b : Bool) → entry_of (if b then s else s ++ (name, entry.Variable n) ∷ []) x ≡ Some (entry.Variable v) → Found s name x n v
    by true k = old k
    by false k = last_found s name x n v k

last_declared : (s : Scope) (name x : List ℕ) (n : ℕ) (e : Entry) → is_variable (Some e) ≡ false → entry_of (s ++ (name, entry.Variable n) ∷ []) x ≡ Some e → entry_of s x ≡ Some e
last_declared [] name x n e lacks h = by (bytes_eq x name) h
  where
    by : (b : Bool) → cond b (Some (entry.Variable n)) None ≡ Some e → None ≡ Some e
    by true k =
        let same : is_variable (Some (entry.Variable n)) ≡ is_variable (Some e) = ap (λ (z : Entry). is_variable (Some z)) (some_entry (entry.Variable n) e k) in
        absurd (let wrong : true ≡ false = same ∙ lacks in cc)
    by false k = k
last_declared (y ∷ s) name x n e lacks h = by (bytes_eq x y.0) (λ k. last_declared s name x n e lacks k) h
  where
    by : (b : Bool) → (entry_of (s ++ (name, entry.Variable n) ∷ []) x ≡ Some e → entry_of s x ≡ Some e) → cond b (Some y.1) (entry_of (s ++ (name, entry.Variable n) ∷ []) x) ≡ Some e → cond b (Some y.1) (entry_of s x) ≡ Some e
    by true next k = k
    by false next k = next k

pub with_declared : (s : Scope) (name x : List ℕ) (n : ℕ) (e : Entry) → is_variable (Some e) ≡ false → entry_of (with_name s name (entry.Variable n)) x ≡ Some e → entry_of s x ≡ Some e
with_declared s name x n e lacks h = by (has s name) h
  where
    by : (b : Bool) → entry_of (if b then s else s ++ (name, entry.Variable n) ∷ []) x ≡ Some e → entry_of s x ≡ Some e
    by true k = k
    by false k = last_declared s name x n e lacks k

last_has : (s : Scope) (name x : List ℕ) (e : Entry) → has s x ≡ true → has (s ++ (name, e) ∷ []) x ≡ true
last_has [] name x e h = absurd (cc)
last_has (y ∷ s) name x e h = by (bytes_eq x y.0) (λ k. last_has s name x e k) h
  where
    by : (b : Bool) → (has s x ≡ true → has (s ++ (name, e) ∷ []) x ≡ true) → is_some (cond b (Some y.1) (entry_of s x)) ≡ true → is_some (cond b (Some y.1) (entry_of (s ++ (name, e) ∷ []) x)) ≡ true
    by true next k = refl
    by false next k = next k

pub with_has : (s : Scope) (name x : List ℕ) (e : Entry) → has s x ≡ true → has (with_name s name e) x ≡ true
with_has s name x e h = by (has s name)
  where
    by : (b : Bool) → has (if b then s else s ++ (name, e) ∷ []) x ≡ true
    by true = h
    by false = last_has s name x e h

-- a name that is nowhere
nowhere : (scope params : Scope) (p : ℕ) (s : Scope) → Nests scope params p s → (name : List ℕ) → entry_of s name ≡ None → entry_of params name ≡ None
nowhere scope params p s h name none = by (entry_of params name) refl
  where
    by : (o : Option Entry) → entry_of params name ≡ o → o ≡ None
    by None e = refl
    by (Some x) e =
        let there : has params name ≡ true = ap is_some e in
        let here : has s name ≡ true = h.within name there in
        let gone : has s name ≡ false = ap is_some none in
        absurd (let wrong : true ≡ false = sym here ∙ gone in cc)

-- behind the declaration of a variable that is no parameter
pub nests_more : (scope params : Scope) (p : ℕ) (s : Scope) (name : List ℕ) (n : ℕ) → p ≤ n → Nests scope params p s → Nests scope params p (with_name s name (entry.Variable n))
nests_more scope params p s name n le h = record {
  declared = λ (x : List ℕ) (e : Entry) (lacks : is_variable (Some e) ≡ false) (at : entry_of (with_name s name (entry.Variable n)) x ≡ Some e). h.declared x e lacks (with_declared s name x n e lacks at);
  variables = λ (x : List ℕ) (v : ℕ) (at : entry_of (with_name s name (entry.Variable n)) x ≡ Some (entry.Variable v)). by x v (with_found s name x n v at);
  within = λ (x : List ℕ) (at : has params x ≡ true). with_has s name x (entry.Variable n) (h.within x at);
}
  where
    by : (x : List ℕ) (v : ℕ) → Found s name x n v → Leads p v (entry_of params x)
    by x v (old e) = h.variables x v e
    by x v (new e none is) = subst (λ (o : Option Entry). Leads p v o) (sym (nowhere scope params p s h x none)) (omega (arith, e, le))

-- where there are no parameters
pub nests_plain : (scope s : Scope) → ((name : List ℕ) (e : Entry) → is_variable (Some e) ≡ false → entry_of s name ≡ Some e → entry_of scope name ≡ Some e) → Nests scope [] 0 s
nests_plain scope s h = record {
  declared = h;
  variables = λ (name : List ℕ) (v : ℕ) (at : entry_of s name ≡ Some (entry.Variable v)). omega arith;
  within = λ (name : List ℕ) (at : has [] name ≡ true). absurd (cc);
}

-- where all variables are parameters
pub record AllParameters (params : Scope) (p : ℕ) (s : Scope) : Type 0 where
  pub variables : (name : List ℕ) (v : ℕ) → entry_of s name ≡ Some (entry.Variable v) → (entry_of params name ≡ Some (entry.Variable v)) × (v < p)
  pub within : (name : List ℕ) → has params name ≡ true → has s name ≡ true

new_there : (s : Scope) (name x : List ℕ) (e : Entry) → entry_of s x ≡ None → bytes_eq x name ≡ true → entry_of (s ++ (name, e) ∷ []) x ≡ Some e
new_there [] name x e h is = ap (λ (b : Bool). cond b (Some e) None) is
new_there (y ∷ s) name x e h is = by (bytes_eq x y.0) h (λ k. new_there s name x e k is)
  where
    by : (b : Bool) → cond b (Some y.1) (entry_of s x) ≡ None → (entry_of s x ≡ None → entry_of (s ++ (name, e) ∷ []) x ≡ Some e) → cond b (Some y.1) (entry_of (s ++ (name, e) ∷ []) x) ≡ Some e
    by true k next = absurd (cc)
    by false k next = next k

old_there : (s : Scope) (name x : List ℕ) (e d : Entry) → entry_of s x ≡ Some d → entry_of (s ++ (name, e) ∷ []) x ≡ Some d
old_there [] name x e d h = absurd (cc)
old_there (y ∷ s) name x e d h = by (bytes_eq x y.0) h (λ k. old_there s name x e d k)
  where
    by : (b : Bool) → cond b (Some y.1) (entry_of s x) ≡ Some d → (entry_of s x ≡ Some d → entry_of (s ++ (name, e) ∷ []) x ≡ Some d) → cond b (Some y.1) (entry_of (s ++ (name, e) ∷ []) x) ≡ Some d
    by true k next = k
    by false k next = next k

put_last : (s : Scope) (name : List ℕ) (e : Entry) → has s name ≡ false → with_name s name e ≡ s ++ (name, e) ∷ []
put_last s name e lacks = ap (λ (b : Bool). if b then s else s ++ (name, e) ∷ []) lacks

none_of : (s : Scope) (name : List ℕ) → has s name ≡ false → entry_of s name ≡ None
none_of s name lacks = by (entry_of s name) lacks
  where
    by : (o : Option Entry) → is_some o ≡ false → o ≡ None
    by None k = refl
    by (Some x) k = absurd (cc)

not_has : (params s : Scope) (name : List ℕ) → (has params name ≡ true → has s name ≡ true) → has s name ≡ false → has params name ≡ false
not_has params s name h lacks = by (has params name) refl
  where
    by : (b : Bool) → has params name ≡ b → has params name ≡ false
    by true is = let there : has s name ≡ true = h is in absurd (let wrong : true ≡ false = sym there ∙ lacks in cc)
    by false is = is

pub no_parameters : (s : Scope) → ((name : List ℕ) (v : ℕ) → entry_of s name ≡ Some (entry.Variable v) → ⊥) → AllParameters [] 0 s
no_parameters s h = record {
  variables = λ (name : List ℕ) (v : ℕ) (at : entry_of s name ≡ Some (entry.Variable v)). absurd (h name v at);
  within = λ (name : List ℕ) (at : has [] name ≡ true). absurd (cc);
}

pub one_parameter : (params : Scope) (n : ℕ) (s : Scope) (name : List ℕ) → has s name ≡ false → AllParameters params n s → AllParameters (with_name params name (entry.Variable n)) (n + 1) (with_name s name (entry.Variable n))
one_parameter params n s name lacks h = record { variables = variables; within = within }
  where
    fresh : has params name ≡ false
    fresh = not_has params s name (h.within name) lacks

    longer : with_name params name (entry.Variable n) ≡ params ++ (name, entry.Variable n) ∷ []
    longer = put_last params name (entry.Variable n) fresh

    by : (x : List ℕ) (v : ℕ) → Found s name x n v → (entry_of (params ++ (name, entry.Variable n) ∷ []) x ≡ Some (entry.Variable v)) × (v < n + 1)
    by x v (old e) = let r = h.variables x v e in let less : v < n = r.1 in (old_there params name x (entry.Variable n) (entry.Variable v) r.0, omega (arith, less))
    by x v (new e none is) =
        let gone : has params x ≡ false = not_has params s x (h.within x) (ap is_some none) in
        (new_there params name x (entry.Variable n) (none_of params x gone) is ∙ ap (λ (k : ℕ). Some (entry.Variable k)) e, omega (arith, e))

    variables : (x : List ℕ) (v : ℕ) → entry_of (with_name s name (entry.Variable n)) x ≡ Some (entry.Variable v) → (entry_of (with_name params name (entry.Variable n)) x ≡ Some (entry.Variable v)) × (v < n + 1)
    variables x v at = let r = by x v (with_found s name x n v at) in (ap (λ (z : Scope). entry_of z x) longer ∙ r.0, r.1)

    put_has : (p s : Scope) (x : List ℕ) → (has p x ≡ true → has s x ≡ true) → has (p ++ (name, entry.Variable n) ∷ []) x ≡ true → has (s ++ (name, entry.Variable n) ∷ []) x ≡ true
    put_has p s x f k = both (has p x) refl (bytes_eq x name) refl
      where
        none : (z : Scope) → has z x ≡ false → bytes_eq x name ≡ false → has (z ++ (name, entry.Variable n) ∷ []) x ≡ false
        none [] e is = ap (λ (b : Bool). is_some (cond b (Some (entry.Variable n)) None)) is
        none (y ∷ z) e is = one (bytes_eq x y.0) e (λ q. none z q is)
          where
            one : (b : Bool) → is_some (cond b (Some y.1) (entry_of z x)) ≡ false → (has z x ≡ false → has (z ++ (name, entry.Variable n) ∷ []) x ≡ false) → is_some (cond b (Some y.1) (entry_of (z ++ (name, entry.Variable n) ∷ []) x)) ≡ false
            one true q next = absurd (cc)
            one false q next = next q

        there : bytes_eq x name ≡ true → (b : Bool) → has s x ≡ b → has (s ++ (name, entry.Variable n) ∷ []) x ≡ true
        there is true e = last_has s name x (entry.Variable n) e
        there is false e = ap is_some (new_there s name x (entry.Variable n) (none_of s x e) is)

        both : (b : Bool) → has p x ≡ b → (c : Bool) → bytes_eq x name ≡ c → has (s ++ (name, entry.Variable n) ∷ []) x ≡ true
        both true e c is = last_has s name x (entry.Variable n) (f e)
        both false e true is = there is (has s x) refl
        both false e false is = let gone : has (p ++ (name, entry.Variable n) ∷ []) x ≡ false = none p e is in absurd (let wrong : true ≡ false = sym k ∙ gone in cc)

    within : (x : List ℕ) → has (with_name params name (entry.Variable n)) x ≡ true → has (with_name s name (entry.Variable n)) x ≡ true
    within x at =
        let k : has (params ++ (name, entry.Variable n) ∷ []) x ≡ true = ap (λ (z : Scope). has z x) (sym longer) ∙ at in
        ap (λ (z : Scope). has z x) (put_last s name (entry.Variable n) lacks) ∙ put_has params s x (h.within x) k

-- the scope of a property's clauses
pub nests_parameters : (scope params : Scope) (p : ℕ) (s : Scope) → AllParameters params p s → ((name : List ℕ) (e : Entry) → is_variable (Some e) ≡ false → entry_of s name ≡ Some e → entry_of scope name ≡ Some e) → Nests scope params p s
nests_parameters scope params p s h d = record {
  declared = d;
  variables = λ (name : List ℕ) (v : ℕ) (at : entry_of s name ≡ Some (entry.Variable v)).
      let r = h.variables name v at in
      subst (λ (o : Option Entry). Leads p v o) (sym r.0) (refl, r.1);
  within = h.within;
}
