-- What the names in scope lead to; and the scope of which only the names count, where variables are meant.
use Rattle.std.proofs.Common.{◌≡◌, ◌∙◌, ◌<◌, ◌≤◌, ◌⊎◌, inl, inr, ℕ, zero, suc, ◌+◌, Bool, true, false, cond, List, [], ◌∷◌, ◌++◌, length, Option, Some, None, is_some, refl, sym, ap, subst, arith, if◌then◌else◌}
use Rattle.std.specs.List.{slice_get}
use Rattle.std.specs.Str.{bytes_eq}
use Rattle.std.proofs.Math.Dec.{eqb}
use Rattle.std.proofs.lemmas.Bool.Decides.{eqb_tells}
use Rattle.wy_names.proofs.resolved_lemmas.IndexLemmas.{some_entry}
use Rattle.wy_names_scope.specs.declared.table.Entry.{Entry}
use Rattle.wy_names_scope.specs.declared.table.Entry.TheVariants as entry
use Rattle.wy_names_scope.specs.declared.table.Signature.{Signature}
use Rattle.wy_names_scope.specs.Scope.{Scope, entry_of, has, with_name}
use Rattle.wy_names_recursion.specs.TypeNames.{just_a_name}
use Rattle.wy_names_lower.specs.Uses.{Template}
use Rattle.wy_core.specs.formed.Offers as offers
use Rattle.wy_core.specs.formed.Offers.{Offers}
use Rattle.wy_core.specs.formed.Bound as formed
use Rattle.wy_core.specs.formed.Bound.{Has, BoundClauses}

-- ---- only the names of variables count

abbrev pub erased_entry : Entry → Entry
erased_entry (entry.Type n decl) = entry.Type n decl
erased_entry (entry.Routine s) = entry.Routine s
erased_entry (entry.Property decl arity) = entry.Property decl arity
erased_entry (entry.Variable n) = just_a_name

abbrev pub erased : Scope → Scope
erased [] = []
erased (e ∷ s) = (e.0, erased_entry e.1) ∷ erased s

abbrev pub erased_option : Option Entry → Option Entry
erased_option None = None
erased_option (Some e) = Some (erased_entry e)

pub entry_erased : (s : Scope) (name : List ℕ) → entry_of (erased s) name ≡ erased_option (entry_of s name)
entry_erased [] name = refl
entry_erased (e ∷ s) name = by (bytes_eq name e.0) (entry_erased s name)
  where
    by : (b : Bool) → entry_of (erased s) name ≡ erased_option (entry_of s name) → cond b (Some (erased_entry e.1)) (entry_of (erased s) name) ≡ erased_option (cond b (Some e.1) (entry_of s name))
    by true h = refl
    by false h = h

some_erased : (o : Option Entry) → is_some (erased_option o) ≡ is_some o
some_erased None = refl
some_erased (Some e) = refl

pub has_erased : (s : Scope) (name : List ℕ) → has (erased s) name ≡ has s name
has_erased s name = ap is_some (entry_erased s name) ∙ some_erased (entry_of s name)

pub erased_last : (s : Scope) (name : List ℕ) (e : Entry) → erased (s ++ (name, e) ∷ []) ≡ erased s ++ (name, erased_entry e) ∷ []
erased_last [] name e = refl
erased_last (x ∷ s) name e = ap (λ (z : Scope). (x.0, erased_entry x.1) ∷ z) (erased_last s name e)

pub with_erased : (s : Scope) (name : List ℕ) (n : ℕ) → with_name (erased s) name just_a_name ≡ erased (with_name s name (entry.Variable n))
with_erased s name n = ap (λ (b : Bool). if b then erased s else erased s ++ (name, just_a_name) ∷ []) (has_erased s name) ∙ by (has s name)
  where
    by : (b : Bool) → (if b then erased s else erased s ++ (name, just_a_name) ∷ []) ≡ erased (if b then s else s ++ (name, entry.Variable n) ∷ [])
    by true = refl
    by false = sym (erased_last s name (entry.Variable n))

-- one more variable in both
pub erased_more : (b s : Scope) (name : List ℕ) (n : ℕ) → b ≡ erased s → with_name b name just_a_name ≡ erased (with_name s name (entry.Variable n))
erased_more b s name n h = ap (λ (z : Scope). with_name z name just_a_name) h ∙ with_erased s name n

-- ---- numbers of parameters

abbrev pub below : ℕ → formed.Scope
below zero = []
below (suc n) = n ∷ below n

pub has_below : (n i : ℕ) → i < n → Has (below n) i
has_below zero i lt = absurd (omega (arith, lt))
has_below (suc n) i lt = by (eqb_tells n i) (λ less. has_below n i less)
  where
    by : ((eqb n i ≡ true) × (n ≡ i)) ⊎ ((eqb n i ≡ false) × (n ≡ i → ⊥)) → (i < n → Has (below n) i) → (n ≡ i) ⊎ Has (below n) i
    by (inl e) next = inl e.1
    by (inr e) next = inr (next (least (λ (k : i ≡ n). e.1 (sym k))))
      where
        least : (i ≡ n → ⊥) → i < n
        least other = omega (arith, lt, other)

pub below_has : (n i : ℕ) → Has (below n) i → i < n
below_has zero i h = absurd h
below_has (suc n) i (inl e) = omega (arith, e)
below_has (suc n) i (inr h) = let less : i < n = below_has n i h in omega (arith, less)

-- ---- what an entry leads to

abbrev pub signature : Signature → offers.Signature
signature s = record { arity = s.arity; is_method = s.is_method; has_result = s.has_result }

-- the clauses of a property speak of its parameters, which are the variables from 0 on
abbrev pub TemplateLeads : Offers → ℕ → Option Template → Type 0
TemplateLeads o arity None = Unit {0}
TemplateLeads o arity (Some t) = BoundClauses o (arity + length t.names) (below arity) t.clauses

abbrev pub EntryLeads : Offers → List Template → formed.Scope → Entry → Type 0
EntryLeads o ts vs (entry.Type n decl) = n < o.types
EntryLeads o ts vs (entry.Routine s) = slice_get o.routines s.number ≡ Some (signature s)
EntryLeads o ts vs (entry.Property decl arity) = TemplateLeads o arity (slice_get ts decl)
EntryLeads o ts vs (entry.Variable n) = Has vs n

abbrev pub Leads : Offers → List Template → formed.Scope → Scope → Type 0
Leads o ts vs [] = Unit {0}
Leads o ts vs (e ∷ s) = EntryLeads o ts vs e.1 × Leads o ts vs s

pub entry_leads : (o : Offers) (ts : List Template) (vs : formed.Scope) (s : Scope) (name : List ℕ) (e : Entry) → Leads o ts vs s → entry_of s name ≡ Some e → EntryLeads o ts vs e
entry_leads o ts vs [] name e h is = absurd (cc)
entry_leads o ts vs (x ∷ s) name e h is = by (bytes_eq name x.0) (λ k. entry_leads o ts vs s name e h.1 k) is
  where
    by : (b : Bool) → (entry_of s name ≡ Some e → EntryLeads o ts vs e) → cond b (Some x.1) (entry_of s name) ≡ Some e → EntryLeads o ts vs e
    by true next k = subst (λ (z : Entry). EntryLeads o ts vs z) (some_entry x.1 e k) h.0
    by false next k = next k

-- no variable is lost
abbrev pub Keeps : formed.Scope → formed.Scope → Type 0
Keeps vs ws = (v : ℕ) → Has vs v → Has ws v

entry_kept : (o : Offers) (ts : List Template) (vs ws : formed.Scope) → Keeps vs ws → (e : Entry) → EntryLeads o ts vs e → EntryLeads o ts ws e
entry_kept o ts vs ws k (entry.Type n decl) h = h
entry_kept o ts vs ws k (entry.Routine s) h = h
entry_kept o ts vs ws k (entry.Property decl arity) h = h
entry_kept o ts vs ws k (entry.Variable n) h = k n h

pub leads_kept : (o : Offers) (ts : List Template) (vs ws : formed.Scope) → Keeps vs ws → (s : Scope) → Leads o ts vs s → Leads o ts ws s
leads_kept o ts vs ws k [] h = tt
leads_kept o ts vs ws k (e ∷ s) h = (entry_kept o ts vs ws k e.1 h.0, leads_kept o ts vs ws k s h.1)

leads_last : (o : Offers) (ts : List Template) (vs : formed.Scope) (s : Scope) (name : List ℕ) (e : Entry) → Leads o ts vs s → EntryLeads o ts vs e → Leads o ts vs (s ++ (name, e) ∷ [])
leads_last o ts vs [] name e h k = (k, tt)
leads_last o ts vs (x ∷ s) name e h k = (h.0, leads_last o ts vs s name e h.1 k)

pub leads_with : (o : Offers) (ts : List Template) (vs : formed.Scope) (s : Scope) (name : List ℕ) (e : Entry) → Leads o ts vs s → EntryLeads o ts vs e → Leads o ts vs (with_name s name e)
leads_with o ts vs s name e h k = by (has s name)
  where
    by : (b : Bool) → Leads o ts vs (if b then s else s ++ (name, e) ∷ [])
    by true = h
    by false = leads_last o ts vs s name e h k

-- behind the declaration of a variable
pub leads_more : (o : Offers) (ts : List Template) (vs : formed.Scope) (s : Scope) (name : List ℕ) (n : ℕ) → Leads o ts vs s → Leads o ts (n ∷ vs) (with_name s name (entry.Variable n))
leads_more o ts vs s name n h =
    leads_with o ts (n ∷ vs) s name (entry.Variable n) (leads_kept o ts vs (n ∷ vs) (λ (v : ℕ) (k : Has vs v). inr k) s h) (inl refl)

-- ---- variables in scope have lesser numbers

pub record Below (vs : formed.Scope) (n : ℕ) : Type 0 where
  pub less : (v : ℕ) → Has vs v → v < n

pub below_none : (n : ℕ) → Below [] n
below_none n = record { less = λ (v : ℕ) (h : ⊥). absurd h }

pub below_later : {vs : formed.Scope} {n m : ℕ} → Below vs n → n ≤ m → Below vs m
below_later {vs} {n} {m} h le = record { less = λ (v : ℕ) (k : Has vs v). let lesser : v < n = h.less v k in omega (arith, lesser, le) }

pub below_more : {vs : formed.Scope} {n m : ℕ} (v : ℕ) → Below vs n → n ≤ m → v < m → Below (v ∷ vs) m
below_more {vs} {n} {m} v h le lt = record { less = by }
  where
    by : (w : ℕ) → Has (v ∷ vs) w → w < m
    by w (inl e) = omega (arith, e, lt)
    by w (inr k) = let lesser : w < n = h.less w k in omega (arith, lesser, le)

-- the next number is new
pub is_new : {vs : formed.Scope} {n : ℕ} (m : ℕ) → Below vs n → n < m → formed.IsNew m vs n
is_new {vs} {n} m h lt = (lt, λ (k : Has vs n). absurd (let lesser : n < n = h.less n k in omega (arith, lesser)))

-- what a name stands for, where only the names of variables count
pub seen_entry : (b s : Scope) (name : List ℕ) → b ≡ erased s → entry_of b name ≡ erased_option (entry_of s name)
seen_entry b s name h = ap (λ (z : Scope). entry_of z name) h ∙ entry_erased s name
