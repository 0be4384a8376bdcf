-- A kind for each class, by the place of a term that has it.
use Rattle.std.specs.Prelude.{◌≡◌, ◌<◌, ℕ, List, Option, Some, None, option_map, slice_get, false}
use Rattle.wy_term.specs.Term.{DataKind, Term}
use Rattle.wy_term.specs.Nodes.{plain_kind}
use Rattle.wy_term.specs.Same.{same_kind}
use Rattle.wy_cong.specs.declared.kinds.Kinded.{Kinded}
use Rattle.wy_cong.specs.Signatures.{class_at}

abbrev pub kind_in : Kinded → DataKind
kind_in p = plain_kind p.kind

-- the kind at a place, if there is one
abbrev pub kind_at : List Kinded → Option ℕ → Option DataKind
kind_at ks None = None
kind_at ks (Some i) = option_map kind_in (slice_get ks i)

-- classes that have a kind keep it
abbrev pub KeepsKinds : List Kinded → (ℕ → Option ℕ) → (ℕ → Option ℕ) → Type 0
KeepsKinds ks old new = (class : ℕ) (kind : DataKind) → kind_at ks (old class) ≡ Some kind → kind_at ks (new class) ≡ Some kind

-- what has a place is noted
abbrev pub IsFirst : List Term → List ℕ → (ℕ → Term) → List Kinded → (ℕ → Option ℕ) → ℕ → Type 0
IsFirst ts labels at ks firsts i = (p : Kinded) → slice_get ks i ≡ Some p → kind_at ks (firsts (class_at ts labels at p.term)) ≡ Some (plain_kind p.kind)

-- each of the first n has the kind of its class
abbrev pub HaveKinds : List Term → List ℕ → (ℕ → Term) → List Kinded → (ℕ → Option ℕ) → ℕ → Type 0
HaveKinds ts labels at ks firsts n = (i : ℕ) → i < n → IsFirst ts labels at ks firsts i

-- the class of the term at a place doesn't have its kind
abbrev pub IsOther : List Term → List ℕ → (ℕ → Term) → List Kinded → (ℕ → Option ℕ) → List Kinded → ℕ → Type 0
IsOther ts labels at ks firsts qs i = (q : Kinded) → slice_get qs i ≡ Some q → (k : DataKind) → kind_at ks (firsts (class_at ts labels at q.term)) ≡ Some k → same_kind k (plain_kind q.kind) ≡ false
