-- Fields that are put in one after the other rise.
use Rattle.std.proofs.Common.{◌≡◌, ℕ, List, [], ◌∷◌, Ordering, Less, Equal, Greater, nat_cmp, refl, ap}
use Rattle.std.specs.Cmp.Lexicographic.{slice_cmp}
use Rattle.std.specs.Ordering.{match_ordering}
use Rattle.wy_core.specs.Types as types
use Rattle.wy_core.specs.CoreTree.{Expr, fields_of}
use Rattle.wy_core.specs.CoreSeen.{field_tys_of}
pub use Rattle.wy_lemmas.proofs.Lists.{Each, keys}
use Rattle.wy_lemmas.proofs.Lists.{less_back}
use Rattle.wy_names_lower.specs.TypesLowered.{placed}
use Rattle.wy_core.specs.formed.Offers.{Offers}
use Rattle.wy_core.specs.formed.Bound.{GoesBefore, Rise, names_of_tys, names_of, Scope, BoundTy, BoundFieldTys, BoundExpr, BoundFields}

goes_placed : {X : Type 0} (first name : List ℕ) (fs : List (List ℕ × X)) (x : X) → slice_cmp nat_cmp first name ≡ Less → GoesBefore first (keys fs) → GoesBefore first (keys (placed fs name x))
goes_placed first name [] x less h = less
goes_placed {X} first name (f ∷ fs) x less h = by (slice_cmp nat_cmp name f.0)
  where
    by : (c : Ordering) → GoesBefore first (keys (match_ordering c ((name, x) ∷ f ∷ fs) ((f.0, x) ∷ fs) (f ∷ placed fs name x)))
    by Less = less
    by Equal = h
    by Greater = h

pub rise_placed : {X : Type 0} (fs : List (List ℕ × X)) (name : List ℕ) (x : X) → Rise (keys fs) → Rise (keys (placed fs name x))
rise_placed [] name x r = (tt, tt)
rise_placed {X} (f ∷ fs) name x r = by (slice_cmp nat_cmp name f.0) refl (rise_placed fs name x r.1)
  where
    by : (c : Ordering) → slice_cmp nat_cmp name f.0 ≡ c → Rise (keys (placed fs name x)) → Rise (keys (match_ordering c ((name, x) ∷ f ∷ fs) ((f.0, x) ∷ fs) (f ∷ placed fs name x)))
    by Less e later = (e, r)
    by Equal e later = r
    by Greater e later = (goes_placed f.0 name fs x (less_back name f.0 e) r.0, later)

pub each_placed : {X : Type 0} (P : X → Type 0) (fs : List (List ℕ × X)) (name : List ℕ) (x : X) → P x → Each P fs → Each P (placed fs name x)
each_placed P [] name x p h = (p, tt)
each_placed {X} P (f ∷ fs) name x p h = by (slice_cmp nat_cmp name f.0) (each_placed P fs name x p h.1)
  where
    by : (c : Ordering) → Each P (placed fs name x) → Each P (match_ordering c ((name, x) ∷ f ∷ fs) ((f.0, x) ∷ fs) (f ∷ placed fs name x))
    by Less later = (p, h)
    by Equal later = (p, h.1)
    by Greater later = (h.0, later)

pub names_tys : (fs : List (List ℕ × types.Ty)) → keys fs ≡ names_of_tys (field_tys_of fs)
names_tys [] = refl
names_tys (f ∷ fs) = ap (λ (ns : List (List ℕ)). f.0 ∷ ns) (names_tys fs)

pub names_exprs : (fs : List (List ℕ × Expr ℕ)) → keys fs ≡ names_of (fields_of fs)
names_exprs [] = refl
names_exprs (f ∷ fs) = ap (λ (ns : List (List ℕ)). f.0 ∷ ns) (names_exprs fs)

pub each_ty : (n : ℕ) (fs : List (List ℕ × types.Ty)) → Each (BoundTy n) fs → BoundFieldTys n (field_tys_of fs)
each_ty n [] h = tt
each_ty n (f ∷ fs) h = (h.0, each_ty n fs h.1)

pub each_expr : (o : Offers) (n : ℕ) (vs : Scope) (fs : List (List ℕ × Expr ℕ)) → Each (BoundExpr o n vs) fs → BoundFields o n vs (fields_of fs)
each_expr o n vs [] h = tt
each_expr o n vs (f ∷ fs) h = (h.0, each_expr o n vs fs h.1)
