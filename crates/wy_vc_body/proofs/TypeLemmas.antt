-- Declared types by number.
use Rattle.std.proofs.Common.{◌≡◌, ◌<◌, ◌≤◌, ℕ, zero, suc, List, [], ◌∷◌, length, Option, Some, None, slice_set, slice_get, refl, sym, ◌∙◌, ap, arith}
use Rattle.wy_core.specs.Types as ty
use Rattle.wy_core.specs.CoreSeen.{seen_ty}
use Rattle.wy_core.specs.declared.types.Ty.{Ty}
use Rattle.wy_sem.specs.Evaluation.{set_type}
use Rattle.wy_sem.specs.Statements.{type_at}
use Rattle.wy_vc_body.specs.Types.{or_any, types_in}

pub type_within : (ts : List (Option Ty)) (x : ℕ) (t : Ty) → x < length ts → types_in (slice_set ts x (Some t)) ≡ set_type (types_in ts) x (seen_ty t)
type_within [] x t h = absurd (omega arith)
type_within (s ∷ ts) zero t h = refl
type_within (s ∷ ts) (suc x) t h = ap (λ us. or_any s ∷ us) (type_within ts x t (omega arith))

pub type_past : (ts : List (Option Ty)) (x : ℕ) (t : ty.Ty) → length ts ≤ x → types_in ts ≡ set_type (types_in ts) x t
type_past [] x t h = refl
type_past (s ∷ ts) zero t h = absurd (omega arith)
type_past (s ∷ ts) (suc x) t h = ap (λ us. or_any s ∷ us) (type_past ts x t (omega arith))

-- what stands at the number, in the list
abbrev pub or_none : Option (Option Ty) → Option Ty
or_none None = None
or_none (Some slot) = slot

pub type_read : (ts : List (Option Ty)) (x : ℕ) → or_any (or_none (slice_get ts x)) ≡ type_at (types_in ts) x
type_read [] x = refl
type_read (s ∷ ts) zero = refl
type_read (s ∷ ts) (suc x) = type_read ts x

-- ---- in the code

pub declared_within : (ts ts' : List (Option Ty)) (x n : ℕ) (t u v : Ty) → x < n → n ≡ length ts → ts' ≡ slice_set ts x (Some t) → t ≡ u → u ≡ v → types_in ts' ≡ set_type (types_in ts) x (seen_ty v)
declared_within ts ts' x n t u v lt count set is same =
    ap types_in set ∙ type_within ts x t (omega (arith, lt, count)) ∙ ap (λ (y : Ty). set_type (types_in ts) x (seen_ty y)) (is ∙ same)

pub declared_past : (ts : List (Option Ty)) (x n : ℕ) (t : Ty) → n ≤ x → n ≡ length ts → types_in ts ≡ set_type (types_in ts) x (seen_ty t)
declared_past ts x n t le count = type_past ts x (seen_ty t) (omega (arith, le, count))

pub type_none : (ts : List (Option Ty)) (x : ℕ) → None ≡ slice_get ts x → ty.AnyTy ≡ type_at (types_in ts) x
type_none ts x is = ap (λ (o : Option (Option Ty)). or_any (or_none o)) is ∙ type_read ts x

pub type_empty : (ts : List (Option Ty)) (x : ℕ) (s : Option Ty) → Some s ≡ slice_get ts x → s ≡ None → ty.AnyTy ≡ type_at (types_in ts) x
type_empty ts x s is none = sym (ap or_any none) ∙ ap (λ (o : Option (Option Ty)). or_any (or_none o)) is ∙ type_read ts x

pub type_some : (ts : List (Option Ty)) (x : ℕ) (s : Option Ty) (t u : Ty) → Some s ≡ slice_get ts x → s ≡ Some t → u ≡ t → seen_ty u ≡ type_at (types_in ts) x
type_some ts x s t u is some same = ap seen_ty same ∙ sym (ap or_any some) ∙ ap (λ (o : Option (Option Ty)). or_any (or_none o)) is ∙ type_read ts x
