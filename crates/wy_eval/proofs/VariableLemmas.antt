-- Declared types of variables: what is set, what is found, and what statements declare.
use Rattle.std.proofs.Common.{◌≡◌, ℕ, zero, suc, ◌<◌, ◌≤◌, List, [], ◌∷◌, map, length, Option, Some, None, refl, sym, ap, arith, Bor}
use Rattle.std.specs.Prelude.{MatchOption, slice_get, slice_set}
use Rattle.std.specs.Option.{option_copied}
use Rattle.wy_core.specs.CoreSeen.{seen_ty}
use Rattle.wy_core.specs.Types as ty
use Rattle.wy_core.specs.declared.types.Ty.{Ty}
use Rattle.wy_sem.specs.Evaluation.{set_type}
use Rattle.wy_sem.specs.Statements.{type_at}

pub type_set : (ts : List Ty) (x : ℕ) (t : Ty) → x < length ts → map seen_ty (slice_set ts x t) ≡ set_type (map seen_ty ts) x (seen_ty t)
type_set [] x t within = absurd (omega (arith, within))
type_set (u ∷ ts) zero t within = refl
type_set (u ∷ ts) (suc x) t within = ap (λ l. seen_ty u ∷ l) (type_set ts x t (omega (arith, within)))

past_all : (ts : List ty.Ty) (x : ℕ) (t : ty.Ty) → length ts ≤ x → ts ≡ set_type ts x t
past_all [] x t over = refl
past_all (u ∷ ts) zero t over = absurd (omega (arith, over))
past_all (u ∷ ts) (suc x) t over = ap (λ l. u ∷ l) (past_all ts x t (omega (arith, over)))

counted : (ts : List Ty) → length (map seen_ty ts) ≡ length ts
counted [] = refl
counted (t ∷ ts) = ap suc (counted ts)

pub type_past : (ts : List Ty) (x : ℕ) (t : Ty) → length ts ≤ x → map seen_ty ts ≡ set_type (map seen_ty ts) x (seen_ty t)
type_past ts x t over = let n : length (map seen_ty ts) ≡ length ts = counted ts in past_all (map seen_ty ts) x (seen_ty t) (omega arith)

pub type_there : (ts : List Ty) (x : ℕ) (t : Ty) → Some t ≡ slice_get ts x → type_at (map seen_ty ts) x ≡ seen_ty t
type_there [] x t h = absurd cc
type_there (u ∷ ts) zero t h = let g : t ≡ u = cc in ap seen_ty (sym g)
type_there (u ∷ ts) (suc x) t h = type_there ts x t h

pub type_nowhere : (ts : List Ty) (x : ℕ) → None ≡ slice_get ts x → type_at (map seen_ty ts) x ≡ ty.AnyTy
type_nowhere [] x h = refl
type_nowhere (u ∷ ts) zero h = absurd cc
type_nowhere (u ∷ ts) (suc x) h = type_nowhere ts x h

pub type_found : (r : Option (Bor Ty)) (ts : List Ty) (x : ℕ) → option_copied r ≡ slice_get ts x → MatchOption r (type_at (map seen_ty ts) x ≡ ty.AnyTy) (λ t. type_at (map seen_ty ts) x ≡ seen_ty t.now)
type_found None ts x h = type_nowhere ts x h
type_found (Some t) ts x h = type_there ts x t.now h
