-- The declarations of a program: what no path of any does, none of each function, method and type does.
use Rattle.std.proofs.Common.{◌≡◌, inl, inr, ℕ, zero, suc, [], ◌∷◌, Option, Some, None, sym, subst}
use Rattle.std.specs.Prelude.{slice_get}
use Rattle.wy_core.specs.CoreTree.{Alias, Routine, AliasDecl, RoutineDecl, Core, aliases_of, routines_of}
use Rattle.wy_core.specs.formed.Offers.{Offers}
use Rattle.wy_core.specs.formed.Bound.{BoundAlias, BoundDecls}
use Rattle.wy_assign.specs.Assigned.{UnsetInRoutine, UnsetIn, IsUnset, OpenIn, IsOpen}

-- nothing is the first of none
no_one : {X A : Type 0} (v : A) → ◌≡◌ {A = Option A} None (Some v) → X
no_one v e = absurd cc

same_one : {A : Type 0} (u v : A) → ◌≡◌ {A = Option A} (Some u) (Some v) → u ≡ v
same_one u v e = cc

pub unset_routine : (core : Core ℕ) (f : ℕ) (r : Routine ℕ) (at : ℕ) → slice_get (routines_of core) f ≡ Some r → UnsetInRoutine r at → IsUnset core at
unset_routine [] f r at e h = no_one r e
unset_routine (AliasDecl a ∷ ds) f r at e h = inr (unset_routine ds f r at e h)
unset_routine (RoutineDecl s ∷ ds) zero r at e h = inl (subst (λ (t : Routine ℕ). UnsetInRoutine t at) (sym (same_one s r e)) h)
unset_routine (RoutineDecl s ∷ ds) (suc f) r at e h = inr (unset_routine ds f r at e h)

pub open_routine : (core : Core ℕ) (f : ℕ) (r : Routine ℕ) (at : ℕ) → slice_get (routines_of core) f ≡ Some r → OpenIn (RoutineDecl r) at → IsOpen core at
open_routine [] f r at e h = no_one r e
open_routine (AliasDecl a ∷ ds) f r at e h = inr (open_routine ds f r at e h)
open_routine (RoutineDecl s ∷ ds) zero r at e h = inl (subst (λ (t : Routine ℕ). OpenIn (RoutineDecl t) at) (sym (same_one s r e)) h)
open_routine (RoutineDecl s ∷ ds) (suc f) r at e h = inr (open_routine ds f r at e h)

pub unset_alias : (core : Core ℕ) (b : ℕ) (a : Alias ℕ) (at : ℕ) → slice_get (aliases_of core) b ≡ Some a → UnsetIn (AliasDecl a) at → IsUnset core at
unset_alias [] b a at e h = no_one a e
unset_alias (RoutineDecl r ∷ ds) b a at e h = inr (unset_alias ds b a at e h)
unset_alias (AliasDecl c ∷ ds) zero a at e h = inl (subst (λ (t : Alias ℕ). UnsetIn (AliasDecl t) at) (sym (same_one c a e)) h)
unset_alias (AliasDecl c ∷ ds) (suc b) a at e h = inr (unset_alias ds b a at e h)

pub bound_alias : (o : Offers) (core : Core ℕ) (b : ℕ) (a : Alias ℕ) → slice_get (aliases_of core) b ≡ Some a → BoundDecls o core → BoundAlias o a
bound_alias o [] b a e h = no_one a e
bound_alias o (RoutineDecl r ∷ ds) b a e h = bound_alias o ds b a e h.1
bound_alias o (AliasDecl c ∷ ds) zero a e h = subst (λ (t : Alias ℕ). BoundAlias o t) (same_one c a e) h.0
bound_alias o (AliasDecl c ∷ ds) (suc b) a e h = bound_alias o ds b a e h.1
