-- Declared types of which none uses a name bare recur through records or arrays.
use Rattle.std.proofs.Common.{◌≡◌, ℕ, zero, suc, ◌<◌, List, [], ◌∷◌, length, true, Some, refl, subst, arith}
use Rattle.std.specs.Prelude.{slice_get}
use Rattle.std.proofs.lemmas.Option.{slice_get_within}
use Rattle.wy_core.specs.Types.{Ty, NullTy, BoolTy, IntTy, AnyTy, VoidTy, RecordTy, ArrayTy, UnionTy, InterTy, NotTy, NamedTy, NormalTy}
use Rattle.wy_core.proofs.wy_lemmas_proofs.Choices.{both_parts as both}
use Rattle.wy_core.proofs.wy_lemmas_proofs.Options.{some_one as some_is}
use Rattle.wy_types.specs.Names.{Declared}
use Rattle.wy_types.specs.Recursion.{HasBareBelow, RecurThroughParts, is_guarded, are_guarded}

bare : (names : List Declared) (order : ℕ → ℕ) (j : ℕ) (t : Ty) → is_guarded t ≡ true → HasBareBelow names order j t
bare names order j NullTy e = tt
bare names order j BoolTy e = tt
bare names order j IntTy e = tt
bare names order j AnyTy e = tt
bare names order j VoidTy e = tt
bare names order j (RecordTy fs) e = tt
bare names order j (ArrayTy t) e = tt
bare names order j (UnionTy a b) e = let x = both (is_guarded a) (is_guarded b) e in (bare names order j a x.0, bare names order j b x.1)
bare names order j (InterTy a b) e = let x = both (is_guarded a) (is_guarded b) e in (bare names order j a x.0, bare names order j b x.1)
bare names order j (NotTy a) e = bare names order j a e
bare names order j (NamedTy n) e = absurd cc
bare names order j (NormalTy cs) e = tt

each : (ds : List Declared) → are_guarded ds ≡ true → (n : ℕ) (d : Declared) → slice_get ds n ≡ Some d → is_guarded d.ty ≡ true
each [] e n d at = absurd cc
each (x ∷ ds) e zero d at = let a = both (is_guarded x.ty) (are_guarded ds) e in subst (λ (y : Declared). is_guarded y.ty ≡ true) (some_is (Some x) x d refl at) a.0
each (x ∷ ds) e (suc n) d at = each ds (both (is_guarded x.ty) (are_guarded ds) e).1 n d at

pub guarded_recur : (ds : List Declared) → are_guarded ds ≡ true → RecurThroughParts ds
guarded_recur ds e = (λ n. 0, λ n d at. (let lt : n < length ds = slice_get_within ds n d at in some_below n (length ds) lt, bare ds (λ m. 0) 0 d.ty (each ds e n d at)))
  where
    some_below : (n m : ℕ) → n < m → 0 < m
    some_below n m lt = omega (arith, lt)
