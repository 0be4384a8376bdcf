-- An order of the types of a core is one of its declared types.
use Rattle.std.proofs.Common.{◌≡◌, ◌∙◌, ◌<◌, ℕ, zero, suc, false, List, [], ◌∷◌, length, Option, Some, None, inl, inr, refl, sym, ap, subst}
use Rattle.std.specs.List.{slice_get}
use Rattle.wy_core.specs.Types.{Ty, NullTy, BoolTy, IntTy, AnyTy, VoidTy, RecordTy, ArrayTy, UnionTy, InterTy, NotTy, NamedTy, NormalTy}
use Rattle.wy_core.specs.CoreTree.{Alias, Decl, AliasDecl, RoutineDecl, Core, aliases_of}
use Rattle.wy_types.specs.Names.{Declared, names_in}
use Rattle.wy_types.specs.Recursion.{IsDeclaredBelow, HasBareBelow, IsOrdered, RecurThroughParts}
use Rattle.wy_core.specs.formed.Bound.{Bound}
use Rattle.wy_core.specs.formed.Ranks.{Ranked}
use Rattle.wy_core.specs.formed.Recursion.{NamesIn, Recursion}
use Rattle.wy_core.proofs.formed_lemmas.RankLemmas.{ranked_types}

record AliasOf (ds : List (Decl ℕ)) (n : ℕ) (d : Declared) : Type 0 where
  it : Alias ℕ
  there : slice_get (aliases_of ds) n ≡ Some it
  same : it.ty ≡ d.ty

some_declared : (c d : Declared) → Some c ≡ Some d → c ≡ d
some_declared c d e = cc

alias_of : (ds : List (Decl ℕ)) (n : ℕ) (d : Declared) → slice_get (names_in ds) n ≡ Some d → AliasOf ds n d
alias_of [] n d h = absurd (cc)
alias_of (AliasDecl a ∷ ds) zero d h = record { it = a; there = refl; same = ap (λ (z : Declared). z.ty) (some_declared _ d h) }
alias_of (AliasDecl a ∷ ds) (suc n) d h = let r = alias_of ds n d h in record { it = r.it; there = r.there; same = r.same }
alias_of (RoutineDecl x ∷ ds) n d h = let r = alias_of ds n d h in record { it = r.it; there = r.there; same = r.same }

same_length : (ds : List (Decl ℕ)) → length (aliases_of ds) ≡ length (names_in ds)
same_length [] = refl
same_length (AliasDecl a ∷ ds) = ap suc (same_length ds)
same_length (RoutineDecl r ∷ ds) = same_length ds

bare_below : (names : List Declared) (order : ℕ → ℕ) (j : ℕ) (t : Ty) → ((b : ℕ) → NamesIn false t b → order b < j) → HasBareBelow names order j t
bare_below names order j NullTy h = tt
bare_below names order j BoolTy h = tt
bare_below names order j IntTy h = tt
bare_below names order j AnyTy h = tt
bare_below names order j VoidTy h = tt
bare_below names order j (RecordTy fields) h = tt
bare_below names order j (ArrayTy item) h = tt
bare_below names order j (UnionTy x y) h = (bare_below names order j x (λ b k. h b (inl k)), bare_below names order j y (λ b k. h b (inr k)))
bare_below names order j (InterTy x y) h = (bare_below names order j x (λ b k. h b (inl k)), bare_below names order j y (λ b k. h b (inr k)))
bare_below names order j (NotTy t) h = bare_below names order j t h
bare_below names order j (NamedTy n) h = by (slice_get names n)
  where
    by : (o : Option Declared) → IsDeclaredBelow (order n) j o
    by None = tt
    by (Some d) = h n refl
bare_below names order j (NormalTy union) h = tt

ordered : (core : Core ℕ) → Ranked (aliases_of core) → RecurThroughParts (names_in core)
ordered core r = (r.rank, by)
  where
    by : (n : ℕ) (d : Declared) → slice_get (names_in core) n ≡ Some d → (r.rank n < length (names_in core)) × HasBareBelow (names_in core) r.rank (r.rank n) d.ty
    by n d at =
        let a = alias_of core n d at in (
          subst (λ (z : ℕ). r.rank n < z) (same_length core) (r.within n a.it a.there),
          subst (λ (t : Ty). HasBareBelow (names_in core) r.rank (r.rank n) t) a.same (bare_below (names_in core) r.rank (r.rank n) a.it.ty (λ b k. r.falls n b a.it a.there k)),
        )

pub ordered_types : (core : Core ℕ) → Bound core → Recursion core → RecurThroughParts (names_in core)
ordered_types core bound w = ordered core (ranked_types core bound w)
