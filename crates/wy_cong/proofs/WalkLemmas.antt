-- Lists, one item after the other.
use Rattle.std.proofs.Common.{◌≡◌, ◌<◌, ℕ, zero, suc, List, [], ◌∷◌, ◌++◌, length, get_or, Bool, Some, subst, arith}
use Rattle.std.specs.Prelude.{slice_get}
use Rattle.wy_check_splits.specs.wy_check_nodes.Seen.{AreBare, AreBelow, AreOver, IsBare}
use Rattle.wy_lemmas.proofs.Options.{some_is}
use Rattle.wy_term.specs.Term.{Term}

below_cons : (n k : ℕ) (ks : List ℕ) → k < n → AreBelow n ks → AreBelow n (k ∷ ks)
below_cons n k ks lt below = λ i d l. by i d l
  where
    by : (i d : ℕ) → i < length (k ∷ ks) → get_or (k ∷ ks) i d < n
    by zero d l = lt
    by (suc i) d l = below i d (omega (arith, l))

pub below_last : (n : ℕ) (ks : List ℕ) (k : ℕ) → AreBelow n ks → k < n → AreBelow n (ks ++ k ∷ [])
below_last n [] k below lt = below_cons n k [] lt (λ i d l. absurd (omega (arith, l)))
below_last n (j ∷ js) k below lt = below_cons n j (js ++ k ∷ []) (below 0 j (omega arith)) (below_last n js k (λ m e g. below (suc m) e (omega (arith, g))) lt)

pub over_get : (n : ℕ) (ps : List (ℕ × Bool)) (i : ℕ) (p : ℕ × Bool) → AreOver n ps → slice_get ps i ≡ Some p → p.0 < n
over_get n [] i p over e = absurd (cc)
over_get n (q ∷ qs) zero p over e = let is : q ≡ p = some_is q p e in subst (λ (x : ℕ × Bool). x.0 < n) is over.0
over_get n (q ∷ qs) (suc i) p over e = over_get n qs i p over.1 e

pub bare_get : (at : ℕ → Term) (ps : List (ℕ × Bool)) (i : ℕ) (p : ℕ × Bool) → AreBare at ps → slice_get ps i ≡ Some p → IsBare at p
bare_get at [] i p bare e = absurd (cc)
bare_get at (q ∷ qs) zero p bare e = let is : q ≡ p = some_is q p e in subst (IsBare at) is bare.0
bare_get at (q ∷ qs) (suc i) p bare e = bare_get at qs i p bare.1 e
