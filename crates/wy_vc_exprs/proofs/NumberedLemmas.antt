-- Numbers of terms that name trees, as a list of terms grows.
use Rattle.std.proofs.Common.{◌≡◌, ◌<◌, ℕ, List, [], ◌∷◌, ◌++◌, length, take, refl, ◌∙◌, sym, ap, subst, arith}
use Rattle.std.proofs.lemmas.List.{take_at, append_assoc, map-append}
use Rattle.std.proofs.lemmas.List.Elements.{All-append, All-head, All-tail, All-weaker}
use Rattle.wy_term.specs.Term.{Term}
use Rattle.wy_term.specs.Nodes.{Plain, tree_at}
use Rattle.wy_term.specs.Numbers.{IsAt}
use Rattle.wy_vc_operations.specs.Growing.{Kept, AreBelow, AreAt}
use Rattle.wy_vc_exprs.specs.Numbered.{Grown, trees_of}

-- these are added, and behind them those
pub grown_on : (nodes : List Plain) (a b c : List ℕ) (fs gs : List Term) → Grown nodes a b fs → Grown nodes b c gs → Grown nodes a c (fs ++ gs)
grown_on nodes a b c fs gs f g = record {
  more = f.more ++ g.more;
  is = g.is ∙ ap (λ (xs : List ℕ). xs ++ g.more) f.is ∙ append_assoc a f.more g.more;
  at = record {
    within = All-append (λ k. k < length nodes) f.more g.more f.at.within g.at.within;
    are = map-append (tree_at nodes) f.more g.more ∙ ap (λ (xs : List Term). xs ++ trees_of nodes g.more) f.at.are ∙ ap (λ (xs : List Term). fs ++ xs) g.at.are;
  };
}

-- the trees stay as they are while the list of terms grows
pub trees_kept : (old new : List Plain) → Kept old new → (ks : List ℕ) → AreBelow (length old) ks → trees_of new ks ≡ trees_of old ks
trees_kept old new kept [] within = refl
trees_kept old new kept (k ∷ ks) within =
    ap (λ (t : Term). t ∷ trees_of new ks) (kept.trees k (All-head (λ k. k < length old) k ks within))
    ∙ ap (λ (ts : List Term). tree_at old k ∷ ts) (trees_kept old new kept ks (All-tail (λ k. k < length old) k ks within))

pub below_on : (old new : List Plain) → Kept old new → (ks : List ℕ) → AreBelow (length old) ks → AreBelow (length new) ks
below_on old new kept ks within = All-weaker (λ k. k < length old) (λ k. k < length new) (λ k lt. omega (arith, kept.grows)) ks within

-- behind what stood there
pub grown_front : (nodes : List Plain) (a b : List ℕ) (fs : List Term) → Grown nodes a b fs → take (length a) b ≡ a
grown_front nodes a b fs g = ap (λ (xs : List ℕ). take (length a) xs) g.is ∙ take_at a g.more (length a) refl

pub grown_below : (nodes : List Plain) (a b : List ℕ) (fs : List Term) → AreBelow (length nodes) a → Grown nodes a b fs → AreBelow (length nodes) b
grown_below nodes a b fs within g =
    subst (λ (xs : List ℕ). AreBelow (length nodes) xs) (sym g.is) (All-append (λ k. k < length nodes) a g.more within g.at.within)

pub grown_trees : (nodes : List Plain) (a b : List ℕ) (fs : List Term) → Grown nodes a b fs → trees_of nodes b ≡ trees_of nodes a ++ fs
grown_trees nodes a b fs g =
    ap (λ (xs : List ℕ). trees_of nodes xs) g.is ∙ map-append (tree_at nodes) a g.more ∙ ap (λ (xs : List Term). trees_of nodes a ++ xs) g.at.are

-- ---- the same for terms alone

pub kept_then : {a b c : List Plain} → Kept a b → Kept b c → Kept a c
kept_then k l = record {
  grows = omega (arith, k.grows, l.grows);
  trees = λ t lt. l.trees t (omega (arith, k.grows)) ∙ k.trees t lt;
}

pub at_itself : {n : List Plain} {r : ℕ} → r < length n → IsAt n r (tree_at n r)
at_itself lt = record { within = lt; is = refl }

pub are_itself : {n : List Plain} {ks : List ℕ} → AreBelow (length n) ks → AreAt n ks (trees_of n ks)
are_itself below = record { within = below; are = refl }
