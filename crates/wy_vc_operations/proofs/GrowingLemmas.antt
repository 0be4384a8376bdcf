-- Lists of terms that grow.
use Rattle.std.proofs.Common.{◌≡◌, ◌<◌, ◌≤◌, ℕ, suc, List, [], ◌∷◌, length, map, All, Result, Ok, Err, IfOk, refl, ◌∙◌, ap, subst, sym, arith}
use Rattle.std.proofs.lemmas.List.Elements.{All-nil, All-cons}
use Rattle.wy_term.specs.Term.{Symbol, Term, Of, Parts, no_parts, part}
use Rattle.wy_term.specs.Nodes.{Plain, tree_at, parts_at}
use Rattle.wy_term.specs.Numbers.{IsAt}
use Rattle.wy_term.specs.Folding.{folded}
use Rattle.wy_vc_spec.specs.Making.{of_one, of_two, of_three, of_all, parts_of}
use Rattle.wy_vc_operations.specs.Growing.{Kept, Makes, AreAt, AreBelow}

pub kept_all : (ns : List Plain) → Kept ns ns
kept_all ns = record { grows = omega arith; trees = λ t lt. refl }

pub kept_on : {a b c : List Plain} → Kept a b → Kept b c → Kept a c
kept_on k l = record {
  grows = omega (arith, k.grows, l.grows);
  trees = λ t lt. l.trees t (omega (arith, k.grows)) ∙ k.trees t lt;
}

pub here_kept : {old new : List Plain} {t : ℕ} {tree : Term} → Kept old new → IsAt old t tree → IsAt new t tree
here_kept {t = t} k at = record { within = omega (arith, k.grows, at.within); is = k.trees t at.within ∙ at.is }

-- what is made of what was made before
pub onward : {a b c : List Plain} {t : ℕ} {tree : Term} → Kept a b → Makes b c t tree → Makes a c t tree
onward k m = record { here = m.here; kept = kept_on k m.kept }

-- the same where it may not come about
pub onward_if : {E : Type 0} (r : Result ℕ E) (a b c : List Plain) (tree : Term) → Kept a b → IfOk r (λ t. Makes b c t tree) → IfOk r (λ t. Makes a c t tree)
onward_if (Ok t) a b c tree k m = onward k m
onward_if (Err e) a b c tree k m = m

-- ---- a node's term

pub makes_of : {E : Type 0} (r : Result ℕ E) (old new : List Plain) (tree : Term) → IfOk r (λ t. tree_at new t ≡ tree) → IfOk r (λ t. t < length new) → ((t : ℕ) → t < length old → tree_at new t ≡ tree_at old t) → length old ≤ length new → IfOk r (λ t. Makes old new t tree)
makes_of (Ok t) old new tree is within trees grows = record { here = record { within = within; is = is }; kept = record { grows = grows; trees = trees } }
makes_of (Err e) old new tree is within trees grows = tt

pub by_one : {E : Type 0} (r : Result ℕ E) (old new : List Plain) (symbol : Symbol) (v : ℕ) (t : Term) → IfOk r (λ k. Makes old new k (of_one symbol (tree_at old v))) → IsAt old v t → IfOk r (λ k. Makes old new k (of_one symbol t))
by_one r old new symbol v t made at = subst (λ (x : Term). IfOk r (λ k. Makes old new k (of_one symbol x))) at.is made

pub by_two : {E : Type 0} (r : Result ℕ E) (old new : List Plain) (symbol : Symbol) (v w : ℕ) (t u : Term) → IfOk r (λ k. Makes old new k (of_two symbol (tree_at old v) (tree_at old w))) → IsAt old v t → IsAt old w u → IfOk r (λ k. Makes old new k (of_two symbol t u))
by_two r old new symbol v w t u made at also =
    subst (λ (y : Term). IfOk r (λ k. Makes old new k (of_two symbol t y))) also.is (subst (λ (x : Term). IfOk r (λ k. Makes old new k (of_two symbol x (tree_at old w)))) at.is made)

pub by_three : {E : Type 0} (r : Result ℕ E) (old new : List Plain) (symbol : Symbol) (v w x : ℕ) (t u s : Term) → IfOk r (λ k. Makes old new k (of_three symbol (tree_at old v) (tree_at old w) (tree_at old x))) → IsAt old v t → IsAt old w u → IsAt old x s → IfOk r (λ k. Makes old new k (of_three symbol t u s))
by_three r old new symbol v w x t u s made at also third =
    subst (λ (z : Term). IfOk r (λ k. Makes old new k (of_three symbol t u z))) third.is
    (subst (λ (y : Term). IfOk r (λ k. Makes old new k (of_three symbol t y (tree_at old x)))) also.is
    (subst (λ (z : Term). IfOk r (λ k. Makes old new k (of_three symbol z (tree_at old w) (tree_at old x)))) at.is made))

-- ---- terms in order

pub parts_by : (at : ℕ → Term) (ks : List ℕ) → parts_at at ks ≡ parts_of (map at ks)
parts_by at [] = refl
parts_by at (k ∷ ks) = ap (λ (ps : Parts). part (at k) ps) (parts_by at ks)

pub by_all : {E : Type 0} (r : Result ℕ E) (old new : List Plain) (symbol : Symbol) (ks : List ℕ) (ts : List Term) → IfOk r (λ k. Makes old new k (folded (Of symbol (parts_at (tree_at old) ks)))) → AreAt old ks ts → IfOk r (λ k. Makes old new k (of_all symbol ts))
by_all r old new symbol ks ts made are =
    subst (λ (ps : Parts). IfOk r (λ k. Makes old new k (folded (Of symbol ps)))) (parts_by (tree_at old) ks ∙ ap (λ (l : List Term). parts_of l) are.are) made

pub none_at : (ns : List Plain) → AreAt ns [] []
none_at ns = record { within = All-nil (λ k. k < length ns); are = refl }

pub more_at : {ns : List Plain} {k : ℕ} {ks : List ℕ} {t : Term} {ts : List Term} → IsAt ns k t → AreAt ns ks ts → AreAt ns (k ∷ ks) (t ∷ ts)
more_at {ns} {k} {ks} {t} {ts} at are = record {
  within = All-cons (λ j. j < length ns) k ks at.within are.within;
  are = ap (λ (x : Term). x ∷ map (tree_at ns) ks) at.is ∙ ap (λ (l : List Term). t ∷ l) are.are;
}

pub below_on : (m n : ℕ) (ks : List ℕ) → m ≤ n → AreBelow m ks → AreBelow n ks
below_on m n ks h below = λ k d lt. omega (arith, below k d lt)

pub below_head : (n k : ℕ) (ks : List ℕ) → AreBelow n (k ∷ ks) → k < n
below_head n k ks below = below 0 k (omega arith)

pub below_tail : (n k : ℕ) (ks : List ℕ) → AreBelow n (k ∷ ks) → AreBelow n ks
below_tail n k ks below = λ j d lt. below (suc j) d (omega (arith, lt))

map_kept : (old new : List Plain) (ks : List ℕ) → Kept old new → AreBelow (length old) ks → map (tree_at new) ks ≡ map (tree_at old) ks
map_kept old new [] kept below = refl
map_kept old new (k ∷ ks) kept below =
    ap (λ (x : Term). x ∷ map (tree_at new) ks) (kept.trees k (below_head (length old) k ks below)) ∙ ap (λ (l : List Term). tree_at old k ∷ l) (map_kept old new ks kept (below_tail (length old) k ks below))

pub all_kept : {old new : List Plain} {ks : List ℕ} {ts : List Term} → Kept old new → AreAt old ks ts → AreAt new ks ts
all_kept {old} {new} {ks} kept are = record {
  within = below_on (length old) (length new) ks kept.grows are.within;
  are = map_kept old new ks kept are.within ∙ are.are;
}
