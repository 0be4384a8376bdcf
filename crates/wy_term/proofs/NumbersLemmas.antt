-- What numbers name as a list of nodes grows.
use Rattle.std.proofs.Common.{◌≡◌, ◌<◌, ◌≤◌, ℕ, suc, List, [], ◌∷◌, ◌++◌, All, length, Result, Ok, Err, refl, sym, ap, ◌∙◌, arith, append_assoc, length-append}
use Rattle.std.specs.Prelude.{IfOk}
use Rattle.wy_term.specs.Term.{Term, Of, Parts}
use Rattle.wy_term.specs.Nodes.{Plain, HasPartsBelow, AreNodes, Extends, Adds, grown, parts_at, tree_at}
use Rattle.wy_term.specs.Numbers.{IsAt, Keeps}
use Rattle.wy_term.proofs.NodesLemmas.{interned, kept_inside, length-extends}

pub keeps_on : (a b c : List Plain) → Keeps a b → Keeps b c → Keeps a c
keeps_on a b c k l = record {
  grows = omega (arith, k.grows, l.grows);
  trees = λ t lt. l.trees t (omega (arith, k.grows)) ∙ k.trees t lt;
  extends = (k.extends.0 ++ l.extends.0, l.extends.1 ∙ ap (λ (ns : List Plain). ns ++ l.extends.0) k.extends.1 ∙ append_assoc a k.extends.0 l.extends.0);
}

pub IsAt_kept : (old new : List Plain) (t : ℕ) (tree : Term) → Keeps old new → IsAt old t tree → IsAt new t tree
IsAt_kept old new t tree k at = record { within = omega (arith, k.grows, at.within); is = k.trees t at.within ∙ at.is }

pub parts_kept : (old new : List Plain) (ks : List ℕ) → Keeps old new → All (λ k. k < length old) ks → parts_at (tree_at new) ks ≡ parts_at (tree_at old) ks
parts_kept old new [] k below = refl
parts_kept old new (j ∷ ks) k below = rw (k.trees j (below 0 j (omega arith)), parts_kept old new ks k (λ i d lt. below (suc i) d (omega arith))) refl

-- ---- of a value whose nodes are known to be those inside

pub keeps_inside : (seen inside new : List Plain) → seen ≡ inside → Extends inside new → Keeps seen new
keeps_inside seen inside new same extends = record {
  grows = omega (arith, ap length same, length-extends inside new extends);
  trees = kept_inside seen inside new same extends;
  extends = (extends.0, extends.1 ∙ ap (λ (ns : List Plain). ns ++ extends.0) (sym same));
}

pub put_if : (seen inside new : List Plain) (n : Plain) {E : Type 0} (r : Result ℕ E) → seen ≡ inside → AreNodes inside → HasPartsBelow (length seen) n → IfOk r (Adds inside new n) → IfOk r (λ t. IsAt new t (grown (tree_at seen) n))
put_if seen inside new n (Ok t) same are below adds = record { within = adds.within; is = interned seen inside new n t same are below adds }
put_if seen inside new n (Err e) same are below adds = tt
