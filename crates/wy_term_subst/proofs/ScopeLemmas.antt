-- Scopes, as they grow and as the list of nodes does.
use Rattle.std.proofs.Common.{◌≡◌, ◌<◌, ◌≤◌, ℕ, zero, suc, List, [], ◌∷◌, ◌++◌, All, length, get_or, map, refl, sym, ap, ◌∙◌, subst, arith, length-append}
use Rattle.std.proofs.lemmas.List.{append-nil}
use Rattle.wy_term.specs.Nodes.{Plain, tree_at, parts_at}
use Rattle.wy_term.specs.ReplacingView.{seen_pairs, AreBelow}
use Rattle.wy_term_subst.specs.declared.scope.Scope.{Scope}
use Rattle.wy_term_subst.specs.View.{Kept}
use Rattle.wy_term_subst.specs.Walk.{pairs_in, env_in, AreScopes, Grows, Enters}

pub pairs_read : (ss : List Scope) (s : ℕ) (x : Scope) → s < length ss → x ≡ get_or ss s x → x.pairs.items ≡ pairs_in ss s
pairs_read [] s x lt e = absurd (omega arith)
pairs_read (y ∷ ss) zero x lt e = ap (λ (z : Scope). z.pairs.items) e
pairs_read (y ∷ ss) (suc s) x lt e = pairs_read ss s x (omega arith) e

pub pairs_in-append : (ss more : List Scope) (s : ℕ) → s < length ss → pairs_in (ss ++ more) s ≡ pairs_in ss s
pairs_in-append [] more s lt = absurd (omega arith)
pairs_in-append (x ∷ ss) more zero lt = refl
pairs_in-append (x ∷ ss) more (suc s) lt = pairs_in-append ss more s (omega arith)

pub pairs_in-last : (ss : List Scope) (x : Scope) → pairs_in (ss ++ x ∷ []) (length ss) ≡ x.pairs.items
pairs_in-last [] x = refl
pairs_in-last (y ∷ ss) x = pairs_in-last ss x

pub AreBelow_up : (m n : ℕ) (ps : List (ℕ × ℕ)) → m ≤ n → AreBelow m ps → AreBelow n ps
AreBelow_up m n ps le below i d lt = let here = below i d lt in (omega (arith, le, here.0), omega (arith, le, here.1))

pub AreBelow_cons : (n : ℕ) (p : ℕ × ℕ) (ps : List (ℕ × ℕ)) → (p.0 < n) × (p.1 < n) → AreBelow n ps → AreBelow n (p ∷ ps)
AreBelow_cons n p ps here below zero d lt = here
AreBelow_cons n p ps here below (suc i) d lt = below i d (omega arith)

pub AreBelow_none : (n : ℕ) → AreBelow n []
AreBelow_none n i d lt = absurd (omega arith)

pub AreScopes_up : (m n : ℕ) (ss : List Scope) → m ≤ n → AreScopes m ss → AreScopes n ss
AreScopes_up m n [] le below = tt
AreScopes_up m n (x ∷ ss) le below = (AreBelow_up m n x.pairs.items le below.0, AreScopes_up m n ss le below.1)

pub AreScopes-at : (n : ℕ) (ss : List Scope) (s : ℕ) → AreScopes n ss → AreBelow n (pairs_in ss s)
AreScopes-at n [] s below = AreBelow_none n
AreScopes-at n (x ∷ ss) zero below = below.0
AreScopes-at n (x ∷ ss) (suc s) below = AreScopes-at n ss s below.1

AreScopes-push : (n : ℕ) (ss : List Scope) (x : Scope) → AreScopes n ss → AreBelow n x.pairs.items → AreScopes n (ss ++ x ∷ [])
AreScopes-push n [] x below here = (here, tt)
AreScopes-push n (y ∷ ss) x below here = (below.0, AreScopes-push n ss x below.1 here)

-- ---- one more scope

pub entered_scope : (old new : List Scope) (x : Scope) (n : ℕ) (pairs : List (ℕ × ℕ)) → new ≡ old ++ x ∷ [] → n ≡ length old → x.pairs.items ≡ pairs → Enters old new n pairs
entered_scope old new x n pairs is at has = record {
  grows = (x ∷ [], is);
  within = omega (arith, at, ap length is, length-append old (x ∷ []));
  has = ap (pairs_in new) at ∙ (ap (λ (ss : List Scope). pairs_in ss (length old)) is ∙ (pairs_in-last old x ∙ has));
  below = λ m all below. subst (AreScopes m) (sym is) (AreScopes-push m old x below (subst (AreBelow m) (sym has) all));
}

pub grows_self : (ss : List Scope) → Grows ss ss
grows_self ss = ([], sym (append-nil ss))

pub grows_length : (old new : List Scope) → Grows old new → length old ≤ length new
grows_length old new g = omega (arith, ap length g.1, length-append old g.0)

-- ---- what names stand for, in a list of nodes that grew

pub kept_on : (a b c : List Plain) → Kept a b → Kept b c → Kept a c
kept_on a b c k l = record {
  grows = omega (arith, k.grows, l.grows);
  trees = λ t lt. l.trees t (omega (arith, k.grows)) ∙ k.trees t lt;
}

pub seen_kept : (old new : List Plain) (ps : List (ℕ × ℕ)) → Kept old new → AreBelow (length old) ps → seen_pairs (tree_at new) ps ≡ seen_pairs (tree_at old) ps
seen_kept old new [] k below = refl
seen_kept old new (p ∷ ps) k below =
    let here = below 0 p (omega arith) in
    rw (k.trees p.0 here.0, k.trees p.1 here.1, seen_kept old new ps k (λ i d lt. below (suc i) d (omega arith))) refl

pub env_kept : (old new : List Plain) (ss more : List Scope) (s : ℕ) → Kept old new → AreScopes (length old) ss → Grows ss more → s < length ss → env_in new more s ≡ env_in old ss s
env_kept old new ss more s k below g lt =
    ap (λ (rs : List Scope). env_in new rs s) g.1
    ∙ (ap (seen_pairs (tree_at new)) (pairs_in-append ss g.0 s lt) ∙ seen_kept old new (pairs_in ss s) k (AreScopes-at (length old) ss s below))

pub parts_kept : (old new : List Plain) (ks : List ℕ) → Kept old new → All (λ k. k < length old) ks → parts_at (tree_at new) ks ≡ parts_at (tree_at old) ks
parts_kept old new [] k below = refl
parts_kept old new (j ∷ ks) k below = rw (k.trees j (below 0 j (omega arith)), parts_kept old new ks k (λ i d lt. below (suc i) d (omega arith))) refl

pub trees_kept : (old new : List Plain) (ks : List ℕ) → Kept old new → All (λ k. k < length old) ks → map (tree_at new) ks ≡ map (tree_at old) ks
trees_kept old new [] k below = refl
trees_kept old new (j ∷ ks) k below = rw (k.trees j (below 0 j (omega arith)), trees_kept old new ks k (λ i d lt. below (suc i) d (omega arith))) refl

pub all_up : (m n : ℕ) (ks : List ℕ) → m ≤ n → All (λ k. k < m) ks → All (λ k. k < n) ks
all_up m n ks le below i d lt = let here = below i d lt in omega (arith, le, here)
