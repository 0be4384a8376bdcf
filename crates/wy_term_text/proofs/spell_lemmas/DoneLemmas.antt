-- Terms by number while the list grows.
use Rattle.std.proofs.Common.{◌≡◌, ◌↔◌, Bool, false, IsTrue, ℕ, zero, suc, ◌-◌, ◌<◌, ◌≤◌, List, [], ◌∷◌, ◌++◌, All, length, take, drop, refl, sym, ap, ◌∙◌, subst, arith}
use Rattle.std.proofs.lemmas.List.Elements.{All-append, All-take, All-drop}
use Rattle.wy_term.proofs.wy_lemmas_proofs.Choices.{unlike as true_false}
use Rattle.wy_term.specs.Term.{Symbol, Term, Of, Parts, part}
use Rattle.wy_term.specs.Folding.{folded}
use Rattle.wy_term.specs.Nodes.{Plain, tree_at, parts_at, grown, of, HasPartsBelow}
use Rattle.wy_term_text.specs.spell.Todo.{arity, Has, as_parts}
use Rattle.wy_term_text.specs.spell.Done.{trees, IsMade, CannotBe}
use Rattle.wy_term.proofs.wy_data_proofs.scan_lemmas.WordLemmas.{from_true}
use Rattle.std.proofs.lemmas.List.{length-drop, take_all}

pub parts_at-trees : (nodes : List Plain) (ks : List ℕ) → parts_at (tree_at nodes) ks ≡ as_parts (trees nodes ks)
parts_at-trees nodes [] = refl
parts_at-trees nodes (k ∷ ks) = ap (part (tree_at nodes k)) (parts_at-trees nodes ks)

pub trees-drop : (nodes : List Plain) (n : ℕ) (ks : List ℕ) → drop n (trees nodes ks) ≡ trees nodes (drop n ks)
trees-drop nodes zero ks = refl
trees-drop nodes (suc n) [] = refl
trees-drop nodes (suc n) (k ∷ ks) = trees-drop nodes n ks

pub trees-take : (nodes : List Plain) (n : ℕ) (ks : List ℕ) → take n (trees nodes ks) ≡ trees nodes (take n ks)
trees-take nodes zero ks = refl
trees-take nodes (suc n) [] = refl
trees-take nodes (suc n) (k ∷ ks) = ap (λ (x : List Term). tree_at nodes k ∷ x) (trees-take nodes n ks)

trees-append : (nodes : List Plain) (ks : List ℕ) (t : ℕ) → trees nodes (ks ++ t ∷ []) ≡ trees nodes ks ++ tree_at nodes t ∷ []
trees-append nodes [] t = refl
trees-append nodes (k ∷ ks) t = ap (λ (x : List Term). tree_at nodes k ∷ x) (trees-append nodes ks t)

pub trees_length : (nodes : List Plain) (ks : List ℕ) → length (trees nodes ks) ≡ length ks
trees_length nodes [] = refl
trees_length nodes (k ∷ ks) = ap suc (trees_length nodes ks)

trees_kept : (old new : List Plain) (ks : List ℕ) → ((t : ℕ) → t < length old → tree_at new t ≡ tree_at old t) → All (λ k. k < length old) ks → trees new ks ≡ trees old ks
trees_kept old new [] kept below = refl
trees_kept old new (k ∷ ks) kept below =
    let first : tree_at new k ≡ tree_at old k = kept k (below 0 k (omega arith)) in
    let rest : trees new ks ≡ trees old ks = trees_kept old new ks kept (λ j e inside. below (suc j) e (omega arith)) in
    cc

pub below_parts : (ks : List ℕ) (nodes : List Plain) (symbol : Symbol) (base : ℕ) (n : Plain) → n ≡ of symbol (drop base ks) → All (λ k. k < length nodes) ks → HasPartsBelow (length nodes) n
below_parts ks nodes symbol base n is below = subst (HasPartsBelow (length nodes)) (sym is) (All-drop (λ k. k < length nodes) base ks below)

pub below_push : (old new : List Plain) (ks : List ℕ) (base t : ℕ) → length old ≤ length new → t < length new → All (λ k. k < length old) ks → All (λ k. k < length new) (take base ks ++ t ∷ [])
below_push old new ks base t grows within below =
    All-append (λ k. k < length new) (take base ks) (t ∷ []) (λ j d inside. omega (arith, All-take (λ k. k < length old) base ks below j d inside, grows)) one
  where
    one : All (λ k. k < length new) (t ∷ [])
    one zero d lt = within
    one (suc j) d lt = absurd (omega arith)

pub made_of : (old new : List Plain) (ks : List ℕ) (symbol : Symbol) (base t : ℕ) (n : Plain) → n ≡ of symbol (drop base ks)
    → All (λ k. k < length old) ks → ((j : ℕ) → j < length old → tree_at new j ≡ tree_at old j) → base ≤ length ks → Has (arity symbol) (length (drop base ks))
    → tree_at new t ≡ folded (grown (tree_at old) n) → IsMade symbol base (trees old ks) (trees new (take base ks ++ t ∷ []))
made_of old new ks symbol base t n plain below kept within has is = record {
  within = omega (arith, trees_length old ks, within);
  has = subst (Has (arity symbol)) (sym (ap length (trees-drop old base ks) ∙ trees_length old (drop base ks))) has;
  is =
      trees-append new (take base ks) t
      ∙ ap (λ (x : List Term). x ++ tree_at new t ∷ []) (trees_kept old new (take base ks) kept (All-take (λ k. k < length old) base ks below) ∙ sym (trees-take old base ks))
      ∙ ap (λ (x : Term). take base (trees old ks) ++ x ∷ []) (is ∙ ap (λ (m : Plain). folded (grown (tree_at old) m)) plain ∙ ap (λ (x : Parts). folded (Of symbol x)) (parts_at-trees old (drop base ks) ∙ ap as_parts (sym (trees-drop old base ks))));
}

-- what a slice to the end holds
pub sliced : (raw ks : List ℕ) (base : ℕ) → raw ≡ ks → take (length raw - base) (drop base raw) ≡ drop base ks
sliced raw ks base same = take_all (length raw - base) (drop base raw) (omega (arith, length-drop base raw)) ∙ ap (drop base) same

-- too few terms are done
pub cannot_short : (nodes : List Plain) (ks : List ℕ) (symbol : Symbol) (base : ℕ) → length ks < base → CannotBe symbol base (trees nodes ks)
cannot_short nodes ks symbol base short = record { none = λ within has. absurd (omega (arith, short, within, trees_length nodes ks)) }

-- or another number of them
pub cannot_count : (nodes : List Plain) (ks : List ℕ) (symbol : Symbol) (base : ℕ) (b : Bool) → (IsTrue b ↔ Has (arity symbol) (length ks - base)) → b ≡ false → CannotBe symbol base (trees nodes ks)
cannot_count nodes ks symbol base b fits fails = record {
  none = λ within has. true_false b (from_true b (fits.1 (subst (Has (arity symbol)) (length-drop base (trees nodes ks) ∙ ap (λ n. n - base) (trees_length nodes ks)) has))) fails;
}

pub ruleset make_steps = (made_of, below_parts, below_push)

pub ruleset make_covers = (cannot_short, cannot_count)
