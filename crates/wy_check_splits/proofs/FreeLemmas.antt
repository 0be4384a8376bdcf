-- Where a name stands free, by the parts of a node.
use Rattle.std.proofs.Common.{◌≡◌, ◌||◌, ◌&&◌, ℕ, List, [], ◌∷◌, ◌++◌, take, Bool, true, false, not, cond, eqb, refl, sym, ap, ◌∙◌}
use Rattle.std.specs.Prelude.{bytes_eq}
use Rattle.wy_lemmas.proofs.Choices.{and_end as and_true, or_none, or_assoc}
use Rattle.wy_check_nodes.specs.wy_term.Term.{Term, leaf, int_name}
use Rattle.wy_check_nodes.specs.wy_term.declared.node.Node.{Node}
use Rattle.wy_check_nodes.specs.wy_term.declared.node.Node.TheVariants as node
use Rattle.wy_check_nodes.specs.wy_term.Nodes.{plain, parts_at, grown}
use Rattle.wy_check_nodes.specs.wy_term.Same.{same_term}
use Rattle.wy_check_nodes.specs.wy_term.Scope.{without, of_all, free_names, free_in}
use Rattle.wy_check_nodes.proofs.wy_term_proofs.SameLemmas.{terms_are, terms_self}
use Rattle.wy_check_splits.specs.Free.{is_among, stands_free, is_it, open_parts}
use Rattle.wy_check_splits.specs.Walk as walk
use Rattle.wy_check_splits.specs.Walk.{any_over}

-- ---- lists of names

pub among_append : (x : Term) (xs ys : List Term) → is_among x (xs ++ ys) ≡ (is_among x xs || is_among x ys)
among_append x [] ys = refl
among_append x (z ∷ zs) ys = ap (λ (b : Bool). same_term x z || b) (among_append x zs ys) ∙ sym (or_assoc (same_term x z) (is_among x zs) (is_among x ys))

-- a term that is another one is equal to what that one is equal to
same_as : (x y z : Term) → same_term y x ≡ true → same_term x z ≡ same_term y z
same_as x y z e = ap (λ (t : Term). same_term t z) (sym (terms_are y x e))

-- one that isn't another isn't what that one is
apart_from : (x y z : Term) → same_term y x ≡ false → same_term y z ≡ true → same_term x z ≡ false
apart_from x y z un is = by (same_term x z) refl
  where
    by : (b : Bool) → same_term x z ≡ b → b ≡ false
    by false e = refl
    by true e =
        let x_is : x ≡ z = terms_are x z e in
        let y_is : y ≡ z = terms_are y z is in
        let same : same_term y x ≡ true = ap (λ (t : Term). same_term t x) (y_is ∙ sym x_is) ∙ terms_self x in
        absurd cc

pub among_without : (x y : Term) (zs : List Term) → is_among x (without y zs) ≡ (not (same_term y x) && is_among x zs)
among_without x y [] = none (same_term y x)
  where
    none : (b : Bool) → false ≡ (not b && false)
    none true = refl
    none false = refl
among_without x y (z ∷ zs) = by (same_term y z) (same_term y x) refl refl (among_without x y zs)
  where
    by : (b c : Bool) → same_term y z ≡ b → same_term y x ≡ c → is_among x (without y zs) ≡ (not (same_term y x) && is_among x zs) → is_among x (cond b (without y zs) (z ∷ without y zs)) ≡ (not c && (same_term x z || is_among x zs))
    by true true e f rest = rest ∙ ap (λ (a : Bool). not a && is_among x zs) f
    by true false e f rest = rest ∙ (ap (λ (a : Bool). not a && is_among x zs) f ∙ ap (λ (a : Bool). a || is_among x zs) (sym (apart_from x y z f e)))
    by false true e f rest = ap (λ (a : Bool). a || is_among x (without y zs)) (same_as x y z f ∙ e) ∙ (rest ∙ ap (λ (a : Bool). not a && is_among x zs) f)
    by false false e f rest = ap (λ (a : Bool). same_term x z || a) (rest ∙ ap (λ (a : Bool). not a && is_among x zs) f)

-- ---- parts

among_parts : (at : ℕ → Term) (w : List ℕ) (n : ℕ) (ks : List ℕ) → is_among (leaf (int_name w n)) (of_all (free_in (parts_at at ks))) ≡ any_over (walk.free_in at w n) ks
among_parts at w n [] = refl
among_parts at w n (k ∷ ks) = among_append (leaf (int_name w n)) (free_names (at k)) (of_all (free_in (parts_at at ks))) ∙ ap (λ (b : Bool). walk.free_in at w n k || b) (among_parts at w n ks)

-- the names of two bounds and of a body, without the name that is bound there
among_bound : (x y : Term) (b : Bool) (s t f : List Term) (whole : List Term) → same_term y x ≡ b → whole ≡ s ++ (t ++ without y f) → is_among x whole ≡ (is_among x s || (is_among x t || (not b && is_among x f)))
among_bound x y b s t f whole e is =
    ap (is_among x) is
    ∙ (among_append x s (t ++ without y f)
    ∙ ap (λ (a : Bool). is_among x s || a) (among_append x t (without y f) ∙ ap (λ (a : Bool). is_among x t || a) (among_without x y f ∙ ap (λ (a : Bool). not a && is_among x f) e)))

-- the same by the numbers of the parts
open_bound : (free : ℕ → Bool) (b : Bool) (s t f : ℕ) → (free s || (free t || (not b && free f))) ≡ any_over free (cond b (take 2 (s ∷ t ∷ f ∷ [])) (s ∷ t ∷ f ∷ []))
open_bound free true s t f = refl
open_bound free false s t f = ap (λ (a : Bool). free s || (free t || a)) (sym (or_none (free f)))

bound_node : (at : ℕ → Term) (w v : List ℕ) (n m s t f : ℕ) (whole : List Term) → whole ≡ free_names (at s) ++ (free_names (at t) ++ without (leaf (int_name v m)) (free_names (at f))) → is_among (leaf (int_name w n)) whole ≡ any_over (walk.free_in at w n) (cond (bytes_eq v w && eqb m n) (take 2 (s ∷ t ∷ f ∷ [])) (s ∷ t ∷ f ∷ []))
bound_node at w v n m s t f whole is =
    among_bound (leaf (int_name w n)) (leaf (int_name v m)) (bytes_eq v w && eqb m n) (free_names (at s)) (free_names (at t)) (free_names (at f)) whole (and_true (bytes_eq v w && eqb m n)) is
    ∙ open_bound (walk.free_in at w n) (bytes_eq v w && eqb m n) s t f

-- a name stands free in a node where the node is it, or where it stands free in one of the parts that are open to it
free_of_node : (at : ℕ → Term) (w : List ℕ) (n : ℕ) (a : Node) → stands_free w n (grown at (plain a)) ≡ (is_it w n (plain a).symbol || any_over (walk.free_in at w n) (open_parts w n (plain a)))
free_of_node at w n (node.All q) = bound_node at w q.word n q.number q.from q.below q.body (free_names (grown at (plain (node.All q)))) refl
free_of_node at w n (node.Some q) = bound_node at w q.word n q.number q.from q.below q.body (free_names (grown at (plain (node.Some q)))) refl
free_of_node at w n (node.IntName v m) = ap (λ (b : Bool). b || false) (and_true (bytes_eq w v && eqb n m))
free_of_node at w n (node.ValName v m) = refl
free_of_node at w n a = among_parts at w n (plain a).parts

pub free_by_parts : (at : ℕ → Term) (w : List ℕ) (n : ℕ) (t : Term) (a : Node) → t ≡ grown at (plain a) → stands_free w n t ≡ (is_it w n (plain a).symbol || any_over (walk.free_in at w n) (open_parts w n (plain a)))
free_by_parts at w n t a e = ap (stands_free w n) e ∙ free_of_node at w n a
