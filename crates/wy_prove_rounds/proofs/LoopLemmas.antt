-- Loops over what stands in a node: what they have done so far is what the definition makes of the first items.
use Rattle.std.proofs.Common.{◌≡◌, ◌∙◌, ◌≤◌, ◌+◌, ℕ, zero, suc, List, [], ◌∷◌, ◌++◌, map, take, length, Bool, true, false, cond, Some, Result, Ok, Err, refl, sym, ap, subst}
use Rattle.std.specs.Prelude.{option_map, slice_get, OnOk}
use Rattle.std.proofs.lemmas.List.{map-append, take_all, take_more}
use Rattle.std.proofs.lemmas.Option.{get_or_from_slice_get, slice_get-map, slice_get_within}
use Rattle.wy_lemmas.proofs.Options.{some_same as some_is}
use Rattle.wy_term.specs.Condition.{Entry}
use Rattle.wy_prove_drafts.specs.wy_check_spec.judge.Node.{Literal, Node, same_literal, has_literal}
use Rattle.wy_prove_drafts.proofs.wy_search_laws_proofs.closing_lemmas.AtLeastLemmas.{literal_self}
use Rattle.wy_prove_drafts.specs.Progress.{Progress}
use Rattle.wy_prove_rounds.specs.Moving.{AllOf, Moves}
use Rattle.wy_prove_rounds.proofs.MovingLemmas.{moves_none, moves_on, moves_as}

take_here : {X : Type 0} (xs : List X) (i : ℕ) (x : X) → slice_get xs i ≡ Some x → take (i + 1) xs ≡ take i xs ++ x ∷ []
take_here xs i x e = take_more xs i x (slice_get_within xs i x e) ∙ ap (λ y. take i xs ++ y ∷ []) (get_or_from_slice_get xs i x x e)

-- the items so far, and one more
pub so_far : {X Y : Type 0} (f : X → Y) (xs : List X) (i : ℕ) (x : X) → slice_get xs i ≡ Some x → map f (take (i + 1) xs) ≡ map f (take i xs) ++ f x ∷ []
so_far f xs i x e = ap (map f) (take_here xs i x e) ∙ map-append f (take i xs) (x ∷ [])

pub all_so_far : {X Y : Type 0} (f : X → Y) (xs : List X) (i : ℕ) → length xs ≤ i → map f (take i xs) ≡ map f xs
all_so_far f xs i le = ap (map f) (take_all i xs le)

-- ---- what holds of each item

pub of_all : {X Y : Type 0} (P : Y → Type 0) (f : X → Y) (xs : List X) (i : ℕ) (x : X) → slice_get xs i ≡ Some x → AllOf P (map f xs) → P (f x)
of_all P f [] i x e h = absurd cc
of_all P f (y ∷ ys) zero x e h = subst (λ z. P (f z)) (some_is y x e) h.0
of_all P f (y ∷ ys) (suc i) x e h = of_all P f ys i x e h.1

pub slice_there : (ls : List Literal) (i : ℕ) (l : Literal) → slice_get ls i ≡ Some l → has_literal ls l ≡ true
slice_there [] i l e = absurd cc
slice_there (k ∷ ks) zero l e = ap (λ (m : Literal). has_literal (m ∷ ks) l) (some_is k l e) ∙ ap (λ (b : Bool). cond b true (has_literal ks l)) (literal_self l)
slice_there (k ∷ ks) (suc i) l e = by (same_literal k l) (slice_there ks i l e)
  where
    by : (b : Bool) → has_literal ks l ≡ true → cond b true (has_literal ks l) ≡ true
    by true g = refl
    by false g = g

pub literal_there : {X : Type 0} (f : X → Literal) (xs : List X) (i : ℕ) (x : X) → slice_get xs i ≡ Some x → has_literal (map f xs) (f x) ≡ true
literal_there f xs i x e = slice_there (map f xs) i (f x) (slice_get-map f xs i ∙ ap (option_map f) e)

-- ---- functions of a list that take one item after the other

pub one_more : {S X : Type 0} (F : S → List X → S) (g : S → X → S) → ((s : S) → F s [] ≡ s) → ((s : S) (x : X) (xs : List X) → F s (x ∷ xs) ≡ F (g s x) xs) → (xs : List X) (x : X) (s : S) → F s (xs ++ x ∷ []) ≡ g (F s xs) x
one_more F g none so [] x s = so s x [] ∙ none (g s x) ∙ ap (λ r. g r x) (sym (none s))
one_more F g none so (y ∷ ys) x s = so s y (ys ++ x ∷ []) ∙ one_more F g none so ys x (g s y) ∙ ap (λ r. g r x) (sym (so s y ys))

-- ---- moves

module _ {X Y : Type 0} (types : List Entry) (base : Node) (F : Node → List Y → Node) (g : Node → Y → Node) (none : (node : Node) → F node [] ≡ node) (so : (node : Node) (y : Y) (ys : List Y) → F node (y ∷ ys) ≡ F (g node y) ys) (f : X → Y) (xs : List X) where
  pub loop_begins : (d : Progress) → Moves types base (λ node. F node (map f (take 0 xs))) d d
  loop_begins d = moves_none types base (λ node. F node (map f (take 0 xs))) d (λ node. sym (none node))

  pub loop_goes : (i : ℕ) (x : X) (old now new : Progress) → slice_get xs i ≡ Some x → Moves types base (λ node. F node (map f (take i xs))) old now → Moves types base (λ node. g node (f x)) now new → Moves types base (λ node. F node (map f (take (i + 1) xs))) old new
  loop_goes i x old now new here h k =
      moves_as types base (λ node. g (F node (map f (take i xs))) (f x)) (λ node. F node (map f (take (i + 1) xs))) old new
      (λ node. sym (ap (F node) (so_far f xs i x here) ∙ one_more F g none so (map f (take i xs)) (f x) node))
      (moves_on types base (λ node. F node (map f (take i xs))) (λ node. g node (f x)) old now new h k)

  pub loop_ends : (i : ℕ) (old now : Progress) → length xs ≤ i → Moves types base (λ node. F node (map f (take i xs))) old now → Moves types base (λ node. F node (map f xs)) old now
  loop_ends i old now le h = moves_as types base (λ node. F node (map f (take i xs))) (λ node. F node (map f xs)) old now (λ node. ap (F node) (all_so_far f xs i le)) h

-- ---- as more terms are there

pub moves_at : {X : Type 0} (es fs : List Entry) (b c : Node) (t u : X) (M : List Entry → Node → X → Node → Node) (old new : Progress) → es ≡ fs → b ≡ c → t ≡ u → Moves es b (M es b t) old new → Moves fs c (M fs c u) old new
moves_at es fs b c t u M old new types base same h =
    subst (λ (x : _). Moves fs c (M fs c x) old new) same
    (subst (λ (n : Node). Moves fs n (M fs n t) old new) base
    (subst (λ (ts : List Entry). Moves ts b (M ts b t) old new) types h))

-- the same of an answer
pub moves_from : {X E : Type 0} (r : Result X E) (es fs : List Entry) (b c : Node) (d e : Progress) (f g : Node → Node) (new : Progress) → es ≡ fs → b ≡ c → d ≡ e → ((node : Node) → f node ≡ g node) → OnOk r (Moves es b f d new) → OnOk r (Moves fs c g e new)
moves_from (Ok x) es fs b c d e f g new types base draft so h =
    moves_as fs c f g e new so
    (subst (λ (p : Progress). Moves fs c f p new) draft
    (subst (λ (n : Node). Moves fs n f d new) base
    (subst (λ (ts : List Entry). Moves ts b f d new) types h)))
moves_from (Err x) es fs b c d e f g new types base draft so h = tt
