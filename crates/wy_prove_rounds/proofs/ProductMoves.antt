-- Products of bounds.
use Rattle.std.proofs.Common.{◌≡◌, ◌∙◌, ◌-◌, ℕ, List, Bool, true, false, cond, eqb, ℤ, Option, Some, None, Result, refl, sym, ap₂, subst}
use Rattle.std.specs.Prelude.{slice_get, IfNone, IfOk, IfSome}
use Rattle.wy_search.proofs.wy_search_bounds_proofs.ProductLemmas.{first_of}
use Rattle.wy_search.specs.wy_search_bounds.Bounds.{AreBounds, Pushes}
use Rattle.wy_search.specs.wy_search_bounds.declared.tightest.Bound.{Bound}
use Rattle.wy_lemmas.proofs.Options.{some_same as some_is}
use Rattle.wy_term.specs.Condition.{Entry}
use Rattle.wy_prove_drafts.specs.wy_search_spec.Expansion.{with_product}
use Rattle.wy_prove_drafts.specs.Progress.{Progress}
use Rattle.wy_prove_rounds.specs.Moving.{Moves}
use Rattle.wy_prove_rounds.proofs.LoopLemmas.{slice_there}
use Rattle.wy_prove_rounds.proofs.MovingLemmas.{moves_none}
use Rattle.wy_term.specs.Term.{Term}
use Rattle.wy_lin.specs.Linear.{◌>>=◌, Linear}
use Rattle.wy_lin.specs.TermForm.{form_of, form_of_literal}
use Rattle.wy_prove_drafts.specs.wy_check_spec.judge.Node.{Literal, Node, has_literal}
use Rattle.wy_prove_drafts.specs.wy_check_spec.valid.Literals.{literal_at, formula_of}
use Rattle.wy_prove_drafts.specs.wy_check_spec.valid.Sums.{form_at}
use Rattle.wy_prove_drafts.specs.wy_check_spec.valid.Products.{Affine, affine, as_product, product_of, product_stated}

-- a literal with a number stands there
pub numbered_there : (ls : List Literal) (i : ℕ) (l : Literal) → literal_at ls i ≡ Some l → has_literal ls l ≡ true
numbered_there ls i l e = by (eqb i 0) e
  where
    by : (b : Bool) → cond b None (slice_get ls (i - 1)) ≡ Some l → has_literal ls l ≡ true
    by true f = absurd cc
    by false f = slice_there ls (i - 1) l f

abbrev form_by : Option Literal → Option (Linear Term)
form_by o = o >>= λ l. form_of_literal (formula_of l)

abbrev stated_by : Option (Linear Term) → Option (Linear Term) → Term → Option Term
stated_by a b p = as_product p >>= λ u. form_of u.0 >>= λ f. form_of u.1 >>= λ g. a >>= λ h. b >>= λ k. affine f h >>= λ x. affine g k >>= λ y. product_of p u.0 u.1 x y

-- the same literals state the same of a product, whatever their numbers
pub stated_same : (ls ms : List Literal) (i j a b : ℕ) (p : Term) → literal_at ls i ≡ literal_at ms a → literal_at ls j ≡ literal_at ms b → product_stated ls i j p ≡ product_stated ms a b p
stated_same ls ms i j a b p one two = ap₂ (λ (o q : Option Literal). stated_by (form_by o) (form_by q) p) one two

-- a literal that is a bound is there
pub record IsThere (ls : List Literal) (n : ℕ) : Type 0 where
  pub literal : Literal
  pub is : literal_at ls n ≡ Some literal

pub bound_there : (ls : List Literal) (n : ℕ) (f : Linear Term) (x : Affine) → (form_at ls n >>= λ h. affine f h) ≡ Some x → IsThere ls n
bound_there ls n f x e = by (literal_at ls n) refl e
  where
    by : (o : Option Literal) → literal_at ls n ≡ o → (form_by o >>= λ h. affine f h) ≡ Some x → IsThere ls n
    by None g k = absurd cc
    by (Some l) g k = record { literal = l; is = g }

-- what two bounds lead to, as more terms are there
pub product_led : (leads : Node → (Node → Node) → Type 0) (now old : Node) (p q s t : Term) (x y : Option Bound) (f g : Linear Term) (b c : Bool) (v w : Option (Affine × ℤ)) → now ≡ old → p ≡ q → as_product q ≡ Some (s, t) → form_of s ≡ Some f → form_of t ≡ Some g → AreBounds old.literals f b x v → AreBounds old.literals g c y w → Pushes now.literals p x y (leads now) → leads old (λ done. with_product q s t done (first_of v) (first_of w))
product_led leads now old p q s t x y f g b c v w node tree factors one two first second pushes =
    (subst (λ (u : Term). Pushes old.literals u x y (leads old)) tree (subst (λ (n : Node). Pushes n.literals p x y (leads n)) node pushes)) s t f g b c v w factors one two first second

-- nothing was written, but more terms are there
pub moves_kept : (types : List Entry) (base : Node) (more : Node → Node) (d e : Progress) → e ≡ d → ((node : Node) → node ≡ more node) → Moves types base more d e
moves_kept types base more d e same so = subst (λ (p : Progress). Moves types base more d p) (sym same) (moves_none types base more d so)

-- ---- numbers of literals

pub if_there : {E : Type 0} (r : Result (Option ℕ) E) (ls : List Literal) (l : Literal) (o : Option Literal) → Some l ≡ o → IfOk r (λ q. IfSome q (λ k. literal_at ls k ≡ Some l)) → IfOk r (λ q. IfSome q (λ k. literal_at ls k ≡ o))
if_there r ls l o e h = subst (λ (q : Option Literal). IfOk r (λ m. IfSome m (λ k. literal_at ls k ≡ q))) e h

pub if_lacking : {E : Type 0} (r : Result (Option ℕ) E) (ls : List Literal) (l m : Literal) (o : Option Literal) → Some l ≡ o → o ≡ Some m → IfOk r (λ q. IfNone q (has_literal ls l ≡ false)) → IfOk r (λ q. IfNone q (has_literal ls m ≡ false))
if_lacking r ls l m o e is h = subst (λ (k : Literal). IfOk r (λ q. IfNone q (has_literal ls k ≡ false))) (some_is l m (e ∙ is)) h
