-- The numbers by which one form comes of another, step by step.
use Rattle.std.proofs.Common.{◌≡◌, Bool, true, ℤ, ◌*ℤ◌, ◌-ℤ◌, Option, Some, sym, ap, ◌∙◌}
use Rattle.wy_facts.specs.Schema.{only_if}
use Rattle.wy_lemmas.proofs.Options.{some_ratio}
use Rattle.wy_term.specs.Term.{Term}
use Rattle.wy_term.specs.Same.{same_term}
use Rattle.wy_lin.specs.Linear.{◌>>=◌, Linear, coefficient}
use Rattle.wy_vc_laws.specs.wy_check_spec.valid.Products.{leading, ratio, is_multiple, Affine, affine}

abbrev some_pair : ℤ × Term → Option (ℤ × Term)
some_pair p = Some p

abbrev some_affine : ℤ → ℤ → Option Affine
some_affine a c = Some (record { factor = a; more = c })

module _ (f g : Linear Term) where
  -- what is left to be done once the factor is known
  abbrev behind : ℤ → Option Affine
  behind a = only_if (is_multiple a f g) (some_affine a (g.constant -ℤ a *ℤ f.constant))

  affine_with : (o : Option (ℤ × Term)) → o ≡ leading f.parts → affine f g ≡ (o >>= λ p. ratio p.0 (coefficient same_term g.parts p.1) >>= λ a. behind a)
  affine_with o e = sym (ap (λ (x : Option (ℤ × Term)). x >>= λ p. ratio p.0 (coefficient same_term g.parts p.1) >>= λ a. behind a) e)

  affine_by : (p : ℤ × Term) (c : ℤ) (o : Option ℤ) → some_pair p ≡ leading f.parts → c ≡ coefficient same_term g.parts p.1 → o ≡ ratio p.0 c → affine f g ≡ (o >>= λ a. behind a)
  affine_by p c o e is gave =
      affine_with (Some p) e
      ∙ (ap (λ (x : ℤ). ratio p.0 x >>= λ a. behind a) (sym is) ∙ ap (λ (x : Option ℤ). x >>= λ a. behind a) (sym gave))

  pub affine_there : (p : ℤ × Term) (c a : ℤ) → some_pair p ≡ leading f.parts → c ≡ coefficient same_term g.parts p.1 → some_ratio a ≡ ratio p.0 c → true ≡ is_multiple a f g → affine f g ≡ some_affine a (g.constant -ℤ a *ℤ f.constant)
  affine_there p c a e is gave it = affine_by p c (Some a) e is gave ∙ ap (λ (b : Bool). only_if b (some_affine a (g.constant -ℤ a *ℤ f.constant))) (sym it)
