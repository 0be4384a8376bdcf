-- A text has one run of bytes that pass.
use Rattle.std.proofs.Common.{◌≡◌, ℕ, Bool, false, List, [], ◌∷◌, ◌++◌, refl, sym, ap, ◌∙◌}
use Rattle.wy_lemmas.proofs.Choices.{unlike as true_false}
use Rattle.wy_data.specs.scan.Front.{heads, AllPass}

pub record RunsSame (f g r s : List ℕ) : Type 0 where
  pub front : f ≡ g
  pub rest : r ≡ s

heads_of : (test : ℕ → Bool) (r s : List ℕ) → r ≡ s → heads test r ≡ heads test s
heads_of test r s e = ap (heads test) e

pub run_same : (test : ℕ → Bool) (f g r s : List ℕ) → AllPass test f → AllPass test g → heads test r ≡ false → heads test s ≡ false → f ++ r ≡ g ++ s → RunsSame f g r s
run_same test [] [] r s pf pg hr hs e = record { front = refl; rest = e }
run_same test [] (b ∷ g) r s pf pg hr hs e = true_false (test b) pg.0 (sym (heads_of test r (b ∷ (g ++ s)) e) ∙ hr)
run_same test (a ∷ f) [] r s pf pg hr hs e = true_false (test a) pf.0 (heads_of test (a ∷ (f ++ r)) s e ∙ hs)
run_same test (a ∷ f) (b ∷ g) r s pf pg hr hs e =
    let first : a ≡ b = cc in
    let others : f ++ r ≡ g ++ s = cc in
    let k = run_same test f g r s pf.1 pg.1 hr hs others in
    record { front = let x = k.front in cc; rest = k.rest }
