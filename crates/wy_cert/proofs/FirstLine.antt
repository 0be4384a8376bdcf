-- The first line of a text.
use Rattle.std.proofs.Common.{◌≡◌, ℕ, zero, suc, ◌+◌, ◌<◌, ◌≤◌, true, false, List, [], ◌∷◌, ◌++◌, length, take, drop, get_or, refl, sym, ap, ◌∙◌, subst, arith, add-one}
use Rattle.std.specs.Prelude.{not, ◌==◌}
use Rattle.std.proofs.lemmas.List.{take-append-drop, take_all}
use Rattle.std.proofs.lemmas.List.{length-append}
use Rattle.wy_term_text.proofs.wy_lemmas_proofs.Choices.{unlike as true_false}
use Rattle.wy_data.specs.scan.Front.{AllPass}
use Rattle.wy_data.proofs.scan_lemmas.RunLemmas.{run_same}
use Rattle.wy_data.proofs.scan_lemmas.FrontLemmas.{pass_more}
use Rattle.wy_cert.specs.File.{is_inside, IsLine, NoLine}

-- ---- one line

pub record OneLine (l m r s : List ℕ) : Type 0 where
  pub line : l ≡ m
  pub rest : r ≡ s

pub one_line : (text l m r s : List ℕ) → IsLine text l r → IsLine text m s → OneLine l m r s
one_line text l m r s a b =
    let k = run_same is_inside l m (10 ∷ r) (10 ∷ s) a.passes b.passes refl refl (sym a.is ∙ b.is) in
    record { line = k.front; rest = let e = k.rest in cc }

pub all_pass_line : (l r : List ℕ) → AllPass is_inside (l ++ 10 ∷ r) → ⊥
all_pass_line [] r passes = true_false (is_inside 10) passes.0 refl
all_pass_line (b ∷ l) r passes = all_pass_line l r passes.1

pub no_line : (text l r : List ℕ) → NoLine text → IsLine text l r → ⊥
no_line text l r never line = all_pass_line l r (subst (AllPass is_inside) line.is never)

-- the rest is shorter
pub line_length : (text l r : List ℕ) → IsLine text l r → length r + 1 ≤ length text
line_length text l r line = omega (arith, ap length line.is, length-append l (10 ∷ r))

-- ---- the search for its end

pub drop_here : (i : List ℕ) (n : ℕ) → n < length i → get_or i n 0 ≡ 10 → drop n i ≡ 10 ∷ drop (suc n) i
drop_here [] n lt here = absurd (omega (arith, lt))
drop_here (b ∷ i) zero lt here = ap (λ x. x ∷ i) here
drop_here (b ∷ i) (suc n) lt here = drop_here i n (omega (arith, lt)) here

pub line_here : (text : List ℕ) (n : ℕ) → n < length text → AllPass is_inside (take n text) → get_or text n 0 ≡ 10 → IsLine text (take n text) (drop (n + 1) text)
line_here text n lt so_far here = record {
  is = sym (take-append-drop n text) ∙ ap (λ i. take n text ++ i) (rw add-one (drop_here text n lt here));
  passes = so_far;
  ends = refl;
}

pub line_nowhere : (text : List ℕ) (n : ℕ) → length text ≤ n → AllPass is_inside (take n text) → NoLine text
line_nowhere text n le so_far = subst (AllPass is_inside) (take_all n text le) so_far

pub not_an_end : (b : ℕ) → (b == 10) ≡ false → is_inside b ≡ true
not_an_end b e = ap not e

pub line_more : (text : List ℕ) (n : ℕ) → n < length text → AllPass is_inside (take n text) → (get_or text n 0 == 10) ≡ false → AllPass is_inside (take (n + 1) text)
line_more text n lt so_far here = pass_more is_inside text n lt so_far (not_an_end (get_or text n 0) here)

pub ruleset line_steps = (line_here, line_nowhere, line_more)
