-- Whether one of a list passes.
use Rattle.std.proofs.Common.{◌≡◌, ℕ, ◌+◌, ◌<◌, ◌≤◌, Bool, true, false, List, [], ◌∷◌, length, drop, get_or, map, refl, sym, ap, ◌∙◌}
use Rattle.std.specs.Prelude.{◌||◌}
use Rattle.wy_term_text.proofs.wy_lemmas_proofs.Lists.{next_of as at_drop, drop_end as drop_all}
use Rattle.wy_term_text.specs.wy_term.Term.{Term}
use Rattle.wy_cert.specs.declared.step.Step.{Step}
use Rattle.wy_cert.specs.declared.step.Cert.{Cert}
use Rattle.wy_cert.specs.Steps.{written, steps_of}
use Rattle.wy_cert.specs.writing.Text.{some_pass, is_product, has_product, header}
use Rattle.wy_cert.proofs.writing_lemmas.WriteLemmas.{numbered}

pub some_more : {X : Type 0} (test : X → Bool) (xs : List X) (i : ℕ) (x : X) (whole : Bool) → i < length xs → x ≡ get_or xs i x → test x ≡ false → some_pass test (drop i xs) ≡ whole → some_pass test (drop (i + 1) xs) ≡ whole
some_more test xs i x whole lt is fails so_far = ap (λ b. b || some_pass test (drop (i + 1) xs)) (sym fails) ∙ ap (some_pass test) (sym (at_drop xs i x lt is)) ∙ so_far

pub some_found : {X : Type 0} (test : X → Bool) (xs : List X) (i : ℕ) (x : X) (whole : Bool) → i < length xs → x ≡ get_or xs i x → test x ≡ true → some_pass test (drop i xs) ≡ whole → true ≡ whole
some_found test xs i x whole lt is passes so_far = ap (λ b. b || some_pass test (drop (i + 1) xs)) (sym passes) ∙ ap (some_pass test) (sym (at_drop xs i x lt is)) ∙ so_far

pub some_end : {X : Type 0} (test : X → Bool) (xs : List X) (i : ℕ) (whole : Bool) → length xs ≤ i → some_pass test (drop i xs) ≡ whole → false ≡ whole
some_end test xs i whole le so_far = ap (some_pass test) (sym (drop_all xs i le)) ∙ so_far

pub ruleset some_steps = (some_more, some_found, some_end)

pub some-map : {X Y : Type 0} (test : Y → Bool) (f : X → Y) (xs : List X) → some_pass test (map f xs) ≡ some_pass (λ x. test (f x)) xs
some-map test f [] = refl
some-map test f (x ∷ xs) = ap (λ b. test (f x) || b) (some-map test f xs)

pub cert_product : (at : ℕ → Term) (slice ss : List Step) (b : Bool) → slice ≡ ss → b ≡ some_pass (λ s. is_product (written at s)) slice → b ≡ some_pass is_product (map (written at) ss)
cert_product at slice ss b same e = e ∙ ap (some_pass (λ (s : Step). is_product (written at s))) same ∙ sym (some-map is_product (written at) ss)

abbrev pub passes : ℕ × Cert → Bool
passes e = some_pass is_product (steps_of e.1)

pub header_is : (list slice : List (ℕ × Cert)) (r b : Bool) → slice ≡ list → r ≡ some_pass passes slice → r ≡ b → header b ≡ header (some_pass has_product (map numbered list))
header_is list slice r b same e is = ap header (sym is ∙ e ∙ ap (some_pass passes) same ∙ sym (some-map has_product numbered list))
