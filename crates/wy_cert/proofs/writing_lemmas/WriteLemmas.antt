-- Texts, one behind the other.
use Rattle.std.proofs.Common.{◌≡◌, ℕ, ◌+◌, ◌-◌, ◌<◌, ◌≤◌, List, [], ◌∷◌, ◌++◌, length, take, drop, get_or, map, codes, Result, Ok, Err, refl, sym, ap, subst, ◌∙◌, arith, append_assoc}
use Rattle.std.proofs.lemmas.List.{append-nil, take_all}
use Rattle.std.specs.Prelude.{OnOk}
use Rattle.std.specs.Fmt.{decimal}
use Rattle.wy_term_text.proofs.wy_lemmas_proofs.Lists.{next_of as at_drop, drop_end as drop_all}
use Rattle.wy_term_text.specs.wy_term.Term.{Term}
use Rattle.wy_term_text.specs.show.Text.{text_of}
use Rattle.wy_cert.specs.declared.step.Step.{Step}
use Rattle.wy_cert.specs.declared.step.Cert.{Cert}
use Rattle.wy_cert.specs.Steps.{Written, written, steps_of}
use Rattle.wy_cert.specs.writing.Text.{texts, more_text, arguments_text, line_text, certificate_text, some_pass, has_product, header, file_text}

pub joined : (out first second a b : List ℕ) → first ≡ out ++ a → second ≡ first ++ b → second ≡ out ++ (a ++ b)
joined out first second a b e f = f ∙ ap (λ x. x ++ b) e ∙ append_assoc out a b

pub joined_three : (out first second third a b c : List ℕ) → first ≡ out ++ a → second ≡ first ++ b → third ≡ second ++ c → third ≡ out ++ (a ++ (b ++ c))
joined_three out first second third a b c e f g = joined out first third a (b ++ c) e (joined first second third b c f g)

pub joined_four : (out first second third fourth a b c d : List ℕ) → first ≡ out ++ a → second ≡ first ++ b → third ≡ second ++ c → fourth ≡ third ++ d → fourth ≡ out ++ (a ++ (b ++ (c ++ d)))
joined_four out first second third fourth a b c d e f g h = joined out first fourth a (b ++ (c ++ d)) e (joined_three first second third fourth b c d f g h)

-- one more of them is written
pub texts_more : {X : Type 0} (text : X → List ℕ) (xs : List X) (i : ℕ) (x : X) (out new whole : List ℕ) → i < length xs → x ≡ get_or xs i x → out ++ texts text (drop i xs) ≡ whole → new ≡ out ++ text x → new ++ texts text (drop (i + 1) xs) ≡ whole
texts_more text xs i x out new whole lt is so_far e =
    ap (λ y. y ++ texts text (drop (i + 1) xs)) e
    ∙ append_assoc out (text x) (texts text (drop (i + 1) xs))
    ∙ ap (λ ys. out ++ texts text ys) (sym (at_drop xs i x lt is))
    ∙ so_far

-- all are written
pub texts_end : {X : Type 0} (text : X → List ℕ) (xs : List X) (i : ℕ) (out whole : List ℕ) → length xs ≤ i → out ++ texts text (drop i xs) ≡ whole → out ≡ whole
texts_end text xs i out whole le so_far = sym (append-nil out) ∙ ap (λ ys. out ++ texts text ys) (sym (drop_all xs i le)) ∙ so_far

pub ruleset texts_steps = (texts_more, texts_end)

pub joined_six : (out first second third fourth fifth sixth a b c d e f : List ℕ) → first ≡ out ++ a → second ≡ first ++ b → third ≡ second ++ c → fourth ≡ third ++ d → fifth ≡ fourth ++ e → sixth ≡ fifth ++ f
    → sixth ≡ out ++ (a ++ (b ++ (c ++ (d ++ (e ++ f)))))
joined_six out first second third fourth fifth sixth a b c d e f p q r s t u =
    joined_three out first second sixth a b (c ++ (d ++ (e ++ f))) p q (joined_four second third fourth fifth sixth c d e f r s t u)

pub nothing : (out : List ℕ) → out ≡ out ++ []
nothing out = sym (append-nil out)

pub ruleset write_steps = (joined, joined_three, joined_four, joined_six, nothing)

-- ---- arguments and certificates

pub texts-map : {X Y : Type 0} (text : Y → List ℕ) (f : X → Y) (xs : List X) → texts (λ x. text (f x)) xs ≡ texts text (map f xs)
texts-map text f [] = refl
texts-map text f (x ∷ xs) = ap (λ i. text (f x) ++ i) (texts-map text f xs)

pub arguments_end : (at : ℕ → Term) (ks : List ℕ) (i : ℕ) (k : ℕ) (before start out : List ℕ) → length ks ≤ i → start ≡ before ++ text_of (at k) → out ++ texts (λ j. more_text (at j)) (drop i ks) ≡ start ++ texts (λ j. more_text (at j)) ks
    → out ≡ before ++ arguments_text (map at (k ∷ ks))
arguments_end at ks i k before start out le begins so_far =
    texts_end (λ j. more_text (at j)) ks i out (start ++ texts (λ j. more_text (at j)) ks) le so_far
    ∙ ap (λ x. x ++ texts (λ j. more_text (at j)) ks) begins
    ∙ append_assoc before (text_of (at k)) (texts (λ j. more_text (at j)) ks)
    ∙ ap (λ x. before ++ (text_of (at k) ++ x)) (texts-map more_text at ks)

pub ruleset argument_steps = (texts_more, arguments_end, nothing)

pub cert_joined : (at : ℕ → Term) (ss : List Step) (n : ℕ) (out first second third fourth : List ℕ) → first ≡ out ++ codes "cond " → second ≡ first ++ decimal n → third ≡ second ++ codes "\n" → fourth ≡ third ++ texts (λ s. line_text (written at s)) ss
    → fourth ≡ out ++ certificate_text (n, map (written at) ss)
cert_joined at ss n out first second third fourth e f g h =
    joined_four out first second third fourth (codes "cond ") (decimal n) (codes "\n") (texts (λ s. line_text (written at s)) ss) e f g h
    ∙ ap (λ x. out ++ (codes "cond " ++ (decimal n ++ (codes "\n" ++ x)))) (texts-map line_text (written at) ss)

pub ruleset cert_steps = (cert_joined)

-- all but the first
abbrev pub others : List ℕ → List ℕ
others all = take (length all - 1) (drop 1 all)

pub arguments_end_at : (at : ℕ → Term) (all : List ℕ) (i : ℕ) (before start out : List ℕ) → 1 ≤ length all → length (others all) ≤ i → start ≡ before ++ text_of (at (get_or all 0 0))
    → out ++ texts (λ j. more_text (at j)) (drop i (others all)) ≡ start ++ texts (λ j. more_text (at j)) (others all) → out ≡ before ++ arguments_text (map at all)
arguments_end_at at [] i before start out some le begins so_far = absurd (omega (arith, some))
arguments_end_at at (k ∷ ks) i before start out some le begins so_far =
    let e : others (k ∷ ks) ≡ ks = take_all (length (k ∷ ks) - 1) ks (omega arith) in
    arguments_end at ks i k before start out (subst (λ (xs : List ℕ). length xs ≤ i) e le) begins
    (subst (λ (xs : List ℕ). out ++ texts (λ j. more_text (at j)) (drop i xs) ≡ start ++ texts (λ j. more_text (at j)) xs) e so_far)

pub cert_answer : {A E : Type 0} (at : ℕ → Term) (ss slice : List Step) (n : ℕ) (out first second third fourth : List ℕ) (r : Result A E) → first ≡ out ++ codes "cond " → second ≡ first ++ decimal n → third ≡ second ++ codes "\n" → slice ≡ ss
    → OnOk r (fourth ≡ third ++ texts (λ s. line_text (written at s)) slice) → OnOk r (fourth ≡ out ++ certificate_text (n, map (written at) ss))
cert_answer at ss slice n out first second third fourth (Ok x) e f g same h = cert_joined at ss n out first second third fourth e f g (h ∙ ap (λ xs. third ++ texts (λ s. line_text (written at s)) xs) same)
cert_answer at ss slice n out first second third fourth (Err x) e f g same h = h

abbrev pub numbered : ℕ × Cert → ℕ × List Written
numbered e = (e.0, steps_of e.1)

abbrev pub entry_text : ℕ × Cert → List ℕ
entry_text e = certificate_text (e.0, steps_of e.1)

pub file_joined : (list slice : List (ℕ × Cert)) (head none first second third : List ℕ) → none ≡ [] → head ≡ header (some_pass has_product (map numbered list)) → slice ≡ list → first ≡ none ++ head → second ≡ first ++ texts entry_text slice
    → third ≡ second ++ codes "end\n" → third ≡ file_text (map numbered list)
file_joined list slice head none first second third empty is same e f g =
    joined_three none first second third head (texts entry_text slice) (codes "end\n") e f g
    ∙ ap (λ i. i ++ (head ++ (texts entry_text slice ++ codes "end\n"))) empty
    ∙ ap (λ h. h ++ (texts entry_text slice ++ codes "end\n")) is
    ∙ ap (λ xs. header (some_pass has_product (map numbered list)) ++ (texts entry_text xs ++ codes "end\n")) same
    ∙ ap (λ t. header (some_pass has_product (map numbered list)) ++ (t ++ codes "end\n")) (texts-map certificate_text numbered list)
