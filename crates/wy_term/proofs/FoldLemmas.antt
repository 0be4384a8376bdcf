-- Trees that are written out, by the numbers of their parts.
use Rattle.std.proofs.Common.{◌≡◌, ◌<◌, ◌≤◌, ℕ, zero, suc, List, [], ◌∷◌, ◌++◌, All, map, length, get_or, drop, Bool, true, false, cond, eqb, ◌+◌, add-one, drop-cons, ℤ, pos, negsuc, ◌≤ℤ◌, ◌<ℤ◌, refl, sym, ap, ◌∙◌, subst, arith}
use Rattle.std.proofs.Math.Dec.{eqb-suc-zero, eqb-zero-suc}
use Rattle.std.proofs.Math.IntN.{nat_abs}
use Rattle.std.proofs.lemmas.Int.{ints}
use Rattle.wy_term.specs.Same.{same_names, same_kind}
use Rattle.wy_term.specs.Term.{DataKind, record_kind, Term, Symbol, Of, fields, Parts, no_parts, part, leaf, null, all_of, any_of}
use Rattle.wy_term.specs.Nodes.{parts_at, grown, of}
use Rattle.wy_term.specs.Rewriting.{count, is_true, is_false, joined, names_for, nth_part, part_at, without_true, without_false, decided, kind_given, fold_kind}

pub count_parts_at : (at : ℕ → Term) (ks : List ℕ) → count (parts_at at ks) ≡ length ks
count_parts_at at [] = refl
count_parts_at at (k ∷ ks) = ap suc (count_parts_at at ks)

pub names_for_parts_at : (at : ℕ → Term) (fs : List (List ℕ × ℕ)) → names_for (map (λ p. p.0) fs) (parts_at at (map (λ p. p.1) fs)) ≡ map (λ p. p.0) fs
names_for_parts_at at [] = refl
names_for_parts_at at (f ∷ fs) = ap (λ (ns : List (List ℕ)). f.0 ∷ ns) (names_for_parts_at at fs)

pub is_true_members : (at : ℕ → Term) (ks : List ℕ) → is_true (Of all_of (parts_at at ks)) ≡ eqb (length ks) 0
is_true_members at [] = refl
is_true_members at (k ∷ ks) = sym (eqb-suc-zero (length ks))

pub is_false_members : (at : ℕ → Term) (ks : List ℕ) → is_false (Of any_of (parts_at at ks)) ≡ eqb (length ks) 0
is_false_members at [] = refl
is_false_members at (k ∷ ks) = sym (eqb-suc-zero (length ks))

-- members that aren't one stand joined as they are
pub joined_parts_at : (symbol : Symbol) (at : ℕ → Term) (ks : List ℕ) → (length ks ≡ 1 → ⊥) → joined symbol (parts_at at ks) ≡ Of symbol (parts_at at ks)
joined_parts_at symbol at [] apart = refl
joined_parts_at symbol at (k ∷ []) apart = absurd (apart refl)
joined_parts_at symbol at (k ∷ (j ∷ ks)) apart = refl

-- these parts, and behind them others
abbrev pub followed : Parts → Parts → Parts
followed no_parts qs = qs
followed (part t ps) qs = part t (followed ps qs)

pub followed_push : (at : ℕ → Term) (ks : List ℕ) (k : ℕ) (qs : Parts) → followed (parts_at at (ks ++ k ∷ [])) qs ≡ followed (parts_at at ks) (part (at k) qs)
followed_push at [] k qs = refl
followed_push at (j ∷ ks) k qs = ap (λ (ps : Parts). part (at j) ps) (followed_push at ks k qs)

pub followed_none : (ps : Parts) → followed ps no_parts ≡ ps
followed_none no_parts = refl
followed_none (part t ps) = ap (λ (qs : Parts). part t qs) (followed_none ps)

-- ---- elements

nth_none : (at : ℕ → Term) (ks : List ℕ) (k : ℕ) → length ks ≤ k → leaf null ≡ nth_part (parts_at at ks) k
nth_none at [] k le = refl
nth_none at (j ∷ ks) zero le = absurd (omega arith)
nth_none at (j ∷ ks) (suc k) le = nth_none at ks k (omega arith)

nth_some : (at : ℕ → Term) (ks : List ℕ) (k d : ℕ) → k < length ks → at (get_or ks k d) ≡ nth_part (parts_at at ks) k
nth_some at [] k d lt = absurd (omega arith)
nth_some at (j ∷ ks) zero d lt = refl
nth_some at (j ∷ ks) (suc k) d lt = nth_some at ks k d (omega arith)

pub element_above : (at : ℕ → Term) (ks : List ℕ) (z : ℤ) → pos (length ks) ≤ℤ z → leaf null ≡ part_at (parts_at at ks) z
element_above at ks (pos k) le = nth_none at ks k (omega (arith, ints))
element_above at ks (negsuc k) le = absurd (omega (arith, ints))

pub element_here : (at : ℕ → Term) (ks : List ℕ) (z y : ℤ) → y ≡ z → pos 0 ≤ℤ z → z <ℤ pos (length ks) → at (get_or ks (nat_abs y) 0) ≡ part_at (parts_at at ks) z
element_here at ks (pos k) y e le lt = ap (λ (x : ℤ). at (get_or ks (nat_abs x) 0)) e ∙ nth_some at ks k 0 (omega (arith, ints))
element_here at ks (negsuc k) y e le lt = absurd (omega (arith, ints))

-- ---- fields

pub field_within : {X : Type 0} (fs : List (X × ℕ)) (n : ℕ) → All (λ k. k < n) (map (λ p. p.1) fs) → (i : ℕ) (f : X × ℕ) → i < length fs → f ≡ get_or fs i f → f.1 < n
field_within {X = X} [] n below i f lt is = absurd (omega arith)
field_within {X = X} (g ∷ fs) n below zero f lt is = let first : g.1 < n = below 0 0 (omega arith) in subst (λ (h : X × ℕ). h.1 < n) (sym is) first
field_within {X = X} (g ∷ fs) n below (suc i) f lt is = field_within fs n (λ j d lt. below (suc j) d (omega arith)) i f (omega arith) is

eqb_more : (m n : ℕ) → eqb m n ≡ eqb (suc m) (suc n)
eqb_more m n = grind arith

-- where all names of the fields were met, there are as many names
pub names_end : (fs : List (List ℕ × ℕ)) (ns : List (List ℕ)) (k : ℕ) → k ≡ length fs → k ≤ length ns → eqb (length fs) (length ns) ≡ same_names (map (λ p. p.0) (drop k fs)) (drop k ns)
names_end [] [] k e le = let z : k ≡ 0 = omega arith in rw z refl
names_end [] (n ∷ ns) k e le = let z : k ≡ 0 = omega arith in rw (z, eqb-zero-suc (length ns)) refl
names_end (f ∷ fs) [] k e le = absurd (omega arith)
names_end (f ∷ fs) (n ∷ ns) zero e le = absurd (omega arith)
names_end (f ∷ fs) (n ∷ ns) (suc k) e le = sym (eqb_more (length fs) (length ns)) ∙ names_end fs ns k (omega arith) (omega arith)

-- a record that is written out has the kind of its names
pub record_test : (at : ℕ → Term) (fs : List (List ℕ × ℕ)) (v : Term) (kind : DataKind) (b : Bool) → v ≡ Of (fields (map (λ p. p.0) fs)) (parts_at at (map (λ p. p.1) fs)) → b ≡ same_kind (record_kind (map (λ p. p.0) fs)) kind → decided b ≡ fold_kind kind v (kind_given v)
record_test at fs v kind b e f =
    let names = names_for_parts_at at fs in
    let given : same_kind (record_kind (names_for (map (λ p. p.0) fs) (parts_at at (map (λ p. p.1) fs)))) kind ≡ b = ap (λ (ns : List (List ℕ)). same_kind (record_kind ns) kind) names ∙ sym f in
    ap decided (sym given) ∙ ap (λ (u : Term). fold_kind kind u (kind_given u)) (sym e)

-- ---- members that stay and members that vanish

at_drop : (ks : List ℕ) (i : ℕ) → i < length ks → drop i ks ≡ get_or ks i 0 ∷ drop (i + 1) ks
at_drop ks i lt = rw (add-one, drop-cons ks i 0) refl

drop_end : (ks : List ℕ) (i : ℕ) → length ks ≤ i → drop i ks ≡ []
drop_end [] zero le = refl
drop_end [] (suc i) le = refl
drop_end (k ∷ ks) zero le = absurd (omega arith)
drop_end (k ∷ ks) (suc i) le = drop_end ks i (omega arith)

pub keep_but_true : (at : ℕ → Term) (rest ks : List ℕ) (i : ℕ) → i < length ks → is_true (at (get_or ks i 0)) ≡ false → followed (parts_at at (rest ++ get_or ks i 0 ∷ [])) (without_true (parts_at at (drop (i + 1) ks))) ≡ followed (parts_at at rest) (without_true (parts_at at (drop i ks)))
keep_but_true at rest ks i lt other =
    let more = parts_at at (drop (i + 1) ks) in
    let t = at (get_or ks i 0) in
    let stays : without_true (part t more) ≡ part t (without_true more) = ap (λ (b : Bool). cond b (without_true more) (part t (without_true more))) other in
    followed_push at rest (get_or ks i 0) (without_true more)
    ∙ ap (followed (parts_at at rest)) (sym stays)
    ∙ ap (λ (js : List ℕ). followed (parts_at at rest) (without_true (parts_at at js))) (sym (at_drop ks i lt))

pub skip_the_true : (at : ℕ → Term) (rest ks : List ℕ) (i : ℕ) → i < length ks → is_true (at (get_or ks i 0)) ≡ true → followed (parts_at at rest) (without_true (parts_at at (drop (i + 1) ks))) ≡ followed (parts_at at rest) (without_true (parts_at at (drop i ks)))
skip_the_true at rest ks i lt is =
    let more = parts_at at (drop (i + 1) ks) in
    let t = at (get_or ks i 0) in
    let goes : without_true (part t more) ≡ without_true more = ap (λ (b : Bool). cond b (without_true more) (part t (without_true more))) is in
    ap (followed (parts_at at rest)) (sym goes)
    ∙ ap (λ (js : List ℕ). followed (parts_at at rest) (without_true (parts_at at js))) (sym (at_drop ks i lt))

pub end_but_true : (at : ℕ → Term) (rest ks : List ℕ) (i : ℕ) → length ks ≤ i → followed (parts_at at rest) (without_true (parts_at at (drop i ks))) ≡ parts_at at rest
end_but_true at rest ks i le = ap (λ (js : List ℕ). followed (parts_at at rest) (without_true (parts_at at js))) (drop_end ks i le) ∙ followed_none (parts_at at rest)

pub keep_but_false : (at : ℕ → Term) (rest ks : List ℕ) (i : ℕ) → i < length ks → is_false (at (get_or ks i 0)) ≡ false → followed (parts_at at (rest ++ get_or ks i 0 ∷ [])) (without_false (parts_at at (drop (i + 1) ks))) ≡ followed (parts_at at rest) (without_false (parts_at at (drop i ks)))
keep_but_false at rest ks i lt other =
    let more = parts_at at (drop (i + 1) ks) in
    let t = at (get_or ks i 0) in
    let stays : without_false (part t more) ≡ part t (without_false more) = ap (λ (b : Bool). cond b (without_false more) (part t (without_false more))) other in
    followed_push at rest (get_or ks i 0) (without_false more)
    ∙ ap (followed (parts_at at rest)) (sym stays)
    ∙ ap (λ (js : List ℕ). followed (parts_at at rest) (without_false (parts_at at js))) (sym (at_drop ks i lt))

pub skip_the_false : (at : ℕ → Term) (rest ks : List ℕ) (i : ℕ) → i < length ks → is_false (at (get_or ks i 0)) ≡ true → followed (parts_at at rest) (without_false (parts_at at (drop (i + 1) ks))) ≡ followed (parts_at at rest) (without_false (parts_at at (drop i ks)))
skip_the_false at rest ks i lt is =
    let more = parts_at at (drop (i + 1) ks) in
    let t = at (get_or ks i 0) in
    let goes : without_false (part t more) ≡ without_false more = ap (λ (b : Bool). cond b (without_false more) (part t (without_false more))) is in
    ap (followed (parts_at at rest)) (sym goes)
    ∙ ap (λ (js : List ℕ). followed (parts_at at rest) (without_false (parts_at at js))) (sym (at_drop ks i lt))

pub end_but_false : (at : ℕ → Term) (rest ks : List ℕ) (i : ℕ) → length ks ≤ i → followed (parts_at at rest) (without_false (parts_at at (drop i ks))) ≡ parts_at at rest
end_but_false at rest ks i le = ap (λ (js : List ℕ). followed (parts_at at rest) (without_false (parts_at at js))) (drop_end ks i le) ∙ followed_none (parts_at at rest)
