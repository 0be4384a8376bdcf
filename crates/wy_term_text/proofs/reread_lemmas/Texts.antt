-- How a term is written, with what follows it, as the grammar spells it.
use Rattle.std.proofs.Common.{◌≡◌, ℕ, List, [], ◌∷◌, ◌++◌, codes, refl, ap, ◌∙◌, append_assoc}
use Rattle.std.proofs.lemmas.List.{append-nil}
use Rattle.std.specs.Fmt.{decimal}
use Rattle.wy_term.specs.Term.{DataKind, null_kind, bool_kind, int_kind, array_kind, record_kind}
use Rattle.wy_term_text.specs.show.Text.{behind, separated, labelled, number_name, datum_name, kind_text, applied, compared, bound}
use Rattle.wy_term_text.specs.spell.Grammar.{Gap, Series, between, closing, more_names, field_list, kind_before, binding, field_gaps}

-- the texts of parts with the gaps behind them, and what follows
abbrev pub gap_text : List Gap → List (List ℕ) → List ℕ → List ℕ
gap_text [] xs j = j
gap_text (g ∷ gs) [] j = j
gap_text (g ∷ gs) (x ∷ xs) j = x ++ g.1 (gap_text gs xs j)

-- the texts of parts behind the first one of a series, its end, and what follows
abbrev pub more_text : Series → List (List ℕ) → List ℕ → List ℕ
more_text s [] j = closing s ++ j
more_text s (x ∷ xs) j = between s ++ (x ++ more_text s xs j)

abbrev pub first_text : Series → List (List ℕ) → List ℕ → List ℕ
first_text s [] j = closing s ++ j
first_text s (x ∷ xs) j = x ++ more_text s xs j

pub one_text : (w x j : List ℕ) → applied w (x ∷ []) ++ j ≡ w ++ (codes "(" ++ (x ++ (codes ")" ++ j)))
one_text w x j = simp (append_assoc, append-nil)

pub two_text : (w x y j : List ℕ) → applied w (x ∷ y ∷ []) ++ j ≡ w ++ (codes "(" ++ (x ++ (codes ", " ++ (y ++ (codes ")" ++ j)))))
two_text w x y j = simp (append_assoc, append-nil)

pub three_text : (w x y z j : List ℕ) → applied w (x ∷ y ∷ z ∷ []) ++ j ≡ w ++ (codes "(" ++ (x ++ (codes ", " ++ (y ++ (codes ", " ++ (z ++ (codes ")" ++ j)))))))
three_text w x y z j = simp (append_assoc, append-nil)

pub compared_text : (sign x y j : List ℕ) → compared sign (x ∷ y ∷ []) ++ j ≡ x ++ (sign ++ (y ++ j))
compared_text sign x y j = simp (append_assoc)

pub bound_text : (quantifier word : List ℕ) (n : ℕ) (x y z j : List ℕ) → bound quantifier word n (x ∷ y ∷ z ∷ []) ++ j ≡ binding quantifier word n (x ++ (codes ".." ++ (y ++ (codes " | (" ++ (z ++ (codes ")" ++ j))))))
bound_text quantifier word n x y z j = simp (append_assoc)

pub number_name_text : (word : List ℕ) (n : ℕ) (j : List ℕ) → number_name word n ++ j ≡ word ++ (codes "#" ++ (decimal n ++ j))
number_name_text word n j = simp (append_assoc)

pub datum_name_text : (word : List ℕ) (n : ℕ) (j : List ℕ) → datum_name word n ++ j ≡ word ++ (codes "." ++ (decimal n ++ j))
datum_name_text word n j = simp (append_assoc)

-- ---- series

behind_text : (s : Series) (xs : List (List ℕ)) (j : List ℕ) → behind (between s) xs ++ (closing s ++ j) ≡ more_text s xs j
behind_text s [] j = refl
behind_text s (x ∷ xs) j = append_assoc (between s) (x ++ behind (between s) xs) (closing s ++ j) ∙ ap (λ r. between s ++ r) (append_assoc x (behind (between s) xs) (closing s ++ j) ∙ ap (λ r. x ++ r) (behind_text s xs j))

pub series_text : (s : Series) (xs : List (List ℕ)) (j : List ℕ) → (separated (between s) xs ++ closing s) ++ j ≡ first_text s xs j
series_text s [] j = refl
series_text s (x ∷ xs) j = append_assoc (x ++ behind (between s) xs) (closing s) j ∙ append_assoc x (behind (between s) xs) (closing s ++ j) ∙ ap (λ r. x ++ r) (behind_text s xs j)

-- ---- kinds

names_text : (ns : List (List ℕ)) (i : List ℕ) → behind (codes ", ") ns ++ i ≡ more_names ns i
names_text [] i = refl
names_text (n ∷ ns) i = ap (λ r. codes ", " ++ r) (append_assoc n (behind (codes ", ") ns) i ∙ ap (λ r. n ++ r) (names_text ns i))

list_text : (ns : List (List ℕ)) (i : List ℕ) → separated (codes ", ") ns ++ i ≡ field_list ns i
list_text [] i = refl
list_text (n ∷ ns) i = append_assoc n (behind (codes ", ") ns) i ∙ ap (λ r. n ++ r) (names_text ns i)

pub kind_is_written : (kind : DataKind) (i : List ℕ) → kind_text kind ++ i ≡ kind_before kind i
kind_is_written null_kind i = refl
kind_is_written bool_kind i = refl
kind_is_written int_kind i = refl
kind_is_written array_kind i = refl
kind_is_written (record_kind names) i = ap (λ r. codes "{" ++ r) (append_assoc (separated (codes ", ") names) (codes "}") i ∙ list_text names (codes "}" ++ i))

-- ---- records

-- there are as many texts as names, and one more
abbrev pub Fits : List (List ℕ) → List (List ℕ) → Type 0
Fits [] [] = Unit {0}
Fits [] (x ∷ xs) = ⊥
Fits (n ∷ ns) [] = ⊥
Fits (n ∷ ns) (x ∷ xs) = Fits ns xs

fields_behind : (ns xs : List (List ℕ)) (x j : List ℕ) → Fits ns xs → x ++ (behind (codes ", ") (labelled ns xs) ++ (codes "}" ++ j)) ≡ gap_text (field_gaps ns) (x ∷ xs) j
fields_behind [] [] x j fits = refl
fields_behind [] (y ∷ xs) x j fits = absurd fits
fields_behind (n ∷ ns) [] x j fits = absurd fits
fields_behind (n ∷ ns) (y ∷ xs) x j fits =
    ap (λ r. x ++ (codes ", " ++ r))
    (append_assoc (n ++ (codes ": " ++ y)) (behind (codes ", ") (labelled ns xs)) (codes "}" ++ j)
    ∙ append_assoc n (codes ": " ++ y) (behind (codes ", ") (labelled ns xs) ++ (codes "}" ++ j))
    ∙ ap (λ r. n ++ (codes ": " ++ r)) (fields_behind ns xs y j fits))

pub fields_text : (n : List ℕ) (ns xs : List (List ℕ)) (x j : List ℕ) → Fits ns xs → (separated (codes ", ") (labelled (n ∷ ns) (x ∷ xs)) ++ codes "}") ++ j ≡ n ++ (codes ": " ++ gap_text (field_gaps ns) (x ∷ xs) j)
fields_text n ns xs x j fits =
    append_assoc ((n ++ (codes ": " ++ x)) ++ behind (codes ", ") (labelled ns xs)) (codes "}") j
    ∙ append_assoc (n ++ (codes ": " ++ x)) (behind (codes ", ") (labelled ns xs)) (codes "}" ++ j)
    ∙ append_assoc n (codes ": " ++ x) (behind (codes ", ") (labelled ns xs) ++ (codes "}" ++ j))
    ∙ ap (λ r. n ++ (codes ": " ++ r)) (fields_behind ns xs x j fits)
