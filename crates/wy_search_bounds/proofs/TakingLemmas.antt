-- Forms that take variables away, one part after the other.
use Rattle.std.proofs.Common.{◌≡◌, ◌∙◌, ◌+◌, ◌<◌, ◌≤◌, ◌||◌, ℕ, suc, List, [], ◌∷◌, ◌++◌, drop, length, get_or, Bool, true, false, cond, eqb, refl, sym, ap, arith, append_assoc}
use Rattle.std.specs.Prelude.{ℤ, pos}
use Rattle.std.specs.Ordering.{int_eq}
use Rattle.std.proofs.lemmas.List.{append-nil, drop_more}
use Rattle.std.proofs.lemmas.Bool.{eq-eqb, ne_eqb}
use Rattle.wy_lemmas.proofs.Choices.{or_true}
use Rattle.wy_lemmas.proofs.Lists.{drop_end, map_pushed as map_last}
use Rattle.wy_lin.specs.Linear.{Linear}
use Rattle.wy_cong.specs.wy_search_spec.Bounds.{first_with, first_of_class, taking_away, takings}
use Rattle.wy_search_bounds.specs.declared.removal.Taking.{Taking}
use Rattle.wy_search_bounds.specs.Seen.{seen_taking, seen_takings}

abbrev Takings : Type 0
Takings = List (ℕ × Linear ℕ)

-- ---- the first place with a label

pub first_now : (ls : List ℕ) (i l k total : ℕ) → i < length ls → get_or ls i 0 ≡ l → first_with (drop i ls) l k ≡ total → k ≡ total
first_now ls i l k total lt is so = sym (ap (λ (ms : List ℕ). first_with ms l k) (drop_more ls i 0 lt) ∙ ap (λ (b : Bool). cond b k (first_with (drop (i + 1) ls) l (suc k))) (eq-eqb (get_or ls i 0) l is)) ∙ so

pub first_later : (ls : List ℕ) (i l k next total : ℕ) → i < length ls → (get_or ls i 0 ≡ l → ⊥) → next ≡ k + 1 → first_with (drop i ls) l k ≡ total → first_with (drop (i + 1) ls) l next ≡ total
first_later ls i l k next total lt apart is so =
    let e : next ≡ suc k = omega (arith, is) in
    ap (first_with (drop (i + 1) ls) l) e
    ∙ (sym (ap (λ (ms : List ℕ). first_with ms l k) (drop_more ls i 0 lt) ∙ ap (λ (b : Bool). cond b k (first_with (drop (i + 1) ls) l (suc k))) (ne_eqb (get_or ls i 0) l apart)) ∙ so)

pub first_never : (ls : List ℕ) (i l k total : ℕ) → length ls ≤ i → first_with (drop i ls) l k ≡ total → k ≡ total
first_never ls i l k total le so = sym (ap (λ (ms : List ℕ). first_with ms l k) (drop_end ls i le)) ∙ so

-- ---- one part

pub none_taken : (labels : List ℕ) (c : ℤ) (v : ℕ) (old : List Taking) → int_eq c (pos 0) ≡ true → seen_takings old ≡ seen_takings old ++ takings labels ((c, v) ∷ [])
none_taken labels c v old zero_is = sym (append-nil (seen_takings old)) ∙ ap (λ (b : Bool). seen_takings old ++ cond (b || eqb (first_of_class labels v) v) [] (taking_away c v (first_of_class labels v) ∷ [])) (sym zero_is)

pub first_stays : (labels : List ℕ) (c : ℤ) (v first : ℕ) (old : List Taking) → first ≡ first_of_class labels v → first ≡ v → seen_takings old ≡ seen_takings old ++ takings labels ((c, v) ∷ [])
first_stays labels c v first old is same =
    let up : (int_eq c (pos 0) || eqb (first_of_class labels v) v) ≡ true = ap (λ (b : Bool). int_eq c (pos 0) || b) (eq-eqb (first_of_class labels v) v (sym is ∙ same)) ∙ or_true (int_eq c (pos 0)) in
    sym (append-nil (seen_takings old)) ∙ ap (λ (b : Bool). seen_takings old ++ cond b [] (taking_away c v (first_of_class labels v) ∷ [])) (sym up)

pub taken_more : (labels : List ℕ) (c : ℤ) (v first : ℕ) (old new : List Taking) (t : Taking) → int_eq c (pos 0) ≡ false → first ≡ first_of_class labels v → (first ≡ v → ⊥) → seen_taking t ≡ taking_away c v first → new ≡ old ++ t ∷ [] → seen_takings new ≡ seen_takings old ++ takings labels ((c, v) ∷ [])
taken_more labels c v first old new t other is apart seen pushed =
    let un : (int_eq c (pos 0) || eqb (first_of_class labels v) v) ≡ false = ap (λ (b : Bool). b || eqb (first_of_class labels v) v) other ∙ ne_eqb (first_of_class labels v) v (λ e. apart (is ∙ e)) in
    ap seen_takings pushed
    ∙ (map_last seen_taking old t
    ∙ (ap (λ (x : ℕ × Linear ℕ). seen_takings old ++ x ∷ []) (seen ∙ ap (taking_away c v) is)
    ∙ ap (λ (b : Bool). seen_takings old ++ cond b [] (taking_away c v (first_of_class labels v) ∷ [])) (sym un)))

-- ---- one part after the other

takings_more : (labels : List ℕ) (p : ℤ × ℕ) (ps : List (ℤ × ℕ)) → takings labels (p ∷ ps) ≡ takings labels (p ∷ []) ++ takings labels ps
takings_more labels p ps = by (int_eq p.0 (pos 0) || eqb (first_of_class labels p.1) p.1)
  where
    by : (b : Bool) → cond b (takings labels ps) (taking_away p.0 p.1 (first_of_class labels p.1) ∷ takings labels ps) ≡ cond b [] (taking_away p.0 p.1 (first_of_class labels p.1) ∷ []) ++ takings labels ps
    by true = refl
    by false = refl

pub takings_next : (labels : List ℕ) (ps : List (ℤ × ℕ)) (i : ℕ) (d : ℤ × ℕ) (old new total : Takings) → i < length ps → new ≡ old ++ takings labels (get_or ps i d ∷ []) → old ++ takings labels (drop i ps) ≡ total → new ++ takings labels (drop (i + 1) ps) ≡ total
takings_next labels ps i d old new total lt is so =
    let p = get_or ps i d in
    let left = takings labels (drop (i + 1) ps) in
    ap (λ (ts : Takings). ts ++ left) is
    ∙ (append_assoc old (takings labels (p ∷ [])) left
    ∙ (ap (λ (ts : Takings). old ++ ts) (sym (takings_more labels p (drop (i + 1) ps)))
    ∙ (ap (λ (qs : List (ℤ × ℕ)). old ++ takings labels qs) (sym (drop_more ps i d lt)) ∙ so)))
