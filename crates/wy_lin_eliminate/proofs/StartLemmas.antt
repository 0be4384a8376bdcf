-- The given forms, one after the other, while those of cuts come to stand behind them.
use Rattle.std.proofs.Common.{◌≡◌, ◌<◌, ℕ, zero, suc, List, [], ◌∷◌, ◌++◌, length, drop, map, Bool, true, false, cond, pos, refl, sym, ap, subst, ◌∙◌, append_assoc, arith}
use Rattle.std.specs.Prelude.{◌==◌, int_lt}
use Rattle.std.proofs.lemmas.List.{length-map}
use Rattle.wy_lin.specs.declared.linear.Form.{Form}
use Rattle.wy_lin.specs.Linear.{Linear}
use Rattle.wy_lin.specs.Combination.{form_at}
use Rattle.wy_lin.specs.Seen.{linear_form}
use Rattle.wy_lin_eliminate.specs.Division.{common, lowered}
use Rattle.wy_lin_eliminate.specs.Elimination.{State, is_crowded, is_new, with_place, with_cut, Turn, goes_on, refuted, and_then, refuted_by, given, given_from}

-- these forms come first
pub record StartsWith (fs all : List (Linear ℕ)) : Type 0 where
  pub more : List (Linear ℕ)
  pub is : all ≡ fs ++ more

starts_longer : (fs all : List (Linear ℕ)) (f : Linear ℕ) → StartsWith fs all → StartsWith fs (all ++ f ∷ [])
starts_longer fs all f h = record { more = h.more ++ f ∷ []; is = ap (λ (l : List (Linear ℕ)). l ++ f ∷ []) h.is ∙ append_assoc fs h.more (f ∷ []) }

-- ---- they still do after a form more

abbrev StillStarts : List (Linear ℕ) → Turn → Type 0
StillStarts fs (goes_on t) = StartsWith fs t.all
StillStarts fs (refuted steps) = Unit {0}

starts_given : (fs : List (Linear ℕ)) (s : State) (i : ℕ) (f : Linear ℕ) → StartsWith fs s.all → StillStarts fs (given s i f)
starts_given fs s i f h = by (common f.parts == 0) (int_lt f.constant (pos 0)) (common f.parts == 1) (is_crowded s)
  where
    g : Linear ℕ
    g = lowered (common f.parts) f

    placed : (b : Bool) (t : State) → StartsWith fs t.all → StartsWith fs (cond b t s).all
    placed true t k = k
    placed false t k = h

    by : (a b c d : Bool) → StillStarts fs (cond a (cond b (refuted_by s ((1, i) ∷ [])) (goes_on s)) (cond c (cond d (goes_on s) (goes_on (with_place s i f))) (cond d (goes_on s) (goes_on (with_cut s (common f.parts) ((1, i) ∷ []) g)))))
    by true true c d = tt
    by true false c d = h
    by false b true true = h
    by false b true false = placed (is_new s f) _ h
    by false b false true = h
    by false b false false = placed (is_new s g) _ (starts_longer fs s.all g h)

pub starts_on : (fs : List (Linear ℕ)) (s t : State) (i : ℕ) (f : Linear ℕ) → goes_on t ≡ given s i f → StartsWith fs s.all → StartsWith fs t.all
starts_on fs s t i f e h = subst (StillStarts fs) (sym e) (starts_given fs s i f h)

-- ---- the form at a place is the one that is due

front_at : (fs more : List (Linear ℕ)) (i : ℕ) → i < length fs → form_at (fs ++ more) i ≡ form_at fs i
front_at [] more i lt = absurd (omega (arith, lt))
front_at (f ∷ fs) more zero lt = refl
front_at (f ∷ fs) more (suc i) lt = front_at fs more i (omega (arith, lt))

dropped_at : (fs : List (Linear ℕ)) (i : ℕ) → i < length fs → drop i fs ≡ form_at fs i ∷ drop (suc i) fs
dropped_at [] i lt = absurd (omega (arith, lt))
dropped_at (f ∷ fs) zero lt = refl
dropped_at (f ∷ fs) (suc i) lt = dropped_at fs i (omega (arith, lt))

pub given_next : (forms : List Form) (s : State) (i n : ℕ) (x : Turn) → StartsWith (map linear_form forms) s.all → i < length forms → n ≡ suc i → x ≡ given s i (form_at s.all i) → given_from s i (drop i (map linear_form forms)) ≡ and_then x (λ t. given_from t n (drop n (map linear_form forms)))
given_next forms s i n x h lt next e =
    let fs = map linear_form forms in
    let within : i < length fs = omega (arith, length-map forms linear_form, lt) in
    let here : form_at s.all i ≡ form_at fs i = ap (λ (l : List (Linear ℕ)). form_at l i) h.is ∙ front_at fs h.more i within in
    ap (given_from s i) (dropped_at fs i within)
    ∙ ap (λ (f : Linear ℕ). and_then (given s i f) (λ t. given_from t (suc i) (drop (suc i) fs))) (sym here)
    ∙ ap (λ (y : Turn). and_then y (λ t. given_from t (suc i) (drop (suc i) fs))) (sym e)
    ∙ ap (λ (k : ℕ). and_then x (λ t. given_from t k (drop k fs))) (sym next)
