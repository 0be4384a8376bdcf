-- Forms over numbers, seen as forms over the terms that the numbers name: sums of them agree.
use Rattle.std.proofs.Common.{◌≡◌, ◌<◌, ℕ, zero, suc, List, [], ◌∷◌, All, map, Bool, true, false, cond, eqb, ℤ, Option, Some, None, Result, Ok, Err, refl, sym, ap, subst, ◌∙◌, arith}
use Rattle.std.specs.Prelude.{IfOk}
use Rattle.wy_term.proofs.wy_lemmas_proofs.Choices.{eqb_itself as eqb_self}
use Rattle.wy_term.proofs.wy_lemmas_proofs.Lists.{first_of, rest_of}
use Rattle.wy_term.proofs.wy_lemmas_proofs.Options.{some, some_same as some_is}
use Rattle.wy_term.specs.Term.{Term}
use Rattle.wy_term.specs.Same.{same_term}
use Rattle.wy_lin.specs.declared.arithmetic.Factor.{Factor}
use Rattle.wy_lin.specs.declared.stop.Stop.{Stop}
use Rattle.wy_lin.specs.declared.stop.Stop.TheVariants.{Undefined, NoMemory}
use Rattle.wy_lin.specs.declared.sum.Sum.{Sum}
use Rattle.wy_lin.specs.Linear.{◌>>=◌, more, Linear, coefficient, with_coefficient, plus_part, plus_parts, plus}
use Rattle.wy_lin.specs.TermForm.{with}
use Rattle.wy_lin.specs.Seen.{Gives, IsOver, linear_sum, seen, seen_part, seen_sum}
use Rattle.wy_lin.proofs.OptionLemmas.{bind_some}
use Rattle.wy_term.proofs.SameLemmas.{terms_are, terms_self}
use Rattle.std.proofs.lemmas.Bool.{eqb-true}

-- ---- lists whose items all are so

pub all_none : {X : Type 0} (P : X → Type 0) → All P []
all_none P i d lt = absurd (omega (arith, lt))

pub all_more : {X : Type 0} (P : X → Type 0) (x : X) (xs : List X) → P x → All P xs → All P (x ∷ xs)
all_more P x xs one all zero d lt = one
all_more P x xs one all (suc i) d lt = all i d (omega (arith, lt))

-- ---- numbers and terms

-- two numbers below the bound are equal exactly where they name equal terms
abbrev pub NamesOnce : (ℕ → Term) → ℕ → Type 0
NamesOnce at n = (s t : ℕ) → s < n → t < n → eqb s t ≡ same_term (at s) (at t)

pub names_once : (at : ℕ → Term) (n : ℕ) → ((s t : ℕ) → s < n → t < n → at s ≡ at t → s ≡ t) → NamesOnce at n
names_once at n one s t ls lt = by (same_term (at s) (at t)) refl
  where
    unless_equal : (b : Bool) → eqb s t ≡ b → same_term (at s) (at t) ≡ false → b ≡ false
    unless_equal false is e = refl
    unless_equal true is e =
        let same : same_term (at s) (at t) ≡ true = ap (λ (k : ℕ). same_term (at s) (at k)) (sym (eqb-true s t is)) ∙ terms_self (at s) in
        absurd cc

    by : (b : Bool) → same_term (at s) (at t) ≡ b → eqb s t ≡ b
    by true is = ap (λ (k : ℕ). eqb s k) (sym (one s t ls lt (terms_are (at s) (at t) is))) ∙ eqb_self s
    by false is = unless_equal (eqb s t) refl is

module _ (at : ℕ → Term) (n : ℕ) (once : NamesOnce at n) where
  coefficient-seen : (ps : List (ℤ × ℕ)) (v : ℕ) → All (λ (p : ℤ × ℕ). p.1 < n) ps → v < n → coefficient same_term (map (seen_part at) ps) (at v) ≡ coefficient eqb ps v
  coefficient-seen [] v all lt = refl
  coefficient-seen (p ∷ ps) v all lt =
      let one = once v p.1 lt (first_of (λ (p : ℤ × ℕ). p.1 < n) p ps all) in
      let rest = coefficient-seen ps v (rest_of (λ (p : ℤ × ℕ). p.1 < n) p ps all) lt in
      ap (λ (b : Bool). cond b p.0 (coefficient same_term (map (seen_part at) ps) (at v))) (sym one) ∙ ap (λ (c : ℤ). cond (eqb v p.1) p.0 c) rest

  seen_if : (b : Bool) (ps qs : List (ℤ × ℕ)) → map (seen_part at) (cond b ps qs) ≡ cond b (map (seen_part at) ps) (map (seen_part at) qs)
  seen_if true ps qs = refl
  seen_if false ps qs = refl

  with_coefficient-seen : (ps : List (ℤ × ℕ)) (v : ℕ) (d : ℤ) → All (λ (p : ℤ × ℕ). p.1 < n) ps → v < n → with_coefficient same_term (map (seen_part at) ps) (at v) d ≡ map (seen_part at) (with_coefficient eqb ps v d)
  with_coefficient-seen [] v d all lt = refl
  with_coefficient-seen (p ∷ ps) v d all lt =
      let one = once v p.1 lt (first_of (λ (p : ℤ × ℕ). p.1 < n) p ps all) in
      let rest = with_coefficient-seen ps v d (rest_of (λ (p : ℤ × ℕ). p.1 < n) p ps all) lt in
      ap (λ (b : Bool). cond b ((d, at p.1) ∷ map (seen_part at) ps) (seen_part at p ∷ with_coefficient same_term (map (seen_part at) ps) (at v) d)) (sym one)
      ∙ ap (λ (qs : List (ℤ × Term)). cond (eqb v p.1) ((d, at p.1) ∷ map (seen_part at) ps) (seen_part at p ∷ qs)) rest
      ∙ sym (seen_if (eqb v p.1) ((d, p.1) ∷ ps) (p ∷ with_coefficient eqb ps v d))

  -- ---- variables below the bound stay below it

  over_if : (b : Bool) (ps qs : List (ℤ × ℕ)) → All (λ (p : ℤ × ℕ). p.1 < n) ps → All (λ (p : ℤ × ℕ). p.1 < n) qs → All (λ (p : ℤ × ℕ). p.1 < n) (cond b ps qs)
  over_if true ps qs a b = a
  over_if false ps qs a b = b

  with_coefficient-over : (ps : List (ℤ × ℕ)) (v : ℕ) (d : ℤ) → All (λ (p : ℤ × ℕ). p.1 < n) ps → v < n → All (λ (p : ℤ × ℕ). p.1 < n) (with_coefficient eqb ps v d)
  with_coefficient-over [] v d all lt = all_more (λ (p : ℤ × ℕ). p.1 < n) (d, v) [] lt (all_none (λ (p : ℤ × ℕ). p.1 < n))
  with_coefficient-over (p ∷ ps) v d all lt =
      let here = first_of (λ (p : ℤ × ℕ). p.1 < n) p ps all in
      let behind = rest_of (λ (p : ℤ × ℕ). p.1 < n) p ps all in
      over_if (eqb v p.1) ((d, p.1) ∷ ps) (p ∷ with_coefficient eqb ps v d) (all_more (λ (p : ℤ × ℕ). p.1 < n) (d, p.1) ps here behind) (all_more (λ (p : ℤ × ℕ). p.1 < n) p (with_coefficient eqb ps v d) here (with_coefficient-over ps v d behind lt))

  plus_part-over : (ps : List (ℤ × ℕ)) (m : Factor) (c : ℤ) (v : ℕ) (qs : List (ℤ × ℕ)) → plus_part eqb ps m c v ≡ Some qs → All (λ (p : ℤ × ℕ). p.1 < n) ps → v < n → All (λ (p : ℤ × ℕ). p.1 < n) qs
  plus_part-over ps m c v qs e all lt =
      let a = bind_some (more (coefficient eqb ps v) m c) (λ d. Some (with_coefficient eqb ps v d)) qs e in
      subst (All (λ (p : ℤ × ℕ). p.1 < n)) (some_is (with_coefficient eqb ps v a.0) qs a.2) (with_coefficient-over ps v a.0 all lt)

  plus_parts-over : (ps : List (ℤ × ℕ)) (m : Factor) (gs qs : List (ℤ × ℕ)) → plus_parts eqb ps m gs ≡ Some qs → All (λ (p : ℤ × ℕ). p.1 < n) ps → All (λ (p : ℤ × ℕ). p.1 < n) gs → All (λ (p : ℤ × ℕ). p.1 < n) qs
  plus_parts-over ps m [] qs e all others = subst (All (λ (p : ℤ × ℕ). p.1 < n)) (some_is ps qs e) all
  plus_parts-over ps m (g ∷ gs) qs e all others =
      let a = bind_some (plus_part eqb ps m g.0 g.1) (λ rs. plus_parts eqb rs m gs) qs e in
      plus_parts-over a.0 m gs qs a.2 (plus_part-over ps m g.0 g.1 a.0 a.1 all (first_of (λ (p : ℤ × ℕ). p.1 < n) g gs others)) (rest_of (λ (p : ℤ × ℕ). p.1 < n) g gs others)

  plus-over : (f : Linear ℕ) (m : Factor) (g h : Linear ℕ) → plus eqb f m g ≡ Some h → IsOver n f → IsOver n g → IsOver n h
  plus-over f m g h e over_f over_g =
      let a = bind_some (plus_parts eqb f.parts m g.parts) (λ ps. more f.constant m g.constant >>= λ c. Some (record { parts = ps; constant = c })) h e in
      let b = bind_some (more f.constant m g.constant) (λ c. Some (record { parts = a.0; constant = c })) h a.2 in
      let made : Linear ℕ = record { parts = a.0; constant = b.0 } in
      subst (IsOver n) (some_is made h b.2) (plus_parts-over f.parts m g.parts a.0 a.1 over_f over_g)

  -- ---- sums agree

  plus_part-seen : (ps : List (ℤ × ℕ)) (m : Factor) (c : ℤ) (v : ℕ) → All (λ (p : ℤ × ℕ). p.1 < n) ps → v < n → plus_part same_term (map (seen_part at) ps) m c (at v) ≡ (plus_part eqb ps m c v >>= λ qs. Some (map (seen_part at) qs))
  plus_part-seen ps m c v all lt =
      ap (λ (a : ℤ). more a m c >>= λ d. Some (with_coefficient same_term (map (seen_part at) ps) (at v) d)) (coefficient-seen ps v all lt)
      ∙ each (more (coefficient eqb ps v) m c)
    where
      each : (o : Option ℤ) → (o >>= λ d. Some (with_coefficient same_term (map (seen_part at) ps) (at v) d)) ≡ ((o >>= λ d. Some (with_coefficient eqb ps v d)) >>= λ qs. Some (map (seen_part at) qs))
      each None = refl
      each (Some d) = ap some (with_coefficient-seen ps v d all lt)

  plus_parts-seen : (ps : List (ℤ × ℕ)) (m : Factor) (gs : List (ℤ × ℕ)) → All (λ (p : ℤ × ℕ). p.1 < n) ps → All (λ (p : ℤ × ℕ). p.1 < n) gs → plus_parts same_term (map (seen_part at) ps) m (map (seen_part at) gs) ≡ (plus_parts eqb ps m gs >>= λ qs. Some (map (seen_part at) qs))
  plus_parts-seen ps m [] all others = refl
  plus_parts-seen ps m (g ∷ gs) all others =
      ap (λ (o : Option (List (ℤ × Term))). o >>= λ rs. plus_parts same_term rs m (map (seen_part at) gs)) (plus_part-seen ps m g.0 g.1 all (first_of (λ (p : ℤ × ℕ). p.1 < n) g gs others))
      ∙ each (plus_part eqb ps m g.0 g.1) (λ qs is. plus_parts-seen qs m gs (plus_part-over ps m g.0 g.1 qs is all (first_of (λ (p : ℤ × ℕ). p.1 < n) g gs others)) (rest_of (λ (p : ℤ × ℕ). p.1 < n) g gs others))
    where
      each : (o : Option (List (ℤ × ℕ))) → ((qs : List (ℤ × ℕ)) → o ≡ Some qs → plus_parts same_term (map (seen_part at) qs) m (map (seen_part at) gs) ≡ (plus_parts eqb qs m gs >>= λ rs. Some (map (seen_part at) rs))) → ((o >>= λ qs. Some (map (seen_part at) qs)) >>= λ rs. plus_parts same_term rs m (map (seen_part at) gs)) ≡ ((o >>= λ rs. plus_parts eqb rs m gs) >>= λ qs. Some (map (seen_part at) qs))
      each None known = refl
      each (Some qs) known = known qs refl

  abbrev made : List (ℤ × Term) → ℤ → Linear Term
  made ps k = record { parts = ps; constant = k }

  abbrev made_below : List (ℤ × ℕ) → ℤ → Linear ℕ
  made_below ps k = record { parts = ps; constant = k }

  pub plus-seen : (f : Linear ℕ) (m : Factor) (g : Linear ℕ) → IsOver n f → IsOver n g → with (seen at f) m (seen at g) ≡ (plus eqb f m g >>= λ h. Some (seen at h))
  plus-seen f m g over_f over_g =
      ap (λ (o : Option (List (ℤ × Term))). o >>= λ ps. more f.constant m g.constant >>= λ c. Some (record { parts = ps; constant = c })) (plus_parts-seen f.parts m g.parts over_f over_g)
      ∙ each (plus_parts eqb f.parts m g.parts) (more f.constant m g.constant)
    where
      each : (o : Option (List (ℤ × ℕ))) (c : Option ℤ) → ((o >>= λ qs. Some (map (seen_part at) qs)) >>= λ ps. c >>= λ k. Some (made ps k)) ≡ ((o >>= λ ps. c >>= λ k. Some (made_below ps k)) >>= λ h. Some (seen at h))
      each None c = refl
      each (Some ps) None = refl
      each (Some ps) (Some k) = refl

  -- ---- the same, of what a call answered

  pub gives_seen : (r : Result Sum Stop) (f : Linear ℕ) (m : Factor) (g : Linear ℕ) → IsOver n f → IsOver n g → Gives linear_sum r (plus eqb f m g) → Gives (seen_sum at) r (with (seen at f) m (seen at g))
  gives_seen (Ok s) f m g over_f over_g gave = plus-seen f m g over_f over_g ∙ ap (λ (o : Option (Linear ℕ)). o >>= λ h. Some (seen at h)) gave
  gives_seen (Err NoMemory) f m g over_f over_g gave = tt
  gives_seen (Err Undefined) f m g over_f over_g gave = plus-seen f m g over_f over_g ∙ ap (λ (o : Option (Linear ℕ)). o >>= λ h. Some (seen at h)) gave

  pub gives_over : (r : Result Sum Stop) (f : Linear ℕ) (m : Factor) (g : Linear ℕ) → IsOver n f → IsOver n g → Gives linear_sum r (plus eqb f m g) → IfOk r (λ s. IsOver n (linear_sum s))
  gives_over (Ok s) f m g over_f over_g gave = plus-over f m g (linear_sum s) gave over_f over_g
  gives_over (Err e) f m g over_f over_g gave = tt
