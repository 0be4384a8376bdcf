-- What is known of formulas.
use Rattle.std.proofs.Common.{◌≡◌, ◌<◌, ◌≤◌, ◌+◌, ◌||◌, ℕ, zero, suc, List, [], ◌∷◌, ◌++◌, map, drop, length, get_or, Bool, true, false, cond, eqb, Option, Some, None, refl, sym, ap, subst, ◌∙◌, arith}
use Rattle.std.proofs.lemmas.Bool.{eqb-true}
use Rattle.std.proofs.lemmas.List.{drop_more}
use Rattle.std.specs.Prelude.{slice_get, IfSome}
use Rattle.wy_lemmas.proofs.Lists.{get_here}
use Rattle.wy_check_spec.specs.wy_term.Term.{Term, Of, Parts, part, no_parts, denied, all_of, any_of}
use Rattle.wy_check_spec.specs.wy_term.Nodes.{parts_at}
use Rattle.wy_check_spec.specs.declared.judge.verdict.Verdict.{Verdict}
use Rattle.wy_check_spec.specs.declared.judge.verdict.Verdict.TheVariants.{Yes, No, Open}
use Rattle.wy_check_spec.specs.judge.Node.{Literal}
use Rattle.wy_check_spec.specs.judge.Judgement.{turned, both, either, judged, judged_all, judged_any}
use Rattle.wy_check_nodes.specs.Seen.{signed, seen_formula, AreBelow}
use Rattle.wy_check_nodes.specs.Judged.{fails, is_any_refuted}
use Rattle.wy_check_spec.specs.valid.Literals.{is_no}

-- ---- lists of numbers

pub below_last : (n : ℕ) (ks js : List ℕ) (k : ℕ) → AreBelow n ks → k < n → js ≡ ks ++ k ∷ [] → AreBelow n js
below_last n ks js k below lt is = subst (AreBelow n) (sym is) (go ks below)
  where
    go : (xs : List ℕ) → AreBelow n xs → AreBelow n (xs ++ k ∷ [])
    go [] b zero d l = lt
    go [] b (suc i) d l = absurd (omega (arith, l))
    go (x ∷ xs) b zero d l = b 0 d (omega arith)
    go (x ∷ xs) b (suc i) d l = go xs (λ j e m. b (suc j) e (omega (arith, m))) i d (omega (arith, l))

pub below_up : (m n : ℕ) (ks : List ℕ) → m ≤ n → AreBelow m ks → AreBelow n ks
below_up m n ks le below i d lt = let h : get_or ks i d < m = below i d lt in omega (arith, h, le)

-- ---- what is known

some_is : (v w : Verdict) → Some v ≡ Some w → v ≡ w
some_is v w e = cc

pub knows_more : (at : ℕ → Term) (ls : List Literal) (f : ℕ) (v : Verdict) (old new : ℕ → Option Verdict) → ((g : ℕ) → new g ≡ cond (eqb f g) (Some v) (old g)) → v ≡ judged ls (at f) → ((g : ℕ) (w : Verdict) → old g ≡ Some w → w ≡ judged ls (at g)) → (g : ℕ) (w : Verdict) → new g ≡ Some w → w ≡ judged ls (at g)
knows_more at ls f v old new puts is knows g w e = by (eqb f g) refl (sym (puts g) ∙ e)
  where
    by : (b : Bool) → eqb f g ≡ b → cond b (Some v) (old g) ≡ Some w → w ≡ judged ls (at g)
    by true h k = sym (some_is v w k) ∙ (is ∙ ap (λ (j : ℕ). judged ls (at j)) (eqb-true f g h))
    by false h k = knows g w k

pub all_on : (at : ℕ → Term) (ls : List Literal) (ks : List ℕ) (i j : ℕ) (v w new : Verdict) → i < length ks → j ≡ i + 1 → v ≡ judged ls (at (get_or ks i 0)) → w ≡ judged_all ls (parts_at at (drop j ks)) → new ≡ both v w → new ≡ judged_all ls (parts_at at (drop i ks))
all_on at ls ks i j v w new lt next here behind e =
    e ∙ (ap (λ (x : Verdict). both x w) here ∙ (ap (both (judged ls (at (get_or ks i 0)))) (behind ∙ ap (λ (m : ℕ). judged_all ls (parts_at at (drop m ks))) next) ∙ sym (ap (λ (js : List ℕ). judged_all ls (parts_at at js)) (drop_more ks i 0 lt))))

pub all_end : (at : ℕ → Term) (ls : List Literal) (ks : List ℕ) (i : ℕ) (w : Verdict) → i ≤ 0 → w ≡ judged_all ls (parts_at at (drop i ks)) → w ≡ judged_all ls (parts_at at ks)
all_end at ls ks zero w le e = e
all_end at ls ks (suc i) w le e = absurd (omega (arith, le))

pub any_on : (at : ℕ → Term) (ls : List Literal) (ks : List ℕ) (i j : ℕ) (v w new : Verdict) → i < length ks → j ≡ i + 1 → v ≡ judged ls (at (get_or ks i 0)) → w ≡ judged_any ls (parts_at at (drop j ks)) → new ≡ either v w → new ≡ judged_any ls (parts_at at (drop i ks))
any_on at ls ks i j v w new lt next here behind e =
    e ∙ (ap (λ (x : Verdict). either x w) here ∙ (ap (either (judged ls (at (get_or ks i 0)))) (behind ∙ ap (λ (m : ℕ). judged_any ls (parts_at at (drop m ks))) next) ∙ sym (ap (λ (js : List ℕ). judged_any ls (parts_at at js)) (drop_more ks i 0 lt))))

pub any_end : (at : ℕ → Term) (ls : List Literal) (ks : List ℕ) (i : ℕ) (w : Verdict) → i ≤ 0 → w ≡ judged_any ls (parts_at at (drop i ks)) → w ≡ judged_any ls (parts_at at ks)
any_end at ls ks zero w le e = e
any_end at ls ks (suc i) w le e = absurd (omega (arith, le))

pub both_no : (v : Verdict) → both v No ≡ No
both_no Yes = refl
both_no No = refl
both_no Open = refl

pub all_no : (at : ℕ → Term) (ls : List Literal) (ks : List ℕ) (i : ℕ) (v : Verdict) → i < length ks → v ≡ judged ls (at (get_or ks i 0)) → fails v true ≡ true → No ≡ judged_all ls (parts_at at ks)
all_no at ls [] i v lt here is = absurd (omega (arith, lt))
all_no at ls (k ∷ ks) zero v lt here is = ap (λ (w : Verdict). both w (judged_all ls (parts_at at ks))) (by v is ∙ here)
  where
    by : (w : Verdict) → fails w true ≡ true → No ≡ w
    by Yes e = absurd cc
    by No e = refl
    by Open e = absurd cc
all_no at ls (k ∷ ks) (suc i) v lt here is = sym (both_no (judged ls (at k))) ∙ ap (both (judged ls (at k))) (all_no at ls ks i v (omega (arith, lt)) here is)

pub either_yes : (v : Verdict) → either v Yes ≡ Yes
either_yes Yes = refl
either_yes No = refl
either_yes Open = refl

pub any_yes : (at : ℕ → Term) (ls : List Literal) (ks : List ℕ) (i : ℕ) (v : Verdict) → i < length ks → v ≡ judged ls (at (get_or ks i 0)) → fails v false ≡ true → Yes ≡ judged_any ls (parts_at at ks)
any_yes at ls [] i v lt here is = absurd (omega (arith, lt))
any_yes at ls (k ∷ ks) zero v lt here is = ap (λ (w : Verdict). either w (judged_any ls (parts_at at ks))) (by v is ∙ here)
  where
    by : (w : Verdict) → fails w false ≡ true → Yes ≡ w
    by Yes e = refl
    by No e = absurd cc
    by Open e = absurd cc
any_yes at ls (k ∷ ks) (suc i) v lt here is = sym (either_yes (judged ls (at k))) ∙ ap (either (judged ls (at k))) (any_yes at ls ks i v (omega (arith, lt)) here is)

-- ---- pending formulas

pub no_by_sign : (ls : List Literal) (f : Term) (holds : Bool) → is_no (judged ls (signed f holds)) ≡ fails (judged ls f) holds
no_by_sign ls f true = by (judged ls f)
  where
    by : (v : Verdict) → is_no v ≡ fails v true
    by Yes = refl
    by No = refl
    by Open = refl
no_by_sign ls f false = by (judged ls f)
  where
    by : (v : Verdict) → is_no (turned v) ≡ fails v false
    by Yes = refl
    by No = refl
    by Open = refl

pub refuted_on : (at : ℕ → Term) (ls : List Literal) (ps : List (ℕ × Bool)) (i : ℕ) (p : ℕ × Bool) (v : Verdict) (whole : Bool) → slice_get ps i ≡ Some p → v ≡ judged ls (at p.0) → is_any_refuted ls (map (seen_formula at) (drop i ps)) ≡ whole → (fails v p.1 || is_any_refuted ls (map (seen_formula at) (drop (i + 1) ps))) ≡ whole
refuted_on at ls ps i p v whole here is so_far =
    ap (λ (w : Verdict). fails w p.1 || is_any_refuted ls (map (seen_formula at) (drop (i + 1) ps))) is
    ∙ (ap (λ (b : Bool). b || is_any_refuted ls (map (seen_formula at) (drop (i + 1) ps))) (sym (no_by_sign ls (at p.0) p.1))
    ∙ (sym (ap (λ (qs : List (ℕ × Bool)). is_any_refuted ls (map (seen_formula at) qs)) (get_here ps i p here)) ∙ so_far))

pub refuted_now : (at : ℕ → Term) (ls : List Literal) (ps : List (ℕ × Bool)) (i : ℕ) (p : ℕ × Bool) (v : Verdict) (whole : Bool) → slice_get ps i ≡ Some p → v ≡ judged ls (at p.0) → is_any_refuted ls (map (seen_formula at) (drop i ps)) ≡ whole → fails v p.1 ≡ true → true ≡ whole
refuted_now at ls ps i p v whole here is so_far up = sym (ap (λ (b : Bool). b || is_any_refuted ls (map (seen_formula at) (drop (i + 1) ps))) up) ∙ refuted_on at ls ps i p v whole here is so_far

pub refuted_later : (at : ℕ → Term) (ls : List Literal) (ps : List (ℕ × Bool)) (i : ℕ) (p : ℕ × Bool) (v : Verdict) (whole : Bool) → slice_get ps i ≡ Some p → v ≡ judged ls (at p.0) → is_any_refuted ls (map (seen_formula at) (drop i ps)) ≡ whole → fails v p.1 ≡ false → is_any_refuted ls (map (seen_formula at) (drop (i + 1) ps)) ≡ whole
refuted_later at ls ps i p v whole here is so_far un = sym (ap (λ (b : Bool). b || is_any_refuted ls (map (seen_formula at) (drop (i + 1) ps))) un) ∙ refuted_on at ls ps i p v whole here is so_far

-- ---- formulas by their parts

pub by_denial : (o : Option Verdict) (ls : List Literal) (t g : Term) → t ≡ Of denied (part g no_parts) → IfSome o (λ (v : Verdict). v ≡ turned (judged ls g)) → IfSome o (λ (v : Verdict). v ≡ judged ls t)
by_denial None ls t g is gave = tt
by_denial (Some v) ls t g is gave = gave ∙ sym (ap (judged ls) is)

pub by_all : (o : Option Verdict) (ls : List Literal) (t : Term) (ps : Parts) → t ≡ Of all_of ps → IfSome o (λ (v : Verdict). v ≡ judged_all ls ps) → IfSome o (λ (v : Verdict). v ≡ judged ls t)
by_all None ls t ps is gave = tt
by_all (Some v) ls t ps is gave = gave ∙ sym (ap (judged ls) is)

pub by_any : (o : Option Verdict) (ls : List Literal) (t : Term) (ps : Parts) → t ≡ Of any_of ps → IfSome o (λ (v : Verdict). v ≡ judged_any ls ps) → IfSome o (λ (v : Verdict). v ≡ judged ls t)
by_any None ls t ps is gave = tt
by_any (Some v) ls t ps is gave = gave ∙ sym (ap (judged ls) is)
