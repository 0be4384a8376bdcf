-- The sum of the forms that were gathered is the sum of the literals' forms.
use Rattle.std.proofs.Common.{◌≡◌, ◌<◌, ◌≤◌, ◌+◌, ℕ, zero, suc, List, [], ◌∷◌, ◌++◌, All, map, length, Bool, true, false, cond, eqb, ◌==◌, ℤ, Option, Some, None, refl, sym, ap, subst, ◌∙◌, arith}
use Rattle.std.specs.Prelude.{IfSome, option_map}
use Rattle.wy_lemmas.proofs.Lists.{append_mid, first_of, rest_of}
use Rattle.wy_lemmas.proofs.Options.{some, some_same as some_is}
use Rattle.wy_check_spec.specs.wy_term.Term.{Term}
use Rattle.wy_check_spec.specs.judge.Node.{Literal}
use Rattle.wy_check_spec.specs.wy_lin.declared.linear.Form.{Form}
use Rattle.wy_check_spec.specs.wy_lin.declared.arithmetic.Factor.TheVariants.{Times}
use Rattle.wy_check_spec.specs.wy_lin.Linear.{◌>>=◌, Linear, nothing, plus}
use Rattle.wy_check_spec.specs.wy_lin.TermForm.{with}
use Rattle.wy_check_spec.specs.wy_lin.Combination.{form_at, combined_from, combined}
use Rattle.wy_check_spec.specs.wy_lin.Seen.{IsOver, linear_form, seen, seen_form}
use Rattle.wy_check_spec.proofs.wy_lin_proofs.OptionLemmas.{bind_some}
use Rattle.wy_check_spec.proofs.wy_lin_proofs.SeenLemmas.{NamesOnce, names_once, all_none, all_more, plus-seen}
use Rattle.wy_check_spec.specs.valid.Sums.{plus_literal, summed_from, summed}
use Rattle.wy_check_spec.specs.valid.Sums as sums
use Rattle.wy_check_nodes.specs.Gathered.{weighed, prefixed, gathered, placed}
use Rattle.wy_check_nodes.proofs.FormLemmas.{AreForms}
use Rattle.wy_check_nodes.proofs.OverLemmas.{plus_over}

abbrev no_forms : Option (List (Linear Term))
no_forms = None

-- ---- lists

length_one : {A : Type 0} (xs : List A) (g : A) → length (xs ++ g ∷ []) ≡ suc (length xs)
length_one [] g = refl
length_one (x ∷ xs) g = ap suc (length_one xs g)

prefixed_more : {A : Type 0} (xs : List A) (g : A) (q : Option (List A)) → prefixed (xs ++ g ∷ []) q ≡ prefixed xs (prefixed (g ∷ []) q)
prefixed_more xs g None = refl
prefixed_more xs g (Some ys) = ap some (append_mid xs g ys)

first_same : {A : Type 0} (x y : A) (xs ys : List A) → some (x ∷ xs) ≡ some (y ∷ ys) → x ≡ y
first_same x y xs ys e = cc

rest_same : {A : Type 0} (x y : A) (xs ys : List A) → some (x ∷ xs) ≡ some (y ∷ ys) → some xs ≡ some ys
rest_same x y xs ys e = cc

-- ---- what was gathered

gathered_at : (ls : List Literal) (made : List (Linear Term)) (ps qs : List (ℕ × ℕ)) (p : ℕ × ℕ) (w : Option (Linear Term)) (all : Option (List (Linear Term))) → ps ≡ p ∷ qs → weighed ls p.0 p.1 ≡ w → prefixed made (gathered ls ps) ≡ all → prefixed made (w >>= λ g. prefixed (g ∷ []) (gathered ls qs)) ≡ all
gathered_at ls made ps qs p w all is one so = sym (ap (λ (rs : List (ℕ × ℕ)). prefixed made (gathered ls rs)) is ∙ ap (λ (o : Option (Linear Term)). prefixed made (o >>= λ g. prefixed (g ∷ []) (gathered ls qs))) one) ∙ so

-- one form more
pub gathered_step : (ls : List Literal) (made : List (Linear Term)) (ps qs : List (ℕ × ℕ)) (p : ℕ × ℕ) (g : Linear Term) (all : Option (List (Linear Term))) → ps ≡ p ∷ qs → weighed ls p.0 p.1 ≡ Some g → prefixed made (gathered ls ps) ≡ all → prefixed (made ++ g ∷ []) (gathered ls qs) ≡ all
gathered_step ls made ps qs p g all is one so = prefixed_more made g (gathered ls qs) ∙ gathered_at ls made ps qs p (Some g) all is one so

-- a literal without a form
pub gathered_stop : (ls : List Literal) (made : List (Linear Term)) (ps qs : List (ℕ × ℕ)) (p : ℕ × ℕ) (all : Option (List (Linear Term))) → ps ≡ p ∷ qs → weighed ls p.0 p.1 ≡ None → prefixed made (gathered ls ps) ≡ all → no_forms ≡ all
gathered_stop ls made ps qs p all is one so = gathered_at ls made ps qs p None all is one so

pub gathered_length : (ls : List Literal) (ps : List (ℕ × ℕ)) (fs : List (Linear Term)) → some fs ≡ gathered ls ps → length fs ≡ length ps
gathered_length ls [] [] e = refl
gathered_length ls [] (f ∷ fs) e = absurd cc
gathered_length ls (p ∷ ps) fs e = by (weighed ls p.0 p.1) (gathered ls ps) fs (λ gs h. gathered_length ls ps gs h) e
  where
    by : (w : Option (Linear Term)) (q : Option (List (Linear Term))) (fs : List (Linear Term)) → ((gs : List (Linear Term)) → some gs ≡ q → length gs ≡ length ps) → some fs ≡ (w >>= λ g. prefixed (g ∷ []) q) → length fs ≡ suc (length ps)
    by None q fs known e = absurd cc
    by (Some g) None fs known e = absurd cc
    by (Some g) (Some gs) [] known e = absurd cc
    by (Some g) (Some gs) (x ∷ xs) known e = ap suc (known xs (rest_same x g xs gs e))

-- ---- multipliers

pub placed_below : (k n : ℕ) (ps : List (ℕ × ℕ)) → k + length ps ≤ n → All (λ (m : ℕ × ℕ). m.1 < n) (placed k ps)
placed_below k n [] le = all_none (λ (m : ℕ × ℕ). m.1 < n)
placed_below k n (p ∷ ps) le = all_more (λ (m : ℕ × ℕ). m.1 < n) (p.0, k) (placed (suc k) ps) (omega (arith, le)) (placed_below (suc k) n ps (omega (arith, le)))

-- ---- no sum

plus_weighed : (ls : List Literal) (f : Linear Term) (m i : ℕ) → plus_literal ls f m i ≡ (weighed ls m i >>= λ g. with f (Times m) g)
plus_weighed ls f m i = by (m == 0)
  where
    by : (b : Bool) → cond b None (sums.form_at ls i >>= λ g. with f (Times m) g) ≡ (cond b None (sums.form_at ls i) >>= λ g. with f (Times m) g)
    by true = refl
    by false = refl

pub none_gathered : (ls : List Literal) (ps : List (ℕ × ℕ)) (f : Linear Term) → gathered ls ps ≡ None → summed_from ls f ps ≡ None
none_gathered ls [] f e = absurd cc
none_gathered ls (p ∷ ps) f e = ap (λ (o : Option (Linear Term)). o >>= λ h. summed_from ls h ps) (plus_weighed ls f p.0 p.1) ∙ by (weighed ls p.0 p.1) (gathered ls ps) (λ h is. none_gathered ls ps h is) e
  where
    after : (o : Option (Linear Term)) → ((h : Linear Term) → summed_from ls h ps ≡ None) → (o >>= λ h. summed_from ls h ps) ≡ None
    after None known = refl
    after (Some h) known = known h

    by : (w : Option (Linear Term)) (q : Option (List (Linear Term))) → ((h : Linear Term) → q ≡ None → summed_from ls h ps ≡ None) → (w >>= λ g. prefixed (g ∷ []) q) ≡ None → ((w >>= λ g. with f (Times p.0) g) >>= λ h. summed_from ls h ps) ≡ None
    by None q known e = refl
    by (Some g) None known e = after (with f (Times p.0) g) (λ h. known h refl)
    by (Some g) (Some gs) known e = absurd cc

-- ---- the sum

found_at : (done rest : List (Linear ℕ)) (g : Linear ℕ) (k : ℕ) → k ≡ length done → form_at (done ++ g ∷ rest) k ≡ g
found_at [] rest g zero e = refl
found_at [] rest g (suc k) e = absurd (omega (arith, e))
found_at (d ∷ done) rest g zero e = absurd (omega (arith, e))
found_at (d ∷ done) rest g (suc k) e = found_at done rest g k (omega (arith, e))

form_at_over : (n : ℕ) (forms : List (Linear ℕ)) (i : ℕ) → All (IsOver n) forms → IsOver n (form_at forms i)
form_at_over n [] i all = all_none (λ (p : ℤ × ℕ). p.1 < n)
form_at_over n (g ∷ gs) zero all = first_of (IsOver n) g gs all
form_at_over n (g ∷ gs) (suc i) all = form_at_over n gs i (rest_of (IsOver n) g gs all)

abbrev seen_or : (ℕ → Term) → Option (Linear ℕ) → Option (Linear Term)
seen_or at o = o >>= λ h. Some (seen at h)

summed_step : (at : ℕ → Term) (n : ℕ) → NamesOnce at n → (ls : List Literal) (done rest : List (Linear ℕ)) (k : ℕ) (f : Linear ℕ) (p : ℕ × ℕ) (ps : List (ℕ × ℕ)) (w : Option (Linear Term)) (q : Option (List (Linear Term)))
    → ((done rest : List (Linear ℕ)) (j : ℕ) (h : Linear ℕ) → j ≡ length done → All (IsOver n) rest → IsOver n h → some (map (seen at) rest) ≡ q → seen_or at (combined_from (done ++ rest) h (placed j ps)) ≡ summed_from ls (seen at h) ps)
    → k ≡ length done → All (IsOver n) rest → IsOver n f → some (map (seen at) rest) ≡ (w >>= λ g. prefixed (g ∷ []) q)
    → seen_or at (combined_from (done ++ rest) f ((p.0, k) ∷ placed (suc k) ps)) ≡ ((w >>= λ g. with (seen at f) (Times p.0) g) >>= λ h. summed_from ls h ps)
summed_step at n once ls done rest k f p ps None q again e over is gave = absurd cc
summed_step at n once ls done rest k f p ps (Some g) None again e over is gave = absurd cc
summed_step at n once ls done [] k f p ps (Some g) (Some gs) again e over is gave = absurd cc
summed_step at n once ls done (r ∷ rs) k f p ps (Some g) (Some gs) again e over is gave =
    let here = found_at done rs r k e in
    let r_over : IsOver n r = first_of (IsOver n) r rs over in
    let rest_over : All (IsOver n) rs = rest_of (IsOver n) r rs over in
    let same : seen at r ≡ g = first_same (seen at r) g (map (seen at) rs) gs gave in
    let next : suc k ≡ length (done ++ r ∷ []) = ap suc e ∙ sym (length_one done r) in
    let others : some (map (seen at) rs) ≡ some gs = rest_same (seen at r) g (map (seen at) rs) gs gave in
    ap (λ (x : Linear ℕ). seen_or at (plus eqb f (Times p.0) x >>= λ y. combined_from (done ++ r ∷ rs) y (placed (suc k) ps))) here
    ∙ (each (plus eqb f (Times p.0) r) (λ x made. ap (λ (fs : List (Linear ℕ)). seen_or at (combined_from fs x (placed (suc k) ps))) (sym (append_mid done r rs)) ∙ again (done ++ r ∷ []) rs (suc k) x next rest_over (plus_over n f (Times p.0) r x made is r_over) others)
    ∙ (ap (λ (o : Option (Linear Term)). o >>= λ h. summed_from ls h ps) (sym (plus-seen at n once f (Times p.0) r is r_over)) ∙ ap (λ (x : Linear Term). with (seen at f) (Times p.0) x >>= λ h. summed_from ls h ps) same))
  where
    each : (o : Option (Linear ℕ)) → ((x : Linear ℕ) → o ≡ Some x → seen_or at (combined_from (done ++ r ∷ rs) x (placed (suc k) ps)) ≡ summed_from ls (seen at x) ps) → seen_or at (o >>= λ y. combined_from (done ++ r ∷ rs) y (placed (suc k) ps)) ≡ ((o >>= λ h. Some (seen at h)) >>= λ h. summed_from ls h ps)
    each None known = refl
    each (Some x) known = known x refl

summed_is : (at : ℕ → Term) (n : ℕ) → NamesOnce at n → (ls : List Literal) (done rest : List (Linear ℕ)) (k : ℕ) (f : Linear ℕ) (ps : List (ℕ × ℕ)) → k ≡ length done → All (IsOver n) rest → IsOver n f → some (map (seen at) rest) ≡ gathered ls ps → seen_or at (combined_from (done ++ rest) f (placed k ps)) ≡ summed_from ls (seen at f) ps
summed_is at n once ls done rest k f [] e over is gave = refl
summed_is at n once ls done rest k f (p ∷ ps) e over is gave =
    summed_step at n once ls done rest k f p ps (weighed ls p.0 p.1) (gathered ls ps) (λ before behind j h. summed_is at n once ls before behind j h ps) e over is gave
    ∙ ap (λ (o : Option (Linear Term)). o >>= λ h. summed_from ls h ps) (sym (plus_weighed ls (seen at f) p.0 p.1))

over_map : (n : ℕ) (forms : List Form) → AreForms n forms → All (IsOver n) (map linear_form forms)
over_map n [] all = all_none (IsOver n)
over_map n (g ∷ gs) all = all_more (IsOver n) (linear_form g) (map linear_form gs) (first_of (λ (h : Form). IsOver n (linear_form h)) g gs all) (over_map n gs (rest_of (λ (h : Form). IsOver n (linear_form h)) g gs all))

map_twice : (at : ℕ → Term) (forms : List Form) → map (seen at) (map linear_form forms) ≡ map (seen_form at) forms
map_twice at [] = refl
map_twice at (g ∷ gs) = ap (λ (fs : List (Linear Term)). seen_form at g ∷ fs) (map_twice at gs)

seen_option : (at : ℕ → Term) (o : Option Form) → option_map (seen_form at) o ≡ seen_or at (option_map linear_form o)
seen_option at None = refl
seen_option at (Some g) = refl

pub sum_is : (at : ℕ → Term) (n : ℕ) → ((s t : ℕ) → s < n → t < n → at s ≡ at t → s ≡ t) → (ls : List Literal) (forms : List Form) (ps ms : List (ℕ × ℕ)) (o : Option Form) → AreForms n forms → Some (map (seen_form at) forms) ≡ gathered ls ps → ms ≡ placed 0 ps → option_map linear_form o ≡ combined (map linear_form forms) ms → option_map (seen_form at) o ≡ summed ls ps
sum_is at n one ls forms ps ms o over gave is made =
    seen_option at o
    ∙ (ap (seen_or at) (made ∙ ap (combined_from (map linear_form forms) nothing) is)
    ∙ summed_is at n (names_once at n one) ls [] (map linear_form forms) 0 nothing ps refl (over_map n forms over) (all_none (λ (p : ℤ × ℕ). p.1 < n)) (ap some (map_twice at forms) ∙ gave))

combined_over : (at : ℕ → Term) (n : ℕ) → NamesOnce at n → (forms : List (Linear ℕ)) (f : Linear ℕ) (ms : List (ℕ × ℕ)) (h : Linear ℕ) → All (IsOver n) forms → IsOver n f → combined_from forms f ms ≡ Some h → IsOver n h
combined_over at n once forms f [] h all is e = subst (IsOver n) (some_is f h e) is
combined_over at n once forms f (m ∷ ms) h all is e =
    let a = bind_some (plus eqb f (Times m.0) (form_at forms m.1)) (λ g. combined_from forms g ms) h e in
    combined_over at n once forms a.0 ms h all (plus_over n f (Times m.0) (form_at forms m.1) a.0 a.1 is (form_at_over n forms m.1 all)) a.2

pub sum_over : (at : ℕ → Term) (n : ℕ) → ((s t : ℕ) → s < n → t < n → at s ≡ at t → s ≡ t) → (forms : List Form) (ms : List (ℕ × ℕ)) (o : Option Form) → AreForms n forms → option_map linear_form o ≡ combined (map linear_form forms) ms → IfSome o (λ g. IsOver n (linear_form g))
sum_over at n one forms ms None over made = tt
sum_over at n one forms ms (Some g) over made = combined_over at n (names_once at n one) (map linear_form forms) nothing ms (linear_form g) (over_map n forms over) (all_none (λ (p : ℤ × ℕ). p.1 < n)) (sym made)
