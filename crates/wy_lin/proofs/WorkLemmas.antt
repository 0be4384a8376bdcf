-- What a task leads to is what the tasks that stand in its place lead to.
use Rattle.std.proofs.Common.{◌≡◌, ◌<◌, ℕ, zero, suc, List, [], ◌∷◌, length, get_or, map, ℤ, Option, Some, None, Result, Ok, Err, refl, sym, ap, subst, ◌∙◌, arith}
use Rattle.std.specs.Prelude.{IfOk, IfSome, slice_get}
use Rattle.wy_term.proofs.wy_lemmas_proofs.Lists.{first_of, rest_of}
use Rattle.wy_term.proofs.wy_lemmas_proofs.Options.{some, some_same as some_is}
use Rattle.wy_term.specs.Term.{Term, two, one, add, sub, neg, mul}
use Rattle.wy_term.specs.Rewriting.{as_number}
use Rattle.wy_lin.specs.declared.arithmetic.Factor.{Factor}
use Rattle.wy_lin.specs.declared.arithmetic.Factor.TheVariants.{Times, Scale, Minus}
use Rattle.wy_lin.specs.declared.stop.Stop.{Stop}
use Rattle.wy_lin.specs.declared.stop.Stop.TheVariants.{Undefined, NoMemory}
use Rattle.wy_lin.specs.declared.sum.Sum.{Sum}
use Rattle.wy_lin.specs.declared.linear.Form.{Form}
use Rattle.wy_lin.specs.declared.work.Task.{Task}
use Rattle.wy_lin.specs.declared.work.Task.TheVariants as task
use Rattle.wy_lin.specs.declared.work.Work.{Work}
use Rattle.wy_lin.specs.Linear.{◌>>=◌, Linear}
use Rattle.wy_lin.specs.TermForm.{with, multiple, form_of, form_of_product}
use Rattle.wy_lin.specs.Combination.{form_at}
use Rattle.wy_lin.specs.Seen.{Gives, IsOver, IsAnswer, linear_sum, linear_form, seen, seen_sum, seen_form}
use Rattle.wy_lin.specs.Work.{run, seen_sums, outcome, outcome_after, AreSumsOver}
use Rattle.wy_lin.proofs.SeenLemmas.{all_more}

-- ---- tasks in the place of a term

module _ (at : ℕ → Term) (ts : List Task) (fs : List (Linear Term)) where
  -- a form in front, and then the rest
  abbrev goes_on : Linear Term → Option (List (Linear Term))
  goes_on h = run at ts (h ∷ fs)

  in_front : (q : Option (Linear Term)) → ((q >>= λ h. Some (h ∷ fs)) >>= λ gs. run at ts gs) ≡ (q >>= goes_on)
  in_front None = refl
  in_front (Some h) = refl

  two_parts : (m : Factor) (o p : Option (Linear Term)) → (o >>= λ f. p >>= λ g. (with f m g >>= λ h. Some (h ∷ fs)) >>= λ gs. run at ts gs) ≡ ((o >>= λ f. p >>= λ g. with f m g) >>= goes_on)
  two_parts m None p = refl
  two_parts m (Some f) None = refl
  two_parts m (Some f) (Some g) = in_front (with f m g)

  one_part : (m : Factor) (o : Option (Linear Term)) → (o >>= λ f. (multiple m f >>= λ h. Some (h ∷ fs)) >>= λ gs. run at ts gs) ≡ ((o >>= λ f. multiple m f) >>= goes_on)
  one_part m None = refl
  one_part m (Some f) = in_front (multiple m f)

  pub run-sum : (s u : ℕ) → run at (task.Term s ∷ task.Term u ∷ task.Join (Times 1) ∷ ts) fs ≡ (form_of (two add (at s) (at u)) >>= goes_on)
  run-sum s u = two_parts (Times 1) (form_of (at s)) (form_of (at u))

  pub run-difference : (s u : ℕ) → run at (task.Term s ∷ task.Term u ∷ task.Join Minus ∷ ts) fs ≡ (form_of (two sub (at s) (at u)) >>= goes_on)
  run-difference s u = two_parts Minus (form_of (at s)) (form_of (at u))

  pub run-opposite : (s : ℕ) → run at (task.Term s ∷ task.Multiply Minus ∷ ts) fs ≡ (form_of (one neg (at s)) >>= goes_on)
  run-opposite s = one_part Minus (form_of (at s))

  first_number : (s u : Term) (a : Option ℤ) (c : ℤ) → a ≡ Some c → form_of_product (two mul s u) a (as_number u) (form_of s) (form_of u) ≡ (form_of u >>= λ h. multiple (Scale c) h)
  first_number s u a c e = rw e refl

  second_number : (s u : Term) (a b : Option ℤ) (c : ℤ) → a ≡ None → b ≡ Some c → form_of_product (two mul s u) a b (form_of s) (form_of u) ≡ (form_of s >>= λ h. multiple (Scale c) h)
  second_number s u a b c e f = rw (e, f) refl

  pub run-first_number : (s u : ℕ) (c : ℤ) → as_number (at s) ≡ Some c → run at (task.Term u ∷ task.Multiply (Scale c) ∷ ts) fs ≡ (form_of (two mul (at s) (at u)) >>= goes_on)
  run-first_number s u c e = one_part (Scale c) (form_of (at u)) ∙ ap (λ (o : Option (Linear Term)). o >>= goes_on) (sym (first_number (at s) (at u) (as_number (at s)) c e))

  pub run-second_number : (s u : ℕ) (c : ℤ) → as_number (at s) ≡ None → as_number (at u) ≡ Some c → run at (task.Term s ∷ task.Multiply (Scale c) ∷ ts) fs ≡ (form_of (two mul (at s) (at u)) >>= goes_on)
  run-second_number s u c e f = one_part (Scale c) (form_of (at s)) ∙ ap (λ (o : Option (Linear Term)). o >>= goes_on) (sym (second_number (at s) (at u) (as_number (at s)) (as_number (at u)) c e f))

-- ---- work with these tasks and forms

-- new work is the old work with tasks in front, that lead to the form of a term
pub leads_by_tasks : (at : ℕ → Term) (t : ℕ) (tree : Term) (old new : Work) (more : List Task) → at t ≡ tree → run at more (seen_sums at old.forms.items) ≡ (form_of tree >>= λ h. run at old.tasks.items (h ∷ seen_sums at old.forms.items)) → new.tasks.items ≡ more → new.forms.items ≡ old.forms.items → outcome at new ≡ outcome_after at (task.Term t) old
leads_by_tasks at t tree old new more is led tasks forms =
    ap (λ (ts : List Task). run at ts (seen_sums at new.forms.items)) tasks
    ∙ ap (λ (fs : List Sum). run at more (seen_sums at fs)) forms
    ∙ led
    ∙ ap (λ (u : Term). form_of u >>= λ h. run at old.tasks.items (h ∷ seen_sums at old.forms.items)) (sym is)

-- ---- the end

-- nothing is left to do, and the last form is the term's
pub last_is : (at : ℕ → Term) (t : ℕ) (s : Sum) (rest : List Sum) → some (seen_sums at (s ∷ rest)) ≡ run at (task.Term t ∷ []) [] → form_of (at t) ≡ Some (seen_sum at s)
last_is at t s rest e = by (form_of (at t)) e
  where
    by : (o : Option (Linear Term)) → some (seen_sums at (s ∷ rest)) ≡ (o >>= λ f. Some (f ∷ [])) → o ≡ Some (seen_sum at s)
    by None h = absurd cc
    by (Some f) h = cc

-- ---- what is answered

-- what holds of each form that the definition gives holds of the answer
pub seen_answer : {E : Type 0} (at : ℕ → Term) (r : Result Sum Stop) (a : Result (Option Form) E) (given : Option (Linear Term)) (P : Linear Term → Type 0) → Gives (seen_sum at) r given → IfOk a (IsAnswer r) → ((h : Linear Term) → given ≡ Some h → P h) → IfOk a (λ o. IfSome o (λ f. P (seen_form at f)))
seen_answer at r (Err e) given P gave is known = tt
seen_answer at r (Ok None) given P gave is known = tt
seen_answer at (Ok s) (Ok (Some f)) given P gave is known = subst (λ (g : Linear ℕ). P (seen at g)) (sym is) (known (seen_sum at s) gave)
seen_answer at (Err Undefined) (Ok (Some f)) given P gave is known = absurd is
seen_answer at (Err NoMemory) (Ok (Some f)) given P gave is known = absurd is

pub plain_answer : {E : Type 0} (r : Result Sum Stop) (a : Result (Option Form) E) (given : Option (Linear ℕ)) (P : Linear ℕ → Type 0) → Gives linear_sum r given → IfOk a (IsAnswer r) → ((h : Linear ℕ) → given ≡ Some h → P h) → IfOk a (λ o. IfSome o (λ f. P (linear_form f)))
plain_answer r (Err e) given P gave is known = tt
plain_answer r (Ok None) given P gave is known = tt
plain_answer (Ok s) (Ok (Some f)) given P gave is known = subst P (sym is) (known (linear_sum s) gave)
plain_answer (Err Undefined) (Ok (Some f)) given P gave is known = absurd is
plain_answer (Err NoMemory) (Ok (Some f)) given P gave is known = absurd is

-- ---- lists of sums

-- another sum in the place of the first one
pub pushed_over : (n : ℕ) (old rest new : List Sum) (g h : Sum) → AreSumsOver n old → old ≡ g ∷ rest → IsOver n (linear_sum h) → new ≡ h ∷ rest → AreSumsOver n new
pushed_over n old rest new g h all is over pushed =
    let same : AreSumsOver n (g ∷ rest) = subst (AreSumsOver n) is all in
    subst (AreSumsOver n) (sym pushed) (all_more (λ s. IsOver n (linear_sum s)) h rest over (rest_of (λ s. IsOver n (linear_sum s)) g rest same))

-- the first of them is over the first n terms
pub first_over : (n : ℕ) (all rest : List Sum) (s : Sum) → AreSumsOver n all → all ≡ s ∷ rest → IsOver n (linear_sum s)
first_over n all rest s over is = first_of (λ s. IsOver n (linear_sum s)) s rest (subst (AreSumsOver n) is over)

-- nothing is left to do, and the first form is the term's
pub ended : (at : ℕ → Term) (t : ℕ) (w : Work) (s : Sum) (rest : List Sum) → w.tasks.items ≡ [] → w.forms.items ≡ s ∷ rest → outcome at w ≡ run at (task.Term t ∷ []) [] → form_of (at t) ≡ Some (seen_sum at s)
ended at t w s rest tasks forms led =
    last_is at t s rest (sym (ap (λ (ts : List Task). run at ts (seen_sums at w.forms.items)) tasks ∙ ap (λ (fs : List Sum). some (seen_sums at fs)) forms) ∙ led)

-- the form at a place
pub form_there : (fs : List Form) (i : ℕ) (x : Form) → i < length fs → x ≡ get_or fs i x → linear_form x ≡ form_at (map linear_form fs) i
form_there [] i x lt e = absurd (omega (arith, lt))
form_there (f ∷ fs) zero x lt e = ap linear_form e
form_there (f ∷ fs) (suc i) x lt e = form_there fs i x (omega (arith, lt)) e

pub form_found : (fs : List Form) (i : ℕ) (x : Form) → slice_get fs i ≡ some x → linear_form x ≡ form_at (map linear_form fs) i
form_found [] i x e = absurd cc
form_found (f ∷ fs) zero x e = ap linear_form (sym (some_is f x e))
form_found (f ∷ fs) (suc i) x e = form_found fs i x e
