-- The walk as the definition of the search says it.
use Rattle.std.proofs.Common.{◌≡◌, ◌∙◌, ◌<◌, ◌≤◌, ◌+◌, ◌||◌, Some, ℕ, zero, suc, Bool, true, false, cond, List, [], ◌∷◌, ◌++◌, map, drop, length, append_assoc, refl, sym, ap, subst, arith}
use Rattle.std.proofs.lemmas.List.{append-nil}
use Rattle.std.specs.Prelude.{slice_get, slice_index_or}
use Rattle.wy_search_spec.specs.wy_check_spec.judge.Node.{Node, has_formula, with_pending}
use Rattle.wy_check_splits.proofs.wy_check_nodes_proofs.BranchLemmas.{node}
use Rattle.wy_check_splits.specs.wy_check_nodes.Seen.{AreOver, seen_formula, seen_literal}
use Rattle.wy_lemmas.proofs.Lists.{drop_here, drop_end}
use Rattle.wy_search_spec.specs.Standing.{Standing, have_common, in_formulas, in_literals, standing, standing_in, with_unbound}
use Rattle.wy_cong.proofs.BoundLemmas.{unmarked_is}
use Rattle.wy_cong.proofs.OnceLemmas.{once_joined}
use Rattle.wy_cong.proofs.TaskLemmas.{marked_joined}
use Rattle.wy_cong.specs.Marks.{all_marked, binds_one, is_any_bound, listed_unless, with_unmarked}
use Rattle.wy_cong.specs.Once.{once}
use Rattle.wy_cong.specs.Walk.{AreTasks, left_at, of_literals, of_pending}
use Rattle.wy_cong.specs.declared.task.Task.{Task}
use Rattle.wy_cong.specs.declared.task.Task.TheVariants.{Visit}
use Rattle.wy_term.specs.Scope.{free_names}
use Rattle.wy_term.specs.Term.{Term}

-- ---- the tasks at first

literals_left : (at : ℕ → Term) (ps : List (ℕ × Bool)) (ts : List Task) (around : List Term)
    → left_at at (of_literals ps ++ ts) around ≡ all_marked around (in_literals (map (seen_literal at) ps)) ++ left_at at ts around
literals_left at [] ts around = refl
literals_left at (p ∷ ps) ts around =
    ap (λ ms. all_marked around (standing_in (at p.0)) ++ ms) (literals_left at ps ts around)
    ∙ sym (append_assoc (all_marked around (standing_in (at p.0))) (all_marked around (in_literals (map (seen_literal at) ps))) (left_at at ts around))
    ∙ ap (λ ms. ms ++ left_at at ts around) (sym (marked_joined around (standing_in (at p.0)) (in_literals (map (seen_literal at) ps))))

pending_left : (at : ℕ → Term) (ps : List (ℕ × Bool)) (around : List Term) → left_at at (of_pending ps) around ≡ all_marked around (in_formulas (map (seen_formula at) ps))
pending_left at [] around = refl
pending_left at (p ∷ ps) around =
    ap (λ ms. all_marked around (standing_in (seen_formula at p)) ++ ms) (pending_left at ps around)
    ∙ sym (marked_joined around (standing_in (seen_formula at p)) (in_formulas (map (seen_formula at) ps)))

pub all_led : (at : ℕ → Term) (ls ps : List (ℕ × Bool)) (ts : List Task) → ts ≡ of_literals ls ++ of_pending ps
    → with_unmarked [] (left_at at ts []) ≡ standing (node (map (seen_literal at) ls) (map (seen_formula at) ps))
all_led at ls ps ts is =
    let literals = in_literals (map (seen_literal at) ls) in
    let formulas = in_formulas (map (seen_formula at) ps) in
    ap (λ us. with_unmarked [] (left_at at us [])) is
    ∙ ap (with_unmarked []) (literals_left at ls (of_pending ps) [] ∙ ap (λ ms. all_marked [] literals ++ ms) (pending_left at ps []) ∙ sym (marked_joined [] literals formulas))
    ∙ unmarked_is [] (literals ++ formulas)

-- ---- one more

pub listed_put : (done new : List Term) (f : Term) → new ≡ (with_pending (node [] done) f).pending → new ≡ listed_unless false done f
listed_put done new f is = is ∙ by (has_formula done f)
  where
    by : (b : Bool) → (cond b (node [] done) (node [] (done ++ f ∷ []))).pending ≡ cond b done (done ++ f ∷ [])
    by true = refl
    by false = refl

-- ---- numbers of terms

over_tasks_pending : (n : ℕ) (ps : List (ℕ × Bool)) → AreOver n ps → AreTasks n (of_pending ps)
over_tasks_pending n [] over = tt
over_tasks_pending n (p ∷ ps) over = (over.0, over_tasks_pending n ps over.1)

over_tasks_literals : (n : ℕ) (ps : List (ℕ × Bool)) (ts : List Task) → AreOver n ps → AreTasks n ts → AreTasks n (of_literals ps ++ ts)
over_tasks_literals n [] ts over are = are
over_tasks_literals n (p ∷ ps) ts over are = (over.0, over_tasks_literals n ps ts over.1 are)

pub first_below : (n : ℕ) (ls ps : List (ℕ × Bool)) (ts : List Task) → AreOver n ls → AreOver n ps → ts ≡ of_literals ls ++ of_pending ps → AreTasks n ts
first_below n ls ps ts a b is = subst (AreTasks n) (sym is) (over_tasks_literals n ls (of_pending ps) a (over_tasks_pending n ps b))

-- ---- lists of numbers, walked through

pub more_literals : (ts us : List Task) (ps : List (ℕ × Bool)) (i : ℕ) (p : ℕ × Bool) (whole : List Task) → slice_get ps i ≡ Some p → ts ++ of_literals (drop i ps) ≡ whole → us ≡ ts ++ Visit p.0 true ∷ []
    → us ++ of_literals (drop (i + 1) ps) ≡ whole
more_literals ts us ps i p whole here so is =
    ap (λ vs. vs ++ of_literals (drop (i + 1) ps)) is
    ∙ append_assoc ts (Visit p.0 true ∷ []) (of_literals (drop (i + 1) ps))
    ∙ sym (ap (λ qs. ts ++ of_literals qs) (drop_here ps i p here))
    ∙ so

pub all_literals : (ts : List Task) (ps : List (ℕ × Bool)) (i : ℕ) (whole : List Task) → length ps ≤ i → ts ++ of_literals (drop i ps) ≡ whole → ts ≡ whole
all_literals ts ps i whole le so = sym (append-nil ts) ∙ sym (ap (λ qs. ts ++ of_literals qs) (drop_end ps i le)) ∙ so

pub more_pending : (ts us : List Task) (ps : List (ℕ × Bool)) (i : ℕ) (p : ℕ × Bool) (whole : List Task) → slice_get ps i ≡ Some p → ts ++ of_pending (drop i ps) ≡ whole → us ≡ ts ++ Visit p.0 p.1 ∷ []
    → us ++ of_pending (drop (i + 1) ps) ≡ whole
more_pending ts us ps i p whole here so is =
    ap (λ vs. vs ++ of_pending (drop (i + 1) ps)) is
    ∙ append_assoc ts (Visit p.0 p.1 ∷ []) (of_pending (drop (i + 1) ps))
    ∙ sym (ap (λ qs. ts ++ of_pending qs) (drop_here ps i p here))
    ∙ so

pub all_pending : (ts : List Task) (ps : List (ℕ × Bool)) (i : ℕ) (whole : List Task) → length ps ≤ i → ts ++ of_pending (drop i ps) ≡ whole → ts ≡ whole
all_pending ts ps i whole le so = sym (append-nil ts) ∙ sym (ap (λ qs. ts ++ of_pending qs) (drop_end ps i le)) ∙ so

-- ---- what is listed, put into a node

once_put : (done : List Term) (t : Term) (bound : Bool) → once [] done ≡ done → once [] (cond (has_formula done t || bound) done (done ++ t ∷ [])) ≡ cond (has_formula done t || bound) done (done ++ t ∷ [])
once_put done t bound is = by (has_formula done t) bound refl
  where
    by : (b c : Bool) → has_formula done t ≡ b → once [] (cond (b || c) done (done ++ t ∷ [])) ≡ cond (b || c) done (done ++ t ∷ [])
    by true c e = is
    by false true e = is
    by false false e = once_joined [] done (t ∷ []) ∙ ap (λ (ts : List Term). once ts (t ∷ [])) is ∙ ap (λ (b : Bool). cond b done (done ++ t ∷ [])) e

once_unbound : (done : List Term) (ss : List Standing) → once [] done ≡ done → once [] (with_unbound done ss) ≡ with_unbound done ss
once_unbound done [] is = is
once_unbound done (s ∷ ss) is =
    once_unbound (cond (has_formula done s.what || have_common (free_names s.what) s.around) done (done ++ s.what ∷ [])) ss (once_put done s.what (have_common (free_names s.what) s.around) is)

-- each stands there once
pub once_standing : (whole : Node) → once [] (standing whole) ≡ standing whole
once_standing whole = once_unbound [] (in_literals whole.literals ++ in_formulas whole.pending) refl

pub copied_next : (at : ℕ → Term) (ps : List (ℕ × Bool)) (i : ℕ) (p : ℕ × Bool) (old new : Node) (whole : List Term) → slice_get ps i ≡ Some p → new ≡ with_pending old (seen_formula at p) → once old.pending (map (seen_formula at) (drop i ps)) ≡ whole
    → once new.pending (map (seen_formula at) (drop (i + 1) ps)) ≡ whole
copied_next at ps i p old new whole here is so =
    ap (λ (n : Node). once n.pending (map (seen_formula at) (drop (i + 1) ps))) is
    ∙ ap (λ (ts : List Term). once ts (map (seen_formula at) (drop (i + 1) ps))) (by (has_formula old.pending (seen_formula at p)))
    ∙ sym (ap (λ (qs : List (ℕ × Bool)). once old.pending (map (seen_formula at) qs)) (drop_here ps i p here))
    ∙ so
  where
    by : (b : Bool) → (cond b old (node old.literals (old.pending ++ seen_formula at p ∷ []))).pending ≡ cond b old.pending (old.pending ++ seen_formula at p ∷ [])
    by true = refl
    by false = refl

pub copied_end : (at : ℕ → Term) (ps : List (ℕ × Bool)) (i : ℕ) (made : Node) (whole : List Term) → length ps ≤ i → once made.pending (map (seen_formula at) (drop i ps)) ≡ whole → made.pending ≡ whole
copied_end at ps i made whole le so = sym (ap (λ (qs : List (ℕ × Bool)). once made.pending (map (seen_formula at) qs)) (drop_end ps i le)) ∙ so

-- ---- quantifiers around, walked through

drop_at : (xs : List ℕ) (i x : ℕ) → i < length xs → x ≡ slice_index_or xs i x → drop i xs ≡ x ∷ drop (i + 1) xs
drop_at xs i x lt e = next xs i x lt e ∙ ap (λ (j : ℕ). x ∷ drop j xs) (plus i)
  where
    plus : (i : ℕ) → suc i ≡ i + 1
    plus i = omega arith

    next : (xs : List ℕ) (i x : ℕ) → i < length xs → x ≡ slice_index_or xs i x → drop i xs ≡ x ∷ drop (suc i) xs
    next [] i x lt e = absurd (omega (arith, lt))
    next (y ∷ ys) zero x lt e = ap (λ z. z ∷ ys) (sym e)
    next (y ∷ ys) (suc i) x lt e = next ys i x (omega (arith, lt)) e

pub bound_here : (at : ℕ → Term) (ks : List ℕ) (i k : ℕ) (names : List Term) (whole : Bool) → i < length ks → k ≡ slice_index_or ks i k → is_any_bound (map at (drop i ks)) names ≡ whole → binds_one (at k) names ≡ true → true ≡ whole
bound_here at ks i k names whole lt here so up =
    sym (ap (λ js. is_any_bound (map at js) names) (drop_at ks i k lt here) ∙ ap (λ b. b || is_any_bound (map at (drop (i + 1) ks)) names) up) ∙ so

pub bound_later : (at : ℕ → Term) (ks : List ℕ) (i k : ℕ) (names : List Term) (whole : Bool) → i < length ks → k ≡ slice_index_or ks i k → is_any_bound (map at (drop i ks)) names ≡ whole → binds_one (at k) names ≡ false
    → is_any_bound (map at (drop (i + 1) ks)) names ≡ whole
bound_later at ks i k names whole lt here so un =
    sym (ap (λ js. is_any_bound (map at js) names) (drop_at ks i k lt here) ∙ ap (λ b. b || is_any_bound (map at (drop (i + 1) ks)) names) un) ∙ so

pub bound_never : (at : ℕ → Term) (ks : List ℕ) (i : ℕ) (names : List Term) (whole : Bool) → length ks ≤ i → is_any_bound (map at (drop i ks)) names ≡ whole → false ≡ whole
bound_never at ks i names whole le so = sym (ap (λ js. is_any_bound (map at js) names) (drop_end ks i le)) ∙ so
