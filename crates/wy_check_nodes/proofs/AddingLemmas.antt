-- What a list of formulas that are to be added leads to.
use Rattle.std.proofs.Common.{◌≡◌, ◌<◌, ℕ, suc, List, [], ◌∷◌, ◌++◌, get_or, Bool, true, false, Result, Ok, Err, refl, sym, ap, subst, ◌∙◌, arith}
use Rattle.std.specs.Prelude.{IfOk}
use Rattle.wy_check_spec.specs.wy_term.Term.{Term, Of, no_parts, part, denied, all_of, any_of}
use Rattle.wy_check_spec.specs.wy_term.Nodes.{parts_at}
use Rattle.wy_check_spec.specs.judge.Node.{Node, added, added_denial, denied_one, added_all, denied_all}
use Rattle.wy_check_nodes.specs.Seen.{AreOver, AreBelow}
use Rattle.wy_check_nodes.specs.Tasks.{after_all, tasks_of}

all_first : (at : ℕ → Term) (node : Node) (ks : List ℕ) (ts : List (ℕ × Bool)) → after_all at node (tasks_of true ks ++ ts) ≡ after_all at (added_all node (parts_at at ks)) ts
all_first at node [] ts = refl
all_first at node (k ∷ ks) ts = all_first at (added node (at k)) ks ts

any_first : (at : ℕ → Term) (node : Node) (ks : List ℕ) (ts : List (ℕ × Bool)) → after_all at node (tasks_of false ks ++ ts) ≡ after_all at (denied_all node (parts_at at ks)) ts
any_first at node [] ts = refl
any_first at node (k ∷ ks) ts = any_first at (denied_one node (at k)) ks ts

pub and_taken : (at : ℕ → Term) (node : Node) (t : Term) (ks : List ℕ) (ts us : List (ℕ × Bool)) → t ≡ Of all_of (parts_at at ks) → us ≡ tasks_of true ks ++ ts → after_all at node us ≡ after_all at (added node t) ts
and_taken at node t ks ts us is tasks = ap (after_all at node) tasks ∙ (all_first at node ks ts ∙ ap (λ (f : Term). after_all at (added node f) ts) (sym is))

pub or_taken : (at : ℕ → Term) (node : Node) (t : Term) (ks : List ℕ) (ts us : List (ℕ × Bool)) → t ≡ Of any_of (parts_at at ks) → us ≡ tasks_of false ks ++ ts → after_all at node us ≡ after_all at (denied_one node t) ts
or_taken at node t ks ts us is tasks = ap (after_all at node) tasks ∙ (any_first at node ks ts ∙ ap (λ (f : Term). after_all at (denied_one node f) ts) (sym is))

pub or_denied : (at : ℕ → Term) (node : Node) (t : Term) (ks : List ℕ) (ts us : List (ℕ × Bool)) → t ≡ Of any_of (parts_at at ks) → us ≡ tasks_of false ks ++ ts → after_all at node us ≡ after_all at (added_denial node t) ts
or_denied at node t ks ts us is tasks = ap (after_all at node) tasks ∙ (any_first at node ks ts ∙ ap (λ (f : Term). after_all at (added_denial node f) ts) (sym is))

pub over_tasks : (n : ℕ) (holds : Bool) (ks : List ℕ) (ts us : List (ℕ × Bool)) → AreBelow n ks → AreOver n ts → us ≡ tasks_of holds ks ++ ts → AreOver n us
over_tasks n holds ks ts us below over is = subst (AreOver n) (sym is) (go ks below)
  where
    go : (js : List ℕ) → AreBelow n js → AreOver n (tasks_of holds js ++ ts)
    go [] b = over
    go (j ∷ js) b = (b 0 j (omega arith), go js (λ i d lt. b (suc i) d (omega (arith, lt))))

-- ---- the same, of what a call answered

pub and_taken_if : {X E : Type 0} (r : Result X E) (items : X → List (ℕ × Bool)) (at : ℕ → Term) (node : Node) (t : Term) (ks : List ℕ) (ts : List (ℕ × Bool)) → t ≡ Of all_of (parts_at at ks) → IfOk r (λ x. items x ≡ tasks_of true ks ++ ts) → IfOk r (λ x. after_all at node (items x) ≡ after_all at (added node t) ts)
and_taken_if (Ok x) items at node t ks ts is put = and_taken at node t ks ts (items x) is put
and_taken_if (Err e) items at node t ks ts is put = tt

pub or_taken_if : {X E : Type 0} (r : Result X E) (items : X → List (ℕ × Bool)) (at : ℕ → Term) (node : Node) (t : Term) (ks : List ℕ) (ts : List (ℕ × Bool)) → t ≡ Of any_of (parts_at at ks) → IfOk r (λ x. items x ≡ tasks_of false ks ++ ts) → IfOk r (λ x. after_all at node (items x) ≡ after_all at (denied_one node t) ts)
or_taken_if (Ok x) items at node t ks ts is put = or_taken at node t ks ts (items x) is put
or_taken_if (Err e) items at node t ks ts is put = tt

pub or_denied_if : {X E : Type 0} (r : Result X E) (items : X → List (ℕ × Bool)) (at : ℕ → Term) (node : Node) (t : Term) (ks : List ℕ) (ts : List (ℕ × Bool)) → t ≡ Of any_of (parts_at at ks) → IfOk r (λ x. items x ≡ tasks_of false ks ++ ts) → IfOk r (λ x. after_all at node (items x) ≡ after_all at (added_denial node t) ts)
or_denied_if (Ok x) items at node t ks ts is put = or_denied at node t ks ts (items x) is put
or_denied_if (Err e) items at node t ks ts is put = tt

pub over_tasks_if : {X E : Type 0} (r : Result X E) (items : X → List (ℕ × Bool)) (n : ℕ) (holds : Bool) (ks : List ℕ) (ts : List (ℕ × Bool)) → AreBelow n ks → AreOver n ts → IfOk r (λ x. items x ≡ tasks_of holds ks ++ ts) → IfOk r (λ x. AreOver n (items x))
over_tasks_if (Ok x) items n holds ks ts below over put = over_tasks n holds ks ts (items x) below over put
over_tasks_if (Err e) items n holds ks ts below over put = tt

pub not_taken_if : {X E : Type 0} (r : Result X E) (items : X → List (ℕ × Bool)) (at : ℕ → Term) (node : Node) (t : Term) (g : ℕ) (ts : List (ℕ × Bool)) → t ≡ Of denied (part (at g) no_parts) → IfOk r (λ x. items x ≡ (g, true) ∷ ts) → IfOk r (λ x. after_all at node (items x) ≡ after_all at (denied_one node t) ts)
not_taken_if (Ok x) items at node t g ts is put = ap (after_all at node) put ∙ ap (λ (f : Term). after_all at (denied_one node f) ts) (sym is)
not_taken_if (Err e) items at node t g ts is put = tt

pub denied_taken_if : {X E : Type 0} (r : Result X E) (items : X → List (ℕ × Bool)) (at : ℕ → Term) (old new : Node) (t : Term) (g : ℕ) (ts : List (ℕ × Bool)) → t ≡ Of denied (part (at g) no_parts) → IfOk r (λ x. after_all at new (items x) ≡ after_all at (added_denial old (at g)) ts) → IfOk r (λ x. after_all at new (items x) ≡ after_all at (added old t) ts)
denied_taken_if (Ok x) items at old new t g ts is gave = gave ∙ ap (λ (f : Term). after_all at (added old f) ts) (sym is)
denied_taken_if (Err e) items at old new t g ts is gave = tt

pub below_parts : (m n : ℕ) (ks : List ℕ) → m < n → AreBelow m ks → AreBelow n ks
below_parts m n ks lt below i d l = let h : get_or ks i d < m = below i d l in omega (arith, h, lt)
