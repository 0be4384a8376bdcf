-- A draft and what it stands for, as terms and steps are added.
use Rattle.std.proofs.Common.{◌≡◌, ◌≤◌, ℕ, zero, suc, List, [], ◌∷◌, ◌++◌, All, map, length, get_or, refl, sym, ap, ◌∙◌, subst, arith}
use Rattle.std.proofs.lemmas.List.{map-append}
use Rattle.wy_term.specs.Nodes.{Plain, tree_at}
use Rattle.wy_facts.specs.Seen.{AreBelow, Stays}
use Rattle.wy_facts.proofs.StepLemmas.{terms_kept}
use Rattle.wy_search_laws.specs.wy_check_spec.judge.Node.{Node}
use Rattle.wy_check_nodes.proofs.SumsBranchLemmas.{branch_stays, node_stays}
use Rattle.wy_cert.specs.declared.step.Step.{Step}
use Rattle.wy_cert.specs.declared.step.Step.TheVariants as step
use Rattle.wy_cert.specs.Steps.{Written, split, chain, inst, fact, prod, written, IsBelow}
use Rattle.wy_prove_drafts.specs.declared.draft.Draft.{Draft}
use Rattle.wy_prove_drafts.specs.Progress.{Progress}
use Rattle.wy_prove_drafts.specs.Adding.{with_step}
use Rattle.wy_prove_drafts.specs.Draft.{IsDraft, seen_draft}

abbrev pub progress : List Written → Node → Progress
progress steps node = record { steps = steps; node = node }

-- ---- steps, as their terms are among more

below_up : (m n : ℕ) (ks : List ℕ) → m ≤ n → AreBelow m ks → AreBelow n ks
below_up m n ks le all i d lt = let h = all i d lt in omega (arith, h, le)

pub step_up : (m n : ℕ) (s : Step) → m ≤ n → IsBelow m s → IsBelow n s
step_up m n (step.Split f) le h = omega (arith, h, le)
step_up m n step.Shut le h = tt
step_up m n (step.Chain ts) le h = below_up m n ts.items le h
step_up m n (step.Clash i other) le h = tt
step_up m n (step.Sum pairs) le h = tt
step_up m n (step.Cut d pairs) le h = tt
step_up m n (step.Inst i t) le h = omega (arith, h, le)
step_up m n (step.Wit i) le h = tt
step_up m n (step.Fact k ts) le h = below_up m n ts.items le h
step_up m n (step.Prod i j p) le h = omega (arith, h, le)

pub steps_up : (m n : ℕ) (ss : List Step) → m ≤ n → All (IsBelow m) ss → All (IsBelow n) ss
steps_up m n ss le all i d lt = step_up m n (get_or ss i d) le (all i d lt)

pub written_kept : (old new : List Plain) (s : Step) → Stays old new → IsBelow (length old) s → written (tree_at new) s ≡ written (tree_at old) s
written_kept old new (step.Split f) stays h = ap split (stays.trees f h)
written_kept old new step.Shut stays h = refl
written_kept old new (step.Chain ts) stays h = ap chain (terms_kept old new ts.items stays h)
written_kept old new (step.Clash i other) stays h = refl
written_kept old new (step.Sum pairs) stays h = refl
written_kept old new (step.Cut d pairs) stays h = refl
written_kept old new (step.Inst i t) stays h = ap (inst i) (stays.trees t h)
written_kept old new (step.Wit i) stays h = refl
written_kept old new (step.Fact k ts) stays h = ap (fact k) (terms_kept old new ts.items stays h)
written_kept old new (step.Prod i j p) stays h = ap (prod i j) (stays.trees p h)

first_of : (P : Step → Type 0) (s : Step) (ss : List Step) → All P (s ∷ ss) → P s
first_of P s ss all = all 0 s (omega arith)

rest_of : (P : Step → Type 0) (s : Step) (ss : List Step) → All P (s ∷ ss) → All P ss
rest_of P s ss all i d lt = all (suc i) d (omega (arith, lt))

pub steps_kept : (old new : List Plain) (ss : List Step) → Stays old new → All (IsBelow (length old)) ss → map (written (tree_at new)) ss ≡ map (written (tree_at old)) ss
steps_kept old new [] stays all = refl
steps_kept old new (s ∷ ss) stays all =
    ap (λ (x : Written). x ∷ map (written (tree_at new)) ss) (written_kept old new s stays (first_of (IsBelow (length old)) s ss all))
    ∙ ap (λ (xs : List Written). written (tree_at old) s ∷ xs) (steps_kept old new ss stays (rest_of (IsBelow (length old)) s ss all))

-- ---- the list of the condition's terms grows

pub draft_stays : (old new : List Plain) (d : Draft) → Stays old new → IsDraft old d → IsDraft new d
draft_stays old new d stays is = record { steps = is.steps; branch = branch_stays old new d.branch stays is.branch }

pub seen_draft_stays : (old new : List Plain) (d : Draft) → Stays old new → IsDraft old d → seen_draft (tree_at new) d ≡ seen_draft (tree_at old) d
seen_draft_stays old new d stays is = ap (progress (map (written (tree_at d.terms)) d.steps.items)) (node_stays old new d.branch stays is.branch)

-- ---- a step more

pub steps_more : (n : ℕ) (ss new : List Step) (s : Step) → new ≡ ss ++ s ∷ [] → All (IsBelow n) ss → IsBelow n s → All (IsBelow n) new
steps_more n ss new s is all last = subst (All (IsBelow n)) (sym is) (by ss all)
  where
    put : (x : Step) (xs : List Step) → IsBelow n x → All (IsBelow n) xs → All (IsBelow n) (x ∷ xs)
    put x xs h hs zero d lt = h
    put x xs h hs (suc i) d lt = hs i d (omega (arith, lt))

    by : (xs : List Step) → All (IsBelow n) xs → All (IsBelow n) (xs ++ s ∷ [])
    by [] h = put s [] last (λ i d lt. absurd (omega (arith, lt)))
    by (x ∷ xs) h = put x (xs ++ s ∷ []) (first_of (IsBelow n) x xs h) (by xs (rest_of (IsBelow n) x xs h))

-- a step that names terms of the longer list of the draft's own, behind the others
pub put_seen : (own grown : List Plain) (ss ts : List Step) (s : Step) (w : Written) (node : Node) → Stays own grown → All (IsBelow (length own)) ss → ts ≡ ss ++ s ∷ [] → written (tree_at grown) s ≡ w
    → progress (map (written (tree_at grown)) ts) node ≡ with_step (progress (map (written (tree_at own)) ss) node) w
put_seen own grown ss ts s w node stays all is e = ap (λ (xs : List Written). progress xs node)
    (ap (map (written (tree_at grown))) is
    ∙ (map-append (written (tree_at grown)) ss (s ∷ [])
    ∙ (ap (λ (xs : List Written). xs ++ written (tree_at grown) s ∷ []) (steps_kept own grown ss stays all)
    ∙ ap (λ (x : Written). map (written (tree_at own)) ss ++ x ∷ []) e)))

pub put_below : (own grown : List Plain) (ss ts : List Step) (s : Step) → Stays own grown → All (IsBelow (length own)) ss → ts ≡ ss ++ s ∷ [] → IsBelow (length grown) s → All (IsBelow (length grown)) ts
put_below own grown ss ts s stays all is last = steps_more (length grown) ss ts s is (steps_up (length own) (length grown) ss stays.grows all) last
