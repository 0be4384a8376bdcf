-- One step of the walk, and its ends.
use Rattle.std.proofs.Common.{◌≡◌, ◌<◌, ◌↔◌, ◌+◌, ℕ, List, [], ◌∷◌, ◌++◌, Option, Some, None, Result, Ok, Err, map, drop, length, get_or, refl, sym, ap, subst, ◌∙◌}
use Rattle.std.specs.Prelude.{IfOk}
use Rattle.wy_vc_laws.specs.wy_check_spec.judge.Node.{Node}
use Rattle.std.proofs.lemmas.List.{drop_more}
use Rattle.wy_term.specs.Term.{Term}
use Rattle.wy_cert.specs.declared.step.Step.{Step}
use Rattle.wy_cert.specs.Steps.{Written, written}
use Rattle.wy_vc_laws.specs.wy_check_spec.valid.Validity.{or_bad, first_bad_by}
use Rattle.wy_check.specs.declared.checking.Checked.{Checked}
use Rattle.wy_check.specs.declared.checking.Checked.TheVariants.{Yes, No}
use Rattle.wy_check.specs.Answer.{bad_step}

abbrev NextBy : Type 0
NextBy = Node → Written → Option (List Node)

abbrev some_number : ℕ → Option ℕ
some_number k = Some k

-- a step where all nodes are closed
pub walk_closed : (next : NextBy) (k : ℕ) (nodes : List Node) (s : Written) (steps more : List Written) → nodes ≡ [] → steps ≡ s ∷ more → first_bad_by next k nodes steps ≡ some_number k
walk_closed next k nodes s steps more none is = ap (λ (ns : List Node). first_bad_by next k ns steps) none ∙ ap (first_bad_by next k []) is

walk_at : (next : NextBy) (k : ℕ) (nodes : List Node) (node : Node) (rest : List Node) (s : Written) (steps more : List Written) (o : Option (List Node)) → nodes ≡ node ∷ rest → steps ≡ s ∷ more → next node s ≡ o → first_bad_by next k nodes steps ≡ or_bad k o (λ below. first_bad_by next (k + 1) (below ++ rest) more)
walk_at next k nodes node rest s steps more o there is gave =
    ap (λ (ns : List Node). first_bad_by next k ns steps) there
    ∙ (ap (first_bad_by next k (node ∷ rest)) is ∙ ap (λ (q : Option (List Node)). or_bad k q (λ below. first_bad_by next (k + 1) (below ++ rest) more)) gave)

-- a step that isn't valid
pub walk_invalid : (next : NextBy) (k : ℕ) (nodes : List Node) (node : Node) (rest : List Node) (s : Written) (steps more : List Written) → nodes ≡ node ∷ rest → steps ≡ s ∷ more → next node s ≡ None → first_bad_by next k nodes steps ≡ some_number k
walk_invalid next k nodes node rest s steps more there is gave = walk_at next k nodes node rest s steps more None there is gave

-- a valid step
pub walk_on : (next : NextBy) (k : ℕ) (nodes : List Node) (node : Node) (rest below after : List Node) (s : Written) (steps more : List Written) → nodes ≡ node ∷ rest → steps ≡ s ∷ more → next node s ≡ Some below → after ≡ below ++ rest → first_bad_by next (k + 1) after more ≡ first_bad_by next k nodes steps
walk_on next k nodes node rest below after s steps more there is gave behind =
    ap (λ (ns : List Node). first_bad_by next (k + 1) ns more) behind ∙ sym (walk_at next k nodes node rest s steps more (Some below) there is gave)

-- the step at a place, and those behind it
pub steps_at : (at : ℕ → Term) (xs ys : List Step) (i : ℕ) (s : Step) → ys ≡ xs → i < length ys → s ≡ get_or ys i s → map (written at) (drop i xs) ≡ written at s ∷ map (written at) (drop (i + 1) xs)
steps_at at xs ys i s same lt is =
    let inner : map (written at) (drop i ys) ≡ written at s ∷ map (written at) (drop (i + 1) ys) =
    ap (map (written at)) (drop_more ys i s lt) ∙ ap (λ (x : Step). written at x ∷ map (written at) (drop (i + 1) ys)) (sym is) in
    subst (λ (zs : List Step). map (written at) (drop i zs) ≡ written at s ∷ map (written at) (drop (i + 1) zs)) same inner

-- ---- the answer

pub valid_is : (a : Checked) (o : Option ℕ) → bad_step a ≡ o → (a ≡ Yes) ↔ (o ≡ None)
valid_is Yes o e = (λ h. sym e, λ h. refl)
valid_is (No k) o e = (λ h. absurd cc, λ h. absurd cc)

pub answers_valid : {E : Type 0} (r : Result Checked E) (o : Option ℕ) → IfOk r (λ a. bad_step a ≡ o) → IfOk r (λ a. (a ≡ Yes) ↔ (o ≡ None))
answers_valid (Ok a) o e = valid_is a o e
answers_valid (Err x) o e = tt
