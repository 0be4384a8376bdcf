-- Goals that are owed one after the other.
use Rattle.std.proofs.Common.{◌≡◌, ◌<◌, ◌≤◌, ◌+◌, ℕ, List, [], ◌∷◌, ◌++◌, All, map, length, take, drop, get_or, ◌∙◌, sym, ap, subst, arith}
use Rattle.std.proofs.lemmas.List.{drop_more, drop_all, get_or_default, map-append, take_all}
use Rattle.std.proofs.lemmas.List.Elements.{All-push}
use Rattle.wy_term.specs.Term.{Term}
use Rattle.wy_term.specs.Nodes.{tree_at}
use Rattle.wy_term.specs.declared.cond.CondKind.{CondKind}
use Rattle.wy_vc_terms.specs.wy_vc_spec.Owed.{Owed, assume, assume_all, owe}
use Rattle.wy_vc_terms.specs.wy_vc_spec.Clauses.{Passed, passed}
use Rattle.wy_vc_operations.proofs.GrowingLemmas.{kept_all}
use Rattle.wy_vc_operations.specs.Growing.{Kept, AreBelow}
use Rattle.wy_vc_terms.specs.declared.maker.Maker.{Maker}
use Rattle.wy_vc_exprs.specs.Numbered.{trees_of}
use Rattle.wy_vc_exprs.specs.State.{IsGoal, IsSound, Steps, goal_of, seen_goal, hyps_of, owed_of}
use Rattle.wy_vc_exprs.specs.declared.walk.Walk.{Walk}
use Rattle.wy_vc_exprs.specs.declared.goal.Goal.{Goal}
use Rattle.wy_vc_exprs.proofs.StateLemmas.{Toward, toward_step, toward_end, steps_on}

-- goals owed under these hypotheses, where so many names are made
abbrev pub owing_all : CondKind → ℕ → List Term → List Term → ℕ → Passed
owing_all kind at goals hyps n = passed n (assume_all hyps goals) (owe kind at hyps goals)

-- a number of a list is read with itself in place of nothing
pub number_item : (xs : List ℕ) (i : ℕ) → i < length xs → get_or xs i 0 ≡ get_or xs i (get_or xs i 0)
number_item xs i within = get_or_default xs i 0 (get_or xs i 0) within

-- one goal more is owed
pub owe_turn : (kind : CondKind) (at : ℕ) (a b c : Walk) (gs : List ℕ) (i k : ℕ) (all : Passed) → i < length gs → k ≡ get_or gs i k → b.maker ≡ a.maker → Toward a b (owing_all kind at (trees_of a.maker.terms (drop i gs)) (hyps_of b) b.maker.count) all → Steps b c (passed b.maker.count (assume (hyps_of b) (tree_at b.maker.terms k)) (owe kind at (hyps_of b) (tree_at b.maker.terms k ∷ []))) → Toward a c (owing_all kind at (trees_of a.maker.terms (drop (i + 1) gs)) (hyps_of c) c.maker.count) all
owe_turn kind at a b c gs i k all lt is maker t s =
    let cut : drop i gs ≡ k ∷ drop (i + 1) gs = drop_more gs i k lt ∙ ap (λ (x : ℕ). x ∷ drop (i + 1) gs) (sym is) in
    let t' = subst (λ (xs : List ℕ). Toward a b (owing_all kind at (trees_of a.maker.terms xs) (hyps_of b) b.maker.count) all) cut t in
    let s' = subst (λ (m : Maker). Steps b c (passed b.maker.count (assume (hyps_of b) (tree_at m.terms k)) (owe kind at (hyps_of b) (tree_at m.terms k ∷ [])))) maker s in
    toward_step (owing_all kind at (trees_of a.maker.terms (drop (i + 1) gs))) a b c
    (passed b.maker.count (assume (hyps_of b) (tree_at a.maker.terms k)) (owe kind at (hyps_of b) (tree_at a.maker.terms k ∷ []))) all t' s'

-- all are owed
pub owe_end : (kind : CondKind) (at : ℕ) (a b : Walk) (gs : List ℕ) (i : ℕ) (all : Passed) → length gs ≤ i → Toward a b (owing_all kind at (trees_of a.maker.terms (drop i gs)) (hyps_of b) b.maker.count) all → Steps a b all
owe_end kind at a b gs i all past t =
    toward_end a b all (subst (λ (xs : List ℕ). Toward a b (owing_all kind at (trees_of a.maker.terms xs) (hyps_of b) b.maker.count) all) (drop_all i gs past) t)

-- a goal is owed and then assumed
pub owe_step : (kind : CondKind) (at : ℕ) (a b c : Walk) (g : Goal) (f : ℕ) → IsSound a → f < length a.maker.terms → b.maker ≡ a.maker → b.hyps.items ≡ a.hyps.items → b.owed.items ≡ a.owed.items ++ g ∷ [] → g.kind ≡ kind → g.at ≡ at → g.goal ≡ f → g.hyps.items ≡ a.hyps.items → Steps b c (passed b.maker.count (assume (hyps_of b) (tree_at b.maker.terms f)) []) → Steps a c (passed a.maker.count (assume (hyps_of a) (tree_at a.maker.terms f)) (owe kind at (hyps_of a) (tree_at a.maker.terms f ∷ [])))
owe_step kind at a b c g f sound lt maker hyps owed is_kind is_at is_goal is_hyps s =
    let nodes = a.maker.terms in
    let T = tree_at nodes f in
    let seen : seen_goal nodes g ≡ goal_of kind at (hyps_of a) T =
    ap (λ (x : CondKind). goal_of x g.at (trees_of nodes g.hyps.items) (tree_at nodes g.goal)) is_kind
    ∙ ap (λ (x : ℕ). goal_of kind x (trees_of nodes g.hyps.items) (tree_at nodes g.goal)) is_at
    ∙ ap (λ (x : List ℕ). goal_of kind at (trees_of nodes x) (tree_at nodes g.goal)) is_hyps
    ∙ ap (λ (x : ℕ). goal_of kind at (hyps_of a) (tree_at nodes x)) is_goal in
    let fits : IsGoal nodes g = record {
      hyps = subst (λ (x : List ℕ). AreBelow (length nodes) x) (sym is_hyps) sound.hyps;
      goal = subst (λ (x : ℕ). x < length nodes) (sym is_goal) lt;
    } in
    let first : Steps a b (passed a.maker.count (hyps_of a) (goal_of kind at (hyps_of a) T ∷ [])) = record {
      sound = record {
        hyps = subst (λ (m : Maker). AreBelow (length m.terms) b.hyps.items) (sym maker) (subst (λ (x : List ℕ). AreBelow (length nodes) x) (sym hyps) sound.hyps);
        owed = subst (λ (m : Maker). All (IsGoal m.terms) b.owed.items) (sym maker) (subst (λ (x : List Goal). All (IsGoal nodes) x) (sym owed) (All-push (IsGoal nodes) a.owed.items g sound.owed fits));
      };
      kept = subst (λ (m : Maker). Kept nodes m.terms) (sym maker) (kept_all nodes);
      count = ap (λ (m : Maker). m.count) maker;
      hyps = ap (λ (m : Maker). trees_of m.terms b.hyps.items) maker ∙ ap (λ (x : List ℕ). trees_of nodes x) hyps;
      owed = ap (λ (m : Maker). map (seen_goal m.terms) b.owed.items) maker ∙ ap (λ (x : List Goal). map (seen_goal nodes) x) owed ∙ map-append (seen_goal nodes) a.owed.items (g ∷ []) ∙ ap (λ (x : Owed). owed_of a ++ x ∷ []) seen;
      longer = ap (λ (x : List ℕ). take (length a.hyps.items) x) hyps ∙ take_all (length a.hyps.items) a.hyps.items (omega arith);
    } in
    let s' = subst (λ (m : Maker). Steps b c (passed b.maker.count (assume (hyps_of b) (tree_at m.terms f)) [])) maker s in
    steps_on (λ hs n. passed n (assume hs T) []) a b c (passed a.maker.count (hyps_of a) (goal_of kind at (hyps_of a) T ∷ [])) first s'
