-- What a call owes, and what is known of its result.
use Rattle.std.proofs.Common.{Option, ◌≡◌, ◌<◌, ◌+◌, ◌⊎◌, inl, inr, ℕ, List, [], ◌∷◌, length, map, drop, get_or, refl, ◌∙◌, sym, ap, subst, arith}
use Rattle.std.proofs.lemmas.List.{drop_all}
use Rattle.std.proofs.lemmas.List.Elements.{All-get_or}
use Rattle.wy_core.specs.CoreSeen.{seen_param, seen_ty}
use Rattle.wy_core.specs.declared.declarations.Param.{Param}
use Rattle.wy_lemmas.proofs.Lists.{next_of}
use Rattle.wy_term.specs.Term.{Term}
use Rattle.wy_term.specs.Nodes.{Plain, tree_at}
use Rattle.wy_vc_terms.specs.wy_vc_spec.Numbered.{Node}
use Rattle.wy_vc_terms.specs.wy_vc_spec.Values.{Setting}
use Rattle.wy_vc_terms.specs.wy_vc_spec.Variables.{Vars, put}
use Rattle.wy_vc_terms.specs.wy_vc_spec.Clauses.{Passed, passed, owe_member}
use Rattle.wy_vc_terms.specs.wy_vc_spec.Calls.{owe_arguments, arguments}
use Rattle.wy_vc_operations.specs.Growing.{AreBelow}
use Rattle.wy_vc_exprs.specs.Numbered.{trees_of}
use Rattle.wy_vc_exprs.specs.Slots.{slots_of}
use Rattle.wy_vc_exprs.specs.State.{Steps, hyps_of}
use Rattle.wy_vc_exprs.specs.declared.walk.Walk.{Walk}
use Rattle.wy_vc_exprs.proofs.SlotLemmas.{slots_put}
use Rattle.wy_vc_exprs.proofs.StateLemmas.{Toward, toward_step, toward_end}

-- ---- arguments

-- what is left of the arguments
abbrev pub owing_arguments : Setting Node → ℕ → List Param → List Term → List Term → ℕ → Passed
owing_arguments s at ps vs hyps n = owe_arguments s at (map seen_param ps) vs hyps n

-- one argument more
pub argument_turn : (s : Setting Node) (at : ℕ) (a b c : Walk) (ps : List Param) (ks : List ℕ) (i : ℕ) (p : Param) (k : ℕ) (all : Passed)
    → i < length ps → i < length ks → p ≡ get_or ps i p → k ≡ get_or ks i k → AreBelow (length a.maker.terms) ks
    → Toward a b (owing_arguments s at (drop i ps) (trees_of a.maker.terms (drop i ks)) (hyps_of b) b.maker.count) all
    → Steps b c (owe_member s at (seen_ty p.ty) (tree_at b.maker.terms k) (hyps_of b) b.maker.count)
    → Toward a c (owing_arguments s at (drop (i + 1) ps) (trees_of a.maker.terms (drop (i + 1) ks)) (hyps_of c) c.maker.count) all
argument_turn s at a b c ps ks i p k all in_ps in_ks is_p is_k below t step =
    let t1 = subst (λ (xs : List Param). Toward a b (owing_arguments s at xs (trees_of a.maker.terms (drop i ks)) (hyps_of b) b.maker.count) all) (next_of ps i p in_ps is_p) t in
    let t2 = subst (λ (xs : List ℕ). Toward a b (owing_arguments s at (p ∷ drop (i + 1) ps) (trees_of a.maker.terms xs) (hyps_of b) b.maker.count) all) (next_of ks i k in_ks is_k) t1 in
    let here : k < length a.maker.terms = subst (λ (x : ℕ). x < length a.maker.terms) (sym is_k) (All-get_or (λ j. j < length a.maker.terms) ks i k in_ks below) in
    let step' = subst (λ (x : Term). Steps b c (owe_member s at (seen_ty p.ty) x (hyps_of b) b.maker.count)) (t.kept.trees k here) step in
    toward_step (owing_arguments s at (drop (i + 1) ps) (trees_of a.maker.terms (drop (i + 1) ks))) a b c
    (owe_member s at (seen_ty p.ty) (tree_at a.maker.terms k) (hyps_of b) b.maker.count) all t2 step'

-- where parameters or arguments end, nothing more is owed
arguments_none : (s : Setting Node) (at : ℕ) (ps : List Param) (hyps : List Term) (n : ℕ) → owing_arguments s at ps [] hyps n ≡ passed n hyps []
arguments_none s at [] hyps n = refl
arguments_none s at (p ∷ ps) hyps n = refl

pub arguments_end : (s : Setting Node) (at : ℕ) (a b : Walk) (ps : List Param) (ks : List ℕ) (i : ℕ) (all : Passed)
    → (i ≡ length ps) ⊎ (i ≡ length ks)
    → Toward a b (owing_arguments s at (drop i ps) (trees_of a.maker.terms (drop i ks)) (hyps_of b) b.maker.count) all
    → Steps a b all
arguments_end s at a b ps ks i all (inl e) t =
    toward_end a b all (subst (λ (xs : List Param). Toward a b (owing_arguments s at xs (trees_of a.maker.terms (drop i ks)) (hyps_of b) b.maker.count) all) (drop_all i ps (omega arith)) t)
arguments_end s at a b ps ks i all (inr e) t =
    let t' = subst (λ (xs : List ℕ). Toward a b (owing_arguments s at (drop i ps) (trees_of a.maker.terms xs) (hyps_of b) b.maker.count) all) (drop_all i ks (omega arith)) t in
    toward_end a b all (subst (λ (x : Passed). Toward a b x all) (arguments_none s at (drop i ps) (hyps_of b) b.maker.count) t')

-- ---- parameters stand for arguments

abbrev pub bound_by : List Plain → List Param → List ℕ → Vars → Vars
bound_by nodes ps ks vars = arguments (map seen_param ps) (trees_of nodes ks) vars

pub bound_turn : (nodes : List Plain) (ps : List Param) (ks : List ℕ) (i : ℕ) (p : Param) (k : ℕ) (vs : List (Option ℕ)) (all : Vars)
    → i < length ps → i < length ks → p ≡ get_or ps i p → k ≡ get_or ks i k
    → bound_by nodes (drop i ps) (drop i ks) (slots_of nodes vs) ≡ all
    → bound_by nodes (drop (i + 1) ps) (drop (i + 1) ks) (slots_of nodes (put vs p.variable k)) ≡ all
bound_turn nodes ps ks i p k vs all in_ps in_ks is_p is_k t =
    ap (λ (v : Vars). bound_by nodes (drop (i + 1) ps) (drop (i + 1) ks) v) (slots_put nodes vs p.variable k)
    ∙ sym (ap (λ (xs : List Param). bound_by nodes xs (drop i ks) (slots_of nodes vs)) (next_of ps i p in_ps is_p)
    ∙ ap (λ (xs : List ℕ). bound_by nodes (p ∷ drop (i + 1) ps) xs (slots_of nodes vs)) (next_of ks i k in_ks is_k))
    ∙ t

bound_none : (nodes : List Plain) (ps : List Param) (v : Vars) → bound_by nodes ps [] v ≡ v
bound_none nodes [] v = refl
bound_none nodes (p ∷ ps) v = refl

pub bound_end : (nodes : List Plain) (ps : List Param) (ks : List ℕ) (i : ℕ) (v all : Vars) → (i ≡ length ps) ⊎ (i ≡ length ks) → bound_by nodes (drop i ps) (drop i ks) v ≡ all → v ≡ all
bound_end nodes ps ks i v all (inl e) t = sym (ap (λ (xs : List Param). bound_by nodes xs (drop i ks) v) (drop_all i ps (omega arith))) ∙ t
bound_end nodes ps ks i v all (inr e) t =
    sym (ap (λ (xs : List ℕ). bound_by nodes (drop i ps) xs v) (drop_all i ks (omega arith)) ∙ bound_none nodes (drop i ps) v) ∙ t

-- a walk to the last pair ends where parameters or arguments end
pub ends_there : (i n p k : ℕ) → i ≡ n → (n ≡ p) ⊎ (n ≡ k) → (i ≡ p) ⊎ (i ≡ k)
ends_there i n p k is (inl e) = inl (is ∙ e)
ends_there i n p k is (inr e) = inr (is ∙ e)

-- the number of an argument is one of a term
pub argument_below : (n : ℕ) (ks : List ℕ) (i k : ℕ) → i < length ks → k ≡ get_or ks i k → AreBelow n ks → k < n
argument_below n ks i k lt is below = subst (λ (x : ℕ). x < n) (sym is) (All-get_or (λ j. j < n) ks i k lt below)
