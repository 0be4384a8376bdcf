-- Paths, and the terms that a variable has on them.
use Rattle.std.proofs.Common.{◌≡◌, ◌<◌, ◌≤◌, ◌+◌, ℕ, zero, suc, List, [], ◌∷◌, All, length, drop, get_or, Bool, true, false, ◌&&◌, Option, Some, None, option_map, refl, sym, ◌∙◌, ap, subst, arith}
use Rattle.std.proofs.lemmas.List.{drop_all, length-map}
use Rattle.std.proofs.lemmas.List.Elements.{All-head, All-tail, All-nil, All-cons, All-get_or}
use Rattle.wy_lemmas.proofs.Lists.{next_of}
use Rattle.wy_term.specs.Term.{Term}
use Rattle.wy_term.specs.Nodes.{Plain, tree_at}
use Rattle.wy_vc_exprs.specs.wy_vc_spec.Joins as spec
use Rattle.wy_vc_exprs.specs.wy_vc_spec.Variables.{Vars, slot_at}
use Rattle.wy_vc_exprs.proofs.wy_vc_operations_proofs.SlotLemmas.{slot_below}
use Rattle.wy_vc_exprs.specs.wy_vc_operations.Growing.{Kept, IsSlotBelow, AreSlotsBelow}
use Rattle.wy_vc_body.proofs.MarkLemmas.{max_assoc}
use Rattle.wy_vc_exprs.specs.Slots.{slots_of}
use Rattle.wy_vc_exprs.proofs.NumberedLemmas.{trees_kept, below_on}
use Rattle.wy_vc_exprs.proofs.SlotLemmas.{slots_kept, slots_on}
use Rattle.wy_vc_body.specs.declared.paths.Path.{Path}
use Rattle.wy_vc_body.specs.Paths.{IsPath, ArePaths, seen_path, seen_paths}
use Rattle.wy_vc_exprs.specs.Numbered.{trees_of}

-- one of a list is as all are
pub one_of_all : {A : Type 0} (P : A → Type 0) (xs : List A) (i : ℕ) (x : A) → i < length xs → x ≡ get_or xs i x → All P xs → P x
one_of_all {A} P xs i x lt is all = subst P (sym is) (All-get_or P xs i x lt all)

-- ---- as terms grow

abbrev pub path_at : List Term → Vars → List Bool → spec.Path
path_at ts vs bs = record { since = ts; vars = vs; set = bs }

pub path_kept : (old new : List Plain) → Kept old new → (p : Path) → IsPath old p → seen_path new p ≡ seen_path old p
path_kept old new k p is =
    ap (λ (ts : List Term). path_at ts (slots_of new p.here.vars.items) p.here.set.items) (trees_kept old new k p.since.items is.since)
    ∙ ap (λ (vs : Vars). path_at (trees_of old p.since.items) vs p.here.set.items) (slots_kept old new k p.here.vars.items is.vars)

pub paths_kept : (old new : List Plain) → Kept old new → (ps : List Path) → ArePaths old ps → seen_paths new ps ≡ seen_paths old ps
paths_kept old new k [] are = refl
paths_kept old new k (p ∷ ps) are =
    ap (λ (q : spec.Path). q ∷ seen_paths new ps) (path_kept old new k p (All-head (IsPath old) p ps are))
    ∙ ap (λ (qs : List spec.Path). seen_path old p ∷ qs) (paths_kept old new k ps (All-tail (IsPath old) p ps are))

pub path_on : (old new : List Plain) → Kept old new → (p : Path) → IsPath old p → IsPath new p
path_on old new k p is = record { since = below_on old new k p.since.items is.since; vars = slots_on old new k p.here.vars.items is.vars }

pub paths_on : (old new : List Plain) → Kept old new → (ps : List Path) → ArePaths old ps → ArePaths new ps
paths_on old new k [] are = All-nil (IsPath new)
paths_on old new k (p ∷ ps) are = All-cons (IsPath new) p ps (path_on old new k p (All-head (IsPath old) p ps are)) (paths_on old new k ps (All-tail (IsPath old) p ps are))

-- ---- slots

pub slot_map : (nodes : List Plain) (vars : List (Option ℕ)) (x : ℕ) → slot_at (slots_of nodes vars) x ≡ option_map (tree_at nodes) (slot_at vars x)
slot_map nodes [] x = refl
slot_map nodes (v ∷ vs) zero = refl
slot_map nodes (v ∷ vs) (suc x) = slot_map nodes vs x

pub known_none : (nodes : List Plain) (vars : List (Option ℕ)) (x : ℕ) → slot_at vars x ≡ None → false ≡ spec.is_known (slot_at (slots_of nodes vars) x)
known_none nodes vars x is = sym (ap (λ s. spec.is_known s) (slot_map nodes vars x ∙ ap (λ (s : Option ℕ). option_map (tree_at nodes) s) is))

pub known_some : (nodes : List Plain) (vars : List (Option ℕ)) (x t : ℕ) → slot_at vars x ≡ Some t → true ≡ spec.is_known (slot_at (slots_of nodes vars) x)
known_some nodes vars x t is = sym (ap (λ s. spec.is_known s) (slot_map nodes vars x ∙ ap (λ (s : Option ℕ). option_map (tree_at nodes) s) is))

pub term_none : (nodes : List Plain) (vars : List (Option ℕ)) (x : ℕ) (u : Term) → slot_at vars x ≡ None → false ≡ spec.is_term (slot_at (slots_of nodes vars) x) u
term_none nodes vars x u is = sym (ap (λ s. spec.is_term s u) (slot_map nodes vars x ∙ ap (λ (s : Option ℕ). option_map (tree_at nodes) s) is))

pub term_some : (nodes : List Plain) (vars : List (Option ℕ)) (x t : ℕ) (u : Term) (b : Bool) → slot_at vars x ≡ Some t → b ≡ spec.is_term (Some (tree_at nodes t)) u → b ≡ spec.is_term (slot_at (slots_of nodes vars) x) u
term_some nodes vars x t u b is h = h ∙ sym (ap (λ s. spec.is_term s u) (slot_map nodes vars x ∙ ap (λ (s : Option ℕ). option_map (tree_at nodes) s) is))

-- a slot that has a number has one of a term
pub slot_within : (n : ℕ) (vars : List (Option ℕ)) (x t : ℕ) → AreSlotsBelow n vars → slot_at vars x ≡ Some t → t < n
slot_within n vars x t below is = subst (λ (s : Option ℕ). IsSlotBelow n s) is (slot_below n vars x below)

-- ---- tests of each path

pub and_stop : (w all b r : Bool) → w ≡ all → w ≡ (b && r) → b ≡ false → false ≡ all
and_stop w all b r inv e is = sym (sym inv ∙ e ∙ ap (λ x. x && r) is)

pub and_more : (w all b r : Bool) → w ≡ all → w ≡ (b && r) → b ≡ true → r ≡ all
and_more w all b r inv e is = sym (sym inv ∙ e ∙ ap (λ x. x && r) is)

pub known_turn : (nodes : List Plain) (ps : List Path) (i : ℕ) (p : Path) (x : ℕ) → i < length ps → p ≡ get_or ps i p
    → spec.known_on_all (seen_paths nodes (drop i ps)) x ≡ (spec.is_known (slot_at (slots_of nodes p.here.vars.items) x) && spec.known_on_all (seen_paths nodes (drop (i + 1) ps)) x)
known_turn nodes ps i p x lt is = ap (λ (l : List Path). spec.known_on_all (seen_paths nodes l) x) (next_of ps i p lt is)

-- ---- the first term

first_turn : (nodes : List Plain) (ps : List Path) (i : ℕ) (p : Path) (x : ℕ) → i < length ps → p ≡ get_or ps i p
    → spec.first_term (seen_paths nodes (drop i ps)) x ≡ spec.or_else (option_map (tree_at nodes) (slot_at p.here.vars.items x)) (spec.first_term (seen_paths nodes (drop (i + 1) ps)) x)
first_turn nodes ps i p x lt is =
    ap (λ (l : List Path). spec.first_term (seen_paths nodes l) x) (next_of ps i p lt is)
    ∙ ap (λ (s : Option Term). spec.or_else s (spec.first_term (seen_paths nodes (drop (i + 1) ps)) x)) (slot_map nodes p.here.vars.items x)

pub first_found : (nodes : List Plain) (ps : List Path) (i : ℕ) (p : Path) (x t : ℕ) (all : Option Term) → i < length ps → p ≡ get_or ps i p → slot_at p.here.vars.items x ≡ Some t
    → spec.first_term (seen_paths nodes (drop i ps)) x ≡ all → Some (tree_at nodes t) ≡ all
first_found nodes ps i p x t all lt is slot inv =
    sym (first_turn nodes ps i p x lt is ∙ ap (λ (s : Option ℕ). spec.or_else (option_map (tree_at nodes) s) (spec.first_term (seen_paths nodes (drop (i + 1) ps)) x)) slot) ∙ inv

pub first_more : (nodes : List Plain) (ps : List Path) (i : ℕ) (p : Path) (x : ℕ) (all : Option Term) → i < length ps → p ≡ get_or ps i p → slot_at p.here.vars.items x ≡ None
    → spec.first_term (seen_paths nodes (drop i ps)) x ≡ all → spec.first_term (seen_paths nodes (drop (i + 1) ps)) x ≡ all
first_more nodes ps i p x all lt is slot inv =
    sym (first_turn nodes ps i p x lt is ∙ ap (λ (s : Option ℕ). spec.or_else (option_map (tree_at nodes) s) (spec.first_term (seen_paths nodes (drop (i + 1) ps)) x)) slot) ∙ inv

-- ---- how many variables there are

pub most_turn : (nodes : List Plain) (ps : List Path) (i : ℕ) (p : Path) (most all : ℕ) → i < length ps → p ≡ get_or ps i p
    → spec.max most (spec.most_vars (seen_paths nodes (drop i ps))) ≡ all → spec.max (spec.max most (length p.here.vars.items)) (spec.most_vars (seen_paths nodes (drop (i + 1) ps))) ≡ all
most_turn nodes ps i p most all lt is inv =
    let rest = spec.most_vars (seen_paths nodes (drop (i + 1) ps)) in
    max_assoc most (length p.here.vars.items) rest
    ∙ ap (λ (n : ℕ). spec.max most (spec.max n rest)) (sym (length-map p.here.vars.items (option_map (tree_at nodes))))
    ∙ sym (ap (λ (l : List Path). spec.max most (spec.most_vars (seen_paths nodes l))) (next_of ps i p lt is)) ∙ inv

max_nothing : (n : ℕ) → spec.max n 0 ≡ n
max_nothing zero = refl
max_nothing (suc n) = refl

pub most_end : (nodes : List Plain) (ps : List Path) (i most all : ℕ) → length ps ≤ i → spec.max most (spec.most_vars (seen_paths nodes (drop i ps))) ≡ all → most ≡ all
most_end nodes ps i most all past inv =
    sym (ap (λ (l : List Path). spec.max most (spec.most_vars (seen_paths nodes l))) (drop_all i ps past) ∙ max_nothing most) ∙ inv

pub max_second : (a b : ℕ) → a < b → b ≡ spec.max a b
max_second zero b h = refl
max_second (suc a) zero h = absurd (omega arith)
max_second (suc a) (suc b) h = ap (λ n. suc n) (max_second a b (omega arith))

pub max_first : (a b : ℕ) → b ≤ a → a ≡ spec.max a b
max_first zero zero h = refl
max_first zero (suc b) h = absurd (omega arith)
max_first (suc a) zero h = refl
max_first (suc a) (suc b) h = ap (λ n. suc n) (max_first a b (omega arith))

-- ---- whether the terms differ

pub differ_first : (nodes : List Plain) (ps rest : List Path) (p : Path) (x t : ℕ) (b : Bool) → ps ≡ p ∷ rest → slot_at p.here.vars.items x ≡ Some t → b ≡ spec.differ_from (seen_paths nodes rest) x (Some (tree_at nodes t)) → b ≡ spec.differ (seen_paths nodes ps) x
differ_first nodes ps rest p x t b is slot h =
    h ∙ sym (ap (λ (l : List Path). spec.differ (seen_paths nodes l) x) is
    ∙ ap (λ (s : Option Term). spec.differ_from (seen_paths nodes rest) x s) (slot_map nodes p.here.vars.items x ∙ ap (λ (s : Option ℕ). option_map (tree_at nodes) s) slot))

pub differ_none : (nodes : List Plain) (ps rest : List Path) (p : Path) (x : ℕ) → ps ≡ p ∷ rest → slot_at p.here.vars.items x ≡ None → false ≡ spec.differ (seen_paths nodes ps) x
differ_none nodes ps rest p x is slot =
    sym (ap (λ (l : List Path). spec.differ (seen_paths nodes l) x) is
    ∙ ap (λ (s : Option Term). spec.differ_from (seen_paths nodes rest) x s) (slot_map nodes p.here.vars.items x ∙ ap (λ (s : Option ℕ). option_map (tree_at nodes) s) slot))

pub first_path : (nodes : List Plain) (ps rest : List Path) (p : Path) → ps ≡ p ∷ rest → ArePaths nodes ps → IsPath nodes p
first_path nodes ps rest p is are = All-head (IsPath nodes) p rest (subst (λ (l : List Path). ArePaths nodes l) is are)

-- what a slice reads is what stands there
pub slot_read : (xs ys : List (Option ℕ)) (x : ℕ) (o : Option ℕ) → xs ≡ ys → o ≡ slot_at xs x → slot_at ys x ≡ o
slot_read xs ys x o same is = sym (is ∙ ap (λ (l : List (Option ℕ)). slot_at l x) same)

pub known_read : (nodes : List Plain) (xs ys : List (Option ℕ)) (x : ℕ) (b : Bool) → xs ≡ ys → b ≡ spec.is_known (slot_at (slots_of nodes xs) x) → spec.is_known (slot_at (slots_of nodes ys) x) ≡ b
known_read nodes xs ys x b same is = sym (is ∙ ap (λ (l : List (Option ℕ)). spec.is_known (slot_at (slots_of nodes l) x)) same)
