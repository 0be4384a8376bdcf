-- Equations of new names, one after the other, and what is so on each path.
use Rattle.std.proofs.Common.{◌≡◌, ◌<◌, ◌≤◌, ◌+◌, ℕ, List, [], ◌∷◌, ◌++◌, map, length, take, get_or, Option, Some, None, option_map, Result, IfOk, refl, sym, ◌∙◌, ap, subst}
use Rattle.std.proofs.lemmas.List.{append_assoc, append-nil, map-append, take_more, take_all, get_or_default}
use Rattle.std.proofs.lemmas.List.Elements.{All-append, All-nil, All-cons}
use Rattle.wy_term.specs.wy_items.declared.memory.NoMemory.{NoMemory}
use Rattle.wy_term.specs.Term.{Term}
use Rattle.wy_term.specs.Nodes.{Plain, tree_at}
use Rattle.wy_term.specs.Numbers.{IsAt}
use Rattle.wy_vc_exprs.specs.wy_vc_spec.Joins as spec
use Rattle.wy_vc_exprs.specs.wy_vc_spec.Making.{equal}
use Rattle.wy_vc_exprs.specs.wy_vc_spec.Variables.{Vars, slot_at}
use Rattle.wy_vc_exprs.proofs.wy_vc_operations_proofs.GrowingLemmas.{kept_all}
use Rattle.wy_vc_exprs.specs.wy_vc_operations.Growing.{Kept, Makes, AreAt}
use Rattle.wy_vc_exprs.specs.Numbered.{trees_of}
use Rattle.wy_vc_exprs.specs.Slots.{slots_of}
use Rattle.wy_vc_exprs.proofs.NumberedLemmas.{kept_then, are_itself}
use Rattle.wy_vc_exprs.proofs.SlotLemmas.{slots_kept}
use Rattle.wy_vc_exprs.proofs.StateLemmas.{are_kept}
use Rattle.wy_vc_exprs.specs.wy_vc_terms.declared.maker.Maker.{Maker}
use Rattle.wy_vc_body.specs.declared.paths.Path.{Path}
use Rattle.wy_vc_body.specs.Paths.{IsPath, ArePaths, seen_path, seen_paths}
use Rattle.wy_vc_body.specs.Known.{equation, equations, path_term, seen_names, AreNames}
use Rattle.wy_vc_body.proofs.PathLemmas.{slot_map, path_kept, one_of_all}
use Rattle.wy_vc_body.proofs.KnownLemmas.{names_kept}
use Rattle.wy_vc_exprs.proofs.ResultLemmas.{if_ok}

-- one number more
pub are_push : (nodes : List Plain) (ks : List ℕ) (k : ℕ) (ts : List Term) (t : Term) → AreAt nodes ks ts → IsAt nodes k t → AreAt nodes (ks ++ k ∷ []) (ts ++ t ∷ [])
are_push nodes ks k ts t are at = record {
  within = All-append (λ j. j < length nodes) ks (k ∷ []) are.within (All-cons (λ j. j < length nodes) k [] at.within (All-nil (λ j. j < length nodes)));
  are = map-append (tree_at nodes) ks (k ∷ []) ∙ ap (λ (us : List Term). us ++ tree_at nodes k ∷ []) are.are ∙ ap (λ (u : Term). ts ++ u ∷ []) at.is;
}

equations_more : (es : List (ℕ × Term)) (e : ℕ × Term) (vars : Vars) → equations (es ++ e ∷ []) vars ≡ equations es vars ++ equation e.1 (slot_at vars e.0)
equations_more [] e vars = append-nil (equation e.1 (slot_at vars e.0))
equations_more (d ∷ es) e vars =
    ap (λ (fs : List Term). equation d.1 (slot_at vars d.0) ++ fs) (equations_more es e vars) ∙ sym (append_assoc (equation d.1 (slot_at vars d.0)) (equations es vars) (equation e.1 (slot_at vars e.0)))

-- ---- a variable without a term has no equation, one with a term has one

pub equate_none : (nodes : List Plain) (vars : List (Option ℕ)) (x name : ℕ) (since : List ℕ) (fs : List Term) → slot_at vars x ≡ None → AreAt nodes since fs → AreAt nodes since (fs ++ equation (tree_at nodes name) (slot_at (slots_of nodes vars) x))
equate_none nodes vars x name since fs is are =
    let none : equation (tree_at nodes name) (slot_at (slots_of nodes vars) x) ≡ [] =
    ap (λ (o : Option Term). equation (tree_at nodes name) o) (slot_map nodes vars x ∙ ap (λ (s : Option ℕ). option_map (tree_at nodes) s) is) in
    subst (λ (ts : List Term). AreAt nodes since ts) (sym (append-nil fs) ∙ ap (λ (ts : List Term). fs ++ ts) (sym none)) are

pub equate_some : (old new : List Plain) (vars : List (Option ℕ)) (x name t made : ℕ) (since since' : List ℕ) (fs : List Term) → slot_at vars x ≡ Some t
    → Makes old new made (equal (tree_at old name) (tree_at old t)) → since' ≡ since ++ made ∷ [] → AreAt old since fs
    → AreAt new since' (fs ++ equation (tree_at old name) (slot_at (slots_of old vars) x))
equate_some old new vars x name t made since since' fs is m pushed are =
    let one : equation (tree_at old name) (slot_at (slots_of old vars) x) ≡ equal (tree_at old name) (tree_at old t) ∷ [] =
    ap (λ (o : Option Term). equation (tree_at old name) o) (slot_map old vars x ∙ ap (λ (s : Option ℕ). option_map (tree_at old) s) is) in
    subst (λ (ks : List ℕ). AreAt new ks (fs ++ equation (tree_at old name) (slot_at (slots_of old vars) x))) (sym pushed)
    (subst (λ (ts : List Term). AreAt new (since ++ made ∷ []) (fs ++ ts)) (sym one)
    (are_push new since made fs (equal (tree_at old name) (tree_at old t)) (are_kept old new since fs m.kept are) m.here))

-- ---- the equations of all names

pub record IsEquated (a b : Maker) (names : List (ℕ × ℕ)) (path : Path) (i : ℕ) (since : List ℕ) : Type 0 where
  pub kept : Kept a.terms b.terms
  pub count : b.count ≡ a.count
  pub node : b.node ≡ a.node
  pub at : AreAt b.terms since (trees_of a.terms path.since.items ++ equations (seen_names a.terms (take i names)) (slots_of a.terms path.here.vars.items))

pub equated_begin : (a : Maker) (names : List (ℕ × ℕ)) (path : Path) (since : List ℕ) → IsPath a.terms path → since ≡ path.since.items → IsEquated a a names path 0 since
equated_begin a names path since is same = record {
  kept = kept_all a.terms;
  count = refl;
  node = refl;
  at = subst (λ (ks : List ℕ). AreAt a.terms ks (trees_of a.terms path.since.items ++ [])) (sym same)
      (subst (λ (ts : List Term). AreAt a.terms path.since.items ts) (sym (append-nil (trees_of a.terms path.since.items))) (are_itself is.since));
}

pub equated_turn : (a b c : Maker) (names : List (ℕ × ℕ)) (path : Path) (i : ℕ) (e : ℕ × ℕ) (since since' : List ℕ) → IsPath a.terms path → AreNames a.terms names → i < length names → e ≡ get_or names i e
    → IsEquated a b names path i since
    → Kept b.terms c.terms → c.count ≡ b.count → c.node ≡ b.node
    → ((fs : List Term) → AreAt b.terms since fs → AreAt c.terms since' (fs ++ equation (tree_at b.terms e.1) (slot_at (slots_of b.terms path.here.vars.items) e.0)))
    → IsEquated a c names path (i + 1) since'
equated_turn a b c names path i e since since' is_path are_names lt is inv kept count node step =
    let V = slots_of a.terms path.here.vars.items in
    let S = trees_of a.terms path.since.items in
    let done = equations (seen_names a.terms (take i names)) V in
    let name : tree_at b.terms e.1 ≡ tree_at a.terms e.1 = inv.kept.trees e.1 (one_of_all (λ (d : ℕ × ℕ). d.1 < length a.terms) names i e lt is are_names) in
    let vars : slots_of b.terms path.here.vars.items ≡ V = slots_kept a.terms b.terms inv.kept path.here.vars.items is_path.vars in
    let cut : take (i + 1) names ≡ take i names ++ e ∷ [] = take_more names i e lt ∙ ap (λ (d : ℕ × ℕ). take i names ++ d ∷ []) (sym is) in
    let one = equation (tree_at a.terms e.1) (slot_at V e.0) in
    let made = subst (λ (t : Term). AreAt c.terms since' ((S ++ done) ++ equation t (slot_at V e.0))) name
    (subst (λ (v : Vars). AreAt c.terms since' ((S ++ done) ++ equation (tree_at b.terms e.1) (slot_at v e.0))) vars (step (S ++ done) inv.at)) in
    let whole : (S ++ done) ++ one ≡ S ++ equations (seen_names a.terms (take (i + 1) names)) V =
    append_assoc S done one
    ∙ ap (λ (fs : List Term). S ++ fs) (sym (ap (λ (l : List (ℕ × ℕ)). equations (seen_names a.terms l) V) cut
    ∙ ap (λ (l : List (ℕ × Term)). equations l V) (map-append (λ (d : ℕ × ℕ). (d.0, tree_at a.terms d.1)) (take i names) (e ∷ []))
    ∙ equations_more (seen_names a.terms (take i names)) (e.0, tree_at a.terms e.1) V)) in
    record {
      kept = kept_then inv.kept kept;
      count = count ∙ inv.count;
      node = node ∙ inv.node;
      at = subst (λ (ts : List Term). AreAt c.terms since' ts) whole made;
    }

-- the same, as the code reads its parts
pub equated_next : (a b c : Maker) (names : List (ℕ × ℕ)) (path : Path) (i : ℕ) (since since' : List ℕ) (vars : List (Option ℕ)) → vars ≡ path.here.vars.items → IsPath a.terms path → AreNames a.terms names → i < length names
    → IsEquated a b names path i since
    → Kept b.terms c.terms → c.count ≡ b.count → c.node ≡ b.node
    → ((fs : List Term) → AreAt b.terms since fs → AreAt c.terms since' (fs ++ equation (tree_at b.terms (get_or names i (0, 0)).1) (slot_at (slots_of b.terms vars) (get_or names i (0, 0)).0)))
    → IsEquated a c names path (i + 1) since'
equated_next a b c names path i since since' vars same is_path are_names lt inv kept count node step =
    let e = get_or names i (0, 0) in
    equated_turn a b c names path i e since since' is_path are_names lt (get_or_default names i (0, 0) e lt) inv kept count node
    (λ fs at. subst (λ (vs : List (Option ℕ)). AreAt c.terms since' (fs ++ equation (tree_at b.terms e.1) (slot_at (slots_of b.terms vs) e.0))) same (step fs at))

pub equated_end : (a b : Maker) (names : List (ℕ × ℕ)) (path : Path) (i : ℕ) (since : List ℕ) → length names ≤ i → IsEquated a b names path i since
    → AreAt b.terms since (trees_of a.terms path.since.items ++ equations (seen_names a.terms names) (slots_of a.terms path.here.vars.items))
equated_end a b names path i since past inv =
    subst (λ (l : List (ℕ × ℕ)). AreAt b.terms since (trees_of a.terms path.since.items ++ equations (seen_names a.terms l) (slots_of a.terms path.here.vars.items))) (take_all i names past) inv.at

pub formula_made : (res : Result ℕ NoMemory) (a b : Maker) (new : List Plain) (t : Term) → Kept a.terms b.terms → IfOk res (λ r. Makes b.terms new r t) → IfOk res (λ r. Makes a.terms new r t)
formula_made res a b new t kept made = if_ok res (λ r. Makes b.terms new r t) (λ r. Makes a.terms new r t) made (λ r m. record { here = m.here; kept = kept_then kept m.kept })

-- ---- the formulas of all paths

pub record AreMade (a b : Maker) (names : List (ℕ × ℕ)) (paths : List Path) (i : ℕ) (formulas : List ℕ) : Type 0 where
  pub kept : Kept a.terms b.terms
  pub count : b.count ≡ a.count
  pub node : b.node ≡ a.node
  pub at : AreAt b.terms formulas (map (path_term (seen_names a.terms names)) (seen_paths a.terms (take i paths)))

pub made_begin : (a : Maker) (names : List (ℕ × ℕ)) (paths : List Path) (formulas : List ℕ) → formulas ≡ [] → AreMade a a names paths 0 formulas
made_begin a names paths formulas none = record {
  kept = kept_all a.terms;
  count = refl;
  node = refl;
  at = subst (λ (ks : List ℕ). AreAt a.terms ks []) (sym none) (record { within = All-nil (λ k. k < length a.terms); are = refl });
}

pub made_turn : (a b c : Maker) (names : List (ℕ × ℕ)) (paths : List Path) (i : ℕ) (p : Path) (formulas formulas' : List ℕ) (r : ℕ) → ArePaths a.terms paths → AreNames a.terms names → i < length paths → p ≡ get_or paths i p
    → AreMade a b names paths i formulas
    → c.count ≡ b.count → c.node ≡ b.node
    → Makes b.terms c.terms r (path_term (seen_names b.terms names) (seen_path b.terms p)) → formulas' ≡ formulas ++ r ∷ []
    → AreMade a c names paths (i + 1) formulas'
made_turn a b c names paths i p formulas formulas' r are are_names lt is inv count node made pushed =
    let F = path_term (seen_names a.terms names) in
    let p_is = one_of_all (IsPath a.terms) paths i p lt is are in
    let same : path_term (seen_names b.terms names) (seen_path b.terms p) ≡ F (seen_path a.terms p) =
    ap (λ (es : List (ℕ × Term)). path_term es (seen_path b.terms p)) (names_kept a.terms b.terms inv.kept names are_names) ∙ ap (λ (q : spec.Path). F q) (path_kept a.terms b.terms inv.kept p p_is) in
    let at' = are_push c.terms formulas r (map F (seen_paths a.terms (take i paths))) (F (seen_path a.terms p))
    (are_kept b.terms c.terms formulas (map F (seen_paths a.terms (take i paths))) made.kept inv.at) (record { within = made.here.within; is = made.here.is ∙ same }) in
    let cut : take (i + 1) paths ≡ take i paths ++ p ∷ [] = take_more paths i p lt ∙ ap (λ (q : Path). take i paths ++ q ∷ []) (sym is) in
    let whole : map F (seen_paths a.terms (take i paths)) ++ F (seen_path a.terms p) ∷ [] ≡ map F (seen_paths a.terms (take (i + 1) paths)) =
    sym (ap (λ (l : List Path). map F (seen_paths a.terms l)) cut ∙ ap (λ (l : List spec.Path). map F l) (map-append (seen_path a.terms) (take i paths) (p ∷ [])) ∙ map-append F (seen_paths a.terms (take i paths)) (seen_path a.terms p ∷ [])) in
    record {
      kept = kept_then inv.kept made.kept;
      count = count ∙ inv.count;
      node = node ∙ inv.node;
      at = subst (λ (ks : List ℕ). AreAt c.terms ks (map F (seen_paths a.terms (take (i + 1) paths)))) (sym pushed) (subst (λ (ts : List Term). AreAt c.terms (formulas ++ r ∷ []) ts) whole at');
    }

pub made_end : (a b : Maker) (names : List (ℕ × ℕ)) (paths : List Path) (i : ℕ) (formulas : List ℕ) → length paths ≤ i → AreMade a b names paths i formulas → AreAt b.terms formulas (map (path_term (seen_names a.terms names)) (seen_paths a.terms paths))
made_end a b names paths i formulas past inv = subst (λ (l : List Path). AreAt b.terms formulas (map (path_term (seen_names a.terms names)) (seen_paths a.terms l))) (take_all i paths past) inv.at
