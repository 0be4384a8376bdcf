-- Paths and ends, as terms grow.
use Rattle.std.proofs.Common.{◌≡◌, ◌<◌, ℕ, List, [], ◌∷◌, ◌++◌, length, take, drop, Bool, Option, Some, None, refl, sym, ◌∙◌, ap, subst}
use Rattle.std.proofs.lemmas.List.{append-nil, map-append, take-append-drop}
use Rattle.std.proofs.lemmas.List.Elements.{All-append, All-head, All-tail, All-take, All-drop, All-nil, All-cons}
use Rattle.wy_term.specs.Term.{Term}
use Rattle.wy_term.specs.Nodes.{Plain}
use Rattle.wy_vc_spec.specs.Spots.{Spot, spot, as_list}
use Rattle.wy_vc_spec.specs.Variables.{Vars}
use Rattle.wy_vc_body.specs.wy_vc_operations.Growing.{Kept, AreBelow}
use Rattle.wy_vc_body.specs.declared.here.Here.{Here}
use Rattle.wy_vc_body.specs.wy_vc_exprs.Numbered.{trees_of}
use Rattle.wy_vc_body.specs.wy_vc_exprs.Slots.{AreSlots, slots_of}
use Rattle.wy_vc_body.specs.wy_vc_exprs.State.{IsSound}
use Rattle.wy_vc_body.specs.wy_vc_exprs.declared.walk.Walk.{Walk}
use Rattle.wy_vc_body.proofs.wy_vc_exprs_proofs.NumberedLemmas.{trees_kept}
use Rattle.wy_vc_body.proofs.wy_vc_exprs_proofs.SlotLemmas.{slots_kept}
use Rattle.wy_vc_body.specs.declared.paths.Path.{Path}
use Rattle.wy_vc_body.specs.Paths.{ArePaths, IsPath, IsEnd, seen_end, seen_ends, spot_of}
use Rattle.wy_vc.specs.Flows.{IsEndOf, end_of}

-- ---- paths

end_kept : (old new : List Plain) → Kept old new → (base : List ℕ) (p : Path) → AreBelow (length old) base → IsPath old p → seen_end new base p ≡ seen_end old base p
end_kept old new k base p below is =
    ap (λ (hs : List Term). spot hs (slots_of new p.here.vars.items) p.here.set.items)
    (trees_kept old new k (base ++ p.since.items) (All-append (λ t. t < length old) base p.since.items below is.since))
    ∙ ap (λ (vs : Vars). spot (trees_of old (base ++ p.since.items)) vs p.here.set.items) (slots_kept old new k p.here.vars.items is.vars)

pub ends_kept : (old new : List Plain) → Kept old new → (base : List ℕ) (ps : List Path) → AreBelow (length old) base → ArePaths old ps → seen_ends new base ps ≡ seen_ends old base ps
ends_kept old new k base [] below are = refl
ends_kept old new k base (p ∷ ps) below are =
    ap (λ (q : Spot). q ∷ seen_ends new base ps) (end_kept old new k base p below (All-head (IsPath old) p ps are))
    ∙ ap (λ (qs : List Spot). seen_end old base p ∷ qs) (ends_kept old new k base ps below (All-tail (IsPath old) p ps are))

pub ends_append : (nodes : List Plain) (base : List ℕ) (ps qs : List Path) → seen_ends nodes base (ps ++ qs) ≡ seen_ends nodes base ps ++ seen_ends nodes base qs
ends_append nodes base ps qs = map-append (seen_end nodes base) ps qs

-- one more path
pub ends_push : (nodes : List Plain) (base : List ℕ) (ps qs : List Path) (p : Path) (s : Spot) → qs ≡ ps ++ p ∷ [] → seen_end nodes base p ≡ s → seen_ends nodes base qs ≡ seen_ends nodes base ps ++ s ∷ []
ends_push nodes base ps qs p s is same =
    ap (λ (l : List Path). seen_ends nodes base l) is ∙ ends_append nodes base ps (p ∷ []) ∙ ap (λ (t : Spot). seen_ends nodes base ps ++ t ∷ []) same

pub paths_push : (nodes : List Plain) (ps qs : List Path) (p : Path) → qs ≡ ps ++ p ∷ [] → ArePaths nodes ps → IsPath nodes p → ArePaths nodes qs
paths_push nodes ps qs p is are one =
    subst (λ (l : List Path). ArePaths nodes l) (sym is) (All-append (IsPath nodes) ps (p ∷ []) are (All-cons (IsPath nodes) p [] one (All-nil (IsPath nodes))))

-- the path to where a walk stands
pub path_is : (a : Walk) (h : Here) (base : ℕ) (p : Path) → p.since.items ≡ drop base a.hyps.items → p.here.vars.items ≡ h.vars.items → p.here.set.items ≡ h.set.items → seen_end a.maker.terms (take base a.hyps.items) p ≡ spot_of a h
path_is a h base p since vars set =
    let nodes = a.maker.terms in
    ap (λ (l : List ℕ). spot (trees_of nodes (take base a.hyps.items ++ l)) (slots_of nodes p.here.vars.items) p.here.set.items) since
    ∙ ap (λ (l : List ℕ). spot (trees_of nodes l) (slots_of nodes p.here.vars.items) p.here.set.items) (take-append-drop base a.hyps.items)
    ∙ ap (λ (l : List (Option ℕ)). spot (trees_of nodes a.hyps.items) (slots_of nodes l) p.here.set.items) vars
    ∙ ap (λ (l : List Bool). spot (trees_of nodes a.hyps.items) (slots_of nodes h.vars.items) l) set

pub path_ok : (a : Walk) (h : Here) (base : ℕ) (p : Path) → IsSound a → AreSlots a.maker.terms h.vars.items → p.since.items ≡ drop base a.hyps.items → p.here.vars.items ≡ h.vars.items → IsPath a.maker.terms p
path_ok a h base p sound slots since vars = record {
  since = subst (λ (l : List ℕ). AreBelow (length a.maker.terms) l) (sym since) (All-drop (λ t. t < length a.maker.terms) base a.hyps.items sound.hyps);
  vars = subst (λ (l : List (Option ℕ)). AreSlots a.maker.terms l) (sym vars) slots;
}

-- one more path, to where a walk stands
pub way_is : (a : Walk) (h : Here) (base : ℕ) (ps qs : List Path) (p : Path) → qs ≡ ps ++ p ∷ [] → p.since.items ≡ drop base a.hyps.items → p.here.vars.items ≡ h.vars.items → p.here.set.items ≡ h.set.items
    → seen_ends a.maker.terms (take base a.hyps.items) qs ≡ seen_ends a.maker.terms (take base a.hyps.items) ps ++ spot_of a h ∷ []
way_is a h base ps qs p is since vars set = ends_push a.maker.terms (take base a.hyps.items) ps qs p (spot_of a h) is (path_is a h base p since vars set)

pub way_ok : (a : Walk) (h : Here) (base : ℕ) (ps qs : List Path) (p : Path) → IsSound a → AreSlots a.maker.terms h.vars.items → ArePaths a.maker.terms ps → qs ≡ ps ++ p ∷ [] → p.since.items ≡ drop base a.hyps.items → p.here.vars.items ≡ h.vars.items → ArePaths a.maker.terms qs
way_ok a h base ps qs p sound slots are is since vars = paths_push a.maker.terms ps qs p is are (path_ok a h base p sound slots since vars)

-- the hypotheses that a walk had are those of terms
pub front_below : (a : Walk) (base : ℕ) → IsSound a → AreBelow (length a.maker.terms) (take base a.hyps.items)
front_below a base sound = All-take (λ t. t < length a.maker.terms) base a.hyps.items sound.hyps

-- ---- ends

pub end_is : (w : Walk) (h : Option Here) (e : Option Spot) → IsEnd w h e → end_of w h ≡ e
end_is w None None is = refl
end_is w None (Some p) is = absurd is
end_is w (Some h) None is = absurd is
end_is w (Some h) (Some p) is = ap Some is.is

pub end_are : (w : Walk) (h : Option Here) (e : Option Spot) → IsEnd w h e → IsEndOf w.maker.terms h
end_are w None None is = tt
end_are w None (Some p) is = absurd is
end_are w (Some h) None is = absurd is
end_are w (Some h) (Some p) is = is.slots

-- a path goes on with what is known
pub end_some : (w : Walk) (h : Here) → AreSlots w.maker.terms h.vars.items → IsEnd w (Some h) (Some (spot_of w h))
end_some w h slots = record { slots = slots; is = refl }

-- ---- the path to where a side ended

pub way_none : (a : Walk) (o : Option Here) (base : ℕ) (ps : List Path) → o ≡ None → seen_ends a.maker.terms (take base a.hyps.items) ps ≡ seen_ends a.maker.terms (take base a.hyps.items) ps ++ as_list (end_of a o)
way_none a o base ps none =
    sym (append-nil (seen_ends a.maker.terms (take base a.hyps.items) ps)) ∙ ap (λ (x : Option Here). seen_ends a.maker.terms (take base a.hyps.items) ps ++ as_list (end_of a x)) (sym none)

pub way_some : (a : Walk) (o : Option Here) (h : Here) (base : ℕ) (ps qs : List Path) (p : Path) → o ≡ Some h → qs ≡ ps ++ p ∷ [] → p.since.items ≡ drop base a.hyps.items → p.here.vars.items ≡ h.vars.items → p.here.set.items ≡ h.set.items
    → seen_ends a.maker.terms (take base a.hyps.items) qs ≡ seen_ends a.maker.terms (take base a.hyps.items) ps ++ as_list (end_of a o)
way_some a o h base ps qs p some is since vars set =
    way_is a h base ps qs p is since vars set ∙ ap (λ (x : Option Here). seen_ends a.maker.terms (take base a.hyps.items) ps ++ as_list (end_of a x)) (sym some)

pub way_some_ok : (a : Walk) (o : Option Here) (h : Here) (base : ℕ) (ps qs : List Path) (p : Path) → o ≡ Some h → IsSound a → IsEndOf a.maker.terms o → ArePaths a.maker.terms ps → qs ≡ ps ++ p ∷ [] → p.since.items ≡ drop base a.hyps.items → p.here.vars.items ≡ h.vars.items
    → ArePaths a.maker.terms qs
way_some_ok a o h base ps qs p some sound is_end are is since vars = way_ok a h base ps qs p sound (subst (λ (x : Option Here). IsEndOf a.maker.terms x) some is_end) are is since vars

-- no paths
pub paths_none : (nodes : List Plain) (ps : List Path) → ps ≡ [] → ArePaths nodes ps
paths_none nodes ps none = subst (λ (l : List Path). ArePaths nodes l) (sym none) (All-nil (IsPath nodes))
