-- Points of a walk to which paths lead, on which what isn't marked has no value; and where such points come together.
use Rattle.std.proofs.Common.{◌≡◌, ℕ, zero, suc, ◌+◌, ◌<◌, ◌≤◌, List, [], ◌∷◌, ◌++◌, map, length, Bool, true, false, not, ◌&&◌, Option, Some, None, refl, sym, ap, ◌∙◌, subst, arith}
use Rattle.wy_lemmas.proofs.Choices.{and-left as left_true, false_true as never}
use Rattle.wy_sound_programs.proofs.MarkLemmas.{Upto, max_first, picked, set_equated, up_next, join_up}
use Rattle.wy_term.specs.Term.{Term}
use Rattle.wy_sound_programs.specs.wy_vc_spec.Making.{val_name}
use Rattle.wy_sound_programs.specs.wy_vc_spec.Values.{word_at}
use Rattle.wy_sound_programs.specs.wy_vc_spec.Spots.{Spot, is_set, as_list}
use Rattle.wy_sound_programs.specs.wy_vc_spec.Joins.{Path, path_of, most_vars, differ, first_term, set_on_all, equated, Joined, with_variable, join_vars, meet}
use Rattle.wy_assign.specs.Paths.{End, Course}
use Rattle.wy_sound.proofs.marks_lemmas.WayLemmas.{Way}
use Rattle.wy_sound.proofs.marks_lemmas.MarkLemmas.{unmarked}

-- a path leads from these marks to those, for each variable
abbrev pub Leads : Course → End → List Bool → List Bool → Type 0
Leads C end set new = (x : ℕ) → Way C end x (unmarked set x) (unmarked new x)

-- each variable with a mark is one of those with terms
abbrev pub Wide : Spot → Type 0
Wide p = length p.set ≤ length p.vars

pub record Reached (C : Course) (end : End) (set : List Bool) (q : Spot) : Type 0 where
  pub wide : Wide q
  pub leads : Leads C end set q.set

abbrev pub ReachedIf : Course → End → List Bool → Option Spot → Type 0
ReachedIf C end set None = Unit {0}
ReachedIf C end set (Some q) = Reached C end set q

abbrev pub AllReached : Course → End → List Bool → List Spot → Type 0
AllReached C end set [] = Unit {0}
AllReached C end set (q ∷ qs) = Reached C end set q × AllReached C end set qs

-- points by points
pub reach_if : (C D : Course) (c d : End) (set new : List Bool) → ((q : Spot) → Reached C c set q → Reached D d new q) → (o : Option Spot) → ReachedIf C c set o → ReachedIf D d new o
reach_if C D c d set new f None h = tt
reach_if C D c d set new f (Some q) h = f q h

pub reach_all : (C D : Course) (c d : End) (set new : List Bool) → ((q : Spot) → Reached C c set q → Reached D d new q) → (qs : List Spot) → AllReached C c set qs → AllReached D d new qs
reach_all C D c d set new f [] h = tt
reach_all C D c d set new f (q ∷ qs) h = (f q h.0, reach_all C D c d set new f qs h.1)

pub reach_list : (C : Course) (end : End) (set : List Bool) (o : Option Spot) → ReachedIf C end set o → AllReached C end set (as_list o)
reach_list C end set None h = tt
reach_list C end set (Some q) h = (h, tt)

pub reach_both : (C : Course) (end : End) (set : List Bool) (ps qs : List Spot) → AllReached C end set ps → AllReached C end set qs → AllReached C end set (ps ++ qs)
reach_both C end set [] qs h g = g
reach_both C end set (p ∷ ps) qs h g = (h.0, reach_both C end set ps qs h.1 g)

-- ---- marks of a join

-- there are as many marks as terms
abbrev Even : Joined → Type 0
Even j = length j.set ≡ length j.vars

join_even : (words : List (List ℕ)) (ps : List Path) (x j n : ℕ) → Even (join_vars words ps x j n)
join_even words ps x zero n = refl
join_even words ps x (suc j) n =
    let name = val_name (word_at words x) n in
    let new = join_vars words (equated name x ps) (suc x) j (suc n) in
    let old = join_vars words ps (suc x) j n in
    picked Even (differ ps x) (with_variable (Some name) (set_on_all ps x) new) (with_variable (first_term ps x) (set_on_all ps x) old)
    (ap suc (join_even words (equated name x ps) (suc x) j (suc n))) (ap suc (join_even words ps (suc x) j n))

set_below : (set : List Bool) (x : ℕ) → is_set set x ≡ true → x < length set
set_below [] x e = never e
set_below (b ∷ set) zero e = omega arith
set_below (b ∷ set) (suc x) e = let h = set_below set x e in omega (arith, h)

-- ---- the paths of a join

-- where a variable isn't marked on each, one leads there on which it has no value
some_way : (C : Course) (end : End) (set : List Bool) (base : List Term) (ps : List Spot) (x : ℕ) → AllReached C end set ps → set_on_all (map (path_of base) ps) x ≡ false → Way C end x (unmarked set x) true
some_way C end set base [] x h e = never (sym e)
some_way C end set base (p ∷ ps) x h e = by (is_set p.set x) refl (some_way C end set base ps x h.1) where
  by : (b : Bool) → is_set p.set x ≡ b → (set_on_all (map (path_of base) ps) x ≡ false → Way C end x (unmarked set x) true) → Way C end x (unmarked set x) true
  by true q next = next (sym (ap (λ (b : Bool). b && set_on_all (map (path_of base) ps) x) q) ∙ e)
  by false q next = subst (λ (b : Bool). Way C end x (unmarked set x) (not b)) q (h.0.leads x)

pub join_reached : (C : Course) (end : End) (set : List Bool) (words : List (List ℕ)) (base : List Term) (p : Spot) (ps : List Spot) (n x : ℕ) → AllReached C end set (p ∷ ps)
    → let paths = map (path_of base) (p ∷ ps) in Way C end x (unmarked set x) (unmarked (join_vars words paths 0 (most_vars paths) n).set x)
join_reached C end set words base p ps n x h = by (set_on_all (map (path_of base) (p ∷ ps)) x) refl where
  plain : 0 + x ≡ x
  plain = omega arith

  below : is_set p.set x ≡ true → x < most_vars (map (path_of base) (p ∷ ps))
  below e =
      let low = set_below p.set x e in
      let wide = h.0.wide in
      let most = max_first (length p.vars) (most_vars (map (path_of base) ps)) in
      omega (arith, low, wide, most)

  up : set_on_all (map (path_of base) (p ∷ ps)) x ≡ true → is_set (join_vars words (map (path_of base) (p ∷ ps)) 0 (most_vars (map (path_of base) (p ∷ ps))) n).set x ≡ true
  up e =
      let all = map (path_of base) (p ∷ ps) in
      join_up words all 0 (most_vars all) n x (below (left_true (is_set p.set x) (set_on_all (map (path_of base) ps) x) e)) (subst (λ (z : ℕ). set_on_all all z ≡ true) (sym plain) e)

  any : (v : Bool) → Way C end x (unmarked set x) true → Way C end x (unmarked set x) v
  any v w = record { events = w.events; is_way = w.is_way; unset = λ e. w.unset refl }

  none : (b v : Bool) → Way C end x (unmarked set x) b → v ≡ false → Way C end x (unmarked set x) v
  none b v w e = record { events = w.events; is_way = w.is_way; unset = λ q. never (sym e ∙ q) }

  by : (b : Bool) → set_on_all (map (path_of base) (p ∷ ps)) x ≡ b
      → Way C end x (unmarked set x) (unmarked (join_vars words (map (path_of base) (p ∷ ps)) 0 (most_vars (map (path_of base) (p ∷ ps))) n).set x)
  by true q =
      let new = (join_vars words (map (path_of base) (p ∷ ps)) 0 (most_vars (map (path_of base) (p ∷ ps))) n).set in
      none (unmarked p.set x) (unmarked new x) (h.0.leads x) (ap not (up q))
  by false q =
      let new = (join_vars words (map (path_of base) (p ∷ ps)) 0 (most_vars (map (path_of base) (p ∷ ps))) n).set in
      any (unmarked new x) (some_way C end set base (p ∷ ps) x h q)

-- the paths that parted come together
pub meet_reached : (C : Course) (end : End) (set : List Bool) (words : List (List ℕ)) (base : List Term) (ps : List Spot) (n : ℕ) → AllReached C end set ps → ReachedIf C end set (meet words base ps n).ends
meet_reached C end set words base [] n h = tt
meet_reached C end set words base (p ∷ []) n h = h.0
meet_reached C end set words base (p ∷ q ∷ ps) n h =
    let paths = map (path_of base) (p ∷ q ∷ ps) in
    let even = join_even words paths 0 (most_vars paths) n in
    record { wide = omega (arith, even); leads = λ x. join_reached C end set words base p (q ∷ ps) n x h }
