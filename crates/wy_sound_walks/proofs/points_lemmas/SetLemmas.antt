-- Points: Val terms that depend on names below the count, and a term for each variable that is marked.
use Rattle.std.proofs.Common.{◌≡◌, ℕ, zero, suc, ◌≤◌, List, [], ◌∷◌, ◌++◌, Bool, true, false, Option, Some, None, refl, sym, ap, ◌∙◌, subst, arith}
use Rattle.wy_term.specs.Term.{Term}
use Rattle.wy_term.specs.Sorts.{val_sort}
use Rattle.wy_sound_terms.specs.wy_vc_spec.Variables.{Vars, slot_at, put}
use Rattle.wy_sound_terms.specs.wy_vc_spec.Spots.{Spot, Flow, is_set, mark, go_on, and_then, as_list, assign, declare, with_hyps}
use Rattle.wy_sound_terms.proofs.formed_lemmas.MakingLemmas.{IsOf}
use Rattle.wy_sound_terms.proofs.formed_lemmas.ValueLemmas.{AreData, put_data}
use Rattle.wy_sound_walks.specs.joins.Points.{Depends, IsPoint}
use Rattle.wy_sound_walks.specs.depends.Depends.{DependsIf, AllDepend}
use Rattle.wy_sound_walks.proofs.depends_lemmas.ValueLemmas.{all_more, put_depends, slot_depends}
use Rattle.wy_sound_walks.specs.points.Stay.{EndIsPoint, AllArePoints, StaysPoint}

-- ---- marks

abbrev pub Has : Vars → ℕ → Type 0
Has vars y = (u : Term) × (slot_at vars y ≡ Some u)

abbrev pub AreSet : List Bool → Vars → Type 0
AreSet set vars = (y : ℕ) → is_set set y ≡ true → Has vars y

mark_set : (set : List Bool) (vars : Vars) (x : ℕ) (t : Term) (b : Bool) → AreSet set vars → (y : ℕ) → is_set (mark set x b) y ≡ true → Has (put vars x t) y
mark_set [] [] zero t b h zero e = (t, refl)
mark_set [] [] zero t b h (suc y) e = absurd cc
mark_set [] [] (suc x) t b h zero e = absurd cc
mark_set [] [] (suc x) t b h (suc y) e = mark_set [] [] x t b (λ z g. h (suc z) g) y e
mark_set [] (v ∷ vs) zero t b h zero e = (t, refl)
mark_set [] (v ∷ vs) zero t b h (suc y) e = absurd cc
mark_set [] (v ∷ vs) (suc x) t b h zero e = absurd cc
mark_set [] (v ∷ vs) (suc x) t b h (suc y) e = mark_set [] vs x t b (λ z g. h (suc z) g) y e
mark_set (c ∷ cs) [] zero t b h zero e = (t, refl)
mark_set (c ∷ cs) [] zero t b h (suc y) e = h (suc y) e
mark_set (c ∷ cs) [] (suc x) t b h zero e = h zero e
mark_set (c ∷ cs) [] (suc x) t b h (suc y) e = mark_set cs [] x t b (λ z g. h (suc z) g) y e
mark_set (c ∷ cs) (v ∷ vs) zero t b h zero e = (t, refl)
mark_set (c ∷ cs) (v ∷ vs) zero t b h (suc y) e = h (suc y) e
mark_set (c ∷ cs) (v ∷ vs) (suc x) t b h zero e = h zero e
mark_set (c ∷ cs) (v ∷ vs) (suc x) t b h (suc y) e = mark_set cs vs x t b (λ z g. h (suc z) g) y e

put_has : (vars : Vars) (x : ℕ) (t : Term) (y : ℕ) → Has vars y → Has (put vars x t) y
put_has [] zero t zero h = (t, refl)
put_has [] zero t (suc y) h = h
put_has [] (suc x) t zero h = h
put_has [] (suc x) t (suc y) h = put_has [] x t y h
put_has (v ∷ vs) zero t zero h = (t, refl)
put_has (v ∷ vs) zero t (suc y) h = h
put_has (v ∷ vs) (suc x) t zero h = h
put_has (v ∷ vs) (suc x) t (suc y) h = put_has vs x t y h

pub set_next : (o : Option Term) (b : Bool) (set : List Bool) (vars : Vars) → (b ≡ true → (u : Term) × (o ≡ Some u)) → AreSet set vars → AreSet (b ∷ set) (o ∷ vars)
set_next o b set vars f h zero e = f e
set_next o b set vars f h (suc y) e = h y e

-- ---- points

pub record Point (n : ℕ) (p : Spot) : Type 0 where
  pub are : AreData p.vars
  pub depends : AllDepend n p.vars
  pub marked : AreSet p.set p.vars

abbrev pub PointIf : ℕ → Option Spot → Type 0
PointIf n None = Unit {0}
PointIf n (Some p) = Point n p

abbrev pub AllPoints : ℕ → List Spot → Type 0
AllPoints n [] = Unit {0}
AllPoints n (p ∷ ps) = Point n p × AllPoints n ps

pub record FlowPoints (n : ℕ) (f : Flow) : Type 0 where
  pub grows : n ≤ f.count
  pub ends : PointIf f.count f.ends
  pub breaks : AllPoints f.count f.breaks

pub point_more : (n m : ℕ) (p : Spot) → n ≤ m → Point n p → Point m p
point_more n m p le h = record { are = h.are; depends = all_more n m p.vars le h.depends; marked = h.marked }

pub point_if_more : (n m : ℕ) (o : Option Spot) → n ≤ m → PointIf n o → PointIf m o
point_if_more n m None le h = tt
point_if_more n m (Some p) le h = point_more n m p le h

pub points_more : (n m : ℕ) (ps : List Spot) → n ≤ m → AllPoints n ps → AllPoints m ps
points_more n m [] le h = tt
points_more n m (p ∷ ps) le h = (point_more n m p le h.0, points_more n m ps le h.1)

pub both_points : (n : ℕ) (ps qs : List Spot) → AllPoints n ps → AllPoints n qs → AllPoints n (ps ++ qs)
both_points n [] qs h g = g
both_points n (p ∷ ps) qs h g = (h.0, both_points n ps qs h.1 g)

pub list_points : (n : ℕ) (o : Option Spot) → PointIf n o → AllPoints n (as_list o)
list_points n None h = tt
list_points n (Some p) h = (h, tt)

-- at the same terms of variables
pub with_point : (n : ℕ) (p : Spot) (hyps : List Term) → Point n p → Point n (with_hyps hyps p)
with_point n p hyps h = record { are = h.are; depends = h.depends; marked = h.marked }

pub assign_point : (n : ℕ) (p : Spot) (x : ℕ) (t : Term) → IsOf val_sort t → Depends n t → Point n p → Point n (assign x t p)
assign_point n p x t is dep h = record { are = put_data x h.are is; depends = put_depends n p.vars x t h.depends dep; marked = mark_set p.set p.vars x t true h.marked }

pub declare_point : (n : ℕ) (p : Spot) (x : ℕ) (t : Term) → IsOf val_sort t → Depends n t → Point n p → Point n (declare x t p)
declare_point n p x t is dep h = record { are = put_data x h.are is; depends = put_depends n p.vars x t h.depends dep; marked = mark_set p.set p.vars x t false h.marked }

pub put_point : (n : ℕ) (p : Spot) (x : ℕ) (t : Term) → IsOf val_sort t → Depends n t → Point n p → Point n (record p { vars = put p.vars x t })
put_point n p x t is dep h = record { are = put_data x h.are is; depends = put_depends n p.vars x t h.depends dep; marked = λ y e. put_has p.vars x t y (h.marked y e) }

-- ---- what goes on

on_points : (o : Option Spot) (n : ℕ) (next : Spot → ℕ → Flow) → PointIf n o → ((p : Spot) (m : ℕ) → Point m p → FlowPoints m (next p m)) → FlowPoints n (go_on o n next)
on_points None n next h g = record { grows = omega arith; ends = tt; breaks = tt }
on_points (Some p) n next h g = g p n h

pub then_points : (n : ℕ) (first : Flow) (next : Spot → ℕ → Flow) → FlowPoints n first → ((p : Spot) (m : ℕ) → Point m p → FlowPoints m (next p m)) → FlowPoints n (and_then first next)
then_points n first next h g =
    let rest = go_on first.ends first.count next in
    let k : FlowPoints first.count rest = on_points first.ends first.count next h.ends g in
    let up = h.grows in let on = k.grows in
    record { grows = omega (arith, up, on); ends = k.ends; breaks = both_points rest.count first.breaks rest.breaks (points_more first.count rest.count first.breaks k.grows h.breaks) k.breaks }

-- ---- as the law has them

pub depend_from : (n : ℕ) (vars : Vars) → ((x : ℕ) (t : Term) → slot_at vars x ≡ Some t → Depends n t) → AllDepend n vars
depend_from n [] h = tt
depend_from n (None ∷ vs) h = (tt, depend_from n vs (λ x t e. h (suc x) t e))
depend_from n (Some t ∷ vs) h = (h zero t refl, depend_from n vs (λ x u e. h (suc x) u e))

pub as_point : (n : ℕ) (p : Spot) → Point n p → IsPoint n p
as_point n p h = record { depends = λ x t e. subst (DependsIf n) e (slot_depends n p.vars x h.depends); marked = h.marked }

as_end : (n : ℕ) (o : Option Spot) → PointIf n o → EndIsPoint n o
as_end n None h = tt
as_end n (Some p) h = as_point n p h

as_points : (n : ℕ) (ps : List Spot) → AllPoints n ps → AllArePoints n ps
as_points n [] h = tt
as_points n (p ∷ ps) h = (as_point n p h.0, as_points n ps h.1)

pub stays : (n : ℕ) (f : Flow) → FlowPoints n f → StaysPoint n f
stays n f h = record { grows = h.grows; ends = as_end f.count f.ends h.ends; breaks = as_points f.count f.breaks h.breaks }
