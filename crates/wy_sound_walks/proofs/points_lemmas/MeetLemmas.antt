-- Where points come together is a point.
use Rattle.std.proofs.Common.{◌≡◌, ℕ, zero, suc, ◌≤◌, List, [], ◌∷◌, map, Bool, true, false, ◌&&◌, if◌then◌else◌, Option, Some, None, refl, ap, arith}
use Rattle.wy_lemmas.proofs.Choices.{both_parts as and_true}
use Rattle.wy_term.specs.Term.{Term}
use Rattle.wy_term.specs.Sorts.{val_sort}
use Rattle.wy_sound_terms.specs.wy_vc_spec.Making.{val_name}
use Rattle.wy_sound_terms.specs.wy_vc_spec.Variables.{slot_at}
use Rattle.wy_sound_terms.specs.wy_vc_spec.Values.{word_at}
use Rattle.wy_sound_terms.specs.wy_vc_spec.Spots.{Spot, is_set}
use Rattle.wy_sound_terms.specs.wy_vc_spec.Joins.{Path, path_of, most_vars, or_else, first_term, differ, set_on_all, with_equation, equated, Joined, with_variable, join_vars, Met, meet}
use Rattle.wy_sound_terms.proofs.formed_lemmas.MakingLemmas.{IsOf, val_name_sorted}
use Rattle.wy_sound_terms.proofs.formed_lemmas.ValueLemmas.{IsDatum, no_datum, datum, AreData, no_data, next, slot_datum}
use Rattle.wy_sound_walks.specs.joins.Points.{Depends}
use Rattle.wy_sound_walks.specs.depends.Depends.{DependsIf, AllDepend}
use Rattle.wy_sound_walks.proofs.depends_lemmas.ValueLemmas.{if_more, all_more, slot_depends}
use Rattle.wy_sound_walks.proofs.points_lemmas.SetLemmas.{AreSet, set_next, Point, PointIf, AllPoints}

pub record PathPoint (n : ℕ) (p : Path) : Type 0 where
  pub are : AreData p.vars
  pub depends : AllDepend n p.vars
  pub marked : AreSet p.set p.vars

abbrev AllPaths : ℕ → List Path → Type 0
AllPaths n [] = Unit {0}
AllPaths n (p ∷ ps) = PathPoint n p × AllPaths n ps

path_more : (n m : ℕ) (p : Path) → n ≤ m → PathPoint n p → PathPoint m p
path_more n m p le h = record { are = h.are; depends = all_more n m p.vars le h.depends; marked = h.marked }

equation_point : (n : ℕ) (name : Term) (o : Option Term) (p : Path) → PathPoint n p → PathPoint n (with_equation name o p)
equation_point n name None p h = h
equation_point n name (Some t) p h = record { are = h.are; depends = h.depends; marked = h.marked }

equated_points : (n : ℕ) (name : Term) (x : ℕ) (ps : List Path) → AllPaths n ps → AllPaths (suc n) (equated name x ps)
equated_points n name x [] h = tt
equated_points n name x (p ∷ ps) h = (equation_point (suc n) name (slot_at p.vars x) p (path_more n (suc n) p (omega arith) h.0), equated_points n name x ps h.1)

paths_points : (n : ℕ) (base : List Term) (ps : List Spot) → AllPoints n ps → AllPaths n (map (path_of base) ps)
paths_points n base [] h = tt
paths_points n base (p ∷ ps) h = (record { are = h.0.are; depends = h.0.depends; marked = h.0.marked }, paths_points n base ps h.1)

-- ---- a variable

else_datum : (o r : Option Term) → IsDatum o → IsDatum r → IsDatum (or_else o r)
else_datum None r h g = g
else_datum (Some t) r h g = h

else_depends : (n : ℕ) (o r : Option Term) → DependsIf n o → DependsIf n r → DependsIf n (or_else o r)
else_depends n None r h g = g
else_depends n (Some t) r h g = h

first_datum : (n : ℕ) (ps : List Path) (x : ℕ) → AllPaths n ps → IsDatum (first_term ps x)
first_datum n [] x h = no_datum
first_datum n (p ∷ ps) x h = else_datum (slot_at p.vars x) (first_term ps x) (slot_datum h.0.are x) (first_datum n ps x h.1)

first_depends : (n : ℕ) (ps : List Path) (x : ℕ) → AllPaths n ps → DependsIf n (first_term ps x)
first_depends n [] x h = tt
first_depends n (p ∷ ps) x h = else_depends n (slot_at p.vars x) (first_term ps x) (slot_depends n p.vars x h.0.depends) (first_depends n ps x h.1)

first_marked : (n : ℕ) (p : Path) (ps : List Path) (x : ℕ) → PathPoint n p → set_on_all (p ∷ ps) x ≡ true → (u : Term) × (first_term (p ∷ ps) x ≡ Some u)
first_marked n p ps x h e =
    let has = h.marked x (and_true (is_set p.set x) (set_on_all ps x) e).0 in (has.0, ap (λ (o : Option Term). or_else o (first_term ps x)) has.1)

-- ---- all variables

record JoinedPoint (n : ℕ) (j : Joined) : Type 0 where
  pub grows : n ≤ j.count
  pub are : AreData j.vars
  pub depends : AllDepend j.count j.vars
  pub marked : AreSet j.set j.vars

picked_joined : (n : ℕ) (c : Bool) (i j : Joined) → JoinedPoint n i → JoinedPoint n j → JoinedPoint n (if c then i else j)
picked_joined n true i j h g = h
picked_joined n false i j h g = g

-- the one more variable has a new name, or the first term that there is
named_point : (words : List (List ℕ)) (x n : ℕ) (b : Bool) (new : Joined) → JoinedPoint (suc n) new → JoinedPoint n (with_variable (Some (val_name (word_at words x) n)) b new)
named_point words x n b new h =
    let up = h.grows in
    let name = val_name (word_at words x) n in
    record {
      grows = omega (arith, up);
      are = next (datum (val_name_sorted (word_at words x) n)) h.are;
      depends = (λ v w a. a.datum_of (word_at words x) n (omega (arith, up)), h.depends);
      marked = set_next (Some name) b new.set new.vars (λ e. (name, refl)) h.marked;
    }

kept_point : (p : Path) (ps : List Path) (x n : ℕ) (old : Joined) → AllPaths n (p ∷ ps) → JoinedPoint n old → JoinedPoint n (with_variable (first_term (p ∷ ps) x) (set_on_all (p ∷ ps) x) old)
kept_point p ps x n old h g = record {
  grows = g.grows;
  are = next (first_datum n (p ∷ ps) x h) g.are;
  depends = (if_more n old.count (first_term (p ∷ ps) x) g.grows (first_depends n (p ∷ ps) x h), g.depends);
  marked = set_next (first_term (p ∷ ps) x) (set_on_all (p ∷ ps) x) old.set old.vars (λ e. first_marked n p ps x h.0 e) g.marked;
}

join_points : (words : List (List ℕ)) (p : Path) (ps : List Path) (x j n : ℕ) → AllPaths n (p ∷ ps) → JoinedPoint n (join_vars words (p ∷ ps) x j n)
join_points words p ps x zero n h = record { grows = omega arith; are = no_data; depends = tt; marked = λ y e. absurd cc }
join_points words p ps x (suc j) n h =
    let name = val_name (word_at words x) n in
    let new = join_vars words (equated name x (p ∷ ps)) (suc x) j (suc n) in
    let old = join_vars words (p ∷ ps) (suc x) j n in
    let b = set_on_all (p ∷ ps) x in
    picked_joined n (differ (p ∷ ps) x) (with_variable (Some name) b new) (with_variable (first_term (p ∷ ps) x) b old)
    (named_point words x n b new (join_points words (with_equation name (slot_at p.vars x) p) (equated name x ps) (suc x) j (suc n) (equated_points n name x (p ∷ ps) h)))
    (kept_point p ps x n old h (join_points words p ps (suc x) j n h))

pub record MetPoint (n : ℕ) (m : Met) : Type 0 where
  pub grows : n ≤ m.count
  pub ends : PointIf m.count m.ends

pub meet_points : (words : List (List ℕ)) (base : List Term) (ps : List Spot) (n : ℕ) → AllPoints n ps → MetPoint n (meet words base ps n)
meet_points words base [] n h = record { grows = omega arith; ends = tt }
meet_points words base (p ∷ []) n h = record { grows = omega arith; ends = h.0 }
meet_points words base (p ∷ q ∷ ps) n h =
    let others = map (path_of base) (q ∷ ps) in
    let j = join_points words (path_of base p) others 0 (most_vars (path_of base p ∷ others)) n (paths_points n base (p ∷ q ∷ ps) h) in
    record { grows = j.grows; ends = record { are = j.are; depends = j.depends; marked = j.marked } }
