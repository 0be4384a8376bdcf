-- Marks where paths come together, and at the head of a loop.
use Rattle.std.proofs.Common.{◌≡◌, ◌⊎◌, inl, inr, ℕ, zero, suc, ◌+◌, ◌<◌, ◌≤◌, List, [], ◌∷◌, map, length, Bool, true, false, ◌&&◌, if◌then◌else◌, Option, Some, None, refl, sym, ap₂, ◌∙◌, subst, arith}
use Rattle.wy_core.specs.CoreTree.{Stmts}
use Rattle.wy_lemmas.proofs.Choices.{both_parts as and_true, both_true, false_true as no_truth}
use Rattle.wy_term.specs.Term.{Term}
use Rattle.wy_sem.specs.Statements.{type_at}
use Rattle.wy_vc_spec.specs.Making.{val_name}
use Rattle.wy_vc_spec.specs.Numbered.{Node}
use Rattle.wy_vc_spec.specs.Variables.{Vars, slot_at, put}
use Rattle.wy_vc_spec.specs.Values.{word_at, variable}
use Rattle.wy_vc_spec.specs.Clauses.{assume_in_type}
use Rattle.wy_vc_spec.specs.Spots.{Spot, is_set, with_hyps}
use Rattle.wy_vc_spec.specs.Assigned.{assigns_in, bound_in}
use Rattle.wy_vc_spec.specs.Joins.{Path, path_of, max, most_vars, differ, first_term, set_on_all, with_equation, equated, Joined, with_variable, join_vars, meet}
use Rattle.wy_vc_spec.specs.Statements.{Body, words, Renewed, renew_vars, renew_types, renew}
use Rattle.wy_sound_statements.specs.wy_sound_walks.joins.Joins.{IsOne}
use Rattle.wy_sound_statements.proofs.wy_sound_walks_proofs.points_lemmas.SetLemmas.{AllPoints}

-- ---- equations leave marks

pub with_set : (name : Term) (o : Option Term) (p : Path) → (with_equation name o p).set ≡ p.set
with_set name None p = refl
with_set name (Some t) p = refl

pub set_equated : (name : Term) (x : ℕ) (ps : List Path) (y : ℕ) → set_on_all (equated name x ps) y ≡ set_on_all ps y
set_equated name x [] y = refl
set_equated name x (p ∷ ps) y = ap₂ (λ (s : List Bool) (b : Bool). is_set s y && b) (with_set name (slot_at p.vars x) p) (set_equated name x ps y)

-- ---- all variables

pub picked : (P : Joined → Type 0) (c : Bool) (i j : Joined) → P i → P j → P (if c then i else j)
picked P true i j h g = h
picked P false i j h g = g

-- what is marked from this variable on is marked on all paths
abbrev Down : List Path → ℕ → List Bool → Type 0
Down ps x set = (y : ℕ) → is_set set y ≡ true → set_on_all ps (x + y) ≡ true

down_next : (ps : List Path) (x : ℕ) (set : List Bool) → Down ps (suc x) set → Down ps x (set_on_all ps x ∷ set)
down_next ps x set h zero e = let q : x ≡ x + 0 = omega arith in subst (λ (z : ℕ). set_on_all ps z ≡ true) q e
down_next ps x set h (suc y) e = let q : suc x + y ≡ x + suc y = omega arith in subst (λ (z : ℕ). set_on_all ps z ≡ true) q (h y e)

join_down : (words : List (List ℕ)) (ps : List Path) (x j n : ℕ) → Down ps x (join_vars words ps x j n).set
join_down words ps x zero n = λ y e. no_truth e
join_down words ps x (suc j) n =
    let name = val_name (word_at words x) n in
    let new = join_vars words (equated name x ps) (suc x) j (suc n) in
    let old = join_vars words ps (suc x) j n in
    picked (λ (i : Joined). Down ps x i.set) (differ ps x) (with_variable (Some name) (set_on_all ps x) new) (with_variable (first_term ps x) (set_on_all ps x) old)
    (down_next ps x new.set (λ y e. sym (set_equated name x ps (suc x + y)) ∙ join_down words (equated name x ps) (suc x) j (suc n) y e))
    (down_next ps x old.set (join_down words ps (suc x) j n))

-- what is marked on all paths is marked, as far as there are so many variables
abbrev pub Upto : List Path → ℕ → ℕ → List Bool → Type 0
Upto ps x j set = (y : ℕ) → y < j → set_on_all ps (x + y) ≡ true → is_set set y ≡ true

pub up_next : (ps : List Path) (x j : ℕ) (set : List Bool) → Upto ps (suc x) j set → Upto ps x (suc j) (set_on_all ps x ∷ set)
up_next ps x j set h zero lt e = let q : x + 0 ≡ x = omega arith in subst (λ (z : ℕ). set_on_all ps z ≡ true) q e
up_next ps x j set h (suc y) lt e = let q : x + suc y ≡ suc x + y = omega arith in h y (omega (arith, lt)) (subst (λ (z : ℕ). set_on_all ps z ≡ true) q e)

pub join_up : (words : List (List ℕ)) (ps : List Path) (x j n : ℕ) → Upto ps x j (join_vars words ps x j n).set
join_up words ps x zero n = λ y lt e. absurd (omega (arith, lt))
join_up words ps x (suc j) n =
    let name = val_name (word_at words x) n in
    let new = join_vars words (equated name x ps) (suc x) j (suc n) in
    let old = join_vars words ps (suc x) j n in
    picked (λ (i : Joined). Upto ps x (suc j) i.set) (differ ps x) (with_variable (Some name) (set_on_all ps x) new) (with_variable (first_term ps x) (set_on_all ps x) old)
    (up_next ps x j new.set (λ y lt e. join_up words (equated name x ps) (suc x) j (suc n) y lt (set_equated name x ps (suc x + y) ∙ e)))
    (up_next ps x j old.set (join_up words ps (suc x) j n))

-- ---- how many variables there are

pub max_first : (m n : ℕ) → m ≤ max m n
max_first zero n = omega arith
max_first (suc m) zero = omega arith
max_first (suc m) (suc n) = let h = max_first m n in omega (arith, h)

slot_below : (vars : Vars) (x : ℕ) (t : Term) → slot_at vars x ≡ Some t → x < length vars
slot_below [] x t e = none e where
  none : {X : Type 0} → ◌≡◌ {A = Option Term} None (Some t) → X
  none q = absurd cc
slot_below (v ∷ vs) zero t e = omega arith
slot_below (v ∷ vs) (suc x) t e = let h = slot_below vs x t e in omega (arith, h)

-- ---- points

-- a point behind paths: the variables that are marked there are those that are marked on all of them
pub record Meets (ps : List Spot) (q : Spot) : Type 0 where
  pub one : Spot
  pub is_one : IsOne one ps
  pub down : (x : ℕ) → is_set q.set x ≡ true → (p : Spot) → IsOne p ps → is_set p.set x ≡ true
  pub up : (x : ℕ) → ((p : Spot) → IsOne p ps → is_set p.set x ≡ true) → is_set q.set x ≡ true

abbrev pub MeetsIf : List Spot → Option Spot → Type 0
MeetsIf ps None = (p : Spot) → IsOne p ps → ⊥
MeetsIf ps (Some q) = Meets ps q

marked_down : (base : List Term) (ps : List Spot) (x : ℕ) → set_on_all (map (path_of base) ps) x ≡ true → (p : Spot) → IsOne p ps → is_set p.set x ≡ true
marked_down base [] x e p h = absurd h
marked_down base (q ∷ ps) x e p (inl h) = subst (λ (r : Spot). is_set r.set x ≡ true) h (and_true (is_set q.set x) (set_on_all (map (path_of base) ps) x) e).0
marked_down base (q ∷ ps) x e p (inr h) = marked_down base ps x (and_true (is_set q.set x) (set_on_all (map (path_of base) ps) x) e).1 p h

marked_up : (base : List Term) (ps : List Spot) (x : ℕ) → ((p : Spot) → IsOne p ps → is_set p.set x ≡ true) → set_on_all (map (path_of base) ps) x ≡ true
marked_up base [] x h = refl
marked_up base (q ∷ ps) x h = both_true (is_set q.set x) (set_on_all (map (path_of base) ps) x) (h q (inl refl)) (marked_up base ps x (λ p o. h p (inr o)))

pub meets : (words : List (List ℕ)) (base : List Term) (ps : List Spot) (n m : ℕ) → AllPoints m ps → MeetsIf ps (meet words base ps n).ends
meets words base [] n m h = λ p o. o
meets words base (p ∷ []) n m h = record { one = p; is_one = inl refl; down = λ x e c o. itself c x e o; up = λ x f. f p (inl refl) } where
  itself : (c : Spot) (x : ℕ) → is_set p.set x ≡ true → (p ≡ c) ⊎ ⊥ → is_set c.set x ≡ true
  itself c x e (inl q) = subst (λ (r : Spot). is_set r.set x ≡ true) q e
  itself c x e (inr q) = absurd q
meets words base (p ∷ q ∷ ps) n m h =
    let all = p ∷ q ∷ ps in
    let paths = map (path_of base) all in
    record {
      one = p;
      is_one = inl refl;
      down = λ x e c o. marked_down base all x (subst (λ (z : ℕ). set_on_all paths z ≡ true) (plain x) (join_down words paths 0 (most_vars paths) n x e)) c o;
      up = λ x f. join_up words paths 0 (most_vars paths) n x (below x (f p (inl refl))) (subst (λ (z : ℕ). set_on_all paths z ≡ true) (sym (plain x)) (marked_up base all x f));
    }
  where
    plain : (x : ℕ) → 0 + x ≡ x
    plain x = omega arith

    below : (x : ℕ) → is_set p.set x ≡ true → x < most_vars (map (path_of base) (p ∷ q ∷ ps))
    below x e =
        let t = h.0.marked x e in
        let low = slot_below p.vars x t.0 t.1 in
        let most = max_first (length p.vars) (most_vars (map (path_of base) (q ∷ ps))) in
        omega (arith, low, most)

-- ---- the head of a loop

picked_renewed : (P : Renewed → Type 0) (c : Bool) (i j : Renewed) → P i → P j → P (if c then i else j)
picked_renewed P true i j h g = h
picked_renewed P false i j h g = g

vars_set : (words : List (List ℕ)) (body : Stmts Node) (x j : ℕ) (p : Spot) (n : ℕ) → (renew_vars words body x j p n).spot.set ≡ p.set
vars_set words body x zero p n = refl
vars_set words body x (suc j) p n =
    let q : Spot = record p { vars = put p.vars x (val_name (word_at words x) n) } in
    picked_renewed (λ (r : Renewed). r.spot.set ≡ p.set) (assigns_in x body) (renew_vars words body (suc x) j q (suc n)) (renew_vars words body (suc x) j p n)
    (vars_set words body (suc x) j q (suc n)) (vars_set words body (suc x) j p n)

types_set : (b : Body Node) (body : Stmts Node) (x j : ℕ) (p : Spot) (n : ℕ) → (renew_types b body x j p n).spot.set ≡ p.set
types_set b body x zero p n = refl
types_set b body x (suc j) p n =
    let f = assume_in_type b.program.setting (type_at b.types x) (variable p.vars x) p.hyps n in
    picked_renewed (λ (r : Renewed). r.spot.set ≡ p.set) (assigns_in x body && is_set p.set x) (renew_types b body (suc x) j (with_hyps f.hyps p) f.count) (renew_types b body (suc x) j p n)
    (types_set b body (suc x) j (with_hyps f.hyps p) f.count) (types_set b body (suc x) j p n)

-- no mark is changed
pub head_set : (b : Body Node) (body : Stmts Node) (p : Spot) (n : ℕ) → (renew b body p n).spot.set ≡ p.set
head_set b body p n =
    let r = renew_vars (words b) body 0 (bound_in body) p n in
    types_set b body 0 (bound_in body) r.spot r.count ∙ vars_set (words b) body 0 (bound_in body) p n
