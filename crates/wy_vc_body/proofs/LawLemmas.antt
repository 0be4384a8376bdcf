-- Joins by their names: the equations of new names behind what each path assumed.
use Rattle.std.proofs.Common.{◌≡◌, ℕ, zero, suc, List, [], ◌∷◌, ◌++◌, map, Bool, true, false, ◌&&◌, not, if◌then◌else◌, Option, Some, None, refl, sym, ◌∙◌, ap}
use Rattle.std.proofs.lemmas.List.{append-nil, append_assoc}
use Rattle.wy_term.specs.Term.{Term}
use Rattle.wy_vc_exprs.specs.wy_vc_spec.Joins.{Path, Joined, Met, is_known, is_term, known_on_all, same_on_all, differ_from, differ, or_else, first_term, set_on_all, with_equation, equated, with_variable, join_vars, one_of, join, most_vars}
use Rattle.wy_vc_exprs.specs.wy_vc_spec.Making.{val_name, equal, all_of, any_of}
use Rattle.wy_vc_exprs.specs.wy_vc_spec.Owed.{assume}
use Rattle.wy_vc_exprs.specs.wy_vc_spec.Spots.{Spot, spot, is_set}
use Rattle.wy_vc_exprs.specs.wy_vc_spec.Values.{word_at}
use Rattle.wy_vc_exprs.specs.wy_vc_spec.Variables.{Vars, slot_at}
use Rattle.wy_vc_body.specs.Known.{Known, known, onto, renamed, unnamed, one_variable, known_from, equation, equations, path_term}

-- ---- equations leave what is known of variables

vars_same : (name : Term) (o : Option Term) (p : Path) → (with_equation name o p).vars ≡ p.vars
vars_same name None p = refl
vars_same name (Some t) p = refl

set_same : (name : Term) (o : Option Term) (p : Path) → (with_equation name o p).set ≡ p.set
set_same name None p = refl
set_same name (Some t) p = refl

known_same : (name : Term) (x : ℕ) (ps : List Path) (y : ℕ) → known_on_all (equated name x ps) y ≡ known_on_all ps y
known_same name x [] y = refl
known_same name x (p ∷ ps) y =
    ap (λ (v : Vars). is_known (slot_at v y) && known_on_all (equated name x ps) y) (vars_same name (slot_at p.vars x) p)
    ∙ ap (λ (b : Bool). is_known (slot_at p.vars y) && b) (known_same name x ps y)

same_same : (name : Term) (x : ℕ) (ps : List Path) (y : ℕ) (t : Term) → same_on_all (equated name x ps) y t ≡ same_on_all ps y t
same_same name x [] y t = refl
same_same name x (p ∷ ps) y t =
    ap (λ (v : Vars). is_term (slot_at v y) t && same_on_all (equated name x ps) y t) (vars_same name (slot_at p.vars x) p)
    ∙ ap (λ (b : Bool). is_term (slot_at p.vars y) t && b) (same_same name x ps y t)

from_same : (name : Term) (x : ℕ) (ps : List Path) (y : ℕ) (o : Option Term) → differ_from (equated name x ps) y o ≡ differ_from ps y o
from_same name x ps y None = refl
from_same name x ps y (Some t) =
    ap (λ (b : Bool). b && not (same_on_all (equated name x ps) y t)) (known_same name x ps y) ∙ ap (λ (b : Bool). known_on_all ps y && not b) (same_same name x ps y t)

differ_same : (name : Term) (x : ℕ) (ps : List Path) (y : ℕ) → differ (equated name x ps) y ≡ differ ps y
differ_same name x [] y = refl
differ_same name x (p ∷ ps) y =
    ap (λ (v : Vars). differ_from (equated name x ps) y (slot_at v y)) (vars_same name (slot_at p.vars x) p) ∙ from_same name x ps y (slot_at p.vars y)

first_same : (name : Term) (x : ℕ) (ps : List Path) (y : ℕ) → first_term (equated name x ps) y ≡ first_term ps y
first_same name x [] y = refl
first_same name x (p ∷ ps) y =
    ap (λ (v : Vars). or_else (slot_at v y) (first_term (equated name x ps) y)) (vars_same name (slot_at p.vars x) p)
    ∙ ap (λ (o : Option Term). or_else (slot_at p.vars y) o) (first_same name x ps y)

all_set_same : (name : Term) (x : ℕ) (ps : List Path) (y : ℕ) → set_on_all (equated name x ps) y ≡ set_on_all ps y
all_set_same name x [] y = refl
all_set_same name x (p ∷ ps) y =
    ap (λ (bs : List Bool). is_set bs y && set_on_all (equated name x ps) y) (set_same name (slot_at p.vars x) p)
    ∙ ap (λ (b : Bool). is_set p.set y && b) (all_set_same name x ps y)

one_same : (words : List (List ℕ)) (name : Term) (x : ℕ) (ps : List Path) (y n : ℕ) → one_variable words (equated name x ps) y n ≡ one_variable words ps y n
one_same words name x ps y n =
    let N = val_name (word_at words y) n in
    let set = all_set_same name x ps y in
    let first = first_same name x ps y in
    ap (λ (b : Bool). if b then renamed words (equated name x ps) y n else unnamed (equated name x ps) y n) (differ_same name x ps y)
    ∙ ap (λ (s : Bool). if differ ps y then known (suc n) ((y, N) ∷ []) (Some N ∷ []) (s ∷ []) else known n [] (first_term (equated name x ps) y ∷ []) (s ∷ [])) set
    ∙ ap (λ (o : Option Term). if differ ps y then renamed words ps y n else known n [] (o ∷ []) (set_on_all ps y ∷ [])) first

from_known_same : (words : List (List ℕ)) (name : Term) (x : ℕ) (ps : List Path) (y j n : ℕ) → known_from words (equated name x ps) y j n ≡ known_from words ps y j n
from_known_same words name x ps y zero n = refl
from_known_same words name x ps y (suc j) n =
    ap (λ (k : Known). onto k (known_from words (equated name x ps) (suc y) j k.count)) (one_same words name x ps y n)
    ∙ ap (λ (k : Known). onto (one_variable words ps y n) k) (from_known_same words name x ps (suc y) j (one_variable words ps y n).count)

-- ---- the paths with their equations

abbrev extended : List (ℕ × Term) → Path → Path
extended [] p = p
extended (e ∷ es) p = extended es (with_equation e.1 (slot_at p.vars e.0) p)

abbrev to_joined : List Path → Known → Joined
to_joined ps k = record { count = k.count; paths = map (extended k.names) ps; vars = k.vars; set = k.set }

none_extended : (ps : List Path) → ps ≡ map (extended []) ps
none_extended [] = refl
none_extended (p ∷ ps) = ap (λ (qs : List Path). p ∷ qs) (none_extended ps)

more_extended : (name : Term) (x : ℕ) (es : List (ℕ × Term)) (ps : List Path) → map (extended es) (equated name x ps) ≡ map (extended ((x, name) ∷ es)) ps
more_extended name x es [] = refl
more_extended name x es (p ∷ ps) = ap (λ (qs : List Path). extended es (with_equation name (slot_at p.vars x) p) ∷ qs) (more_extended name x es ps)

abbrev joined_with : ℕ → List Path → Vars → List Bool → Joined
joined_with m qs vs bs = record { count = m; paths = qs; vars = vs; set = bs }

join_known : (words : List (List ℕ)) (ps : List Path) (x j n : ℕ) → join_vars words ps x j n ≡ to_joined ps (known_from words ps x j n)
join_known words ps x zero n = ap (λ (qs : List Path). joined_with n qs [] []) (none_extended ps)
join_known words ps x (suc j) n =
    let N = val_name (word_at words x) n in
    let S = set_on_all ps x in
    let K = known_from words ps (suc x) j (suc n) in
    let first = with_variable (Some N) S (join_vars words (equated N x ps) (suc x) j (suc n)) in
    let second = with_variable (first_term ps x) S (join_vars words ps (suc x) j n) in
    elim (differ ps x) as (λ b. (if b then first else second) ≡ to_joined ps (onto (if b then renamed words ps x n else unnamed ps x n) (known_from words ps (suc x) j (if b then renamed words ps x n else unnamed ps x n).count))) [
      | true ↦ ap (λ (q : Joined). with_variable (Some N) S q) (join_known words (equated N x ps) (suc x) j (suc n))
          ∙ ap (λ (k : Known). with_variable (Some N) S (to_joined (equated N x ps) k)) (from_known_same words N x ps (suc x) j (suc n))
          ∙ ap (λ (qs : List Path). joined_with K.count qs (Some N ∷ K.vars) (S ∷ K.set)) (more_extended N x K.names ps)
      | false ↦ ap (λ (q : Joined). with_variable (first_term ps x) S q) (join_known words ps (suc x) j n)
    ]

-- what a path assumed, with its equations
since_one : (name : Term) (o : Option Term) (p : Path) (es : List (ℕ × Term)) → (with_equation name o p).since ++ equations es (with_equation name o p).vars ≡ p.since ++ (equation name o ++ equations es p.vars)
since_one name None p es = refl
since_one name (Some t) p es = append_assoc p.since (equal name t ∷ []) (equations es p.vars)

since_extended : (es : List (ℕ × Term)) (p : Path) → (extended es p).since ≡ p.since ++ equations es p.vars
since_extended [] p = sym (append-nil p.since)
since_extended (e ∷ es) p = since_extended es (with_equation e.1 (slot_at p.vars e.0) p) ∙ since_one e.1 (slot_at p.vars e.0) p es

formulas_extended : (es : List (ℕ × Term)) (ps : List Path) → map (λ (p : Path). all_of p.since) (map (extended es) ps) ≡ map (path_term es) ps
formulas_extended es [] = refl
formulas_extended es (p ∷ ps) =
    ap (λ (fs : List Term). all_of fs ∷ map (λ (q : Path). all_of q.since) (map (extended es) ps)) (since_extended es p) ∙ ap (λ (ts : List Term). path_term es p ∷ ts) (formulas_extended es ps)

-- ---- joins

abbrev pub met_by : List Term → List Path → Known → Met
met_by base ps k = record { count = k.count; ends = Some (spot (assume base (any_of (map (path_term k.names) ps))) k.vars k.set) }

abbrev met_with : ℕ → Spot → Met
met_with m p = record { count = m; ends = Some p }

abbrev met_of : List Term → Joined → Met
met_of b q = met_with q.count (spot (assume b (one_of q.paths)) q.vars q.set)

pub join_is : (words : List (List ℕ)) (base : List Term) (ps : List Path) (n : ℕ) → join words base ps n ≡ met_by base ps (known_from words ps 0 (most_vars ps) n)
join_is words base ps n =
    let K = known_from words ps 0 (most_vars ps) n in
    ap (λ (q : Joined). met_of base q) (join_known words ps 0 (most_vars ps) n)
    ∙ ap (λ (ts : List Term). met_with K.count (spot (assume base (any_of ts)) K.vars K.set)) (formulas_extended K.names ps)
