-- What is known at a point of a body and where paths come together: formulas, and Val terms of variables.
use Rattle.std.proofs.Common.{ℕ, zero, suc, List, [], ◌∷◌, ◌++◌, map, length, drop, Bool, Option, Some, None}
use Rattle.wy_lemmas.proofs.Choices.{pick}
use Rattle.wy_term_subst.specs.wy_term.Term.{Term}
use Rattle.wy_term_subst.specs.wy_term.Sorts.{val_sort, formula_sort}
use Rattle.wy_vc_spec.specs.Making.{all_of}
use Rattle.wy_vc_spec.specs.Values.{word_at}
use Rattle.wy_vc_spec.specs.Spots.{Spot}
use Rattle.wy_vc_spec.specs.Large.{Named, named, is_large}
use Rattle.wy_vc_spec.specs.Joins.{Path, path_of, or_else, first_term, with_equation, equated, Joined, with_variable, differ, set_on_all, join_vars, most_vars, join, meet}
use Rattle.wy_sound_terms.proofs.formed_lemmas.MakingLemmas.{IsOf, AllOf, none, more, all_before, val_name_sorted, equal_sorted, all_sorted, any_sorted}
use Rattle.wy_sound_terms.proofs.formed_lemmas.ValueLemmas.{IsDatum, no_datum, datum, AreData, no_data, next, slot_datum}
use Rattle.wy_sound_terms.proofs.formed_lemmas.WalkLemmas.{assumed}

-- ---- points of a body

pub record IsKnown (p : Spot) : Type 0 where
  pub hyps : AllOf formula_sort p.hyps
  pub vars : AreData p.vars

pub data AreKnown : List Spot → Type 0 where
  no_spots : AreKnown []
  also_spot : {p : Spot} {ps : List Spot} → IsKnown p → AreKnown ps → AreKnown (p ∷ ps)

pub data IsKnownIf : Option Spot → Type 0 where
  nowhere : IsKnownIf None
  somewhere : {p : Spot} → IsKnown p → IsKnownIf (Some p)

pub known_before : {ps qs : List Spot} → AreKnown ps → AreKnown qs → AreKnown (ps ++ qs)
known_before no_spots also = also
known_before (also_spot h all) also = also_spot h (known_before all also)

-- ---- large terms

pub record IsNamed (n : Named) : Type 0 where
  pub hyps : AllOf formula_sort n.hyps
  pub value : IsOf val_sort n.term

pub named_value : (words : List (List ℕ)) (x n : ℕ) {v : Term} {hyps : List Term} → IsOf val_sort v → AllOf formula_sort hyps → IsNamed (named words x v hyps n)
named_value words x n {v} h all =
    let name = val_name_sorted (word_at words x) n in
    pick IsNamed (is_large v) (record { hyps = assumed all (equal_sorted name h); value = name }) (record { hyps = all; value = h })

-- ---- paths

record IsPath (p : Path) : Type 0 where
  pub since : AllOf formula_sort p.since
  pub vars : AreData p.vars

data ArePaths : List Path → Type 0 where
  no_paths : ArePaths []
  also_path : {p : Path} {ps : List Path} → IsPath p → ArePaths ps → ArePaths (p ∷ ps)

all_behind : (n : ℕ) {fs : List Term} → AllOf formula_sort fs → AllOf formula_sort (drop n fs)
all_behind zero all = all
all_behind (suc n) none = none
all_behind (suc n) (more h all) = all_behind n all

spots_paths : (base : List Term) {ps : List Spot} → AreKnown ps → ArePaths (map (path_of base) ps)
spots_paths base no_spots = no_paths
spots_paths base (also_spot h all) = also_path (record { since = all_behind (length base) h.hyps; vars = h.vars }) (spots_paths base all)

or_else_datum : {a b : Option Term} → IsDatum a → IsDatum b → IsDatum (or_else a b)
or_else_datum no_datum other = other
or_else_datum (datum h) other = datum h

first_datum : {ps : List Path} → ArePaths ps → (x : ℕ) → IsDatum (first_term ps x)
first_datum no_paths x = no_datum
first_datum (also_path h all) x = or_else_datum (slot_datum h.vars x) (first_datum all x)

equation_path : {name : Term} {o : Option Term} {p : Path} → IsOf val_sort name → IsDatum o → IsPath p → IsPath (with_equation name o p)
equation_path name no_datum h = h
equation_path name (datum g) h = record { since = all_before h.since (more (equal_sorted name g) none); vars = h.vars }

equated_paths : {name : Term} {ps : List Path} → IsOf val_sort name → (x : ℕ) → ArePaths ps → ArePaths (equated name x ps)
equated_paths name x no_paths = no_paths
equated_paths name x (also_path h all) = also_path (equation_path name (slot_datum h.vars x) h) (equated_paths name x all)

record IsJoined (j : Joined) : Type 0 where
  pub paths : ArePaths j.paths
  pub vars : AreData j.vars

with_datum : {o : Option Term} {j : Joined} (b : Bool) → IsDatum o → IsJoined j → IsJoined (with_variable o b j)
with_datum b h g = record { paths = g.paths; vars = next h g.vars }

join_known : (words : List (List ℕ)) (x j n : ℕ) {ps : List Path} → ArePaths ps → IsJoined (join_vars words ps x j n)
join_known words x zero n all = record { paths = all; vars = no_data }
join_known words x (suc j) n {ps} all =
    let name = val_name_sorted (word_at words x) n in
    pick IsJoined (differ ps x) (with_datum (set_on_all ps x) (datum name) (join_known words (suc x) j (suc n) (equated_paths name x all))) (with_datum (set_on_all ps x) (first_datum all x) (join_known words (suc x) j n all))

each_path : {ps : List Path} → ArePaths ps → AllOf formula_sort (map (λ (p : Path). all_of p.since) ps)
each_path no_paths = none
each_path (also_path h all) = more (all_sorted h.since) (each_path all)

joined_known : (words : List (List ℕ)) (n : ℕ) {base : List Term} {ps : List Path} → AllOf formula_sort base → ArePaths ps → IsKnownIf (join words base ps n).ends
joined_known words n {base} {ps} all paths =
    let j = join_known words 0 (most_vars ps) n paths in somewhere (record { hyps = assumed all (any_sorted (each_path j.paths)); vars = j.vars })

pub met_known : (words : List (List ℕ)) (n : ℕ) {base : List Term} {ps : List Spot} → AllOf formula_sort base → AreKnown ps → IsKnownIf (meet words base ps n).ends
met_known words n all no_spots = nowhere
met_known words n all (also_spot h no_spots) = somewhere h
met_known words n {base} all (also_spot h (also_spot g more')) = joined_known words n all (spots_paths base (also_spot h (also_spot g more')))
