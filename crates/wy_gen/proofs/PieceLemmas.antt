-- Pieces whose registers and steps are read one behind the other.
use Rattle.std.proofs.Common.{◌≡◌, ◌∙◌, ℕ, suc, List, [], ◌∷◌, ◌++◌, length, map, Bool, refl, ap, sym, pos, append_assoc}
use Rattle.wy_core.specs.Types.{Ty}
use Rattle.wy_core.specs.CoreTree as tree
use Rattle.wy_core.specs.CoreSeen.{seen_fields}
use Rattle.wy_live.specs.Sets.{Variables}
use Rattle.wy_live.specs.Walks.{turned}
use Rattle.wy_core.specs.declared.expressions.Expr.{Expr}
use Rattle.wy_code.specs.declared.instructions.Comparison.TheVariants as comparison
use Rattle.wy_code.specs.declared.instructions.Kind.TheVariants as kind
use Rattle.wy_code.specs.declared.instructions.Scalar.TheVariants as scalar
use Rattle.wy_code.specs.declared.instructions.Instr.TheVariants as instr
use Rattle.wy_code.specs.declared.pieces.steps.Step.{Step}
use Rattle.wy_code.specs.declared.pieces.steps.Step.TheVariants.{Does}
use Rattle.wy_code.specs.pieces.Steps.{fork, turns, registers_from}
use Rattle.wy_code_spec.specs.declared.tables.context.Context.{Context}
use Rattle.wy_code_spec.specs.tables.Tables.{names_in, shape_number}
use Rattle.wy_code_spec.specs.compiled.TypeTests as tests
use Rattle.wy_code_spec.specs.compiled.Expressions as spec

-- ---- records

field_names : (fs : List (List ℕ × Expr)) → names_in (seen_fields fs) ≡ map (λ f. f.0) fs
field_names [] = refl
field_names (f ∷ fs) = ap (λ (l : List (List ℕ)). f.0 ∷ l) (field_names fs)

fields_counted : (fs : List (List ℕ × Expr)) → spec.field_count (seen_fields fs) ≡ length fs
fields_counted [] = refl
fields_counted (f ∷ fs) = ap suc (fields_counted fs)

pub record_same : (c : Context) (fs : List (List ℕ × Expr)) (d shape : ℕ) (parts : List ℕ) (old : List Step) → shape ≡ shape_number c.table (map (λ f. f.0) fs) → parts ≡ registers_from d (length fs)
    → Does (instr.Record d shape parts) ∷ old ≡ spec.record_of c (seen_fields fs) d ++ old
record_same c fs d shape parts old shape_is parts_is =
    let a : shape ≡ shape_number c.table (names_in (seen_fields fs)) = shape_is ∙ ap (shape_number c.table) (sym (field_names fs)) in
    let b : parts ≡ registers_from d (spec.field_count (seen_fields fs)) = parts_is ∙ ap (registers_from d) (sym (fields_counted fs)) in
    λ i. Does (instr.Record d (a i) (b i)) ∷ old

-- ---- turns, whose registers stand behind one another

pub item_turns_same : (v r f index part : ℕ) (rest old : List Step) → index ≡ suc f → part ≡ suc index
    → turns (Does (instr.Compare r comparison.Less index f) ∷ []) r (Does (instr.Get part v index) ∷ rest) ++ old ≡ tests.item_turns v r f rest ++ old
item_turns_same v r f index part rest old index_is part_is =
    let p : part ≡ suc (suc f) = part_is ∙ ap suc index_is in
    λ i. turns (Does (instr.Compare r comparison.Less (index_is i) f) ∷ []) r (Does (instr.Get (p i) v (index_is i)) ∷ rest) ++ old

pub number_turns_same : (x d to free : ℕ) (rest old : List Step) → to ≡ suc d → free ≡ suc to
    → turns (Does (instr.Compare free comparison.Less d to) ∷ []) free (Does (instr.Share x d) ∷ rest) ++ old ≡ spec.number_turns x d rest ++ old
number_turns_same x d to free rest old to_is free_is =
    let p : free ≡ suc (suc d) = free_is ∙ ap suc to_is in
    λ i. turns (Does (instr.Compare (p i) comparison.Less d (to_is i)) ∷ []) (p i) (Does (instr.Share x d) ∷ rest) ++ old

-- ---- arrays

pub array_same : (v r f index : ℕ) (items old : List Step) → index ≡ suc f
    → Does (instr.Kind r v kind.Array) ∷ (fork r (Does (instr.Len f v) ∷ Does (instr.Const index (scalar.Int (pos 0))) ∷ items) [] ++ old) ≡ tests.array_test v r f items ++ old
array_same v r f index items old index_is = λ i. Does (instr.Kind r v kind.Array) ∷ (fork r (Does (instr.Len f v) ∷ Does (instr.Const (index_is i) (scalar.Int (pos 0))) ∷ items) [] ++ old)

-- the test of an item, whose registers stand behind f
pub items_same : (c : Context) (t : Ty) (v r f part inner : ℕ) (old : List Step) → part ≡ suc (suc f) → inner ≡ suc part
    → tests.item_turns v r f (tests.test c t part r inner ++ tests.item_end r f) ++ (tests.yes r ++ old) ≡ tests.items_test v r f (tests.test c t (suc (suc f)) r (suc (suc (suc f)))) ++ old
items_same c t v r f part inner old part_is inner_is =
    let n : inner ≡ suc (suc (suc f)) = inner_is ∙ ap suc part_is in
    let same : tests.item_turns v r f (tests.test c t part r inner ++ tests.item_end r f) ++ (tests.yes r ++ old)
    ≡ tests.item_turns v r f (tests.test c t (suc (suc f)) r (suc (suc (suc f))) ++ tests.item_end r f) ++ (tests.yes r ++ old)
    = λ i. tests.item_turns v r f (tests.test c t (part_is i) r (n i) ++ tests.item_end r f) ++ (tests.yes r ++ old) in
    same ∙ sym (append_assoc (tests.item_turns v r f (tests.test c t (suc (suc f)) r (suc (suc (suc f))) ++ tests.item_end r f)) (tests.yes r) old)

-- ---- quantifiers

pub quantify_same : (c : Context) (all : Bool) (x : ℕ) (body : tree.Expr ℕ) (s live start : Variables) (d free : ℕ) (old : List Step) → live ≡ turned x body s → start ≡ turned x body s → free ≡ suc (suc d)
    → spec.number_turns x d (spec.code c body start free ++ spec.turn_end all d (spec.released live s)) ++ (spec.ends all d (spec.released live s) ++ old) ≡ spec.quantify_code c all x body s d ++ old
quantify_same c all x body s live start d free old live_is start_is free_is =
    let t = turned x body s in
    let same : spec.number_turns x d (spec.code c body start free ++ spec.turn_end all d (spec.released live s)) ++ (spec.ends all d (spec.released live s) ++ old)
    ≡ spec.number_turns x d (spec.code c body t (suc (suc d)) ++ spec.turn_end all d (spec.released t s)) ++ (spec.ends all d (spec.released t s) ++ old)
    = λ i. spec.number_turns x d (spec.code c body (start_is i) (free_is i) ++ spec.turn_end all d (spec.released (live_is i) s)) ++ (spec.ends all d (spec.released (live_is i) s) ++ old) in
    same ∙ sym (append_assoc (spec.number_turns x d (spec.code c body t (suc (suc d)) ++ spec.turn_end all d (spec.released t s))) (spec.ends all d (spec.released t s)) old)
