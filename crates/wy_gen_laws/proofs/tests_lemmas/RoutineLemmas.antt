-- Where the routines of declared types stand in the code of a program.
use Rattle.std.proofs.Common.{◌≡◌, ◌<◌, ℕ, zero, suc, ◌+◌, List, [], ◌∷◌, ◌++◌, length, Some, refl, ◌∙◌, ap, arith}
use Rattle.std.specs.Prelude.{slice_get}
use Rattle.wy_core.specs.CoreTree as tree
use Rattle.wy_core.specs.CoreTree.{Core, aliases_of, routines_of}
use Rattle.wy_code.specs.declared.routines.Routine.{Routine}
use Rattle.wy_code_spec.specs.declared.tables.context.Context.{Context}
use Rattle.wy_code_spec.specs.tables.Tables.{results_of, context_of}
use Rattle.wy_code_spec.specs.compiled.Programs.{type_routine, body_routines, type_routines}
use Rattle.wy_code_spec.specs.compiled.Ranges.{IsFramed}
use Rattle.wy_code_spec.proofs.compiled_lemmas.RoutineLemmas.{all_framed}
use Rattle.wy_vc_spec.specs.wy_sem.TypeTests.{alias_at}
use Rattle.wy_gen_laws.proofs.PlaceLemmas.{all_at}
use Rattle.wy_gen_laws.specs.tests.Tested.{CodeHasTypeRoutines}

type_at_place : (c : Context) (more : List (tree.Alias ℕ)) (n : ℕ) → n < length more → slice_get (type_routines c more) n ≡ Some (type_routine c (alias_at more n))
type_at_place c [] n less = absurd (omega (arith, less))
type_at_place c (a ∷ more) zero less = refl
type_at_place c (a ∷ more) (suc n) less = type_at_place c more n (omega (arith, less))

get_past : (xs ys : List Routine) (n : ℕ) → slice_get (xs ++ ys) (length xs + n) ≡ slice_get ys n
get_past [] ys n = ap (λ (k : ℕ). slice_get ys k) (let e : 0 + n ≡ n = omega arith in e)
get_past (x ∷ xs) ys n = ap (λ (k : ℕ). slice_get (x ∷ (xs ++ ys)) k) (let e : length (x ∷ xs) + n ≡ suc (length xs + n) = omega arith in e) ∙ get_past xs ys n

as_many : (c : Context) (rs : List (tree.Routine ℕ)) → length (results_of rs) ≡ length (body_routines c rs)
as_many c [] = refl
as_many c (r ∷ rs) = let h = as_many c rs in omega (arith, h)

pub has_type_routines : CodeHasTypeRoutines
has_type_routines core n less =
    let c = context_of core in
    let bodies = body_routines c (routines_of core) in
    let types = type_routines c (aliases_of core) in
    let many = as_many c (routines_of core) in
    let stands : slice_get (bodies ++ types) (length c.results + n) ≡ Some (type_routine c (alias_at (aliases_of core) n)) =
    ap (λ (k : ℕ). slice_get (bodies ++ types) (k + n)) many ∙ get_past bodies types n ∙ type_at_place c (aliases_of core) n less in
    record { is = stands; room = (all_at IsFramed (bodies ++ types) (length c.results + n) (type_routine c (alias_at (aliases_of core) n)) (all_framed core) stands).registers }
