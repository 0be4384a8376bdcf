-- A start of a program whose code a machine takes can run.
use Rattle.std.proofs.Common.{◌≡◌, ℕ, zero, suc, List, [], ◌∷◌, ◌++◌, Option, Some, None, refl, sym, ap, subst, arith, rules}
use Rattle.std.specs.Prelude.{slice_get}
use Rattle.std.specs.List.{All}
use Rattle.std.proofs.lemmas.Int.{ints}
use Rattle.std.proofs.lemmas.Option.{get_or_from_slice_get, slice_get_within}
use Rattle.wy_code.specs.declared.instructions.Scalar.{Scalar}
use Rattle.wy_code.specs.declared.instructions.Scalar.TheVariants as scalar
use Rattle.wy_code.specs.declared.instructions.Instr.TheVariants.{Const}
use Rattle.wy_code.specs.declared.routines.Routine as compiled
use Rattle.wy_code.specs.declared.routines.Code.{Code}
use Rattle.wy_gen_laws.specs.wy_code_spec.ints.Loadable.{IsFine, IsLoadable, PutsInt, PutsInts}
use Rattle.wy_gen_laws.specs.wy_code_spec.compiled.Programs.{body_routine, body_routines, code_of, type_routines}
use Rattle.wy_core.specs.CoreTree.{Core, Routine, aliases_of, routines_of}
use Rattle.wy_lemmas.proofs.Options.{no-some, some_is as some-is}
use Rattle.wy_mach.specs.States.{HasInts}
use Rattle.wy_mach.specs.Showing.{IsNoInt}
use Rattle.wy_mach_run.specs.Running.{CanRun, Goes}
use Rattle.wy_mach_run.specs.Starting.{Starts}
use Rattle.wy_mach_run.specs.declared.parts.Start.{Start}
use Rattle.wy_mach_run.proofs.MeetingLemmas.{met_count}
use Rattle.wy_gen_laws.specs.wy_code_spec.step.Step.{instr_at}
use Rattle.wy_gen_laws.specs.wy_code_spec.declared.tables.context.Context.{Context}
use Rattle.wy_gen_laws.specs.wy_code_spec.tables.Tables.{context_of}
use Rattle.wy_value.specs.Shapes.{IsShapes}

-- what holds of all holds of the one with this number
all_at : {X : Type 0} (P : X → Type 0) (xs : List X) (k : ℕ) (x : X) → All P xs → slice_get xs k ≡ Some x → P x
all_at P xs k x all is = subst P (get_or_from_slice_get xs k x x is) (all k x (slice_get_within xs k x is))

-- ---- numbers

fine_int : (c : Scalar) → IsFine c → IsNoInt c → ⊥
fine_int scalar.Null fine other = other
fine_int (scalar.Bool b) fine other = other
fine_int (scalar.Int z) fine other = let least = fine.least in let greatest = fine.greatest in absurd (grind (arith, ints, rules, least, greatest, other))

has_ints : (code : Code) → All PutsInts code.routines → HasInts code
has_ints code all f at d c is other = by (slice_get code.routines f) refl is
  where
    by : (o : Option compiled.Routine) → slice_get code.routines f ≡ o → instr_at o at ≡ Some (Const d c) → ⊥
    by None e g = no-some (Const d c) None refl g
    by (Some r) e g = fine_int c (all_at PutsInt r.body at (Const d c) (all_at PutsInts code.routines f r all e) g) other

-- ---- the entry

body_at : (c : Context) (rs : List (Routine ℕ)) (more : List compiled.Routine) (f : ℕ) (r : Routine ℕ) → slice_get rs f ≡ Some r → slice_get (body_routines c rs ++ more) f ≡ Some (body_routine c r)
body_at c [] more f r e = absurd (no-some r None refl e)
body_at c (s ∷ rs) more zero r e = ap (λ x. Some (body_routine c x)) (some-is s r e)
body_at c (s ∷ rs) more (suc f) r e = body_at c rs more f r e

pub starts_can : (core : Core ℕ) (name arguments : List ℕ) (s : Start) → IsLoadable (code_of core) → Starts core name arguments s → Goes s → CanRun s
starts_can core name arguments s load st goes =
    let c = context_of core in
    let body = body_routine c st.routine in
    let there : slice_get (code_of core).routines s.entry ≡ Some body = body_at c (routines_of core) (type_routines c (aliases_of core)) s.entry st.routine st.entry.there in
    record {
      table = subst (λ (code : Code). IsShapes code.shapes) (sym st.code) load.table;
      ints = subst HasInts (sym st.code) (has_ints (code_of core) load.ints);
      entry = (body, subst (λ (code : Code). slice_get code.routines s.entry ≡ Some body) (sym st.code) there, met_count core name s.entry st.routine st.entry s.args st.met.met);
      args = st.values;
      goes = goes;
    }
