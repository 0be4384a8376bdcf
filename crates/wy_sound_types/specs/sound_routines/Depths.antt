-- Calls, by how deep they may nest.
use Rattle.std.specs.Prelude.{◌≡◌, ℕ, suc, List, [], ◌∷◌, length, Bool, true, Option, Some, None, ℤ}
use Rattle.wy_value.specs.Datum.{Datum, Whole, Array, Data}
use Rattle.wy_core.specs.CoreTree as tree
use Rattle.wy_core.specs.CoreTree.{Routine, Core, aliases_of, routines_of}
use Rattle.wy_term.specs.Term.{Term}
use Rattle.wy_term.specs.Meaning.{Names}
use Rattle.wy_sem.specs.Meter.{Meter, Done}
use Rattle.wy_sem.specs.Expressions as sem
use Rattle.wy_sem.specs.TypeTests.{tests}
use Rattle.wy_sem.specs.Evaluation.{Callee, Declared, Print, PrintInt, Undeclared, callee, entry_of, owed_member, run}
use Rattle.wy_sound_statements.specs.wy_vc_spec.Numbered.{Node}
use Rattle.wy_sound_statements.specs.wy_vc_spec.Values.{named_in}
use Rattle.wy_sound_statements.specs.wy_vc_spec.Calls.{call_walk}
use Rattle.wy_sound_statements.specs.wy_vc_spec.Walks.{Program}
use Rattle.wy_sound_statements.specs.wy_vc_spec.Programs.{contract_conditions}
use Rattle.wy_sound_statements.specs.wy_sound_walks.expressions.Names.{Known, AllMean}
use Rattle.wy_sound_statements.specs.wy_sound_walks.expressions.Truth.{AreTrueBy, Good}
use Rattle.wy_sound_statements.specs.wy_sound_walks.expressions.Types.{is_in}
use Rattle.wy_sound_statements.specs.wy_sound_walks.expressions.Laws.{NamesTold}
use Rattle.wy_sound_statements.specs.wy_sound_kinds.Bounded.{IsBounded}
use Rattle.wy_sound_statements.specs.calls.CallLaws.{Checks, ArgumentsFit, ArgumentsIn, AreValues, ClausesFit, KeepsContract, Returned}
use Rattle.wy_sound_statements.specs.calls.PrintLaws.{AllWhole}
use Rattle.wy_sound_types.specs.sound_routines.Entries.{ParamsIn, ArgumentsLast, ContractIsSafe}

-- what evaluations of a program rest on, where calls nest so deep
abbrev pub setting_at : (Node → ℕ) → Option ℕ → Core Node → ℕ → sem.Setting Node
setting_at place limit core depth = record {
  place = place;
  limit = limit;
  test = tests place limit (aliases_of core) (suc (length (aliases_of core)));
  call = run place limit core depth;
}

-- what a call gives: a value of the result's type, or none
abbrev pub ResultIn : (ℕ → Datum → Bool) → Option tree.Output → Option Datum → Type 0
ResultIn members None v = v ≡ None
ResultIn members (Some out) None = ⊥
ResultIn members (Some out) (Some d) = IsBounded d × (is_in members out.ty d ≡ true)

abbrev pub CallGives : (ℕ → Datum → Bool) → Callee Node → Option Datum → Type 0
CallGives members (Declared r) v = ResultIn members r.result v
CallGives members Print v = v ≡ None
CallGives members PrintInt v = v ≡ None
CallGives members Undeclared v = ⊥

-- calls with arguments that are taken: where what is owed is true they are no fault, and what they give their walk's term means; and it is of the result's type, whether that is true or not
pub record Handled (w : sem.Setting Node) (p : Program Node) (members : ℕ → Datum → Bool) (takes : ℕ → List Datum → Bool) : Type 0 where
  pub sound : (f from at n : ℕ) (ts hyps : List Term) (names : Names) (vs : List Datum) (m : Meter) → takes f vs ≡ true → names.is_member ≡ members → AreValues ts → AllMean n names ts vs → Known n names hyps
      → Good (AreTrueBy members (call_walk p.setting p.routines f from ts hyps n).owed) (w.call f at vs m) (Returned n names (call_walk p.setting p.routines f from ts hyps n))
  pub gives : (f at : ℕ) (vs : List Datum) (m k : Meter) (v : Option Datum) → takes f vs ≡ true → w.call f at vs m ≡ Done v k → CallGives members (callee p.routines f) v

-- what is asked of a call that is taken of something declared: as many arguments as parameters, which fit; clauses that fit, and what the contract owes is true; and a body that keeps the contract where the calls in it are handled
pub record Taken (place : Node → ℕ) (limit : Option ℕ) (core : Core Node) (p : Program Node) (members : ℕ → Datum → Bool) (takes : ℕ → List Datum → Bool) (r : Routine Node) (vs : List Datum) : Type 0 where
  pub count : length vs ≡ length r.params
  pub arguments : ArgumentsFit p.setting members r.params vs
  pub last : ArgumentsLast r.params vs
  pub params : ArgumentsIn members r.params vs → ParamsIn members r.params (entry_of r vs)
  pub fits : (depth : ℕ) → ClausesFit (setting_at place limit core depth) p.setting members r vs
  pub contract : AreTrueBy members (contract_conditions p r)
  pub keeps : (depth : ℕ) → Handled (setting_at place limit core depth) p members takes → (ArgumentsIn members r.params vs → ContractIsSafe (setting_at place limit core depth) members r vs)
      → KeepsContract (setting_at place limit core depth) p.setting members (owed_member place limit (aliases_of core)) r vs

-- each call that is taken is so; `print` takes a text of numbers, `print_int` a number
pub record AllTaken (place : Node → ℕ) (limit : Option ℕ) (core : Core Node) (p : Program Node) (members : ℕ → Datum → Bool) (takes : ℕ → List Datum → Bool) : Type 0 where
  pub routines : p.routines ≡ routines_of core
  pub told : NamesTold members (named_in p.setting)
  pub checks : Checks p.setting members (owed_member place limit (aliases_of core))
  pub declared : (f : ℕ) (vs : List Datum) (r : Routine Node) → takes f vs ≡ true → callee p.routines f ≡ Declared r → Taken place limit core p members takes r vs
  pub texts : (f : ℕ) (vs : List Datum) → takes f vs ≡ true → callee p.routines f ≡ Print → (ds : Data) × (vs ≡ Array ds ∷ []) × AllWhole ds
  pub numbers : (f : ℕ) (vs : List Datum) → takes f vs ≡ true → callee p.routines f ≡ PrintInt → (z : ℤ) × (vs ≡ Whole z ∷ [])
  pub others : (f : ℕ) (vs : List Datum) → takes f vs ≡ true → callee p.routines f ≡ Undeclared → ⊥

-- so calls are handled at each depth
abbrev pub CallsAreHandled : Type 0
CallsAreHandled =
    (place : Node → ℕ) (limit : Option ℕ) (core : Core Node) (p : Program Node) (members : ℕ → Datum → Bool) (takes : ℕ → List Datum → Bool) → AllTaken place limit core p members takes
    → (depth : ℕ) → Handled (setting_at place limit core depth) p members takes
