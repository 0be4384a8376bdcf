-- What `print` and `print_int` owe, where their arguments are of their parameters' types.
use Rattle.std.specs.Prelude.{◌≡◌, ℕ, List, [], ◌∷◌, Bool, Option, Some, ℤ}
use Rattle.wy_value.specs.Datum.{Datum, Whole, Array, Data, no_items, item}
use Rattle.wy_term.specs.Term.{Term}
use Rattle.wy_term.specs.Meaning.{Names}
use Rattle.wy_sound_kinds.specs.wy_sem.Meter.{Meter}
use Rattle.wy_sound_kinds.specs.wy_sem.Evaluation.{print_call, print_int_call}
use Rattle.wy_sound_kinds.specs.wy_vc_spec.Making.{null}
use Rattle.wy_sound_kinds.specs.wy_vc_spec.Clauses.{passed}
use Rattle.wy_sound_kinds.specs.wy_vc_spec.Calls.{walked, print_walk}
use Rattle.wy_sound_kinds.specs.wy_sound_terms.operations.Kinds.{IsWhole}
use Rattle.wy_sound_kinds.specs.wy_sound_walks.expressions.Names.{Known, Means}
use Rattle.wy_sound_kinds.specs.wy_sound_walks.expressions.Truth.{AreTrueBy, Good}
use Rattle.wy_sound_kinds.specs.wy_sound_walks.expressions.Laws.{IsValTerm}
use Rattle.wy_sound_statements.specs.calls.CallLaws.{Returned}

-- each item is a number
abbrev pub AllWhole : Data → Type 0
AllWhole no_items = Unit {0}
AllWhole (item d ds) = IsWhole d × AllWhole ds

-- a text of numbers is printed without a fault where what is owed is true, that each is a character of ASCII, and then this is known; and a number always is
pub record PrintsAreSound : Type 0 where
  pub text : (members : ℕ → Datum → Bool) (limit : Option ℕ) (from at n : ℕ) (t : Term) (hyps : List Term) (names : Names) (ds : Data) (m : Meter)
      → AllWhole ds → names.is_member ≡ members → IsValTerm (Some t) → Means n names t (Array ds) → Known n names hyps
      → Good (AreTrueBy members (print_walk from (t ∷ []) hyps n).owed) (print_call limit at (Array ds ∷ []) m) (Returned n names (print_walk from (t ∷ []) hyps n))
  pub number : (at n : ℕ) (hyps : List Term) (names : Names) (z : ℤ) (m : Meter) → Known n names hyps
      → Good (Unit {0}) (print_int_call at (Whole z ∷ []) m) (Returned n names (walked (passed n hyps []) null))
