-- The laws of expressions that call nothing, and of the formulas of types.
use Rattle.std.specs.Prelude.{◌≡◌, ℕ, List, [], ◌∷◌, Bool, true, Option, Some, None}
use Rattle.wy_value.specs.Datum.{Datum}
use Rattle.wy_core.specs.Types.{Ty}
use Rattle.wy_core.specs.CoreTree.{Expr}
use Rattle.wy_term.specs.Term.{Term}
use Rattle.wy_term.specs.Sorts.{val_sort}
use Rattle.wy_term.specs.Meaning.{Names, sense}
use Rattle.wy_term_subst.specs.kept_sorts.SortKept.{HasSort}
use Rattle.wy_sound_terms.specs.wy_sem.Meter.{Meter}
use Rattle.wy_sound_terms.specs.wy_sem.Expressions as sem
use Rattle.wy_sound_terms.specs.wy_vc_spec.Numbered.{Node}
use Rattle.wy_sound_terms.specs.wy_vc_spec.Variables.{Vars}
use Rattle.wy_sound_terms.specs.wy_vc_spec.Values.{Naming, Setting, named_in}
use Rattle.wy_sound_terms.specs.wy_vc_spec.Clauses.{in_type}
use Rattle.wy_sound_terms.specs.wy_vc_spec.Walks.{Program, walk_expr}
use Rattle.wy_sound_walks.specs.expressions.Names.{Means, Known, Stand}
use Rattle.wy_sound_walks.specs.expressions.Truth.{AreTrueBy, Good}
use Rattle.wy_sound_walks.specs.expressions.Types.{is_in}
use Rattle.wy_sound_walks.specs.expressions.Written.{IsWritten}
use Rattle.wy_sound_walks.specs.expressions.Suits.{Kinds, Suits}
use Rattle.wy_sound_walks.specs.expressions.Sound.{Ok}

-- what is said of a named type is true exactly of these data, of a term that means one
abbrev pub NamesTold : (ℕ → Datum → Bool) → Naming → Type 0
NamesTold members named = (number n : ℕ) (v : Term) (names : Names) (d : Datum) → names.is_member ≡ members → HasSort v val_sort → Means n names v d → (sense names (named number v n).term).truth ≡ members number d

-- the formula that a datum is in a type is true exactly where it is
abbrev pub TypesAreTold : Type 0
TypesAreTold = (s : Setting Node) (members : ℕ → Datum → Bool) → NamesTold members (named_in s)
    → (t : Ty) (n : ℕ) (v : Term) (names : Names) (d : Datum) → IsWritten t → names.is_member ≡ members → HasSort v val_sort → Means n names v d → (sense names (in_type s t v n).term).truth ≡ is_in members t d

-- each variable that has a term has one that means a datum
abbrev pub IsValTerm : Option Term → Type 0
IsValTerm None = Unit {0}
IsValTerm (Some t) = HasSort t val_sort

abbrev pub AreValTerms : Vars → Type 0
AreValTerms [] = Unit {0}
AreValTerms (v ∷ vs) = IsValTerm v × AreValTerms vs

-- nothing is called
abbrev pub takes_nothing : ℕ → List Datum → Type 0
takes_nothing f vs = ⊥

-- what evaluations rest on: numbers are told by the conditions' setting, and types by what their names stand for
abbrev pub kinds_of : {N : Type 0} → sem.Setting N → Bool → Setting N → (ℕ → Datum → Bool) → Kinds N
kinds_of w paid s members = record { setting = w; paid = paid; is_number = s.is_number; says = is_in members; takes = takes_nothing }

-- an expression that calls nothing: where what its walk owes is true, its evaluation is no fault; and an answer is what the walk's term means, at names at which its hypotheses hold
abbrev pub ExpressionsAreSound : Type 0
ExpressionsAreSound =
    (w : sem.Setting Node) (paid : Bool) (p : Program Node) (members : ℕ → Datum → Bool) → NamesTold members (named_in p.setting)
    → (words : List (List ℕ)) (e : Expr Node) (vars : Vars) (hyps : List Term) (n : ℕ) (names : Names) (seen : ℕ → Bool) (s : sem.Store) (m : Meter)
    → Suits (kinds_of w paid p.setting members) true seen e s → names.is_member ≡ members → AreValTerms vars → Stand n names vars seen s → Known n names hyps
    → Good (AreTrueBy members (walk_expr p words e vars hyps n).owed) (sem.eval w paid e s m)
    (Ok true n names (walk_expr p words e vars hyps n).count (walk_expr p words e vars hyps n).hyps (walk_expr p words e vars hyps n).term)
