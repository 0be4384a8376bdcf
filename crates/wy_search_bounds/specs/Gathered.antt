-- What has been gathered of replaced forms.
use Rattle.std.specs.Prelude.{◌≡◌, ℕ, List, map, take, ◌+◌}
use Rattle.wy_term.specs.Term.{Term}
use Rattle.wy_cong.specs.wy_check_spec.judge.Node.{Literal}
use Rattle.wy_lin.specs.Seen.{linear_form}
use Rattle.wy_cong.specs.wy_search_spec.Bounds.{Replaced, is_refuting, is_leaving, any_so, forms_in, replaced_forms}
use Rattle.wy_search_bounds.specs.declared.gathering.Gathered.{Gathered}

-- whether one of them refutes, whether a number leaves 128 bits in one, and the forms among them
pub record Gathers (g : Gathered) (rs : List Replaced) : Type 0 where
  pub refutes : g.refutes ≡ any_so is_refuting rs
  pub leaves : g.leaves ≡ any_so is_leaving rs
  pub forms : map linear_form g.forms.items ≡ forms_in rs

-- where those of the literals before a place were gathered, those up to it are
abbrev pub TakesLiteral : List Term → List ℕ → List Literal → ℕ → List Replaced → Gathered → Type 0
TakesLiteral ts labels ls i rs g = rs ≡ replaced_forms ts labels (take i ls) → Gathers g (replaced_forms ts labels (take (i + 1) ls))
