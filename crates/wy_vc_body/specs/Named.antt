-- A term that a variable is to stand for, as a walk.
use Rattle.std.specs.Prelude.{ℕ, suc, List, []}
use Rattle.wy_term.specs.Term.{Term}
use Rattle.wy_vc_exprs.specs.wy_vc_spec.Making.{val_name, equal}
use Rattle.wy_vc_exprs.specs.wy_vc_spec.Values.{word_at}
use Rattle.wy_vc_exprs.specs.wy_vc_spec.Owed.{assume}
use Rattle.wy_vc_exprs.specs.wy_vc_spec.Calls.{Walked}
use Rattle.wy_vc_exprs.specs.wy_vc_spec.Large.{Named}

abbrev pub named_walk : Named → Walked
named_walk n = record { count = n.count; hyps = n.hyps; term = n.term; owed = [] }

-- a new name equals the value
abbrev pub with_name : List (List ℕ) → ℕ → Term → List Term → ℕ → Named
with_name words x v hyps n = record { count = suc n; hyps = assume hyps (equal (val_name (word_at words x) n) v); term = val_name (word_at words x) n }
