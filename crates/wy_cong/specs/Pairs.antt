-- What two terms in one class are, and whether kinds clash.
use Rattle.std.specs.Prelude.{ℕ, List, Bool, ◌&&◌, ◌||◌, ◌++◌, true, false}
use Rattle.wy_term.specs.Term.{Term}
use Rattle.wy_term.specs.Rewriting.{as_constant}
use Rattle.wy_search_spec.specs.wy_check_spec.judge.Node.{Literal}
use Rattle.wy_search_spec.specs.wy_check_spec.valid.Kinds.{Kinded, are_apart, in_two_kinds, in_one_kind}
use Rattle.wy_search_spec.specs.Classes.{in_one_class, kinds_by, own_kinds, any_kinds}

-- the two are different constants in one class
abbrev pub apart_in_class : List Term → List ℕ → Term → Term → Bool
apart_in_class ts labels s t = are_apart (as_constant s) (as_constant t) && in_one_class ts labels s t

-- the two are in one class, and the test holds of their kinds
abbrev pub meets : (Kinded → Kinded → Bool) → List Term → List ℕ → Kinded → Kinded → Bool
meets test ts labels p q = in_one_class ts labels p.0 q.0 && test p (p.0, q.1)

-- a class has two kinds, or a kind and its denial
abbrev pub kinds_clash : List Term → List ℕ → List Literal → Bool
kinds_clash ts labels ls =
    any_kinds in_two_kinds ts labels (kinds_by true ls ++ own_kinds ts) (kinds_by true ls ++ own_kinds ts)
    || any_kinds in_one_kind ts labels (kinds_by true ls ++ own_kinds ts) (kinds_by false ls)
