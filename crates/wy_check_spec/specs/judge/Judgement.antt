-- What the literals of a node say of a formula.
use Rattle.std.specs.Prelude.{List, true, false, if◌then◌else◌}
use Rattle.wy_lin.specs.wy_term.Term.{Term, Of, Parts, no_parts, part, denied, all_of, any_of}
use Rattle.wy_check_spec.specs.declared.judge.verdict.Verdict.{Verdict}
use Rattle.wy_check_spec.specs.declared.judge.verdict.Verdict.TheVariants.{Yes, No, Open}
use Rattle.wy_check_spec.specs.judge.Node.{Literal, has_literal}

-- ---- connectives of three values

abbrev pub turned : Verdict → Verdict
turned Yes = No
turned No = Yes
turned Open = Open

abbrev pub both : Verdict → Verdict → Verdict
both No w = No
both Yes w = w
both Open No = No
both Open Yes = Open
both Open Open = Open

abbrev pub either : Verdict → Verdict → Verdict
either Yes w = Yes
either No w = w
either Open Yes = Yes
either Open No = Open
either Open Open = Open

-- ---- formulas

-- an atom: yes where it stands among the literals, no where its denial does, else open
abbrev pub of_atom : List Literal → Term → Verdict
of_atom ls a =
    if has_literal ls (record { atom = a; holds = true }) then Yes
    else (if has_literal ls (record { atom = a; holds = false }) then No else Open)

abbrev mutual
  pub judged : List Literal → Term → Verdict
  judged ls (Of denied (part f no_parts)) = turned (judged ls f)
  judged ls (Of all_of ps) = judged_all ls ps
  judged ls (Of any_of ps) = judged_any ls ps
  judged ls t = of_atom ls t

  pub judged_all : List Literal → Parts → Verdict
  judged_all ls no_parts = Yes
  judged_all ls (part f fs) = both (judged ls f) (judged_all ls fs)

  pub judged_any : List Literal → Parts → Verdict
  judged_any ls no_parts = No
  judged_any ls (part f fs) = either (judged ls f) (judged_any ls fs)
