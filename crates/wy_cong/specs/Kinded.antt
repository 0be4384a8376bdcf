-- What terms with kinds stand for, where `at` gives the term of a number.
use Rattle.std.specs.Prelude.{ℕ, ◌<◌, List, map, All}
use Rattle.wy_term.specs.Term.{Term}
use Rattle.wy_term.specs.Nodes.{plain_kind}
use Rattle.wy_search_spec.specs.wy_check_spec.valid.Kinds as valid
use Rattle.wy_cong.specs.declared.kinds.Kinded.{Kinded}

abbrev pub seen_kinded : (ℕ → Term) → Kinded → valid.Kinded
seen_kinded at k = (at k.term, plain_kind k.kind)

abbrev pub kinded : (ℕ → Term) → List Kinded → List valid.Kinded
kinded at ks = map (seen_kinded at) ks

-- the terms are of the first n
abbrev pub AreKinded : ℕ → List Kinded → Type 0
AreKinded n ks = All (λ k. k.term < n) ks
