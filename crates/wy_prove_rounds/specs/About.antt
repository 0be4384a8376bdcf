-- What the fact on a term's kinds is about.
use Rattle.std.specs.Prelude.{◌≡◌, ◌<◌, ℕ, None}
use Rattle.wy_term.specs.Term.{DataKind, Term, one, bool, of_kind}
use Rattle.wy_prove_drafts.specs.wy_check_spec.judge.Node.{Node}
use Rattle.wy_prove_drafts.specs.wy_search_spec.Expansion.{kind_fact}
use Rattle.wy_prove_rounds.specs.declared.kinds.About.{About}
use Rattle.wy_prove_rounds.specs.declared.kinds.About.TheVariants as about

-- the term is a formula as a datum, or a test of this one's kind, or nothing is known of it in any node
abbrev pub IsAbout : (ℕ → Term) → Term → About → Type 0
IsAbout at t about.Formula = (f : Term) × (t ≡ one bool f)
IsAbout at t (about.Kind v) = (kind : DataKind) × (t ≡ one (of_kind kind) (at v))
IsAbout at t about.Nothing = (node : Node) → kind_fact node t ≡ None

abbrev pub IsAboutBelow : ℕ → About → Type 0
IsAboutBelow n about.Formula = Unit {0}
IsAboutBelow n (about.Kind v) = v < n
IsAboutBelow n about.Nothing = Unit {0}
