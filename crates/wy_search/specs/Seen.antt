-- What the code's verdicts stand for.
use Rattle.std.specs.Prelude.{map, length}
use Rattle.wy_term.specs.Nodes.{tree_at}
use Rattle.wy_check_nodes.specs.Seen.{seen_literal, AreOver}
use Rattle.wy_search_facts.specs.wy_search_spec.Tree.{Why, still, is_crowded, is_wide, Verdict, found, open_leaf, spent}
use Rattle.wy_search.specs.declared.verdict.Why.{Why as CodeWhy}
use Rattle.wy_search.specs.declared.verdict.Why.TheVariants as why
use Rattle.wy_search.specs.declared.verdict.Verdict.{Verdict as CodeVerdict}
use Rattle.wy_search.specs.declared.verdict.Verdict.TheVariants as verdict

abbrev pub seen_why : CodeWhy → Why
seen_why why.Still = still
seen_why why.Crowded = is_crowded
seen_why why.Wide = is_wide

-- an open leaf's literals are those of its own terms
abbrev pub seen_verdict : CodeVerdict → Verdict
seen_verdict (verdict.Found n) = found n
seen_verdict (verdict.Open o) = open_leaf o.leaf (seen_why o.why) (map (seen_literal (tree_at o.terms)) o.literals.items)
seen_verdict verdict.Spent = spent

-- the literals of an open leaf name terms of its own
abbrev pub NamesItsTerms : CodeVerdict → Type 0
NamesItsTerms (verdict.Found n) = Unit {0}
NamesItsTerms (verdict.Open o) = AreOver (length o.terms) o.literals.items
NamesItsTerms verdict.Spent = Unit {0}
