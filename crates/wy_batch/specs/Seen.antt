-- What the code's verdicts stand for, and what comes with them.
use Rattle.std.specs.Prelude.{List, [], ◌∷◌, length, map}
use Rattle.wy_term.specs.Nodes.{tree_at}
use Rattle.wy_search.specs.wy_search_bounds.wy_check_nodes.Seen.{seen_literal, AreOver}
use Rattle.wy_search.specs.Seen.{seen_why}
use Rattle.wy_batch.specs.Known as plain
use Rattle.wy_batch.specs.Known.{Known}
use Rattle.wy_batch.specs.declared.verdict.End.{End}
use Rattle.wy_batch.specs.declared.verdict.End.TheVariants.{Supplied, Found, Open, Spent}
use Rattle.wy_batch.specs.declared.verdict.Verdict.{Verdict}

-- an open leaf's literals are those of its own terms
abbrev pub seen_end : End → plain.End
seen_end Supplied = plain.supplied
seen_end (Found leaves) = plain.found leaves
seen_end (Open o) = plain.stays_open o.leaf (seen_why o.why) (map (seen_literal (tree_at o.terms)) o.literals.items)
seen_end Spent = plain.spent

abbrev pub known : Verdict → Known
known v = record { bad_step = v.bad_step; end = seen_end v.end }

-- ---- what comes with an end

-- the numbers in it are those of its own terms
abbrev pub NamesTerms : End → Type 0
NamesTerms Supplied = Unit {0}
NamesTerms (Found leaves) = Unit {0}
NamesTerms (Open o) = AreOver (length o.terms) o.literals.items
NamesTerms Spent = Unit {0}

-- so in each of them
abbrev pub NameTerms : List Verdict → Type 0
NameTerms [] = Unit {0}
NameTerms (v ∷ vs) = NamesTerms v.end × NameTerms vs
