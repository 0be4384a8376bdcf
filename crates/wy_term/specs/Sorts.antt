-- Of which sort a term is, and when two senses agree as far as a sort asks.
use Rattle.std.specs.Prelude.{◌≡◌, None}
use Rattle.wy_term.specs.Term.{Symbol, Term, Of, part, no_parts}
use Rattle.wy_term.specs.Term as term
use Rattle.wy_term.specs.Meaning.{Names, Sense, sense}
use Rattle.wy_term.specs.Rewriting.{as_number}
use Rattle.wy_term.specs.Folding.{span_of, folded}

pub data Sort : Type 0 where
  int_sort : Sort
  val_sort : Sort
  formula_sort : Sort

-- the sort of a term with this symbol
abbrev pub sort_of : Symbol → Sort
sort_of (term.number z) = int_sort
sort_of (term.int_name word n) = int_sort
sort_of term.add = int_sort
sort_of term.sub = int_sort
sort_of term.neg = int_sort
sort_of term.mul = int_sort
sort_of term.div = int_sort
sort_of term.rem = int_sort
sort_of term.num = int_sort
sort_of term.len = int_sort
sort_of (term.val_name word n) = val_sort
sort_of term.null = val_sort
sort_of (term.truth b) = val_sort
sort_of term.int = val_sort
sort_of term.bool = val_sort
sort_of term.array = val_sort
sort_of term.repeat = val_sort
sort_of term.update = val_sort
sort_of term.get = val_sort
sort_of (term.fields names) = val_sort
sort_of (term.field name) = val_sort
sort_of (term.set_field name) = val_sort
sort_of term.at_most = formula_sort
sort_of term.equal = formula_sort
sort_of (term.of_kind kind) = formula_sort
sort_of (term.in_type n) = formula_sort
sort_of (term.every word n) = formula_sort
sort_of (term.exists word n) = formula_sort
sort_of term.denied = formula_sort
sort_of term.all_of = formula_sort
sort_of term.any_of = formula_sort

-- the sort of a term
abbrev pub sort_in : Term → Sort
sort_in (Of symbol parts) = sort_of symbol

-- the senses are one number, one datum or one truth value
abbrev pub Agree : Sort → Sense → Sense → Type 0
Agree int_sort a b = a.number ≡ b.number
Agree val_sort a b = a.datum ≡ b.datum
Agree formula_sort a b = a.truth ≡ b.truth

-- the term is no quantifier over a short range
abbrev pub StaysWhole : Term → Type 0
StaysWhole (Of (term.every word n) (part s (part t (part f no_parts)))) = span_of (as_number s) (as_number t) ≡ None
StaysWhole (Of (term.exists word n) (part s (part t (part f no_parts)))) = span_of (as_number s) (as_number t) ≡ None
StaysWhole t = Unit {0}

-- folding a term, but a quantifier over a short range, changes nothing of what it means, whatever names stand for
abbrev pub FoldingKeepsMeaning : Type 0
FoldingKeepsMeaning = (t : Term) (names : Names) → StaysWhole t → Agree (sort_in t) (sense names (folded t)) (sense names t)
