-- How terms and formulas are written.
use Rattle.std.specs.Prelude.{ℕ, List, [], ◌∷◌, ◌++◌, codes, Bool, true, false, slice_index_or}
use Rattle.std.specs.Fmt.{decimal, signed_decimal}
use Rattle.wy_term.specs.Term.{DataKind, null_kind, bool_kind, int_kind, array_kind, record_kind, Symbol, Term, Of, Parts, no_parts, part}
use Rattle.wy_term.specs.Term as term

-- ---- lists of texts

-- each text with this one before it
abbrev pub behind : List ℕ → List (List ℕ) → List ℕ
behind sep [] = []
behind sep (x ∷ xs) = sep ++ (x ++ behind sep xs)

-- the texts with this one between neighbours
abbrev pub separated : List ℕ → List (List ℕ) → List ℕ
separated sep [] = []
separated sep (x ∷ xs) = x ++ behind sep xs

-- names and texts side by side, as long as both last
abbrev pub labelled : List (List ℕ) → List (List ℕ) → List (List ℕ)
labelled [] xs = []
labelled (n ∷ ns) [] = []
labelled (n ∷ ns) (x ∷ xs) = (n ++ (codes ": " ++ x)) ∷ labelled ns xs

-- ---- names and kinds

-- a name of a number, as `k#2`
abbrev pub number_name : List ℕ → ℕ → List ℕ
number_name word n = word ++ (codes "#" ++ decimal n)

-- a name of a datum, as `x.2`
abbrev pub datum_name : List ℕ → ℕ → List ℕ
datum_name word n = word ++ (codes "." ++ decimal n)

-- the word for a kind, or its field list
abbrev pub kind_text : DataKind → List ℕ
kind_text null_kind = codes "null"
kind_text bool_kind = codes "bool"
kind_text int_kind = codes "int"
kind_text array_kind = codes "array"
kind_text (record_kind names) = codes "{" ++ (separated (codes ", ") names ++ codes "}")

-- ---- terms by the texts of their parts

-- the text of the part with this number, from 0
abbrev pub text_at : List (List ℕ) → ℕ → List ℕ
text_at parts k = slice_index_or parts k []

-- a word and parts in brackets, as `add(s, t)`
abbrev pub applied : List ℕ → List (List ℕ) → List ℕ
applied word parts = word ++ (codes "(" ++ (separated (codes ", ") parts ++ codes ")"))

-- two parts with a sign between them
abbrev pub compared : List ℕ → List (List ℕ) → List ℕ
compared sign parts = text_at parts 0 ++ (sign ++ text_at parts 1)

-- a quantifier, as `all k#2 in s..t | (F)`
abbrev pub bound : List ℕ → List ℕ → ℕ → List (List ℕ) → List ℕ
bound quantifier word n parts =
    quantifier ++ (number_name word n ++ (codes " in " ++ (text_at parts 0 ++ (codes ".." ++ (text_at parts 1 ++ (codes " | (" ++ (text_at parts 2 ++ codes ")")))))))

-- `true` or `false` where there are no members, else the members in brackets, as `and(F; G)`
abbrev pub connected : List ℕ → List ℕ → List (List ℕ) → List ℕ
connected none open_text [] = none
connected none open_text (x ∷ xs) = open_text ++ (separated (codes "; ") (x ∷ xs) ++ codes ")")

abbrev pub truth_text : Bool → List ℕ
truth_text true = codes "true"
truth_text false = codes "false"

-- how a term with this symbol is written, by how its parts are written
abbrev pub written : Symbol → List (List ℕ) → List ℕ
written (term.number z) parts = signed_decimal z
written (term.int_name word n) parts = number_name word n
written term.add parts = applied (codes "add") parts
written term.sub parts = applied (codes "sub") parts
written term.neg parts = applied (codes "neg") parts
written term.mul parts = applied (codes "mul") parts
written term.div parts = applied (codes "div") parts
written term.rem parts = applied (codes "mod") parts
written term.num parts = applied (codes "num") parts
written term.len parts = applied (codes "len") parts
written (term.val_name word n) parts = datum_name word n
written term.null parts = codes "null"
written (term.truth b) parts = truth_text b
written term.int parts = applied (codes "int") parts
written term.bool parts = applied (codes "bool") parts
written term.array parts = codes "arr[" ++ (separated (codes ", ") parts ++ codes "]")
written term.repeat parts = applied (codes "rep") parts
written term.update parts = applied (codes "upd") parts
written term.get parts = applied (codes "get") parts
written (term.fields names) parts = codes "rec{" ++ (separated (codes ", ") (labelled names parts) ++ codes "}")
written (term.field name) parts = applied (codes "fld") (text_at parts 0 ∷ name ∷ [])
written (term.set_field name) parts = applied (codes "setf") (text_at parts 0 ∷ name ∷ text_at parts 1 ∷ [])
written term.at_most parts = compared (codes " <= ") parts
written term.equal parts = compared (codes " = ") parts
written (term.of_kind kind) parts = applied (codes "kind") (text_at parts 0 ∷ kind_text kind ∷ [])
written (term.in_type n) parts = applied (codes "in") (text_at parts 0 ∷ decimal n ∷ [])
written (term.every word n) parts = bound (codes "all ") word n parts
written (term.exists word n) parts = bound (codes "some ") word n parts
written term.denied parts = codes "not " ++ text_at parts 0
written term.all_of parts = connected (codes "true") (codes "and(") parts
written term.any_of parts = connected (codes "false") (codes "or(") parts

abbrev mutual
  -- how a term or formula is written
  pub text_of : Term → List ℕ
  text_of (Of symbol parts) = written symbol (texts_of parts)

  pub texts_of : Parts → List (List ℕ)
  texts_of no_parts = []
  texts_of (part t rest) = text_of t ∷ texts_of rest
