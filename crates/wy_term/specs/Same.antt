-- Whether two terms are equal.
use Rattle.std.specs.Prelude.{ℕ, List, [], ◌∷◌, Bool, true, false, ◌&&◌, ◌==◌, bytes_eq}
use Rattle.std.specs.Ordering.{int_eq}
use Rattle.std.specs.Bool.{beq}
use Rattle.wy_term.specs.Term.{DataKind, null_kind, bool_kind, int_kind, array_kind, record_kind, Symbol, Term, Of, Parts, no_parts, part}
use Rattle.wy_term.specs.Term as term

-- the two lists have the same names
abbrev pub same_names : List (List ℕ) → List (List ℕ) → Bool
same_names [] [] = true
same_names [] (m ∷ ms) = false
same_names (n ∷ ns) [] = false
same_names (n ∷ ns) (m ∷ ms) = bytes_eq n m && same_names ns ms

abbrev pub same_kind : DataKind → DataKind → Bool
same_kind null_kind null_kind = true
same_kind bool_kind bool_kind = true
same_kind int_kind int_kind = true
same_kind array_kind array_kind = true
same_kind (record_kind ns) (record_kind ms) = same_names ns ms
same_kind k l = false

abbrev pub same_symbol : Symbol → Symbol → Bool
same_symbol (term.number a) (term.number b) = int_eq a b
same_symbol (term.int_name x m) (term.int_name y n) = bytes_eq x y && (m == n)
same_symbol term.add term.add = true
same_symbol term.sub term.sub = true
same_symbol term.neg term.neg = true
same_symbol term.mul term.mul = true
same_symbol term.div term.div = true
same_symbol term.rem term.rem = true
same_symbol term.num term.num = true
same_symbol term.len term.len = true
same_symbol (term.val_name x m) (term.val_name y n) = bytes_eq x y && (m == n)
same_symbol term.null term.null = true
same_symbol (term.truth a) (term.truth b) = beq a b
same_symbol term.int term.int = true
same_symbol term.bool term.bool = true
same_symbol term.array term.array = true
same_symbol term.repeat term.repeat = true
same_symbol term.update term.update = true
same_symbol term.get term.get = true
same_symbol (term.fields ns) (term.fields ms) = same_names ns ms
same_symbol (term.field n) (term.field m) = bytes_eq n m
same_symbol (term.set_field n) (term.set_field m) = bytes_eq n m
same_symbol term.at_most term.at_most = true
same_symbol term.equal term.equal = true
same_symbol (term.of_kind k) (term.of_kind l) = same_kind k l
same_symbol (term.in_type m) (term.in_type n) = m == n
same_symbol (term.every x m) (term.every y n) = bytes_eq x y && (m == n)
same_symbol (term.exists x m) (term.exists y n) = bytes_eq x y && (m == n)
same_symbol term.denied term.denied = true
same_symbol term.all_of term.all_of = true
same_symbol term.any_of term.any_of = true
same_symbol a b = false

abbrev mutual
  -- the two terms are equal
  pub same_term : Term → Term → Bool
  same_term (Of a ps) (Of b qs) = same_symbol a b && same_parts ps qs

  pub same_parts : Parts → Parts → Bool
  same_parts no_parts no_parts = true
  same_parts no_parts (part t qs) = false
  same_parts (part s ps) no_parts = false
  same_parts (part s ps) (part t qs) = same_term s t && same_parts ps qs
