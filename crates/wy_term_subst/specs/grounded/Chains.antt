-- An example of grounded types: a recursive type. Its data are null and the records that lead on to a datum of the type.
use Rattle.std.specs.Prelude.{ℕ, List, [], ◌∷◌, codes}
use Rattle.wy_term.specs.Term.{Term, Of, no_parts, part, leaf, one, val_name, OfKind, null_kind, record_kind, field, in_type, all_of, any_of}
use Rattle.wy_term.specs.Condition.{Entry}

-- the Val name of the type
abbrev pub chain_name : Term
chain_name = leaf (val_name (codes "x") 0)

abbrev pub next : List ℕ
next = codes "next"

-- null, or a record of the field `next` alone, whose datum is of the type
abbrev pub is_chain : Term
is_chain = Of any_of (part (OfKind chain_name null_kind) (part (Of all_of (part (OfKind chain_name (record_kind (next ∷ []))) (part (one (in_type 0) (one (field next) chain_name)) no_parts))) no_parts))

abbrev pub chains : List Entry
chains = record { type_number = 0; name = chain_name; formula = is_chain } ∷ []
