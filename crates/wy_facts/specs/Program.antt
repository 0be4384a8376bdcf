-- How a formula is made of the parts of an instance, by a list of instructions that is read from its end.
use Rattle.std.specs.Prelude.{◌≡◌, ℕ, List, [], ◌∷◌, Bool, true, false, pos, Option, Some, None, length, slice_get}
use Rattle.wy_term_subst.specs.wy_term.Term.{Symbol, Term, Of, no_parts, part, leaf, Number, one, two, add, neg, mul, num, len, get, null, truth, int, bool_kind, int_kind, null_kind, at_most, equal, of_kind, denied, all_of, any_of}
use Rattle.wy_term_subst.specs.wy_term.Folding.{folded}
use Rattle.wy_facts.specs.declared.program.Leaf.{Leaf}
use Rattle.wy_facts.specs.declared.program.Leaf.TheVariants as leaves
use Rattle.wy_facts.specs.declared.program.Unary.{Unary}
use Rattle.wy_facts.specs.declared.program.Unary.TheVariants as unary
use Rattle.wy_facts.specs.declared.program.Binary.{Binary}
use Rattle.wy_facts.specs.declared.program.Binary.TheVariants as binary
use Rattle.wy_facts.specs.declared.program.Instruction.{Instruction}
use Rattle.wy_facts.specs.declared.program.Instruction.TheVariants as instruction
use Rattle.wy_facts.specs.declared.schema.Schema.{Schema}
use Rattle.wy_facts.specs.declared.schema.Schema.TheVariants as schema
use Rattle.wy_facts.specs.Schema.{◌>>=◌, stated}

abbrev pub term_of_leaf : Leaf → Term
term_of_leaf leaves.Zero = Number (pos 0)
term_of_leaf leaves.Null = leaf null
term_of_leaf leaves.True = leaf (truth true)
term_of_leaf leaves.False = leaf (truth false)

abbrev pub symbol_of_one : Unary → Symbol
symbol_of_one unary.Neg = neg
symbol_of_one unary.Num = num
symbol_of_one unary.Len = len
symbol_of_one unary.Int = int
symbol_of_one unary.IsNull = of_kind null_kind
symbol_of_one unary.IsBool = of_kind bool_kind
symbol_of_one unary.IsInt = of_kind int_kind
symbol_of_one unary.Not = denied

abbrev pub symbol_of_two : Binary → Symbol
symbol_of_two binary.Add = add
symbol_of_two binary.Mul = mul
symbol_of_two binary.Get = get
symbol_of_two binary.AtMost = at_most
symbol_of_two binary.Equal = equal
symbol_of_two binary.And = all_of
symbol_of_two binary.Or = any_of

-- ---- one instruction, on the terms that were made, the last one first

abbrev pub with_one : Unary → List Term → Option (List Term)
with_one o [] = None
with_one o (s ∷ made) = Some (folded (one (symbol_of_one o) s) ∷ made)

abbrev pub with_two : Binary → List Term → Option (List Term)
with_two o [] = None
with_two o (s ∷ []) = None
with_two o (s ∷ t ∷ made) = Some (folded (two (symbol_of_two o) s t) ∷ made)

abbrev pub with_three : Symbol → List Term → Option (List Term)
with_three symbol [] = None
with_three symbol (s ∷ []) = None
with_three symbol (s ∷ t ∷ []) = None
with_three symbol (s ∷ t ∷ u ∷ made) = Some (folded (Of symbol (part s (part t (part u no_parts)))) ∷ made)

abbrev pub with_four : Symbol → List Term → Option (List Term)
with_four symbol [] = None
with_four symbol (s ∷ []) = None
with_four symbol (s ∷ t ∷ []) = None
with_four symbol (s ∷ t ∷ u ∷ []) = None
with_four symbol (s ∷ t ∷ u ∷ v ∷ made) = Some (folded (Of symbol (part s (part t (part u (part v no_parts))))) ∷ made)

-- `and`, or else `or`
abbrev pub connective : Bool → Symbol
connective true = all_of
connective false = any_of

abbrev pub after : List Term → Instruction → List Term → Option (List Term)
after parts (instruction.Part k) made = slice_get parts k >>= λ t. Some (t ∷ made)
after parts (instruction.Leaf l) made = Some (term_of_leaf l ∷ made)
after parts (instruction.Unary o) made = with_one o made
after parts (instruction.Binary o) made = with_two o made
after parts instruction.AndThree made = with_three all_of made
after parts instruction.OrThree made = with_three any_of made
after parts instruction.AndFour made = with_four all_of made

-- what the instructions make of these parts, from the last one to the first
abbrev pub ran : List Term → List Instruction → Option (List Term)
ran parts [] = Some []
ran parts (i ∷ rest) = ran parts rest >>= λ made. after parts i made

-- ---- programs of schemas

-- how many parts a schema is stated of
abbrev pub arity : Schema → ℕ
arity schema.LengthIsNatural = 1
arity schema.LengthOfCopies = 2
arity schema.LengthOfUpdated = 2
arity schema.ElementOfArray = 4
arity schema.ElementOfCopies = 4
arity schema.ElementUpdated = 5
arity schema.ElementElsewhere = 4
arity schema.ElementsAtOneIndex = 4
arity schema.FieldUpdated = 2
arity schema.FieldElsewhere = 2
arity schema.EqualNumbers = 3
arity schema.KindOfUpdated = 2
arity schema.KindOfFieldUpdated = 2
arity schema.DatumByKind = 1
arity schema.DatumOfFormula = 2
arity schema.Division = 4

-- the instructions make the formula that the schema states, of as many parts as it takes
abbrev pub States : List Instruction → Schema → Type 0
States p n = (parts : List Term) → length parts ≡ arity n → ran parts p ≡ Some (stated n parts ∷ [])
