-- What terms and formulas are: a symbol applied to terms and formulas. Int terms, Val terms and formulas are of one type; each symbol is of one sort and has parts of fixed sorts.
use Rattle.std.specs.Prelude.{ℕ, List, Bool, ℤ}

-- a kind of data
pub data DataKind : Type 0 where
  null_kind : DataKind
  bool_kind : DataKind
  int_kind : DataKind
  array_kind : DataKind
  record_kind : (fields : List (List ℕ)) → DataKind

-- what stands at the root of a term, with what is written there beside its parts
pub data Symbol : Type 0 where
  number : (z : ℤ) → Symbol
  int_name : (word : List ℕ) (n : ℕ) → Symbol
  add : Symbol
  sub : Symbol
  neg : Symbol
  mul : Symbol
  div : Symbol
  rem : Symbol
  num : Symbol
  len : Symbol
  val_name : (word : List ℕ) (n : ℕ) → Symbol
  null : Symbol
  truth : (b : Bool) → Symbol
  int : Symbol
  bool : Symbol
  array : Symbol
  repeat : Symbol
  update : Symbol
  get : Symbol
  fields : (names : List (List ℕ)) → Symbol
  field : (name : List ℕ) → Symbol
  set_field : (name : List ℕ) → Symbol
  at_most : Symbol
  equal : Symbol
  of_kind : (kind : DataKind) → Symbol
  in_type : (n : ℕ) → Symbol
  every : (word : List ℕ) (n : ℕ) → Symbol
  exists : (word : List ℕ) (n : ℕ) → Symbol
  denied : Symbol
  all_of : Symbol
  any_of : Symbol

mutual
  pub data Term : Type 0 where
    Of : (symbol : Symbol) (parts : Parts) → Term

  -- the parts of a term, in order
  pub data Parts : Type 0 where
    no_parts : Parts
    part : (first : Term) (rest : Parts) → Parts

-- ---- terms by their forms

abbrev pub leaf : Symbol → Term
leaf symbol = Of symbol no_parts

abbrev pub one : Symbol → Term → Term
one symbol s = Of symbol (part s no_parts)

abbrev pub two : Symbol → Term → Term → Term
two symbol s t = Of symbol (part s (part t no_parts))

abbrev pub Number : ℤ → Term
Number z = leaf (number z)

abbrev pub Add : Term → Term → Term
Add s t = two add s t

abbrev pub Sub : Term → Term → Term
Sub s t = two sub s t

abbrev pub Num : Term → Term
Num v = one num v

abbrev pub ValName : List ℕ → ℕ → Term
ValName word n = leaf (val_name word n)

abbrev pub AtMost : Term → Term → Term
AtMost s t = two at_most s t

abbrev pub OfKind : Term → DataKind → Term
OfKind v kind = one (of_kind kind) v

abbrev pub Not : Term → Term
Not f = one denied f
