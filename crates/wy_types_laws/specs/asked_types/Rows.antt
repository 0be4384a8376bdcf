-- Types whose record types have the names that a record of the language can have, at any depth, names not unfolded.
use Rattle.std.specs.Prelude.{ℕ, List, [], ◌∷◌}
use Rattle.wy_data.specs.Words.{IsName}
use Rattle.wy_value.specs.Values.{Rise}
use Rattle.wy_core.specs.Types.{Ty, FieldTys, Conjuncts, Atoms, Atom, FieldParts, Part, RecordTy, ArrayTy, UnionTy, InterTy, NotTy, NormalTy, NoFieldTys, MoreFieldTys, NoConjuncts, MoreConjuncts, NoAtoms, MoreAtoms, ArrayAtom, RecordAtom, NoFieldParts, MoreFieldParts, NoTerms, MoreTerms}
use Rattle.wy_types.specs.Claims.{EachOf}
use Rattle.wy_types.specs.Names.{Declared}

-- the names of fields
abbrev pub names_of_tys : FieldTys → List (List ℕ)
names_of_tys NoFieldTys = []
names_of_tys (MoreFieldTys name t rest) = name ∷ names_of_tys rest

abbrev pub names_of_parts : FieldParts → List (List ℕ)
names_of_parts NoFieldParts = []
names_of_parts (MoreFieldParts name p rest) = name ∷ names_of_parts rest

-- each is a name of the language, and they rise
abbrev pub IsRow : List (List ℕ) → Type 0
IsRow names = Rise names × EachOf IsName names

abbrev mutual
  -- so in each record type that stands in the type
  pub HasRows : Ty → Type 0
  HasRows (RecordTy fs) = IsRow (names_of_tys fs) × FieldsHaveRows fs
  HasRows (ArrayTy t) = HasRows t
  HasRows (UnionTy a b) = HasRows a × HasRows b
  HasRows (InterTy a b) = HasRows a × HasRows b
  HasRows (NotTy t) = HasRows t
  HasRows (NormalTy cs) = ConjunctsHaveRows cs
  HasRows _ = Unit {0}

  pub FieldsHaveRows : FieldTys → Type 0
  FieldsHaveRows NoFieldTys = Unit {0}
  FieldsHaveRows (MoreFieldTys name t rest) = HasRows t × FieldsHaveRows rest

  pub ConjunctsHaveRows : Conjuncts → Type 0
  ConjunctsHaveRows NoConjuncts = Unit {0}
  ConjunctsHaveRows (MoreConjuncts positive negatives rest) = AtomHasRows positive × AtomsHaveRows negatives × ConjunctsHaveRows rest

  pub AtomsHaveRows : Atoms → Type 0
  AtomsHaveRows NoAtoms = Unit {0}
  AtomsHaveRows (MoreAtoms a rest) = AtomHasRows a × AtomsHaveRows rest

  pub AtomHasRows : Atom → Type 0
  AtomHasRows (ArrayAtom p) = TermsHaveRows p
  AtomHasRows (RecordAtom fs) = IsRow (names_of_parts fs) × PartsHaveRows fs
  AtomHasRows _ = Unit {0}

  pub PartsHaveRows : FieldParts → Type 0
  PartsHaveRows NoFieldParts = Unit {0}
  PartsHaveRows (MoreFieldParts name p rest) = TermsHaveRows p × PartsHaveRows rest

  pub TermsHaveRows : Part → Type 0
  TermsHaveRows NoTerms = Unit {0}
  TermsHaveRows (MoreTerms t up inside rest) = HasRows t × TermsHaveRows rest

-- so for each declared type
abbrev pub NamesHaveRows : List Declared → Type 0
NamesHaveRows [] = Unit {0}
NamesHaveRows (d ∷ ds) = HasRows d.ty × NamesHaveRows ds
