-- Types of the core as plain data. They have no places, so two types are the same type where they are equal.
use Rattle.std.specs.Prelude.{ℕ, Bool, List}

mutual
  -- a type
  pub data Ty : Type 0 where
    NullTy : Ty
    BoolTy : Ty
    IntTy : Ty
    AnyTy : Ty
    VoidTy : Ty
    RecordTy : (fields : FieldTys) → Ty
    ArrayTy : (item : Ty) → Ty
    UnionTy : (left right : Ty) → Ty
    InterTy : (left right : Ty) → Ty
    NotTy : (ty : Ty) → Ty
    NamedTy : (number : ℕ) → Ty
    NormalTy : (conjuncts : Conjuncts) → Ty

  -- the fields of a record type, each a name (its bytes) and a type
  pub data FieldTys : Type 0 where
    NoFieldTys : FieldTys
    MoreFieldTys : (name : List ℕ) (ty : Ty) (rest : FieldTys) → FieldTys

  -- conjuncts, each a positive atom and its negative ones
  pub data Conjuncts : Type 0 where
    NoConjuncts : Conjuncts
    MoreConjuncts : (positive : Atom) (negatives : Atoms) (rest : Conjuncts) → Conjuncts

  -- a list of atoms
  pub data Atoms : Type 0 where
    NoAtoms : Atoms
    MoreAtoms : (first : Atom) (rest : Atoms) → Atoms

  -- a kind of values and what their parts must be
  pub data Atom : Type 0 where
    NullAtom : Atom
    BoolAtom : Atom
    IntAtom : Atom
    ArrayAtom : (part : Part) → Atom
    RecordAtom : (parts : FieldParts) → Atom
    AnyRecordAtom : Atom

  -- the parts of a record, each under its name
  pub data FieldParts : Type 0 where
    NoFieldParts : FieldParts
    MoreFieldParts : (name : List ℕ) (part : Part) (rest : FieldParts) → FieldParts

  -- a part: terms that must all hold, each with whether it is read upward, and whether inside is meant
  pub data Part : Type 0 where
    NoTerms : Part
    MoreTerms : (term : Ty) (up inside : Bool) (rest : Part) → Part
