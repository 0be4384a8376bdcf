-- The two readings of a type beside membership: where no type with clauses is reached they are the same.
use Rattle.std.specs.Prelude.{◌≡◌, ℕ, Bool, true, false, is_some}
use Rattle.wy_term.specs.wy_value.Datum.{Datum}
use Rattle.wy_term.specs.wy_value.Values.{IsValue}
use Rattle.wy_types.specs.wy_core.Types.{Ty, NullTy, BoolTy, IntTy, AnyTy, VoidTy, RecordTy, ArrayTy, UnionTy, InterTy, NotTy, NamedTy, NormalTy, FieldTys, NoFieldTys, MoreFieldTys}
use Rattle.wy_types.specs.wy_core.CoreTree.{Core, aliases_of}
use Rattle.wy_types.specs.Names.{names_in, Up, Down}
use Rattle.wy_sem.specs.TypeTests.{alias_at, has_clauses}
use Rattle.wy_sem.specs.Membership.{is_member}

-- a type as a source may write it, in which each name is one of these
abbrev mutual
  pub Names : (ℕ → Type 0) → Ty → Type 0
  Names allowed NullTy = Unit {0}
  Names allowed BoolTy = Unit {0}
  Names allowed IntTy = Unit {0}
  Names allowed AnyTy = Unit {0}
  Names allowed VoidTy = Unit {0}
  Names allowed (RecordTy fields) = FieldNames allowed fields
  Names allowed (ArrayTy t) = Names allowed t
  Names allowed (UnionTy s t) = Names allowed s × Names allowed t
  Names allowed (InterTy s t) = Names allowed s × Names allowed t
  Names allowed (NotTy t) = Names allowed t
  Names allowed (NamedTy n) = allowed n
  Names allowed (NormalTy union) = ⊥

  pub FieldNames : (ℕ → Type 0) → FieldTys → Type 0
  FieldNames allowed NoFieldTys = Unit {0}
  FieldNames allowed (MoreFieldTys name t fields) = Names allowed t × FieldNames allowed fields

-- none of these names has clauses, and their definitions mention these names alone
pub record IsFree {N : Type 0} (core : Core N) (free : ℕ → Bool) (n : ℕ) : Type 0 where
  pub clauses : has_clauses (alias_at (aliases_of core) n).clauses ≡ false
  pub variable : is_some (alias_at (aliases_of core) n).variable ≡ false
  pub names : Names (λ i. free i ≡ true) (alias_at (aliases_of core) n).ty

abbrev pub AreFree : {N : Type 0} → Core N → (ℕ → Bool) → Type 0
AreFree core free = (n : ℕ) → free n ≡ true → IsFree core free n

-- a value is in a type exactly where the upward reading says so, and exactly where the downward one does
pub record ReadingsAgreeAt {N : Type 0} (place : N → ℕ) (core : Core N) (t : Ty) (d : Datum) : Type 0 where
  pub upward : is_member place (aliases_of core) d t ≡ Up (names_in core) d t
  pub downward : is_member place (aliases_of core) d t ≡ Down (names_in core) d t

-- where no type with clauses is reached, membership is both readings
abbrev pub ReadingsAgree : {N : Type 0} → (N → ℕ) → Core N → Type 0
ReadingsAgree place core = (free : ℕ → Bool) → AreFree core free → (t : Ty) → Names (λ n. free n ≡ true) t → (d : Datum) → IsValue d → ReadingsAgreeAt place core t d
