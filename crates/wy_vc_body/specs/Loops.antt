-- The head of a loop, one variable after the other.
use Rattle.std.specs.Prelude.{◌≡◌, ℕ, zero, suc, List, length, take, Bool, ◌&&◌, if◌then◌else◌}
use Rattle.wy_sem.specs.Statements.{type_at}
use Rattle.wy_vc_exprs.specs.wy_vc_spec.Clauses.{assume_in_type}
use Rattle.wy_vc_exprs.specs.wy_vc_spec.Making.{val_name}
use Rattle.wy_vc_exprs.specs.wy_vc_spec.Spots.{Spot, is_set, with_hyps}
use Rattle.wy_vc_exprs.specs.wy_vc_spec.Statements.{Body, Renewed, renewed}
use Rattle.wy_vc_exprs.specs.wy_vc_spec.Values.{word_at, variable}
use Rattle.wy_vc_exprs.specs.wy_vc_spec.Variables.{put}
use Rattle.wy_vc_exprs.specs.wy_vc_operations.Growing.{Kept}
use Rattle.wy_vc_body.specs.declared.here.Here.{Here}
use Rattle.wy_vc_exprs.specs.State.{IsSound, owed_of}
use Rattle.wy_vc_exprs.specs.declared.walk.Walk.{Walk}
use Rattle.wy_vc_body.specs.Paths.{IsSpot}

-- the variable takes a new name
abbrev pub with_name : List (List ℕ) → ℕ → Spot → ℕ → Renewed
with_name words x p n = renewed (suc n) (record p { vars = put p.vars x (val_name (word_at words x) n) })

-- the same, where it is marked
abbrev pub name_if : List (List ℕ) → ℕ → Bool → Spot → ℕ → Renewed
name_if words x marked p n = if marked then with_name words x p n else renewed n p

-- so many variables from this one on, each by this step
abbrev pub many : (ℕ → Spot → ℕ → Renewed) → ℕ → ℕ → Spot → ℕ → Renewed
many one x zero p n = renewed n p
many one x (suc j) p n = many one (suc x) j (one x p n).spot (one x p n).count

-- each that is marked takes a new name
abbrev pub renewed_names : List (List ℕ) → List Bool → ℕ → ℕ → Spot → ℕ → Renewed
renewed_names words marks = many (λ x p n. name_if words x (is_set marks x) p n)

-- the variable is of its declared type
abbrev pub with_type : {N : Type 0} → Body N → ℕ → Spot → ℕ → Renewed
with_type b x p n = let f = assume_in_type b.program.setting (type_at b.types x) (variable p.vars x) p.hyps n in renewed f.count (with_hyps f.hyps p)

-- the same, where this is so
abbrev pub type_if : {N : Type 0} → Body N → ℕ → Bool → Spot → ℕ → Renewed
type_if b x so p n = if so then with_type b x p n else renewed n p

-- each that is marked and has a value is of its declared type
abbrev pub renewed_types : {N : Type 0} → Body N → List Bool → ℕ → ℕ → Spot → ℕ → Renewed
renewed_types b marks = many (λ x p n. type_if b x (is_set marks x && is_set p.set x) p n)

-- names were made and types assumed; nothing was owed
pub record Renews (old new : Walk) (h : Here) (r : Renewed) : Type 0 where
  pub sound : IsSound new
  pub kept : Kept old.maker.terms new.maker.terms
  pub longer : take (length old.hyps.items) new.hyps.items ≡ old.hyps.items
  pub count : new.maker.count ≡ r.count
  pub owed : owed_of new ≡ owed_of old
  pub spot : IsSpot new h r.spot
