-- One thing that has a property, or none.
use Rattle.std.specs.Prelude.{◌≡◌, ◌≢◌, Result, Ok, Err, List, ◌++◌}
use Rattle.wy_cert.specs.declared.fault.CertFault.{CertFault}
use Rattle.wy_cert.specs.declared.fault.CertFault.TheVariants.{NoMemory}

-- this has the property, and nothing else has
pub record IsTheOne {X : Type 0} (P : X → Type 0) (x : X) : Type 0 where
  pub holds : P x
  pub only : (y : X) → P y → y ≡ x

-- nothing has the property
pub record HasNone {X : Type 0} (P : X → Type 0) : Type 0 where
  pub none : (x : X) → P x → ⊥

-- what a call answers is the one outcome that has the property, where `view` says what its value stands for; want of memory may come in place of each answer
abbrev pub Answers : {X Y : Type 0} → (Result Y CertFault → Type 0) → (X → Y) → Result X CertFault → Type 0
Answers P view (Ok x) = IsTheOne P (Ok (view x))
Answers P view (Err e) = e ≢ NoMemory → IsTheOne P (Err e)

-- ---- for loops

-- the list begins with those that are done, and the others have the property
pub record IsBehind {X : Type 0} (done : List X) (P : List X → Type 0) (all : List X) : Type 0 where
  pub others : List X
  pub is : all ≡ done ++ others
  pub holds : P others

-- behind those that are done, what is left has the one property exactly where the whole has the other
pub record GoesOn {X : Type 0} (done : List X) (left whole : List X → Type 0) : Type 0 where
  pub to : (others : List X) → left others → whole (done ++ others)
  pub back : (all : List X) → whole all → IsBehind done left all

-- the same things have both properties
pub record AreSame {X : Type 0} (left whole : X → Type 0) : Type 0 where
  pub to : (x : X) → left x → whole x
  pub back : (x : X) → whole x → left x
