-- Applications by the classes of what they are of.
use Rattle.std.specs.Prelude.{◌≡◌, ◌<◌, ℕ, List, [], ◌∷◌, map, All, length, Bool, ◌&&◌, nat_eq, if◌then◌else◌, Option, Some, slice_get}
use Rattle.wy_cong.specs.declared.congruence_closure.nodes.Shape.{Shape}
use Rattle.wy_cong.specs.declared.congruence_closure.nodes.Shape.TheVariants.{Apply}
use Rattle.wy_cong.specs.declared.congruence_closure.explaining.Chosen.{Chosen}
use Rattle.wy_cong.specs.congruence_closure.Congruence.{label_at, named}

-- the label, where one class joins another
abbrev pub moved : ℕ → ℕ → ℕ → ℕ
moved from into l = if nat_eq l from then into else l

-- the labels, where the classes of two nodes become one
abbrev pub join_of : List ℕ → ℕ → ℕ → List ℕ
join_of labels s t = map (moved (label_at labels s) (label_at labels t)) labels

-- so for both sides of each equation
abbrev pub joined_by : List ℕ → List (ℕ × ℕ) → List ℕ
joined_by labels [] = labels
joined_by labels (e ∷ es) = joined_by (join_of labels e.0 e.1) es

-- equal pairs of labels
abbrev pub same_pair : ℕ × ℕ → ℕ × ℕ → Bool
same_pair p q = nat_eq p.0 q.0 && nat_eq p.1 q.1

-- the labels of what an application is of
abbrev pub key_of : List ℕ → ℕ → ℕ → ℕ × ℕ
key_of labels a b = (label_at labels a, label_at labels b)

-- the node is an application with these labels
abbrev pub HasKey : List Shape → List ℕ → ℕ × ℕ → ℕ → Type 0
HasKey shapes labels k j = (c : ℕ) × (d : ℕ) × (slice_get shapes j ≡ Some (Apply c d)) × (key_of labels c d ≡ k)

-- each application of the first n nodes is found, as one of its class with the same labels
abbrev pub AllFound : List Shape → List ℕ → (ℕ × ℕ → Option ℕ) → ℕ → Type 0
AllFound shapes labels found n = (i a b : ℕ) → i < n → slice_get shapes i ≡ Some (Apply a b) → (j : ℕ) × (found (key_of labels a b) ≡ Some j) × (label_at labels j ≡ label_at labels i)

-- what is found has the labels
abbrev pub AreKeyed : List Shape → List ℕ → (ℕ × ℕ → Option ℕ) → Type 0
AreKeyed shapes labels found = (k : ℕ × ℕ) (j : ℕ) → found k ≡ Some j → HasKey shapes labels k j

-- two applications with the same labels in two classes
abbrev pub IsApart : List Shape → List ℕ → ℕ × ℕ → Type 0
IsApart shapes labels p = (k : ℕ × ℕ) × HasKey shapes labels k p.0 × HasKey shapes labels k p.1

-- applications with the same labels are in one class
abbrev pub IsClosed : List Shape → List ℕ → Type 0
IsClosed shapes labels = (i j a b c d : ℕ) → slice_get shapes i ≡ Some (Apply a b) → slice_get shapes j ≡ Some (Apply c d) → label_at labels a ≡ label_at labels c → label_at labels b ≡ label_at labels d → label_at labels i ≡ label_at labels j

-- both sides of each of the first n equations are in one class
abbrev pub AreJoined : ℕ → List (ℕ × ℕ) → List ℕ → Type 0
AreJoined n equations labels = (k : ℕ) (e : ℕ × ℕ) → k < n → slice_get equations k ≡ Some e → label_at labels e.0 ≡ label_at labels e.1

-- nodes in one class stay in one class
abbrev pub KeepsClasses : List ℕ → List ℕ → Type 0
KeepsClasses labels made = (i j : ℕ) → i < length labels → j < length labels → label_at labels i ≡ label_at labels j → label_at made i ≡ label_at made j

-- the equations are those with the numbers, each of which is one of the list
pub record IsChosen (all : List (ℕ × ℕ)) (chosen : Chosen) : Type 0 where
  pub are : chosen.equations ≡ named all chosen.numbers
  pub numbered : All (λ n. n < length all) chosen.numbers
