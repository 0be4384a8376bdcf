-- What a condition says, and when it is true.
use Rattle.std.specs.Prelude.{◌≡◌, ℕ, List, [], ◌∷◌, map, codes, Bool, true}
use Rattle.wy_value.specs.Datum.{Datum}
use Rattle.wy_term.specs.declared.cond.Cond.{Cond}
use Rattle.wy_term.specs.declared.cond.CondKind.{CondKind}
use Rattle.wy_term.specs.declared.cond.CondKind.TheVariants as kind
use Rattle.wy_term.specs.Term.{Term, Of}
use Rattle.wy_term.specs.Term as term
use Rattle.wy_term.specs.Meaning.{Names, with_datum, sense}
use Rattle.wy_term.specs.Nodes.{Plain, tree_at}

-- a named type by its number, a Val name, and the formula that says of what the name stands for whether it is of the type
pub record Entry : Type 0 where
  pub type_number : ℕ
  pub name : Term
  pub formula : Term

-- a condition as trees, with the named types that it speaks of
pub record Condition : Type 0 where
  pub hyps : List Term
  pub goal : Term
  pub types : List Entry

-- the named type that these numbers spell in a list of nodes
abbrev pub entry_of : List Plain → (ℕ × ℕ × ℕ) → Entry
entry_of nodes e = record { type_number = e.0; name = tree_at nodes e.1; formula = tree_at nodes e.2 }

-- the condition that these numbers spell in a list of nodes
abbrev pub condition_of : List Plain → Cond → Condition
condition_of nodes cond = record {
  hyps = map (tree_at nodes) cond.hyps.items;
  goal = tree_at nodes cond.goal;
  types = map (entry_of nodes) cond.unfold.list.items;
}

-- each formula of the list is true
abbrev pub AllTrue : Names → List Term → Type 0
AllTrue names [] = Unit {0}
AllTrue names (f ∷ fs) = ((sense names f).truth ≡ true) × AllTrue names fs

-- the same names, but for the Val name that this term is
abbrev pub with_value : Names → Term → Datum → Names
with_value names (Of (term.val_name word n) ps) d = with_datum names word n d
with_value names t d = names

-- a type's formula holds of a datum
abbrev pub says : Names → Entry → Datum → Bool
says names e d = (sense (with_value names e.name d) e.formula).truth

-- a datum is in one of these types exactly where the type's formula holds of it
abbrev pub AreUnfolded : Names → List Entry → Type 0
AreUnfolded names [] = Unit {0}
AreUnfolded names (e ∷ es) = ((d : Datum) → names.is_member e.type_number d ≡ says names e d) × AreUnfolded names es

-- whatever its names stand for, where `in` of each of its types means the type's formula: if all hypotheses hold then the goal holds
abbrev pub HoldsAlways : Condition → Type 0
HoldsAlways c = (names : Names) → AreUnfolded names c.types → AllTrue names c.hyps → (sense names c.goal).truth ≡ true

-- the word for a kind of condition
abbrev pub word_of : CondKind → List ℕ
word_of kind.Range = codes "range"
word_of kind.Divisor = codes "divisor"
word_of kind.Index = codes "index"
word_of kind.Length = codes "length"
word_of kind.Member = codes "member"
word_of kind.Requires = codes "requires"
word_of kind.Ensures = codes "ensures"
word_of kind.Entry = codes "entry"
word_of kind.Keep = codes "keep"
word_of kind.Assert = codes "assert"
word_of kind.Fail = codes "fail"
