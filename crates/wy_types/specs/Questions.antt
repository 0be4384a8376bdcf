-- Questions about types, as parts over a table in which each term of the declared types and of the question has one number.
use Rattle.std.specs.Prelude.{◌≡◌, ℕ, suc, List, [], true, length, take}
use Rattle.wy_core.specs.Types.{Ty, Conjuncts}
use Rattle.wy_types.specs.declared.conjuncts.Signed.{Signed}
use Rattle.wy_types.specs.declared.table.Node.{Node}
use Rattle.wy_types.specs.declared.table.Definition.{Definition}
use Rattle.wy_types.specs.declared.question.Question.{Question}
use Rattle.wy_types.specs.Names.{Declared}
use Rattle.wy_types.specs.Numbering.{put_ty, put_declared}
use Rattle.wy_types.specs.Conjuncts.{with_sides, dnf_part}
use Rattle.wy_types.specs.Reading.{ty_at, conjuncts_at}
use Rattle.wy_types.specs.Reach.{IsWide, outside}

-- the terms of the declared types first, then those of the two types; no term is deeper than there are terms
abbrev pub question : List Definition → ℕ → ℕ → (List Node × ℕ) → Question
question definitions base a y = record {
  table = record { nodes = y.0; definitions = definitions };
  base = base;
  depth = suc (length y.0);
  first = a;
  second = y.1;
}

abbrev pub numbered_after : (List Node × List Definition) → Ty → Ty → Question
numbered_after x a b = question x.1 (length x.0) (put_ty x.0 a).1 (put_ty (put_ty x.0 a).0 b)

-- the question whether a is within b
unfoldable pub numbered : List Declared → Ty → Ty → Question
numbered names a b = numbered_after (put_declared [] names) a b

-- the table has the terms of the declared types, before all others
pub record IsOver (names : List Declared) (q : Question) : Type 0 where
  pub count : q.base ≡ length (put_declared [] names).0
  pub front : take q.base q.table.nodes ≡ (put_declared [] names).0
  pub definitions : q.table.definitions ≡ (put_declared [] names).1

-- what is in the first type
abbrev pub first_part : Question → List (Signed ℕ)
first_part q = with_sides q.table q.depth [] true true q.first

-- what is in the first type and not in the second
abbrev pub outside_part : Question → List (Signed ℕ)
outside_part q = outside q.table q.depth q.first q.second

-- the question about what is in the type is wide
abbrev pub IsWideAbout : List Declared → Ty → Type 0
IsWideAbout names t = let q = numbered names t t in IsWide q.table q.depth (first_part q)

-- the question whether the one type is within the other is wide
abbrev pub IsWideWithin : List Declared → Ty → Ty → Type 0
IsWideWithin names a b = let q = numbered names a b in IsWide q.table q.depth (outside_part q)

-- the normal form of a type: the conjuncts of what is in it, in order
abbrev pub normal_of : List Declared → Ty → Conjuncts
normal_of names t = let q = numbered names t t in conjuncts_at (ty_at q.table q.depth) (dnf_part q.table q.depth (first_part q))
