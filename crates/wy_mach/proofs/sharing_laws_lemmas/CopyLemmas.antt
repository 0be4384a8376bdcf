-- A state determines how many nodes its next step copies.
use Rattle.std.proofs.Common.{◌≡◌, inl, inr, ℕ, List, [], ◌∷◌, set, Some, sym, ◌∙◌, ap, subst}
use Rattle.wy_heap.specs.declared.part.Part.{Part}
use Rattle.wy_heap.specs.declared.part.Part.TheVariants.{Null, Key}
use Rattle.wy_heap.specs.Nodes.{Map}
use Rattle.wy_heap.specs.Slots.{Step, part_at}
use Rattle.wy_code.specs.declared.instructions.Slot.{Slot}
use Rattle.wy_code.specs.declared.instructions.Instr.{Instr}
use Rattle.wy_code.specs.declared.instructions.Instr.TheVariants as instr
use Rattle.wy_code.specs.declared.routines.Code.{Code}
use Rattle.wy_mach.specs.Sharing.{part_in}
use Rattle.wy_mach.specs.SharedSteps.{Shared, holders, HasOne, HaveOne, WrittenAlong, GoesBehind, Makes}
use Rattle.wy_mach.specs.sharing_laws.Room.{CopiesAreOne, NoneAreCopied, HasNoSecond, IsInPlace}
use Rattle.wy_mach.proofs.sharing_laws_lemmas.RoomLemmas.{path_unique}

same_key : (j k : ℕ) → Key j ≡ Key k → j ≡ k
same_key j k e = cc

-- a part that holds this key has one holder where the key has
has_one : (count : ℕ → ℕ) (p : Part) (j : ℕ) → p ≡ Key j → count j ≡ 1 → HasOne count p
has_one count p j is one k e = ap count (same_key k j (sym e ∙ is)) ∙ one

written_one : (count : ℕ → ℕ) (m n o : Map) (path : List Step) (whole item part made other : Part) (c d : ℕ) → WrittenAlong count m n whole path item c made → WrittenAlong count m o whole path part d other → c ≡ d
written_one count m n o [] whole item part made other c d first second = first.1 ∙ sym second.1
written_one count m n o (s ∷ path) whole item part made other c d first second = elim first [
  | inl here ↦ elim second [
    | inl there ↦ written_one count m n o path (part_at m whole s) item part here.below there.below c d here.goes_on there.goes_on
    | inr there ↦ absurd (there.many (has_one count whole here.key here.whole_is here.one))
  ]
  | inr here ↦ elim second [
    | inl there ↦ absurd (here.many (has_one count whole there.key there.whole_is there.one))
    | inr there ↦ here.as_many ∙ sym there.as_many
  ]
]

put_one : (st a b : Shared) (w : ℕ) (path : List Slot) (v c d : ℕ) → GoesBehind (instr.Put w path v) st a c → GoesBehind (instr.Put w path v) st b d → c ≡ d
put_one st a b w path v c d first second =
    let place = part_in (set st.registers v Null) w in
    let item = part_in st.registers v in
    let same = path_unique st.shapes st.registers path second.does.0 first.does.0 second.does.1 first.does.1 in
    written_one (holders st) st.nodes first.between second.between first.does.0 place item item first.does.2.made second.does.2.made c d first.does.2.along
    (subst (λ (l : List Step). WrittenAlong (holders st) st.nodes second.between place l item d second.does.2.made) same second.does.2.along)

makes_one : (code : Code) (i : Instr) (st a b : Shared) (c d : ℕ) → Makes code i st a c → Makes code i st b d → c ≡ d
makes_one code (instr.Const t k) st a b c d first second = first.does.2 ∙ sym second.does.2
makes_one code (instr.Move t r) st a b c d first second = first.does.2 ∙ sym second.does.2
makes_one code (instr.Share t r) st a b c d first second = first.does.2 ∙ sym second.does.2
makes_one code (instr.Clear rs) st a b c d first second = first.does.2 ∙ sym second.does.2
makes_one code (instr.Arith t op x y) st a b c d first second = first.does.2.2 ∙ sym second.does.2.2
makes_one code (instr.Compare t op x y) st a b c d first second = first.does.2.2 ∙ sym second.does.2.2
makes_one code (instr.Equal t x y) st a b c d first second = first.does.2.2 ∙ sym second.does.2.2
makes_one code (instr.Not t x) st a b c d first second = first.does.2.2 ∙ sym second.does.2.2
makes_one code (instr.Jump n) st a b c d first second = first.none ∙ sym second.none
makes_one code (instr.Branch r n) st a b c d first second = first.none ∙ sym second.none
makes_one code (instr.Array t rs) st a b c d first second = first.does.none ∙ sym second.does.none
makes_one code (instr.Record t k rs) st a b c d first second = first.does.none ∙ sym second.does.none
makes_one code (instr.Fill t v n) st a b c d first second = first.does.2.none ∙ sym second.does.2.none
makes_one code (instr.Len t x) st a b c d first second = first.does.2.2 ∙ sym second.does.2.2
makes_one code (instr.Get t x i) st a b c d first second = first.does.2.2 ∙ sym second.does.2.2
makes_one code (instr.Field t x f) st a b c d first second = first.does.2 ∙ sym second.does.2
makes_one code (instr.Put w path v) st a b c d first second = put_one st a b w path v c d first second
makes_one code (instr.Kind t x k) st a b c d first second = first.does.2.2 ∙ sym second.does.2.2
makes_one code (instr.Call t f rs) st a b c d first second = first.none ∙ sym second.none
makes_one code (instr.Return r) st a b c d first second = first.none ∙ sym second.none
makes_one code (instr.Print x) st a b c d first second = first.none ∙ sym second.none
makes_one code (instr.PrintInt x) st a b c d first second = first.none ∙ sym second.none

same_instr : (i j : Instr) → Some i ≡ Some j → i ≡ j
same_instr i j e = cc

pub copies_one : CopiesAreOne
copies_one code st a b c d first second =
    let same = same_instr second.by first.by (sym second.is ∙ first.is) in
    makes_one code first.by st a b c d first.makes (subst (λ (i : Instr). Makes code i st b d) same second.makes)

-- ---- nothing copied

written_none : (count : ℕ → ℕ) (m n : Map) (path : List Step) (whole item made : Part) (c : ℕ) → HaveOne count m whole path → WrittenAlong count m n whole path item c made → c ≡ 0
written_none count m n [] whole item made c have along = along.1
written_none count m n (s ∷ path) whole item made c have along = elim along [
  | inl here ↦ written_none count m n path (part_at m whole s) item here.below c have.1 here.goes_on
  | inr there ↦ absurd (there.many have.0)
]

put_none : (st a : Shared) (w : ℕ) (path : List Slot) (v c : ℕ) → IsInPlace st w path v → GoesBehind (instr.Put w path v) st a c → c ≡ 0
put_none st a w path v c lacks made =
    let place = part_in (set st.registers v Null) w in
    let same = path_unique st.shapes st.registers path lacks.0 made.does.0 lacks.1 made.does.1 in
    written_none (holders st) st.nodes made.between made.does.0 place (part_in st.registers v) made.does.2.made c
    (subst (λ (l : List Step). HaveOne (holders st) st.nodes place l) same lacks.2) made.does.2.along

makes_none : (code : Code) (i : Instr) (st a : Shared) (c : ℕ) → HasNoSecond i st → Makes code i st a c → c ≡ 0
makes_none code (instr.Const t k) st a c lacks made = made.does.2
makes_none code (instr.Move t r) st a c lacks made = made.does.2
makes_none code (instr.Share t r) st a c lacks made = made.does.2
makes_none code (instr.Clear rs) st a c lacks made = made.does.2
makes_none code (instr.Arith t op x y) st a c lacks made = made.does.2.2
makes_none code (instr.Compare t op x y) st a c lacks made = made.does.2.2
makes_none code (instr.Equal t x y) st a c lacks made = made.does.2.2
makes_none code (instr.Not t x) st a c lacks made = made.does.2.2
makes_none code (instr.Jump n) st a c lacks made = made.none
makes_none code (instr.Branch r n) st a c lacks made = made.none
makes_none code (instr.Array t rs) st a c lacks made = made.does.none
makes_none code (instr.Record t k rs) st a c lacks made = made.does.none
makes_none code (instr.Fill t v n) st a c lacks made = made.does.2.none
makes_none code (instr.Len t x) st a c lacks made = made.does.2.2
makes_none code (instr.Get t x i) st a c lacks made = made.does.2.2
makes_none code (instr.Field t x f) st a c lacks made = made.does.2
makes_none code (instr.Put w path v) st a c lacks made = put_none st a w path v c lacks made
makes_none code (instr.Kind t x k) st a c lacks made = made.does.2.2
makes_none code (instr.Call t f rs) st a c lacks made = made.none
makes_none code (instr.Return r) st a c lacks made = made.none
makes_none code (instr.Print x) st a c lacks made = made.none
makes_none code (instr.PrintInt x) st a c lacks made = made.none

pub none_copied : NoneAreCopied
none_copied code st new i copied step is lacks =
    let same = same_instr step.by i (sym step.is ∙ is) in
    makes_none code i st new copied lacks (subst (λ (j : Instr). Makes code j st new copied) same step.makes)
