-- What instructions do to registers that hold scalars and keys, and to nodes.
use Rattle.std.proofs.Common.{◌≡◌, inl, inr, ℕ, ℤ, pos, List, ◌∷◌, set, Some, refl, sym, ◌∙◌, ap, subst}
use Rattle.std.specs.Prelude.{Result, Ok, Err, replicate}
use Rattle.wy_heap.specs.declared.part.Part.{Part}
use Rattle.wy_heap.specs.declared.part.Part.TheVariants.{Null}
use Rattle.wy_heap.specs.declared.heap.Heap.{Heap}
use Rattle.wy_items.specs.declared.memory.NoMemory.{NoMemory}
use Rattle.wy_heap.specs.Nodes.{Form, list_form, Map, map_of, holds}
use Rattle.wy_heap.specs.Making.{IsNew, Came, CanHave}
use Rattle.wy_heap.specs.Changing.{Lasts}
use Rattle.wy_value.specs.Datum.{Whole}
use Rattle.wy_sem.specs.Expressions.{Store, slot}
use Rattle.wy_mach.specs.Showing.{Shows}
use Rattle.wy_mach.specs.Operands.{Reads, number_in}
use Rattle.wy_mach.specs.Taking.{emptied}
use Rattle.wy_mach.specs.Sharing.{PutsIn, PutsScalar, PutsNew, PutsFilled}
use Rattle.wy_mach.proofs.ItemLemmas.{same_pos}

-- each node that is left of those that are left is as it was
pub lasts_more : (m n o : Map) → Lasts m n → Lasts n o → Lasts m o
lasts_more m n o first second k = elim (second k) [
  | inl gone ↦ inl gone
  | inr same ↦ elim (first k) [
    | inl gone ↦ inl (same ∙ gone)
    | inr was ↦ inr (same ∙ was)
  ]
]

-- a part came into the registers that are left
pub puts_in : (h n o : Heap) (rest left qs : List Part) (to : ℕ) (p made : Part) → map_of n ≡ map_of h → n.copies ≡ h.copies → rest ≡ left → made ≡ p → qs ≡ set rest to made → Lasts (map_of n) (map_of o) → o.copies ≡ n.copies → PutsIn h o left qs to p
puts_in h n o rest left qs to p made same copies left_is is after lasts kept = record {
  registers = after ∙ ap (λ (l : List Part). set l to made) left_is ∙ ap (λ (q : Part). set left to q) is;
  spares = record { lasts = subst (λ (m : Map). Lasts m (map_of o)) same lasts; copies = kept ∙ copies };
}

-- a scalar came into a register
pub puts_scalar : (h n : Heap) (ps qs : List Part) (to : ℕ) (p : Part) → ((k : ℕ) → holds k p ≡ 0) → qs ≡ set ps to p → Lasts (map_of h) (map_of n) → n.copies ≡ h.copies → PutsScalar h n ps qs to
puts_scalar h n ps qs to p none after lasts kept = (p, none, puts_in h h n ps ps qs to p p refl refl refl refl after lasts kept)

-- the same part as one that was handed out
pub same_part : (made p : Part) (r : Result Part NoMemory) → r ≡ Ok made → r ≡ Ok p → made ≡ p
same_part made p r was is = cc

pub no_part : (e : NoMemory) (p : Part) (r : Result Part NoMemory) → r ≡ Err e → r ≡ Ok p → ⊥
no_part e p r was is = cc

-- a new node came, and the hold on it into the registers that are left
pub puts_new : (h n o : Heap) (rest left qs : List Part) (to : ℕ) (form : Form) (parts items : List Part) (made : Part) → IsNew (map_of h) (map_of n) made form items → n.copies ≡ h.copies → rest ≡ left → items ≡ parts → qs ≡ set rest to made → Lasts (map_of n) (map_of o) → o.copies ≡ n.copies → PutsNew h o left qs to form parts
puts_new h n o rest left qs to form parts items made new copies left_is is after lasts kept = record {
  made = made;
  between = map_of n;
  is_new = subst (IsNew (map_of h) (map_of n) made form) is new;
  registers = after ∙ ap (λ (l : List Part). set l to made) left_is;
  lasts = lasts;
  copies = kept ∙ copies;
}

-- an array was filled, of no items or of some, and the hold on it came into the registers
pub puts_filled : (h n o : Heap) (left qs : List Part) (to many : ℕ) (item made : Part) → (CanHave h many item → Came (map_of h) (map_of n) made list_form (replicate many item)) → (CanHave h many item → n.copies ≡ h.copies) → qs ≡ set left to made → Lasts (map_of n) (map_of o) → o.copies ≡ n.copies → PutsFilled h o left qs to many item
puts_filled h n o left qs to many item made came copies after lasts kept can =
    let new = came can in
    record {
      made = made;
      between = new.between;
      is_new = new.is_new;
      registers = after;
      lasts = lasts_more new.between (map_of n) (map_of o) new.lasts lasts;
      copies = kept ∙ copies can;
    }

-- the same, told of equal registers and parts
pub puts_new_as : (h n : Heap) (rest left qs : List Part) (to : ℕ) (form : Form) (parts items : List Part) → rest ≡ left → items ≡ parts → PutsNew h n rest qs to form items → PutsNew h n left qs to form parts
puts_new_as h n rest left qs to form parts items left_is is puts =
    subst (λ (l : List Part). PutsNew h n l qs to form parts) left_is (subst (PutsNew h n rest qs to form) is puts)

-- one register more is emptied
pub emptied_more : (qs rs : List Part) (numbers left rest : List ℕ) (ps : List Part) (i : ℕ) (p : Part) → left ≡ i ∷ rest → p ≡ Null → rs ≡ set qs i p → emptied qs left ≡ emptied ps numbers → emptied rs rest ≡ emptied ps numbers
emptied_more qs rs numbers left rest ps i p first null after was =
    ap (λ (l : List Part). emptied l rest) (after ∙ ap (λ (q : Part). set qs i q) null) ∙ sym (ap (emptied qs) first) ∙ was

some_number : (x y : ℤ) → Some x ≡ Some y → x ≡ y
some_number x y e = cc

-- what is read of a register that shows a number
pub read_number : (h : Heap) (ps : List Part) (s : Store) (r : ℕ) (number z : ℤ) → Reads h ps r number_in (Some number) → Shows (map_of h) s ps → slot s r ≡ Some (Whole z) → number ≡ z
read_number h ps s r number z reads shows is = some_number number z (reads s shows ∙ ap number_in is)

-- a number that is read from a register is the one that the registers show there
pub read_count : (h : Heap) (ps : List Part) (s : Store) (r many k : ℕ) (number : ℤ) → Reads h ps r number_in (Some number) → number ≡ pos many → Shows (map_of h) s ps → slot s r ≡ Some (Whole (pos k)) → many ≡ k
read_count h ps s r many k number reads count shows is =
    same_pos many k (sym count ∙ read_number h ps s r number (pos k) reads shows is)

-- the same, told of equal registers, numbers and parts
pub puts_filled_as : (h n : Heap) (rest left qs : List Part) (to many k : ℕ) (item p : Part) → rest ≡ left → item ≡ p → many ≡ k → PutsFilled h n rest qs to many item → PutsFilled h n left qs to k p
puts_filled_as h n rest left qs to many k item p left_is is count puts =
    subst (λ (l : List Part). PutsFilled h n l qs to k p) left_is (subst (λ (q : Part). PutsFilled h n rest qs to k q) is (subst (λ (j : ℕ). PutsFilled h n rest qs to j item) count puts))
