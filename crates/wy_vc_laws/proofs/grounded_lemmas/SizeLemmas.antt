-- How large data are, and an order of questions by three numbers.
use Rattle.std.proofs.Common.{◌≡◌, ℕ, zero, suc, ◌+◌, ◌<◌, ◌≤◌, Bool, true, false, eqb, nat_lt, ◌&&◌, ◌||◌, ◌⊎◌, inl, inr, List, ℤ, pos, negsuc, refl, ◌∙◌, subst, arith}
use Rattle.std.specs.Prelude.{bytes_eq}
use Rattle.std.proofs.lemmas.Bool.{lt-ltb, ltb-true, eqb-true, cases_lt}
use Rattle.wy_sound_terms.proofs.wy_term_subst_proofs.grounded_lemmas.ChainLemmas.{either_size}
use Rattle.wy_lemmas.proofs.Choices.{eqb_itself as eqb_self, both_parts as both_true, or_cases as first_or, or_left as or_first, both_true as and_both, or_right as or_second}
use Rattle.wy_check_laws.specs.wy_value.Datum as datum
use Rattle.wy_check_laws.specs.wy_value.Datum.{Datum, Null, Truth, Whole, Array, Record, Data, no_items, item, Fields, no_fields}
use Rattle.wy_check_laws.specs.wy_term.Term.{array_kind, record_kind}
use Rattle.wy_check_laws.specs.wy_term.Data.{nth, item_at, element, field_of, field_in, is_of_kind}
use Rattle.wy_check_laws.specs.wy_term.Unfolding.{Question, IsFounded, founded}

-- ---- sizes

abbrev mutual
  -- how many arrays and records there are in a datum
  pub size : Datum → ℕ
  size Null = 0
  size (Truth b) = 0
  size (Whole z) = 0
  size (Array items) = suc (size_items items)
  size (Record parts) = suc (size_fields parts)

  size_items : Data → ℕ
  size_items no_items = 0
  size_items (item d rest) = size d + size_items rest

  size_fields : Fields → ℕ
  size_fields no_fields = 0
  size_fields (datum.field n d rest) = size d + size_fields rest

field_of_size : (parts : Fields) (name : List ℕ) → size (field_of parts name) ≤ size_fields parts
field_of_size no_fields name = omega arith
field_of_size (datum.field n d rest) name = either_size (bytes_eq n name) d (field_of rest name) (size_fields rest) (field_of_size rest name)

nth_size : (items : Data) (k : ℕ) → size (nth items k) ≤ size_items items
nth_size no_items k = omega arith
nth_size (item d rest) zero = omega arith
nth_size (item d rest) (suc k) = let le : size (nth rest k) ≤ size_items rest = nth_size rest k in omega (arith, le)

item_size : (items : Data) (z : ℤ) → size (item_at items z) ≤ size_items items
item_size items (pos k) = nth_size items k
item_size items (negsuc k) = omega arith

-- a part is smaller than the whole, or the size is 0
pub element_size : (d : Datum) (z : ℤ) (i : ℕ) → size d ≤ suc i → size (element d z) ≤ i
element_size Null z i le = omega arith
element_size (Truth b) z i le = omega arith
element_size (Whole w) z i le = omega arith
element_size (Array items) z i le = let less : size (item_at items z) ≤ size_items items = item_size items z in omega (arith, less, le)
element_size (Record parts) z i le = omega arith

pub field_size : (d : Datum) (name : List ℕ) (i : ℕ) → size d ≤ suc i → size (field_in d name) ≤ i
field_size Null name i le = omega arith
field_size (Truth b) name i le = omega arith
field_size (Whole w) name i le = omega arith
field_size (Array items) name i le = omega arith
field_size (Record parts) name i le = let less : size (field_of parts name) ≤ size_fields parts = field_of_size parts name in omega (arith, less, le)

-- what has no size is no array and no record
pub no_array : (d : Datum) → size d ≤ 0 → is_of_kind array_kind d ≡ false
no_array Null le = refl
no_array (Truth b) le = refl
no_array (Whole z) le = refl
no_array (Array items) le = absurd (omega (arith, le))
no_array (Record parts) le = refl

pub no_record : (names : List (List ℕ)) (d : Datum) → size d ≤ 0 → is_of_kind (record_kind names) d ≡ false
no_record names Null le = refl
no_record names (Truth b) le = refl
no_record names (Whole z) le = refl
no_record names (Array items) le = refl
no_record names (Record parts) le = absurd (omega (arith, le))

-- ---- the order

-- by the first number; where these are equal by the size of the datum; where these are equal by the second number
abbrev pub goes_before : (ℕ → ℕ) → (ℕ → ℕ) → Question → Question → Bool
goes_before level rank p q =
    nat_lt (level p.type_number) (level q.type_number)
    || ((eqb (level p.type_number) (level q.type_number) && nat_lt (size p.datum) (size q.datum))
    || (eqb (level p.type_number) (level q.type_number) && (eqb (size p.datum) (size q.datum) && nat_lt (rank p.type_number) (rank q.type_number))))

lower_or_same : (a b : ℕ) → a ≤ b → (a < b) ⊎ (a ≡ b)
lower_or_same a b le = elim (cases_lt a b) as (λ _. (a < b) ⊎ (a ≡ b)) [ inl less ↦ inl less | inr past ↦ inr (omega (arith, le, past)) ]

-- the same as numbers
data IsBefore (a i r b j s : ℕ) : Type 0 where
  of_lower : a < b → IsBefore a i r b j s
  of_smaller : a ≡ b → i < j → IsBefore a i r b j s
  of_earlier : a ≡ b → i ≡ j → r < s → IsBefore a i r b j s

before_cases : (a i r b j s : ℕ) → (nat_lt a b || ((eqb a b && nat_lt i j) || (eqb a b && (eqb i j && nat_lt r s)))) ≡ true → IsBefore a i r b j s
before_cases a i r b j s h = by (first_or (nat_lt a b) ((eqb a b && nat_lt i j) || (eqb a b && (eqb i j && nat_lt r s))) h)
  where
    smaller : (eqb a b && nat_lt i j) ≡ true → IsBefore a i r b j s
    smaller t = let g = both_true (eqb a b) (nat_lt i j) t in of_smaller (eqb-true a b g.0) (ltb-true i j g.1)

    earlier : (eqb a b && (eqb i j && nat_lt r s)) ≡ true → IsBefore a i r b j s
    earlier t =
        let g = both_true (eqb a b) (eqb i j && nat_lt r s) t in
        let k = both_true (eqb i j) (nat_lt r s) g.1 in of_earlier (eqb-true a b g.0) (eqb-true i j k.0) (ltb-true r s k.1)

    rest : ((eqb a b && nat_lt i j) ≡ true) ⊎ ((eqb a b && (eqb i j && nat_lt r s)) ≡ true) → IsBefore a i r b j s
    rest (inl t) = smaller t
    rest (inr t) = earlier t

    by : (nat_lt a b ≡ true) ⊎ (((eqb a b && nat_lt i j) || (eqb a b && (eqb i j && nat_lt r s))) ≡ true) → IsBefore a i r b j s
    by (inl t) = of_lower (ltb-true a b t)
    by (inr t) = rest (first_or (eqb a b && nat_lt i j) (eqb a b && (eqb i j && nat_lt r s)) t)

same_numbers : (a b : ℕ) → a ≡ b → eqb a b ≡ true
same_numbers a b e = subst (λ (c : ℕ). eqb a c ≡ true) e (eqb_self a)

pub lower_before : (level rank : ℕ → ℕ) (p q : Question) → level p.type_number < level q.type_number → goes_before level rank p q ≡ true
lower_before level rank p q less =
    or_first (nat_lt (level p.type_number) (level q.type_number)) ((eqb (level p.type_number) (level q.type_number) && nat_lt (size p.datum) (size q.datum)) || (eqb (level p.type_number) (level q.type_number) && (eqb (size p.datum) (size q.datum) && nat_lt (rank p.type_number) (rank q.type_number)))) (lt-ltb (level p.type_number) (level q.type_number) less)

smaller_before : (level rank : ℕ → ℕ) (p q : Question) → level p.type_number ≡ level q.type_number → size p.datum < size q.datum → goes_before level rank p q ≡ true
smaller_before level rank p q same less =
    let a = level p.type_number in
    let b = level q.type_number in
    let i = size p.datum in
    let j = size q.datum in
    or_second (nat_lt a b) ((eqb a b && nat_lt i j) || (eqb a b && (eqb i j && nat_lt (rank p.type_number) (rank q.type_number))))
    (or_first (eqb a b && nat_lt i j) (eqb a b && (eqb i j && nat_lt (rank p.type_number) (rank q.type_number))) (and_both (eqb a b) (nat_lt i j) (same_numbers a b same) (lt-ltb i j less)))

earlier_before : (level rank : ℕ → ℕ) (p q : Question) → level p.type_number ≡ level q.type_number → size p.datum ≡ size q.datum → rank p.type_number < rank q.type_number → goes_before level rank p q ≡ true
earlier_before level rank p q same equal less =
    let a = level p.type_number in
    let b = level q.type_number in
    let i = size p.datum in
    let j = size q.datum in
    let r = rank p.type_number in
    let s = rank q.type_number in
    or_second (nat_lt a b) ((eqb a b && nat_lt i j) || (eqb a b && (eqb i j && nat_lt r s)))
    (or_second (eqb a b && nat_lt i j) (eqb a b && (eqb i j && nat_lt r s)) (and_both (eqb a b) (eqb i j && nat_lt r s) (same_numbers a b same) (and_both (eqb i j) (nat_lt r s) (same_numbers i j equal) (lt-ltb r s less))))

-- a question of no higher level comes before where its datum is smaller
pub part_before : (level rank : ℕ → ℕ) (p q : Question) → level p.type_number ≤ level q.type_number → size p.datum < size q.datum → goes_before level rank p q ≡ true
part_before level rank p q le less = by (lower_or_same (level p.type_number) (level q.type_number) le)
  where
    by : (level p.type_number < level q.type_number) ⊎ (level p.type_number ≡ level q.type_number) → goes_before level rank p q ≡ true
    by (inl l) = lower_before level rank p q l
    by (inr e) = smaller_before level rank p q e less

-- so does one of an earlier type where its datum isn't greater
pub bare_before : (level rank : ℕ → ℕ) (p q : Question) → level p.type_number ≤ level q.type_number → size p.datum ≤ size q.datum → rank p.type_number < rank q.type_number → goes_before level rank p q ≡ true
bare_before level rank p q le at_most less = by (lower_or_same (level p.type_number) (level q.type_number) le) (lower_or_same (size p.datum) (size q.datum) at_most)
  where
    by : (level p.type_number < level q.type_number) ⊎ (level p.type_number ≡ level q.type_number) → (size p.datum < size q.datum) ⊎ (size p.datum ≡ size q.datum) → goes_before level rank p q ≡ true
    by (inl l) s = lower_before level rank p q l
    by (inr e) (inl s) = smaller_before level rank p q e s
    by (inr e) (inr s) = earlier_before level rank p q e s less

-- ---- no endless descents

module _ (level rank : ℕ → ℕ) where
  abbrev Founded : Question → Type 0
  Founded q = IsFounded (goes_before level rank) q

  -- every question of this level or a lower one, of this size or a smaller one, and of a rank below this one, is founded
  abbrev BelowAll : ℕ → ℕ → ℕ → Type 0
  BelowAll a i r = (q : Question) → IsBefore (level q.type_number) (size q.datum) (rank q.type_number) a i r → Founded q

  at_question : (q : Question) → BelowAll (level q.type_number) (size q.datum) (rank q.type_number) → Founded q
  at_question q below =
      founded q (λ p t. below p (before_cases (level p.type_number) (size p.datum) (rank p.type_number) (level q.type_number) (size q.datum) (rank q.type_number) t))

  -- by rank, where those of lower levels and those of smaller data are founded
  by_rank : (a i r : ℕ) → ((q : Question) → level q.type_number < a → Founded q) → ((q : Question) → level q.type_number ≡ a → size q.datum < i → Founded q) → (q : Question) → level q.type_number ≡ a → size q.datum ≡ i → rank q.type_number < r → Founded q
  by_rank a i zero lower smaller q e f less = absurd (omega (arith, less))
  by_rank a i (suc r) lower smaller q e f less = at_question q (below (λ p g h t. by_rank a i r lower smaller p g h t))
    where
      below : ((p : Question) → level p.type_number ≡ a → size p.datum ≡ i → rank p.type_number < r → Founded p) → BelowAll (level q.type_number) (size q.datum) (rank q.type_number)
      below earlier p (of_lower l) = lower p (omega (arith, l, e))
      below earlier p (of_smaller l s) = smaller p (l ∙ e) (omega (arith, s, f))
      below earlier p (of_earlier l s t) = earlier p (l ∙ e) (s ∙ f) (omega (arith, t, less))

  by_size : (a i : ℕ) → ((q : Question) → level q.type_number < a → Founded q) → (q : Question) → level q.type_number ≡ a → size q.datum < i → Founded q
  by_size a zero lower q e less = absurd (omega (arith, less))
  by_size a (suc i) lower q e less = by (λ p g s. by_size a i lower p g s) (lower_or_same (size q.datum) i (omega (arith, less)))
    where
      by : ((p : Question) → level p.type_number ≡ a → size p.datum < i → Founded p) → (size q.datum < i) ⊎ (size q.datum ≡ i) → Founded q
      by smaller (inl l) = smaller q e l
      by smaller (inr f) = by_rank a i (suc (rank q.type_number)) lower smaller q e f (omega arith)

  by_level : (a : ℕ) (q : Question) → level q.type_number < a → Founded q
  by_level zero q less = absurd (omega (arith, less))
  by_level (suc a) q less = by (λ p l. by_level a p l) (lower_or_same (level q.type_number) a (omega (arith, less)))
    where
      by : ((p : Question) → level p.type_number < a → Founded p) → (level q.type_number < a) ⊎ (level q.type_number ≡ a) → Founded q
      by lower (inl l) = lower q l
      by lower (inr e) = by_size a (suc (size q.datum)) lower q e (omega arith)

  pub founded_by_three : (q : Question) → Founded q
  founded_by_three q = by_level (suc (level q.type_number)) q (omega arith)
