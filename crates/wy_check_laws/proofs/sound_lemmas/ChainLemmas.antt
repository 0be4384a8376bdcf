-- Terms that true literals join are equal, and so are the ends of a chain.
use Rattle.std.proofs.Common.{◌≡◌, ℕ, zero, suc, List, [], ◌∷◌, map, true, ◌&&◌, ◌||◌, ℤ, pos, neg_ℤ, ◌+ℤ◌, ◌-ℤ◌, ◌*ℤ◌, ◌≤ℤ◌, Some, refl, sym, ap, ◌∙◌, subst, arith}
use Rattle.std.proofs.lemmas.Int.{ints}
use Rattle.std.specs.Prelude.{slice_index_or, bytes_eq}
use Rattle.wy_lemmas.proofs.Choices.{both_parts as and_both, bits_are}
use Rattle.wy_lemmas.proofs.Lists.{bytes_are}
use Rattle.wy_lemmas.proofs.Options.{some_same as some_is}
use Rattle.wy_check_spec.specs.wy_value.Datum.{Datum, Null, Truth, Whole, Array, Record, Data, no_items, item, Fields, no_fields}
use Rattle.wy_check_spec.specs.wy_value.Datum as datum
use Rattle.wy_check_spec.specs.wy_term.Data.{same_datum, same_data, same_fields}
use Rattle.wy_check_spec.specs.wy_term.Data as shapes
use Rattle.wy_check_spec.specs.wy_term.Term as term
use Rattle.wy_check_spec.specs.wy_term.Term.{Symbol, Term, Of, Parts, no_parts, part, two, at_most, equal}
use Rattle.wy_check_spec.specs.wy_term.Same.{same_symbol, same_term}
use Rattle.wy_check_spec.specs.wy_term.Sorts.{Sort, int_sort, val_sort, formula_sort, sort_of, sort_in}
use Rattle.wy_check_spec.specs.wy_term.Meaning.{Names, Sense, numeric, valued, sense, senses_of, meaning, sense_at, data_in}
use Rattle.wy_check_spec.specs.wy_term.Meaning as means
use Rattle.wy_check_spec.specs.wy_term.Condition.{AllTrue}
use Rattle.wy_check_spec.proofs.wy_term_proofs.SameLemmas.{terms_are, symbols_are}
use Rattle.wy_check_spec.specs.wy_facts.Made.{is_at_most, is_equal}
use Rattle.wy_check_spec.proofs.wy_facts_proofs.SenseLemmas.{at_most_holds, equal_holds}
use Rattle.wy_check_spec.specs.judge.Node.{Literal}
use Rattle.wy_check_spec.specs.judge.Told.{AllTold}
use Rattle.wy_check_spec.specs.valid.Literals.{has_atom, joined_by, are_joined, arguments_joined, are_alike, is_chain, last_of}
use Rattle.wy_check_spec.specs.valid.Validity.{equality_of, chain_stated}
use Rattle.wy_check_laws.proofs.sound_lemmas.Basics.{or_cases, only_some, atom_told}
use Rattle.wy_check_laws.proofs.sound_lemmas.FormLemmas.{int_eq_is}

-- ---- equal data

mutual
  pub data_are_equal : (d e : Datum) → same_datum d e ≡ true → d ≡ e
  data_are_equal Null Null h = refl
  data_are_equal (Truth a) (Truth b) h = ap Truth (bits_are a b h)
  data_are_equal (Whole a) (Whole b) h = ap Whole (int_eq_is a b h)
  data_are_equal (Array ds) (Array es) h = ap Array (items_are_equal ds es h)
  data_are_equal (Record fs) (Record gs) h = ap Record (fields_are_equal fs gs h)
  data_are_equal d e h = absurd cc

  items_are_equal : (ds es : Data) → same_data ds es ≡ true → ds ≡ es
  items_are_equal no_items no_items h = refl
  items_are_equal (item d ds) (item e es) h =
      let p = and_both (same_datum d e) (same_data ds es) h in
      ap (λ (x : Datum). item x ds) (data_are_equal d e p.0) ∙ ap (item e) (items_are_equal ds es p.1)
  items_are_equal ds es h = absurd cc

  fields_are_equal : (fs gs : Fields) → same_fields fs gs ≡ true → fs ≡ gs
  fields_are_equal no_fields no_fields h = refl
  fields_are_equal (datum.field n d fs) (datum.field m e gs) h =
      let p = and_both (bytes_eq n m) (same_datum d e && same_fields fs gs) h in
      let q = and_both (same_datum d e) (same_fields fs gs) p.1 in
      ap (λ (x : List ℕ). datum.field x d fs) (bytes_are n m p.0) ∙ (ap (λ (x : Datum). datum.field m x fs) (data_are_equal d e q.0) ∙ ap (datum.field m e) (fields_are_equal fs gs q.1))
  fields_are_equal fs gs h = absurd cc

-- ---- senses of a sort

-- a sense has nothing but what its sort counts
abbrev IsOfSort : Sort → Sense → Type 0
IsOfSort int_sort s = s ≡ numeric s.number
IsOfSort val_sort s = s ≡ valued s.datum
IsOfSort formula_sort s = s ≡ means.logical s.truth

of_sort : (symbol : Symbol) (ps : List (Names → Sense)) (names : Names) → IsOfSort (sort_of symbol) (meaning symbol ps names)
of_sort (term.number z) ps names = refl
of_sort (term.int_name w n) ps names = refl
of_sort term.add ps names = refl
of_sort term.sub ps names = refl
of_sort term.neg ps names = refl
of_sort term.mul ps names = refl
of_sort term.div ps names = refl
of_sort term.rem ps names = refl
of_sort term.num ps names = refl
of_sort term.len ps names = refl
of_sort (term.val_name w n) ps names = refl
of_sort term.null ps names = refl
of_sort (term.truth b) ps names = refl
of_sort term.int ps names = refl
of_sort term.bool ps names = refl
of_sort term.array ps names = refl
of_sort term.repeat ps names = refl
of_sort term.update ps names = refl
of_sort term.get ps names = refl
of_sort (term.fields ns) ps names = refl
of_sort (term.field n) ps names = refl
of_sort (term.set_field n) ps names = refl
of_sort term.at_most ps names = refl
of_sort term.equal ps names = refl
of_sort (term.of_kind k) ps names = refl
of_sort (term.in_type n) ps names = refl
of_sort (term.every w n) ps names = refl
of_sort (term.exists w n) ps names = refl
of_sort term.denied ps names = refl
of_sort term.all_of ps names = refl
of_sort term.any_of ps names = refl

term_of_sort : (t : Term) (names : Names) → IsOfSort (sort_in t) (sense names t)
term_of_sort (Of symbol ps) names = of_sort symbol (senses_of ps) names

same_numeric : (a b : Sense) → IsOfSort int_sort a → IsOfSort int_sort b → a.number ≡ b.number → a ≡ b
same_numeric a b e f h = e ∙ (ap numeric h ∙ sym f)

same_valued : (a b : Sense) → IsOfSort val_sort a → IsOfSort val_sort b → a.datum ≡ b.datum → a ≡ b
same_valued a b e f h = e ∙ (ap valued h ∙ sym f)

-- ---- joined terms

between : (x y : ℤ) → means.at_most x y ≡ true → means.at_most y x ≡ true → x ≡ y
between x y e f = grind (arith, ints)

joined_same : (names : Names) (ls : List Literal) (a b : Sort) (s t : Term) → AllTold names ls → joined_by a b ls s t ≡ true → IsOfSort a (sense names s) → IsOfSort b (sense names t) → sense names s ≡ sense names t
joined_same names ls int_sort int_sort s t all e f g =
    let p = and_both (has_atom ls (two at_most s t)) (has_atom ls (two at_most t s)) e in
    same_numeric (sense names s) (sense names t) f g (between (sense names s).number (sense names t).number (atom_told names ls (two at_most s t) all p.0) (atom_told names ls (two at_most t s) all p.1))
joined_same names ls val_sort val_sort s t all e f g =
    or_cases (has_atom ls (two equal s t)) (has_atom ls (two equal t s)) (sense names s ≡ sense names t) e
    (λ h. same_valued (sense names s) (sense names t) f g (data_are_equal (sense names s).datum (sense names t).datum (atom_told names ls (two equal s t) all h)))
    (λ h. same_valued (sense names s) (sense names t) f g (sym (data_are_equal (sense names t).datum (sense names s).datum (atom_told names ls (two equal t s) all h))))
joined_same names ls a b s t all e f g = absurd cc

are_joined_same : (names : Names) (ls : List Literal) (s t : Term) → AllTold names ls → are_joined ls s t ≡ true → sense names s ≡ sense names t
are_joined_same names ls s t all e = joined_same names ls (sort_in s) (sort_in t) s t all e (term_of_sort s names) (term_of_sort t names)

-- ---- one head

-- the senses of parts
abbrev pub senses_at : Names → List (Names → Sense) → List Sense
senses_at names ps = map (λ (p : Names → Sense). p names) ps

arguments_same : (names : Names) (ls : List Literal) (ss ts : Parts) → AllTold names ls → arguments_joined ls ss ts ≡ true → senses_at names (senses_of ss) ≡ senses_at names (senses_of ts)
arguments_same names ls no_parts no_parts all e = refl
arguments_same names ls no_parts (part t ts) all e = absurd cc
arguments_same names ls (part s ss) no_parts all e = absurd cc
arguments_same names ls (part s ss) (part t ts) all e =
    let p = and_both (same_term s t || are_joined ls s t) (arguments_joined ls ss ts) e in
    let first : sense names s ≡ sense names t = or_cases (same_term s t) (are_joined ls s t) (sense names s ≡ sense names t) p.0 (λ h. ap (sense names) (terms_are s t h)) (λ h. are_joined_same names ls s t all h) in
    ap (λ (x : Sense). x ∷ senses_at names (senses_of ss)) first ∙ ap (λ (xs : List Sense). sense names t ∷ xs) (arguments_same names ls ss ts all p.1)

-- the part with a number is told by the senses alone
pub sense_there : (names : Names) (ps : List (Names → Sense)) (k : ℕ) → sense_at ps k names ≡ slice_index_or (senses_at names ps) k (numeric (pos 0))
sense_there names [] k = refl
sense_there names (p ∷ ps) zero = refl
sense_there names (p ∷ ps) (suc k) = sense_there names ps k

pub data_there : (names : Names) (ps : List (Names → Sense)) → data_in ps names ≡ map (λ (x : Sense). x.datum) (senses_at names ps)
data_there names [] = refl
data_there names (p ∷ ps) = ap (λ (ds : List Datum). (p names).datum ∷ ds) (data_there names ps)

module _ (names : Names) (ps qs : List (Names → Sense)) (e : senses_at names ps ≡ senses_at names qs) where
  pub at_same : (k : ℕ) → sense_at ps k names ≡ sense_at qs k names
  at_same k = sense_there names ps k ∙ (ap (λ (xs : List Sense). slice_index_or xs k (numeric (pos 0))) e ∙ sym (sense_there names qs k))

  pub data_same : data_in ps names ≡ data_in qs names
  data_same = data_there names ps ∙ (ap (λ (xs : List Sense). map (λ (x : Sense). x.datum) xs) e ∙ sym (data_there names qs))

  pub by_three : (g : Sense → Sense → Sense → Sense) → g (sense_at ps 0 names) (sense_at ps 1 names) (sense_at ps 2 names) ≡ g (sense_at qs 0 names) (sense_at qs 1 names) (sense_at qs 2 names)
  by_three g =
      ap (λ (x : Sense). g x (sense_at ps 1 names) (sense_at ps 2 names)) (at_same 0)
      ∙ (ap (λ (x : Sense). g (sense_at qs 0 names) x (sense_at ps 2 names)) (at_same 1)
      ∙ ap (λ (x : Sense). g (sense_at qs 0 names) (sense_at qs 1 names) x) (at_same 2))

-- Int terms and Val terms
abbrev pub IsTermSort : Sort → Type 0
IsTermSort int_sort = Unit {0}
IsTermSort val_sort = Unit {0}
IsTermSort formula_sort = ⊥

-- what a symbol of an Int term or a Val term makes of equal senses
pub same_head : (symbol : Symbol) (names : Names) (ps qs : List (Names → Sense)) → IsTermSort (sort_of symbol) → senses_at names ps ≡ senses_at names qs → meaning symbol ps names ≡ meaning symbol qs names
same_head (term.number z) names ps qs is e = refl
same_head (term.int_name w n) names ps qs is e = refl
same_head term.add names ps qs is e = by_three names ps qs e (λ x y z. numeric (x.number +ℤ y.number))
same_head term.sub names ps qs is e = by_three names ps qs e (λ x y z. numeric (x.number -ℤ y.number))
same_head term.neg names ps qs is e = by_three names ps qs e (λ x y z. numeric (neg_ℤ x.number))
same_head term.mul names ps qs is e = by_three names ps qs e (λ x y z. numeric (x.number *ℤ y.number))
same_head term.div names ps qs is e = by_three names ps qs e (λ x y z. numeric (shapes.quotient x.number y.number))
same_head term.rem names ps qs is e = by_three names ps qs e (λ x y z. numeric (shapes.remainder x.number y.number))
same_head term.num names ps qs is e = by_three names ps qs e (λ x y z. numeric (shapes.number_in x.datum))
same_head term.len names ps qs is e = by_three names ps qs e (λ x y z. numeric (shapes.length_in x.datum))
same_head (term.val_name w n) names ps qs is e = refl
same_head term.null names ps qs is e = refl
same_head (term.truth b) names ps qs is e = refl
same_head term.int names ps qs is e = by_three names ps qs e (λ x y z. valued (Whole x.number))
same_head term.bool names ps qs is e = by_three names ps qs e (λ x y z. valued (Truth x.truth))
same_head term.array names ps qs is e = ap (λ (ds : List Datum). valued (Array (shapes.items_with ds))) (data_same names ps qs e)
same_head term.repeat names ps qs is e = by_three names ps qs e (λ x y z. valued (shapes.repeated x.datum y.number))
same_head term.update names ps qs is e = by_three names ps qs e (λ x y z. valued (shapes.with_element x.datum y.number z.datum))
same_head term.get names ps qs is e = by_three names ps qs e (λ x y z. valued (shapes.element x.datum y.number))
same_head (term.fields ns) names ps qs is e = ap (λ (ds : List Datum). valued (Record (shapes.fields_with ns ds))) (data_same names ps qs e)
same_head (term.field n) names ps qs is e = by_three names ps qs e (λ x y z. valued (shapes.field_in x.datum n))
same_head (term.set_field n) names ps qs is e = by_three names ps qs e (λ x y z. valued (shapes.with_field x.datum n y.datum))
same_head symbol names ps qs is e = absurd is

alike_same : (names : Names) (ls : List Literal) (s t : Term) → AllTold names ls → IsTermSort (sort_in s) → are_alike ls s t ≡ true → sense names s ≡ sense names t
alike_same names ls (Of a ps) (Of b qs) all is e =
    let p = and_both (same_symbol a b) (arguments_joined ls ps qs) e in
    same_head a names (senses_of ps) (senses_of qs) is (arguments_same names ls ps qs all p.1)
    ∙ ap (λ (x : Symbol). meaning x (senses_of qs) names) (symbols_are a b p.0)

-- ---- chains

joined_sorts : (a b : Sort) (ls : List Literal) (s t : Term) → joined_by a b ls s t ≡ true → a ≡ b
joined_sorts int_sort int_sort ls s t e = refl
joined_sorts val_sort val_sort ls s t e = refl
joined_sorts a b ls s t e = absurd cc

alike_sorts : (ls : List Literal) (s t : Term) → are_alike ls s t ≡ true → sort_in s ≡ sort_in t
alike_sorts ls (Of a ps) (Of b qs) e = ap sort_of (symbols_are a b (and_both (same_symbol a b) (arguments_joined ls ps qs) e).0)

neighbours_sorts : (ls : List Literal) (s t : Term) → (are_joined ls s t || are_alike ls s t) ≡ true → sort_in s ≡ sort_in t
neighbours_sorts ls s t e = or_cases (are_joined ls s t) (are_alike ls s t) (sort_in s ≡ sort_in t) e (λ h. joined_sorts (sort_in s) (sort_in t) ls s t h) (λ h. alike_sorts ls s t h)

-- the ends of a chain are of one sort
pub ends_sorts : (ls : List Literal) (s : Term) (ts : List Term) → is_chain ls s ts ≡ true → sort_in s ≡ sort_in (last_of s ts)
ends_sorts ls s [] e = refl
ends_sorts ls s (t ∷ ts) e =
    let p = and_both (are_joined ls s t || are_alike ls s t) (is_chain ls t ts) e in
    neighbours_sorts ls s t p.0 ∙ ends_sorts ls t ts p.1

ends_same : (names : Names) (ls : List Literal) (s : Term) (ts : List Term) → AllTold names ls → IsTermSort (sort_in s) → is_chain ls s ts ≡ true → sense names s ≡ sense names (last_of s ts)
ends_same names ls s [] all is e = refl
ends_same names ls s (t ∷ ts) all is e =
    let p = and_both (are_joined ls s t || are_alike ls s t) (is_chain ls t ts) e in
    or_cases (are_joined ls s t) (are_alike ls s t) (sense names s ≡ sense names t) p.0 (λ h. are_joined_same names ls s t all h) (λ h. alike_same names ls s t all is h)
    ∙ ends_same names ls t ts all (subst IsTermSort (neighbours_sorts ls s t p.0) is) p.1

same_order : (a b : ℤ) → a ≡ b → a ≤ℤ b
same_order a b e = omega (arith, ints, e)

-- equal terms meet what an equality of their sort says
equality_holds : (names : Names) (a : Sort) (s t : Term) (fs : List Term) → (IsTermSort a → sense names s ≡ sense names t) → equality_of a s t ≡ Some fs → AllTrue names fs
equality_holds names val_sort s t fs same e =
    subst (AllTrue names) (some_is (is_equal s t ∷ []) fs e) (equal_holds names s t (ap (λ (x : Sense). x.datum) (same tt)), tt)
equality_holds names int_sort s t fs same e =
    let is : (sense names s).number ≡ (sense names t).number = ap (λ (x : Sense). x.number) (same tt) in
    subst (AllTrue names) (some_is (is_at_most s t ∷ is_at_most t s ∷ []) fs e) (at_most_holds names s t (same_order (sense names s).number (sense names t).number is), (at_most_holds names t s (same_order (sense names t).number (sense names s).number (sym is)), tt))
equality_holds names formula_sort s t fs same e = absurd cc

-- what a chain states is true
pub chain_holds : (names : Names) (ls : List Literal) (ts fs : List Term) → AllTold names ls → chain_stated ls ts ≡ Some fs → AllTrue names fs
chain_holds names ls [] fs all e = absurd cc
chain_holds names ls (t ∷ ts) fs all e =
    let h = only_some (is_chain ls t ts) (equality_of (sort_in t) t (last_of t ts)) fs e in
    equality_holds names (sort_in t) t (last_of t ts) fs (λ is. ends_same names ls t ts all is h.0) h.1
