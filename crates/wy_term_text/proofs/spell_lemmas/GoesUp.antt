-- What stands for a thing to be read covers all that may come of it, and where nothing stands for it nothing may come.
use Rattle.std.proofs.Common.{◌≡◌, ◌↔◌, ℕ, Bool, true, false, List, [], ◌∷◌, ◌++◌, Option, Some, None, codes, refl, sym, ap, ◌∙◌, subst, arith, length, ◌≤◌, ◌^◌, ℤ, append_assoc, if◌then◌else◌, ◌==◌, eq-eqb, IsTrue}
use Rattle.std.proofs.lemmas.List.{append-nil}
use Rattle.std.specs.Fmt.{decimal}
use Rattle.std.specs.Str.{chars}
use Rattle.wy_term.specs.wy_data.Words.{is_word}
use Rattle.wy_term.proofs.wy_lemmas_proofs.Choices.{unlike as true_false}
use Rattle.wy_term.proofs.wy_lemmas_proofs.Lists.{append_cancel as same_tail}
use Rattle.wy_term.specs.wy_data.scan.Front.{IsBehind, NotBehind, heads, is_word_byte}
use Rattle.wy_term.specs.wy_data.scan.Numbers.{IsWholeAt, IsNaturalAt, NoWhole, NoNatural}
use Rattle.wy_term.specs.wy_data.scan.Words.{IsWord, IsWordAt, NoWord, IsNumberedAt, NoNumbered, AreFields, AreWords}
use Rattle.wy_term.proofs.wy_data_proofs.scan_lemmas.RunLemmas.{RunsSame}
use Rattle.wy_term.proofs.wy_data_proofs.scan_lemmas.WordLemmas.{from_true}
use Rattle.wy_term.proofs.wy_data_proofs.scan_lemmas.OneReading.{one_natural, one_whole, one_word, one_numbered}
use Rattle.wy_term.specs.Term.{DataKind, null_kind, bool_kind, int_kind, array_kind, record_kind, Symbol, Term, Of, Parts, no_parts, part}
use Rattle.wy_term.specs.Term as term
use Rattle.wy_term.specs.Sorts.{Sort, int_sort, val_sort, formula_sort}
use Rattle.wy_term.specs.Folding.{binder}
use Rattle.wy_term_text.specs.declared.spell.lead.Lead.{Lead}
use Rattle.wy_term_text.specs.declared.spell.lead.Class.{Class}
use Rattle.wy_term_text.specs.declared.spell.lead.Class.TheVariants as class
use Rattle.wy_term_text.specs.spell.Grammar.{Series, elements, members, Spans, Laid, gapped, more_of, field_gaps, closing, between, sort_in}
use Rattle.wy_term_text.specs.spell.Made.{made, made_parts}
use Rattle.wy_term_text.specs.spell.Todo.{Work, word, a_term, root, first, more, first_field, more_fields, field_name, set_field_name, type_number, bind, listed, Ways, Rooted, FieldsBehind, All, Goes, Covers, Refuses}
use Rattle.wy_term_text.specs.spell.Fields.{IsFieldRead, NoField}
use Rattle.wy_term_text.specs.spell.Heads.{lead_at, class_at, begins_with, led_at, led_by, with_rest, works_of, parted, IntBy, ValBy, FormulaBy, ByLead, ByWorks}
use Rattle.wy_term_text.proofs.spell_lemmas.IntHeads.{int_up}
use Rattle.wy_term_text.proofs.spell_lemmas.ValHeads.{val_up}
use Rattle.wy_term_text.proofs.spell_lemmas.FormulaHeads.{formula_up}
use Rattle.wy_term_text.proofs.spell_lemmas.GoesLemmas.{goes_append}

-- ---- texts

-- what follows the word is what was found behind it
pub tail_of : (w i k l : List ℕ) → IsBehind w i k → i ≡ w ++ l → l ≡ k
tail_of w i k l at e = same_tail w l k (sym e ∙ at.is)

-- texts with different first bytes
pub apart : (x y : ℕ) (k l : List ℕ) → x ∷ k ≡ y ∷ l → (x == y) ≡ false → ⊥
apart x y k l e differ = let same : x ≡ y = cc in true_false (x == y) (eq-eqb x y same) differ

no_empty_word : IsWord [] → ⊥
unfolding chars
no_empty_word w = true_false (is_word (chars [])) w.name.1 refl

-- a word begins with a byte of a word
pub no_word_byte : (n : List ℕ) (c : ℕ) (j k : List ℕ) → IsWord n → is_word_byte c ≡ false → n ++ j ≡ c ∷ k → ⊥
no_word_byte [] c j k named other e = no_empty_word named
no_word_byte (b ∷ n) c j k named other e = let same : b ≡ c = cc in true_false (is_word_byte c) (subst (λ x. is_word_byte x ≡ true) same named.bytes.0) other

-- the one word there
pub word_is : (i n j m k : List ℕ) → IsWordAt i n j → IsWord m → heads is_word_byte k ≡ false → i ≡ m ++ k → RunsSame n m j k
word_is i n j m k at named ends e = one_word i n m j k at (record { is = e; word = named; ends = ends })

-- ---- covers

pub covers : (w : Work) (i : List ℕ) (base : ℕ) (ws vs : List Work) (k : List ℕ) → ws ≡ vs → ((rest : List Work) (done : List Term) (r : Term) → length done ≡ base → Goes (w ∷ rest) i done r → Goes (vs ++ rest) k done r) → Covers w i base ws k
covers w i base ws vs k same f = record { complete = λ rest done r is h. subst (λ (us : List Work). Goes (us ++ rest) k done r) (sym same) (f rest done r is h) }

goes_of_all : (ws rest : List Work) (k : List ℕ) (done : List Term) (r : Term) → All ws (Goes rest) k done r → Goes (ws ++ rest) k done r
goes_of_all ws rest k done r h = subst (λ (next : Ways). next k done r) (sym (goes_append ws rest)) h

-- ---- a text

pub cover_word : (w i k : List ℕ) (base : ℕ) (ws : List Work) → ws ≡ [] → IsBehind w i k → Covers (word w) i base ws k
cover_word w i k base ws same at = covers (word w) i base ws [] k same by
  where
    by : (rest : List Work) (done : List Term) (r : Term) → length done ≡ base → Goes (word w ∷ rest) i done r → Goes rest k done r
    by rest done r is (l, e, h) = subst (λ x. Goes rest x done r) (tail_of w i k l at e) h

pub refuse_word : (w i : List ℕ) (base : ℕ) → NotBehind w i → Refuses (word w) i base
refuse_word w i base none = record { none = by }
  where
    by : (rest : List Work) (done : List Term) (r : Term) → length done ≡ base → Goes (word w ∷ rest) i done r → ⊥
    by rest done r is (l, e, h) = none l (record { is = e })

-- ---- terms

pub int_front : (t : Term) (base : ℕ) (next : Ways) (i k : List ℕ) (done : List Term) (r : Term) → length done ≡ base → Spans t int_sort i k → next k (done ++ made t ∷ []) r → IntBy (class_at i) base i next done r
int_front (Of symbol ps) base next i k done r is spans h = int_up symbol ps base next i k done r is spans h

pub val_front : (t : Term) (base : ℕ) (next : Ways) (i k : List ℕ) (done : List Term) (r : Term) → length done ≡ base → Spans t val_sort i k → next k (done ++ made t ∷ []) r → ValBy (class_at i) base i next done r
val_front (Of symbol ps) base next i k done r is spans h = val_up symbol ps base next i k done r is spans h

formula_front : (t : Term) (base : ℕ) (next : Ways) (i k : List ℕ) (done : List Term) (r : Term) → length done ≡ base → Spans t formula_sort i k → next k (done ++ made t ∷ []) r → FormulaBy (begins_with i) base i next done r
formula_front (Of symbol ps) base next i k done r is spans h = formula_up symbol ps base next i k done r is spans h

-- what comes of a term, where its class is known
int_goes : (c : Class) (base : ℕ) (i : List ℕ) (rest : List Work) (done : List Term) (r : Term) → c ≡ class_at i → length done ≡ base → Goes (a_term int_sort ∷ rest) i done r → IntBy c base i (Goes rest) done r
int_goes c base i rest done r is same (t, k, spans, h) = subst (λ d. IntBy d base i (Goes rest) done r) (sym is) (int_front t base (Goes rest) i k done r same spans h)

val_goes : (c : Class) (base : ℕ) (i : List ℕ) (rest : List Work) (done : List Term) (r : Term) → c ≡ class_at i → length done ≡ base → Goes (a_term val_sort ∷ rest) i done r → ValBy c base i (Goes rest) done r
val_goes c base i rest done r is same (t, k, spans, h) = subst (λ d. ValBy d base i (Goes rest) done r) (sym is) (val_front t base (Goes rest) i k done r same spans h)

formula_goes : (s : Sort) (base : ℕ) (i : List ℕ) (rest : List Work) (done : List Term) (r : Term) → s ≡ begins_with i → length done ≡ base → Goes (a_term formula_sort ∷ rest) i done r → FormulaBy s base i (Goes rest) done r
formula_goes s base i rest done r is same (t, k, spans, h) = subst (λ d. FormulaBy d base i (Goes rest) done r) (sym is) (formula_front t base (Goes rest) i k done r same spans h)

-- a number or a name

pub cover_number : (i k : List ℕ) (z : ℤ) (base : ℕ) (ws : List Work) → ws ≡ (root (term.number z) base ∷ []) → class.Number ≡ class_at i → IsWholeAt i z k → Covers (a_term int_sort) i base ws k
cover_number i k z base ws same c at = covers (a_term int_sort) i base ws (root (term.number z) base ∷ []) k same (λ rest done r is h. by rest done r (int_goes class.Number base i rest done r c is h))
  where
    by : (rest : List Work) (done : List Term) (r : Term) → IntBy class.Number base i (Goes rest) done r → Goes (root (term.number z) base ∷ rest) k done r
    by rest done r (y, l, here, h) =
        let o = one_whole i y z l k here at in
        subst (λ x. Rooted (term.number x) base (Goes rest) k done r) o.number (subst (λ x. Rooted (term.number y) base (Goes rest) x done r) o.rest h)

pub refuse_number : (i : List ℕ) (base : ℕ) → class.Number ≡ class_at i → NoWhole i → Refuses (a_term int_sort) i base
refuse_number i base c none = record { none = λ rest done r is h. by rest done r (int_goes class.Number base i rest done r c is h) }
  where
    by : (rest : List Work) (done : List Term) (r : Term) → IntBy class.Number base i (Goes rest) done r → ⊥
    by rest done r (y, l, here, h) = none y l here

pub cover_int_name : (i w k : List ℕ) (n base : ℕ) (ws : List Work) → ws ≡ (root (term.int_name w n) base ∷ []) → class.IntName ≡ class_at i → IsNumberedAt 35 i w n k → Covers (a_term int_sort) i base ws k
cover_int_name i w k n base ws same c at = covers (a_term int_sort) i base ws (root (term.int_name w n) base ∷ []) k same (λ rest done r is h. by rest done r (int_goes class.IntName base i rest done r c is h))
  where
    by : (rest : List Work) (done : List Term) (r : Term) → IntBy class.IntName base i (Goes rest) done r → Goes (root (term.int_name w n) base ∷ rest) k done r
    by rest done r (v, m, l, here, h) =
        let o = one_numbered 35 i v w m n l k refl here at in
        subst (λ x. Rooted (term.int_name x n) base (Goes rest) k done r) o.word (subst (λ x. Rooted (term.int_name v x) base (Goes rest) k done r) o.number (subst (λ x. Rooted (term.int_name v m) base (Goes rest) x done r) o.rest h))

pub refuse_int_name : (i : List ℕ) (base : ℕ) → class.IntName ≡ class_at i → NoNumbered 35 i → Refuses (a_term int_sort) i base
refuse_int_name i base c none = record { none = λ rest done r is h. by rest done r (int_goes class.IntName base i rest done r c is h) }
  where
    by : (rest : List Work) (done : List Term) (r : Term) → IntBy class.IntName base i (Goes rest) done r → ⊥
    by rest done r (v, m, l, here, h) = none v m l here

pub refuse_val_name_as_int : (i : List ℕ) (base : ℕ) → class.ValName ≡ class_at i → Refuses (a_term int_sort) i base
refuse_val_name_as_int i base c = record { none = λ rest done r is h. int_goes class.ValName base i rest done r c is h }

pub cover_val_name : (i w k : List ℕ) (n base : ℕ) (ws : List Work) → ws ≡ (root (term.val_name w n) base ∷ []) → class.ValName ≡ class_at i → IsNumberedAt 46 i w n k → Covers (a_term val_sort) i base ws k
cover_val_name i w k n base ws same c at = covers (a_term val_sort) i base ws (root (term.val_name w n) base ∷ []) k same (λ rest done r is h. by rest done r (val_goes class.ValName base i rest done r c is h))
  where
    by : (rest : List Work) (done : List Term) (r : Term) → ValBy class.ValName base i (Goes rest) done r → Goes (root (term.val_name w n) base ∷ rest) k done r
    by rest done r (v, m, l, here, h) =
        let o = one_numbered 46 i v w m n l k refl here at in
        subst (λ x. Rooted (term.val_name x n) base (Goes rest) k done r) o.word (subst (λ x. Rooted (term.val_name v x) base (Goes rest) k done r) o.number (subst (λ x. Rooted (term.val_name v m) base (Goes rest) x done r) o.rest h))

pub refuse_val_name : (i : List ℕ) (base : ℕ) → class.ValName ≡ class_at i → NoNumbered 46 i → Refuses (a_term val_sort) i base
refuse_val_name i base c none = record { none = λ rest done r is h. by rest done r (val_goes class.ValName base i rest done r c is h) }
  where
    by : (rest : List Work) (done : List Term) (r : Term) → ValBy class.ValName base i (Goes rest) done r → ⊥
    by rest done r (v, m, l, here, h) = none v m l here

pub refuse_number_as_val : (i : List ℕ) (base : ℕ) → class.Number ≡ class_at i → Refuses (a_term val_sort) i base
refuse_number_as_val i base c = record { none = λ rest done r is h. val_goes class.Number base i rest done r c is h }

pub refuse_int_name_as_val : (i : List ℕ) (base : ℕ) → class.IntName ≡ class_at i → Refuses (a_term val_sort) i base
refuse_int_name_as_val i base c = record { none = λ rest done r is h. val_goes class.IntName base i rest done r c is h }

-- leads

led_goes : (sort : Sort) (base : ℕ) (o : Option (Lead × List ℕ)) (ws : List Work) (k : List ℕ) (next : Ways) (done : List Term) (r : Term) → led_by sort base o ≡ Some (ws, k) → ByLead sort base o next done r → All ws next k done r
led_goes sort base None ws k next done r e h = absurd h
led_goes sort base (Some p) ws k next done r e (stops, h) = works (works_of sort p.0 base) (subst (λ b. (if b then None else with_rest (works_of sort p.0 base) p.1) ≡ Some (ws, k)) stops e) h
  where
    works : (o : Option (List Work)) → with_rest o p.1 ≡ Some (ws, k) → ByWorks o p.1 next done r → All ws next k done r
    works None w h = absurd h
    works (Some vs) w h = let both : (vs, p.1) ≡ (ws, k) = cc in let x : vs ≡ ws = ap (λ (q : List Work × List ℕ). q.0) both in let y : p.1 ≡ k = ap (λ (q : List Work × List ℕ). q.1) both in subst (λ v. All v next k done r) x (subst (λ j. All vs next j done r) y h)

led_nothing : (sort : Sort) (base : ℕ) (o : Option (Lead × List ℕ)) (next : Ways) (done : List Term) (r : Term) → led_by sort base o ≡ None → ByLead sort base o next done r → ⊥
led_nothing sort base None next done r e h = h
led_nothing sort base (Some p) next done r e (stops, h) = works (works_of sort p.0 base) (subst (λ b. (if b then None else with_rest (works_of sort p.0 base) p.1) ≡ None) stops e) h
  where
    works : (o : Option (List Work)) → with_rest o p.1 ≡ None → ByWorks o p.1 next done r → ⊥
    works None w h = h
    works (Some vs) w h = absurd (cc)

pub cover_int_lead : (i k : List ℕ) (ws : List Work) (base : ℕ) → class.Lead ≡ class_at i → led_at int_sort base i ≡ Some (ws, k) → Covers (a_term int_sort) i base ws k
unfolding led_at
cover_int_lead i k ws base c e = record { complete = λ rest done r is h. goes_of_all ws rest k done r (led_goes int_sort base (lead_at i) ws k (Goes rest) done r e (int_goes class.Lead base i rest done r c is h)) }

pub cover_int_datum : (i k : List ℕ) (ws : List Work) (base : ℕ) → class.Datum ≡ class_at i → led_at int_sort base i ≡ Some (ws, k) → Covers (a_term int_sort) i base ws k
unfolding led_at
cover_int_datum i k ws base c e = record { complete = λ rest done r is h. goes_of_all ws rest k done r (led_goes int_sort base (lead_at i) ws k (Goes rest) done r e (int_goes class.Datum base i rest done r c is h)) }

pub refuse_int_lead : (i : List ℕ) (base : ℕ) → class.Lead ≡ class_at i → led_at int_sort base i ≡ None → Refuses (a_term int_sort) i base
unfolding led_at
refuse_int_lead i base c e = record { none = λ rest done r is h. led_nothing int_sort base (lead_at i) (Goes rest) done r e (int_goes class.Lead base i rest done r c is h) }

pub refuse_int_datum : (i : List ℕ) (base : ℕ) → class.Datum ≡ class_at i → led_at int_sort base i ≡ None → Refuses (a_term int_sort) i base
unfolding led_at
refuse_int_datum i base c e = record { none = λ rest done r is h. led_nothing int_sort base (lead_at i) (Goes rest) done r e (int_goes class.Datum base i rest done r c is h) }

pub cover_val_lead : (i k : List ℕ) (ws : List Work) (base : ℕ) → class.Lead ≡ class_at i → led_at val_sort base i ≡ Some (ws, k) → Covers (a_term val_sort) i base ws k
unfolding led_at
cover_val_lead i k ws base c e = record { complete = λ rest done r is h. goes_of_all ws rest k done r (led_goes val_sort base (lead_at i) ws k (Goes rest) done r e (val_goes class.Lead base i rest done r c is h)) }

pub cover_val_datum : (i k : List ℕ) (ws : List Work) (base : ℕ) → class.Datum ≡ class_at i → led_at val_sort base i ≡ Some (ws, k) → Covers (a_term val_sort) i base ws k
unfolding led_at
cover_val_datum i k ws base c e = record { complete = λ rest done r is h. goes_of_all ws rest k done r (led_goes val_sort base (lead_at i) ws k (Goes rest) done r e (val_goes class.Datum base i rest done r c is h)) }

pub refuse_val_lead : (i : List ℕ) (base : ℕ) → class.Lead ≡ class_at i → led_at val_sort base i ≡ None → Refuses (a_term val_sort) i base
unfolding led_at
refuse_val_lead i base c e = record { none = λ rest done r is h. led_nothing val_sort base (lead_at i) (Goes rest) done r e (val_goes class.Lead base i rest done r c is h) }

pub refuse_val_datum : (i : List ℕ) (base : ℕ) → class.Datum ≡ class_at i → led_at val_sort base i ≡ None → Refuses (a_term val_sort) i base
unfolding led_at
refuse_val_datum i base c e = record { none = λ rest done r is h. led_nothing val_sort base (lead_at i) (Goes rest) done r e (val_goes class.Datum base i rest done r c is h) }

pub cover_formula_lead : (i k : List ℕ) (ws : List Work) (base : ℕ) → formula_sort ≡ begins_with i → led_at formula_sort base i ≡ Some (ws, k) → Covers (a_term formula_sort) i base ws k
unfolding led_at
cover_formula_lead i k ws base c e = record { complete = λ rest done r is h. goes_of_all ws rest k done r (led_goes formula_sort base (lead_at i) ws k (Goes rest) done r e (formula_goes formula_sort base i rest done r c is h)) }

pub refuse_formula_lead : (i : List ℕ) (base : ℕ) → formula_sort ≡ begins_with i → led_at formula_sort base i ≡ None → Refuses (a_term formula_sort) i base
unfolding led_at
refuse_formula_lead i base c e = record { none = λ rest done r is h. led_nothing formula_sort base (lead_at i) (Goes rest) done r e (formula_goes formula_sort base i rest done r c is h) }

pub cover_comparison : (i : List ℕ) (base : ℕ) (ws : List Work) → ws ≡ parted term.at_most base → int_sort ≡ begins_with i → Covers (a_term formula_sort) i base ws i
cover_comparison i base ws same c = covers (a_term formula_sort) i base ws (parted term.at_most base) i same (λ rest done r is h. goes_of_all (parted term.at_most base) rest i done r (formula_goes int_sort base i rest done r c is h))

pub cover_equation : (i : List ℕ) (base : ℕ) (ws : List Work) → ws ≡ parted term.equal base → val_sort ≡ begins_with i → Covers (a_term formula_sort) i base ws i
cover_equation i base ws same c = covers (a_term formula_sort) i base ws (parted term.equal base) i same (λ rest done r is h. goes_of_all (parted term.equal base) rest i done r (formula_goes val_sort base i rest done r c is h))

-- ---- series

abbrev pub Anything : Ways
Anything i done r = Unit {0}

-- no part begins with what closes a series
no_closing : (s : Series) (t : Term) (k l : List ℕ) → Spans t (sort_in s) (closing s ++ k) l → ⊥
unfolding class_at lead_at begins_with
no_closing elements t k l spans = val_front t 0 Anything (93 ∷ k) l [] t refl spans tt
no_closing members t k l spans = formula_front t 0 Anything (41 ∷ k) l [] t refl spans tt

-- nor does what stands between parts
no_between : (s : Series) (k l : List ℕ) → closing s ++ k ≡ between s ++ l → ⊥
no_between elements k l e = apart 93 44 _ _ e refl
no_between members k l e = apart 41 59 _ _ e refl

some_more : (symbol : Symbol) (base : ℕ) (next : Ways) (k : List ℕ) (done : List Term) (t : Term) (ps : Parts) (r : Term) → Rooted symbol base next k (done ++ listed (made_parts (part t ps))) r → Rooted symbol base next k ((done ++ made t ∷ []) ++ listed (made_parts ps)) r
some_more symbol base next k done t ps r h = subst (λ d. Rooted symbol base next k d r) (sym (append_assoc done (made t ∷ []) (listed (made_parts ps)))) h

none_more : (symbol : Symbol) (base : ℕ) (next : Ways) (k l : List ℕ) (done : List Term) (r : Term) → l ≡ k → Rooted symbol base next l (done ++ []) r → Rooted symbol base next k done r
none_more symbol base next k l done r e h = subst (λ x. Rooted symbol base next x done r) e (subst (λ d. Rooted symbol base next l d r) (append-nil done) h)

pub cover_first_end : (s : Series) (symbol : Symbol) (b base : ℕ) (i k : List ℕ) (ws : List Work) → ws ≡ (root symbol b ∷ []) → IsBehind (closing s) i k → Covers (first s symbol b) i base ws k
cover_first_end s symbol b base i k ws same at = covers (first s symbol b) i base ws (root symbol b ∷ []) k same by
  where
    by : (rest : List Work) (done : List Term) (r : Term) → length done ≡ base → Goes (first s symbol b ∷ rest) i done r → Goes (root symbol b ∷ rest) k done r
    by rest done r is (no_parts, l, closes, h) = none_more symbol b (Goes rest) k l done r (tail_of (closing s) i k l at closes) h
    by rest done r is (part t ps, l, (a, c, m, before, spans, behind, laid), h) = absurd (no_closing s t k c (subst (λ x. Spans t (sort_in s) x c) (sym before ∙ at.is) spans))

pub cover_first : (s : Series) (symbol : Symbol) (b base : ℕ) (i : List ℕ) (ws : List Work) → ws ≡ (a_term (sort_in s) ∷ more s symbol b ∷ []) → NotBehind (closing s) i → Covers (first s symbol b) i base ws i
cover_first s symbol b base i ws same none = covers (first s symbol b) i base ws (a_term (sort_in s) ∷ more s symbol b ∷ []) i same by
  where
    by : (rest : List Work) (done : List Term) (r : Term) → length done ≡ base → Goes (first s symbol b ∷ rest) i done r → Goes (a_term (sort_in s) ∷ more s symbol b ∷ rest) i done r
    by rest done r is (no_parts, l, closes, h) = absurd (none l (record { is = closes }))
    by rest done r is (part t ps, l, (a, c, m, before, spans, behind, laid), h) =
        (t, c, subst (λ x. Spans t (sort_in s) x c) (sym before) spans, (ps, l, subst (λ x. Laid ps (more_of s) x l) (sym behind) laid, some_more symbol b (Goes rest) l done t ps r h))

pub cover_more_end : (s : Series) (symbol : Symbol) (b base : ℕ) (i k : List ℕ) (ws : List Work) → ws ≡ (root symbol b ∷ []) → IsBehind (closing s) i k → Covers (more s symbol b) i base ws k
cover_more_end s symbol b base i k ws same at = covers (more s symbol b) i base ws (root symbol b ∷ []) k same by
  where
    by : (rest : List Work) (done : List Term) (r : Term) → length done ≡ base → Goes (more s symbol b ∷ rest) i done r → Goes (root symbol b ∷ rest) k done r
    by rest done r is (no_parts, l, closes, h) = none_more symbol b (Goes rest) k l done r (tail_of (closing s) i k l at closes) h
    by rest done r is (part t ps, l, (a, c, m, before, spans, behind, laid), h) = absurd (no_between s k a (sym at.is ∙ before))

pub cover_more : (s : Series) (symbol : Symbol) (b base : ℕ) (i k : List ℕ) (ws : List Work) → ws ≡ (a_term (sort_in s) ∷ more s symbol b ∷ []) → IsBehind (between s) i k → Covers (more s symbol b) i base ws k
cover_more s symbol b base i k ws same at = covers (more s symbol b) i base ws (a_term (sort_in s) ∷ more s symbol b ∷ []) k same by
  where
    by : (rest : List Work) (done : List Term) (r : Term) → length done ≡ base → Goes (more s symbol b ∷ rest) i done r → Goes (a_term (sort_in s) ∷ more s symbol b ∷ rest) k done r
    by rest done r is (no_parts, l, closes, h) = absurd (no_between s l k (sym closes ∙ at.is))
    by rest done r is (part t ps, l, (a, c, m, before, spans, behind, laid), h) =
        (t, c, subst (λ x. Spans t (sort_in s) x c) (tail_of (between s) i k a at before) spans, (ps, l, subst (λ x. Laid ps (more_of s) x l) (sym behind) laid, some_more symbol b (Goes rest) l done t ps r h))

pub refuse_more : (s : Series) (symbol : Symbol) (b base : ℕ) (i : List ℕ) → NotBehind (closing s) i → NotBehind (between s) i → Refuses (more s symbol b) i base
refuse_more s symbol b base i none neither = record { none = by }
  where
    by : (rest : List Work) (done : List Term) (r : Term) → length done ≡ base → Goes (more s symbol b ∷ rest) i done r → ⊥
    by rest done r is (no_parts, l, closes, h) = none l (record { is = closes })
    by rest done r is (part t ps, l, (a, c, m, before, spans, behind, laid), h) = neither a (record { is = before })

-- ---- records

-- the value of a field, and the fields behind it
record Opened (others : List (List ℕ)) (v : Term) (ps : Parts) (i j : List ℕ) : Type 0 where
  left : List ℕ
  spans : Spans v val_sort i left
  behind : FieldsBehind others ps left j

opened : (others : List (List ℕ)) (v : Term) (ps : Parts) (i j : List ℕ) → Laid (part v ps) (gapped (field_gaps others)) i j → Opened others v ps i j
opened [] v no_parts i j (a, l, m, before, spans, behind, closes) = record { left = l; spans = subst (λ x. Spans v val_sort x l) (sym before) spans; behind = (behind ∙ ap (λ x. codes "}" ++ x) closes, refl) }
opened [] v (part w ps) i j (a, l, m, before, spans, behind, laid) = absurd laid
opened (n ∷ ns) v ps i j (a, l, m, before, spans, behind, laid) = record { left = l; spans = subst (λ x. Spans v val_sort x l) (sym before) spans; behind = (m, behind, laid) }

-- a record has a value for each field
no_value : (others : List (List ℕ)) (i j : List ℕ) → Laid no_parts (gapped (field_gaps others)) i j → ⊥
no_value [] i j laid = laid
no_value (n ∷ ns) i j laid = laid

-- behind a name and its colon
fields_go : (names others : List (List ℕ)) (b : ℕ) (ps : Parts) (i k : List ℕ) (rest : List Work) (done : List Term) (r : Term) → AreFields (names ++ others) → Laid ps (gapped (field_gaps others)) i k → Rooted (term.fields (names ++ others)) b (Goes rest) k (done ++ listed (made_parts ps)) r → Goes (a_term val_sort ∷ more_fields names b ∷ rest) i done r
fields_go names others b no_parts i k rest done r range laid h = absurd (no_value others i k laid)
fields_go names others b (part v ps) i k rest done r range laid h =
    let o = opened others v ps i k laid in
    (v, o.left, o.spans, (others, ps, k, range, o.behind, some_more (term.fields (names ++ others)) b (Goes rest) k done v ps r h))

pub cover_no_field : (b base : ℕ) (i k : List ℕ) (ws : List Work) → ws ≡ (root (term.fields []) b ∷ []) → IsBehind (codes "}") i k → Covers (first_field b) i base ws k
cover_no_field b base i k ws same at = covers (first_field b) i base ws (root (term.fields []) b ∷ []) k same by
  where
    by : (rest : List Work) (done : List Term) (r : Term) → length done ≡ base → Goes (first_field b ∷ rest) i done r → Goes (root (term.fields []) b ∷ rest) k done r
    by rest done r is ([], ps, l, range, (closes, none), h) = none_more (term.fields []) b (Goes rest) k l done r (tail_of (codes "}") i k l at closes) (subst (λ x. Rooted (term.fields []) b (Goes rest) l (done ++ listed (made_parts x)) r) none h)
    by rest done r is (n ∷ ns, ps, l, range, (m, begins, laid), h) = absurd (no_word_byte n 125 (58 ∷ 32 ∷ m) k range.words.0 refl (sym begins ∙ at.is))

-- the name and its colon were read
field_is : (names : List (List ℕ)) (b : ℕ) (a l : List ℕ) (ws : List Work) (n m : List ℕ) → IsFieldRead names b a ws l → IsWord n → a ≡ n ++ (codes ": " ++ m) → (ws ≡ a_term val_sort ∷ more_fields (names ++ n ∷ []) b ∷ []) × (m ≡ l)
field_is names b a l ws n m read named e =
    let o = word_is a read.name read.behind n (58 ∷ 32 ∷ m) read.word named refl e in
    (read.works ∙ ap (λ x. a_term val_sort ∷ more_fields (names ++ x ∷ []) b ∷ []) o.front, tail_of (codes ": ") read.behind l m read.colon o.rest)

pub cover_field_first : (b base : ℕ) (i l : List ℕ) (names : List (List ℕ)) (ws : List Work) → names ≡ [] → NotBehind (codes "}") i → IsFieldRead names b i ws l → Covers (first_field b) i base ws l
cover_field_first b base i l names ws empty none read = record { complete = by }
  where
    by : (rest : List Work) (done : List Term) (r : Term) → length done ≡ base → Goes (first_field b ∷ rest) i done r → Goes (ws ++ rest) l done r
    by rest done r is ([], ps, k, range, (closes, same), h) = absurd (none k (record { is = closes }))
    by rest done r is (n ∷ ns, ps, k, range, (m, begins, laid), h) =
        let f = field_is names b i l ws n m read range.words.0 begins in
        let works : ws ≡ a_term val_sort ∷ more_fields (n ∷ []) b ∷ [] = f.0 ∙ ap (λ (x : List (List ℕ)). a_term val_sort ∷ more_fields (x ++ n ∷ []) b ∷ []) empty in
        subst (λ (us : List Work). Goes (us ++ rest) l done r) (sym works) (subst (λ x. Goes (a_term val_sort ∷ more_fields (n ∷ []) b ∷ rest) x done r) f.1 (fields_go (n ∷ []) ns b ps m k rest done r range laid h))

pub refuse_field_first : (b base : ℕ) (i : List ℕ) → NotBehind (codes "}") i → NoField i → Refuses (first_field b) i base
refuse_field_first b base i none neither = record { none = by }
  where
    by : (rest : List Work) (done : List Term) (r : Term) → length done ≡ base → Goes (first_field b ∷ rest) i done r → ⊥
    by rest done r is ([], ps, k, range, (closes, same), h) = none k (record { is = closes })
    by rest done r is (n ∷ ns, ps, k, range, (m, begins, laid), h) = neither.none n m range.words.0 begins

-- the words of a list's tail
pub tail_word : (names : List (List ℕ)) (n : List ℕ) (ns : List (List ℕ)) → AreFields (names ++ (n ∷ ns)) → IsWord n
tail_word names n ns range = by names range.words
  where
    by : (xs : List (List ℕ)) → AreWords (xs ++ (n ∷ ns)) → IsWord n
    by [] w = w.0
    by (x ∷ xs) w = by xs w.1

pub cover_last_field : (names : List (List ℕ)) (b base : ℕ) (i k : List ℕ) (ws : List Work) → ws ≡ (root (term.fields names) b ∷ []) → IsBehind (codes "}") i k → Covers (more_fields names b) i base ws k
cover_last_field names b base i k ws same at = covers (more_fields names b) i base ws (root (term.fields names) b ∷ []) k same by
  where
    by : (rest : List Work) (done : List Term) (r : Term) → length done ≡ base → Goes (more_fields names b ∷ rest) i done r → Goes (root (term.fields names) b ∷ rest) k done r
    by rest done r is ([], ps, l, range, (closes, none), h) =
        none_more (term.fields names) b (Goes rest) k l done r (tail_of (codes "}") i k l at closes) (subst (λ x. Rooted (term.fields names) b (Goes rest) l (done ++ listed (made_parts x)) r) none (subst (λ ns. Rooted (term.fields ns) b (Goes rest) l (done ++ listed (made_parts ps)) r) (append-nil names) h))
    by rest done r is (n ∷ ns, ps, l, range, (m, begins, laid), h) = absurd (apart 44 125 _ _ (sym begins ∙ at.is) refl)

pub refuse_last_field : (names : List (List ℕ)) (b base : ℕ) (i k : List ℕ) (t : Bool) → (IsTrue t ↔ AreFields names) → t ≡ false → IsBehind (codes "}") i k → Refuses (more_fields names b) i base
refuse_last_field names b base i k t answer fails at = record { none = by }
  where
    by : (rest : List Work) (done : List Term) (r : Term) → length done ≡ base → Goes (more_fields names b ∷ rest) i done r → ⊥
    by rest done r is ([], ps, l, range, (closes, none), h) = true_false t (from_true t (answer.1 (subst AreFields (append-nil names) range))) fails
    by rest done r is (n ∷ ns, ps, l, range, (m, begins, laid), h) = apart 44 125 _ _ (sym begins ∙ at.is) refl

pub cover_field_more : (names : List (List ℕ)) (b base : ℕ) (i a l : List ℕ) (ws : List Work) → IsBehind (codes ", ") i a → IsFieldRead names b a ws l → Covers (more_fields names b) i base ws l
cover_field_more names b base i a l ws comma read = record { complete = by }
  where
    by : (rest : List Work) (done : List Term) (r : Term) → length done ≡ base → Goes (more_fields names b ∷ rest) i done r → Goes (ws ++ rest) l done r
    by rest done r is ([], ps, k, range, (closes, same), h) = absurd (apart 125 44 _ _ (sym closes ∙ comma.is) refl)
    by rest done r is (n ∷ ns, ps, k, range, (m, begins, laid), h) =
        let f = field_is names b a l ws n m read (tail_word names n ns range) (sym (tail_of (codes ", ") i a (n ++ (codes ": " ++ m)) comma begins)) in
        let flat : names ++ (n ∷ ns) ≡ (names ++ n ∷ []) ++ ns = sym (append_assoc names (n ∷ []) ns) in
        subst (λ (us : List Work). Goes (us ++ rest) l done r) (sym f.0)
        (subst (λ x. Goes (a_term val_sort ∷ more_fields (names ++ n ∷ []) b ∷ rest) x done r) f.1
        (fields_go (names ++ n ∷ []) ns b ps m k rest done r (subst AreFields flat range) laid (subst (λ x. Rooted (term.fields x) b (Goes rest) k (done ++ listed (made_parts ps)) r) flat h)))

pub refuse_fields_here : (names : List (List ℕ)) (b base : ℕ) (i : List ℕ) → NotBehind (codes "}") i → NotBehind (codes ", ") i → Refuses (more_fields names b) i base
refuse_fields_here names b base i none neither = record { none = by }
  where
    by : (rest : List Work) (done : List Term) (r : Term) → length done ≡ base → Goes (more_fields names b ∷ rest) i done r → ⊥
    by rest done r is ([], ps, k, range, (closes, same), h) = none k (record { is = closes })
    by rest done r is (n ∷ ns, ps, k, range, (m, begins, laid), h) = neither _ (record { is = begins })

pub refuse_field_more : (names : List (List ℕ)) (b base : ℕ) (i a : List ℕ) → NotBehind (codes "}") i → IsBehind (codes ", ") i a → NoField a → Refuses (more_fields names b) i base
refuse_field_more names b base i a none comma neither = record { none = by }
  where
    by : (rest : List Work) (done : List Term) (r : Term) → length done ≡ base → Goes (more_fields names b ∷ rest) i done r → ⊥
    by rest done r is ([], ps, k, range, (closes, same), h) = none k (record { is = closes })
    by rest done r is (n ∷ ns, ps, k, range, (m, begins, laid), h) = neither.none n m (tail_word names n ns range) (sym (tail_of (codes ", ") i a (n ++ (codes ": " ++ m)) comma begins))

-- ---- names and numbers behind a part

pub cover_field_name : (b base : ℕ) (i a n k : List ℕ) (ws : List Work) → ws ≡ (word (codes ")") ∷ root (term.field n) b ∷ []) → IsBehind (codes ", ") i a → IsWordAt a n k → Covers (field_name b) i base ws k
cover_field_name b base i a n k ws same comma at = covers (field_name b) i base ws (word (codes ")") ∷ root (term.field n) b ∷ []) k same by
  where
    by : (rest : List Work) (done : List Term) (r : Term) → length done ≡ base → Goes (field_name b ∷ rest) i done r → Goes (word (codes ")") ∷ root (term.field n) b ∷ rest) k done r
    by rest done r is (m, l, w, e, h) =
        let o = word_is a n k m (41 ∷ l) at w refl (sym (tail_of (codes ", ") i a (m ++ (41 ∷ l)) comma e)) in
        (l, o.rest, subst (λ x. Rooted (term.field x) b (Goes rest) l done r) (sym o.front) h)

pub refuse_field_name : (b base : ℕ) (i a : List ℕ) → IsBehind (codes ", ") i a → NoWord a → Refuses (field_name b) i base
refuse_field_name b base i a comma none = record { none = by }
  where
    by : (rest : List Work) (done : List Term) (r : Term) → length done ≡ base → Goes (field_name b ∷ rest) i done r → ⊥
    by rest done r is (m, l, w, e, h) = none m (41 ∷ l) (record { is = sym (tail_of (codes ", ") i a (m ++ (41 ∷ l)) comma e); word = w; ends = refl })

pub refuse_field_comma : (b base : ℕ) (i : List ℕ) → NotBehind (codes ", ") i → Refuses (field_name b) i base
refuse_field_comma b base i none = record { none = by }
  where
    by : (rest : List Work) (done : List Term) (r : Term) → length done ≡ base → Goes (field_name b ∷ rest) i done r → ⊥
    by rest done r is (m, l, w, e, h) = none _ (record { is = e })

pub cover_set_field_name : (b base : ℕ) (i a n k l : List ℕ) (ws : List Work) → ws ≡ (a_term val_sort ∷ word (codes ")") ∷ root (term.set_field n) b ∷ []) → IsBehind (codes ", ") i a → IsWordAt a n k → IsBehind (codes ", ") k l → Covers (set_field_name b) i base ws l
cover_set_field_name b base i a n k l ws same comma at second = covers (set_field_name b) i base ws (a_term val_sort ∷ word (codes ")") ∷ root (term.set_field n) b ∷ []) l same by
  where
    by : (rest : List Work) (done : List Term) (r : Term) → length done ≡ base → Goes (set_field_name b ∷ rest) i done r → Goes (a_term val_sort ∷ word (codes ")") ∷ root (term.set_field n) b ∷ rest) l done r
    by rest done r is (m, j, w, e, h) =
        let o = word_is a n k m (44 ∷ 32 ∷ j) at w refl (sym (tail_of (codes ", ") i a (m ++ (44 ∷ 32 ∷ j)) comma e)) in
        let tail : j ≡ l = tail_of (codes ", ") k l j second o.rest in
        subst (λ x. Goes (a_term val_sort ∷ word (codes ")") ∷ root (term.set_field x) b ∷ rest) l done r) (sym o.front) (subst (λ x. Goes (a_term val_sort ∷ word (codes ")") ∷ root (term.set_field m) b ∷ rest) x done r) tail h)

pub refuse_set_field_comma : (b base : ℕ) (i : List ℕ) → NotBehind (codes ", ") i → Refuses (set_field_name b) i base
refuse_set_field_comma b base i none = record { none = by }
  where
    by : (rest : List Work) (done : List Term) (r : Term) → length done ≡ base → Goes (set_field_name b ∷ rest) i done r → ⊥
    by rest done r is (m, l, w, e, h) = none _ (record { is = e })

pub refuse_set_field_name : (b base : ℕ) (i a : List ℕ) → IsBehind (codes ", ") i a → NoWord a → Refuses (set_field_name b) i base
refuse_set_field_name b base i a comma none = record { none = by }
  where
    by : (rest : List Work) (done : List Term) (r : Term) → length done ≡ base → Goes (set_field_name b ∷ rest) i done r → ⊥
    by rest done r is (m, l, w, e, h) = none m (44 ∷ 32 ∷ l) (record { is = sym (tail_of (codes ", ") i a (m ++ (44 ∷ 32 ∷ l)) comma e); word = w; ends = refl })

pub refuse_set_field_second : (b base : ℕ) (i a n k : List ℕ) → IsBehind (codes ", ") i a → IsWordAt a n k → NotBehind (codes ", ") k → Refuses (set_field_name b) i base
refuse_set_field_second b base i a n k comma at none = record { none = by }
  where
    by : (rest : List Work) (done : List Term) (r : Term) → length done ≡ base → Goes (set_field_name b ∷ rest) i done r → ⊥
    by rest done r is (m, l, w, e, h) =
        let o = word_is a n k m (44 ∷ 32 ∷ l) at w refl (sym (tail_of (codes ", ") i a (m ++ (44 ∷ 32 ∷ l)) comma e)) in
        none l (record { is = o.rest })

pub cover_type_number : (b base : ℕ) (i a k : List ℕ) (n : ℕ) (ws : List Work) → ws ≡ (word (codes ")") ∷ root (term.in_type n) b ∷ []) → IsBehind (codes ", ") i a → IsNaturalAt a n k → Covers (type_number b) i base ws k
cover_type_number b base i a k n ws same comma at = covers (type_number b) i base ws (word (codes ")") ∷ root (term.in_type n) b ∷ []) k same by
  where
    by : (rest : List Work) (done : List Term) (r : Term) → length done ≡ base → Goes (type_number b ∷ rest) i done r → Goes (word (codes ")") ∷ root (term.in_type n) b ∷ rest) k done r
    by rest done r is (m, l, small, e, h) =
        let o = one_natural a n m k (41 ∷ l) at (record { is = sym (tail_of (codes ", ") i a (decimal m ++ (41 ∷ l)) comma e); small = omega (arith, small); ends = refl }) in
        (l, o.rest, subst (λ x. Rooted (term.in_type x) b (Goes rest) l done r) (sym o.number) h)

pub refuse_type_comma : (b base : ℕ) (i : List ℕ) → NotBehind (codes ", ") i → Refuses (type_number b) i base
refuse_type_comma b base i none = record { none = by }
  where
    by : (rest : List Work) (done : List Term) (r : Term) → length done ≡ base → Goes (type_number b ∷ rest) i done r → ⊥
    by rest done r is (m, l, small, e, h) = none _ (record { is = e })

pub refuse_type_number : (b base : ℕ) (i a : List ℕ) → IsBehind (codes ", ") i a → NoNatural a → Refuses (type_number b) i base
refuse_type_number b base i a comma none = record { none = by }
  where
    by : (rest : List Work) (done : List Term) (r : Term) → length done ≡ base → Goes (type_number b ∷ rest) i done r → ⊥
    by rest done r is (m, l, small, e, h) = none m (41 ∷ l) (record { is = sym (tail_of (codes ", ") i a (decimal m ++ (41 ∷ l)) comma e); small = omega (arith, small); ends = refl })

pub refuse_large_type : (b base : ℕ) (i a k : List ℕ) (n : ℕ) → IsBehind (codes ", ") i a → IsNaturalAt a n k → 2 ^ 32 ≤ n → Refuses (type_number b) i base
refuse_large_type b base i a k n comma at large = record { none = by }
  where
    by : (rest : List Work) (done : List Term) (r : Term) → length done ≡ base → Goes (type_number b ∷ rest) i done r → ⊥
    by rest done r is (m, l, small, e, h) =
        let o = one_natural a n m k (41 ∷ l) at (record { is = sym (tail_of (codes ", ") i a (decimal m ++ (41 ∷ l)) comma e); small = omega (arith, small); ends = refl }) in
        absurd (omega (arith, small, large, o.number))

binder_goes : (all : Bool) (b : ℕ) (i w k : List ℕ) (n : ℕ) (l : List ℕ) (rest : List Work) (done : List Term) (r : Term) → IsNumberedAt 35 i w n k → IsBehind (codes " in ") k l → Goes (bind all b ∷ rest) i done r → Goes (parted (binder all w n) b ++ rest) l done r
binder_goes true b i w k n l rest done r at within (v, m, j, range, e, h) =
    let o = one_numbered 35 i w v n m k (codes " in " ++ j) refl at (record { is = e; word = range.word; small = range.small; ends = refl }) in
    let tail : j ≡ l = tail_of (codes " in ") k l j within o.rest in
    subst (λ x. Goes (parted (term.every x n) b ++ rest) l done r) (sym o.word) (subst (λ x. Goes (parted (term.every v x) b ++ rest) l done r) (sym o.number) (subst (λ x. Goes (parted (term.every v m) b ++ rest) x done r) tail h))
binder_goes false b i w k n l rest done r at within (v, m, j, range, e, h) =
    let o = one_numbered 35 i w v n m k (codes " in " ++ j) refl at (record { is = e; word = range.word; small = range.small; ends = refl }) in
    let tail : j ≡ l = tail_of (codes " in ") k l j within o.rest in
    subst (λ x. Goes (parted (term.exists x n) b ++ rest) l done r) (sym o.word) (subst (λ x. Goes (parted (term.exists v x) b ++ rest) l done r) (sym o.number) (subst (λ x. Goes (parted (term.exists v m) b ++ rest) x done r) tail h))

pub cover_binder : (all : Bool) (b base : ℕ) (i w k l : List ℕ) (n : ℕ) (ws : List Work) → ws ≡ parted (binder all w n) b → IsNumberedAt 35 i w n k → IsBehind (codes " in ") k l → Covers (bind all b) i base ws l
cover_binder all b base i w k l n ws same at within = covers (bind all b) i base ws (parted (binder all w n) b) l same (λ rest done r is h. binder_goes all b i w k n l rest done r at within h)

pub refuse_binder : (all : Bool) (b base : ℕ) (i : List ℕ) → NoNumbered 35 i → Refuses (bind all b) i base
refuse_binder all b base i none = record { none = by }
  where
    by : (rest : List Work) (done : List Term) (r : Term) → length done ≡ base → Goes (bind all b ∷ rest) i done r → ⊥
    by rest done r is (v, m, j, range, e, h) = none v m (codes " in " ++ j) (record { is = e; word = range.word; small = range.small; ends = refl })

pub refuse_bounds : (all : Bool) (b base : ℕ) (i w k : List ℕ) (n : ℕ) → IsNumberedAt 35 i w n k → NotBehind (codes " in ") k → Refuses (bind all b) i base
refuse_bounds all b base i w k n at none = record { none = by }
  where
    by : (rest : List Work) (done : List Term) (r : Term) → length done ≡ base → Goes (bind all b ∷ rest) i done r → ⊥
    by rest done r is (v, m, j, range, e, h) =
        let o = one_numbered 35 i w v n m k (codes " in " ++ j) refl at (record { is = e; word = range.word; small = range.small; ends = refl }) in
        none j (record { is = o.rest })

pub cover_root : (symbol : Symbol) (b base : ℕ) (i : List ℕ) (ws : List Work) → ws ≡ root symbol b ∷ [] → Covers (root symbol b) i base ws i
cover_root symbol b base i ws same = covers (root symbol b) i base ws (root symbol b ∷ []) i same (λ rest done r is h. h)

-- ---- names that are read by functions of their own

pub no_field_word : (i : List ℕ) → NoWord i → NoField i
no_field_word i none = record { none = λ n l w e. none n (58 ∷ 32 ∷ l) (record { is = e; word = w; ends = refl }) }

pub no_field_colon : (i n j : List ℕ) → IsWordAt i n j → NotBehind (codes ": ") j → NoField i
no_field_colon i n j at none = record { none = λ m l w e. none l (record { is = (word_is i n j m (58 ∷ 32 ∷ l) at w refl e).rest }) }

pub ruleset term_covers = (cover_number, refuse_number, cover_int_name, refuse_int_name, refuse_val_name_as_int, cover_val_name, refuse_val_name, refuse_number_as_val, refuse_int_name_as_val, cover_int_lead, cover_int_datum, refuse_int_lead, refuse_int_datum, cover_val_lead, cover_val_datum, refuse_val_lead, refuse_val_datum, cover_formula_lead, refuse_formula_lead, cover_comparison, cover_equation)

pub ruleset series_covers = (cover_first_end, cover_first, cover_more_end, cover_more, refuse_more)

pub ruleset field_covers = (cover_no_field, cover_field_first, refuse_field_first, cover_last_field, refuse_last_field, cover_field_more, refuse_fields_here, refuse_field_more, cover_field_name, refuse_field_name, refuse_field_comma, cover_set_field_name, refuse_set_field_comma, refuse_set_field_name, refuse_set_field_second)

pub ruleset number_covers = (cover_type_number, refuse_type_comma, refuse_type_number, refuse_large_type, cover_binder, refuse_binder, refuse_bounds)

pub ruleset name_covers = (no_field_word, no_field_colon)

pub ruleset expanded_covers = (cover_word, refuse_word, cover_root)
