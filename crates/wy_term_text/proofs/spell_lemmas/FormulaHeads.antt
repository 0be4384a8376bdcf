-- A formula, by the front of the text.
use Rattle.std.proofs.Common.{◌≡◌, ℕ, Bool, true, false, inl, inr, List, [], ◌∷◌, ◌++◌, Option, Some, None, codes, refl, sym, ap, ◌∙◌, subst, length, ◌==◌, if◌then◌else◌, eqb-true}
use Rattle.std.specs.Fmt.{decimal}
use Rattle.wy_term.proofs.wy_lemmas_proofs.Choices.{unlike as true_false}
use Rattle.wy_term.specs.wy_data.scan.Front.{is_word_byte, heads}
use Rattle.wy_term.specs.Term.{DataKind, Symbol, Term, Of, Parts, no_parts, part, leaf}
use Rattle.wy_term.specs.Term as term
use Rattle.wy_term.specs.Sorts.{Sort, int_sort, val_sort, formula_sort}
use Rattle.wy_term_text.specs.declared.spell.lead.Lead.{Lead}
use Rattle.wy_term_text.specs.declared.spell.lead.Lead.TheVariants as lead
use Rattle.wy_term_text.specs.declared.spell.lead.Class.{Class}
use Rattle.wy_term_text.specs.declared.spell.lead.Class.TheVariants as class
use Rattle.wy_term_text.specs.spell.Grammar.{Spans, goes_on_or_space}
use Rattle.wy_term_text.specs.spell.Made.{made}
use Rattle.wy_term_text.specs.spell.Todo.{Ways, Rooted, OneTerm, All}
use Rattle.wy_term_text.specs.spell.Heads.{class_at, lead_at, begins_with, by_sign, behind_run, FormulaBy, ByLead, ByWorks, formula_works, parted, blocked, sort_by}
use Rattle.wy_term_text.proofs.spell_lemmas.FrontLemmas.{class_of_name, class_of_number, lead_word, lead_is}
use Rattle.wy_term_text.proofs.spell_lemmas.LaidLemmas.{rooted_up, rooted_down, leaf_up, leaf_down, led_up, led_down}

-- behind `true` and `false` as formulas
after_formula : (l : List ℕ) → heads goes_on_or_space l ≡ false → by_sign (behind_run l) ≡ class.Lead
after_formula [] stops = refl
after_formula (b ∷ l) stops = word (is_word_byte b) refl
  where
    goes : (t : ℕ → Bool) → t b ≡ true → (t b ≡ true → goes_on_or_space b ≡ true) → by_sign (behind_run (b ∷ l)) ≡ class.Lead
    goes t e f = true_false (goes_on_or_space b) (f e) stops

    space : (t : Bool) → (b == 32) ≡ t → (if t then class.Datum else class.Lead) ≡ class.Lead
    space true e = true_false (goes_on_or_space b) (let same : b ≡ 32 = eqb-true b 32 e in subst (λ x. goes_on_or_space x ≡ true) (sym same) refl) stops
    space false e = refl

    dot : (t : Bool) → (b == 46) ≡ t → (if t then class.ValName else (if b == 32 then class.Datum else class.Lead)) ≡ class.Lead
    dot true e = true_false (goes_on_or_space b) (let same : b ≡ 46 = eqb-true b 46 e in subst (λ x. goes_on_or_space x ≡ true) (sym same) refl) stops
    dot false e = space (b == 32) refl

    sharp : (t : Bool) → (b == 35) ≡ t → (if t then class.IntName else (if b == 46 then class.ValName else (if b == 32 then class.Datum else class.Lead))) ≡ class.Lead
    sharp true e = true_false (goes_on_or_space b) (let same : b ≡ 35 = eqb-true b 35 e in subst (λ x. goes_on_or_space x ≡ true) (sym same) refl) stops
    sharp false e = dot (b == 46) refl

    word : (t : Bool) → is_word_byte b ≡ t → by_sign (if t then behind_run l else b ∷ l) ≡ class.Lead
    word true e = true_false (goes_on_or_space b) (rw e refl) stops
    word false e = sharp (b == 35) refl

-- ---- the sort with which a formula begins

by_class : (c d : Class) (i : List ℕ) → class_at i ≡ c → begins_with i ≡ sort_by c (lead_at i)
unfolding begins_with
by_class c d i e = ap (λ x. sort_by x (lead_at i)) e

int_begins : (symbol : Symbol) (ps : Parts) (i k : List ℕ) → Spans (Of symbol ps) int_sort i k → begins_with i ≡ int_sort
unfolding begins_with class_at lead_at
int_begins (term.number z) ps i k (s, range, inl c) = absurd c
int_begins (term.number z) ps i k (s, range, inr (l, opens, laid, stops)) = by_class class.Number class.Number i (ap class_at opens ∙ class_of_number z l range)
int_begins (term.int_name w n) ps i k (s, range, inl c) = absurd c
int_begins (term.int_name w n) ps i k (s, range, inr (l, opens, laid, stops)) = by_class class.IntName class.IntName i (ap class_at opens ∙ class_of_name w (decimal n ++ l) 35 range.word refl refl)
int_begins term.add ps i k (s, range, inl c) = absurd c
int_begins term.add ps i k (s, range, inr (l, opens, laid, stops)) = ap begins_with opens
int_begins term.sub ps i k (s, range, inl c) = absurd c
int_begins term.sub ps i k (s, range, inr (l, opens, laid, stops)) = ap begins_with opens
int_begins term.neg ps i k (s, range, inl c) = absurd c
int_begins term.neg ps i k (s, range, inr (l, opens, laid, stops)) = ap begins_with opens
int_begins term.mul ps i k (s, range, inl c) = absurd c
int_begins term.mul ps i k (s, range, inr (l, opens, laid, stops)) = ap begins_with opens
int_begins term.div ps i k (s, range, inl c) = absurd c
int_begins term.div ps i k (s, range, inr (l, opens, laid, stops)) = ap begins_with opens
int_begins term.rem ps i k (s, range, inl c) = absurd c
int_begins term.rem ps i k (s, range, inr (l, opens, laid, stops)) = ap begins_with opens
int_begins term.num ps i k (s, range, inl c) = absurd c
int_begins term.num ps i k (s, range, inr (l, opens, laid, stops)) = ap begins_with opens
int_begins term.len ps i k (s, range, inl c) = absurd c
int_begins term.len ps i k (s, range, inr (l, opens, laid, stops)) = ap begins_with opens
int_begins symbol ps i k (s, range, other) = absurd (cc)

val_begins : (symbol : Symbol) (ps : Parts) (i k m : List ℕ) → Spans (Of symbol ps) val_sort i k → k ≡ 32 ∷ m → begins_with i ≡ val_sort
unfolding begins_with class_at lead_at
val_begins (term.val_name w n) ps i k m (s, range, inl c) e = absurd c
val_begins (term.val_name w n) ps i k m (s, range, inr (l, opens, laid, stops)) e = by_class class.ValName class.ValName i (ap class_at opens ∙ class_of_name w (decimal n ++ l) 46 range.word refl refl)
val_begins term.null no_parts i k m (s, range, inl c) e = absurd c
val_begins term.null no_parts i k m (s, range, inr (l, opens, laid, stops)) e = ap begins_with (opens ∙ ap (λ x. codes "null" ++ x) (laid ∙ e))
val_begins term.null (part t ps) i k m (s, range, inl c) e = absurd c
val_begins term.null (part t ps) i k m (s, range, inr (l, opens, laid, stops)) e = absurd laid
val_begins (term.truth true) no_parts i k m (s, range, inl c) e = absurd c
val_begins (term.truth true) no_parts i k m (s, range, inr (l, opens, laid, stops)) e = ap begins_with (opens ∙ ap (λ x. codes "true" ++ x) (laid ∙ e))
val_begins (term.truth true) (part t ps) i k m (s, range, inl c) e = absurd c
val_begins (term.truth true) (part t ps) i k m (s, range, inr (l, opens, laid, stops)) e = absurd laid
val_begins (term.truth false) no_parts i k m (s, range, inl c) e = absurd c
val_begins (term.truth false) no_parts i k m (s, range, inr (l, opens, laid, stops)) e = ap begins_with (opens ∙ ap (λ x. codes "false" ++ x) (laid ∙ e))
val_begins (term.truth false) (part t ps) i k m (s, range, inl c) e = absurd c
val_begins (term.truth false) (part t ps) i k m (s, range, inr (l, opens, laid, stops)) e = absurd laid
val_begins term.int ps i k m (s, range, inl c) e = absurd c
val_begins term.int ps i k m (s, range, inr (l, opens, laid, stops)) e = ap begins_with opens
val_begins term.bool ps i k m (s, range, inl c) e = absurd c
val_begins term.bool ps i k m (s, range, inr (l, opens, laid, stops)) e = ap begins_with opens
val_begins term.array ps i k m (s, range, inl c) e = absurd c
val_begins term.array ps i k m (s, range, inr (l, opens, laid, stops)) e = ap begins_with opens
val_begins term.repeat ps i k m (s, range, inl c) e = absurd c
val_begins term.repeat ps i k m (s, range, inr (l, opens, laid, stops)) e = ap begins_with opens
val_begins term.update ps i k m (s, range, inl c) e = absurd c
val_begins term.update ps i k m (s, range, inr (l, opens, laid, stops)) e = ap begins_with opens
val_begins term.get ps i k m (s, range, inl c) e = absurd c
val_begins term.get ps i k m (s, range, inr (l, opens, laid, stops)) e = ap begins_with opens
val_begins (term.fields []) ps i k m (s, range, inl c) e = absurd c
val_begins (term.fields []) ps i k m (s, range, inr (l, opens, laid, stops)) e = ap begins_with opens
val_begins (term.fields (n ∷ ns)) ps i k m (s, range, inl c) e = absurd c
val_begins (term.fields (n ∷ ns)) ps i k m (s, range, inr (l, opens, laid, stops)) e = ap begins_with opens
val_begins (term.field name) ps i k m (s, range, inl c) e = absurd c
val_begins (term.field name) ps i k m (s, range, inr (l, opens, laid, stops)) e = ap begins_with opens
val_begins (term.set_field name) ps i k m (s, range, inl c) e = absurd c
val_begins (term.set_field name) ps i k m (s, range, inr (l, opens, laid, stops)) e = ap begins_with opens
val_begins symbol ps i k m (s, range, other) e = absurd (cc)

begins_int : (t : Term) (i k : List ℕ) → Spans t int_sort i k → begins_with i ≡ int_sort
begins_int (Of symbol ps) i k spans = int_begins symbol ps i k spans

begins_val : (t : Term) (i k m : List ℕ) → Spans t val_sort i k → k ≡ 32 ∷ m → begins_with i ≡ val_sort
begins_val (Of symbol ps) i k m spans e = val_begins symbol ps i k m spans e

-- ---- what may come of a formula comes of what stands at the front

pub formula_up : (symbol : Symbol) (ps : Parts) (base : ℕ) (next : Ways) (i k : List ℕ) (done : List Term) (r : Term) → length done ≡ base → Spans (Of symbol ps) formula_sort i k → next k (done ++ made (Of symbol ps) ∷ []) r → FormulaBy (begins_with i) base i next done r
unfolding begins_with class_at lead_at
formula_up term.at_most no_parts base next i k done r is (s, range, inl c) h = absurd c
formula_up term.at_most no_parts base next i k done r is (s, range, inr (l, opens, laid, stops)) h = absurd laid
formula_up term.at_most (part t ps) base next i k done r is (s, range, inl c) h = absurd c
formula_up term.at_most (part t ps) base next i k done r is (s, range, inr (l, opens, laid, stops)) h =
    subst (λ c. FormulaBy c base i next done r) (sym (ap begins_with (opens ∙ laid.3) ∙ begins_int t laid.0 laid.1 laid.4))
    (subst (λ x. All (parted term.at_most base) next x done r) (sym opens) (led_up term.at_most (part t ps) base next l k done r is refl laid h))
formula_up term.equal no_parts base next i k done r is (s, range, inl c) h = absurd c
formula_up term.equal no_parts base next i k done r is (s, range, inr (l, opens, laid, stops)) h = absurd laid
formula_up term.equal (part t ps) base next i k done r is (s, range, inl c) h = absurd c
formula_up term.equal (part t ps) base next i k done r is (s, range, inr (l, opens, laid, stops)) h =
    subst (λ c. FormulaBy c base i next done r) (sym (ap begins_with (opens ∙ laid.3) ∙ begins_val t laid.0 laid.1 (61 ∷ 32 ∷ laid.2) laid.4 laid.5))
    (subst (λ x. All (parted term.equal base) next x done r) (sym opens) (led_up term.equal (part t ps) base next l k done r is refl laid h))
formula_up (term.of_kind kind) no_parts base next i k done r is (s, range, inl c) h = absurd c
formula_up (term.of_kind kind) no_parts base next i k done r is (s, range, inr (l, opens, laid, stops)) h = absurd laid
formula_up (term.of_kind kind) (part v no_parts) base next i k done r is (s, range, inl c) h = absurd c
formula_up (term.of_kind kind) (part v no_parts) base next i k done r is (s, range, inr (l, opens, (k1, l1, m1, before, spans, behind, laid), stops)) h =
    subst (λ x. FormulaBy (begins_with x) base x next done r) (sym opens)
    (refl, (v, l1, subst (λ x. Spans v val_sort x l1) (sym before) spans, (kind, m1, range, behind, subst (λ x. Rooted (term.of_kind kind) base next x (done ++ made v ∷ []) r) (sym laid) (rooted_up (term.of_kind kind) (part v no_parts) base next k done r is refl h))))
formula_up (term.of_kind kind) (part v (part w ps)) base next i k done r is (s, range, inl c) h = absurd c
formula_up (term.of_kind kind) (part v (part w ps)) base next i k done r is (s, range, inr (l, opens, (k1, l1, m1, before, spans, behind, laid), stops)) h = absurd laid
formula_up (term.in_type n) no_parts base next i k done r is (s, range, inl c) h = absurd c
formula_up (term.in_type n) no_parts base next i k done r is (s, range, inr (l, opens, laid, stops)) h = absurd laid
formula_up (term.in_type n) (part v no_parts) base next i k done r is (s, range, inl c) h = absurd c
formula_up (term.in_type n) (part v no_parts) base next i k done r is (s, range, inr (l, opens, (k1, l1, m1, before, spans, behind, laid), stops)) h =
    subst (λ x. FormulaBy (begins_with x) base x next done r) (sym opens)
    (refl, (v, l1, subst (λ x. Spans v val_sort x l1) (sym before) spans, (n, m1, range, behind, subst (λ x. Rooted (term.in_type n) base next x (done ++ made v ∷ []) r) (sym laid) (rooted_up (term.in_type n) (part v no_parts) base next k done r is refl h))))
formula_up (term.in_type n) (part v (part w ps)) base next i k done r is (s, range, inl c) h = absurd c
formula_up (term.in_type n) (part v (part w ps)) base next i k done r is (s, range, inr (l, opens, (k1, l1, m1, before, spans, behind, laid), stops)) h = absurd laid
formula_up (term.every w n) ps base next i k done r is (s, range, inl c) h = absurd c
formula_up (term.every w n) ps base next i k done r is (s, range, inr (l, opens, laid, stops)) h =
    subst (λ x. FormulaBy (begins_with x) base x next done r) (sym opens) (refl, (w, n, l, range, refl, led_up (term.every w n) ps base next l k done r is refl laid h))
formula_up (term.exists w n) ps base next i k done r is (s, range, inl c) h = absurd c
formula_up (term.exists w n) ps base next i k done r is (s, range, inr (l, opens, laid, stops)) h =
    subst (λ x. FormulaBy (begins_with x) base x next done r) (sym opens) (refl, (w, n, l, range, refl, led_up (term.exists w n) ps base next l k done r is refl laid h))
formula_up term.denied ps base next i k done r is (s, range, inl c) h = absurd c
formula_up term.denied ps base next i k done r is (s, range, inr (l, opens, laid, stops)) h =
    subst (λ x. FormulaBy (begins_with x) base x next done r) (sym opens) (refl, led_up term.denied ps base next l k done r is refl laid h)
formula_up term.all_of no_parts base next i k done r is (s, range, inl (opens, stops)) h =
    subst (λ x. FormulaBy (begins_with x) base x next done r) (sym opens)
    (subst (λ c. FormulaBy (sort_by c (Some (lead.True, k))) base (codes "true" ++ k) next done r) (sym (after_formula k stops)) (stops, leaf_up term.all_of base next k done r is tt h))
formula_up term.all_of (part t ps) base next i k done r is (s, range, inl c) h = absurd c
formula_up term.all_of ps base next i k done r is (s, range, inr (l, opens, laid, stops)) h =
    subst (λ x. FormulaBy (begins_with x) base x next done r) (sym opens) (refl, (ps, k, laid, rooted_up term.all_of ps base next k done r is tt h))
formula_up term.any_of no_parts base next i k done r is (s, range, inl (opens, stops)) h =
    subst (λ x. FormulaBy (begins_with x) base x next done r) (sym opens)
    (subst (λ c. FormulaBy (sort_by c (Some (lead.False, k))) base (codes "false" ++ k) next done r) (sym (after_formula k stops)) (stops, leaf_up term.any_of base next k done r is tt h))
formula_up term.any_of (part t ps) base next i k done r is (s, range, inl c) h = absurd c
formula_up term.any_of ps base next i k done r is (s, range, inr (l, opens, laid, stops)) h =
    subst (λ x. FormulaBy (begins_with x) base x next done r) (sym opens) (refl, (ps, k, laid, rooted_up term.any_of ps base next k done r is tt h))
formula_up symbol ps base next i k done r is (s, range, other) h = absurd (cc)

-- ---- and the other way

by_formula_lead : (l : Lead) (base : ℕ) (next : Ways) (i k : List ℕ) (done : List Term) (r : Term) → length done ≡ base → blocked formula_sort l k ≡ false → i ≡ lead_word l ++ k → ByWorks (formula_works l base) k next done r → OneTerm formula_sort next i done r
by_formula_lead lead.True base next i k done r is stops front h = (leaf term.all_of, k, (refl, tt, inl (front, stops)), leaf_down term.all_of base next k done r is h)
by_formula_lead lead.False base next i k done r is stops front h = (leaf term.any_of, k, (refl, tt, inl (front, stops)), leaf_down term.any_of base next k done r is h)
by_formula_lead lead.Kind base next i k done r is stops front (v, l, spans, (kind, m, range, behind, h)) =
    (Of (term.of_kind kind) (part v no_parts), m, (refl, range, inr (k, front, (k, l, m, refl, spans, behind, refl), tt)), rooted_down (term.of_kind kind) (part v no_parts) base next m done r is h)
by_formula_lead lead.In base next i k done r is stops front (v, l, spans, (n, m, range, behind, h)) =
    (Of (term.in_type n) (part v no_parts), m, (refl, range, inr (k, front, (k, l, m, refl, spans, behind, refl), tt)), rooted_down (term.in_type n) (part v no_parts) base next m done r is h)
by_formula_lead lead.All base next i k done r is stops front (w, n, l, range, begins, h) =
    let p = led_down (term.every w n) base next l done r is h in
    (Of (term.every w n) p.parts, p.left, (refl, range, inr (l, front ∙ ap (λ x. codes "all " ++ x) begins, p.laid, tt)), p.rest)
by_formula_lead lead.Some base next i k done r is stops front (w, n, l, range, begins, h) =
    let p = led_down (term.exists w n) base next l done r is h in
    (Of (term.exists w n) p.parts, p.left, (refl, range, inr (l, front ∙ ap (λ x. codes "some " ++ x) begins, p.laid, tt)), p.rest)
by_formula_lead lead.Not base next i k done r is stops front h = let p = led_down term.denied base next k done r is h in (Of term.denied p.parts, p.left, (refl, tt, inr (k, front, p.laid, tt)), p.rest)
by_formula_lead lead.And base next i k done r is stops front (ps, j, laid, h) =
    (Of term.all_of ps, j, (refl, tt, inr (k, front, laid, tt)), rooted_down term.all_of ps base next j done r is h)
by_formula_lead lead.Or base next i k done r is stops front (ps, j, laid, h) =
    (Of term.any_of ps, j, (refl, tt, inr (k, front, laid, tt)), rooted_down term.any_of ps base next j done r is h)
by_formula_lead l base next i k done r is stops front h = absurd h

formula_led : (o : Option (Lead × List ℕ)) (base : ℕ) (next : Ways) (i : List ℕ) (done : List Term) (r : Term) → length done ≡ base → lead_at i ≡ o → ByLead formula_sort base o next done r → OneTerm formula_sort next i done r
formula_led None base next i done r is front h = absurd h
formula_led (Some (l, k)) base next i done r is front h = by_formula_lead l base next i k done r is h.0 (lead_is i l k front) h.1

pub formula_down : (s : Sort) (base : ℕ) (next : Ways) (i : List ℕ) (done : List Term) (r : Term) → length done ≡ base → FormulaBy s base i next done r → OneTerm formula_sort next i done r
formula_down int_sort base next i done r is h = let p = led_down term.at_most base next i done r is h in (Of term.at_most p.parts, p.left, (refl, tt, inr (i, refl, p.laid, tt)), p.rest)
formula_down val_sort base next i done r is h = let p = led_down term.equal base next i done r is h in (Of term.equal p.parts, p.left, (refl, tt, inr (i, refl, p.laid, tt)), p.rest)
formula_down formula_sort base next i done r is h = formula_led (lead_at i) base next i done r is refl h
