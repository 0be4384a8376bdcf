-- A Val term, by the front of the text.
use Rattle.std.proofs.Common.{◌≡◌, ℕ, Bool, true, false, inl, inr, List, [], ◌∷◌, ◌++◌, Option, Some, None, codes, refl, sym, ap, ◌∙◌, subst, length, ◌==◌, if◌then◌else◌, eqb-true, append_assoc}
use Rattle.std.specs.Fmt.{decimal}
use Rattle.wy_term.proofs.wy_lemmas_proofs.Choices.{unlike as true_false}
use Rattle.wy_term.specs.wy_data.scan.Front.{is_word_byte, heads}
use Rattle.wy_term.specs.Term.{DataKind, Symbol, Term, Of, Parts, no_parts, part, leaf}
use Rattle.wy_term.specs.Term as term
use Rattle.wy_term.specs.Sorts.{val_sort}
use Rattle.wy_term_text.specs.declared.spell.lead.Lead.{Lead}
use Rattle.wy_term_text.specs.declared.spell.lead.Lead.TheVariants as lead
use Rattle.wy_term_text.specs.declared.spell.lead.Class.{Class}
use Rattle.wy_term_text.specs.declared.spell.lead.Class.TheVariants as class
use Rattle.wy_term_text.specs.spell.Grammar.{Spans, Laid, gapped, goes_on}
use Rattle.wy_term_text.specs.spell.Made.{made}
use Rattle.wy_term_text.specs.spell.Todo.{Ways, Rooted, OneTerm}
use Rattle.wy_term_text.specs.spell.Heads.{class_at, lead_at, by_sign, behind_run, ValBy, ByLead, ByWorks, val_works, blocked}
use Rattle.wy_term_text.proofs.spell_lemmas.FrontLemmas.{class_of_name, lead_word, lead_is}
use Rattle.wy_term_text.proofs.spell_lemmas.LaidLemmas.{rooted_up, rooted_down, fields_count, leaf_up, leaf_down, led_up, led_down}

goes_word : (b : ℕ) → is_word_byte b ≡ true → goes_on b ≡ true
goes_word b e = rw e refl

goes_sharp : (b : ℕ) → (b == 35) ≡ true → goes_on b ≡ true
goes_sharp b e = let same : b ≡ 35 = eqb-true b 35 e in subst (λ x. goes_on x ≡ true) (sym same) refl

goes_dot : (b : ℕ) → (b == 46) ≡ true → goes_on b ≡ true
goes_dot b e = let same : b ≡ 46 = eqb-true b 46 e in subst (λ x. goes_on x ≡ true) (sym same) refl

-- behind a constant
after_constant : (l : List ℕ) (base : ℕ) (next : Ways) (i : List ℕ) (done : List Term) (r : Term) → heads goes_on l ≡ false → ByLead val_sort base (lead_at i) next done r → ValBy (by_sign (behind_run l)) base i next done r
after_constant [] base next i done r stops h = h
after_constant (b ∷ l) base next i done r stops h = word (is_word_byte b) refl
  where
    space : (t : Bool) → (b == 32) ≡ t → ValBy (if t then class.Datum else class.Lead) base i next done r
    space true e = h
    space false e = h

    dot : (t : Bool) → (b == 46) ≡ t → ValBy (if t then class.ValName else (if b == 32 then class.Datum else class.Lead)) base i next done r
    dot true e = true_false (goes_on b) (goes_dot b e) stops
    dot false e = space (b == 32) refl

    sharp : (t : Bool) → (b == 35) ≡ t → ValBy (if t then class.IntName else (if b == 46 then class.ValName else (if b == 32 then class.Datum else class.Lead))) base i next done r
    sharp true e = true_false (goes_on b) (goes_sharp b e) stops
    sharp false e = dot (b == 46) refl

    word : (t : Bool) → is_word_byte b ≡ t → ValBy (by_sign (if t then behind_run l else b ∷ l)) base i next done r
    word true e = true_false (goes_on b) (goes_word b e) stops
    word false e = sharp (b == 35) refl

pub val_up : (symbol : Symbol) (ps : Parts) (base : ℕ) (next : Ways) (i k : List ℕ) (done : List Term) (r : Term) → length done ≡ base → Spans (Of symbol ps) val_sort i k → next k (done ++ made (Of symbol ps) ∷ []) r → ValBy (class_at i) base i next done r
unfolding class_at lead_at
val_up (term.val_name w n) no_parts base next i k done r is (s, range, inl c) h = absurd c
val_up (term.val_name w n) no_parts base next i k done r is (s, range, inr (l, opens, laid, stops)) h =
    subst (λ c. ValBy c base i next done r) (sym (ap class_at opens ∙ class_of_name w (decimal n ++ l) 46 range.word refl refl))
    (w, n, k, record { is = opens ∙ ap (λ x. w ++ (46 ∷ (decimal n ++ x))) laid; word = range.word; small = range.small; ends = stops }, leaf_up (term.val_name w n) base next k done r is refl h)
val_up (term.val_name w n) (part t ps) base next i k done r is (s, range, inl c) h = absurd c
val_up (term.val_name w n) (part t ps) base next i k done r is (s, range, inr (l, opens, laid, stops)) h = absurd laid
val_up term.null no_parts base next i k done r is (s, range, inl c) h = absurd c
val_up term.null no_parts base next i k done r is (s, range, inr (l, opens, laid, stops)) h =
    subst (λ x. ValBy (class_at x) base x next done r) (sym opens)
    (after_constant l base next (codes "null" ++ l) done r (subst (λ x. heads goes_on x ≡ false) (sym laid) stops) (subst (λ x. heads goes_on x ≡ false) (sym laid) stops, subst (λ x. Rooted term.null base next x done r) (sym laid) (leaf_up term.null base next k done r is refl h)))
val_up term.null (part t ps) base next i k done r is (s, range, inl c) h = absurd c
val_up term.null (part t ps) base next i k done r is (s, range, inr (l, opens, laid, stops)) h = absurd laid
val_up (term.truth true) no_parts base next i k done r is (s, range, inl c) h = absurd c
val_up (term.truth true) no_parts base next i k done r is (s, range, inr (l, opens, laid, stops)) h =
    subst (λ x. ValBy (class_at x) base x next done r) (sym opens)
    (after_constant l base next (codes "true" ++ l) done r (subst (λ x. heads goes_on x ≡ false) (sym laid) stops) (subst (λ x. heads goes_on x ≡ false) (sym laid) stops, subst (λ x. Rooted (term.truth true) base next x done r) (sym laid) (leaf_up (term.truth true) base next k done r is refl h)))
val_up (term.truth true) (part t ps) base next i k done r is (s, range, inl c) h = absurd c
val_up (term.truth true) (part t ps) base next i k done r is (s, range, inr (l, opens, laid, stops)) h = absurd laid
val_up (term.truth false) no_parts base next i k done r is (s, range, inl c) h = absurd c
val_up (term.truth false) no_parts base next i k done r is (s, range, inr (l, opens, laid, stops)) h =
    subst (λ x. ValBy (class_at x) base x next done r) (sym opens)
    (after_constant l base next (codes "false" ++ l) done r (subst (λ x. heads goes_on x ≡ false) (sym laid) stops) (subst (λ x. heads goes_on x ≡ false) (sym laid) stops, subst (λ x. Rooted (term.truth false) base next x done r) (sym laid) (leaf_up (term.truth false) base next k done r is refl h)))
val_up (term.truth false) (part t ps) base next i k done r is (s, range, inl c) h = absurd c
val_up (term.truth false) (part t ps) base next i k done r is (s, range, inr (l, opens, laid, stops)) h = absurd laid
val_up term.int ps base next i k done r is (s, range, inl c) h = absurd c
val_up term.int ps base next i k done r is (s, range, inr (l, opens, laid, stops)) h =
    subst (λ x. ValBy (class_at x) base x next done r) (sym opens) (refl, led_up term.int ps base next l k done r is refl laid h)
val_up term.bool ps base next i k done r is (s, range, inl c) h = absurd c
val_up term.bool ps base next i k done r is (s, range, inr (l, opens, laid, stops)) h =
    subst (λ x. ValBy (class_at x) base x next done r) (sym opens) (refl, led_up term.bool ps base next l k done r is refl laid h)
val_up term.repeat ps base next i k done r is (s, range, inl c) h = absurd c
val_up term.repeat ps base next i k done r is (s, range, inr (l, opens, laid, stops)) h =
    subst (λ x. ValBy (class_at x) base x next done r) (sym opens) (refl, led_up term.repeat ps base next l k done r is refl laid h)
val_up term.update ps base next i k done r is (s, range, inl c) h = absurd c
val_up term.update ps base next i k done r is (s, range, inr (l, opens, laid, stops)) h =
    subst (λ x. ValBy (class_at x) base x next done r) (sym opens) (refl, led_up term.update ps base next l k done r is refl laid h)
val_up term.get ps base next i k done r is (s, range, inl c) h = absurd c
val_up term.get ps base next i k done r is (s, range, inr (l, opens, laid, stops)) h =
    subst (λ x. ValBy (class_at x) base x next done r) (sym opens) (refl, led_up term.get ps base next l k done r is refl laid h)
val_up term.array ps base next i k done r is (s, range, inl c) h = absurd c
val_up term.array ps base next i k done r is (s, range, inr (l, opens, laid, stops)) h =
    subst (λ x. ValBy (class_at x) base x next done r) (sym opens) (refl, (ps, k, laid, rooted_up term.array ps base next k done r is tt h))
val_up (term.fields []) no_parts base next i k done r is (s, range, inl c) h = absurd c
val_up (term.fields []) no_parts base next i k done r is (s, range, inr (l, opens, laid, stops)) h =
    subst (λ x. ValBy (class_at x) base x next done r) (sym opens)
    (refl, ([], no_parts, l, range, (refl, refl), subst (λ x. Rooted (term.fields []) base next x (done ++ []) r) (sym laid) (rooted_up (term.fields []) no_parts base next k done r is refl h)))
val_up (term.fields []) (part t ps) base next i k done r is (s, range, inl c) h = absurd c
val_up (term.fields []) (part t ps) base next i k done r is (s, range, inr (l, opens, laid, stops)) h = absurd laid
val_up (term.fields (n ∷ ns)) ps base next i k done r is (s, range, inl c) h = absurd c
val_up (term.fields (n ∷ ns)) ps base next i k done r is (s, range, inr (l, opens, laid, stops)) h =
    subst (λ x. ValBy (class_at x) base x next done r) (sym opens)
    (refl, ((n ∷ ns), ps, k, range, (l, refl, laid), rooted_up (term.fields (n ∷ ns)) ps base next k done r is (fields_count ns ps l k laid) h))
val_up (term.field name) no_parts base next i k done r is (s, range, inl c) h = absurd c
val_up (term.field name) no_parts base next i k done r is (s, range, inr (l, opens, laid, stops)) h = absurd laid
val_up (term.field name) (part v no_parts) base next i k done r is (s, range, inl c) h = absurd c
val_up (term.field name) (part v no_parts) base next i k done r is (s, range, inr (l, opens, (k1, l1, m1, before, spans, behind, laid), stops)) h =
    subst (λ x. ValBy (class_at x) base x next done r) (sym opens)
    (refl, (v, l1, subst (λ x. Spans v val_sort x l1) (sym before) spans, (name, m1, range, behind, subst (λ x. Rooted (term.field name) base next x (done ++ made v ∷ []) r) (sym laid) (rooted_up (term.field name) (part v no_parts) base next k done r is refl h))))
val_up (term.field name) (part v (part w ps)) base next i k done r is (s, range, inl c) h = absurd c
val_up (term.field name) (part v (part w ps)) base next i k done r is (s, range, inr (l, opens, (k1, l1, m1, before, spans, behind, laid), stops)) h = absurd laid
val_up (term.set_field name) no_parts base next i k done r is (s, range, inl c) h = absurd c
val_up (term.set_field name) no_parts base next i k done r is (s, range, inr (l, opens, laid, stops)) h = absurd laid
val_up (term.set_field name) (part v no_parts) base next i k done r is (s, range, inl c) h = absurd c
val_up (term.set_field name) (part v no_parts) base next i k done r is (s, range, inr (l, opens, (k1, l1, m1, before, spans, behind, laid), stops)) h = absurd laid
val_up (term.set_field name) (part v (part w no_parts)) base next i k done r is (s, range, inl c) h = absurd c
val_up (term.set_field name) (part v (part w no_parts)) base next i k done r is (s, range, inr (l, opens, (k1, l1, m1, before, spans, behind, (k2, l2, m2, before2, spans2, behind2, laid)), stops)) h =
    subst (λ x. ValBy (class_at x) base x next done r) (sym opens) (
      refl,
      (
        v,
        l1,
        subst (λ x. Spans v val_sort x l1) (sym before) spans,
        (
          name,
          m1,
          range,
          behind,
          (
            w,
            l2,
            subst (λ x. Spans w val_sort x l2) (sym before2) spans2,
            (
              m2,
              behind2,
              subst (λ x. Rooted (term.set_field name) base next x ((done ++ made v ∷ []) ++ made w ∷ []) r) (sym laid)
                  (subst (λ d. Rooted (term.set_field name) base next k d r) (sym (append_assoc done (made v ∷ []) (made w ∷ [])))
                  (rooted_up (term.set_field name) (part v (part w no_parts)) base next k done r is refl h)),
            ),
          ),
        ),
      ),
    )
val_up (term.set_field name) (part v (part w (part u ps))) base next i k done r is (s, range, inl c) h = absurd c
val_up (term.set_field name) (part v (part w (part u ps))) base next i k done r is (s, range, inr (l, opens, (k1, l1, m1, before, spans, behind, (k2, l2, m2, before2, spans2, behind2, laid)), stops)) h = absurd laid
val_up symbol ps base next i k done r is (s, range, other) h = absurd (cc)

by_val_lead : (l : Lead) (base : ℕ) (next : Ways) (i k : List ℕ) (done : List Term) (r : Term) → length done ≡ base → blocked val_sort l k ≡ false → i ≡ lead_word l ++ k → ByWorks (val_works l base) k next done r → OneTerm val_sort next i done r
by_val_lead lead.Null base next i k done r is stops front h = (leaf term.null, k, (refl, tt, inr (k, front, refl, stops)), leaf_down term.null base next k done r is h)
by_val_lead lead.True base next i k done r is stops front h = (leaf (term.truth true), k, (refl, tt, inr (k, front, refl, stops)), leaf_down (term.truth true) base next k done r is h)
by_val_lead lead.False base next i k done r is stops front h = (leaf (term.truth false), k, (refl, tt, inr (k, front, refl, stops)), leaf_down (term.truth false) base next k done r is h)
by_val_lead lead.Int base next i k done r is stops front h = let p = led_down term.int base next k done r is h in (Of term.int p.parts, p.left, (refl, tt, inr (k, front, p.laid, tt)), p.rest)
by_val_lead lead.Truth base next i k done r is stops front h = let p = led_down term.bool base next k done r is h in (Of term.bool p.parts, p.left, (refl, tt, inr (k, front, p.laid, tt)), p.rest)
by_val_lead lead.Repeat base next i k done r is stops front h = let p = led_down term.repeat base next k done r is h in (Of term.repeat p.parts, p.left, (refl, tt, inr (k, front, p.laid, tt)), p.rest)
by_val_lead lead.Update base next i k done r is stops front h = let p = led_down term.update base next k done r is h in (Of term.update p.parts, p.left, (refl, tt, inr (k, front, p.laid, tt)), p.rest)
by_val_lead lead.Get base next i k done r is stops front h = let p = led_down term.get base next k done r is h in (Of term.get p.parts, p.left, (refl, tt, inr (k, front, p.laid, tt)), p.rest)
by_val_lead lead.Array base next i k done r is stops front (ps, j, laid, h) = (Of term.array ps, j, (refl, tt, inr (k, front, laid, tt)), rooted_down term.array ps base next j done r is h)
by_val_lead lead.Record base next i k done r is stops front ([], ps, j, range, (closes, none), h) =
    (Of (term.fields []) ps, j, (refl, range, inr (j, front ∙ ap (λ x. codes "rec{" ++ x) closes, subst (λ x. Laid x (gapped []) j j) (sym none) refl, tt)), rooted_down (term.fields []) ps base next j done r is h)
by_val_lead lead.Record base next i k done r is stops front (n ∷ ns, ps, j, range, (l, begins, laid), h) =
    (Of (term.fields (n ∷ ns)) ps, j, (refl, range, inr (l, front ∙ ap (λ x. codes "rec{" ++ x) begins, laid, tt)), rooted_down (term.fields (n ∷ ns)) ps base next j done r is h)
by_val_lead lead.Field base next i k done r is stops front (v, l, spans, (name, m, range, behind, h)) =
    (Of (term.field name) (part v no_parts), m, (refl, range, inr (k, front, (k, l, m, refl, spans, behind, refl), tt)), rooted_down (term.field name) (part v no_parts) base next m done r is h)
by_val_lead lead.SetField base next i k done r is stops front (v, l, spans, (name, m, range, behind, (w, l2, spans2, (m2, behind2, h)))) = (
  Of (term.set_field name) (part v (part w no_parts)),
  m2,
  (refl, range, inr (k, front, (k, l, m, refl, spans, behind, (m, l2, m2, refl, spans2, behind2, refl)), tt)),
  rooted_down (term.set_field name) (part v (part w no_parts)) base next m2 done r is (subst (λ d. Rooted (term.set_field name) base next m2 d r) (append_assoc done (made v ∷ []) (made w ∷ [])) h),
)
by_val_lead l base next i k done r is stops front h = absurd h

val_led : (o : Option (Lead × List ℕ)) (base : ℕ) (next : Ways) (i : List ℕ) (done : List Term) (r : Term) → length done ≡ base → lead_at i ≡ o → ByLead val_sort base o next done r → OneTerm val_sort next i done r
val_led None base next i done r is front h = absurd h
val_led (Some (l, k)) base next i done r is front h = by_val_lead l base next i k done r is h.0 (lead_is i l k front) h.1

pub val_down : (c : Class) (base : ℕ) (next : Ways) (i : List ℕ) (done : List Term) (r : Term) → length done ≡ base → ValBy c base i next done r → OneTerm val_sort next i done r
val_down class.Number base next i done r is h = absurd h
val_down class.IntName base next i done r is h = absurd h
val_down class.ValName base next i done r is (w, n, k, at, h) = (leaf (term.val_name w n), k, (refl, record { word = at.word; small = at.small }, inr (k, at.is, refl, at.ends)), leaf_down (term.val_name w n) base next k done r is h)
val_down class.Lead base next i done r is h = val_led (lead_at i) base next i done r is refl h
val_down class.Datum base next i done r is h = val_led (lead_at i) base next i done r is refl h
