-- What stands for a thing to be read comes of no less than it.
use Rattle.std.proofs.Common.{◌≡◌, ℕ, Bool, true, false, List, [], ◌∷◌, ◌++◌, Option, Some, None, codes, refl, sym, ap, ◌∙◌, subst, length, ◌<◌, ◌^◌, ℤ, append_assoc, if◌then◌else◌}
use Rattle.std.proofs.lemmas.List.{append-nil}
use Rattle.std.specs.Fmt.{decimal}
use Rattle.wy_term.specs.wy_data.scan.Front.{IsBehind}
use Rattle.wy_term.specs.wy_data.scan.Numbers.{IsWholeAt, IsNaturalAt}
use Rattle.wy_term.specs.wy_data.scan.Words.{IsWordAt, IsNumberedAt, AreFields}
use Rattle.wy_term.specs.Term.{DataKind, null_kind, bool_kind, int_kind, array_kind, record_kind, Symbol, Term, Of, Parts, no_parts, part}
use Rattle.wy_term.specs.Term as term
use Rattle.wy_term.specs.Sorts.{Sort, int_sort, val_sort, formula_sort}
use Rattle.wy_term.specs.Folding.{binder}
use Rattle.wy_term_text.specs.declared.spell.lead.Lead.{Lead}
use Rattle.wy_term_text.specs.declared.spell.lead.Class.TheVariants as class
use Rattle.wy_term_text.specs.spell.Grammar.{Series, Spans, Laid, gapped, field_gaps, closing, between, sort_in}
use Rattle.wy_term_text.specs.spell.Made.{made, made_parts}
use Rattle.wy_term_text.specs.spell.Todo.{Work, word, a_term, root, first, more, first_field, more_fields, field_name, set_field_name, kind_name, kind_fields, type_number, bind, listed, Ways, Rooted, FieldsBehind, Does, All, Goes, Replaces}
use Rattle.wy_term_text.specs.spell.Fields.{IsFieldRead, IsKindFieldRead}
use Rattle.wy_term_text.specs.spell.Heads.{lead_at, led_at, led_by, with_rest, works_of, blocked, parted, ByLead, ByWorks}
use Rattle.wy_term_text.proofs.spell_lemmas.IntHeads.{int_down}
use Rattle.wy_term_text.proofs.spell_lemmas.ValHeads.{val_down}
use Rattle.wy_term_text.proofs.spell_lemmas.FormulaHeads.{formula_down}

pub goes_append : (ws rest : List Work) → Goes (ws ++ rest) ≡ All ws (Goes rest)
goes_append [] rest = refl
goes_append (w ∷ ws) rest = ap (λ (next : Ways). Does w next) (goes_append ws rest)

all_of_goes : (ws rest : List Work) (k : List ℕ) (done : List Term) (r : Term) → Goes (ws ++ rest) k done r → All ws (Goes rest) k done r
all_of_goes ws rest k done r h = subst (λ (next : Ways). next k done r) (goes_append ws rest) h

-- ---- a text

pub of_word : (w i k : List ℕ) (base : ℕ) (ws : List Work) → ws ≡ [] → IsBehind w i k → Replaces (word w) i base ws k
of_word w i k base ws same at = record { sound = λ rest done r is h. by rest done r is (subst (λ (vs : List Work). Goes (vs ++ rest) k done r) same h) }
  where
    by : (rest : List Work) (done : List Term) (r : Term) → length done ≡ base → Goes (([]) ++ rest) k done r → Goes ((word w) ∷ rest) i done r
    by rest done r is h =
        (k, at.is, h)

-- ---- terms

pub of_number : (i k : List ℕ) (z : ℤ) (base : ℕ) (ws : List Work) → ws ≡ (root (term.number z) base ∷ []) → IsWholeAt i z k → Replaces (a_term int_sort) i base ws k
of_number i k z base ws same at = record { sound = λ rest done r is h. by rest done r is (subst (λ (vs : List Work). Goes (vs ++ rest) k done r) same h) }
  where
    by : (rest : List Work) (done : List Term) (r : Term) → length done ≡ base → Goes (((root (term.number z) base ∷ [])) ++ rest) k done r → Goes ((a_term int_sort) ∷ rest) i done r
    by rest done r is h =
        int_down class.Number base (Goes rest) i done r is (z, k, at, h)

pub of_int_name : (i w k : List ℕ) (n base : ℕ) (ws : List Work) → ws ≡ (root (term.int_name w n) base ∷ []) → IsNumberedAt 35 i w n k → Replaces (a_term int_sort) i base ws k
of_int_name i w k n base ws same at = record { sound = λ rest done r is h. by rest done r is (subst (λ (vs : List Work). Goes (vs ++ rest) k done r) same h) }
  where
    by : (rest : List Work) (done : List Term) (r : Term) → length done ≡ base → Goes (((root (term.int_name w n) base ∷ [])) ++ rest) k done r → Goes ((a_term int_sort) ∷ rest) i done r
    by rest done r is h =
        int_down class.IntName base (Goes rest) i done r is (w, n, k, at, h)

pub of_val_name : (i w k : List ℕ) (n base : ℕ) (ws : List Work) → ws ≡ (root (term.val_name w n) base ∷ []) → IsNumberedAt 46 i w n k → Replaces (a_term val_sort) i base ws k
of_val_name i w k n base ws same at = record { sound = λ rest done r is h. by rest done r is (subst (λ (vs : List Work). Goes (vs ++ rest) k done r) same h) }
  where
    by : (rest : List Work) (done : List Term) (r : Term) → length done ≡ base → Goes (((root (term.val_name w n) base ∷ [])) ++ rest) k done r → Goes ((a_term val_sort) ∷ rest) i done r
    by rest done r is h =
        val_down class.ValName base (Goes rest) i done r is (w, n, k, at, h)

led_is : (sort : Sort) (base : ℕ) (o : Option (Lead × List ℕ)) (ws : List Work) (k : List ℕ) (next : Ways) (done : List Term) (r : Term) → led_by sort base o ≡ Some (ws, k) → All ws next k done r → ByLead sort base o next done r
led_is sort base None ws k next done r e h = absurd (cc)
led_is sort base (Some p) ws k next done r e h = by (blocked sort p.0 p.1) refl e
  where
    works : (o : Option (List Work)) → works_of sort p.0 base ≡ o → with_rest o p.1 ≡ Some (ws, k) → ByWorks o p.1 next done r
    works None w e = absurd (cc)
    works (Some vs) w e = let both : (vs, p.1) ≡ (ws, k) = cc in let x : vs ≡ ws = ap (λ (q : List Work × List ℕ). q.0) both in let y : p.1 ≡ k = ap (λ (q : List Work × List ℕ). q.1) both in subst (λ v. All v next p.1 done r) (sym x) (subst (λ j. All ws next j done r) (sym y) h)

    by : (b : Bool) → blocked sort p.0 p.1 ≡ b → (if b then None else with_rest (works_of sort p.0 base) p.1) ≡ Some (ws, k) → ByLead sort base (Some p) next done r
    by true b e = absurd (cc)
    by false b e = (b, works (works_of sort p.0 base) refl e)

pub of_int_lead : (i k : List ℕ) (ws : List Work) (base : ℕ) → led_at int_sort base i ≡ Some (ws, k) → Replaces (a_term int_sort) i base ws k
unfolding led_at
of_int_lead i k ws base e = record { sound = λ rest done r is h. int_down class.Lead base (Goes rest) i done r is (led_is int_sort base (lead_at i) ws k (Goes rest) done r e (all_of_goes ws rest k done r h)) }

pub of_val_lead : (i k : List ℕ) (ws : List Work) (base : ℕ) → led_at val_sort base i ≡ Some (ws, k) → Replaces (a_term val_sort) i base ws k
unfolding led_at
of_val_lead i k ws base e = record { sound = λ rest done r is h. val_down class.Lead base (Goes rest) i done r is (led_is val_sort base (lead_at i) ws k (Goes rest) done r e (all_of_goes ws rest k done r h)) }

pub of_formula_lead : (i k : List ℕ) (ws : List Work) (base : ℕ) → led_at formula_sort base i ≡ Some (ws, k) → Replaces (a_term formula_sort) i base ws k
unfolding led_at
of_formula_lead i k ws base e = record { sound = λ rest done r is h. formula_down formula_sort base (Goes rest) i done r is (led_is formula_sort base (lead_at i) ws k (Goes rest) done r e (all_of_goes ws rest k done r h)) }

pub of_comparison : (i : List ℕ) (base : ℕ) (ws : List Work) → ws ≡ (parted term.at_most base) → Replaces (a_term formula_sort) i base ws i
of_comparison i base ws same = record { sound = λ rest done r is h. by rest done r is (subst (λ (vs : List Work). Goes (vs ++ rest) i done r) same h) }
  where
    by : (rest : List Work) (done : List Term) (r : Term) → length done ≡ base → Goes (((parted term.at_most base)) ++ rest) i done r → Goes ((a_term formula_sort) ∷ rest) i done r
    by rest done r is h =
        formula_down int_sort base (Goes rest) i done r is (all_of_goes (parted term.at_most base) rest i done r h)

pub of_equation : (i : List ℕ) (base : ℕ) (ws : List Work) → ws ≡ (parted term.equal base) → Replaces (a_term formula_sort) i base ws i
of_equation i base ws same = record { sound = λ rest done r is h. by rest done r is (subst (λ (vs : List Work). Goes (vs ++ rest) i done r) same h) }
  where
    by : (rest : List Work) (done : List Term) (r : Term) → length done ≡ base → Goes (((parted term.equal base)) ++ rest) i done r → Goes ((a_term formula_sort) ∷ rest) i done r
    by rest done r is h =
        formula_down val_sort base (Goes rest) i done r is (all_of_goes (parted term.equal base) rest i done r h)

-- ---- series

no_more : (symbol : Symbol) (base : ℕ) (next : Ways) (k : List ℕ) (done : List Term) (r : Term) → Rooted symbol base next k done r → Rooted symbol base next k (done ++ []) r
no_more symbol base next k done r h = subst (λ d. Rooted symbol base next k d r) (sym (append-nil done)) h

one_more : (symbol : Symbol) (base : ℕ) (next : Ways) (k : List ℕ) (done : List Term) (t : Term) (ps : Parts) (r : Term) → Rooted symbol base next k ((done ++ made t ∷ []) ++ listed (made_parts ps)) r → Rooted symbol base next k (done ++ listed (made_parts (part t ps))) r
one_more symbol base next k done t ps r h = subst (λ d. Rooted symbol base next k d r) (append_assoc done (made t ∷ []) (listed (made_parts ps))) h

pub of_first_end : (s : Series) (symbol : Symbol) (b base : ℕ) (i k : List ℕ) (ws : List Work) → ws ≡ (root symbol b ∷ []) → IsBehind (closing s) i k → Replaces (first s symbol b) i base ws k
of_first_end s symbol b base i k ws same at = record { sound = λ rest done r is h. by rest done r is (subst (λ (vs : List Work). Goes (vs ++ rest) k done r) same h) }
  where
    by : (rest : List Work) (done : List Term) (r : Term) → length done ≡ base → Goes (((root symbol b ∷ [])) ++ rest) k done r → Goes ((first s symbol b) ∷ rest) i done r
    by rest done r is h =
        (no_parts, k, at.is, no_more symbol b (Goes rest) k done r h)

pub of_first : (s : Series) (symbol : Symbol) (b base : ℕ) (i : List ℕ) (ws : List Work) → ws ≡ (a_term (sort_in s) ∷ more s symbol b ∷ []) → Replaces (first s symbol b) i base ws i
of_first s symbol b base i ws same = record { sound = λ rest done r is h. by rest done r is (subst (λ (vs : List Work). Goes (vs ++ rest) i done r) same h) }
  where
    by : (rest : List Work) (done : List Term) (r : Term) → length done ≡ base → Goes (((a_term (sort_in s) ∷ more s symbol b ∷ [])) ++ rest) i done r → Goes ((first s symbol b) ∷ rest) i done r
    by rest done r is (t, k, spans, (ps, j, laid, h)) =
        (part t ps, j, (i, k, k, refl, spans, refl, laid), one_more symbol b (Goes rest) j done t ps r h)

pub of_more_end : (s : Series) (symbol : Symbol) (b base : ℕ) (i k : List ℕ) (ws : List Work) → ws ≡ (root symbol b ∷ []) → IsBehind (closing s) i k → Replaces (more s symbol b) i base ws k
of_more_end s symbol b base i k ws same at = record { sound = λ rest done r is h. by rest done r is (subst (λ (vs : List Work). Goes (vs ++ rest) k done r) same h) }
  where
    by : (rest : List Work) (done : List Term) (r : Term) → length done ≡ base → Goes (((root symbol b ∷ [])) ++ rest) k done r → Goes ((more s symbol b) ∷ rest) i done r
    by rest done r is h =
        (no_parts, k, at.is, no_more symbol b (Goes rest) k done r h)

pub of_more : (s : Series) (symbol : Symbol) (b base : ℕ) (i k : List ℕ) (ws : List Work) → ws ≡ (a_term (sort_in s) ∷ more s symbol b ∷ []) → IsBehind (between s) i k → Replaces (more s symbol b) i base ws k
of_more s symbol b base i k ws same at = record { sound = λ rest done r is h. by rest done r is (subst (λ (vs : List Work). Goes (vs ++ rest) k done r) same h) }
  where
    by : (rest : List Work) (done : List Term) (r : Term) → length done ≡ base → Goes (((a_term (sort_in s) ∷ more s symbol b ∷ [])) ++ rest) k done r → Goes ((more s symbol b) ∷ rest) i done r
    by rest done r is (t, l, spans, (ps, j, laid, h)) =
        (part t ps, j, (k, l, l, at.is, spans, refl, laid), one_more symbol b (Goes rest) j done t ps r h)

-- ---- records

fields_laid : (others : List (List ℕ)) (v : Term) (ps : Parts) (l k j : List ℕ) → Spans v val_sort l k → FieldsBehind others ps k j → Laid (part v ps) (gapped (field_gaps others)) l j
fields_laid [] v ps l k j spans (closes, none) = (l, k, j, refl, spans, closes, subst (λ x. Laid x (gapped []) j j) (sym none) refl)
fields_laid (n ∷ ns) v ps l k j spans (m, begins, laid) = (l, k, m, refl, spans, begins, laid)

pub of_no_field : (b base : ℕ) (i k : List ℕ) (ws : List Work) → ws ≡ (root (term.fields []) b ∷ []) → IsBehind (codes "}") i k → Replaces (first_field b) i base ws k
of_no_field b base i k ws same at = record { sound = λ rest done r is h. by rest done r is (subst (λ (vs : List Work). Goes (vs ++ rest) k done r) same h) }
  where
    by : (rest : List Work) (done : List Term) (r : Term) → length done ≡ base → Goes (((root (term.fields []) b ∷ [])) ++ rest) k done r → Goes ((first_field b) ∷ rest) i done r
    by rest done r is h =
        ([], no_parts, k, record { words = tt; rise = refl }, (at.is, refl), no_more (term.fields []) b (Goes rest) k done r h)

pub of_first_field : (b base : ℕ) (i n j l : List ℕ) (ws : List Work) → ws ≡ (a_term val_sort ∷ more_fields (n ∷ []) b ∷ []) → IsWordAt i n j → IsBehind (codes ": ") j l → Replaces (first_field b) i base ws l
of_first_field b base i n j l ws same at colon = record { sound = λ rest done r is h. by rest done r is (subst (λ (vs : List Work). Goes (vs ++ rest) l done r) same h) }
  where
    by : (rest : List Work) (done : List Term) (r : Term) → length done ≡ base → Goes (((a_term val_sort ∷ more_fields (n ∷ []) b ∷ [])) ++ rest) l done r → Goes ((first_field b) ∷ rest) i done r
    by rest done r is (v, k, spans, (others, ps, m, range, behind, h)) =
        (n ∷ others, part v ps, m, range, (l, at.is ∙ ap (λ x. n ++ x) colon.is, fields_laid others v ps l k m spans behind), one_more (term.fields (n ∷ others)) b (Goes rest) m done v ps r h)

pub of_last_field : (names : List (List ℕ)) (b base : ℕ) (i k : List ℕ) (ws : List Work) → ws ≡ (root (term.fields names) b ∷ []) → AreFields names → IsBehind (codes "}") i k → Replaces (more_fields names b) i base ws k
of_last_field names b base i k ws same range at = record { sound = λ rest done r is h. by rest done r is (subst (λ (vs : List Work). Goes (vs ++ rest) k done r) same h) }
  where
    by : (rest : List Work) (done : List Term) (r : Term) → length done ≡ base → Goes (((root (term.fields names) b ∷ [])) ++ rest) k done r → Goes ((more_fields names b) ∷ rest) i done r
    by rest done r is h =
        ([], no_parts, k, subst AreFields (sym (append-nil names)) range, (at.is, refl), no_more (term.fields (names ++ [])) b (Goes rest) k done r (subst (λ ns. Rooted (term.fields ns) b (Goes rest) k done r) (sym (append-nil names)) h))

pub of_more_fields : (names : List (List ℕ)) (b base : ℕ) (i a n j l : List ℕ) (ws : List Work) → ws ≡ (a_term val_sort ∷ more_fields (names ++ n ∷ []) b ∷ []) → IsBehind (codes ", ") i a → IsWordAt a n j → IsBehind (codes ": ") j l → Replaces (more_fields names b) i base ws l
of_more_fields names b base i a n j l ws same comma at colon = record { sound = λ rest done r is h. by rest done r is (subst (λ (vs : List Work). Goes (vs ++ rest) l done r) same h) }
  where
    by : (rest : List Work) (done : List Term) (r : Term) → length done ≡ base → Goes (((a_term val_sort ∷ more_fields (names ++ n ∷ []) b ∷ [])) ++ rest) l done r → Goes ((more_fields names b) ∷ rest) i done r
    by rest done r is (v, k, spans, (others, ps, m, range, behind, h)) =
        let flat : (names ++ n ∷ []) ++ others ≡ names ++ (n ∷ others) = append_assoc names (n ∷ []) others in (
          n ∷ others,
          part v ps,
          m,
          subst AreFields flat range,
          (l, comma.is ∙ ap (λ x. codes ", " ++ x) (at.is ∙ ap (λ x. n ++ x) colon.is), fields_laid others v ps l k m spans behind),
          one_more (term.fields (names ++ (n ∷ others))) b (Goes rest) m done v ps r (subst (λ ns. Rooted (term.fields ns) b (Goes rest) m ((done ++ made v ∷ []) ++ listed (made_parts ps)) r) flat h),
        )

-- ---- names and numbers behind a part

pub of_field_name : (b base : ℕ) (i a n k : List ℕ) (ws : List Work) → ws ≡ (word (codes ")") ∷ root (term.field n) b ∷ []) → IsBehind (codes ", ") i a → IsWordAt a n k → Replaces (field_name b) i base ws k
of_field_name b base i a n k ws same comma at = record { sound = λ rest done r is h. by rest done r is (subst (λ (vs : List Work). Goes (vs ++ rest) k done r) same h) }
  where
    by : (rest : List Work) (done : List Term) (r : Term) → length done ≡ base → Goes (((word (codes ")") ∷ root (term.field n) b ∷ [])) ++ rest) k done r → Goes ((field_name b) ∷ rest) i done r
    by rest done r is (l, close, h) =
        (n, l, at.word, comma.is ∙ ap (λ x. codes ", " ++ x) (at.is ∙ ap (λ x. n ++ x) close), h)

pub of_set_field_name : (b base : ℕ) (i a n k l : List ℕ) (ws : List Work) → ws ≡ (a_term val_sort ∷ word (codes ")") ∷ root (term.set_field n) b ∷ []) → IsBehind (codes ", ") i a → IsWordAt a n k → IsBehind (codes ", ") k l → Replaces (set_field_name b) i base ws l
of_set_field_name b base i a n k l ws same comma at second = record { sound = λ rest done r is h. by rest done r is (subst (λ (vs : List Work). Goes (vs ++ rest) l done r) same h) }
  where
    by : (rest : List Work) (done : List Term) (r : Term) → length done ≡ base → Goes (((a_term val_sort ∷ word (codes ")") ∷ root (term.set_field n) b ∷ [])) ++ rest) l done r → Goes ((set_field_name b) ∷ rest) i done r
    by rest done r is h =
        (n, l, at.word, comma.is ∙ ap (λ x. codes ", " ++ x) (at.is ∙ ap (λ x. n ++ x) second.is), h)

pub of_kind_null : (b base : ℕ) (i a k : List ℕ) (ws : List Work) → ws ≡ (root (term.of_kind null_kind) b ∷ []) → IsBehind (codes ", ") i a → IsBehind (codes "null)") a k → Replaces (kind_name b) i base ws k
of_kind_null b base i a k ws same comma at = record { sound = λ rest done r is h. by rest done r is (subst (λ (vs : List Work). Goes (vs ++ rest) k done r) same h) }
  where
    by : (rest : List Work) (done : List Term) (r : Term) → length done ≡ base → Goes (((root (term.of_kind null_kind) b ∷ [])) ++ rest) k done r → Goes ((kind_name b) ∷ rest) i done r
    by rest done r is h =
        (null_kind, k, tt, comma.is ∙ ap (λ x. codes ", " ++ x) at.is, h)

pub of_kind_bool : (b base : ℕ) (i a k : List ℕ) (ws : List Work) → ws ≡ (root (term.of_kind bool_kind) b ∷ []) → IsBehind (codes ", ") i a → IsBehind (codes "bool)") a k → Replaces (kind_name b) i base ws k
of_kind_bool b base i a k ws same comma at = record { sound = λ rest done r is h. by rest done r is (subst (λ (vs : List Work). Goes (vs ++ rest) k done r) same h) }
  where
    by : (rest : List Work) (done : List Term) (r : Term) → length done ≡ base → Goes (((root (term.of_kind bool_kind) b ∷ [])) ++ rest) k done r → Goes ((kind_name b) ∷ rest) i done r
    by rest done r is h =
        (bool_kind, k, tt, comma.is ∙ ap (λ x. codes ", " ++ x) at.is, h)

pub of_kind_int : (b base : ℕ) (i a k : List ℕ) (ws : List Work) → ws ≡ (root (term.of_kind int_kind) b ∷ []) → IsBehind (codes ", ") i a → IsBehind (codes "int)") a k → Replaces (kind_name b) i base ws k
of_kind_int b base i a k ws same comma at = record { sound = λ rest done r is h. by rest done r is (subst (λ (vs : List Work). Goes (vs ++ rest) k done r) same h) }
  where
    by : (rest : List Work) (done : List Term) (r : Term) → length done ≡ base → Goes (((root (term.of_kind int_kind) b ∷ [])) ++ rest) k done r → Goes ((kind_name b) ∷ rest) i done r
    by rest done r is h =
        (int_kind, k, tt, comma.is ∙ ap (λ x. codes ", " ++ x) at.is, h)

pub of_kind_array : (b base : ℕ) (i a k : List ℕ) (ws : List Work) → ws ≡ (root (term.of_kind array_kind) b ∷ []) → IsBehind (codes ", ") i a → IsBehind (codes "array)") a k → Replaces (kind_name b) i base ws k
of_kind_array b base i a k ws same comma at = record { sound = λ rest done r is h. by rest done r is (subst (λ (vs : List Work). Goes (vs ++ rest) k done r) same h) }
  where
    by : (rest : List Work) (done : List Term) (r : Term) → length done ≡ base → Goes (((root (term.of_kind array_kind) b ∷ [])) ++ rest) k done r → Goes ((kind_name b) ∷ rest) i done r
    by rest done r is h =
        (array_kind, k, tt, comma.is ∙ ap (λ x. codes ", " ++ x) at.is, h)

pub of_no_fields : (b base : ℕ) (i a k : List ℕ) (ws : List Work) → ws ≡ (root (term.of_kind (record_kind [])) b ∷ []) → IsBehind (codes ", ") i a → IsBehind (codes "{})") a k → Replaces (kind_name b) i base ws k
of_no_fields b base i a k ws same comma at = record { sound = λ rest done r is h. by rest done r is (subst (λ (vs : List Work). Goes (vs ++ rest) k done r) same h) }
  where
    by : (rest : List Work) (done : List Term) (r : Term) → length done ≡ base → Goes (((root (term.of_kind (record_kind [])) b ∷ [])) ++ rest) k done r → Goes ((kind_name b) ∷ rest) i done r
    by rest done r is h =
        (record_kind [], k, record { words = tt; rise = refl }, comma.is ∙ ap (λ x. codes ", " ++ x) at.is, h)

pub of_kind_field : (b base : ℕ) (i a c n k : List ℕ) (ws : List Work) → ws ≡ (kind_fields (n ∷ []) b ∷ []) → IsBehind (codes ", ") i a → IsBehind (codes "{") a c → IsWordAt c n k → Replaces (kind_name b) i base ws k
of_kind_field b base i a c n k ws same comma brace at = record { sound = λ rest done r is h. by rest done r is (subst (λ (vs : List Work). Goes (vs ++ rest) k done r) same h) }
  where
    by : (rest : List Work) (done : List Term) (r : Term) → length done ≡ base → Goes (((kind_fields (n ∷ []) b ∷ [])) ++ rest) k done r → Goes ((kind_name b) ∷ rest) i done r
    by rest done r is (others, l, range, tail, h) =
        (record_kind (n ∷ others), l, range, comma.is ∙ ap (λ x. codes ", " ++ x) (brace.is ∙ ap (λ x. codes "{" ++ x) (at.is ∙ ap (λ x. n ++ x) tail)), h)

pub of_last_kind_field : (names : List (List ℕ)) (b base : ℕ) (i k : List ℕ) (ws : List Work) → ws ≡ (root (term.of_kind (record_kind names)) b ∷ []) → AreFields names → IsBehind (codes "})") i k → Replaces (kind_fields names b) i base ws k
of_last_kind_field names b base i k ws same range at = record { sound = λ rest done r is h. by rest done r is (subst (λ (vs : List Work). Goes (vs ++ rest) k done r) same h) }
  where
    by : (rest : List Work) (done : List Term) (r : Term) → length done ≡ base → Goes (((root (term.of_kind (record_kind names)) b ∷ [])) ++ rest) k done r → Goes ((kind_fields names b) ∷ rest) i done r
    by rest done r is h =
        ([], k, subst AreFields (sym (append-nil names)) range, at.is, subst (λ ns. Rooted (term.of_kind (record_kind ns)) b (Goes rest) k done r) (sym (append-nil names)) h)

pub of_more_kind_fields : (names : List (List ℕ)) (b base : ℕ) (i a n k : List ℕ) (ws : List Work) → ws ≡ (kind_fields (names ++ n ∷ []) b ∷ []) → IsBehind (codes ", ") i a → IsWordAt a n k → Replaces (kind_fields names b) i base ws k
of_more_kind_fields names b base i a n k ws same comma at = record { sound = λ rest done r is h. by rest done r is (subst (λ (vs : List Work). Goes (vs ++ rest) k done r) same h) }
  where
    by : (rest : List Work) (done : List Term) (r : Term) → length done ≡ base → Goes (((kind_fields (names ++ n ∷ []) b ∷ [])) ++ rest) k done r → Goes ((kind_fields names b) ∷ rest) i done r
    by rest done r is (others, l, range, tail, h) =
        let flat : (names ++ n ∷ []) ++ others ≡ names ++ (n ∷ others) = append_assoc names (n ∷ []) others in
        (n ∷ others, l, subst AreFields flat range, comma.is ∙ ap (λ x. codes ", " ++ x) (at.is ∙ ap (λ x. n ++ x) tail), subst (λ ns. Rooted (term.of_kind (record_kind ns)) b (Goes rest) l done r) flat h)

pub of_type_number : (b base : ℕ) (i a k : List ℕ) (n : ℕ) (ws : List Work) → ws ≡ (word (codes ")") ∷ root (term.in_type n) b ∷ []) → IsBehind (codes ", ") i a → IsNaturalAt a n k → n < 2 ^ 32 → Replaces (type_number b) i base ws k
of_type_number b base i a k n ws same comma at small = record { sound = λ rest done r is h. by rest done r is (subst (λ (vs : List Work). Goes (vs ++ rest) k done r) same h) }
  where
    by : (rest : List Work) (done : List Term) (r : Term) → length done ≡ base → Goes (((word (codes ")") ∷ root (term.in_type n) b ∷ [])) ++ rest) k done r → Goes ((type_number b) ∷ rest) i done r
    by rest done r is (l, close, h) =
        (n, l, small, comma.is ∙ ap (λ x. codes ", " ++ x) (at.is ∙ ap (λ x. decimal n ++ x) close), h)

pub of_binder : (all : Bool) (b base : ℕ) (i w k l : List ℕ) (n : ℕ) (ws : List Work) → ws ≡ parted (binder all w n) b → IsNumberedAt 35 i w n k → IsBehind (codes " in ") k l → Replaces (bind all b) i base ws l
of_binder true b base i w k l n ws same at within = record { sound = λ rest done r is h. (w, n, l, record { word = at.word; small = at.small }, at.is ∙ ap (λ x. w ++ (35 ∷ (decimal n ++ x))) within.is, subst (λ (vs : List Work). Goes (vs ++ rest) l done r) same h) }
of_binder false b base i w k l n ws same at within = record { sound = λ rest done r is h. (w, n, l, record { word = at.word; small = at.small }, at.is ∙ ap (λ x. w ++ (35 ∷ (decimal n ++ x))) within.is, subst (λ (vs : List Work). Goes (vs ++ rest) l done r) same h) }

-- ---- names that were read by functions of their own

pub of_field_first : (b base : ℕ) (i l : List ℕ) (names : List (List ℕ)) (ws : List Work) → names ≡ [] → IsFieldRead names b i ws l → Replaces (first_field b) i base ws l
of_field_first b base i l names ws none read =
    of_first_field b base i read.name read.behind l ws (read.works ∙ ap (λ ns. a_term val_sort ∷ more_fields (ns ++ read.name ∷ []) b ∷ []) none) read.word read.colon

pub of_field_more : (names : List (List ℕ)) (b base : ℕ) (i a l : List ℕ) (ws : List Work) → IsBehind (codes ", ") i a → IsFieldRead names b a ws l → Replaces (more_fields names b) i base ws l
of_field_more names b base i a l ws comma read = of_more_fields names b base i a read.name read.behind l ws read.works comma read.word read.colon

pub of_kind_first : (b base : ℕ) (i a c k : List ℕ) (names : List (List ℕ)) (ws : List Work) → names ≡ [] → IsBehind (codes ", ") i a → IsBehind (codes "{") a c → IsKindFieldRead names b c ws k → Replaces (kind_name b) i base ws k
of_kind_first b base i a c k names ws none comma brace read = of_kind_field b base i a c read.name k ws (read.works ∙ ap (λ ns. kind_fields (ns ++ read.name ∷ []) b ∷ []) none) comma brace read.word

pub of_kind_more : (names : List (List ℕ)) (b base : ℕ) (i a k : List ℕ) (ws : List Work) → IsBehind (codes ", ") i a → IsKindFieldRead names b a ws k → Replaces (kind_fields names b) i base ws k
of_kind_more names b base i a k ws comma read = of_more_kind_fields names b base i a read.name k ws read.works comma read.word

pub same_root : (symbol : Symbol) (b base : ℕ) (i : List ℕ) (ws : List Work) → ws ≡ root symbol b ∷ [] → Replaces (root symbol b) i base ws i
same_root symbol b base i ws same = record { sound = λ rest done r is h. subst (λ (vs : List Work). Goes (vs ++ rest) i done r) same h }

pub ruleset term_steps = (of_number, of_int_name, of_val_name, of_int_lead, of_val_lead, of_formula_lead, of_comparison, of_equation)

pub ruleset series_steps = (of_first_end, of_first, of_more_end, of_more)

pub ruleset field_steps = (of_no_field, of_field_first, of_last_field, of_field_more, of_field_name, of_set_field_name)

pub ruleset kind_steps = (of_kind_null, of_kind_bool, of_kind_int, of_kind_array, of_no_fields, of_kind_first, of_last_kind_field, of_kind_more)

pub ruleset number_steps = (of_type_number, of_binder)

pub ruleset expanded_steps = (of_word, same_root)

pub field_read : (names all : List (List ℕ)) (b : ℕ) (i n j l : List ℕ) (ws : List Work) → IsWordAt i n j → IsBehind (codes ": ") j l → all ≡ names ++ n ∷ [] → ws ≡ a_term val_sort ∷ more_fields all b ∷ [] → IsFieldRead names b i ws l
field_read names all b i n j l ws at colon grows same = record { name = n; behind = j; word = at; colon = colon; works = same ∙ ap (λ ns. a_term val_sort ∷ more_fields ns b ∷ []) grows }

pub kind_field_read : (names all : List (List ℕ)) (b : ℕ) (i n l : List ℕ) (ws : List Work) → IsWordAt i n l → all ≡ names ++ n ∷ [] → ws ≡ kind_fields all b ∷ [] → IsKindFieldRead names b i ws l
kind_field_read names all b i n l ws at grows same = record { name = n; word = at; works = same ∙ ap (λ ns. kind_fields ns b ∷ []) grows }

pub ruleset name_steps = (field_read, kind_field_read)
