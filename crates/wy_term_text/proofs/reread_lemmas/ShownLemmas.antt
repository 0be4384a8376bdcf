-- Each term's text is a spelling of it.
use Rattle.std.proofs.Common.{◌≡◌, ℕ, List, [], ◌∷◌, ◌++◌, true, false, inl, inr, codes, refl, sym, ap, ◌∙◌, subst}
use Rattle.std.proofs.lemmas.List.{append-nil}
use Rattle.std.specs.Fmt.{decimal}
use Rattle.wy_term.specs.wy_data.scan.Front.{is_digit, heads}
use Rattle.wy_term.specs.Term.{Symbol, Term, Of, Parts, no_parts, part}
use Rattle.wy_term.specs.Term as term
use Rattle.wy_term.specs.Sorts.{Sort, int_sort, val_sort, formula_sort, sort_of}
use Rattle.wy_term_text.specs.show.Text.{written, text_of, texts_of, kind_text}
use Rattle.wy_term_text.specs.spell.Grammar.{Gap, Layout, gapped, first_of, more_of, Series, elements, members, sort_in, goes_on, goes_on_or_space, field_gaps, layout, opening, Stops, IsInRange, Spans, Laid, Spells}
use Rattle.wy_term_text.specs.reread.Shown.{IsOf, AreOf}
use Rattle.wy_term_text.proofs.reread_lemmas.Texts.{gap_text, more_text, first_text, one_text, two_text, three_text, compared_text, bound_text, number_name_text, datum_name_text, series_text, kind_is_written, Fits, fields_text}

-- ---- what may follow a term

abbrev CanFollow : Sort → List ℕ → Type 0
CanFollow int_sort j = heads is_digit j ≡ false
CanFollow val_sort j = (heads is_digit j ≡ false) × (heads goes_on j ≡ false)
CanFollow formula_sort j = (heads is_digit j ≡ false) × (heads goes_on j ≡ false) × (heads goes_on_or_space j ≡ false)

-- what stands behind each part may follow it
abbrev AllFollow : List Gap → List ℕ → Type 0
AllFollow [] j = Unit {0}
AllFollow (g ∷ []) j = CanFollow g.0 (g.1 j)
AllFollow (g ∷ h ∷ gs) j = ((i : List ℕ) → CanFollow g.0 (g.1 i)) × AllFollow (h ∷ gs) j

abbrev LayoutFollows : Layout → List ℕ → Type 0
LayoutFollows (gapped gs) j = AllFollow gs j
LayoutFollows (first_of s) j = Unit {0}
LayoutFollows (more_of s) j = Unit {0}

abbrev layout_text : Layout → List (List ℕ) → List ℕ → List ℕ
layout_text (gapped gs) xs j = gap_text gs xs j
layout_text (first_of s) xs j = first_text s xs j
layout_text (more_of s) xs j = more_text s xs j

fields_follow : (ns : List (List ℕ)) (j : List ℕ) → AllFollow (field_gaps ns) j
fields_follow [] j = (refl, refl)
fields_follow (n ∷ []) j = ((λ i. (refl, refl)), fields_follow [] j)
fields_follow (n ∷ m ∷ ns) j = ((λ i. (refl, refl)), fields_follow (m ∷ ns) j)

follow_layout : (symbol : Symbol) (j : List ℕ) → CanFollow (sort_of symbol) j → LayoutFollows (layout symbol) j
follow_layout (term.number z) j f = tt
follow_layout (term.int_name word n) j f = tt
follow_layout term.add j f = ((λ i. refl), refl)
follow_layout term.sub j f = ((λ i. refl), refl)
follow_layout term.neg j f = refl
follow_layout term.mul j f = ((λ i. refl), refl)
follow_layout term.div j f = ((λ i. refl), refl)
follow_layout term.rem j f = ((λ i. refl), refl)
follow_layout term.num j f = (refl, refl)
follow_layout term.len j f = (refl, refl)
follow_layout (term.val_name word n) j f = tt
follow_layout term.null j f = tt
follow_layout (term.truth b) j f = tt
follow_layout term.int j f = refl
follow_layout term.bool j f = (refl, refl, refl)
follow_layout term.array j f = tt
follow_layout term.repeat j f = ((λ i. (refl, refl)), refl)
follow_layout term.update j f = ((λ i. (refl, refl)), ((λ i. refl), (refl, refl)))
follow_layout term.get j f = ((λ i. (refl, refl)), refl)
follow_layout (term.fields []) j f = tt
follow_layout (term.fields (n ∷ ns)) j f = fields_follow ns j
follow_layout (term.field name) j f = (refl, refl)
follow_layout (term.set_field name) j f = ((λ i. (refl, refl)), (refl, refl))
follow_layout term.at_most j f = ((λ i. refl), f.0)
follow_layout term.equal j f = ((λ i. (refl, refl)), (f.0, f.1))
follow_layout (term.of_kind kind) j f = (refl, refl)
follow_layout (term.in_type n) j f = (refl, refl)
follow_layout (term.every word n) j f = ((λ i. refl), ((λ i. refl), (refl, refl, refl)))
follow_layout (term.exists word n) j f = ((λ i. refl), ((λ i. refl), (refl, refl, refl)))
follow_layout term.denied j f = f
follow_layout term.all_of j f = tt
follow_layout term.any_of j f = tt

-- a part of a series may be followed by the others
more_follows : (s : Series) (xs : List (List ℕ)) (j : List ℕ) → CanFollow (sort_in s) (more_text s xs j)
more_follows elements [] j = (refl, refl)
more_follows elements (x ∷ xs) j = (refl, refl)
more_follows members [] j = (refl, refl, refl)
more_follows members (x ∷ xs) j = (refl, refl, refl)

-- a term without parts ends there
leaf_ends : (symbol : Symbol) (j : List ℕ) → CanFollow (sort_of symbol) j → Stops symbol j
leaf_ends (term.number z) j f = f
leaf_ends (term.int_name word n) j f = f
leaf_ends (term.val_name word n) j f = f.0
leaf_ends term.null j f = f.1
leaf_ends (term.truth b) j f = f.1
leaf_ends symbol j f = tt

-- ---- parts by their number

none_shape : (ps : Parts) → AreOf ps (gapped []) → (P : List (List ℕ) → Type 0) → P [] → P (texts_of ps)
none_shape no_parts of P f = f
none_shape (part t ps) of P f = absurd of

one_shape : (ps : Parts) (g : Gap) → AreOf ps (gapped (g ∷ [])) → (P : List (List ℕ) → Type 0) → ((x : List ℕ) → P (x ∷ [])) → P (texts_of ps)
one_shape no_parts g of P f = absurd of
one_shape (part t no_parts) g of P f = f (text_of t)
one_shape (part t (part u ps)) g of P f = absurd of.1

two_shape : (ps : Parts) (g h : Gap) → AreOf ps (gapped (g ∷ h ∷ [])) → (P : List (List ℕ) → Type 0) → ((x y : List ℕ) → P (x ∷ y ∷ [])) → P (texts_of ps)
two_shape no_parts g h of P f = absurd of
two_shape (part t ps) g h of P f = one_shape ps h of.1 (λ xs. P (text_of t ∷ xs)) (λ y. f (text_of t) y)

three_shape : (ps : Parts) (g h k : Gap) → AreOf ps (gapped (g ∷ h ∷ k ∷ [])) → (P : List (List ℕ) → Type 0) → ((x y z : List ℕ) → P (x ∷ y ∷ z ∷ [])) → P (texts_of ps)
three_shape no_parts g h k of P f = absurd of
three_shape (part t ps) g h k of P f = two_shape ps h k of.1 (λ xs. P (text_of t ∷ xs)) (λ y z. f (text_of t) y z)

fields_shape : (ns : List (List ℕ)) (ps : Parts) → AreOf ps (gapped (field_gaps ns)) → (P : List (List ℕ) → Type 0) → ((x : List ℕ) (xs : List (List ℕ)) → Fits ns xs → P (x ∷ xs)) → P (texts_of ps)
fields_shape [] no_parts of P f = absurd of
fields_shape [] (part t no_parts) of P f = f (text_of t) [] tt
fields_shape [] (part t (part u ps)) of P f = absurd of.1
fields_shape (n ∷ ns) no_parts of P f = absurd of
fields_shape (n ∷ ns) (part t ps) of P f = fields_shape ns ps of.1 (λ xs. P (text_of t ∷ xs)) (λ x xs fits. f (text_of t) (x ∷ xs) fits)

-- ---- texts

-- how the term is written is how it is spelled
abbrev SameText : Symbol → List ℕ → List (List ℕ) → Type 0
SameText symbol j xs = written symbol xs ++ j ≡ opening symbol (layout_text (layout symbol) xs j)

same_text : (symbol : Symbol) (ps : Parts) (j : List ℕ) → AreOf ps (layout symbol) → (texts_of ps ≡ [] → symbol ≡ term.all_of → ⊥) → (texts_of ps ≡ [] → symbol ≡ term.any_of → ⊥) → SameText symbol j (texts_of ps)
same_text (term.number z) ps j of a o = none_shape ps of (SameText (term.number z) j) refl
same_text (term.int_name word n) ps j of a o = none_shape ps of (SameText (term.int_name word n) j) (number_name_text word n j)
same_text term.add ps j of a o = two_shape ps _ _ of (SameText term.add j) (λ x y. two_text (codes "add") x y j)
same_text term.sub ps j of a o = two_shape ps _ _ of (SameText term.sub j) (λ x y. two_text (codes "sub") x y j)
same_text term.neg ps j of a o = one_shape ps _ of (SameText term.neg j) (λ x. one_text (codes "neg") x j)
same_text term.mul ps j of a o = two_shape ps _ _ of (SameText term.mul j) (λ x y. two_text (codes "mul") x y j)
same_text term.div ps j of a o = two_shape ps _ _ of (SameText term.div j) (λ x y. two_text (codes "div") x y j)
same_text term.rem ps j of a o = two_shape ps _ _ of (SameText term.rem j) (λ x y. two_text (codes "mod") x y j)
same_text term.num ps j of a o = one_shape ps _ of (SameText term.num j) (λ x. one_text (codes "num") x j)
same_text term.len ps j of a o = one_shape ps _ of (SameText term.len j) (λ x. one_text (codes "len") x j)
same_text (term.val_name word n) ps j of a o = none_shape ps of (SameText (term.val_name word n) j) (datum_name_text word n j)
same_text term.null ps j of a o = none_shape ps of (SameText term.null j) refl
same_text (term.truth true) ps j of a o = none_shape ps of (SameText (term.truth true) j) refl
same_text (term.truth false) ps j of a o = none_shape ps of (SameText (term.truth false) j) refl
same_text term.int ps j of a o = one_shape ps _ of (SameText term.int j) (λ x. one_text (codes "int") x j)
same_text term.bool ps j of a o = one_shape ps _ of (SameText term.bool j) (λ x. one_text (codes "bool") x j)
same_text term.array ps j of a o = ap (λ r. codes "arr[" ++ r) (series_text elements (texts_of ps) j)
same_text term.repeat ps j of a o = two_shape ps _ _ of (SameText term.repeat j) (λ x y. two_text (codes "rep") x y j)
same_text term.update ps j of a o = three_shape ps _ _ _ of (SameText term.update j) (λ x y z. three_text (codes "upd") x y z j)
same_text term.get ps j of a o = two_shape ps _ _ of (SameText term.get j) (λ x y. two_text (codes "get") x y j)
same_text (term.fields []) ps j of a o = none_shape ps of (SameText (term.fields []) j) refl
same_text (term.fields (n ∷ ns)) ps j of a o = fields_shape ns ps of (SameText (term.fields (n ∷ ns)) j) (λ x xs fits. ap (λ r. codes "rec{" ++ r) (fields_text n ns xs x j fits))
same_text (term.field name) ps j of a o = one_shape ps _ of (SameText (term.field name) j) (λ x. two_text (codes "fld") x name j)
same_text (term.set_field name) ps j of a o = two_shape ps _ _ of (SameText (term.set_field name) j) (λ x y. three_text (codes "setf") x name y j)
same_text term.at_most ps j of a o = two_shape ps _ _ of (SameText term.at_most j) (λ x y. compared_text (codes " <= ") x y j)
same_text term.equal ps j of a o = two_shape ps _ _ of (SameText term.equal j) (λ x y. compared_text (codes " = ") x y j)
same_text (term.of_kind kind) ps j of a o =
    one_shape ps _ of (SameText (term.of_kind kind) j) (λ x. two_text (codes "kind") x (kind_text kind) j ∙ ap (λ r. codes "kind(" ++ (x ++ (codes ", " ++ r))) (kind_is_written kind (codes ")" ++ j)))
same_text (term.in_type n) ps j of a o = one_shape ps _ of (SameText (term.in_type n) j) (λ x. two_text (codes "in") x (decimal n) j)
same_text (term.every word n) ps j of a o = three_shape ps _ _ _ of (SameText (term.every word n) j) (λ x y z. bound_text (codes "all ") word n x y z j)
same_text (term.exists word n) ps j of a o = three_shape ps _ _ _ of (SameText (term.exists word n) j) (λ x y z. bound_text (codes "some ") word n x y z j)
same_text term.denied ps j of a o = one_shape ps _ of (SameText term.denied j) (λ x. refl)
same_text term.all_of no_parts j of a o = absurd (a refl refl)
same_text term.all_of (part t ps) j of a o = ap (λ r. codes "and(" ++ r) (series_text members (texts_of (part t ps)) j)
same_text term.any_of no_parts j of a o = absurd (o refl refl)
same_text term.any_of (part t ps) j of a o = ap (λ r. codes "or(" ++ r) (series_text members (texts_of (part t ps)) j)

-- ---- terms

by_layout : (symbol : Symbol) (ps : Parts) (sort : Sort) (j : List ℕ) → sort_of symbol ≡ sort → IsInRange symbol → CanFollow (sort_of symbol) j → SameText symbol j (texts_of ps) → Laid ps (layout symbol) (layout_text (layout symbol) (texts_of ps) j) j → Spans (Of symbol ps) sort (written symbol (texts_of ps) ++ j) j
by_layout symbol ps sort j is range f same laid = (is, range, inr (layout_text (layout symbol) (texts_of ps) j, same, laid, leaf_ends symbol j f))

by_symbol : (symbol : Symbol) (ps : Parts) (sort : Sort) (j : List ℕ) → sort_of symbol ≡ sort → IsInRange symbol → AreOf ps (layout symbol) → CanFollow (sort_of symbol) j → Laid ps (layout symbol) (layout_text (layout symbol) (texts_of ps) j) j → Spans (Of symbol ps) sort (written symbol (texts_of ps) ++ j) j
by_symbol term.all_of no_parts sort j is range of f laid = (is, range, inl (refl, f.2))
by_symbol term.any_of no_parts sort j is range of f laid = (is, range, inl (refl, f.2))
by_symbol term.all_of (part t ps) sort j is range of f laid = by_layout term.all_of (part t ps) sort j is range f (same_text term.all_of (part t ps) j of (λ e s. absurd (cc)) (λ e s. absurd (cc))) laid
by_symbol term.any_of (part t ps) sort j is range of f laid = by_layout term.any_of (part t ps) sort j is range f (same_text term.any_of (part t ps) j of (λ e s. absurd (cc)) (λ e s. absurd (cc))) laid
by_symbol symbol ps sort j is range of f laid = by_layout symbol ps sort j is range f (same_text symbol ps j of (λ e s. absurd (cc)) (λ e s. absurd (cc))) laid

mutual
  shown : (t : Term) (sort : Sort) (j : List ℕ) → IsOf t sort → CanFollow sort j → Spans t sort (text_of t ++ j) j
  shown (Of symbol ps) sort j of f =
      let g : CanFollow (sort_of symbol) j = subst (λ s. CanFollow s j) (sym of.0) f in
      by_symbol symbol ps sort j of.0 of.1 of.2 g (laid_parts ps (layout symbol) j of.2 (follow_layout symbol j g))

  laid_parts : (ps : Parts) (l : Layout) (j : List ℕ) → AreOf ps l → LayoutFollows l j → Laid ps l (layout_text l (texts_of ps) j) j
  laid_parts no_parts (gapped []) j of f = refl
  laid_parts no_parts (gapped (g ∷ gs)) j of f = absurd of
  laid_parts no_parts (first_of s) j of f = refl
  laid_parts no_parts (more_of s) j of f = refl
  laid_parts (part t ps) (gapped []) j of f = absurd of
  laid_parts (part t ps) (gapped (g ∷ [])) j of f =
      (text_of t ++ g.1 j, g.1 j, j, refl, shown t g.0 (g.1 j) of.0 f, refl, laid_parts ps (gapped []) j of.1 tt)
  laid_parts (part t ps) (gapped (g ∷ h ∷ gs)) j of f =
      let rest = gap_text (h ∷ gs) (texts_of ps) j in
      (text_of t ++ g.1 rest, g.1 rest, rest, refl, shown t g.0 (g.1 rest) of.0 (f.0 rest), refl, laid_parts ps (gapped (h ∷ gs)) j of.1 f.1)
  laid_parts (part t ps) (first_of s) j of f =
      let rest = more_text s (texts_of ps) j in
      (text_of t ++ rest, rest, rest, refl, shown t (sort_in s) rest of.0 (more_follows s (texts_of ps) j), refl, laid_parts ps (more_of s) j of.1 tt)
  laid_parts (part t ps) (more_of s) j of f =
      let rest = more_text s (texts_of ps) j in
      (text_of t ++ rest, rest, rest, refl, shown t (sort_in s) rest of.0 (more_follows s (texts_of ps) j), refl, laid_parts ps (more_of s) j of.1 tt)

no_end : (sort : Sort) → CanFollow sort []
no_end int_sort = refl
no_end val_sort = (refl, refl)
no_end formula_sort = (refl, refl, refl)

pub shown_spells : (t : Term) (sort : Sort) → IsOf t sort → Spells sort (text_of t) t
shown_spells t sort of = subst (λ x. Spans t sort x []) (append-nil (text_of t)) (shown t sort [] of (no_end sort))
