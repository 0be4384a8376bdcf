-- What a text spells is of its sort, and so are its parts.
use Rattle.std.proofs.Common.{◌≡◌, ℕ, List, [], ◌∷◌, ◌⊎◌, inl, inr, refl, sym, ap, ◌∙◌, subst}
use Rattle.wy_check_laws.specs.wy_term.Term as term
use Rattle.wy_check_laws.specs.wy_term.Term.{Symbol, Term, Of, Parts, no_parts, part}
use Rattle.wy_check_laws.specs.wy_term.Sorts.{Sort, val_sort, sort_in}
use Rattle.wy_sound_terms.specs.wy_term_subst.sorted.Sorted.{Places, each, places, MayEnd, MayCome, behind, IsSorted, AreSorted}
use Rattle.wy_sound_terms.specs.wy_term_subst.kept_sorts.SortKept.{HasSort}
use Rattle.wy_sound_terms.proofs.wy_term_subst_proofs.kept_sorts_lemmas.SortLemmas.{folded_sorted}
use Rattle.wy_check_laws.specs.wy_term_text.spell.Grammar.{Gap, Layout, gapped, first_of, more_of, field_gaps, layout, IsConstant, Spans, Laid}
use Rattle.wy_check_laws.specs.wy_term_text.spell.Grammar as grammar
use Rattle.wy_check_laws.specs.wy_term_text.spell.Made.{made, made_parts, IsSpelled}

-- ---- layouts

abbrev GapsFit : List Gap → Places → Type 0
GapsFit [] wanted = MayEnd wanted
GapsFit (g ∷ gs) wanted = MayCome wanted g.0 × GapsFit gs (behind wanted)

-- the parts that a layout has are of the sorts that are wanted
abbrev Fits : Layout → Places → Type 0
Fits (gapped gs) wanted = GapsFit gs wanted
Fits (first_of s) wanted = wanted ≡ each (grammar.sort_in s)
Fits (more_of s) wanted = wanted ≡ each (grammar.sort_in s)

fields_fit : (ns : List (List ℕ)) → GapsFit (field_gaps ns) (each val_sort)
fields_fit [] = (refl, tt)
fields_fit (n ∷ ns) = (refl, fields_fit ns)

fits : (symbol : Symbol) → Fits (layout symbol) (places symbol)
fits (term.number z) = tt
fits (term.int_name w n) = tt
fits term.add = (refl, (refl, tt))
fits term.sub = (refl, (refl, tt))
fits term.neg = (refl, tt)
fits term.mul = (refl, (refl, tt))
fits term.div = (refl, (refl, tt))
fits term.rem = (refl, (refl, tt))
fits term.num = (refl, tt)
fits term.len = (refl, tt)
fits (term.val_name w n) = tt
fits term.null = tt
fits (term.truth b) = tt
fits term.int = (refl, tt)
fits term.bool = (refl, tt)
fits term.array = refl
fits term.repeat = (refl, (refl, tt))
fits term.update = (refl, (refl, (refl, tt)))
fits term.get = (refl, (refl, tt))
fits (term.fields []) = tt
fits (term.fields (n ∷ ns)) = fields_fit ns
fits (term.field n) = (refl, tt)
fits (term.set_field n) = (refl, (refl, tt))
fits term.at_most = (refl, (refl, tt))
fits term.equal = (refl, (refl, tt))
fits (term.of_kind k) = (refl, tt)
fits (term.in_type n) = (refl, tt)
fits (term.every w n) = (refl, (refl, (refl, tt)))
fits (term.exists w n) = (refl, (refl, (refl, tt)))
fits term.denied = (refl, tt)
fits term.all_of = refl
fits term.any_of = refl

-- ---- terms as they are written

constant_sorted : (symbol : Symbol) (ps : Parts) (i j : List ℕ) → IsConstant symbol ps i j → AreSorted ps (places symbol)
constant_sorted term.all_of no_parts i j h = tt
constant_sorted term.any_of no_parts i j h = tt
constant_sorted symbol ps i j h = absurd h

come : (wanted : Places) (a b : Sort) → a ≡ b → MayCome wanted b → MayCome wanted a
come wanted a b e h = subst (MayCome wanted) (sym e) h

mutual
  spans_sorted : (t : Term) (sort : Sort) (i j : List ℕ) → Spans t sort i j → HasSort t sort
  spans_sorted (Of symbol ps) sort i j h = (by h.2 (λ k laid. laid_sorted ps (layout symbol) (places symbol) k j (fits symbol) laid), h.0)
    where
      by : (IsConstant symbol ps i j ⊎ ((k : List ℕ) × (i ≡ grammar.opening symbol k) × Laid ps (layout symbol) k j × grammar.Stops symbol j)) → ((k : List ℕ) → Laid ps (layout symbol) k j → AreSorted ps (places symbol)) → AreSorted ps (places symbol)
      by (inl c) parts = constant_sorted symbol ps i j c
      by (inr l) parts = parts l.0 l.2

  laid_sorted : (ps : Parts) (lay : Layout) (wanted : Places) (i j : List ℕ) → Fits lay wanted → Laid ps lay i j → AreSorted ps wanted
  laid_sorted no_parts (gapped []) wanted i j f h = f
  laid_sorted no_parts (gapped (g ∷ gs)) wanted i j f h = absurd h
  laid_sorted no_parts (first_of s) wanted i j f h = subst MayEnd (sym f) tt
  laid_sorted no_parts (more_of s) wanted i j f h = subst MayEnd (sym f) tt
  laid_sorted (part t ps) (gapped []) wanted i j f h = absurd h
  laid_sorted (part t ps) (gapped (g ∷ gs)) wanted i j f h =
      let first = spans_sorted t g.0 h.0 h.1 h.4 in
      (come wanted (sort_in t) g.0 first.1 f.0, first.0, laid_sorted ps (gapped gs) (behind wanted) h.2 j f.1 h.6)
  laid_sorted (part t ps) (first_of s) wanted i j f h =
      let first = spans_sorted t (grammar.sort_in s) h.0 h.1 h.4 in
      (come wanted (sort_in t) (grammar.sort_in s) first.1 (subst (λ (p : Places). MayCome p (grammar.sort_in s)) (sym f) refl), first.0, laid_sorted ps (more_of s) (behind wanted) h.2 j (ap behind f) h.6)
  laid_sorted (part t ps) (more_of s) wanted i j f h =
      let first = spans_sorted t (grammar.sort_in s) h.0 h.1 h.4 in
      (come wanted (sort_in t) (grammar.sort_in s) first.1 (subst (λ (p : Places). MayCome p (grammar.sort_in s)) (sym f) refl), first.0, laid_sorted ps (more_of s) (behind wanted) h.2 j (ap behind f) h.6)

-- ---- terms as they are made

mutual
  made_sorted : (t : Term) → IsSorted t → HasSort (made t) (sort_in t)
  made_sorted (Of symbol ps) h = folded_sorted (Of symbol (made_parts ps)) (parts_made_sorted ps (places symbol) h)

  parts_made_sorted : (ps : Parts) (wanted : Places) → AreSorted ps wanted → AreSorted (made_parts ps) wanted
  parts_made_sorted no_parts wanted h = h
  parts_made_sorted (part t ps) wanted h =
      let first = made_sorted t h.1 in
      (come wanted (sort_in (made t)) (sort_in t) first.1 h.0, first.0, parts_made_sorted ps (behind wanted) h.2)

-- what a text spells is of its sort
pub spelled_sorted : (sort : Sort) (text : List ℕ) (t : Term) → IsSpelled sort text t → HasSort t sort
spelled_sorted sort text t h =
    let raw = spans_sorted h.raw sort text [] h.spells in
    let done = made_sorted h.raw raw.0 in
    subst (λ (u : Term). HasSort u sort) (sym h.folds) (done.0, done.1 ∙ raw.1)
