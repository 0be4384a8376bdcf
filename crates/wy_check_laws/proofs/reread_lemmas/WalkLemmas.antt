-- Where no bracket is open, no space stands in the text of a term.
use Rattle.std.proofs.Common.{◌≡◌, ◌<◌, ◌^◌, ℕ, zero, suc, List, [], ◌∷◌, ◌++◌, Bool, true, false, cond, eqb, codes, ℤ, pos, Option, Some, None, ◌⊎◌, inl, inr, refl, sym, ap, ◌∙◌, subst, arith}
use Rattle.std.proofs.lemmas.Bool.{lt-ltb}
use Rattle.std.specs.Fmt.{decimal, signed_decimal}
use Rattle.wy_data.specs.scan.Front.{is_digit, is_word_byte, AllPass}
use Rattle.wy_data.specs.scan.Numbers.{is_wide, IsSignOrDigits}
use Rattle.wy_data.specs.scan.Words.{IsWord, AreWords}
use Rattle.wy_data.proofs.scan_lemmas.NumberLemmas.{written_so}
use Rattle.wy_check_spec.specs.wy_term.Term as term
use Rattle.wy_check_spec.specs.wy_term.Term.{DataKind, null_kind, bool_kind, int_kind, array_kind, record_kind, Symbol, Term, Of, Parts, no_parts, part}
use Rattle.wy_check_spec.specs.wy_term.Sorts.{Sort, int_sort, val_sort, formula_sort, sort_of}
use Rattle.wy_check_spec.specs.wy_term_text.spell.Grammar.{more_names, kind_before, IsKind, IsInRange, opening, Series, elements, members, between, closing, Gap, Layout, gapped, first_of, more_of, field_gaps, worded, one_of, two_of, three_of, bounds, layout, IsConstant, Spans, Laid}
use Rattle.wy_check_spec.specs.wy_term_text.spell.Grammar as grammar
use Rattle.wy_check_laws.proofs.reread_lemmas.NeatLemmas.{other}

-- ---- brackets

-- the depth behind a closing bracket, and behind a space
abbrev pub lowered : ℕ → Option ℕ
lowered zero = None
lowered (suc d) = Some d

abbrev pub spaced : ℕ → Option ℕ
spaced zero = None
spaced (suc d) = Some (suc d)

-- how many brackets are open behind this byte, where so many were; none where one more is closed, or a space stands outside of all
abbrev pub stepped : ℕ → ℕ → Option ℕ
stepped d b =
    cond (eqb b 40) (Some (suc d)) (cond (eqb b 91) (Some (suc d)) (cond (eqb b 123) (Some (suc d))
    (cond (eqb b 41) (lowered d) (cond (eqb b 93) (lowered d) (cond (eqb b 125) (lowered d)
    (cond (eqb b 32) (spaced d) (Some d)))))))

abbrev pub where_some : Option ℕ → (ℕ → Option ℕ) → Option ℕ
where_some None f = None
where_some (Some d) f = f d

-- likewise behind this text
abbrev pub walk : ℕ → List ℕ → Option ℕ
walk d [] = Some d
walk d (b ∷ bs) = where_some (stepped d b) (λ e. walk e bs)

-- ---- bytes that are no brackets

skip : (x : Bool) (a c : Option ℕ) → x ≡ false → cond x a c ≡ c
skip true a c e = absurd cc
skip false a c e = refl

abbrev IsQuiet : ℕ → Type 0
IsQuiet b = (d : ℕ) → stepped d b ≡ Some d

quiet_by : (test : ℕ → Bool) (b : ℕ) → test b ≡ true → test 40 ≡ false → test 91 ≡ false → test 123 ≡ false → test 41 ≡ false → test 93 ≡ false → test 125 ≡ false → test 32 ≡ false → IsQuiet b
quiet_by test b e f1 f2 f3 f4 f5 f6 f7 d =
    skip (eqb b 40) (Some (suc d)) _ (other test b 40 e f1)
    ∙ (skip (eqb b 91) (Some (suc d)) _ (other test b 91 e f2)
    ∙ (skip (eqb b 123) (Some (suc d)) _ (other test b 123 e f3)
    ∙ (skip (eqb b 41) (lowered d) _ (other test b 41 e f4)
    ∙ (skip (eqb b 93) (lowered d) _ (other test b 93 e f5)
    ∙ (skip (eqb b 125) (lowered d) _ (other test b 125 e f6)
    ∙ skip (eqb b 32) (spaced d) (Some d) (other test b 32 e f7))))))

word_quiet : (b : ℕ) → is_word_byte b ≡ true → IsQuiet b
word_quiet b e = quiet_by is_word_byte b e refl refl refl refl refl refl refl

digit_quiet : (b : ℕ) → is_digit b ≡ true → IsQuiet b
digit_quiet b e = quiet_by is_digit b e refl refl refl refl refl refl refl

abbrev AreQuiet : List ℕ → Type 0
AreQuiet [] = Unit {0}
AreQuiet (b ∷ bs) = IsQuiet b × AreQuiet bs

quiet_walk : (xs ys : List ℕ) (d : ℕ) → AreQuiet xs → walk d (xs ++ ys) ≡ walk d ys
quiet_walk [] ys d h = refl
quiet_walk (b ∷ bs) ys d h = ap (λ (o : Option ℕ). where_some o (λ e. walk e (bs ++ ys))) (h.0 d) ∙ quiet_walk bs ys d h.1

words_quiet : (xs : List ℕ) → AllPass is_word_byte xs → AreQuiet xs
words_quiet [] h = tt
words_quiet (b ∷ bs) h = (word_quiet b h.0, words_quiet bs h.1)

digits_quiet : (xs : List ℕ) → AllPass is_digit xs → AreQuiet xs
digits_quiet [] h = tt
digits_quiet (b ∷ bs) h = (digit_quiet b h.0, digits_quiet bs h.1)

signed_quiet : (xs : List ℕ) → IsSignOrDigits xs → AreQuiet xs
signed_quiet [] h = tt
signed_quiet (b ∷ bs) h = (first h.0, digits_quiet bs h.1)
  where
    first : ((b ≡ 45) ⊎ (is_digit b ≡ true)) → IsQuiet b
    first (inl e) = subst IsQuiet (sym e) (λ d. refl)
    first (inr e) = digit_quiet b e

word_walk : (w ys : List ℕ) (d : ℕ) → IsWord w → walk d (w ++ ys) ≡ walk d ys
word_walk w ys d h = quiet_walk w ys d (words_quiet w h.bytes)

whole_walk : (z : ℤ) (ys : List ℕ) (d : ℕ) → is_wide z ≡ true → walk d (signed_decimal z ++ ys) ≡ walk d ys
whole_walk z ys d e = quiet_walk (signed_decimal z) ys d (signed_quiet (signed_decimal z) (written_so z e))

decimal_walk : (n : ℕ) (ys : List ℕ) (d : ℕ) → n < 2 ^ 127 → walk d (decimal n ++ ys) ≡ walk d ys
decimal_walk n ys d h = whole_walk (pos n) ys d (lt-ltb n (2 ^ 127) h)

wider : (n : ℕ) → n < 2 ^ 32 → n < 2 ^ 127
wider n h = omega (arith, h)

-- ---- kinds

names_walk : (ns : List (List ℕ)) (ys : List ℕ) (d : ℕ) → AreWords ns → walk (suc d) (more_names ns ys) ≡ walk (suc d) ys
names_walk [] ys d h = refl
names_walk (n ∷ ns) ys d h = word_walk n (more_names ns ys) (suc d) h.0 ∙ names_walk ns ys d h.1

kind_walk : (kind : DataKind) (ys : List ℕ) (d : ℕ) → IsKind kind → walk (suc d) (kind_before kind ys) ≡ walk (suc d) ys
kind_walk null_kind ys d h = refl
kind_walk bool_kind ys d h = refl
kind_walk int_kind ys d h = refl
kind_walk array_kind ys d h = refl
kind_walk (record_kind []) ys d h = refl
kind_walk (record_kind (n ∷ ns)) ys d h = word_walk n (more_names ns (codes "}" ++ ys)) (suc (suc d)) h.words.0 ∙ names_walk ns (codes "}" ++ ys) (suc d) h.words.1

-- ---- layouts

-- a formula stands within a bracket
abbrev pub IsSafe : Sort → ℕ → Type 0
IsSafe formula_sort zero = ⊥
IsSafe formula_sort (suc d) = Unit {0}
IsSafe int_sort d = Unit {0}
IsSafe val_sort d = Unit {0}

safe_in : (s : Sort) (d : ℕ) → IsSafe s (suc d)
safe_in int_sort d = tt
safe_in val_sort d = tt
safe_in formula_sort d = tt

-- the gaps lead from one depth to the other, and each part stands at a depth where it may
abbrev GapsWalk : List Gap → ℕ → ℕ → Type 0
GapsWalk [] d e = d ≡ e
GapsWalk (g ∷ gs) d e = IsSafe g.0 d × (f : ℕ) × ((m : List ℕ) → walk d (g.1 m) ≡ walk f m) × GapsWalk gs f e

abbrev LayoutWalks : Layout → ℕ → ℕ → Type 0
LayoutWalks (gapped gs) d e = GapsWalk gs d e
LayoutWalks (first_of s) d e = d ≡ suc e
LayoutWalks (more_of s) d e = d ≡ suc e

-- what a symbol writes before its parts and between them leads from a depth to this depth again
record Walks (symbol : Symbol) (d : ℕ) : Type 0 where
  pub inner : ℕ
  pub opens : (k : List ℕ) → walk d (opening symbol k) ≡ walk inner k
  pub laid : LayoutWalks (layout symbol) inner d

close_one : (s : Sort) (d : ℕ) → GapsWalk (worded (one_of s)) (suc d) d
close_one s d = (safe_in s d, d, (λ m. refl), refl)

close_two : (s t : Sort) (d : ℕ) → GapsWalk (worded (two_of s t)) (suc d) d
close_two s t d = (safe_in s d, suc d, (λ m. refl), (safe_in t d, d, (λ m. refl), refl))

close_three : (s t u : Sort) (d : ℕ) → GapsWalk (worded (three_of s t u)) (suc d) d
close_three s t u d = (safe_in s d, suc d, (λ m. refl), (safe_in t d, suc d, (λ m. refl), (safe_in u d, d, (λ m. refl), refl)))

close_bounds : (d : ℕ) → GapsWalk (worded bounds) (suc d) (suc d)
close_bounds d = (tt, suc d, (λ m. refl), (tt, suc (suc d), (λ m. refl), (tt, suc d, (λ m. refl), refl)))

close_fields : (ns : List (List ℕ)) (d : ℕ) → AreWords ns → GapsWalk (field_gaps ns) (suc d) d
close_fields [] d h = (tt, d, (λ m. refl), refl)
close_fields (n ∷ ns) d h = (tt, suc d, (λ m. word_walk n (codes ": " ++ m) (suc d) h.0), close_fields ns d h.1)

walks : (symbol : Symbol) (d : ℕ) → IsInRange symbol → IsSafe (sort_of symbol) d → Walks symbol d
walks (term.number z) d range safe = record { inner = d; opens = λ k. whole_walk z k d range; laid = refl }
walks (term.int_name w n) d range safe = record { inner = d; opens = λ k. word_walk w (codes "#" ++ (decimal n ++ k)) d range.word ∙ decimal_walk n k d range.small; laid = refl }
walks term.add d range safe = record { inner = suc d; opens = λ k. refl; laid = close_two int_sort int_sort d }
walks term.sub d range safe = record { inner = suc d; opens = λ k. refl; laid = close_two int_sort int_sort d }
walks term.neg d range safe = record { inner = suc d; opens = λ k. refl; laid = close_one int_sort d }
walks term.mul d range safe = record { inner = suc d; opens = λ k. refl; laid = close_two int_sort int_sort d }
walks term.div d range safe = record { inner = suc d; opens = λ k. refl; laid = close_two int_sort int_sort d }
walks term.rem d range safe = record { inner = suc d; opens = λ k. refl; laid = close_two int_sort int_sort d }
walks term.num d range safe = record { inner = suc d; opens = λ k. refl; laid = close_one val_sort d }
walks term.len d range safe = record { inner = suc d; opens = λ k. refl; laid = close_one val_sort d }
walks (term.val_name w n) d range safe = record { inner = d; opens = λ k. word_walk w (codes "." ++ (decimal n ++ k)) d range.word ∙ decimal_walk n k d range.small; laid = refl }
walks term.null d range safe = record { inner = d; opens = λ k. refl; laid = refl }
walks (term.truth true) d range safe = record { inner = d; opens = λ k. refl; laid = refl }
walks (term.truth false) d range safe = record { inner = d; opens = λ k. refl; laid = refl }
walks term.int d range safe = record { inner = suc d; opens = λ k. refl; laid = close_one int_sort d }
walks term.bool d range safe = record { inner = suc d; opens = λ k. refl; laid = close_one formula_sort d }
walks term.array d range safe = record { inner = suc d; opens = λ k. refl; laid = refl }
walks term.repeat d range safe = record { inner = suc d; opens = λ k. refl; laid = close_two val_sort int_sort d }
walks term.update d range safe = record { inner = suc d; opens = λ k. refl; laid = close_three val_sort int_sort val_sort d }
walks term.get d range safe = record { inner = suc d; opens = λ k. refl; laid = close_two val_sort int_sort d }
walks (term.fields []) d range safe = record { inner = d; opens = λ k. refl; laid = refl }
walks (term.fields (n ∷ ns)) d range safe = record { inner = suc d; opens = λ k. word_walk n (codes ": " ++ k) (suc d) range.words.0; laid = close_fields ns d range.words.1 }
walks (term.field name) d range safe = record { inner = suc d; opens = λ k. refl; laid = (tt, d, (λ m. word_walk name (codes ")" ++ m) (suc d) range), refl) }
walks (term.set_field name) d range safe = record { inner = suc d; opens = λ k. refl; laid = (tt, suc d, (λ m. word_walk name (codes ", " ++ m) (suc d) range), (tt, d, (λ m. refl), refl)) }
walks term.at_most zero range safe = absurd safe
walks term.at_most (suc d) range safe = record { inner = suc d; opens = λ k. refl; laid = (tt, suc d, (λ m. refl), (tt, suc d, (λ m. refl), refl)) }
walks term.equal zero range safe = absurd safe
walks term.equal (suc d) range safe = record { inner = suc d; opens = λ k. refl; laid = (tt, suc d, (λ m. refl), (tt, suc d, (λ m. refl), refl)) }
walks (term.of_kind kind) d range safe = record { inner = suc d; opens = λ k. refl; laid = (tt, d, (λ m. kind_walk kind (codes ")" ++ m) d range), refl) }
walks (term.in_type n) d range safe = record { inner = suc d; opens = λ k. refl; laid = (tt, d, (λ m. decimal_walk n (codes ")" ++ m) (suc d) (wider n range)), refl) }
walks (term.every w n) zero range safe = absurd safe
walks (term.every w n) (suc d) range safe = record { inner = suc d; opens = λ k. word_walk w (codes "#" ++ (decimal n ++ (codes " in " ++ k))) (suc d) range.word ∙ decimal_walk n (codes " in " ++ k) (suc d) range.small; laid = close_bounds d }
walks (term.exists w n) zero range safe = absurd safe
walks (term.exists w n) (suc d) range safe = record { inner = suc d; opens = λ k. word_walk w (codes "#" ++ (decimal n ++ (codes " in " ++ k))) (suc d) range.word ∙ decimal_walk n (codes " in " ++ k) (suc d) range.small; laid = close_bounds d }
walks term.denied zero range safe = absurd safe
walks term.denied (suc d) range safe = record { inner = suc d; opens = λ k. refl; laid = (tt, suc d, (λ m. refl), refl) }
walks term.all_of d range safe = record { inner = suc d; opens = λ k. refl; laid = refl }
walks term.any_of d range safe = record { inner = suc d; opens = λ k. refl; laid = refl }

-- ---- terms

constant_walk : (symbol : Symbol) (ps : Parts) (i j : List ℕ) (d : ℕ) → IsConstant symbol ps i j → walk d i ≡ walk d j
constant_walk term.all_of no_parts i j d h = ap (walk d) h.0
constant_walk term.any_of no_parts i j d h = ap (walk d) h.0
constant_walk symbol ps i j d h = absurd h

closing_walk : (s : Series) (i j : List ℕ) (d e : ℕ) → d ≡ suc e → i ≡ closing s ++ j → walk d i ≡ walk e j
closing_walk elements i j d e f h = ap (λ (x : ℕ). walk x i) f ∙ ap (walk (suc e)) h
closing_walk members i j d e f h = ap (λ (x : ℕ). walk x i) f ∙ ap (walk (suc e)) h

between_walk : (s : Series) (k : List ℕ) (d e : ℕ) → d ≡ suc e → walk d (between s ++ k) ≡ walk d k
between_walk elements k d e f = subst (λ (x : ℕ). walk x (codes ", " ++ k) ≡ walk x k) (sym f) refl
between_walk members k d e f = subst (λ (x : ℕ). walk x (codes "; " ++ k) ≡ walk x k) (sym f) refl

safe_at : (s : Sort) (d e : ℕ) → d ≡ suc e → IsSafe s d
safe_at s d e f = subst (IsSafe s) (sym f) (safe_in s e)

mutual
  -- a text and what follows a term lead to one depth
  pub spans_walk : (t : Term) (sort : Sort) (i j : List ℕ) (d : ℕ) → IsSafe sort d → Spans t sort i j → walk d i ≡ walk d j
  spans_walk (Of symbol ps) sort i j d safe (same, range, inl c) = constant_walk symbol ps i j d c
  spans_walk (Of symbol ps) sort i j d safe (same, range, inr (k, opens, laid, stops)) =
      let w = walks symbol d range (subst (λ (s : Sort). IsSafe s d) (sym same) safe) in
      ap (walk d) opens ∙ (w.opens k ∙ laid_walk ps (layout symbol) k j w.inner d w.laid laid)

  laid_walk : (ps : Parts) (lay : Layout) (i j : List ℕ) (d e : ℕ) → LayoutWalks lay d e → Laid ps lay i j → walk d i ≡ walk e j
  laid_walk no_parts (gapped []) i j d e f h = ap (walk d) h ∙ ap (λ (x : ℕ). walk x j) f
  laid_walk no_parts (gapped (g ∷ gs)) i j d e f h = absurd h
  laid_walk no_parts (first_of s) i j d e f h = closing_walk s i j d e f h
  laid_walk no_parts (more_of s) i j d e f h = closing_walk s i j d e f h
  laid_walk (part t ps) (gapped []) i j d e f h = absurd h
  laid_walk (part t ps) (gapped (g ∷ gs)) i j d e f h =
      ap (walk d) h.3 ∙ (spans_walk t g.0 h.0 h.1 d f.0 h.4 ∙ (ap (walk d) h.5 ∙ (f.2 h.2 ∙ laid_walk ps (gapped gs) h.2 j f.1 e f.3 h.6)))
  laid_walk (part t ps) (first_of s) i j d e f h =
      ap (walk d) h.3 ∙ (spans_walk t (grammar.sort_in s) h.0 h.1 d (safe_at (grammar.sort_in s) d e f) h.4 ∙ (ap (walk d) h.5 ∙ laid_walk ps (more_of s) h.2 j d e f h.6))
  laid_walk (part t ps) (more_of s) i j d e f h =
      ap (walk d) h.3 ∙ (between_walk s h.0 d e f ∙ (spans_walk t (grammar.sort_in s) h.0 h.1 d (safe_at (grammar.sort_in s) d e f) h.4 ∙ (ap (walk d) h.5 ∙ laid_walk ps (more_of s) h.2 j d e f h.6)))
