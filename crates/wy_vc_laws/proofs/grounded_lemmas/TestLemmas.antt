-- What a term means rests on the named types that it tests alone, of all named types.
use Rattle.std.proofs.Common.{◌≡◌, ℕ, zero, suc, List, [], ◌∷◌, ◌++◌, Bool, true, false, not, ◌&&◌, ◌||◌, eqb, ℤ, neg_ℤ, ◌+ℤ◌, ◌-ℤ◌, ◌*ℤ◌, refl, ap, ◌∙◌}
use mathlib.Core.Path.{fun_ext}
use Rattle.wy_lemmas.proofs.Choices.{eqb_itself as eqb_self}
use Rattle.wy_check_laws.specs.wy_value.Datum.{Datum, Truth, Whole, Array, Record}
use Rattle.wy_check_laws.specs.wy_term.Data as shapes
use Rattle.wy_check_laws.specs.wy_term.Term as term
use Rattle.wy_check_laws.specs.wy_term.Term.{Symbol, Term, Of, Parts, no_parts, part}
use Rattle.wy_check_laws.specs.wy_term.Meaning.{Names, with_number, Sense, numeric, valued, logical, sense, sense_of, senses_of, meaning, sense_at, data_in, all_hold, any_holds, each_from, any_from, distance}
use Rattle.wy_check_laws.specs.wy_term.Meaning as means
use Rattle.wy_sound_terms.specs.wy_term_subst.grounded.Readings.{with_members}
use Rattle.wy_sound_terms.specs.wy_vc_spec.Limits.{is_among, tests_in, tests_in_parts}

among_front : (ns ms : List ℕ) (n : ℕ) → is_among ns n ≡ true → is_among (ns ++ ms) n ≡ true
among_front [] ms n h = absurd cc
among_front (k ∷ ns) ms n h = by (eqb k n) (λ g. among_front ns ms n g) h
  where
    by : (b : Bool) → (is_among ns n ≡ true → is_among (ns ++ ms) n ≡ true) → (b || is_among ns n) ≡ true → (b || is_among (ns ++ ms) n) ≡ true
    by true rest h = refl
    by false rest h = rest h

among_back : (ns ms : List ℕ) (n : ℕ) → is_among ms n ≡ true → is_among (ns ++ ms) n ≡ true
among_back [] ms n h = h
among_back (k ∷ ns) ms n h = by (eqb k n) (among_back ns ms n h)
  where
    by : (b : Bool) → is_among (ns ++ ms) n ≡ true → (b || is_among (ns ++ ms) n) ≡ true
    by true rest = refl
    by false rest = rest

module _ (first second : ℕ → Datum → Bool) where
  -- both readings agree on these types
  abbrev AgreeOn : List ℕ → Type 0
  AgreeOn ns = (n : ℕ) → is_among ns n ≡ true → (d : Datum) → first n d ≡ second n d

  agree_front : (ns ms : List ℕ) → AgreeOn (ns ++ ms) → AgreeOn ns
  agree_front ns ms f n h = f n (among_front ns ms n h)

  agree_back : (ns ms : List ℕ) → AgreeOn (ns ++ ms) → AgreeOn ms
  agree_back ns ms f n h = f n (among_back ns ms n h)

  -- the sense is the same by both, whatever the names stand for
  abbrev IsOne : (Names → Sense) → Type 0
  IsOne f = (names : Names) → f (with_members names first) ≡ f (with_members names second)

  data AreOne : List (Names → Sense) → Type 0 where
    no_senses : AreOne []
    also : {f : Names → Sense} {fs : List (Names → Sense)} → IsOne f → AreOne fs → AreOne (f ∷ fs)

  at_one : {fs : List (Names → Sense)} (k : ℕ) → AreOne fs → IsOne (sense_at fs k)
  at_one k no_senses names = refl
  at_one zero (also h all) names = h names
  at_one (suc k) (also h all) names = at_one k all names

  data_one : {fs : List (Names → Sense)} → AreOne fs → (names : Names) → data_in fs (with_members names first) ≡ data_in fs (with_members names second)
  data_one no_senses names = refl
  data_one (also {f = f} {fs = fs} h all) names = ap (λ (x : Sense). x.datum ∷ data_in fs (with_members names first)) (h names) ∙ ap (λ (ds : List Datum). (f (with_members names second)).datum ∷ ds) (data_one all names)

  all_one : {fs : List (Names → Sense)} → AreOne fs → (names : Names) → all_hold fs (with_members names first) ≡ all_hold fs (with_members names second)
  all_one no_senses names = refl
  all_one (also {f = f} {fs = fs} h all) names = ap (λ (x : Sense). x.truth && all_hold fs (with_members names first)) (h names) ∙ ap (λ (b : Bool). (f (with_members names second)).truth && b) (all_one all names)

  any_one : {fs : List (Names → Sense)} → AreOne fs → (names : Names) → any_holds fs (with_members names first) ≡ any_holds fs (with_members names second)
  any_one no_senses names = refl
  any_one (also {f = f} {fs = fs} h all) names = ap (λ (x : Sense). x.truth || any_holds fs (with_members names first)) (h names) ∙ ap (λ (b : Bool). (f (with_members names second)).truth || b) (any_one all names)

  module _ (fs : List (Names → Sense)) (all : AreOne fs) (names : Names) where
    by_three : (g : Sense → Sense → Sense → Sense) → g (sense_at fs 0 (with_members names first)) (sense_at fs 1 (with_members names first)) (sense_at fs 2 (with_members names first)) ≡ g (sense_at fs 0 (with_members names second)) (sense_at fs 1 (with_members names second)) (sense_at fs 2 (with_members names second))
    by_three g =
        ap (λ (x : Sense). g x (sense_at fs 1 (with_members names first)) (sense_at fs 2 (with_members names first))) (at_one 0 all names)
        ∙ (ap (λ (x : Sense). g (sense_at fs 0 (with_members names second)) x (sense_at fs 2 (with_members names first))) (at_one 1 all names)
        ∙ ap (λ (x : Sense). g (sense_at fs 0 (with_members names second)) (sense_at fs 1 (with_members names second)) x) (at_one 2 all names))

    by_range : (w : List ℕ) (n : ℕ) (test : ℤ → ℕ → (ℤ → Bool) → Bool) → test (sense_at fs 0 (with_members names first)).number (distance ((sense_at fs 1 (with_members names first)).number -ℤ (sense_at fs 0 (with_members names first)).number)) (λ z. (sense_at fs 2 (with_number (with_members names first) w n z)).truth) ≡ test (sense_at fs 0 (with_members names second)).number (distance ((sense_at fs 1 (with_members names second)).number -ℤ (sense_at fs 0 (with_members names second)).number)) (λ z. (sense_at fs 2 (with_number (with_members names second) w n z)).truth)
    by_range w n test =
        ap (λ (x : Sense). test x.number (distance ((sense_at fs 1 (with_members names first)).number -ℤ x.number)) (λ z. (sense_at fs 2 (with_number (with_members names first) w n z)).truth)) (at_one 0 all names)
        ∙ (ap (λ (x : Sense). test (sense_at fs 0 (with_members names second)).number (distance (x.number -ℤ (sense_at fs 0 (with_members names second)).number)) (λ z. (sense_at fs 2 (with_number (with_members names first) w n z)).truth)) (at_one 1 all names)
        ∙ ap (test (sense_at fs 0 (with_members names second)).number (distance ((sense_at fs 1 (with_members names second)).number -ℤ (sense_at fs 0 (with_members names second)).number))) (fun_ext (λ z. ap (λ (x : Sense). x.truth) (at_one 2 all (with_number names w n z)))))

  -- the types that a symbol tests besides those of its parts
  abbrev own_tests : Symbol → List ℕ
  own_tests (term.in_type n) = n ∷ []
  own_tests symbol = []

  by_symbol : (symbol : Symbol) (fs : List (Names → Sense)) → AgreeOn (own_tests symbol) → AreOne fs → IsOne (meaning symbol fs)
  by_symbol (term.number z) fs f all names = refl
  by_symbol (term.int_name w n) fs f all names = refl
  by_symbol term.add fs f all names = by_three fs all names (λ x y z. numeric (x.number +ℤ y.number))
  by_symbol term.sub fs f all names = by_three fs all names (λ x y z. numeric (x.number -ℤ y.number))
  by_symbol term.neg fs f all names = by_three fs all names (λ x y z. numeric (neg_ℤ x.number))
  by_symbol term.mul fs f all names = by_three fs all names (λ x y z. numeric (x.number *ℤ y.number))
  by_symbol term.div fs f all names = by_three fs all names (λ x y z. numeric (shapes.quotient x.number y.number))
  by_symbol term.rem fs f all names = by_three fs all names (λ x y z. numeric (shapes.remainder x.number y.number))
  by_symbol term.num fs f all names = by_three fs all names (λ x y z. numeric (shapes.number_in x.datum))
  by_symbol term.len fs f all names = by_three fs all names (λ x y z. numeric (shapes.length_in x.datum))
  by_symbol (term.val_name w n) fs f all names = refl
  by_symbol term.null fs f all names = refl
  by_symbol (term.truth b) fs f all names = refl
  by_symbol term.int fs f all names = by_three fs all names (λ x y z. valued (Whole x.number))
  by_symbol term.bool fs f all names = by_three fs all names (λ x y z. valued (Truth x.truth))
  by_symbol term.array fs f all names = ap (λ (ds : List Datum). valued (Array (shapes.items_with ds))) (data_one all names)
  by_symbol term.repeat fs f all names = by_three fs all names (λ x y z. valued (shapes.repeated x.datum y.number))
  by_symbol term.update fs f all names = by_three fs all names (λ x y z. valued (shapes.with_element x.datum y.number z.datum))
  by_symbol term.get fs f all names = by_three fs all names (λ x y z. valued (shapes.element x.datum y.number))
  by_symbol (term.fields ns) fs f all names = ap (λ (ds : List Datum). valued (Record (shapes.fields_with ns ds))) (data_one all names)
  by_symbol (term.field n) fs f all names = by_three fs all names (λ x y z. valued (shapes.field_in x.datum n))
  by_symbol (term.set_field n) fs f all names = by_three fs all names (λ x y z. valued (shapes.with_field x.datum n y.datum))
  by_symbol term.at_most fs f all names = by_three fs all names (λ x y z. logical (means.at_most x.number y.number))
  by_symbol term.equal fs f all names = by_three fs all names (λ x y z. logical (shapes.same_datum x.datum y.datum))
  by_symbol (term.of_kind k) fs f all names = by_three fs all names (λ x y z. logical (shapes.is_of_kind k x.datum))
  by_symbol (term.in_type n) fs f all names = by_three fs all names (λ x y z. logical (first n x.datum)) ∙ ap logical (f n (own n) (sense_at fs 0 (with_members names second)).datum)
    where
      own : (n : ℕ) → is_among (n ∷ []) n ≡ true
      own n = ap (λ (b : Bool). b || false) (eqb_self n)
  by_symbol (term.every w n) fs f all names = ap logical (by_range fs all names w n each_from)
  by_symbol (term.exists w n) fs f all names = ap logical (by_range fs all names w n any_from)
  by_symbol term.denied fs f all names = by_three fs all names (λ x y z. logical (not x.truth))
  by_symbol term.all_of fs f all names = ap logical (all_one all names)
  by_symbol term.any_of fs f all names = ap logical (any_one all names)

  -- the tests of a term are its symbol's and those of its parts
  own_part : (symbol : Symbol) (ps : Parts) → AgreeOn (tests_in (Of symbol ps)) → AgreeOn (own_tests symbol) × AgreeOn (tests_in_parts ps)
  own_part (term.in_type n) ps f = (agree_front (n ∷ []) (tests_in_parts ps) f, agree_back (n ∷ []) (tests_in_parts ps) f)
  own_part symbol ps f = (λ n h. absurd (none n h), f)
    where
      none : (n : ℕ) → is_among [] n ≡ true → ⊥
      none n h = absurd cc

  mutual
    term_one : (t : Term) → AgreeOn (tests_in t) → IsOne (sense_of t)
    term_one (Of symbol ps) f = let g = own_part symbol ps f in by_symbol symbol (senses_of ps) g.0 (parts_one ps g.1)

    parts_one : (ps : Parts) → AgreeOn (tests_in_parts ps) → AreOne (senses_of ps)
    parts_one no_parts f = no_senses
    parts_one (part t ps) f = also (term_one t (agree_front (tests_in t) (tests_in_parts ps) f)) (parts_one ps (agree_back (tests_in t) (tests_in_parts ps) f))

  -- where both readings agree on the types that a term tests, the term means the same
  pub rests_on_tests : (t : Term) (names : Names) → AgreeOn (tests_in t) → sense (with_members names first) t ≡ sense (with_members names second) t
  rests_on_tests t names f = term_one t f names
