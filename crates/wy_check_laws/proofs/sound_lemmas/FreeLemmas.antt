-- What a term means rests on what its free names stand for, and on the named types.
use Rattle.std.proofs.Common.{◌≡◌, ℕ, zero, suc, List, [], ◌∷◌, ◌++◌, Bool, true, false, cond, eqb, not, ◌&&◌, ◌||◌, ℤ, neg_ℤ, ◌+ℤ◌, ◌-ℤ◌, ◌*ℤ◌, refl, sym, ap, ◌∙◌, subst}
use mathlib.Core.Path.{fun_ext}
use Rattle.std.specs.Prelude.{bytes_eq}
use Rattle.wy_check_spec.proofs.wy_term_subst_proofs.sorted_lemmas.SortedLemmas.{own_number}
use Rattle.wy_check_spec.specs.wy_value.Datum.{Datum, Truth, Whole, Array, Record}
use Rattle.wy_check_spec.specs.wy_term.Data as shapes
use Rattle.wy_check_spec.specs.wy_term.Term as term
use Rattle.wy_check_spec.specs.wy_term.Term.{Symbol, Term, Of, Parts, no_parts, part, leaf, int_name, val_name}
use Rattle.wy_check_spec.specs.wy_term.Same.{same_term}
use Rattle.wy_check_spec.specs.wy_term.Scope.{without, of_part, of_all, of_bound, free_by, free_names, free_in}
use Rattle.wy_check_spec.specs.wy_term.Meaning.{Names, with_number, Sense, numeric, valued, logical, sense, senses_of, meaning, sense_at, data_in, all_hold, any_holds, each_from, any_from, distance}
use Rattle.wy_check_spec.specs.wy_term.Meaning as means
use Rattle.wy_check_spec.proofs.wy_term_proofs.SameLemmas.{terms_are}

-- ---- names that stand for the same

-- a name stands for the same
abbrev pub SameAt : Names → Names → Term → Type 0
SameAt names others (Of (int_name w n) ps) = names.number_of w n ≡ others.number_of w n
SameAt names others (Of (val_name w n) ps) = names.datum_of w n ≡ others.datum_of w n
SameAt names others t = Unit {0}

abbrev pub AllSame : Names → Names → List Term → Type 0
AllSame names others [] = Unit {0}
AllSame names others (x ∷ xs) = SameAt names others x × AllSame names others xs

same_front : (names others : Names) (xs ys : List Term) → AllSame names others (xs ++ ys) → AllSame names others xs
same_front names others [] ys f = tt
same_front names others (x ∷ xs) ys f = (f.0, same_front names others xs ys f.1)

same_back : (names others : Names) (xs ys : List Term) → AllSame names others (xs ++ ys) → AllSame names others ys
same_back names others [] ys f = f
same_back names others (x ∷ xs) ys f = same_back names others xs ys f.1

pub both_numbered : (names others : Names) (w : List ℕ) (n : ℕ) (z : ℤ) (x : Term) → SameAt names others x → SameAt (with_number names w n z) (with_number others w n z) x
both_numbered names others w n z (Of (int_name v m) ps) e = ap (λ (y : ℤ). cond (bytes_eq v w && eqb m n) z y) e
both_numbered names others w n z (Of (val_name v m) ps) e = e
both_numbered names others w n z x e = tt

inside_binder : (names others : Names) (w : List ℕ) (n : ℕ) (z : ℤ) (xs : List Term) → AllSame names others (without (leaf (int_name w n)) xs) → AllSame (with_number names w n z) (with_number others w n z) xs
inside_binder names others w n z [] f = tt
inside_binder names others w n z (x ∷ xs) f = by (same_term (leaf (int_name w n)) x) refl f (inside_binder names others w n z xs)
  where
    by : (b : Bool) → same_term (leaf (int_name w n)) x ≡ b → AllSame names others (cond b (without (leaf (int_name w n)) xs) (x ∷ without (leaf (int_name w n)) xs)) → (AllSame names others (without (leaf (int_name w n)) xs) → AllSame (with_number names w n z) (with_number others w n z) xs) → AllSame (with_number names w n z) (with_number others w n z) (x ∷ xs)
    by true is g rest = (subst (SameAt (with_number names w n z) (with_number others w n z)) (terms_are (leaf (int_name w n)) x is) (own_number names w n z ∙ sym (own_number others w n z)), rest g)
    by false is g rest = (both_numbered names others w n z x g.0, rest g.1)

-- ---- senses that rest on names

-- a sense is the same where these names stand for the same, and the named types are the same
abbrev Rests : (Names → Sense) → List Term → Type 0
Rests f xs = (names others : Names) → names.is_member ≡ others.is_member → AllSame names others xs → f names ≡ f others

abbrev AllRest : List (Names → Sense) → List (List Term) → Type 0
AllRest [] [] = Unit {0}
AllRest [] (xs ∷ rest) = ⊥
AllRest (f ∷ fs) [] = ⊥
AllRest (f ∷ fs) (xs ∷ rest) = Rests f xs × AllRest fs rest

-- the sense of a part rests on the names of that part
part_rests : (fs : List (Names → Sense)) (xss : List (List Term)) (k : ℕ) → AllRest fs xss → Rests (sense_at fs k) (of_part xss k)
part_rests [] [] k h names others m f = refl
part_rests [] (xs ∷ rest) k h names others m f = absurd h
part_rests (g ∷ gs) [] k h names others m f = absurd h
part_rests (g ∷ gs) (xs ∷ rest) zero h names others m f = h.0 names others m f
part_rests (g ∷ gs) (xs ∷ rest) (suc k) h names others m f = part_rests gs rest k h.1 names others m f

among_all : (names others : Names) (xss : List (List Term)) (k : ℕ) → AllSame names others (of_all xss) → AllSame names others (of_part xss k)
among_all names others [] k f = tt
among_all names others (xs ∷ rest) zero f = same_front names others xs (of_all rest) f
among_all names others (xs ∷ rest) (suc k) f = among_all names others rest k (same_back names others xs (of_all rest) f)

module _ (fs : List (Names → Sense)) (xss : List (List Term)) (h : AllRest fs xss) (names others : Names) (m : names.is_member ≡ others.is_member) (f : AllSame names others (of_all xss)) where
  at : (k : ℕ) → sense_at fs k names ≡ sense_at fs k others
  at k = part_rests fs xss k h names others m (among_all names others xss k f)

  by_three : (g : Sense → Sense → Sense → Sense) → g (sense_at fs 0 names) (sense_at fs 1 names) (sense_at fs 2 names) ≡ g (sense_at fs 0 others) (sense_at fs 1 others) (sense_at fs 2 others)
  by_three g =
      ap (λ (x : Sense). g x (sense_at fs 1 names) (sense_at fs 2 names)) (at 0)
      ∙ (ap (λ (x : Sense). g (sense_at fs 0 others) x (sense_at fs 2 names)) (at 1)
      ∙ ap (λ (x : Sense). g (sense_at fs 0 others) (sense_at fs 1 others) x) (at 2))

data_rest : (fs : List (Names → Sense)) (xss : List (List Term)) → AllRest fs xss → (names others : Names) → names.is_member ≡ others.is_member → AllSame names others (of_all xss) → data_in fs names ≡ data_in fs others
data_rest [] [] h names others m f = refl
data_rest [] (xs ∷ rest) h names others m f = absurd h
data_rest (g ∷ gs) [] h names others m f = absurd h
data_rest (g ∷ gs) (xs ∷ rest) h names others m f =
    ap (λ (x : Sense). x.datum ∷ data_in gs names) (h.0 names others m (same_front names others xs (of_all rest) f))
    ∙ ap (λ (ds : List Datum). (g others).datum ∷ ds) (data_rest gs rest h.1 names others m (same_back names others xs (of_all rest) f))

all_rest : (fs : List (Names → Sense)) (xss : List (List Term)) → AllRest fs xss → (names others : Names) → names.is_member ≡ others.is_member → AllSame names others (of_all xss) → all_hold fs names ≡ all_hold fs others
all_rest [] [] h names others m f = refl
all_rest [] (xs ∷ rest) h names others m f = absurd h
all_rest (g ∷ gs) [] h names others m f = absurd h
all_rest (g ∷ gs) (xs ∷ rest) h names others m f =
    ap (λ (x : Sense). x.truth && all_hold gs names) (h.0 names others m (same_front names others xs (of_all rest) f))
    ∙ ap (λ (b : Bool). (g others).truth && b) (all_rest gs rest h.1 names others m (same_back names others xs (of_all rest) f))

any_rests : (fs : List (Names → Sense)) (xss : List (List Term)) → AllRest fs xss → (names others : Names) → names.is_member ≡ others.is_member → AllSame names others (of_all xss) → any_holds fs names ≡ any_holds fs others
any_rests [] [] h names others m f = refl
any_rests [] (xs ∷ rest) h names others m f = absurd h
any_rests (g ∷ gs) [] h names others m f = absurd h
any_rests (g ∷ gs) (xs ∷ rest) h names others m f =
    ap (λ (x : Sense). x.truth || any_holds gs names) (h.0 names others m (same_front names others xs (of_all rest) f))
    ∙ ap (λ (b : Bool). (g others).truth || b) (any_rests gs rest h.1 names others m (same_back names others xs (of_all rest) f))

-- ---- quantifiers

-- the three places of a quantifier
module _ (w : List ℕ) (n : ℕ) (fs : List (Names → Sense)) (xss : List (List Term)) (h : AllRest fs xss) (names others : Names) (m : names.is_member ≡ others.is_member) (f : AllSame names others (of_bound (leaf (int_name w n)) xss)) where
  lower_rests : sense_at fs 0 names ≡ sense_at fs 0 others
  lower_rests = part_rests fs xss 0 h names others m (same_front names others (of_part xss 0) (of_part xss 1 ++ without (leaf (int_name w n)) (of_part xss 2)) f)

  upper_rests : sense_at fs 1 names ≡ sense_at fs 1 others
  upper_rests =
      part_rests fs xss 1 h names others m
      (same_front names others (of_part xss 1) (without (leaf (int_name w n)) (of_part xss 2)) (same_back names others (of_part xss 0) (of_part xss 1 ++ without (leaf (int_name w n)) (of_part xss 2)) f))

  body_rests : (z : ℤ) → sense_at fs 2 (with_number names w n z) ≡ sense_at fs 2 (with_number others w n z)
  body_rests z =
      part_rests fs xss 2 h (with_number names w n z) (with_number others w n z) m
      (inside_binder names others w n z (of_part xss 2) (same_back names others (of_part xss 1) (without (leaf (int_name w n)) (of_part xss 2)) (same_back names others (of_part xss 0) (of_part xss 1 ++ without (leaf (int_name w n)) (of_part xss 2)) f)))

  quantifier_rests : (test : ℤ → ℕ → (ℤ → Bool) → Bool) → test (sense_at fs 0 names).number (distance ((sense_at fs 1 names).number -ℤ (sense_at fs 0 names).number)) (λ z. (sense_at fs 2 (with_number names w n z)).truth) ≡ test (sense_at fs 0 others).number (distance ((sense_at fs 1 others).number -ℤ (sense_at fs 0 others).number)) (λ z. (sense_at fs 2 (with_number others w n z)).truth)
  quantifier_rests test =
      ap (λ (x : Sense). test x.number (distance ((sense_at fs 1 names).number -ℤ x.number)) (λ z. (sense_at fs 2 (with_number names w n z)).truth)) lower_rests
      ∙ (ap (λ (x : Sense). test (sense_at fs 0 others).number (distance (x.number -ℤ (sense_at fs 0 others).number)) (λ z. (sense_at fs 2 (with_number names w n z)).truth)) upper_rests
      ∙ ap (test (sense_at fs 0 others).number (distance ((sense_at fs 1 others).number -ℤ (sense_at fs 0 others).number))) (fun_ext (λ z. ap (λ (x : Sense). x.truth) (body_rests z))))

-- ---- terms

by_symbol : (symbol : Symbol) (fs : List (Names → Sense)) (xss : List (List Term)) → AllRest fs xss → Rests (meaning symbol fs) (free_by symbol xss)
by_symbol (term.number z) fs xss h names others m f = refl
by_symbol (term.int_name w n) fs xss h names others m f = ap numeric f.0
by_symbol term.add fs xss h names others m f = by_three fs xss h names others m f (λ x y z. numeric (x.number +ℤ y.number))
by_symbol term.sub fs xss h names others m f = by_three fs xss h names others m f (λ x y z. numeric (x.number -ℤ y.number))
by_symbol term.neg fs xss h names others m f = by_three fs xss h names others m f (λ x y z. numeric (neg_ℤ x.number))
by_symbol term.mul fs xss h names others m f = by_three fs xss h names others m f (λ x y z. numeric (x.number *ℤ y.number))
by_symbol term.div fs xss h names others m f = by_three fs xss h names others m f (λ x y z. numeric (shapes.quotient x.number y.number))
by_symbol term.rem fs xss h names others m f = by_three fs xss h names others m f (λ x y z. numeric (shapes.remainder x.number y.number))
by_symbol term.num fs xss h names others m f = by_three fs xss h names others m f (λ x y z. numeric (shapes.number_in x.datum))
by_symbol term.len fs xss h names others m f = by_three fs xss h names others m f (λ x y z. numeric (shapes.length_in x.datum))
by_symbol (term.val_name w n) fs xss h names others m f = ap valued f.0
by_symbol term.null fs xss h names others m f = refl
by_symbol (term.truth b) fs xss h names others m f = refl
by_symbol term.int fs xss h names others m f = by_three fs xss h names others m f (λ x y z. valued (Whole x.number))
by_symbol term.bool fs xss h names others m f = by_three fs xss h names others m f (λ x y z. valued (Truth x.truth))
by_symbol term.array fs xss h names others m f = ap (λ (ds : List Datum). valued (Array (shapes.items_with ds))) (data_rest fs xss h names others m f)
by_symbol term.repeat fs xss h names others m f = by_three fs xss h names others m f (λ x y z. valued (shapes.repeated x.datum y.number))
by_symbol term.update fs xss h names others m f = by_three fs xss h names others m f (λ x y z. valued (shapes.with_element x.datum y.number z.datum))
by_symbol term.get fs xss h names others m f = by_three fs xss h names others m f (λ x y z. valued (shapes.element x.datum y.number))
by_symbol (term.fields ns) fs xss h names others m f = ap (λ (ds : List Datum). valued (Record (shapes.fields_with ns ds))) (data_rest fs xss h names others m f)
by_symbol (term.field n) fs xss h names others m f = by_three fs xss h names others m f (λ x y z. valued (shapes.field_in x.datum n))
by_symbol (term.set_field n) fs xss h names others m f = by_three fs xss h names others m f (λ x y z. valued (shapes.with_field x.datum n y.datum))
by_symbol term.at_most fs xss h names others m f = by_three fs xss h names others m f (λ x y z. logical (means.at_most x.number y.number))
by_symbol term.equal fs xss h names others m f = by_three fs xss h names others m f (λ x y z. logical (shapes.same_datum x.datum y.datum))
by_symbol (term.of_kind k) fs xss h names others m f = by_three fs xss h names others m f (λ x y z. logical (shapes.is_of_kind k x.datum))
by_symbol (term.in_type n) fs xss h names others m f =
    by_three fs xss h names others m f (λ x y z. logical (names.is_member n x.datum))
    ∙ ap (λ (g : ℕ → Datum → Bool). logical (g n (sense_at fs 0 others).datum)) m
by_symbol (term.every w n) fs xss h names others m f = ap logical (quantifier_rests w n fs xss h names others m f each_from)
by_symbol (term.exists w n) fs xss h names others m f = ap logical (quantifier_rests w n fs xss h names others m f any_from)
by_symbol term.denied fs xss h names others m f = by_three fs xss h names others m f (λ x y z. logical (not x.truth))
by_symbol term.all_of fs xss h names others m f = ap logical (all_rest fs xss h names others m f)
by_symbol term.any_of fs xss h names others m f = ap logical (any_rests fs xss h names others m f)

mutual
  term_rests : (t : Term) → Rests (means.sense_of t) (free_names t)
  term_rests (Of symbol ps) = by_symbol symbol (senses_of ps) (free_in ps) (parts_rest ps)

  parts_rest : (ps : Parts) → AllRest (senses_of ps) (free_in ps)
  parts_rest no_parts = tt
  parts_rest (part t ps) = (term_rests t, parts_rest ps)

-- a term means the same where its free names stand for the same
pub rests_on_free_names : (t : Term) (names others : Names) → names.is_member ≡ others.is_member → AllSame names others (free_names t) → sense names t ≡ sense others t
rests_on_free_names t names others m f = term_rests t names others m f
