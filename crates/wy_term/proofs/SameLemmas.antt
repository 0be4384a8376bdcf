-- The tests of equality answer true exactly where their arguments are equal.
use Rattle.std.proofs.Common.{◌≡◌, ℕ, List, [], ◌∷◌, true, eqb, ◌&&◌, refl, ap}
use Rattle.std.specs.Prelude.{bytes_eq}
use Rattle.std.proofs.lemmas.Bool.{eqb-true}
use Rattle.std.proofs.lemmas.Bool.Decides.{Decides-int_eq}
use Rattle.wy_value.proofs.wy_lemmas_proofs.Choices.{bits_self, eqb_itself as eqb_self, both_parts as both, bits_are}
use Rattle.wy_value.proofs.wy_lemmas_proofs.Lists.{bytes_self, bytes_are, named_self}
use Rattle.wy_term.specs.Term.{DataKind, null_kind, bool_kind, int_kind, array_kind, record_kind, Symbol, Term, Of, Parts, no_parts, part}
use Rattle.wy_term.specs.Term as term
use Rattle.wy_term.specs.Same.{same_names, same_kind, same_symbol, same_term, same_parts}

pub names_are : (ns ms : List (List ℕ)) → same_names ns ms ≡ true → ns ≡ ms
names_are [] [] e = refl
names_are [] (m ∷ ms) e = absurd cc
names_are (n ∷ ns) [] e = absurd cc
names_are (n ∷ ns) (m ∷ ms) e =
    let h = both (bytes_eq n m) (same_names ns ms) e in
    rw (bytes_are n m h.0, names_are ns ms h.1) refl

pub names_self : (ns : List (List ℕ)) → same_names ns ns ≡ true
names_self [] = refl
names_self (n ∷ ns) = rw (bytes_self n, names_self ns) refl

pub kinds_are : (k l : DataKind) → same_kind k l ≡ true → k ≡ l
kinds_are null_kind null_kind e = refl
kinds_are bool_kind bool_kind e = refl
kinds_are int_kind int_kind e = refl
kinds_are array_kind array_kind e = refl
kinds_are (record_kind ns) (record_kind ms) e = ap record_kind (names_are ns ms e)
kinds_are k l e = absurd cc

pub kinds_self : (k : DataKind) → same_kind k k ≡ true
kinds_self (record_kind ns) = names_self ns
kinds_self k = refl

named_are : (of : List ℕ → ℕ → Symbol) (x y : List ℕ) (m n : ℕ) → (bytes_eq x y && eqb m n) ≡ true → of x m ≡ of y n
named_are of x y m n e =
    let h = both (bytes_eq x y) (eqb m n) e in
    rw (bytes_are x y h.0, eqb-true m n h.1) refl

pub symbols_are : (a b : Symbol) → same_symbol a b ≡ true → a ≡ b
symbols_are (term.number a) (term.number b) e = ap term.number ((Decides-int_eq a b).0 e)
symbols_are (term.int_name x m) (term.int_name y n) e = named_are term.int_name x y m n e
symbols_are term.add term.add e = refl
symbols_are term.sub term.sub e = refl
symbols_are term.neg term.neg e = refl
symbols_are term.mul term.mul e = refl
symbols_are term.div term.div e = refl
symbols_are term.rem term.rem e = refl
symbols_are term.num term.num e = refl
symbols_are term.len term.len e = refl
symbols_are (term.val_name x m) (term.val_name y n) e = named_are term.val_name x y m n e
symbols_are term.null term.null e = refl
symbols_are (term.truth a) (term.truth b) e = ap term.truth (bits_are a b e)
symbols_are term.int term.int e = refl
symbols_are term.bool term.bool e = refl
symbols_are term.array term.array e = refl
symbols_are term.repeat term.repeat e = refl
symbols_are term.update term.update e = refl
symbols_are term.get term.get e = refl
symbols_are (term.fields ns) (term.fields ms) e = ap term.fields (names_are ns ms e)
symbols_are (term.field n) (term.field m) e = ap term.field (bytes_are n m e)
symbols_are (term.set_field n) (term.set_field m) e = ap term.set_field (bytes_are n m e)
symbols_are term.at_most term.at_most e = refl
symbols_are term.equal term.equal e = refl
symbols_are (term.of_kind k) (term.of_kind l) e = ap term.of_kind (kinds_are k l e)
symbols_are (term.in_type m) (term.in_type n) e = ap term.in_type (eqb-true m n e)
symbols_are (term.every x m) (term.every y n) e = named_are term.every x y m n e
symbols_are (term.exists x m) (term.exists y n) e = named_are term.exists x y m n e
symbols_are term.denied term.denied e = refl
symbols_are term.all_of term.all_of e = refl
symbols_are term.any_of term.any_of e = refl
symbols_are a b e = absurd cc

pub symbols_self : (a : Symbol) → same_symbol a a ≡ true
symbols_self (term.number z) = (Decides-int_eq z z).1 refl
symbols_self (term.int_name x n) = named_self x n
symbols_self (term.val_name x n) = named_self x n
symbols_self (term.truth b) = bits_self b
symbols_self (term.fields ns) = names_self ns
symbols_self (term.field n) = bytes_self n
symbols_self (term.set_field n) = bytes_self n
symbols_self (term.of_kind k) = kinds_self k
symbols_self (term.in_type n) = eqb_self n
symbols_self (term.every x n) = named_self x n
symbols_self (term.exists x n) = named_self x n
symbols_self a = refl

mutual
  pub terms_are : (s t : Term) → same_term s t ≡ true → s ≡ t
  terms_are (Of a ps) (Of b qs) e =
      let h = both (same_symbol a b) (same_parts ps qs) e in
      rw (symbols_are a b h.0, parts_are ps qs h.1) refl

  pub parts_are : (ps qs : Parts) → same_parts ps qs ≡ true → ps ≡ qs
  parts_are no_parts no_parts e = refl
  parts_are no_parts (part t qs) e = absurd cc
  parts_are (part s ps) no_parts e = absurd cc
  parts_are (part s ps) (part t qs) e =
      let h = both (same_term s t) (same_parts ps qs) e in
      rw (terms_are s t h.0, parts_are ps qs h.1) refl

mutual
  pub terms_self : (t : Term) → same_term t t ≡ true
  terms_self (Of a ps) = rw (symbols_self a, parts_self ps) refl

  pub parts_self : (ps : Parts) → same_parts ps ps ≡ true
  parts_self no_parts = refl
  parts_self (part t ps) = rw (terms_self t, parts_self ps) refl
