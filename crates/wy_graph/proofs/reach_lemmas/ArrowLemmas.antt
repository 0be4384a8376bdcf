-- Lists of names, and arrows between them.
use Rattle.std.proofs.Common.{◌≡◌, ◌+◌, ◌<◌, ◌⊎◌, inl, inr, ℕ, zero, suc, Bool, true, ◌||◌, List, [], ◌∷◌, ◌++◌, length, Some, refl, sym, ap, subst, arith}
use Rattle.std.specs.Prelude.{slice_get, ◌==◌}
use Rattle.std.proofs.lemmas.Bool.{or_cases, or_left, or_right, eqb-true, eq-eqb}
use Rattle.wy_graph.specs.closure.Closure.{has}
use Rattle.wy_graph.specs.declared.cycles.graph.Arrow.{Arrow}
use Rattle.wy_lemmas.proofs.Lists.{get_front as get_left}
use Rattle.wy_lemmas.proofs.Options.{some_is}
use Rattle.wy_graph.specs.declared.reach.entries.Entry.{Entry}
use Rattle.wy_graph.specs.reach.Reach.{names_at, some}
use Rattle.wy_graph.specs.reach.Walks.{arrow, arrows_from, arrows_of}

-- ---- names of which one has a property

pub record Found (p : ℕ → Bool) (ns : List ℕ) : Type 0 where
  pub name : ℕ
  pub here : has ns name ≡ true
  pub so : p name ≡ true

pub some_found : (p : ℕ → Bool) (ns : List ℕ) → some p ns ≡ true → Found p ns
some_found p [] h = absurd cc
some_found p (n ∷ ns) h = elim (or_cases (p n) (some p ns) h) as (λ _. Found p (n ∷ ns)) [
  | inl e ↦ record { name = n; here = or_left (n == n) (has ns n) (eq-eqb n n refl); so = e }
  | inr e ↦ let f = some_found p ns e in record { name = f.name; here = or_right (n == f.name) (has ns f.name) f.here; so = f.so }
]

pub some_of : (p : ℕ → Bool) (ns : List ℕ) (m : ℕ) → has ns m ≡ true → p m ≡ true → some p ns ≡ true
some_of p [] m h so = absurd cc
some_of p (n ∷ ns) m h so = elim (or_cases (n == m) (has ns m) h) as (λ _. (p n || some p ns) ≡ true) [
  | inl e ↦ or_left (p n) (some p ns) (subst (λ (x : ℕ). p x ≡ true) (sym (eqb-true n m e)) so)
  | inr e ↦ or_right (p n) (some p ns) (some_of p ns m e so)
]

-- where each name with the one property has the other
pub some_more : (p q : ℕ → Bool) (ns : List ℕ) → ((m : ℕ) → p m ≡ true → q m ≡ true) → some p ns ≡ true → some q ns ≡ true
some_more p q ns up h = let f = some_found p ns h in some_of q ns f.name f.here (up f.name f.so)

-- ---- entries

-- a name that mentions others is one of those that there are
pub mentions_within : (es : List Entry) (n m : ℕ) → has (names_at es n) m ≡ true → n < length es
mentions_within [] n m h = absurd cc
mentions_within (e ∷ es) zero m h = omega arith
mentions_within (e ∷ es) (suc n) m h = let l = mentions_within es n m h in omega (arith, l)

-- ---- places

get_right : {A : Type 0} (xs ys : List A) (i : ℕ) (x : A) → slice_get ys i ≡ Some x → (j : ℕ) × (slice_get (xs ++ ys) j ≡ Some x)
get_right [] ys i x e = (i, e)
get_right (a ∷ xs) ys i x e = let r = get_right xs ys i x e in (suc r.0, r.1)

get_cases : {A : Type 0} (xs ys : List A) (i : ℕ) (x : A) → slice_get (xs ++ ys) i ≡ Some x → ((j : ℕ) × (slice_get xs j ≡ Some x)) ⊎ ((j : ℕ) × (slice_get ys j ≡ Some x))
get_cases [] ys i x e = inr (i, e)
get_cases (a ∷ xs) ys zero x e = inl (zero, e)
get_cases {A} (a ∷ xs) ys (suc i) x e = elim (get_cases xs ys i x e) as (λ _. ((j : ℕ) × (slice_get (a ∷ xs) j ≡ Some x)) ⊎ ((j : ℕ) × (slice_get ys j ≡ Some x))) [
  | inl r ↦ inl (suc r.0, r.1)
  | inr r ↦ inr r
]

-- ---- arrows

-- the arrow goes from a name to one that it mentions
pub record Mentions (k : ℕ) (es : List Entry) (a : Arrow) : Type 0 where
  pub behind : ℕ
  pub from : a.from ≡ k + behind
  pub mentioned : has (names_at es behind) a.to ≡ true

pub record From (n : ℕ) (ns : List ℕ) (a : Arrow) : Type 0 where
  pub from : a.from ≡ n
  pub mentioned : has ns a.to ≡ true

from_arrow : (n : ℕ) (ns : List ℕ) (i : ℕ) (a : Arrow) → slice_get (arrows_from n ns) i ≡ Some a → From n ns a
from_arrow n [] i a e = absurd cc
from_arrow n (m ∷ ns) zero a e =
    subst (λ (b : Arrow). From n (m ∷ ns) b) (some_is (arrow n m) a e) (record { from = refl; mentioned = or_left (m == m) (has ns m) (eq-eqb m m refl) })
from_arrow n (m ∷ ns) (suc i) a e = let r = from_arrow n ns i a e in record { from = r.from; mentioned = or_right (m == a.to) (has ns a.to) r.mentioned }

pub arrow_mentions : (k : ℕ) (es : List Entry) (i : ℕ) (a : Arrow) → slice_get (arrows_of k es) i ≡ Some a → Mentions k es a
arrow_mentions k [] i a e = absurd cc
arrow_mentions k (x ∷ es) i a e = elim (get_cases (arrows_from k x.names) (arrows_of (suc k) es) i a e) as (λ _. Mentions k (x ∷ es) a) [
  | inl r ↦ let f = from_arrow k x.names r.0 a r.1 in record { behind = 0; from = (let h = f.from in omega (arith, h)); mentioned = f.mentioned }
  | inr r ↦ let m = arrow_mentions (suc k) es r.0 a r.1 in record { behind = suc m.behind; from = (let h = m.from in omega (arith, h)); mentioned = m.mentioned }
]

to_arrow : (n : ℕ) (ns : List ℕ) (m : ℕ) → has ns m ≡ true → (i : ℕ) × (slice_get (arrows_from n ns) i ≡ Some (arrow n m))
to_arrow n [] m h = absurd cc
to_arrow n (x ∷ ns) m h = elim (or_cases (x == m) (has ns m) h) as (λ _. (i : ℕ) × (slice_get (arrows_from n (x ∷ ns)) i ≡ Some (arrow n m))) [
  | inl e ↦ (zero, ap (λ (y : ℕ). Some (arrow n y)) (eqb-true x m e))
  | inr e ↦ let r = to_arrow n ns m e in (suc r.0, r.1)
]

arrow_at : (k : ℕ) (es : List Entry) (n m : ℕ) → has (names_at es n) m ≡ true → (i : ℕ) × (slice_get (arrows_of k es) i ≡ Some (arrow (k + n) m))
arrow_at k [] n m h = absurd cc
arrow_at k (x ∷ es) zero m h =
    let r = to_arrow k x.names m h in
    let e : k ≡ k + 0 = omega arith in
    (r.0, subst (λ (y : ℕ). slice_get (arrows_of k (x ∷ es)) r.0 ≡ Some (arrow y m)) e (get_left (arrows_from k x.names) (arrows_of (suc k) es) r.0 (arrow k m) r.1))
arrow_at k (x ∷ es) (suc n) m h =
    let r = arrow_at (suc k) es n m h in
    let e : suc k + n ≡ k + suc n = omega arith in
    let g = get_right (arrows_from k x.names) (arrows_of (suc k) es) r.0 (arrow (suc k + n) m) r.1 in
    (g.0, subst (λ (y : ℕ). slice_get (arrows_of k (x ∷ es)) g.0 ≡ Some (arrow y m)) e g.1)

-- each name that is mentioned has an arrow to it
pub mentioned_arrow : (es : List Entry) (n m : ℕ) → has (names_at es n) m ≡ true → (i : ℕ) × (slice_get (arrows_of 0 es) i ≡ Some (arrow n m))
mentioned_arrow es n m h =
    let r = arrow_at 0 es n m h in
    let e : 0 + n ≡ n = omega arith in
    (r.0, subst (λ (y : ℕ). slice_get (arrows_of 0 es) r.0 ≡ Some (arrow y m)) e r.1)

-- what is told of an arrow, from the start
pub record IsMention (es : List Entry) (a : Arrow) : Type 0 where
  pub mentioned : has (names_at es a.from) a.to ≡ true

pub arrow_mention : (es : List Entry) (i : ℕ) (a : Arrow) → slice_get (arrows_of 0 es) i ≡ Some a → IsMention es a
arrow_mention es i a e =
    let m = arrow_mentions 0 es i a e in
    let is : m.behind ≡ a.from = (let h = m.from in omega (arith, h)) in
    record { mentioned = subst (λ (y : ℕ). has (names_at es y) a.to ≡ true) is m.mentioned }
