-- What a contract asks of a value is answered as membership says, whatever was spent before.
use Rattle.std.proofs.Common.{◌≡◌, refl, subst, ℕ, zero, suc, ◌+◌, List, [], Bool, true, false, length}
use Rattle.std.specs.Prelude.{None, not, ◌&&◌, ◌||◌}
use Rattle.wy_term.specs.wy_value.Datum.{Datum, Null, Truth, Whole, Array, Record, Data, no_items, item, Fields, no_fields, field}
use Rattle.wy_types.specs.wy_core.Types.{Ty, NullTy, BoolTy, IntTy, AnyTy, VoidTy, RecordTy, ArrayTy, UnionTy, InterTy, NotTy, NamedTy, NormalTy, FieldTys, NoFieldTys, MoreFieldTys}
use Rattle.wy_types.specs.wy_core.CoreTree.{Expr, Alias}
use Rattle.wy_sem.specs.Meter.{Meter, Outcome, Done, Fault, More, Spent, Run, ◌>>=◌, count, choose}
use Rattle.wy_sem.specs.Expressions.{Store, no_calls, holds}
use Rattle.wy_sem.specs.TypeTests.{Test, answer, both, either, opposite, Questions, asked, name_asked, asked_of, is_null, is_truth, is_whole, few_enough, same_names, tested, items_tested, parts_tested, alias_at, alias_holds, tests, forgiven, clause_setting, member}
use Rattle.wy_sem.specs.Membership.{belongs, name_belongs, belongs_of, is_in, items_in, parts_in, is_yes, clauses_true, meaning_of, is_member}
use Rattle.wy_sem.specs.Relation.{Relation}
use Rattle.wy_sem.proofs.RelatedTests.{alias-kept, tests-kept, holds-kept}

-- ---- answers don't depend on what was spent

-- both end alike, with the same answer
abbrev Alike : {X : Type 0} → Outcome X → Outcome X → Type 0
Alike (Done x m) (Done y n) = x ≡ y
Alike (Done x m) (Fault kind at n) = ⊥
Alike (Done x m) (More n) = ⊥
Alike (Done x m) Spent = ⊥
Alike (Fault why from m) (Done y n) = ⊥
Alike (Fault why from m) (Fault kind at n) = Unit {0}
Alike (Fault why from m) (More n) = ⊥
Alike (Fault why from m) Spent = ⊥
Alike (More m) (Done y n) = ⊥
Alike (More m) (Fault kind at n) = ⊥
Alike (More m) (More n) = Unit {0}
Alike (More m) Spent = ⊥
Alike Spent (Done y n) = ⊥
Alike Spent (Fault kind at n) = ⊥
Alike Spent (More n) = ⊥
Alike Spent Spent = Unit {0}

record Blind (X : Type 0) (r s : Run X) : Type 0 where
  alike : (m n : Meter) → Alike (r m) (s n)

alike-bind : {X Y : Type 0} (o p : Outcome X) (f g : X → Run Y) → Alike o p → ((x : X) (m n : Meter) → Alike (f x m) (g x n)) → Alike (o >>= f) (p >>= g)
alike-bind (Done x m) (Done y n) f g e h = subst (λ z. Alike (f x m) (g z n)) e (h x m n)
alike-bind (Done x m) (Fault kind at n) f g e h = absurd e
alike-bind (Done x m) (More n) f g e h = absurd e
alike-bind (Done x m) Spent f g e h = absurd e
alike-bind (Fault why from m) (Done y n) f g e h = absurd e
alike-bind (Fault why from m) (Fault kind at n) f g e h = tt
alike-bind (Fault why from m) (More n) f g e h = absurd e
alike-bind (Fault why from m) Spent f g e h = absurd e
alike-bind (More m) (Done y n) f g e h = absurd e
alike-bind (More m) (Fault kind at n) f g e h = absurd e
alike-bind (More m) (More n) f g e h = tt
alike-bind (More m) Spent f g e h = absurd e
alike-bind Spent (Done y n) f g e h = absurd e
alike-bind Spent (Fault kind at n) f g e h = absurd e
alike-bind Spent (More n) f g e h = absurd e
alike-bind Spent Spent f g e h = tt

alike-forgiven : (o p : Outcome Bool) → Alike o p → Alike (forgiven o) (forgiven p)
alike-forgiven (Done x m) (Done y n) e = e
alike-forgiven (Done x m) (Fault kind at n) e = absurd e
alike-forgiven (Done x m) (More n) e = absurd e
alike-forgiven (Done x m) Spent e = absurd e
alike-forgiven (Fault why from m) (Done y n) e = absurd e
alike-forgiven (Fault why from m) (Fault kind at n) e = refl
alike-forgiven (Fault why from m) (More n) e = absurd e
alike-forgiven (Fault why from m) Spent e = absurd e
alike-forgiven (More m) (Done y n) e = absurd e
alike-forgiven (More m) (Fault kind at n) e = absurd e
alike-forgiven (More m) (More n) e = tt
alike-forgiven (More m) Spent e = absurd e
alike-forgiven Spent (Done y n) e = absurd e
alike-forgiven Spent (Fault kind at n) e = absurd e
alike-forgiven Spent (More n) e = absurd e
alike-forgiven Spent Spent e = tt

abbrev blind : Relation
blind = record {
  Rel = Blind;
  done = λ X x. record { alike = λ m n. refl };
  fault = λ X kind at. record { alike = λ m n. tt };
  more = λ X. record { alike = λ m n. tt };
  bind = λ X Y r s f g p h. record { alike = λ m n. alike-bind (r m) (s n) f g (p.alike m n) (λ x k l. (h x).alike k l) };
  prints = λ bytes. record { alike = λ m n. refl };
  pardon = λ r s p. record { alike = λ m n. alike-forgiven (r m) (s n) (p.alike m n) };
}

blind-counts : (X : Type 0) (r s : Run X) → Blind X r s → Blind X (λ m. count None r m) (λ m. count None s m)
blind-counts X r s p = record { alike = λ m n. p.alike (record m { turns = m.turns + 1 }) (record n { turns = n.turns + 1 }) }

-- ---- a test that has an answer answers as membership says

-- each answer of the test is this one
record Says (r : Test) (b : Bool) : Type 0 where
  says : (m : Meter) (x : Bool) (k : Meter) → r m ≡ Done x k → x ≡ b

says-both : (o : Outcome Bool) (second : Test) (a b : Bool) → ((x : Bool) (k : Meter) → o ≡ Done x k → x ≡ a) → Says second b → (x : Bool) (k : Meter) → (o >>= (λ y. choose y second (answer false))) ≡ Done x k → x ≡ (a && b)
says-both (Done true m) second a b h g x k e = let same : true ≡ a = h true m refl in rw (← same) (g.says m x k e)
says-both (Done false m) second a b h g x k e = let same : false ≡ a = h false m refl in rw (← same) (cc)
says-both (Fault kind at m) second a b h g x k e = absurd (cc)
says-both (More m) second a b h g x k e = absurd (cc)
says-both Spent second a b h g x k e = absurd (cc)

says-either : (o : Outcome Bool) (second : Test) (a b : Bool) → ((x : Bool) (k : Meter) → o ≡ Done x k → x ≡ a) → Says second b → (x : Bool) (k : Meter) → (o >>= (λ y. choose y (answer true) second)) ≡ Done x k → x ≡ (a || b)
says-either (Done true m) second a b h g x k e = let same : true ≡ a = h true m refl in rw (← same) (cc)
says-either (Done false m) second a b h g x k e = let same : false ≡ a = h false m refl in rw (← same) (g.says m x k e)
says-either (Fault kind at m) second a b h g x k e = absurd (cc)
says-either (More m) second a b h g x k e = absurd (cc)
says-either Spent second a b h g x k e = absurd (cc)

says-opposite : (o : Outcome Bool) (a : Bool) → ((x : Bool) (k : Meter) → o ≡ Done x k → x ≡ a) → (x : Bool) (k : Meter) → (o >>= (λ y. answer (not y))) ≡ Done x k → x ≡ not a
says-opposite (Done y m) a h x k e = let same : y ≡ a = h y m refl in cc
says-opposite (Fault kind at m) a h x k e = absurd (cc)
says-opposite (More m) a h x k e = absurd (cc)
says-opposite Spent a h x k e = absurd (cc)

says_both : (f g : Test) (a b : Bool) → Says f a → Says g b → Says (both f g) (a && b)
says_both f g a b p q = record { says = λ m. says-both (f m) g a b (p.says m) q }

says_either : (f g : Test) (a b : Bool) → Says f a → Says g b → Says (either f g) (a || b)
says_either f g a b p q = record { says = λ m. says-either (f m) g a b (p.says m) q }

says_opposite : (f : Test) (a : Bool) → Says f a → Says (opposite f) (not a)
says_opposite f a p = record { says = λ m. says-opposite (f m) a (p.says m) }

says_answer : (b : Bool) → Says (answer b) b
says_answer b = record { says = λ m x k e. cc }

says_counted : (f : Test) (b : Bool) → Says f b → Says (λ m. count None f m) b
says_counted f b p = record { says = λ m x k e. p.says (record m { turns = m.turns + 1 }) x k e }

says_chosen : (c : Bool) (f : Test) (b : Bool) → Says f b → Says (choose c f (answer false)) (c && b)
says_chosen true f b p = record { says = λ m x k e. p.says m x k e }
says_chosen false f b p = record { says = λ m x k e. cc }

-- the clauses of a type, asked from any meter
forgiven-yes : (o p : Outcome Bool) → Alike o p → (x : Bool) (k : Meter) → forgiven o ≡ Done x k → x ≡ is_yes p
forgiven-yes (Done y m) (Done z n) e x k h = let same : y ≡ z = e in cc
forgiven-yes (Done y m) (Fault kind at n) e x k h = absurd e
forgiven-yes (Done y m) (More n) e x k h = absurd e
forgiven-yes (Done y m) Spent e x k h = absurd e
forgiven-yes (Fault why from m) (Done z n) e x k h = absurd e
forgiven-yes (Fault why from m) (Fault kind at n) e x k h = cc
forgiven-yes (Fault why from m) (More n) e x k h = absurd e
forgiven-yes (Fault why from m) Spent e x k h = absurd e
forgiven-yes (More m) p e x k h = absurd (cc)
forgiven-yes Spent p e x k h = absurd (cc)

module _ {N : Type 0} (place : N → ℕ) (types : List (Alias N)) where
  abbrev asks : Questions
  asks = record {
    paid = false;
    limit = None;
    definition = (λ n. (alias_at types n).ty);
    bare = length types;
    clause = (λ n e m. forgiven (alias_holds (clause_setting place None types) false (alias_at types n) e m));
  }

  clause-says : (n : ℕ) (d : Datum) → Says (asks.clause n d) (clauses_true place types n d)
  clause-says n d = record {
    says = λ m x k e. forgiven-yes _ _
        ((alias-kept place blind None None types false (λ X r s p. p) blind-counts (tests place None types (suc (length types))) (tests place None types (suc (length types)))
        (λ t v. tests-kept place blind None None types false (λ X r s p. p) blind-counts (suc (length types)) t v) (alias_at types n) d).alike m (record { ticks = 0; turns = 0; output = [] })) x k e;
  }

  asked-says : (n1 : ℕ → Test) (n2 : ℕ → Bool) (d : Datum) (i1 : Ty → Test) (i2 : Ty → Bool) (p1 : FieldTys → Test) (p2 : FieldTys → Bool)
      → ((n : ℕ) → Says (n1 n) (n2 n)) → ((t : Ty) → Says (i1 t) (i2 t)) → ((fs : FieldTys) → Says (p1 fs) (p2 fs)) → (t : Ty) → Says (asked asks n1 d i1 p1 t) (belongs n2 d i2 p2 t)
  asked-says n1 n2 d i1 i2 p1 p2 hn hi hp NullTy = says_counted _ _ (says_answer (is_null d))
  asked-says n1 n2 d i1 i2 p1 p2 hn hi hp BoolTy = says_counted _ _ (says_answer (is_truth d))
  asked-says n1 n2 d i1 i2 p1 p2 hn hi hp IntTy = says_counted _ _ (says_answer (is_whole d))
  asked-says n1 n2 d i1 i2 p1 p2 hn hi hp AnyTy = says_counted _ _ (says_answer true)
  asked-says n1 n2 d i1 i2 p1 p2 hn hi hp VoidTy = says_counted _ _ (says_answer false)
  asked-says n1 n2 d i1 i2 p1 p2 hn hi hp (RecordTy fields) = says_counted _ _ (hp fields)
  asked-says n1 n2 d i1 i2 p1 p2 hn hi hp (ArrayTy t) = says_counted _ _ (hi t)
  asked-says n1 n2 d i1 i2 p1 p2 hn hi hp (UnionTy s t) = says_counted _ _ (says_either _ _ _ _ (asked-says n1 n2 d i1 i2 p1 p2 hn hi hp s) (asked-says n1 n2 d i1 i2 p1 p2 hn hi hp t))
  asked-says n1 n2 d i1 i2 p1 p2 hn hi hp (InterTy s t) = says_counted _ _ (says_both _ _ _ _ (asked-says n1 n2 d i1 i2 p1 p2 hn hi hp s) (asked-says n1 n2 d i1 i2 p1 p2 hn hi hp t))
  asked-says n1 n2 d i1 i2 p1 p2 hn hi hp (NotTy t) = says_counted _ _ (says_opposite _ _ (asked-says n1 n2 d i1 i2 p1 p2 hn hi hp t))
  asked-says n1 n2 d i1 i2 p1 p2 hn hi hp (NamedTy n) = says_counted _ _ (hn n)
  asked-says n1 n2 d i1 i2 p1 p2 hn hi hp (NormalTy union) = says_counted _ _ (says_answer false)

  name-says : (d : Datum) (i1 : Ty → Test) (i2 : Ty → Bool) (p1 : FieldTys → Test) (p2 : FieldTys → Bool) → ((t : Ty) → Says (i1 t) (i2 t)) → ((fs : FieldTys) → Says (p1 fs) (p2 fs))
      → (j n : ℕ) → Says (name_asked asks d i1 p1 j n) (name_belongs (meaning_of place types) d i2 p2 j n)
  name-says d i1 i2 p1 p2 hi hp zero n = record { says = λ m x k e. absurd (cc) }
  name-says d i1 i2 p1 p2 hi hp (suc j) n = says_both _ _ _ _ (asked-says _ _ d i1 i2 p1 p2 (λ i. name-says d i1 i2 p1 p2 hi hp j i) hi hp (alias_at types n).ty) (clause-says n d)

  here-says : (d : Datum) (i1 : Ty → Test) (i2 : Ty → Bool) (p1 : FieldTys → Test) (p2 : FieldTys → Bool) → ((t : Ty) → Says (i1 t) (i2 t)) → ((fs : FieldTys) → Says (p1 fs) (p2 fs))
      → (t : Ty) → Says (asked_of asks d i1 p1 t) (belongs_of (meaning_of place types) d i2 p2 t)
  here-says d i1 i2 p1 p2 hi hp t = asked-says _ _ d i1 i2 p1 p2 (λ n. name-says d i1 i2 p1 p2 hi hp (length types) n) hi hp t

  mutual
    tested-says : (d : Datum) (t : Ty) → Says (tested asks d t) (is_in (meaning_of place types) d t)
    tested-says Null t = here-says Null _ _ _ _ (λ u. says_answer false) (λ u. says_answer false) t
    tested-says (Truth b) t = here-says (Truth b) _ _ _ _ (λ u. says_answer false) (λ u. says_answer false) t
    tested-says (Whole z) t = here-says (Whole z) _ _ _ _ (λ u. says_answer false) (λ u. says_answer false) t
    tested-says (Array ds) t = here-says (Array ds) _ _ _ _ (λ u. says_chosen (few_enough ds) _ _ (items-say ds u)) (λ u. says_answer false) t
    tested-says (Record fs) t = here-says (Record fs) _ _ _ _ (λ u. says_answer false) (λ us. says_chosen (same_names fs us) _ _ (parts-say fs us)) t

    items-say : (ds : Data) (t : Ty) → Says (items_tested asks ds t) (items_in (meaning_of place types) ds t)
    items-say no_items t = says_answer true
    items-say (item d ds) t = says_both _ _ _ _ (tested-says d t) (items-say ds t)

    parts-say : (fs : Fields) (us : FieldTys) → Says (parts_tested asks fs us) (parts_in (meaning_of place types) fs us)
    parts-say no_fields us = says_answer true
    parts-say (field n d fs) NoFieldTys = says_answer true
    parts-say (field n d fs) (MoreFieldTys o t us) = says_both _ _ _ _ (tested-says d t) (parts-say fs us)

  -- what a contract asks of a value is answered by membership
  pub member-says : (t : Ty) (d : Datum) (m : Meter) (x : Bool) (k : Meter) → member place None types t d m ≡ Done x k → x ≡ is_member place types d t
  member-says t d m x k e = (tested-says d t).says m x k e

  -- a clause that is asked from any meter
  pub holds-says : (e : Expr N) (s : Store) (m : Meter) (x : Bool) (k : Meter) → forgiven (holds (clause_setting place None types) e s m) ≡ Done x k → x ≡ is_yes (holds (clause_setting place None types) e s (record { ticks = 0; turns = 0; output = [] }))
  holds-says e s m x k h = forgiven-yes _ _ ((holds-kept place blind None None blind-counts (tests place None types (suc (length types))) (tests place None types (suc (length types)))
      (λ t v. tests-kept place blind None None types false (λ X r p q. q) blind-counts (suc (length types)) t v) no_calls no_calls e s).alike m (record { ticks = 0; turns = 0; output = [] })) x k h
