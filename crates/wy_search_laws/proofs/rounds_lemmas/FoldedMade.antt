-- What a round states of folded terms is folded.
use Rattle.std.proofs.Common.{◌≡◌, ◌+◌, ℕ, List, [], ◌∷◌, ◌++◌, Bool, true, false, cond, ltb, ℤ, pos, ◌*ℤ◌, Option, Some, None, refl, subst}
use Rattle.wy_search_bounds.specs.wy_facts.Membership.{entry_for}
use Rattle.wy_search_bounds.specs.wy_facts.Schema.{zero_term}
use Rattle.wy_lemmas.proofs.Options.{some_same as some_is}
use Rattle.wy_search_bounds.specs.wy_term.Term as term
use Rattle.wy_search_bounds.specs.wy_term.Term.{Symbol, Term, Of, Parts, no_parts, part, leaf, one, Number, int_name, val_name, every, exists}
use Rattle.wy_search_bounds.specs.wy_term.Same.{same_term}
use Rattle.wy_search_bounds.specs.wy_term.Rewriting.{fitted}
use Rattle.wy_search_bounds.specs.wy_term.Folding.{found, found_or, hidden}
use Rattle.wy_search_bounds.specs.wy_term.Condition.{Entry}
use Rattle.wy_search_bounds.specs.wy_term_text.reread.Folded.{IsFolded, AreFolded}
use Rattle.wy_search_bounds.proofs.wy_term_text_proofs.reread_lemmas.FoldedLemmas.{folded_is, number_folded}
use Rattle.wy_search_bounds.specs.wy_term_subst.Names.{stands_in, numbers_in, new_number}
use Rattle.wy_search_bounds.specs.wy_term_subst.Substitution.{with_new_name, binder_of, entered_by, entered, env_at, renumbered, finished, put, put_parts, substituted}
use Rattle.wy_search_bounds.specs.wy_lin.Linear.{◌>>=◌}
use Rattle.wy_search_bounds.specs.wy_facts.Made.{made_one, made_two, is_at_most, is_equal, denial, is_below, both, all_three, all_four, either, one_of_three, implies, exactly_where, same_number}
use Rattle.wy_search_bounds.specs.wy_check_spec.valid.Ranges.{Range, as_every, as_exists, said, body_at, instance_at, witnessed_at}
use Rattle.wy_search_bounds.specs.wy_check_spec.valid.Membership.{unfolded_at, membership, membership_by}
use Rattle.wy_search_bounds.specs.wy_check_spec.valid.Products.{Affine, product_bound, product_of}
use Rattle.wy_search_laws.proofs.closing_lemmas.Closing.{AreFoldedTerms}

-- ---- terms that are made of folded ones

pub one_folded : (symbol : Symbol) (s : Term) → IsFolded s → IsFolded (made_one symbol s)
one_folded symbol s h = folded_is symbol (part s no_parts) (h, tt)

pub two_folded : (symbol : Symbol) (s t : Term) → IsFolded s → IsFolded t → IsFolded (made_two symbol s t)
two_folded symbol s t h g = folded_is symbol (part s (part t no_parts)) (h, (g, tt))

pub at_most_folded : (s t : Term) → IsFolded s → IsFolded t → IsFolded (is_at_most s t)
at_most_folded s t h g = two_folded term.at_most s t h g

pub equal_folded : (v w : Term) → IsFolded v → IsFolded w → IsFolded (is_equal v w)
equal_folded v w h g = two_folded term.equal v w h g

pub denial_folded : (f : Term) → IsFolded f → IsFolded (denial f)
denial_folded f h = one_folded term.denied f h

pub below_folded : (s t : Term) → IsFolded s → IsFolded t → IsFolded (is_below s t)
below_folded s t h g = denial_folded (is_at_most t s) (at_most_folded t s g h)

pub both_folded : (f g : Term) → IsFolded f → IsFolded g → IsFolded (both f g)
both_folded f g a b = folded_is term.all_of (part f (part g no_parts)) (a, (b, tt))

pub three_folded : (f g h : Term) → IsFolded f → IsFolded g → IsFolded h → IsFolded (all_three f g h)
three_folded f g h a b c = folded_is term.all_of (part f (part g (part h no_parts))) (a, (b, (c, tt)))

pub four_folded : (f g h k : Term) → IsFolded f → IsFolded g → IsFolded h → IsFolded k → IsFolded (all_four f g h k)
four_folded f g h k a b c d = folded_is term.all_of (part f (part g (part h (part k no_parts)))) (a, (b, (c, (d, tt))))

pub either_folded : (f g : Term) → IsFolded f → IsFolded g → IsFolded (either f g)
either_folded f g a b = folded_is term.any_of (part f (part g no_parts)) (a, (b, tt))

pub any_three_folded : (f g h : Term) → IsFolded f → IsFolded g → IsFolded h → IsFolded (one_of_three f g h)
any_three_folded f g h a b c = folded_is term.any_of (part f (part g (part h no_parts))) (a, (b, (c, tt)))

pub implies_folded : (f g : Term) → IsFolded f → IsFolded g → IsFolded (implies f g)
implies_folded f g a b = either_folded (denial f) g (denial_folded f a) b

pub exactly_folded : (f g : Term) → IsFolded f → IsFolded g → IsFolded (exactly_where f g)
exactly_folded f g a b = both_folded (implies f g) (implies g f) (implies_folded f g a b) (implies_folded g f b a)

pub same_number_folded : (s t : Term) → IsFolded s → IsFolded t → IsFolded (same_number s t)
same_number_folded s t a b = both_folded (is_at_most s t) (is_at_most t s) (at_most_folded s t a b) (at_most_folded t s b a)

-- ---- terms in which a folded term is put for a name

-- what names stand for is folded
abbrev StandForFolded : List (Term × Term) → Type 0
StandForFolded [] = Unit {0}
StandForFolded (p ∷ ps) = IsFolded p.1 × StandForFolded ps

found_folded : (env : List (Term × Term)) (name : Term) → StandForFolded env → IsFolded name → IsFolded (found_or (found env name) name)
found_folded [] name h g = g
found_folded (p ∷ ps) name h g = by (same_term p.0 name) (found_folded ps name h.1 g)
  where
    by : (b : Bool) → IsFolded (found_or (found ps name) name) → IsFolded (found_or (cond b (Some p.1) (found ps name)) name)
    by true rest = h.0
    by false rest = rest

hidden_folded : (o : Option Term) (name : Term) (env : List (Term × Term)) → IsFolded name → StandForFolded env → StandForFolded (hidden o name env)
hidden_folded None name env g h = h
hidden_folded (Some u) name env g h = by (same_term u name)
  where
    by : (b : Bool) → StandForFolded (cond b env ((name, name) ∷ env))
    by true = h
    by false = (g, h)

int_name_folded : (w : List ℕ) (n : ℕ) → IsFolded (leaf (int_name w n))
int_name_folded w n = (refl, tt)

val_name_folded : (w : List ℕ) (n : ℕ) → IsFolded (leaf (val_name w n))
val_name_folded w n = (refl, tt)

inner_folded : (t : Term) (symbol : Symbol) (env : List (Term × Term)) (taken : List ℕ) → StandForFolded env → StandForFolded (entered t symbol env taken).inner
inner_folded t symbol env taken h = by (binder_of symbol)
  where
    bound : (w : List ℕ) (n : ℕ) (b : Bool) → StandForFolded (cond b (with_new_name w n (new_number taken) env taken) (record { number = n; inner = hidden (found env (leaf (int_name w n))) (leaf (int_name w n)) env; taken = taken })).inner
    bound w n true = (int_name_folded w (new_number taken), h)
    bound w n false = hidden_folded (found env (leaf (int_name w n))) (leaf (int_name w n)) env (int_name_folded w n) h

    by : (o : Option (List ℕ × ℕ)) → StandForFolded (entered_by t o env taken).inner
    by None = h
    by (Some name) = bound name.0 name.1 (stands_in name.0 name.1 t)

finished_folded : (symbol : Symbol) (env : List (Term × Term)) (m : ℕ) (ps : Parts) → StandForFolded env → AreFolded ps → IsFolded (finished symbol env m ps)
finished_folded (int_name w n) env m ps h g = found_folded env (leaf (int_name w n)) h (int_name_folded w n)
finished_folded (val_name w n) env m ps h g = found_folded env (leaf (val_name w n)) h (val_name_folded w n)
finished_folded symbol env m ps h g = folded_is (renumbered symbol m) ps g

env_folded : (k : ℕ) (env inner : List (Term × Term)) → StandForFolded env → StandForFolded inner → StandForFolded (env_at k env inner)
env_folded k env inner h g = by (ltb k 2)
  where
    by : (b : Bool) → StandForFolded (cond b env inner)
    by true = h
    by false = g

mutual
  put_folded : (t u : Term) (env : List (Term × Term)) (taken : List ℕ) → StandForFolded env → IsFolded (put t u env taken).term
  put_folded t (Of symbol ps) env taken h =
      finished_folded symbol env (entered t symbol env taken).number (put_parts t ps 0 env (entered t symbol env taken).inner (entered t symbol env taken).taken).parts h
      (put_parts_folded t ps 0 env (entered t symbol env taken).inner (entered t symbol env taken).taken h (inner_folded t symbol env taken h))

  put_parts_folded : (t : Term) (ps : Parts) (k : ℕ) (env inner : List (Term × Term)) (taken : List ℕ) → StandForFolded env → StandForFolded inner → AreFolded (put_parts t ps k env inner taken).parts
  put_parts_folded t no_parts k env inner taken h g = tt
  put_parts_folded t (part f ps) k env inner taken h g =
      (put_folded t f (env_at k env inner) taken (env_folded k env inner h g), put_parts_folded t ps (k + 1) env inner (put t f (env_at k env inner) taken).taken h g)

-- whatever the formula is
pub substituted_folded : (f name t : Term) → IsFolded t → IsFolded (substituted f name t)
substituted_folded f name t h = put_folded t f ((name, t) ∷ []) (numbers_in f ++ numbers_in t) (h, tt)

-- ---- instances and witnesses

pub record IsFoldedRange (r : Range) : Type 0 where
  pub lower : IsFolded r.lower
  pub upper : IsFolded r.upper

every_folded : (a : Term) (r : Range) → IsFolded a → as_every a ≡ Some r → IsFoldedRange r
every_folded (Of (term.every w n) (part s (part u (part f no_parts)))) r h e =
    let made : Range = record { word = w; number = n; lower = s; upper = u; body = f } in
    subst IsFoldedRange (some_is made r e) (record { lower = h.1.0; upper = h.1.1.0 })
every_folded a r h e = absurd cc

exists_folded : (a : Term) (r : Range) → IsFolded a → as_exists a ≡ Some r → IsFoldedRange r
exists_folded (Of (term.exists w n) (part s (part u (part f no_parts)))) r h e =
    let made : Range = record { word = w; number = n; lower = s; upper = u; body = f } in
    subst IsFoldedRange (some_is made r e) (record { lower = h.1.0; upper = h.1.1.0 })
exists_folded a r h e = absurd cc

pub each_folded : (b : Bool) (a : Term) (r : Range) → IsFolded a → cond b (as_every a) (as_exists a) ≡ Some r → IsFoldedRange r
each_folded true a r h e = every_folded a r h e
each_folded false a r h e = exists_folded a r h e

pub one_of_folded : (b : Bool) (a : Term) (r : Range) → IsFolded a → cond b (as_exists a) (as_every a) ≡ Some r → IsFoldedRange r
one_of_folded true a r h e = exists_folded a r h e
one_of_folded false a r h e = every_folded a r h e

said_folded : (b : Bool) (f : Term) → IsFolded f → IsFolded (said b f)
said_folded true f h = h
said_folded false f h = denial_folded f h

body_folded : (b : Bool) (r : Range) (t : Term) → IsFolded t → IsFolded (body_at b r t)
body_folded b r t h = said_folded b (substituted r.body (leaf (int_name r.word r.number)) t) (substituted_folded r.body (leaf (int_name r.word r.number)) t h)

pub instance_folded : (b : Bool) (r : Range) (t : Term) → IsFoldedRange r → IsFolded t → IsFolded (instance_at b r t)
instance_folded b r t h g =
    any_three_folded (denial (is_at_most r.lower t)) (is_at_most r.upper t) (body_at b r t) (denial_folded (is_at_most r.lower t) (at_most_folded r.lower t h.lower g)) (at_most_folded r.upper t h.upper g) (body_folded b r t g)

pub witnessed_folded : (b : Bool) (r : Range) (n : ℕ) → IsFoldedRange r → AreFoldedTerms (witnessed_at b r (leaf (int_name r.word n)))
witnessed_folded b r n h =
    let x = leaf (int_name r.word n) in
    let is = int_name_folded r.word n in
    (at_most_folded r.lower x h.lower is, (denial_folded (is_at_most r.upper x) (at_most_folded r.upper x h.upper is), (body_folded b r x is, tt)))

-- ---- products

bound_folded : (p s t : Term) (k l m n : ℤ) → IsFolded p → IsFolded s → IsFolded t → IsFolded (product_bound p s t k l m n)
bound_folded p s t k l m n a b c =
    let kp = two_folded term.mul (Number k) p (number_folded k) a in
    let ls = two_folded term.mul (Number l) s (number_folded l) b in
    let mt = two_folded term.mul (Number m) t (number_folded m) c in
    let one = two_folded term.add (made_two term.mul (Number k) p) (made_two term.mul (Number l) s) kp ls in
    let more = two_folded term.add (made_two term.add (made_two term.mul (Number k) p) (made_two term.mul (Number l) s)) (made_two term.mul (Number m) t) one mt in
    let whole = two_folded term.add (made_two term.add (made_two term.add (made_two term.mul (Number k) p) (made_two term.mul (Number l) s)) (made_two term.mul (Number m) t)) (Number n) more (number_folded n) in
    at_most_folded zero_term (made_two term.add (made_two term.add (made_two term.add (made_two term.mul (Number k) p) (made_two term.mul (Number l) s)) (made_two term.mul (Number m) t)) (Number n)) (number_folded (pos 0)) whole

abbrev pub IsFoldedIf : Option Term → Type 0
IsFoldedIf None = Unit {0}
IsFoldedIf (Some g) = IsFolded g

pub product_folded : (p s t : Term) (x y : Affine) (g : Term) → IsFolded p → IsFolded s → IsFolded t → product_of p s t x y ≡ Some g → IsFolded g
product_folded p s t x y g a b c e = by g (product_of p s t x y) e whole
  where
    by : (g : Term) (o : Option Term) → o ≡ Some g → IsFoldedIf o → IsFolded g
    by g None e h = absurd cc
    by g (Some f) e h = subst IsFolded (some_is f g e) h

    last : (k l m : ℤ) (o : Option ℤ) → IsFoldedIf (o >>= λ n. Some (product_bound p s t k l m n))
    last k l m None = tt
    last k l m (Some n) = bound_folded p s t k l m n a b c

    third : (k l : ℤ) (o q : Option ℤ) → IsFoldedIf (o >>= λ m. q >>= λ n. Some (product_bound p s t k l m n))
    third k l None q = tt
    third k l (Some m) q = last k l m q

    second : (k : ℤ) (o q r : Option ℤ) → IsFoldedIf (o >>= λ l. q >>= λ m. r >>= λ n. Some (product_bound p s t k l m n))
    second k None q r = tt
    second k (Some l) q r = third k l q r

    first : (o q r z : Option ℤ) → IsFoldedIf (o >>= λ k. q >>= λ l. r >>= λ m. z >>= λ n. Some (product_bound p s t k l m n))
    first None q r z = tt
    first (Some k) q r z = second k q r z

    whole : IsFoldedIf (product_of p s t x y)
    whole = first (fitted (x.factor *ℤ y.factor)) (fitted (x.factor *ℤ y.more)) (fitted (x.more *ℤ y.factor)) (fitted (x.more *ℤ y.more))

-- ---- listed types

member_folded : (types : List Entry) (t : Term) → IsFolded t → IsFoldedIf (membership types t)
member_folded types (Of (term.in_type n) (part v no_parts)) h = by (entry_for types n)
  where
    by : (o : Option Entry) → IsFoldedIf (o >>= λ e. Some (unfolded_at e n v))
    by None = tt
    by (Some e) = exactly_folded (one (term.in_type n) v) (substituted e.formula e.name v) h (substituted_folded e.formula e.name v h.1.0)
member_folded types t h = tt

-- what `in` of a listed type is of folded terms
pub members_folded : (types : List Entry) (ts : List Term) → AreFoldedTerms ts → IsFoldedIf (membership_by types ts)
members_folded types [] h = tt
members_folded types (t ∷ []) h = member_folded types t h.0
members_folded types (t ∷ u ∷ us) h = tt
