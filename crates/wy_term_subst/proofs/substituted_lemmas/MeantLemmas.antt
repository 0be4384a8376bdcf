-- A term put for a name keeps what is meant.
use Rattle.std.proofs.Common.{◌≡◌, ℕ, ◌+◌, List, [], ◌∷◌, ◌++◌, Bool, true, false, cond, eqb, ◌&&◌, ◌||◌, ℤ, ◌-ℤ◌, Option, Some, None, refl, sym, ap, ◌∙◌, subst}
use mathlib.Core.Path.{fun_ext}
use Rattle.std.proofs.lemmas.Bool.{eqb-true}
use Rattle.std.specs.Prelude.{bytes_eq, nat_lt}
use Rattle.wy_term.proofs.wy_lemmas_proofs.Choices.{false_of as fails, true_false as no_both, or_elim as or_cases, both_parts as both, or_left, or_right}
use Rattle.wy_term.proofs.wy_lemmas_proofs.Lists.{bytes_are, named_self as named_itself}
use Rattle.wy_term.proofs.FoldingLemmas.{truth_of}
use Rattle.wy_term.specs.Term.{Symbol, Term, Of, Parts, no_parts, part, leaf, int_name, val_name, every, exists}
use Rattle.wy_term.specs.Same.{same_term}
use Rattle.wy_term.specs.Meaning.{Names, with_number, Sense, sense, distance}
use Rattle.wy_term.specs.Folding.{found, found_or, hidden, binder, folded}
use Rattle.wy_term.specs.Sorts.{Sort, int_sort, val_sort, formula_sort, sort_of, sort_in, Agree}
use Rattle.wy_term.proofs.SameLemmas.{terms_are, terms_self}
use Rattle.wy_term_subst.specs.Names.{any_symbol, any_in_parts, names_it, stands_in, numbers_by, numbers_in, numbers_in_parts, is_in, new_number}
use Rattle.wy_term_subst.specs.Substitution.{with_new_name, binder_of, entered_by, entered, env_at, put, put_parts, substituted}
use Rattle.wy_term_subst.proofs.NameLemmas.{has_number, is_in-append, new_number-new}
use Rattle.wy_term_subst.specs.sorted.Sorted.{Places, places, behind, IsSorted, AreSorted}
use Rattle.wy_term_subst.proofs.sorted_lemmas.SortedLemmas.{number_of, under, range_test, binder_holds, AgreeAll, alike, agree_on, come_agree, name_test, other, folding_kept}
use Rattle.wy_term_subst.specs.kept_sorts.SortKept.{HasSort}
use Rattle.wy_term_subst.proofs.kept_sorts_lemmas.SortLemmas.{ArePairs, found_sorted, put_parts_sorted, entered_sorted}

or_false : (a b : Bool) → a ≡ false → b ≡ false → (a || b) ≡ false
or_false true b e f = absurd cc
or_false false b e f = f

-- ---- where the meaning rests on names

-- the symbol is the Val name with this word and number
abbrev is_val : List ℕ → ℕ → Symbol → Bool
is_val w n (val_name v m) = bytes_eq v w && eqb m n
is_val w n symbol = false

-- whether a symbol that passes a test stands in a term, or in parts
abbrev Has : Type 0
Has = (Symbol → Bool) → Bool

abbrev in_term : Term → Has
in_term f test = any_symbol test f

abbrev in_parts : Parts → Has
in_parts ps test = any_in_parts test ps

-- the names that stand there stand for the same
record AgreeOn (names others : Names) (has : (Symbol → Bool) → Bool) : Type 0 where
  ints : (w : List ℕ) (n : ℕ) → has (names_it w n) ≡ true → names.number_of w n ≡ others.number_of w n
  vals : (w : List ℕ) (n : ℕ) → has (is_val w n) ≡ true → names.datum_of w n ≡ others.datum_of w n
  members : names.is_member ≡ others.is_member

agree_less : (names others : Names) (has had : (Symbol → Bool) → Bool) → ((test : Symbol → Bool) → had test ≡ true → has test ≡ true) → AgreeOn names others has → AgreeOn names others had
agree_less names others has had f on = record { ints = λ w n e. on.ints w n (f (names_it w n) e); vals = λ w n e. on.vals w n (f (is_val w n) e); members = on.members }

abbrev Coincides : Term → Type 0
Coincides t = (names others : Names) → AgreeOn names others (in_term t) → Agree (sort_in t) (sense names t) (sense others t)

abbrev AllCoincide : Parts → Type 0
AllCoincide no_parts = Unit {0}
AllCoincide (part t ps) = Coincides t × AllCoincide ps

parts_agree : (ps : Parts) (wanted : Places) → AreSorted ps wanted → AllCoincide ps → (names others : Names) → AgreeOn names others (in_parts ps) → AgreeAll names others wanted ps ps
parts_agree no_parts wanted sorted all names others on = tt
parts_agree (part t ps) wanted sorted all names others on = (
  come_agree wanted (sort_in t) (sense names t) (sense others t) sorted.0 (all.0 names others (agree_less names others (in_parts (part t ps)) (in_term t) (λ test e. or_left (any_symbol test t) (any_in_parts test ps) e) on)),
  parts_agree ps (behind wanted) sorted.2 all.1 names others (agree_less names others (in_parts (part t ps)) (in_parts ps) (λ test e. or_right (any_symbol test t) (any_in_parts test ps) e) on),
)

-- the numbers or truth values of a part of a known sort
int_of : (t : Term) (a b : Sense) → sort_in t ≡ int_sort → Agree (sort_in t) a b → a.number ≡ b.number
int_of t a b e f = subst (λ (s : Sort). Agree s a b) e f

truth_is : (t : Term) (a b : Sense) → sort_in t ≡ formula_sort → Agree (sort_in t) a b → a.truth ≡ b.truth
truth_is t a b e f = subst (λ (s : Sort). Agree s a b) e f

val_of : (t : Term) (a b : Sense) → sort_in t ≡ val_sort → Agree (sort_in t) a b → a.datum ≡ b.datum
val_of t a b e f = subst (λ (s : Sort). Agree s a b) e f

same_range : (all : Bool) (a b c d : ℤ) (g h : ℤ → Bool) → a ≡ c → b ≡ d → ((z : ℤ) → g z ≡ h z) → range_test all a (distance (b -ℤ a)) g ≡ range_test all c (distance (d -ℤ c)) h
same_range all a b c d g h p q r =
    ap (λ (y : ℤ). range_test all y (distance (b -ℤ y)) g) p
    ∙ (ap (λ (y : ℤ). range_test all c (distance (y -ℤ c)) g) q ∙ ap (range_test all c (distance (d -ℤ c))) (fun_ext r))

binder_coincides : (all : Bool) (w : List ℕ) (n : ℕ) (s u f : Term) → sort_in s ≡ int_sort → sort_in u ≡ int_sort → sort_in f ≡ formula_sort → Coincides s → Coincides u → Coincides f → (names others : Names) → AgreeOn names others (in_parts (part s (part u (part f no_parts)))) → truth_of names (Of (binder all w n) (part s (part u (part f no_parts)))) ≡ truth_of others (Of (binder all w n) (part s (part u (part f no_parts))))
binder_coincides all w n s u f is_s is_u is_f cs cu cf names others on =
    binder_holds all w n names s u f
    ∙ (same_range all (number_of names s) (number_of names u) (number_of others s) (number_of others u) (λ z. truth_of (with_number names w n z) f) (λ z. truth_of (with_number others w n z) f)
    (int_of s (sense names s) (sense others s) is_s (cs names others (agree_less names others (in_parts (part s (part u (part f no_parts)))) (in_term s) (λ test e. or_left (any_symbol test s) (any_symbol test u || (any_symbol test f || false)) e) on)))
    (int_of u (sense names u) (sense others u) is_u (cu names others (agree_less names others (in_parts (part s (part u (part f no_parts)))) (in_term u) (λ test e. or_right (any_symbol test s) (any_symbol test u || (any_symbol test f || false)) (or_left (any_symbol test u) (any_symbol test f || false) e)) on)))
    (λ z. truth_is f (sense (with_number names w n z) f) (sense (with_number others w n z) f) is_f (cf (with_number names w n z) (with_number others w n z) (inside z)))
    ∙ sym (binder_holds all w n others s u f))
  where
    there : (test : Symbol → Bool) → any_symbol test f ≡ true → (any_symbol test s || (any_symbol test u || (any_symbol test f || false))) ≡ true
    there test e = or_right (any_symbol test s) (any_symbol test u || (any_symbol test f || false)) (or_right (any_symbol test u) (any_symbol test f || false) (or_left (any_symbol test f) false e))

    inside : (z : ℤ) → AgreeOn (with_number names w n z) (with_number others w n z) (in_term f)
    inside z = record {
      ints = λ v m e. ap (λ (y : ℤ). cond (bytes_eq v w && eqb m n) z y) (on.ints v m (there (names_it v m) e));
      vals = λ v m e. on.vals v m (there (is_val v m) e);
      members = on.members;
    }

coincide_by : (symbol : Symbol) (ps : Parts) → AreSorted ps (places symbol) → AllCoincide ps → Coincides (Of symbol ps)
coincide_by (int_name w n) ps sorted all names others on = on.ints w n (or_left (bytes_eq w w && eqb n n) (any_in_parts (names_it w n) ps) (named_itself w n))
coincide_by (val_name w n) ps sorted all names others on = on.vals w n (or_left (bytes_eq w w && eqb n n) (any_in_parts (is_val w n) ps) (named_itself w n))
coincide_by (every w n) no_parts sorted all names others on = absurd sorted
coincide_by (every w n) (part s no_parts) sorted all names others on = absurd sorted.2
coincide_by (every w n) (part s (part u no_parts)) sorted all names others on = absurd sorted.2.2
coincide_by (every w n) (part s (part u (part f no_parts))) sorted all names others on = binder_coincides true w n s u f sorted.0 sorted.2.0 sorted.2.2.0 all.0 all.1.0 all.1.1.0 names others (agree_less names others (in_term (Of (every w n) (part s (part u (part f no_parts))))) (in_parts (part s (part u (part f no_parts)))) (λ test e. or_right (test (every w n)) (any_in_parts test (part s (part u (part f no_parts)))) e) on)
coincide_by (every w n) (part s (part u (part f (part g ps)))) sorted all names others on = absurd sorted.2.2.2.0
coincide_by (exists w n) no_parts sorted all names others on = absurd sorted
coincide_by (exists w n) (part s no_parts) sorted all names others on = absurd sorted.2
coincide_by (exists w n) (part s (part u no_parts)) sorted all names others on = absurd sorted.2.2
coincide_by (exists w n) (part s (part u (part f no_parts))) sorted all names others on = binder_coincides false w n s u f sorted.0 sorted.2.0 sorted.2.2.0 all.0 all.1.0 all.1.1.0 names others (agree_less names others (in_term (Of (exists w n) (part s (part u (part f no_parts))))) (in_parts (part s (part u (part f no_parts)))) (λ test e. or_right (test (exists w n)) (any_in_parts test (part s (part u (part f no_parts)))) e) on)
coincide_by (exists w n) (part s (part u (part f (part g ps)))) sorted all names others on = absurd sorted.2.2.2.0
coincide_by symbol ps sorted all names others on = alike symbol names others ps ps on.members refl (parts_agree ps (places symbol) sorted all names others (agree_less names others (in_term (Of symbol ps)) (in_parts ps) (λ test e. or_right (test symbol) (any_in_parts test ps) e) on))

mutual
  coincide : (f : Term) → IsSorted f → Coincides f
  coincide (Of symbol ps) sorted = coincide_by symbol ps sorted (coincide_parts ps (places symbol) sorted)

  coincide_parts : (ps : Parts) (wanted : Places) → AreSorted ps wanted → AllCoincide ps
  coincide_parts no_parts wanted sorted = tt
  coincide_parts (part t ps) wanted sorted = (coincide t sorted.1, coincide_parts ps (behind wanted) sorted.2)

-- ---- numbers and names

mutual
  in_numbers : (n : ℕ) (t : Term) → any_symbol (has_number n) t ≡ true → is_in n (numbers_in t) ≡ true
  in_numbers n (Of symbol ps) e =
      is_in-append n (numbers_by symbol) (numbers_in_parts ps) ∙ or_cases (is_in n (numbers_by symbol)) (any_in_parts (has_number n) ps) e (λ f. or_left (is_in n (numbers_by symbol)) (is_in n (numbers_in_parts ps)) f) (λ f. or_right (is_in n (numbers_by symbol)) (is_in n (numbers_in_parts ps)) (in_numbers_parts n ps f))

  in_numbers_parts : (n : ℕ) (ps : Parts) → any_in_parts (has_number n) ps ≡ true → is_in n (numbers_in_parts ps) ≡ true
  in_numbers_parts n no_parts e = absurd cc
  in_numbers_parts n (part t ps) e =
      is_in-append n (numbers_in t) (numbers_in_parts ps) ∙ or_cases (any_symbol (has_number n) t) (any_in_parts (has_number n) ps) e (λ f. or_left (is_in n (numbers_in t)) (is_in n (numbers_in_parts ps)) (in_numbers n t f)) (λ f. or_right (is_in n (numbers_in t)) (is_in n (numbers_in_parts ps)) (in_numbers_parts n ps f))

-- a name's number is among the numbers of its symbol
number_of_name : (w : List ℕ) (n : ℕ) (symbol : Symbol) → names_it w n symbol ≡ true → has_number n symbol ≡ true
number_of_name w n (int_name v m) e = or_left (eqb m n) false (both (bytes_eq v w) (eqb m n) e).1
number_of_name w n (every v m) e = or_left (eqb m n) false (both (bytes_eq v w) (eqb m n) e).1
number_of_name w n (exists v m) e = or_left (eqb m n) false (both (bytes_eq v w) (eqb m n) e).1
number_of_name w n symbol e = absurd cc

mutual
  any_more : (p q : Symbol → Bool) → ((s : Symbol) → p s ≡ true → q s ≡ true) → (t : Term) → any_symbol p t ≡ true → any_symbol q t ≡ true
  any_more p q f (Of symbol ps) e = or_cases (p symbol) (any_in_parts p ps) e (λ g. or_left (q symbol) (any_in_parts q ps) (f symbol g)) (λ g. or_right (q symbol) (any_in_parts q ps) (any_more_parts p q f ps g))

  any_more_parts : (p q : Symbol → Bool) → ((s : Symbol) → p s ≡ true → q s ≡ true) → (ps : Parts) → any_in_parts p ps ≡ true → any_in_parts q ps ≡ true
  any_more_parts p q f no_parts e = absurd cc
  any_more_parts p q f (part t ps) e = or_cases (any_symbol p t) (any_in_parts p ps) e (λ g. or_left (any_symbol q t) (any_in_parts q ps) (any_more p q f t g)) (λ g. or_right (any_symbol q t) (any_in_parts q ps) (any_more_parts p q f ps g))

-- ---- what may stand for the names of a term

-- the numbers of the names that stand somewhere, and of what they stand for, are taken; and what they stand for has no other name that is bound there and isn't one of t
record IsFair (t : Term) (env : List (Term × Term)) (ns : List ℕ) (has : (Symbol → Bool) → Bool) : Type 0 where
  numbers : (w : List ℕ) (n : ℕ) → has (names_it w n) ≡ true → is_in n ns ≡ true
  int_numbers : (v : List ℕ) (j : ℕ) → has (names_it v j) ≡ true → (m : ℕ) → any_symbol (has_number m) (found_or (found env (leaf (int_name v j))) (leaf (int_name v j))) ≡ true → is_in m ns ≡ true
  val_numbers : (v : List ℕ) (j : ℕ) → has (is_val v j) ≡ true → (m : ℕ) → any_symbol (has_number m) (found_or (found env (leaf (val_name v j))) (leaf (val_name v j))) ≡ true → is_in m ns ≡ true
  int_apart : (v : List ℕ) (j : ℕ) → has (names_it v j) ≡ true → (w : List ℕ) (n : ℕ) → has (names_it w n) ≡ true → stands_in w n t ≡ false → (bytes_eq v w && eqb j n) ≡ false → stands_in w n (found_or (found env (leaf (int_name v j))) (leaf (int_name v j))) ≡ false
  val_apart : (v : List ℕ) (j : ℕ) → has (is_val v j) ≡ true → (w : List ℕ) (n : ℕ) → has (names_it w n) ≡ true → stands_in w n t ≡ false → stands_in w n (found_or (found env (leaf (val_name v j))) (leaf (val_name v j))) ≡ false

fair_less : (t : Term) (env : List (Term × Term)) (ns ms : List ℕ) (has had : (Symbol → Bool) → Bool) → ((test : Symbol → Bool) → had test ≡ true → has test ≡ true) → ((n : ℕ) → is_in n ns ≡ true → is_in n ms ≡ true) → IsFair t env ns has → IsFair t env ms had
fair_less t env ns ms has had less more fair = record {
  numbers = λ w n e. more n (fair.numbers w n (less (names_it w n) e));
  int_numbers = λ v j e m g. more m (fair.int_numbers v j (less (names_it v j) e) m g);
  val_numbers = λ v j e m g. more m (fair.val_numbers v j (less (is_val v j) e) m g);
  int_apart = λ v j e w n g out other. fair.int_apart v j (less (names_it v j) e) w n (less (names_it w n) g) out other;
  val_apart = λ v j e w n g out. fair.val_apart v j (less (is_val v j) e) w n (less (names_it w n) g) out;
}

-- ---- numbers that are taken stay taken

entered_grows : (t : Term) (o : Option (List ℕ × ℕ)) (env : List (Term × Term)) (ns : List ℕ) (m : ℕ) → is_in m ns ≡ true → is_in m (entered_by t o env ns).taken ≡ true
entered_grows t None env ns m e = e
entered_grows t (Some name) env ns m e = either (stands_in name.0 name.1 t)
  where
    either : (b : Bool) → is_in m (cond b (with_new_name name.0 name.1 (new_number ns) env ns) (record { number = name.1; inner = hidden (found env (leaf (int_name name.0 name.1))) (leaf (int_name name.0 name.1)) env; taken = ns })).taken ≡ true
    either true = or_right (eqb (new_number ns) m) (is_in m ns) e
    either false = e

mutual
  put_grows : (t f : Term) (env : List (Term × Term)) (ns : List ℕ) (m : ℕ) → is_in m ns ≡ true → is_in m (put t f env ns).taken ≡ true
  put_grows t (Of symbol ps) env ns m e =
      let g = entered t symbol env ns in
      put_parts_grows t ps 0 env g.inner g.taken m (entered_grows t (binder_of symbol) env ns m e)

  put_parts_grows : (t : Term) (ps : Parts) (k : ℕ) (env inner : List (Term × Term)) (ns : List ℕ) (m : ℕ) → is_in m ns ≡ true → is_in m (put_parts t ps k env inner ns).taken ≡ true
  put_parts_grows t no_parts k env inner ns m e = e
  put_parts_grows t (part f ps) k env inner ns m e = put_parts_grows t ps (k + 1) env inner (put t f (env_at k env inner) ns).taken m (put_grows t f (env_at k env inner) ns m e)

-- ---- the name that a quantifier binds

-- within a quantifier of w#n that binds w#m now
record IsInner (t : Term) (w : List ℕ) (n m : ℕ) (env inner : List (Term × Term)) (taken : List ℕ) (has : (Symbol → Bool) → Bool) : Type 0 where
  itself : found_or (found inner (leaf (int_name w n))) (leaf (int_name w n)) ≡ leaf (int_name w m)
  ints : (v : List ℕ) (j : ℕ) → (bytes_eq v w && eqb j n) ≡ false → found inner (leaf (int_name v j)) ≡ found env (leaf (int_name v j))
  vals : (v : List ℕ) (j : ℕ) → found inner (leaf (val_name v j)) ≡ found env (leaf (val_name v j))
  ints_apart : (v : List ℕ) (j : ℕ) → has (names_it v j) ≡ true → (bytes_eq v w && eqb j n) ≡ false → stands_in w m (found_or (found env (leaf (int_name v j))) (leaf (int_name v j))) ≡ false
  vals_apart : (v : List ℕ) (j : ℕ) → has (is_val v j) ≡ true → stands_in w m (found_or (found env (leaf (val_name v j))) (leaf (val_name v j))) ≡ false
  fair : IsFair t inner taken has

only : (b : Bool) → ((b || false) || false) ≡ true → b ≡ true
only true e = refl
only false e = absurd cc

only_one : (b : Bool) → (b || false) ≡ true → b ≡ true
only_one true e = refl
only_one false e = absurd cc

taken_same : (j m : ℕ) (ns : List ℕ) → eqb j m ≡ true → is_in j ns ≡ true → is_in m ns ≡ true
taken_same j m ns e f = subst (λ (k : ℕ). is_in k ns ≡ true) (eqb-true j m e) f

-- what the bound name itself stands for
image_itself : (inner : List (Term × Term)) (w v : List ℕ) (n j m : ℕ) → found_or (found inner (leaf (int_name w n))) (leaf (int_name w n)) ≡ leaf (int_name w m) → (bytes_eq v w && eqb j n) ≡ true → found_or (found inner (leaf (int_name v j))) (leaf (int_name v j)) ≡ leaf (int_name w m)
image_itself inner w v n j m itself e =
    let g = both (bytes_eq v w) (eqb j n) e in
    ap (λ (v' : List ℕ). found_or (found inner (leaf (int_name v' j))) (leaf (int_name v' j))) (bytes_are v w g.0)
    ∙ (ap (λ (j' : ℕ). found_or (found inner (leaf (int_name w j'))) (leaf (int_name w j'))) (eqb-true j n g.1) ∙ itself)

inner_new : (t : Term) (w : List ℕ) (n : ℕ) (env : List (Term × Term)) (ns : List ℕ) (whole body : (Symbol → Bool) → Bool) → ((test : Symbol → Bool) → body test ≡ true → whole test ≡ true) → IsFair t env ns whole → IsInner t w n (new_number ns) env ((leaf (int_name w n), leaf (int_name w (new_number ns))) ∷ env) (new_number ns ∷ ns) body
inner_new t w n env ns whole body less fair = record {
  itself = itself_is;
  ints = ints_are;
  vals = λ v j. refl;
  ints_apart = λ v j h e. fails (stands_in w m (found_or (found env (leaf (int_name v j))) (leaf (int_name v j)))) (λ g. no_both (is_in m ns) (fair.int_numbers v j (less (names_it v j) h) m (any_more (names_it w m) (has_number m) (number_of_name w m) (found_or (found env (leaf (int_name v j))) (leaf (int_name v j))) g)) (new_number-new ns));
  vals_apart = λ v j h. fails (stands_in w m (found_or (found env (leaf (val_name v j))) (leaf (val_name v j)))) (λ g. no_both (is_in m ns) (fair.val_numbers v j (less (is_val v j) h) m (any_more (names_it w m) (has_number m) (number_of_name w m) (found_or (found env (leaf (val_name v j))) (leaf (val_name v j))) g)) (new_number-new ns));
  fair = record {
    numbers = λ v j h. or_right (eqb m j) (is_in j ns) (fair.numbers v j (less (names_it v j) h));
    int_numbers = λ v j h i g. numbers_of v j h i (bytes_eq v w && eqb j n) refl g;
    val_numbers = λ v j h i g. or_right (eqb m i) (is_in i ns) (fair.val_numbers v j (less (is_val v j) h) i g);
    int_apart = λ v j h v' j' h' out diff. apart_of v j h v' j' h' out diff (bytes_eq v w && eqb j n) refl;
    val_apart = λ v j h v' j' h' out. fair.val_apart v j (less (is_val v j) h) v' j' (less (names_it v' j') h') out;
  };
}
  where
    m : ℕ
    m = new_number ns

    itself_is : found_or (found ((leaf (int_name w n), leaf (int_name w (new_number ns))) ∷ env) (leaf (int_name w n))) (leaf (int_name w n)) ≡ leaf (int_name w (new_number ns))
    itself_is = ap (λ (b : Bool). found_or (cond b (Some (leaf (int_name w (new_number ns)))) (found env (leaf (int_name w n)))) (leaf (int_name w n))) (terms_self (leaf (int_name w n)))

    ints_are : (v : List ℕ) (j : ℕ) → (bytes_eq v w && eqb j n) ≡ false → found ((leaf (int_name w n), leaf (int_name w (new_number ns))) ∷ env) (leaf (int_name v j)) ≡ found env (leaf (int_name v j))
    ints_are v j e = ap (λ (b : Bool). cond b (Some (leaf (int_name w (new_number ns)))) (found env (leaf (int_name v j)))) (name_test w v n j ∙ e)

    numbers_of : (v : List ℕ) (j : ℕ) → body (names_it v j) ≡ true → (i : ℕ) → (b : Bool) → (bytes_eq v w && eqb j n) ≡ b → any_symbol (has_number i) (found_or (found ((leaf (int_name w n), leaf (int_name w (new_number ns))) ∷ env) (leaf (int_name v j))) (leaf (int_name v j))) ≡ true → (eqb (new_number ns) i || is_in i ns) ≡ true
    numbers_of v j h i true e g = or_left (eqb (new_number ns) i) (is_in i ns) (only (eqb (new_number ns) i) (sym (ap (any_symbol (has_number i)) (image_itself ((leaf (int_name w n), leaf (int_name w (new_number ns))) ∷ env) w v n j (new_number ns) itself_is e)) ∙ g))
    numbers_of v j h i false e g = or_right (eqb (new_number ns) i) (is_in i ns) (fair.int_numbers v j (less (names_it v j) h) i (sym (ap (λ (o : Option Term). any_symbol (has_number i) (found_or o (leaf (int_name v j)))) (ints_are v j e)) ∙ g))

    apart_of : (v : List ℕ) (j : ℕ) → body (names_it v j) ≡ true → (v' : List ℕ) (j' : ℕ) → body (names_it v' j') ≡ true → stands_in v' j' t ≡ false → (bytes_eq v v' && eqb j j') ≡ false → (b : Bool) → (bytes_eq v w && eqb j n) ≡ b → stands_in v' j' (found_or (found ((leaf (int_name w n), leaf (int_name w (new_number ns))) ∷ env) (leaf (int_name v j))) (leaf (int_name v j))) ≡ false
    apart_of v j h v' j' h' out diff true e =
        ap (stands_in v' j') (image_itself ((leaf (int_name w n), leaf (int_name w (new_number ns))) ∷ env) w v n j (new_number ns) itself_is e)
        ∙ fails ((bytes_eq w v' && eqb (new_number ns) j') || false) (λ g. no_both (is_in (new_number ns) ns) (subst (λ (k : ℕ). is_in k ns ≡ true) (sym (eqb-true (new_number ns) j' (both (bytes_eq w v') (eqb (new_number ns) j') (only_one (bytes_eq w v' && eqb (new_number ns) j') g)).1)) (fair.numbers v' j' (less (names_it v' j') h'))) (new_number-new ns))
    apart_of v j h v' j' h' out diff false e =
        ap (λ (o : Option Term). stands_in v' j' (found_or o (leaf (int_name v j)))) (ints_are v j e)
        ∙ fair.int_apart v j (less (names_it v j) h) v' j' (less (names_it v' j') h') out diff

own_image : (env : List (Term × Term)) (w : List ℕ) (n : ℕ) (o : Option Term) → found env (leaf (int_name w n)) ≡ o → found_or (found (hidden o (leaf (int_name w n)) env) (leaf (int_name w n))) (leaf (int_name w n)) ≡ leaf (int_name w n)
own_image env w n None e = ap (λ (o : Option Term). found_or o (leaf (int_name w n))) e
own_image env w n (Some u) e = either (same_term u (leaf (int_name w n))) refl
  where
    either : (b : Bool) → same_term u (leaf (int_name w n)) ≡ b → found_or (found (cond b env ((leaf (int_name w n), leaf (int_name w n)) ∷ env)) (leaf (int_name w n))) (leaf (int_name w n)) ≡ leaf (int_name w n)
    either true g = ap (λ (o : Option Term). found_or o (leaf (int_name w n))) e ∙ terms_are u (leaf (int_name w n)) g
    either false g = ap (λ (b : Bool). found_or (cond b (Some (leaf (int_name w n))) (found env (leaf (int_name w n)))) (leaf (int_name w n))) (terms_self (leaf (int_name w n)))

val_hidden : (env : List (Term × Term)) (w v : List ℕ) (n j : ℕ) (o : Option Term) → found (hidden o (leaf (int_name w n)) env) (leaf (val_name v j)) ≡ found env (leaf (val_name v j))
val_hidden env w v n j None = refl
val_hidden env w v n j (Some u) = either (same_term u (leaf (int_name w n)))
  where
    either : (b : Bool) → found (cond b env ((leaf (int_name w n), leaf (int_name w n)) ∷ env)) (leaf (val_name v j)) ≡ found env (leaf (val_name v j))
    either true = refl
    either false = refl

inner_old : (t : Term) (w : List ℕ) (n : ℕ) (env : List (Term × Term)) (ns : List ℕ) (whole body : (Symbol → Bool) → Bool) → ((test : Symbol → Bool) → body test ≡ true → whole test ≡ true) → whole (names_it w n) ≡ true → stands_in w n t ≡ false → IsFair t env ns whole → IsInner t w n n env (hidden (found env (leaf (int_name w n))) (leaf (int_name w n)) env) ns body
inner_old t w n env ns whole body less binds out fair = record {
  itself = own_image env w n (found env (leaf (int_name w n))) refl;
  ints = λ v j e. other env w v n j (found env (leaf (int_name w n))) e;
  vals = λ v j. val_hidden env w v n j (found env (leaf (int_name w n)));
  ints_apart = λ v j h e. fair.int_apart v j (less (names_it v j) h) w n binds out e;
  vals_apart = λ v j h. fair.val_apart v j (less (is_val v j) h) w n binds out;
  fair = record {
    numbers = λ v j h. fair.numbers v j (less (names_it v j) h);
    int_numbers = λ v j h i g. numbers_of v j h i (bytes_eq v w && eqb j n) refl g;
    val_numbers = λ v j h i g. fair.val_numbers v j (less (is_val v j) h) i (sym (ap (λ (o : Option Term). any_symbol (has_number i) (found_or o (leaf (val_name v j)))) (val_hidden env w v n j (found env (leaf (int_name w n))))) ∙ g);
    int_apart = λ v j h v' j' h' out' diff. apart_of v j h v' j' h' out' diff (bytes_eq v w && eqb j n) refl;
    val_apart = λ v j h v' j' h' out'. ap (λ (o : Option Term). stands_in v' j' (found_or o (leaf (val_name v j)))) (val_hidden env w v n j (found env (leaf (int_name w n)))) ∙ fair.val_apart v j (less (is_val v j) h) v' j' (less (names_it v' j') h') out';
  };
}
  where
    numbers_of : (v : List ℕ) (j : ℕ) → body (names_it v j) ≡ true → (i : ℕ) → (b : Bool) → (bytes_eq v w && eqb j n) ≡ b → any_symbol (has_number i) (found_or (found (hidden (found env (leaf (int_name w n))) (leaf (int_name w n)) env) (leaf (int_name v j))) (leaf (int_name v j))) ≡ true → is_in i ns ≡ true
    numbers_of v j h i true e g = taken_same n i ns (only (eqb n i) (sym (ap (any_symbol (has_number i)) (image_itself (hidden (found env (leaf (int_name w n))) (leaf (int_name w n)) env) w v n j n (own_image env w n (found env (leaf (int_name w n))) refl) e)) ∙ g)) (fair.numbers w n binds)
    numbers_of v j h i false e g = fair.int_numbers v j (less (names_it v j) h) i (sym (ap (λ (o : Option Term). any_symbol (has_number i) (found_or o (leaf (int_name v j)))) (other env w v n j (found env (leaf (int_name w n))) e)) ∙ g)

    apart_of : (v : List ℕ) (j : ℕ) → body (names_it v j) ≡ true → (v' : List ℕ) (j' : ℕ) → body (names_it v' j') ≡ true → stands_in v' j' t ≡ false → (bytes_eq v v' && eqb j j') ≡ false → (b : Bool) → (bytes_eq v w && eqb j n) ≡ b → stands_in v' j' (found_or (found (hidden (found env (leaf (int_name w n))) (leaf (int_name w n)) env) (leaf (int_name v j))) (leaf (int_name v j))) ≡ false
    apart_of v j h v' j' h' out' diff true e =
        let g = both (bytes_eq v w) (eqb j n) e in
        let moved : (bytes_eq w v' && eqb n j') ≡ false = subst (λ (k : ℕ). (bytes_eq w v' && eqb k j') ≡ false) (eqb-true j n g.1) (subst (λ (x : List ℕ). (bytes_eq x v' && eqb j j') ≡ false) (bytes_are v w g.0) diff) in
        ap (stands_in v' j') (image_itself (hidden (found env (leaf (int_name w n))) (leaf (int_name w n)) env) w v n j n (own_image env w n (found env (leaf (int_name w n))) refl) e)
        ∙ or_false (bytes_eq w v' && eqb n j') false moved refl
    apart_of v j h v' j' h' out' diff false e =
        ap (λ (o : Option Term). stands_in v' j' (found_or o (leaf (int_name v j)))) (other env w v n j (found env (leaf (int_name w n))) e)
        ∙ fair.int_apart v j (less (names_it v j) h) v' j' (less (names_it v' j') h') out' diff

entered_inner : (t : Term) (w : List ℕ) (n : ℕ) (env : List (Term × Term)) (ns : List ℕ) (whole body : (Symbol → Bool) → Bool) → ((test : Symbol → Bool) → body test ≡ true → whole test ≡ true) → whole (names_it w n) ≡ true → IsFair t env ns whole → IsInner t w n (entered_by t (Some (w, n)) env ns).number env (entered_by t (Some (w, n)) env ns).inner (entered_by t (Some (w, n)) env ns).taken body
entered_inner t w n env ns whole body less binds fair = either (stands_in w n t) refl
  where
    either : (b : Bool) → stands_in w n t ≡ b → IsInner t w n (cond b (with_new_name w n (new_number ns) env ns) (record { number = n; inner = hidden (found env (leaf (int_name w n))) (leaf (int_name w n)) env; taken = ns })).number env (cond b (with_new_name w n (new_number ns) env ns) (record { number = n; inner = hidden (found env (leaf (int_name w n))) (leaf (int_name w n)) env; taken = ns })).inner (cond b (with_new_name w n (new_number ns) env ns) (record { number = n; inner = hidden (found env (leaf (int_name w n))) (leaf (int_name w n)) env; taken = ns })).taken body
    either true e = inner_new t w n env ns whole body less fair
    either false e = inner_old t w n env ns whole body less binds e fair

-- ---- the body of a quantifier

apart_on : (names : Names) (w : List ℕ) (m : ℕ) (z : ℤ) (u : Term) → stands_in w m u ≡ false → AgreeOn (with_number names w m z) names (in_term u)
apart_on names w m z u out = record {
  ints = λ v j g. ap (λ (b : Bool). cond b z (names.number_of v j)) (fails (bytes_eq v w && eqb j m) (λ e. let h = both (bytes_eq v w) (eqb j m) e in no_both (stands_in w m u) (subst (λ (k : ℕ). stands_in w k u ≡ true) (eqb-true j m h.1) (subst (λ (x : List ℕ). stands_in x j u ≡ true) (bytes_are v w h.0) g)) out));
  vals = λ v j g. refl;
  members = refl;
}

inside_agrees : (t : Term) (w : List ℕ) (n m : ℕ) (env inner : List (Term × Term)) (taken : List ℕ) (body : (Symbol → Bool) → Bool) (names : Names) (z : ℤ) → ArePairs env → IsInner t w n m env inner taken body → AgreeOn (under inner (with_number names w m z)) (with_number (under env names) w n z) body
inside_agrees t w n m env inner taken body names z are is = record {
  ints = λ v j h. int_case v j h (bytes_eq v w && eqb j n) refl;
  vals = λ v j h.
      let y = leaf (val_name v j) in
      let u = found_or (found env y) y in
      let has = found_sorted env y tt are in
      ap (λ (o : Option Term). (sense (with_number names w m z) (found_or o y)).datum) (is.vals v j)
      ∙ val_of u (sense (with_number names w m z) u) (sense names u) has.1 (coincide u has.0 (with_number names w m z) names (apart_on names w m z u (is.vals_apart v j h)));
  members = refl;
}
  where
    mine : (with_number names w m z).number_of w m ≡ z
    mine = ap (λ (b : Bool). cond b z (names.number_of w m)) (named_itself w m)

    int_case : (v : List ℕ) (j : ℕ) → body (names_it v j) ≡ true → (b : Bool) → (bytes_eq v w && eqb j n) ≡ b → (under inner (with_number names w m z)).number_of v j ≡ (with_number (under env names) w n z).number_of v j
    int_case v j h true e =
        ap (λ (u : Term). (sense (with_number names w m z) u).number) (image_itself inner w v n j m is.itself e)
        ∙ (mine ∙ sym (ap (λ (b : Bool). cond b z ((under env names).number_of v j)) e))
    int_case v j h false e =
        let y = leaf (int_name v j) in
        let u = found_or (found env y) y in
        let has = found_sorted env y tt are in
        ap (λ (o : Option Term). (sense (with_number names w m z) (found_or o y)).number) (is.ints v j e)
        ∙ (int_of u (sense (with_number names w m z) u) (sense names u) has.1 (coincide u has.0 (with_number names w m z) names (apart_on names w m z u (is.ints_apart v j h e)))
        ∙ sym (ap (λ (b : Bool). cond b z ((under env names).number_of v j)) e))

-- ---- the whole

abbrev IsPutKept : Term → Term → Type 0
IsPutKept t f = (env : List (Term × Term)) (ns : List ℕ) → ArePairs env → IsFair t env ns (in_term f) → (names : Names) → Agree (sort_in f) (sense names (put t f env ns).term) (sense (under env names) f)

abbrev ArePutKept : Term → Parts → Type 0
ArePutKept t no_parts = Unit {0}
ArePutKept t (part f ps) = IsPutKept t f × ArePutKept t ps

env_same : (k : ℕ) (env : List (Term × Term)) → env ≡ env_at k env env
env_same k env = either (nat_lt k 2)
  where
    either : (b : Bool) → env ≡ cond b env env
    either true = refl
    either false = refl

put_agree : (t : Term) (ps : Parts) (wanted : Places) (k : ℕ) → AreSorted ps wanted → ArePutKept t ps → (env : List (Term × Term)) (ns : List ℕ) → ArePairs env → IsFair t env ns (in_parts ps) → (names : Names) → AgreeAll names (under env names) wanted (put_parts t ps k env env ns).parts ps
put_agree t no_parts wanted k sorted kept env ns are fair names = tt
put_agree t (part f ps) wanted k sorted kept env ns are fair names =
    let first = kept.0 env ns are (fair_less t env ns ns (in_parts (part f ps)) (in_term f) (λ test e. or_left (any_symbol test f) (any_in_parts test ps) e) (λ n e. e) fair) names in
    let here = subst (λ (e : List (Term × Term)). Agree (sort_in f) (sense names (put t f e ns).term) (sense (under env names) f)) (env_same k env) first in
    let taken = (put t f (env_at k env env) ns).taken in
    (come_agree wanted (sort_in f) (sense names (put t f (env_at k env env) ns).term) (sense (under env names) f) sorted.0 here, put_agree t ps (behind wanted) (k + 1) sorted.2 kept.1 env taken are (fair_less t env ns taken (in_parts (part f ps)) (in_parts ps) (λ test e. or_right (any_symbol test f) (any_in_parts test ps) e) (λ n e. put_grows t f (env_at k env env) ns n e) fair) names)

folding_binder : (all : Bool) (w : List ℕ) (m : ℕ) (s u f : Term) (names : Names) → AreSorted (part s (part u (part f no_parts))) (places (every w m)) → truth_of names (folded (Of (binder all w m) (part s (part u (part f no_parts))))) ≡ truth_of names (Of (binder all w m) (part s (part u (part f no_parts))))
folding_binder true w m s u f names sorted = folding_kept (Of (every w m) (part s (part u (part f no_parts)))) names sorted
folding_binder false w m s u f names sorted = folding_kept (Of (exists w m) (part s (part u (part f no_parts)))) names sorted

quantifier_kept : (t : Term) (root : Symbol) (all : Bool) (w : List ℕ) (n : ℕ) (s u f : Term) → names_it w n root ≡ true → AreSorted (part s (part u (part f no_parts))) (places (every w n)) → ArePutKept t (part s (part u (part f no_parts))) → (env : List (Term × Term)) (ns : List ℕ) → ArePairs env → IsFair t env ns (λ test. test root || any_in_parts test (part s (part u (part f no_parts)))) → (names : Names) → truth_of names (folded (Of (binder all w (entered_by t (Some (w, n)) env ns).number) (put_parts t (part s (part u (part f no_parts))) 0 env (entered_by t (Some (w, n)) env ns).inner (entered_by t (Some (w, n)) env ns).taken).parts)) ≡ truth_of (under env names) (Of (binder all w n) (part s (part u (part f no_parts))))
quantifier_kept t root all w n s u f is_root sorted kept env ns are fair names =
    let e = entered_by t (Some (w, n)) env ns in
    let ss = put t s env e.taken in
    let us = put t u env ss.taken in
    let fs = put t f e.inner us.taken in
    let inner_are = entered_sorted t (Some (w, n)) env ns are in
    let whole_sorted = put_parts_sorted t (part s (part u (part f no_parts))) 0 env e.inner e.taken (places (every w n)) sorted are inner_are in
    let is = entered_inner t w n env ns (λ test. test root || any_in_parts test (part s (part u (part f no_parts)))) (in_term f) in_body (or_left (names_it w n root) (any_in_parts (names_it w n) (part s (part u (part f no_parts)))) is_root) fair in
    let fair_s = fair_less t env ns e.taken (λ test. test root || any_in_parts test (part s (part u (part f no_parts)))) (in_term s) in_first (λ m g. entered_grows t (Some (w, n)) env ns m g) fair in
    let fair_u = fair_less t env ns ss.taken (λ test. test root || any_in_parts test (part s (part u (part f no_parts)))) (in_term u) in_second (λ m g. put_grows t s env e.taken m (entered_grows t (Some (w, n)) env ns m g)) fair in
    let fair_f = fair_less t e.inner e.taken us.taken (in_term f) (in_term f) (λ test g. g) (λ m g. put_grows t u env ss.taken m (put_grows t s env e.taken m g)) is.fair in
    let first = int_of s (sense names ss.term) (sense (under env names) s) sorted.0 (kept.0 env e.taken are fair_s names) in
    let second = int_of u (sense names us.term) (sense (under env names) u) sorted.2.0 (kept.1.0 env ss.taken are fair_u names) in
    let inside : (z : ℤ) → truth_of (with_number names w e.number z) fs.term ≡ truth_of (with_number (under env names) w n z) f = λ z.
    truth_is f (sense (with_number names w e.number z) fs.term) (sense (under e.inner (with_number names w e.number z)) f) sorted.2.2.0 (kept.1.1.0 e.inner us.taken inner_are fair_f (with_number names w e.number z))
    ∙ truth_is f (sense (under e.inner (with_number names w e.number z)) f) (sense (with_number (under env names) w n z) f) sorted.2.2.0 (coincide f sorted.2.2.1 (under e.inner (with_number names w e.number z)) (with_number (under env names) w n z) (inside_agrees t w n e.number env e.inner e.taken (in_term f) names z are is)) in
    folding_binder all w e.number ss.term us.term fs.term names whole_sorted
    ∙ (binder_holds all w e.number names ss.term us.term fs.term
    ∙ (same_range all (number_of names ss.term) (number_of names us.term) (number_of (under env names) s) (number_of (under env names) u) (λ z. truth_of (with_number names w e.number z) fs.term) (λ z. truth_of (with_number (under env names) w n z) f) first second inside
    ∙ sym (binder_holds all w n (under env names) s u f)))
  where
    in_first : (test : Symbol → Bool) → any_symbol test s ≡ true → (test root || any_in_parts test (part s (part u (part f no_parts)))) ≡ true
    in_first test g = or_right (test root) (any_in_parts test (part s (part u (part f no_parts)))) (or_left (any_symbol test s) (any_in_parts test (part u (part f no_parts))) g)

    in_second : (test : Symbol → Bool) → any_symbol test u ≡ true → (test root || any_in_parts test (part s (part u (part f no_parts)))) ≡ true
    in_second test g = or_right (test root) (any_in_parts test (part s (part u (part f no_parts)))) (or_right (any_symbol test s) (any_in_parts test (part u (part f no_parts))) (or_left (any_symbol test u) (any_in_parts test (part f no_parts)) g))

    in_body : (test : Symbol → Bool) → any_symbol test f ≡ true → (test root || any_in_parts test (part s (part u (part f no_parts)))) ≡ true
    in_body test g = or_right (test root) (any_in_parts test (part s (part u (part f no_parts)))) (or_right (any_symbol test s) (any_in_parts test (part u (part f no_parts))) (or_right (any_symbol test u) (any_in_parts test (part f no_parts)) (or_left (any_symbol test f) false g)))

by_symbol : (t : Term) (symbol : Symbol) (ps : Parts) → AreSorted ps (places symbol) → ArePutKept t ps → IsPutKept t (Of symbol ps)
by_symbol t (int_name w n) ps sorted kept env ns are fair names = refl
by_symbol t (val_name w n) ps sorted kept env ns are fair names = refl
by_symbol t (every w n) no_parts sorted kept env ns are fair names = absurd sorted
by_symbol t (every w n) (part s no_parts) sorted kept env ns are fair names = absurd sorted.2
by_symbol t (every w n) (part s (part u no_parts)) sorted kept env ns are fair names = absurd sorted.2.2
by_symbol t (every w n) (part s (part u (part f no_parts))) sorted kept env ns are fair names = quantifier_kept t (every w n) true w n s u f (named_itself w n) sorted kept env ns are fair names
by_symbol t (every w n) (part s (part u (part f (part g ps)))) sorted kept env ns are fair names = absurd sorted.2.2.2.0
by_symbol t (exists w n) no_parts sorted kept env ns are fair names = absurd sorted
by_symbol t (exists w n) (part s no_parts) sorted kept env ns are fair names = absurd sorted.2
by_symbol t (exists w n) (part s (part u no_parts)) sorted kept env ns are fair names = absurd sorted.2.2
by_symbol t (exists w n) (part s (part u (part f no_parts))) sorted kept env ns are fair names = quantifier_kept t (exists w n) false w n s u f (named_itself w n) sorted kept env ns are fair names
by_symbol t (exists w n) (part s (part u (part f (part g ps)))) sorted kept env ns are fair names = absurd sorted.2.2.2.0
by_symbol t symbol ps sorted kept env ns are fair names =
    let qs = (put_parts t ps 0 env env ns).parts in
    agree_on (sort_of symbol) (sense names (folded (Of symbol qs))) (sense names (Of symbol qs)) (sense (under env names) (Of symbol ps)) (folding_kept (Of symbol qs) names (put_parts_sorted t ps 0 env env ns (places symbol) sorted are are)) (alike symbol names (under env names) qs ps refl refl (put_agree t ps (places symbol) 0 sorted kept env ns are (fair_less t env ns ns (in_term (Of symbol ps)) (in_parts ps) (λ test e. or_right (test symbol) (any_in_parts test ps) e) (λ n e. e) fair) names))

mutual
  put_kept : (t f : Term) → IsSorted f → IsPutKept t f
  put_kept t (Of symbol ps) sorted = by_symbol t symbol ps sorted (parts_put_kept t ps (places symbol) sorted)

  parts_put_kept : (t : Term) (ps : Parts) (wanted : Places) → AreSorted ps wanted → ArePutKept t ps
  parts_put_kept t no_parts wanted sorted = tt
  parts_put_kept t (part f ps) wanted sorted = (put_kept t f sorted.1, parts_put_kept t ps (behind wanted) sorted.2)

-- ---- the first names

number_of_val : (w : List ℕ) (n : ℕ) (symbol : Symbol) → is_val w n symbol ≡ true → has_number n symbol ≡ true
number_of_val w n (val_name v m) e = or_left (eqb m n) false (both (bytes_eq v w) (eqb m n) e).1
number_of_val w n symbol e = absurd cc

first_fair : (f x t : Term) → IsFair t ((x, t) ∷ []) (numbers_in f ++ numbers_in t) (in_term f)
first_fair f x t = record {
  numbers = λ w n e. mine n (any_more (names_it w n) (has_number n) (number_of_name w n) f e);
  int_numbers = λ v j h m g. int_case v j h m (same_term x (leaf (int_name v j))) g;
  val_numbers = λ v j h m g. val_case v j h m (same_term x (leaf (val_name v j))) g;
  int_apart = λ v j h w n h' out diff. int_out v j w n out diff (same_term x (leaf (int_name v j)));
  val_apart = λ v j h w n h' out. val_out v j w n out (same_term x (leaf (val_name v j)));
}
  where
    mine : (n : ℕ) → any_symbol (has_number n) f ≡ true → is_in n (numbers_in f ++ numbers_in t) ≡ true
    mine n e = is_in-append n (numbers_in f) (numbers_in t) ∙ or_left (is_in n (numbers_in f)) (is_in n (numbers_in t)) (in_numbers n f e)

    other_one : (n : ℕ) → any_symbol (has_number n) t ≡ true → is_in n (numbers_in f ++ numbers_in t) ≡ true
    other_one n e = is_in-append n (numbers_in f) (numbers_in t) ∙ or_right (is_in n (numbers_in f)) (is_in n (numbers_in t)) (in_numbers n t e)

    int_case : (v : List ℕ) (j : ℕ) → any_symbol (names_it v j) f ≡ true → (m : ℕ) → (b : Bool) → any_symbol (has_number m) (found_or (cond b (Some t) None) (leaf (int_name v j))) ≡ true → is_in m (numbers_in f ++ numbers_in t) ≡ true
    int_case v j h m true g = other_one m g
    int_case v j h m false g = taken_same j m (numbers_in f ++ numbers_in t) (only (eqb j m) g) (mine j (any_more (names_it v j) (has_number j) (number_of_name v j) f h))

    val_case : (v : List ℕ) (j : ℕ) → any_symbol (is_val v j) f ≡ true → (m : ℕ) → (b : Bool) → any_symbol (has_number m) (found_or (cond b (Some t) None) (leaf (val_name v j))) ≡ true → is_in m (numbers_in f ++ numbers_in t) ≡ true
    val_case v j h m true g = other_one m g
    val_case v j h m false g = taken_same j m (numbers_in f ++ numbers_in t) (only (eqb j m) g) (mine j (any_more (is_val v j) (has_number j) (number_of_val v j) f h))

    int_out : (v : List ℕ) (j : ℕ) (w : List ℕ) (n : ℕ) → stands_in w n t ≡ false → (bytes_eq v w && eqb j n) ≡ false → (b : Bool) → stands_in w n (found_or (cond b (Some t) None) (leaf (int_name v j))) ≡ false
    int_out v j w n out diff true = out
    int_out v j w n out diff false = or_false (bytes_eq v w && eqb j n) false diff refl

    val_out : (v : List ℕ) (j : ℕ) (w : List ℕ) (n : ℕ) → stands_in w n t ≡ false → (b : Bool) → stands_in w n (found_or (cond b (Some t) None) (leaf (val_name v j))) ≡ false
    val_out v j w n out true = out
    val_out v j w n out false = refl

pub substituted_kept : (f x t : Term) (names : Names) → IsSorted f → HasSort t (sort_in x) → Agree (sort_in f) (sense names (substituted f x t)) (sense (under ((x, t) ∷ []) names) f)
substituted_kept f x t names sorted has = put_kept t f sorted ((x, t) ∷ []) (numbers_in f ++ numbers_in t) (has, tt) (first_fair f x t) names
