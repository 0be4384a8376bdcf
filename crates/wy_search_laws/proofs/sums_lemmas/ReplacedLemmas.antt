-- A node is closable where elimination refutes the forms of its literals, each variable replaced by the first of its class.
use Rattle.std.proofs.Common.{◌≡◌, ◌⊎◌, ◌∙◌, ◌+◌, ◌*◌, ◌<◌, ◌≤◌, ◌&&◌, ◌||◌, ◌^◌, ℕ, zero, suc, List, [], ◌∷◌, ◌++◌, map, length, Bool, true, false, cond, eqb, ℤ, pos, negsuc, Option, Some, None, inl, inr, refl, sym, ap, subst, arith}
use Rattle.std.specs.Prelude.{nat_lt, int_lt, unsigned_abs, ◌==◌}
use Rattle.std.specs.Ordering.{int_eq}
use Rattle.std.proofs.lemmas.Bool.{eqb-true, eq-eqb, lt-ltb}
use Rattle.wy_search_bounds.proofs.wy_lin_eliminate_proofs.TurnLemmas.{ArePlain}
use Rattle.wy_lemmas.proofs.Choices.{true_false as apart_ways, large_one, both_parts as both_of, first_false, both_true as still}
use Rattle.wy_lemmas.proofs.Numbers.{once_above, twice_above}
use Rattle.wy_search_bounds.specs.wy_term.Term.{Term, two, at_most, equal}
use Rattle.wy_search_bounds.specs.wy_term.Same.{same_term}
use Rattle.wy_search_bounds.specs.wy_term.Sorts.{Sort, int_sort, val_sort, formula_sort, sort_in}
use Rattle.wy_search_bounds.specs.wy_term.Condition.{Entry}
use Rattle.wy_search_bounds.proofs.wy_term_proofs.SameLemmas.{terms_are, terms_self}
use Rattle.wy_search_bounds.specs.wy_lin.Linear.{◌>>=◌, Linear, nothing, variable_form}
use Rattle.wy_search_bounds.specs.wy_lin.TermForm.{form_of, difference, form_of_literal}
use Rattle.wy_search_bounds.specs.wy_lin.Combination.{combined}
use Rattle.wy_search_bounds.specs.wy_lin.Seen.{seen, seen_part}
use Rattle.wy_search_bounds.proofs.wy_lin_proofs.SeenLemmas.{NamesOnce}
use Rattle.wy_search_bounds.specs.wy_check_spec.judge.Node.{Literal, Node, has_literal}
use Rattle.wy_search_bounds.specs.wy_check_spec.valid.Literals.{has_atom, are_between, joined_by, are_joined, formula_of}
use Rattle.wy_search_bounds.specs.wy_lin_eliminate.Division.{common, lowered}
use Rattle.wy_search_bounds.specs.wy_lin_eliminate.Validity.{are_named, divides}
use Rattle.wy_search_bounds.specs.wy_lin_eliminate.declared.steps.Elim.{Elim}
use Rattle.wy_search_bounds.specs.wy_lin_eliminate.declared.steps.Elim.TheVariants as outcome
use Rattle.wy_search_bounds.specs.wy_lin_eliminate.Elimination.{elimination}
use Rattle.wy_search_bounds.proofs.wy_lin_eliminate_proofs.ValidityLemmas.{common-divides, common-bare}
use Rattle.wy_search_bounds.specs.wy_search_spec.Standing.{standing_in, in_literals, standing, present}
use Rattle.wy_search_bounds.specs.wy_search_spec.Classes.{place_from, classes}
use Rattle.wy_search_bounds.specs.wy_search_spec.Bounds.{number_or_end, numbered_part, numbered, first_of_class, order_form, taking_away, takings, named_from, all_fit, stated_sum, Replaced, gone, given, refutes, leaves, by_two, by_common, by_sum, replaced_by, replaced, with_form, replaced_forms, is_refuting, is_leaving, any_so, forms_in, Ending, refuted, consistent, crowded, wide, ending_of, ending_by, ending}
use Rattle.wy_search_bounds.proofs.wy_search_spec_proofs.least_lemmas.PlaceLemmas.{place_below, place_same}
use Rattle.wy_search_bounds.proofs.wy_check_laws_proofs.sound_lemmas.Basics.{or_cases}
use Rattle.wy_search_bounds.proofs.wy_check_laws_proofs.sound_lemmas.MadeLemmas.{IsFormula}
use Rattle.wy_search_bounds.proofs.wy_check_laws_proofs.sound_lemmas.NodeLemmas.{AreSortedLiterals, IsSortedNode}
use Rattle.wy_search_laws.proofs.sound_lemmas.PlacedLemmas.{AreAmong, AreOnes, literals_among, literal_ones, one_literal, has_a_place}
use Rattle.wy_search_laws.specs.chains.Chains.{HasLiterals}
use Rattle.wy_search_laws.proofs.chains_lemmas.LiteralLemmas.{has_self, has_more, has_first, has_later}
use Rattle.wy_search_laws.proofs.chains_lemmas.LinkLemmas.{AreLinked}
use Rattle.wy_search_laws.proofs.chains_lemmas.ChainLemmas.{Steps}
use Rattle.wy_search_laws.proofs.chains_lemmas.ClassLemmas.{literal_formula, one_class}
use Rattle.wy_search_laws.proofs.sums_lemmas.TwiceLemmas.{AreDoubled, doubled_bare, doubled_even}
use Rattle.wy_search_laws.proofs.sums_lemmas.TidyLemmas.{Absent, AreTidy, IsTidy, nothing_tidy, tidy_combined, tidy_plain, tidy_lowered}
use Rattle.wy_search_laws.proofs.sums_lemmas.CutLemmas.{IsVariable, IsGood, AreGood}
use Rattle.wy_search_laws.proofs.sums_lemmas.VariableLemmas.{is_variable, variable_is, AreVariables, literal_made}
use Rattle.wy_search_laws.proofs.sums_lemmas.RefutingLemmas.{Rules, common_not_bare}
use Rattle.wy_search_laws.proofs.sums_lemmas.PresentLemmas.{at, present_distinct, places_once, at_place, among_place, length_classes, first_is, same_kinds, ArePlaced, seen_numbered, one_place}
use Rattle.wy_search_laws.proofs.sums_lemmas.ClosedLemmas.{HasForm, HaveForms, form_more, last_of_forms, closing_rules, refuted_closes}

pub second_false : (a b : Bool) → (a || b) ≡ false → b ≡ false
second_false true b e = absurd cc
second_false false b e = e

abbrev pub form_of_parts : List (ℤ × Term) → ℤ → Linear Term
form_of_parts ps c = record { parts = ps; constant = c }

-- ---- bounds between two variables

order_difference : (s t : Term) → same_term t s ≡ false → difference (variable_form s) (variable_form t) ≡ Some (record { parts = (negsuc 0, s) ∷ (pos 1, t) ∷ []; constant = pos 0 })
order_difference s t apart = rw (apart, terms_self s) refl

pub bound_form : (s t : Term) → IsVariable s → IsVariable t → same_term t s ≡ false → form_of_literal (two at_most s t) ≡ Some (record { parts = (negsuc 0, s) ∷ (pos 1, t) ∷ []; constant = pos 0 })
bound_form s t is it apart =
    ap (λ (o : Option (Linear Term)). o >>= λ (f : Linear Term). form_of t >>= λ (g : Linear Term). difference f g) is.form
    ∙ (ap (λ (o : Option (Linear Term)). o >>= λ (g : Linear Term). difference (variable_form s) g) it.form ∙ order_difference s t apart)

pub joined_between : (ls : List Literal) (s t : Term) (a b : Sort) → a ≡ int_sort → joined_by a b ls s t ≡ true → are_between ls s t ≡ true
joined_between ls s t int_sort int_sort e j = j
joined_between ls s t int_sort val_sort e j = absurd cc
joined_between ls s t int_sort formula_sort e j = absurd cc
joined_between ls s t val_sort b e j = absurd cc
joined_between ls s t formula_sort b e j = absurd cc

-- ---- multipliers

-- each multiplier is at least 1
abbrev ArePositive : List (ℕ × Linear ℕ) → Type 0
ArePositive [] = Unit {0}
ArePositive (t ∷ ts) = (0 < t.0) × ArePositive ts

pub abs_some : (c : ℤ) → int_eq c (pos 0) ≡ false → 0 < unsigned_abs c
abs_some (pos zero) e = absurd cc
abs_some (pos (suc n)) e = omega arith
abs_some (negsuc n) e = omega arith

takings_positive : (labels : List ℕ) (ps : List (ℤ × ℕ)) → ArePositive (takings labels ps)
takings_positive labels [] = tt
takings_positive labels (p ∷ ps) = by (int_eq p.0 (pos 0) || (first_of_class labels p.1 == p.1)) refl (takings_positive labels ps)
  where
    by : (b : Bool) → (int_eq p.0 (pos 0) || (first_of_class labels p.1 == p.1)) ≡ b → ArePositive (takings labels ps) → ArePositive (cond b (takings labels ps) (taking_away p.0 p.1 (first_of_class labels p.1) ∷ takings labels ps))
    by true e rest = rest
    by false e rest = (abs_some p.0 (first_false (int_eq p.0 (pos 0)) (first_of_class labels p.1 == p.1) e), rest)

abbrev pub taken : List (ℕ × Linear ℕ) → List (Linear ℕ)
taken ts = map (λ (u : ℕ × Linear ℕ). u.1) ts

length_taken : (ts : List (ℕ × Linear ℕ)) → length (taken ts) ≡ length ts
length_taken [] = refl
length_taken (t ∷ ts) = ap suc (length_taken ts)

named_taken : (k n : ℕ) (ts : List (ℕ × Linear ℕ)) (i : ℕ) → ((x : ℕ) → 0 < x → 0 < k * x) → ArePositive ts → i + length ts ≤ n → are_named n (named_from k ts i) ≡ true
named_taken k n [] i above h le = refl
named_taken k n (t ∷ ts) i above h le =
    still (nat_lt 0 (k * t.0) && nat_lt i n) (are_named n (named_from k ts (suc i)))
    (still (nat_lt 0 (k * t.0)) (nat_lt i n) (lt-ltb 0 (k * t.0) (above t.0 h.0)) (lt-ltb i n (omega (arith, le))))
    (named_taken k n ts (suc i) above h.1 (omega (arith, le)))

named_all : (k : ℕ) (f : Linear ℕ) (ts : List (ℕ × Linear ℕ)) → 0 < k → ((x : ℕ) → 0 < x → 0 < k * x) → ArePositive ts → are_named (length (f ∷ taken ts)) ((k, 0) ∷ named_from k ts 1) ≡ true
named_all k f ts lt above h =
    let long = length_taken ts in
    still (nat_lt 0 k && nat_lt 0 (length (f ∷ taken ts))) (are_named (length (f ∷ taken ts)) (named_from k ts 1))
    (still (nat_lt 0 k) (nat_lt 0 (length (f ∷ taken ts))) (lt-ltb 0 k lt) (lt-ltb 0 (length (f ∷ taken ts)) (omega arith)))
    (named_taken k (length (f ∷ taken ts)) ts 1 above h (omega (arith, long)))

twice_one : (x : ℕ) → 2 * x ≡ 2 * (1 * x)
twice_one x = omega arith

doubled_from : (ts : List (ℕ × Linear ℕ)) (i : ℕ) → AreDoubled (named_from 1 ts i) (named_from 2 ts i)
doubled_from [] i = tt
doubled_from (t ∷ ts) i = (twice_one t.0, refl, doubled_from ts (suc i))

pub doubled_all : (ts : List (ℕ × Linear ℕ)) → AreDoubled ((1, 0) ∷ named_from 1 ts 1) ((2, 0) ∷ named_from 2 ts 1)
doubled_all ts = (refl, refl, doubled_from ts 1)

pub stated_is : (forms : List (Linear ℕ)) (ms : List (ℕ × ℕ)) (f : Linear ℕ) → stated_sum forms ms ≡ Some f → combined forms ms ≡ Some f
stated_is forms ms f e = by (all_fit ms) e
  where
    by : (b : Bool) → cond b (combined forms ms) None ≡ Some f → combined forms ms ≡ Some f
    by true g = g
    by false g = absurd cc

module _ (types : List Entry) (Closable : Node → Type 0) (steps : Steps types Closable) (base : Node) (sorted : IsSortedNode base) where
  abbrev terms : List Term
  terms = present base

  abbrev labels : List ℕ
  labels = classes (present base) base.literals

  pub once : NamesOnce (at (present base)) (length (present base))
  once = places_once (present base) (present_distinct base)

  abbrev Has : Node → Linear ℕ → Type 0
  Has node f = HasForm (at terms) (length terms) once node f

  abbrev Have : Node → List (Linear ℕ) → Type 0
  Have node fs = HaveForms (at terms) (length terms) once node fs

  -- a number of an Int term that is a variable
  pub record IsFine (k : ℕ) : Type 0 where
    pub below : k < length (present base)
    pub variable : is_variable (at (present base) k) ≡ true
    pub int : sort_in (at (present base) k) ≡ int_sort

  abbrev pub AreFine : List (ℤ × ℕ) → Type 0
  AreFine [] = Unit {0}
  AreFine (p ∷ ps) = IsFine p.1 × AreFine ps

  good_of : (k : ℕ) → IsFine k → IsGood (at terms) (length terms) once k
  good_of k h = record { below = h.below; variable = variable_is (at terms k) h.variable }

  fine_good : (ps : List (ℤ × ℕ)) → AreFine ps → AreGood (at terms) (length terms) once ps
  fine_good [] h = tt
  fine_good (p ∷ ps) h = (good_of p.1 h.0, fine_good ps h.1)

  -- ---- chains to the first of a class

  pub vals : (v w : Term) → has_literal base.literals (record { atom = two equal v w; holds = true }) ≡ true → (sort_in v ≡ val_sort) × (sort_in w ≡ val_sort)
  vals v w e = let is = literal_formula base.literals (record { atom = two equal v w; holds = true }) sorted.literals e in (is.0.0, is.0.2.0)

  -- two different variables, each at most the other
  both_bounds : (node : Node) (v w : ℕ) → IsGood (at terms) (length terms) once v → IsGood (at terms) (length terms) once w → same_term (at terms v) (at terms w) ≡ false → same_term (at terms w) (at terms v) ≡ false → are_between node.literals (at terms v) (at terms w) ≡ true → Has node (order_form v w) × Has node (order_form w v)
  both_bounds node v w good_v good_w apart turned e =
      let h = both_of (has_atom node.literals (two at_most (at terms v) (at terms w))) (has_atom node.literals (two at_most (at terms w) (at terms v))) e in (
        record {
          literal = record { atom = two at_most (at terms v) (at terms w); holds = true };
          there = h.0;
          form = bound_form (at terms v) (at terms w) good_v.variable good_w.variable turned;
          good = (good_v, (good_w, tt));
        },
        record {
          literal = record { atom = two at_most (at terms w) (at terms v); holds = true };
          there = h.1;
          form = bound_form (at terms w) (at terms v) good_w.variable good_v.variable apart;
          good = (good_w, (good_v, tt));
        },
      )

  pub not_same : (v w : ℕ) → v < length terms → w < length terms → eqb w v ≡ false → same_term (at terms v) (at terms w) ≡ false
  not_same v w lv lw e = by (same_term (at terms v) (at terms w)) refl
    where
      by : (b : Bool) → same_term (at terms v) (at terms w) ≡ b → b ≡ false
      by true f = absurd (apart_ways (eqb w v) (eq-eqb w v (one_place terms (present_distinct base) w v lw lv (sym (terms_are (at terms v) (at terms w) f)))) e)
      by false f = refl

  pub eqb_back : (v w : ℕ) → eqb w v ≡ false → eqb v w ≡ false
  eqb_back v w e = by (eqb v w) refl
    where
      by : (b : Bool) → eqb v w ≡ b → b ≡ false
      by true f = absurd (apart_ways (eqb w v) (eq-eqb w v (sym (eqb-true v w f))) e)
      by false f = refl

  -- chains lead to nodes in which a variable and the first of its class are at most each other
  to_first : (node : Node) → HasLiterals base node → (v : ℕ) → IsFine v → eqb (first_of_class labels v) v ≡ false → ((next : Node) → HasLiterals node next → Has next (order_form v (first_of_class labels v)) × Has next (order_form (first_of_class labels v) v) → Closable next) → Closable node
  to_first node more v fine apart goes =
      let w = first_of_class labels v in
      let c = first_is terms labels v (present_distinct base) (length_classes terms base.literals) fine.below in
      let kinds = same_kinds terms base.literals vals (at terms v) (at terms w) (among_place terms v fine.below) c.one in
      let good_v = good_of v fine in
      let good_w : IsGood (at terms) (length terms) once w = record { below = c.below; variable = variable_is (at terms w) (sym kinds.variable ∙ fine.variable) } in
      let one = not_same v w fine.below c.below apart in
      let other = not_same w v c.below fine.below (eqb_back v w apart) in
      one_class types Closable steps base sorted (at terms v) (at terms w) c.one node more
      (λ next on link. linked next on w good_v good_w one other link goes)
    where
      linked : (next : Node) → HasLiterals node next → (w : ℕ) → IsGood (at terms) (length terms) once v → IsGood (at terms) (length terms) once w → same_term (at terms v) (at terms w) ≡ false → same_term (at terms w) (at terms v) ≡ false → AreLinked next (at terms v) (at terms w) → ((next : Node) → HasLiterals node next → Has next (order_form v w) × Has next (order_form w v) → Closable next) → Closable next
      linked next on w good_v good_w one other (inl e) go = absurd (apart_ways (same_term (at terms v) (at terms w)) (ap (λ (x : Term). same_term (at terms v) x) (sym e) ∙ terms_self (at terms v)) one)
      linked next on w good_v good_w one other (inr e) go = go next on (both_bounds next v w good_v good_w one other (joined_between next.literals (at terms v) (at terms w) (sort_in (at terms v)) (sort_in (at terms w)) fine.int e))

  -- what takes a variable away
  has_taking : (node : Node) (c : ℤ) (v w : ℕ) → Has node (order_form v w) × Has node (order_form w v) → Has node (taking_away c v w).1
  has_taking node c v w h = by (int_lt c (pos 0))
    where
      by : (b : Bool) → Has node (cond b (order_form w v) (order_form v w))
      by true = h.1
      by false = h.0

  all_taken : (ps : List (ℤ × ℕ)) → AreFine ps → (node : Node) → HasLiterals base node → ((next : Node) → HasLiterals node next → Have next (taken (takings labels ps)) → Closable next) → Closable node
  all_taken [] fine node more goes = goes node (has_self node) tt
  all_taken (p ∷ ps) fine node more goes = by (λ next on go. all_taken ps fine.1 next on go) (int_eq p.0 (pos 0) || (first_of_class labels p.1 == p.1)) refl goes
    where
      by : ((next : Node) → HasLiterals base next → ((last : Node) → HasLiterals next last → Have last (taken (takings labels ps)) → Closable last) → Closable next) → (b : Bool) → (int_eq p.0 (pos 0) || (first_of_class labels p.1 == p.1)) ≡ b → ((next : Node) → HasLiterals node next → Have next (taken (cond b (takings labels ps) (taking_away p.0 p.1 (first_of_class labels p.1) ∷ takings labels ps))) → Closable next) → Closable node
      by rest true e go = rest node more go
      by rest false e go =
          to_first node more p.1 fine.0 (second_false (int_eq p.0 (pos 0)) (first_of_class labels p.1 == p.1) e)
          (λ next on bounds.
          rest next (has_more base node next more on)
          (λ last beyond have.
          go last (has_more node next last on beyond)
          (form_more (at terms) (length terms) once next last (taking_away p.0 p.1 (first_of_class labels p.1)).1 beyond (has_taking next p.0 p.1 (first_of_class labels p.1) bounds), have)))

  -- ---- a form, its variables replaced

  -- what is given may be taken for a form of a literal, and what refutes closes the node
  abbrev Handled : Node → Replaced → Type 0
  Handled node gone = Unit {0}
  Handled node (given f) = (((next : Node) → HasLiterals node next → Has next f → Closable next) → Closable node) × IsTidy f
  Handled node refutes = Closable node
  Handled node leaves = Unit {0}

  module _ (node : Node) (f : Linear ℕ) (has : Has node f) (tidy : IsTidy f) where
    module _ (ts : List (ℕ × Linear ℕ)) (positive : ArePositive ts) (reach : ((next : Node) → HasLiterals node next → Have next (f ∷ taken ts) → Closable next) → Closable node) where
      two_handled : (g : Linear ℕ) (o : Option (Linear ℕ)) → combined (f ∷ taken ts) ((1, 0) ∷ named_from 1 ts 1) ≡ Some g → (common g.parts == 0) ≡ false → stated_sum (f ∷ taken ts) ((2, 0) ∷ named_from 2 ts 1) ≡ o → Handled node (by_two o)
      two_handled g None is some e = tt
      two_handled g (Some h) is some e =
          let twice = stated_is (f ∷ taken ts) ((2, 0) ∷ named_from 2 ts 1) h e in
          let free = doubled_bare (f ∷ taken ts) ((1, 0) ∷ named_from 1 ts 1) ((2, 0) ∷ named_from 2 ts 1) g h (doubled_all ts) is twice (common_not_bare g.parts some) in
          let rules = closing_rules (at terms) (length terms) once types Closable steps node in (
            λ goes. reach (rules.by_cut (f ∷ taken ts) 2 ((2, 0) ∷ named_from 2 ts 1) h refl (named_all 2 f ts (omega arith) twice_above positive) twice (doubled_even (f ∷ taken ts) ((1, 0) ∷ named_from 1 ts 1) ((2, 0) ∷ named_from 2 ts 1) g h (doubled_all ts) is twice) free
                (λ next on have. goes next on (last_of_forms (at terms) (length terms) once next (f ∷ taken ts) (lowered 2 h) have))),
            tidy_lowered 2 h (tidy_combined (f ∷ taken ts) nothing ((2, 0) ∷ named_from 2 ts 1) h nothing_tidy twice),
          )

      common_handled : (g : Linear ℕ) → combined (f ∷ taken ts) ((1, 0) ∷ named_from 1 ts 1) ≡ Some g → Handled node (by_common (stated_sum (f ∷ taken ts) ((2, 0) ∷ named_from 2 ts 1)) g (common g.parts))
      common_handled g is = by (common g.parts == 0) (int_lt g.constant (pos 0)) (common g.parts == 1) refl refl refl
        where
          named : are_named (length (f ∷ taken ts)) ((1, 0) ∷ named_from 1 ts 1) ≡ true
          named = named_all 1 f ts (omega arith) once_above positive

          by : (a b c : Bool) → (common g.parts == 0) ≡ a → int_lt g.constant (pos 0) ≡ b → (common g.parts == 1) ≡ c → Handled node (cond a (cond b refutes gone) (cond c (by_two (stated_sum (f ∷ taken ts) ((2, 0) ∷ named_from 2 ts 1))) (given (lowered (common g.parts) g))))
          by true true c none negative one =
              let rules = closing_rules (at terms) (length terms) once types Closable steps node in
              reach (rules.by_sum (f ∷ taken ts) ((1, 0) ∷ named_from 1 ts 1) g named is (common-bare g.parts (eqb-true (common g.parts) 0 none)) negative)
          by true false c none negative one = tt
          by false b true none negative one = two_handled g (stated_sum (f ∷ taken ts) ((2, 0) ∷ named_from 2 ts 1)) is none refl
          by false b false none negative one =
              let rules = closing_rules (at terms) (length terms) once types Closable steps node in (
                λ goes. reach (rules.by_cut (f ∷ taken ts) (common g.parts) ((1, 0) ∷ named_from 1 ts 1) g (large_one (common g.parts) none one) named is (common-divides g.parts) (common_not_bare g.parts none)
                    (λ next on have. goes next on (last_of_forms (at terms) (length terms) once next (f ∷ taken ts) (lowered (common g.parts) g) have))),
                tidy_lowered (common g.parts) g (tidy_combined (f ∷ taken ts) nothing ((1, 0) ∷ named_from 1 ts 1) g nothing_tidy is),
              )

      sum_handled : (o : Option (Linear ℕ)) → stated_sum (f ∷ taken ts) ((1, 0) ∷ named_from 1 ts 1) ≡ o → Handled node (by_sum (stated_sum (f ∷ taken ts) ((2, 0) ∷ named_from 2 ts 1)) o)
      sum_handled None e = tt
      sum_handled (Some g) e = common_handled g (stated_is (f ∷ taken ts) ((1, 0) ∷ named_from 1 ts 1) g e)

    handled_by : (ts : List (ℕ × Linear ℕ)) → ArePositive ts → (((next : Node) → HasLiterals node next → Have next (f ∷ taken ts) → Closable next) → Closable node) → Handled node (replaced_by f ts)
    handled_by [] positive reach = (λ goes. goes node (has_self node) has, tidy)
    handled_by (t ∷ ts) positive reach = sum_handled (t ∷ ts) positive reach (stated_sum (f ∷ taken (t ∷ ts)) ((1, 0) ∷ named_from 1 (t ∷ ts) 1)) refl

    handled : HasLiterals base node → AreFine f.parts → Handled node (replaced labels f)
    handled more fine =
        handled_by (takings labels f.parts) (takings_positive labels f.parts)
        (λ goes. all_taken f.parts fine node more (λ next on have. goes next on (form_more (at terms) (length terms) once node next f on has, have)))

  -- ---- forms of literals

  fine_at : (t : Term) (i : ℕ) → place_from (present base) t 0 ≡ Some i → is_variable t ≡ true → sort_in t ≡ int_sort → IsFine i
  fine_at t i e variable int =
      let one = at_place (present base) t i e in
      record {
        below = place_below (present base) t i e;
        variable = ap is_variable one ∙ variable;
        int = ap sort_in one ∙ int;
      }

  pub fine_numbered : (ps : List (ℤ × Term)) → AreOnes (standing base) ps → AreVariables ps → AreFine (map (numbered_part (present base)) ps)
  fine_numbered [] ones variables = tt
  fine_numbered (p ∷ ps) ones variables =
      let has = has_a_place base p.1 ones.0 in (
        subst (λ (o : Option ℕ). IsFine (number_or_end o)) (sym has.1) (fine_at p.1 has.0 has.1 variables.0 ones.0.0.1),
        fine_numbered ps ones.1 variables.1,
      )

  pub all_placed : (ps : List (ℤ × Term)) → AreOnes (standing base) ps → ArePlaced (present base) ps
  all_placed [] ones = tt
  all_placed (p ∷ ps) ones = (has_a_place base p.1 ones.0, all_placed ps ones.1)

  numbers_apart : (s t : Term) (i j : ℕ) → place_from (present base) s 0 ≡ Some i → place_from (present base) t 0 ≡ Some j → same_term s t ≡ false → eqb i j ≡ false
  numbers_apart s t i j e f apart = by (eqb i j) refl
    where
      by : (b : Bool) → eqb i j ≡ b → b ≡ false
      by true g =
          let one : place_from (present base) t 0 ≡ Some i = f ∙ ap (λ (k : ℕ). Some k) (sym (eqb-true i j g)) in
          absurd (apart_ways (same_term s t) (ap (λ (x : Term). same_term s x) (sym (place_same (present base) s t i e one)) ∙ terms_self s) apart)
      by false g = refl

  absent_numbered : (s : Term) (i : ℕ) → place_from (present base) s 0 ≡ Some i → (ps : List (ℤ × Term)) → AreOnes (standing base) ps → Absent same_term s ps → Absent eqb i (map (numbered_part (present base)) ps)
  absent_numbered s i e [] ones h = tt
  absent_numbered s i e (p ∷ ps) ones h =
      let has = has_a_place base p.1 ones.0 in (
        subst (λ (o : Option ℕ). eqb i (number_or_end o) ≡ false) (sym has.1) (numbers_apart s p.1 i has.0 e has.1 h.0),
        absent_numbered s i e ps ones.1 h.1,
      )

  tidy_numbered : (ps : List (ℤ × Term)) → AreOnes (standing base) ps → AreTidy same_term ps → AreTidy eqb (map (numbered_part (present base)) ps)
  tidy_numbered [] ones h = tt
  tidy_numbered (p ∷ ps) ones h =
      let has = has_a_place base p.1 ones.0 in (
        h.0,
        subst (λ (o : Option ℕ). Absent eqb (number_or_end o) (map (numbered_part (present base)) ps)) (sym has.1) (absent_numbered p.1 has.0 has.1 ps ones.1 h.1),
        tidy_numbered ps ones.1 h.2,
      )

  form_handled : (l : Literal) → has_literal base.literals l ≡ true → IsFormula l.atom → AreAmong (standing base) (standing_in l.atom) → (whole : Linear Term) → form_of_literal (formula_of l) ≡ Some whole → (node : Node) → HasLiterals base node → Handled node (replaced labels (numbered (present base) whole))
  form_handled l here is among whole e node more =
      let ones = literal_ones (standing base) l whole is among e in
      let made = literal_made l whole e in
      let fine = fine_numbered whole.parts ones made.variables in
      let f = numbered (present base) whole in
      let back : whole ≡ seen (at terms) f = sym (ap (λ (ps : List (ℤ × Term)). form_of_parts ps whole.constant) (seen_numbered (present base) whole.parts (all_placed whole.parts ones))) in
      let has : Has node f = record { literal = l; there = more.has l here; form = e ∙ ap (λ (g : Linear Term). Some g) back; good = fine_good f.parts fine } in
      handled node f has (record { parts = tidy_numbered whole.parts ones made.tidy.parts; constant = made.tidy.constant }) more fine

  -- ---- all forms

  abbrev pub AreHandled : List Replaced → Type 0
  AreHandled [] = Unit {0}
  AreHandled (r ∷ rs) = ((node : Node) → HasLiterals base node → Handled node r) × AreHandled rs

  -- each of these is a literal of the node
  abbrev pub AreThere : List Literal → Type 0
  AreThere [] = Unit {0}
  AreThere (l ∷ ls) = (has_literal base.literals l ≡ true) × AreThere ls

  with_form_handled : (l : Literal) (rest : List Replaced) (o : Option (Linear Term)) → form_of_literal (formula_of l) ≡ o → has_literal base.literals l ≡ true → IsFormula l.atom → AreAmong (standing base) (standing_in l.atom) → AreHandled rest → AreHandled (with_form (present base) labels rest o)
  with_form_handled l rest None e here is among h = h
  with_form_handled l rest (Some whole) e here is among h = (form_handled l here is among whole e, h)

  pub forms_handled : (ls : List Literal) → AreThere ls → AreSortedLiterals ls → AreAmong (standing base) (in_literals ls) → AreHandled (replaced_forms (present base) labels ls)
  forms_handled [] there are among = tt
  forms_handled (l ∷ ls) there are among =
      let apart = one_literal (standing base) l ls among in
      with_form_handled l (replaced_forms (present base) labels ls) (form_of_literal (formula_of l)) refl there.0 are.0 apart.0 (forms_handled ls there.1 are.1 apart.1)

  one_refutes : (node : Node) → HasLiterals base node → (rs : List Replaced) → AreHandled rs → any_so is_refuting rs ≡ true → Closable node
  one_refutes node more [] h e = absurd cc
  one_refutes node more (gone ∷ rs) h e = one_refutes node more rs h.1 e
  one_refutes node more (given f ∷ rs) h e = one_refutes node more rs h.1 e
  one_refutes node more (refutes ∷ rs) h e = h.0 node more
  one_refutes node more (leaves ∷ rs) h e = one_refutes node more rs h.1 e

  pub all_plain : (rs : List Replaced) → AreHandled rs → ArePlain (forms_in rs)
  all_plain [] h = tt
  all_plain (gone ∷ rs) h = all_plain rs h.1
  all_plain (given f ∷ rs) h = (tidy_plain f (h.0 base (has_self base)).1, all_plain rs h.1)
  all_plain (refutes ∷ rs) h = all_plain rs h.1
  all_plain (leaves ∷ rs) h = all_plain rs h.1

  all_given : (rs : List Replaced) → AreHandled rs → (node : Node) → HasLiterals base node → ((next : Node) → HasLiterals node next → Have next (forms_in rs) → Closable next) → Closable node
  all_given [] h node more goes = goes node (has_self node) tt
  all_given (gone ∷ rs) h node more goes = all_given rs h.1 node more goes
  all_given (given f ∷ rs) h node more goes =
      (h.0 node more).0
      (λ next on has.
      all_given rs h.1 next (has_more base node next more on)
      (λ last beyond have. goes last (has_more node next last on beyond) (form_more (at terms) (length terms) once next last f beyond has, have)))
  all_given (refutes ∷ rs) h node more goes = all_given rs h.1 node more goes
  all_given (leaves ∷ rs) h node more goes = all_given rs h.1 node more goes

  end_closes : (rs : List Replaced) (e : Elim) → AreHandled rs → elimination (forms_in rs) ≡ e → ending_of e ≡ refuted → (node : Node) → HasLiterals base node → Closable node
  end_closes rs (outcome.Refuted list) h is g node more = all_given rs h node more (λ next on have. refuted_closes (at terms) (length terms) once types Closable steps next (forms_in rs) (all_plain rs h) list is have)
  end_closes rs outcome.Consistent h is g node more = absurd cc
  end_closes rs outcome.Crowded h is g node more = absurd cc
  end_closes rs outcome.Wide h is g node more = absurd cc

  ending_closes : (rs : List Replaced) → AreHandled rs → ending_by rs ≡ refuted → (node : Node) → HasLiterals base node → Closable node
  ending_closes rs h e node more = by (any_so is_refuting rs) (any_so is_leaving rs) refl e
    where
      by : (b c : Bool) → any_so is_refuting rs ≡ b → cond b refuted (cond c wide (ending_of (elimination (forms_in rs)))) ≡ refuted → Closable node
      by true c is g = one_refutes node more rs h is
      by false true is g = absurd cc
      by false false is g = end_closes rs (elimination (forms_in rs)) h refl g node more

  pub all_there : (ls : List Literal) → ((l : Literal) → has_literal ls l ≡ true → has_literal base.literals l ≡ true) → AreThere ls
  all_there [] h = tt
  all_there (l ∷ ls) h = (h l (has_first l ls), all_there ls (λ k e. h k (has_later l k ls e)))

  -- a node that has the literals of one that elimination refutes is closable
  pub refuted_closable : ending base ≡ refuted → (node : Node) → HasLiterals base node → Closable node
  refuted_closable e node more =
      ending_closes (replaced_forms (present base) labels base.literals)
      (forms_handled base.literals (all_there base.literals (λ l here. here)) sorted.literals (literals_among base))
      e node more
