-- A node that has literals of forms is closable where elimination refutes the forms.
use Rattle.std.proofs.Common.{◌≡◌, ◌∙◌, ◌<◌, ◌&&◌, ℕ, zero, suc, List, [], ◌∷◌, ◌++◌, map, length, Bool, true, false, cond, eqb, ℤ, pos, Option, Some, None, refl, sym, ap, subst, arith}
use Rattle.std.specs.Prelude.{nat_lt, int_lt, unsigned_abs, ◌==◌}
use Rattle.std.specs.Ordering.{int_eq}
use Rattle.std.proofs.lemmas.Bool.{eqb-true, ltb-true}
use Rattle.std.proofs.lemmas.Bool.Decides.{Decides-int_eq}
use Rattle.std.proofs.Math.Dec.{eqb-suc-zero}
use Rattle.wy_search_bounds.proofs.wy_lin_eliminate_proofs.TurnLemmas.{ArePlain}
use Rattle.wy_search_bounds.specs.wy_facts.Schema.{only_if, zero_term}
use Rattle.wy_lemmas.proofs.Choices.{both_parts as both_of, both_true as still}
use Rattle.wy_lemmas.proofs.Options.{some_same as some_is}
use Rattle.wy_search_bounds.specs.wy_term.Term.{Term, two, at_most}
use Rattle.wy_search_bounds.specs.wy_term.Condition.{Entry}
use Rattle.wy_search_bounds.specs.wy_lin.declared.arithmetic.Factor.{Factor}
use Rattle.wy_search_bounds.specs.wy_lin.declared.arithmetic.Factor.TheVariants.{Times}
use Rattle.wy_search_bounds.specs.wy_lin.Linear.{◌>>=◌, more, Linear, nothing, coefficient, with_coefficient, plus_part, plus_parts, plus}
use Rattle.wy_search_bounds.specs.wy_lin.TermForm.{with, form_of_literal}
use Rattle.wy_search_bounds.specs.wy_lin.Combination.{form_at, combined, combined_from}
use Rattle.wy_search_bounds.specs.wy_lin.Seen.{seen, seen_part}
use Rattle.wy_search_bounds.proofs.wy_lin_proofs.OptionLemmas.{bind_some}
use Rattle.wy_search_bounds.proofs.wy_lin_proofs.SeenLemmas.{NamesOnce, plus-seen}
use Rattle.wy_search_bounds.specs.wy_check_spec.judge.Node.{Literal, Node, has_literal, with_literal}
use Rattle.wy_search_bounds.specs.wy_cert.Steps.{sum_of, cut}
use Rattle.wy_search_bounds.specs.wy_check_spec.valid.Literals.{formula_of, literal_at}
use Rattle.wy_search_bounds.specs.wy_check_spec.valid.Sums as sums
use Rattle.wy_search_bounds.specs.wy_check_spec.valid.Sums.{plus_literal, summed_from, summed, all_zero, is_refuting, cut_of}
use Rattle.wy_search_bounds.specs.wy_check_spec.valid.Validity.{left_with_one, closed}
use Rattle.wy_search_bounds.specs.wy_lin_eliminate.declared.steps.Elim.TheVariants.{Refuted}
use Rattle.wy_search_bounds.specs.wy_lin_eliminate.declared.steps.Steps.{Steps as LinSteps}
use Rattle.wy_search_bounds.specs.wy_lin_eliminate.Division.{lowered}
use Rattle.wy_search_bounds.specs.wy_lin_eliminate.Elimination.{elimination}
use Rattle.wy_search_bounds.specs.wy_lin_eliminate.Validity.{are_named, divides, is_bare}
use Rattle.wy_search_laws.specs.chains.Chains.{HasLiterals}
use Rattle.wy_search_laws.proofs.chains_lemmas.LiteralLemmas.{has_self, has_more, literal_more, literal_there, numbered}
use Rattle.wy_search_laws.proofs.chains_lemmas.ChainLemmas.{Steps}
use Rattle.wy_search_laws.proofs.sums_lemmas.TwiceLemmas.{abs_zero}
use Rattle.wy_search_laws.proofs.sums_lemmas.TidyLemmas.{IsTidy, nothing_tidy, tidy_combined}
use Rattle.wy_search_laws.proofs.sums_lemmas.CutLemmas.{IsGood, AreGood, good_over, good_lowered, cut_is}
use Rattle.wy_search_laws.proofs.sums_lemmas.RefutingLemmas.{Rules, refuted_holds}

zero_is : (c : ℤ) → unsigned_abs c ≡ 0 → int_eq c (pos 0) ≡ true
zero_is c e = (Decides-int_eq c (pos 0)).1 (abs_zero c e)

above_zero : (m : ℕ) → nat_lt 0 m ≡ true → (m == 0) ≡ false
above_zero zero e = absurd cc
above_zero (suc m) e = eqb-suc-zero m

module _ (at : ℕ → Term) (n : ℕ) (once : NamesOnce at n) where
  -- ---- literals of forms

  -- the node has a literal with this form
  pub record HasForm (node : Node) (f : Linear ℕ) : Type 0 where
    pub literal : Literal
    pub there : has_literal node.literals literal ≡ true
    pub form : form_of_literal (formula_of literal) ≡ Some (seen at f)
    pub good : AreGood at n once f.parts

  abbrev pub HaveForms : Node → List (Linear ℕ) → Type 0
  HaveForms node [] = Unit {0}
  HaveForms node (f ∷ fs) = HasForm node f × HaveForms node fs

  pub form_more : (a b : Node) (f : Linear ℕ) → HasLiterals a b → HasForm a f → HasForm b f
  form_more a b f more h = record { literal = h.literal; there = more.has h.literal h.there; form = h.form; good = h.good }

  pub forms_more : (a b : Node) (fs : List (Linear ℕ)) → HasLiterals a b → HaveForms a fs → HaveForms b fs
  forms_more a b [] more h = tt
  forms_more a b (f ∷ fs) more h = (form_more a b f more h.0, forms_more a b fs more h.1)

  have_at : (node : Node) (all : List (Linear ℕ)) (i : ℕ) → HaveForms node all → i < length all → HasForm node (form_at all i)
  have_at node [] i h lt = absurd (omega (arith, lt))
  have_at node (f ∷ fs) zero h lt = h.0
  have_at node (f ∷ fs) (suc i) h lt = have_at node fs i h.1 (omega (arith, lt))

  pub have_last : (node : Node) (all : List (Linear ℕ)) (f : Linear ℕ) → HaveForms node all → HasForm node f → HaveForms node (all ++ f ∷ [])
  have_last node [] f h g = (g, tt)
  have_last node (k ∷ ks) f h g = (h.0, have_last node ks f h.1 g)

  pub last_of_forms : (node : Node) (all : List (Linear ℕ)) (f : Linear ℕ) → HaveForms node (all ++ f ∷ []) → HasForm node f
  last_of_forms node [] f h = h.0
  last_of_forms node (k ∷ ks) f h = last_of_forms node ks f h.1

  -- ---- variables of sums

  good_with : (ps : List (ℤ × ℕ)) (v : ℕ) (d : ℤ) → AreGood at n once ps → IsGood at n once v → AreGood at n once (with_coefficient eqb ps v d)
  good_with [] v d h g = (g, tt)
  good_with (p ∷ ps) v d h g = by (eqb v p.1) (good_with ps v d h.1 g)
    where
      by : (b : Bool) → AreGood at n once (with_coefficient eqb ps v d) → AreGood at n once (cond b ((d, p.1) ∷ ps) (p ∷ with_coefficient eqb ps v d))
      by true rest = (h.0, h.1)
      by false rest = (h.0, rest)

  good_part : (ps : List (ℤ × ℕ)) (m : Factor) (c : ℤ) (v : ℕ) (qs : List (ℤ × ℕ)) → AreGood at n once ps → IsGood at n once v → plus_part eqb ps m c v ≡ Some qs → AreGood at n once qs
  good_part ps m c v qs h g e =
      let a = bind_some (more (coefficient eqb ps v) m c) (λ d. Some (with_coefficient eqb ps v d)) qs e in
      subst (λ (rs : List (ℤ × ℕ)). AreGood at n once rs) (some_is (with_coefficient eqb ps v a.0) qs a.2) (good_with ps v a.0 h g)

  good_parts : (ps : List (ℤ × ℕ)) (m : Factor) (gs qs : List (ℤ × ℕ)) → AreGood at n once ps → AreGood at n once gs → plus_parts eqb ps m gs ≡ Some qs → AreGood at n once qs
  good_parts ps m [] qs h g e = subst (λ (rs : List (ℤ × ℕ)). AreGood at n once rs) (some_is ps qs e) h
  good_parts ps m (k ∷ ks) qs h g e =
      let a = bind_some (plus_part eqb ps m k.0 k.1) (λ rs. plus_parts eqb rs m ks) qs e in
      good_parts a.0 m ks qs (good_part ps m k.0 k.1 a.0 h g.0 a.1) g.1 a.2

  pub good_plus : (f : Linear ℕ) (m : Factor) (g h : Linear ℕ) → AreGood at n once f.parts → AreGood at n once g.parts → plus eqb f m g ≡ Some h → AreGood at n once h.parts
  good_plus f m g h is_f is_g e =
      let a = bind_some (plus_parts eqb f.parts m g.parts) (λ ps. more f.constant m g.constant >>= λ c. Some (record { parts = ps; constant = c })) h e in
      let b = bind_some (more f.constant m g.constant) (λ c. Some (record { parts = a.0; constant = c })) h a.2 in
      let made : Linear ℕ = record { parts = a.0; constant = b.0 } in
      subst (λ (x : Linear ℕ). AreGood at n once x.parts) (some_is made h b.2) (good_parts f.parts m g.parts a.0 is_f is_g a.1)

  -- ---- sums of literals' forms

  -- multiples of literals' forms give this form
  record IsSummed (node : Node) (f h : Linear ℕ) : Type 0 where
    pairs : List (ℕ × ℕ)
    is : summed_from node.literals (seen at f) pairs ≡ Some (seen at h)
    good : AreGood at n once h.parts

  form_numbered : (node : Node) (f : Linear ℕ) (h : HasForm node f) (i : ℕ) → literal_at node.literals i ≡ Some h.literal → sums.form_at node.literals i ≡ Some (seen at f)
  form_numbered node f h i e = ap (λ (o : Option Literal). o >>= λ (l : Literal). form_of_literal (formula_of l)) e ∙ h.form

  pub one_more : (node : Node) (f g h : Linear ℕ) (m i : ℕ) → nat_lt 0 m ≡ true → sums.form_at node.literals i ≡ Some (seen at g) → AreGood at n once f.parts → AreGood at n once g.parts → plus eqb f (Times m) g ≡ Some h → plus_literal node.literals (seen at f) m i ≡ Some (seen at h)
  one_more node f g h m i lt e is_f is_g gives =
      ap (λ (b : Bool). cond b None (sums.form_at node.literals i >>= λ (k : Linear Term). with (seen at f) (Times m) k)) (above_zero m lt)
      ∙ (ap (λ (o : Option (Linear Term)). o >>= λ (k : Linear Term). with (seen at f) (Times m) k) e
      ∙ (plus-seen at n once f (Times m) g (good_over at n once f.parts is_f) (good_over at n once g.parts is_g)
      ∙ ap (λ (o : Option (Linear ℕ)). o >>= λ (k : Linear ℕ). Some (seen at k)) gives))

  numbered_sum : (node : Node) (all : List (Linear ℕ)) (ms : List (ℕ × ℕ)) (f h : Linear ℕ) → HaveForms node all → AreGood at n once f.parts → are_named (length all) ms ≡ true → combined_from all f ms ≡ Some h → IsSummed node f h
  numbered_sum node all [] f h have good named gives = record {
    pairs = [];
    is = ap (λ (x : Linear ℕ). Some (seen at x)) (some_is f h gives);
    good = subst (λ (x : Linear ℕ). AreGood at n once x.parts) (some_is f h gives) good;
  }
  numbered_sum node all (m ∷ ms) f h have good named gives =
      let two_parts = both_of (nat_lt 0 m.0 && nat_lt m.1 (length all)) (are_named (length all) ms) named in
      let one = both_of (nat_lt 0 m.0) (nat_lt m.1 (length all)) two_parts.0 in
      let has = have_at node all m.1 have (ltb-true m.1 (length all) one.1) in
      let number = numbered node.literals has.literal has.there in
      let a = bind_some (plus eqb f (Times m.0) (form_at all m.1)) (λ (g : Linear ℕ). combined_from all g ms) h gives in
      let next = numbered_sum node all ms a.0 h have (good_plus f (Times m.0) (form_at all m.1) a.0 good has.good a.1) two_parts.1 a.2 in
      record {
        pairs = (m.0, number.number) ∷ next.pairs;
        is =
            ap (λ (o : Option (Linear Term)). o >>= λ (g : Linear Term). summed_from node.literals g next.pairs)
            (one_more node f (form_at all m.1) a.0 m.0 number.number one.0 (form_numbered node (form_at all m.1) has number.number number.is) good has.good a.1)
            ∙ next.is;
        good = next.good;
      }

  pub bare_zero : (ps : List (ℤ × ℕ)) → is_bare ps ≡ true → all_zero (map (seen_part at) ps) ≡ true
  bare_zero [] e = refl
  bare_zero (p ∷ ps) e =
      let h = both_of (unsigned_abs p.0 == 0) (is_bare ps) e in
      still (int_eq p.0 (pos 0)) (all_zero (map (seen_part at) ps)) (zero_is p.0 (eqb-true (unsigned_abs p.0) 0 h.0)) (bare_zero ps h.1)

  -- ---- closable nodes

  module _ (types : List Entry) (Closable : Node → Type 0) (steps : Steps types Closable) where
    -- wherever a node has the root's literals and these forms, it is closable
    abbrev pub Closes : Node → List (Linear ℕ) → Type 0
    Closes root all = (node : Node) → HasLiterals root node → HaveForms node all → Closable node

    sum_closes : (root : Node) (all : List (Linear ℕ)) (ms : List (ℕ × ℕ)) (f : Linear ℕ) → are_named (length all) ms ≡ true → combined all ms ≡ Some f → is_bare f.parts ≡ true → int_lt f.constant (pos 0) ≡ true → Closes root all
    sum_closes root all ms f named is bare negative node longer have =
        let s = numbered_sum node all ms nothing f have tt named is in
        steps.ends node (sum_of s.pairs)
        (ap (λ (o : Option (Linear Term)). only_if (is_refuting o) closed) s.is
        ∙ ap (λ (b : Bool). only_if b closed) (still (int_lt f.constant (pos 0)) (all_zero (map (seen_part at) f.parts)) negative (bare_zero f.parts bare)))
        tt

    cut_closes : (root : Node) (all : List (Linear ℕ)) (d : ℕ) (ms : List (ℕ × ℕ)) (f : Linear ℕ) → nat_lt 1 d ≡ true → are_named (length all) ms ≡ true → combined all ms ≡ Some f → divides d f.parts ≡ true → is_bare f.parts ≡ false → Closes root (all ++ lowered d f ∷ []) → Closes root all
    cut_closes root all d ms f large named is even free below node longer have =
        let s = numbered_sum node all ms nothing f have tt named is in
        let c = cut_is at n once d f (tidy_combined all nothing ms f nothing_tidy is) s.good large even free in
        let l : Literal = record { atom = two at_most zero_term c.sum; holds = true } in
        let next : Node = with_literal node l in
        let on : HasLiterals node next = literal_more node l in
        let new : HasForm next (lowered d f) = record { literal = l; there = literal_there node l; form = c.form; good = good_lowered at n once d f s.good } in
        steps.leads node next (cut d s.pairs)
        (ap (λ (o : Option (Linear Term)). o >>= λ (g : Linear Term). cut_of d g >>= left_with_one node) s.is ∙ ap (λ (o : Option Term). o >>= left_with_one node) c.is)
        tt
        (below next (has_more root node next longer on) (have_last next all (lowered d f) (forms_more node next all on have) new))

    pub closing_rules : (root : Node) → Rules (Closes root)
    closing_rules root = record { by_sum = sum_closes root; by_cut = cut_closes root }

    -- where elimination refutes forms that the node has
    pub refuted_closes : (node : Node) (forms : List (Linear ℕ)) → ArePlain forms → (list : LinSteps) → elimination forms ≡ Refuted list → HaveForms node forms → Closable node
    refuted_closes node forms plain list e have = refuted_holds (Closes node) (closing_rules node) forms plain list e node (has_self node) have
