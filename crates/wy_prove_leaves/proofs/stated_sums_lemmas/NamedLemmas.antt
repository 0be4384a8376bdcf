-- Literals by their numbers: they keep these as more come behind them, and a sum of them is that of their forms.
use Rattle.std.proofs.Common.{◌≡◌, ◌∙◌, ◌<◌, ◌-◌, ℕ, zero, suc, List, [], ◌∷◌, ◌++◌, map, length, Bool, true, false, cond, eqb, ℤ, pos, Option, Some, None, sym, ap, subst, arith}
use Rattle.std.specs.Prelude.{nat_lt, int_lt, slice_get, slice_index_or, ◌==◌}
use Rattle.wy_facts.specs.Schema.{only_if, zero_term}
use Rattle.wy_lemmas.proofs.Choices.{both_true as still}
use Rattle.wy_lemmas.proofs.Options.{some_same as some_is}
use Rattle.wy_term.specs.Term.{Term, two, at_most}
use Rattle.wy_term.specs.Condition.{Entry}
use Rattle.wy_lin.specs.declared.arithmetic.Factor.TheVariants.{Times}
use Rattle.wy_lin.specs.Linear.{◌>>=◌, Linear, nothing, plus}
use Rattle.wy_lin.specs.TermForm.{form_of_literal}
use Rattle.wy_lin.specs.Combination.{form_at, combined, combined_from}
use Rattle.wy_lin.specs.Seen.{seen, seen_part}
use Rattle.wy_lin.proofs.OptionLemmas.{bind_some}
use Rattle.wy_lin.proofs.SeenLemmas.{NamesOnce}
use Rattle.wy_prove_drafts.specs.wy_check_spec.judge.Node.{Literal, Node}
use Rattle.wy_cert.specs.Steps.{sum_of}
use Rattle.wy_prove_drafts.specs.wy_check_spec.valid.Literals.{formula_of, literal_at}
use Rattle.wy_prove_drafts.specs.wy_check_spec.valid.Sums as sums
use Rattle.wy_prove_drafts.specs.wy_check_spec.valid.Sums.{plus_literal, summed_from, all_zero, is_refuting, cut_of}
use Rattle.wy_prove_drafts.specs.wy_check_spec.valid.Validity.{after, closed}
use Rattle.wy_lin_eliminate.specs.Division.{lowered}
use Rattle.wy_lin_eliminate.specs.Validity.{divides, is_bare}
use Rattle.wy_search_spec.specs.Standing.{present}
use Rattle.wy_prove_drafts.specs.Progress.{Progress}
use Rattle.wy_prove_drafts.proofs.wy_search_laws_proofs.sums_lemmas.TidyLemmas.{nothing_tidy, tidy_combined}
use Rattle.wy_prove_drafts.proofs.wy_search_laws_proofs.sums_lemmas.CutLemmas.{AreGood, good_lowered, cut_is}
use Rattle.wy_prove_drafts.proofs.wy_search_laws_proofs.sums_lemmas.PresentLemmas.{present_distinct, places_once}
use Rattle.wy_prove_drafts.proofs.wy_search_laws_proofs.sums_lemmas.ClosedLemmas.{one_more, good_plus, bare_zero}
use Rattle.wy_prove_leaves.specs.stated_sums.Named.{at, AreVariables, IsNamed, AreNamed}
use Rattle.wy_prove_leaves.specs.stated_sums.Cuts.{Appends, cut_among, States, StatesCut, Gives}

-- ---- numbers are kept

front_there : (ls more : List Literal) (n : ℕ) (l : Literal) → slice_get ls n ≡ Some l → slice_get (ls ++ more) n ≡ Some l
front_there [] more n l e = absurd cc
front_there (k ∷ ls) more zero l e = e
front_there (k ∷ ls) more (suc n) l e = front_there ls more n l e

literal_kept : (ls more : List Literal) (k : ℕ) (l : Literal) → literal_at ls k ≡ Some l → literal_at (ls ++ more) k ≡ Some l
literal_kept ls more k l e = by (k == 0) e
  where
    by : (b : Bool) → cond b None (slice_get ls (k - 1)) ≡ Some l → cond b None (slice_get (ls ++ more) (k - 1)) ≡ Some l
    by true f = absurd cc
    by false f = front_there ls more (k - 1) l f

form_kept : (ls more : List Literal) (k : ℕ) (f : Linear Term) → sums.form_at ls k ≡ Some f → sums.form_at (ls ++ more) k ≡ Some f
form_kept ls more k f e =
    let a = bind_some (literal_at ls k) (λ l. form_of_literal (formula_of l)) f e in
    ap (λ (o : Option Literal). o >>= λ l. form_of_literal (formula_of l)) (literal_kept ls more k a.0 a.1) ∙ a.2

pub named_kept : (base a b : Node) (k : ℕ) (f : Linear ℕ) → Appends a b → IsNamed base a.literals k f → IsNamed base b.literals k f
named_kept base a b k f more h = record {
  form = subst (λ (ls : List Literal). sums.form_at ls k ≡ Some (seen (at base) f)) (sym more.literals) (form_kept a.literals more.more k (seen (at base) f) h.form);
  variables = h.variables;
}

pub are_named_kept : (base a b : Node) (ks : List ℕ) (fs : List (Linear ℕ)) → Appends a b → AreNamed base a.literals ks fs → AreNamed base b.literals ks fs
are_named_kept base a b [] [] more h = tt
are_named_kept base a b [] (f ∷ fs) more h = h
are_named_kept base a b (k ∷ ks) [] more h = h
are_named_kept base a b (k ∷ ks) (f ∷ fs) more h = (named_kept base a b k f more h.0, are_named_kept base a b ks fs more h.1)

-- ---- one of several, and one more

pub named_at : (base : Node) (ls : List Literal) (ks : List ℕ) (fs : List (Linear ℕ)) (i : ℕ) → AreNamed base ls ks fs → i < length fs → IsNamed base ls (slice_index_or ks i 0) (form_at fs i)
named_at base ls [] [] i h lt = absurd (omega (arith, lt))
named_at base ls [] (f ∷ fs) i h lt = absurd h
named_at base ls (k ∷ ks) [] i h lt = absurd h
named_at base ls (k ∷ ks) (f ∷ fs) zero h lt = h.0
named_at base ls (k ∷ ks) (f ∷ fs) (suc i) h lt = named_at base ls ks fs i h.1 (omega (arith, lt))

pub named_last : (base : Node) (ls : List Literal) (ks : List ℕ) (fs : List (Linear ℕ)) (k : ℕ) (f : Linear ℕ) → AreNamed base ls ks fs → IsNamed base ls k f → AreNamed base ls (ks ++ k ∷ []) (fs ++ f ∷ [])
named_last base ls [] [] k f h g = (g, tt)
named_last base ls [] (f ∷ fs) k g h is = absurd h
named_last base ls (k ∷ ks) [] i f h g = absurd h
named_last base ls (k ∷ ks) (f ∷ fs) i g h is = (h.0, named_last base ls ks fs i g h.1 is)

-- ---- sums

once : (base : Node) → NamesOnce (at base) (length (present base))
once base = places_once (present base) (present_distinct base)

-- each multiplier is at least 1, and beside the number of a literal with the form at its place
abbrev pub Matches : Node → List Literal → List (Linear ℕ) → List (ℕ × ℕ) → List (ℕ × ℕ) → Type 0
Matches base ls all [] [] = Unit {0}
Matches base ls all [] (p ∷ ps) = ⊥
Matches base ls all (m ∷ ms) [] = ⊥
Matches base ls all (m ∷ ms) (p ∷ ps) = (p.0 ≡ m.0) × (nat_lt 0 m.0 ≡ true) × IsNamed base ls p.1 (form_at all m.1) × Matches base ls all ms ps

module _ (base node : Node) where
  goods : (ps : List (ℤ × ℕ)) → AreVariables base ps → AreGood (at base) (length (present base)) (once base) ps
  goods [] h = tt
  goods (p ∷ ps) h = (record { below = h.0.below; variable = record { form = h.0.form; free = h.0.free } }, goods ps h.1)

  variables : (ps : List (ℤ × ℕ)) → AreGood (at base) (length (present base)) (once base) ps → AreVariables base ps
  variables [] h = tt
  variables (p ∷ ps) h = (record { below = h.0.below; form = h.0.variable.form; free = h.0.variable.free }, variables ps h.1)

  -- a form, with multiples of literals' forms more, is this form
  pub record IsSummed (f h : Linear ℕ) (pairs : List (ℕ × ℕ)) : Type 0 where
    pub is : summed_from node.literals (seen (at base) f) pairs ≡ Some (seen (at base) h)
    pub variables : AreVariables base h.parts

  matched_from : (all : List (Linear ℕ)) (ms pairs : List (ℕ × ℕ)) (f h : Linear ℕ) → Matches base node.literals all ms pairs → AreVariables base f.parts → combined_from all f ms ≡ Some h → IsSummed f h pairs
  matched_from all [] [] f h match over gives = record {
    is = ap (λ (x : Linear ℕ). Some (seen (at base) x)) (some_is f h gives);
    variables = subst (λ (x : Linear ℕ). AreVariables base x.parts) (some_is f h gives) over;
  }
  matched_from all [] (p ∷ ps) f h match over gives = absurd match
  matched_from all (m ∷ ms) [] f h match over gives = absurd match
  matched_from all (m ∷ ms) (p ∷ ps) f h match over gives =
      let n = length (present base) in
      let g = form_at all m.1 in
      let a = bind_some (plus eqb f (Times m.0) g) (λ (x : Linear ℕ). combined_from all x ms) h gives in
      let is_f = goods f.parts over in
      let is_g = goods g.parts match.2.variables in
      let first : plus_literal node.literals (seen (at base) f) p.0 p.1 ≡ Some (seen (at base) a.0) =
      ap (λ (k : ℕ). plus_literal node.literals (seen (at base) f) k p.1) match.0
      ∙ one_more (at base) n (once base) node f g a.0 m.0 p.1 match.1 match.2.form is_f is_g a.1 in
      let next = matched_from all ms ps a.0 h match.3 (variables a.0.parts (good_plus (at base) n (once base) f (Times m.0) g a.0 is_f is_g a.1)) a.2 in
      record {
        is = ap (λ (o : Option (Linear Term)). o >>= λ (x : Linear Term). summed_from node.literals x ps) first ∙ next.is;
        variables = next.variables;
      }

  -- the sum of literals is that of their forms
  pub matched_sum : (all : List (Linear ℕ)) (ms pairs : List (ℕ × ℕ)) (h : Linear ℕ) → Matches base node.literals all ms pairs → combined all ms ≡ Some h → IsSummed nothing h pairs
  matched_sum all ms pairs h match gives = matched_from all ms pairs nothing h match tt gives

  -- where it is a negative number, it closes the node
  pub sum_closes : (types : List Entry) (all : List (Linear ℕ)) (ms pairs : List (ℕ × ℕ)) (f : Linear ℕ) → Matches base node.literals all ms pairs → combined all ms ≡ Some f → is_bare f.parts ≡ true → int_lt f.constant (pos 0) ≡ true → after types node (sum_of pairs) ≡ closed
  sum_closes types all ms pairs f match is bare negative =
      let s = matched_sum all ms pairs f match is in
      ap (λ (o : Option (Linear Term)). only_if (sums.is_refuting o) closed) s.is
      ∙ ap (λ (b : Bool). only_if b closed) (still (int_lt f.constant (pos 0)) (all_zero (map (seen_part (at base)) f.parts)) negative (bare_zero (at base) (length (present base)) (once base) f.parts bare))

  -- ---- cuts

  -- the cut states a bound that has this form, divided
  pub record IsStating (d : ℕ) (pairs : List (ℕ × ℕ)) (f : Linear ℕ) : Type 0 where
    pub sum : Term
    pub is : cut_among node.literals d pairs ≡ Some (two at_most zero_term sum)
    pub form : form_of_literal (two at_most zero_term sum) ≡ Some (seen (at base) (lowered d f))
    pub variables : AreVariables base (lowered d f).parts

  pub cut_states : (all : List (Linear ℕ)) (d : ℕ) (ms pairs : List (ℕ × ℕ)) (f : Linear ℕ) → Matches base node.literals all ms pairs → nat_lt 1 d ≡ true → combined all ms ≡ Some f → divides d f.parts ≡ true → is_bare f.parts ≡ false → IsStating d pairs f
  cut_states all d ms pairs f match large is even free =
      let n = length (present base) in
      let s = matched_sum all ms pairs f match is in
      let good = goods f.parts s.variables in
      let c = cut_is (at base) n (once base) d f (tidy_combined all nothing ms f nothing_tidy is) good large even free in
      record {
        sum = c.sum;
        is = ap (λ (o : Option (Linear Term)). o >>= λ (g : Linear Term). cut_of d g) s.is ∙ c.is;
        form = c.form;
        variables = variables (lowered d f).parts (good_lowered (at base) n (once base) d f good);
      }

-- the literal that such a cut states has the divided form
pub stated_gives : (types : List Entry) (base : Node) (old new : Progress) (d : ℕ) (pairs : List (ℕ × ℕ)) (f : Linear ℕ) (o : Option ℕ) → IsStating base old.node d pairs f → StatesCut types d pairs old new o → Gives types base (lowered d f) old new o
stated_gives types base old new d pairs f o is states = by o (states zero_term is.sum is.is)
  where
    by : (p : Option ℕ) → States types (two at_most zero_term is.sum) old new p → Gives types base (lowered d f) old new p
    by None h = h
    by (Some k) h = (
      h.0,
      record {
        form = ap (λ (x : Option Literal). x >>= λ l. form_of_literal (formula_of l)) h.1 ∙ is.form;
        variables = is.variables;
      },
    )
