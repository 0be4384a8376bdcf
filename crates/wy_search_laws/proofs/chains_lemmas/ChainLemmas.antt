-- A node is closable where each node is to which chains between two terms may lead.
use Rattle.std.proofs.Common.{◌≡◌, ◌∙◌, ℕ, List, [], ◌∷◌, Bool, true, Option, Some, inl, inr, refl, ap}
use Rattle.wy_search_bounds.specs.wy_facts.Schema.{only_if}
use Rattle.wy_search_bounds.specs.wy_term.Term.{Term, two, at_most, equal}
use Rattle.wy_search_bounds.specs.wy_term.Sorts.{Sort, int_sort, val_sort, formula_sort, sort_in}
use Rattle.wy_search_bounds.specs.wy_term.Rewriting.{False, True}
use Rattle.wy_search_bounds.specs.wy_term.Condition.{Entry}
use Rattle.wy_search_bounds.specs.wy_check_laws.sound.Sortedness.{AreSortedTerms, IsSortedStep}
use Rattle.wy_search_bounds.specs.wy_lin.Linear.{◌>>=◌}
use Rattle.wy_search_bounds.specs.wy_facts.Made.{is_at_most, is_equal}
use Rattle.wy_search_bounds.specs.wy_check_spec.judge.Node.{Literal, Node, with_literal, with_pending, added, with_formulas}
use Rattle.wy_search_bounds.specs.wy_cert.Steps.{Written, shut, chain, clash}
use Rattle.wy_search_bounds.specs.wy_check_spec.valid.Literals.{is_shut, is_chain, last_of}
use Rattle.wy_search_bounds.specs.wy_check_spec.valid.Validity.{equality_of, left_with, closed, after}
use Rattle.wy_search_laws.specs.chains.Chains.{HasLiterals}
use Rattle.wy_search_laws.proofs.chains_lemmas.LiteralLemmas.{has_self, has_more, literal_more, literal_there, false_shut}
use Rattle.wy_search_laws.proofs.chains_lemmas.LinkLemmas.{AreLinked, joined_turned, equation_joins, bounds_join}
use Rattle.wy_search_laws.proofs.chains_lemmas.MadeLemmas.{Makes, one_term, never, stays, turns, equation_makes, MakesBoth, one_number, never_first, never_last, stay, bounds_make}

-- What is closable: a node at which a step of sorted terms leads nowhere, or to one that is closable.
pub record Steps (types : List Entry) (Closable : Node → Type 0) : Type 0 where
  pub ends : (node : Node) (step : Written) → after types node step ≡ closed → IsSortedStep step → Closable node
  pub leads : (node next : Node) (step : Written) → after types node step ≡ Some (next ∷ []) → IsSortedStep step → Closable next → Closable node

-- The same of fewer steps: a node that can be shut, or of which literals clash, or from which a chain that may be taken leads to one that is closable.
pub record ByChains (types : List Entry) (May : List Term → Type 0) (Closable : Node → Type 0) : Type 0 where
  pub shuts : (node : Node) → is_shut node ≡ true → Closable node
  pub clashes : (node : Node) (i : ℕ) (other : Option ℕ) → after types node (clash i other) ≡ closed → Closable node
  pub leads : (node next : Node) (ts : List Term) → after types node (chain ts) ≡ Some (next ∷ []) → AreSortedTerms ts → May ts → Closable next → Closable node

-- each chain may be taken
abbrev pub AnyChain : List Term → Type 0
AnyChain ts = Unit {0}

pub any_chains : (types : List Entry) (Closable : Node → Type 0) → Steps types Closable → ByChains types AnyChain Closable
any_chains types Closable steps = record {
  shuts = λ node e. steps.ends node shut (ap (λ (b : Bool). only_if b closed) e) tt;
  clashes = λ node i other e. steps.ends node (clash i other) e tt;
  leads = λ node next ts e are may. steps.leads node next (chain ts) e are;
}

module _ (types : List Entry) (May : List Term → Type 0) (Closable : Node → Type 0) (chains : ByChains types May Closable) where
  -- ---- one chain

  chain_leads : (node : Node) (s : Term) (ts fs : List Term) → AreSortedTerms (s ∷ ts) → May (s ∷ ts) → is_chain node.literals s ts ≡ true → equality_of (sort_in s) s (last_of s ts) ≡ Some fs → Closable (with_formulas node fs) → Closable node
  chain_leads node s ts fs are may e f =
      chains.leads node (with_formulas node fs) (s ∷ ts)
      (ap (λ (b : Bool). only_if b (equality_of (sort_in s) s (last_of s ts)) >>= left_with node) e ∙ ap (λ (o : Option (List Term)). o >>= left_with node) f) are may

  pub val_leads : (node : Node) (s t f : Term) (ts : List Term) → AreSortedTerms (s ∷ ts) → May (s ∷ ts) → is_chain node.literals s ts ≡ true → sort_in s ≡ val_sort → last_of s ts ≡ t → is_equal s t ≡ f → Closable (added node f) → Closable node
  val_leads node s t f ts are may e is last made =
      chain_leads node s ts (f ∷ []) are may e
      (ap (λ (a : Sort). equality_of a s (last_of s ts)) is ∙ (ap (λ (u : Term). equality_of val_sort s u) last ∙ ap (λ (g : Term). Some (g ∷ [])) made))

  int_leads : (node : Node) (s t f g : Term) (ts : List Term) → AreSortedTerms (s ∷ ts) → May (s ∷ ts) → is_chain node.literals s ts ≡ true → sort_in s ≡ int_sort → last_of s ts ≡ t → is_at_most s t ≡ f → is_at_most t s ≡ g → Closable (added (added node f) g) → Closable node
  int_leads node s t f g ts are may e is last first second =
      chain_leads node s ts (f ∷ g ∷ []) are may e
      (ap (λ (a : Sort). equality_of a s (last_of s ts)) is ∙ (ap (λ (u : Term). equality_of int_sort s u) last ∙ (ap (λ (x : Term). Some (x ∷ is_at_most t s ∷ [])) first ∙ ap (λ (x : Term). Some (f ∷ x ∷ [])) second)))

  -- ---- two terms between which chains lead

  -- each node that has the literals of this one, and in which the two terms are linked, is closable
  abbrev pub Goes : Node → Term → Term → Type 0
  Goes node s t = (next : Node) → HasLiterals node next → AreLinked next s t → Closable next

  module _ (node : Node) (s t : Term) (ts us : List Term) (one : AreSortedTerms (s ∷ ts)) (other : AreSortedTerms (t ∷ us)) (may : May (s ∷ ts)) (turn : May (t ∷ us)) (first : is_chain node.literals s ts ≡ true) (last : last_of s ts ≡ t) (second : is_chain node.literals t us ≡ true) (back : last_of t us ≡ s) (goes : Goes node s t) where
    vals_chained : sort_in s ≡ val_sort → sort_in t ≡ val_sort → Closable node
    vals_chained is it = by (equation_makes s t one.0 other.0)
      where
        by : Makes s t → Closable node
        by (one_term e) = goes node (has_self node) (inl e)
        by (never e) = val_leads node s t False ts one may first is last e (chains.shuts (with_pending node False) (false_shut node))
        by (stays e) =
            let l : Literal = record { atom = two equal s t; holds = true } in
            val_leads node s t (two equal s t) ts one may first is last e
            (goes (with_literal node l) (literal_more node l) (inr (equation_joins (with_literal node l).literals s t is it (literal_there node l))))
        by (turns e) =
            let l : Literal = record { atom = two equal t s; holds = true } in
            val_leads node t s (two equal t s) us other turn second it back e
            (goes (with_literal node l) (literal_more node l) (inr (joined_turned (with_literal node l).literals t s (equation_joins (with_literal node l).literals t s it is (literal_there node l)))))

    ints_chained : sort_in s ≡ int_sort → sort_in t ≡ int_sort → Closable node
    ints_chained is it = by (bounds_make s t one.0 other.0)
      where
        by : MakesBoth s t → Closable node
        by (one_number e) = goes node (has_self node) (inl e)
        by (never_first e f) = int_leads node s t False True ts one may first is last e f (chains.shuts (with_pending node False) (false_shut node))
        by (never_last e) = int_leads node s t (is_at_most s t) False ts one may first is last refl e (chains.shuts (with_pending (added node (is_at_most s t)) False) (false_shut (added node (is_at_most s t))))
        by (stay e f) =
            let l : Literal = record { atom = two at_most s t; holds = true } in
            let k : Literal = record { atom = two at_most t s; holds = true } in
            let here : HasLiterals (with_literal node l) (with_literal (with_literal node l) k) = literal_more (with_literal node l) k in
            int_leads node s t (two at_most s t) (two at_most t s) ts one may first is last e f
            (goes (with_literal (with_literal node l) k) (has_more node (with_literal node l) (with_literal (with_literal node l) k) (literal_more node l) here)
            (inr (bounds_join (with_literal (with_literal node l) k).literals s t is it (here.has l (literal_there node l)) (literal_there (with_literal node l) k))))

    -- a chain from each of two terms to the other links them, or shuts the node
    pub chained : (a : Sort) → sort_in s ≡ a → sort_in t ≡ a → (a ≡ formula_sort → ⊥) → Closable node
    chained int_sort is it unlike = ints_chained is it
    chained val_sort is it unlike = vals_chained is it
    chained formula_sort is it unlike = absurd (unlike refl)
