-- Terms of one class are linked by chains: that they are is a congruence on the terms present.
use Rattle.std.proofs.Common.{◌≡◌, ◌⊎◌, ◌∙◌, ℕ, List, [], ◌∷◌, Bool, true, false, cond, ◌&&◌, ◌||◌, Option, Some, None, inl, inr, refl, sym, ap, subst}
use Rattle.wy_lemmas.proofs.Choices.{or_left as first_true, both_true, or_right as second_true}
use Rattle.wy_search_bounds.specs.wy_term.Term.{Symbol, Term, Of, Parts, no_parts, part, two, equal}
use Rattle.wy_search_bounds.specs.wy_term.Same.{same_term}
use Rattle.wy_search_bounds.specs.wy_term.Sorts.{Sort, formula_sort, sort_in}
use Rattle.wy_search_bounds.specs.wy_term.Condition.{Entry}
use Rattle.wy_search_bounds.proofs.wy_term_proofs.SameLemmas.{terms_are}
use Rattle.wy_search_bounds.specs.wy_term_subst.sorted.Sorted.{IsSorted}
use Rattle.wy_search_bounds.specs.wy_check_spec.judge.Node.{Literal, Node, same_literal, has_literal, has_formula}
use Rattle.wy_search_bounds.specs.wy_check_spec.valid.Literals.{are_joined, arguments_joined, are_alike, is_chain, last_of}
use Rattle.wy_search_bounds.specs.wy_search_spec.Standing.{is_term_sort, only_terms, standing, present}
use Rattle.wy_search_bounds.specs.wy_search_spec.Classes.{place_from, label_of, same_label, in_one_class, classes}
use Rattle.wy_search_bounds.specs.wy_search_spec.least.Least.{IsAmong}
use Rattle.wy_search_bounds.proofs.wy_search_spec_proofs.least_lemmas.PlaceLemmas.{among}
use Rattle.wy_search_bounds.proofs.wy_search_spec_proofs.least_lemmas.SoundLemmas.{ArePair, ArePairs, Relates, related_classes}
use Rattle.wy_search_bounds.specs.wy_check_laws.sound.Sortedness.{AreSortedTerms}
use Rattle.wy_search_bounds.proofs.wy_check_laws_proofs.sound_lemmas.MadeLemmas.{IsFormula}
use Rattle.wy_search_bounds.proofs.wy_check_laws_proofs.sound_lemmas.ChainLemmas.{ends_sorts}
use Rattle.wy_search_bounds.proofs.wy_check_laws_proofs.sound_lemmas.NodeLemmas.{AreSortedLiterals, IsSortedNode}
use Rattle.wy_search_laws.specs.chains.Chains.{HasLiterals}
use Rattle.wy_search_laws.proofs.sound_lemmas.StandingLemmas.{node_sorted}
use Rattle.wy_search_laws.proofs.chains_lemmas.LiteralLemmas.{literals_are, has_self, has_more}
use Rattle.wy_search_laws.proofs.chains_lemmas.LinkLemmas.{AreLinked, joined_turned, arguments_turned, alike, linked_turned, linked_more, linked_argument, equation_joins}
use Rattle.wy_search_laws.proofs.chains_lemmas.ChainLemmas.{Steps, ByChains, AnyChain, any_chains, Goes, chained}

-- ---- the terms present

-- an Int term or a Val term of sorted parts
pub record IsPresent (t : Term) : Type 0 where
  pub sorted : IsSorted t
  pub term : is_term_sort (sort_in t) ≡ true

only_terms_present : (ts : List Term) (t : Term) → AreSortedTerms ts → IsAmong (only_terms ts) t → IsPresent t
only_terms_present [] t h e = absurd cc
only_terms_present (u ∷ us) t h e = by (is_term_sort (sort_in u)) refl e (only_terms_present us t h.1)
  where
    here : is_term_sort (sort_in u) ≡ true → (b : Bool) → same_term u t ≡ b → cond b true (has_formula (only_terms us) t) ≡ true → (IsAmong (only_terms us) t → IsPresent t) → IsPresent t
    here f true g k rest = subst IsPresent (terms_are u t g) (record { sorted = h.0; term = f })
    here f false g k rest = rest k

    by : (b : Bool) → is_term_sort (sort_in u) ≡ b → IsAmong (cond b (u ∷ only_terms us) (only_terms us)) t → (IsAmong (only_terms us) t → IsPresent t) → IsPresent t
    by true f g rest = here f (same_term u t) refl g rest
    by false f g rest = rest g

pub is_present : (node : Node) (t : Term) → IsSortedNode node → IsAmong (present node) t → IsPresent t
is_present node t h e = only_terms_present (standing node) t (node_sorted node h) e

only_terms_sorted : (ts : List Term) → AreSortedTerms ts → AreSortedTerms (only_terms ts)
only_terms_sorted [] h = tt
only_terms_sorted (u ∷ us) h = by (is_term_sort (sort_in u)) (only_terms_sorted us h.1)
  where
    by : (b : Bool) → AreSortedTerms (only_terms us) → AreSortedTerms (cond b (u ∷ only_terms us) (only_terms us))
    by true rest = (h.0, rest)
    by false rest = rest

pub present_sorted : (node : Node) → IsSortedNode node → AreSortedTerms (present node)
present_sorted node h = only_terms_sorted (standing node) (node_sorted node h)

no_formula : (a : Sort) → is_term_sort a ≡ true → a ≡ formula_sort → ⊥
no_formula a e f = let is : is_term_sort formula_sort ≡ true = ap is_term_sort (sym f) ∙ e in absurd cc

-- two terms with one label are of the list
labelled_among : (ts : List Term) (labels : List ℕ) (s t : Term) → same_label (label_of labels (place_from ts s 0)) (label_of labels (place_from ts t 0)) ≡ true → IsAmong ts s × IsAmong ts t
labelled_among ts labels s t e = by (place_from ts s 0) (place_from ts t 0) refl refl e
  where
    by : (o p : Option ℕ) → place_from ts s 0 ≡ o → place_from ts t 0 ≡ p → same_label (label_of labels o) (label_of labels p) ≡ true → IsAmong ts s × IsAmong ts t
    by None p f g h = absurd cc
    by (Some i) None f g h = absurd cc
    by (Some i) (Some j) f g h = (among ts s i f, among ts t j g)

-- each literal's atom is a formula
pub literal_formula : (ls : List Literal) (l : Literal) → AreSortedLiterals ls → has_literal ls l ≡ true → IsFormula l.atom
literal_formula [] l are e = absurd cc
literal_formula (k ∷ ls) l are e = by (same_literal k l) refl e (literal_formula ls l are.1)
  where
    by : (b : Bool) → same_literal k l ≡ b → cond b true (has_literal ls l) ≡ true → (has_literal ls l ≡ true → IsFormula l.atom) → IsFormula l.atom
    by true f g rest = subst (λ (x : Literal). IsFormula x.atom) (literals_are k l f) are.0
    by false f g rest = rest g

-- ---- chains that may be taken

-- A congruence on the terms present that has the node's equations. Of terms that it relates, chains of two and of three may be taken.
pub record MayLink (base : Node) (R : Term → Term → Type 0) (May : List Term → Type 0) : Type 0 where
  pub relates : Relates (present base) base.literals R
  pub pairs : (s t : Term) → IsAmong (present base) s → IsAmong (present base) t → R s t → May (s ∷ t ∷ [])
  pub triples : (s t u : Term) → IsAmong (present base) s → IsAmong (present base) t → IsAmong (present base) u → R s t → R t u → May (s ∷ t ∷ u ∷ [])

-- any two terms
abbrev pub AnyTwo : Term → Term → Type 0
AnyTwo s t = Unit {0}

pub may_link_any : (base : Node) → MayLink base AnyTwo AnyChain
may_link_any base = record {
  relates = record {
    reflexive = λ t here. tt;
    symmetric = λ s t here there e. tt;
    transitive = λ s t u here middle there e f. tt;
    has = λ v w here there e. tt;
    congruent = λ a ps qs here there pairs. tt;
  };
  pairs = λ s t here there e. tt;
  triples = λ s t u here middle there e f. tt;
}

-- ---- chains from every node that has the literals

module _ (types : List Entry) (May : List Term → Type 0) (Closable : Node → Type 0) (chains : ByChains types May Closable) (base : Node) (sorted : IsSortedNode base) (R : Term → Term → Type 0) (may : MayLink base R May) where
  -- each node that has the base's literals is closable where each is that has its literals, and in which the terms are linked
  abbrev pub Reaches : Term → Term → Type 0
  Reaches s t = (node : Node) → HasLiterals base node → Goes types May Closable chains node s t → Closable node

  is : (t : Term) → IsAmong (present base) t → IsSorted t
  is t e = let h = is_present base t sorted e in h.sorted

  -- besides, they are related
  abbrev Both : Term → Term → Type 0
  Both s t = R s t × Reaches s t

  -- two terms of one class, between which there are chains of the node
  reached : (node : Node) (s t : Term) (ts us : List Term) → IsAmong (present base) s → IsAmong (present base) t → AreSortedTerms ts → AreSortedTerms us → May (s ∷ ts) → May (t ∷ us) → is_chain node.literals s ts ≡ true → last_of s ts ≡ t → is_chain node.literals t us ≡ true → last_of t us ≡ s → Goes types May Closable chains node s t → Closable node
  reached node s t ts us here there one other way turn first last second back goes =
      let p = is_present base s sorted here in
      let q = is_present base t sorted there in
      chained types May Closable chains node s t ts us (p.sorted, one) (q.sorted, other) way turn first last second back goes
      (sort_in s) refl (ap sort_in (sym last) ∙ sym (ends_sorts node.literals s ts first)) (no_formula (sort_in s) p.term)

  -- ---- a congruence

  reflexive : (t : Term) → IsAmong (present base) t → Reaches t t
  reflexive t here node more goes = goes node (has_self node) (inl refl)

  symmetric : (s t : Term) → IsAmong (present base) s → IsAmong (present base) t → Reaches s t → Reaches t s
  symmetric s t here there reaches node more goes = reaches node more (λ next on link. goes next on (linked_turned next s t link))

  -- two joins in a row are a chain
  in_a_row : (s t u : Term) → IsAmong (present base) s → IsAmong (present base) t → IsAmong (present base) u → R s t → R t u → (node : Node) → AreLinked node s t → AreLinked node t u → Goes types May Closable chains node s u → Closable node
  in_a_row s t u here middle there one other node (inl e) l goes = goes node (has_self node) (subst (λ (x : Term). AreLinked node x u) (sym e) l)
  in_a_row s t u here middle there one other node (inr e) (inl f) goes = goes node (has_self node) (inr (ap (λ (x : Term). are_joined node.literals s x) (sym f) ∙ e))
  in_a_row s t u here middle there one other node (inr e) (inr f) goes =
      reached node s u (t ∷ u ∷ []) (t ∷ s ∷ []) here there (is t middle, (is u there, tt)) (is t middle, (is s here, tt))
      (may.triples s t u here middle there one other) (may.triples u t s there middle here (may.relates.symmetric t u middle there other) (may.relates.symmetric s t here middle one))
      (follows s t u e f) refl (follows u t s (joined_turned node.literals t u f) (joined_turned node.literals s t e)) refl goes
    where
      follows : (x y z : Term) → are_joined node.literals x y ≡ true → are_joined node.literals y z ≡ true → is_chain node.literals x (y ∷ z ∷ []) ≡ true
      follows x y z g h =
          both_true (are_joined node.literals x y || are_alike node.literals x y) ((are_joined node.literals y z || are_alike node.literals y z) && true)
          (first_true (are_joined node.literals x y) (are_alike node.literals x y) g)
          (both_true (are_joined node.literals y z || are_alike node.literals y z) true (first_true (are_joined node.literals y z) (are_alike node.literals y z) h) refl)

  transitive : (s t u : Term) → IsAmong (present base) s → IsAmong (present base) t → IsAmong (present base) u → Both s t → Both t u → Reaches s u
  transitive s t u here middle there first second node more goes =
      first.1 node more (λ next on link.
      second.1 next (has_more base node next more on) (λ last further other.
      in_a_row s t u here middle there first.0 second.0 last (linked_more next last further s t link) other
      (λ end beyond both. goes end (has_more node next end on (has_more next last end further beyond)) both)))

  has : (v w : Term) → IsAmong (present base) v → IsAmong (present base) w → has_literal base.literals (record { atom = two equal v w; holds = true }) ≡ true → Reaches v w
  has v w here there e node more goes =
      let l : Literal = record { atom = two equal v w; holds = true } in
      let f = literal_formula base.literals l sorted.literals e in
      goes node (has_self node) (inr (equation_joins node.literals v w f.0.0 f.0.2.0 (more.has l e)))

  -- each node that has the literals of this one, and in which these arguments are joined, is closable: then this one is
  abbrev Joins : Node → Parts → Parts → Type 0
  Joins node ps qs = ((next : Node) → HasLiterals node next → arguments_joined next.literals ps qs ≡ true → Closable next) → Closable node

  -- arguments that are pairwise linked
  arguments : (ps qs : Parts) → ArePairs (present base) Both ps qs → (node : Node) → HasLiterals base node → Joins node ps qs
  arguments no_parts no_parts pairs node more goes = goes node (has_self node) refl
  arguments no_parts (part t qs) pairs node more goes = absurd pairs
  arguments (part s ps) no_parts pairs node more goes = absurd pairs
  arguments (part s ps) (part t qs) pairs node more goes = by pairs.0 (λ next on. arguments ps qs pairs.1 next on)
    where
      rest : ((next : Node) → HasLiterals base next → Joins next ps qs) → (next : Node) → HasLiterals node next → AreLinked next s t → Closable next
      rest later next on link =
          later next (has_more base node next more on)
          (λ last further e. goes last (has_more node next last on further)
          (both_true (same_term s t || are_joined last.literals s t) (arguments_joined last.literals ps qs) (linked_argument last s t (linked_more next last further s t link)) e))

      by : (s ≡ t) ⊎ ArePair (present base) Both s t → ((next : Node) → HasLiterals base next → Joins next ps qs) → Closable node
      by (inl e) later = rest later node (has_self node) (inl e)
      by (inr pair) later = pair.related.1 node more (λ next on link. rest later next on link)

  congruent : (a : Symbol) (ps qs : Parts) → IsAmong (present base) (Of a ps) → IsAmong (present base) (Of a qs) → R (Of a ps) (Of a qs) → ArePairs (present base) Both ps qs → Reaches (Of a ps) (Of a qs)
  congruent a ps qs here there one pairs node more goes =
      arguments ps qs pairs node more
      (λ next on e.
      reached next (Of a ps) (Of a qs) (Of a qs ∷ []) (Of a ps ∷ []) here there (is (Of a qs) there, tt) (is (Of a ps) here, tt)
      (may.pairs (Of a ps) (Of a qs) here there one) (may.pairs (Of a qs) (Of a ps) there here (may.relates.symmetric (Of a ps) (Of a qs) here there one))
      (follows next ps qs e) refl (follows next qs ps (arguments_turned next.literals ps qs e)) refl
      (λ last further link. goes last (has_more node next last on further) link))
    where
      follows : (next : Node) (xs ys : Parts) → arguments_joined next.literals xs ys ≡ true → is_chain next.literals (Of a xs) (Of a ys ∷ []) ≡ true
      follows next xs ys e =
          both_true (are_joined next.literals (Of a xs) (Of a ys) || are_alike next.literals (Of a xs) (Of a ys)) true
          (second_true (are_joined next.literals (Of a xs) (Of a ys)) (are_alike next.literals (Of a xs) (Of a ys)) (alike next.literals a xs ys e)) refl

  -- arguments that are pairwise related
  pairs_related : (ps qs : Parts) → ArePairs (present base) Both ps qs → ArePairs (present base) R ps qs
  pairs_related no_parts no_parts pairs = tt
  pairs_related no_parts (part t qs) pairs = absurd pairs
  pairs_related (part s ps) no_parts pairs = absurd pairs
  pairs_related (part s ps) (part t qs) pairs = (by pairs.0, pairs_related ps qs pairs.1)
    where
      by : (s ≡ t) ⊎ ArePair (present base) Both s t → (s ≡ t) ⊎ ArePair (present base) R s t
      by (inl e) = inl e
      by (inr pair) = inr (record { first = pair.first; second = pair.second; related = pair.related.0 })

  relates : Relates (present base) base.literals Both
  relates = record {
    reflexive = λ t here. (may.relates.reflexive t here, reflexive t here);
    symmetric = λ s t here there both. (may.relates.symmetric s t here there both.0, symmetric s t here there both.1);
    transitive = λ s t u here middle there first second. (may.relates.transitive s t u here middle there first.0 second.0, transitive s t u here middle there first second);
    has = λ v w here there e. (may.relates.has v w here there e, has v w here there e);
    congruent = λ a ps qs here there pairs.
        let one = may.relates.congruent a ps qs here there (pairs_related ps qs pairs) in
        (one, congruent a ps qs here there one pairs);
  }

  -- ---- terms of one class

  -- they are one, or both are present and linked
  record IsClassed (s t : Term) : Type 0 where
    first : IsAmong (present base) s
    second : IsAmong (present base) t
    both : Both s t

  classed : (s t : Term) → in_one_class (present base) (classes (present base) base.literals) s t ≡ true → (s ≡ t) ⊎ IsClassed s t
  classed s t e = by (same_term s t) refl
    where
      by : (b : Bool) → same_term s t ≡ b → (s ≡ t) ⊎ IsClassed s t
      by true f = inl (terms_are s t f)
      by false f =
          let here = labelled_among (present base) (classes (present base) base.literals) s t
          (ap (λ (b : Bool). b || same_label (label_of (classes (present base) base.literals) (place_from (present base) s 0)) (label_of (classes (present base) base.literals) (place_from (present base) t 0))) (sym f) ∙ e) in
          inr (record { first = here.0; second = here.1; both = related_classes base.literals Both (present base) relates s t here.0 e })

  -- a chain of the two may be taken
  pub class_pair : (s t : Term) → in_one_class (present base) (classes (present base) base.literals) s t ≡ true → (s ≡ t) ⊎ May (s ∷ t ∷ [])
  class_pair s t e = by (classed s t e)
    where
      by : (s ≡ t) ⊎ IsClassed s t → (s ≡ t) ⊎ May (s ∷ t ∷ [])
      by (inl same) = inl same
      by (inr h) = inr (may.pairs s t h.first h.second h.both.0)

  pub class_reached : (s t : Term) → in_one_class (present base) (classes (present base) base.literals) s t ≡ true → Reaches s t
  class_reached s t e = by (classed s t e)
    where
      by : (s ≡ t) ⊎ IsClassed s t → Reaches s t
      by (inl same) = λ node more goes. goes node (has_self node) (inl same)
      by (inr h) = h.both.1

-- so where each chain may be taken
pub one_class : (types : List Entry) (Closable : Node → Type 0) (steps : Steps types Closable) (base : Node) → IsSortedNode base → (s t : Term) → in_one_class (present base) (classes (present base) base.literals) s t ≡ true
    → (node : Node) → HasLiterals base node → Goes types AnyChain Closable (any_chains types Closable steps) node s t → Closable node
one_class types Closable steps base sorted = class_reached types AnyChain Closable (any_chains types Closable steps) base sorted AnyTwo (may_link_any base)
