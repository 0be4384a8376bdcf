-- A node is closable where the classes of one clash whose literals it has.
use Rattle.std.proofs.Common.{◌≡◌, ◌⊎◌, ◌∙◌, List, [], ◌∷◌, ◌++◌, Bool, true, false, cond, not, ◌&&◌, ◌||◌, Option, Some, None, inl, inr, refl, sym, ap, subst}
use Rattle.wy_search_bounds.specs.wy_facts.Schema.{only_if}
use Rattle.wy_lemmas.proofs.Choices.{not_true as not_is_true, true_false as two_ways, both_parts as and_both, or_left as first_true, both_true}
use Rattle.wy_search_laws.specs.sound.Closed.{AreLiterals}
use Rattle.wy_search_bounds.specs.wy_term.Term.{DataKind, Term, Of, no_parts, part, two, equal, of_kind}
use Rattle.wy_search_bounds.specs.wy_term.Same.{same_kind, same_term}
use Rattle.wy_search_bounds.specs.wy_term.Folding.{folded}
use Rattle.wy_search_bounds.specs.wy_term.Rewriting.{False, as_constant, kind_given}
use Rattle.wy_search_bounds.specs.wy_term.Sorts.{val_sort, sort_in}
use Rattle.wy_search_bounds.specs.wy_term.Condition.{Entry}
use Rattle.wy_search_bounds.proofs.wy_term_proofs.SameLemmas.{terms_self, kinds_are, kinds_self}
use Rattle.wy_search_bounds.specs.wy_term_subst.sorted.Sorted.{IsSorted}
use Rattle.wy_search_bounds.specs.wy_check_spec.judge.Node.{Literal, Node, same_literal, has_literal, with_literal, with_pending}
use Rattle.wy_search_bounds.specs.wy_cert.Steps.{Written}
use Rattle.wy_search_bounds.specs.wy_lin.Linear.{◌>>=◌}
use Rattle.wy_search_bounds.specs.wy_check_spec.valid.Literals.{has_atom, literal_at, are_joined, are_alike, is_chain}
use Rattle.wy_search_bounds.specs.wy_check_spec.valid.Kinds.{are_apart, clashes_alone, Kinded, in_two_kinds, in_one_kind, clash_together}
use Rattle.wy_search_bounds.specs.wy_check_spec.valid.Validity.{closed, after}
use Rattle.wy_search_bounds.specs.wy_search_spec.Standing.{present}
use Rattle.wy_search_bounds.specs.wy_search_spec.Classes.{in_one_class, classes, denies_equal, any_denies, constants_apart, any_apart, kind_by, kinds_by, own_kind, own_kinds, kinds_with, any_kinds, clashes}
use Rattle.wy_search_bounds.proofs.wy_check_laws_proofs.sound_lemmas.Basics.{or_cases}
use Rattle.wy_search_bounds.proofs.wy_check_laws_proofs.sound_lemmas.NodeLemmas.{AreSortedLiterals, IsSortedNode}
use Rattle.wy_search_bounds.specs.wy_check_laws.sound.Sortedness.{AreSortedTerms, IsSortedStep, AreSortedSteps}
use Rattle.wy_search_laws.specs.chains.Chains.{HasLiterals, AreFolded, HasSteps, ClashesClose}
use Rattle.wy_search_bounds.specs.wy_check_spec.valid.Trees.{stem, no_trees, tree, steps_in}
use Rattle.wy_search_laws.proofs.chains_lemmas.LiteralLemmas.{has_first, has_later, literals_are, has_more, literal_more, literal_there, numbered, both_ways_shut, false_shut}
use Rattle.wy_search_laws.proofs.chains_lemmas.LinkLemmas.{AreLinked, equated, linked_turned}
use Rattle.wy_search_laws.proofs.chains_lemmas.MadeLemmas.{apart_constants, given_val, unknown_kind}
use Rattle.wy_search_laws.proofs.chains_lemmas.KindLemmas.{told_kind, told_two, told_denied, given_other, given_turned, denied_other, denied_turned, given_two, kinds_turned}
use Rattle.wy_search_laws.proofs.chains_lemmas.ChainLemmas.{Steps, ByChains, AnyChain, any_chains, Goes, val_leads}
use Rattle.wy_search_laws.proofs.chains_lemmas.ClassLemmas.{present_sorted, literal_formula, MayLink, AnyTwo, may_link_any, class_pair, class_reached}

-- ---- literals of a folded node

literal_folded : (ls : List Literal) (l : Literal) → AreFolded ls → has_literal ls l ≡ true → folded l.atom ≡ l.atom
literal_folded [] l are e = absurd cc
literal_folded (k ∷ ls) l are e = by (same_literal k l) refl e (literal_folded ls l are.1)
  where
    by : (b : Bool) → same_literal k l ≡ b → cond b true (has_literal ls l) ≡ true → (has_literal ls l ≡ true → folded l.atom ≡ l.atom) → folded l.atom ≡ l.atom
    by true f g rest = subst (λ (x : Literal). folded x.atom ≡ x.atom) (literals_are k l f) are.0
    by false f g rest = rest g

-- the literals are among these
record AreAmong (ks ls : List Literal) : Type 0 where
  there : (l : Literal) → has_literal ks l ≡ true → has_literal ls l ≡ true

all_among : (ls : List Literal) → AreAmong ls ls
all_among ls = record { there = λ l e. e }

rest_among : (k : Literal) (ks ls : List Literal) → AreAmong (k ∷ ks) ls → AreAmong ks ls
rest_among k ks ls h = record { there = λ l e. h.there l (has_later k l ks e) }

first_among : (k : Literal) (ks ls : List Literal) → AreAmong (k ∷ ks) ls → has_literal ls k ≡ true
first_among k ks ls h = h.there k (has_first k ks)

-- each of these is so
abbrev AllAre : (Kinded → Type 0) → List Kinded → Type 0
AllAre P [] = Unit {0}
AllAre P (p ∷ ps) = P p × AllAre P ps

all_both : (P : Kinded → Type 0) (ps qs : List Kinded) → AllAre P ps → AllAre P qs → AllAre P (ps ++ qs)
all_both P [] qs f g = g
all_both P (p ∷ ps) qs f g = (f.0, all_both P ps qs f.1 g)

-- a literal says that the term is of the kind, or it is one that is known to be
abbrev IsGiven : Node → Kinded → Type 0
IsGiven base p = (has_literal base.literals (told_kind true p.0 p.1) ≡ true) ⊎ (kind_given p.0 ≡ Some p.1)

-- a literal says that it isn't
abbrev IsDenied : Node → Kinded → Type 0
IsDenied base p = has_literal base.literals (told_kind false p.0 p.1) ≡ true

given_by_literal : (base : Node) (holds : Bool) (a : Term) → has_literal base.literals (record { atom = a; holds = holds }) ≡ true → AllAre (IsGiven base) (kind_by true holds a)
given_by_literal base true (Of (of_kind kind) (part v no_parts)) e = (inl e, tt)
given_by_literal base holds a e = tt

denied_by_literal : (base : Node) (holds : Bool) (a : Term) → has_literal base.literals (record { atom = a; holds = holds }) ≡ true → AllAre (IsDenied base) (kind_by false holds a)
denied_by_literal base false (Of (of_kind kind) (part v no_parts)) e = (e, tt)
denied_by_literal base holds a e = tt

given_by_literals : (base : Node) (ls : List Literal) → AreAmong ls base.literals → AllAre (IsGiven base) (kinds_by true ls)
given_by_literals base [] h = tt
given_by_literals base (l ∷ ls) h = all_both (IsGiven base) (kind_by true l.holds l.atom) (kinds_by true ls) (given_by_literal base l.holds l.atom (first_among l ls base.literals h)) (given_by_literals base ls (rest_among l ls base.literals h))

denied_by_literals : (base : Node) (ls : List Literal) → AreAmong ls base.literals → AllAre (IsDenied base) (kinds_by false ls)
denied_by_literals base [] h = tt
denied_by_literals base (l ∷ ls) h = all_both (IsDenied base) (kind_by false l.holds l.atom) (kinds_by false ls) (denied_by_literal base l.holds l.atom (first_among l ls base.literals h)) (denied_by_literals base ls (rest_among l ls base.literals h))

own_is : (base : Node) (t : Term) (o : Option DataKind) → kind_given t ≡ o → AllAre (IsGiven base) (own_kind t o)
own_is base t None e = tt
own_is base t (Some kind) e = (inr e, tt)

own_are : (base : Node) (ts : List Term) → AllAre (IsGiven base) (own_kinds ts)
own_are base [] = tt
own_are base (t ∷ ts) = all_both (IsGiven base) (own_kind t (kind_given t)) (own_kinds ts) (own_is base t (kind_given t) refl) (own_are base ts)

kind_is : (k l : DataKind) → Some k ≡ Some l → k ≡ l
kind_is k l e = cc

-- ---- clashes

module _ (types : List Entry) (May : List Term → Type 0) (Closable : Node → Type 0) (chains : ByChains types May Closable) where
  alone_closes : (node : Node) (l : Literal) → has_literal node.literals l ≡ true → clashes_alone l ≡ true → Closable node
  alone_closes node l e f =
      let n = numbered node.literals l e in
      chains.clashes node n.number None
      (ap (λ (o : Option Literal). (o >>= λ (k : Literal). Some (clashes_alone k)) >>= λ (b : Bool). only_if b closed) n.is ∙ ap (λ (b : Bool). only_if b closed) f)

  together_closes : (node : Node) (l k : Literal) → has_literal node.literals l ≡ true → has_literal node.literals k ≡ true → clash_together node.literals l k ≡ true → Closable node
  together_closes node l k e f g =
      let n = numbered node.literals l e in
      let m = numbered node.literals k f in
      chains.clashes node n.number (Some m.number)
      (ap (λ (o : Option Literal). (o >>= λ (x : Literal). (literal_at node.literals m.number >>= λ (y : Literal). Some (clash_together node.literals x y))) >>= λ (b : Bool). only_if b closed) n.is
      ∙ (ap (λ (o : Option Literal). (o >>= λ (y : Literal). Some (clash_together node.literals l y)) >>= λ (b : Bool). only_if b closed) m.is
      ∙ ap (λ (b : Bool). only_if b closed) g))

  -- two neighbours of a chain
  joined_chain : (node : Node) (s t : Term) → are_joined node.literals s t ≡ true → is_chain node.literals s (t ∷ []) ≡ true
  joined_chain node s t e = both_true (are_joined node.literals s t || are_alike node.literals s t) true (first_true (are_joined node.literals s t) (are_alike node.literals s t) e) refl

  -- the equation of two joined terms, or the turned one, is a literal
  by_equation : (node : Node) (s t : Term) → sort_in s ≡ val_sort → are_joined node.literals s t ≡ true → (has_atom node.literals (two equal s t) ≡ true → Closable node) → (has_atom node.literals (two equal t s) ≡ true → Closable node) → Closable node
  by_equation node s t is e f g = or_cases (has_atom node.literals (two equal s t)) (has_atom node.literals (two equal t s)) (Closable node) (equated node.literals s t is e) f g

  module _ (base : Node) (sorted : IsSortedNode base) (R : Term → Term → Type 0) (may : MayLink base R May) (plain : AreFolded base.literals) where
    abbrev OneClass : Term → Term → Type 0
    OneClass s t = in_one_class (present base) (classes (present base) base.literals) s t ≡ true

    reached : (s t : Term) → OneClass s t → (node : Node) → HasLiterals base node → Goes types May Closable chains node s t → Closable node
    reached = class_reached types May Closable chains base sorted R may

    -- ---- a denied equation

    one_denied : (node : Node) (v w : Term) → HasLiterals base node → has_literal base.literals (record { atom = two equal v w; holds = false }) ≡ true → v ≡ w → Closable node
    one_denied node v w more e same = alone_closes node (record { atom = two equal v w; holds = false }) (more.has (record { atom = two equal v w; holds = false }) e) (ap (λ (x : Term). same_term v x) (sym same) ∙ terms_self v)

    denied_there : (node : Node) (v w : Term) → May (v ∷ w ∷ []) → HasLiterals base node → has_literal base.literals (record { atom = two equal v w; holds = false }) ≡ true → AreLinked node v w → Closable node
    denied_there node v w way more e (inl same) = one_denied node v w more e same
    denied_there node v w way more e (inr f) =
        let l : Literal = record { atom = two equal v w; holds = true } in
        let k : Literal = record { atom = two equal v w; holds = false } in
        let is = literal_formula base.literals k sorted.literals e in
        let next = literal_more node l in
        val_leads types May Closable chains node v w (two equal v w) (w ∷ []) (is.0.1, (is.0.2.1, tt)) way (joined_chain node v w f) is.0.0 refl (literal_folded base.literals k plain e)
        (chains.shuts (with_literal node l) (both_ways_shut (with_literal node l) (two equal v w) (literal_there node l) (next.has k (more.has k e))))

    denial_closes : (node : Node) (holds : Bool) (a : Term) → HasLiterals base node → has_literal base.literals (record { atom = a; holds = holds }) ≡ true → denies_equal (present base) (classes (present base) base.literals) holds a ≡ true → Closable node
    denial_closes node false (Of equal (part v (part w no_parts))) more e f = by (class_pair types May Closable chains base sorted R may v w f)
      where
        by : (v ≡ w) ⊎ May (v ∷ w ∷ []) → Closable node
        by (inl same) = one_denied node v w more e same
        by (inr way) = reached v w f node more (λ next on link. denied_there next v w way (has_more base node next more on) e link)
    denial_closes node holds a more e f = absurd cc

    denials_close : (node : Node) (ls : List Literal) → HasLiterals base node → AreAmong ls base.literals → any_denies (present base) (classes (present base) base.literals) ls ≡ true → Closable node
    denials_close node [] more h e = absurd cc
    denials_close node (l ∷ ls) more h e =
        or_cases (denies_equal (present base) (classes (present base) base.literals) l.holds l.atom) (any_denies (present base) (classes (present base) base.literals) ls) (Closable node) e
        (λ f. denial_closes node l.holds l.atom more (first_among l ls base.literals h) f)
        (λ f. denials_close node ls more (rest_among l ls base.literals h) f)

    -- ---- different constants

    constants_close : (node : Node) (s t : Term) → HasLiterals base node → IsSorted s → IsSorted t → are_apart (as_constant s) (as_constant t) ≡ true → OneClass s t → Closable node
    constants_close node s t more ss st e f = by (class_pair types May Closable chains base sorted R may s t f)
      where
        linked : (next : Node) → May (s ∷ t ∷ []) → AreLinked next s t → Closable next
        linked next way (inl same) = absurd ((apart_constants s t e).differ same)
        linked next way (inr g) =
            let apart = apart_constants s t e in
            val_leads types May Closable chains next s t False (t ∷ []) (ss, (st, tt)) way (joined_chain next s t g) apart.first refl apart.folds
            (chains.shuts (with_pending next False) (false_shut next))

        by : (s ≡ t) ⊎ May (s ∷ t ∷ []) → Closable node
        by (inl same) = absurd ((apart_constants s t e).differ same)
        by (inr way) = reached s t f node more (λ next on link. linked next way link)

    apart_from_closes : (node : Node) (s : Term) (us : List Term) → HasLiterals base node → IsSorted s → AreSortedTerms us → constants_apart (present base) (classes (present base) base.literals) s us ≡ true → Closable node
    apart_from_closes node s [] more ss are e = absurd cc
    apart_from_closes node s (t ∷ us) more ss are e =
        or_cases (are_apart (as_constant s) (as_constant t) && in_one_class (present base) (classes (present base) base.literals) s t) (constants_apart (present base) (classes (present base) base.literals) s us) (Closable node) e
        (λ f. let h = and_both (are_apart (as_constant s) (as_constant t)) (in_one_class (present base) (classes (present base) base.literals) s t) f in constants_close node s t more ss are.0 h.0 h.1)
        (λ f. apart_from_closes node s us more ss are.1 f)

    apart_closes : (node : Node) (us : List Term) → HasLiterals base node → AreSortedTerms us → any_apart (present base) (classes (present base) base.literals) us ≡ true → Closable node
    apart_closes node [] more are e = absurd cc
    apart_closes node (s ∷ us) more are e =
        or_cases (constants_apart (present base) (classes (present base) base.literals) s (present base)) (any_apart (present base) (classes (present base) base.literals) us) (Closable node) e
        (λ f. apart_from_closes node s (present base) more are.0 (present_sorted base sorted) f) (λ f. apart_closes node us more are.1 f)

    -- ---- two kinds

    told_val : (holds : Bool) (s : Term) (k : DataKind) → has_literal base.literals (told_kind holds s k) ≡ true → sort_in s ≡ val_sort
    told_val holds s k e = let is = literal_formula base.literals (told_kind holds s k) sorted.literals e in is.0.0

    -- a literal gives one kind, and the other term is known to be of another
    told_known : (node : Node) (s t : Term) (k l : DataKind) → HasLiterals base node → has_literal base.literals (told_kind true s k) ≡ true → kind_given t ≡ Some l → same_kind k l ≡ false → AreLinked node s t → Closable node
    told_known node s t k l more e f g (inl same) = absurd (unknown_kind s k l (literal_folded base.literals (told_kind true s k) plain e) (ap kind_given same ∙ f))
    told_known node s t k l more e f g (inr h) =
        by_equation node s t (told_val true s k e) h
        (λ there. together_closes node (told_kind true s k) (record { atom = two equal s t; holds = true }) (more.has (told_kind true s k) e) there (given_other node s t k l g f))
        (λ there. together_closes node (told_kind true s k) (record { atom = two equal t s; holds = true }) (more.has (told_kind true s k) e) there (given_turned node s t k l g f))

    two_there : (node : Node) (s t : Term) (k l : DataKind) → HasLiterals base node → IsGiven base (s, k) → IsGiven base (t, l) → same_kind k l ≡ false → AreLinked node s t → Closable node
    two_there node s t k l more (inl e) (inl f) g link = together_closes node (told_kind true s k) (told_kind true t l) (more.has (told_kind true s k) e) (more.has (told_kind true t l) f) (told_two node s t k l g (told_val true s k e) link)
    two_there node s t k l more (inl e) (inr f) g link = told_known node s t k l more e f g link
    two_there node s t k l more (inr e) (inl f) g link = told_known node t s l k more f e (kinds_turned k l g) (linked_turned node s t link)
    two_there node s t k l more (inr e) (inr f) g (inl same) =
        let is : Some k ≡ Some l = sym e ∙ (ap kind_given same ∙ f) in
        absurd (two_ways (same_kind k l) (ap (λ (x : DataKind). same_kind k x) (sym (kind_is k l is)) ∙ kinds_self k) g)
    two_there node s t k l more (inr e) (inr f) g (inr h) =
        by_equation node s t (given_val s k e) h
        (λ there. alone_closes node (record { atom = two equal s t; holds = true }) there (given_two node s t k l g e f))
        (λ there. alone_closes node (record { atom = two equal t s; holds = true }) there (given_two node t s l k (kinds_turned k l g) f e))

    two_close : (node : Node) → HasLiterals base node → (p q : Kinded) → IsGiven base p → IsGiven base q → OneClass p.0 q.0 → in_two_kinds p (p.0, q.1) ≡ true → Closable node
    two_close node more p q f g e h =
        let k = and_both (same_term p.0 p.0) (not (same_kind p.1 q.1)) h in
        reached p.0 q.0 e node more
        (λ next on link. two_there next p.0 q.0 p.1 q.1 (has_more base node next more on) f g (not_is_true (same_kind p.1 q.1) k.1) link)

    -- ---- a kind that is denied

    denied_at : (node : Node) (s t : Term) (k l : DataKind) → HasLiterals base node → IsGiven base (s, k) → IsDenied base (t, l) → same_kind k l ≡ true → AreLinked node s t → Closable node
    denied_at node s t k l more (inl e) f g link = together_closes node (told_kind true s k) (told_kind false t l) (more.has (told_kind true s k) e) (more.has (told_kind false t l) f) (told_denied node s t k l g (told_val true s k e) link)
    denied_at node s t k l more (inr e) f g (inl same) = absurd (unknown_kind t l k (literal_folded base.literals (told_kind false t l) plain f) (ap kind_given (sym same) ∙ e))
    denied_at node s t k l more (inr e) f g (inr h) =
        let back : same_kind l k ≡ true = ap (λ (x : DataKind). same_kind l x) (kinds_are k l g) ∙ kinds_self l in
        by_equation node s t (given_val s k e) h
        (λ there. together_closes node (told_kind false t l) (record { atom = two equal s t; holds = true }) (more.has (told_kind false t l) f) there (denied_other node s t k l back e))
        (λ there. together_closes node (told_kind false t l) (record { atom = two equal t s; holds = true }) (more.has (told_kind false t l) f) there (denied_turned node s t k l back e))

    denied_close : (node : Node) → HasLiterals base node → (p q : Kinded) → IsGiven base p → IsDenied base q → OneClass p.0 q.0 → in_one_kind p (p.0, q.1) ≡ true → Closable node
    denied_close node more p q f g e h =
        let k = and_both (same_term p.0 p.0) (same_kind p.1 q.1) h in
        reached p.0 q.0 e node more
        (λ next on link. denied_at next p.0 q.0 p.1 q.1 (has_more base node next more on) f g k.1 link)

    -- ---- kinds of two terms of one class

    with_closes : (node : Node) (test : Kinded → Kinded → Bool) (Q : Kinded → Type 0) → ((p q : Kinded) → IsGiven base p → Q q → OneClass p.0 q.0 → test p (p.0, q.1) ≡ true → Closable node) → (p : Kinded) (qs : List Kinded) → IsGiven base p → AllAre Q qs → kinds_with test (present base) (classes (present base) base.literals) p qs ≡ true → Closable node
    with_closes node test Q found p [] f g e = absurd cc
    with_closes node test Q found p (q ∷ qs) f g e =
        or_cases (in_one_class (present base) (classes (present base) base.literals) p.0 q.0 && test p (p.0, q.1)) (kinds_with test (present base) (classes (present base) base.literals) p qs) (Closable node) e
        (λ h. let k = and_both (in_one_class (present base) (classes (present base) base.literals) p.0 q.0) (test p (p.0, q.1)) h in found p q f g.0 k.0 k.1)
        (λ h. with_closes node test Q found p qs f g.1 h)

    kinds_close : (node : Node) (test : Kinded → Kinded → Bool) (Q : Kinded → Type 0) → ((p q : Kinded) → IsGiven base p → Q q → OneClass p.0 q.0 → test p (p.0, q.1) ≡ true → Closable node) → (ps qs : List Kinded) → AllAre (IsGiven base) ps → AllAre Q qs → any_kinds test (present base) (classes (present base) base.literals) ps qs ≡ true → Closable node
    kinds_close node test Q found [] qs f g e = absurd cc
    kinds_close node test Q found (p ∷ ps) qs f g e =
        or_cases (kinds_with test (present base) (classes (present base) base.literals) p qs) (any_kinds test (present base) (classes (present base) base.literals) ps qs) (Closable node) e
        (λ h. with_closes node test Q found p qs f.0 g h) (λ h. kinds_close node test Q found ps qs f.1 g h)

    -- ---- all clashes

    pub clashes_close : clashes base ≡ true → (node : Node) → HasLiterals base node → Closable node
    clashes_close e node more =
        let ts = present base in
        let labels = classes (present base) base.literals in
        let kinds = kinds_by true base.literals ++ own_kinds (present base) in
        let are : AllAre (IsGiven base) (kinds_by true base.literals ++ own_kinds (present base)) = all_both (IsGiven base) (kinds_by true base.literals) (own_kinds (present base)) (given_by_literals base base.literals (all_among base.literals)) (own_are base (present base)) in
        or_cases (any_denies ts labels base.literals) (any_apart ts labels ts || (any_kinds in_two_kinds ts labels kinds kinds || any_kinds in_one_kind ts labels kinds (kinds_by false base.literals))) (Closable node) e
        (λ h. denials_close node base.literals more (all_among base.literals) h)
        (λ h. or_cases (any_apart ts labels ts) (any_kinds in_two_kinds ts labels kinds kinds || any_kinds in_one_kind ts labels kinds (kinds_by false base.literals)) (Closable node) h
        (λ g. apart_closes node ts more (present_sorted base sorted) g)
        (λ g. or_cases (any_kinds in_two_kinds ts labels kinds kinds) (any_kinds in_one_kind ts labels kinds (kinds_by false base.literals)) (Closable node) g
        (λ k. kinds_close node in_two_kinds (IsGiven base) (two_close node more) kinds kinds are are k)
        (λ k. kinds_close node in_one_kind (IsDenied base) (denied_close node more) kinds (kinds_by false base.literals) are (denied_by_literals base base.literals (all_among base.literals)) k)))

-- ---- trees of steps

pub steps_end : (a : List Written) → AreSortedSteps a → AreSortedSteps (a ++ [])
steps_end [] h = tt
steps_end (s ∷ a) h = (h.0, steps_end a h.1)

pub closed_by : (types : List Entry) (node : Node) (s : Written) → after types node s ≡ closed → IsSortedStep s → HasSteps types node
closed_by types node s e h = record { steps = stem s no_trees; closes = ([], e, tt); sorted = (h, tt) }

pub led_by : (types : List Entry) (node below : Node) (s : Written) → after types node s ≡ Some (below ∷ []) → IsSortedStep s → HasSteps types below → HasSteps types node
led_by types node below s e h c = record {
  steps = stem s (tree c.steps no_trees);
  closes = (below ∷ [], e, (c.closes, tt));
  sorted = (h, steps_end (steps_in c.steps) c.sorted);
}

pub trees_close : (types : List Entry) → Steps types (HasSteps types)
trees_close types = record { ends = closed_by types; leads = led_by types }

pub literals_sorted : (ls : List Literal) → AreLiterals ls → AreSortedLiterals ls
literals_sorted [] h = tt
literals_sorted (l ∷ ls) h = (h.0, literals_sorted ls h.1)

pub clashing_nodes_close : ClashesClose
clashing_nodes_close types base node literals pending plain e more = clashes_close types AnyChain (HasSteps types) (any_chains types (HasSteps types) (trees_close types)) base (record { literals = literals_sorted base.literals literals; pending = pending }) AnyTwo (may_link_any base) plain e node more
