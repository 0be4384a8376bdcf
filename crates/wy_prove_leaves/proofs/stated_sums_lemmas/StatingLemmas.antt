-- A cut that is written: the node has the bound that it states, and that has a number.
use Rattle.std.proofs.Common.{◌≡◌, ◌∙◌, ℕ, List, [], ◌∷◌, ◌++◌, map, Bool, true, false, cond, ℤ, Option, Some, None, refl, sym, ap, subst}
use Rattle.std.specs.Prelude.{unsigned_abs, ◌==◌, IfNone, IfOk, IfSome, Result, Ok, Err}
use Rattle.std.proofs.lemmas.List.{append-nil}
use Rattle.wy_term.specs.Term.{Term, two, at_most}
use Rattle.wy_term.specs.Condition.{Entry}
use Rattle.wy_lin.specs.Linear.{◌>>=◌, Linear}
use Rattle.wy_lin.specs.Seen.{seen, seen_part}
use Rattle.wy_prove_drafts.specs.wy_check_spec.judge.Node.{Literal, Node, has_literal, with_literal}
use Rattle.wy_cert.specs.Steps.{cut}
use Rattle.wy_prove_drafts.specs.wy_check_spec.valid.Literals.{literal_at}
use Rattle.wy_prove_drafts.specs.wy_check_spec.valid.Sums.{summed, cut_of}
use Rattle.wy_prove_drafts.specs.wy_check_spec.valid.Validity.{after, left_with_one}
use Rattle.wy_lin_eliminate.specs.Division.{gcd, common_from, common}
use Rattle.wy_search_spec.specs.Bounds.{all_fit}
use Rattle.wy_prove_drafts.specs.Progress.{Progress, Writes}
use Rattle.wy_prove_drafts.proofs.wy_search_laws_proofs.chains_lemmas.LiteralLemmas.{literal_there}
use Rattle.wy_prove_leaves.specs.stated_sums.Named.{holding, HasNumber}
use Rattle.wy_prove_leaves.specs.stated_sums.Cuts.{Appends, cut_among, States, StatesCut, twice, ArePairs, StatesBy, StatesDivided}

-- ---- a literal more

with_appends : (node : Node) (l : Literal) → Appends node (with_literal node l)
with_appends node l = by (has_literal node.literals l)
  where
    by : (b : Bool) → Appends node (cond b node (record { literals = node.literals ++ l ∷ []; pending = node.pending }))
    by true = record { more = []; literals = sym (append-nil node.literals); pending = refl }
    by false = record { more = l ∷ []; literals = refl; pending = refl }

-- the two clauses on a number that is looked up
number_is : (ls : List Literal) (l : Literal) (o : Option ℕ) → IfSome o (λ k. literal_at ls k ≡ Some l) → IfNone o (has_literal ls l ≡ false) → HasNumber ls l o
number_is ls l None there lacking = lacking
number_is ls l (Some k) there lacking = there

pub ok_both : {X E : Type 0} (r : Result X E) (P Q R : X → Type 0) → ((x : X) → P x → Q x → R x) → IfOk r P → IfOk r Q → IfOk r R
ok_both (Ok x) P Q R f p q = f x p q
ok_both (Err e) P Q R f p q = tt

pub has_number : {E : Type 0} (ls : List Literal) (l : Literal) (r : Result (Option ℕ) E) → IfOk r (λ o. IfSome o (λ k. literal_at ls k ≡ Some l)) → IfOk r (λ o. IfNone o (has_literal ls l ≡ false)) → IfOk r (HasNumber ls l)
has_number ls l r there lacking = ok_both r (λ o. IfSome o (λ k. literal_at ls k ≡ Some l)) (λ o. IfNone o (has_literal ls l ≡ false)) (HasNumber ls l) (number_is ls l) there lacking

-- ---- what a cut states

one_node : (x y : Node) → Some (x ∷ []) ≡ Some (y ∷ []) → x ≡ y
one_node x y e = cc

cut_after : (node : Node) (d : ℕ) (o : Option (Linear Term)) (a : Term) → (o >>= λ f. cut_of d f) ≡ Some a → (o >>= λ f. cut_of d f >>= left_with_one node) ≡ left_with_one node a
cut_after node d None a e = absurd cc
cut_after node d (Some f) a e = ap (λ (x : Option Term). x >>= left_with_one node) e

same_atom : (a b : Term) → Some a ≡ Some b → a ≡ b
same_atom a b e = cc

module _ (types : List Entry) (old new : Progress) (d : ℕ) (pairs : List (ℕ × ℕ)) (s t : Term) (is : cut_among old.node.literals d pairs ≡ Some (two at_most s t)) where
  cut_leads : after types old.node (cut d pairs) ≡ Some (with_literal old.node (holding (two at_most s t)) ∷ [])
  cut_leads = cut_after old.node d (summed old.node.literals pairs) (two at_most s t) is

  new_is : after types old.node (cut d pairs) ≡ Some (new.node ∷ []) → with_literal old.node (holding (two at_most s t)) ≡ new.node
  new_is e = one_node (with_literal old.node (holding (two at_most s t))) new.node (sym cut_leads ∙ e)

  number_states : (o : Option ℕ) (yes : Bool) → Writes types (cut d pairs) old new yes → HasNumber new.node.literals (holding (two at_most s t)) o → States types (two at_most s t) old new o
  number_states o false writes number = absurd (let none : Some (with_literal old.node (holding (two at_most s t)) ∷ []) ≡ None = sym cut_leads ∙ writes.0 in cc)
  number_states None true writes number =
      let there : has_literal new.node.literals (holding (two at_most s t)) ≡ true = subst (λ (n : Node). has_literal n.literals (holding (two at_most s t)) ≡ true) (new_is writes.0) (literal_there old.node (holding (two at_most s t))) in
      let up : true ≡ false = sym there ∙ number in
      absurd cc
  number_states (Some k) true writes number = (
    record { goes = writes.1 tt; appends = subst (λ (n : Node). Appends old.node n) (new_is writes.0) (with_appends old.node (holding (two at_most s t))) },
    number,
  )

pub cut_numbered : (types : List Entry) (old new : Progress) (d : ℕ) (pairs : List (ℕ × ℕ)) (a : Term) (o : Option ℕ) (yes : Bool) → Some a ≡ cut_among old.node.literals d pairs → Writes types (cut d pairs) old new yes → HasNumber new.node.literals (holding a) o → StatesCut types d pairs old new o
cut_numbered types old new d pairs a o wrote is writes number s t e =
    let same : a ≡ two at_most s t = same_atom a (two at_most s t) (is ∙ e) in
    number_states types old new d pairs s t e o wrote writes (subst (λ (x : Term). HasNumber new.node.literals (holding x) o) same number)

-- ---- the common divisor of a sum

common_of : ℕ → List ℤ → ℕ
unfolding gcd
common_of g [] = g
common_of g (c ∷ cs) = common_of (gcd g (unsigned_abs c)) cs

commons : (at : ℕ → Term) (g : ℕ) (ps : List (ℤ × ℕ)) → common_from g ps ≡ common_of g (map (λ (p : ℤ × Term). p.0) (map (seen_part at) ps))
unfolding common_of
commons at g [] = refl
commons at g (p ∷ ps) = commons at (gcd g (unsigned_abs p.0)) ps

-- forms that are seen as one have one common divisor
same_common : (at bt : ℕ → Term) (f g : Linear ℕ) → seen at f ≡ seen bt g → common f.parts ≡ common g.parts
same_common at bt f g e =
    commons at 0 f.parts ∙ (ap (λ (h : Linear Term). common_of 0 (map (λ (p : ℤ × Term). p.0) h.parts)) e ∙ sym (commons bt 0 g.parts))

same_form : (f g : Linear Term) → Some f ≡ Some g → f ≡ g
same_form f g e = cc

pub divided_stated : (types : List Entry) (old new : Progress) (pairs : List (ℕ × ℕ)) (at : ℕ → Term) (sum : Linear ℕ) (o : Option ℕ) → Some (seen at sum) ≡ summed old.node.literals pairs → StatesBy (common sum.parts == 1) types (common sum.parts) pairs old new o → StatesDivided types pairs old new o
divided_stated types old new pairs at sum o is states bt f e =
    subst (λ (d : ℕ). StatesBy (d == 1) types d pairs old new o) (same_common at bt sum f (same_form (seen at sum) (seen bt f) (is ∙ e))) states

-- where the doubled pairs are these, the cut of them is that of the doubled ones
pub twice_states : (types : List Entry) (old new : Progress) (pairs ps made : List (ℕ × ℕ)) (q : Option (List (ℕ × ℕ))) (o : Option ℕ) → ps ≡ pairs → q ≡ Some made → (all_fit (twice ps) ≡ true → ArePairs (twice ps) q) → StatesCut types 2 made old new o → all_fit (twice pairs) ≡ true → StatesCut types 2 (twice pairs) old new o
twice_states types old new pairs ps made q o same is are states fits =
    let made_is : made ≡ twice ps = subst (λ (p : Option (List (ℕ × ℕ))). ArePairs (twice ps) p) is (are (subst (λ (qs : List (ℕ × ℕ)). all_fit (twice qs) ≡ true) (sym same) fits)) in
    subst (λ (qs : List (ℕ × ℕ)). StatesCut types 2 qs old new o) (made_is ∙ ap twice same) states
