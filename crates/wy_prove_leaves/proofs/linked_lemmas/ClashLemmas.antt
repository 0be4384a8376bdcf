-- A clash of a node is one of each that has its literals, by other numbers.
use Rattle.std.proofs.Common.{◌≡◌, ◌∙◌, ◌<◌, ◌≤◌, ◌-◌, ℕ, zero, suc, List, [], ◌∷◌, length, Bool, true, cond, Option, Some, None, refl, ap, sym, subst, arith}
use Rattle.std.specs.Prelude.{slice_get}
use Rattle.std.proofs.Math.Dec.{eqb-suc-zero}
use Rattle.wy_prove_drafts.specs.wy_check_spec.judge.Node.{Literal, Node, has_literal}
use Rattle.wy_lemmas.proofs.Options.{some_same as some_is}
use Rattle.wy_lin.specs.Linear.{◌>>=◌}
use Rattle.wy_lin.proofs.OptionLemmas.{bind_some}
use Rattle.wy_prove_drafts.specs.wy_check_spec.valid.Literals.{literal_at}
use Rattle.wy_prove_drafts.specs.wy_check_spec.valid.Kinds.{clashes_alone, clash_together}
use Rattle.wy_prove_drafts.specs.wy_check_spec.valid.Validity.{is_clash}
use Rattle.wy_prove_drafts.specs.wy_search_laws.chains.Chains.{HasLiterals}
use Rattle.wy_prove_drafts.proofs.wy_search_laws_proofs.chains_lemmas.LiteralLemmas.{has_first, has_later, numbered}
use Rattle.wy_prove_leaves.specs.linked.Ended.{ClashesWithNone, NoTwoClash, NoneClashes}
use Rattle.wy_prove_leaves.proofs.linked_lemmas.KindLemmas.{together_more}

-- ---- literals by their numbers

nth_there : (ls : List Literal) (k : ℕ) (l : Literal) → slice_get ls k ≡ Some l → has_literal ls l ≡ true
nth_there [] k l e = absurd cc
nth_there (m ∷ ls) zero l e = subst (λ (x : Literal). has_literal (m ∷ ls) x ≡ true) (some_is m l e) (has_first m ls)
nth_there (m ∷ ls) (suc k) l e = has_later m l ls (nth_there ls k l e)

above : (ls : List Literal) (i : ℕ) (l : Literal) → literal_at ls (suc i) ≡ Some l → slice_get ls i ≡ Some l
above ls i l e =
    let back : suc i - 1 ≡ i = omega arith in
    sym (ap (slice_get ls) back) ∙ (sym (ap (λ (b : Bool). cond b None (slice_get ls (suc i - 1))) (eqb-suc-zero i)) ∙ e)

numbered_there : (ls : List Literal) (i : ℕ) (l : Literal) → literal_at ls i ≡ Some l → has_literal ls l ≡ true
numbered_there ls zero l e = absurd cc
numbered_there ls (suc i) l e = nth_there ls i l (above ls i l e)

-- ---- clashes

alone_is : (ls : List Literal) (i : ℕ) → is_clash ls i None ≡ Some true → (l : Literal) × (literal_at ls i ≡ Some l) × (clashes_alone l ≡ true)
alone_is ls i e = let h = bind_some (literal_at ls i) (λ l. Some (clashes_alone l)) true e in (h.0, h.1, some_is (clashes_alone h.0) true h.2)

-- two literals by their numbers, which clash
record AreClashing (ls : List Literal) (i j : ℕ) : Type 0 where
  first : Literal
  second : Literal
  here : literal_at ls i ≡ Some first
  there : literal_at ls j ≡ Some second
  clash : clash_together ls first second ≡ true

together_is : (ls : List Literal) (i j : ℕ) → is_clash ls i (Some j) ≡ Some true → AreClashing ls i j
together_is ls i j e =
    let h = bind_some (literal_at ls i) (λ l. literal_at ls j >>= λ k. Some (clash_together ls l k)) true e in
    let g = bind_some (literal_at ls j) (λ k. Some (clash_together ls h.0 k)) true h.2 in
    record { first = h.0; second = g.0; here = h.1; there = g.1; clash = some_is (clash_together ls h.0 g.0) true g.2 }

alone_of : (ls : List Literal) (i : ℕ) (l : Literal) → literal_at ls i ≡ Some l → clashes_alone l ≡ true → is_clash ls i None ≡ Some true
alone_of ls i l is e = ap (λ (o : Option Literal). o >>= λ k. Some (clashes_alone k)) is ∙ ap (λ (b : Bool). Some b) e

together_of : (ls : List Literal) (i j : ℕ) (l k : Literal) → literal_at ls i ≡ Some l → literal_at ls j ≡ Some k → clash_together ls l k ≡ true → is_clash ls i (Some j) ≡ Some true
together_of ls i j l k is it e =
    ap (λ (o : Option Literal). o >>= λ x. literal_at ls j >>= λ y. Some (clash_together ls x y)) is
    ∙ (ap (λ (o : Option Literal). o >>= λ y. Some (clash_together ls l y)) it ∙ ap (λ (b : Bool). Some b) e)

-- none of a node is one of a node that none of more literals clash in
pub none_less : (n m : Node) → HasLiterals n m → NoneClashes m.literals → NoTwoClash m.literals → (i : ℕ) (other : Option ℕ) → is_clash n.literals i other ≡ Some true → ⊥
none_less n m more alone together i None e =
    let h = alone_is n.literals i e in
    let k = numbered m.literals h.0 (more.has h.0 (numbered_there n.literals i h.0 h.1)) in
    alone k.number (alone_of m.literals k.number h.0 k.is h.2)
none_less n m more alone together i (Some j) e =
    let h = together_is n.literals i j e in
    let k = numbered m.literals h.first (more.has h.first (numbered_there n.literals i h.first h.here)) in
    let o = numbered m.literals h.second (more.has h.second (numbered_there n.literals j h.second h.there)) in
    together k.number o.number (together_of m.literals k.number o.number h.first h.second k.is o.is (together_more n m more h.first h.second h.clash))

-- ---- numbers that were tried, one after the other

within : (ls : List Literal) (k : ℕ) (l : Literal) → slice_get ls k ≡ Some l → k < length ls
within [] k l e = absurd cc
within (m ∷ ls) zero l e = omega arith
within (m ∷ ls) (suc k) l e = omega (arith, within ls k l e)

-- a literal's number is the one above its place
pub number_within : (ls : List Literal) (i : ℕ) (l : Literal) → literal_at ls i ≡ Some l → (k : ℕ) × (k < length ls) × (i ≡ suc k)
number_within ls zero l e = absurd cc
number_within ls (suc i) l e = (i, within ls i l (above ls i l e), refl)

-- so where none up to the last clashes, none does
pub none_alone : (ls : List Literal) (n : ℕ) → length ls ≤ n → ((i : ℕ) → i < n → is_clash ls (suc i) None ≡ Some true → ⊥) → NoneClashes ls
none_alone ls n le far i e =
    let h = alone_is ls i e in
    let k = number_within ls i h.0 h.1 in
    far k.0 (omega (arith, k.1, le)) (subst (λ (j : ℕ). is_clash ls j None ≡ Some true) k.2 e)

pub none_with : (ls : List Literal) (i n : ℕ) → length ls ≤ n → ((j : ℕ) → j < n → is_clash ls i (Some (suc j)) ≡ Some true → ⊥) → ClashesWithNone ls i
none_with ls i n le far j e =
    let h = together_is ls i j e in
    let k = number_within ls j h.second h.there in
    far k.0 (omega (arith, k.1, le)) (subst (λ (o : ℕ). is_clash ls i (Some o) ≡ Some true) k.2 e)

pub none_together : (ls : List Literal) (n : ℕ) → length ls ≤ n → ((i : ℕ) → i < n → ClashesWithNone ls (suc i)) → NoTwoClash ls
none_together ls n le far i j e =
    let h = together_is ls i j e in
    let k = number_within ls i h.first h.here in
    far k.0 (omega (arith, k.1, le)) j (subst (λ (o : ℕ). is_clash ls o (Some j) ≡ Some true) k.2 e)
