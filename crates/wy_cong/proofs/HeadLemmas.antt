-- Terms of other heads, or of other numbers of arguments.
use Rattle.std.proofs.Common.{◌≡◌, ◌∙◌, ◌&&◌, ℕ, suc, List, [], ◌∷◌, length, Bool, true, false, not, cond, Option, Some, None, refl, sym, ap}
use Rattle.wy_lemmas.proofs.Choices.{and_false, both_parts as both}
use Rattle.wy_term.specs.Term.{Symbol, Term, Of, part, no_parts}
use Rattle.wy_term.specs.Nodes.{Plain, grown, parts_at}
use Rattle.wy_term.specs.Same.{same_symbol}
use Rattle.wy_term.proofs.SameLemmas.{symbols_are}
use Rattle.wy_search_spec.specs.Classes.{in_one_class, arguments_equal, are_congruent, joined, label_of, place_from, with_congruent, with_equal}
use Rattle.wy_cong.proofs.LabelLemmas.{joined_self}
use Rattle.wy_cong.specs.Heads.{tag_of, pair_joined, BeginsWith}

abbrev over : List Term → List ℕ → (ℕ → Term) → List ℕ → List ℕ → Bool
over ts labels at ss us = arguments_equal ts labels (parts_at at ss) (parts_at at us)

uneven : (ts : List Term) (labels : List ℕ) (at : ℕ → Term) (ss us : List ℕ) → (length ss ≡ length us → ⊥) → over ts labels at ss us ≡ false
uneven ts labels at [] [] apart = absurd (apart refl)
uneven ts labels at [] (u ∷ us) apart = refl
uneven ts labels at (s ∷ ss) [] apart = refl
uneven ts labels at (s ∷ ss) (u ∷ us) apart = ap (λ (b : Bool). in_one_class ts labels (at s) (at u) && b) (uneven ts labels at ss us (λ e. apart (ap suc e))) ∙ and_false (in_one_class ts labels (at s) (at u))

grown_both : (ts : List Term) (labels : List ℕ) (at : ℕ → Term) (s t : Term) (p q : Plain) → s ≡ grown at p → t ≡ grown at q → are_congruent ts labels s t ≡ (same_symbol p.symbol q.symbol && over ts labels at p.parts q.parts)
grown_both ts labels at s t p q e f = ap (λ (u : Term). are_congruent ts labels u t) e ∙ ap (λ (u : Term). are_congruent ts labels (grown at p) u) f

-- terms with other numbers of arguments aren't congruent
pub other_length : (ts : List Term) (labels : List ℕ) (at : ℕ → Term) (s t : Term) (p q : Plain) → s ≡ grown at p → t ≡ grown at q → (length p.parts ≡ length q.parts → ⊥) → false ≡ are_congruent ts labels s t
other_length ts labels at s t p q e f apart =
    sym (grown_both ts labels at s t p q e f ∙ (ap (λ (b : Bool). same_symbol p.symbol q.symbol && b) (uneven ts labels at p.parts q.parts apart) ∙ and_false (same_symbol p.symbol q.symbol)))

other_symbol : (a b : Symbol) → (tag_of a ≡ tag_of b → ⊥) → same_symbol a b ≡ false
other_symbol a b apart = by (same_symbol a b) refl
  where
    by : (c : Bool) → same_symbol a b ≡ c → c ≡ false
    by true e = absurd (apart (ap tag_of (symbols_are a b e)))
    by false e = refl

-- terms of other kinds of nodes aren't congruent
pub other_tag : (ts : List Term) (labels : List ℕ) (at : ℕ → Term) (s t : Term) (p q : Plain) → s ≡ grown at p → t ≡ grown at q → (tag_of p.symbol ≡ tag_of q.symbol → ⊥) → false ≡ are_congruent ts labels s t
other_tag ts labels at s t p q e f apart =
    sym (grown_both ts labels at s t p q e f ∙ ap (λ (b : Bool). b && over ts labels at p.parts q.parts) (other_symbol p.symbol q.symbol apart))

parted : (ts : List Term) (labels : List ℕ) (at : ℕ → Term) (ss us : List ℕ) (j k : ℕ) → BeginsWith ss j → BeginsWith us k → in_one_class ts labels (at j) (at k) ≡ false → over ts labels at ss us ≡ false
parted ts labels at [] us j k first second apart = absurd (cc)
parted ts labels at (s ∷ ss) [] j k first second apart = absurd (cc)
parted ts labels at (s ∷ ss) (u ∷ us) j k first second apart =
    ap (λ (m : ℕ). in_one_class ts labels (at m) (at u) && over ts labels at ss us) (some_is s j first)
    ∙ ap (λ (m : ℕ). in_one_class ts labels (at j) (at m) && over ts labels at ss us) (some_is u k second)
    ∙ ap (λ (b : Bool). b && over ts labels at ss us) apart
  where
    some_is : (x y : ℕ) → Some x ≡ Some y → x ≡ y
    some_is x y e = cc

-- terms whose first arguments are in two classes aren't congruent
pub other_first : (ts : List Term) (labels : List ℕ) (at : ℕ → Term) (s t : Term) (p q : Plain) (j k : ℕ) (r : Bool) → s ≡ grown at p → t ≡ grown at q → BeginsWith p.parts j → BeginsWith q.parts k → r ≡ in_one_class ts labels (at j) (at k) → not r ≡ true → are_congruent ts labels s t ≡ false
other_first ts labels at s t p q j k r e f first second is apart =
    grown_both ts labels at s t p q e f
    ∙ (ap (λ (b : Bool). same_symbol p.symbol q.symbol && b) (parted ts labels at p.parts q.parts j k first second (sym is ∙ un_not r apart)) ∙ and_false (same_symbol p.symbol q.symbol))
  where
    un_not : (b : Bool) → not b ≡ true → b ≡ false
    un_not true h = absurd (cc)
    un_not false h = refl

-- ---- terms without arguments

bare_is : (ts : List Term) (labels : List ℕ) (a : Symbol) (t : Term) → are_congruent ts labels (Of a no_parts) t ≡ true → Of a no_parts ≡ t
bare_is ts labels a (Of b no_parts) e = ap (λ (c : Symbol). Of c no_parts) (symbols_are a b (both (same_symbol a b) true e).0)
bare_is ts labels a (Of b (part t qs)) e = absurd (apart (both (same_symbol a b) false e).1)
  where
    apart : false ≡ true → ⊥
    apart f = absurd (cc)

joined_one : (labels : List ℕ) (o : Option ℕ) → joined labels o o ≡ labels
joined_one labels None = refl
joined_one labels (Some l) = sym (joined_self labels l l (Some l) (Some l) refl refl refl)

bare_joined : (ts : List Term) (labels : List ℕ) (a : Symbol) (t : Term) → pair_joined ts labels (Of a no_parts) t ≡ labels
bare_joined ts labels a t = by (are_congruent ts labels (Of a no_parts) t) refl
  where
    by : (b : Bool) → are_congruent ts labels (Of a no_parts) t ≡ b → cond b (with_equal ts labels (Of a no_parts) t) labels ≡ labels
    by true e = ap (with_equal ts labels (Of a no_parts)) (sym (bare_is ts labels a t e)) ∙ joined_one labels (label_of labels (place_from ts (Of a no_parts) 0))
    by false e = refl

bare_all : (ts : List Term) (labels : List ℕ) (a : Symbol) (us : List Term) → with_congruent ts labels (Of a no_parts) us ≡ labels
bare_all ts labels a [] = refl
bare_all ts labels a (t ∷ us) = ap (λ (ls : List ℕ). with_congruent ts ls (Of a no_parts) us) (bare_joined ts labels a t) ∙ bare_all ts labels a us

-- a term without arguments is congruent to itself alone
pub bare_stays : (ts : List Term) (labels : List ℕ) (at : ℕ → Term) (s : Term) (p : Plain) (us : List Term) → s ≡ grown at p → p.parts ≡ [] → labels ≡ with_congruent ts labels s us
bare_stays ts labels at s p us e none =
    sym (ap (λ (t : Term). with_congruent ts labels t us) (e ∙ ap (λ (ks : List ℕ). Of p.symbol (parts_at at ks)) none) ∙ bare_all ts labels p.symbol us)
