-- What marks say behind an assignment, a declaration and a join.
use Rattle.std.proofs.Common.{◌≡◌, ◌⊎◌, inl, inr, ◌+◌, ◌<◌, ◌≤◌, ℕ, zero, suc, Bool, true, false, not, ◌||◌, ◌==◌, nat_lt, cond, List, [], ◌∷◌, ◌++◌, length, get_or, Option, Some, None, refl, sym, ap, ◌∙◌, subst, arith, add-one, length-append}
use Rattle.std.proofs.lemmas.List.{get_or_append_left, get_or_push, get_or_past}
use Rattle.wy_assign.specs.Paths.{Event, Uses, Sets, Unsets}
use Rattle.wy_assign.specs.Assigned.{unset_behind}
use Rattle.wy_assign.specs.Marks.{Marks, has, nowhere, all_set, put_bit, put, assigned, declared, either_bits, longer, joined}
use Rattle.wy_assign.proofs.EventLemmas.{behind}
use Rattle.wy_lemmas.proofs.Choices.{or_none as or_false, or_cases, at_or_past, lt_false, lt_true, false_true as never, by_truth, either, or_either as or_true, by_same}

put_same : (bits : List Bool) (x : ℕ) (b o : Bool) → get_or (put_bit bits x b o) x o ≡ b
put_same [] zero b o = refl
put_same [] (suc x) b o = put_same [] x b o
put_same (c ∷ cs) zero b o = refl
put_same (c ∷ cs) (suc x) b o = put_same cs x b o

put_other : (bits : List Bool) (x y : ℕ) (b o : Bool) → (y ≡ x → ⊥) → get_or (put_bit bits x b o) y o ≡ get_or bits y o
put_other [] zero zero b o ne = absurd (ne refl)
put_other [] zero (suc y) b o ne = refl
put_other [] (suc x) zero b o ne = refl
put_other [] (suc x) (suc y) b o ne = put_other [] x y b o (λ e. ne (ap (λ n. suc n) e))
put_other (c ∷ cs) zero zero b o ne = absurd (ne refl)
put_other (c ∷ cs) zero (suc y) b o ne = refl
put_other (c ∷ cs) (suc x) zero b o ne = refl
put_other (c ∷ cs) (suc x) (suc y) b o ne = put_other cs x y b o (λ e. ne (ap (λ n. suc n) e))

has-put : (s : Marks) (x y : ℕ) (b : Bool) → has (put s y b) x ≡ cond (x == y) b (has s x)
has-put s x y b = by_same x y (λ t. has (put s y b) x ≡ cond t b (has s x))
    (λ e. subst (λ z. has (put s y b) z ≡ b) (sym e) (put_same s.bits y b s.others))
    (λ ne. put_other s.bits y x b s.others ne)

pub has-assigned : (s : Marks) (x y : ℕ) → has (assigned s y) x ≡ cond (x == y) false (has s x)
has-assigned s x y = by_truth (has s y) (λ t. has s y ≡ t → has (cond t (put s y false) s) x ≡ cond (x == y) false (has s x))
    (λ _ _. has-put s x y false)
    (λ _ h. by_same x y (λ t. has s x ≡ cond t false (has s x)) (λ e. ap (λ z. has s z) e ∙ h) (λ _. refl)) refl

-- what is watched at a point: whether a variable may have no value, or None for whether a path gets there
abbrev pub holds : Option ℕ → Marks → Bool
holds None s = s.reached
holds (Some x) s = has s x

-- what may have no value is reached
abbrev pub Sane : Marks → Type 0
Sane s = (w : Option ℕ) → holds w s ≡ true → s.reached ≡ true

pub sane_nowhere : Sane nowhere
sane_nowhere None h = h
sane_nowhere (Some x) h = never h

pub sane_all : Sane all_set
sane_all w h = refl

pub holds-nowhere : (w : Option ℕ) → holds w nowhere ≡ false
holds-nowhere None = refl
holds-nowhere (Some x) = refl

pub dead : (w : Option ℕ) (s : Marks) → Sane s → s.reached ≡ false → holds w s ≡ false
dead w s sane h = by_truth (holds w s) (λ t. holds w s ≡ t → t ≡ false) (λ _ e. sym (sane w e) ∙ h) (λ _ _. refl) refl

reached-cond : (b : Bool) (s : Marks) (x : ℕ) (c : Bool) → (cond b (put s x c) s).reached ≡ s.reached
reached-cond true s x c = refl
reached-cond false s x c = refl

reached-cond_not : (b : Bool) (s : Marks) (x : ℕ) (c : Bool) → (cond b s (put s x c)).reached ≡ s.reached
reached-cond_not true s x c = refl
reached-cond_not false s x c = refl

pub holds-assigned : (w : Option ℕ) (s : Marks) (y : ℕ) → holds w (assigned s y) ≡ behind w (holds w s) (Sets y ∷ [])
holds-assigned None s y = reached-cond (has s y) s y false
holds-assigned (Some x) s y = has-assigned s x y

or_not_true : (b : Bool) → (b || not true) ≡ b
or_not_true true = refl
or_not_true false = refl

or_not_false : (b : Bool) → (b || not false) ≡ true
or_not_false true = refl
or_not_false false = refl

has-declared : (s : Marks) (x y : ℕ) → s.reached ≡ true → has (declared s y) x ≡ cond (x == y) true (has s x)
has-declared s x y r = ap (λ t. has (cond (has s y || not t) s (put s y true)) x) r ∙ ap (λ t. has (cond t s (put s y true)) x) (or_not_true (has s y))
    ∙ by_truth (has s y) (λ t. has s y ≡ t → has (cond t s (put s y true)) x ≡ cond (x == y) true (has s x))
    (λ _ h. by_same x y (λ t. has s x ≡ cond t true (has s x)) (λ e. ap (λ z. has s z) e ∙ h) (λ _. refl))
    (λ _ _. has-put s x y true) refl

pub holds-declared : (w : Option ℕ) (s : Marks) (y : ℕ) → s.reached ≡ true → holds w (declared s y) ≡ behind w (holds w s) (Unsets y ∷ [])
holds-declared None s y r = reached-cond_not (has s y || not s.reached) s y true
holds-declared (Some x) s y r = has-declared s x y r

-- where no path gets, nothing is said
pub dead-declared : (w : Option ℕ) (s : Marks) (y : ℕ) → Sane s → s.reached ≡ false → holds w (declared s y) ≡ false
dead-declared w s y sane r = ap (λ t. holds w (cond (has s y || not t) s (put s y true))) r ∙ ap (λ t. holds w (cond t s (put s y true))) (or_not_false (has s y)) ∙ dead w s sane r

-- ---- joins

length-either : (a b : Marks) (n : ℕ) → length (either_bits a b n) ≡ n
length-either a b zero = refl
length-either a b (suc n) = let h = length-either a b n in omega (arith, length-append {A = Bool}, h)

either_at : (a b : Marks) (n x : ℕ) (d : Bool) → x < n → get_or (either_bits a b n) x d ≡ (has a x || has b x)
either_at a b zero x d h = absurd (omega arith)
either_at a b (suc n) x d h = by_same x n (λ t. (x == n) ≡ t → get_or (either_bits a b (suc n)) x d ≡ (has a x || has b x))
    (λ e _. subst (λ z. get_or (either_bits a b n ++ (has a n || has b n) ∷ []) z d ≡ (has a z || has b z)) (sym e) (get_or_push (either_bits a b n) (has a n || has b n) d n (length-either a b n)))
    (λ ne _. let l = length-either a b n in let lt : x < length (either_bits a b n) = omega arith in
    get_or_append_left (either_bits a b n) ((has a n || has b n) ∷ []) d x lt ∙ either_at a b n x d (omega arith)) refl

longer_left : (n m : ℕ) → n ≤ longer n m
longer_left n m = by_truth (nat_lt n m) (λ t. nat_lt n m ≡ t → n ≤ cond t m n) (λ _ h. let lt = lt_true n m h in omega arith) (λ _ _. omega arith) refl

longer_right : (n m : ℕ) → m ≤ longer n m
longer_right n m = by_truth (nat_lt n m) (λ t. nat_lt n m ≡ t → m ≤ cond t m n) (λ _ _. omega arith) (λ _ h. lt_false n m h) refl

abbrev both : Marks → Marks → Marks
both a b = record { reached = true; others = a.others || b.others; bits = either_bits a b (longer (length a.bits) (length b.bits)) }

has-both : (a b : Marks) (x : ℕ) → has (both a b) x ≡ (has a x || has b x)
has-both a b x =
    let n = longer (length a.bits) (length b.bits) in
    let l = longer_left (length a.bits) (length b.bits) in
    let r = longer_right (length a.bits) (length b.bits) in
    either (λ (h : x < n). either_at a b n x (a.others || b.others) h)
    (λ (h : n ≤ x).
    let la : length a.bits ≤ x = omega arith in
    let lb : length b.bits ≤ x = omega arith in
    let ln : length (either_bits a b n) ≤ x = (let e = length-either a b n in omega arith) in
    get_or_past (either_bits a b n) x (a.others || b.others) ln
    ∙ sym (ap (λ p. p || has b x) (get_or_past a.bits x a.others la) ∙ ap (λ p. a.others || p) (get_or_past b.bits x b.others lb)))
    (at_or_past x n)

pub holds-joined : (w : Option ℕ) (a b : Marks) → Sane a → Sane b → holds w (joined a b) ≡ (holds w a || holds w b)
holds-joined w a b sa sb = by_truth b.reached (λ t. b.reached ≡ t → holds w (cond t (cond a.reached (both a b) b) a) ≡ (holds w a || holds w b))
    (λ _ rb. by_truth a.reached (λ t. a.reached ≡ t → holds w (cond t (both a b) b) ≡ (holds w a || holds w b))
    (λ _ ra. met w ra) (λ _ ra. sym (ap (λ p. p || holds w b) (dead w a sa ra))) refl)
    (λ _ rb. sym (ap (λ p. holds w a || p) (dead w b sb rb) ∙ or_false (holds w a))) refl
  where
    met : (v : Option ℕ) → a.reached ≡ true → holds v (both a b) ≡ (holds v a || holds v b)
    met None ra = sym (ap (λ p. p || b.reached) ra)
    met (Some x) ra = has-both a b x

pub joined_of : (w : Option ℕ) (a b : Marks) → Sane a → Sane b → holds w (joined a b) ≡ true → (holds w a ≡ true) ⊎ (holds w b ≡ true)
joined_of w a b sa sb h = or_cases (holds w a) (holds w b) (sym (holds-joined w a b sa sb) ∙ h)

pub joined_to : (w : Option ℕ) (a b : Marks) → Sane a → Sane b → (holds w a ≡ true) ⊎ (holds w b ≡ true) → holds w (joined a b) ≡ true
joined_to w a b sa sb h = holds-joined w a b sa sb ∙ or_true (holds w a) (holds w b) h

pub sane_joined : (a b : Marks) → Sane a → Sane b → Sane (joined a b)
sane_joined a b sa sb w h = joined_to None a b sa sb (either (λ e. inl (sa w e)) (λ e. inr (sb w e)) (joined_of w a b sa sb h))
