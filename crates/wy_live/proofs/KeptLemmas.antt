-- What sets of words show behind each change.
use Rattle.std.proofs.Common.{◌≡◌, ◌<◌, ◌≤◌, ℕ, suc, Bool, true, false, not, ◌&&◌, ◌||◌, ◌==◌, nat_lt, cond, List, length, refl, sym, ap, ◌∙◌, arith}
use Rattle.std.proofs.lemmas.Bool.{cases_lt}
use Rattle.std.proofs.lemmas.List.{get_or_past}
use Rattle.wy_lemmas.proofs.Choices.{lt_false, lt_true, false_true as never, by_truth, either}
use Rattle.wy_live.specs.declared.words.Word.{Word}
use Rattle.wy_live.specs.Apart.{IsNext}
use Rattle.wy_live.specs.Lost.{is_lost, NoneLost}
use Rattle.wy_live.specs.Sets.{Variables, has, put, with, without, longer, joined}
use Rattle.wy_live.specs.Words.{in_words, shown, Kept}
use Rattle.wy_live.proofs.SetLemmas.{has-with, has-without, has-joined, length-either}
use Rattle.wy_live.proofs.ShownLemmas.{length_shown, has_shown, shown_is, length_put_within, length_put_behind}

length_put : (s : Variables) (x : ℕ) (b : Bool) → length (put s x b) ≡ longer (length s) (suc x)
length_put s x b = by_truth (nat_lt (length s) (suc x)) (λ t. nat_lt (length s) (suc x) ≡ t → length (put s x b) ≡ cond t (suc x) (length s))
    (λ _ e. let l = lt_true (length s) (suc x) e in length_put_behind s x b (omega (arith, l)))
    (λ _ e. let l = lt_false (length s) (suc x) e in length_put_within s x b (omega (arith, l))) refl

has_within : (s : Variables) (x : ℕ) → has s x ≡ true → x < length s
has_within s x e = either (λ (l : x < length s). l) (λ (g : length s ≤ x). never (sym (get_or_past s x false g) ∙ e)) (cases_lt x (length s))

length_without : (s : Variables) (x : ℕ) → length (without s x) ≡ length s
length_without s x = by_truth (has s x) (λ t. has s x ≡ t → length (cond t (put s x false) s) ≡ length s) (λ _ e. length_put_within s x false (has_within s x e)) (λ _ _. refl) refl

module _ (old : List Word) (n : ℕ) (kept : Kept old n) (new : List Word) (x : ℕ) where
  pub shown_with : ((y : ℕ) → in_words new y ≡ (y == x || in_words old y)) → shown new (longer n (suc x)) ≡ with (shown old n) x
  shown_with value = shown_is new (longer n (suc x)) (put (shown old n) x true)
      (length_put (shown old n) x true ∙ ap (λ k. longer k (suc x)) (length_shown old n))
      (λ y. value y ∙ (ap (λ b. y == x || b) (sym (has_shown old n kept.within y)) ∙ sym (has-with (shown old n) y x)))

  pub shown_without : ((y : ℕ) → in_words new y ≡ (not (y == x) && in_words old y)) → shown new n ≡ without (shown old n) x
  shown_without value = shown_is new n (without (shown old n) x)
      (length_without (shown old n) x ∙ length_shown old n)
      (λ y. value y ∙ (ap (λ b. not (y == x) && b) (sym (has_shown old n kept.within y)) ∙ sym (has-without (shown old n) y x)))

module _ (a b : List Word) (n m : ℕ) (one : Kept a n) (other : Kept b m) where
  pub shown_joined : (ws : List Word) → ((y : ℕ) → in_words ws y ≡ (in_words a y || in_words b y)) → shown ws (longer n m) ≡ joined (shown a n) (shown b m)
  shown_joined ws value = shown_is ws (longer n m) (joined (shown a n) (shown b m))
      (length-either (shown a n) (shown b m) (longer (length (shown a n)) (length (shown b m))) ∙ (ap (λ k. longer k (length (shown b m))) (length_shown a n) ∙ ap (λ k. longer n k) (length_shown b m)))
      (λ y. value y ∙ (ap (λ t. t || in_words b y) (sym (has_shown a n one.within y)) ∙ (ap (λ t. has (shown a n) y || t) (sym (has_shown b m other.within y)) ∙ sym (has-joined (shown a n) (shown b m) y))))

  lost_words : (y : ℕ) → is_lost (shown a n) (shown b m) y ≡ (in_words a y && not (in_words b y))
  lost_words y = ap (λ t. t && not (has (shown b m) y)) (has_shown a n one.within y) ∙ ap (λ t. in_words a y && not t) (has_shown b m other.within y)

  not_lost : (p q : Bool) → (p ≡ true → q ≡ true) → (p && not q) ≡ false
  not_lost true q f = ap (λ t. not t) (f refl)
  not_lost false q f = refl

  pub next_within : (from x : ℕ) → IsNext a b from x → x < n
  next_within from x next = either (λ (l : x < n). l) (λ (g : n ≤ x). never (sym (one.within x g) ∙ next.in_one)) (cases_lt x n)

  pub next_lost_so : (from x : ℕ) → IsNext a b from x → is_lost (shown a n) (shown b m) x ≡ true
  next_lost_so from x next = lost_words x ∙ (ap (λ t. t && not (in_words b x)) next.in_one ∙ ap (λ t. not t) next.not_in_other)

  pub none_between : (from to : ℕ) → ((y : ℕ) → from ≤ y → y < to → in_words a y ≡ true → in_words b y ≡ true) → NoneLost (shown a n) (shown b m) from to
  none_between from to f y l r = lost_words y ∙ not_lost (in_words a y) (in_words b y) (f y l r)
