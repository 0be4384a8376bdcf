-- Literals that stand both ways, one after the other: one of the two is denied.
use Rattle.std.proofs.Common.{◌≡◌, ◌+◌, ◌&&◌, ◌||◌, ℕ, List, [], ◌∷◌, map, drop, Bool, true, false, not, cond, Some, refl, sym, ap, ◌∙◌}
use Rattle.std.specs.Bool.{beq}
use Rattle.std.specs.Prelude.{slice_get}
use Rattle.wy_lemmas.proofs.Choices.{bits_self as bit_self, both_parts as both, bits_are, or_left as first_true, both_true as two_true, or_right as second_true}
use Rattle.wy_lemmas.proofs.Lists.{get_here as drop_here}
use Rattle.wy_check_spec.proofs.wy_term_proofs.SameLemmas.{terms_are, terms_self}
use Rattle.wy_check_spec.specs.wy_term.Same.{same_term}
use Rattle.wy_check_spec.specs.wy_term.Term.{Term}
use Rattle.wy_check_spec.specs.judge.Node.{Literal, has_literal, same_literal}
use Rattle.wy_check_nodes.specs.Denied.{any_denied}
use Rattle.wy_check_nodes.specs.Seen.{seen_literal}
use Rattle.wy_check_spec.specs.valid.Literals.{stands_both_ways}

-- ---- one after the other

-- the literal is denied, and its atom holds too
abbrev pub holds_too : List Literal → (ℕ → Term) → ℕ × Bool → Bool
holds_too all at p = not p.1 && has_literal all (seen_literal at (p.0, true))

step : (all : List Literal) (at : ℕ → Term) (ps : List (ℕ × Bool)) (i : ℕ) (p : ℕ × Bool) → slice_get ps i ≡ Some p → any_denied all (map (seen_literal at) (drop i ps)) ≡ (holds_too all at p || any_denied all (map (seen_literal at) (drop (i + 1) ps)))
step all at ps i p e = ap (λ (qs : List (ℕ × Bool)). any_denied all (map (seen_literal at) qs)) (drop_here ps i p e)

pub both_now : (all : List Literal) (at : ℕ → Term) (ps : List (ℕ × Bool)) (i : ℕ) (p : ℕ × Bool) (total : Bool) → slice_get ps i ≡ Some p → any_denied all (map (seen_literal at) (drop i ps)) ≡ total → holds_too all at p ≡ true → true ≡ total
both_now all at ps i p total here so up = sym (step all at ps i p here ∙ ap (λ (b : Bool). b || any_denied all (map (seen_literal at) (drop (i + 1) ps))) up) ∙ so

pub both_later : (all : List Literal) (at : ℕ → Term) (ps : List (ℕ × Bool)) (i : ℕ) (p : ℕ × Bool) (total : Bool) → slice_get ps i ≡ Some p → any_denied all (map (seen_literal at) (drop i ps)) ≡ total → holds_too all at p ≡ false → any_denied all (map (seen_literal at) (drop (i + 1) ps)) ≡ total
both_later all at ps i p total here so un = sym (step all at ps i p here ∙ ap (λ (b : Bool). b || any_denied all (map (seen_literal at) (drop (i + 1) ps))) un) ∙ so

-- ---- the one that is denied

abbrev literal : Term → Bool → Literal
literal a holds = record { atom = a; holds = holds }

or_on : (a b c : Bool) → (b ≡ true → c ≡ true) → (a || b) ≡ true → (a || c) ≡ true
or_on true b c so e = refl
or_on false b c so e = so e

stands_so : (all ls : List Literal) → any_denied all ls ≡ true → stands_both_ways all ls ≡ true
stands_so all [] e = absurd cc
stands_so all (l ∷ ls) e = by l.holds e (λ h. stands_so all ls h)
  where
    by : (b : Bool) → ((not b && has_literal all (literal l.atom true)) || any_denied all ls) ≡ true → (any_denied all ls ≡ true → stands_both_ways all ls ≡ true) → (has_literal all (literal l.atom (not b)) || stands_both_ways all ls) ≡ true
    by true h rest = second_true (has_literal all (literal l.atom false)) (stands_both_ways all ls) (rest h)
    by false h rest = or_on (has_literal all (literal l.atom true)) (any_denied all ls) (stands_both_ways all ls) rest h

found_denied : (all ls : List Literal) (a : Term) → has_literal all (literal a true) ≡ true → has_literal ls (literal a false) ≡ true → any_denied all ls ≡ true
found_denied all [] a up e = absurd cc
found_denied all (k ∷ ks) a up e = by (same_literal k (literal a false)) refl e (λ h. found_denied all ks a up h)
  where
    by : (b : Bool) → same_literal k (literal a false) ≡ b → cond b true (has_literal ks (literal a false)) ≡ true → (has_literal ks (literal a false) ≡ true → any_denied all ks ≡ true) → ((not k.holds && has_literal all (literal k.atom true)) || any_denied all ks) ≡ true
    by true is h rest =
        let s = both (same_term k.atom a) (beq k.holds false) is in
        first_true (not k.holds && has_literal all (literal k.atom true)) (any_denied all ks) (two_true (not k.holds) (has_literal all (literal k.atom true)) (ap not (bits_are k.holds false s.1)) (ap (λ (t : Term). has_literal all (literal t true)) (terms_are k.atom a s.0) ∙ up))
    by false is h rest = second_true (not k.holds && has_literal all (literal k.atom true)) (any_denied all ks) (rest h)

head_has : (l : Literal) (ls : List Literal) → has_literal (l ∷ ls) (literal l.atom l.holds) ≡ true
head_has l ls = ap (λ (b : Bool). cond b true (has_literal ls (literal l.atom l.holds))) (two_true (same_term l.atom l.atom) (beq l.holds l.holds) (terms_self l.atom) (bit_self l.holds))

tail_has : (l : Literal) (ls : List Literal) (m : Literal) → has_literal ls m ≡ true → has_literal (l ∷ ls) m ≡ true
tail_has l ls m e = by (same_literal l m)
  where
    by : (b : Bool) → cond b true (has_literal ls m) ≡ true
    by true = refl
    by false = e

denied_among : (all ls : List Literal) → ((m : Literal) → has_literal ls m ≡ true → has_literal all m ≡ true) → stands_both_ways all ls ≡ true → any_denied all all ≡ true
denied_among all [] sub e = absurd cc
denied_among all (l ∷ ls) sub e = by (has_literal all (literal l.atom (not l.holds))) refl e (λ h. denied_among all ls (λ m f. sub m (tail_has l ls m f)) h)
  where
    by_sign : (s : Bool) → has_literal all (literal l.atom s) ≡ true → has_literal all (literal l.atom (not s)) ≡ true → any_denied all all ≡ true
    by_sign true up down = found_denied all all l.atom up down
    by_sign false down up = found_denied all all l.atom up down

    by : (b : Bool) → has_literal all (literal l.atom (not l.holds)) ≡ b → (b || stands_both_ways all ls) ≡ true → (stands_both_ways all ls ≡ true → any_denied all all ≡ true) → any_denied all all ≡ true
    by true is h rest = by_sign l.holds (sub (literal l.atom l.holds) (head_has l ls)) is
    by false is h rest = rest h

pub denied_both : (all : List Literal) → any_denied all all ≡ stands_both_ways all all
denied_both all = by (any_denied all all) refl (stands_both_ways all all) refl
  where
    by : (a : Bool) → any_denied all all ≡ a → (b : Bool) → stands_both_ways all all ≡ b → a ≡ b
    by true x true y = refl
    by false x false y = refl
    by true x false y = let up : stands_both_ways all all ≡ true = stands_so all all x in absurd cc
    by false x true y = let up : any_denied all all ≡ true = denied_among all all (λ m e. e) y in absurd cc
