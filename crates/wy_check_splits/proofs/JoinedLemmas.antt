-- Pairs of terms that literals join.
use Rattle.std.proofs.Common.{◌≡◌, ◌<◌, ◌+◌, ◌&&◌, ◌||◌, ℕ, zero, suc, List, [], ◌∷◌, ◌++◌, map, take, All, Bool, true, false, cond, eqb, Some, refl, sym, ap, ◌∙◌, subst, arith}
use Rattle.std.proofs.lemmas.Bool.{eqb-true}
use Rattle.std.specs.Prelude.{slice_get}
use Rattle.wy_lemmas.proofs.Choices.{and_false, and_end as and_true, or_not as or_false, eqb_itself as eqb_self, cond_or, or_regrouped as or_assoc}
use Rattle.wy_check_nodes.specs.wy_term.Term.{Symbol, Term, Of, Parts, no_parts, part, two, equal, at_most}
use Rattle.wy_check_nodes.specs.wy_term.Same.{same_symbol, same_term, same_parts}
use Rattle.wy_check_nodes.proofs.wy_term_proofs.SameLemmas.{terms_are, terms_self}
use Rattle.wy_check_nodes.specs.wy_check_spec.judge.Node.{Literal, same_literal, has_literal}
use Rattle.wy_check_nodes.specs.Seen.{seen_literal}
use Rattle.wy_check_nodes.specs.wy_check_spec.valid.Literals.{has_atom}
use Rattle.wy_check_splits.specs.declared.joined.Joined.{Joined}
use Rattle.wy_check_splits.specs.Joined.{same_pair, Notes, NotesBehind}

or_swap : (a b : Bool) → cond a true b ≡ (b || a)
or_swap true true = refl
or_swap true false = refl
or_swap false true = refl
or_swap false false = refl

-- two numbers below the bound are equal exactly where they name equal terms
abbrev pub Forward : (ℕ → Term) → ℕ → Type 0
Forward at n = (s t : ℕ) → s < n → t < n → eqb s t ≡ same_term (at s) (at t)

-- ---- one atom more

-- a pair that is noted, where the atom is that of the pair
pub pair_put : (at : ℕ → Term) (n : ℕ) → Forward at n → (symbol : Symbol) → same_symbol symbol symbol ≡ true → (v w x y : ℕ) (a : Term) (old new : Bool) → v < n → w < n → x < n → y < n → a ≡ two symbol (at v) (at w) → new ≡ cond (same_pair (v, w) (x, y)) true old → new ≡ (old || same_term a (two symbol (at x) (at y)))
pair_put at n once symbol same v w x y a old new lv lw lx ly is puts =
    let sides : same_pair (v, w) (x, y) ≡ (same_term (at v) (at x) && (same_term (at w) (at y) && true)) =
    ap (λ (b : Bool). b && eqb w y) (once v x lv lx) ∙ ap (λ (b : Bool). same_term (at v) (at x) && b) (once w y lw ly ∙ sym (and_true (same_term (at w) (at y)))) in
    let whole : same_term a (two symbol (at x) (at y)) ≡ (same_term (at v) (at x) && (same_term (at w) (at y) && true)) =
    ap (λ (f : Term). same_term f (two symbol (at x) (at y))) is ∙ ap (λ (b : Bool). b && (same_term (at v) (at x) && (same_term (at w) (at y) && true))) same in
    puts ∙ (ap (λ (b : Bool). cond b true old) sides ∙ (or_swap (same_term (at v) (at x) && (same_term (at w) (at y) && true)) old ∙ ap (λ (b : Bool). old || b) (sym whole)))

-- where the atom is another one, nothing is noted
pub pair_kept : (symbol : Symbol) (b : Symbol) (ps : Parts) (a s t : Term) (old : Bool) → a ≡ Of b ps → same_symbol b symbol ≡ false → old ≡ (old || same_term a (two symbol s t))
pair_kept symbol b ps a s t old is other =
    let whole : same_term a (two symbol s t) ≡ false = ap (λ (f : Term). same_term f (two symbol s t)) is ∙ ap (λ (x : Bool). x && same_parts ps (part s (part t no_parts))) other in
    or_false old ∙ ap (λ (x : Bool). old || x) (sym whole)

-- ---- one literal more

has_last : (ls : List Literal) (l k : Literal) → has_literal (ls ++ l ∷ []) k ≡ (has_literal ls k || same_literal l k)
has_last [] l k = cond_or (same_literal l k) false ∙ sym (or_more (same_literal l k))
  where
    or_more : (b : Bool) → b ≡ (b || false)
    or_more true = refl
    or_more false = refl
has_last (j ∷ js) l k =
    cond_or (same_literal j k) (has_literal (js ++ l ∷ []) k)
    ∙ (ap (λ (b : Bool). same_literal j k || b) (has_last js l k) ∙ (or_assoc (same_literal j k) (has_literal js k) (same_literal l k) ∙ ap (λ (b : Bool). b || same_literal l k) (sym (cond_or (same_literal j k) (has_literal js k)))))

take_next : (at : ℕ → Term) (ps : List (ℕ × Bool)) (i : ℕ) (p : ℕ × Bool) → slice_get ps i ≡ Some p → map (seen_literal at) (take (suc i) ps) ≡ map (seen_literal at) (take i ps) ++ seen_literal at p ∷ []
take_next at [] i p e = absurd cc
take_next at (q ∷ qs) zero p e = ap (λ (x : ℕ × Bool). seen_literal at x ∷ []) (pair_is q p e)
  where
    pair_is : (x y : ℕ × Bool) → Some x ≡ Some y → x ≡ y
    pair_is x y h = cc
take_next at (q ∷ qs) (suc i) p e = ap (λ (ls : List Literal). seen_literal at q ∷ ls) (take_next at qs i p e)

take_here : (at : ℕ → Term) (ps : List (ℕ × Bool)) (i : ℕ) (p : ℕ × Bool) → slice_get ps i ≡ Some p → map (seen_literal at) (take (i + 1) ps) ≡ map (seen_literal at) (take i ps) ++ seen_literal at p ∷ []
take_here at ps i p e = let next : i + 1 ≡ suc i = omega arith in ap (λ (j : ℕ). map (seen_literal at) (take j ps)) next ∙ take_next at ps i p e

true_more : (at : ℕ → Term) (ps : List (ℕ × Bool)) (i : ℕ) (a : ℕ) (f : Term) → slice_get ps i ≡ Some (a, true) → has_atom (map (seen_literal at) (take (i + 1) ps)) f ≡ (has_atom (map (seen_literal at) (take i ps)) f || same_term (at a) f)
true_more at ps i a f e = ap (λ (ls : List Literal). has_atom ls f) (take_here at ps i (a, true) e) ∙ (has_last (map (seen_literal at) (take i ps)) (seen_literal at (a, true)) (record { atom = f; holds = true }) ∙ ap (λ (b : Bool). has_atom (map (seen_literal at) (take i ps)) f || b) (and_true (same_term (at a) f)))

false_more : (at : ℕ → Term) (ps : List (ℕ × Bool)) (i : ℕ) (a : ℕ) (f : Term) → slice_get ps i ≡ Some (a, false) → has_atom (map (seen_literal at) (take (i + 1) ps)) f ≡ has_atom (map (seen_literal at) (take i ps)) f
false_more at ps i a f e = ap (λ (ls : List Literal). has_atom ls f) (take_here at ps i (a, false) e) ∙ (has_last (map (seen_literal at) (take i ps)) (seen_literal at (a, false)) (record { atom = f; holds = true }) ∙ (ap (λ (b : Bool). has_atom (map (seen_literal at) (take i ps)) f || b) (and_false (same_term (at a) f)) ∙ sym (or_false (has_atom (map (seen_literal at) (take i ps)) f))))

pub notes_more : (at : ℕ → Term) (n : ℕ) (ps : List (ℕ × Bool)) (i : ℕ) (a : ℕ) (old new : Joined) → slice_get ps i ≡ Some (a, true) → NotesBehind at n old new (at a) → Notes at n (map (seen_literal at) (take i ps)) old → Notes at n (map (seen_literal at) (take (i + 1) ps)) new
notes_more at n ps i a old new e behind before = record {
  equations = λ v w lv lw. behind.equations v w lv lw ∙ (ap (λ (b : Bool). b || same_term (at a) (two equal (at v) (at w))) (before.equations v w lv lw) ∙ sym (true_more at ps i a (two equal (at v) (at w)) e));
  bounds = λ s t ls lt. behind.bounds s t ls lt ∙ (ap (λ (b : Bool). b || same_term (at a) (two at_most (at s) (at t))) (before.bounds s t ls lt) ∙ sym (true_more at ps i a (two at_most (at s) (at t)) e));
}

pub notes_skip : (at : ℕ → Term) (n : ℕ) (ps : List (ℕ × Bool)) (i : ℕ) (a : ℕ) (j : Joined) → slice_get ps i ≡ Some (a, false) → Notes at n (map (seen_literal at) (take i ps)) j → Notes at n (map (seen_literal at) (take (i + 1) ps)) j
notes_skip at n ps i a j e before = record {
  equations = λ v w lv lw. before.equations v w lv lw ∙ sym (false_more at ps i a (two equal (at v) (at w)) e);
  bounds = λ s t ls lt. before.bounds s t ls lt ∙ sym (false_more at ps i a (two at_most (at s) (at t)) e);
}

-- ---- numbers below a bound

pub forward : (at : ℕ → Term) (n : ℕ) → ((s t : ℕ) → s < n → t < n → at s ≡ at t → s ≡ t) → Forward at n
forward at n one s t ls lt = by (same_term (at s) (at t)) refl
  where
    unless_equal : (b : Bool) → eqb s t ≡ b → same_term (at s) (at t) ≡ false → b ≡ false
    unless_equal false is e = refl
    unless_equal true is e =
        let same : same_term (at s) (at t) ≡ true = ap (λ (k : ℕ). same_term (at s) (at k)) (sym (eqb-true s t is)) ∙ terms_self (at s) in
        absurd cc

    by : (b : Bool) → same_term (at s) (at t) ≡ b → eqb s t ≡ b
    by true is = ap (λ (k : ℕ). eqb k t) (one s t ls lt (terms_are (at s) (at t) is)) ∙ eqb_self t
    by false is = unless_equal (eqb s t) refl is

-- the parts of a node of two parts
pub two_below : (atom n v w : ℕ) (ks : List ℕ) → All (λ k. k < atom) ks → atom < n → ks ≡ v ∷ w ∷ [] → (v < n) × (w < n)
two_below atom n v w ks below lt e =
    let both : All (λ k. k < atom) (v ∷ w ∷ []) = subst (All (λ (k : ℕ). k < atom)) e below in
    let first : v < atom = both 0 0 (omega arith) in
    let second : w < atom = both 1 0 (omega arith) in
    (omega (arith, first, lt), omega (arith, second, lt))

-- the literal with this sign
pub signed_here : (ps : List (ℕ × Bool)) (i : ℕ) (p : ℕ × Bool) (b : Bool) → slice_get ps i ≡ Some p → p.1 ≡ b → slice_get ps i ≡ Some (p.0, b)
signed_here ps i p b e h = e ∙ ap (λ (x : Bool). Some (p.0, x)) h
