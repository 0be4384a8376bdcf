-- Where the grammar is left stands the first token that is in no front, and each fault stands at a token.
use Rattle.std.proofs.Common.{◌≡◌, ◌-◌, ◌≤◌, ℕ, zero, suc, max, true, true≢false, List, [], ◌∷◌, ◌++◌, length, drop, ◌⊎◌, inl, inr, refl, sym, ap, ◌∙◌, subst, arith, append_assoc, append-nil, length-append}
use Rattle.std.proofs.Math.Seq.{drop-append_seam}
use Rattle.wy_reading.specs.Mode.{Mode, Looser}
use Rattle.wy_reading.specs.Rule.{Then, Pure}
use Rattle.wy_reading.specs.Places.{IsText, CanGoOn, IsDead}
use Rattle.wy_lex.specs.declared.token.Token.{Token}
use Rattle.wy_parse_grammar.specs.declared.fault.Kind.{Kind}
use Rattle.wy_parse_grammar.specs.declared.measured.Measured.{Measured}
use Rattle.wy_ast.specs.declared.declarations.Program.{Program}
use Rattle.wy_parse_grammar.specs.Sorts as t
use Rattle.wy_parse_grammar.specs.Sorts.{is}
use Rattle.wy_parse_grammar.specs.Steps.{Mark, place}
use Rattle.wy_parse.specs.DeclTrees.{program_node}
use Rattle.wy_parse.specs.ProgramGrammar.{Text, ProgramIn}
use Rattle.wy_parse.specs.Derivation.{profile, place_of, Leaves, Meets}
use Rattle.wy_parse.specs.Fronts.{loose, IsFront, FirstImpossible, NoEnd, IsEnded, IsToken}
use Rattle.wy_parse.proofs.EndLemmas.{skips-both}
use Rattle.wy_parse.proofs.EndFree.{free-imports, free-decls}
use Rattle.wy_parse.proofs.ProgramExact.{text-exact}

-- ---- what is a text in one mode is one in each looser mode

looser-text : (n m : Mode) → Looser n m → (i : List Token) (a : Measured Program) → IsText Text n i a → IsText Text m i a
looser-text n m le i a h =
    let d = (text-exact n).done i a [] ((text-exact n).complete i a [] h refl) in
    subst (λ (l : List Token). IsText Text m l a) (sym d.cut) ((text-exact m).sound (d.front ++ []) a [] (d.again m le [] (inr refl)))

pub front_of : (n : Mode) (i : List Token) → CanGoOn Text n i → IsFront i
front_of n i g =
    record { more = g.2; text = record { depth = g.0.depth; spelled = g.3; text = looser-text g.0 (loose g.0.depth) (omega arith, λ h. absurd (true≢false (sym h))) (i ++ g.2) g.3 g.4 } }

to_front : (i : List Token) → CanGoOn Text profile i → IsFront i
to_front i g = front_of profile i g

from_front : (i : List Token) → IsFront i → CanGoOn Text profile i
from_front i f =
    let m : Mode = loose (max profile.depth f.text.depth) in
    (m, (omega arith, λ h. refl), f.more, f.text.spelled, looser-text (loose f.text.depth) m (omega arith, λ h. h) (i ++ f.more) f.text.spelled f.text.text)

-- ---- places

place-behind : (front back : List Token) → place_of (front ++ back) (length back) ≡ place back
place-behind front back =
    let before : length (front ++ back) - length back ≡ length front = omega (arith, length-append front back) in
    ap (λ (n : ℕ). place (drop n (front ++ back))) before ∙ ap place (drop-append_seam front back)

pub place-cut : (tokens front back : List Token) (left : ℕ) → tokens ≡ front ++ back → left ≡ length back → place_of tokens left ≡ place back
place-cut tokens front back left cut left_is =
    ap (λ (l : List Token). place_of l left) cut ∙ (ap (λ (n : ℕ). place_of (front ++ back) n) left_is ∙ place-behind front back)

-- ---- a text has one `End`

one_end : (front other : List Token) (s e : Token) (i j : List Token) → NoEnd front → NoEnd other → is t.END s ≡ true → is t.END e ≡ true → front ++ s ∷ i ≡ other ++ e ∷ j → i ≡ j
one_end [] [] s e i j f g h k same = cc
one_end [] (b ∷ other) s e i j f g h k same = let first : s ≡ b = cc in absurd (true≢false (sym h ∙ (ap (is t.END) first ∙ g.0)))
one_end (a ∷ front) [] s e i j f g h k same = let first : e ≡ a = cc in absurd (true≢false (sym k ∙ (ap (is t.END) first ∙ f.0)))
one_end (a ∷ front) (b ∷ other) s e i j f g h k same = let behind : front ++ s ∷ i ≡ other ++ e ∷ j = cc in one_end front other s e i j f.1 g.1 h k behind

-- behind the `End` of a text nothing stands
last_end : (n : Mode) (front : List Token) (e : Token) (more : List Token) (a : Measured Program) → NoEnd front → is t.END e ≡ true → IsText Text n (front ++ e ∷ more) a → more ≡ []
unfolding ProgramIn
last_end n front e more a none end h =
    let p = h.2 in
    let q = p.3 in
    let r = q.3 in
    let skip = skips-both (free-imports.skips (front ++ e ∷ more) p.0 p.1 p.2) ((free-decls n.strict n.depth).skips p.1 q.0 q.1 q.2) in
    let mark = r.2 in
    let left : mark.1 ≡ [] = mark.3.1 ∙ (r.3.1 ∙ h.3.2.0) in
    let whole : front ++ e ∷ more ≡ skip.front ++ mark.0 ∷ mark.1 = skip.cut ∙ ap (λ (l : List Token). skip.front ++ l) mark.2.1 in
    one_end front skip.front e mark.0 more mark.1 none skip.no_end end mark.2.0 whole ∙ left

-- a list with `End` at its end that goes on is a text
ended_text : (tokens : List Token) → IsEnded tokens → (g : CanGoOn Text profile tokens) → IsText Text g.0 tokens g.3
ended_text tokens d g =
    let cut : tokens ++ g.2 ≡ d.front ++ d.last ∷ g.2 = ap (λ (l : List Token). l ++ g.2) d.cut ∙ append_assoc d.front (d.last ∷ []) g.2 in
    let none = last_end g.0 d.front d.last g.2 g.3 d.no_end d.is_end (subst (λ (l : List Token). IsText Text g.0 l g.3) cut g.4) in
    subst (λ (l : List Token). IsText Text g.0 l g.3) (ap (λ (l : List Token). tokens ++ l) none ∙ append-nil tokens) g.4

-- ---- the law

pub leaves-first : (tokens : List Token) (at : ℕ) → IsEnded tokens → Leaves tokens at → FirstImpossible tokens at
leaves-first tokens at ended l = by l.bad.front l.bad.back l.bad.cut l.bad.left_is l.bad.alive l.bad.dead
  where
    by : (front back : List Token) → tokens ≡ front ++ back → l.left ≡ length back → CanGoOn Text profile front → IsDead Text profile front back → FirstImpossible tokens at
    by front [] cut left_is alive dead =
        let whole = cut ∙ append-nil front in
        let g : CanGoOn Text profile tokens = subst (CanGoOn Text profile) (sym whole) alive in
        absurd (dead g.0 g.1 g.3 (subst (λ (i : List Token). IsText Text g.0 i g.3) whole (ended_text tokens ended g)))
    by front (bad ∷ rest) cut left_is alive dead = record {
      front = front;
      bad = bad;
      rest = rest;
      cut = cut;
      place_is = l.place_is ∙ place-cut tokens front (bad ∷ rest) l.left cut left_is;
      before = to_front front alive;
      none = λ f. dead (from_front (front ++ bad ∷ []) f);
    }

pub first-leaves : (tokens : List Token) (at : ℕ) → FirstImpossible tokens at → Leaves tokens at
first-leaves tokens at f = record {
  left = length (f.bad ∷ f.rest);
  place_is = f.place_is ∙ sym (place-cut tokens f.front (f.bad ∷ f.rest) (length (f.bad ∷ f.rest)) f.cut refl);
  bad = record {
    front = f.front;
    back = f.bad ∷ f.rest;
    cut = f.cut;
    left_is = refl;
    alive = from_front f.front f.before;
    dead = λ g. f.none (to_front (f.front ++ f.bad ∷ []) g);
  };
}

-- ---- faults stand at tokens

-- the list, cut where so many tokens are left
abbrev Cut : List Token → ℕ → Type 0
Cut i k = (front : List Token) × (s : Token) × (rest : List Token) × (i ≡ front ++ s ∷ rest) × (k ≡ length (s ∷ rest))

all_or_fewer : (k n : ℕ) → k ≤ suc n → (k ≡ suc n) ⊎ (k ≤ n)
all_or_fewer zero n h = inr (omega arith)
all_or_fewer (suc zero) zero h = inl refl
all_or_fewer (suc (suc k)) zero h = absurd (omega (arith, h))
all_or_fewer (suc k) (suc n) h = elim (all_or_fewer k n (omega (arith, h))) [ inl e ↦ inl (omega (arith, e)) | inr f ↦ inr (omega (arith, f)) ]

pub cut-at : (i : List Token) (k : ℕ) → 1 ≤ k → k ≤ length i → Cut i k
cut-at [] k h g = absurd (omega (arith, h, g))
cut-at (s ∷ i) k h g = by (λ x. cut-at i k h x) (all_or_fewer k (length i) g)
  where
    by : (k ≤ length i → Cut i k) → (k ≡ suc (length i)) ⊎ (k ≤ length i) → Cut (s ∷ i) k
    by ih (inl e) = ([], s, i, refl, e)
    by ih (inr f) = let d = ih f in (s ∷ d.0, d.1, d.2, ap (λ (l : List Token). s ∷ l) d.3, d.4)

-- a fault that is met in a program stands at one of its tokens
pub program-stands : (n : Mode) (i : List Token) (x : Kind) (k : ℕ) → (Text n).meets i x k → 1 ≤ k
unfolding ProgramIn
program-stands n i x k (inl h) = by h
  where
    last : (l : List Token) (p : Measured Program) → (Then (Mark t.END) (λ r. Pure p)).meets l x k → 1 ≤ k
    last l p (inl (inl g)) = absurd g
    last l p (inl (inr g)) = absurd g.3
    last l p (inr g) = absurd g.3

    by : (ProgramIn n.strict n.depth).meets i x k → 1 ≤ k
    by (inl g) = free-imports.stands i x k g
    by (inr g) = elim (g.3) [ inl d ↦ (free-decls n.strict n.depth).stands g.1 x k d | inr d ↦ last d.1 (program_node g.0 d.0.0) d.3 ]
program-stands n i x k (inr h) = elim (h.3) [ inl g ↦ absurd g | inr g ↦ absurd g.3 ]

pub meets-token : (tokens : List Token) (x : Kind) (at : ℕ) → Meets tokens x at → IsToken tokens at
meets-token tokens x at m =
    let within = ((text-exact profile).meets tokens x m.left m.met).2 in
    let d = cut-at tokens m.left (program-stands profile tokens x m.left m.met) within in
    record { front = d.0; token = d.1; rest = d.2; cut = d.3; place_is = m.place_is ∙ place-cut tokens d.0 (d.1 ∷ d.2) m.left d.3 d.4 }
