-- What a line that begins makes of tokens and blocks is exactly what its indentation and the open blocks say.
use Rattle.std.proofs.Common.{◌≡◌, ◌≤◌, ◌<◌, ℕ, zero, suc, ◌+◌, ◌-◌, Bool, true, false, cond, nat_lt, List, [], ◌∷◌, ◌++◌, length, take, drop, slice_index_or, Option, Some, None, refl, sym, ap, ◌∙◌, subst, arith, length-append, append_assoc}
use Rattle.std.specs.Bool.{⊤}
use Rattle.std.specs.Str.{bytes_eq}
use Rattle.std.proofs.Math.Seq.{get_or-append_seam, take-append_seam}
use Rattle.std.proofs.lemmas.List.{take-append-drop, length-drop}
use Rattle.std.proofs.lemmas.Bool.{ltb-true, lt-ltb}
use Rattle.wy_lemmas.proofs.Choices.{and-left, and-right}
use Rattle.wy_lemmas.proofs.Lists.{bytes_self, bytes_are}
use Rattle.wy_lex.specs.declared.token.TokenKind.{TokenKind}
use Rattle.wy_lex.specs.declared.token.TokenKind.TheVariants as k
use Rattle.wy_lex.specs.declared.layout.State.{State}
use Rattle.wy_lex.specs.Layout.{token, level_from, level, innermost, is_deeper, fits, outs, ending, entered, begun}
use Rattle.wy_lex.specs.Lines.{IsDeeper, Deepens, IsNest, times, Begins, MayBegin, Enters, all_at}
use Rattle.wy_lex.specs.Lines.Begins.{continues, opens}

-- ---- indentations

bytes_differ : (b w : List ℕ) → length b < length w → bytes_eq b w ≡ false
bytes_differ b w h = by (bytes_eq b w) refl
  where
    by : (c : Bool) → bytes_eq b w ≡ c → bytes_eq b w ≡ false
    by false e = e
    by true e = absurd (omega (arith, h, ap length (bytes_are b w e)))

deeper-longer : (b w : List ℕ) → IsDeeper b w → length b < length w
deeper-longer b w d = omega (arith, ap length d.whole, length-append b (d.first ∷ d.more))

deeper-is : (b w : List ℕ) → IsDeeper b w → is_deeper b w ≡ true
deeper-is b w d =
    let longer : nat_lt (length b) (length w) ≡ true = lt-ltb (length b) (length w) (deeper-longer b w d) in
    let front : take (length b) w ≡ b = ap (take (length b)) d.whole ∙ take-append_seam b (d.first ∷ d.more) in
    rw (longer, front) (bytes_self b)

is-deeper : (b w : List ℕ) → is_deeper b w ≡ true → IsDeeper b w
is-deeper b w h =
    let longer = ltb-true (length b) (length w) (and-left (nat_lt (length b) (length w)) (bytes_eq (take (length b) w) b) h) in
    let front = bytes_are (take (length b) w) b (and-right (nat_lt (length b) (length w)) (bytes_eq (take (length b) w) b) h) in
    by (drop (length b) w) (sym (take-append-drop (length b) w) ∙ ap (λ l. l ++ drop (length b) w) front) (omega (arith, longer, length-drop (length b) w))
  where
    by : (rest : List ℕ) → w ≡ b ++ rest → 0 < length rest → IsDeeper b w
    by [] e le = absurd (omega (arith, le))
    by (c ∷ rest) e le = record { first = c; more = rest; whole = e }

-- ---- nests

-- each of the indentations is shorter
abbrev Shorter : ℕ → List (List ℕ) → Type 0
Shorter n [] = ⊤
Shorter n (b ∷ bs) = (length b < n) × Shorter n bs

shorter-still : (n m : ℕ) (bs : List (List ℕ)) → n ≤ m → Shorter n bs → Shorter m bs
shorter-still n m [] le h = tt
shorter-still n m (b ∷ bs) le h = (omega (arith, le, h.0), shorter-still n m bs le h.1)

shorter-append : (n : ℕ) (bs : List (List ℕ)) (b : List ℕ) → Shorter n bs → length b < n → Shorter n (bs ++ b ∷ [])
shorter-append n [] b h le = (le, tt)
shorter-append n (c ∷ bs) b h le = (h.0, shorter-append n bs b h.1 le)

outer-shorter : (b : List ℕ) (outer : List (List ℕ)) (w : List ℕ) (inner : List (List ℕ)) → Deepens b (outer ++ w ∷ inner) → (length b < length w) × Shorter (length w) outer
outer-shorter b [] w inner d = (deeper-longer b w d.0, tt)
outer-shorter b (c ∷ outer) w inner d =
    let h = outer-shorter c outer w inner d.1 in
    (omega (arith, h.0, deeper-longer b c d.0), (h.0, h.1))

nest-shorter : (outer : List (List ℕ)) (w : List ℕ) (inner : List (List ℕ)) → IsNest (outer ++ w ∷ inner) → Shorter (length w) outer
nest-shorter [] w inner h = tt
nest-shorter (b ∷ outer) w inner h = let d = outer-shorter b outer w inner h.1 in (d.0, d.1)

deepens-front : (b : List ℕ) (outer : List (List ℕ)) (w : List ℕ) (inner : List (List ℕ)) → Deepens b (outer ++ w ∷ inner) → Deepens b (outer ++ w ∷ [])
deepens-front b [] w inner d = (d.0, tt)
deepens-front b (c ∷ outer) w inner d = (d.0, deepens-front c outer w inner d.1)

nest-front : (outer : List (List ℕ)) (w : List ℕ) (inner : List (List ℕ)) → IsNest (outer ++ w ∷ inner) → IsNest (outer ++ w ∷ [])
nest-front [] w inner h = (h.0, tt)
nest-front (b ∷ outer) w inner h = (h.0, deepens-front b outer w inner h.1)

deepens-one : (o : List ℕ) (outer : List (List ℕ)) (b w : List ℕ) → Deepens o (outer ++ b ∷ []) → IsDeeper b w → Deepens o ((outer ++ b ∷ []) ++ w ∷ [])
deepens-one o [] b w d e = (d.0, (e, tt))
deepens-one o (c ∷ outer) b w d e = (d.0, deepens-one c outer b w d.1 e)

nest-one : (outer : List (List ℕ)) (b w : List ℕ) → IsNest (outer ++ b ∷ []) → IsDeeper b w → IsNest ((outer ++ b ∷ []) ++ w ∷ [])
nest-one [] b w h e = (h.0, (e, tt))
nest-one (o ∷ outer) b w h e = (h.0, deepens-one o outer b w h.1 e)

-- ---- which block has the indentation

record Split (bs : List (List ℕ)) (w : List ℕ) (m : ℕ) : Type 0 where
  pub outer : List (List ℕ)
  pub inner : List (List ℕ)
  pub cut : bs ≡ outer ++ w ∷ inner
  pub many : length outer ≡ m

level-found : (n m : ℕ) (bs : List (List ℕ)) (w : List ℕ) → level_from n bs w ≡ Some m → (at : ℕ) × (m ≡ n + at) × Split bs w at
level-found n m [] w e = absurd (cc)
level-found n m (b ∷ bs) w e = by (bytes_eq b w) refl (level-found (suc n) m bs w) e
  where
    by : (c : Bool) → bytes_eq b w ≡ c → (level_from (suc n) bs w ≡ Some m → (at : ℕ) × (m ≡ suc n + at) × Split bs w at) → cond c (Some n) (level_from (suc n) bs w) ≡ Some m → (at : ℕ) × (m ≡ n + at) × Split (b ∷ bs) w at
    by true g ih h = let same : n ≡ m = cc in (0, omega (arith, same), record { outer = []; inner = bs; cut = ap (λ c. c ∷ bs) (bytes_are b w g); many = refl })
    by false g ih h =
        let d = ih h in
        (suc d.0, omega (arith, d.1), record { outer = b ∷ d.2.outer; inner = d.2.inner; cut = ap (λ l. b ∷ l) d.2.cut; many = ap suc d.2.many })

level-at : (n : ℕ) (outer : List (List ℕ)) (w : List ℕ) (inner : List (List ℕ)) → Shorter (length w) outer → level_from n (outer ++ w ∷ inner) w ≡ Some (n + length outer)
level-at n [] w inner h = rw (bytes_self w) (ap (λ m. Some m) (omega arith))
level-at n (b ∷ outer) w inner h = rw (bytes_differ b w h.0) (level-at (suc n) outer w inner h.1 ∙ ap (λ m. Some m) (omega arith))

level-none : (n : ℕ) (bs : List (List ℕ)) (w : List ℕ) → Shorter (length w) bs → level_from n bs w ≡ None
level-none n [] w h = refl
level-none n (b ∷ bs) w h = rw (bytes_differ b w h.0) (level-none (suc n) bs w h.1)

innermost-is : (outer : List (List ℕ)) (b : List ℕ) → innermost (outer ++ b ∷ []) ≡ b
innermost-is outer b =
    ap (λ n. slice_index_or (outer ++ b ∷ []) n []) (let e : length (outer ++ b ∷ []) - 1 ≡ length outer = omega (arith, length-append outer (b ∷ [])) in e) ∙ get_or-append_seam outer b [] []

last-of : (b : List ℕ) (bs : List (List ℕ)) → (outer : List (List ℕ)) × (last : List ℕ) × (b ∷ bs ≡ outer ++ last ∷ [])
last-of b [] = ([], b, refl)
last-of b (c ∷ bs) = let d = last-of c bs in (b ∷ d.0, d.1, ap (λ l. b ∷ l) d.2)

-- ---- the relation is the function

pub fits-begins : (colon : Bool) (w : List ℕ) (before : List (List ℕ)) → IsNest before → fits (level before w) colon (is_deeper (innermost before) w) ≡ true → MayBegin colon w before
fits-begins colon w before nest h = by (level before w) refl h
  where
    new : (bs : List (List ℕ)) → before ≡ bs → IsNest bs → colon ≡ true → is_deeper (innermost before) w ≡ true → MayBegin colon w before
    new [] e g c d = absurd g
    new (b ∷ bs) e g c d =
        let l = last-of b bs in
        let inner : innermost before ≡ l.1 = ap innermost (e ∙ l.2) ∙ innermost-is l.0 l.1 in
        (before ++ w ∷ [], k.BlockIn ∷ [], opens l.0 l.1 (e ∙ l.2) (is-deeper l.1 w (ap (λ x. is_deeper x w) (sym inner) ∙ d)) c refl refl)

    by : (o : Option ℕ) → level before w ≡ o → fits o colon (is_deeper (innermost before) w) ≡ true → MayBegin colon w before
    by None e g = new before refl nest (and-left colon (is_deeper (innermost before) w) g) (and-right colon (is_deeper (innermost before) w) g)
    by (Some n) e g =
        let d = level-found 0 n before w e in
        let s = d.2 in
        (s.outer ++ w ∷ [], times (length s.inner), continues s.outer s.inner s.cut refl refl)

pub begins-fits : (colon : Bool) (w : List ℕ) (before after : List (List ℕ)) (between : List TokenKind) → IsNest before → Begins colon w before after between
    → fits (level before w) colon (is_deeper (innermost before) w) ≡ true
begins-fits colon w before after between nest (continues outer inner cut a t) =
    let found : level before w ≡ Some (0 + length outer) = ap (λ l. level l w) cut ∙ level-at 0 outer w inner (nest-shorter outer w inner (subst IsNest cut nest)) in
    ap (λ o. fits o colon (is_deeper (innermost before) w)) found
begins-fits colon w before after between nest (opens outer last cut deep c a t) =
    let inner : innermost before ≡ last = ap innermost cut ∙ innermost-is outer last in
    let all : Shorter (length w) (outer ++ last ∷ []) =
    shorter-append (length w) outer last (shorter-still (length last) (length w) outer (omega (arith, deeper-longer last w deep)) (nest-shorter outer last [] (subst IsNest cut nest))) (deeper-longer last w deep) in
    let none : level before w ≡ None = ap (λ l. level l w) cut ∙ level-none 0 (outer ++ last ∷ []) w all in
    let deeper : is_deeper (innermost before) w ≡ true = ap (λ x. is_deeper x w) inner ∙ deeper-is last w deep in
    rw (none, deeper, c) refl

outs-times : (n at : ℕ) → outs n at ≡ all_at at (times n)
outs-times zero at = refl
outs-times (suc n) at = ap (λ l. token k.BlockOut at ∷ l) (outs-times n at)

pub begins-entered : (s : State) (at : ℕ) (after : List (List ℕ)) (between : List TokenKind) → IsNest s.blocks → Begins s.header s.indent s.blocks after between → Enters s at after between (begun s at)
begins-entered s at after between nest (continues outer inner cut a t) =
    let found : level s.blocks s.indent ≡ Some (length outer) =
    ap (λ l. level l s.indent) cut ∙ (level-at 0 outer s.indent inner (nest-shorter outer s.indent inner (subst IsNest cut nest)) ∙ ap (λ m. Some m) (omega arith)) in
    let kept : take (suc (length outer)) s.blocks ≡ after =
    ap (take (suc (length outer))) (cut ∙ sym (append_assoc outer (s.indent ∷ []) inner))
    ∙ (ap (λ n. take n ((outer ++ s.indent ∷ []) ++ inner)) (let e : suc (length outer) ≡ length (outer ++ s.indent ∷ []) = omega (arith, length-append outer (s.indent ∷ [])) in e)
    ∙ (take-append_seam (outer ++ s.indent ∷ []) inner ∙ sym a)) in
    let many : length s.blocks - suc (length outer) ≡ length inner = omega (arith, ap length cut, length-append outer (s.indent ∷ inner)) in
    let stand : outs (length s.blocks - suc (length outer)) at ≡ all_at at between = ap (λ n. outs n at) many ∙ (outs-times (length inner) at ∙ ap (all_at at) (sym t)) in
    subst (λ o. Enters s at after between (entered o s at)) (sym found) (kept, ap (λ l. (s.made ++ ending s.line) ++ l) stand)
begins-entered s at after between nest (opens outer last cut deep c a t) =
    let all : Shorter (length s.indent) (outer ++ last ∷ []) =
    shorter-append (length s.indent) outer last (shorter-still (length last) (length s.indent) outer (omega (arith, deeper-longer last s.indent deep)) (nest-shorter outer last [] (subst IsNest cut nest))) (deeper-longer last s.indent deep) in
    let none : level s.blocks s.indent ≡ None = ap (λ l. level l s.indent) cut ∙ level-none 0 (outer ++ last ∷ []) s.indent all in
    subst (λ o. Enters s at after between (entered o s at)) (sym none) (sym a, ap (λ l. (s.made ++ ending s.line) ++ all_at at l) (sym t))

pub begins-nest : (colon : Bool) (w : List ℕ) (before after : List (List ℕ)) (between : List TokenKind) → IsNest before → Begins colon w before after between → IsNest after
begins-nest colon w before after between nest (continues outer inner cut a t) = subst IsNest (sym a) (nest-front outer w inner (subst IsNest cut nest))
begins-nest colon w before after between nest (opens outer last cut deep c a t) =
    subst IsNest (ap (λ l. l ++ w ∷ []) (sym cut) ∙ sym a) (nest-one outer last w (subst IsNest cut nest) deep)

-- at the end of the source all blocks end but the top, as at a line of the top
pub nest-ends : (before : List (List ℕ)) → IsNest before → Begins false [] before ([] ∷ []) (times (length before - 1))
nest-ends [] h = absurd h
nest-ends (b ∷ bs) h = continues [] bs (ap (λ c. c ∷ bs) h.0) refl (ap times (omega arith))
