-- A slash and the comment that it begins are read exactly.
use Rattle.std.proofs.Common.{◌≡◌, ℕ, Bool, true, false, cond, ◌&&◌, ◌||◌, true≢false, List, [], ◌∷◌, ◌++◌, length, drop, Option, Some, None, Ok, Err, inl, inr, refl, sym, ap, ◌∙◌, subst, append_assoc, append-nil, zero, suc}
use Rattle.std.specs.Bool.{⊤}
use Rattle.wy_reading.specs.declared.stop.Stop.{Stop}
use Rattle.wy_reading.specs.declared.stop.Stop.TheVariants.{Unexpected, Fault}
use Rattle.wy_reading.specs.Mode.{Mode, Looser}
use Rattle.wy_reading.specs.Rule.{Rule, heads, One, Pure, Then, Or, Skip, Unless, Checked}
use Rattle.wy_reading.specs.Reader.{Outcome, and_then, ◌>>=◌, pure, one, branch, skip, unless, loop, step}
use Rattle.wy_reading.proofs.Exactness.{SameHead, Instead, Sample, ExactTo, Passes, Lacks, Any, AtEnd}
use Rattle.wy_reading.proofs.Outcomes.{ok-parts}
use Rattle.wy_reading.proofs.Single.{symbol, nothing_on}
use Rattle.wy_reading.proofs.Sequence.{sequence_on}
use Rattle.wy_reading.proofs.Choice.{choice}
use Rattle.wy_reading.proofs.Adapting.{same_readers}
use Rattle.wy_reading.proofs.Words.{skip-exact}
use Rattle.wy_lex.specs.declared.fault.Kind.{Kind}
use Rattle.wy_lex.specs.declared.fault.Kind.TheVariants.{OpenComment}
use Rattle.wy_lex.specs.declared.symbol.Symbol.{Symbol}
use Rattle.wy_lex.specs.declared.symbol.Character.TheVariants as class
use Rattle.wy_lex.specs.declared.comment.Solidus.{Solidus}
use Rattle.wy_lex.specs.declared.comment.Solidus.TheVariants as solidus
use Rattle.wy_lex.specs.Symbols.{holds}
use Rattle.wy_lex.specs.Grammar.{is, has_close, Closed, Stroke, is_closed}
use Rattle.wy_lex.specs.Reading.{Q, behind_close, closing, closed, stroke, slash}
use Rattle.wy_lex.proofs.Judging.{begins, clear-exact, RefusesFirst, first_only, judged-exact, judged-first}
use Rattle.wy_lex.proofs.CharacterLemmas.{at, at_zero}

-- ---- the end of a comment

abbrev Star : Symbol → List Symbol → Bool
Star s i = is 42 s && heads (is 47) i

-- the first `*/` is found where it stands
found : (body : List Symbol) (star slash : Symbol) (j : List Symbol) → is 42 star ≡ true → is 47 slash ≡ true → has_close (body ++ star ∷ []) ≡ false → behind_close (body ++ star ∷ slash ∷ j) ≡ Some j
found [] star slash j a b h = rw (a, b) refl
found (s ∷ []) star slash j a b h = by (found [] star slash j a b) (Star s (star ∷ [])) refl h
  where
    by : (has_close (star ∷ []) ≡ false → behind_close (star ∷ slash ∷ j) ≡ Some j) → (c : Bool) → Star s (star ∷ []) ≡ c → (c || has_close (star ∷ [])) ≡ false → behind_close (s ∷ star ∷ slash ∷ j) ≡ Some j
    by ih true e g = absurd (true≢false g)
    by ih false e g = rw e (ih g)
found (s ∷ t ∷ body) star slash j a b h = by (found (t ∷ body) star slash j a b) (Star s (t ∷ body)) refl h
  where
    by : (has_close (t ∷ (body ++ star ∷ [])) ≡ false → behind_close (t ∷ (body ++ star ∷ slash ∷ j)) ≡ Some j) → (c : Bool) → Star s (t ∷ body) ≡ c → (c || has_close (t ∷ (body ++ star ∷ []))) ≡ false
        → behind_close (s ∷ t ∷ (body ++ star ∷ slash ∷ j)) ≡ Some j
    by ih true e g = absurd (true≢false g)
    by ih false e g = rw e (ih g)

-- where there is none, none is found
missed : (i : List Symbol) → has_close i ≡ false → behind_close i ≡ None
missed [] h = refl
missed (s ∷ i) h = by (missed i) (Star s i) refl h
  where
    by : (has_close i ≡ false → behind_close i ≡ None) → (c : Bool) → Star s i ≡ c → (c || has_close i) ≡ false → behind_close (s ∷ i) ≡ None
    by ih true e g = absurd (true≢false g)
    by ih false e g = rw e (ih g)

record Found (i j : List Symbol) : Type 0 where
  pub body : List Symbol
  pub star : Symbol
  pub slash : Symbol
  pub cut : i ≡ body ++ star ∷ slash ∷ j
  pub a : is 42 star ≡ true
  pub b : is 47 slash ≡ true
  pub first : has_close (body ++ star ∷ []) ≡ false

abbrev Outcome_of : List Symbol → Option (List Symbol) → Type 0
Outcome_of i None = has_close i ≡ false
Outcome_of i (Some j) = Found i j

here : (s : Symbol) (i : List Symbol) → Star s i ≡ true → Found (s ∷ i) (drop 1 i)
here s [] e = absurd (by (is 42 s) e)
  where
    by : (c : Bool) → (c && false) ≡ true → ⊥
    by true g = true≢false (sym g)
    by false g = true≢false (sym g)
here s (t ∷ i) e = by (is 42 s) refl e
  where
    by : (c : Bool) → is 42 s ≡ c → (c && is 47 t) ≡ true → Found (s ∷ t ∷ i) i
    by true g k = record { body = []; star = s; slash = t; cut = refl; a = g; b = k; first = rw g refl }
    by false g k = absurd (true≢false (sym k))

later : (s : Symbol) (i j : List Symbol) → Star s i ≡ false → Found i j → Found (s ∷ i) j
later s i j e f = record {
  body = s ∷ f.body;
  star = f.star;
  slash = f.slash;
  cut = ap (λ l. s ∷ l) f.cut;
  a = f.a;
  b = f.b;
  first = by f.body f.cut f.first;
}
  where
    by : (body : List Symbol) → i ≡ body ++ f.star ∷ f.slash ∷ j → has_close (body ++ f.star ∷ []) ≡ false → has_close (s ∷ (body ++ f.star ∷ [])) ≡ false
    by [] c g = let e' : Star s (f.star ∷ []) ≡ false = sym (ap (Star s) c) ∙ e in rw e' g
    by (t ∷ body) c g = let e' : Star s (t ∷ (body ++ f.star ∷ [])) ≡ false = sym (ap (Star s) c) ∙ e in rw e' g

outcome : (i : List Symbol) → Outcome_of i (behind_close i)
outcome [] = refl
outcome (s ∷ i) = by (Star s i) refl (outcome i)
  where
    over : (o : Option (List Symbol)) → Star s i ≡ false → Outcome_of i o → Outcome_of (s ∷ i) o
    over None e h = rw e h
    over (Some j) e h = later s i j e h

    by : (c : Bool) → Star s i ≡ c → Outcome_of i (behind_close i) → Outcome_of (s ∷ i) (cond c (Some (drop 1 i)) (behind_close i))
    by true e h = here s i e
    by false e h = over (behind_close i) e h

-- ---- comments of several lines

-- behind one without its end nothing stands
abbrev pub FollowSolidus : Solidus → List Symbol → Type 0
FollowSolidus solidus.Sign = Lacks (holds class.Remark)
FollowSolidus solidus.Line = Lacks (holds class.NoLineEnd)
FollowSolidus solidus.Block = Any
FollowSolidus solidus.Open = AtEnd

pub closed-sound : (i : List Symbol) (v : Solidus) (j : List Symbol) → closed i ≡ Ok (v, j) → Closed.reads i v j
unfolding closed
closed-sound i v j e = by (behind_close i) (outcome i) e
  where
    by : (o : Option (List Symbol)) → Outcome_of i o → closing o ≡ Ok (v, j) → Closed.reads i v j
    by None h g = let s = ok-parts solidus.Open v [] j g in inr (sym s.0, sym s.1, h)
    by (Some k) h g =
        let s = ok-parts solidus.Block v k j g in
        inl (sym s.0, h.body, h.star, h.slash, h.cut ∙ ap (λ l. h.body ++ h.star ∷ h.slash ∷ l) s.1, h.a, h.b, h.first)

closed-reads : (i : List Symbol) (v : Solidus) (j : List Symbol) → Closed.reads i v j → closed i ≡ Ok (v, j)
unfolding closed
closed-reads i v j (inl h) = ap closing (ap behind_close h.4 ∙ found h.1 h.2 h.3 j h.5 h.6 h.7) ∙ (let e = h.0 in cc)
closed-reads i v j (inr h) = ap closing (missed i h.2) ∙ (let e = h.0 in let e' = h.1 in cc)

closed-never : (i : List Symbol) (y : Stop Kind) → closed i ≡ Err y → ⊥
unfolding closed
closed-never i y e = by (behind_close i) e
  where
    by : (o : Option (List Symbol)) → closing o ≡ Err y → ⊥
    by None g = absurd (cc)
    by (Some k) g = absurd (cc)

closed-again : (n : Mode) (i : List Symbol) (v : Solidus) (j : List Symbol) → Closed.reads i v j → (front : List Symbol) × (i ≡ front ++ j) × ((l : List Symbol) → Instead (FollowSolidus v) j l → closed (front ++ l) ≡ Ok (v, l))
closed-again n i v j (inl h) = (
  h.1 ++ h.2 ∷ h.3 ∷ [],
  h.4 ∙ sym (append_assoc h.1 (h.2 ∷ h.3 ∷ []) j),
  λ l g. closed-reads _ v l (inl (h.0, h.1, h.2, h.3, append_assoc h.1 (h.2 ∷ h.3 ∷ []) l, h.5, h.6, h.7)),
)
closed-again n i v j (inr h) = (
  i,
  sym (append-nil i) ∙ ap (λ l. i ++ l) (sym h.1),
  λ l g. let none : l ≡ [] = over l (subst (λ w. Instead (FollowSolidus w) j l) h.0 g) in
      closed-reads _ v l (inr (h.0, none, ap (λ k. has_close (i ++ k)) none ∙ (ap has_close (append-nil i) ∙ h.2))),
)
  where
    same : (k l : List Symbol) → k ≡ [] → SameHead k l → l ≡ []
    same [] [] e s = refl
    same [] (t ∷ l) e s = absurd s
    same (t ∷ k) l e s = absurd (cc)

    over : (l : List Symbol) → Instead AtEnd j l → l ≡ []
    over l (inl s) = same j l h.1 s
    over l (inr f) = f

abbrev pub closes : List Symbol
closes = at_zero 42 ∷ at_zero 47 ∷ []

closes-read : (z : List Symbol) → closed (closes ++ z) ≡ Ok (solidus.Block, z)
unfolding closed
closes-read z = refl

closed-exact : (n : Mode) → ExactTo n Closed (λ m. closed) FollowSolidus Any (λ v. ⊤)
closed-exact n = record {
  sound = closed-sound;
  complete = λ i v j h f. closed-reads i v j h;
  first = λ i v j h f. tt;
  met = λ i x k e. absurd (closed-never i (Fault x k) e);
  meets = λ i x k h. absurd h;
  done = λ i v j e. let d = closed-again n i v j (closed-sound i v j e) in record { front = d.0; cut = d.1; again = λ m le l g. d.2 l g };
  stuck = λ i k e. absurd (closed-never i (Unexpected k) e);
  sample = record { text = closes; made = solidus.Block; wanted = tt; deep = 0; alive = λ m le deep z f. closes-read z; starts = λ z f. tt };
}

-- ---- what stands behind a slash

abbrev pub FollowStroke : Solidus × ℕ → List Symbol → Type 0
FollowStroke v = FollowSolidus v.0

module _ (n : Mode) (at_slash : ℕ) where
  abbrev Tail : Rule Symbol Kind (Solidus × ℕ)
  Tail =
      Or (Then (One (is 47)) (λ s. Then (Skip (holds class.NoLineEnd)) (λ x. Pure (solidus.Line, at_slash))))
      (Or (Then (One (is 42)) (λ s. Then Closed (λ v. Pure (v, at_slash)))) (Unless (holds class.Remark) (Pure (solidus.Sign, at_slash))))

  abbrev tail : Q (Solidus × ℕ)
  tail =
      branch (is 47) (one (is 47) >>= (λ s. skip (holds class.NoLineEnd) >>= (λ x. pure (solidus.Line, at_slash))))
      (branch (is 42) (one (is 42) >>= (λ s. closed >>= (λ v. pure (v, at_slash)))) (pure (solidus.Sign, at_slash)))

  abbrev careful : Q (Solidus × ℕ)
  careful =
      branch (is 47) (one (is 47) >>= (λ s. skip (holds class.NoLineEnd) >>= (λ x. pure (solidus.Line, at_slash))))
      (branch (is 42) (one (is 42) >>= (λ s. closed >>= (λ v. pure (v, at_slash)))) (unless (holds class.Remark) (pure (solidus.Sign, at_slash))))

  same_tail : (i : List Symbol) → tail i ≡ careful i
  same_tail [] = refl
  same_tail (s ∷ i) = by (is 47 s) (is 42 s) refl refl
    where
      by : (a b : Bool) → is 47 s ≡ a → is 42 s ≡ b → tail (s ∷ i) ≡ careful (s ∷ i)
      by true b e g = rw e refl
      by false true e g = rw (e, g) refl
      by false false e g = rw (e, g) refl

  star_no_slash : (i : List Symbol) → Passes (is 42) i → Lacks (is 47) i
  star_no_slash i h = at 42 (class.Is 47) i h

  no_remark : (i : List Symbol) → Lacks (holds class.Remark) i → Lacks (is 47) i × Lacks (is 42) i
  no_remark [] h = (refl, refl)
  no_remark (s ∷ i) h = by (is 47 s) refl h
    where
      by : (a : Bool) → is 47 s ≡ a → (a || is 42 s) ≡ false → (is 47 s ≡ false) × (is 42 s ≡ false)
      by true e g = absurd (true≢false g)
      by false e g = (e, g)

  tail-exact : ExactTo n Tail (λ m. tail) FollowStroke Any (λ v. ⊤)
  tail-exact =
      begins
      (same_readers (λ m. tail)
      (choice (is 47)
      (sequence_on {F = λ s. Any} (symbol (is 47) (at_zero 47) refl) (λ s. sequence_on {F = λ x. Lacks (holds class.NoLineEnd)} (skip-exact (holds class.NoLineEnd) (at_zero 97) refl (λ i f. f) refl) (λ x. nothing_on (solidus.Line, at_slash)) (λ x i f. f)) (λ s i f. tt))
      (choice (is 42)
      (sequence_on {F = λ s. Any} (symbol (is 42) (at_zero 42) refl) (λ s. sequence_on (closed-exact n) (λ v. nothing_on (v, at_slash)) (λ v i f. f)) (λ s i f. tt))
      (clear-exact n (holds class.Remark) (solidus.Sign, at_slash) FollowStroke (λ i f. f))
      (λ i h. h) (λ i h. (no_remark i h).1))
      (λ i h. h) (λ i b. elim b [ inl h ↦ star_no_slash i h | inr h ↦ (no_remark i h).0 ]))
      (λ m le i. same_tail i))
      (λ i b. tt)

-- the outcome of what is passed over
skipped : (i : List Symbol) → (j : List Symbol) × (let r : Outcome Symbol Kind (Unit {0}) = skip (holds class.NoLineEnd) i in r ≡ Ok (tt, j))
skipped i = over (length i) i
  where
    over : (f : ℕ) (i : List Symbol) → (j : List Symbol) × (let r : Outcome Symbol Kind (Unit {0}) = loop (holds class.NoLineEnd) (step (holds class.NoLineEnd)) f tt i in r ≡ Ok (tt, j))
    over zero i = (i, refl)
    over (suc f) [] = ([], refl)
    over (suc f) (s ∷ i) = by (holds class.NoLineEnd s) refl (over f i)
      where
        by : (b : Bool) → holds class.NoLineEnd s ≡ b → (j : List Symbol) × (let r : Outcome Symbol Kind (Unit {0}) = loop (holds class.NoLineEnd) (step (holds class.NoLineEnd)) f tt i in r ≡ Ok (tt, j))
            → (j : List Symbol) × (let r : Outcome Symbol Kind (Unit {0}) = loop (holds class.NoLineEnd) (step (holds class.NoLineEnd)) (suc f) tt (s ∷ i) in r ≡ Ok (tt, j))
        by true e d = (d.0, rw e (d.1))
        by false e d = (s ∷ i, rw e refl)

tail_never : (n : Mode) (at_slash : ℕ) (i : List Symbol) (k : ℕ) → tail n at_slash i ≡ Err (Unexpected k) → ⊥
tail_never n at_slash [] k e = absurd (cc)
tail_never n at_slash (s ∷ i) k e = by (is 47 s) (is 42 s) refl refl
  where
    over : (o : Outcome Symbol Kind Solidus) → closed i ≡ o → and_then {B = Solidus × ℕ} o (λ v. pure (v, at_slash)) ≡ Err (Unexpected k) → ⊥
    over (Ok r) g h = absurd (cc)
    over (Err y) g h = closed-never i y g

    by : (a b : Bool) → is 47 s ≡ a → is 42 s ≡ b → ⊥
    by true b g h = let c : tail n at_slash (s ∷ i) ≡ Ok ((solidus.Line, at_slash), (skipped i).0) = rw (g, (skipped i).1) refl in let d = sym c ∙ e in absurd (cc)
    by false true g h = let c : tail n at_slash (s ∷ i) ≡ and_then {B = Solidus × ℕ} (closed i) (λ v. pure (v, at_slash)) = rw (g, h) refl in over (closed i) refl (sym c ∙ e)
    by false false g h = let c : tail n at_slash (s ∷ i) ≡ Ok ((solidus.Sign, at_slash), s ∷ i) = rw (g, h) refl in let d = sym c ∙ e in absurd (cc)

-- ---- a slash

-- behind one that is closed
abbrev pub FollowSlash : Solidus × ℕ → List Symbol → Type 0
FollowSlash (solidus.Sign, at_slash) = Lacks (holds class.Remark)
FollowSlash (solidus.Line, at_slash) = Lacks (holds class.NoLineEnd)
FollowSlash (solidus.Block, at_slash) = Any
FollowSlash (solidus.Open, at_slash) = Any

frees_closed : (v : Solidus × ℕ) → is_closed v ≡ true → (l : List Symbol) → FollowSlash v l → FollowStroke v l
frees_closed (solidus.Sign, at_slash) h l f = f
frees_closed (solidus.Line, at_slash) h l f = f
frees_closed (solidus.Block, at_slash) h l f = f
frees_closed (solidus.Open, at_slash) h l f = absurd (true≢false (sym h))

-- what a slash is, and what follows it
pub data StrokeIs (v : Solidus × ℕ) (j : List Symbol) : Type 0 where
  line : (at_slash : ℕ) → v ≡ (solidus.Line, at_slash) → StrokeIs v j
  block : (at_slash : ℕ) → v ≡ (solidus.Block, at_slash) → StrokeIs v j
  open_comment : (at_slash : ℕ) → v ≡ (solidus.Open, at_slash) → j ≡ [] → StrokeIs v j
  sign : (at_slash : ℕ) → v ≡ (solidus.Sign, at_slash) → Lacks (holds class.Remark) j → StrokeIs v j

pub stroke-is : (i : List Symbol) (v : Solidus × ℕ) (j : List Symbol) → Stroke.reads i v j → StrokeIs v j
stroke-is i v j h = by h.3
  where
    pair : (w : Solidus) → v ≡ (w, h.0.at) → (u : Solidus) → w ≡ u → v ≡ (u, h.0.at)
    pair w e u g = e ∙ ap (λ x. (x, h.0.at)) g

    by : (Tail (record { depth = 0; strict = true }) h.0.at).reads h.1 v j → StrokeIs v j
    by (inl l) = line h.0.at l.3.3.0
    by (inr (inl b)) = elim b.3.2 [ inl d ↦ block h.0.at (pair b.3.0 b.3.3.0 solidus.Block d.0) | inr d ↦ open_comment h.0.at (pair b.3.0 b.3.3.0 solidus.Open d.0) (sym b.3.3.1 ∙ d.1) ]
    by (inr (inr u)) = sign h.0.at u.1.0 (subst (Lacks (holds class.Remark)) u.1.1 u.0)

closed-ends : (i : List Symbol) (v : Solidus × ℕ) (j : List Symbol) → Stroke.reads i v j → is_closed v ≡ false → FollowStroke v j
closed-ends i v j h c = by (stroke-is i v j h)
  where
    by : StrokeIs v j → FollowStroke v j
    by (line a e) = absurd (true≢false (sym (ap is_closed e) ∙ c))
    by (block a e) = absurd (true≢false (sym (ap is_closed e) ∙ c))
    by (open_comment a e g) = subst (λ w. FollowStroke w j) (sym e) g
    by (sign a e g) = absurd (true≢false (sym (ap is_closed e) ∙ c))

module _ (n : Mode) where
  stroke-exact : ExactTo n Stroke (λ m. stroke) FollowStroke (Passes (is 47)) (λ v. ⊤)
  unfolding stroke
  stroke-exact = sequence_on {F = λ s. Any} (symbol (is 47) (at_zero 47) refl) (λ first. tail-exact n first.at) (λ s i b. tt)

  stroke-first : RefusesFirst n (λ m. stroke)
  unfolding stroke
  stroke-first = first_only n (is 47) (λ m s. tail n s.at) (λ s i k e. tail_never n s.at i k e)

  abbrev pub comment : List Symbol
  comment = at_zero 47 ∷ at_zero 42 ∷ closes

  stroke-sample : Sample n (λ m. stroke) FollowStroke (Passes (is 47)) (λ v. ⊤)
  unfolding stroke closed
  stroke-sample = record { text = comment; made = (solidus.Block, 0); wanted = tt; deep = 0; alive = λ m le deep z f. refl; starts = λ z f. refl }

  good : (m : Mode) → Looser n m → is_closed stroke-sample.made ≡ true
  unfolding stroke-sample
  good m le = refl

  pub slash-exact : ExactTo n (Checked (λ i. Unit {0}) is_closed OpenComment Stroke) (λ m. slash) FollowSlash (Passes (is 47)) (λ v. ⊤)
  unfolding slash
  slash-exact =
      judged-exact n Stroke (λ m. stroke) FollowStroke (Passes (is 47)) (λ m. is_closed) OpenComment stroke-exact (λ m le a h. h) stroke-sample good stroke-first closed-ends FollowSlash frees_closed

  pub slash-first : RefusesFirst n (λ m. slash)
  unfolding slash
  slash-first =
      judged-first n Stroke (λ m. stroke) FollowStroke (Passes (is 47)) (λ m. is_closed) OpenComment stroke-exact (λ m le a h. h) stroke-sample good stroke-first closed-ends FollowSlash frees_closed

  pub slash-reads : (z : List Symbol) → slash (comment ++ z) ≡ Ok ((solidus.Block, 0), z)
  unfolding slash stroke closed
  slash-reads z = refl

  abbrev pub slash-sample : Sample n (λ m. slash) FollowSlash (Passes (is 47)) (λ v. ⊤)
  slash-sample = record { text = comment; made = (solidus.Block, 0); wanted = tt; deep = 0; alive = λ m le deep z f. slash-reads z; starts = λ z f. refl }
