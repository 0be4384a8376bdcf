-- One turn of a loop, for the code that makes it.
use Rattle.std.proofs.Common.{◌≡◌, ℕ, zero, suc, ◌-◌, ◌<◌, Bool, true, false, List, [], ◌∷◌, ◌++◌, length, take, drop, slice_index_or, Ok, Err, refl, sym, arith, append_assoc, append-nil}
use Rattle.wy_reading.specs.declared.stop.Stop.{Stop}
use Rattle.wy_reading.specs.declared.stop.Stop.TheVariants.{Unexpected}
use Rattle.wy_reading.specs.Rule.{heads}
use Rattle.wy_reading.specs.Reader.{Reader, Outcome, loop, letter, word, step}

module _ {S X A : Type 0} (test : S → Bool) (turn : A → Reader S X A) where
  pub loop-turn : (f g : ℕ) (a : A) (i : List S) (b : A) (j : List S) → f ≡ suc g → heads test i ≡ true → turn a i ≡ Ok (b, j) → loop test turn f a i ≡ loop test turn g b j
  loop-turn f g a i b j ef et e = rw (ef, et, e) refl

  pub loop-fails : (f g : ℕ) (a : A) (i : List S) (x : Stop X) → f ≡ suc g → heads test i ≡ true → turn a i ≡ Err x → loop test turn f a i ≡ Err x
  loop-fails f g a i x ef et e = rw (ef, et, e) refl

  pub loop-halts : (f : ℕ) (a : A) (i : List S) → heads test i ≡ false → loop test turn f a i ≡ Ok (a, i)
  loop-halts zero a i h = refl
  loop-halts (suc f) a i h = rw h refl

pub ruleset reader_steps = (loop-turn, loop-fails, loop-halts)

-- ---- a word, read as far as it goes

module _ {S X : Type 0} (start part : S → Bool) where
  abbrev Rest : ℕ → List S → List S → Outcome S X (List S)
  Rest f w i = loop part (letter part) f w i

  goes-on : (w i : List S) (n : ℕ) (d : S) → n < length i → part (slice_index_or i n d) ≡ true
      → Rest (length i - n) (w ++ take n i) (drop n i) ≡ Rest (length i - suc n) (w ++ take (suc n) i) (drop (suc n) i)
  goes-on w [] n d le h = absurd (omega arith)
  goes-on w (c ∷ i) zero d le h =
      let all : suc (length i) - 0 ≡ suc (length i) = omega arith in
      let rest : suc (length i) - 1 ≡ length i = omega arith in
      rw (all, rest, append-nil w) (rw h refl)
  goes-on w (c ∷ i) (suc n) d le h =
      let now : suc (length i) - suc n ≡ length i - n = omega arith in
      let next : suc (length i) - suc (suc n) ≡ length i - suc n = omega arith in
      rw (now, next, sym (append_assoc w (c ∷ []) (take n i)), sym (append_assoc w (c ∷ []) (take (suc n) i))) (goes-on (w ++ c ∷ []) i n d (omega (arith, le)) h)

  -- the next symbol belongs to the word
  pub word-turn : (i : List S) (n : ℕ) (d : S) → n < length i → part (slice_index_or i n d) ≡ true
      → Rest (length i - n) (take n i) (drop n i) ≡ Rest (length i - suc n) (take (suc n) i) (drop (suc n) i)
  word-turn i n d le h = goes-on [] i n d le h

  stops : (w i : List S) (n : ℕ) (d : S) → n < length i → part (slice_index_or i n d) ≡ false
      → Rest (length i - n) w (drop n i) ≡ Ok (w, drop n i)
  stops w [] n d le h = absurd (omega arith)
  stops w (c ∷ i) zero d le h = let all : suc (length i) - 0 ≡ suc (length i) = omega arith in rw all (rw h refl)
  stops w (c ∷ i) (suc n) d le h = let now : suc (length i) - suc n ≡ length i - n = omega arith in rw now (stops w i n d (omega (arith, le)) h)

  -- the next symbol doesn't
  pub word-halts : (i : List S) (n : ℕ) (d : S) → n < length i → part (slice_index_or i n d) ≡ false
      → Rest (length i - n) (take n i) (drop n i) ≡ Ok (take n i, drop n i)
  word-halts i n d le h = stops (take n i) i n d le h

  -- the first symbol begins a word
  pub word-begins : (i : List S) → heads start i ≡ true → word {X = X} start part i ≡ Rest (length i - 1) (take 1 i) (drop 1 i)
  word-begins [] h = absurd (cc)
  word-begins (c ∷ i) h = let rest : suc (length i) - 1 ≡ length i = omega arith in rw (rest, h) refl

  -- it doesn't
  pub word-declines : (i : List S) → heads start i ≡ false → word {X = X} start part i ≡ Err (Unexpected (length i))
  word-declines [] h = refl
  word-declines (c ∷ i) h = rw h refl

pub ruleset word_steps = (word-turn, word-halts, word-begins, word-declines)

-- ---- symbols that are passed over

module _ {S X : Type 0} (test : S → Bool) where
  abbrev Over : ℕ → List S → Outcome S X (Unit {0})
  Over f i = loop test (step test) f tt i

  -- the next symbol is passed over
  pub skip-turn : (i : List S) (n : ℕ) (d : S) → n < length i → test (slice_index_or i n d) ≡ true → Over (length i - n) (drop n i) ≡ Over (length i - suc n) (drop (suc n) i)
  skip-turn [] n d le h = absurd (omega arith)
  skip-turn (c ∷ i) zero d le h =
      let all : suc (length i) - 0 ≡ suc (length i) = omega arith in
      let rest : suc (length i) - 1 ≡ length i = omega arith in
      rw (all, rest) (rw h refl)
  skip-turn (c ∷ i) (suc n) d le h =
      let now : suc (length i) - suc n ≡ length i - n = omega arith in
      let next : suc (length i) - suc (suc n) ≡ length i - suc n = omega arith in
      rw (now, next) (skip-turn i n d (omega (arith, le)) h)

  -- it isn't
  pub skip-halts : (i : List S) (n : ℕ) (d : S) → n < length i → test (slice_index_or i n d) ≡ false → Over (length i - n) (drop n i) ≡ Ok (tt, drop n i)
  skip-halts [] n d le h = absurd (omega arith)
  skip-halts (c ∷ i) zero d le h = let all : suc (length i) - 0 ≡ suc (length i) = omega arith in rw all (rw h refl)
  skip-halts (c ∷ i) (suc n) d le h = let now : suc (length i) - suc n ≡ length i - n = omega arith in rw now (skip-halts i n d (omega (arith, le)) h)

pub ruleset skip_steps = (skip-turn, skip-halts)
