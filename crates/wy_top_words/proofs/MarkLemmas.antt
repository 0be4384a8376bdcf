-- What `clap` sees of a word, by the mark of the word.
use Rattle.std.proofs.Common.{◌≡◌, ◌==◌, ◌&&◌, ℕ, Bool, cond, true, false, List, [], ◌∷◌, Option, Some, None, refl, sym, ap, subst, arith, length, suc}
use Rattle.std.specs.Prelude.{⊤, IsUtf8, slice_get, option_and_then}
use Rattle.std.specs.Str.{bytes_eq, chars}
use Rattle.std.specs.Char.{encode_utf8}
use Rattle.std.proofs.lemmas.Bool.{eqb-true}
use Rattle.std.proofs.lemmas.Str.{encodes-chars}
use Rattle.std.specs.Prelude.{encode_utf8_all}
use Rattle.clap.specs.Lexer.{long_of, long_of_rest, short_of, short_of_rest, strip_byte}
use Rattle.wy_top_words.specs.CommandLine.{Mark, Text, dash_mark, ends, long_mark, mark_of, operand, option, stray}

abbrev pub is_ends : Mark → Bool
is_ends ends = true
is_ends _ = false

abbrev pub long_in : Mark → Option (Text × Option Text)
long_in (option name value) = Some (name, value)
long_in _ = None

-- what follows the hyphen of a stray word
abbrev pub flags_in : Text → Option Text → Mark → Type 0
flags_in word short stray = (b : ℕ) × (bs : Text) × (short ≡ Some (b ∷ bs)) × (word ≡ 45 ∷ b ∷ bs)
flags_in word short _ = short ≡ None

pub record Looks (m : Mark) (word : Text) : Type 0 where
  pub ends : bytes_eq word (45 ∷ 45 ∷ []) ≡ is_ends m
  pub long : long_of word ≡ long_in m
  pub short : flags_in word (short_of word) m

looks_long : (bs : Text) → Looks (long_mark bs) (45 ∷ 45 ∷ bs)
looks_long [] = record { ends = refl; long = refl; short = refl }
looks_long (b ∷ bs) = record { ends = refl; long = refl; short = refl }

looks_dash : (bs : Text) → Looks (dash_mark bs) (45 ∷ bs)
looks_dash [] = record { ends = refl; long = refl; short = refl }
looks_dash (b ∷ bs) = go (b == 45) refl
  where
    go : (t : Bool) → (b == 45) ≡ t → Looks (cond t (long_mark bs) stray) (45 ∷ b ∷ bs)
    go true e = subst (λ (x : ℕ). Looks (long_mark bs) (45 ∷ x ∷ bs)) (sym (eqb-true b 45 e)) (looks_long bs)
    go false e = record {
      ends = ap (λ (t : Bool). t && bytes_eq bs []) e;
      long = ap (λ (t : Bool). option_and_then long_of_rest (cond t (Some bs) None)) e;
      short = (b, bs, ap (λ (t : Bool). cond t None (Some (b ∷ bs))) e, refl);
    }

-- each word looks as its mark says
pub looks : (word : Text) → Looks (mark_of word) word
looks [] = record { ends = refl; long = refl; short = refl }
looks (b ∷ bs) = go (b == 45) refl
  where
    go : (t : Bool) → (b == 45) ≡ t → Looks (cond t (dash_mark bs) operand) (b ∷ bs)
    go true e = subst (λ (x : ℕ). Looks (dash_mark bs) (x ∷ bs)) (sym (eqb-true b 45 e)) (looks_dash bs)
    go false e = record {
      ends = ap (λ (t : Bool). t && bytes_eq bs (45 ∷ [])) e;
      long = ap (λ (t : Bool). option_and_then long_of_rest (option_and_then (strip_byte 45) (cond t (Some bs) None))) e;
      short = ap (λ (t : Bool). option_and_then short_of_rest (cond t (Some bs) None)) e;
    }

-- a text behind a hyphen has a first character
pub some_char : (b : ℕ) (bs : Text) → IsUtf8 (45 ∷ b ∷ bs) → (x : ℕ) × (slice_get (chars (b ∷ bs)) 0 ≡ Some x)
unfolding chars encode_utf8
some_char b bs u = go (chars (b ∷ bs)) (encodes-chars (45 ∷ b ∷ bs) u)
  where
    go : (cs : List ℕ) → encode_utf8_all (45 ∷ cs) ≡ 45 ∷ b ∷ bs → (x : ℕ) × (slice_get cs 0 ≡ Some x)
    go [] e = let long : 1 ≡ suc (suc (length bs)) = ap length e in absurd (omega arith)
    go (x ∷ cs) e = (x, refl)

-- each word is text
abbrev pub AreTexts : List Text → Type 0
AreTexts [] = ⊤
AreTexts (w ∷ ws) = IsUtf8 w × AreTexts ws
