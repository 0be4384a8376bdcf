-- Texts in which no line ends, and no semicolon stands behind a space.
use Rattle.std.proofs.Common.{◌≡◌, ◌<◌, ℕ, List, [], ◌∷◌, ◌++◌, length, Bool, true, false, cond, eqb, Option, Some, None, ◌⊎◌, inl, inr, refl, sym, ap, ◌∙◌, subst, not-suc-le-zero}
use Rattle.std.proofs.lemmas.Bool.{eqb-true}
use Rattle.wy_data.specs.scan.Front.{is_digit, is_word_byte, AllPass}
use Rattle.wy_data.specs.scan.Numbers.{IsSignOrDigits}

-- the last byte of a text behind this one, unless a line ends in it or a semicolon stands behind a space
abbrev pub scan : ℕ → List ℕ → Option ℕ
scan p [] = Some p
scan p (b ∷ bs) = cond (eqb b 10) None (cond (eqb b 59) (cond (eqb p 32) None (scan b bs)) (scan b bs))

-- the text can stand behind any byte
pub record Ends (p : ℕ) (xs : List ℕ) : Type 0 where
  pub last : ℕ
  pub runs : scan p xs ≡ Some last

pub record EndsNeat (p : ℕ) (xs : List ℕ) : Type 0 where
  pub last : ℕ
  pub runs : scan p xs ≡ Some last
  pub no_space : eqb last 32 ≡ false

abbrev pub Passes : List ℕ → Type 0
Passes xs = (p : ℕ) → Ends p xs

-- likewise, and it ends in no space
abbrev pub IsNeat : List ℕ → Type 0
IsNeat xs = (p : ℕ) → EndsNeat p xs

pub neat_passes : (xs : List ℕ) → IsNeat xs → Passes xs
neat_passes xs h p = record { last = (h p).last; runs = (h p).runs }

-- ---- one behind the other

kept_on : (x y z : Bool) (a b : Option ℕ) (q : ℕ) (r : Option ℕ) → (a ≡ Some q → b ≡ r) → cond x None (cond y (cond z None a) a) ≡ Some q → cond x None (cond y (cond z None b) b) ≡ r
kept_on true y z a b q r f e = absurd cc
kept_on false true true a b q r f e = absurd cc
kept_on false true false a b q r f e = f e
kept_on false false z a b q r f e = f e

pub scan_append : (p : ℕ) (xs ys : List ℕ) (q : ℕ) → scan p xs ≡ Some q → scan p (xs ++ ys) ≡ scan q ys
scan_append p [] ys q e = let same : p ≡ q = cc in ap (λ (r : ℕ). scan r ys) same
scan_append p (b ∷ bs) ys q e = kept_on (eqb b 10) (eqb b 59) (eqb p 32) (scan b bs) (scan b (bs ++ ys)) q (scan q ys) (scan_append b bs ys q) e

pub passes_both : (xs ys : List ℕ) → Passes xs → Passes ys → Passes (xs ++ ys)
passes_both xs ys f g p = record { last = (g (f p).last).last; runs = scan_append p xs ys (f p).last (f p).runs ∙ (g (f p).last).runs }

pub neat_behind : (xs ys : List ℕ) → Passes xs → IsNeat ys → IsNeat (xs ++ ys)
neat_behind xs ys f g p = record { last = (g (f p).last).last; runs = scan_append p xs ys (f p).last (f p).runs ∙ (g (f p).last).runs; no_space = (g (f p).last).no_space }

pub passes_nothing : Passes []
passes_nothing p = record { last = p; runs = refl }

-- behind a byte that is no space
abbrev pub NeatBehind : List ℕ → Type 0
NeatBehind xs = (p : ℕ) → eqb p 32 ≡ false → EndsNeat p xs

pub neat_on : (xs ys : List ℕ) → IsNeat xs → NeatBehind ys → IsNeat (xs ++ ys)
neat_on xs ys f g p =
    let a = f p in
    let b = g a.last a.no_space in
    record { last = b.last; runs = scan_append p xs ys a.last a.runs ∙ b.runs; no_space = b.no_space }

pub behind_both : (xs ys : List ℕ) → NeatBehind xs → NeatBehind ys → NeatBehind (xs ++ ys)
behind_both xs ys f g p e =
    let a = f p e in
    let b = g a.last a.no_space in
    record { last = b.last; runs = scan_append p xs ys a.last a.runs ∙ b.runs; no_space = b.no_space }

-- a semicolon and a space behind no space, and then a text
pub member_behind : (xs : List ℕ) → IsNeat xs → NeatBehind (59 ∷ 32 ∷ xs)
member_behind xs f p e =
    let a = f 32 in
    record { last = a.last; runs = ap (λ (b : Bool). cond b None (scan 32 xs)) e ∙ a.runs; no_space = a.no_space }

-- ---- plain bytes

pub record IsPlain (b : ℕ) : Type 0 where
  pub no_end : eqb b 10 ≡ false
  pub no_semicolon : eqb b 59 ≡ false
  pub no_space : eqb b 32 ≡ false

abbrev pub ArePlain : List ℕ → Type 0
ArePlain [] = Unit {0}
ArePlain (b ∷ bs) = IsPlain b × ArePlain bs

-- what passes the test isn't that byte
pub other : (test : ℕ → Bool) (b c : ℕ) → test b ≡ true → test c ≡ false → eqb b c ≡ false
other test b c e f = by (eqb b c) refl
  where
    two : (x : Bool) → x ≡ true → x ≡ false → ⊥
    two x g h = let same : true ≡ false = sym g ∙ h in absurd cc

    by : (x : Bool) → eqb b c ≡ x → eqb b c ≡ false
    by true is = absurd (two (test b) e (ap test (eqb-true b c is) ∙ f))
    by false is = is

word_plain : (b : ℕ) → is_word_byte b ≡ true → IsPlain b
word_plain b e = record { no_end = other is_word_byte b 10 e refl; no_semicolon = other is_word_byte b 59 e refl; no_space = other is_word_byte b 32 e refl }

digit_plain : (b : ℕ) → is_digit b ≡ true → IsPlain b
digit_plain b e = record { no_end = other is_digit b 10 e refl; no_semicolon = other is_digit b 59 e refl; no_space = other is_digit b 32 e refl }

pub words_plain : (xs : List ℕ) → AllPass is_word_byte xs → ArePlain xs
words_plain [] h = tt
words_plain (b ∷ bs) h = (word_plain b h.0, words_plain bs h.1)

pub digits_plain : (xs : List ℕ) → AllPass is_digit xs → ArePlain xs
digits_plain [] h = tt
digits_plain (b ∷ bs) h = (digit_plain b h.0, digits_plain bs h.1)

pub signed_plain : (xs : List ℕ) → IsSignOrDigits xs → ArePlain xs
signed_plain [] h = tt
signed_plain (b ∷ bs) h = (first h.0, digits_plain bs h.1)
  where
    minus : IsPlain 45
    minus = record { no_end = refl; no_semicolon = refl; no_space = refl }

    first : ((b ≡ 45) ⊎ (is_digit b ≡ true)) → IsPlain b
    first (inl e) = subst IsPlain (sym e) minus
    first (inr e) = digit_plain b e

plain_step : (p b : ℕ) (bs : List ℕ) → IsPlain b → scan p (b ∷ bs) ≡ scan b bs
plain_step p b bs h =
    ap (λ (x : Bool). cond x None (cond (eqb b 59) (cond (eqb p 32) None (scan b bs)) (scan b bs))) h.no_end
    ∙ ap (λ (x : Bool). cond x (cond (eqb p 32) None (scan b bs)) (scan b bs)) h.no_semicolon

pub plain_passes : (xs : List ℕ) → ArePlain xs → Passes xs
plain_passes [] h p = record { last = p; runs = refl }
plain_passes (b ∷ bs) h p =
    let rest = plain_passes bs h.1 b in
    record { last = rest.last; runs = plain_step p b bs h.0 ∙ rest.runs }

plain_behind : (b : ℕ) (bs : List ℕ) → IsPlain b → ArePlain bs → EndsNeat b bs
plain_behind b [] h g = record { last = b; runs = refl; no_space = h.no_space }
plain_behind b (c ∷ cs) h g =
    let rest = plain_behind c cs g.0 g.1 in
    record { last = rest.last; runs = plain_step b c cs g.0 ∙ rest.runs; no_space = rest.no_space }

pub plain_neat : (xs : List ℕ) → 0 < length xs → ArePlain xs → IsNeat xs
plain_neat [] some h p = absurd (not-suc-le-zero some)
plain_neat (b ∷ bs) some h p =
    let rest = plain_behind b bs h.0 h.1 in
    record { last = rest.last; runs = plain_step p b bs h.0 ∙ rest.runs; no_space = rest.no_space }
