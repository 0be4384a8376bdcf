-- The longest front that is UTF-8.
use Rattle.std.proofs.Common.{◌≡◌, ℕ, zero, suc, ◌≤◌, ◌<◌, Bool, true, false, cond, true≢false, List, [], ◌∷◌, length, take, ◌⊎◌, inl, inr, refl, sym, ap, ◌∙◌, subst, arith}
use Rattle.std.specs.Str.{IsUtf8, IsValidUpTo, is_utf8}
use Rattle.std.specs.Str.Lossy.{valid_len_up_to, utf8_valid_len}
use Rattle.std.proofs.lemmas.Str.{IsUtf8-from_is_utf8, is_utf8-from_IsUtf8, utf8_valid_len_le}

-- v is the greatest length up to m
record UpTo (bytes : List ℕ) (m v : ℕ) : Type 0 where
  pub front : IsUtf8 (take v bytes)
  pub longest : (k : ℕ) → v < k → k ≤ m → IsUtf8 (take k bytes) → ⊥

up_to : (bytes : List ℕ) (m : ℕ) → UpTo bytes m (valid_len_up_to bytes m)
up_to bytes zero = record { front = ([], (refl, refl)); longest = λ k a b u. absurd (omega (arith, a, b)) }
up_to bytes (suc m) = by (is_utf8 (take (suc m) bytes)) refl (up_to bytes m)
  where
    by : (b : Bool) → is_utf8 (take (suc m) bytes) ≡ b → UpTo bytes m (valid_len_up_to bytes m) → UpTo bytes (suc m) (cond b (suc m) (valid_len_up_to bytes m))
    by true e d = record { front = IsUtf8-from_is_utf8 (take (suc m) bytes) e; longest = λ k a b u. absurd (omega (arith, a, b)) }
    by false e d = record {
      front = d.front;
      longest = λ k a b u.
          let last : (k ≤ m) ⊎ (k ≡ suc m) = grind (arith, b) in
          elim last [ inl c ↦ d.longest k a c u | inr c ↦ true≢false (sym (is_utf8-from_IsUtf8 (take (suc m) bytes) (subst (λ l. IsUtf8 (take l bytes)) c u)) ∙ e) ];
    }

pub take-all : (bytes : List ℕ) (m : ℕ) → length bytes ≤ m → take m bytes ≡ bytes
take-all [] zero le = refl
take-all [] (suc m) le = refl
take-all (c ∷ bytes) zero le = absurd (omega (arith, le))
take-all (c ∷ bytes) (suc m) le = ap (λ l. c ∷ l) (take-all bytes m (omega (arith, le)))

pub valid_up_to : (bytes : List ℕ) → (IsUtf8 bytes → ⊥) → IsValidUpTo bytes (utf8_valid_len bytes)
unfolding utf8_valid_len
valid_up_to bytes bad =
    let d = up_to bytes (length bytes) in
    let v = valid_len_up_to bytes (length bytes) in
    let whole : (m : ℕ) → length bytes ≤ m → IsUtf8 (take m bytes) → ⊥ = λ m le u. bad (subst IsUtf8 (take-all bytes m le) u) in
    let cases : (m : ℕ) → (m ≤ length bytes) ⊎ (length bytes ≤ m) = λ m. grind arith in
    let within = utf8_valid_len_le bytes in
    record {
      short = short v within (λ e. whole v (omega (arith, e)) d.front);
      front = d.front;
      longest = λ m a u. elim (cases m) [ inl le ↦ d.longest m a le u | inr le ↦ whole m le u ];
    }
  where
    short : (v : ℕ) → v ≤ length bytes → (v ≡ length bytes → ⊥) → v < length bytes
    short v le h = grind (arith, le, h)
