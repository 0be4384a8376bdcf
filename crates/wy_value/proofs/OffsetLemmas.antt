-- The bytes of characters, one character after another.
use Rattle.std.proofs.Common.{true, ◌≡◌, ℕ, zero, suc, ◌+◌, ◌<◌, List, [], ◌∷◌, ◌++◌, length, take, slice_index_or, sym, ap, ◌∙◌, arith, length-append, append-nil, append_assoc}
use Rattle.std.specs.Str.{encode_utf8_all, all_scalars, IsUtf8}
use Rattle.std.proofs.lemmas.Str.{chars_from_encodes, scalars-chars}
use Rattle.std.specs.Char.{encode_utf8}

-- one more character
pub encoded_next : (cs : List ℕ) (n d : ℕ) → n < length cs → encode_utf8_all (take (suc n) cs) ≡ encode_utf8_all (take n cs) ++ encode_utf8 (slice_index_or cs n d)
encoded_next [] n d le = absurd (omega arith)
encoded_next (c ∷ cs) zero d le = append-nil (encode_utf8 c)
encoded_next (c ∷ cs) (suc n) d le = rw (encoded_next cs n d (omega (arith, le))) (sym (append_assoc (encode_utf8 c) (encode_utf8_all (take n cs)) (encode_utf8 (slice_index_or cs n d))))

-- one more character has so many bytes more
pub bytes-take : (cs : List ℕ) (n m c : ℕ) → m ≡ suc n → n < length cs → c ≡ slice_index_or cs n c → length (encode_utf8_all (take m cs)) ≡ length (encode_utf8_all (take n cs)) + length (encode_utf8 c)
bytes-take cs n m c next le e =
    let h = encoded_next cs n c le in
    omega (arith, ap (λ k. length (encode_utf8_all (take k cs))) next, ap length h, length-append (encode_utf8_all (take n cs)) (encode_utf8 (slice_index_or cs n c)), ap (λ d. length (encode_utf8 d)) e)

-- the characters of a text are characters
pub decoded_scalars : (bytes cs : List ℕ) → IsUtf8 bytes → encode_utf8_all cs ≡ bytes → all_scalars cs ≡ true
decoded_scalars bytes cs u e = ap all_scalars (chars_from_encodes cs bytes u e) ∙ scalars-chars bytes u
