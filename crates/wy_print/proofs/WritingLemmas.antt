-- A text that is written piece by piece.
use Rattle.std.proofs.Common.{◌≡◌, ◌∙◌, ℕ, List, ◌++◌, refl, ap, sym, append_assoc}

-- two pieces, and then a text that is made of them
pub two : (old t u a b w : List ℕ) → t ≡ old ++ a → u ≡ t ++ b → w ≡ a ++ b → u ≡ old ++ w
two old t u a b w p q e = q ∙ (ap (λ l. l ++ b) p ∙ (append_assoc old a b ∙ ap (λ l. old ++ l) (sym e)))

pub three : (old t u v a b c w : List ℕ) → t ≡ old ++ a → u ≡ t ++ b → v ≡ u ++ c → w ≡ a ++ (b ++ c) → v ≡ old ++ w
three old t u v a b c w p q r e = two old t v a (b ++ c) w p (two t u v b c (b ++ c) q r refl) e

pub four : (old t u v x a b c d w : List ℕ) → t ≡ old ++ a → u ≡ t ++ b → v ≡ u ++ c → x ≡ v ++ d → w ≡ a ++ (b ++ (c ++ d)) → x ≡ old ++ w
four old t u v x a b c d w p q r s e = two old t x a (b ++ (c ++ d)) w p (three t u v x b c d (b ++ (c ++ d)) q r s refl) e

pub five : (old t u v x y a b c d f w : List ℕ) → t ≡ old ++ a → u ≡ t ++ b → v ≡ u ++ c → x ≡ v ++ d → y ≡ x ++ f
    → w ≡ a ++ (b ++ (c ++ (d ++ f))) → y ≡ old ++ w
five old t u v x y a b c d f w p q r s o e = two old t y a (b ++ (c ++ (d ++ f))) w p (four t u v x y b c d f (b ++ (c ++ (d ++ f))) q r s o refl) e

pub six : (old t u v x y z a b c d f g w : List ℕ) → t ≡ old ++ a → u ≡ t ++ b → v ≡ u ++ c → x ≡ v ++ d → y ≡ x ++ f → z ≡ y ++ g
    → w ≡ a ++ (b ++ (c ++ (d ++ (f ++ g)))) → z ≡ old ++ w
six old t u v x y z a b c d f g w p q r s o m e =
    two old t z a (b ++ (c ++ (d ++ (f ++ g)))) w p (five t u v x y z b c d f g (b ++ (c ++ (d ++ (f ++ g)))) q r s o m refl) e
