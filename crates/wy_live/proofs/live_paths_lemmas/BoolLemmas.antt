-- Truth values.
use Rattle.std.proofs.Common.{◌≡◌, Bool, true, false, not, ◌&&◌, ◌||◌, refl, sym}
use Rattle.wy_lemmas.proofs.Choices.{false_true as never}

pub or_false : (a : Bool) → (a || false) ≡ true → a ≡ true
or_false true e = refl
or_false false e = e

pub not_both : (a b : Bool) → a ≡ false → b ≡ true → (not a && b) ≡ true
not_both true b p q = never (sym p)
not_both false b p q = q

pub not_parts : (a b : Bool) → (not a && b) ≡ true → (a ≡ false) × (b ≡ true)
not_parts true b e = never e
not_parts false b e = (refl, e)

-- ---- of one path behind another

pub used_bits : (b f h g : Bool) → g ≡ (f || h) → (b || g) ≡ ((b || f) || h)
used_bits true f h g e = refl
used_bits false f h g e = e

pub set_bits : (b f s h g : Bool) → g ≡ (f || (s && h)) → (not b && g) ≡ ((not b && f) || ((not b && s) && h))
set_bits true f s h g e = refl
set_bits false f s h g e = e

pub kept_bits : (b s t g : Bool) → g ≡ (s && t) → (not b && g) ≡ ((not b && s) && t)
kept_bits true s t g e = refl
kept_bits false s t g e = e
