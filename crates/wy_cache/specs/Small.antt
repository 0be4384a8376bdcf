-- What a file for one condition has.
use Rattle.std.specs.Prelude.{◌≡◌, [], ◌∷◌}
use Rattle.wy_cert.specs.Steps.{Certificates}

-- no certificate, or one for condition 1
abbrev pub IsSmall : Certificates → Type 0
IsSmall [] = Unit {0}
IsSmall (c ∷ []) = c.0 ≡ 1
IsSmall (c ∷ d ∷ ds) = ⊥
