-- A map of fields finds a name where a field has it.
use Rattle.std.proofs.Common.{◌≡◌, ℕ, Bool, true, false, cond, List, [], ◌∷◌, refl, is_some, Some}
use Rattle.std.specs.Map.{lookup}
use Rattle.std.specs.BTreeMap.{is_at}
use Rattle.std.specs.Ordering.{nat_cmp}
use Rattle.std.specs.Cmp.Lexicographic.{slice_cmp}
use Rattle.std.specs.Str.{bytes_eq}
use Rattle.std.proofs.lemmas.Map.Text.{is_eq-slice_cmp}
use Rattle.wy_value.specs.Grammar.{Entry, given}

pub found : (fs : List Entry) (name : List ℕ) → is_some (lookup (is_at (slice_cmp nat_cmp name)) fs) ≡ given fs name
found [] name = refl
found (f ∷ fs) name = rw (is_eq-slice_cmp name f.0) (by (bytes_eq name f.0) (found fs name))
  where
    by : (b : Bool) → is_some (lookup (is_at (slice_cmp nat_cmp name)) fs) ≡ given fs name
        → is_some (cond b (Some f.1) (lookup (is_at (slice_cmp nat_cmp name)) fs)) ≡ cond b true (given fs name)
    by true ih = refl
    by false ih = ih
