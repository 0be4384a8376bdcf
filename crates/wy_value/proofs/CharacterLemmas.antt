-- What the classes of characters say of single characters.
use Rattle.std.proofs.Common.{◌≡◌, ℕ, true, false, true≢false, List, [], ◌∷◌, sym, arith}
use Rattle.wy_data.proofs.WordLemmas.{is_start-ascii, is_part-ascii}
use Rattle.wy_data.specs.Words.{is_start, is_part}
use Rattle.wy_reading.specs.Rule.{heads}
use Rattle.wy_reading.proofs.Exactness.{Passes, Lacks}
use Rattle.wy_reading.proofs.SymbolSets.{heads-at, heads-not}
use Rattle.wy_value.specs.declared.character.Character.{Character}
use Rattle.wy_value.specs.declared.character.Character.TheVariants.{Is}
use Rattle.wy_value.specs.Characters.{has}

-- where the first character is c, a class answers as at c
pub at : (c : ℕ) (class : Character) (i : List ℕ) → Passes (has (Is c)) i → heads (has class) i ≡ has class c
at c class i h = heads-at (λ d. d) c (has class) i h

-- where the first character is in a class that c isn't in, it isn't c
pub other : (c : ℕ) (class : Character) (i : List ℕ) → has class c ≡ false → Passes (has class) i → Lacks (has (Is c)) i
other c class i h g = heads-not (λ d. d) c (has class) i h g

-- what is in a class is in a wider one
pub wider : (class class' : Character) → ((c : ℕ) → has class c ≡ true → has class' c ≡ true) → (i : List ℕ) → Passes (has class) i → Passes (has class') i
wider class class' h [] g = absurd (true≢false (sym g))
wider class class' h (c ∷ i) g = h c g

-- ---- names

pub start_letter : is_start 97 ≡ true
start_letter = is_start-ascii 97 (omega arith)

pub part_letter : is_part 97 ≡ true
part_letter = is_part-ascii 97 (omega arith)

pub space_no_start : is_start 32 ≡ false
space_no_start = is_start-ascii 32 (omega arith)

pub close_no_start : is_start 125 ≡ false
close_no_start = is_start-ascii 125 (omega arith)

pub space_no_part : is_part 32 ≡ false
space_no_part = is_part-ascii 32 (omega arith)

pub colon_no_part : is_part 58 ≡ false
colon_no_part = is_part-ascii 58 (omega arith)
