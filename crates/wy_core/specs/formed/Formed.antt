-- What a formed core is.
use Rattle.std.specs.Prelude.{◌<◌, ℕ, length}
use Rattle.wy_core.specs.CoreTree.{Core}
use Rattle.wy_core.specs.formed.Bound.{Bound}
use Rattle.wy_core.specs.formed.Calls.{Calls}
use Rattle.wy_core.specs.formed.Literals.{Ints}
use Rattle.wy_core.specs.formed.Recursion.{Recursion}
use Rattle.wy_core.specs.formed.Sizes.{IsSmall}
use Rattle.wy_core.specs.formed.Wholes.{IsQuiet, Wholes}

-- a core as every pass behind name resolution may take it to be
pub record Formed (core : Core ℕ) : Type 0 where
  -- there are fewer than 2^32 declarations
  pub few : length core < 4294967296
  -- each name leads where it should
  pub bound : Bound core
  -- contracts call nothing, functions no method, and quantifiers nothing
  pub calls : Calls core
  pub quiet : Wholes IsQuiet core
  -- each literal is an `int`
  pub ints : Ints core
  -- types recur through records or arrays
  pub recursion : Recursion core
  -- each whole expression is within the limits
  pub small : Wholes IsSmall core
