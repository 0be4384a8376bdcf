-- What is known at a point of a body, and a store there.
use Rattle.std.specs.Prelude.{◌≡◌, ℕ, Bool, true, Option, Some}
use Rattle.wy_term.specs.Term.{Term}
use Rattle.wy_term.specs.Meaning.{Names, sense}
use Rattle.wy_sound_terms.specs.wy_sem.Expressions.{Store}
use Rattle.wy_sound_terms.specs.wy_vc_spec.Variables.{slot_at}
use Rattle.wy_sound_terms.specs.wy_vc_spec.Spots.{Spot, is_set}
use Rattle.wy_sound_walks.specs.expressions.Names.{Agree, Known, Stand}

-- the term means the same at any two names that agree below the count
abbrev pub Depends : ℕ → Term → Type 0
Depends n t = (v w : Names) → Agree n v w → (sense w t).datum ≡ (sense v t).datum

-- what each point of a walk is, whatever happens: terms of variables have only names below the count, and a variable that is marked has a term
pub record IsPoint (n : ℕ) (p : Spot) : Type 0 where
  pub depends : (x : ℕ) (t : Term) → slot_at p.vars x ≡ Some t → Depends n t
  pub marked : (x : ℕ) → is_set p.set x ≡ true → (t : Term) × (slot_at p.vars x ≡ Some t)

-- there are later names at which the hypotheses of the point are known, and its marked variables stand for the store
pub record At (n : ℕ) (names : Names) (m : ℕ) (p : Spot) (s : Store) : Type 0 where
  pub later : Names
  pub agree : Agree n names later
  pub known : Known m later p.hyps
  pub stand : Stand m later p.vars (is_set p.set) s
