-- The head of a loop, at each of its turns.
use Rattle.std.specs.Prelude.{◌≡◌, ℕ, ◌≤◌, Bool, true, false, Some}
use Rattle.wy_value.specs.Datum.{Datum}
use Rattle.wy_core.specs.CoreTree.{Stmts}
use Rattle.wy_term.specs.Meaning.{Names}
use Rattle.wy_sound_terms.specs.wy_sem.Expressions.{Store, slot}
use Rattle.wy_sound_terms.specs.wy_sem.Statements.{type_at}
use Rattle.wy_sound_terms.specs.wy_vc_spec.Numbered.{Node}
use Rattle.wy_sound_terms.specs.wy_vc_spec.Values.{named_in}
use Rattle.wy_sound_terms.specs.wy_vc_spec.Spots.{Spot, is_set}
use Rattle.wy_sound_terms.specs.wy_vc_spec.Assigned.{assigns_in}
use Rattle.wy_sound_terms.specs.wy_vc_spec.Statements.{Body, renew}
use Rattle.wy_sound_walks.specs.expressions.Types.{is_in}
use Rattle.wy_sound_walks.specs.expressions.Written.{IsWritten}
use Rattle.wy_sound_walks.specs.expressions.Laws.{NamesTold, AreValTerms}
use Rattle.wy_sound_walks.specs.joins.Points.{At}

-- a store at a turn of the loop: of the variables that were marked at the entry, those that the body doesn't assign are as they were there, and each has a value of its declared type
pub record IsTurn (b : Body Node) (members : ℕ → Datum → Bool) (body : Stmts Node) (p : Spot) (first s : Store) : Type 0 where
  pub kept : (x : ℕ) → is_set p.set x ≡ true → assigns_in x body ≡ false → slot s x ≡ slot first x
  pub valued : (x : ℕ) → is_set p.set x ≡ true → (d : Datum) × (slot s x ≡ Some d)
  pub typed : (x : ℕ) (d : Datum) → is_set p.set x ≡ true → slot s x ≡ Some d → is_in members (type_at b.types x) d ≡ true

-- a store at any turn is at the head, where the store at the entry was at the point before it: the variables that the body assigns stand for new names, which are given the values of this turn
abbrev pub HeadsAreSound : Type 0
HeadsAreSound =
    (b : Body Node) (members : ℕ → Datum → Bool) → NamesTold members (named_in b.program.setting) → ((x : ℕ) → IsWritten (type_at b.types x))
    → (body : Stmts Node) (p : Spot) (n m : ℕ) (names : Names) (first s : Store) → n ≤ m → names.is_member ≡ members → AreValTerms p.vars → At n names m p first → IsTurn b members body p first s
    → At n names (renew b body p m).count (renew b body p m).spot s
