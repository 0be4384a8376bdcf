-- What holds of a formed program holds of each of its types, functions and methods.
use Rattle.std.proofs.Common.{◌≡◌, ℕ, zero, suc, List, [], ◌∷◌, Option, Some, subst}
use Rattle.std.specs.Prelude.{slice_get}
use Rattle.wy_core.specs.CoreTree.{Alias, Routine, Decl, AliasDecl, RoutineDecl, aliases_of, routines_of}
use Rattle.wy_core.specs.formed.Offers.{Offers, offers_of}
use Rattle.wy_core.specs.formed.Bound.{BoundDecls}
use Rattle.wy_core.specs.formed.Calls.{CallsDecls}
use Rattle.wy_core.specs.formed.Literals.{Ints}
use Rattle.wy_core.specs.formed.Sizes.{IsSmall}
use Rattle.wy_core.specs.formed.Wholes.{IsQuiet, Wholes}
use Rattle.wy_sound.specs.typing.Parts.{FormedAlias, FormedRoutine, PartsAreFormed}

record Well (o : Offers) (ds : List (Decl ℕ)) : Type 0 where
  pub bound : BoundDecls o ds
  pub calls : CallsDecls o ds
  pub quiet : Wholes IsQuiet ds
  pub ints : Ints ds
  pub small : Wholes IsSmall ds

rest : (o : Offers) (d : Decl ℕ) (ds : List (Decl ℕ)) → Well o (d ∷ ds) → Well o ds
rest o d ds h = record { bound = h.bound.1; calls = h.calls.1; quiet = h.quiet.1; ints = h.ints.1; small = h.small.1 }

same_alias : (a b : Alias ℕ) → ◌≡◌ {A = Option (Alias ℕ)} (Some a) (Some b) → a ≡ b
same_alias a b e = cc

pub same_routine : (a b : Routine ℕ) → ◌≡◌ {A = Option (Routine ℕ)} (Some a) (Some b) → a ≡ b
same_routine a b e = cc

each_alias : (o : Offers) (ds : List (Decl ℕ)) → Well o ds → (b : ℕ) (a : Alias ℕ) → slice_get (aliases_of ds) b ≡ Some a → FormedAlias o a
each_alias o [] h b a e = absurd cc
each_alias o (AliasDecl c ∷ ds) h zero a e = subst (FormedAlias o) (same_alias c a e) (record { bound = h.bound.0; calls = h.calls.0; quiet = h.quiet.0; ints = h.ints.0; small = h.small.0 })
each_alias o (AliasDecl c ∷ ds) h (suc b) a e = each_alias o ds (rest o (AliasDecl c) ds h) b a e
each_alias o (RoutineDecl r ∷ ds) h b a e = each_alias o ds (rest o (RoutineDecl r) ds h) b a e

each_routine : (o : Offers) (ds : List (Decl ℕ)) → Well o ds → (f : ℕ) (r : Routine ℕ) → slice_get (routines_of ds) f ≡ Some r → FormedRoutine o r
each_routine o [] h f r e = absurd cc
each_routine o (AliasDecl c ∷ ds) h f r e = each_routine o ds (rest o (AliasDecl c) ds h) f r e
each_routine o (RoutineDecl s ∷ ds) h zero r e = subst (FormedRoutine o) (same_routine s r e) (record { bound = h.bound.0; calls = h.calls.0; quiet = h.quiet.0; ints = h.ints.0; small = h.small.0 })
each_routine o (RoutineDecl s ∷ ds) h (suc f) r e = each_routine o ds (rest o (RoutineDecl s) ds h) f r e

pub parts_formed : PartsAreFormed
parts_formed = record {
  aliases = λ core h b a e. each_alias (offers_of core) core (record { bound = h.bound; calls = h.calls; quiet = h.quiet; ints = h.ints; small = h.small }) b a e;
  routines = λ core h f r e. each_routine (offers_of core) core (record { bound = h.bound; calls = h.calls; quiet = h.quiet; ints = h.ints; small = h.small }) f r e;
}
