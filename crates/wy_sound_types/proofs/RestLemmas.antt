-- What evaluations rest on, where named types stand for data that meet the formulas.
use Rattle.std.proofs.Common.{◌≡◌, ℕ, ◌+◌, zero, suc, List, [], ◌∷◌, Bool, true, false, Option, Some, slice_get, refl, sym, ◌∙◌, subst}
use Rattle.wy_value.specs.Datum.{Datum}
use Rattle.wy_core.specs.Types.{Ty}
use Rattle.wy_core.specs.CoreTree.{Expr, Decl, AliasDecl, RoutineDecl, Core, aliases_of}
use Rattle.wy_core.specs.formed.Offers.{offers_of}
use Rattle.wy_types.proofs.formed_lemmas.OrderLemmas.{ordered_types}
use Rattle.wy_types.specs.Names.{Declared, names_in, Up, Down}
use Rattle.wy_types.specs.Recursion.{RecurThroughParts}
use Rattle.wy_sound_statements.specs.wy_flow_spec.typing.Programs.{program_of}
use Rattle.wy_sem.specs.Meter.{Meter, Outcome, Done}
use Rattle.wy_sem.specs.Expressions as sem
use Rattle.wy_sem.specs.TypeTests.{has_clauses, alias_at, is_constrained}
use Rattle.wy_sound_statements.specs.wy_vc_spec.Numbered.{Node, exprs_in_decl, numbered_decls}
use Rattle.wy_sound_statements.specs.wy_vc_spec.Values.{Setting}
use Rattle.wy_sound_statements.specs.wy_sound_walks.expressions.Types.{is_in}
use Rattle.wy_sound_statements.specs.wy_sound_walks.expressions.Written.{IsWritten}
use Rattle.wy_sound_statements.specs.wy_sound_walks.expressions.Suits.{Answers}
use Rattle.wy_sound_statements.specs.wy_sound_kinds.Bounded.{IsBounded}
use Rattle.wy_sound_statements.specs.wy_sound_kinds.Ready.{Rules}
use Rattle.wy_sound_statements.specs.wy_sound_kinds.Kinds.{Rests}
use Rattle.wy_sound_statements.specs.wy_sound_kinds.suits.Laws.{Asks}
use Rattle.wy_sound_types.specs.members.Denotations.{clauses_denote, alias_denotes}
use Rattle.wy_sound_types.specs.Tests.{TestsTell}
use Rattle.wy_sound_types.specs.members.Laws.{told_by}
use Rattle.wy_sound_types.specs.Laws.{TypesMeet, Gives, TypesAreRead}
use Rattle.wy_sound_types.proofs.members_lemmas.ToldLemmas.{alias_written, defined_is}
use Rattle.wy_sound_types.proofs.ReadingLemmas.{Between, Fits, Defines, between}
use Rattle.wy_sound_types.proofs.ExactLemmas.{readings_same}

-- the declared types of typing are those of the conditions
pub found : (ds : List (Decl ℕ)) (k n : ℕ) → Fits (slice_get (names_in ds) n) (alias_at (aliases_of (numbered_decls ds k)) n)
found [] k n = refl
found (AliasDecl a ∷ ds) k zero = (refl, refl)
found (AliasDecl a ∷ ds) k (suc n) = found ds (k + exprs_in_decl (AliasDecl a)) n
found (RoutineDecl r ∷ ds) k n = found ds (k + exprs_in_decl (RoutineDecl r)) n

no_clauses : (members : ℕ → Datum → Bool) (is_number : Node → Bool) (es : List (Expr Node)) (has : ℕ → Datum) → has_clauses es ≡ false → clauses_denote members is_number es has ≡ true
no_clauses members is_number [] has h = refl
no_clauses members is_number (e ∷ es) has h = absurd cc

answer_is : (x b : Bool) (k : Meter) (o : Outcome Bool) → Answers x o → o ≡ Done b k → b ≡ x
answer_is x b k o h e = let here : Answers x (Done b k) = subst (Answers x) e h in here

module _ (core : Core ℕ) (flow : List Ty) (members : ℕ → Datum → Bool) (h : TypesMeet core flow members) where
  abbrev s : Setting Node
  s = told_by core flow

  abbrev names : List Declared
  names = names_in core

  abbrev says : ℕ → Datum → Bool
  says b d = alias_denotes members s.is_number (alias_at s.types b) d

  defines : Defines s.types members says
  defines = record {
    members_are = defined_is core flow members h.bound h.recursion h.meet;
    free = λ n d e. no_clauses members s.is_number (alias_at s.types n).clauses _ (sym (h.variables n) ∙ e);
  }

  written : (n : ℕ) (e : Declared) → slice_get names n ≡ Some e → IsWritten e.ty
  written n e is =
      let fits : Fits (Some e) (alias_at s.types n) = subst (λ (o : Option Declared). Fits o (alias_at s.types n)) is (found core 0 n) in
      subst IsWritten (sym fits.0) (alias_written (offers_of core) core h.bound 0 n).ty

  pub ordered : RecurThroughParts names
  ordered = ordered_types core h.bound h.recursion

  pub read : (d : Datum) → IsBounded d → (t : Ty) → IsWritten t → Between (Down names d t) (is_in members t d) (Up names d t)
  read d b t w = between names s.types members says (found core 0) defines ordered.0 ordered.1 written d b t w

  pub rests : (r : Rules) → ((t : Ty) → r.tested t ≡ true → IsWritten t) → (w : sem.Setting Node) (paid : Bool) → TestsTell members (w.test paid) → Gives (program_of core) r w → Rests (program_of core) r w paid (is_in members)
  rests r source w paid tells gives = record {
    recur = ordered;
    answers = λ t d m k b tested bounded e. answer_is (is_in members t d) b k (w.test paid t d m) (tells t d m bounded) e;
    upward = λ t d tested bounded e. (read d bounded t (source t tested)).in_high e;
    downward = λ t d tested bounded e. (read d bounded t (source t tested)).low_in e;
    gives = gives;
  }

  pub asks : (r : Rules) → ((t : Ty) → r.tested t ≡ true → IsWritten t) → (w : sem.Setting Node) (paid : Bool) → TestsTell members (w.test paid) → Asks r w paid (is_in members)
  asks r source w paid tells = record { written = source; answers = λ t d m tested bounded. tells t d m bounded }

  pub free : (t : Ty) → IsWritten t → is_constrained s.types t ≡ false → (d : Datum) → IsBounded d → Up names d t ≡ true → is_in members t d ≡ true
  free t w e d b up = (read d b t w).low_in (sym (readings_same s.types names (found core 0) h.variables t e d) ∙ up)

pub are_read : TypesAreRead
are_read = record {
  rests = λ core flow members h r source w paid tells gives. rests core flow members h r source w paid tells gives;
  asks = λ core flow members h r source w paid tells. asks core flow members h r source w paid tells;
  upward = λ core flow members h t w d b e. (read core flow members h d b t w).in_high e;
  downward = λ core flow members h t w d b e. (read core flow members h d b t w).low_in e;
  free = λ core flow members h t w e d b up. free core flow members h t w e d b up;
}
