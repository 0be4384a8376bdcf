-- The laws of clauses: where they are owed, where they are walked with what they owe, and where they are assumed.
use Rattle.std.specs.Prelude.{◌≡◌, ℕ, List, Bool}
use Rattle.wy_value.specs.Datum.{Datum}
use Rattle.wy_core.specs.CoreTree.{Expr}
use Rattle.wy_term.specs.declared.cond.CondKind.{CondKind}
use Rattle.wy_term.specs.Term.{Term}
use Rattle.wy_term.specs.Meaning.{Names}
use Rattle.wy_sound_terms.specs.wy_sem.Meter.{Meter, Done}
use Rattle.wy_sound_terms.specs.wy_sem.Expressions as sem
use Rattle.wy_sound_terms.specs.wy_vc_spec.Numbered.{Node}
use Rattle.wy_sound_terms.specs.wy_vc_spec.Variables.{Vars}
use Rattle.wy_sound_terms.specs.wy_vc_spec.Values.{Setting, named_in}
use Rattle.wy_sound_terms.specs.wy_vc_spec.Clauses.{Passed, owe_clauses, assume_clauses}
use Rattle.wy_sound_terms.specs.wy_vc_spec.Walks.{Program}
use Rattle.wy_sound_terms.specs.wy_vc_spec.Statements.{walk_clauses}
use Rattle.wy_sound_walks.specs.expressions.Names.{Known, Stand}
use Rattle.wy_sound_walks.specs.expressions.Truth.{AreTrueBy, Good}
use Rattle.wy_sound_walks.specs.expressions.Laws.{NamesTold, AreValTerms}
use Rattle.wy_sound_walks.specs.clauses.Clauses.{AllFit, AreSafe, AllPass, AreTrueIfDone}

-- a point at which clauses stand: names at which hypotheses are known, and at which variables stand for a store that the clauses fit
pub record Here (w : sem.Setting Node) (s : Setting Node) (members : ℕ → Datum → Bool) (es : List (Expr Node)) (vars : Vars) (hyps : List Term) (n : ℕ) (names : Names) (seen : ℕ → Bool) (st : sem.Store) : Type 0 where
  pub told : NamesTold members (named_in s)
  pub fit : AllFit w s members seen es st
  pub right : names.is_member ≡ members
  pub terms : AreValTerms vars
  pub stand : Stand n names vars seen st
  pub known : Known n names hyps

-- they all passed, and what is then assumed is known
abbrev pub ArePassed : sem.Setting Node → List (Expr Node) → sem.Store → Names → Passed → Type 0
ArePassed w es st names p = AllPass w es st × Known p.count names p.hyps

-- clauses that are safe and owed: where what is owed is true, their checks are no fault; and where these end, all clauses are true, and their goals known
abbrev pub OwedClausesPass : Type 0
OwedClausesPass =
    (w : sem.Setting Node) (s : Setting Node) (members : ℕ → Datum → Bool) (words : List (List ℕ)) (es : List (Expr Node)) (vars : Vars) (hyps : List Term) (n : ℕ) (names : Names) (seen : ℕ → Bool) (st : sem.Store)
    → Here w s members es vars hyps n names seen st → AreSafe w es st
    → (kind why : CondKind) (at from : ℕ) (m : Meter) → Good (AreTrueBy members (owe_clauses s kind at words es vars hyps n).owed) (sem.clauses w why from es st (Done tt) m) (λ (x : Unit {0}). ArePassed w es st names (owe_clauses s kind at words es vars hyps n))

-- clauses that are walked with what they owe, where that is true: each is safe if those before it are true; and where all are true, what is assumed behind them is known
pub record WalkedClausesAreSafe : Type 0 where
  pub safe : (w : sem.Setting Node) (p : Program Node) (members : ℕ → Datum → Bool) (words : List (List ℕ)) (es : List (Expr Node)) (vars : Vars) (hyps : List Term) (n : ℕ) (names : Names) (seen : ℕ → Bool) (st : sem.Store)
      → Here w p.setting members es vars hyps n names seen st → AreTrueBy members (walk_clauses p words es vars hyps n).owed → AreSafe w es st
  pub known : (w : sem.Setting Node) (p : Program Node) (members : ℕ → Datum → Bool) (words : List (List ℕ)) (es : List (Expr Node)) (vars : Vars) (hyps : List Term) (n : ℕ) (names : Names) (seen : ℕ → Bool) (st : sem.Store)
      → Here w p.setting members es vars hyps n names seen st → AllPass w es st → Known (walk_clauses p words es vars hyps n).count names (walk_clauses p words es vars hyps n).hyps

-- clauses that are true are known where they are assumed
abbrev pub AssumedClausesAreKnown : Type 0
AssumedClausesAreKnown =
    (w : sem.Setting Node) (s : Setting Node) (members : ℕ → Datum → Bool) (words : List (List ℕ)) (es : List (Expr Node)) (vars : Vars) (hyps : List Term) (n : ℕ) (names : Names) (seen : ℕ → Bool) (st : sem.Store)
    → Here w s members es vars hyps n names seen st → AllPass w es st → Known (assume_clauses s words es vars hyps n).count names (assume_clauses s words es vars hyps n).hyps

-- clauses that are owed where what is owed is true: each answer of each is true
abbrev pub OwedClausesHold : Type 0
OwedClausesHold =
    (w : sem.Setting Node) (s : Setting Node) (members : ℕ → Datum → Bool) (words : List (List ℕ)) (es : List (Expr Node)) (vars : Vars) (hyps : List Term) (n : ℕ) (names : Names) (seen : ℕ → Bool) (st : sem.Store)
    → Here w s members es vars hyps n names seen st → (kind : CondKind) (at : ℕ) → AreTrueBy members (owe_clauses s kind at words es vars hyps n).owed → AreTrueIfDone w es st
