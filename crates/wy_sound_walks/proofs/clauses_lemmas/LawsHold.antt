-- The laws of clauses hold.
use Rattle.std.proofs.Common.{◌≡◌, ℕ, List}
use Rattle.wy_sound_terms.specs.wy_sem.Meter.{Done}
use Rattle.wy_sound_terms.specs.wy_vc_spec.Clauses.{owe_clauses}
use Rattle.wy_sound_walks.specs.expressions.Truth.{AreTrueBy}
use Rattle.wy_sound_walks.proofs.expressions_lemmas.LawLemmas.{are_data}
use Rattle.wy_sound_walks.specs.clauses.ClauseLaws.{Here, ArePassed, OwedClausesPass, WalkedClausesAreSafe, AssumedClausesAreKnown, OwedClausesHold}
use Rattle.wy_sound_walks.proofs.clauses_lemmas.ClauseLemmas.{clauses_owed, clauses_assumed}
use Rattle.wy_sound_walks.proofs.clauses_lemmas.HoldLemmas.{owed_hold}
use Rattle.wy_sound_walks.proofs.clauses_lemmas.WalkedLemmas.{walked_safe, walked_known}

pub owed_pass : OwedClausesPass
owed_pass w s members words es vars hyps n names seen st here safe kind why at from m =
    clauses_owed w s members here.told words (AreTrueBy members (owe_clauses s kind at words es vars hyps n).owed) (λ (x : Unit {0}). ArePassed w es st names (owe_clauses s kind at words es vars hyps n)) kind why at from (Done tt) vars names seen st here.right (are_data vars here.terms)
    es n hyps here.fit safe here.stand here.known (λ t. t) (λ l all known. (all, known)) m

pub walked_are_safe : WalkedClausesAreSafe
walked_are_safe = record {
  safe = λ w p members words es vars hyps n names seen st here t. walked_safe w p members here.told words vars names seen st here.right (are_data vars here.terms) es hyps n here.fit here.stand here.known t;
  known = λ w p members words es vars hyps n names seen st here pass. walked_known w p members here.told words vars names seen st here.right (are_data vars here.terms) es hyps n here.fit here.stand here.known pass;
}

pub assumed_are_known : AssumedClausesAreKnown
assumed_are_known w s members words es vars hyps n names seen st here pass =
    clauses_assumed w s members here.told words vars names seen st here.right (are_data vars here.terms) es n hyps here.fit pass here.stand here.known

pub owed_are_true : OwedClausesHold
owed_are_true w s members words es vars hyps n names seen st here kind at t = owed_hold w s members here.told words kind at vars names seen st here.right (are_data vars here.terms) es n hyps here.fit here.stand here.known t
