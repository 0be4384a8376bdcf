-- From what a parse promises to what the words ask for.
use Rattle.std.proofs.Common.{◌≡◌, ◌∙◌, true, List, [], ◌∷◌, Option, None, option_map, inl, inr, sym, ap, subst}
use Rattle.std.specs.Prelude.{String}
use Rattle.std.specs.declared.alloc.Global.{Global}
use Rattle.std.proofs.lemmas.Str.{IsUtf8-string_bytes}
use Rattle.clap.specs.Values.{kind_of}
use Rattle.clap.specs.Simple.{App, HasMatchesOf, is_simple, subcommand_of, subcommand_rows_of}
use Rattle.clap.specs.Kinds.{HasKind, IsAmong, Kinds}
use Rattle.clap.specs.Faults.{fault_of, is_simple_and_free}
use Rattle.clap.specs.declared.error.Error.{Error}
use Rattle.clap.specs.declared.error.kind.ErrorKind.{ErrorKind}
use Rattle.clap.specs.declared.error.kind.ErrorKind.TheVariants.{OutOfMemory}
use Rattle.clap.specs.declared.parser.matches.ArgMatches.{ArgMatches}
use Rattle.wy_top_words.specs.CommandLine.{Order, Text, order_of}
use Rattle.wy_top_words.specs.declared.read.WordsFault.{WordsFault}
use Rattle.wy_top_words.specs.declared.read.WordsFault.TheVariants.{Refused, NoMemory}
use Rattle.wy_top_words.specs.Line.{app}
use Rattle.wy_top_words.specs.Plain.{words_in}
use Rattle.wy_top_words.specs.Rows.{asked_by}
use Rattle.wy_top_words.proofs.MarkLemmas.{AreTexts}
use Rattle.wy_top_words.proofs.StepLemmas.{IsFaulty}
use Rattle.wy_top_words.proofs.TopLemmas.{is_ready, line_refused, line_taken, simple}

pub all_text : (words : List (String Global)) → AreTexts (words_in words)
all_text [] = tt
all_text (w ∷ ws) = (IsUtf8-string_bytes w, all_text ws)

-- the command line is one that `clap` is exact of
pub ready : (a : App) → a ≡ app → is_simple_and_free a ≡ true
ready a e = subst (λ (x : App). is_simple_and_free x ≡ true) (sym e) is_ready

pub ok_reads : (a : App) (words : List Text) (m : ArgMatches) (r : Option Order) → a ≡ app → AreTexts words → HasMatchesOf a words m
    → fault_of a words ≡ [] → r ≡ asked_by (subcommand_rows_of m) → order_of words ≡ r
ok_reads a words m r e us has free is =
    sym (line_taken words us (subst (λ (x : App). fault_of x words ≡ []) e free))
    ∙ sym (ap asked_by ((has (subst (λ (x : App). is_simple x ≡ true) (sym e) simple)).1 ∙ ap (λ (x : App). subcommand_of x words) e)) ∙ sym is

among_faulty : (k : ErrorKind) (ks : Kinds) → IsAmong k ks → IsFaulty ks
among_faulty k [] h = absurd h
among_faulty k (x ∷ xs) h = tt

pub err_refused : (a : App) (words : List Text) (e : Error) → a ≡ app → AreTexts words → HasKind (fault_of a words) e
    → (kind_of e ≡ OutOfMemory → ⊥) → order_of words ≡ None
err_refused a words e is us (inl memory) other = absurd (other memory)
err_refused a words e is us (inr among) other = line_refused words us (subst (λ (x : App). IsFaulty (fault_of x words)) is (among_faulty _ _ among))

-- what an order asks for
pub asked_alone : (o r : Option Order) → o ≡ r → option_map (λ (x : Order). x.asked) o ≡ option_map (λ (x : Order). x.asked) r
asked_alone o r is = ap (option_map (λ (x : Order). x.asked)) is

-- words that are refused aren't want of memory
pub no_memory : (f : WordsFault) → f ≡ Refused → f ≡ NoMemory → ⊥
no_memory f is memory = absurd (cc)
