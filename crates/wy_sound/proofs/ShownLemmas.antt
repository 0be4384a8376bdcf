-- A program of which nothing is left to show: tests of its types answer as types say, and its calls are taken.
use Rattle.std.proofs.Common.{◌≡◌, ℕ, List, [], ◌∷◌, length, Bool, true, Option, Some, sym, subst}
use Rattle.std.specs.Prelude.{slice_get}
use Rattle.wy_lemmas.proofs.Choices.{false_true as no_way}
use Rattle.wy_value.specs.Datum.{Datum}
use Rattle.wy_core.specs.Types.{Ty}
use Rattle.wy_core.specs.CoreTree.{Alias, Routine, Core, aliases_of}
use Rattle.wy_sound_programs.specs.wy_types.Names.{names_in}
use Rattle.wy_term.specs.Condition.{Condition}
use Rattle.wy_core.specs.formed.Offers.{offers_of}
use Rattle.wy_core.specs.formed.Bound.{with_option, with_params, result_variable}
use Rattle.wy_sound_programs.specs.wy_sem.Evaluation.{Callee, Print, PrintInt, Undeclared, owed_member}
use Rattle.wy_sound_programs.specs.wy_sem.Evaluation as calls
use Rattle.wy_sound_programs.specs.wy_vc_spec.Numbered.{Node, numbered_routine, numbered_core}
use Rattle.wy_sound_programs.specs.wy_vc_spec.Programs.{program_of, enter, body_conditions}
use Rattle.wy_sound_types.specs.wy_vc_laws.shown.Certified.{AllHold}
use Rattle.wy_sound_types.specs.wy_sound_walks.expressions.Truth.{AreTrueBy}
use Rattle.wy_sound_types.specs.members.Members.{MeetFormulas, HoldAlways}
use Rattle.wy_sound_types.specs.members.Laws.{told_by}
use Rattle.wy_sound_types.proofs.members_lemmas.MemberLemmas.{are_true_by}
use Rattle.wy_sound_types.specs.Laws.{TypesMeet, TypesHold}
use Rattle.wy_sound_types.specs.Routines.{TypedContract}
use Rattle.wy_sound_types.proofs.QuietLemmas.{clauses_of_types_quiet}
use Rattle.wy_sound_types.proofs.TypedLemmas.{clauses_of_types_meet}
use Rattle.wy_sound_programs.specs.wy_sound_kinds.fits.Fit.{ClausesReady}
use Rattle.wy_sound_programs.specs.wy_sound_statements.calls.CallLaws.{ArgumentsIn, KeepsContract}
use Rattle.wy_sound_types.specs.sound_routines.Entries.{ContractIsSafe}
use Rattle.wy_sound_types.specs.sound_routines.Depths.{setting_at, Handled, AllTaken}
use Rattle.wy_sound_types.specs.sound_routines.Takes.{RoutineStands, TakesWell}
use Rattle.wy_sound_types.proofs.sound_routines_lemmas.TakeLemmas.{calls_taken}
use Rattle.wy_sound_programs.specs.Made.{all_marked, AllMade}
use Rattle.wy_sound_programs.proofs.FormedLemmas.{formed_made}
use Rattle.wy_sound.specs.typing.Parts.{FormedAlias, FormedRoutine}
use Rattle.wy_sound.specs.typing.Typed.{TypedRoutine}
use Rattle.wy_sound.proofs.marks_lemmas.BodyLemmas.{bodies_ready, bodies_end}
use Rattle.wy_sound.proofs.marks_lemmas.ClauseLemmas.{contracts_ready, types_ready}
use Rattle.wy_sound.proofs.typing_lemmas.AliasLemmas.{aliases_typed, numbered_types_have}
use Rattle.wy_sound.proofs.typing_lemmas.PartLemmas.{parts_formed}
use Rattle.wy_sound.proofs.typing_lemmas.RoutineLemmas.{routines_typed}
use Rattle.wy_sound.proofs.typing_lemmas.TypeLemmas.{variables_typed}
use Rattle.wy_sound.specs.Sound.{Shown}
use Rattle.wy_sound.proofs.CalleeLemmas.{called_in, taken_by, takes_of, text_given, number_given, given_well, rules_of, rules_written, allowed_of, offered}
use Rattle.wy_sound.proofs.BodyLemmas.{body_keeps}

always : (cs : List Condition) → AllHold cs → HoldAlways cs
always [] h = tt
always (c ∷ cs) h = (h.0, always cs h.1)

module _ (core : Core ℕ) (flow : List Ty) (shown : Shown core flow) where
  -- ---- types

  alias_made : (b : ℕ) (a : Alias ℕ) → slice_get (aliases_of core) b ≡ Some a → ClausesReady (rules_of core) (length a.variables) all_marked a.clauses
  alias_made b a is =
      let f : FormedAlias (offers_of core) a = parts_formed.aliases core shown.formed b a is in
      formed_made.clauses (offers_of core) (allowed_of core (length a.variables)) (with_option [] a.variable) a.clauses (offered core (length a.variables)) f.bound.clauses f.calls f.ints f.small

  module _ (members : ℕ → Datum → Bool) (meet : MeetFormulas (told_by core flow) members) where
    types_meet : TypesMeet core flow members
    types_meet = record {
      bound = shown.formed.bound;
      recursion = shown.formed.recursion;
      meet = meet;
      variables = numbered_types_have core flow shown.sourced.variables;
      quiet = clauses_of_types_quiet core flow shown.formed.calls;
    }

    pub types_hold : TypesHold core flow members
    types_hold = record {
      types = types_meet;
      conditions = are_true_by core flow members meet (always _ shown.holds);
      clauses = clauses_of_types_meet core flow members types_meet (aliases_typed core flow shown.typed shown.sourced.variables) (rules_of core) (rules_written core)
          (types_ready core shown.assigned shown.formed.bound (rules_of core) alias_made);
    }

    -- ---- functions and methods

    pub typed : (f : ℕ) (n : Routine Node) → called_in core f ≡ calls.Declared n → TypedRoutine core flow f n
    typed f n is = routines_typed core flow shown.typed shown.formed.bound shown.sourced.variables f n is

    module _ (f : ℕ) (n : Routine Node) (t : TypedRoutine core flow f n) where
      abbrev r : Routine ℕ
      r = t.routine

      abbrev many : ℕ
      many = length r.variables

      formed : FormedRoutine (offers_of core) r
      formed = parts_formed.routines core shown.formed f r t.stands

      contract : TypedContract core flow (rules_of core) r t.before
      contract = record {
        entry = t.env;
        first = t.first;
        behind = t.behind;
        second = t.second;
        params = t.params;
        preconditions = t.preconditions;
        result = t.result;
        postconditions = t.postconditions;
        begins = t.contract_begins;
        among = t.among;
        result_among = t.result_among;
        first_ready = contracts_ready.first core shown.assigned f r t.stands (rules_of core) many
            (formed_made.clauses (offers_of core) (allowed_of core many) (with_params [] r.params) r.preconditions (offered core many) formed.bound.preconditions formed.calls.preconditions formed.ints.preconditions formed.small.preconditions);
        last_ready = contracts_ready.last core shown.assigned f r t.stands (rules_of core) many
            (formed_made.clauses (offers_of core) (allowed_of core many) (with_option (with_params [] r.params) (result_variable r.result)) r.postconditions (offered core many) formed.bound.postconditions formed.calls.postconditions formed.ints.postconditions formed.small.postconditions);
      }

      body_made : AllMade (allowed_of core many) r.body
      body_made = formed_made.body (offers_of core) (allowed_of core many) _ (with_params [] r.params) r.is_method r.body (offered core many) formed.bound.body formed.calls.body formed.ints.body formed.quiet.body formed.small.body

      module _ (place : Node → ℕ) (limit : Option ℕ) (depth : ℕ) (handled : Handled (setting_at place limit (numbered_core core) depth) (program_of (numbered_core core) flow) members (takes_of core)) where
        abbrev m : Routine Node
        m = numbered_routine r (length t.before)

        abbrev Kept : Routine Node → List Datum → Type 0
        Kept x vs = KeepsContract (setting_at place limit (numbered_core core) depth) (told_by core flow) members (owed_member place limit (aliases_of (numbered_core core))) x vs

        abbrev Safe : Routine Node → List Datum → Type 0
        Safe x vs = ArgumentsIn members x.params vs → ContractIsSafe (setting_at place limit (numbered_core core) depth) members x vs

        kept : (vs : List Datum) → taken_by (names_in core) (calls.Declared m) vs ≡ true → AreTrueBy members (body_conditions (program_of (numbered_core core) flow) m) → Safe m vs → Kept m vs
        kept vs taken truths safe inside pass k =
            let g = given_well (names_in core) m vs taken in
            let vars = (enter (told_by core flow) m).spot.vars in
            let ready = bodies_ready core shown.assigned f r t.stands (allowed_of core many) body_made (program_of (numbered_core core) flow) vars (length t.before) (length t.second) in
            let ends = bodies_end core shown.assigned f r t.stands (program_of (numbered_core core) flow) vars (length t.before) in
            body_keeps core flow members types_hold place limit typed depth handled f n t (shown.sourced.once f r t.stands) (variables_typed.same r (length t.before)) (variables_typed.written (offers_of core) r t.bound) contract
            ready ends vs g.0 g.1 g.2 inside truths (safe inside) inside pass k

        n_kept : (vs : List Datum) → takes_of core f vs ≡ true → called_in core f ≡ calls.Declared n → AreTrueBy members (body_conditions (program_of (numbered_core core) flow) n) → Safe n vs → Kept n vs
        n_kept vs taken is truths safe =
            let by_name : taken_by (names_in core) (calls.Declared n) vs ≡ true = subst (λ (c : Callee Node). taken_by (names_in core) c vs ≡ true) is taken in
            subst (λ (x : Routine Node). Kept x vs) (sym t.is)
            (kept vs (subst (λ (x : Routine Node). taken_by (names_in core) (calls.Declared x) vs ≡ true) t.is by_name)
            (subst (λ (x : Routine Node). AreTrueBy members (body_conditions (program_of (numbered_core core) flow) x)) t.is truths)
            (subst (λ (x : Routine Node). Safe x vs) t.is safe))

    -- ---- calls

    stands : (f : ℕ) (n : Routine Node) → called_in core f ≡ calls.Declared n → RoutineStands core flow (rules_of core) n
    stands f n is = let t = typed f n is in record { routine = t.routine; before = t.before; is = t.is; typed = contract f n t; apart = t.apart }

    taken_as : (f : ℕ) (vs : List Datum) (c : Callee Node) → takes_of core f vs ≡ true → called_in core f ≡ c → taken_by (names_in core) c vs ≡ true
    taken_as f vs c taken is = subst (λ (x : Callee Node). taken_by (names_in core) x vs ≡ true) is taken

    takes_well : (place : Node → ℕ) (limit : Option ℕ) → TakesWell core flow members place limit (takes_of core) (rules_of core)
    takes_well place limit = record {
      written = rules_written core;
      stands = stands;
      arguments = λ f vs n taken is. given_well (names_in core) n vs (taken_as f vs (calls.Declared n) taken is);
      texts = λ f vs taken is. text_given vs (taken_as f vs Print taken is);
      numbers = λ f vs taken is. number_given vs (taken_as f vs PrintInt taken is);
      others = λ f vs taken is. no_way (taken_as f vs Undeclared taken is);
      bodies = λ f vs n depth taken is truths handled safe. n_kept f n (typed f n is) place limit depth handled vs taken is truths safe;
    }

    pub all_taken : (place : Node → ℕ) (limit : Option ℕ) → AllTaken place limit (numbered_core core) (program_of (numbered_core core) flow) members (takes_of core)
    all_taken place limit = calls_taken core flow members types_hold place limit (takes_of core) (rules_of core) (takes_well place limit)
