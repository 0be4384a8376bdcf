-- Programs are sound: what numbered programs do from their entries, read without numbers.
use Rattle.std.proofs.Common.{◌≡◌, ℕ, ◌+◌, List, [], ◌∷◌, length, Bool, true, Option, Some, None, sym, ap, ◌∙◌, subst}
use Rattle.wy_value.specs.Datum.{Datum}
use Rattle.wy_core.specs.Types.{Ty, NamedTy}
use Rattle.wy_core.specs.CoreTree as tree
use Rattle.wy_core.specs.CoreTree.{Expr, Param, Routine, Core, aliases_of, routines_of}
use Rattle.wy_sound_programs.specs.wy_types.Names.{names_in}
use Rattle.wy_flow_spec.specs.typing.Programs.{types_of}
use Rattle.wy_sound_programs.specs.wy_sem.Meter.{Outcome, Done, Fault, More, Spent, ◌>>=◌}
use Rattle.wy_sound_programs.specs.wy_sem.Operations.{as_truth}
use Rattle.wy_sound_programs.specs.wy_sem.Expressions as sem
use Rattle.wy_sound_programs.specs.wy_sem.TypeTests.{set_if, forgiven, clause_setting}
use Rattle.wy_sound_programs.specs.wy_sem.Membership.{is_yes, is_member}
use Rattle.wy_sound_programs.specs.wy_sem.Precondition.{AreMembers, AreTrue, RoutineMeets, CalleeMeets, Meets}
use Rattle.wy_sound_programs.specs.wy_sem.Evaluation.{Callee, Declared, callee, entry_of, start, evaluate}
use Rattle.wy_sound_programs.proofs.wy_sem_proofs.MemberAnswers.{holds-says}
use Rattle.wy_sound_programs.specs.wy_vc_spec.Sizes.{exprs_in_list}
use Rattle.wy_sound_programs.specs.wy_vc_spec.Numbered.{Node, numbered_routine, numbered_core}
use Rattle.wy_sound_programs.specs.wy_vc_spec.Programs.{program_of}
use Rattle.wy_sound_programs.specs.wy_sound_terms.numbers.Numbers.{place_of}
use Rattle.wy_sound_programs.proofs.wy_sound_terms_proofs.numbers_lemmas.ProgramLemmas.{numbers_nothing}
use Rattle.wy_sound_types.specs.wy_sound_walks.expressions.Truth.{Good}
use Rattle.wy_sound_types.specs.wy_sound_walks.expressions.Types.{is_in}
use Rattle.wy_sound_types.specs.wy_sound_walks.clauses.Clauses.{Passes, AllPass}
use Rattle.wy_sound_programs.specs.wy_sound_kinds.Bounded.{IsBounded, AllBounded}
use Rattle.wy_sound_programs.specs.wy_sound_kinds.Kinds.{AreIn}
use Rattle.wy_sound_programs.specs.wy_sound_statements.calls.CallLaws.{ArgumentsIn, Leaves}
use Rattle.wy_sound_types.specs.members.Members.{MeetFormulas}
use Rattle.wy_sound_types.specs.members.Laws.{told_by}
use Rattle.wy_sound_types.proofs.members_lemmas.MemberLemmas.{some_meet}
use Rattle.wy_sound_types.specs.Laws.{TypesHold}
use Rattle.wy_sound_types.specs.Routines.{ParamsAmong}
use Rattle.wy_sound_types.proofs.MembershipLemmas.{membership_said}
use Rattle.wy_sound_types.proofs.RestLemmas.{read}
use Rattle.wy_sound_types.specs.sound_routines.Depths.{setting_at}
use Rattle.wy_sound_types.proofs.sound_routines_lemmas.RunLemmas.{runs_sound}
use Rattle.wy_sound.specs.typing.Typed.{TypedRoutine}
use Rattle.wy_sound.specs.Sound.{Shown, IsReturned, IsSound, ProgramsAreSound, MembershipAgrees}
use Rattle.wy_sound.proofs.CalleeLemmas.{called_in, takes_of, taken_by, well_given}
use Rattle.wy_sound.proofs.PlainLemmas.{callee_numbered, true_numbered, true_plain, member_same}
use Rattle.wy_sound.proofs.ShownLemmas.{types_hold, typed, all_taken}

-- ---- clauses that passed

module _ (place : Node → ℕ) (core : Core Node) (depth : ℕ) where
  passed_true : (e : Expr Node) (st : sem.Store) → Passes (setting_at place None core depth) e st → is_yes (sem.holds (clause_setting place None (aliases_of core)) e st (start 0)) ≡ true
  passed_true e st h =
      let ended : forgiven (sem.holds (clause_setting place None (aliases_of core)) e st h.0) ≡ Done true h.1 = ap (λ (o : Outcome Datum). forgiven (o >>= (λ v. as_truth (place (sem.node e)) v Done))) h.2 in
      sym (holds-says place (aliases_of core) e st h.0 true h.1 ended)

  all_true : (es : List (Expr Node)) (st : sem.Store) → AllPass (setting_at place None core depth) es st → AreTrue (clause_setting place None (aliases_of core)) es st
  all_true [] st h = tt
  all_true (e ∷ es) st h = (passed_true e st h.0, all_true es st h.1)

-- ---- a program

module _ (core : Core ℕ) (flow : List Ty) (shown : Shown core flow) (members : ℕ → Datum → Bool) (meet : MeetFormulas (told_by core flow) members) (place : ℕ → ℕ) where
  abbrev others : Core Node
  others = numbered_core core

  hold : TypesHold core flow members
  hold = types_hold core flow shown members meet

  -- membership by the semantics is what types say by these data
  pub member_is : (d : Datum) → IsBounded d → (t : Ty) → is_member place (aliases_of core) d t ≡ is_in members t d
  member_is d b t = sym (member_same place core d t) ∙ membership_said core flow members hold (place_of place) t d b

  members_in : (ps : List Param) (vs : List Datum) → AllBounded vs → AreMembers place (aliases_of core) ps vs → ArgumentsIn members ps vs
  members_in [] vs b h = tt
  members_in (p ∷ ps) [] b h = tt
  members_in (p ∷ ps) (v ∷ vs) b h = (sym (member_is v b.0 p.ty) ∙ h.0, members_in ps vs b.1 h.1)

  types_in : (many : ℕ) (ps : List Param) (vs : List Datum) → ParamsAmong many ps → AllBounded vs → ArgumentsIn members ps vs → AreIn (names_in core) (types_of ps) vs
  types_in many [] vs among b h = tt
  types_in many (p ∷ ps) [] among b h = tt
  types_in many (p ∷ ps) (v ∷ vs) among b h = ((read core flow members hold.types v b.0 p.ty among.1).in_high h.0, types_in many ps vs among.2 b.1 h.1)

  module _ (f : ℕ) (r : Routine ℕ) (vs : List Datum) (is : callee (routines_of core) f ≡ Declared r) (bounded : AllBounded vs) (meets : RoutineMeets place (aliases_of core) r vs) (ticks : ℕ) where
    -- the routine with numbers from this one on
    abbrev from : ℕ
    from = (callee_numbered core 0 f r is).0

    abbrev n : Routine Node
    n = numbered_routine r from

    n_is : called_in core f ≡ Declared n
    n_is = (callee_numbered core 0 f r is).1

    found : TypedRoutine core flow f n
    found = typed core flow shown members meet f n n_is

    inside : ArgumentsIn members r.params vs
    inside = members_in r.params vs bounded meets.members

    among : ParamsAmong (length found.routine.variables) r.params
    among = subst (λ (x : Routine Node). ParamsAmong (length found.routine.variables) x.params) (sym found.is) found.among

    taken : takes_of core f vs ≡ true
    taken = subst (λ (c : Callee Node). taken_by (names_in core) c vs ≡ true) (sym n_is) (well_given (names_in core) n vs meets.count bounded (types_in (length found.routine.variables) r.params vs among bounded inside))

    -- what is left with numbers is returned without
    returned : (o : Option tree.Output) (v : Option Datum) → Leaves (setting_at (place_of place) None others ticks) (told_by core flow) members n vs o v → IsReturned place core r vs o v
    returned None v l = (l.0, true_plain place core r.postconditions (from + exprs_in_list r.preconditions) (entry_of r vs) (all_true (place_of place) others ticks n.postconditions (entry_of r vs) l.1))
    returned (Some out) None l = absurd l
    returned (Some out) (Some d) l = (
      l.0,
      member_is d l.0 out.ty ∙ l.1,
      true_plain place core r.postconditions (from + exprs_in_list r.preconditions) (set_if (entry_of r vs) out.variable (Some d)) (all_true (place_of place) others ticks n.postconditions (set_if (entry_of r vs) out.variable (Some d)) l.2),
    )

    ended : (o : Outcome (Option Datum)) → Good (Unit {0}) o (Leaves (setting_at (place_of place) None others ticks) (told_by core flow) members n vs r.result) → IsSound (IsReturned place core r vs r.result) o
    ended (Done v m) g = returned r.result v g
    ended (Fault kind at m) g = g tt
    ended (More m) g = tt
    ended Spent g = tt

    pub sound_from : IsSound (IsReturned place core r vs r.result) (evaluate place core f vs ticks)
    sound_from =
        subst (IsSound (IsReturned place core r vs r.result)) (numbers_nothing place core f vs ticks)
        (ended (evaluate (place_of place) others f vs ticks)
        (runs_sound (place_of place) others (program_of others flow) members (takes_of core) (all_taken core flow shown members meet (place_of place) None) f vs n taken n_is inside
        (true_numbered place core r.preconditions from (entry_of r vs) meets.requires_hold) ticks))

meets_declared : (place : ℕ → ℕ) (core : Core ℕ) (f : ℕ) (r : Routine ℕ) (vs : List Datum) → callee (routines_of core) f ≡ Declared r → Meets place core f vs → RoutineMeets place (aliases_of core) r vs
meets_declared place core f r vs is h = subst (λ (c : Callee ℕ). CalleeMeets place (aliases_of core) c vs) is h

pub programs_sound : ProgramsAreSound
programs_sound place core flow shown f r vs is bounded meets ticks =
    let some = some_meet core flow shown.formed.bound shown.formed.recursion in
    sound_from core flow shown some.0 some.1 place f r vs is bounded (meets_declared place core f r vs is meets) ticks

pub membership_same : MembershipAgrees
membership_same place core flow shown names meet n d b = sym (member_is core flow shown names.is_member meet place d b (NamedTy n))
