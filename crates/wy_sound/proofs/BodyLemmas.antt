-- Bodies of a typed and assigned program keep their contracts, where the calls in them are handled.
use Rattle.std.proofs.Common.{◌≡◌, ℕ, suc, ◌+◌, List, [], length, Bool, true, false, Option, Some, None, refl, sym, subst}
use Rattle.std.specs.Prelude.{is_some, slice_get}
use Rattle.std.proofs.lemmas.Bool.{and_parts}
use Rattle.wy_lemmas.proofs.Choices.{false_true as no_way}
use Rattle.wy_value.specs.Datum.{Datum}
use Rattle.wy_core.specs.Types.{Ty}
use Rattle.wy_core.specs.CoreTree as tree
use Rattle.wy_core.specs.CoreTree.{Routine, Core, aliases_of, routines_of}
use Rattle.wy_sound_programs.specs.wy_types.Names.{names_in}
use Rattle.wy_flow_spec.specs.typing.Contexts as contexts
use Rattle.wy_flow_spec.specs.typing.Programs as typing
use Rattle.wy_flow_spec.specs.typing.Programs.{types_of as params_of, result_type}
use Rattle.wy_core.specs.formed.Offers.{Signature, offers_of, signatures_of}
use Rattle.wy_core.specs.formed.Bound.{with_params as scope_with}
use Rattle.wy_sound_programs.specs.wy_sem.Meter.{Meter, Done}
use Rattle.wy_sound_programs.specs.wy_sem.Expressions as sem
use Rattle.wy_sound_programs.specs.wy_sem.TypeTests.{Test}
use Rattle.wy_sound_programs.specs.wy_sem.Statements as run
use Rattle.wy_sound_programs.specs.wy_sem.Statements.{Exit, type_at}
use Rattle.wy_sound_programs.specs.wy_sem.Evaluation.{Callee, Print, PrintInt, Undeclared, callee, types_of, entry_of, frame_of, owed_member}
use Rattle.wy_sound_programs.specs.wy_sem.Evaluation as calls
use Rattle.wy_sound_programs.specs.wy_vc_spec.Sizes.{exprs_in_list}
use Rattle.wy_sound_programs.specs.wy_vc_spec.Numbered.{Node, numbered_block, numbered_routine, numbered_core}
use Rattle.wy_sound_programs.specs.wy_vc_spec.Spots.{Spot, is_set}
use Rattle.wy_sound_programs.specs.wy_vc_spec.Variables.{Vars}
use Rattle.wy_sound_programs.specs.wy_vc_spec.Walks.{Program}
use Rattle.wy_sound_programs.specs.wy_vc_spec.Statements.{exec_all}
use Rattle.wy_sound_programs.specs.wy_vc_spec.Programs.{program_of, enter, body_of, body_conditions}
use Rattle.wy_sound_types.specs.wy_sound_walks.expressions.Truth.{AreTrueBy}
use Rattle.wy_sound_types.specs.wy_sound_walks.expressions.Types.{is_in}
use Rattle.wy_sound_types.specs.wy_sound_walks.expressions.Written.{IsWritten}
use Rattle.wy_sound_types.specs.members.Laws.{told_by}
use Rattle.wy_sound_types.proofs.members_lemmas.ToldLemmas.{told}
use Rattle.wy_sound_types.specs.Tests.{TestsTell}
use Rattle.wy_sound_types.specs.Laws.{TypesHold, Gives}
use Rattle.wy_sound_types.specs.Routines.{ResultAmong, TypedContract}
use Rattle.wy_sound_types.proofs.RankLemmas.{tests_right, checks_are_right}
use Rattle.wy_sound_types.proofs.RestLemmas.{read, ordered, rests, asks, free}
use Rattle.wy_sound_types.proofs.RoutineLemmas.{contracts_fit}
use Rattle.wy_sound_types.proofs.TypedLemmas.{no_answer}
use Rattle.wy_sound_programs.specs.wy_sound_kinds.Bounded.{IsBounded, AllBounded}
use Rattle.wy_sound_programs.specs.wy_sound_kinds.Kinds.{AreIn, IsResult, Rests}
use Rattle.wy_sound_programs.specs.wy_sound_kinds.suits.Laws.{Asks}
use Rattle.wy_sound_programs.specs.wy_sound_statements.calls.CallLaws.{ArgumentsIn, KeepsContract}
use Rattle.wy_sound_types.specs.sound_routines.Entries.{ContractIsSafe}
use Rattle.wy_sound_types.specs.sound_routines.Depths.{setting_at, ResultIn, CallGives, Handled}
use Rattle.wy_sound_programs.specs.wy_sound_statements.Ends.{AreHandled, GiveValues, code_kinds}
use Rattle.wy_sound_programs.specs.wy_sound_statements.StatementSuits.{BlockSuits}
use Rattle.wy_sound_programs.specs.Along.{AllReadyAlong}
use Rattle.wy_sound_programs.specs.Bodies.{NoneLeft, EndsBefore}
use Rattle.wy_sound_programs.specs.Begun.{begun, ParamsTyped, Stated}
use Rattle.wy_sound_programs.specs.Entries.{BodyBegins}
use Rattle.wy_sound_programs.specs.Once.{OnceRoutine, ParamsScoped, routine_scope}
use Rattle.wy_sound_programs.specs.Scopes.{AllScoped}
use Rattle.wy_sound_programs.specs.Typed.{Setting, Grounds, Stands, Holds, nothing_kept}
use Rattle.wy_sound_programs.proofs.BeginLemmas.{bodies_begin}
use Rattle.wy_sound_programs.proofs.BegunLemmas.{bodies_begun, bodies_keep}
use Rattle.wy_sound_programs.proofs.EntryLemmas.{entries_mark, bodies_inside}
use Rattle.wy_sound_programs.proofs.OnceLemmas.{routines_scoped}
use Rattle.wy_sound_programs.proofs.SuitLemmas.{typed_blocks_suit}
use Rattle.wy_sound.specs.typing.Typed.{TypedRoutine}
use Rattle.wy_sound.proofs.CalleeLemmas.{called_in, takes_of, gives_value, values_of, rules_of, rules_written, allowed_of, IsSigned, signed, called_taken, stated_taken}
use Rattle.wy_sound.proofs.VariableLemmas.{params_typed, all_arrive}

no_result : {X : Type 0} (d : Datum) → ◌≡◌ {A = Option Datum} (Some d) None → X
no_result d e = absurd cc

none_some : {X : Type 0} (out : tree.Output) → ◌≡◌ {A = Option tree.Output} None (Some out) → X
none_some out e = absurd cc

same_out : (a b : tree.Output) → ◌≡◌ {A = Option tree.Output} (Some a) (Some b) → a ≡ b
same_out a b e = cc

-- the result's type is such as a source may write
among_written : (many : ℕ) (o : Option tree.Output) → ResultAmong many o → (out : tree.Output) → o ≡ Some out → IsWritten out.ty
among_written many None among out e = none_some out e
among_written many (Some o) among out e = subst (λ (z : tree.Output). IsWritten z.ty) (same_out o out e) among.0

module _ (core : Core ℕ) (flow : List Ty) (members : ℕ → Datum → Bool) (h : TypesHold core flow members) (place : Node → ℕ) (limit : Option ℕ) (typed : (f : ℕ) (n : Routine Node) → called_in core f ≡ calls.Declared n → TypedRoutine core flow f n) where
  abbrev others : Core Node
  others = numbered_core core

  abbrev p : Program Node
  p = program_of others flow

  abbrev context : contexts.Program
  context = typing.program_of core

  abbrev owed : Ty → Datum → Test
  owed = owed_member place limit (aliases_of others)

  pub result_written : (f : ℕ) (n : Routine Node) → called_in core f ≡ calls.Declared n → (out : tree.Output) → n.result ≡ Some out → IsWritten out.ty
  result_written f n is out e =
      let t = typed f n is in
      among_written (length t.routine.variables) t.routine.result t.result_among out (subst (λ (x : Routine Node). x.result ≡ Some out) t.is e)

  module _ (depth : ℕ) (handled : Handled (setting_at place limit others depth) p members (takes_of core)) where
    abbrev w : sem.Setting Node
    w = setting_at place limit others depth

    -- ---- calls

    -- a result is in its type read upward
    result_up : (o : Option tree.Output) (params : List Ty) (d : Datum) → ((out : tree.Output) → o ≡ Some out → IsWritten out.ty) → ResultIn members o (Some d) → IsBounded d × IsResult (names_in core) (Some (record { params = params; result = result_type o })) d
    result_up None params d wr g = no_result d g
    result_up (Some out) params d wr g = (g.0, (read core flow members h.types d g.0 out.ty (wr out refl)).in_high g.1)

    callee_up : (f : ℕ) (d : Datum) (c : Callee Node) (s : Option Signature) (t : Option contexts.Signature) → called_in core f ≡ c → IsSigned c s t → CallGives members c (Some d) → IsBounded d × IsResult (names_in core) t d
    callee_up f d (calls.Declared n) s t is sign g =
        let r = result_up n.result (params_of n.params) d (λ out e. result_written f n is out e) g in (r.0, subst (λ (x : Option contexts.Signature). IsResult (names_in core) x d) (sym sign.1) r.1)
    callee_up f d Print s t is sign g = no_result d g
    callee_up f d PrintInt s t is sign g = no_result d g
    callee_up f d Undeclared s t is sign g = absurd g

    calls_give : Gives context (rules_of core) w
    calls_give f at vs d m k are e =
        let taken = (and_parts (takes_of core f vs) (gives_value (called_in core f)) (called_taken core f vs are)).0 in
        callee_up f d (called_in core f) (slice_get (signatures_of core) f) (slice_get context.signatures f) refl (signed core f) (handled.gives f at vs m k (Some d) taken e)

    -- what gives a value where one is wanted
    result_value : (o : Option tree.Output) (v : Option Datum) → ResultIn members o v → is_some o ≡ true → (d : Datum) × (v ≡ Some d)
    result_value None v g e = no_way e
    result_value (Some out) None g e = absurd g
    result_value (Some out) (Some d) g e = (d, refl)

    callee_value : (c : Callee Node) (v : Option Datum) → CallGives members c v → gives_value c ≡ true → (d : Datum) × (v ≡ Some d)
    callee_value (calls.Declared n) v g e = result_value n.result v g e
    callee_value Print v g e = no_way e
    callee_value PrintInt v g e = no_way e
    callee_value Undeclared v g e = no_way e

    give_values : GiveValues w (values_of core)
    give_values f at vs m k v taken e =
        let two = and_parts (takes_of core f vs) (gives_value (called_in core f)) taken in callee_value (called_in core f) v (handled.gives f at vs m k v two.0 e) two.1

    statements_handled : (n : Routine Node) (vars : Vars) → AreHandled w (body_of p n vars) members (takes_of core)
    statements_handled n vars f from at m ts hyps names vs k taken right are means known = handled.sound f from at m ts hyps names vs k taken right are means known

    values_handled : (n : Routine Node) (vars : Vars) → AreHandled w (body_of p n vars) members (values_of core)
    values_handled n vars f from at m ts hyps names vs k taken right are means known =
        handled.sound f from at m ts hyps names vs k (and_parts (takes_of core f vs) (gives_value (called_in core f)) taken).0 right are means known

    -- ---- tests

    tell : (paid : Bool) → TestsTell members (w.test paid)
    tell paid t d m b = tests_right core flow members h place limit (suc (length (told_by core flow).types)) paid t d m b

    code_rests : Rests context (rules_of core) w true (is_in members)
    code_rests = rests core flow members h.types (rules_of core) (rules_written core) w true (tell true) calls_give

    code_asks : Asks (rules_of core) w true (is_in members)
    code_asks = asks core flow members h.types (rules_of core) (rules_written core) w true (tell true)

    contract_rests : Rests context (rules_of core) (sem.quiet w) false (is_in members)
    contract_rests = rests core flow members h.types (rules_of core) (rules_written core) (sem.quiet w) false (tell false) (λ f at vs d m k are e. absurd (no_answer f at vs d m k e))

    contract_asks : Asks (rules_of core) (sem.quiet w) false (is_in members)
    contract_asks = asks core flow members h.types (rules_of core) (rules_written core) (sem.quiet w) false (tell false)

    -- ---- a function or method

    module _ (n : Routine Node) (vs : List Datum) (many : ℕ) (written : (x : ℕ) → IsWritten (type_at (types_of n) x)) (result : (out : tree.Output) → n.result ≡ Some out → IsWritten out.ty) where
      abbrev c : Setting
      c = record {
        program = context;
        allowed = allowed_of core many;
        evaluation = w;
        body = body_of p n (enter p.setting n).spot.vars;
        members = members;
        owed = owed;
        arguments = vs;
        in_expressions = values_of core;
        by_statements = takes_of core;
        flow = flow;
      }

      grounded : Grounds c
      grounded = record {
        code = code_rests;
        code_asks = code_asks;
        contract = contract_rests;
        contract_asks = contract_asks;
        tells = λ k. refl;
        checks = checks_are_right core flow members h place limit;
        taken = λ f us are. called_taken core f us are;
        called = λ f us are. stated_taken core many f us are;
        upward = λ x d b e. (read core flow members h.types d b (type_at (types_of n) x) (written x)).in_high e;
        free = λ x d b up e. free core flow members h.types (type_at (types_of n) x) (written x) e d b up;
        result_free = λ out d is b up e. free core flow members h.types out.ty (result out is) e d b up;
      }

    -- the body of a function or method that is typed, whose expressions are ready along its walk and which doesn't get to its end where it has a result
    module _ (f : ℕ) (n : Routine Node) (t : TypedRoutine core flow f n) (once : OnceRoutine t.routine) (types_same : types_of (numbered_routine t.routine (length t.before)) ≡ types_of t.routine) (written : (x : ℕ) → IsWritten (type_at (types_of t.routine) x))
        (contract : TypedContract core flow (rules_of core) t.routine t.before) where
      abbrev r : Routine ℕ
      r = t.routine

      abbrev m : Routine Node
      m = numbered_routine r (length t.before)

      abbrev vars : Vars
      vars = (enter p.setting m).spot.vars

      abbrev point : Spot
      point = (begun p m).spot

      abbrev start : ℕ
      start = (begun p m).count

      module _ (ready : AllReadyAlong (allowed_of core (length r.variables)) (body_of p m vars) [] r.body (length t.second) point start) (ends : EndsBefore m.result (exec_all (body_of p m vars) [] m.body point start).ends)
          (vs : List Datum) (count : length vs ≡ length m.params) (bounded : AllBounded vs) (inside : AreIn (names_in core) (params_of m.params) vs) (members_in : ArgumentsIn members m.params vs) where
        scoped : ParamsScoped (routine_scope r) r.params
        scoped = routines_scoped.params (offers_of core) r t.bound once

        m_written : (x : ℕ) → IsWritten (type_at (types_of m) x)
        m_written x = subst (λ (ts : List Ty). IsWritten (type_at ts x)) (sym types_same) (written x)

        m_result : (out : tree.Output) → m.result ≡ Some out → IsWritten out.ty
        m_result out e = among_written (length r.variables) r.result t.result_among out e

        -- the point where the body begins, as typing has it
        begins : BodyBegins context members r vs t.env t.second point
        begins =
            bodies_begin context (body_of p m vars) members r vs t.env t.second point (ordered core flow members h.types) scoped
            (all_arrive (names_in core) members r.params vs count bounded inside members_in) t.params (entries_mark p.setting m)

        stands : Stands (types_of m) nothing_kept point (typing.entry r t.env t.second)
        stands = subst (λ (ts : List Ty). Stands ts nothing_kept point (typing.entry r t.env t.second)) (sym types_same) begins.stands

        holds : Holds (names_in core) (types_of m) members (length r.variables) t.env (is_set point.set) (entry_of m vs)
        holds = subst (λ (ts : List Ty). Holds (names_in core) ts members (length r.variables) t.env (is_set point.set) (entry_of m vs)) (sym types_same) begins.holds

        stated : Stated w p members owed m vs
        stated = record {
          told = told core flow members h.types.bound h.types.recursion h.types.meet;
          checks = checks_are_right core flow members h place limit;
          written = m_written;
          typed = subst (λ (ts : List Ty). ParamsTyped ts m.params) (sym types_same) (params_typed (routine_scope r) r.params scoped);
          fit = contracts_fit.clauses core flow members h.types (rules_of core) (rules_written core) w (tell false) r t.before contract vs count bounded inside;
          size = count;
          values = holds.values;
          declared = holds.declared;
        }

        block_scoped : AllScoped (record { types = types_of m; many = length r.variables; has_result = is_some m.result }) (typing.entry r t.env t.second).declared r.body
        block_scoped =
            subst (λ (ts : List Ty). AllScoped (record { types = ts; many = length r.variables; has_result = is_some r.result }) (typing.entry r t.env t.second).declared r.body) (sym types_same)
            (routines_scoped.body (offers_of core) r t.bound once)

        abbrev Suited : ℕ → Type 0
        Suited k = BlockSuits (code_kinds w (body_of p m vars) members (values_of core)) (frame_of owed m vs) (body_of p m vars) members (λ g us. takes_of core g us ≡ true) [] (numbered_block r.body k) point start (entry_of m vs)

        left : (x : Exit) (i j : Meter) → run.exec_all w (frame_of owed m vs) m.body (entry_of m vs) i ≡ Done x j → NoneLeft x
        left x i j e =
            bodies_inside w (frame_of owed m vs) (offers_of core) (length r.variables) (record { in_loop = false; has_result = is_some r.result }) (scope_with [] r.params) r.body
            (length t.before + exprs_in_list r.preconditions + exprs_in_list r.postconditions) (entry_of m vs) x i j refl t.bound.body e

        pub body_keeps : AreTrueBy members (body_conditions p m) → ContractIsSafe w members m vs → KeepsContract w p.setting members owed m vs
        body_keeps truths safe args pass k =
            let b = bodies_begun w p members owed m vs stated pass in
            let suits : Suited (length t.second) =
            typed_blocks_suit (c m vs (length r.variables) m_written m_result) (grounded m vs (length r.variables) m_written m_result) r.body (typing.entry r t.env t.second) t.end point start (entry_of m vs)
            t.body t.body_begins block_scoped ready b.terms b.point stands holds in
            bodies_keep w p members owed m vs (values_of core) (takes_of core) stated
            (λ passed. record { value = λ out d is bound_d in_it. safe.last passed out d is bound_d in_it; nothing = λ is. safe.none passed is })
            (values_handled m vars) (statements_handled m vars) give_values (subst Suited t.second_counted suits) left ends truths args pass k
