-- Each function and method of a typed program is typed behind the expressions before it.
use Rattle.std.proofs.Common.{◌≡◌, ℕ, zero, suc, ◌+◌, List, [], ◌∷◌, length, Some, refl, sym, ap, ◌∙◌, subst, arith}
use Rattle.std.specs.Prelude.{slice_get}
use Rattle.wy_core.specs.Types.{Ty}
use Rattle.wy_core.specs.CoreTree.{Routine, Decl, AliasDecl, RoutineDecl, aliases_of, routines_of}
use Rattle.wy_flow_spec.specs.typing.Outcomes.{Gives}
use Rattle.wy_flow_spec.specs.typing.Contexts.{Program}
use Rattle.wy_flow_spec.specs.typing.Programs.{program_of, DeclsTyped}
use Rattle.wy_core.specs.formed.Offers.{Offers, offers_of}
use Rattle.wy_core.specs.formed.Bound.{BoundRoutine, BoundDecls, with_params}
use Rattle.wy_sound_programs.specs.wy_sem.Evaluation.{Callee, Declared, callee}
use Rattle.wy_sound_programs.specs.wy_vc_spec.Sizes.{exprs_in_list}
use Rattle.wy_sound_programs.specs.wy_vc_spec.Numbered.{Node, numbered_routine, numbered_decls, exprs_in_decl}
use Rattle.wy_sound_programs.proofs.wy_sound_kinds_proofs.TypeLemmas.{then_gives}
use Rattle.wy_sound_programs.specs.wy_sound_kinds.suits.Laws.{Begins}
use Rattle.wy_sound_programs.proofs.wy_sound_kinds_proofs.suits_lemmas.FlowLemmas.{begins_more}
use Rattle.wy_sound_types.specs.Tests.{HaveVariables}
use Rattle.wy_sound.specs.typing.Typed.{RoutinesAreTyped}
use Rattle.wy_sound.proofs.typing_lemmas.FlowLemmas.{Found, found, first_flow, contract_flow, body_flow, decl_flow}
use Rattle.wy_sound.proofs.typing_lemmas.AliasLemmas.{rest_have, decls_begin, counted_on}
use Rattle.wy_sound.proofs.typing_lemmas.BoundLemmas.{params_among, params_apart, result_among}

-- the function or method with this number, where it stands behind these types
record Stands (p : Program) (o : Offers) (ds : List (Decl ℕ)) (flow : List Ty) (f : ℕ) (n : Routine Node) : Type 0 where
  pub routine : Routine ℕ
  pub stands : slice_get (routines_of ds) f ≡ Some routine
  pub before : List Ty
  pub out : List Ty
  pub is : n ≡ numbered_routine routine (length before)
  pub typed : Found p routine before out
  pub begins : Begins out flow
  pub bound : BoundRoutine o routine

same_declared : (a b : Routine Node) → ◌≡◌ {A = Callee Node} (Declared a) (Declared b) → a ≡ b
same_declared a b e = cc

stands_at : (p : Program) (o : Offers) (ds : List (Decl ℕ)) (k : ℕ) (before flow : List Ty) → k ≡ length before → HaveVariables (aliases_of ds) → BoundDecls o ds → DeclsTyped p ds before (Gives flow)
    → (f : ℕ) (n : Routine Node) → callee (routines_of (numbered_decls ds k)) f ≡ Declared n → Stands p o ds flow f n
stands_at p o [] k before flow is has bound h zero n e = absurd cc
stands_at p o [] k before flow is has bound h (suc zero) n e = absurd cc
stands_at p o [] k before flow is has bound h (suc (suc f)) n e = absurd cc
stands_at p o (AliasDecl a ∷ ds) k before flow is has bound h f n e =
    let t = then_gives _ _ flow h in
    let g = decl_flow p (AliasDecl a) before t.0 (has zero) t.1 in
    let u = stands_at p o ds (k + exprs_in_decl (AliasDecl a)) t.0 flow (counted_on k (exprs_in_decl (AliasDecl a)) before t.0 is g) (rest_have (AliasDecl a) ds has) bound.1 t.2 f n e in
    record { routine = u.routine; stands = u.stands; before = u.before; out = u.out; is = u.is; typed = u.typed; begins = u.begins; bound = u.bound }
stands_at p o (RoutineDecl r ∷ ds) k before flow is has bound h zero n e =
    let t = then_gives _ _ flow h in
    record {
      routine = r;
      stands = refl;
      before = before;
      out = t.0;
      is = sym (same_declared (numbered_routine r k) n e) ∙ ap (numbered_routine r) is;
      typed = found p r before t.0 t.1;
      begins = decls_begin p ds t.0 flow has t.2;
      bound = bound.0;
    }
stands_at p o (RoutineDecl r ∷ ds) k before flow is has bound h (suc f) n e =
    let t = then_gives _ _ flow h in
    let g = decl_flow p (RoutineDecl r) before t.0 tt t.1 in
    let u = stands_at p o ds (k + exprs_in_decl (RoutineDecl r)) t.0 flow (counted_on k (exprs_in_decl (RoutineDecl r)) before t.0 is g) has bound.1 t.2 f n e in
    record { routine = u.routine; stands = u.stands; before = u.before; out = u.out; is = u.is; typed = u.typed; begins = u.begins; bound = u.bound }

second_counted : (p : Program) (r : Routine ℕ) (before out : List Ty) (h : Found p r before out) → length h.second ≡ length before + exprs_in_list r.preconditions + exprs_in_list r.postconditions
second_counted p r before out h = let c = (contract_flow p r before out h).counted in omega (arith, c)

pub routines_typed : RoutinesAreTyped
routines_typed core flow h bound has f n e =
    let u = stands_at (program_of core) (offers_of core) core 0 [] flow refl has bound h f n e in
    let t = u.typed in
    let b = u.bound in
    let r = u.routine in
    let body = subst (λ (l : List Ty). Begins l flow) t.is u.begins in
    record {
      routine = r;
      stands = u.stands;
      before = u.before;
      is = u.is;
      env = t.env;
      first = t.first;
      behind = t.behind;
      second = t.second;
      end = t.end;
      params = t.params;
      preconditions = t.preconditions;
      result = t.result;
      postconditions = t.postconditions;
      body = t.body;
      first_counted = (first_flow (program_of core) r u.before u.out t).counted;
      second_counted = second_counted (program_of core) r u.before u.out t;
      contract_begins = begins_more t.second t.end.flow flow (body_flow (program_of core) r u.before u.out t).begins body;
      body_begins = body;
      bound = b;
      among = params_among (offers_of core) (length r.variables) [] r.params b.params;
      result_among = result_among (offers_of core) (length r.variables) (with_params [] r.params) r.result b.result b.variable;
      apart = params_apart (offers_of core) (length r.variables) [] r.params b.params;
    }
