use Rattle.std.proofs.Common.{[], map, sym, ap, ◌∙◌, subst}
use Rattle.wy_core.specs.CoreSeen.{seen_core, seen_decl}
use Rattle.wy_flow_exprs.specs.Seen.{seen_signature, seen_types}
use Rattle.wy_types.specs.Names.{types_of}
use Rattle.wy_flow_spec.specs.typing.Outcomes.{Gives, Fails}
use Rattle.wy_flow_spec.specs.typing.Programs as programs
use Rattle.wy_flow.proofs.WalkLemmas.{shifted}
use Rattle.wy_flow.proofs.ProgramLemmas.{program, program_is, refused_complete, refused_fault, refused_exact, same_flow, not_both}
use Rattle.wy_flow_spec.specs.typing.TypedPrograms.{core_of, flow_of}
use Rattle.wy_flow.proofs.program.check.Goals as goal

pub returns-in_err-flow-clause-complete : goal.returns-in_err-flow-clause-complete
returns-in_err-flow-clause-complete c =
    let CORE = seen_core c.args.core in
    let SAME = program_is (types_of c.in_ok-names.names) (map seen_signature c.in_ok-signatures.signatures) CORE c.in_ok-names.ensures.value c.in_ok-signatures.ensures.value in
    λ flow typed. refused_complete _ _ CORE _ _ (λ n. (shifted (λ q. programs.DeclsTyped q CORE []) (Fails c.in_err-flow.field-0.0) _ _ SAME (shifted (λ l. programs.DeclsTyped (program (types_of c.in_ok-names.names) (map seen_signature c.in_ok-signatures.signatures)) (map seen_decl l) []) (Fails c.in_err-flow.field-0.0) _ _ c.as_slice.ensures (c.in_err-flow.ensures.value n)))) c.from_residual-in_err-flow.ensures.1 flow typed

pub returns-in_err-flow-clause-fault : goal.returns-in_err-flow-clause-fault
returns-in_err-flow-clause-fault c =
    let CORE = seen_core c.args.core in
    let SAME = program_is (types_of c.in_ok-names.names) (map seen_signature c.in_ok-signatures.signatures) CORE c.in_ok-names.ensures.value c.in_ok-signatures.ensures.value in
    refused_fault _ CORE _ _ (λ n. (shifted (λ q. programs.DeclsTyped q CORE []) (Fails c.in_err-flow.field-0.0) _ _ SAME (shifted (λ l. programs.DeclsTyped (program (types_of c.in_ok-names.names) (map seen_signature c.in_ok-signatures.signatures)) (map seen_decl l) []) (Fails c.in_err-flow.field-0.0) _ _ c.as_slice.ensures (c.in_err-flow.ensures.value n)))) c.from_residual-in_err-flow.ensures.1

pub returns-in_err-flow-clause-exact : goal.returns-in_err-flow-clause-exact
returns-in_err-flow-clause-exact c =
    let CORE = seen_core c.args.core in
    let SAME = program_is (types_of c.in_ok-names.names) (map seen_signature c.in_ok-signatures.signatures) CORE c.in_ok-names.ensures.value c.in_ok-signatures.ensures.value in
    λ f fails. refused_exact _ CORE _ _ (λ n. (shifted (λ q. programs.DeclsTyped q CORE []) (Fails c.in_err-flow.field-0.0) _ _ SAME (shifted (λ l. programs.DeclsTyped (program (types_of c.in_ok-names.names) (map seen_signature c.in_ok-signatures.signatures)) (map seen_decl l) []) (Fails c.in_err-flow.field-0.0) _ _ c.as_slice.ensures (c.in_err-flow.ensures.value n)))) c.from_residual-in_err-flow.ensures.1 f fails

pub returns-clause-typed : goal.returns-clause-typed
returns-clause-typed c =
    let CORE = seen_core c.args.core in
    let SAME = program_is (types_of c.in_ok-names.names) (map seen_signature c.in_ok-signatures.signatures) CORE c.in_ok-names.ensures.value c.in_ok-signatures.ensures.value in
    let OK : programs.CoreTyped CORE (Gives (seen_types c.in_ok-flow.flow)) = (shifted (λ q. programs.DeclsTyped q CORE []) (Gives (seen_types c.in_ok-flow.flow)) _ _ SAME (shifted (λ l. programs.DeclsTyped (program (types_of c.in_ok-names.names) (map seen_signature c.in_ok-signatures.signatures)) (map seen_decl l) []) (Gives (seen_types c.in_ok-flow.flow)) _ _ c.as_slice.ensures c.in_ok-flow.ensures.value)) in
    (ap core_of c.new.ensures.value, subst (λ t. programs.IsTyped CORE (flow_of t)) (sym c.new.ensures.value) OK)

pub returns-clause-complete : goal.returns-clause-complete
returns-clause-complete c =
    let CORE = seen_core c.args.core in
    let SAME = program_is (types_of c.in_ok-names.names) (map seen_signature c.in_ok-signatures.signatures) CORE c.in_ok-names.ensures.value c.in_ok-signatures.ensures.value in
    let OK : programs.CoreTyped CORE (Gives (seen_types c.in_ok-flow.flow)) = (shifted (λ q. programs.DeclsTyped q CORE []) (Gives (seen_types c.in_ok-flow.flow)) _ _ SAME (shifted (λ l. programs.DeclsTyped (program (types_of c.in_ok-names.names) (map seen_signature c.in_ok-signatures.signatures)) (map seen_decl l) []) (Gives (seen_types c.in_ok-flow.flow)) _ _ c.as_slice.ensures c.in_ok-flow.ensures.value)) in
    λ flow typed. ap flow_of c.new.ensures.value ∙ same_flow CORE _ flow OK typed

pub returns-clause-exact : goal.returns-clause-exact
returns-clause-exact c =
    let CORE = seen_core c.args.core in
    let SAME = program_is (types_of c.in_ok-names.names) (map seen_signature c.in_ok-signatures.signatures) CORE c.in_ok-names.ensures.value c.in_ok-signatures.ensures.value in
    let OK : programs.CoreTyped CORE (Gives (seen_types c.in_ok-flow.flow)) = (shifted (λ q. programs.DeclsTyped q CORE []) (Gives (seen_types c.in_ok-flow.flow)) _ _ SAME (shifted (λ l. programs.DeclsTyped (program (types_of c.in_ok-names.names) (map seen_signature c.in_ok-signatures.signatures)) (map seen_decl l) []) (Gives (seen_types c.in_ok-flow.flow)) _ _ c.as_slice.ensures c.in_ok-flow.ensures.value)) in
    λ f fails. not_both CORE _ f OK fails
