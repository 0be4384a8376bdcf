-- Each routine is framed.
use Rattle.std.proofs.Common.{◌≡◌, ◌∙◌, ◌≤◌, ◌<◌, ℕ, zero, suc, max, List, [], ◌∷◌, ◌++◌, length, refl, ap, subst, sym, append_assoc, length-append, arith}
use Rattle.std.specs.List.{All}
use Rattle.std.proofs.lemmas.List.Elements.{All-nil, All-cons, All-append, All-weaker}
use Rattle.wy_core.specs.CoreTree as tree
use Rattle.wy_core.specs.CoreTree.{Expr, Core, aliases_of, routines_of}
use Rattle.wy_live.specs.Sets.{Variables, with}
use Rattle.wy_live.specs.Walks.{live_all, nothing}
use Rattle.wy_code.specs.declared.instructions.Instr.{Instr}
use Rattle.wy_code.specs.declared.instructions.Instr.TheVariants as instr
use Rattle.wy_code.specs.declared.instructions.Scalar.TheVariants as scalar
use Rattle.wy_code.specs.declared.pieces.steps.Step.{Step}
use Rattle.wy_code.specs.declared.pieces.steps.Step.TheVariants.{Does}
use Rattle.wy_code.specs.pieces.Steps.{clear, dropped, fork}
use Rattle.wy_code.specs.pieces.Placing.{placed, room, routine_of}
use Rattle.wy_code_spec.specs.declared.tables.context.Context.{Context}
use Rattle.wy_code_spec.specs.tables.Tables.{context_of}
use Rattle.wy_code_spec.specs.compiled.TypeTests as types
use Rattle.wy_code_spec.specs.compiled.Expressions.{code}
use Rattle.wy_code_spec.specs.compiled.Statements.{stmts_code}
use Rattle.wy_code_spec.specs.compiled.Programs as spec
use Rattle.wy_code_spec.specs.compiled.Ranges.{targets_in, IsFramed}
use Rattle.wy_code_spec.proofs.compiled_lemmas.FrameLemmas.{room_holds}
use Rattle.wy_code_spec.proofs.compiled_lemmas.WithinLemmas.{Within, within_append, clear_within, dropped_within, fork_inside, placed_within, placed_append, placed_length}
use Rattle.wy_code_spec.proofs.compiled_lemmas.JumpLemmas.{test_within, code_within}
use Rattle.wy_code_spec.proofs.compiled_lemmas.StatementLemmas.{stmts_within}

jumps_hold : (n : ℕ) (pre : List Step) → Within 0 pre → (k : ℕ) → length pre < k → All (λ i. All (λ t. t < k) (targets_in i)) (placed 0 (pre ++ Does (instr.Return n) ∷ []))
jumps_hold n pre w k h =
    subst (λ (l : List Instr). All (λ i. All (λ t. t < k) (targets_in i)) l) (sym (placed_append 0 pre (Does (instr.Return n) ∷ [])))
    (All-append (λ i. All (λ t. t < k) (targets_in i)) (placed 0 pre) (instr.Return n ∷ [])
    (All-weaker (λ i. All (λ t. t ≤ length pre) (targets_in i)) (λ i. All (λ t. t < k) (targets_in i)) (λ i a. All-weaker (λ t. t ≤ length pre) (λ t. t < k) (λ t le. omega arith) (targets_in i) a) (placed 0 pre) (placed_within 0 0 pre w (length pre) (omega arith)))
    (All-cons (λ i. All (λ t. t < k) (targets_in i)) (instr.Return n) [] (All-nil (λ t. t < k)) (All-nil (λ i. All (λ t. t < k) (targets_in i)))))

framed : (params n : ℕ) (pre : List Step) → Within 0 pre → IsFramed (routine_of params (pre ++ Does (instr.Return n) ∷ []))
framed params n pre w =
    let steps = pre ++ Does (instr.Return n) ∷ [] in
    record {
      params = omega arith;
      registers = room_holds (placed 0 steps) (max params (room (placed 0 steps))) (omega arith);
      jumps = jumps_hold n pre w (length (placed 0 steps)) (omega (arith, placed_length 0 steps, length-append pre (Does (instr.Return n) ∷ [])));
    }

body_framed : (c : Context) (r : tree.Routine ℕ) → IsFramed (spec.body_routine c r)
body_framed c r =
    let n = length r.variables in
    let unused = clear (spec.unused_params (live_all r.body [] nothing) r.params) in
    let body = stmts_code c r.body [] nothing n 0 0 in
    let start = Does (instr.Const n scalar.Null) ∷ [] in
    let same : (unused ++ (body ++ start)) ++ Does (instr.Return n) ∷ [] ≡ spec.body_steps c r = append_assoc unused (body ++ start) (Does (instr.Return n) ∷ []) ∙ ap (λ (l : List Step). unused ++ l) (append_assoc body start (Does (instr.Return n) ∷ [])) in
    let w : Within 0 (unused ++ (body ++ start)) = within_append 0 unused (body ++ start) (clear_within _ (spec.unused_params (live_all r.body [] nothing) r.params))
    (within_append 0 body start (stmts_within c r.body [] nothing n 0 0 _ (omega arith) (omega arith)) (refl, tt)) in
    subst (λ (l : List Step). IsFramed (routine_of (length r.params) l)) same (framed (length r.params) n (unused ++ (body ++ start)) w)

clauses_within : (c : Context) (es : List (Expr ℕ)) (s : Variables) (r b : ℕ) → Within b (spec.clauses_steps c es s r)
clauses_within c [] s r b = tt
clauses_within c (e ∷ es) s r b = within_append b (code c e s r) (fork r (spec.clauses_steps c es s r) []) (code_within c e s r _) (fork_inside b r (spec.clauses_steps c es s r) [] (clauses_within c es s r b) tt)

taken_within : (x b : ℕ) → Within b (spec.taken x)
taken_within zero b = tt
taken_within (suc x) b = (refl, tt)

type_framed_at : (c : Context) (a : tree.Alias ℕ) (x n : ℕ) → IsFramed (routine_of 1 (spec.type_steps_at c a x n))
type_framed_at c a x n =
    let first = spec.taken x in
    let asked = types.test c a.ty x n (suc n) in
    let clauses = fork n (spec.clauses_steps c a.clauses (with [] x) n) [] in
    let gone = dropped x (suc n) in
    let last = Does (instr.Return n) ∷ [] in
    let same : (first ++ (asked ++ (clauses ++ gone))) ++ last ≡ spec.type_steps_at c a x n =
    append_assoc first (asked ++ (clauses ++ gone)) last ∙ ap (λ (l : List Step). first ++ l) (append_assoc asked (clauses ++ gone) last ∙ ap (λ (l : List Step). asked ++ l) (append_assoc clauses gone last)) in
    let w : Within 0 (first ++ (asked ++ (clauses ++ gone))) = within_append 0 first (asked ++ (clauses ++ gone)) (taken_within x _) (within_append 0 asked (clauses ++ gone) (test_within c a.ty x n (suc n) _)
    (within_append 0 clauses gone (fork_inside _ n (spec.clauses_steps c a.clauses (with [] x) n) [] (clauses_within c a.clauses (with [] x) n _) tt) (dropped_within 0 x (suc n)))) in
    subst (λ (l : List Step). IsFramed (routine_of 1 l)) same (framed 1 n (first ++ (asked ++ (clauses ++ gone))) w)

bodies_framed : (c : Context) (rs : List (tree.Routine ℕ)) → All IsFramed (spec.body_routines c rs)
bodies_framed c [] = All-nil IsFramed
bodies_framed c (r ∷ rs) = All-cons IsFramed (spec.body_routine c r) (spec.body_routines c rs) (body_framed c r) (bodies_framed c rs)

types_framed : (c : Context) (more : List (tree.Alias ℕ)) → All IsFramed (spec.type_routines c more)
types_framed c [] = All-nil IsFramed
types_framed c (a ∷ more) = All-cons IsFramed (spec.type_routine c a) (spec.type_routines c more) (type_framed_at c a (spec.variable_of a.variable) (max 1 (length a.variables))) (types_framed c more)

pub all_framed : (core : Core ℕ) → All IsFramed (spec.code_of core).routines
all_framed core =
    let c = context_of core in
    All-append IsFramed (spec.body_routines c (routines_of core)) (spec.type_routines c (aliases_of core)) (bodies_framed c (routines_of core)) (types_framed c (aliases_of core))
