-- The fault that is given is the one at the least place.
use Rattle.std.proofs.Common.{◌≡◌, ◌≢◌, ◌⊎◌, inl, inr, ◌≤◌, ◌<◌, ℕ, Bool, true, false, ◌&&◌, ◌||◌, ◌==◌, nat_lt, cond, List, [], ◌∷◌, Option, Some, None, is_some, Result, Ok, Err, refl, sym, ap, ◌∙◌, subst, arith, OnOk, IfErr, MatchResult}
use Rattle.wy_core.specs.CoreTree as tree
use Rattle.wy_core.specs.CoreTree.{Decl, AliasDecl, RoutineDecl, Core}
use Rattle.wy_assign.specs.Paths.{Event, End, Falls, Breaks, Continues, Leaves, Through, ClausesPath, StmtsPath}
use Rattle.wy_assign.specs.Assigned.{UsesUnset, SomeUse, without_params, without_option, all_unset, BodyPath, result_variable, UnsetInRoutine, UnsetIn, IsUnset, leaves, Ends, OpenIn, IsOpen, IsAssigned, IsFault}
use Rattle.wy_assign.specs.Marks.{Marks, has, none_set, assigned, with_params, with_option}
use Rattle.wy_assign.specs.Flows.{from_here, flow_all, is_open}
use Rattle.wy_assign.specs.Faults.{clauses_faults, faults_all, entry, alias_faults, routine_faults, decl_faults, routine_open, decl_open, core_faults, core_open, verdict, fault_of, Answers}
use Rattle.wy_assign.specs.declared.flow.Flow.{Flow}
use Rattle.wy_assign.specs.declared.fault.AssignFault.{AssignFault}
use Rattle.wy_assign.specs.declared.fault.AssignFault.TheVariants.{Unset, NoReturn, NoMemory}
use Rattle.wy_assign.proofs.MarkLemmas.{holds, Sane, has-assigned, holds-assigned}
use Rattle.wy_assign.proofs.FlowLemmas.{Comes, Tells, Sound, sound_from}
use Rattle.wy_assign.proofs.TellsLemmas.{tells_all}
use Rattle.wy_assign.proofs.LeastLemmas.{Least, least_same, least_two, least_one, least_none, least_where}
use Rattle.wy_assign.proofs.UseLemmas.{same_start, fault_clauses}
use Rattle.wy_assign.proofs.BadLemmas.{Bad}
use Rattle.wy_assign.proofs.FaultLemmas.{fault_all}
use Rattle.wy_lemmas.proofs.Choices.{and-left as and_left, and-right as and_right, or_cases, both_true as and_both, lt_false, lt_true, false_true as never, by_truth, either, or_either as or_true}

-- ---- where a declaration begins

has-params : (s : Marks) (ps : List tree.Param) (u : ℕ → Bool) → ((x : ℕ) → has s x ≡ u x) → (x : ℕ) → has (with_params s ps) x ≡ without_params ps u x
has-params s [] u h x = h x
has-params s (p ∷ ps) u h x = has-params (assigned s p.variable) ps (λ y. cond (y == p.variable) false (u y))
    (λ y. has-assigned s y p.variable ∙ ap (λ b. cond (y == p.variable) false b) (h y)) x

has-option : (s : Marks) (o : Option ℕ) (u : ℕ → Bool) → ((x : ℕ) → has s x ≡ u x) → (x : ℕ) → has (with_option s o) x ≡ without_option o u x
has-option s None u h x = h x
has-option s (Some y) u h x = has-assigned s x y ∙ ap (λ b. cond (x == y) false b) (h x)

reached-params : (s : Marks) (ps : List tree.Param) → (with_params s ps).reached ≡ s.reached
reached-params s [] = refl
reached-params s (p ∷ ps) = reached-params (assigned s p.variable) ps ∙ holds-assigned None s p.variable

has-none : (x : ℕ) → has none_set x ≡ all_unset x
has-none x = refl

has-entry : (r : tree.Routine ℕ) (x : ℕ) → has (entry r) x ≡ without_params r.params all_unset x
has-entry r x = has-params none_set r.params all_unset has-none x

reached-entry : (r : tree.Routine ℕ) → (entry r).reached ≡ true
reached-entry r = reached-params none_set r.params

sane_entry : (r : tree.Routine ℕ) → Sane (entry r)
sane_entry r w h = reached-entry r

-- ---- uses

from_start : (P : ℕ → Type 0) (A : Through) (s : Marks) (u : ℕ → Bool) (o : Option ℕ) → ((x : ℕ) → has s x ≡ u x) → Least (λ k. P k ⊎ SomeUse A (has s) k) o → Least (λ k. P k ⊎ SomeUse A u k) o
from_start P A s u o h l = least_one P (λ k. SomeUse A (has s) k) (λ k. SomeUse A u k) o (λ k. same_start A (has s) u k h) (λ k. same_start A u (has s) k (λ x. sym (h x))) l

body_to : (r : tree.Routine ℕ) (k : ℕ) → Bad (StmtsPath r.body) (entry r) k → SomeUse (BodyPath r.body) (without_params r.params all_unset) k
body_to r k b = let c = b.1 in (c.0, c.1, (c.2, c.3), subst (λ t. UsesUnset c.0 k t c.1) (has-entry r c.0) c.4)

body_of : (r : tree.Routine ℕ) (k : ℕ) → SomeUse (BodyPath r.body) (without_params r.params all_unset) k → Bad (StmtsPath r.body) (entry r) k
body_of r k s = (reached-entry r, (s.0, s.1, s.2.0, s.2.1, subst (λ t. UsesUnset s.0 k t s.1) (sym (has-entry r s.0)) s.3))

least_routine : (r : tree.Routine ℕ) (P : ℕ → Type 0) (o : Option ℕ) → Least P o → Least (λ k. P k ⊎ UnsetInRoutine r k) (routine_faults r o)
least_routine r P o l =
    let u = without_params r.params all_unset in
    let v = without_option (result_variable r.result) u in
    let s = entry r in
    let t = with_option s (result_variable r.result) in
    let o1 = clauses_faults s r.preconditions o in
    let o2 = clauses_faults t r.postconditions o1 in
    let Pre : ℕ → Type 0 = λ k. SomeUse (ClausesPath r.preconditions) u k in
    let Post : ℕ → Type 0 = λ k. SomeUse (ClausesPath r.postconditions) v k in
    let Body : ℕ → Type 0 = λ k. SomeUse (BodyPath r.body) u k in
    let P1 : ℕ → Type 0 = λ k. P k ⊎ Pre k in
    let P2 : ℕ → Type 0 = λ k. P1 k ⊎ Post k in
    let l1 : Least P1 o1 = from_start P (ClausesPath r.preconditions) s u o1 (has-entry r) (fault_clauses r.preconditions s P o l) in
    let l2 : Least P2 o2 = from_start P1 (ClausesPath r.postconditions) t v o2 (has-option s (result_variable r.result) u (has-entry r)) (fault_clauses r.postconditions t P1 o1 l1) in
    let l3 : Least (λ k. P2 k ⊎ Body k) (routine_faults r o) = least_one P2 (λ k. Bad (StmtsPath r.body) s k) Body (routine_faults r o) (body_to r) (body_of r)
    (fault_all r.body (from_here s) P2 o2 (sound_from s (sane_entry r)) l2) in
    least_two P Pre (λ k. Post k ⊎ Body k) (UnsetInRoutine r) (routine_faults r o) (λ k h. h) (λ k h. h)
    (least_two P1 Post Body (λ k. Post k ⊎ Body k) (routine_faults r o) (λ k h. h) (λ k h. h) l3)

least_decl : (d : Decl ℕ) (P : ℕ → Type 0) (o : Option ℕ) → Least P o → Least (λ k. P k ⊎ UnsetIn d k) (decl_faults d o)
least_decl (AliasDecl a) P o l = from_start P (ClausesPath a.clauses) (with_option none_set a.variable) (without_option a.variable all_unset) (alias_faults a o)
    (has-option none_set a.variable all_unset has-none) (fault_clauses a.clauses (with_option none_set a.variable) P o l)
least_decl (RoutineDecl r) P o l = least_routine r P o l

least_core : (ds : Core ℕ) (P : ℕ → Type 0) (o : Option ℕ) → Least P o → Least (λ k. P k ⊎ IsUnset ds k) (core_faults ds o)
least_core [] P o l = least_none P (λ k. ⊥) o (λ k h. h) l
least_core (d ∷ ds) P o l = least_two P (λ k. UnsetIn d k) (λ k. IsUnset ds k) (λ k. IsUnset (d ∷ ds) k) (core_faults ds (decl_faults d o)) (λ k h. h) (λ k h. h)
    (least_core ds (λ k. P k ⊎ UnsetIn d k) (decl_faults d o) (least_decl d P o l))

-- ---- bodies

ends_of : (r : tree.Routine ℕ) → is_open (flow_all r.body (from_here (entry r))) ≡ true → Ends r.body
ends_of r h =
    let f = from_here (entry r) in
    let g = flow_all r.body f in
    let t = tells_all r.body f (sound_from (entry r) (sane_entry r)) None in
    either
    (λ e. let c = t.here_of e in (c.1.0, Falls, c.1.1, refl))
    (λ e. either
    (λ d. either (λ z. never z) (λ (c : Comes None (StmtsPath r.body) (entry r) Breaks). (c.1.0, Breaks, c.1.1, refl)) (t.breaks_of d))
    (λ d. either (λ z. never z) (λ (c : Comes None (StmtsPath r.body) (entry r) Continues). (c.1.0, Continues, c.1.1, refl)) (t.continues_of d))
    (or_cases g.breaks.reached g.continues.reached e))
    (or_cases g.here.reached (g.breaks.reached || g.continues.reached) h)

ends_by : (r : tree.Routine ℕ) (p : List Event) (end : End) → StmtsPath r.body p end → leaves end ≡ false → is_open (flow_all r.body (from_here (entry r))) ≡ true
ends_by r p Falls c n =
    let f = from_here (entry r) in let g = flow_all r.body f in let t = tells_all r.body f (sound_from (entry r) (sane_entry r)) None in
    or_true g.here.reached (g.breaks.reached || g.continues.reached) (inl (t.here_to (reached-entry r, (p, c, reached-entry r))))
ends_by r p Breaks c n =
    let f = from_here (entry r) in let g = flow_all r.body f in let t = tells_all r.body f (sound_from (entry r) (sane_entry r)) None in
    or_true g.here.reached (g.breaks.reached || g.continues.reached) (inr (or_true g.breaks.reached g.continues.reached (inl (t.breaks_to (inr (reached-entry r, (p, c, reached-entry r)))))))
ends_by r p Continues c n =
    let f = from_here (entry r) in let g = flow_all r.body f in let t = tells_all r.body f (sound_from (entry r) (sane_entry r)) None in
    or_true g.here.reached (g.breaks.reached || g.continues.reached) (inr (or_true g.breaks.reached g.continues.reached (inr (t.continues_to (inr (reached-entry r, (p, c, reached-entry r)))))))
ends_by r p Leaves c n = never (sym n)

ends_to : (r : tree.Routine ℕ) → Ends r.body → is_open (flow_all r.body (from_here (entry r))) ≡ true
ends_to r e = ends_by r e.0 e.1 e.2 e.3

least_open : (d : Decl ℕ) (P : ℕ → Type 0) (o : Option ℕ) → Least P o → Least (λ k. P k ⊎ OpenIn d k) (decl_open d o)
least_open (AliasDecl a) P o l = least_none P (λ k. ⊥) o (λ k h. h) l
least_open (RoutineDecl r) P o l =
    let b = is_open (flow_all r.body (from_here (entry r))) in
    least_where P (λ k. OpenIn (RoutineDecl r) k) (is_some r.result && b) o r.at
    (λ e. (and_left (is_some r.result) b e, refl, ends_of r (and_right (is_some r.result) b e)))
    (λ k h. (and_both (is_some r.result) b h.0 (ends_to r h.2), h.1)) l

least_opens : (ds : Core ℕ) (P : ℕ → Type 0) (o : Option ℕ) → Least P o → Least (λ k. P k ⊎ IsOpen ds k) (core_open ds o)
least_opens [] P o l = least_none P (λ k. ⊥) o (λ k h. h) l
least_opens (d ∷ ds) P o l = least_two P (λ k. OpenIn d k) (λ k. IsOpen ds k) (λ k. IsOpen (d ∷ ds) k) (core_open ds (decl_open d o)) (λ k h. h) (λ k h. h)
    (least_opens ds (λ k. P k ⊎ OpenIn d k) (decl_open d o) (least_open d P o l))

-- ---- the answer

nothing_found : Least (λ k. ⊥) None
nothing_found = λ k h. h

uses_least : (core : Core ℕ) → Least (IsUnset core) (core_faults core None)
uses_least core = least_same (λ k. ⊥ ⊎ IsUnset core k) (IsUnset core) (core_faults core None) (λ k h. either (λ z. absurd z) (λ u. u) h) (λ k u. inr u) (least_core core (λ k. ⊥) None nothing_found)

opens_least : (core : Core ℕ) → Least (IsOpen core) (core_open core None)
opens_least core = least_same (λ k. ⊥ ⊎ IsOpen core k) (IsOpen core) (core_open core None) (λ k h. either (λ z. absurd z) (λ u. u) h) (λ k u. inr u) (least_opens core (λ k. ⊥) None nothing_found)

-- what an answer says of the program
abbrev pub Judges : Core ℕ → Option AssignFault → Type 0
Judges core None = IsAssigned core
Judges core (Some e) = IsFault core e

judged : (core : Core ℕ) (u o : Option ℕ) → Least (IsUnset core) u → Least (IsOpen core) o → Judges core (verdict u o)
judged core None None lu lo = record { set = lu; closed = lo }
judged core (Some k) None lu lo = (lu.0, lu.1, λ m h. absurd (lo m h))
judged core None (Some j) lu lo = (lo.0, (λ m h. absurd (lu m h)), lo.1)
judged core (Some k) (Some j) lu lo = by_truth (nat_lt j k) (λ b. nat_lt j k ≡ b → IsFault core (cond b (NoReturn j) (Unset k)))
    (λ _ e. (lo.0, (λ m h. let lt = lt_true j k e in let le = lu.1 m h in omega arith), lo.1))
    (λ _ e. (lu.0, lu.1, (λ m h. let le = lt_false j k e in let lf = lo.1 m h in omega arith))) refl

pub fault_judges : (core : Core ℕ) → Judges core (fault_of core)
fault_judges core = judged core (core_faults core None) (core_open core None) (uses_least core) (opens_least core)

-- a program with a fault is not assigned, and has one fault
not_assigned : (core : Core ℕ) (e : AssignFault) → IsFault core e → IsAssigned core → ⊥
not_assigned core (Unset at) f a = a.set at f.0
not_assigned core (NoReturn at) f a = a.closed at f.0
not_assigned core NoMemory f a = f

same_at : (a b : ℕ) → a ≤ b → b ≤ a → a ≡ b
same_at a b h g = omega arith

apart_at : {A : Type 0} (a b : ℕ) → a < b → b ≤ a → A
apart_at a b h g = absurd (omega arith)

one_fault : (core : Core ℕ) (e d : AssignFault) → IsFault core e → IsFault core d → e ≡ d
one_fault core (Unset a) (Unset b) f g = ap (λ n. Unset n) (same_at a b (f.1 b g.0) (g.1 a f.0))
one_fault core (Unset a) (NoReturn b) f g = apart_at b a (g.1 a f.0) (f.2 b g.0)
one_fault core (Unset a) NoMemory f g = absurd g
one_fault core (NoReturn a) (Unset b) f g = apart_at a b (f.1 b g.0) (g.2 a f.0)
one_fault core (NoReturn a) (NoReturn b) f g = ap (λ n. NoReturn n) (same_at a b (f.2 b g.0) (g.2 a f.0))
one_fault core (NoReturn a) NoMemory f g = absurd g
one_fault core NoMemory d f g = absurd f

-- ---- the clauses of the public call

judges_none : (core : Core ℕ) → fault_of core ≡ None → IsAssigned core
judges_none core e = subst (λ o. Judges core o) e (fault_judges core)

judges_some : (core : Core ℕ) (d : AssignFault) → fault_of core ≡ Some d → IsFault core d
judges_some core d e = subst (λ o. Judges core o) e (fault_judges core)

pub only_assigned : (core : Core ℕ) (r : Result (Unit {0}) AssignFault) → Answers (fault_of core) r → OnOk r (IsAssigned core)
only_assigned core (Ok t) a = judges_none core a
only_assigned core (Err e) a = tt

pub only_fault : (core : Core ℕ) (r : Result (Unit {0}) AssignFault) → Answers (fault_of core) r → IfErr r (λ e. e ≢ NoMemory → IsFault core e)
only_fault core (Ok t) a = tt
only_fault core (Err e) a = λ n. judges_some core e (a n)

-- all that is left is want of memory
only_memory : (e : AssignFault) → ((e ≢ NoMemory) → ⊥) → e ≡ NoMemory
only_memory (Unset at) h = absurd (h (λ q. absurd (cc)))
only_memory (NoReturn at) h = absurd (h (λ q. absurd (cc)))
only_memory NoMemory h = refl

pub accepts : (core : Core ℕ) (r : Result (Unit {0}) AssignFault) → Answers (fault_of core) r → IsAssigned core → IfErr r (λ e. e ≡ NoMemory)
accepts core (Ok t) a s = tt
accepts core (Err e) a s = only_memory e (λ n. not_assigned core e (judges_some core e (a n)) s)

pub refuses : (core : Core ℕ) (r : Result (Unit {0}) AssignFault) → Answers (fault_of core) r → (d : AssignFault) → IsFault core d → MatchResult r (λ t. ⊥) (λ e. e ≢ NoMemory → e ≡ d)
refuses core (Ok t) a d f = not_assigned core d f (judges_none core a)
refuses core (Err e) a d f = λ n. one_fault core e d (judges_some core e (a n)) f
