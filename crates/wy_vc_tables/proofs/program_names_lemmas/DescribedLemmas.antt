-- What numbers name.
use Rattle.std.proofs.Common.{◌≡◌, ◌<◌, ◌≤◌, ◌-◌, ℕ, zero, suc, List, [], ◌∷◌, length, slice_index_or, slice_get, Bool, true, Some, None, refl, ◌∙◌, ap, subst, sym, arith}
use Rattle.wy_core.specs.CoreTree as tree
use Rattle.wy_core.specs.CoreTree.{routines_of}
use Rattle.wy_core.specs.CoreSeen.{seen_core}
use Rattle.wy_core.specs.Types.{Ty}
use Rattle.wy_core.specs.declared.declarations.Core.{Core}
use Rattle.wy_vc_spec.specs.wy_sem.Evaluation.{Callee, Declared, callee}
use Rattle.wy_vc_spec.specs.wy_sem.TypeTests.{mentions, is_constrained}
use Rattle.wy_vc_spec.specs.Numbered.{Node, numbered_core}
use Rattle.wy_vc_tables.specs.sizes.Marks.{mark_at}
use Rattle.wy_vc_tables.specs.declared.program_names.declared.Declared as d
use Rattle.wy_vc_tables.specs.declared.program_names.program.Called.{Called}
use Rattle.wy_vc_tables.specs.declared.program_names.program.Callee as c
use Rattle.wy_vc_tables.specs.declared.program_names.program.Callee.TheVariants as unknown
use Rattle.wy_vc_tables.specs.declared.program_names.program.Program.{Program}
use Rattle.wy_vc_tables.specs.program_names.Described.{AreRoutines, IsFound, IsRoutine, IsDescribed, routine_of, types_of, written_at}
use mathlib.Core.Path.{fun_ext}

-- a number below their count is that of a function or method
pub routine_found : (core : Core) (rs : List (tree.Routine Node)) (cs : List Called) (n : ℕ) (g : Called) → AreRoutines core rs cs → slice_get cs n ≡ Some g → (r : tree.Routine Node) × (callee rs n ≡ Declared r) × IsRoutine r (routine_of core g) g
routine_found core [] [] n g are e = absurd cc
routine_found core [] (f ∷ cs) n g are e = absurd are
routine_found core (r ∷ rs) [] n g are e = absurd are
routine_found core (r ∷ rs) (f ∷ cs) zero g are e =
    let same : f ≡ g = cc in (r, refl, subst (λ (x : Called). IsRoutine r (routine_of core x) x) same are.0)
routine_found core (r ∷ rs) (f ∷ cs) (suc n) g are e = routine_found core rs cs n g are.1 e

-- one behind it is that of what is built in
pub callee_behind : (core : Core) (rs : List (tree.Routine Node)) (cs : List Called) (n : ℕ) → AreRoutines core rs cs → length cs ≤ n → callee rs n ≡ callee {N = Node} [] (n - length cs)
callee_behind core [] [] n are h = let e : n ≡ n - 0 = omega arith in ap (λ (m : ℕ). callee {N = Node} [] m) e
callee_behind core [] (e ∷ cs) n are h = absurd are
callee_behind core (r ∷ rs) [] n are h = absurd are
callee_behind core (r ∷ rs) (e ∷ cs) zero are h = absurd (omega arith)
callee_behind core (r ∷ rs) (e ∷ cs) (suc n) are h =
    let same : n - length cs ≡ suc n - suc (length cs) = omega arith in
    callee_behind core rs cs n are.1 (omega arith) ∙ ap (λ (m : ℕ). callee {N = Node} [] m) same

-- the marks tell from which types one with a clause is reached
pub marks_tell : (core : Core) (p : Program) (t : Ty) → IsDescribed core p → mentions (mark_at p.constrained.items) t ≡ is_constrained (types_of core) t
marks_tell core p t known = ap (λ (f : ℕ → Bool). mentions f t) (fun_ext known.constrained)

-- ---- entries

pub got : {A : Type 0} (xs : List A) (i : ℕ) (x : A) → i < length xs → x ≡ slice_index_or xs i x → slice_get xs i ≡ Some x
got [] i x within is = absurd (omega arith)
got (y ∷ ys) zero x within is = ap (λ z. Some z) (sym is)
got (y ∷ ys) (suc i) x within is = got ys i x (omega arith) is

pub written_none : (ds : List d.Declared) (n : ℕ) → slice_get ds n ≡ None → true ≡ written_at ds n
written_none [] n is = refl
written_none (x ∷ ds) zero is = absurd cc
written_none (x ∷ ds) (suc n) is = written_none ds n is

pub written_some : (ds : List d.Declared) (n : ℕ) (x : d.Declared) → slice_get ds n ≡ Some x → x.is_written ≡ written_at ds n
written_some [] n x is = absurd cc
written_some (y ∷ ds) zero x is = let same : y ≡ x = cc in ap (λ (z : d.Declared). z.is_written) (sym same)
written_some (y ∷ ds) (suc n) x is = written_some ds n x is

-- ---- calls

pub found_declared : (core : Core) (p : Program) (n : ℕ) (called : Called) (result : c.Callee) → IsDescribed core p → slice_get p.routines.items n ≡ Some called → ((r : tree.Routine Node) → IsRoutine r (routine_of core called) called → IsFound (Declared r) result) → IsFound (callee (routines_of (numbered_core (seen_core core))) n) result
found_declared core p n called result known is found =
    let r = routine_found core (routines_of (numbered_core (seen_core core))) p.routines.items n called known.called is in
    subst (λ (x : Callee Node). IsFound x result) (sym r.1) (found r.0 r.2)

-- what has a number this far behind the functions and methods
pub found_behind : (core : Core) (p : Program) (n k : ℕ) (result : c.Callee) → IsDescribed core p → length p.routines.items ≤ n → n - length p.routines.items ≡ k → IsFound (callee {N = Node} [] k) result → IsFound (callee (routines_of (numbered_core (seen_core core))) n) result
found_behind core p n k result known behind so found =
    subst (λ (x : Callee Node). IsFound x result) (sym (callee_behind core (routines_of (numbered_core (seen_core core))) p.routines.items n known.called behind ∙ ap (λ (m : ℕ). callee {N = Node} [] m) so)) found

pub built_behind : (n : ℕ) → (n ≡ 0 → ⊥) → (n ≡ 1 → ⊥) → IsFound (callee {N = Node} [] n) unknown.Unknown
built_behind zero h k = absurd (h refl)
built_behind (suc zero) h k = absurd (k refl)
built_behind (suc (suc n)) h k = tt
