-- Where a path uses a variable that has no value, and which bodies a path leaves without `return` or `fail`.
use Rattle.std.specs.Prelude.{◌≡◌, ◌⊎◌, ◌≤◌, ◌<◌, ℕ, Bool, true, false, not, ◌||◌, ◌==◌, cond, List, [], ◌∷◌, Option, Some, None, is_some}
use Rattle.wy_core.specs.CoreTree as tree
use Rattle.wy_core.specs.CoreTree.{Decl, AliasDecl, RoutineDecl, Core}
use Rattle.wy_assign.specs.Paths.{Event, Uses, Sets, Unsets, End, falls, Leaves, Through, ClausesPath, StmtsPath}
use Rattle.wy_assign.specs.declared.fault.AssignFault.{AssignFault}
use Rattle.wy_assign.specs.declared.fault.AssignFault.TheVariants.{Unset, NoReturn, NoMemory}

-- whether the variable has no value behind these events, where u says so of before them
abbrev pub unset_behind : ℕ → Bool → List Event → Bool
unset_behind x u [] = u
unset_behind x u (Uses at y ∷ p) = unset_behind x u p
unset_behind x u (Sets y ∷ p) = unset_behind x (cond (x == y) false u) p
unset_behind x u (Unsets y ∷ p) = unset_behind x (cond (x == y) true u) p

-- these events use the variable at the place while it has no value
abbrev pub UsesUnset : ℕ → ℕ → Bool → List Event → Type 0
UsesUnset x at u [] = ⊥
UsesUnset x at u (Uses k y ∷ p) = ((u ≡ true) × ((x == y) ≡ true) × (k ≡ at)) ⊎ UsesUnset x at u p
UsesUnset x at u (Sets y ∷ p) = UsesUnset x at (cond (x == y) false u) p
UsesUnset x at u (Unsets y ∷ p) = UsesUnset x at (cond (x == y) true u) p

-- some path does so, where `start` says which variables have no value at first
abbrev pub SomeUse : Through → (ℕ → Bool) → ℕ → Type 0
SomeUse way start at = (x : ℕ) × (p : List Event) × way p × UsesUnset x at (start x) p

-- the parameters have values
abbrev pub without_params : List tree.Param → (ℕ → Bool) → ℕ → Bool
without_params [] start x = start x
without_params (p ∷ ps) start x = without_params ps (λ y. cond (y == p.variable) false (start y)) x

-- and a named result has one
abbrev pub without_option : Option ℕ → (ℕ → Bool) → ℕ → Bool
without_option None start x = start x
without_option (Some y) start x = cond (x == y) false (start x)

abbrev pub all_unset : ℕ → Bool
all_unset x = true

-- the paths through a body, however they end
abbrev pub BodyPath : tree.Stmts ℕ → Through
BodyPath body p = (end : End) × StmtsPath body p end

-- the number of the result's variable, where it has a name
abbrev pub result_variable : Option tree.Output → Option ℕ
result_variable None = None
result_variable (Some o) = o.variable

-- in a function or method: its requires clauses, its ensures clauses, and its body
abbrev pub UnsetInRoutine : tree.Routine ℕ → ℕ → Type 0
UnsetInRoutine r at =
    SomeUse (ClausesPath r.preconditions) (without_params r.params all_unset) at
    ⊎ (SomeUse (ClausesPath r.postconditions) (without_option (result_variable r.result) (without_params r.params all_unset)) at
    ⊎ SomeUse (BodyPath r.body) (without_params r.params all_unset) at)

abbrev pub UnsetIn : Decl ℕ → ℕ → Type 0
UnsetIn (AliasDecl a) at = SomeUse (ClausesPath a.clauses) (without_option a.variable all_unset) at
UnsetIn (RoutineDecl r) at = UnsetInRoutine r at

-- some path of some declaration uses a variable at this place that has no value there
abbrev pub IsUnset : Core ℕ → ℕ → Type 0
IsUnset [] at = ⊥
IsUnset (d ∷ ds) at = UnsetIn d at ⊎ IsUnset ds at

-- a path of the body ends without `return` or `fail`
abbrev pub leaves : End → Bool
leaves Leaves = true
leaves end = false

abbrev pub Ends : tree.Stmts ℕ → Type 0
Ends body = (p : List Event) × (end : End) × StmtsPath body p end × (leaves end ≡ false)

abbrev pub OpenIn : Decl ℕ → ℕ → Type 0
OpenIn (AliasDecl a) at = ⊥
OpenIn (RoutineDecl r) at = (is_some r.result ≡ true) × (r.at ≡ at) × Ends r.body

-- a function or method with a result that is declared at this place has such a path
abbrev pub IsOpen : Core ℕ → ℕ → Type 0
IsOpen [] at = ⊥
IsOpen (d ∷ ds) at = OpenIn d at ⊎ IsOpen ds at

-- each use follows an assignment on each path, and each path of a body with a result ends in `return` or `fail`
pub record IsAssigned (core : Core ℕ) : Type 0 where
  pub set : (at : ℕ) → IsUnset core at → ⊥
  pub closed : (at : ℕ) → IsOpen core at → ⊥

-- the fault that is given: the one at the least place, and at one place a use before a body
abbrev pub IsFault : Core ℕ → AssignFault → Type 0
IsFault core (Unset at) = IsUnset core at × ((k : ℕ) → IsUnset core k → at ≤ k) × ((k : ℕ) → IsOpen core k → at ≤ k)
IsFault core (NoReturn at) = IsOpen core at × ((k : ℕ) → IsUnset core k → at < k) × ((k : ℕ) → IsOpen core k → at ≤ k)
IsFault core NoMemory = ⊥
