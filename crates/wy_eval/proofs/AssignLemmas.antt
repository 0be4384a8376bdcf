-- Assignments, with a path and without one.
use Rattle.std.proofs.Common.{◌≡◌, ℕ, true, List, [], ◌∷◌, map, length, Option, Some, None, refl, ap, ◌∙◌}
use Rattle.wy_eval.proofs.FollowLemmas.{as_any, any_stopped}
use Rattle.wy_value.specs.Datum.{Datum}
use Rattle.wy_core.specs.CoreSeen.{seen_step}
use Rattle.wy_core.specs.CoreTree as tree
use Rattle.wy_core.specs.declared.statements.Step.{Step}
use Rattle.wy_sem.specs.Expressions.{Setting, Store, eval, slot}
use Rattle.wy_sem.specs.Meter.{Meter, Outcome, Done, Run, ◌>>=◌}
use Rattle.wy_sem.specs.Operations as operations
use Rattle.wy_sem.specs.Operations.{needed, updated}
use Rattle.wy_sem.specs.Statements.{Exit, Frame, assigned, path_of, stored, type_at}
use Rattle.wy_eval_exprs.specs.declared.stop.Stop.{Stop}
use Rattle.wy_eval_exprs.specs.declared.stop.Stop.TheVariants as stop
use Rattle.wy_eval_exprs.specs.Outcomes.{stopped}

pub assigned_whole : (w : Setting ℕ) (fr : Frame ℕ) (at x : ℕ) (path : List Step) (v : tree.Expr ℕ) (s : Store) (m : Meter) → length path ≡ 0 → assigned w fr at x (map seen_step path) v s m ≡ (eval w true v s m >>= stored fr at x (type_at fr.types x) s)
assigned_whole w fr at x [] v s m h = refl
assigned_whole w fr at x (p ∷ path) v s m h = absurd cc

-- what a path is followed by
abbrev pub behind_path : Setting ℕ → Frame ℕ → ℕ → ℕ → tree.Expr ℕ → Store → Datum → List operations.Slot → Run Exit
behind_path w fr at x v s d slots k = eval w true v s k >>= (λ u. stored fr at x (type_at fr.types x) s (updated d slots u))

abbrev pub along_path : Setting ℕ → Frame ℕ → ℕ → ℕ → List Step → tree.Expr ℕ → Store → Datum → Run Exit
along_path w fr at x path v s d m = path_of w s (map seen_step path) d m >>= behind_path w fr at x v s d

pub assigned_part : (w : Setting ℕ) (fr : Frame ℕ) (at x : ℕ) (path : List Step) (v : tree.Expr ℕ) (s : Store) (m : Meter) → (length path ≡ 0 → ⊥) → assigned w fr at x (map seen_step path) v s m ≡ needed at (slot s x) (along_path w fr at x path v s) m
assigned_part w fr at x [] v s m h = absurd (h refl)
assigned_part w fr at x (p ∷ path) v s m h = refl

pub needed_then : {X : Type 0} (at : ℕ) (o : Option Datum) (d : Datum) (next : Datum → Run X) (m : Meter) → needed at o Done m ≡ Done d m → needed at o next m ≡ next d m
needed_then at None d next m h = absurd cc
needed_then at (Some c) d next m h = let g : c ≡ d = cc in ap (λ x. next x m) g

pub no_stop : {X Y : Type 0} (d : X) (m k : Meter) (e : Stop) (o : Outcome Y) → Done d m ≡ stopped e k → o ≡ stopped e k
no_stop d m k (stop.Fault kind at) o h = absurd cc
no_stop d m k stop.More o h = absurd cc
no_stop d m k stop.Spent o h = absurd cc
no_stop d m k stop.NoMemory o h = absurd cc

pub needed_stops : {X : Type 0} (at : ℕ) (o : Option Datum) (next : Datum → Run X) (m : Meter) (e : Stop) → needed at o Done m ≡ stopped e m → needed at o next m ≡ stopped e m
needed_stops at None next m e h = ap as_any h ∙ any_stopped _ _ e m
needed_stops at (Some d) next m e h = no_stop d m m e (next d m) h
