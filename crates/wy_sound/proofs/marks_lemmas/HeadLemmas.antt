-- The marks where a contract or a body begins and at the head of a loop; and variables with marks are among those with terms.
use Rattle.std.proofs.Common.{ℕ, zero, suc, ◌≤◌, List, [], ◌∷◌, length, Bool, true, false, ◌&&◌, if◌then◌else◌, sym, subst, arith}
use Rattle.wy_core.specs.CoreTree.{Param, Routine, Stmts}
use Rattle.wy_term.specs.Term.{Term}
use Rattle.wy_sound_programs.specs.wy_sem.Statements.{type_at}
use Rattle.wy_sound_programs.specs.wy_vc_spec.Making.{val_name}
use Rattle.wy_sound_programs.specs.wy_vc_spec.Numbered.{Node}
use Rattle.wy_sound_programs.specs.wy_vc_spec.Variables.{Vars, put}
use Rattle.wy_sound_programs.specs.wy_vc_spec.Values.{Setting, word_at, variable}
use Rattle.wy_sound_programs.specs.wy_vc_spec.Clauses.{assume_in_type}
use Rattle.wy_sound_programs.specs.wy_vc_spec.Spots.{Spot, spot, is_set, mark, assign, with_hyps}
use Rattle.wy_sound_programs.specs.wy_vc_spec.Assigned.{assigns_in, bound_in}
use Rattle.wy_sound_programs.specs.wy_vc_spec.Statements.{Body, words, Renewed, renew_vars, renew_types, renew}
use Rattle.wy_sound_programs.specs.wy_vc_spec.Programs.{name_params, assume_params, enter}
use Rattle.wy_sound_programs.proofs.MarkLemmas.{head_set}
use Rattle.wy_sound.proofs.marks_lemmas.MeetLemmas.{Wide}

-- ---- one variable

-- a variable that takes a mark and a term
pub mark_wide : (set : List Bool) (vars : Vars) (x : ℕ) (b : Bool) (t : Term) → length set ≤ length vars → length (mark set x b) ≤ length (put vars x t)
mark_wide [] [] zero b t h = omega arith
mark_wide [] [] (suc x) b t h = let g = mark_wide [] [] x b t h in omega (arith, g)
mark_wide [] (v ∷ vars) zero b t h = omega arith
mark_wide [] (v ∷ vars) (suc x) b t h = let g = mark_wide [] vars x b t (omega arith) in omega (arith, g)
mark_wide (c ∷ set) [] x b t h = absurd (omega (arith, h))
mark_wide (c ∷ set) (v ∷ vars) zero b t h = h
mark_wide (c ∷ set) (v ∷ vars) (suc x) b t h = let g = mark_wide set vars x b t (omega (arith, h)) in omega (arith, g)

-- one that takes a term alone
put_wide : (vars : Vars) (x : ℕ) (t : Term) → length vars ≤ length (put vars x t)
put_wide [] x t = omega arith
put_wide (v ∷ vars) zero t = omega arith
put_wide (v ∷ vars) (suc x) t = let g = put_wide vars x t in omega (arith, g)

-- ---- the head of a loop

-- no fewer variables have terms
abbrev More : Spot → Renewed → Type 0
More p r = length p.vars ≤ length r.spot.vars

picked : (P : Renewed → Type 0) (c : Bool) (i j : Renewed) → P i → P j → P (if c then i else j)
picked P true i j h g = h
picked P false i j h g = g

more_vars : (words : List (List ℕ)) (body : Stmts Node) (x j : ℕ) (p : Spot) (n : ℕ) → More p (renew_vars words body x j p n)
more_vars words body x zero p n = omega arith
more_vars words body x (suc j) p n =
    let q : Spot = record p { vars = put p.vars x (val_name (word_at words x) n) } in
    let grown = put_wide p.vars x (val_name (word_at words x) n) in
    let more = more_vars words body (suc x) j q (suc n) in
    picked (More p) (assigns_in x body) (renew_vars words body (suc x) j q (suc n)) (renew_vars words body (suc x) j p n) (omega (arith, grown, more)) (more_vars words body (suc x) j p n)

more_types : (b : Body Node) (body : Stmts Node) (x j : ℕ) (p : Spot) (n : ℕ) → More p (renew_types b body x j p n)
more_types b body x zero p n = omega arith
more_types b body x (suc j) p n =
    let f = assume_in_type b.program.setting (type_at b.types x) (variable p.vars x) p.hyps n in
    picked (More p) (assigns_in x body && is_set p.set x) (renew_types b body (suc x) j (with_hyps f.hyps p) f.count) (renew_types b body (suc x) j p n)
    (more_types b body (suc x) j (with_hyps f.hyps p) f.count) (more_types b body (suc x) j p n)

pub head_wide : (b : Body Node) (body : Stmts Node) (p : Spot) (n : ℕ) → Wide p → Wide (renew b body p n).spot
head_wide b body p n h =
    let head = renew b body p n in
    let r = renew_vars (words b) body 0 (bound_in body) p n in
    let first = more_vars (words b) body 0 (bound_in body) p n in
    let second = more_types b body 0 (bound_in body) r.spot r.count in
    subst (λ (s : List Bool). length s ≤ length head.spot.vars) (sym (head_set b body p n)) (omega (arith, h, first, second))

-- ---- the entry

named_wide : (words : List (List ℕ)) (ps : List Param) (p : Spot) (n : ℕ) → Wide p → Wide (name_params words ps p n).spot
named_wide words [] p n h = h
named_wide words (x ∷ xs) p n h =
    let name = val_name (word_at words x.variable) n in
    named_wide words xs (assign x.variable name p) (suc n) (mark_wide p.set p.vars x.variable true name h)

assumed_wide : (s : Setting Node) (ps : List Param) (p : Spot) (n : ℕ) → Wide p → Wide (assume_params s ps p n).spot
assumed_wide s [] p n h = h
assumed_wide s (x ∷ xs) p n h = let f = assume_in_type s x.ty (variable p.vars x.variable) p.hyps n in assumed_wide s xs (with_hyps f.hyps p) f.count h

pub entry_wide : (s : Setting Node) (r : Routine Node) → Wide (enter s r).spot
entry_wide s r =
    let start = name_params r.variables r.params (spot [] [] []) 0 in
    assumed_wide s r.params start.spot start.count (named_wide r.variables r.params (spot [] [] []) 0 (omega arith))
