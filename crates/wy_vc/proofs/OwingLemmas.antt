-- What types, contracts and bodies owe.
use Rattle.std.proofs.Common.{Vec, ◌≡◌, ◌<◌, ◌+◌, ℕ, suc, List, [], ◌∷◌, ◌++◌, All, Option, Some, None, length, map, refl, sym, ◌∙◌, ap, subst, arith}
use Rattle.std.specs.declared.alloc.Global.{Global}
use Rattle.std.proofs.lemmas.List.{append-nil, append_assoc}
use Rattle.std.proofs.lemmas.List.Elements.{All-nil}
use Rattle.wy_core.specs.CoreSeen.{seen_alias, seen_exprs, seen_output, seen_routine, seen_ty}
use Rattle.wy_core.specs.CoreTree as tree
use Rattle.wy_core.specs.declared.declarations.Alias.{Alias}
use Rattle.wy_core.specs.declared.declarations.Output.{Output}
use Rattle.wy_core.specs.declared.declarations.Routine.{Routine}
use Rattle.wy_core.specs.declared.expressions.Expr as e
use Rattle.wy_term.specs.Term.{Term}
use Rattle.wy_term.specs.Nodes.{Plain, tree_at}
use Rattle.wy_vc_spec.specs.Clauses.{Passed, passed, assume_in_type}
use Rattle.wy_vc_spec.specs.Making.{val_name}
use Rattle.wy_vc_spec.specs.Numbered.{Node, numbered_alias, numbered_list, numbered_routine}
use Rattle.wy_vc_spec.specs.Owed.{Owed}
use Rattle.wy_vc_spec.specs.Programs as spec
use Rattle.wy_vc_spec.specs.Sizes.{exprs_in_list}
use Rattle.wy_vc_spec.specs.Spots.{Spot}
use Rattle.wy_vc_spec.specs.Statements as run
use Rattle.wy_vc_spec.specs.Statements.{Body, Renewed, walk_clauses}
use Rattle.wy_vc_spec.specs.Values.{word_at}
use Rattle.wy_vc_spec.specs.Variables.{Vars, put}
use Rattle.wy_vc_spec.specs.Walks as walks
use Rattle.wy_vc_body.proofs.wy_vc_operations_proofs.GrowingLemmas.{kept_all}
use Rattle.wy_vc_body.specs.wy_vc_operations.Growing.{Kept, AreBelow, Makes}
use Rattle.wy_vc_body.specs.declared.here.Here.{Here}
use Rattle.wy_vc_body.specs.wy_vc_exprs.Numbered.{trees_of}
use Rattle.wy_vc_body.specs.wy_vc_exprs.Slots.{AreSlots, slots_of}
use Rattle.wy_vc_body.specs.wy_vc_exprs.State.{IsGoal, IsSound, Steps, hyps_of, owed_of, seen_goal}
use Rattle.wy_vc_body.specs.wy_vc_exprs.declared.goal.Goal.{Goal}
use Rattle.wy_vc_body.specs.wy_vc_exprs.declared.walk.Walk.{Walk}
use Rattle.wy_vc_body.proofs.wy_vc_exprs_proofs.NumberedLemmas.{kept_then}
use Rattle.wy_vc_body.proofs.wy_vc_exprs_proofs.SlotLemmas.{slots_kept, slots_on, slots_put, are_put}
use Rattle.wy_vc_body.proofs.wy_vc_exprs_proofs.StateLemmas.{steps_on, steps_as}
use Rattle.wy_vc_body.proofs.wy_vc_exprs_proofs.GivenLemmas.{output_typed}
use Rattle.wy_vc_body.specs.Paths.{IsEnd}
use Rattle.wy_vc_body.specs.Loops.{Renews}
use Rattle.wy_vc.specs.Entering.{Enters, Owes}

-- ---- where something begins

-- nothing is assumed, the terms and what is owed stay
pub begun_sound : (a z : Walk) → IsSound a → z.maker.terms ≡ a.maker.terms → z.owed ≡ a.owed → z.hyps.items ≡ [] → IsSound z
begun_sound a z sound terms owed hyps = record {
  hyps = subst (λ (xs : List ℕ). AreBelow (length z.maker.terms) xs) (sym hyps) (All-nil (λ k. k < length z.maker.terms));
  owed = subst (λ (ns : List Plain). All (IsGoal ns) z.owed.items) (sym terms) (subst (λ (os : Vec Goal Global). All (IsGoal a.maker.terms) os.items) (sym owed) sound.owed);
}

begun_hyps : (z : Walk) → z.hyps.items ≡ [] → hyps_of z ≡ []
begun_hyps z hyps = ap (λ (xs : List ℕ). trees_of z.maker.terms xs) hyps

-- ---- what is owed

pub owes_nothing : (a : Walk) → IsSound a → Owes a a []
owes_nothing a sound = record { sound = sound; kept = kept_all a.maker.terms; owed = sym (append-nil (owed_of a)) }

pub owes_steps : (a b : Walk) (p : Passed) → Steps a b p → Owes a b p.owed
owes_steps a b p s = record { sound = s.sound; kept = s.kept; owed = s.owed }

pub owes_then : (a b c : Walk) (os ps : List Owed) → Owes a b os → Owes b c ps → Owes a c (os ++ ps)
owes_then a b c os ps first second = record {
  sound = second.sound;
  kept = kept_then first.kept second.kept;
  owed = second.owed ∙ ap (λ (l : List Owed). l ++ ps) first.owed ∙ append_assoc (owed_of a) os ps;
}

pub owes_as : (a b : Walk) (os ps : List Owed) → os ≡ ps → Owes a b os → Owes a b ps
owes_as a b os ps same o = subst (λ (l : List Owed). Owes a b l) same o

-- from where something began
pub owes_from : (a z b : Walk) (os : List Owed) → z.maker.terms ≡ a.maker.terms → z.owed ≡ a.owed → Owes z b os → Owes a b os
owes_from a z b os terms owed o = record {
  sound = o.sound;
  kept = subst (λ (ns : List Plain). Kept ns b.maker.terms) terms o.kept;
  owed = o.owed ∙ ap (λ (l : List Owed). l ++ os) (ap (λ (ns : List Plain). map (seen_goal ns) z.owed.items) terms ∙ ap (λ (gs : Vec Goal Global). map (seen_goal a.maker.terms) gs.items) owed);
}

-- ---- clauses that are walked

-- by the words, the clauses, their number and the terms of variables
pub walked_as : (p : walks.Program Node) (ws words : List (List ℕ)) (es clauses : List e.Expr) (j k : ℕ) (us vars : Vars) (a b : Walk) → ws ≡ words → es ≡ clauses → j ≡ k → us ≡ vars
    → Steps a b (walk_clauses p ws (numbered_list (seen_exprs es) j) us (hyps_of a) a.maker.count)
    → Steps a b (walk_clauses p words (numbered_list (seen_exprs clauses) k) vars (hyps_of a) a.maker.count)
walked_as p ws words es clauses j k us vars a b same_words same_clauses same_number same_vars s =
    let W = λ (w : List (List ℕ)) (l : List e.Expr) (i : ℕ) (vs : Vars). walk_clauses p w (numbered_list (seen_exprs l) i) vs (hyps_of a) a.maker.count in
    steps_as a b (W ws es j us) (W words clauses k vars)
    (ap (λ (w : List (List ℕ)). W w es j us) same_words ∙ ap (λ (l : List e.Expr). W words l j us) same_clauses ∙ ap (λ (i : ℕ). W words clauses i us) same_number ∙ ap (λ (vs : Vars). W words clauses k vs) same_vars) s

-- ---- types

pub type_owes : (p : walks.Program Node) (alias : Alias) (x first name : ℕ) (a z b d f : Walk) (vs us : List (Option ℕ)) (words : List (List ℕ)) (clauses : List e.Expr)
    → words ≡ alias.variables → clauses ≡ alias.clauses → us ≡ vs
    → IsSound a → z.maker.terms ≡ a.maker.terms → z.owed ≡ a.owed → z.hyps.items ≡ [] → z.maker.count ≡ 0 → z.maker.node ≡ first
    → Makes z.maker.terms b.maker.terms name (val_name (word_at words x) z.maker.count) → b.hyps.items ≡ z.hyps.items → b.owed.items ≡ z.owed.items → b.maker.count ≡ suc z.maker.count → b.maker.node ≡ z.maker.node
    → Steps b d (assume_in_type p.setting (seen_ty alias.ty) (tree_at b.maker.terms name) (hyps_of b) b.maker.count) → d.maker.node ≡ b.maker.node
    → vs ≡ put [] x name
    → Steps d f (walk_clauses p words (numbered_list (seen_exprs clauses) d.maker.node) (slots_of d.maker.terms us) (hyps_of d) d.maker.count)
    → Owes a f (spec.alias_conditions p (numbered_alias (seen_alias alias) first) (Some x))
type_owes p alias x first name a z b d f vs us words clauses same_words same_clauses same_vars sound terms owed hyps count node made b_hyps b_owed b_count b_node typed d_node vars walked =
    let N = val_name (word_at alias.variables x) 0 in
    let T = seen_ty alias.ty in
    let begun = begun_sound a z sound terms owed hyps in
    let made1 = subst (λ (ws : List (List ℕ)). Makes z.maker.terms b.maker.terms name (val_name (word_at ws x) z.maker.count)) same_words made in
    let made2 = subst (λ (n : ℕ). Makes z.maker.terms b.maker.terms name (val_name (word_at alias.variables x) n)) count made1 in
    let to_d = output_typed p.setting T N z b d name begun made2 b_hyps b_owed b_count typed in
    let start = assume_in_type p.setting T N [] 1 in
    let to_d' = steps_as z d (assume_in_type p.setting T N (hyps_of z) (suc z.maker.count)) start
    (ap (λ (hs : List Term). assume_in_type p.setting T N hs (suc z.maker.count)) (begun_hyps z hyps) ∙ ap (λ (n : ℕ). assume_in_type p.setting T N [] (suc n)) count) to_d in
    let here : tree_at d.maker.terms name ≡ N = typed.kept.trees name made2.here.within ∙ made2.here.is in
    let slots : slots_of d.maker.terms us ≡ put [] x N =
    ap (λ (l : List (Option ℕ)). slots_of d.maker.terms l) (same_vars ∙ vars) ∙ slots_put d.maker.terms [] x name ∙ ap (λ (t : Term). put [] x t) here in
    let walked' = walked_as p words alias.variables clauses alias.clauses d.maker.node first (slots_of d.maker.terms us) (put [] x N) d f same_words same_clauses (d_node ∙ b_node ∙ node) slots walked in
    let G = λ (hs : List Term) (n : ℕ). walk_clauses p alias.variables (numbered_list (seen_exprs alias.clauses) first) (put [] x N) hs n in
    let all = steps_on G z d f start to_d' walked' in
    owes_from a z f (G start.hyps start.count).owed terms owed (owes_steps z f (passed (G start.hyps start.count).count (G start.hyps start.count).hyps ([] ++ (G start.hyps start.count).owed)) all)

-- the variable has a term
pub one_slot : (z b d : Walk) (name x : ℕ) (t : Term) (vs us : List (Option ℕ)) → Makes z.maker.terms b.maker.terms name t → Kept b.maker.terms d.maker.terms → vs ≡ put [] x name → us ≡ vs → AreSlots d.maker.terms us
one_slot z b d name x t vs us made kept vars same =
    let within : name < length d.maker.terms = let w = made.here.within in let g = kept.grows in omega (arith, w, g) in
    subst (λ (l : List (Option ℕ)). AreSlots d.maker.terms l) (sym (same ∙ vars)) (are_put d.maker.terms [] x name tt within)

-- ---- ensures clauses

-- where there are none
pub no_ensures : (p : walks.Program Node) (r : tree.Routine Node) (es : List e.Expr) (j : ℕ) (vars : Vars) (hyps : List Term) (n : ℕ) (a : Walk) → IsSound a → length es ≡ 0 → Owes a a (spec.ensures_conditions p r (numbered_list (seen_exprs es) j) vars hyps n)
no_ensures p r [] j vars hyps n a sound none = owes_nothing a sound
no_ensures p r (x ∷ es) j vars hyps n a sound none = absurd (omega arith)

some_ensures : (p : walks.Program Node) (r : tree.Routine Node) (es : List e.Expr) (j : ℕ) (vars : Vars) (hyps : List Term) (n : ℕ) → (length es ≡ 0 → ⊥)
    → (walk_clauses p r.variables (numbered_list (seen_exprs es) j) (spec.enter_result p.setting r r.result vars hyps n).spot.vars (spec.enter_result p.setting r r.result vars hyps n).spot.hyps (spec.enter_result p.setting r r.result vars hyps n).count).owed
    ≡ spec.ensures_conditions p r (numbered_list (seen_exprs es) j) vars hyps n
some_ensures p r [] j vars hyps n some = absurd (some refl)
some_ensures p r (x ∷ es) j vars hyps n some = refl

-- where there are some
pub ensures_owe : (p : walks.Program Node) (routine : Routine) (k : ℕ) (a b c : Walk) (vs us ts : List (Option ℕ)) (words : List (List ℕ)) (clauses : List e.Expr)
    → words ≡ routine.variables → clauses ≡ routine.postconditions → ts ≡ us → (length clauses ≡ 0 → ⊥)
    → Enters a b us (spec.enter_result p.setting (numbered_routine (seen_routine routine) k) (seen_output routine.result) (slots_of a.maker.terms vs) (hyps_of a) a.maker.count)
    → b.maker.node ≡ a.maker.node
    → Steps b c (walk_clauses p words (numbered_list (seen_exprs clauses) b.maker.node) (slots_of b.maker.terms ts) (hyps_of b) b.maker.count)
    → Owes a c (spec.ensures_conditions p (numbered_routine (seen_routine routine) k) (numbered_list (seen_exprs routine.postconditions) a.maker.node) (slots_of a.maker.terms vs) (hyps_of a) a.maker.count)
ensures_owe p routine k a b c vs us ts words clauses same_words same_clauses same_vars some enters node walked =
    let R = numbered_routine (seen_routine routine) k in
    let V = slots_of a.maker.terms vs in
    let start = spec.enter_result p.setting R (seen_output routine.result) V (hyps_of a) a.maker.count in
    let some' : length routine.postconditions ≡ 0 → ⊥ = λ none. some (ap (λ (l : List e.Expr). length l) same_clauses ∙ none) in
    let slots : slots_of b.maker.terms ts ≡ start.spot.vars = ap (λ (l : List (Option ℕ)). slots_of b.maker.terms l) same_vars ∙ enters.vars in
    let walked' = walked_as p words routine.variables clauses routine.postconditions b.maker.node a.maker.node (slots_of b.maker.terms ts) start.spot.vars b c same_words same_clauses node slots walked in
    let G = λ (hs : List Term) (n : ℕ). walk_clauses p routine.variables (numbered_list (seen_exprs routine.postconditions) a.maker.node) start.spot.vars hs n in
    let P = passed start.count start.spot.hyps [] in
    let all = steps_on G a b c P enters.steps walked' in
    let W = G start.spot.hyps start.count in
    owes_as a c W.owed (spec.ensures_conditions p R (numbered_list (seen_exprs routine.postconditions) a.maker.node) V (hyps_of a) a.maker.count)
    (some_ensures p R routine.postconditions a.maker.node V (hyps_of a) a.maker.count some') (owes_steps a c (passed W.count W.hyps ([] ++ W.owed)) all)

-- ---- contracts

pub contract_owes : (p : walks.Program Node) (routine : Routine) (first : ℕ) (a z b c d : Walk) (h : Here) (vs ts : List (Option ℕ)) (words : List (List ℕ)) (clauses : List e.Expr)
    → words ≡ routine.variables → clauses ≡ routine.preconditions → vs ≡ h.vars.items → ts ≡ h.vars.items
    → z.maker.terms ≡ a.maker.terms → z.owed ≡ a.owed → z.maker.node ≡ first
    → Renews z b h (spec.enter p.setting (numbered_routine (seen_routine routine) first)) → b.maker.node ≡ z.maker.node
    → Steps b c (walk_clauses p words (numbered_list (seen_exprs clauses) b.maker.node) (slots_of b.maker.terms vs) (hyps_of b) b.maker.count)
    → c.maker.node ≡ b.maker.node + exprs_in_list (seen_exprs clauses)
    → Owes c d (spec.ensures_conditions p (numbered_routine (seen_routine routine) first) (numbered_list (seen_exprs routine.postconditions) c.maker.node) (slots_of c.maker.terms ts) (hyps_of c) c.maker.count)
    → Owes a d (spec.contract_conditions p (numbered_routine (seen_routine routine) first))
contract_owes p routine first a z b c d h vs ts words clauses same_words same_clauses same_vs same_ts terms owed node renews b_node walked c_node ensures =
    let R = numbered_routine (seen_routine routine) first in
    let start = spec.enter p.setting R in
    let pre = numbered_list (seen_exprs routine.preconditions) first in
    let vars : slots_of b.maker.terms h.vars.items ≡ start.spot.vars = ap (λ (q : Spot). q.vars) renews.spot.is in
    let hyps : hyps_of b ≡ start.spot.hyps = ap (λ (q : Spot). q.hyps) renews.spot.is in
    let here : b.maker.node ≡ first = b_node ∙ node in
    let walked' = walked_as p words routine.variables clauses routine.preconditions b.maker.node first (slots_of b.maker.terms vs) start.spot.vars b c same_words same_clauses here
    (ap (λ (l : List (Option ℕ)). slots_of b.maker.terms l) same_vs ∙ vars) walked in
    let W = λ (hs : List Term) (n : ℕ). walk_clauses p routine.variables pre start.spot.vars hs n in
    let one = W start.spot.hyps start.count in
    let to_c = steps_as b c (W (hyps_of b) b.maker.count) one (ap (λ (hs : List Term). W hs b.maker.count) hyps ∙ ap (λ (n : ℕ). W start.spot.hyps n) renews.count) walked' in
    let first_owed : Owes z c one.owed = record { sound = to_c.sound; kept = kept_then renews.kept to_c.kept; owed = to_c.owed ∙ ap (λ (os : List Owed). os ++ one.owed) renews.owed } in
    let E = λ (j : ℕ) (us : Vars) (hs : List Term) (n : ℕ). spec.ensures_conditions p R (numbered_list (seen_exprs routine.postconditions) j) us hs n in
    let behind = first + exprs_in_list (seen_exprs routine.preconditions) in
    let number : c.maker.node ≡ behind = c_node ∙ ap (λ (j : ℕ). j + exprs_in_list (seen_exprs clauses)) here ∙ ap (λ (l : List e.Expr). first + exprs_in_list (seen_exprs l)) same_clauses in
    let slots : slots_of c.maker.terms ts ≡ start.spot.vars =
    ap (λ (l : List (Option ℕ)). slots_of c.maker.terms l) same_ts ∙ slots_kept b.maker.terms c.maker.terms to_c.kept h.vars.items renews.spot.slots ∙ vars in
    let ensures' = owes_as c d (E c.maker.node (slots_of c.maker.terms ts) (hyps_of c) c.maker.count) (E behind start.spot.vars one.hyps one.count)
    (ap (λ (j : ℕ). E j (slots_of c.maker.terms ts) (hyps_of c) c.maker.count) number ∙ ap (λ (us : Vars). E behind us (hyps_of c) c.maker.count) slots
    ∙ ap (λ (hs : List Term). E behind start.spot.vars hs c.maker.count) to_c.hyps ∙ ap (λ (n : ℕ). E behind start.spot.vars one.hyps n) to_c.count) ensures in
    owes_from a z d (spec.contract_conditions p R) terms owed (owes_then z c d one.owed (E behind start.spot.vars one.hyps one.count) first_owed ensures')

-- the parameters' terms are still there
pub entry_on : (z b c : Walk) (h : Here) (r : Renewed) (p : Passed) (us : List (Option ℕ)) → Renews z b h r → Steps b c p → us ≡ h.vars.items → AreSlots c.maker.terms us
entry_on z b c h r p us renews steps same = subst (λ (l : List (Option ℕ)). AreSlots c.maker.terms l) (sym same) (slots_on b.maker.terms c.maker.terms steps.kept h.vars.items renews.spot.slots)

pub entry_here : (z b : Walk) (h : Here) (r : Renewed) (us : List (Option ℕ)) → Renews z b h r → us ≡ h.vars.items → AreSlots b.maker.terms us
entry_here z b h r us renews same = subst (λ (l : List (Option ℕ)). AreSlots b.maker.terms l) (sym same) renews.spot.slots

-- ---- ends of bodies

-- a body that gives something back
pub end_given : (b : Body Node) (o : Option Output) (out : Output) (p : Option Spot) (n : ℕ) (a : Walk) → IsSound a → o ≡ Some out → Owes a a (spec.end_of b (seen_output o) p n)
end_given b o out p n a sound some = subst (λ (x : Option Output). Owes a a (spec.end_of b (seen_output x) p n)) (sym some) (given p)
  where
    given : (q : Option Spot) → Owes a a (spec.end_of b (seen_output (Some out)) q n)
    given None = owes_nothing a sound
    given (Some q) = owes_nothing a sound

-- no path gets there
pub end_none : (b : Body Node) (o : Option Output) (end : Option Here) (p : Option Spot) (n : ℕ) (a : Walk) → IsSound a → o ≡ None → end ≡ None → IsEnd a end p → Owes a a (spec.end_of b (seen_output o) p n)
end_none b o end p n a sound none ends is =
    subst (λ (x : Option Output). Owes a a (spec.end_of b (seen_output x) p n)) (sym none) (none_there p (subst (λ (h : Option Here). IsEnd a h p) ends is))
  where
    none_there : (q : Option Spot) → IsEnd a None q → Owes a a (spec.end_of b None q n)
    none_there None is = owes_nothing a sound
    none_there (Some q) is = absurd is

-- a path gets there
pub end_some : (b : Body Node) (o : Option Output) (end : Option Here) (h : Here) (p : Option Spot) (a d : Walk) → o ≡ None → end ≡ Some h → IsEnd a end p
    → Steps a d (run.leave b b.routine.at None (hyps_of a) a.maker.count) → Owes a d (spec.end_of b (seen_output o) p a.maker.count)
end_some b o end h p a d none ends is s =
    subst (λ (x : Option Output). Owes a d (spec.end_of b (seen_output x) p a.maker.count)) (sym none) (some_there p (subst (λ (x : Option Here). IsEnd a x p) ends is))
  where
    some_there : (q : Option Spot) → IsEnd a (Some h) q → Owes a d (spec.end_of b None q a.maker.count)
    some_there None is = absurd is
    some_there (Some q) is =
        owes_as a d (run.leave b b.routine.at None (hyps_of a) a.maker.count).owed (run.leave b b.routine.at None q.hyps a.maker.count).owed
        (ap (λ (r : Spot). (run.leave b b.routine.at None r.hyps a.maker.count).owed) is.is) (owes_steps a d (run.leave b b.routine.at None (hyps_of a) a.maker.count) s)
