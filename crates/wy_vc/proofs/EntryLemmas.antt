-- What is known where contracts and bodies begin.
use Rattle.std.proofs.Common.{◌≡◌, ◌<◌, ◌+◌, ℕ, suc, List, [], ◌∷◌, Option, Some, None, length, drop, take, get_or, map, true, refl, sym, ◌∙◌, ap, subst, arith}
use Rattle.std.proofs.lemmas.List.{append-nil}
use Rattle.wy_core.specs.CoreSeen.{seen_output, seen_param, seen_routine, seen_ty}
use Rattle.wy_core.specs.CoreTree as tree
use Rattle.wy_core.specs.declared.declarations.Output.{Output}
use Rattle.wy_core.specs.declared.declarations.Param.{Param}
use Rattle.wy_core.specs.declared.declarations.Routine.{Routine}
use Rattle.wy_lemmas.proofs.Lists.{front, next_of}
use Rattle.wy_term.specs.Term.{Term}
use Rattle.wy_term.specs.Nodes.{Plain, tree_at}
use Rattle.wy_vc_spec.specs.Clauses.{passed, assume_in_type}
use Rattle.wy_vc_spec.specs.Making.{val_name}
use Rattle.wy_vc_spec.specs.Numbered.{Node, numbered_routine}
use Rattle.wy_vc_spec.specs.Programs.{name_params, assume_params, enter, enter_result, result_word}
use Rattle.wy_vc_spec.specs.Spots.{Spot, spot, mark}
use Rattle.wy_vc_spec.specs.Statements.{Renewed}
use Rattle.wy_vc_spec.specs.Values.{Setting, variable, word_at, word_if}
use Rattle.wy_vc_spec.specs.Variables.{Vars, put, put_if}
use Rattle.wy_vc_body.specs.wy_vc_operations.Growing.{Kept, Makes}
use Rattle.wy_vc_body.specs.declared.here.Here.{Here}
use Rattle.wy_vc_body.specs.wy_vc_exprs.Numbered.{trees_of}
use Rattle.wy_vc_body.specs.wy_vc_exprs.Slots.{AreSlots, slots_of}
use Rattle.wy_vc_body.specs.wy_vc_exprs.State.{IsSound, Steps, hyps_of, owed_of}
use Rattle.wy_vc_body.specs.wy_vc_exprs.declared.walk.Walk.{Walk}
use Rattle.wy_vc_body.proofs.wy_vc_exprs_proofs.NumberedLemmas.{kept_then}
use Rattle.wy_vc_body.proofs.wy_vc_exprs_proofs.SlotLemmas.{slots_kept, slots_on, slots_put, are_put}
use Rattle.wy_vc_body.proofs.wy_vc_exprs_proofs.StateLemmas.{steps_on, steps_as, steps_made, steps_none}
use Rattle.wy_vc_body.proofs.wy_vc_exprs_proofs.GivenLemmas.{slots_put_if, are_put_if, output_typed}
use Rattle.wy_vc_body.specs.Paths.{spot_of}
use Rattle.wy_vc_body.specs.Loops.{Renews}
use Rattle.wy_vc_body.proofs.LoopLemmas.{renews_on}
use Rattle.wy_vc.specs.Entering.{Enters}

-- ---- parameters

-- a parameter takes a new name, and has a value
pub param_named : (words : List (List ℕ)) (x : tree.Param) (name : ℕ) (a b : Walk) (h h' : Here) → IsSound a → AreSlots a.maker.terms h.vars.items
    → Makes a.maker.terms b.maker.terms name (val_name (word_at words x.variable) a.maker.count) → b.maker.count ≡ suc a.maker.count → b.hyps.items ≡ a.hyps.items → b.owed.items ≡ a.owed.items
    → h'.vars.items ≡ put h.vars.items x.variable name → h'.set.items ≡ mark h.set.items x.variable true
    → Renews a b h' (name_params words (x ∷ []) (spot_of a h) a.maker.count)
param_named words x name a b h h' sound slots made count hyps owed vars set =
    let N = val_name (word_at words x.variable) a.maker.count in
    let s = steps_made a b sound made.kept hyps owed in
    let V = slots_of a.maker.terms h.vars.items in
    record {
      sound = s.sound;
      kept = made.kept;
      longer = s.longer;
      count = count;
      owed = s.owed ∙ append-nil (owed_of a);
      spot = record {
        slots = subst (λ (vs : List (Option ℕ)). AreSlots b.maker.terms vs) (sym vars) (are_put b.maker.terms h.vars.items x.variable name (slots_on a.maker.terms b.maker.terms made.kept h.vars.items slots) made.here.within);
        is =
            ap (λ (hs : List Term). spot hs (slots_of b.maker.terms h'.vars.items) h'.set.items) s.hyps
            ∙ ap (λ (vs : Vars). spot (hyps_of a) vs h'.set.items)
            (ap (λ (vs : List (Option ℕ)). slots_of b.maker.terms vs) vars ∙ slots_put b.maker.terms h.vars.items x.variable name
            ∙ ap (λ (vs : Vars). put vs x.variable (tree_at b.maker.terms name)) (slots_kept a.maker.terms b.maker.terms made.kept h.vars.items slots) ∙ ap (λ (t : Term). put V x.variable t) made.here.is)
            ∙ ap (λ bs. spot (hyps_of a) (put V x.variable N) bs) set;
      };
    }

-- a parameter is of its type
pub param_typed : (s : Setting Node) (x : tree.Param) (term : ℕ) (a b c : Walk) (h : Here) → IsSound a → AreSlots a.maker.terms h.vars.items
    → Makes a.maker.terms b.maker.terms term (variable (slots_of a.maker.terms h.vars.items) x.variable) → b.hyps.items ≡ a.hyps.items → b.owed.items ≡ a.owed.items → b.maker.count ≡ a.maker.count
    → Steps b c (assume_in_type s x.ty (tree_at b.maker.terms term) (hyps_of b) b.maker.count)
    → Renews a c h (assume_params s (x ∷ []) (spot_of a h) a.maker.count)
param_typed s x term a b c h sound slots made hyps owed count step =
    let V = slots_of a.maker.terms h.vars.items in
    let T = variable V x.variable in
    let F = λ (hs : List Term) (n : ℕ). assume_in_type s x.ty T hs n in
    let step' = subst (λ (t : Term). Steps b c (assume_in_type s x.ty t (hyps_of b) b.maker.count)) made.here.is step in
    let all = steps_on F a b c (passed b.maker.count (hyps_of a) []) (steps_made a b sound made.kept hyps owed) step' in
    let P = F (hyps_of a) a.maker.count in
    let all' = steps_as a c (F (hyps_of a) b.maker.count) P (ap (λ (n : ℕ). F (hyps_of a) n) count) all in
    record {
      sound = all'.sound;
      kept = all'.kept;
      longer = all'.longer;
      count = all'.count;
      owed = all'.owed ∙ append-nil (owed_of a);
      spot = record {
        slots = slots_on a.maker.terms c.maker.terms all'.kept h.vars.items slots;
        is = ap (λ (hs : List Term). spot hs (slots_of c.maker.terms h.vars.items) h.set.items) all'.hyps
            ∙ ap (λ (vs : Vars). spot P.hyps vs h.set.items) (slots_kept a.maker.terms c.maker.terms all'.kept h.vars.items slots);
      };
    }

-- ---- one parameter after the other

-- what is left to do comes to all
pub record IsEntering (a b : Walk) (h : Here) (rest all : Renewed) : Type 0 where
  pub sound : IsSound b
  pub kept : Kept a.maker.terms b.maker.terms
  pub longer : take (length a.hyps.items) b.hyps.items ≡ a.hyps.items
  pub owed : owed_of b ≡ owed_of a
  pub slots : AreSlots b.maker.terms h.vars.items
  pub node : b.maker.node ≡ a.maker.node
  pub is : rest ≡ all

entering_step : (F : Spot → ℕ → Renewed) (a b c : Walk) (h h' : Here) (one all : Renewed) → IsEntering a b h (F one.spot one.count) all → Renews b c h' one → c.maker.node ≡ b.maker.node → IsEntering a c h' (F (spot_of c h') c.maker.count) all
entering_step F a b c h h' one all inv r node = record {
  sound = r.sound;
  kept = kept_then inv.kept r.kept;
  longer = front a.hyps.items b.hyps.items c.hyps.items inv.longer r.longer;
  owed = r.owed ∙ inv.owed;
  slots = r.spot.slots;
  node = node ∙ inv.node;
  is = ap (λ (p : Spot). F p c.maker.count) r.spot.is ∙ ap (λ (n : ℕ). F one.spot n) r.count ∙ inv.is;
}

-- the parameters that are left to be named, and those that are left to be of their types
abbrev pub naming : List (List ℕ) → List Param → Spot → ℕ → Renewed
naming words ps p n = name_params words (map seen_param ps) p n

abbrev pub typing : Setting Node → List Param → Spot → ℕ → Renewed
typing s ps p n = assume_params s (map seen_param ps) p n

pub naming_turn : (words : List (List ℕ)) (a b c : Walk) (h h' : Here) (ps : List Param) (i : ℕ) (x : Param) (all : Renewed) → i < length ps → x ≡ get_or ps i x
    → IsEntering a b h (naming words (drop i ps) (spot_of b h) b.maker.count) all
    → Renews b c h' (name_params words (seen_param x ∷ []) (spot_of b h) b.maker.count) → c.maker.node ≡ b.maker.node
    → IsEntering a c h' (naming words (drop (i + 1) ps) (spot_of c h') c.maker.count) all
naming_turn words a b c h h' ps i x all lt is inv r node =
    let inv' = subst (λ (l : List Param). IsEntering a b h (naming words l (spot_of b h) b.maker.count) all) (next_of ps i x lt is) inv in
    entering_step (λ p n. naming words (drop (i + 1) ps) p n) a b c h h' (name_params words (seen_param x ∷ []) (spot_of b h) b.maker.count) all inv' r node

pub typing_turn : (s : Setting Node) (a b c : Walk) (h : Here) (ps : List Param) (i : ℕ) (x : Param) (all : Renewed) → i < length ps → x ≡ get_or ps i x
    → IsEntering a b h (typing s (drop i ps) (spot_of b h) b.maker.count) all
    → Renews b c h (assume_params s (seen_param x ∷ []) (spot_of b h) b.maker.count) → c.maker.node ≡ b.maker.node
    → IsEntering a c h (typing s (drop (i + 1) ps) (spot_of c h) c.maker.count) all
typing_turn s a b c h ps i x all lt is inv r node =
    let inv' = subst (λ (l : List Param). IsEntering a b h (typing s l (spot_of b h) b.maker.count) all) (next_of ps i x lt is) inv in
    entering_step (λ p n. typing s (drop (i + 1) ps) p n) a b c h h (assume_params s (seen_param x ∷ []) (spot_of b h) b.maker.count) all inv' r node

-- ---- where a contract or a body begins

-- nothing is known
nothing_known : (a : Walk) (h : Here) → a.hyps.items ≡ [] → h.vars.items ≡ [] → h.set.items ≡ [] → spot_of a h ≡ spot [] [] []
nothing_known a h hyps vars set =
    ap (λ (hs : List ℕ). spot (trees_of a.maker.terms hs) (slots_of a.maker.terms h.vars.items) h.set.items) hyps
    ∙ ap (λ (vs : List (Option ℕ)). spot [] (slots_of a.maker.terms vs) h.set.items) vars
    ∙ ap (λ bs. spot [] [] bs) set

pub entered : (s : Setting Node) (routine : Routine) (k : ℕ) (a b c : Walk) (h h' : Here) (words : List (List ℕ)) (params : List Param)
    → words ≡ routine.variables → params ≡ routine.params
    → a.hyps.items ≡ [] → a.maker.count ≡ 0 → h.vars.items ≡ [] → h.set.items ≡ []
    → Renews a b h' (name_params words (map seen_param params) (spot_of a h) a.maker.count)
    → Renews b c h' (assume_params s (map seen_param params) (spot_of b h') b.maker.count)
    → Renews a c h' (enter s (numbered_routine (seen_routine routine) k))
entered s routine k a b c h h' words params same_words same_params hyps count vars set first second =
    let N = λ (ws : List (List ℕ)) (ps : List Param) (p : Spot) (n : ℕ). name_params ws (map seen_param ps) p n in
    let start : N words params (spot_of a h) a.maker.count ≡ N routine.variables routine.params (spot [] [] []) 0 =
    ap (λ (ws : List (List ℕ)). N ws params (spot_of a h) a.maker.count) same_words
    ∙ ap (λ (ps : List Param). N routine.variables ps (spot_of a h) a.maker.count) same_params
    ∙ ap (λ (p : Spot). N routine.variables routine.params p a.maker.count) (nothing_known a h hyps vars set)
    ∙ ap (λ (n : ℕ). N routine.variables routine.params (spot [] [] []) n) count in
    let first' = subst (λ (r : Renewed). Renews a b h' r) start first in
    let second' = subst (λ (ps : List Param). Renews b c h' (assume_params s (map seen_param ps) (spot_of b h') b.maker.count)) same_params second in
    renews_on (λ p n. assume_params s (map seen_param routine.params) p n) a b c h' h' (N routine.variables routine.params (spot [] [] []) 0) first' second'

-- there are no variables yet
pub no_slots : (nodes : List Plain) (vs : List (Option ℕ)) → vs ≡ [] → AreSlots nodes vs
no_slots nodes vs is = subst (λ (l : List (Option ℕ)). AreSlots nodes l) (sym is) tt

-- ---- results

-- nothing is given back
pub nothing_entered : (s : Setting Node) (routine : Routine) (k : ℕ) (a : Walk) (o : Option Output) (vs : List (Option ℕ)) → IsSound a → AreSlots a.maker.terms vs → o ≡ None
    → Enters a a vs (enter_result s (numbered_routine (seen_routine routine) k) (seen_output o) (slots_of a.maker.terms vs) (hyps_of a) a.maker.count)
nothing_entered s routine k a o vs sound slots none =
    subst (λ (x : Option Output). Enters a a vs (enter_result s (numbered_routine (seen_routine routine) k) (seen_output x) (slots_of a.maker.terms vs) (hyps_of a) a.maker.count)) (sym none)
    (record { steps = steps_none a sound; slots = slots; vars = refl })

-- a result
pub output_entered : (s : Setting Node) (routine : Routine) (out : Output) (k : ℕ) (vs us : List (Option ℕ)) (a b c : Walk) (r : ℕ) (words : List (List ℕ)) → words ≡ routine.variables → IsSound a → AreSlots a.maker.terms vs
    → Makes a.maker.terms b.maker.terms r (val_name (word_if words out.variable result_word) a.maker.count) → b.hyps.items ≡ a.hyps.items → b.owed.items ≡ a.owed.items → b.maker.count ≡ suc a.maker.count
    → Steps b c (assume_in_type s (seen_ty out.ty) (tree_at b.maker.terms r) (hyps_of b) b.maker.count)
    → us ≡ put_if vs out.variable r
    → Enters a c us (enter_result s (numbered_routine (seen_routine routine) k) (seen_output (Some out)) (slots_of a.maker.terms vs) (hyps_of a) a.maker.count)
output_entered s routine out k vs us a b c r words same_words sound slots made hyps owed count step vars =
    let N = val_name (word_if routine.variables out.variable result_word) a.maker.count in
    let V = slots_of a.maker.terms vs in
    let made' = subst (λ (ws : List (List ℕ)). Makes a.maker.terms b.maker.terms r (val_name (word_if ws out.variable result_word) a.maker.count)) same_words made in
    let all = output_typed s (seen_ty out.ty) N a b c r sound made' hyps owed count step in
    let within : r < length c.maker.terms = let w = made'.here.within in let g = step.kept.grows in omega (arith, w, g) in
    let here : tree_at c.maker.terms r ≡ N = step.kept.trees r made'.here.within ∙ made'.here.is in
    record {
      steps = all;
      slots = subst (λ (l : List (Option ℕ)). AreSlots c.maker.terms l) (sym vars) (are_put_if c.maker.terms vs out.variable r (slots_on a.maker.terms c.maker.terms all.kept vs slots) within);
      vars = ap (λ (l : List (Option ℕ)). slots_of c.maker.terms l) vars ∙ slots_put_if c.maker.terms vs out.variable r
          ∙ ap (λ (l : Vars). put_if l out.variable (tree_at c.maker.terms r)) (slots_kept a.maker.terms c.maker.terms all.kept vs slots)
          ∙ ap (λ (t : Term). put_if V out.variable t) here;
    }
