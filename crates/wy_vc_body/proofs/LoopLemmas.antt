-- Heads of loops.
use Rattle.std.proofs.Common.{Option, ◌≡◌, ◌<◌, ◌+◌, ◌-◌, ℕ, zero, suc, List, [], ◌∷◌, ◌++◌, length, drop, take, get_or, Bool, true, false, ◌&&◌, if◌then◌else◌, add_assoc, refl, sym, ◌∙◌, ap, subst, arith}
use Rattle.std.proofs.lemmas.List.{append-nil}
use Rattle.wy_core.specs.Types as ty
use Rattle.wy_core.specs.Types.{Ty}
use Rattle.wy_core.specs.CoreTree as tree
use Rattle.wy_core.specs.CoreTree.{Stmts}
use Rattle.wy_core.specs.CoreSeen.{seen_exprs, seen_expr}
use Rattle.wy_core.specs.declared.expressions.Expr as e
use Rattle.wy_lemmas.proofs.Lists.{front, next_of}
use Rattle.wy_term.specs.Term.{Term}
use Rattle.wy_term.specs.Nodes.{tree_at}
use Rattle.wy_sem.specs.Statements.{type_at}
use Rattle.wy_vc_exprs.specs.wy_vc_spec.Assigned.{assigns_in, bound_in}
use Rattle.wy_vc_exprs.specs.wy_vc_spec.Clauses.{Passed, passed, assume_in_type}
use Rattle.wy_vc_exprs.specs.wy_vc_spec.Making.{val_name, formula}
use Rattle.wy_vc_exprs.specs.wy_vc_spec.Numbered.{Node, numbered, numbered_list}
use Rattle.wy_vc_exprs.specs.wy_vc_spec.Owed.{Owed, assume}
use Rattle.wy_vc_exprs.specs.wy_vc_spec.Sizes.{exprs_in, exprs_in_list}
use Rattle.wy_vc_exprs.specs.wy_vc_spec.Spots.{Spot, spot, is_set}
use Rattle.wy_vc_exprs.specs.wy_vc_spec.Statements as spec
use Rattle.wy_vc_exprs.specs.wy_vc_spec.Values.{word_at, variable}
use Rattle.wy_vc_exprs.specs.wy_vc_spec.Variables.{Vars, put}
use Rattle.wy_vc_exprs.specs.wy_vc_spec.Walks as walks
use Rattle.wy_vc_exprs.specs.wy_vc_operations.Growing.{Kept, Makes}
use Rattle.wy_vc_body.specs.declared.here.Here.{Here}
use Rattle.wy_vc_exprs.specs.Slots.{AreSlots, slots_of}
use Rattle.wy_vc_exprs.specs.State.{IsSound, Steps, Walks, hyps_of, owed_of, passed_by}
use Rattle.wy_vc_exprs.specs.declared.walk.Walk.{Walk}
use Rattle.wy_vc_exprs.proofs.NumberedLemmas.{kept_then}
use Rattle.wy_vc_exprs.proofs.SlotLemmas.{slots_kept, slots_on, slots_put, are_put}
use Rattle.wy_vc_exprs.proofs.StateLemmas.{Toward, toward_step, steps_on, steps_as, steps_made, steps_none}
use Rattle.wy_vc_body.specs.Paths.{spot_of}
use Rattle.wy_vc_body.specs.Loops.{Renews, many, name_if, renewed_names, renewed_types, type_if, with_name, with_type}

-- ---- clauses that are walked

pub clause_steps : (p : walks.Program Node) (words : List (List ℕ)) (x : tree.Expr Node) (vars : Vars) (a b c d : Walk) (r f : ℕ)
    → Walks a b r (walks.walk_expr p words x vars (hyps_of a) a.maker.count)
    → Makes b.maker.terms c.maker.terms f (formula (tree_at b.maker.terms r)) → c.hyps.items ≡ b.hyps.items → c.owed.items ≡ b.owed.items → c.maker.count ≡ b.maker.count
    → Steps c d (passed c.maker.count (assume (hyps_of c) (tree_at c.maker.terms f)) [])
    → Steps a d (spec.walk_clauses p words (x ∷ []) vars (hyps_of a) a.maker.count)
clause_steps p words x vars a b c d r f walk made hyps owed count s =
    let w = walks.walk_expr p words x vars (hyps_of a) a.maker.count in
    let s' = subst (λ (t : Term). Steps c d (passed c.maker.count (assume (hyps_of c) t) [])) (made.here.is ∙ ap formula walk.is.is) s in
    let to_d = steps_on (λ hs n. passed n (assume hs (formula w.term)) []) b c d (passed c.maker.count (hyps_of b) []) (steps_made b c walk.steps.sound made.kept hyps owed) s' in
    let to_d' = steps_as b d (passed c.maker.count (assume (hyps_of b) (formula w.term)) []) (passed b.maker.count (assume (hyps_of b) (formula w.term)) []) (ap (λ (n : ℕ). passed n (assume (hyps_of b) (formula w.term)) []) count) to_d in
    steps_on (λ hs n. passed n (assume hs (formula w.term)) []) a b d (passed_by w) walk.steps to_d'

-- the clauses that are left, of which the first has this number
abbrev pub walking : walks.Program Node → List (List ℕ) → Vars → List e.Expr → ℕ → List Term → ℕ → Passed
walking p words vars es k hs n = spec.walk_clauses p words (numbered_list (seen_exprs es) k) vars hs n

pub walking_turn : (p : walks.Program Node) (words : List (List ℕ)) (vars : List (Option ℕ)) (a b c : Walk) (es : List e.Expr) (i : ℕ) (x : e.Expr) (all : Passed) → AreSlots a.maker.terms vars → i < length es → x ≡ get_or es i x
    → Toward a b (walking p words (slots_of a.maker.terms vars) (drop i es) b.maker.node (hyps_of b) b.maker.count) all
    → Steps b c (spec.walk_clauses p words (numbered (seen_expr x) b.maker.node ∷ []) (slots_of b.maker.terms vars) (hyps_of b) b.maker.count)
    → c.maker.node ≡ b.maker.node + exprs_in (seen_expr x)
    → Toward a c (walking p words (slots_of a.maker.terms vars) (drop (i + 1) es) c.maker.node (hyps_of c) c.maker.count) all
walking_turn p words vars a b c es i x all slots lt is t s node =
    let V = slots_of a.maker.terms vars in
    let X = numbered (seen_expr x) b.maker.node in
    let w = walks.walk_expr p words X V (hyps_of b) b.maker.count in
    let one = passed w.count (assume w.hyps (formula w.term)) w.owed in
    let t' = subst (λ (l : List e.Expr). Toward a b (walking p words V l b.maker.node (hyps_of b) b.maker.count) all) (next_of es i x lt is) t in
    let s1 = subst (λ (vs : Vars). Steps b c (spec.walk_clauses p words (X ∷ []) vs (hyps_of b) b.maker.count)) (slots_kept a.maker.terms b.maker.terms t.kept vars slots) s in
    let s2 = steps_as b c (passed w.count (assume w.hyps (formula w.term)) (w.owed ++ [])) one (ap (λ (os : List Owed). passed w.count (assume w.hyps (formula w.term)) os) (append-nil w.owed)) s1 in
    let next = toward_step (λ hs n. walking p words V (drop (i + 1) es) (b.maker.node + exprs_in (seen_expr x)) hs n) a b c one all t' s2 in
    subst (λ (k : ℕ). Toward a c (walking p words V (drop (i + 1) es) k (hyps_of c) c.maker.count) all) (sym node) next

-- numbers of what was passed
pub nodes_turn : (es : List e.Expr) (i : ℕ) (x : e.Expr) (k m n : ℕ) → i < length es → x ≡ get_or es i x → k + exprs_in_list (seen_exprs (drop i es)) ≡ n → m ≡ k + exprs_in (seen_expr x) → m + exprs_in_list (seen_exprs (drop (i + 1) es)) ≡ n
nodes_turn es i x k m n lt is inv node =
    ap (λ (y : ℕ). y + exprs_in_list (seen_exprs (drop (i + 1) es))) node ∙ add_assoc k (exprs_in (seen_expr x)) (exprs_in_list (seen_exprs (drop (i + 1) es)))
    ∙ sym (ap (λ (l : List e.Expr). k + exprs_in_list (seen_exprs l)) (next_of es i x lt is)) ∙ inv

-- ---- new names

-- the one, and behind it the other
pub renews_on : (F : Spot → ℕ → spec.Renewed) (a b c : Walk) (h h' : Here) (r : spec.Renewed) → Renews a b h r → Renews b c h' (F (spot_of b h) b.maker.count) → Renews a c h' (F r.spot r.count)
renews_on F a b c h h' r first second =
    let same : F (spot_of b h) b.maker.count ≡ F r.spot r.count = ap (λ (p : Spot). F p b.maker.count) first.spot.is ∙ ap (λ (n : ℕ). F r.spot n) first.count in
    subst (λ (x : spec.Renewed). Renews a c h' x) same (record {
      sound = second.sound;
      kept = kept_then first.kept second.kept;
      longer = front a.hyps.items b.hyps.items c.hyps.items first.longer second.longer;
      count = second.count;
      owed = second.owed ∙ first.owed;
      spot = second.spot;
    })

pub named_renews : (words : List (List ℕ)) (x name : ℕ) (a b : Walk) (h h' : Here) → IsSound a → AreSlots a.maker.terms h.vars.items → Makes a.maker.terms b.maker.terms name (val_name (word_at words x) a.maker.count)
    → b.maker.count ≡ suc a.maker.count → b.hyps.items ≡ a.hyps.items → b.owed.items ≡ a.owed.items → h'.vars.items ≡ put h.vars.items x name → h'.set ≡ h.set
    → Renews a b h' (with_name words x (spot_of a h) a.maker.count)
named_renews words x name a b h h' sound slots made count hyps owed vars set =
    let N = val_name (word_at words x) a.maker.count in
    let s = steps_made a b sound made.kept hyps owed in
    record {
      sound = s.sound;
      kept = made.kept;
      longer = s.longer;
      count = count;
      owed = s.owed ∙ append-nil (owed_of a);
      spot = record {
        slots = subst (λ (vs : List (Option ℕ)). AreSlots b.maker.terms vs) (sym vars) (are_put b.maker.terms h.vars.items x name (slots_on a.maker.terms b.maker.terms made.kept h.vars.items slots) made.here.within);
        is =
            ap (λ (hs : List Term). spot hs (slots_of b.maker.terms h'.vars.items) h'.set.items) s.hyps
            ∙ ap (λ (vs : Vars). spot (hyps_of a) vs h'.set.items)
            (ap (λ (vs : List (Option ℕ)). slots_of b.maker.terms vs) vars ∙ slots_put b.maker.terms h.vars.items x name
            ∙ ap (λ (vs : Vars). put vs x (tree_at b.maker.terms name)) (slots_kept a.maker.terms b.maker.terms made.kept h.vars.items slots) ∙ ap (λ (t : Term). put (slots_of a.maker.terms h.vars.items) x t) made.here.is)
            ∙ ap (λ bs. spot (hyps_of a) (put (slots_of a.maker.terms h.vars.items) x N) bs.items) set;
      };
    }

-- a type is assumed
pub typed_renews : (body : spec.Body Node) (x term : ℕ) (a b c : Walk) (h : Here) → IsSound a → AreSlots a.maker.terms h.vars.items
    → Makes a.maker.terms b.maker.terms term (variable (slots_of a.maker.terms h.vars.items) x) → b.hyps.items ≡ a.hyps.items → b.owed.items ≡ a.owed.items → b.maker.count ≡ a.maker.count
    → Steps b c (assume_in_type body.program.setting (type_at body.types x) (tree_at b.maker.terms term) (hyps_of b) b.maker.count)
    → Renews a c h (with_type body x (spot_of a h) a.maker.count)
typed_renews body x term a b c h sound slots made hyps owed count s =
    let V = slots_of a.maker.terms h.vars.items in
    let T = variable V x in
    let F = λ (hs : List Term) (n : ℕ). assume_in_type body.program.setting (type_at body.types x) T hs n in
    let s' = subst (λ (t : Term). Steps b c (assume_in_type body.program.setting (type_at body.types x) t (hyps_of b) b.maker.count)) made.here.is s in
    let all = steps_on F a b c (passed b.maker.count (hyps_of a) []) (steps_made a b sound made.kept hyps owed) s' in
    let P = F (hyps_of a) a.maker.count in
    let all' = steps_as a c (F (hyps_of a) b.maker.count) P (ap (λ (n : ℕ). F (hyps_of a) n) count) all in
    record {
      sound = all'.sound;
      kept = all'.kept;
      longer = all'.longer;
      count = all'.count;
      owed = all'.owed ∙ append-nil (owed_of a);
      spot = record {
        slots = slots_on a.maker.terms c.maker.terms all'.kept h.vars.items slots;
        is = ap (λ (hs : List Term). spot hs (slots_of c.maker.terms h.vars.items) h.set.items) all'.hyps
            ∙ ap (λ (vs : Vars). spot P.hyps vs h.set.items) (slots_kept a.maker.terms c.maker.terms all'.kept h.vars.items slots);
      };
    }

-- what may be anything is assumed nothing of
pub assume_any : (body : spec.Body Node) (t : Ty) (v : Term) (a : Walk) → IsSound a → ty.AnyTy ≡ t → Steps a a (assume_in_type body.program.setting t v (hyps_of a) a.maker.count)
assume_any body t v a sound any =
    subst (λ (u : Ty). Steps a a (assume_in_type body.program.setting u v (hyps_of a) a.maker.count)) any
    (steps_as a a (passed a.maker.count (hyps_of a) []) (assume_in_type body.program.setting ty.AnyTy v (hyps_of a) a.maker.count) (ap (λ (hs : List Term). passed a.maker.count hs []) (sym (append-nil (hyps_of a)))) (steps_none a sound))

pub assume_this : (body : spec.Body Node) (t u : Ty) (v : Term) (a b : Walk) → t ≡ u → Steps a b (assume_in_type body.program.setting t v (hyps_of a) a.maker.count) → Steps a b (assume_in_type body.program.setting u v (hyps_of a) a.maker.count)
assume_this body t u v a b same s = subst (λ (x : Ty). Steps a b (assume_in_type body.program.setting x v (hyps_of a) a.maker.count)) same s

-- ---- one variable after the other

-- so many were looked at, and with those left they are all
pub record IsRenewing (one : ℕ → Spot → ℕ → spec.Renewed) (a b : Walk) (h : Here) (x left : ℕ) (all : spec.Renewed) : Type 0 where
  pub sound : IsSound b
  pub kept : Kept a.maker.terms b.maker.terms
  pub longer : take (length a.hyps.items) b.hyps.items ≡ a.hyps.items
  pub owed : owed_of b ≡ owed_of a
  pub slots : AreSlots b.maker.terms h.vars.items
  pub node : b.maker.node ≡ a.maker.node
  pub rest : many one x left (spot_of b h) b.maker.count ≡ all

pub renewing_turn : (one : ℕ → Spot → ℕ → spec.Renewed) (a b c : Walk) (h h' : Here) (x most : ℕ) (all : spec.Renewed) → x < most → IsRenewing one a b h x (most - x) all → Renews b c h' (one x (spot_of b h) b.maker.count) → c.maker.node ≡ b.maker.node
    → IsRenewing one a c h' (x + 1) (most - (x + 1)) all
renewing_turn one a b c h h' x most all lt inv r node =
    let cut : most - x ≡ suc (most - (x + 1)) = omega arith in
    let next : x + 1 ≡ suc x = omega arith in
    let o = one x (spot_of b h) b.maker.count in
    record {
      sound = r.sound;
      kept = kept_then inv.kept r.kept;
      longer = front a.hyps.items b.hyps.items c.hyps.items inv.longer r.longer;
      owed = r.owed ∙ inv.owed;
      slots = r.spot.slots;
      node = node ∙ inv.node;
      rest =
          ap (λ (y : ℕ). many one y (most - (x + 1)) (spot_of c h') c.maker.count) next
          ∙ ap (λ (p : Spot). many one (suc x) (most - (x + 1)) p c.maker.count) r.spot.is
          ∙ ap (λ (n : ℕ). many one (suc x) (most - (x + 1)) o.spot n) r.count
          ∙ sym (ap (λ (k : ℕ). many one x k (spot_of b h) b.maker.count) cut)
          ∙ inv.rest;
    }

-- ---- by marks as by what the body assigns

names_by : (words : List (List ℕ)) (body : Stmts Node) (marks : List Bool) → ((x : ℕ) → is_set marks x ≡ assigns_in x body) → (j x : ℕ) (p : Spot) (n : ℕ) → renewed_names words marks x j p n ≡ spec.renew_vars words body x j p n
names_by words body marks are zero x p n = refl
names_by words body marks are (suc j) x p n =
    ap (λ (m : Bool). renewed_names words marks (suc x) j (name_if words x m p n).spot (name_if words x m p n).count) (are x)
    ∙ by (λ q m. names_by words body marks are j (suc x) q m) (assigns_in x body)
  where
    by : ((q : Spot) (m : ℕ) → renewed_names words marks (suc x) j q m ≡ spec.renew_vars words body (suc x) j q m) → (m : Bool) → renewed_names words marks (suc x) j (name_if words x m p n).spot (name_if words x m p n).count ≡ (if m then spec.renew_vars words body (suc x) j (record p { vars = put p.vars x (val_name (word_at words x) n) }) (suc n) else spec.renew_vars words body (suc x) j p n)
    by next true = next (record p { vars = put p.vars x (val_name (word_at words x) n) }) (suc n)
    by next false = next p n

types_by : (b : spec.Body Node) (body : Stmts Node) (marks : List Bool) → ((x : ℕ) → is_set marks x ≡ assigns_in x body) → (j x : ℕ) (p : Spot) (n : ℕ) → renewed_types b marks x j p n ≡ spec.renew_types b body x j p n
types_by b body marks are zero x p n = refl
types_by b body marks are (suc j) x p n =
    ap (λ (m : Bool). renewed_types b marks (suc x) j (type_if b x (m && is_set p.set x) p n).spot (type_if b x (m && is_set p.set x) p n).count) (are x)
    ∙ by (λ q m. types_by b body marks are j (suc x) q m) (assigns_in x body && is_set p.set x)
  where
    by : ((q : Spot) (m : ℕ) → renewed_types b marks (suc x) j q m ≡ spec.renew_types b body (suc x) j q m) → (m : Bool) → renewed_types b marks (suc x) j (type_if b x m p n).spot (type_if b x m p n).count ≡ (if m then spec.renew_types b body (suc x) j (with_type b x p n).spot (with_type b x p n).count else spec.renew_types b body (suc x) j p n)
    by next true = next (with_type b x p n).spot (with_type b x p n).count
    by next false = next p n

pub renew_by : (b : spec.Body Node) (body : Stmts Node) (marks : List Bool) (p : Spot) (n : ℕ) → ((x : ℕ) → is_set marks x ≡ assigns_in x body) → length marks ≡ bound_in body
    → renewed_types b marks 0 (length marks) (renewed_names (spec.words b) marks 0 (length marks) p n).spot (renewed_names (spec.words b) marks 0 (length marks) p n).count ≡ spec.renew b body p n
renew_by b body marks p n are count =
    let names : renewed_names (spec.words b) marks 0 (length marks) p n ≡ spec.renew_vars (spec.words b) body 0 (bound_in body) p n =
    ap (λ (j : ℕ). renewed_names (spec.words b) marks 0 j p n) count ∙ names_by (spec.words b) body marks are (bound_in body) 0 p n in
    ap (λ (r : spec.Renewed). renewed_types b marks 0 (length marks) r.spot r.count) names
    ∙ ap (λ (j : ℕ). renewed_types b marks 0 j (spec.renew_vars (spec.words b) body 0 (bound_in body) p n).spot (spec.renew_vars (spec.words b) body 0 (bound_in body) p n).count) count
    ∙ types_by b body marks are (bound_in body) 0 (spec.renew_vars (spec.words b) body 0 (bound_in body) p n).spot (spec.renew_vars (spec.words b) body 0 (bound_in body) p n).count
