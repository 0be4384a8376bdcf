-- Clauses that are owed or assumed, one after the other.
use Rattle.std.proofs.Common.{rules, Option, ◌≡◌, ◌<◌, ◌≤◌, ◌+◌, ℕ, List, [], ◌∷◌, ◌++◌, true, false, length, drop, get_or, refl, ◌∙◌, sym, ap, subst, arith}
use Rattle.std.proofs.lemmas.List.{map-append, drop_more, drop_all}
use Rattle.std.proofs.lemmas.List.Elements.{All-append}
use Rattle.wy_core.specs.CoreTree.{Expr, NullExpr, BoolExpr, IntExpr, VarExpr, CallExpr, NegExpr, NotExpr, LenExpr, BinaryExpr, IsExpr, IndexExpr, FieldExpr, ListExpr, RepeatExpr, RecordExpr, QuantExpr}
use Rattle.wy_core.specs.CoreSeen.{seen_expr, seen_exprs}
use Rattle.wy_core.specs.declared.expressions.Expr as e
use Rattle.wy_core.specs.declared.expressions.ExprKind as kinds
use Rattle.wy_core.specs.declared.expressions.Op.{Op}
use Rattle.wy_core.specs.declared.expressions.Op.TheVariants as sign
use Rattle.wy_term.specs.declared.cond.CondKind.{CondKind}
use Rattle.wy_term.specs.Term.{Term}
use Rattle.wy_term.specs.Nodes.{Plain, tree_at}
use Rattle.wy_vc_terms.specs.wy_vc_spec.Numbered.{Node, numbered, numbered_list}
use Rattle.wy_vc_terms.specs.wy_vc_spec.Sizes.{exprs_in, exprs_in_list}
use Rattle.wy_vc_terms.specs.wy_vc_spec.Owed.{assume, assume_all, owe}
use Rattle.wy_vc_terms.specs.wy_vc_spec.Clauses.{Passed, passed, after, pass_goals, both_goals, one_goal, goals, owe_clauses, assume_clauses}
use Rattle.wy_vc_terms.specs.wy_vc_spec.Values.{Setting, Valued, ValuedAll, clause_formula, named_in}
use Rattle.wy_vc_terms.specs.wy_vc_spec.Variables.{Vars}
use Rattle.wy_vc_operations.specs.Growing.{Kept, AreAt, AreSlotsAt}
use Rattle.wy_vc_terms.specs.declared.maker.Maker.{Maker}
use Rattle.wy_vc_terms.specs.Made.{IsMade}
use Rattle.wy_vc_exprs.specs.GoalsMade.{AreMade}
use Rattle.wy_vc_exprs.specs.Numbered.{trees_of}
use Rattle.wy_vc_exprs.specs.Slots.{AreSlots, slots_of}
use Rattle.wy_vc_exprs.specs.State.{IsSound, Steps, hyps_of}
use Rattle.wy_vc_exprs.specs.declared.walk.Walk.{Walk}
use Rattle.wy_vc_exprs.proofs.NumberedLemmas.{kept_then}
use Rattle.wy_vc_exprs.proofs.SlotLemmas.{slots_kept, slots_on}
use Rattle.wy_vc_exprs.proofs.StateLemmas.{Toward, toward_begin, toward_step, toward_end, steps_made, steps_on, steps_as, are_one, are_kept}
use Rattle.wy_vc_exprs.specs.Conjunctions.{is_conjunction, clause_assumed}

-- ---- goals of a clause

-- a clause that is no `&&` has one goal
pub goals_one : (s : Setting Node) (words : List (List ℕ)) (e : Expr ℕ) (k : ℕ) (vars : Vars) (n : ℕ) → is_conjunction e ≡ false → goals s words (numbered e k) vars n ≡ one_goal (clause_formula s (named_in s) words (numbered e k) vars n)
goals_one s words (NullExpr at) k vars n no_and = refl
goals_one s words (BoolExpr at b) k vars n no_and = refl
goals_one s words (IntExpr at z) k vars n no_and = refl
goals_one s words (VarExpr at x) k vars n no_and = refl
goals_one s words (CallExpr at f args) k vars n no_and = refl
goals_one s words (NegExpr at a) k vars n no_and = refl
goals_one s words (NotExpr at a) k vars n no_and = refl
goals_one s words (LenExpr at a) k vars n no_and = refl
goals_one s words (BinaryExpr at sign.Add a b) k vars n no_and = refl
goals_one s words (BinaryExpr at sign.Sub a b) k vars n no_and = refl
goals_one s words (BinaryExpr at sign.Mul a b) k vars n no_and = refl
goals_one s words (BinaryExpr at sign.Div a b) k vars n no_and = refl
goals_one s words (BinaryExpr at sign.Mod a b) k vars n no_and = refl
goals_one s words (BinaryExpr at sign.Equal a b) k vars n no_and = refl
goals_one s words (BinaryExpr at sign.Less a b) k vars n no_and = refl
goals_one s words (BinaryExpr at sign.LessEqual a b) k vars n no_and = refl
goals_one s words (BinaryExpr at sign.Greater a b) k vars n no_and = refl
goals_one s words (BinaryExpr at sign.GreaterEqual a b) k vars n no_and = refl
goals_one s words (BinaryExpr at sign.And a b) k vars n no_and = cc
goals_one s words (BinaryExpr at sign.Or a b) k vars n no_and = refl
goals_one s words (IsExpr at a t) k vars n no_and = refl
goals_one s words (IndexExpr at a b) k vars n no_and = refl
goals_one s words (FieldExpr at a name) k vars n no_and = refl
goals_one s words (ListExpr at items) k vars n no_and = refl
goals_one s words (RepeatExpr at a b) k vars n no_and = refl
goals_one s words (RecordExpr at fs) k vars n no_and = refl
goals_one s words (QuantExpr at all x a b c) k vars n no_and = refl

-- of `a && b` those of a and then those of b
pub goals_both : (s : Setting Node) (words : List (List ℕ)) (at : ℕ) (o : Op) (a b : Expr ℕ) (k : ℕ) (vars : Vars) (n : ℕ) → is_conjunction (BinaryExpr at o a b) ≡ true → goals s words (numbered (BinaryExpr at o a b) k) vars n ≡ both_goals (goals s words (numbered a k) vars n) (goals s words (numbered b (k + exprs_in a)) vars)
goals_both s words at sign.Add a b k vars n both = cc
goals_both s words at sign.Sub a b k vars n both = cc
goals_both s words at sign.Mul a b k vars n both = cc
goals_both s words at sign.Div a b k vars n both = cc
goals_both s words at sign.Mod a b k vars n both = cc
goals_both s words at sign.Equal a b k vars n both = cc
goals_both s words at sign.Less a b k vars n both = cc
goals_both s words at sign.LessEqual a b k vars n both = cc
goals_both s words at sign.Greater a b k vars n both = cc
goals_both s words at sign.GreaterEqual a b k vars n both = cc
goals_both s words at sign.And a b k vars n both = refl
goals_both s words at sign.Or a b k vars n both = cc

-- the numbers of these, and behind them of those
are_append : (nodes : List Plain) (ks ls : List ℕ) (ts us : List Term) → AreAt nodes ks ts → AreAt nodes ls us → AreAt nodes (ks ++ ls) (ts ++ us)
are_append nodes ks ls ts us x y = record {
  within = All-append (λ k. k < length nodes) ks ls x.within y.within;
  are = map-append (tree_at nodes) ks ls ∙ ap (λ (vs : List Term). vs ++ trees_of nodes ls) x.are ∙ ap (λ (vs : List Term). ts ++ vs) y.are;
}

-- one goal is made
pub made_one : (a b : Maker) (r : ℕ) (ks : List ℕ) (v : Valued) → ks ≡ r ∷ [] → IsMade a b r v → AreMade a b ks (one_goal v)
made_one a b r ks v is m = record {
  terms = subst (λ (xs : List ℕ). AreAt b.terms xs (v.term ∷ [])) (sym is) (are_one b.terms r v.term m.term.here);
  kept = m.term.kept;
  names = m.names;
}

-- the goals of both sides
pub made_both : (a b c d : Maker) (ks ls ms : List ℕ) (v : ValuedAll) (W : ℕ → ValuedAll) → AreMade a b ks v → AreMade b c ls (W b.count) → d.terms ≡ c.terms → d.count ≡ c.count → ms ≡ ks ++ ls → AreMade a d ms (both_goals v W)
made_both a b c d ks ls ms v W first second terms count is =
    let second' = subst (λ (n : ℕ). AreMade b c ls (W n)) first.names second in
    record {
      terms = subst (λ (xs : List ℕ). AreAt d.terms xs (v.terms ++ (W v.count).terms)) (sym is) (subst (λ (ns : List Plain). AreAt ns (ks ++ ls) (v.terms ++ (W v.count).terms)) (sym terms)
          (are_append c.terms ks ls v.terms (W v.count).terms (are_kept b.terms c.terms ks v.terms second'.kept first.terms) second'.terms));
      kept = subst (λ (ns : List Plain). Kept a.terms ns) (sym terms) (kept_then first.kept second'.kept);
      names = count ∙ second'.names;
    }

-- the slots name the same terms where more terms are made
pub slots_at_kept : (old new : List Plain) (vs us : List (Option ℕ)) (slots : Vars) → us ≡ vs → Kept old new → AreSlotsAt old vs slots → AreSlotsAt new us slots
slots_at_kept old new vs us slots same kept at =
    subst (λ (xs : List (Option ℕ)). AreSlotsAt new xs slots) (sym same) (record { within = slots_on old new kept vs at.within; are = slots_kept old new kept vs at.within ∙ at.are })

-- ---- clauses owed

-- the goals of a clause are owed
pub clause_owed : (kind : CondKind) (at : ℕ) (a b c : Walk) (xs ks : List ℕ) (v : ValuedAll) → IsSound a → xs ≡ ks → AreMade a.maker b.maker ks v → b.hyps.items ≡ a.hyps.items → b.owed.items ≡ a.owed.items
    → Steps b c (passed b.maker.count (assume_all (hyps_of b) (trees_of b.maker.terms xs)) (owe kind at (hyps_of b) (trees_of b.maker.terms xs)))
    → Steps a c (pass_goals kind at v (hyps_of a))
clause_owed kind at a b c xs ks v sound same made hyps owed s =
    let s' = subst (λ (us : List Term). Steps b c (passed b.maker.count (assume_all (hyps_of b) us) (owe kind at (hyps_of b) us))) (ap (λ (ys : List ℕ). trees_of b.maker.terms ys) same ∙ made.terms.are) s in
    steps_as a c (passed b.maker.count (assume_all (hyps_of a) v.terms) (owe kind at (hyps_of a) v.terms)) (pass_goals kind at v (hyps_of a))
    (ap (λ (n : ℕ). passed n (assume_all (hyps_of a) v.terms) (owe kind at (hyps_of a) v.terms)) made.names)
    (steps_on (λ hs n. passed n (assume_all hs v.terms) (owe kind at hs v.terms)) a b c (passed b.maker.count (hyps_of a) []) (steps_made a b sound made.kept hyps owed) s')

-- one goal is owed
pub goal_owed : (kind : CondKind) (at : ℕ) (a b c : Walk) (r : ℕ) (v : Valued) → IsSound a → IsMade a.maker b.maker r v → b.hyps.items ≡ a.hyps.items → b.owed.items ≡ a.owed.items
    → Steps b c (passed b.maker.count (assume (hyps_of b) (tree_at b.maker.terms r)) (owe kind at (hyps_of b) (tree_at b.maker.terms r ∷ [])))
    → Steps a c (pass_goals kind at (one_goal v) (hyps_of a))
goal_owed kind at a b c r v sound made hyps owed s = clause_owed kind at a b c (r ∷ []) (r ∷ []) (one_goal v) sound refl (made_one a.maker b.maker r (r ∷ []) v refl made) hyps owed s

-- a formula is assumed
pub formula_assumed : (a b c : Walk) (r : ℕ) (v : Valued) → IsSound a → IsMade a.maker b.maker r v → b.hyps.items ≡ a.hyps.items → b.owed.items ≡ a.owed.items
    → Steps b c (passed b.maker.count (assume (hyps_of b) (tree_at b.maker.terms r)) [])
    → Steps a c (clause_assumed v (hyps_of a))
formula_assumed a b c r v sound made hyps owed s =
    let s' = subst (λ (u : Term). Steps b c (passed b.maker.count (assume (hyps_of b) u) [])) made.term.here.is s in
    steps_as a c (passed b.maker.count (assume (hyps_of a) v.term) []) (clause_assumed v (hyps_of a))
    (ap (λ (n : ℕ). passed n (assume (hyps_of a) v.term) []) made.names)
    (steps_on (λ hs n. passed n (assume hs v.term) []) a b c (passed b.maker.count (hyps_of a) []) (steps_made a b sound made.term.kept hyps owed) s')

-- ---- one clause more

-- what is left of clauses that are owed
abbrev pub owing_clauses : Setting Node → CondKind → ℕ → List (List ℕ) → List (Expr ℕ) → ℕ → Vars → List Term → ℕ → Passed
owing_clauses s kind at words es k vars hyps n = owe_clauses s kind at words (numbered_list es k) vars hyps n

-- what is left of clauses that are assumed
abbrev pub assuming_clauses : Setting Node → List (List ℕ) → List (Expr ℕ) → ℕ → Vars → List Term → ℕ → Passed
assuming_clauses s words es k vars hyps n = assume_clauses s words (numbered_list es k) vars hyps n

-- what is done with clauses, by the number of their first expression, the terms of variables, what is assumed and how many names are made
abbrev pub Doing : Type 0
Doing = List (Expr ℕ) → ℕ → Vars → List Term → ℕ → Passed

-- what is left comes to all
pub record Left (F : Doing) (a b : Walk) (vs us : List (Option ℕ)) (left all : List (Expr ℕ)) : Type 0 where
  pub toward : Toward a b (F left b.maker.node (slots_of a.maker.terms vs) (hyps_of b) b.maker.count) (F all a.maker.node (slots_of a.maker.terms vs) (hyps_of a) a.maker.count)
  pub node : b.maker.node + exprs_in_list left ≡ a.maker.node + exprs_in_list all
  pub vars : us ≡ vs
  pub slots : AreSlots b.maker.terms us

pub left_begin : (F : Doing) (a : Walk) (vs : List (Option ℕ)) (all : List (Expr ℕ)) → IsSound a → AreSlots a.maker.terms vs → Left F a a vs vs all all
left_begin F a vs all sound slots = record {
  toward = toward_begin a (F all a.maker.node (slots_of a.maker.terms vs) (hyps_of a) a.maker.count) sound;
  node = refl;
  vars = refl;
  slots = slots;
}

-- what is done with one clause, and then with the others
abbrev pub IsOneByOne : Doing → (Expr ℕ → ℕ → Vars → List Term → ℕ → Passed) → Type 0
IsOneByOne F P = (e : Expr ℕ) (rest : List (Expr ℕ)) (k : ℕ) (vars : Vars) (hyps : List Term) (n : ℕ) → F (e ∷ rest) k vars hyps n ≡ after (P e k vars hyps n) (F rest (k + exprs_in e) vars (P e k vars hyps n).hyps (P e k vars hyps n).count)

node_turn : (b c a : ℕ) (e : Expr ℕ) (left rest all : List (Expr ℕ)) → left ≡ e ∷ rest → c ≡ b + exprs_in e → b + exprs_in_list left ≡ a + exprs_in_list all → c + exprs_in_list rest ≡ a + exprs_in_list all
node_turn b c a e left rest all cut node l = let more : exprs_in_list left ≡ exprs_in e + exprs_in_list rest = ap (λ (xs : List (Expr ℕ)). exprs_in_list xs) cut in omega (arith, node, l, more)

pub left_turn : (F : Doing) (P : Expr ℕ → ℕ → Vars → List Term → ℕ → Passed) → IsOneByOne F P → (a b c : Walk) (vs us ws : List (Option ℕ)) (e : Expr ℕ) (left rest all : List (Expr ℕ))
    → left ≡ e ∷ rest → AreSlots a.maker.terms vs → Left F a b vs us left all
    → Steps b c (P e b.maker.node (slots_of b.maker.terms us) (hyps_of b) b.maker.count) → c.maker.node ≡ b.maker.node + exprs_in e → ws ≡ us
    → Left F a c vs ws rest all
left_turn F P one a b c vs us ws e left rest all cut slots l step node same =
    let V = slots_of a.maker.terms vs in
    let k = b.maker.node in
    let goal = F all a.maker.node V (hyps_of a) a.maker.count in
    let p = P e k V (hyps_of b) b.maker.count in
    let t = subst (λ (x : Passed). Toward a b x goal) (ap (λ (xs : List (Expr ℕ)). F xs k V (hyps_of b) b.maker.count) cut ∙ one e rest k V (hyps_of b) b.maker.count) l.toward in
    let step' = subst (λ (xs : Vars). Steps b c (P e k xs (hyps_of b) b.maker.count)) (ap (λ (xs : List (Option ℕ)). slots_of b.maker.terms xs) l.vars ∙ slots_kept a.maker.terms b.maker.terms l.toward.kept vs slots) step in
    let done = toward_step (λ hs n. F rest (k + exprs_in e) V hs n) a b c p goal t step' in
    record {
      toward = subst (λ (j : ℕ). Toward a c (F rest j V (hyps_of c) c.maker.count) goal) (sym node) done;
      node = node_turn b.maker.node c.maker.node a.maker.node e left rest all cut node l.node;
      vars = same ∙ l.vars;
      slots = subst (λ (xs : List (Option ℕ)). AreSlots c.maker.terms xs) (sym same) (slots_on b.maker.terms c.maker.terms step.kept us l.slots);
    }

pub left_end : (F : Doing) → ((k : ℕ) (vars : Vars) (hyps : List Term) (n : ℕ) → F [] k vars hyps n ≡ passed n hyps []) → (a b : Walk) (vs us : List (Option ℕ)) (left all : List (Expr ℕ)) → left ≡ [] → Left F a b vs us left all
    → Steps a b (F all a.maker.node (slots_of a.maker.terms vs) (hyps_of a) a.maker.count)
left_end F none a b vs us left all past l =
    let V = slots_of a.maker.terms vs in
    let goal = F all a.maker.node V (hyps_of a) a.maker.count in
    toward_end a b goal (subst (λ (x : Passed). Toward a b x goal) (ap (λ (xs : List (Expr ℕ)). F xs b.maker.node V (hyps_of b) b.maker.count) past ∙ none b.maker.node V (hyps_of b) b.maker.count) l.toward)

pub left_node : (F : Doing) (a b : Walk) (vs us : List (Option ℕ)) (left all : List (Expr ℕ)) → left ≡ [] → Left F a b vs us left all → b.maker.node ≡ a.maker.node + exprs_in_list all
left_node F a b vs us left all past l = let none = ap (λ (xs : List (Expr ℕ)). exprs_in_list xs) past in omega (arith, l.node, none)

-- clauses as they were read
pub next_seen : (xs : List e.Expr) (i : ℕ) (x : e.Expr) → i < length xs → x ≡ get_or xs i x → seen_exprs (drop i xs) ≡ seen_expr x ∷ seen_exprs (drop (i + 1) xs)
next_seen xs i x lt is = ap (λ (ys : List e.Expr). seen_exprs ys) (drop_more xs i x lt ∙ ap (λ (y : e.Expr). y ∷ drop (i + 1) xs) (sym is))

pub none_seen : (xs : List e.Expr) (i : ℕ) → length xs ≤ i → seen_exprs (drop i xs) ≡ []
none_seen xs i past = ap (λ (ys : List e.Expr). seen_exprs ys) (drop_all i xs past)

pub owed_one_by_one : (s : Setting Node) (kind : CondKind) (at : ℕ) (words : List (List ℕ)) → IsOneByOne (owing_clauses s kind at words) (λ e k vars hyps n. pass_goals kind at (goals s words (numbered e k) vars n) hyps)
owed_one_by_one s kind at words e rest k vars hyps n = refl

pub assumed_one_by_one : (s : Setting Node) (words : List (List ℕ)) → IsOneByOne (assuming_clauses s words) (λ e k vars hyps n. clause_assumed (clause_formula s (named_in s) words (numbered e k) vars n) hyps)
assumed_one_by_one s words e rest k vars hyps n = refl

-- ---- the goals of a clause as it was read

binary_by_value : (x : e.Expr) (o : Op) (a b : e.Expr) → x.kind ≡ kinds.Binary o a b → seen_expr x ≡ BinaryExpr x.at o (seen_expr a) (seen_expr b)
binary_by_value x o a b is = search (rules, e.the_lemmas)

pub binary_read : (x : e.Expr) (o : Op) (a a' b b' : e.Expr) → x.kind ≡ kinds.Binary o a b → a' ≡ a → b' ≡ b → seen_expr x ≡ BinaryExpr x.at o (seen_expr a') (seen_expr b')
binary_read x o a a' b b' is same_a same_b =
    binary_by_value x o a b is ∙ ap (λ (z : e.Expr). BinaryExpr x.at o (seen_expr z) (seen_expr b)) (sym same_a) ∙ ap (λ (z : e.Expr). BinaryExpr x.at o (seen_expr a') (seen_expr z)) (sym same_b)

pub one_made : (s : Setting Node) (words : List (List ℕ)) (x : Expr ℕ) (k : ℕ) (slots : Vars) (a b : Maker) (ks : List ℕ) → is_conjunction x ≡ false → AreMade a b ks (one_goal (clause_formula s (named_in s) words (numbered x k) slots a.count)) → AreMade a b ks (goals s words (numbered x k) slots a.count)
one_made s words x k slots a b ks no_and m = subst (λ (v : ValuedAll). AreMade a b ks v) (sym (goals_one s words x k slots a.count no_and)) m

pub both_made : (s : Setting Node) (words : List (List ℕ)) (x : Expr ℕ) (at : ℕ) (o : Op) (e f : Expr ℕ) (k j n : ℕ) (slots : Vars) (a b c d : Maker) (ks ls ms : List ℕ) → x ≡ BinaryExpr at o e f → is_conjunction x ≡ true
    → AreMade a b ks (goals s words (numbered e k) slots a.count) → j ≡ k + exprs_in e → AreMade b c ls (goals s words (numbered f j) slots b.count) → d ≡ record c { node = n } → ms ≡ ks ++ ls
    → AreMade a d ms (goals s words (numbered x k) slots a.count)
both_made s words x at o e f k j n slots a b c d ks ls ms is and first next second maker joined =
    let second' = subst (λ (i : ℕ). AreMade b c ls (goals s words (numbered f i) slots b.count)) next second in
    let both = made_both a b c d ks ls ms (goals s words (numbered e k) slots a.count) (goals s words (numbered f (k + exprs_in e)) slots) first second' (ap (λ (m : Maker). m.terms) maker) (ap (λ (m : Maker). m.count) maker) joined in
    let is_and_too : is_conjunction (BinaryExpr at o e f) ≡ true = ap (λ (y : Expr ℕ). is_conjunction y) (sym is) ∙ and in
    subst (λ (y : Expr ℕ). AreMade a d ms (goals s words (numbered y k) slots a.count)) (sym is) (subst (λ (v : ValuedAll). AreMade a d ms v) (sym (goals_both s words at o e f k slots a.count is_and_too)) both)
