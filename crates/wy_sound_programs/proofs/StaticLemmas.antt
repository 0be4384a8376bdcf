-- Points of the walk stand at points of typing: from a point that does, so do the point behind a statement and those at its `break`s.
use Rattle.std.proofs.Common.{◌≡◌, ◌⊎◌, inl, inr, ℕ, ◌+◌, List, [], ◌∷◌, ◌++◌, Bool, true, false, ◌==◌, Option, Some, None, refl, sym, ap, ◌∙◌, subst}
use Rattle.wy_core.specs.Types.{Ty, InterTy}
use Rattle.wy_core.specs.CoreTree.{Expr, Stmt, DeclareStmt, AssignStmt, CallStmt, ReturnStmt, AssertStmt, BreakStmt, ContinueStmt, SkipStmt, FailStmt, IfStmt, WhileStmt, Stmts, NoStmts, MoreStmts}
use Rattle.wy_lemmas.proofs.Choices.{apart_of, unlike as true_false}
use Rattle.wy_types.specs.Names.{Declared}
use Rattle.wy_sound_statements.specs.wy_flow_spec.environment.Slots.{slot_at, put_slot}
use Rattle.wy_sound_statements.specs.wy_flow_spec.environment.Variables.{Environment, given, changed}
use Rattle.wy_sound_statements.specs.wy_flow_spec.typing.Outcomes.{Gives}
use Rattle.wy_sound_statements.specs.wy_flow_spec.typing.Contexts.{Program, Found}
use Rattle.wy_sound_statements.specs.wy_flow_spec.typing.Joins.{Joined}
use Rattle.wy_sound_statements.specs.wy_flow_spec.typing.States.{State, left, broken, declare, with_flow, with_env}
use Rattle.wy_sound_statements.specs.wy_flow_spec.typing.Assigned.{assigned_in}
use Rattle.wy_sound_statements.specs.wy_flow_spec.typing.Loops.{Exit}
use Rattle.wy_sound_statements.specs.wy_flow_spec.typing.Statements.{TypedStmt, TypedBlock}
use Rattle.wy_sem.specs.Statements.{type_at}
use Rattle.wy_vc_spec.specs.Sizes.{exprs_in, exprs_in_list, exprs_in_stmt, exprs_in_block}
use Rattle.wy_vc_spec.specs.Numbered.{Node, numbered, numbered_stmt, numbered_block}
use Rattle.wy_vc_spec.specs.Owed.{assume}
use Rattle.wy_vc_spec.specs.Making.{formula, denied}
use Rattle.wy_vc_spec.specs.Spots.{Spot, Flow, is_set, mark, as_list, go_on, followed}
use Rattle.wy_vc_spec.specs.Joins.{meet}
use Rattle.wy_vc_spec.specs.Statements.{Body, words, expr, where_true, where_false, exec, exec_all}
use Rattle.wy_sound_statements.specs.wy_sound_walks.joins.Joins.{IsOne}
use Rattle.wy_sound_statements.proofs.wy_sound_walks_proofs.points_lemmas.SetLemmas.{Point, PointIf, point_more, with_point}
use Rattle.wy_sound_statements.proofs.wy_sound_walks_proofs.points_lemmas.StayLemmas.{expr_up, statement_points, block_points}
use Rattle.wy_sound_statements.proofs.PlaceLemmas.{one_left, one_right}
use Rattle.wy_sound_statements.proofs.wy_sound_kinds_proofs.TypeLemmas.{then_gives, given_is}
use Rattle.wy_sound_programs.specs.Scopes.{Scope, Scoped, AllScoped}
use Rattle.wy_sound_programs.specs.Typed.{Has, Stands}
use Rattle.wy_sound_programs.proofs.SlotLemmas.{no_slot, same_or_apart, slot_put, slot_other, mark_same, mark_other, given_reached, given_same, given_has, changed_reached, changed_has}
use Rattle.wy_sound_programs.proofs.MarkLemmas.{MeetsIf}
use Rattle.wy_sound_programs.proofs.LoopLemmas.{if_meets, clauses, head, test, turn, met, head_marks, body_point, loop_meets}
use Rattle.wy_sound_programs.proofs.JoinLemmas.{HasIf, reached_left, reached_right, both_dead, joined_has, exit_reached, exit_has}
use Rattle.wy_sound_programs.proofs.PartLemmas.{normal_parts, declaration_parts, unset_parts, assignment_parts, into_parts, new_parts, update_parts, call_parts, return_parts, assertion_parts, on_yes, on_no, if_parts, in_loop, loop_parts}
use Rattle.wy_sound_programs.proofs.ScopeLemmas.{all_stay_declared}
use Rattle.wy_sound_programs.proofs.GrewLemmas.{one_end, grew, all_grew}
use Rattle.wy_sound_programs.proofs.HeadLemmas.{Headed, Old, New, headed}

pub one_of_both : {X : Type 0} (x : X) (ps qs : List X) → IsOne x (ps ++ qs) → IsOne x ps ⊎ IsOne x qs
one_of_both x [] qs h = inr h
one_of_both x (p ∷ ps) qs (inl e) = inl (inl e)
one_of_both x (p ∷ ps) qs (inr h) = by (one_of_both x ps qs h) where
  by : IsOne x ps ⊎ IsOne x qs → ((p ≡ x) ⊎ IsOne x ps) ⊎ IsOne x qs
  by (inl g) = inl (inr g)
  by (inr g) = inr g

-- a variable has a type at the head of a loop where it has one before it
pub head_has : (names : List Declared) (declared : List (Option Ty)) (xs : List ℕ) (env out : Environment) (x : ℕ) → Headed names declared xs env out → Has env x → Has out x
head_has names declared xs env out x h g = by (h.each x) where
  by : Old declared xs env out x ⊎ New names declared out x → Has out x
  by (inl o) = (g.0, o.1 ∙ g.1)
  by (inr n) = (n.made, n.slot)

-- the marks at the end, where there is one
abbrev pub MarksAre : Option Spot → List Bool → Type 0
MarksAre None set = ⊥
MarksAre (Some r) set = r.set ≡ set

module _ (p : Program) (result : Option Ty) (b : Body Node) (c : Scope) where
  abbrev pub EndStands : (ℕ → Bool) → Option Spot → State → Type 0
  EndStands kept None s = s.env.reached ≡ false
  EndStands kept (Some q) s = Stands c.types kept q s

  -- the variables that are marked have types at the point of a `break`
  abbrev pub BreakStands : Environment → Spot → Type 0
  BreakStands e q = (x : ℕ) → is_set q.set x ≡ true → Has e x

  pub record Static (kept : ℕ → Bool) (f : Flow) (s out : State) : Type 0 where
    pub ends : EndStands kept f.ends out
    pub breaks : (e : Environment) → IsOne e out.breaks → e.reached ≡ true → IsOne e s.breaks ⊎ ((q : Spot) × IsOne q f.breaks × BreakStands e q)
    pub stay : (q : Spot) → IsOne q f.breaks → (x : ℕ) → kept x ≡ true → is_set q.set x ≡ true

  end_list : (kept : ℕ → Bool) (o : Option Spot) (s : State) → EndStands kept o s → (q : Spot) → IsOne q (as_list o) → Stands c.types kept q s
  end_list kept None s h q g = absurd g
  end_list kept (Some r) s h q (inl e) = subst (λ (t : Spot). Stands c.types kept t s) e h
  end_list kept (Some r) s h q (inr g) = absurd g

  end_dead : (kept : ℕ → Bool) (o : Option Spot) (s : State) → EndStands kept o s → ((q : Spot) → IsOne q (as_list o) → ⊥) → s.env.reached ≡ false
  end_dead kept None s h none = h
  end_dead kept (Some r) s h none = absurd (none r (inl refl))

  -- where a path gets to the point of typing, one of the walk stands there
  end_has : (kept : ℕ → Bool) (o : Option Spot) (s : State) (x : ℕ) → EndStands kept o s → ((q : Spot) → IsOne q (as_list o) → is_set q.set x ≡ true) → HasIf s.env x
  end_has kept None s x h on e = true_false s.env.reached e h
  end_has kept (Some r) s x h on e = h.typed x (on r (inl refl))

  -- ---- values that come into variables

  -- the variable is marked or not, and has a type
  pub put_stands : (kept : ℕ → Bool) (q : Spot) (s : State) (x : ℕ) (v : Bool) (made : Ty) (env : Environment) (declared : List (Option Ty)) (r : Spot) (flow : List Ty) (set : r.set ≡ mark q.set x v) → Stands c.types kept q s → env ≡ given s.env x made
      → slot_at declared x ≡ Some (type_at c.types x) → ((y : ℕ) → (x ≡ y → ⊥) → slot_at declared y ≡ slot_at s.declared y) → (kept x ≡ true → v ≡ true)
      → Stands c.types kept r (record { env = env; declared = declared; breaks = s.breaks; flow = flow })
  put_stands kept q s x v made env declared r flow set h is known others on = record {
    reached = ap (λ (e : Environment). e.reached) is ∙ given_reached s.env x made h.reached;
    typed = λ y e. by_typed y (marked y e) (same_or_apart x y);
    declared = λ y e. by_declared y (marked y e) (same_or_apart x y);
    keeps = λ y e. ap (λ (l : List Bool). is_set l y) set ∙ by_kept y e (same_or_apart x y);
  } where
    marked : (y : ℕ) → is_set r.set y ≡ true → is_set (mark q.set x v) y ≡ true
    marked y e = sym (ap (λ (l : List Bool). is_set l y) set) ∙ e

    by_typed : (y : ℕ) → is_set (mark q.set x v) y ≡ true → (x ≡ y) ⊎ ((x == y) ≡ false) → Has env y
    by_typed y e (inl g) = subst (λ (w : Environment). Has w y) (sym is) (made, subst (λ (z : ℕ). slot_at (given s.env x made).types z ≡ Some made) g (given_same s.env x made h.reached))
    by_typed y e (inr g) = subst (λ (w : Environment). Has w y) (sym is) (given_has s.env x made y h.reached (h.typed y (sym (mark_other q.set x v y (apart_of x y g)) ∙ e)))

    by_declared : (y : ℕ) → is_set (mark q.set x v) y ≡ true → (x ≡ y) ⊎ ((x == y) ≡ false) → slot_at declared y ≡ Some (type_at c.types y)
    by_declared y e (inl g) = subst (λ (z : ℕ). slot_at declared z ≡ Some (type_at c.types z)) g known
    by_declared y e (inr g) = others y (apart_of x y g) ∙ h.declared y (sym (mark_other q.set x v y (apart_of x y g)) ∙ e)

    by_kept : (y : ℕ) → kept y ≡ true → (x ≡ y) ⊎ ((x == y) ≡ false) → is_set (mark q.set x v) y ≡ true
    by_kept y e (inl g) = subst (λ (z : ℕ). is_set (mark q.set x v) z ≡ true) g (mark_same q.set x v ∙ on (ap kept g ∙ e))
    by_kept y e (inr g) = mark_other q.set x v y (apart_of x y g) ∙ h.keeps y e

  -- a variable that is declared here isn't kept
  new_kept : (kept : ℕ → Bool) (q : Spot) (s : State) (x : ℕ) (v : Bool) → Stands c.types kept q s → slot_at s.declared x ≡ None → kept x ≡ true → v ≡ true
  new_kept kept q s x v h none e = no_slot (type_at c.types x) (sym none ∙ h.declared x (h.keeps x e))

  -- changes by a test, where declarations may have been added
  pub changed_stands : (kept : ℕ → Bool) (q r : Spot) (s t : State) (cs : List (ℕ × Ty)) → r.set ≡ q.set → t.env ≡ changed s.env cs → ((x : ℕ) (u : Ty) → slot_at s.declared x ≡ Some u → slot_at t.declared x ≡ Some u) → Stands c.types kept q s → Stands c.types kept r t
  changed_stands kept q r s t cs set is on h = record {
    reached = ap (λ (e : Environment). e.reached) is ∙ changed_reached cs s.env h.reached;
    typed = λ x e. subst (λ (w : Environment). Has w x) (sym is) (changed_has cs s.env x h.reached (h.typed x (back x e)));
    declared = λ x e. on x (type_at c.types x) (h.declared x (back x e));
    keeps = λ x e. ap (λ (l : List Bool). is_set l x) set ∙ h.keeps x e;
  } where
    back : (x : ℕ) → is_set r.set x ≡ true → is_set q.set x ≡ true
    back x e = sym (ap (λ (l : List Bool). is_set l x) set) ∙ e

  -- by the marks at the end
  put_ends : (kept : ℕ → Bool) (o : Option Spot) (q : Spot) (s : State) (x : ℕ) (v : Bool) (made : Ty) (env : Environment) (declared : List (Option Ty)) (flow : List Ty) → MarksAre o (mark q.set x v) → Stands c.types kept q s → env ≡ given s.env x made
      → slot_at declared x ≡ Some (type_at c.types x) → ((y : ℕ) → (x ≡ y → ⊥) → slot_at declared y ≡ slot_at s.declared y) → (kept x ≡ true → v ≡ true)
      → EndStands kept o (record { env = env; declared = declared; breaks = s.breaks; flow = flow })
  put_ends kept None q s x v made env declared flow set h is known others on = absurd set
  put_ends kept (Some r) q s x v made env declared flow set h is known others on = put_stands kept q s x v made env declared r flow set h is known others on

  changed_ends : (kept : ℕ → Bool) (o : Option Spot) (q : Spot) (s t : State) (cs : List (ℕ × Ty)) → MarksAre o q.set → t.env ≡ changed s.env cs → ((x : ℕ) (u : Ty) → slot_at s.declared x ≡ Some u → slot_at t.declared x ≡ Some u) → Stands c.types kept q s → EndStands kept o t
  changed_ends kept None q s t cs set is on h = absurd set
  changed_ends kept (Some r) q s t cs set is on h = changed_stands kept q r s t cs set is on h

  -- ---- statements without `break`s

  -- how the statement ends
  abbrev F : List (Expr Node) → Stmt ℕ → ℕ → Spot → ℕ → Flow
  F around st k q m = exec b around (numbered_stmt st k) q m

  plain : (kept : ℕ → Bool) (f : Flow) (s a out : State) → out ≡ a → a.breaks ≡ s.breaks → f.breaks ≡ [] → EndStands kept f.ends a → Static kept f s out
  plain kept f s a out is same none h = subst (Static kept f s) (sym is) (record {
    ends = h;
    breaks = λ e o r. inl (subst (λ (l : List Environment). IsOne e l) same o);
    stay = λ q o x g. absurd (subst (λ (l : List Spot). IsOne q l) none o);
  })

  -- what follows a statement
  on_ends : (kept : ℕ → Bool) (around : List (Expr Node)) (rest : Stmts ℕ) (k n : ℕ) (s out : State) → TypedBlock p result rest s (Gives out) → (o : Option Spot) → EndStands kept o s → PointIf n o
      → ((q : Spot) → Point n q → Stands c.types kept q s → Static kept (exec_all b around (numbered_block rest k) q n) s out) → Static kept (go_on o n (exec_all b around (numbered_block rest k))) s out
  on_ends kept around rest k n s out typed None h pt go =
      let g = all_grew p result rest s out typed in
      record { ends = g.dead h; breaks = λ e o r. inl (g.broken h e o r); stay = λ q o x e. absurd o }
  on_ends kept around rest k n s out typed (Some q) h pt go = go q pt h

  -- one after the other
  both_static : (kept : ℕ → Bool) (one two : Flow) (s t out : State) → Static kept one s t → Static kept two t out → Static kept (followed one two) s out
  both_static kept one two s t out h g = record {
    ends = g.ends;
    breaks = λ e o r. first e r (g.breaks e o r);
    stay = λ q o x e. either q x e (one_of_both q one.breaks two.breaks o);
  } where
    behind : (e : Environment) → IsOne e s.breaks ⊎ ((q : Spot) × IsOne q one.breaks × BreakStands e q) → IsOne e s.breaks ⊎ ((q : Spot) × IsOne q (one.breaks ++ two.breaks) × BreakStands e q)
    behind e (inl o) = inl o
    behind e (inr o) = inr (o.0, one_left o.0 one.breaks two.breaks o.1, o.2)

    first : (e : Environment) → e.reached ≡ true → IsOne e t.breaks ⊎ ((q : Spot) × IsOne q two.breaks × BreakStands e q) → IsOne e s.breaks ⊎ ((q : Spot) × IsOne q (one.breaks ++ two.breaks) × BreakStands e q)
    first e r (inl o) = behind e (h.breaks e o r)
    first e r (inr o) = inr (o.0, one_right o.0 one.breaks two.breaks o.1, o.2)

    either : (q : Spot) (x : ℕ) → kept x ≡ true → IsOne q one.breaks ⊎ IsOne q two.breaks → is_set q.set x ≡ true
    either q x e (inl o) = h.stay q o x e
    either q x e (inr o) = g.stay q o x e

  -- ---- behind an `if`

  joined_stands : (kept : ℕ → Bool) (at : ℕ) (a z : Option Spot) (one two : State) (env : Environment) → Joined p.names at one.env two.env (Gives env) → EndStands kept a one → EndStands kept z two
      → ((x : ℕ) (t : Ty) → slot_at one.declared x ≡ Some t → slot_at two.declared x ≡ Some t) → (o : Option Spot) → MeetsIf (as_list a ++ as_list z) o → EndStands kept o (with_env env two)
  joined_stands kept at a z one two env j ha hz on None none =
      both_dead p.names at one.env two.env env j (end_dead kept a one ha (λ q o. none q (one_left q (as_list a) (as_list z) o))) (end_dead kept z two hz (λ q o. none q (one_right q (as_list a) (as_list z) o)))
  joined_stands kept at a z one two env j ha hz on (Some r) m = record {
    reached = arrives (one_of_both m.one (as_list a) (as_list z) m.is_one);
    typed = λ x e. joined_has p.names at one.env two.env env j x (end_has kept a one x ha (λ q o. m.down x e q (one_left q (as_list a) (as_list z) o))) (end_has kept z two x hz (λ q o. m.down x e q (one_right q (as_list a) (as_list z) o)))
        (arrives (one_of_both m.one (as_list a) (as_list z) m.is_one));
    declared = λ x e. known x (m.down x e m.one m.is_one) (one_of_both m.one (as_list a) (as_list z) m.is_one);
    keeps = λ x e. m.up x (λ q o. holds q x e (one_of_both q (as_list a) (as_list z) o));
  } where
    arrives : IsOne m.one (as_list a) ⊎ IsOne m.one (as_list z) → env.reached ≡ true
    arrives (inl o) = reached_left p.names at one.env two.env env j (end_list kept a one ha m.one o).reached
    arrives (inr o) = reached_right p.names at one.env two.env env j (end_list kept z two hz m.one o).reached

    known : (x : ℕ) → is_set m.one.set x ≡ true → IsOne m.one (as_list a) ⊎ IsOne m.one (as_list z) → slot_at two.declared x ≡ Some (type_at c.types x)
    known x e (inl o) = on x (type_at c.types x) ((end_list kept a one ha m.one o).declared x e)
    known x e (inr o) = (end_list kept z two hz m.one o).declared x e

    holds : (q : Spot) (x : ℕ) → kept x ≡ true → IsOne q (as_list a) ⊎ IsOne q (as_list z) → is_set q.set x ≡ true
    holds q x e (inl o) = (end_list kept a one ha q o).keeps x e
    holds q x e (inr o) = (end_list kept z two hz q o).keeps x e

  -- ---- loops

  -- where the body of a loop begins
  pub begin_stands : (q r : Spot) (kept : ℕ → Bool) (s : State) (start : Environment) (v : Found) (flow : List Ty) (xs : List ℕ) → r.set ≡ q.set → Headed p.names s.declared xs s.env start → Stands c.types kept q s → Stands c.types (is_set q.set) r (in_loop s start v flow)
  begin_stands q r kept s start v flow xs set hd h = record {
    reached = changed_reached v.yes start hd.reached;
    typed = λ x e. changed_has v.yes start x hd.reached (head_has p.names s.declared xs s.env start x hd (h.typed x (back x e)));
    declared = λ x e. h.declared x (back x e);
    keeps = λ x e. ap (λ (l : List Bool). is_set l x) set ∙ e;
  } where
    back : (x : ℕ) → is_set r.set x ≡ true → is_set q.set x ≡ true
    back x e = sym (ap (λ (l : List Bool). is_set l x) set) ∙ e

  -- the point behind a loop
  module _ (kept : ℕ → Bool) (at : ℕ) (q r : Spot) (turn : Flow) (s one out : State) (start env : Environment) (v : Found) (flow : List Ty) (xs : List ℕ) (set : r.set ≡ q.set) (hd : Headed p.names s.declared xs s.env start) (h : Stands c.types kept q s)
      (g : Static (is_set q.set) turn (in_loop s start v flow) one) (x : Exit p.names at one.breaks (changed start v.no) (Gives env)) (known : (x : ℕ) (t : Ty) → slot_at s.declared x ≡ Some t → slot_at one.declared x ≡ Some t) where
    back : (x : ℕ) → is_set r.set x ≡ true → is_set q.set x ≡ true
    back x e = sym (ap (λ (l : List Bool). is_set l x) set) ∙ e

    -- a variable that is marked on all paths has a type where the test is false
    pub test_has : (x : ℕ) → is_set q.set x ≡ true → Has (changed start v.no) x
    test_has x e = changed_has v.no start x hd.reached (head_has p.names s.declared xs s.env start x hd (h.typed x e))

    -- and at each `break` that a path gets to
    pub break_has : (x : ℕ) → ((w : Spot) → IsOne w turn.breaks → is_set w.set x ≡ true) → (e : Environment) → IsOne e one.breaks → HasIf e x
    break_has x on e o y = by (g.breaks e o y) where
      by : IsOne e [] ⊎ ((w : Spot) × IsOne w turn.breaks × BreakStands e w) → Has e x
      by (inl z) = absurd z
      by (inr z) = z.2 x (on z.0 z.1)

    pub loop_stands : (o : Option Spot) → MeetsIf (r ∷ turn.breaks) o → EndStands kept o (record one { env = env; breaks = s.breaks })
    loop_stands None none = absurd (none r (inl refl))
    loop_stands (Some w) m =
        let reached = exit_reached p.names at one.breaks (changed start v.no) env x (changed_reached v.no start hd.reached) in
        let marked : (y : ℕ) → is_set w.set y ≡ true → is_set q.set y ≡ true = λ y e. back y (m.down y e r (inl refl)) in
        record {
          reached = reached;
          typed = λ y e. exit_has p.names at one.breaks (changed start v.no) env y x (λ z. test_has y (marked y e)) (break_has y (λ u o. m.down y e u (inr o))) reached;
          declared = λ y e. known y (type_at c.types y) (h.declared y (marked y e));
          keeps = λ y e. m.up y (λ u o. holds u y e o);
        }
      where
        holds : (u : Spot) (y : ℕ) → kept y ≡ true → (r ≡ u) ⊎ IsOne u turn.breaks → is_set u.set y ≡ true
        holds u y e (inl z) = subst (λ (a : Spot). is_set a.set y ≡ true) z (ap (λ (l : List Bool). is_set l y) set ∙ h.keeps y e)
        holds u y e (inr z) = g.stay u z y (h.keeps y e)

  -- ---- `break`

  left_here : (q : Spot) (s : State) (kept : ℕ → Bool) → Stands c.types kept q s → (e : Environment) → IsOne e s.breaks ⊎ (s.env ≡ e) → IsOne e s.breaks ⊎ ((r : Spot) × IsOne r (q ∷ []) × BreakStands e r)
  left_here q s kept h e (inl o) = inl o
  left_here q s kept h e (inr o) = inr (q, inl refl, λ x on. subst (λ (v : Environment). Has v x) o (h.typed x on))

  stay_here : (q : Spot) (s : State) (kept : ℕ → Bool) → Stands c.types kept q s → (r : Spot) → (q ≡ r) ⊎ ⊥ → (x : ℕ) → kept x ≡ true → is_set r.set x ≡ true
  stay_here q s kept h r (inl o) x e = subst (λ (y : Spot). is_set y.set x ≡ true) o (h.keeps x e)
  stay_here q s kept h r (inr o) x e = absurd o

  -- ---- statements

  mutual
    pub static : (around : List (Expr Node)) (st : Stmt ℕ) (k : ℕ) (kept : ℕ → Bool) (q : Spot) (m : ℕ) (s out : State) → Point m q → Scoped c s.declared st → Stands c.types kept q s → TypedStmt p result st s (Gives out) → Static kept (exec b around (numbered_stmt st k) q m) s out
    static around (DeclareStmt at t x None) k kept q m s out pt sc h typed =
        let i = unset_parts p at t x s out typed in
        let n = normal_parts p.names at x t s.env i.env h.reached i.normal in
        plain kept (F around (DeclareStmt at t x None) k q m) s (declare x t (with_env i.env s)) out i.is refl refl
        (put_ends kept (F around (DeclareStmt at t x None) k q m).ends q s x false n.made i.env (put_slot s.declared x t) s.flow refl h n.is (slot_put s.declared x t ∙ ap (λ (u : Ty). Some u) (sym sc.2)) (λ y g. slot_other s.declared x t y g) (new_kept kept q s x false h sc.1))
    static around (DeclareStmt at t x (Some e)) k kept q m s out pt sc h typed =
        let i = declaration_parts p at t x s e out typed in
        let n = normal_parts p.names at x (InterTy i.v.ty t) s.env i.env h.reached i.comes.normal in
        plain kept (F around (DeclareStmt at t x (Some e)) k q m) s (declare x t (with_env i.env (with_flow i.v.flow s))) out i.is refl refl
        (put_ends kept (F around (DeclareStmt at t x (Some e)) k q m).ends q s x true n.made i.env (put_slot s.declared x t) i.v.flow refl h n.is (slot_put s.declared x t ∙ ap (λ (u : Ty). Some u) (sym sc.2)) (λ y g. slot_other s.declared x t y g) (λ g. refl))
    static around (AssignStmt at x [] e) k kept q m s out pt sc h typed =
        let i = assignment_parts p at x e s out typed in
        let d = into_parts p.names at x i.v.ty (type_at c.types x) s.env (slot_at s.declared x) i.env sc.1 i.into in
        let n = normal_parts p.names at x (InterTy i.v.ty (type_at c.types x)) s.env i.env h.reached d.normal in
        plain kept (F around (AssignStmt at x [] e) k q m) s (with_env i.env (with_flow i.v.flow s)) out i.is refl refl
        (put_ends kept (F around (AssignStmt at x [] e) k q m).ends q s x true n.made i.env s.declared i.v.flow refl h n.is sc.1 (λ y g. refl) (λ g. refl))
    static around (AssignStmt at x (step ∷ steps) e) k kept q m s out pt sc h typed =
        let i = update_parts p at x (step ∷ steps) e s out typed in
        let n = new_parts p.names at x i.ty (type_at c.types x) s.env (slot_at s.declared x) i.env h.reached sc.1 i.new in
        plain kept (F around (AssignStmt at x (step ∷ steps) e) k q m) s (with_env i.env (with_flow i.v.flow s)) out i.is refl refl
        (put_ends kept (F around (AssignStmt at x (step ∷ steps) e) k q m).ends q s x true n.made i.env s.declared i.v.flow refl h n.is sc.1 (λ y g. refl) (λ g. refl))
    static around (CallStmt at f es) k kept q m s out pt sc h typed =
        let i = call_parts p at f es s out typed in
        plain kept (F around (CallStmt at f es) k q m) s (with_flow i.all.flow s) out i.is refl refl
        (changed_ends kept (F around (CallStmt at f es) k q m).ends q s (with_flow i.all.flow s) [] refl refl (λ x u g. g) h)
    static around (ReturnStmt at None) k kept q m s out pt sc h typed = plain kept (F around (ReturnStmt at None) k q m) s (left s) out (given_is out (left s) typed) refl refl refl
    static around (ReturnStmt at (Some e)) k kept q m s out pt sc h typed = let i = return_parts p at result e s out typed in plain kept (F around (ReturnStmt at (Some e)) k q m) s (left (with_flow i.v.flow s)) out i.is refl refl refl
    static around (AssertStmt at e) k kept q m s out pt sc h typed =
        let i = assertion_parts p at e s out typed in
        plain kept (F around (AssertStmt at e) k q m) s (with_env (changed s.env i.v.yes) (with_flow i.v.flow s)) out i.is refl refl
        (changed_ends kept (F around (AssertStmt at e) k q m).ends q s (with_env (changed s.env i.v.yes) (with_flow i.v.flow s)) i.v.yes refl refl (λ x u g. g) h)
    static around (BreakStmt at) k kept q m s out pt sc h typed =
        subst (Static kept (exec b around (numbered_stmt (BreakStmt at) k) q m) s) (sym (given_is out (broken s) typed))
        (record { ends = refl; breaks = λ e o r. left_here q s kept h e (one_end s.breaks s.env e o); stay = λ r o x e. stay_here q s kept h r o x e })
    static around (ContinueStmt at) k kept q m s out pt sc h typed = plain kept (F around (ContinueStmt at) k q m) s (left s) out (given_is out (left s) typed) refl refl refl
    static around (SkipStmt at) k kept q m s out pt sc h typed = plain kept (F around (SkipStmt at) k q m) s s out (given_is out s typed) refl refl h
    static around (FailStmt at) k kept q m s out pt sc h typed = plain kept (F around (FailStmt at) k q m) s (left s) out (given_is out (left s) typed) refl refl refl
    static around (IfStmt at e first second) k kept q m s out pt sc h typed =
        let i = if_parts p result at e first second s out typed in
        let v = expr b (numbered e k) q.vars q.hyps m in
        let up = expr_up b (numbered e k) q.vars q.hyps m in
        let here = point_more m v.count q up pt in
        let one = exec_all b around (numbered_block first (k + exprs_in e)) (where_true v q) v.count in
        let two = exec_all b around (numbered_block second (k + exprs_in e + exprs_in_block first)) (where_false v q) one.count in
        let f1 = block_points b around (numbered_block first (k + exprs_in e)) (where_true v q) v.count (with_point v.count q (assume v.hyps (formula v.term)) here) in
        let grown = all_grew p result first (on_yes s i.v) i.one i.on_first in
        let grown2 = all_grew p result second (on_no s i.v i.one) i.two i.on_second in
        let known : (x : ℕ) (t : Ty) → slot_at s.declared x ≡ Some t → slot_at i.one.declared x ≡ Some t =
        λ x t g. ap (λ (l : List (Option Ty)). slot_at l x) grown.declared ∙ all_stay_declared c x t first s.declared sc.0 g in
        let scoped2 : AllScoped c i.one.declared second = subst (λ (l : List (Option Ty)). AllScoped c l second) (sym grown.declared) sc.1 in
        let known2 : (x : ℕ) (t : Ty) → slot_at i.one.declared x ≡ Some t → slot_at i.two.declared x ≡ Some t =
        λ x t g. ap (λ (l : List (Option Ty)). slot_at l x) grown2.declared ∙ all_stay_declared c x t second i.one.declared scoped2 g in
        let s1 = all_static around first (k + exprs_in e) kept (where_true v q) v.count (on_yes s i.v) i.one (with_point v.count q (assume v.hyps (formula v.term)) here) sc.0
        (changed_stands kept q (where_true v q) s (on_yes s i.v) i.v.yes refl refl (λ x u g. g) h) i.on_first in
        let s2 = all_static around second (k + exprs_in e + exprs_in_block first) kept (where_false v q) one.count (on_no s i.v i.one) i.two (with_point one.count q (assume v.hyps (denied (formula v.term))) (point_more v.count one.count q f1.grows here)) scoped2
        (changed_stands kept q (where_false v q) s (on_no s i.v i.one) i.v.no refl refl known h) i.on_second in
        let s3 = both_static kept one two s i.one i.two (record { ends = s1.ends; breaks = s1.breaks; stay = s1.stay }) (record { ends = s2.ends; breaks = s2.breaks; stay = s2.stay }) in
        subst (Static kept (exec b around (numbered_stmt (IfStmt at e first second) k) q m) s) (sym i.is)
        (record {
          ends = joined_stands kept at one.ends two.ends i.one i.two i.env i.joined s1.ends s2.ends known2 (meet (words b) v.hyps (as_list one.ends ++ as_list two.ends) two.count).ends
              (if_meets b around v (numbered_block first (k + exprs_in e)) (numbered_block second (k + exprs_in e + exprs_in_block first)) q m up pt);
          breaks = s3.breaks;
          stay = s3.stay;
        })
    static around (WhileStmt at e invariants body) k kept q m s out pt sc h typed =
        let i = loop_parts p result at e invariants body s out typed in
        let xs = assigned_in body [] in
        let hd = headed p.names at s xs i.start h.reached i.head in
        let r = where_true (test b at e invariants body k q m) (head b at e invariants body k q m).spot in
        let f = where_false (test b at e invariants body k q m) (head b at e invariants body k q m).spot in
        let marks = head_marks b at e invariants body k q m in
        let grown = all_grew p result body (in_loop s i.start i.v i.flow) i.turn i.typed in
        let g = all_static (clauses b at e invariants body k q m) body (k + exprs_in e + exprs_in_list invariants) (is_set q.set) r (test b at e invariants body k q m).count (in_loop s i.start i.v i.flow) i.turn (body_point b at e invariants body k q m pt) sc
        (begin_stands q r kept s i.start i.v i.flow xs marks hd h) i.typed in
        subst (Static kept (exec b around (numbered_stmt (WhileStmt at e invariants body) k) q m) s) (sym i.is)
        (record {
          ends = loop_stands kept at q f (turn b at e invariants body k q m) s i.turn out i.start i.env i.v i.flow xs marks hd h g i.exit
              (λ x t y. ap (λ (l : List (Option Ty)). slot_at l x) grown.declared ∙ all_stay_declared c x t body s.declared sc y) (met b at e invariants body k q m).ends (loop_meets b at e invariants body k q m pt);
          breaks = λ v o y. inl o;
          stay = λ w o x y. absurd o;
        })

    pub all_static : (around : List (Expr Node)) (block : Stmts ℕ) (k : ℕ) (kept : ℕ → Bool) (q : Spot) (m : ℕ) (s out : State) → Point m q → AllScoped c s.declared block → Stands c.types kept q s → TypedBlock p result block s (Gives out) → Static kept (exec_all b around (numbered_block block k) q m) s out
    all_static around NoStmts k kept q m s out pt sc h typed = plain kept (exec_all b around NoStmts q m) s s out (given_is out s typed) refl refl h
    all_static around (MoreStmts first rest) k kept q m s out pt sc h typed =
        let t = then_gives _ _ out typed in
        let one = exec b around (numbered_stmt first k) q m in
        let grown = grew p result first s t.0 t.1 in
        let s1 = static around first k kept q m s t.0 pt sc.0 h t.1 in
        let points = statement_points b around (numbered_stmt first k) q m pt in
        both_static kept one (go_on one.ends one.count (exec_all b around (numbered_block rest (k + exprs_in_stmt first)))) s t.0 out s1
        (on_ends kept around rest (k + exprs_in_stmt first) one.count t.0 out t.2 one.ends s1.ends points.ends
        (λ r here g. all_static around rest (k + exprs_in_stmt first) kept r one.count t.0 out here (subst (λ (l : List (Option Ty)). AllScoped c l rest) (sym grown.declared) sc.1) g t.2))
