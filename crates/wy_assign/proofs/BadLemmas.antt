-- Uses of what has no value, by the paths through what a statement is made of.
use Rattle.std.proofs.Common.{◌≡◌, ◌⊎◌, inl, inr, ℕ, zero, suc, Bool, true, false, cond, List, [], ◌∷◌, ◌++◌, append_assoc, Option, Some, None, refl, sym, ap, ◌∙◌, subst}
use Rattle.wy_core.specs.CoreTree.{Expr, Step, Stmt, DeclareStmt, AssignStmt, CallStmt, ReturnStmt, AssertStmt, BreakStmt, ContinueStmt, SkipStmt, FailStmt, IfStmt, WhileStmt, Stmts, NoStmts, MoreStmts}
use Rattle.wy_assign.specs.Paths.{Event, Uses, Sets, Unsets, End, Falls, Breaks, Continues, Leaves, Through, Course, Nothing, One, Then, ExprPath, ClausesPath, Ending, Before, Either, falls, InOrder, Around, Turns, Loop}
use Rattle.wy_assign.specs.Assigned.{unset_behind, UsesUnset, SomeUse}
use Rattle.wy_assign.specs.Marks.{Marks, has, all_set}
use Rattle.wy_assign.specs.Flows.{alone, head}
use Rattle.wy_assign.specs.declared.flow.Flow.{Flow}
use Rattle.wy_assign.proofs.EventLemmas.{behind, behind_more, behind-append, uses_more, uses_split, uses_left, uses_right, Quiet, behind_quiet, uses_quiet, behind_reads}
use Rattle.wy_assign.proofs.CalmLemmas.{Calm}
use Rattle.wy_assign.proofs.MarkLemmas.{holds, Sane}
use Rattle.wy_assign.proofs.FlowLemmas.{Comes, Tells, Sound, add_reads}
use Rattle.wy_assign.proofs.LoopLemmas.{head_reached, Turned, head_of, head_to, sane_head, split, at_least, Goes, turn_of, turn_to}
use Rattle.wy_assign.proofs.UseLemmas.{after_reads}
use Rattle.wy_lemmas.proofs.Choices.{false_true as never, by_truth, either}

-- some path from these marks uses at this place a variable that has no value there
abbrev pub Bad : Course → Marks → ℕ → Type 0
Bad C s k = (s.reached ≡ true) × ((x : ℕ) × (p : List Event) × (end : End) × C p end × UsesUnset x k (has s x) p)

-- a course that has a path
abbrev pub HasPath : Course → Type 0
HasPath C = (p : List Event) × (end : End) × C p end

-- ---- one end

pub ending_to : (E : End) (A : Through) (s : Marks) (k : ℕ) → Calm A → Sane s → SomeUse A (has s) k → Bad (Ending E A) s k
ending_to E A s k a sane h = (sane (Some h.0) (uses_quiet h.0 k (has s h.0) h.1 (a.quiet h.1 h.2) h.3), (h.0, h.1, E, (refl, h.2), h.3))

pub ending_of : (E : End) (A : Through) (s : Marks) (k : ℕ) → Bad (Ending E A) s k → SomeUse A (has s) k
ending_of E A s k b = let c = b.1 in (c.0, c.1, c.3.1, c.4)

-- a value is given behind it
pub value_to : (x : ℕ) (A : Through) (s : Marks) (k : ℕ) → Calm A → Sane s → SomeUse A (has s) k → Bad (Ending Falls (Then A (One (Sets x)))) s k
value_to x A s k a sane h = (
  sane (Some h.0) (uses_quiet h.0 k (has s h.0) h.1 (a.quiet h.1 h.2) h.3),
  (h.0, h.1 ++ Sets x ∷ [], Falls, (refl, (h.1, Sets x ∷ [], refl, h.2, refl)), uses_left h.0 k (has s h.0) h.1 (Sets x ∷ []) h.3),
)

pub value_of : (x : ℕ) (A : Through) (s : Marks) (k : ℕ) → Bad (Ending Falls (Then A (One (Sets x)))) s k → SomeUse A (has s) k
value_of x A s k b =
    let c = b.1 in let t = c.3.1 in
    either (λ h. (c.0, t.0, t.3, h))
    (λ h. absurd (subst (λ p. UsesUnset c.0 k (unset_behind c.0 (has s c.0) t.0) p) t.4 h))
    (uses_split c.0 k (has s c.0) t.0 t.1 (subst (λ p. UsesUnset c.0 k (has s c.0) p) t.2 c.4))

pub unset_of : (x : ℕ) (s : Marks) (k : ℕ) → Bad (Ending Falls (One (Unsets x))) s k → ⊥
unset_of x s k b = let c = b.1 in subst (λ p. UsesUnset c.0 k (has s c.0) p) c.3.1 c.4

-- ---- one thing behind another

pub before_of : (A : Through) (C : Course) (s : Marks) (k : ℕ) → Calm A → Bad (Before A C) s k → SomeUse A (has s) k ⊎ Bad C s k
before_of A C s k a b =
    let c = b.1 in let t = c.3 in
    either (λ h. inl (c.0, t.0, t.3, h))
    (λ h. inr (b.0, (c.0, t.1, c.2, t.4, uses_more c.0 k (unset_behind c.0 (has s c.0) t.0) (has s c.0) t.1 (behind_quiet (Some c.0) (has s c.0) t.0 (a.quiet t.0 t.3)) h)))
    (uses_split c.0 k (has s c.0) t.0 t.1 (subst (λ p. UsesUnset c.0 k (has s c.0) p) t.2 c.4))

pub before_to : (A : Through) (C : Course) (s : Marks) (k : ℕ) → Calm A → Sane s → HasPath C → SomeUse A (has s) k ⊎ Bad C s k → Bad (Before A C) s k
before_to A C s k a sane way e = either
    (λ (h : SomeUse A (has s) k). (
      sane (Some h.0) (uses_quiet h.0 k (has s h.0) h.1 (a.quiet h.1 h.2) h.3),
      (h.0, h.1 ++ way.0, way.1, (h.1, way.0, refl, h.2, way.2), uses_left h.0 k (has s h.0) h.1 way.0 h.3),
    ))
    (λ (b : Bad C s k). let c = b.1 in (b.0, (c.0, a.some ++ c.1, c.2, (a.some, c.1, refl, a.is_some, c.3), after_reads c.0 k (has s c.0) A a c.1 c.4))) e

pub either_of : (C D : Course) (s : Marks) (k : ℕ) → Bad (Either C D) s k → Bad C s k ⊎ Bad D s k
either_of C D s k b = let c = b.1 in either (λ h. inl (b.0, (c.0, c.1, c.2, h, c.4))) (λ h. inr (b.0, (c.0, c.1, c.2, h, c.4))) c.3

pub either_to : (C D : Course) (s : Marks) (k : ℕ) → Bad C s k ⊎ Bad D s k → Bad (Either C D) s k
either_to C D s k e = either
    (λ (b : Bad C s k). let c = b.1 in (b.0, (c.0, c.1, c.2, inl c.3, c.4)))
    (λ (b : Bad D s k). let c = b.1 in (b.0, (c.0, c.1, c.2, inr c.3, c.4))) e

pub in_order_path : (C D : Course) → HasPath C → HasPath D → HasPath (InOrder C D)
in_order_path C D c d = by c.1 c.2
  where
    by : (end : End) → C c.0 end → HasPath (InOrder C D)
    by Falls h = (c.0 ++ d.0, d.1, inr (c.0, d.0, refl, h, d.2))
    by Breaks h = (c.0, Breaks, inl (refl, h))
    by Continues h = (c.0, Continues, inl (refl, h))
    by Leaves h = (c.0, Leaves, inl (refl, h))

-- a use on a path of the first is one on a path of both
first_to : (C D : Course) (s : Marks) (k x : ℕ) (p : List Event) (end : End) → HasPath D → s.reached ≡ true → C p end → UsesUnset x k (has s x) p → Bad (InOrder C D) s k
first_to C D s k x p Falls d r c h = (r, (x, p ++ d.0, d.1, inr (p, d.0, refl, c, d.2), uses_left x k (has s x) p d.0 h))
first_to C D s k x p Breaks d r c h = (r, (x, p, Breaks, inl (refl, c), h))
first_to C D s k x p Continues d r c h = (r, (x, p, Continues, inl (refl, c), h))
first_to C D s k x p Leaves d r c h = (r, (x, p, Leaves, inl (refl, c), h))

-- a path of the first that leaves the variable as the flow says
leads : (C : Course) (f g : Flow) (x : ℕ) → ((w : Option ℕ) → Tells w C f g) → g.here.reached ≡ true
    → (q : List Event) × C q Falls × (has g.here x ≡ true → unset_behind x (has f.here x) q ≡ true)
leads C f g x t r = by_truth (has g.here x) (λ b. has g.here x ≡ b → (q : List Event) × C q Falls × (b ≡ true → unset_behind x (has f.here x) q ≡ true))
    (λ _ e. let c = (t (Some x)).here_of e in (c.1.0, c.1.1, λ _. c.1.2))
    (λ _ _. let c = (t None).here_of r in (c.1.0, c.1.1, λ e. never e)) refl

pub in_order_to : (C D : Course) (f g : Flow) (k : ℕ) → ((w : Option ℕ) → Tells w C f g) → HasPath D → Bad C f.here k ⊎ Bad D g.here k → Bad (InOrder C D) f.here k
in_order_to C D f g k t d e = either
    (λ (b : Bad C f.here k). let c = b.1 in first_to C D f.here k c.0 c.1 c.2 d b.0 c.3 c.4)
    (λ (b : Bad D g.here k).
    let c = b.1 in let q = leads C f g c.0 t b.0 in (
      ((t None).here_of b.0).0,
      (
        c.0,
        q.0 ++ c.1,
        c.2,
        inr (q.0, c.1, refl, q.1, c.3),
        uses_right c.0 k (has f.here c.0) q.0 c.1 (uses_more c.0 k (has g.here c.0) (unset_behind c.0 (has f.here c.0) q.0) c.1 q.2 c.4),
      ),
    )) e

pub in_order_of : (C D : Course) (f g : Flow) (k : ℕ) → ((w : Option ℕ) → Tells w C f g) → Bad (InOrder C D) f.here k → Bad C f.here k ⊎ Bad D g.here k
in_order_of C D f g k t b =
    let c = b.1 in let u = has f.here c.0 in
    either (λ h. inl (b.0, (c.0, c.1, c.2, h.1, c.4)))
    (λ h. either (λ e. inl (b.0, (c.0, h.0, Falls, h.3, e)))
    (λ e. inr (
      (t None).here_to (b.0, (h.0, h.3, b.0)),
      (c.0, h.1, c.2, h.4, uses_more c.0 k (unset_behind c.0 u h.0) (has g.here c.0) h.1 (λ z. (t (Some c.0)).here_to (b.0, (h.0, h.3, z))) e),
    ))
    (uses_split c.0 k u h.0 h.1 (subst (λ p. UsesUnset c.0 k u p) h.2 c.4)))
    c.3

-- ---- loops

loop_uses : (n x k : ℕ) (u : Bool) (H : Through) (C : Course) (s : Marks) (turn : Flow) (p : List Event) (end : End) → Calm H → Sane s → Sound turn → ((w : Option ℕ) → Tells w C alone turn)
    → s.reached ≡ true → (u ≡ true → has (head s turn) x ≡ true) → Turns n H C p end → UsesUnset x k u p → SomeUse H (has (head s turn)) k ⊎ Bad C (head s turn) k
loop_uses zero x k u H C s turn p end a sane st t r m c h = inl (x, p, c.1, uses_more x k u (has (head s turn) x) p m h)
loop_uses (suc n) x k u H C s turn p end a sane st t r m c h = either
    (λ e. inl (x, c.0, c.3, uses_more x k u (has (head s turn) x) c.0 m e))
    (λ e. either
    (λ b. inr (hr, (x, c.1, Breaks, b.1, uses_more x k (unset_behind x u c.0) (has (head s turn) x) c.1 mv e)))
    (λ l. either
    (λ b. inr (hr, (x, c.1, Leaves, b.1, uses_more x k (unset_behind x u c.0) (has (head s turn) x) c.1 mv e)))
    (λ b. either
    (λ i. either
    (λ g. inr (hr, (x, b.0, Falls, g, uses_more x k (unset_behind x u c.0) (has (head s turn) x) b.0 mv i)))
    (λ g. inr (hr, (x, b.0, Continues, g, uses_more x k (unset_behind x u c.0) (has (head s turn) x) b.0 mv i))) b.3)
    (λ i. loop_uses n x k (unset_behind x (unset_behind x u c.0) b.0) H C s turn b.1 end a sane st t r
    (λ z. either mv (λ d. head_to (Some x) s turn sane st r (inr (turn_to (Some x) C turn (t (Some x)) b.0 b.3 d))) (split (Some x) (unset_behind x u c.0) b.0 z)) b.4 i)
    (uses_split x k (unset_behind x u c.0) b.0 b.1 (subst (λ z. UsesUnset x k (unset_behind x u c.0) z) b.2 e))) l)
    c.4)
    (uses_split x k u c.0 c.1 (subst (λ z. UsesUnset x k u z) c.2 h))
  where
    mv : unset_behind x u c.0 ≡ true → has (head s turn) x ≡ true
    mv z = m (behind_quiet (Some x) u c.0 (a.quiet c.0 c.3) z)

    hr : (head s turn).reached ≡ true
    hr = head_to None s turn sane st r (inl r)

pub loop_of : (H : Through) (C : Course) (s : Marks) (turn : Flow) (k : ℕ) → Calm H → Sane s → Sound turn → ((w : Option ℕ) → Tells w C alone turn)
    → Bad (Loop H C) s k → SomeUse H (has (head s turn)) k ⊎ Bad C (head s turn) k
loop_of H C s turn k a sane st t b =
    let c = b.1 in
    loop_uses c.3.0 c.0 k (has s c.0) H C s turn c.1 c.2 a sane st t b.0 (λ e. head_to (Some c.0) s turn sane st b.0 (inl e)) c.3.1 c.4

-- how a path gets to the head of the loop with the variable as the marks of the head say
record Prefix (H : Through) (C : Course) (s : Marks) (turn : Flow) (x : ℕ) : Type 0 where
  events : List Event
  goes_on : (m : ℕ) (p : List Event) (end : End) → Turns m H C p end → Loop H C (events ++ p) end
  unset : has (head s turn) x ≡ true → unset_behind x (has s x) events ≡ true

straight : (H : Through) (C : Course) (s : Marks) (turn : Flow) (x : ℕ) → (has (head s turn) x ≡ true → has s x ≡ true) → Prefix H C s turn x
straight H C s turn x h = record { events = []; goes_on = λ m p end t. (m, t); unset = h }

around : (H : Through) (C : Course) (s : Marks) (turn : Flow) (x : ℕ) → Calm H → s.reached ≡ true → (q : List Event) → Goes C q → behind (Some x) (has all_set x) q ≡ true → Prefix H C s turn x
around H C s turn x a r q g h = record {
  events = a.some ++ q;
  goes_on = λ m p end t. (suc m, (a.some, q ++ p, append_assoc a.some q p, a.is_some, inr (inr (q, p, refl, g, t))));
  unset = λ _. add_reads (Some x) (has s x) a.some q a.reads (behind_more (Some x) (has all_set x) (has s x) q (at_least (Some x) s r) h);
}

prefix : (H : Through) (C : Course) (s : Marks) (turn : Flow) (x : ℕ) → Calm H → Sane s → Sound turn → Tells (Some x) C alone turn → s.reached ≡ true → Prefix H C s turn x
prefix H C s turn x a sane st t r = by_truth (has (head s turn) x) (λ b. has (head s turn) x ≡ b → Prefix H C s turn x)
    (λ _ e. either (λ d. straight H C s turn x (λ _. d)) (λ d. let q = turn_of (Some x) C turn t d in around H C s turn x a r q.0 q.1 q.2) (head_of (Some x) s turn sane st e))
    (λ _ e. straight H C s turn x (λ z. never (sym e ∙ z))) refl

-- a use in a turn that begins at the head
turn_use : (H : Through) (C : Course) (s : Marks) (turn : Flow) (x k : ℕ) (p : List Event) (end : End) → Calm H → Prefix H C s turn x → s.reached ≡ true → C p end → UsesUnset x k (has (head s turn) x) p
    → Bad (Loop H C) s k
turn_use H C s turn x k p end a f r c h = by end c
  where
    begun : (z : List Event) → UsesUnset x k (has (head s turn) x) z → UsesUnset x k (has s x) (f.events ++ (a.some ++ z))
    begun z e = uses_right x k (has s x) f.events (a.some ++ z) (after_reads x k (unset_behind x (has s x) f.events) H a z
        (uses_more x k (has (head s turn) x) (unset_behind x (has s x) f.events) z f.unset e))

    again : Goes C p → Bad (Loop H C) s k
    again g = (
      r,
      (
        x,
        f.events ++ (a.some ++ (p ++ a.some)),
        Falls,
        f.goes_on 1 (a.some ++ (p ++ a.some)) Falls (a.some, p ++ a.some, refl, a.is_some, inr (inr (p, a.some, refl, g, (refl, a.is_some)))),
        begun (p ++ a.some) (uses_left x k (has (head s turn) x) p a.some h),
      ),
    )

    by : (how : End) → C p how → Bad (Loop H C) s k
    by Falls g = again (inl g)
    by Continues g = again (inr g)
    by Breaks g = (r, (x, f.events ++ (a.some ++ p), Falls, f.goes_on 1 (a.some ++ p) Falls (a.some, p, refl, a.is_some, inl (refl, g)), begun p h))
    by Leaves g = (r, (x, f.events ++ (a.some ++ p), Leaves, f.goes_on 1 (a.some ++ p) Leaves (a.some, p, refl, a.is_some, inr (inl (refl, g))), begun p h))

pub loop_to : (H : Through) (C : Course) (s : Marks) (turn : Flow) (k : ℕ) → Calm H → Sane s → Sound turn → ((w : Option ℕ) → Tells w C alone turn)
    → SomeUse H (has (head s turn)) k ⊎ Bad C (head s turn) k → Bad (Loop H C) s k
loop_to H C s turn k a sane st t e = either
    (λ (h : SomeUse H (has (head s turn)) k).
    let r = head_reached None s turn sane (sane_head s turn sane st (Some h.0) (uses_quiet h.0 k (has (head s turn) h.0) h.1 (a.quiet h.1 h.2) h.3)) in
    let f = prefix H C s turn h.0 a sane st (t (Some h.0)) r in (
      r,
      (
        h.0,
        f.events ++ h.1,
        Falls,
        f.goes_on 0 h.1 Falls (refl, h.2),
        uses_right h.0 k (has s h.0) f.events h.1 (uses_more h.0 k (has (head s turn) h.0) (unset_behind h.0 (has s h.0) f.events) h.1 f.unset h.3),
      ),
    ))
    (λ (b : Bad C (head s turn) k).
    let c = b.1 in let r = head_reached None s turn sane b.0 in
    turn_use H C s turn c.0 k c.1 c.2 a (prefix H C s turn c.0 a sane st (t (Some c.0)) r) r c.3 c.4) e
