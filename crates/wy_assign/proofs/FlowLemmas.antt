-- The flow of a statement says exactly what its paths leave.
use Rattle.std.proofs.Common.{◌≡◌, ◌⊎◌, inl, inr, ℕ, zero, suc, Bool, true, false, ◌||◌, cond, List, [], ◌∷◌, ◌++◌, Option, Some, None, refl, sym, ap, ◌∙◌, subst}
use Rattle.wy_core.specs.CoreTree.{Expr, Step, Stmt, DeclareStmt, AssignStmt, CallStmt, ReturnStmt, AssertStmt, BreakStmt, ContinueStmt, SkipStmt, FailStmt, IfStmt, WhileStmt, Stmts, NoStmts, MoreStmts}
use Rattle.wy_assign.specs.Paths.{Event, Uses, Sets, Unsets, End, Falls, Breaks, Continues, Leaves, Through, Course, Nothing, One, Then, ExprPath, ExprsPath, ClausesPath, OptionPath, StepsPath, Ending, Before, Either, falls, InOrder, Around, Turns, Loop, AssignPath, DeclarePath, StmtPath, StmtsPath}
use Rattle.wy_assign.specs.Marks.{Marks, has, nowhere, all_set, assigned, declared, joined}
use Rattle.wy_assign.specs.Flows.{from_here, alone, declared_here, assigned_here, left, broken, continued, otherwise, rejoined, head, exit, looped, flow, flow_all}
use Rattle.wy_assign.specs.declared.flow.Flow.{Flow}
use Rattle.wy_assign.proofs.EventLemmas.{behind, behind_more, behind-append, Quiet, behind_quiet, Reads, behind_reads}
use Rattle.wy_assign.proofs.CalmLemmas.{Calm, calm_one, calm_then, calm_expr, calm_exprs, calm_clauses, calm_option, calm_steps, calm_nothing}
use Rattle.wy_assign.proofs.MarkLemmas.{holds, Sane, sane_nowhere, sane_all, holds-nowhere, dead, holds-assigned, holds-declared, dead-declared, joined_of, joined_to, sane_joined}
use Rattle.wy_lemmas.proofs.Choices.{false_true as never, by_truth, either}

-- a path leads from the marks to this end and leaves what is watched
abbrev pub Comes : Option ℕ → Course → Marks → End → Type 0
Comes w C s end = (s.reached ≡ true) × ((p : List Event) × C p end × (behind w (holds w s) p ≡ true))

-- the flow g behind f says what the paths leave
pub record Tells (w : Option ℕ) (C : Course) (f g : Flow) : Type 0 where
  pub here_of : holds w g.here ≡ true → Comes w C f.here Falls
  pub here_to : Comes w C f.here Falls → holds w g.here ≡ true
  pub breaks_of : holds w g.breaks ≡ true → (holds w f.breaks ≡ true) ⊎ Comes w C f.here Breaks
  pub breaks_to : (holds w f.breaks ≡ true) ⊎ Comes w C f.here Breaks → holds w g.breaks ≡ true
  pub continues_of : holds w g.continues ≡ true → (holds w f.continues ≡ true) ⊎ Comes w C f.here Continues
  pub continues_to : (holds w f.continues ≡ true) ⊎ Comes w C f.here Continues → holds w g.continues ≡ true

pub record Sound (f : Flow) : Type 0 where
  pub here : Sane f.here
  pub breaks : Sane f.breaks
  pub continues : Sane f.continues

pub sound_from : (s : Marks) → Sane s → Sound (from_here s)
sound_from s h = record { here = h; breaks = sane_nowhere; continues = sane_nowhere }

pub sound_alone : Sound alone
sound_alone = sound_from all_set sane_all

pub told_sound : (C : Course) (f g : Flow) → Sound f → ((w : Option ℕ) → Tells w C f g) → Sound g
told_sound C f g s t = record {
  here = λ w h. (t None).here_to (let c = (t w).here_of h in (c.0, (c.1.0, c.1.1, c.0)));
  breaks = λ w h. (t None).breaks_to (either (λ e. inl (s.breaks w e)) (λ (c : Comes w C f.here Breaks). inr (c.0, (c.1.0, c.1.1, c.0))) ((t w).breaks_of h));
  continues = λ w h. (t None).continues_to (either (λ e. inl (s.continues w e)) (λ (c : Comes w C f.here Continues). inr (c.0, (c.1.0, c.1.1, c.0))) ((t w).continues_of h));
}

-- ---- ends differ

pub breaks_falls : Breaks ≡ Falls → ⊥
breaks_falls e = absurd (cc)

pub continues_falls : Continues ≡ Falls → ⊥
continues_falls e = absurd (cc)

falls_leaves : Falls ≡ Leaves → ⊥
falls_leaves e = absurd (cc)

breaks_leaves : Breaks ≡ Leaves → ⊥
breaks_leaves e = absurd (cc)

continues_leaves : Continues ≡ Leaves → ⊥
continues_leaves e = absurd (cc)

falls_breaks : Falls ≡ Breaks → ⊥
falls_breaks e = absurd (cc)

continues_breaks : Continues ≡ Breaks → ⊥
continues_breaks e = absurd (cc)

falls_continues : Falls ≡ Continues → ⊥
falls_continues e = absurd (cc)

breaks_continues : Breaks ≡ Continues → ⊥
breaks_continues e = absurd (cc)

-- ---- paths that begin quietly

pub behind-nil : (w : Option ℕ) (u : Bool) → behind w u [] ≡ u
behind-nil None u = refl
behind-nil (Some x) u = refl

pub cut : (w : Option ℕ) (u : Bool) (p q r : List Event) → p ≡ q ++ r → behind w u p ≡ true → behind w (behind w u q) r ≡ true
cut w u p q r e h = sym (behind-append w u q r) ∙ sym (ap (λ z. behind w u z) e) ∙ h

pub skip_quiet : (w : Option ℕ) (u : Bool) (p q r : List Event) → p ≡ q ++ r → Quiet q → behind w u p ≡ true → behind w u r ≡ true
skip_quiet w u p q r e k h = behind_more w (behind w u q) u r (behind_quiet w u q k) (cut w u p q r e h)

pub add_reads : (w : Option ℕ) (u : Bool) (q r : List Event) → Reads q → behind w u r ≡ true → behind w u (q ++ r) ≡ true
add_reads w u q r k h = behind-append w u q r ∙ ap (λ z. behind w z r) (behind_reads w u q k) ∙ h

-- ---- statements with one end

falling : (w : Option ℕ) (C : Course) (f : Flow) (s : Marks) → ((p : List Event) (end : End) → C p end → end ≡ Falls)
    → (holds w s ≡ true → Comes w C f.here Falls) → (Comes w C f.here Falls → holds w s ≡ true) → Tells w C f (record f { here = s })
falling w C f s only of to = record {
  here_of = of;
  here_to = to;
  breaks_of = λ h. inl h;
  breaks_to = λ h. either (λ e. e) (λ (c : Comes w C f.here Breaks). absurd (breaks_falls (only c.1.0 Breaks c.1.1))) h;
  continues_of = λ h. inl h;
  continues_to = λ h. either (λ e. e) (λ (c : Comes w C f.here Continues). absurd (continues_falls (only c.1.0 Continues c.1.1))) h;
}

pub calm_tells : (w : Option ℕ) (A : Through) (f : Flow) → Calm A → Sane f.here → Tells w (Ending Falls A) f f
calm_tells w A f a sane = falling w (Ending Falls A) f f.here (λ p end c. c.0)
    (λ h. (sane w h, (a.some, (refl, a.is_some), behind_reads w (holds w f.here) a.some a.reads ∙ h)))
    (λ c. behind_quiet w (holds w f.here) c.1.0 (a.quiet c.1.0 c.1.1.1) c.1.2)

set_tells : (w : Option ℕ) (x : ℕ) (f : Flow) → Sane f.here → Tells w (Ending Falls (One (Sets x))) f (record f { here = assigned f.here x })
set_tells w x f sane = falling w (Ending Falls (One (Sets x))) f (assigned f.here x) (λ p end c. c.0)
    (λ h. let b : behind w (holds w f.here) (Sets x ∷ []) ≡ true = sym (holds-assigned w f.here x) ∙ h in
    (sane w (behind_quiet w (holds w f.here) (Sets x ∷ []) tt b), (Sets x ∷ [], (refl, refl), b)))
    (λ c. holds-assigned w f.here x ∙ subst (λ z. behind w (holds w f.here) z ≡ true) c.1.1.1 c.1.2)

pub unset_tells : (w : Option ℕ) (x : ℕ) (f : Flow) → Sane f.here → Tells w (Ending Falls (One (Unsets x))) f (record f { here = declared f.here x })
unset_tells w x f sane = falling w (Ending Falls (One (Unsets x))) f (declared f.here x) (λ p end c. c.0)
    (λ h. by_truth f.here.reached (λ t. f.here.reached ≡ t → Comes w (Ending Falls (One (Unsets x))) f.here Falls)
    (λ _ r. (r, (Unsets x ∷ [], (refl, refl), sym (holds-declared w f.here x r) ∙ h)))
    (λ _ r. never (sym (dead-declared w f.here x sane r) ∙ h)) refl)
    (λ c. holds-declared w f.here x c.0 ∙ subst (λ z. behind w (holds w f.here) z ≡ true) c.1.1.1 c.1.2)

pub left_tells : (w : Option ℕ) (A : Through) (f : Flow) → Tells w (Ending Leaves A) f (left f)
left_tells w A f = record {
  here_of = λ h. never (sym (holds-nowhere w) ∙ h);
  here_to = λ c. absurd (falls_leaves c.1.1.0);
  breaks_of = λ h. inl h;
  breaks_to = λ h. either (λ e. e) (λ (c : Comes w (Ending Leaves A) f.here Breaks). absurd (breaks_leaves c.1.1.0)) h;
  continues_of = λ h. inl h;
  continues_to = λ h. either (λ e. e) (λ (c : Comes w (Ending Leaves A) f.here Continues). absurd (continues_leaves c.1.1.0)) h;
}

pub broken_tells : (w : Option ℕ) (f : Flow) → Sound f → Tells w (Ending Breaks Nothing) f (broken f)
broken_tells w f s = record {
  here_of = λ h. never (sym (holds-nowhere w) ∙ h);
  here_to = λ c. absurd (falls_breaks c.1.1.0);
  breaks_of = λ h. either (λ e. inl e) (λ e. inr (s.here w e, ([], (refl, refl), behind-nil w (holds w f.here) ∙ e))) (joined_of w f.breaks f.here s.breaks s.here h);
  breaks_to = λ h. joined_to w f.breaks f.here s.breaks s.here (either (λ e. inl e)
      (λ (c : Comes w (Ending Breaks Nothing) f.here Breaks). inr (sym (behind-nil w (holds w f.here)) ∙ subst (λ z. behind w (holds w f.here) z ≡ true) c.1.1.1 c.1.2)) h);
  continues_of = λ h. inl h;
  continues_to = λ h. either (λ e. e) (λ (c : Comes w (Ending Breaks Nothing) f.here Continues). absurd (continues_breaks c.1.1.0)) h;
}

pub continued_tells : (w : Option ℕ) (f : Flow) → Sound f → Tells w (Ending Continues Nothing) f (continued f)
continued_tells w f s = record {
  here_of = λ h. never (sym (holds-nowhere w) ∙ h);
  here_to = λ c. absurd (falls_continues c.1.1.0);
  breaks_of = λ h. inl h;
  breaks_to = λ h. either (λ e. e) (λ (c : Comes w (Ending Continues Nothing) f.here Breaks). absurd (breaks_continues c.1.1.0)) h;
  continues_of = λ h. either (λ e. inl e) (λ e. inr (s.here w e, ([], (refl, refl), behind-nil w (holds w f.here) ∙ e))) (joined_of w f.continues f.here s.continues s.here h);
  continues_to = λ h. joined_to w f.continues f.here s.continues s.here (either (λ e. inl e)
      (λ (c : Comes w (Ending Continues Nothing) f.here Continues). inr (sym (behind-nil w (holds w f.here)) ∙ subst (λ z. behind w (holds w f.here) z ≡ true) c.1.1.1 c.1.2)) h);
}

-- ---- one thing behind another

tells_map : (w : Option ℕ) (C D : Course) (f g : Flow) → ((end : End) → Comes w C f.here end → Comes w D f.here end) → ((end : End) → Comes w D f.here end → Comes w C f.here end)
    → Tells w C f g → Tells w D f g
tells_map w C D f g of to t = record {
  here_of = λ h. of Falls (t.here_of h);
  here_to = λ c. t.here_to (to Falls c);
  breaks_of = λ h. either (λ e. inl e) (λ c. inr (of Breaks c)) (t.breaks_of h);
  breaks_to = λ h. t.breaks_to (either (λ e. inl e) (λ c. inr (to Breaks c)) h);
  continues_of = λ h. either (λ e. inl e) (λ c. inr (of Continues c)) (t.continues_of h);
  continues_to = λ h. t.continues_to (either (λ e. inl e) (λ c. inr (to Continues c)) h);
}

pub before_tells : (w : Option ℕ) (A : Through) (C : Course) (f g : Flow) → Calm A → Tells w C f g → Tells w (Before A C) f g
before_tells w A C f g a t = tells_map w C (Before A C) f g
    (λ end c. (c.0, (a.some ++ c.1.0, (a.some, c.1.0, refl, a.is_some, c.1.1), add_reads w (holds w f.here) a.some c.1.0 a.reads c.1.2)))
    (λ end c. let s = c.1.1 in (c.0, (s.1, s.4, skip_quiet w (holds w f.here) c.1.0 s.0 s.1 s.2 (a.quiet s.0 s.3) c.1.2))) t

pub value_tells : (w : Option ℕ) (A : Through) (x : ℕ) (f : Flow) → Calm A → Sane f.here → Tells w (Ending Falls (Then A (One (Sets x)))) f (record f { here = assigned f.here x })
value_tells w A x f a sane = tells_map w (Before A (Ending Falls (One (Sets x)))) (Ending Falls (Then A (One (Sets x)))) f (record f { here = assigned f.here x })
    (λ end c. let s = c.1.1 in (c.0, (c.1.0, (s.4.0, (s.0, s.1, s.2, s.3, s.4.1)), c.1.2)))
    (λ end c. let s = c.1.1 in (c.0, (c.1.0, (s.1.0, s.1.1, s.1.2, s.1.3, (s.0, s.1.4)), c.1.2)))
    (before_tells w A (Ending Falls (One (Sets x))) f (record f { here = assigned f.here x }) a (set_tells w x f sane))

pub either_tells : (w : Option ℕ) (C D : Course) (f g h : Flow) → Sane g.here → Sane h.here → Tells w C f g → Tells w D (otherwise f.here g) h
    → Tells w (Either C D) f (rejoined g.here h)
either_tells w C D f g h sg sh t u = record {
  here_of = λ e. either (λ k. in_first Falls (t.here_of k)) (λ k. in_second Falls (u.here_of k)) (joined_of w g.here h.here sg sh e);
  here_to = λ c. joined_to w g.here h.here sg sh (apart Falls c (holds w g.here ≡ true) (holds w h.here ≡ true) t.here_to u.here_to);
  breaks_of = λ e. either (λ k. either (λ l. inl l) (λ c. inr (in_first Breaks c)) (t.breaks_of k)) (λ c. inr (in_second Breaks c)) (u.breaks_of e);
  breaks_to = λ e. u.breaks_to (either (λ l. inl (t.breaks_to (inl l)))
      (λ c. apart Breaks c (holds w g.breaks ≡ true) (Comes w D f.here Breaks) (λ k. t.breaks_to (inr k)) (λ k. k)) e);
  continues_of = λ e. either (λ k. either (λ l. inl l) (λ c. inr (in_first Continues c)) (t.continues_of k)) (λ c. inr (in_second Continues c)) (u.continues_of e);
  continues_to = λ e. u.continues_to (either (λ l. inl (t.continues_to (inl l)))
      (λ c. apart Continues c (holds w g.continues ≡ true) (Comes w D f.here Continues) (λ k. t.continues_to (inr k)) (λ k. k)) e);
}
  where
    in_first : (end : End) → Comes w C f.here end → Comes w (Either C D) f.here end
    in_first end c = (c.0, (c.1.0, inl c.1.1, c.1.2))

    in_second : (end : End) → Comes w D f.here end → Comes w (Either C D) f.here end
    in_second end c = (c.0, (c.1.0, inr c.1.1, c.1.2))

    apart : (end : End) → Comes w (Either C D) f.here end → (X Y : Type 0) → (Comes w C f.here end → X) → (Comes w D f.here end → Y) → X ⊎ Y
    apart end c X Y of to = either (λ k. inl (of (c.0, (c.1.0, k, c.1.2)))) (λ k. inr (to (c.0, (c.1.0, k, c.1.2)))) c.1.1

-- the second begins where the first falls
next_of : (w : Option ℕ) (C D : Course) (f g : Flow) (end : End) → Tells w C f g → Tells None C f g → Comes w D g.here end → Comes w (InOrder C D) f.here end
next_of w C D f g end t n d = by_truth (holds w g.here) (λ b. holds w g.here ≡ b → Comes w (InOrder C D) f.here end)
    (λ _ e. let c = t.here_of e in joint c.1.0 c.0 c.1.1 (subst (λ z. behind w z d.1.0 ≡ true) (e ∙ sym c.1.2) d.1.2))
    (λ _ e. let c = n.here_of d.0 in
    joint c.1.0 c.0 c.1.1 (behind_more w false (behind w (holds w f.here) c.1.0) d.1.0 (λ z. never z) (subst (λ z. behind w z d.1.0 ≡ true) e d.1.2))) refl
  where
    joint : (q : List Event) → f.here.reached ≡ true → C q Falls → behind w (behind w (holds w f.here) q) d.1.0 ≡ true → Comes w (InOrder C D) f.here end
    joint q r c h = (r, (q ++ d.1.0, inr (q, d.1.0, refl, c, d.1.1), behind-append w (holds w f.here) q d.1.0 ∙ h))

next_to : (w : Option ℕ) (C D : Course) (f g : Flow) (end : End) (p q r : List Event) → Tells w C f g → Tells None C f g → f.here.reached ≡ true → p ≡ q ++ r → C q Falls → D r end
    → behind w (holds w f.here) p ≡ true → Comes w D g.here end
next_to w C D f g end p q r t n reached e c d h = (
  n.here_to (reached, (q, c, reached)),
  (r, d, behind_more w (behind w (holds w f.here) q) (holds w g.here) r (λ k. t.here_to (reached, (q, c, k))) (cut w (holds w f.here) p q r e h)),
)

pub in_order_tells : (w : Option ℕ) (C D : Course) (f g h : Flow) → Tells w C f g → Tells None C f g → Tells w D g h → Tells w (InOrder C D) f h
in_order_tells w C D f g h t n u = record {
  here_of = λ e. next_of w C D f g Falls t n (u.here_of e);
  here_to = λ c. u.here_to (either (λ k. never (sym k.0)) (λ k. next_to w C D f g Falls c.1.0 k.0 k.1 t n c.0 k.2 k.3 k.4 c.1.2) c.1.1);
  breaks_of = λ e. either (λ k. either (λ l. inl l) (λ (c : Comes w C f.here Breaks). inr (c.0, (c.1.0, inl (refl, c.1.1), c.1.2))) (t.breaks_of k)) (λ d. inr (next_of w C D f g Breaks t n d)) (u.breaks_of e);
  breaks_to = λ e. u.breaks_to (either (λ l. inl (t.breaks_to (inl l)))
      (λ (c : Comes w (InOrder C D) f.here Breaks). either (λ k. inl (t.breaks_to (inr (c.0, (c.1.0, k.1, c.1.2))))) (λ k. inr (next_to w C D f g Breaks c.1.0 k.0 k.1 t n c.0 k.2 k.3 k.4 c.1.2)) c.1.1) e);
  continues_of = λ e. either (λ k. either (λ l. inl l) (λ (c : Comes w C f.here Continues). inr (c.0, (c.1.0, inl (refl, c.1.1), c.1.2))) (t.continues_of k)) (λ d. inr (next_of w C D f g Continues t n d)) (u.continues_of e);
  continues_to = λ e. u.continues_to (either (λ l. inl (t.continues_to (inl l)))
      (λ (c : Comes w (InOrder C D) f.here Continues). either (λ k. inl (t.continues_to (inr (c.0, (c.1.0, k.1, c.1.2))))) (λ k. inr (next_to w C D f g Continues c.1.0 k.0 k.1 t n c.0 k.2 k.3 k.4 c.1.2)) c.1.1) e);
}
