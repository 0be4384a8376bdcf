-- Loops: one turn by itself tells what any number of turns leaves.
use Rattle.std.proofs.Common.{◌≡◌, ◌⊎◌, inl, inr, ℕ, zero, suc, Bool, true, false, cond, List, [], ◌∷◌, ◌++◌, Option, Some, None, refl, sym, ap, ◌∙◌, subst}
use Rattle.wy_assign.specs.Paths.{Event, End, Falls, Breaks, Continues, Leaves, Through, Course, Before, Around, Turns, Loop}
use Rattle.wy_assign.specs.Marks.{Marks, has, nowhere, all_set, joined}
use Rattle.wy_assign.specs.Flows.{from_here, alone, head, exit, looped}
use Rattle.wy_assign.specs.declared.flow.Flow.{Flow}
use Rattle.wy_assign.proofs.EventLemmas.{behind, behind_more, behind-append, Quiet, behind_quiet, Reads, behind_reads}
use Rattle.wy_assign.proofs.CalmLemmas.{Calm}
use Rattle.wy_assign.proofs.MarkLemmas.{holds, Sane, sane_nowhere, holds-nowhere, joined_of, joined_to, sane_joined}
use Rattle.wy_assign.proofs.FlowLemmas.{Comes, Tells, Sound, behind-nil, cut, skip_quiet, add_reads, breaks_falls, continues_falls}
use Rattle.wy_lemmas.proofs.Choices.{false_true as never, by_truth, either}

-- ---- the marks of a loop

pub head_reached : (w : Option ℕ) (s : Marks) (turn : Flow) → Sane s → holds w (head s turn) ≡ true → s.reached ≡ true
head_reached w s turn sane = by_truth s.reached (λ b. s.reached ≡ b → holds w (cond b (joined (joined s turn.here) turn.continues) s) ≡ true → s.reached ≡ true)
    (λ _ r h. r) (λ _ r h. sane w h) refl

-- a turn that is left by its end or by `continue`
abbrev pub Turned : Option ℕ → Flow → Type 0
Turned w turn = (holds w turn.here ≡ true) ⊎ (holds w turn.continues ≡ true)

pub head_of : (w : Option ℕ) (s : Marks) (turn : Flow) → Sane s → Sound turn → holds w (head s turn) ≡ true → (holds w s ≡ true) ⊎ Turned w turn
head_of w s turn sane t = by_truth s.reached (λ b. holds w (cond b (joined (joined s turn.here) turn.continues) s) ≡ true → (holds w s ≡ true) ⊎ Turned w turn)
    (λ r h. either (λ k. either (λ l. inl l) (λ l. inr (inl l)) (joined_of w s turn.here sane t.here k)) (λ k. inr (inr k)) (joined_of w (joined s turn.here) turn.continues (sane_joined s turn.here sane t.here) t.continues h))
    (λ r h. inl h)

pub head_to : (w : Option ℕ) (s : Marks) (turn : Flow) → Sane s → Sound turn → s.reached ≡ true → (holds w s ≡ true) ⊎ Turned w turn → holds w (head s turn) ≡ true
head_to w s turn sane t r h = ap (λ b. holds w (cond b (joined (joined s turn.here) turn.continues) s)) r
    ∙ joined_to w (joined s turn.here) turn.continues (sane_joined s turn.here sane t.here) t.continues
    (either (λ k. inl (joined_to w s turn.here sane t.here (inl k))) (λ k. either (λ l. inl (joined_to w s turn.here sane t.here (inr l))) (λ l. inr l) k) h)

pub sane_head : (s : Marks) (turn : Flow) → Sane s → Sound turn → Sane (head s turn)
sane_head s turn sane t w h = head_to None s turn sane t (head_reached w s turn sane h) (inl (head_reached w s turn sane h))

exit_of : (w : Option ℕ) (h b : Marks) → Sane h → Sane b → holds w (exit h b) ≡ true → (h.reached ≡ true) × ((holds w h ≡ true) ⊎ (holds w b ≡ true))
exit_of w h b sh sb = by_truth h.reached (λ t. h.reached ≡ t → holds w (cond t (joined h b) h) ≡ true → (h.reached ≡ true) × ((holds w h ≡ true) ⊎ (holds w b ≡ true)))
    (λ _ r e. (r, joined_of w h b sh sb e)) (λ _ r e. (sh w e, inl e)) refl

exit_to : (w : Option ℕ) (h b : Marks) → Sane h → Sane b → h.reached ≡ true → (holds w h ≡ true) ⊎ (holds w b ≡ true) → holds w (exit h b) ≡ true
exit_to w h b sh sb r e = ap (λ t. holds w (cond t (joined h b) h)) r ∙ joined_to w h b sh sb e

-- ---- a turn by itself

-- what stands behind events stood before them, or stands behind them where nothing stood before
pub split : (w : Option ℕ) (u : Bool) (p : List Event) → behind w u p ≡ true → (u ≡ true) ⊎ (behind w (holds w all_set) p ≡ true)
split None u p h = inl h
split (Some x) true p h = inl refl
split (Some x) false p h = inr h

pub at_least : (w : Option ℕ) (s : Marks) → s.reached ≡ true → holds w all_set ≡ true → holds w s ≡ true
at_least None s r h = r
at_least (Some x) s r h = never h

-- the path goes through a body to its end or to a `continue`
abbrev pub Goes : Course → List Event → Type 0
Goes C q = C q Falls ⊎ C q Continues

pub turn_of : (w : Option ℕ) (C : Course) (turn : Flow) → Tells w C alone turn → Turned w turn → (q : List Event) × Goes C q × (behind w (holds w all_set) q ≡ true)
turn_of w C turn t h = either
    (λ k. let c = t.here_of k in (c.1.0, inl c.1.1, c.1.2))
    (λ k. either (λ l. never (sym (holds-nowhere w) ∙ l)) (λ (c : Comes w C all_set Continues). (c.1.0, inr c.1.1, c.1.2)) (t.continues_of k)) h

pub turn_to : (w : Option ℕ) (C : Course) (turn : Flow) → Tells w C alone turn → (q : List Event) → Goes C q → behind w (holds w all_set) q ≡ true → Turned w turn
turn_to w C turn t q c h = either (λ k. inl (t.here_to (refl, (q, k, h)))) (λ k. inr (t.continues_to (inr (refl, (q, k, h))))) c

break_of : (w : Option ℕ) (C : Course) (turn : Flow) → Tells w C alone turn → holds w turn.breaks ≡ true → (q : List Event) × C q Breaks × (behind w (holds w all_set) q ≡ true)
break_of w C turn t h = either (λ l. never (sym (holds-nowhere w) ∙ l)) (λ (c : Comes w C all_set Breaks). (c.1.0, c.1.1, c.1.2)) (t.breaks_of h)

-- ---- paths through a loop

pub loop_stay : (w : Option ℕ) (H : Through) (C : Course) (s : Marks) → Calm H → Sane s → holds w s ≡ true → Comes w (Loop H C) s Falls
loop_stay w H C s a sane h = (sane w h, (a.some, (0, (refl, a.is_some)), behind_reads w (holds w s) a.some a.reads ∙ h))

loop_turn : (w : Option ℕ) (H : Through) (C : Course) (s : Marks) → Calm H → s.reached ≡ true → (q : List Event) → Goes C q → behind w (holds w all_set) q ≡ true → Comes w (Loop H C) s Falls
loop_turn w H C s a r q c h = (
  r,
  (
    a.some ++ (q ++ a.some),
    (1, (a.some, q ++ a.some, refl, a.is_some, inr (inr (q, a.some, refl, c, (refl, a.is_some))))),
    add_reads w (holds w s) a.some (q ++ a.some) a.reads
        (behind-append w (holds w s) q a.some ∙ behind_reads w (behind w (holds w s) q) a.some a.reads ∙ behind_more w (holds w all_set) (holds w s) q (at_least w s r) h),
  ),
)

loop_break : (w : Option ℕ) (H : Through) (C : Course) (s : Marks) → Calm H → s.reached ≡ true → (q : List Event) → C q Breaks → behind w (holds w all_set) q ≡ true → Comes w (Loop H C) s Falls
loop_break w H C s a r q c h =
    (r, (a.some ++ q, (1, (a.some, q, refl, a.is_some, inl (refl, c))), add_reads w (holds w s) a.some q a.reads (behind_more w (holds w all_set) (holds w s) q (at_least w s r) h)))

-- a loop takes the `break`s and `continue`s in it
pub turns_end : (n : ℕ) (H : Through) (C : Course) (p : List Event) (end : End) → Turns n H C p end → (end ≡ Falls) ⊎ (end ≡ Leaves)
turns_end zero H C p end t = inl t.0
turns_end (suc n) H C p end t = either (λ k. inl k.0) (λ k. either (λ l. inr l.0) (λ l. turns_end n H C l.1 end l.4) k) t.4

no_break : Breaks ≡ Leaves → ⊥
no_break e = absurd (cc)

no_continue : Continues ≡ Leaves → ⊥
no_continue e = absurd (cc)

turns_to : (w : Option ℕ) (n : ℕ) (u : Bool) (H : Through) (C : Course) (turn : Flow) (p : List Event) → Calm H → Tells w C alone turn → Turns n H C p Falls → behind w u p ≡ true
    → (u ≡ true) ⊎ (Turned w turn ⊎ (holds w turn.breaks ≡ true))
turns_to w zero u H C turn p a t k h = inl (behind_quiet w u p (a.quiet p k.1) h)
turns_to w (suc n) u H C turn p a t k h =
    let r : behind w u k.1 ≡ true = skip_quiet w u p k.0 k.1 k.2 (a.quiet k.0 k.3) h in
    either
    (λ b. either (λ e. inl e) (λ e. inr (inr (t.breaks_to (inr (refl, (k.1, b.1, e)))))) (split w u k.1 r))
    (λ m. either (λ l. absurd (falls_not_leaves l.0))
    (λ l. either
    (λ e. either (λ d. inl d) (λ d. inr (inl (turn_to w C turn t l.0 l.3 d))) (split w u l.0 e))
    (λ e. inr e)
    (turns_to w n (behind w u l.0) H C turn l.1 a t l.4 (cut w u k.1 l.0 l.1 l.2 r))) m)
    k.4
  where
    falls_not_leaves : Falls ≡ Leaves → ⊥
    falls_not_leaves e = absurd (cc)

pub loop_tells : (w : Option ℕ) (H : Through) (C : Course) (f turn : Flow) → Calm H → Sound f → Sound turn → Tells w C alone turn → Tells w (Loop H C) f (looped f turn)
loop_tells w H C f turn a sf st t =
    let sh = sane_head f.here turn sf.here st in
    record {
      here_of = λ h.
          let e = exit_of w (head f.here turn) turn.breaks sh st.breaks h in
          let r = head_reached None f.here turn sf.here e.0 in
          either (λ k. either (λ l. loop_stay w H C f.here a sf.here l) (λ l. let q = turn_of w C turn t l in loop_turn w H C f.here a r q.0 q.1 q.2) (head_of w f.here turn sf.here st k))
          (λ k. let q = break_of w C turn t k in loop_break w H C f.here a r q.0 q.1 q.2) e.1;
      here_to = λ c. exit_to w (head f.here turn) turn.breaks sh st.breaks (head_to None f.here turn sf.here st c.0 (inl c.0))
          (either (λ e. inl (head_to w f.here turn sf.here st c.0 (inl e))) (λ e. either (λ d. inl (head_to w f.here turn sf.here st c.0 (inr d))) (λ d. inr d) e)
          (turns_to w c.1.1.0 (holds w f.here) H C turn c.1.0 a t c.1.1.1 c.1.2));
      breaks_of = λ h. inl h;
      breaks_to = λ h. either (λ e. e) (λ (c : Comes w (Loop H C) f.here Breaks). either (λ e. absurd (breaks_falls e)) (λ e. absurd (no_break e)) (turns_end c.1.1.0 H C c.1.0 Breaks c.1.1.1)) h;
      continues_of = λ h. inl h;
      continues_to = λ h. either (λ e. e) (λ (c : Comes w (Loop H C) f.here Continues). either (λ e. absurd (continues_falls e)) (λ e. absurd (no_continue e)) (turns_end c.1.1.0 H C c.1.0 Continues c.1.1.1)) h;
    }
