-- What a path leads to, and paths through the turns of a loop.
use Rattle.std.proofs.Common.{◌≡◌, ◌⊎◌, inl, inr, ℕ, zero, suc, true, [], ◌++◌, refl, sym, ap, ◌∙◌, subst}
use Rattle.wy_core.specs.CoreTree.{Expr}
use Rattle.wy_lemmas.proofs.Choices.{either}
use Rattle.wy_live.specs.Paths.{occurs, Turns}
use Rattle.wy_live.specs.live_paths.Events.{Path, uses_first}
use Rattle.wy_live.specs.live_paths.Through.{Through, End, falls, breaks, continues, stops, ThroughTurns}
use Rattle.wy_live.proofs.live_paths_lemmas.EventLemmas.{passes, first_here, first_behind, first_cases, passes_both, passes_parts}
use Rattle.wy_live.proofs.live_paths_lemmas.ReadsLemmas.{empty_first, expr_reads}

-- what is so behind each way out: of the end, of a `break`, of a `continue`
abbrev pub Next : End → Type 0 → Type 0 → Type 0 → Type 0
Next falls A K M = A
Next breaks A K M = K
Next continues A K M = M
Next stops A K M = ⊥

-- the path uses the variable first, or it doesn't assign it and what is behind its way out is so
abbrev pub Leads : ℕ → Path → End → Type 0 → Type 0 → Type 0 → Type 0
Leads x p end A K M = (uses_first x p ≡ true) ⊎ ((passes x p ≡ true) × Next end A K M)

abbrev pub Leading : ℕ → (Path → End → Type 0) → Type 0 → Type 0 → Type 0 → Type 0
Leading x through A K M = (p : Path) × (end : End) × through p end × Leads x p end A K M

pub leads_on : (x : ℕ) (p q r : Path) (end : End) (A K M : Type 0) → r ≡ p ++ q → Leads x r end A K M → (uses_first x p ≡ true) ⊎ ((passes x p ≡ true) × Leads x q end A K M)
leads_on x p q r end A K M e (inl f) = either (λ u. inl u) (λ z. inr (z.0, inl z.1)) (first_cases x p q (sym (ap (uses_first x) e) ∙ f))
leads_on x p q r end A K M e (inr k) = let s = passes_parts x p q (sym (ap (passes x) e) ∙ k.0) in inr (s.0, inr (s.1, k.1))

pub on_leads : (x : ℕ) (p q : Path) (end : End) (A K M : Type 0) → (uses_first x p ≡ true) ⊎ ((passes x p ≡ true) × Leads x q end A K M) → Leads x (p ++ q) end A K M
on_leads x p q end A K M (inl f) = inl (first_here x p q f)
on_leads x p q end A K M (inr k) = either (λ f. inl (first_behind x p q k.0 f)) (λ s. inr (passes_both x p q k.0 s.0, s.1)) k.1

-- nothing happens
pub empty_leads : (x : ℕ) (p : Path) (end last : End) (A K M : Type 0) → p ≡ [] → end ≡ last → Leads x p end A K M → Next last A K M
empty_leads x p end last A K M e is (inl f) = empty_first x p e f
empty_leads x p end last A K M e is (inr s) = subst (λ z. Next z A K M) is s.1

-- ---- turns

-- a path through some turns of the loop
abbrev pub Looping : Expr ℕ → (Path → End → Type 0) → Path → End → Type 0
Looping e through p end = (n : ℕ) × ThroughTurns n (Through e) through p end

-- behind a turn that goes on to the test
again_to : (e : Expr ℕ) (through : Path → End → Type 0) (x : ℕ) (A K M T : Type 0) (p r : Path) → Through e p → passes x p ≡ true → (through r falls ⊎ through r continues) → (uses_first x r ≡ true) ⊎ ((passes x r ≡ true) × T) → (T → Leading x (Looping e through) A K M) → Leading x (Looping e through) A K M
again_to e through x A K M T p r a s t (inl f) go =
    let b = (expr_reads e).quiet in
    (p ++ (r ++ b.0), falls, (1, (p, r ++ b.0, refl, a, inl (r, b.0, refl, t, (b.1, refl)))), inl (first_behind x p (r ++ b.0) s (first_here x r b.0 f)))
again_to e through x A K M T p r a s t (inr k) go =
    let b = go k.1 in (
      p ++ (r ++ b.0),
      b.1,
      (suc b.2.0, (p, r ++ b.0, refl, a, inl (r, b.0, refl, t, b.2.1))),
      on_leads x p (r ++ b.0) b.1 A K M (inr (s, on_leads x r b.0 b.1 A K M (inr (k.0, b.3)))),
    )

turn_to : (e : Expr ℕ) (through : Path → End → Type 0) (x : ℕ) (A K M T : Type 0) (p r : Path) (end : End) → Through e p → passes x p ≡ true → through r end → Leads x r end T A T → (T → Leading x (Looping e through) A K M) → Leading x (Looping e through) A K M
turn_to e through x A K M T p r falls a s t l go = again_to e through x A K M T p r a s (inl t) l go
turn_to e through x A K M T p r breaks a s t l go = (p ++ r, falls, (1, (p, r, refl, a, inr (inl (t, refl)))), on_leads x p r falls A K M (inr (s, l)))
turn_to e through x A K M T p r continues a s t l go = again_to e through x A K M T p r a s (inr t) l go
turn_to e through x A K M T p r stops a s t l go = (p ++ r, stops, (1, (p, r, refl, a, inr (inr (t, refl)))), on_leads x p r stops A K M (inr (s, l)))

-- the test alone
test_to : (e : Expr ℕ) (through : Path → End → Type 0) (x : ℕ) (A K M : Type 0) → occurs e x ≡ true → Leading x (Looping e through) A K M
test_to e through x A K M u = let a = (expr_reads e).found x u in (a.0, falls, (0, (a.1, refl)), inl a.2)

pub turns_to : (n : ℕ) (e : Expr ℕ) (f : Type 0 → Type 0 → Type 0 → Type 0) (through : Path → End → Type 0) (x : ℕ) (A K M : Type 0) → ((C I D : Type 0) → f C I D → Leading x through C I D) → Turns n (occurs e x) (λ next. f next A next) A → Leading x (Looping e through) A K M
turns_to zero e f through x A K M go (inl u) = test_to e through x A K M u
turns_to zero e f through x A K M go (inr z) = let a = (expr_reads e).quiet in (a.0, falls, (0, (a.1, refl)), inr (a.2 x, z))
turns_to (suc n) e f through x A K M go (inl u) = test_to e through x A K M u
turns_to (suc n) e f through x A K M go (inr z) =
    let T = Turns n (occurs e x) (λ next. f next A next) A in let a = (expr_reads e).quiet in let b = go T A T z in
    turn_to e through x A K M T a.0 b.0 b.1 a.1 (a.2 x) b.2 b.3 (λ t. turns_to n e f through x A K M go t)

-- behind a turn that goes on to the test, what the test leads to
again_from : (f : Type 0 → Type 0 → Type 0 → Type 0) (through : Path → End → Type 0) (x : ℕ) (A T : Type 0) → ((C I D : Type 0) (p : Path) (end : End) → through p end → Leads x p end C I D → f C I D) → (r : Path) → (through r falls ⊎ through r continues) → (uses_first x r ≡ true) ⊎ ((passes x r ≡ true) × T) → f T A T
again_from f through x A T go r (inl t) l = go T A T r falls t l
again_from f through x A T go r (inr t) l = go T A T r continues t l

-- behind a turn that a path leaves so
away_from : (f : Type 0 → Type 0 → Type 0 → Type 0) (through : Path → End → Type 0) (x : ℕ) (A K M T : Type 0) → ((C I D : Type 0) (p : Path) (end : End) → through p end → Leads x p end C I D → f C I D) → (q : Path) (end : End) → ((through q breaks × (end ≡ falls)) ⊎ (through q stops × (end ≡ stops))) → Leads x q end A K M → f T A T
away_from f through x A K M T go q end (inl t) l = go T A T q breaks t.0 (either (λ u. inl u) (λ k. inr (k.0, subst (λ z. Next z A K M) t.1 k.1)) l)
away_from f through x A K M T go q end (inr t) l = go T A T q stops t.0 (either (λ u. inl u) (λ k. inr (k.0, subst (λ z. Next z A K M) t.1 k.1)) l)

pub turns_from : (n : ℕ) (e : Expr ℕ) (f : Type 0 → Type 0 → Type 0 → Type 0) (through : Path → End → Type 0) (x : ℕ) (A K M : Type 0) → ((C I D : Type 0) (p : Path) (end : End) → through p end → Leads x p end C I D → f C I D) → (p : Path) (end : End) → ThroughTurns n (Through e) through p end → Leads x p end A K M → Turns n (occurs e x) (λ next. f next A next) A
turns_from zero e f through x A K M go p end t l = either (λ u. inl ((expr_reads e).only x p t.0 u)) (λ s. inr (subst (λ z. Next z A K M) t.1 s.1)) l
turns_from (suc n) e f through x A K M go p end t l =
    let T = Turns n (occurs e x) (λ next. f next A next) A in
    either (λ u. inl ((expr_reads e).only x t.0 t.3 u))
    (λ k. inr (either
    (λ w. again_from f through x A T go w.0 w.3
    (either (λ u. inl u) (λ j. inr (j.0, turns_from n e f through x A K M go w.1 end w.4 j.1)) (leads_on x w.0 w.1 t.1 end A K M w.2 k.1)))
    (λ w. away_from f through x A K M T go t.1 end w k.1) t.4)) (leads_on x t.0 t.1 p end A K M t.2 l)
