-- What wy_live says of what follows a use is what the paths behind it say.
use Rattle.std.proofs.Common.{◌≡◌, ◌⊎◌, inl, inr, ℕ, Bool, true, not, ◌&&◌, ◌==◌, [], ◌∷◌, ◌++◌, refl, sym, ap, ◌∙◌}
use Rattle.wy_core.specs.CoreTree.{Expr, WhileStmt, Stmts}
use Rattle.wy_lemmas.proofs.Choices.{either}
use Rattle.wy_live.specs.Paths.{occurs, IsLive, AreLive}
use Rattle.wy_live.specs.LastUses.{then_later, assigned_later, updated_later, turn_later, nothing_later, if_later, head_later, test_later}
use Rattle.wy_live.specs.live_paths.Events.{uses, sets, Path, uses_first, Then}
use Rattle.wy_live.specs.live_paths.Through.{AnyTurns, Through, End, falls, breaks, continues, stops, ThroughStmt, ThroughStmts}
use Rattle.wy_live.specs.live_paths.Behind.{Ended, Assigned, Updated, Either, Turned, Follow, Onward, Head, Tested, Forked}
use Rattle.wy_live.proofs.live_paths_lemmas.BoolLemmas.{not_both, not_parts}
use Rattle.wy_live.proofs.live_paths_lemmas.EventLemmas.{first_here, first_behind, first_cases}
use Rattle.wy_live.proofs.live_paths_lemmas.ReadsLemmas.{Reads, empty_first, reads_one, reads_turns, expr_reads}
use Rattle.wy_live.proofs.live_paths_lemmas.TurnLemmas.{Next, Leads, Leading}
use Rattle.wy_live.proofs.live_paths_lemmas.StatementLemmas.{to_path, to_paths, from_path, from_paths, some_path, some_paths}

-- a variable is used later exactly where one of these paths uses it first, and there is one
pub record Agrees (later : ℕ → Type 0) (after : Path → Type 0) : Type 0 where
  pub to : (x : ℕ) → later x → (es : Path) × after es × (uses_first x es ≡ true)
  pub from : (x : ℕ) (es : Path) → after es → uses_first x es ≡ true → later x
  pub some : (es : Path) × after es

pub agrees_ended : Agrees nothing_later Ended
agrees_ended = record { to = λ x z. absurd z; from = λ x es e f. empty_first x es e f; some = ([], refl) }

pub agrees_then : (o : ℕ → Bool) (P : Path → Type 0) → Reads o P → (later : ℕ → Type 0) (after : Path → Type 0) → Agrees later after → Agrees (then_later o later) (Then P after)
agrees_then o P r later after h = record {
  to = λ x l. either
      (λ u. let a = r.found x u in let b = h.some in (a.0 ++ b.0, (a.0, b.0, refl, a.1, b.1), first_here x a.0 b.0 a.2))
      (λ z. let a = r.quiet in let b = h.to x z in (a.0 ++ b.0, (a.0, b.0, refl, a.1, b.1), first_behind x a.0 b.0 (a.2 x) b.2)) l;
  from = λ x es t f. either (λ u. inl (r.only x t.0 t.3 u)) (λ z. inr (h.from x t.1 t.4 z.1)) (first_cases x t.0 t.1 (sym (ap (uses_first x) t.2) ∙ f));
  some = let a = r.quiet in let b = h.some in (a.0 ++ b.0, (a.0, b.0, refl, a.1, b.1));
}

pub agrees_assigned : (y : ℕ) (later : ℕ → Type 0) (after : Path → Type 0) → Agrees later after → Agrees (assigned_later y later) (Assigned y after)
agrees_assigned y later after h = record {
  to = λ x l. let b = h.to x l.1 in (sets y ∷ b.0, (sets y ∷ [], b.0, refl, refl, b.1), not_both (x == y) (uses_first x b.0) l.0 b.2);
  from = λ x es t f.
      let e = t.2 ∙ ap (λ p. p ++ t.1) t.3 in let g = not_parts (x == y) (uses_first x t.1) (sym (ap (uses_first x) e) ∙ f) in (g.0, h.from x t.1 t.4 g.1);
  some = let b = h.some in (sets y ∷ b.0, (sets y ∷ [], b.0, refl, refl, b.1));
}

pub agrees_updated : (y : ℕ) (later : ℕ → Type 0) (after : Path → Type 0) → Agrees later after → Agrees (updated_later y later) (Updated y after)
agrees_updated y later after h = agrees_then (λ x. x == y) (λ p. p ≡ uses y ∷ []) (reads_one y) later after h

pub agrees_turned : (y : ℕ) (body : Expr ℕ) (later : ℕ → Type 0) (after : Path → Type 0) → Agrees later after → Agrees (turn_later y body later) (Turned y body after)
agrees_turned y body later after h =
    let base = agrees_then (λ x. not (x == y) && occurs body x) (AnyTurns y (Through body)) (reads_turns y (occurs body) (Through body) (expr_reads body)) later after h in
    record {
      to = λ x l. base.to x (either (λ k. inl (not_both (x == y) (occurs body x) k.0 k.1)) (λ z. inr z) l);
      from = λ x es t f. either (λ u. inl (not_parts (x == y) (occurs body x) u)) (λ z. inr z) (base.from x es t f);
      some = base.some;
    }

pub agrees_either : (l m : ℕ → Type 0) (P Q : Path → Type 0) → Agrees l P → Agrees m Q → Agrees (λ x. l x ⊎ m x) (Either P Q)
agrees_either l m P Q h k = record {
  to = λ x z. either (λ a. let b = h.to x a in (b.0, inl b.1, b.2)) (λ a. let b = k.to x a in (b.0, inr b.1, b.2)) z;
  from = λ x es t f. either (λ a. inl (h.from x es a f)) (λ a. inr (k.from x es a f)) t;
  some = let b = h.some in (b.0, inl b.1);
}

-- ---- behind each way out

follow_some : (end : End) (later exit again : ℕ → Type 0) (after out more : Path → Type 0) → Agrees later after → Agrees exit out → Agrees again more → (q : Path) × Follow end after out more q
follow_some falls later exit again after out more h k m = h.some
follow_some breaks later exit again after out more h k m = k.some
follow_some continues later exit again after out more h k m = m.some
follow_some stops later exit again after out more h k m = ([], refl)

follow_to : (end : End) (x : ℕ) (later exit again : ℕ → Type 0) (after out more : Path → Type 0) → Agrees later after → Agrees exit out → Agrees again more → Next end (later x) (exit x) (again x) → (q : Path) × Follow end after out more q × (uses_first x q ≡ true)
follow_to falls x later exit again after out more h k m z = h.to x z
follow_to breaks x later exit again after out more h k m z = k.to x z
follow_to continues x later exit again after out more h k m z = m.to x z
follow_to stops x later exit again after out more h k m z = absurd z

follow_from : (end : End) (x : ℕ) (q : Path) (later exit again : ℕ → Type 0) (after out more : Path → Type 0) → Agrees later after → Agrees exit out → Agrees again more → Follow end after out more q → uses_first x q ≡ true → Next end (later x) (exit x) (again x)
follow_from falls x q later exit again after out more h k m t f = h.from x q t f
follow_from breaks x q later exit again after out more h k m t f = k.from x q t f
follow_from continues x q later exit again after out more h k m t f = m.from x q t f
follow_from stops x q later exit again after out more h k m t f = empty_first x q t f

agrees_onward : (through : Path → End → Type 0) (live : ℕ → Type 0 → Type 0 → Type 0 → Type 0) → ((x : ℕ) (A K M : Type 0) → live x A K M → Leading x through A K M) → ((x : ℕ) (A K M : Type 0) (p : Path) (end : End) → through p end → Leads x p end A K M → live x A K M) → ((p : Path) × (end : End) × through p end) → (later exit again : ℕ → Type 0) (after out more : Path → Type 0) → Agrees later after → Agrees exit out → Agrees again more → Agrees (λ x. live x (later x) (exit x) (again x)) (Onward through after out more)
agrees_onward through live to from some later exit again after out more h k m = record {
  to = λ x l.
      let a = to x (later x) (exit x) (again x) l in
      either
      (λ f. let b = follow_some a.1 later exit again after out more h k m in (a.0 ++ b.0, (a.0, b.0, a.1, refl, a.2, b.1), first_here x a.0 b.0 f))
      (λ s. let b = follow_to a.1 x later exit again after out more h k m s.1 in (a.0 ++ b.0, (a.0, b.0, a.1, refl, a.2, b.1), first_behind x a.0 b.0 s.0 b.2)) a.3;
  from = λ x es t f.
      from x (later x) (exit x) (again x) t.0 t.2 t.4
      (either (λ u. inl u) (λ z. inr (z.0, follow_from t.2 x t.1 later exit again after out more h k m t.5 z.1)) (first_cases x t.0 t.1 (sym (ap (uses_first x) t.3) ∙ f)));
  some = let b = follow_some some.1 later exit again after out more h k m in (some.0 ++ b.0, (some.0, b.0, some.1, refl, some.2, b.1));
}

pub agrees_block : (ss : Stmts ℕ) (later exit again : ℕ → Type 0) (after out more : Path → Type 0) → Agrees later after → Agrees exit out → Agrees again more → Agrees (λ x. AreLive ss x (later x) (exit x) (again x)) (Onward (ThroughStmts ss) after out more)
agrees_block ss later exit again after out more h k m =
    agrees_onward (ThroughStmts ss) (λ x A K M. AreLive ss x A K M) (λ x A K M l. to_paths ss x A K M l) (λ x A K M p end t l. from_paths ss x A K M p end t l) (some_paths ss) later exit again after out more h k m

pub agrees_head : (e : Expr ℕ) (body : Stmts ℕ) (later : ℕ → Type 0) (after : Path → Type 0) → Agrees later after → Agrees (head_later e body later) (Head e body after)
agrees_head e body later after h =
    let loop = WhileStmt 0 e [] body in
    agrees_onward (ThroughStmt loop) (λ x A K M. IsLive loop x A K M) (λ x A K M l. to_path loop x A K M l) (λ x A K M p end t l. from_path loop x A K M p end t l) (some_path loop) later nothing_later nothing_later after Ended Ended h agrees_ended agrees_ended

pub agrees_tested : (e : Expr ℕ) (body : Stmts ℕ) (later : ℕ → Type 0) (after : Path → Type 0) → Agrees later after → Agrees (test_later e body later) (Tested e body after)
agrees_tested e body later after h =
    let head = agrees_head e body later after h in
    agrees_either (λ x. AreLive body x (head_later e body later x) (later x) (head_later e body later x)) later (Onward (ThroughStmts body) (Head e body after) after (Head e body after)) after
    (agrees_block body (head_later e body later) later (head_later e body later) (Head e body after) after (Head e body after) head h head) h

pub agrees_forked : (first second : Stmts ℕ) (later exit again : ℕ → Type 0) (after out more : Path → Type 0) → Agrees later after → Agrees exit out → Agrees again more → Agrees (if_later first second later exit again) (Forked first second after out more)
agrees_forked first second later exit again after out more h k m =
    agrees_either (λ x. AreLive first x (later x) (exit x) (again x)) (λ x. AreLive second x (later x) (exit x) (again x)) (Onward (ThroughStmts first) after out more) (Onward (ThroughStmts second) after out more)
    (agrees_block first later exit again after out more h k m) (agrees_block second later exit again after out more h k m)
