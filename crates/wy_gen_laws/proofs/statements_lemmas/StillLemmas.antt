-- How a run goes on behind a contract, which spends no tick and prints nothing.
use Rattle.std.proofs.Common.{◌≡◌, ℕ, List, [], ◌∷◌, Option, Some, None, refl, sym, ◌∙◌, subst, arith}
use Rattle.wy_value.specs.Datum.{Datum}
use Rattle.wy_core.specs.Types.{Ty}
use Rattle.wy_core.specs.CoreTree.{Expr, Output}
use Rattle.wy_term.specs.declared.cond.CondKind.{CondKind}
use Rattle.wy_term.specs.declared.cond.CondKind.TheVariants as kind
use Rattle.wy_core.specs.formed.Wholes.{EachClause}
use Rattle.wy_code.specs.declared.routines.Code.{Code}
use Rattle.wy_vc_spec.specs.wy_sem.Meter.{Meter, Outcome, Done, Fault, More, Spent, Run, ◌>>=◌, check}
use Rattle.wy_vc_spec.specs.wy_sem.Expressions.{Store, Setting, node, holds, clauses}
use Rattle.wy_vc_spec.specs.wy_sem.TypeTests.{Test, set_if}
use Rattle.wy_vc_spec.specs.wy_sem.Statements as sem
use Rattle.wy_vc_spec.specs.wy_sem.Statements.{Exit, Gave, given, leave}
use Rattle.wy_code_spec.specs.step.Step.{State, Caller}
use Rattle.wy_gen_laws.specs.Follows.{Follows, at_place}
use Rattle.wy_gen_laws.proofs.FollowLemmas.{follows_check}
use Rattle.wy_gen_laws.specs.statements.Still.{Stays, IsStill, IsStillTy}
use Rattle.wy_gen_laws.specs.statements.Led.{FrameStays}

-- only the ticks of the first meter count
pub follows_meter : {X : Type 0} (code : Code) (wide lo hi : ℕ) (m k : Meter) (st : State) (o : Outcome X) (Q : X → Meter → State → Type 0) → k.ticks ≡ m.ticks → Follows code wide lo hi k st o Q → Follows code wide lo hi m st o Q
follows_meter code wide lo hi m k st (Done x l) Q e h = record { steps = h.steps; spent = h.spent; total = sym e ∙ h.total; least = h.least; most = h.most; there = h.there }
follows_meter code wide lo hi m k st (Fault at kind l) Q e h = tt
follows_meter code wide lo hi m k st (More l) Q e h = record { steps = h.steps; least = let t = h.least in omega (arith, t, e); most = let t = h.most in omega (arith, t, e); going = h.going }
follows_meter code wide lo hi m k st Spent Q e h = tt

module _ (code : Code) (wide lo hi f at : ℕ) (regs : Store) (callers : List Caller) where
  -- the state of the frame, with what a meter has printed
  abbrev pub here : Meter → State
  here m = at_place f at regs callers m.output

  -- behind a run that stays
  pub follows_still : {X Y : Type 0} (m : Meter) (o : Outcome X) (next : X → Run Y) (Q : Y → Meter → State → Type 0) → Stays m o
      → ((x : X) (k : Meter) → k.ticks ≡ m.ticks → Follows code wide lo hi k (here k) (next x k) Q) → Follows code wide lo hi m (here m) (o >>= next) Q
  follows_still m (Done x k) next Q s h =
      follows_meter code wide lo hi m k (here m) (next x k) Q s.0 (subst (λ (w : List ℕ). Follows code wide lo hi k (at_place f at regs callers w) (next x k) Q) s.1 (h x k s.0))
  follows_still m (Fault kind place k) next Q s h = tt
  follows_still m (More k) next Q s h = absurd s
  follows_still m Spent next Q s h = tt

  -- behind a value that is given a type
  pub follows_given : {X : Type 0} (member : Ty → Datum → Test) (m : Meter) (place : ℕ) (t : Ty) (v : Datum) (next : Run X) (Q : X → Meter → State → Type 0) → IsStillTy member t
      → ((k : Meter) → k.ticks ≡ m.ticks → Follows code wide lo hi k (here k) (next k) Q) → Follows code wide lo hi m (here m) (given member place t v next m) Q
  follows_given member m place t v next Q s h =
      follows_still m (member t v m) (λ b. check b kind.Member place next) Q ((s v).stays m)
      (λ b k e. follows_check code wide lo hi k (here k) b kind.Member place next Q (λ ok. h k e))

  -- behind clauses
  pub follows_clauses : {X : Type 0} (w : Setting ℕ) (m : Meter) (why : CondKind) (place : ℕ) (es : List (Expr ℕ)) (s : Store) (next : Run X) (Q : X → Meter → State → Type 0) → EachClause (IsStill w) es
      → ((k : Meter) → k.ticks ≡ m.ticks → Follows code wide lo hi k (here k) (next k) Q) → Follows code wide lo hi m (here m) (clauses w why place es s next m) Q
  follows_clauses w m why place [] s next Q q h = h m refl
  follows_clauses w m why place (e ∷ es) s next Q q h =
      follows_still m (holds w e s m) (λ b. check b why place (clauses w why place es s next)) Q ((q.0 (w.place (node e)) s).stays m)
      (λ b k same. follows_check code wide lo hi k (here k) b why place (clauses w why place es s next) Q
      (λ ok. follows_clauses w k why place es s next Q q.1 (λ l also. h l (also ∙ same))))

  -- behind all that is asked of a result
  pub follows_leave : (w : Setting ℕ) (fr : sem.Frame ℕ) (m : Meter) (place : ℕ) (v : Option Datum) (Q : Exit → Meter → State → Type 0) → FrameStays w fr
      → ((k : Meter) → k.ticks ≡ m.ticks → Follows code wide lo hi k (here k) (Done (Gave v) k) Q) → Follows code wide lo hi m (here m) (leave w fr place fr.result v m) Q
  follows_leave w fr m place v Q stays h = by fr.result v refl h
    where
      by : (o : Option Output) (v : Option Datum) → fr.result ≡ o → ((k : Meter) → k.ticks ≡ m.ticks → Follows code wide lo hi k (here k) (Done (Gave v) k) Q) → Follows code wide lo hi m (here m) (leave w fr place o v m) Q
      by None None e h = follows_clauses w m kind.Ensures place fr.postconditions fr.entry (Done (Gave None)) Q stays.clauses h
      by None (Some v) e h = tt
      by (Some o) None e h = tt
      by (Some o) (Some v) e h = follows_given fr.member m place o.ty v (clauses w kind.Ensures place fr.postconditions (set_if fr.entry o.variable (Some v)) (Done (Gave (Some v)))) Q (stays.result o e)
          (λ k same. follows_clauses w k kind.Ensures place fr.postconditions (set_if fr.entry o.variable (Some v)) (Done (Gave (Some v))) Q stays.clauses (λ l also. h l (also ∙ same)))
