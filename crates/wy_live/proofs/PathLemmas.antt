-- Paths through statements: what follows may be replaced and taken out, and one turn of a loop is enough.
use Rattle.std.proofs.Common.{◌⊎◌, inl, inr, ℕ, zero, suc, Bool, ◌||◌, ◌==◌, List, [], ◌∷◌, Option, Some, None}
use Rattle.wy_core.specs.CoreTree.{Expr, Step, Stmt, DeclareStmt, AssignStmt, CallStmt, ReturnStmt, AssertStmt, BreakStmt, ContinueStmt, SkipStmt, FailStmt, IfStmt, WhileStmt, Stmts, NoStmts, MoreStmts}
use Rattle.wy_lemmas.proofs.Choices.{either}
use Rattle.wy_live.specs.Paths.{occurs, any_occurs, any_step_occurs, Used, UsedOrKept, DeclareLive, AssignLive, Turns, IsLive, AreLive}

-- what a body says of its end, of each `continue`, and of what follows the loop
abbrev pub Body : Type 1
Body = Type 0 → Type 0 → Type 0

abbrev pub More : Body → Type 1
More f = (C D K L : Type 0) → (C → D) → (K → L) → f C K → f D L

abbrev pub Splits : Body → Type 1
Splits f = (C K D : Type 0) → f (C ⊎ D) (K ⊎ D) → f C K ⊎ D

used_more : (used : Bool) (A B : Type 0) → (A → B) → Used used A → Used used B
used_more used A B f p = either (λ u. inl u) (λ a. inr (f a)) p

kept_more : (used : Bool) (x y : ℕ) (A B : Type 0) → (A → B) → UsedOrKept used x y A → UsedOrKept used x y B
kept_more used x y A B f p = either (λ u. inl u) (λ q. inr (q.0, f q.1)) p

declare_more : (y : ℕ) (value : Option (Expr ℕ)) (x : ℕ) (A B : Type 0) → (A → B) → DeclareLive y value x A → DeclareLive y value x B
declare_more y None x A B f p = f p
declare_more y (Some e) x A B f p = kept_more (occurs e x) x y A B f p

assign_more : (y : ℕ) (path : List (Step ℕ)) (e : Expr ℕ) (x : ℕ) (A B : Type 0) → (A → B) → AssignLive y path e x A → AssignLive y path e x B
assign_more y [] e x A B f p = kept_more (occurs e x) x y A B f p
assign_more y (step ∷ steps) e x A B f p = used_more (any_step_occurs (step ∷ steps) x || (occurs e x || (x == y))) A B f p

turns_more : (n : ℕ) (used : Bool) (f : Body) (A B : Type 0) → More f → (A → B) → Turns n used (λ next. f next A) A → Turns n used (λ next. f next B) B
turns_more zero used f A B more g p = used_more used A B g p
turns_more (suc n) used f A B more g p = either (λ u. inl u) (λ b. inr (more (Turns n used (λ next. f next A) A) (Turns n used (λ next. f next B) B) A B (turns_more n used f A B more g) g b)) p

mutual
  -- a path may go on further
  pub live_more : (st : Stmt ℕ) (x : ℕ) (A B K L M N : Type 0) → (A → B) → (K → L) → (M → N) → IsLive st x A K M → IsLive st x B L N
  live_more (DeclareStmt at ty y value) x A B K L M N f g h p = declare_more y value x A B f p
  live_more (AssignStmt at y path e) x A B K L M N f g h p = assign_more y path e x A B f p
  live_more (CallStmt at routine args) x A B K L M N f g h p = used_more (any_occurs args x) A B f p
  live_more (ReturnStmt at value) x A B K L M N f g h p = p
  live_more (AssertStmt at e) x A B K L M N f g h p = f p
  live_more (BreakStmt at) x A B K L M N f g h p = g p
  live_more (ContinueStmt at) x A B K L M N f g h p = h p
  live_more (SkipStmt at) x A B K L M N f g h p = f p
  live_more (FailStmt at) x A B K L M N f g h p = p
  live_more (IfStmt at e first second) x A B K L M N f g h p =
      either (λ u. inl u) (λ q. inr (either (λ l. inl (lives_more first x A B K L M N f g h l)) (λ r. inr (lives_more second x A B K L M N f g h r)) q)) p
  live_more (WhileStmt at e invariants body) x A B K L M N f g h p =
      (p.0, turns_more p.0 (occurs e x) (λ next after. AreLive body x next after next) A B (λ C D I J i j q. lives_more body x C D I J C D i j i q) f p.1)

  pub lives_more : (ss : Stmts ℕ) (x : ℕ) (A B K L M N : Type 0) → (A → B) → (K → L) → (M → N) → AreLive ss x A K M → AreLive ss x B L N
  lives_more NoStmts x A B K L M N f g h p = f p
  lives_more (MoreStmts st rest) x A B K L M N f g h p =
      live_more st x (AreLive rest x A K M) (AreLive rest x B L N) K L M N (λ q. lives_more rest x A B K L M N f g h q) g h p

used_split : (used : Bool) (X A : Type 0) → Used used (X ⊎ A) → Used used X ⊎ A
used_split used X A p = either (λ u. inl (inl u)) (λ q. either (λ z. inl (inr z)) (λ a. inr a) q) p

kept_split : (used : Bool) (x y : ℕ) (X A : Type 0) → UsedOrKept used x y (X ⊎ A) → UsedOrKept used x y X ⊎ A
kept_split used x y X A p = either (λ u. inl (inl u)) (λ q. either (λ z. inl (inr (q.0, z))) (λ a. inr a) q.1) p

declare_split : (y : ℕ) (value : Option (Expr ℕ)) (x : ℕ) (X A : Type 0) → DeclareLive y value x (X ⊎ A) → DeclareLive y value x X ⊎ A
declare_split y None x X A p = p
declare_split y (Some e) x X A p = kept_split (occurs e x) x y X A p

assign_split : (y : ℕ) (path : List (Step ℕ)) (e : Expr ℕ) (x : ℕ) (X A : Type 0) → AssignLive y path e x (X ⊎ A) → AssignLive y path e x X ⊎ A
assign_split y [] e x X A p = kept_split (occurs e x) x y X A p
assign_split y (step ∷ steps) e x X A p = used_split (any_step_occurs (step ∷ steps) x || (occurs e x || (x == y))) X A p

turns_split : (n : ℕ) (used : Bool) (f : Body) (X A : Type 0) → More f → Splits f → Turns n used (λ next. f next (X ⊎ A)) (X ⊎ A) → Turns n used (λ next. f next X) X ⊎ A
turns_split zero used f X A more splits p = used_split used X A p
turns_split (suc n) used f X A more splits p = either (λ u. inl (inl u)) (λ b. either (λ z. inl (inr z)) (λ a. inr a)
    (splits (Turns n used (λ next. f next X) X) X A
    (more (Turns n used (λ next. f next (X ⊎ A)) (X ⊎ A)) (Turns n used (λ next. f next X) X ⊎ A) (X ⊎ A) (X ⊎ A) (turns_split n used f X A more splits) (λ q. q) b))) p

mutual
  -- what follows may be taken out
  pub live_split : (st : Stmt ℕ) (x : ℕ) (X K M A : Type 0) → IsLive st x (X ⊎ A) (K ⊎ A) (M ⊎ A) → IsLive st x X K M ⊎ A
  live_split (DeclareStmt at ty y value) x X K M A p = declare_split y value x X A p
  live_split (AssignStmt at y path e) x X K M A p = assign_split y path e x X A p
  live_split (CallStmt at routine args) x X K M A p = used_split (any_occurs args x) X A p
  live_split (ReturnStmt at value) x X K M A p = inl p
  live_split (AssertStmt at e) x X K M A p = p
  live_split (BreakStmt at) x X K M A p = p
  live_split (ContinueStmt at) x X K M A p = p
  live_split (SkipStmt at) x X K M A p = p
  live_split (FailStmt at) x X K M A p = inl p
  live_split (IfStmt at e first second) x X K M A p = either (λ u. inl (inl u))
      (λ q. either (λ l. either (λ z. inl (inr (inl z))) (λ a. inr a) (lives_split first x X K M A l)) (λ r. either (λ z. inl (inr (inr z))) (λ a. inr a) (lives_split second x X K M A r)) q) p
  live_split (WhileStmt at e invariants body) x X K M A p = either (λ q. inl (p.0, q)) (λ a. inr a)
      (turns_split p.0 (occurs e x) (λ next after. AreLive body x next after next) X A (λ C D I J i j q. lives_more body x C D I J C D i j i q) (λ C I D q. lives_split body x C I C D q) p.1)

  pub lives_split : (ss : Stmts ℕ) (x : ℕ) (X K M A : Type 0) → AreLive ss x (X ⊎ A) (K ⊎ A) (M ⊎ A) → AreLive ss x X K M ⊎ A
  lives_split NoStmts x X K M A p = p
  lives_split (MoreStmts st rest) x X K M A p =
      live_split st x (AreLive rest x X K M) K M A
      (live_more st x (AreLive rest x (X ⊎ A) (K ⊎ A) (M ⊎ A)) (AreLive rest x X K M ⊎ A) (K ⊎ A) (K ⊎ A) (M ⊎ A) (M ⊎ A) (λ q. lives_split rest x X K M A q) (λ q. q) (λ q. q) p)

turn_enough : (n : ℕ) (used : Bool) (f : Body) (A : Type 0) → More f → Splits f → Turns n used (λ next. f next A) A → Used used (f ⊥ A) ⊎ A
turn_enough zero used f A more splits p = either (λ u. inl (inl u)) (λ a. inr a) p
turn_enough (suc n) used f A more splits p = either (λ u. inl (inl u)) (λ b. either (λ z. inl (inr z)) (λ r. r)
    (splits ⊥ A (Used used (f ⊥ A) ⊎ A)
    (more (Turns n used (λ next. f next A) A) (⊥ ⊎ (Used used (f ⊥ A) ⊎ A)) A (A ⊎ (Used used (f ⊥ A) ⊎ A)) (λ q. inr (turn_enough n used f A more splits q)) (λ a. inl a) b))) p

-- a path through a loop goes through the body at most once, as far as this variable is concerned
pub one_turn : (n : ℕ) (e : Expr ℕ) (body : Stmts ℕ) (x : ℕ) (A : Type 0) → Turns n (occurs e x) (λ next. AreLive body x next A next) A → Used (occurs e x) (AreLive body x ⊥ A ⊥) ⊎ A
one_turn n e body x A p =
    turn_enough n (occurs e x) (λ next after. AreLive body x next after next) A (λ C D I J i j q. lives_more body x C D I J C D i j i q) (λ C I D q. lives_split body x C I C D q) p
