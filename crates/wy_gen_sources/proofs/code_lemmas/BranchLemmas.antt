-- The two blocks of an `if`: what is live in front of them, and what is safe.
use Rattle.std.proofs.Common.{◌≡◌, ◌≢◌, ◌⊎◌, inl, ℕ, suc, ◌+◌, List, [], ◌∷◌, length, Bool, true, false, refl, sym, subst, arith}
use Rattle.wy_code.specs.declared.instructions.Instr.{Instr}
use Rattle.wy_code.specs.declared.instructions.Instr.TheVariants as instr
use Rattle.wy_lemmas.proofs.Choices.{unlike as not_both, either}
use Rattle.wy_code.specs.declared.pieces.steps.Step.{Step}
use Rattle.wy_code.specs.pieces.Steps.{fork, over}
use Rattle.wy_gen_laws.specs.wy_code_spec.compiled.Statements.{branches}
use Rattle.wy_gen_sources.specs.code.Alive.{LiveAt}
use Rattle.wy_gen_sources.specs.code.Safe.{Gives}
use Rattle.wy_gen_sources.proofs.code_lemmas.PieceLemmas.{Spans, live_reads, live_on, live_first_over, live_second, Lives, Sure, sure_less, safe_clears, safe_fork_over}

module _ (body : List Instr) where
  -- through the first block, or through both where neither has code
  pub branches_first : (plain : Bool) (at next d : ℕ) (first second : List Step) (r : ℕ) → Spans body at (branches d plain first second) next → r ≢ d
      → ((p q : ℕ) → Spans body p first q → q + over second ≡ next → (LiveAt body next r → LiveAt body q r) → LiveAt body p r) → LiveAt body at r
  branches_first true at next d [] [] r h other one = one at next h (let e = h.1 in omega (arith, e)) (λ l. l)
  branches_first false at next d [] [] r h other one = live_on body at (at + 1) r (instr.Clear (d ∷ [])) h.0.0 (other, tt) (inl refl) (one (at + 1) next (tt, let e = h.1 in omega (arith, e)) (let e = h.1 in omega (arith, e)) (λ l. l))
  branches_first plain at next d (s ∷ first) [] r h other one = live_first_over body at next d (s ∷ first) [] r h one
  branches_first plain at next d first (s ∷ second) r h other one = live_first_over body at next d first (s ∷ second) r h one

  pub branches_second : (plain : Bool) (at next d : ℕ) (first second : List Step) (r : ℕ) → Spans body at (branches d plain first second) next → r ≢ d → ((p : ℕ) → Spans body p second next → LiveAt body p r) → LiveAt body at r
  branches_second true at next d [] [] r h other two = two at h
  branches_second false at next d [] [] r h other two = live_on body at (at + 1) r (instr.Clear (d ∷ [])) h.0.0 (other, tt) (inl refl) (two (at + 1) (tt, let e = h.1 in omega (arith, e)))
  branches_second plain at next d (s ∷ first) [] r h other two = live_second body at next d (s ∷ first) [] r h two
  branches_second plain at next d first (s ∷ second) r h other two = live_second body at next d first (s ∷ second) r h two

  module _ (t : Gives) (f : ℕ) where
    -- what the test leaves
    abbrev pub Asked_too : (ℕ → Type 0) → ℕ → Bool → ℕ → Type 0
    Asked_too V d plain r = V r ⊎ ((r ≡ d) × (plain ≡ false))

    -- a fork reads the value of the test
    forked : (m at next d : ℕ) (plain : Bool) (first second : List Step) (V Q : ℕ → Type 0) → Spans body at (fork d first second) next → LiveAt body at d → (first ≡ [] → second ≡ [] → ⊥) → Lives body t f at V → Lives body t f next Q
        → ((p q : ℕ) → Spans body p first q → q + over second ≡ next → Lives body t f q Q → Sure body t f m q Q → Sure body t f m p V) → ((p : ℕ) → Spans body p second next → Sure body t f m p V)
        → Sure body t f m next Q → Sure body t f m at (Asked_too V d plain)
    forked m at next d plain first second V Q h asked some live behind one two safe =
        safe_fork_over body t f m at next d first second (Asked_too V d plain) V V Q h
        (λ r l. either (λ v. live r v) (λ z. subst (λ (y : ℕ). LiveAt body at y) (sym z.0) asked) l) (λ e1 e2. absurd (some e1 e2))
        (λ r l. either (λ v. v) (λ z. absurd (l.1 z.0)) l.0) (λ r l. either (λ v. v) (λ z. absurd (l.1 z.0)) l.0) behind one two safe

    -- where no block has code, a value that may be a list or a record is released
    pub branches_sure : (m at next d : ℕ) (plain : Bool) (first second : List Step) (V Q : ℕ → Type 0) → Spans body at (branches d plain first second) next → Lives body t f at V → Lives body t f next Q
        → ((p q : ℕ) → Spans body p first q → q + over second ≡ next → Lives body t f q Q → Sure body t f m q Q → Sure body t f m p V) → ((p : ℕ) → Spans body p second next → Sure body t f m p V)
        → Sure body t f m next Q → Sure body t f m at (Asked_too V d plain)
    branches_sure m at next d true [] [] V Q h live behind one two safe =
        sure_less body t f m at (Asked_too V d true) V (λ r l. either (λ v. v) (λ z. not_both true refl z.1) l) (two at h)
    branches_sure m at next d false [] [] V Q h live behind one two safe =
        safe_clears body t f m at (d ∷ []) (Asked_too V d false) V h.0.0 (λ r l. either (λ v. v) (λ z. absurd (l.1.0 z.0)) l.0) (two (at + 1) (tt, let e = h.1 in omega (arith, e)))
    branches_sure m at next d plain (s ∷ first) [] V Q h live behind one two safe =
        forked m at next d plain (s ∷ first) [] V Q h (live_reads body at d (instr.Branch d (suc at + length (s ∷ first))) h.0.0 (inl refl)) (λ e1 e2. cc) live behind one two safe
    branches_sure m at next d plain first (s ∷ second) V Q h live behind one two safe =
        forked m at next d plain first (s ∷ second) V Q h (live_reads body at d (instr.Branch d (suc at + (length first + 1))) h.0.0 (inl refl)) (λ e1 e2. cc) live behind one two safe
