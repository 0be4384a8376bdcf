-- The code of a test of a type keeps nothing dead.
use Rattle.std.proofs.Common.{◌≡◌, ◌≢◌, ◌<◌, ◌≤◌, ◌⊎◌, inl, inr, ℕ, suc, ◌+◌, List, [], ◌∷◌, ◌++◌, length, true, false, Some, pos, refl, sym, subst, arith}
use Rattle.std.specs.Prelude.{slice_get}
use Rattle.wy_core.specs.Types.{Ty, NullTy, BoolTy, IntTy, AnyTy, VoidTy, RecordTy, ArrayTy, UnionTy, InterTy, NotTy, NamedTy, NormalTy, FieldTys, NoFieldTys, MoreFieldTys}
use Rattle.wy_code.specs.declared.instructions.Scalar.{Scalar}
use Rattle.wy_code.specs.declared.instructions.Scalar.TheVariants as scalar
use Rattle.wy_code.specs.declared.instructions.Arithmetic.TheVariants.{Add}
use Rattle.wy_code.specs.declared.instructions.Comparison.TheVariants as comparison
use Rattle.wy_code.specs.declared.instructions.Kind.{Kind}
use Rattle.wy_code.specs.declared.instructions.Kind.TheVariants as kind
use Rattle.wy_code.specs.declared.instructions.Instr.{Instr}
use Rattle.wy_code.specs.declared.instructions.Instr.TheVariants as instr
use Rattle.wy_lemmas.proofs.Choices.{either}
use Rattle.wy_gen_laws.specs.wy_code_spec.declared.tables.context.Context.{Context}
use Rattle.wy_gen_laws.specs.wy_code_spec.tables.Tables.{number_of, shape_number, ty_names_in}
use Rattle.wy_code.specs.declared.pieces.steps.Step.{Step}
use Rattle.wy_code.specs.declared.pieces.steps.Step.TheVariants.{Does, GoesOnUnless}
use Rattle.wy_code.specs.pieces.Steps.{dropped, fork}
use Rattle.wy_gen_laws.specs.wy_code_spec.compiled.TypeTests.{looks, item_end, item_turns, yes, items_test, field_end, test, fields_test}
use Rattle.wy_gen_sources.specs.code.Large.{IsNone}
use Rattle.wy_gen_sources.specs.code.Alive.{IsOne, changes, nexts, LiveAt}
use Rattle.wy_gen_sources.specs.code.Safe.{Gives, Into, After, Onward, Safe}
use Rattle.wy_gen_sources.proofs.code_lemmas.SafeLemmas.{Within, safe_sooner}
use Rattle.wy_gen_sources.proofs.code_lemmas.PieceLemmas.{nat_up, Sure, sure_less, less_not, Spans, front, back, tail, ended, live_reads, live_on, live_last, live_first, live_second, turning, Lives, safe_step, safe_clears, safe_loops, safe_branches, safe_at, safe_fork, lives_on, lives_at}

-- with one register more
abbrev pub With : (ℕ → Type 0) → ℕ → ℕ → Type 0
With P x q = P q ⊎ (q ≡ x)

module _ (body : List Instr) where
  -- where a register is live behind code that isn't gone through
  pub at_end : (p next q : ℕ) → Spans body p [] next → LiveAt body next q → LiveAt body p q
  at_end p next q h l = subst (λ (z : ℕ). LiveAt body z q) (sym (ended body p next h)) l

  -- the register that a fork asks is live in front of it, where it is so behind
  pub asked_live : (p next r : ℕ) (first second : List Step) → Spans body p (fork r first second) next → LiveAt body next r → LiveAt body p r
  asked_live p next r [] [] h l = at_end p next r h l
  asked_live p next r (s ∷ first) [] h l = live_reads body p r (instr.Branch r (suc p + length (s ∷ first))) h.0.0 (inl refl)
  asked_live p next r first (s ∷ second) h l = live_reads body p r (instr.Branch r (suc p + (length first + 1))) h.0.0 (inl refl)

  module _ (c : Context) where
    -- a register that a test doesn't change stays live through it
    pub test_live : (ty : Ty) (v r g at next q : ℕ) → Spans body at (test c ty v r g) next → q < g → q ≢ r → LiveAt body next q → LiveAt body at q
    test_live NullTy v r g at next q h low other l = live_last body at next q (instr.Kind r v kind.Null) h (other, tt) (inl refl) l
    test_live BoolTy v r g at next q h low other l = live_last body at next q (instr.Kind r v kind.Bool) h (other, tt) (inl refl) l
    test_live IntTy v r g at next q h low other l = live_last body at next q (instr.Kind r v kind.Int) h (other, tt) (inl refl) l
    test_live AnyTy v r g at next q h low other l = live_last body at next q (instr.Const r (scalar.Bool true)) h (other, tt) (inl refl) l
    test_live VoidTy v r g at next q h low other l = live_last body at next q (instr.Const r (scalar.Bool false)) h (other, tt) (inl refl) l
    test_live (RecordTy fs) v r g at next q h low other l =
        let i : Instr = instr.Kind r v (kind.Shape (shape_number c.table (ty_names_in fs))) in
        live_on body at (at + 1) q i h.0.0 (other, tt) (inl refl) (live_second body (at + 1) next r (fields_test c fs v r g) [] q (tail body at i (fork r (fields_test c fs v r g) []) next h) (λ p s. at_end p next q s l))
    test_live (ArrayTy ty) v r g at next q h low other l =
        let first : List Step = Does (instr.Len g v) ∷ Does (instr.Const (suc g) (scalar.Int (pos 0))) ∷ items_test v r g (test c ty (suc (suc g)) r (suc (suc (suc g)))) in
        live_on body at (at + 1) q (instr.Kind r v kind.Array) h.0.0 (other, tt) (inl refl) (live_second body (at + 1) next r first [] q (tail body at (instr.Kind r v kind.Array) (fork r first []) next h) (λ p s. at_end p next q s l))
    test_live (UnionTy a b) v r g at next q h low other l =
        let mid = at + length (test c a v r g) in
        test_live a v r g at mid q (front body at (test c a v r g) (fork r [] (test c b v r g)) next h) low other
        (live_first body mid next r [] (test c b v r g) q (back body at (test c a v r g) (fork r [] (test c b v r g)) next h) (λ p z s k. at_end p z q s (k l)))
    test_live (InterTy a b) v r g at next q h low other l =
        let mid = at + length (test c a v r g) in
        test_live a v r g at mid q (front body at (test c a v r g) (fork r (test c b v r g) []) next h) low other
        (live_second body mid next r (test c b v r g) [] q (back body at (test c a v r g) (fork r (test c b v r g) []) next h) (λ p s. at_end p next q s l))
    test_live (NotTy a) v r g at next q h low other l =
        let mid = at + length (test c a v r g) in
        test_live a v r g at mid q (front body at (test c a v r g) (Does (instr.Not r r) ∷ []) next h) low other
        (live_last body mid next q (instr.Not r r) (back body at (test c a v r g) (Does (instr.Not r r) ∷ []) next h) (other, tt) (inl refl) l)
    test_live (NamedTy k) v r g at next q h low other l =
        let i : Instr = instr.Share g v in let j : Instr = instr.Call r (length c.results + k) (g ∷ []) in
        live_on body at (at + 1) q i h.0.0 (less_not q g low, tt) (inl refl) (live_last body (at + 1) next q j (tail body at i (Does j ∷ []) next h) (other, (less_not q g low, tt)) (inl refl) l)
    test_live (NormalTy cs) v r g at next q h low other l = live_last body at next q (instr.Const r (scalar.Bool false)) h (other, tt) (inl refl) l

    -- a test that looks at the value reads it first
    pub test_reads : (ty : Ty) → looks ty ≡ true → (v r g at next : ℕ) → Spans body at (test c ty v r g) next → LiveAt body at v
    test_reads NullTy e v r g at next h = live_reads body at v (instr.Kind r v kind.Null) h.0.0 (inl refl)
    test_reads BoolTy e v r g at next h = live_reads body at v (instr.Kind r v kind.Bool) h.0.0 (inl refl)
    test_reads IntTy e v r g at next h = live_reads body at v (instr.Kind r v kind.Int) h.0.0 (inl refl)
    test_reads AnyTy e v r g at next h = cc
    test_reads VoidTy e v r g at next h = cc
    test_reads (RecordTy fs) e v r g at next h = live_reads body at v (instr.Kind r v (kind.Shape (shape_number c.table (ty_names_in fs)))) h.0.0 (inl refl)
    test_reads (ArrayTy ty) e v r g at next h = live_reads body at v (instr.Kind r v kind.Array) h.0.0 (inl refl)
    test_reads (UnionTy a b) e v r g at next h = test_reads a e v r g at (at + length (test c a v r g)) (front body at (test c a v r g) (fork r [] (test c b v r g)) next h)
    test_reads (InterTy a b) e v r g at next h = test_reads a e v r g at (at + length (test c a v r g)) (front body at (test c a v r g) (fork r (test c b v r g) []) next h)
    test_reads (NotTy a) e v r g at next h = test_reads a e v r g at (at + length (test c a v r g)) (front body at (test c a v r g) (Does (instr.Not r r) ∷ []) next h)
    test_reads (NamedTy k) e v r g at next h = live_reads body at v (instr.Share g v) h.0.0 (inl refl)
    test_reads (NormalTy cs) e v r g at next h = cc

    module _ (t : Gives) (f : ℕ) where
      -- what a test leaves as it is: registers below the free ones, but for the one of the answer
      abbrev pub Untouched : ℕ → ℕ → (ℕ → Type 0) → Type 0
      Untouched r g P = (q : ℕ) → P q → (q < g) × (q ≢ r)

      -- an instruction whose small answer comes into r
      answered : (m at next r : ℕ) (i : Instr) (P : ℕ → Type 0) → Spans body at (Does i ∷ []) next → ((q : ℕ) → P q → IsNone q (changes i)) → IsOne (at + 1) (nexts at i) → ((k : ℕ) → Safe t f body k (at + 1) (After t i P) → Onward t f (Safe t f body k) at i P)
          → Within (After t i P) P → Lives body t f next P → Sure body t f m next P → Sure body t f m at P
      answered m at next r i P h none to onward less live safe =
          let e : next ≡ at + 1 = (let z = h.1 in omega (arith, z)) in
          safe_step body t f m at i P P h.0.0 (lives_on body t f at i P h.0.0 none to (lives_at body t f next (at + 1) P e live)) onward less (safe_at body t f m next (at + 1) P e safe)

      kept_only : (i : Instr) (P : ℕ → Type 0) → ((q : ℕ) → Into t i P q → ⊥) → Within (After t i P) P
      kept_only i P none q (inl h) = h.0
      kept_only i P none q (inr h) = absurd (none q h)

      kind_safe : (m at next v r g : ℕ) (k : Kind) (P : ℕ → Type 0) → Spans body at (Does (instr.Kind r v k) ∷ []) next → Untouched r g P → Lives body t f next P → Sure body t f m next P → Sure body t f m at P
      kind_safe m at next v r g k P h un live safe = answered m at next r (instr.Kind r v k) P h (λ q l. ((un q l).1, tt)) (inl refl) (λ x s. s) (kept_only (instr.Kind r v k) P (λ q z. z)) live safe

      const_safe : (m at next r g : ℕ) (k : Scalar) (P : ℕ → Type 0) → Spans body at (Does (instr.Const r k) ∷ []) next → Untouched r g P → Lives body t f next P → Sure body t f m next P → Sure body t f m at P
      const_safe m at next r g k P h un live safe = answered m at next r (instr.Const r k) P h (λ q l. ((un q l).1, tt)) (inl refl) (λ x s. s) (kept_only (instr.Const r k) P (λ q z. z)) live safe

      -- without it again
      pub live_less : (p x : ℕ) (P : ℕ → Type 0) → Lives body t f p (With P x) → Lives body t f p P
      live_less p x P live q l = live q (inl l)

      pub sure_less_one : (m p x : ℕ) (P : ℕ → Type 0) → Sure body t f m p (With P x) → Sure body t f m p P
      sure_less_one m p x P safe = sure_less body t f m p P (With P x) (λ q l. inl l) safe

      -- two more, in either order
      turned : (P : ℕ → Type 0) (x y q : ℕ) → With (With P x) y q → With (With P y) x q
      turned P x y q (inl (inl p)) = inl (inl p)
      turned P x y q (inl (inr e)) = inr e
      turned P x y q (inr e) = inl (inr e)

      pub live_turned : (p x y : ℕ) (P : ℕ → Type 0) → Lives body t f p (With (With P x) y) → Lives body t f p (With (With P y) x)
      live_turned p x y P live q l = live q (turned P y x q l)

      pub sure_turned : (m p x y : ℕ) (P : ℕ → Type 0) → Sure body t f m p (With (With P x) y) → Sure body t f m p (With (With P y) x)
      sure_turned m p x y P safe = sure_less body t f m p (With (With P y) x) (With (With P x) y) (λ q l. turned P y x q l) safe

      -- the answer is live in front of a fork that asks it
      pub asked_lives : (p next r : ℕ) (first second : List Step) (P : ℕ → Type 0) → Spans body p (fork r first second) next → Lives body t f p P → Lives body t f next (With P r) → Lives body t f p (With P r)
      asked_lives p next r first second P h live behind q (inl l) = live q l
      asked_lives p next r first second P h live behind q (inr e) = subst (λ (z : ℕ). LiveAt body p z) (sym e) (asked_live p next r first second h (behind r (inr refl)))

      -- where it isn't the answer
      pub unasked : (P : ℕ → Type 0) (r q : ℕ) → With P r q × (q ≢ r) → P q
      unasked P r q k = either (λ l. l) (λ e. absurd (k.1 e)) k.0

      -- a value in g is released by way of a free register
      pub dropped_safe : (m at next g free : ℕ) (rest : List Step) (P : ℕ → Type 0) → Spans body at (dropped g free ++ rest) next → ((q : ℕ) → P q → (q ≢ g) × (q ≢ free)) → Lives body t f (at + 1 + 1) P → Sure body t f m (at + 1 + 1) P → Sure body t f m at (With P g) × Lives body t f at (With P g)
      dropped_safe m at next g free rest P h low live safe =
          let move : Instr = instr.Move free g in
          let two = tail body at move (Does (instr.Clear (free ∷ [])) ∷ rest) next h in
          let there : Lives body t f at (With P g) = λ q l. either (λ k. live_on body at (at + 1) q move h.0.0 ((low q k).1, ((low q k).0, tt)) (inl refl)
          (live_on body (at + 1) (at + 1 + 1) q (instr.Clear (free ∷ [])) two.0.0 ((low q k).1, tt) (inl refl) (live q k)))
          (λ e. live_reads body at q move h.0.0 (inl e)) l in (
            safe_step body t f m at move (With P g) (With P free) h.0.0 there (λ x s. s) behind
                (safe_clears body t f m (at + 1) (free ∷ []) (With P free) P two.0.0 cleared safe),
            there,
          )
        where
          behind : Within (After t (instr.Move free g) (With P g)) (With P free)
          behind q (inl k) = either (λ z. inl z) (λ e. absurd (k.1.1.0 e)) k.0
          behind q (inr k) = inr k.0

          cleared : Within (λ q. With P free q × IsNone q (free ∷ [])) P
          cleared q k = either (λ z. z) (λ e. absurd (k.1.0 e)) k.0

      module _ (v r g : ℕ) (P : ℕ → Type 0) (un : Untouched r g P) (r_low : r < g) where
        low_of : (q : ℕ) → P q → q < g
        low_of q l = (un q l).0

        -- the test of an item, which is in the register behind the index; the answer may be any value
        abbrev Item : ℕ → Type 0
        Item = With P (suc (suc g))

        abbrev ItemSafe : List Step → Type 0
        ItemSafe one = (k p next : ℕ) → Spans body p one next → Lives body t f next (With Item r) → Sure body t f k next (With Item r) → Sure body t f k p Item

        -- what isn't changed by the test of an item is live through it
        abbrev ItemLive : List Step → Type 0
        ItemLive one = (p next q : ℕ) → Spans body p one next → q < suc (suc (suc g)) → q ≢ r → LiveAt body next q → LiveAt body p q

        -- behind the test of an item
        item_end_safe : (m p next out : ℕ) → Spans body p (item_end r g) next → out ≡ next + 1 + 1 → Lives body t f next P → Lives body t f out P → Sure body t f m next P → Sure body t f m out P
            → Sure body t f m p (With Item r) × Lives body t f p (With Item r)
        item_end_safe m p next out h there live out_live safe out_safe =
            let rest : List Step = GoesOnUnless r 4 ∷ Does (instr.Const (suc (suc g)) (scalar.Int (pos 1))) ∷ Does (instr.Arith (suc g) Add (suc g) (suc (suc g))) ∷ [] in
            let two = tail body p (instr.Move (suc (suc (suc g))) (suc (suc g))) (Does (instr.Clear (suc (suc (suc g)) ∷ [])) ∷ rest) next h in
            let three = tail body (p + 1) (instr.Clear (suc (suc (suc g)) ∷ [])) rest next two in
            let b = p + 1 + 1 in
            let c1 : Instr = instr.Const (suc (suc g)) (scalar.Int (pos 1)) in
            let a1 : Instr = instr.Arith (suc g) Add (suc g) (suc (suc g)) in
            let e : b + 1 + 1 + 1 ≡ next = (let z = three.1 in omega (arith, z)) in
            let to : suc b + 4 ≡ out = omega (arith, e, there) in
            let branch : slice_get body b ≡ Some (instr.Branch r out) = subst (λ (z : ℕ). slice_get body b ≡ Some (instr.Branch r z)) to three.0.0 in
            let live_a : Lives body t f (b + 1 + 1) P = lives_on body t f (b + 1 + 1) a1 P three.0.1.1.0 (λ q l. (less_not q (suc g) (let z = low_of q l in omega (arith, z)), tt)) (inl refl) (lives_at body t f next (b + 1 + 1 + 1) P (sym e) live) in
            let live_c : Lives body t f (b + 1) P = lives_on body t f (b + 1) c1 P three.0.1.0 (λ q l. (less_not q (suc (suc g)) (let z = low_of q l in omega (arith, z)), tt)) (inl refl) live_a in
            let live_b : Lives body t f b (With P r) = λ q l. either (λ k. live_on body b (b + 1) q (instr.Branch r out) branch tt (inl refl) (live_c q k)) (λ w. live_reads body b q (instr.Branch r out) branch (inl w)) l in
            let facts = dropped_safe m p next (suc (suc g)) (suc (suc (suc g))) rest (With P r) h
            (λ q l. either (λ k. let z = low_of q k in (less_not q (suc (suc g)) (omega (arith, z)), less_not q (suc (suc (suc g))) (omega (arith, z)))) (λ w. (less_not q (suc (suc g)) (omega (arith, w, r_low)), less_not q (suc (suc (suc g))) (omega (arith, w, r_low)))) l) live_b
            (safe_branches body t f m b r out (With P r) P P branch live_b (λ q k. unasked P r q k) (λ q k. unasked P r q k)
            (safe_step body t f m (b + 1) c1 P P three.0.1.0 live_c (λ x s. s) (kept_only c1 P (λ q z. z))
            (safe_step body t f m (b + 1 + 1) a1 P P three.0.1.1.0 live_a (λ x s. s) (kept_only a1 P (λ q z. z)) (safe_at body t f m next (b + 1 + 1 + 1) P (sym e) safe)))
            out_safe) in
            (sure_turned m p r (suc (suc g)) P facts.0, live_turned p r (suc (suc g)) P facts.1)

        items_safe : (one : List Step) (m at next : ℕ) → Spans body at (items_test v r g one) next → ItemSafe one → ItemLive one → Lives body t f next P → Sure body t f m next P → Sure body t f m at P × Lives body t f at P
        items_safe one m at next h item passes live safe =
            let compare : Instr = instr.Compare r comparison.Less (suc g) g in
            let get : Instr = instr.Get (suc (suc g)) v (suc g) in
            let tests : List Step = Does compare ∷ [] in
            let inner : List Step = Does get ∷ (one ++ item_end r g) in
            let long = at + length (item_turns v r g (one ++ item_end r g)) in
            let parts = turning body at tests r inner long (front body at (item_turns v r g (one ++ item_end r g)) (yes r) next h) in
            let last = back body at (item_turns v r g (one ++ item_end r g)) (yes r) next h in
            let yes_at : long + 1 ≡ next = (let z = last.1 in omega (arith, z)) in
            let live_yes : Lives body t f long P = lives_on body t f long (instr.Const r (scalar.Bool true)) P last.0.0 (λ q l. ((un q l).1, tt)) (inl refl) (lives_at body t f next (long + 1) P (sym yes_at) live) in
            let b = parts.branch in
            let first_at : at + 1 ≡ b = (let z = parts.tests.1 in omega (arith, z)) in
            let live_b : Lives body t f b P = λ q l. live_on body b long q (instr.Branch r long) parts.branches tt (inr (inl refl)) (live_yes q l) in
            let live_head : Lives body t f at P = lives_on body t f at compare P parts.tests.0.0 (λ q l. ((un q l).1, tt)) (inl refl) (lives_at body t f b (at + 1) P (sym first_at) live_b) in
            let i1 = tail body (b + 1) get (one ++ item_end r g) parts.jump parts.inside in
            let p2 = b + 1 + 1 in
            let p3 = p2 + length one in
            let end_span = back body p2 one (item_end r g) parts.jump i1 in
            let jump_next : parts.jump + 1 ≡ long = parts.behind in
            let safe_yes : (k : ℕ) → Sure body t f k next P → Sure body t f k long P = λ k s. const_safe k long next r g (scalar.Bool true) P last un live s in
            let live_jump : Lives body t f parts.jump P = λ q l. live_on body parts.jump at q (instr.Jump at) parts.jumps tt (inl refl) (live_head q l) in
            let head : (k : ℕ) → Sure body t f k next P → Sure body t f k at P = nat_up (λ k. Sure body t f k next P → Sure body t f k at P) (λ s. tt) (λ k less s.
            let end_facts = item_end_safe (suc k) p3 parts.jump next end_span (omega (arith, jump_next, yes_at)) live_jump live (safe_loops body t f k parts.jump at P P parts.jumps live_head (λ q l. l) (less (safe_sooner t f body k next P s))) s in
            safe_step body t f (suc k) at compare P P parts.tests.0.0 live_head (λ x z. z) (kept_only compare P (λ q z. z))
            (safe_at body t f (suc k) b (at + 1) P (sym first_at)
            (safe_branches body t f (suc k) b r long P P P parts.branches live_b (λ q z. z.0) (λ q z. z.0)
            (safe_step body t f (suc k) (b + 1) get P (With P (suc (suc g))) parts.inside.0.0
            (λ q l. live_on body (b + 1) (b + 1 + 1) q get parts.inside.0.0 (less_not q (suc (suc g)) (let z = low_of q l in omega (arith, z)), tt) (inl refl) (passes p2 p3 q (front body p2 one (item_end r g) parts.jump i1) (let z = low_of q l in omega (arith, z)) (un q l).1 (end_facts.1 q (inl (inl l)))))
            (λ x z. z) (λ q z. either (λ y. inl y.0) (λ y. inr y) z)
            (item (suc k) p2 p3 (front body p2 one (item_end r g) parts.jump i1) end_facts.1 end_facts.0))
            (safe_yes (suc k) s)))) in
            (head m safe, live_head)

      with_untouched : (r g x : ℕ) (P : ℕ → Type 0) → Untouched r g P → r < g → g ≤ x → Untouched r (suc x) (With P x)
      with_untouched r g x P un low le q (inl l) = let z = (un q l).0 in (omega (arith, z, le), (un q l).1)
      with_untouched r g x P un low le q (inr e) = (omega (arith, e), λ same. absurd (omega (arith, e, same, low, le)))

      -- a code of nothing
      empty_safe : (m p q : ℕ) (P : ℕ → Type 0) → Spans body p [] q → Sure body t f m q P → Sure body t f m p P
      empty_safe m p q P h safe = safe_at body t f m q p P (sym (ended body p q h)) safe

      -- more code where the answer is true, or nothing
      pub one_safe : (rest : List Step) (m at next r : ℕ) (P : ℕ → Type 0) → Spans body at (fork r rest []) next → Lives body t f at (With P r) → Lives body t f next (With P r) → Sure body t f m next (With P r)
          → ((p q : ℕ) → Spans body p rest q → Lives body t f q (With P r) → Sure body t f m q (With P r) → Sure body t f m p P) → Sure body t f m at (With P r)
      one_safe [] m at next r P h here live safe inner = safe_at body t f m next at (With P r) (sym (ended body at next h)) safe
      one_safe (s ∷ rest) m at next r P h here live safe inner =
          safe_fork body t f m at next r (s ∷ rest) [] (With P r) P P (With P r) h here (λ e1 e2. absurd cc) (λ q k. unasked P r q k) (λ q k. unasked P r q k) live
          inner (λ p z. empty_safe m p next P z (sure_less_one m next r P safe)) safe

      -- more code where the answer is false, or nothing
      other_safe : (rest : List Step) (m at next r : ℕ) (P : ℕ → Type 0) → Spans body at (fork r [] rest) next → Lives body t f at (With P r) → Lives body t f next (With P r) → Sure body t f m next (With P r)
          → ((p : ℕ) → Spans body p rest next → Sure body t f m p P) → Sure body t f m at (With P r)
      other_safe [] m at next r P h here live safe inner = safe_at body t f m next at (With P r) (sym (ended body at next h)) safe
      other_safe (s ∷ rest) m at next r P h here live safe inner =
          safe_fork body t f m at next r [] (s ∷ rest) (With P r) P P (With P r) h here (λ e1 e2. absurd cc) (λ q k. unasked P r q k) (λ q k. unasked P r q k) live
          (λ p q z lq sq. empty_safe m p q P z (sure_less_one m q r P sq)) inner safe

      mutual
        -- a test of a type keeps nothing dead, where what it leaves as it is is live behind it, and so is its answer, which may be any value
        pub test_safe : (ty : Ty) (m at next v r g : ℕ) (P : ℕ → Type 0) → Spans body at (test c ty v r g) next → Untouched r g P → r < g → Lives body t f next (With P r) → Sure body t f m next (With P r) → Sure body t f m at P
        test_safe NullTy m at next v r g P h un low live safe = kind_safe m at next v r g kind.Null P h un (live_less next r P live) (sure_less_one m next r P safe)
        test_safe BoolTy m at next v r g P h un low live safe = kind_safe m at next v r g kind.Bool P h un (live_less next r P live) (sure_less_one m next r P safe)
        test_safe IntTy m at next v r g P h un low live safe = kind_safe m at next v r g kind.Int P h un (live_less next r P live) (sure_less_one m next r P safe)
        test_safe AnyTy m at next v r g P h un low live safe = const_safe m at next r g (scalar.Bool true) P h un (live_less next r P live) (sure_less_one m next r P safe)
        test_safe VoidTy m at next v r g P h un low live safe = const_safe m at next r g (scalar.Bool false) P h un (live_less next r P live) (sure_less_one m next r P safe)
        test_safe (RecordTy fs) m at next v r g P h un low live safe =
            let i : Instr = instr.Kind r v (kind.Shape (shape_number c.table (ty_names_in fs))) in
            let parts = fields_test c fs v r g in
            let rest = tail body at i (fork r parts []) next h in
            let live_fork : Lives body t f (at + 1) P = λ q l. live_second body (at + 1) next r parts [] q rest (λ p s. at_end p next q s (live q (inl l))) in
            safe_step body t f m at i P P h.0.0 (lives_on body t f at i P h.0.0 (λ q l. ((un q l).1, tt)) (inl refl) live_fork) (λ x s. s) (kept_only i P (λ q z. z))
            (safe_fork body t f m (at + 1) next r parts [] P P P (With P r) rest live_fork (λ e1 e2 q l. l) (λ q k. k.0) (λ q k. k.0) live
            (λ p q s lq sq. fields_safe fs m p q v r g P s un low lq sq) (λ p s. empty_safe m p next P s (sure_less_one m next r P safe)) safe)
        test_safe (ArrayTy ty) m at next v r g P h un low live safe =
            let i : Instr = instr.Kind r v kind.Array in
            let len : Instr = instr.Len g v in
            let con : Instr = instr.Const (suc g) (scalar.Int (pos 0)) in
            let one = test c ty (suc (suc g)) r (suc (suc (suc g))) in
            let items = items_test v r g one in
            let first : List Step = Does len ∷ Does con ∷ items in
            let rest = tail body at i (fork r first []) next h in
            let live_fork : Lives body t f (at + 1) P = λ q l. live_second body (at + 1) next r first [] q rest (λ p s. at_end p next q s (live q (inl l))) in
            safe_step body t f m at i P P h.0.0 (lives_on body t f at i P h.0.0 (λ q l. ((un q l).1, tt)) (inl refl) live_fork) (λ x s. s) (kept_only i P (λ q z. z))
            (safe_fork body t f m (at + 1) next r first [] P P P (With P r) rest live_fork (λ e1 e2 q l. l) (λ q k. k.0) (λ q k. k.0) live
            (λ p q s lq sq.
            let two = tail body p len (Does con ∷ items) q s in
            let three = tail body (p + 1) con items q two in
            let facts = items_safe v r g P un low one m (p + 1 + 1) q three
            (λ k z w zs lz sz. test_safe ty k z w (suc (suc g)) r (suc (suc (suc g))) (With P (suc (suc g))) zs (with_untouched r g (suc (suc g)) P un low (omega arith)) (omega (arith, low)) lz sz)
            (λ z w x zs lx ox l. test_live ty (suc (suc g)) r (suc (suc (suc g))) z w x zs lx ox l) (live_less q r P lq) (sure_less_one m q r P sq) in
            let live_con : Lives body t f (p + 1) P = lives_on body t f (p + 1) con P two.0.0 (λ x l. (less_not x (suc g) (let z = (un x l).0 in omega (arith, z)), tt)) (inl refl) facts.1 in
            let live_len : Lives body t f p P = lives_on body t f p len P s.0.0 (λ x l. (less_not x g (un x l).0, tt)) (inl refl) live_con in
            safe_step body t f m p len P P s.0.0 live_len (λ x z. z) (kept_only len P (λ x z. z))
            (safe_step body t f m (p + 1) con P P two.0.0 live_con (λ x z. z) (kept_only con P (λ x z. z)) facts.0))
            (λ p s. empty_safe m p next P s (sure_less_one m next r P safe)) safe)
        test_safe (UnionTy a b) m at next v r g P h un low live safe =
            let mid = at + length (test c a v r g) in
            let rest = back body at (test c a v r g) (fork r [] (test c b v r g)) next h in
            let live_mid : Lives body t f mid (With P r) = asked_lives mid next r [] (test c b v r g) P rest (λ q l. live_first body mid next r [] (test c b v r g) q rest (λ p z s k. at_end p z q s (k (live q (inl l))))) live in
            test_safe a m at mid v r g P (front body at (test c a v r g) (fork r [] (test c b v r g)) next h) un low live_mid
            (other_safe (test c b v r g) m mid next r P rest live_mid live safe (λ p s. test_safe b m p next v r g P s un low live safe))
        test_safe (InterTy a b) m at next v r g P h un low live safe =
            let mid = at + length (test c a v r g) in
            let rest = back body at (test c a v r g) (fork r (test c b v r g) []) next h in
            let live_mid : Lives body t f mid (With P r) = asked_lives mid next r (test c b v r g) [] P rest (λ q l. live_second body mid next r (test c b v r g) [] q rest (λ p s. at_end p next q s (live q (inl l)))) live in
            test_safe a m at mid v r g P (front body at (test c a v r g) (fork r (test c b v r g) []) next h) un low live_mid
            (one_safe (test c b v r g) m mid next r P rest live_mid live safe (λ p q s lq sq. test_safe b m p q v r g P s un low lq sq))
        test_safe (NotTy a) m at next v r g P h un low live safe =
            let mid = at + length (test c a v r g) in
            let i : Instr = instr.Not r r in
            let rest = back body at (test c a v r g) (Does i ∷ []) next h in
            let e : next ≡ mid + 1 = (let z = rest.1 in omega (arith, z)) in
            let live_mid : Lives body t f mid (With P r) = λ q l. either (λ k. live_on body mid (mid + 1) q i rest.0.0 ((un q k).1, tt) (inl refl) (lives_at body t f next (mid + 1) (With P r) e live q (inl k))) (λ w. live_reads body mid q i rest.0.0 (inl w)) l in
            test_safe a m at mid v r g P (front body at (test c a v r g) (Does i ∷ []) next h) un low live_mid
            (safe_step body t f m mid i (With P r) P rest.0.0 live_mid (λ x s. s) (λ q l. either (λ z. unasked P r q (z.0, z.1.0)) (λ z. absurd z) l) (safe_at body t f m next (mid + 1) P e (sure_less_one m next r P safe)))
        test_safe (NamedTy k) m at next v r g P h un low live safe =
            let i : Instr = instr.Share g v in let j : Instr = instr.Call r (length c.results + k) (g ∷ []) in
            let two = tail body at i (Does j ∷ []) next h in
            let e : next ≡ at + 1 + 1 = (let z = two.1 in omega (arith, z)) in
            let live_call : Lives body t f (at + 1) (With P g) = λ q l. either (λ p. live_on body (at + 1) (at + 1 + 1) q j two.0.0 ((un q p).1, (less_not q g (un q p).0, tt)) (inl refl) (lives_at body t f next (at + 1 + 1) (With P r) e live q (inl p))) (λ s. live_reads body (at + 1) q j two.0.0 (inl s)) l in
            let waits : (q : ℕ) → With P g q → IsNone q (g ∷ []) → q ≢ r = λ q l none. either (λ p. (un q p).1) (λ s. absurd (none.0 s)) l in
            let after : Within (After t j (With P g)) (With P r) = λ q l. either (λ z. either (λ p. inl p) (λ s. absurd (z.1.0 s)) z.0) (λ z. inr z.0) l in
            safe_step body t f m at i P (With P g) h.0.0 (λ q l. live_on body at (at + 1) q i h.0.0 (less_not q g (un q l).0, tt) (inl refl) (live_call q (inl l))) (λ x s. s) (λ q l. either (λ z. inl z.0) (λ z. inr z.0) l)
            (safe_step body t f m (at + 1) j (With P g) (With P r) two.0.0 live_call (λ x s. (waits, s)) after (safe_at body t f m next (at + 1 + 1) (With P r) e safe))
        test_safe (NormalTy cs) m at next v r g P h un low live safe = const_safe m at next r g (scalar.Bool false) P h un (live_less next r P live) (sure_less_one m next r P safe)

        fields_safe : (fs : FieldTys) (m at next v r g : ℕ) (P : ℕ → Type 0) → Spans body at (fields_test c fs v r g) next → Untouched r g P → r < g → Lives body t f next (With P r) → Sure body t f m next (With P r) → Sure body t f m at P
        fields_safe NoFieldTys m at next v r g P h un low live safe = empty_safe m at next P h (sure_less_one m next r P safe)
        fields_safe (MoreFieldTys name ty fs) m at next v r g P h un low live safe =
            let i : Instr = instr.Field g v (number_of name c.table.names) in
            let one = test c ty g r (suc g) in let rest = fields_test c fs v r g in
            let inner = tail body at i (one ++ field_end r g rest) next h in
            let mid = at + 1 + length one in
            let one_span = front body (at + 1) one (field_end r g rest) next inner in
            let last = back body (at + 1) one (field_end r g rest) next inner in
            let two = tail body mid (instr.Move (suc g) g) (Does (instr.Clear (suc g ∷ [])) ∷ fork r rest []) next last in
            let three = tail body (mid + 1) (instr.Clear (suc g ∷ [])) (fork r rest []) next two in
            let live_fork : Lives body t f (mid + 1 + 1) (With P r) = asked_lives (mid + 1 + 1) next r rest [] P three (λ q l. live_second body (mid + 1 + 1) next r rest [] q three (λ p s. at_end p next q s (live q (inl l)))) live in
            let facts = dropped_safe m mid next g (suc g) (fork r rest []) (With P r) last
            (λ q l. either (λ k. let z = (un q k).0 in (less_not q g z, less_not q (suc g) (omega (arith, z)))) (λ w. (less_not q g (omega (arith, w, low)), less_not q (suc g) (omega (arith, w, low)))) l) live_fork
            (one_safe rest m (mid + 1 + 1) next r P three live_fork live safe (λ p q s lq sq. fields_safe fs m p q v r g P s un low lq sq)) in
            safe_step body t f m at i P (With P g) h.0.0
            (λ q l. live_on body at (at + 1) q i h.0.0 (less_not q g (un q l).0, tt) (inl refl) (test_live ty g r (suc g) (at + 1) mid q one_span (let z = (un q l).0 in omega (arith, z)) (un q l).1 (facts.1 q (inl (inl l)))))
            (λ x s. s) (λ q l. either (λ z. inl z.0) (λ z. inr z) l)
            (test_safe ty m (at + 1) mid g r (suc g) (With P g) one_span (with_untouched r g g P un low (omega arith)) (omega (arith, low)) (live_turned mid r g P facts.1) (sure_turned m mid r g P facts.0))
