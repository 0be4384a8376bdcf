-- Steps of reading a block with a list of the switches that are open in it.
use Rattle.std.proofs.Common.{◌≡◌, ◌≢◌, ℕ, zero, suc, ◌+◌, ◌-◌, ◌<◌, ◌^◌, Bool, true, false, ◌&&◌, not, List, [], ◌∷◌, ◌++◌, length, Result, Ok, Err, refl, sym, ap, subst, ◌∙◌, arith, length-append}
use Rattle.std.proofs.Math.Path.{fun_ext}
use Rattle.wy_lemmas.proofs.Choices.{at_end}
use Rattle.wy_reading.specs.declared.stop.Stop.{Stop}
use Rattle.wy_reading.specs.declared.stop.Stop.TheVariants.{Unexpected, NoMemory}
use Rattle.wy_reading.specs.Rule.{heads}
use Rattle.wy_reading.specs.Reader.{◌>>=◌, Outcome, Reads, and_then, pure, branch, while}
use Rattle.wy_lex.specs.declared.token.Token.{Token}
use Rattle.wy_parse.specs.declared.blocks.Open.{Open}
use Rattle.wy_parse.specs.declared.blocks.Progress.{Progress}
use Rattle.wy_parse_grammar.specs.declared.fault.Kind.{Kind}
use Rattle.wy_parse_grammar.specs.declared.sort.Class.TheVariants as class
use Rattle.wy_parse_grammar.specs.Sorts as t
use Rattle.wy_parse_grammar.specs.Sorts.{has, is, members}
use Rattle.wy_parse_grammar.specs.Steps.{Q, mark}
use Rattle.wy_parse_grammar.specs.Trees.{pushed, none, some, both}
use Rattle.wy_parse_grammar.specs.ExprGrammar.{E}
use Rattle.wy_parse.specs.StmtTrees as trees
use Rattle.wy_parse.specs.StmtTrees.{S, Stmts, Cases}
use Rattle.wy_parse.specs.BlockGrammar.{width}
use Rattle.wy_parse.specs.BlockReading as read
use Rattle.wy_parse.specs.BlockReading.{nested, piece, rest, block, block_of, default, shut_block}
use Rattle.wy_parse.specs.OpenBlocks.{lone_default, closed, opened, with_stmt, Closes, below, alone, rest_at, going, header, with_cases, statement_but_switch, around, resumed, Moves}
use Rattle.wy_reading.proofs.Turns.{loop-halts}
use Rattle.wy_parse_grammar.proofs.TokenLemmas.{at_other}
use Rattle.wy_parse.proofs.Shrinking.{while-turn, mark-eats, mark-lacks}
use Rattle.wy_parse.proofs.BlockSizes.{piece_at-eats, statement_at-eats, header-eats, lone_default-eats, with_cases-shrinks}
use denote.Ref.{Bor}

-- ---- outcomes

bind-assoc : {A B C : Type 0} (x : Outcome Token Kind A) (f : A → Q B) (g : B → Q C) → and_then (and_then x f) g ≡ and_then x (λ a j. and_then (f a j) g)
bind-assoc (Ok r) f g = refl
bind-assoc (Err e) f g = refl

-- ---- the level of a block

alone_block : (levels w : ℕ) (i : List Token) → block true levels (below levels) w i ≡ block_of true levels (below levels) (alone levels w) i
unfolding read.block alone
alone_block levels zero i = refl
alone_block levels (suc w) i = refl

block_goes : (levels w : ℕ) (i : List Token) → block true levels (below levels) w i ≡ (mark t.LINE_END >>= (λ _. mark t.BLOCK_IN >>= (λ _. going levels w false none))) i
unfolding going block_of
block_goes levels w i = alone_block levels w i

pub block_shut : (levels : ℕ) (i : List Token) → levels ≡ 0 → (nested true levels).block i ≡ shut_block i
unfolding read.nested
block_shut levels i e = rw e refl

pub block_open : (levels : ℕ) (i : List Token) → 0 < levels → (nested true levels).block i ≡ (mark t.LINE_END >>= (λ _. mark t.BLOCK_IN >>= (λ _. going levels width false none))) i
unfolding read.nested
block_open zero i h = absurd (omega (arith, h))
block_open (suc d) i h = block_goes (suc d) width i

pub ruleset block_levels = (block_shut, block_open)

-- ---- around what is read

around-at : (levels w : ℕ) (os : List Open) (p q : Q Stmts) (i j : List Token) → p i ≡ q j → around levels w os p i ≡ around levels w os q j
unfolding around
around-at levels w [] p q i j e = e
around-at levels zero (o ∷ os) p q i j e = e
around-at levels (suc w) (o ∷ os) p q i j e = rw (around-at levels w os p q i j e) refl

around-err : (levels w : ℕ) (os : List Open) (p : Q Stmts) (i : List Token) (x : Stop Kind) → p i ≡ Err x → around levels w os p i ≡ Err x
unfolding around
around-err levels w [] p i x e = e
around-err levels zero (o ∷ os) p i x e = e
around-err levels (suc w) (o ∷ os) p i x e = rw (around-err levels w os p i x e) refl

-- behind the default of a switch that is open in a block
abbrev behind : ℕ → ℕ → Open → Q Stmts → Q Stmts
behind levels w o q = q >>= (λ body. mark t.BLOCK_OUT >>= (λ _. rest_at levels w (closed o body)))

around-last : (levels w : ℕ) (os : List Open) (o : Open) (q : Q Stmts) (i : List Token) → length os < w
    → around levels w (os ++ o ∷ []) q i ≡ around levels w os (behind levels (w - length os) o q) i
unfolding around
around-last levels zero os o q i h = absurd (omega (arith, h))
around-last levels (suc w) [] o q i h = let e : suc w - 0 ≡ suc w = omega arith in rw e refl
around-last levels (suc w) (p ∷ os) o q i h =
    let e : suc w - suc (length os) ≡ w - length os = omega arith in
    rw (e, around-last levels w os o q i (omega (arith, h))) refl

-- ---- the innermost block

-- a statement follows, or has to
abbrev Follows : Bool → List Token → Type 0
Follows begun i = begun ≡ true → heads (has class.Statement) i ≡ true

rest_turn : (levels w : ℕ) (ss : Stmts) (i : List Token) → heads (has class.Statement) i ≡ true
    → rest_at levels w ss i ≡ and_then (piece true levels (below levels) (alone levels w) ss i) (rest_at levels w)
unfolding rest
rest_turn levels w ss i h =
    let turn = piece true levels (below levels) (alone levels w) in
    ap (λ (r : Outcome Token Kind Stmts). and_then r (λ all. mark t.BLOCK_OUT >>= (λ _. pure all))) (while-turn (has class.Statement) turn (λ a. piece_at-eats levels w a) ss i h)
    ∙ bind-assoc (turn ss i) (while (has class.Statement) turn) (λ all. mark t.BLOCK_OUT >>= (λ _. pure all))

one_more : (levels w : ℕ) (begun : Bool) (ss : Stmts) (i : List Token) → Follows begun i
    → going levels w begun ss i ≡ and_then (piece true levels (below levels) (alone levels w) ss i) (rest_at levels w)
unfolding going
one_more levels w false ss i h = refl
one_more levels w true ss i h = rest_turn levels w ss i (h refl)

-- where a statement is read, or none is
stmt-goes : (levels w : ℕ) (begun : Bool) (ss : Stmts) (i : List Token) (st : S) (j : List Token) → Follows begun i
    → read.statement true levels (below levels) (alone levels w) i ≡ Ok (st, j) → going levels w begun ss i ≡ going levels w true (pushed ss st) j
unfolding going
stmt-goes levels w begun ss i st j f e = one_more levels w begun ss i f ∙ rw e refl

stmt-fails : (levels w : ℕ) (begun : Bool) (ss : Stmts) (i : List Token) (x : Stop Kind) → Follows begun i
    → read.statement true levels (below levels) (alone levels w) i ≡ Err x → going levels w begun ss i ≡ Err x
stmt-fails levels w begun ss i x f e = one_more levels w begun ss i f ∙ rw e refl

-- a statement that is no switch
but_switch : (levels w : ℕ) (i : List Token) → heads (is t.SWITCH) i ≡ false → read.statement true levels (below levels) (alone levels w) i ≡ statement_but_switch levels i
unfolding read.statement statement_but_switch
but_switch levels w i h = rw h refl

-- a switch
the_switch : (levels w : ℕ) (i : List Token) → heads (is t.SWITCH) i ≡ true
    → read.statement true levels (below levels) (alone levels w) i
    ≡ and_then (header levels i) (λ h. branch (is t.CASE) (with_cases levels) (alone levels w) >>= (λ cs. pure (trees.switch_node h.0 h.1 cs)))
unfolding read.statement read.switch header with_cases
the_switch levels w i h = rw h (simp bind-assoc)

alone-lacks : (levels w : ℕ) (i : List Token) → heads (is t.DEFAULT) i ≡ false → alone levels w i ≡ Err (Unexpected (length i))
unfolding alone default
alone-lacks levels zero i h = rw h refl
alone-lacks levels (suc w) i h = rw (mark-lacks t.DEFAULT i h) refl

with_cases-lacks : (levels : ℕ) (i : List Token) → heads (is t.CASE) i ≡ false → with_cases levels i ≡ Err (Unexpected (length i))
unfolding with_cases
with_cases-lacks levels i h = rw (mark-lacks t.CASE i h) refl

-- a switch that doesn't go on with a default
no_default : (levels w : ℕ) (i : List Token) → heads (is t.DEFAULT) i ≡ false → branch (is t.CASE) (with_cases levels) (alone levels w) i ≡ with_cases levels i
no_default levels w i h = by (heads (is t.CASE) i) refl
  where
    by : (b : Bool) → heads (is t.CASE) i ≡ b → branch (is t.CASE) (with_cases levels) (alone levels w) i ≡ with_cases levels i
    by true e = rw e refl
    by false e = rw (e, alone-lacks levels w i h) (sym (with_cases-lacks levels i e))

-- a default without cases
two_at : {A B : Type 0} (r : Outcome Token Kind ℕ) (n : Q ℕ) (g : Q A) (f : A → Q B) → and_then (and_then r (λ u. n >>= (λ v. g))) f ≡ and_then (and_then r (λ u. n)) (λ x. g >>= f)
two_at (Ok y) n g f = bind-assoc (n y.1) (λ v. g) f
two_at (Err e) n g f = refl

three_at : {A B : Type 0} (r : Outcome Token Kind ℕ) (l n : Q ℕ) (g : Q A) (f : A → Q B)
    → and_then r (λ b. (l >>= (λ u. n >>= (λ v. g))) >>= f) ≡ and_then (and_then r (λ b. l >>= (λ u. n))) (λ x. g >>= f)
three_at (Ok y) l n g f = two_at (l y.1) n g f
three_at (Err e) l n g f = refl

four_at : {A B : Type 0} (r : Outcome Token Kind ℕ) (c l n : Q ℕ) (g : Q A) (f : A → Q B)
    → and_then r (λ a. c >>= (λ b. (l >>= (λ u. n >>= (λ v. g))) >>= f)) ≡ and_then (and_then r (λ a. c >>= (λ b. l >>= (λ u. n)))) (λ x. g >>= f)
four_at (Ok y) c l n g f = three_at (c y.1) l n g f
four_at (Err e) c l n g f = refl

default_shape : (g : Q Stmts) (i : List Token)
    → default (mark t.LINE_END >>= (λ u. mark t.BLOCK_IN >>= (λ v. g))) none i ≡ and_then (lone_default i) (λ x. g >>= (λ body. mark t.BLOCK_OUT >>= (λ y. pure (both none (some body)))))
unfolding default lone_default
default_shape g i = four_at (mark t.DEFAULT i) (mark t.COLON) (mark t.LINE_END) (mark t.BLOCK_IN) g (λ body. mark t.BLOCK_OUT >>= (λ y. pure (both none (some body))))

default_begins : (levels w : ℕ) (i : List Token)
    → default (block true levels (below levels) w) none i ≡ and_then (lone_default i) (λ x. going levels w false none >>= (λ body. mark t.BLOCK_OUT >>= (λ y. pure (both none (some body)))))
default_begins levels w i = ap (λ (b : Q Stmts). default b none i) (fun_ext (block_goes levels w)) ∙ default_shape (going levels w false none) i

alone_begins : (levels w v : ℕ) (i : List Token) → w ≡ suc v
    → alone levels w i ≡ and_then (lone_default i) (λ x. going levels v false none >>= (λ body. mark t.BLOCK_OUT >>= (λ y. pure (both none (some body)))))
unfolding alone
alone_begins levels w v i e = rw e (default_begins levels v i)

-- what begins a default is no case
no_case : (i : List Token) → heads (is t.DEFAULT) i ≡ true → heads (is t.CASE) i ≡ false
no_case i h = at_other t.CASE t.DEFAULT i refl h

-- the statement that begins so
abbrev Begun : ℕ → List Token → ℕ → E → List Token → Type 0
Begun levels i place value j = (heads (is t.SWITCH) i ≡ true) × (header levels i ≡ Ok ((place, value), j))

switch_at : (levels w : ℕ) (i : List Token) (place : ℕ) (value : E) (j : List Token) → Begun levels i place value j
    → read.statement true levels (below levels) (alone levels w) i ≡ and_then (branch (is t.CASE) (with_cases levels) (alone levels w) j) (λ cs. pure (trees.switch_node place value cs))
switch_at levels w i place value j b = the_switch levels w i b.0 ∙ rw b.1 refl

flat_mark : (r : Outcome Token Kind ℕ) (cs : Cases) (st : Cases → S) (ss : S → Stmts) (rest : Stmts → Q Stmts)
    → and_then (and_then (and_then (and_then r (λ y. pure cs)) (λ c. pure (st c))) (λ s. pure (ss s))) rest ≡ and_then r (λ y. rest (ss (st cs)))
flat_mark (Ok y) cs st ss rest = refl
flat_mark (Err e) cs st ss rest = refl

flat : (r : Outcome Token Kind Stmts) (m : Q ℕ) (cs : Stmts → Cases) (st : Cases → S) (ss : S → Stmts) (rest : Stmts → Q Stmts)
    → and_then (and_then (and_then (and_then r (λ body. m >>= (λ y. pure (cs body)))) (λ c. pure (st c))) (λ s. pure (ss s))) rest ≡ and_then r (λ body. m >>= (λ y. rest (ss (st (cs body)))))
flat (Ok y) m cs st ss rest = flat_mark (m y.1) (cs y.0) st ss rest
flat (Err e) m cs st ss rest = refl

-- its default's block is read in its place
open-goes : (levels w v : ℕ) (begun : Bool) (ss : Stmts) (i : List Token) (place : ℕ) (value : E) (j k : List Token) (x : ℕ) → w ≡ suc v → Follows begun i → Begun levels i place value j
    → heads (is t.DEFAULT) j ≡ true → lone_default j ≡ Ok (x, k)
    → going levels w begun ss i ≡ behind levels w (record { at = place; value = value; before = ss }) (going levels v false none) k
open-goes levels w v begun ss i place value j k x e f b h d =
    one_more levels w begun ss i f ∙ rw (switch_at levels w i place value j b, no_case j h, alone_begins levels w v j e, d)
    (flat (going levels v false none k) (mark t.BLOCK_OUT) (λ body. both none (some body)) (λ cs. trees.switch_node place value cs) (λ st. pushed ss st) (rest_at levels w))

open-fails : (levels w v : ℕ) (begun : Bool) (ss : Stmts) (i : List Token) (place : ℕ) (value : E) (j : List Token) (x : Stop Kind) → w ≡ suc v → Follows begun i → Begun levels i place value j
    → heads (is t.DEFAULT) j ≡ true → lone_default j ≡ Err x → going levels w begun ss i ≡ Err x
open-fails levels w v begun ss i place value j x e f b h d =
    one_more levels w begun ss i f ∙ rw (switch_at levels w i place value j b, no_case j h, alone_begins levels w v j e, d) refl

cases-goes : (levels w : ℕ) (begun : Bool) (ss : Stmts) (i : List Token) (place : ℕ) (value : E) (j : List Token) (cs : Cases) (k : List Token) → Follows begun i → Begun levels i place value j
    → heads (is t.DEFAULT) j ≡ false → with_cases levels j ≡ Ok (cs, k) → going levels w begun ss i ≡ going levels w true (pushed ss (trees.switch_node place value cs)) k
cases-goes levels w begun ss i place value j cs k f b h d =
    stmt-goes levels w begun ss i (trees.switch_node place value cs) k f (switch_at levels w i place value j b ∙ rw (no_default levels w j h, d) refl)

cases-fails : (levels w : ℕ) (begun : Bool) (ss : Stmts) (i : List Token) (place : ℕ) (value : E) (j : List Token) (x : Stop Kind) → Follows begun i → Begun levels i place value j
    → heads (is t.DEFAULT) j ≡ false → with_cases levels j ≡ Err x → going levels w begun ss i ≡ Err x
cases-fails levels w begun ss i place value j x f b h d =
    stmt-fails levels w begun ss i x f (switch_at levels w i place value j b ∙ rw (no_default levels w j h, d) refl)

header-fails : (levels w : ℕ) (begun : Bool) (ss : Stmts) (i : List Token) (x : Stop Kind) → Follows begun i → heads (is t.SWITCH) i ≡ true
    → header levels i ≡ Err x → going levels w begun ss i ≡ Err x
header-fails levels w begun ss i x f h d = stmt-fails levels w begun ss i x f (the_switch levels w i h ∙ rw d refl)

-- a block is at its end
halted : (levels w : ℕ) (ss : Stmts) (i : List Token) → heads (has class.Statement) i ≡ false → going levels w true ss i ≡ and_then (mark t.BLOCK_OUT i) (λ y. pure ss)
unfolding going rest
halted levels w ss i h = rw (loop-halts (has class.Statement) (piece true levels (below levels) (alone levels w)) (length i) ss i h) refl

-- an open switch is whole with the default's block
ended : (levels w v : ℕ) (o : Open) (ss : Stmts) (i : List Token) (a : ℕ) (j : List Token) (b : ℕ) (k : List Token) → heads (has class.Statement) i ≡ false
    → mark t.BLOCK_OUT i ≡ Ok (a, j) → mark t.BLOCK_OUT j ≡ Ok (b, k) → behind levels w o (going levels v true ss) i ≡ going levels w true (closed o ss) k
unfolding going
ended levels w v o ss i a j b k h e d = rw (halted levels v ss i h, e, d) refl

last_of : (os : List Open) → os ≢ [] → (front : List Open) × (o : Open) × (os ≡ front ++ o ∷ [])
last_of [] h = absurd (h refl)
last_of (o ∷ []) h = ([], o, refl)
last_of (o ∷ (p ∷ os)) h = let l = last_of (p ∷ os) (λ e. absurd (cc)) in (o ∷ l.0, l.1, ap (λ (xs : List Open). o ∷ xs) l.2)

-- ---- steps

-- a statement may follow where the block isn't at its end
follows : (begun here : Bool) → (begun && not here) ≡ false → begun ≡ true → here ≡ true
follows true true e h = refl
follows true false e h = absurd (cc)
follows false here e h = absurd (cc)

pub begins : (levels : ℕ) (p : Progress) (i : List Token) → p.switches ≡ [] → p.made ≡ none → p.begun ≡ false → going levels width false none i ≡ resumed levels width p i
unfolding around
begins levels p i s m b = let e : width - 0 ≡ width = omega arith in rw (s, m, b, e) refl

pub stops : {A : Type 0} (wanted : Outcome Token Kind A) (e : Stop Kind) (r : Result (A × Bor (List Token)) (Stop Kind)) → r ≡ Err e → (e ≢ NoMemory → wanted ≡ Err e) → Reads wanted r
stops {A} wanted e r re h = subst (λ (x : Result (A × Bor (List Token)) (Stop Kind)). Reads wanted x) (sym re) h

pub fits_width : (n : ℕ) → n < 2 ^ 64 → n < width
unfolding width
fits_width n h = h

module _ (levels : ℕ) (p : Progress) (i : List Token) where
  module _ (open_end : (p.begun && not (heads (has class.Statement) i)) ≡ false) where
    f : Follows p.begun i
    f = follows p.begun (heads (has class.Statement) i) open_end

    pub statement_moves : (p' : Progress) (st : S) (j : List Token) → heads (is t.SWITCH) i ≡ false → statement_but_switch levels i ≡ Ok (st, j) → p' ≡ with_stmt p st → Moves levels p i p' j
    statement_moves p' st j h e same =
        let w = width - length p.switches in
        let read = but_switch levels w i h ∙ e in
        let less = statement_at-eats levels w i st j read in
        subst (λ (q : Progress). Moves levels p i q j) (sym same) (record {
          same = around-at levels width p.switches (going levels w p.begun p.made) (going levels w true (pushed p.made st)) i j (stmt-goes levels w p.begun p.made i st j f read);
          shorter = less;
          room = omega (arith, less);
        })

    pub statement_stops : (x : Stop Kind) → heads (is t.SWITCH) i ≡ false → statement_but_switch levels i ≡ Err x → resumed levels width p i ≡ Err x
    statement_stops x h e =
        let w = width - length p.switches in
        around-err levels width p.switches (going levels w p.begun p.made) i x (stmt-fails levels w p.begun p.made i x f (but_switch levels w i h ∙ e))

    module _ (h : heads (is t.SWITCH) i ≡ true) where
      pub header_stops : (x : Stop Kind) → header levels i ≡ Err x → resumed levels width p i ≡ Err x
      header_stops x e =
          let w = width - length p.switches in
          around-err levels width p.switches (going levels w p.begun p.made) i x (header-fails levels w p.begun p.made i x f h e)

      module _ (place : ℕ) (value : E) (j : List Token) (e : header levels i ≡ Ok ((place, value), j)) where
        pub cases_move : (p' : Progress) (cs : Cases) (k : List Token) → heads (is t.DEFAULT) j ≡ false → with_cases levels j ≡ Ok (cs, k)
            → p' ≡ with_stmt p (trees.switch_node place value cs) → Moves levels p i p' k
        cases_move p' cs k g d same =
            let w = width - length p.switches in
            let one = header-eats levels i (place, value) j e in
            let two = with_cases-shrinks levels j cs k d in
            subst (λ (q : Progress). Moves levels p i q k) (sym same) (record {
              same = around-at levels width p.switches (going levels w p.begun p.made) (going levels w true (pushed p.made (trees.switch_node place value cs))) i k
                  (cases-goes levels w p.begun p.made i place value j cs k f (h, e) g d);
              shorter = omega (arith, one, two);
              room = omega (arith, one, two);
            })

        pub cases_stop : (x : Stop Kind) → heads (is t.DEFAULT) j ≡ false → with_cases levels j ≡ Err x → resumed levels width p i ≡ Err x
        cases_stop x g d =
            let w = width - length p.switches in
            around-err levels width p.switches (going levels w p.begun p.made) i x (cases-fails levels w p.begun p.made i place value j x f (h, e) g d)

        module _ (room : length p.switches + length i < width) (g : heads (is t.DEFAULT) j ≡ true) where
          pub default_moves : (p' : Progress) (x : ℕ) (k : List Token) → lone_default j ≡ Ok (x, k) → p' ≡ opened place value p → Moves levels p i p' k
          default_moves p' x k d same =
              let o : Open = record { at = place; value = value; before = p.made } in
              let w = width - length p.switches in
              let v = width - length (p.switches ++ o ∷ []) in
              let size : length (p.switches ++ o ∷ []) ≡ length p.switches + 1 = length-append p.switches (o ∷ []) in
              let next : w ≡ suc v = omega (arith, room, size) in
              let one = header-eats levels i (place, value) j e in
              let two = lone_default-eats j x k d in
              subst (λ (q : Progress). Moves levels p i q k) (sym same) (record {
                same =
                    around-at levels width p.switches (going levels w p.begun p.made) (behind levels w o (going levels v false none)) i k
                    (open-goes levels w v p.begun p.made i place value j k x next f (h, e) g d)
                    ∙ sym (around-last levels width p.switches o (going levels v false none) k (omega (arith, room)));
                shorter = omega (arith, one, two);
                room = omega (arith, one, two, size);
              })

          pub default_stops : (x : Stop Kind) → lone_default j ≡ Err x → resumed levels width p i ≡ Err x
          default_stops x d =
              let w = width - length p.switches in
              let next : w ≡ suc (w - 1) = omega (arith, room) in
              around-err levels width p.switches (going levels w p.begun p.made) i x (open-fails levels w (w - 1) p.begun p.made i place value j x next f (h, e) g d)

  module _ (ending : (p.begun && not (heads (has class.Statement) i)) ≡ true) where
    begun : p.begun ≡ true
    begun = (at_end p.begun (heads (has class.Statement) i) ending).0

    h : heads (has class.Statement) i ≡ false
    h = (at_end p.begun (heads (has class.Statement) i) ending).1

    -- the first OUT is missing
    pub end_stops : (x : Stop Kind) → mark t.BLOCK_OUT i ≡ Err x → resumed levels width p i ≡ Err x
    end_stops x e =
        let w = width - length p.switches in
        around-err levels width p.switches (going levels w p.begun p.made) i x (ap (λ (s : Bool). going levels w s p.made i) begun ∙ (halted levels w p.made i h ∙ rw e refl))

    module _ (a : ℕ) (j : List Token) (e : mark t.BLOCK_OUT i ≡ Ok (a, j)) where
      -- the block is whole
      pub block_ends : p.switches ≡ [] → resumed levels width p i ≡ Ok (p.made, j)
      unfolding around
      block_ends none_open =
          ap (λ (os : List Open). around levels width os (going levels (width - length os) p.begun p.made) i) none_open
          ∙ (ap (λ (s : Bool). going levels (width - 0) s p.made i) begun ∙ (halted levels (width - 0) p.made i h ∙ rw e refl))

      module _ (room : length p.switches + length i < width) where
        pub end_moves : (p' : Progress) (b : ℕ) (k : List Token) → mark t.BLOCK_OUT j ≡ Ok (b, k) → Closes p p' → Moves levels p i p' k
        end_moves p' b k d c =
            let size : length p.switches ≡ length p'.switches + 1 = ap length c.switches ∙ length-append p'.switches (c.last ∷ []) in
            let w = width - length p'.switches in
            let v = width - length p.switches in
            let one = mark-eats t.BLOCK_OUT i a j e in
            let two = mark-eats t.BLOCK_OUT j b k d in
            let inner : behind levels w c.last (going levels v true p.made) i ≡ going levels w true (closed c.last p.made) k = ended levels w v c.last p.made i a j b k h e d in
            record {
              same =
                  ap (λ (s : Bool). around levels width p.switches (going levels v s p.made) i) begun
                  ∙ (ap (λ (os : List Open). around levels width os (going levels v true p.made) i) c.switches
                  ∙ (around-last levels width p'.switches c.last (going levels v true p.made) i (omega (arith, room, size))
                  ∙ (around-at levels width p'.switches (behind levels w c.last (going levels v true p.made)) (going levels w true (closed c.last p.made)) i k inner
                  ∙ (ap (λ (s : Bool). around levels width p'.switches (going levels w s (closed c.last p.made)) k) (sym (c.begun ∙ begun))
                  ∙ ap (λ (ss : Stmts). around levels width p'.switches (going levels w p'.begun ss) k) (sym c.made)))));
              shorter = omega (arith, one, two);
              room = omega (arith, one, two, size);
            }

        -- the second OUT is missing
        pub end_stops_too : (x : Stop Kind) → p.switches ≢ [] → mark t.BLOCK_OUT j ≡ Err x → resumed levels width p i ≡ Err x
        end_stops_too x some d =
            let l = last_of p.switches some in
            let size : length p.switches ≡ length l.0 + 1 = ap length l.2 ∙ length-append l.0 (l.1 ∷ []) in
            let w = width - length l.0 in
            let v = width - length p.switches in
            ap (λ (s : Bool). around levels width p.switches (going levels v s p.made) i) begun
            ∙ (ap (λ (os : List Open). around levels width os (going levels v true p.made) i) l.2
            ∙ (around-last levels width l.0 l.1 (going levels v true p.made) i (omega (arith, room, size))
            ∙ around-err levels width l.0 (behind levels w l.1 (going levels v true p.made)) i x (rw (halted levels v p.made i h, e, d) refl)))

pub ruleset piece_steps = (statement_moves, statement_stops)

pub ruleset switch_steps = (header_stops, cases_move, cases_stop, default_moves, default_stops)

pub ruleset end_steps = (end_stops, end_moves, end_stops_too)
