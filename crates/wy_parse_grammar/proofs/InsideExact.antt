-- What is read exactly on every level is read exactly one level deeper, and so is what is read with the place of its first token.
use Rattle.std.proofs.Common.{ℕ, zero, suc, ◌≤◌, Bool, List, arith}
use Rattle.wy_reading.specs.Mode.{Mode}
use Rattle.wy_reading.proofs.Exactness.{Exact}
use Rattle.wy_reading.proofs.Levels.{deeper}
use Rattle.wy_lex.specs.declared.token.Token.{Token}
use Rattle.wy_parse_grammar.specs.Steps.{R, Q, inside}

-- the mode with one level fewer
abbrev down : Mode → Mode
down m = record { depth = inside m.depth; strict = m.strict }

inside_least : (d e : ℕ) → suc d ≤ e → d ≤ inside e
inside_least d zero h = absurd (omega (arith, h))
inside_least d (suc e) h = omega (arith, h)

module _ {A : Type 0} (rule : Bool → ℕ → R A) (q : Bool → ℕ → Q A) (F B : List Token → Type 0) where
  abbrev inner_read : Mode → Q A
  inner_read m = q m.strict (inside m.depth)

  -- on the lowest level there is none deeper, so that it stands for itself
  lowest_inside : (s : Bool) → (let n : Mode = record { depth = zero; strict = s } in Exact n (rule s zero) (λ m. q m.strict m.depth) F B)
      → (let n : Mode = record { depth = zero; strict = s } in Exact n (rule s zero) inner_read F B)
  lowest_inside s e = record {
    sound = e.sound;
    complete = e.complete;
    first = e.first;
    met = e.met;
    meets = e.meets;
    done = λ i a j h. let d = e.done i a j h in record { front = d.front; cut = d.cut; again = λ m le j' g. d.again (down m) (omega arith, le.1) j' g };
    stuck = λ i k h. let d = e.stuck i k h in record {
      front = d.front;
      back = d.back;
      cut = d.cut;
      left = d.left;
      again = λ m le j' g. d.again (down m) (omega arith, le.1) j' g;
      ending = d.ending;
      made = d.made;
      wanted = d.wanted;
      deep = suc d.deep;
      alive = λ m le deep z f. d.alive (down m) (omega arith, le.1) (inside_least d.deep m.depth deep) z f;
      starts = d.starts;
    };
    sample = let t = e.sample in record {
      text = t.text;
      made = t.made;
      wanted = t.wanted;
      deep = suc t.deep;
      alive = λ m le deep z f. t.alive (down m) (omega arith, le.1) (inside_least t.deep m.depth deep) z f;
      starts = t.starts;
    };
  }

  pub inside-exact : ((d : ℕ) (s : Bool) → Exact (record { depth = d; strict = s }) (rule s d) (λ m. q m.strict m.depth) F B)
      → (d : ℕ) (s : Bool) → Exact (record { depth = d; strict = s }) (rule s (inside d)) inner_read F B
  inside-exact every zero s = lowest_inside s (every zero s)
  inside-exact every (suc d) s = deeper (record { depth = d; strict = s }) (rule s d) inner_read (every d s)
