-- What is read with the place of its first token is read exactly.
use Rattle.std.proofs.Common.{◌≡◌, ℕ, List, [], ◌∷◌, ◌++◌, inl, inr, length, Ok, Err, refl, sym, ap, subst, ◌∙◌, append_assoc, append-nil}
use Rattle.wy_reading.specs.declared.stop.Stop.TheVariants.{Unexpected, Fault}
use Rattle.wy_reading.specs.Mode.{Mode}
use Rattle.wy_reading.proofs.Exactness.{Exact, same_mode}
use Rattle.wy_reading.proofs.Outcomes.{and_then-ok, and_then-err, ok-parts}
use Rattle.wy_lex.specs.declared.token.Token.{Token}
use Rattle.wy_parse_grammar.specs.declared.fault.Kind.{Kind}
use Rattle.wy_parse_grammar.specs.Steps.{R, Q, Placed, place, placed}

place-front : (front i j : List Token) → (front ≡ [] → ⊥) → place (front ++ i) ≡ place (front ++ j)
place-front [] i j h = absurd (h refl)
place-front (s ∷ front) i j h = refl

module _ {A : Type 0} (n : Mode) (rule : R A) (q : Mode → Q A) (F B : List Token → Type 0) (e : Exact n rule q F B) (empty : F []) (begun : B [] → ⊥) where
  -- some token is read
  taken : (front : List Token) (a : A) → ((l : List Token) → F l → q n (front ++ l) ≡ Ok (a, l)) → front ≡ [] → ⊥
  taken front a again h = begun (e.first [] a [] (e.sound [] a [] (subst (λ (w : List Token). q n (w ++ []) ≡ Ok (a, [])) h (again [] empty))) empty)

  read-placed : (m : Mode) (i : List Token) (a : A) (j : List Token) → q m i ≡ Ok (a, j) → placed (q m) i ≡ Ok ((place i, a), j)
  unfolding placed
  read-placed m i a j h = rw h refl

  fails-placed : (m : Mode) (i : List Token) (k : ℕ) → q m i ≡ Err (Unexpected k) → placed (q m) i ≡ Err (Unexpected k)
  unfolding placed
  fails-placed m i k h = rw h refl

  parts : (i : List Token) (a : ℕ × A) (j : List Token) → placed (q n) i ≡ Ok (a, j) → (a.0 ≡ place i) × (q n i ≡ Ok (a.1, j))
  unfolding placed
  parts i a j h =
      let y = and_then-ok (q n i) (λ b l. Ok ((place i, b), l)) (a, j) h in
      let same = ok-parts (place i, y.0.0) a y.0.1 j y.2 in
      (sym (ap (λ (p : ℕ × A). p.0) same.0), y.1 ∙ (ap (λ (p : ℕ × A). Ok (p.1, y.0.1)) same.0 ∙ ap (λ (l : List Token). Ok (a.1, l)) same.1))

  stops : (i : List Token) (k : ℕ) → placed (q n) i ≡ Err (Unexpected k) → q n i ≡ Err (Unexpected k)
  unfolding placed
  stops i k h = elim (and_then-err (q n i) (λ b l. Ok ((place i, b), l)) (Unexpected k) h) [ inl g ↦ g | inr y ↦ let bad = y.2 in absurd (cc) ]

  faults : (i : List Token) (x : Kind) (k : ℕ) → placed (q n) i ≡ Err (Fault x k) → q n i ≡ Err (Fault x k)
  unfolding placed
  faults i x k h = elim (and_then-err (q n i) (λ b l. Ok ((place i, b), l)) (Fault x k) h) [ inl g ↦ g | inr y ↦ let bad = y.2 in absurd (cc) ]

  met-placed : (m : Mode) (i : List Token) (x : Kind) (k : ℕ) → q m i ≡ Err (Fault x k) → placed (q m) i ≡ Err (Fault x k)
  unfolding placed
  met-placed m i x k h = rw h refl

  begun-on : (text : List Token) → B (text ++ []) → text ≡ [] → ⊥
  begun-on text b h = begun (subst (λ (w : List Token). B (w ++ [])) h b)

  same-place : (text z : List Token) → (text ≡ [] → ⊥) → place (text ++ z) ≡ place text
  same-place text z h = place-front text z [] h ∙ ap place (append-nil text)

  pub placed-exact : Exact n (Placed rule) (λ m. placed (q m)) F B
  placed-exact = record {
    sound = λ i a j h. let p = parts i a j h in (p.0, e.sound i a.1 j p.1);
    complete = λ i a j h f. read-placed n i a.1 j (e.complete i a.1 j h.1 f) ∙ ap (λ (w : ℕ). Ok ((w, a.1), j)) (sym h.0);
    first = λ i a j h f. e.first i a.1 j h.1 f;
    met = λ i x k h. e.met i x k (faults i x k h);
    meets = λ i x k h. let d = e.meets i x k h in (met-placed n i x k d.0, d.1, d.2);
    done = λ i a j h. let p = parts i a j h in let d = e.done i a.1 j p.1 in record {
      front = d.front;
      cut = d.cut;
      again = λ m le j' g.
          read-placed m (d.front ++ j') a.1 j' (d.again m le j' g)
          ∙ ap (λ (w : ℕ). Ok ((w, a.1), j'))
          (place-front d.front j' j (taken d.front a.1 (λ l f. d.again n (same_mode n) l (inr f))) ∙ (ap place (sym d.cut) ∙ sym p.0));
    };
    stuck = λ i k h. let d = e.stuck i k (stops i k h) in record {
      front = d.front;
      back = d.back;
      cut = d.cut;
      left = d.left;
      again = λ m le j' s. fails-placed m (d.front ++ j') (length j') (d.again m le j' s);
      ending = d.ending;
      made = (place (d.front ++ d.ending), d.made);
      wanted = tt;
      deep = d.deep;
      alive = λ m le deep z f.
          read-placed m (d.front ++ (d.ending ++ z)) d.made z (d.alive m le deep z f)
          ∙ ap (λ (w : ℕ). Ok ((w, d.made), z))
          (ap place (sym (append_assoc d.front d.ending z))
          ∙ same-place (d.front ++ d.ending) z (begun-on (d.front ++ d.ending) (subst B (sym (append_assoc d.front d.ending [])) (d.starts [] empty))));
      starts = d.starts;
    };
    sample = let t = e.sample in record {
      text = t.text;
      made = (place t.text, t.made);
      wanted = tt;
      deep = t.deep;
      alive = λ m le deep z f.
          read-placed m (t.text ++ z) t.made z (t.alive m le deep z f) ∙ ap (λ (w : ℕ). Ok ((w, t.made), z)) (same-place t.text z (begun-on t.text (t.starts [] empty)));
      starts = t.starts;
    };
  }
