-- A fault that is met stands no later than the first token that is in no front: with it the tokens before it are one.
use Rattle.std.proofs.Common.{◌≡◌, ◌<◌, ◌≤◌, ◌+◌, ℕ, zero, suc, Bool, true, false, List, [], ◌∷◌, ◌++◌, length, Ok, Err, refl, sym, ap, ◌∙◌, subst, arith, append_assoc, append-nil, length-append}
use Rattle.wy_reading.specs.declared.stop.Stop.TheVariants.{Unexpected, Fault, NoMemory}
use Rattle.wy_reading.specs.Mode.{Mode}
use Rattle.wy_reading.specs.Places.{IsText}
use Rattle.wy_reading.specs.Reader.{Outcome}
use Rattle.wy_lex.specs.declared.token.Token.{Token}
use Rattle.wy_ast.specs.declared.declarations.Program.{Program}
use Rattle.wy_parse_grammar.specs.declared.fault.Kind.{Kind}
use Rattle.wy_parse_grammar.specs.declared.measured.Measured.{Measured}
use Rattle.wy_parse.specs.BlockGrammar.{width}
use Rattle.wy_parse.specs.ProgramGrammar.{Text}
use Rattle.wy_parse.specs.ProgramReading.{text}
use Rattle.wy_parse.specs.Derivation.{profile, Meets}
use Rattle.wy_parse.specs.Fronts.{loose, IsLoose, IsFront, IsPossible}
use Rattle.wy_parse.proofs.ProgramExact.{promised}
use Rattle.wy_parse.proofs.ProgramExact.{text-exact}
use Rattle.wy_parse.proofs.FrontLemmas.{front_of, cut-at, place-cut, program-stands}
use Rattle.wy_parse_grammar.proofs.LooserLemmas.{left}
use Rattle.wy_parse.proofs.LooserBlocks.{go-text}

abbrev mode : Bool → ℕ → Mode
mode s d = record { depth = d; strict = s }

-- where a fault is met, a text begins with all tokens up to one that stands no earlier
record Beyond (i : List Token) (k : ℕ) : Type 0 where
  front : List Token
  back : List Token
  cut : i ≡ front ++ back
  short : length back < k
  goes_on : IsFront front

module _ (i : List Token) (le : length i ≤ width) where
  beyond : (bound : ℕ) (s : Bool) (d : ℕ) (x : Kind) (k : ℕ) → k ≤ bound → text (mode s d) i ≡ Err (Fault x k) → Beyond i k
  beyond zero s d x k small h = absurd (let far = (go-text (length i) le s d (5 + d) (omega arith)).beyond i x k (omega arith) h in omega (arith, small, far))
  beyond (suc bound) s d x k small h = by (text (loose (5 + d)) i) refl ((go-text (length i) le s d (5 + d) (omega arith)).beyond i x k (omega arith) h) (λ y l n g. beyond bound false (5 + d) y l n g)
    where
      by : (o : Outcome Token Kind (Measured Program)) → text (loose (5 + d)) i ≡ o → left (text (loose (5 + d)) i) < k
          → ((y : Kind) (l : ℕ) → l ≤ bound → text (loose (5 + d)) i ≡ Err (Fault y l) → Beyond i l) → Beyond i k
      by (Ok r) g far ih =
          let t = (promised (loose (5 + d))).spells i r.0 r.1 g in
          let n = subst (λ (o : Outcome Token Kind (Measured Program)). left o < k) g far in
          record {
            front = i;
            back = [];
            cut = sym (append-nil i);
            short = omega (arith, n);
            goes_on = record { more = []; text = record { depth = 5 + d; spelled = r.0; text = subst (λ (l : List Token). IsText Text (loose (5 + d)) l r.0) (sym (append-nil i)) t } };
          }
      by (Err (Unexpected l)) g far ih =
          let b = (promised (loose (5 + d))).place i (Unexpected l) g in
          let n = subst (λ (o : Outcome Token Kind (Measured Program)). left o < k) g far in
          record { front = b.front; back = b.back; cut = b.cut; short = omega (arith, n, b.left_is); goes_on = front_of (loose (5 + d)) b.front b.alive }
      by (Err (Fault y l)) g far ih =
          let n = subst (λ (o : Outcome Token Kind (Measured Program)). left o < k) g far in
          let b = ih y l (omega (arith, n, small)) g in
          let m = b.short in
          record { front = b.front; back = b.back; cut = b.cut; short = omega (arith, m, n); goes_on = b.goes_on }
      by (Err NoMemory) g far ih = absurd ((go-text (length i) le false (5 + d) (10 + d) (omega arith)).remembers i g)

-- ---- of two cuts of one list the one that leaves less is longer

longer : (front back other rest : List Token) → front ++ back ≡ other ++ rest → length back ≤ length rest → (tail : List Token) × (front ≡ other ++ tail)
longer front back [] rest e le = (front, refl)
longer [] back (t ∷ other) rest e le = absurd (omega (arith, le, ap length e, length-append other rest))
longer (s ∷ front) back (t ∷ other) rest e le =
    let same : s ≡ t = cc in
    let behind : front ++ back ≡ other ++ rest = cc in
    let d = longer front back other rest behind le in
    (d.0, ap (λ (l : List Token). s ∷ l) d.1 ∙ ap (λ (u : Token). u ∷ (other ++ d.0)) same)

front_before : (i j : List Token) → IsFront (i ++ j) → IsFront i
front_before i j f = record { more = j ++ f.more; text = subst IsLoose (append_assoc i j f.more) f.text }

pub meets-possible : (tokens : List Token) (x : Kind) (at : ℕ) → length tokens ≤ width → Meets tokens x at → IsPossible tokens at
meets-possible tokens x at le m =
    let h = (promised profile).names tokens x m.left m.met in
    let within = ((text-exact profile).meets tokens x m.left m.met).2 in
    let d = cut-at tokens m.left (program-stands profile tokens x m.left m.met) within in
    let b = beyond tokens le m.left true 101 x m.left (omega arith) h in
    let short = b.short in
    let cut : b.front ++ b.back ≡ (d.0 ++ d.1 ∷ []) ++ d.2 = sym b.cut ∙ (d.3 ∙ sym (append_assoc d.0 (d.1 ∷ []) d.2)) in
    let more = longer b.front b.back (d.0 ++ d.1 ∷ []) d.2 cut (omega (arith, short, d.4)) in
    record {
      front = d.0;
      token = d.1;
      rest = d.2;
      cut = d.3;
      place_is = m.place_is ∙ place-cut tokens d.0 (d.1 ∷ d.2) m.left d.3 d.4;
      goes_on = front_before (d.0 ++ d.1 ∷ []) more.0 (subst IsFront more.1 b.goes_on);
    }
