-- A text of arguments has one fault at most, and none where it spells values.
use Rattle.std.proofs.Common.{◌≡◌, ◌⊎◌, inl, inr, ◌<◌, ◌≤◌, ℕ, ◌+◌, List, [], ◌∷◌, ◌++◌, length, refl, sym, ap, ◌∙◌, subst, arith, append_assoc}
use Rattle.std.proofs.lemmas.Bool.{cases_lt}
use Rattle.std.proofs.lemmas.List.{append-nil, length-append}
use Rattle.wy_reading.specs.Places as places
use Rattle.wy_reading.proofs.Exactness.{same_mode}
use Rattle.wy_value.specs.ArgumentText.{AreText, LeavesAt, Meets, Spells, offset, profile, symbols}
use Rattle.wy_value.specs.Grammar.{Text}
use Rattle.wy_value.specs.declared.fault.Kind.TheVariants as kind
use Rattle.wy_value.specs.declared.fault.ValueFault.{ValueFault}
use Rattle.wy_value.specs.declared.fault.ValueFault.TheVariants.{Shape, Range, Deep, NoMemory}
use Rattle.wy_value.specs.declared.value.Value.{Value}
use Rattle.wy_value.proofs.LawLemmas.{no_text_has_a_fault}
use Rattle.wy_mach_run.specs.Starting.{HasFault}

-- ---- the first character after which no text goes on

abbrev Bad : List ℕ → ℕ → Type 0
Bad i left = places.FirstBad Text profile i left

abbrev GoesOn : List ℕ → Type 0
GoesOn front = places.CanGoOn Text profile front

-- of two fronts of a text the longer one begins with the shorter one and a character more
record Further (f b g : List ℕ) : Type 0 where
  pub bad : ℕ
  pub rest : List ℕ
  pub more : List ℕ
  pub behind : b ≡ bad ∷ rest
  pub longer : g ≡ f ++ bad ∷ more

further : (f b g c : List ℕ) → f ++ b ≡ g ++ c → length f < length g → Further f b g
further [] b [] c same less = absurd (omega (arith, less))
further [] b (x ∷ g) c same less = record { bad = x; rest = g ++ c; more = g; behind = same; longer = refl }
further (y ∷ f) b [] c same less = absurd (omega (arith, less))
further (y ∷ f) b (x ∷ g) c same less =
    let head : y ≡ x = cc in
    let tail : f ++ b ≡ g ++ c = cc in
    let shorter : length f < length g = omega (arith, less) in
    let h = further f b g c tail shorter in
    record { bad = h.bad; rest = h.rest; more = h.more; behind = h.behind; longer = ap (λ (l : List ℕ). x ∷ l) h.longer ∙ ap (λ (z : ℕ). z ∷ (f ++ h.bad ∷ h.more)) (sym head) }

-- the front that goes on can't be the longer one
no_longer : (i f b g c : List ℕ) → i ≡ f ++ b → i ≡ g ++ c → places.IsDead Text profile f b → GoesOn g → length f < length g → ⊥
no_longer i f b g c cut other dead alive less =
    let h = further f b g c (sym cut ∙ other) less in
    let dies : GoesOn (f ++ h.bad ∷ []) → ⊥ = subst (places.IsDead Text profile f) h.behind dead in
    let back : g ++ alive.2 ≡ (f ++ h.bad ∷ []) ++ (h.more ++ alive.2) =
    ap (λ (l : List ℕ). l ++ alive.2) h.longer ∙ append_assoc f (h.bad ∷ h.more) alive.2 ∙ sym (append_assoc f (h.bad ∷ []) (h.more ++ alive.2)) in
    dies (alive.0, alive.1, h.more ++ alive.2, alive.3, subst (λ (l : List ℕ). places.IsText Text alive.0 l alive.3) back alive.4)

one_bad : (i : List ℕ) (k l : ℕ) → Bad i k → Bad i l → k ≡ l
one_bad i k l a b = by (cases_lt (length a.front) (length b.front)) (cases_lt (length b.front) (length a.front))
  where
    by : (length a.front < length b.front) ⊎ (length b.front ≤ length a.front) → (length b.front < length a.front) ⊎ (length a.front ≤ length b.front) → k ≡ l
    by (inl less) o = absurd (no_longer i a.front a.back b.front b.back a.cut b.cut a.dead b.alive less)
    by (inr h) (inl less) = absurd (no_longer i b.front b.back a.front a.back b.cut a.cut b.dead a.alive less)
    by (inr h) (inr g) =
        let m : length i ≡ length a.front + length a.back = ap length a.cut ∙ length-append a.front a.back in
        let n : length i ≡ length b.front + length b.back = ap length b.cut ∙ length-append b.front b.back in
        omega (arith, m, n, h, g, a.left_is, b.left_is)

one_leaving : (i : List ℕ) (at place : ℕ) → LeavesAt i at → LeavesAt i place → at ≡ place
one_leaving i at place a b = a.place ∙ (ap (offset i) (one_bad i a.left b.left a.bad b.bad) ∙ sym b.place)

no_leaving : (i : List ℕ) (vs : List Value) (at : ℕ) → AreText i vs → LeavesAt i at → ⊥
unfolding AreText
no_leaving i vs at text l = by l.bad.back l.bad.cut l.bad.dead
  where
    by : (b : List ℕ) → i ≡ l.bad.front ++ b → places.IsDead Text profile l.bad.front b → ⊥
    by [] cut dead = dead profile (same_mode profile) vs (subst (λ (j : List ℕ). places.IsText Text profile j vs) (cut ∙ append-nil l.bad.front) text)
    by (c ∷ rest) cut dead = dead (profile, same_mode profile, rest, vs, subst (λ (j : List ℕ). places.IsText Text profile j vs) (cut ∙ sym (append_assoc l.bad.front (c ∷ []) rest)) text)

-- ---- faults

pub one_fault : (text : List ℕ) (f g : ValueFault) → HasFault text f → HasFault text g → f ≡ g
one_fault text (Range at) g a b = b.alone kind.Range at a.refused
one_fault text (Deep at) g a b = b.alone kind.Deep at a.refused
one_fault text NoMemory g a b = absurd (a.known refl)
one_fault text (Shape at) g a b = by a.refused
  where
    other : (h : ValueFault) → HasFault text h → LeavesAt (symbols text) at → Shape at ≡ h
    other (Range place) k l = sym (a.alone kind.Range place k.refused)
    other (Deep place) k l = sym (a.alone kind.Deep place k.refused)
    other NoMemory k l = absurd (k.known refl)
    other (Shape place) k l = both k.refused
      where
        both : LeavesAt (symbols text) place ⊎ Meets text kind.Twice place → Shape at ≡ Shape place
        both (inl m) = ap Shape (one_leaving (symbols text) at place l m)
        both (inr m) = sym (a.alone kind.Twice place m)

    by : LeavesAt (symbols text) at ⊎ Meets text kind.Twice at → Shape at ≡ g
    by (inl l) = other g b l
    by (inr m) = b.alone kind.Twice at m

pub no_fault : (text : List ℕ) (vs : List Value) (f : ValueFault) → Spells text vs → HasFault text f → ⊥
no_fault text vs (Range at) s a = no_text_has_a_fault text vs kind.Range at s a.refused
no_fault text vs (Deep at) s a = no_text_has_a_fault text vs kind.Deep at s a.refused
no_fault text vs NoMemory s a = a.known refl
no_fault text vs (Shape at) s a = by a.refused
  where
    by : LeavesAt (symbols text) at ⊎ Meets text kind.Twice at → ⊥
    by (inl l) = no_leaving (symbols text) vs at s l
    by (inr m) = no_text_has_a_fault text vs kind.Twice at s m
