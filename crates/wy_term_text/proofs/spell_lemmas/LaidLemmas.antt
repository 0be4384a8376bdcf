-- Parts with fixed texts between them, as a layout and as a list of things to be read.
use Rattle.std.proofs.Common.{◌≡◌, ℕ, suc, List, [], ◌∷◌, ◌++◌, Some, length, take, drop, refl, sym, ap, ◌∙◌, subst, arith, append_assoc}
use Rattle.std.proofs.lemmas.List.{append-nil, length-append}
use Rattle.std.proofs.Math.Seq.{drop-append_seam, take-append_seam}
use Rattle.wy_term.specs.Term.{Symbol, Term, Of, Parts, no_parts, part, leaf}
use Rattle.wy_term.specs.Sorts.{Sort}
use Rattle.wy_term.specs.Folding.{folded}
use Rattle.wy_term_text.specs.spell.Grammar.{gapped, worded, texts, field_gaps, Spans, Laid}
use Rattle.wy_term_text.specs.spell.Made.{made, made_parts}
use Rattle.wy_term_text.specs.spell.Todo.{root, listed, as_parts, arity, Has, Ways, Rooted, All, gap_works}

pub as_parts-listed : (ps : Parts) → as_parts (listed ps) ≡ ps
as_parts-listed no_parts = refl
as_parts-listed (part t ps) = ap (part t) (as_parts-listed ps)

-- parts that stand in gaps, and then what comes of the node
pub from_laid : (gs : List (Sort × List ℕ)) (ps : Parts) (symbol : Symbol) (base : ℕ) (next : Ways) (i j : List ℕ) (done : List Term) (r : Term)
    → Laid ps (gapped (worded gs)) i j → Rooted symbol base next j (done ++ listed (made_parts ps)) r → All (gap_works gs ++ (root symbol base ∷ [])) next i done r
from_laid [] no_parts symbol base next i j done r laid rest = subst (λ x. Rooted symbol base next x done r) (sym laid) (subst (λ d. Rooted symbol base next j d r) (append-nil done) rest)
from_laid [] (part t ps) symbol base next i j done r laid rest = absurd laid
from_laid (g ∷ gs) no_parts symbol base next i j done r laid rest = absurd laid
from_laid (g ∷ gs) (part t ps) symbol base next i j done r (k, l, m, before, spans, behind, laid) rest =
    (t, l, subst (λ x. Spans t g.0 x l) (sym before) spans, (m, behind, from_laid gs ps symbol base next m j (done ++ made t ∷ []) r laid (subst (λ d. Rooted symbol base next j d r) (sym (append_assoc done (made t ∷ []) (listed (made_parts ps)))) rest)))

pub record Parted (gs : List (Sort × List ℕ)) (symbol : Symbol) (base : ℕ) (next : Ways) (i : List ℕ) (done : List Term) (r : Term) : Type 0 where
  pub parts : Parts
  pub left : List ℕ
  pub laid : Laid parts (gapped (worded gs)) i left
  pub rest : Rooted symbol base next left (done ++ listed (made_parts parts)) r

pub to_laid : (gs : List (Sort × List ℕ)) (symbol : Symbol) (base : ℕ) (next : Ways) (i : List ℕ) (done : List Term) (r : Term) → All (gap_works gs ++ (root symbol base ∷ [])) next i done r → Parted gs symbol base next i done r
to_laid [] symbol base next i done r h = record { parts = no_parts; left = i; laid = refl; rest = subst (λ d. Rooted symbol base next i d r) (sym (append-nil done)) h }
to_laid (g ∷ gs) symbol base next i done r (t, k, spans, (m, behind, h)) =
    let p = to_laid gs symbol base next m (done ++ made t ∷ []) r h in
    record {
      parts = part t p.parts;
      left = p.left;
      laid = (i, k, m, refl, spans, behind, p.laid);
      rest = subst (λ d. Rooted symbol base next p.left d r) (append_assoc done (made t ∷ []) (listed (made_parts p.parts))) p.rest;
    }

-- the node of parts that were done last
pub rooted_up : (symbol : Symbol) (ps : Parts) (base : ℕ) (next : Ways) (k : List ℕ) (done : List Term) (r : Term)
    → length done ≡ base → Has (arity symbol) (length (listed (made_parts ps))) → next k (done ++ made (Of symbol ps) ∷ []) r → Rooted symbol base next k (done ++ listed (made_parts ps)) r
rooted_up symbol ps base next k done r is has h =
    let front : take base (done ++ listed (made_parts ps)) ≡ done = subst (λ b. take b (done ++ listed (made_parts ps)) ≡ done) is (take-append_seam done (listed (made_parts ps))) in
    let back : drop base (done ++ listed (made_parts ps)) ≡ listed (made_parts ps) = subst (λ b. drop b (done ++ listed (made_parts ps)) ≡ listed (made_parts ps)) is (drop-append_seam done (listed (made_parts ps))) in (
      omega (arith, is, length-append done (listed (made_parts ps))),
      subst (λ x. Has (arity symbol) (length x)) (sym back) has,
      subst (λ d. next k d r) (ap (λ (x : List Term). x ++ made (Of symbol ps) ∷ []) (sym front) ∙ ap (λ x. take base (done ++ listed (made_parts ps)) ++ folded (Of symbol x) ∷ []) (sym (as_parts-listed (made_parts ps)) ∙ ap as_parts (sym back))) h,
    )

pub rooted_down : (symbol : Symbol) (ps : Parts) (base : ℕ) (next : Ways) (k : List ℕ) (done : List Term) (r : Term)
    → length done ≡ base → Rooted symbol base next k (done ++ listed (made_parts ps)) r → next k (done ++ made (Of symbol ps) ∷ []) r
rooted_down symbol ps base next k done r is h =
    let front : take base (done ++ listed (made_parts ps)) ≡ done = subst (λ b. take b (done ++ listed (made_parts ps)) ≡ done) is (take-append_seam done (listed (made_parts ps))) in
    let back : drop base (done ++ listed (made_parts ps)) ≡ listed (made_parts ps) = subst (λ b. drop b (done ++ listed (made_parts ps)) ≡ listed (made_parts ps)) is (drop-append_seam done (listed (made_parts ps))) in
    subst (λ d. next k d r) (sym (ap (λ (x : List Term). x ++ made (Of symbol ps) ∷ []) (sym front) ∙ ap (λ x. take base (done ++ listed (made_parts ps)) ++ folded (Of symbol x) ∷ []) (sym (as_parts-listed (made_parts ps)) ∙ ap as_parts (sym back)))) h.2

-- as many parts as gaps
abbrev pub parts_count : Parts → ℕ
parts_count ps = length (listed (made_parts ps))

pub laid_count : (gs : List (Sort × List ℕ)) (ps : Parts) (i j : List ℕ) → Laid ps (gapped (worded gs)) i j → length gs ≡ parts_count ps
laid_count [] no_parts i j laid = refl
laid_count [] (part t ps) i j laid = absurd laid
laid_count (g ∷ gs) no_parts i j laid = absurd laid
laid_count (g ∷ gs) (part t ps) i j (k, l, m, before, spans, behind, laid) = ap suc (laid_count gs ps m j laid)

-- ---- nodes without parts, and with fixed texts

pub leaf_up : (symbol : Symbol) (base : ℕ) (next : Ways) (k : List ℕ) (done : List Term) (r : Term) → length done ≡ base → Has (arity symbol) 0 → next k (done ++ made (leaf symbol) ∷ []) r → Rooted symbol base next k done r
leaf_up symbol base next k done r is has h = subst (λ d. Rooted symbol base next k d r) (append-nil done) (rooted_up symbol no_parts base next k done r is has h)

pub leaf_down : (symbol : Symbol) (base : ℕ) (next : Ways) (k : List ℕ) (done : List Term) (r : Term) → length done ≡ base → Rooted symbol base next k done r → next k (done ++ made (leaf symbol) ∷ []) r
leaf_down symbol base next k done r is h = rooted_down symbol no_parts base next k done r is (subst (λ d. Rooted symbol base next k d r) (sym (append-nil done)) h)

-- a node whose gaps are fixed texts
pub led_up : (symbol : Symbol) (ps : Parts) (base : ℕ) (next : Ways) (l k : List ℕ) (done : List Term) (r : Term) → length done ≡ base → arity symbol ≡ Some (length (texts symbol))
    → Laid ps (gapped (worded (texts symbol))) l k → next k (done ++ made (Of symbol ps) ∷ []) r → All (gap_works (texts symbol) ++ (root symbol base ∷ [])) next l done r
led_up symbol ps base next l k done r is fixed laid h =
    from_laid (texts symbol) ps symbol base next l k done r laid
    (rooted_up symbol ps base next k done r is (subst (λ a. Has a (parts_count ps)) (sym fixed) (laid_count (texts symbol) ps l k laid)) h)

pub record Led (symbol : Symbol) (base : ℕ) (next : Ways) (i : List ℕ) (done : List Term) (r : Term) : Type 0 where
  pub parts : Parts
  pub left : List ℕ
  pub laid : Laid parts (gapped (worded (texts symbol))) i left
  pub rest : next left (done ++ made (Of symbol parts) ∷ []) r

pub led_down : (symbol : Symbol) (base : ℕ) (next : Ways) (i : List ℕ) (done : List Term) (r : Term) → length done ≡ base → All (gap_works (texts symbol) ++ (root symbol base ∷ [])) next i done r → Led symbol base next i done r
led_down symbol base next i done r is h =
    let p = to_laid (texts symbol) symbol base next i done r h in
    record { parts = p.parts; left = p.left; laid = p.laid; rest = rooted_down symbol p.parts base next p.left done r is p.rest }

-- as many values as names
pub fields_count : (ns : List (List ℕ)) (ps : Parts) (i j : List ℕ) → Laid ps (gapped (field_gaps ns)) i j → suc (length ns) ≡ parts_count ps
fields_count [] no_parts i j laid = absurd laid
fields_count [] (part t no_parts) i j laid = refl
fields_count [] (part t (part u ps)) i j (k, l, m, before, spans, behind, laid) = absurd laid
fields_count (n ∷ ns) no_parts i j laid = absurd laid
fields_count (n ∷ ns) (part t ps) i j (k, l, m, before, spans, behind, laid) = ap suc (fields_count ns ps m j laid)
