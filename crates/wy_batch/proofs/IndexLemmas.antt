-- Where the certificate for a condition stands.
use Rattle.std.proofs.Common.{◌≡◌, ◌∙◌, ◌<◌, ◌≤◌, ◌+◌, ℕ, suc, List, [], ◌∷◌, length, get_or, map, drop, cond, eqb, Bool, true, false, Option, Some, None, refl, sym, ap, arith}
use Rattle.std.proofs.lemmas.List.{drop_all, drop_more}
use Rattle.wy_batch.specs.Index.{place_from}
use Rattle.wy_cert.specs.Steps.{Certificates, Written, steps_of}
use Rattle.wy_cert.specs.declared.step.Cert.{Cert}
use Rattle.wy_check.specs.Verdicts.{certificate_for}

abbrev pub Pairs : Type 0
Pairs = List (ℕ × Cert)

abbrev pub read : Pairs → Certificates
read items = map (λ (e : ℕ × Cert). (e.0, steps_of e.1)) items

abbrev some_place : ℕ → Option ℕ
some_place k = Some k

-- ---- the table

-- none is noted where the list ends
pub index_begins : (items : Pairs) (count : ℕ) (found : ℕ → Option ℕ) → length items ≤ count → ((q : ℕ) → found q ≡ None) → (q : ℕ) → found q ≡ place_from count (drop count items) q
index_begins items count found le none q = none q ∙ sym (ap (λ (ds : Pairs). place_from count ds q) (drop_all count items le))

-- one place nearer to the front
pub index_next : (items : Pairs) (last k : ℕ) (e : ℕ × Cert) (was now : ℕ → Option ℕ) → last ≡ k + 1 → k < length items → e ≡ get_or items k e → ((q : ℕ) → was q ≡ place_from last (drop last items) q)
    → ((q : ℕ) → now q ≡ cond (eqb e.0 q) (Some k) (was q)) → (q : ℕ) → now q ≡ place_from k (drop k items) q
index_next items last k e was now is lt at so put q =
    let next : last ≡ suc k = omega (arith, is) in
    let front : drop k items ≡ e ∷ drop last items = drop_more items k e lt ∙ ap (λ (d : ℕ × Cert). d ∷ drop (k + 1) items) (sym at) ∙ ap (λ (j : ℕ). e ∷ drop j items) (sym is) in
    put q
    ∙ ap (cond (eqb e.0 q) (some_place k)) (so q ∙ ap (λ (j : ℕ). place_from j (drop last items) q) next)
    ∙ sym (ap (λ (ds : Pairs). place_from k ds q) front)

-- ---- what it finds

-- the certificate at a place of the list, whose first one stands at `at`, is that for the condition with this number
pub record IsPlaceOf (items : Pairs) (at n p : ℕ) : Type 0 where
  pub behind : ℕ
  pub is : p ≡ at + behind
  pub within : behind < length items
  pub steps : (e : ℕ × Cert) → e ≡ get_or items behind e → certificate_for (read items) n ≡ Some (steps_of e.1)

same_place : (a b : ℕ) → Some a ≡ Some b → a ≡ b
same_place a b h = cc

no_place : (a : ℕ) → (let o : Option ℕ = None in Some a ≡ o) → ⊥
no_place a h = absurd cc

abbrev some_steps : List Written → Option (List Written)
some_steps steps = Some steps

pub none_for : (items : Pairs) (at n : ℕ) → place_from at items n ≡ None → certificate_for (read items) n ≡ None
none_for [] at n e = refl
none_for (c ∷ cs) at n e = by (eqb c.0 n) refl (none_for cs (suc at) n)
  where
    by : (b : Bool) → eqb c.0 n ≡ b → (place_from (suc at) cs n ≡ None → certificate_for (read cs) n ≡ None) → cond (eqb c.0 n) (some_steps (steps_of c.1)) (certificate_for (read cs) n) ≡ None
    by true t rest = absurd (no_place at (ap (λ (x : Bool). cond x (some_place at) (place_from (suc at) cs n)) (sym t) ∙ e))
    by false t rest =
        let later : place_from (suc at) cs n ≡ None = ap (λ (x : Bool). cond x (some_place at) (place_from (suc at) cs n)) (sym t) ∙ e in
        ap (λ (x : Bool). cond x (some_steps (steps_of c.1)) (certificate_for (read cs) n)) t ∙ rest later

pub some_for : (items : Pairs) (at n p : ℕ) → place_from at items n ≡ Some p → IsPlaceOf items at n p
some_for [] at n p e = absurd cc
some_for (c ∷ cs) at n p e = by (eqb c.0 n) refl (some_for cs (suc at) n p)
  where
    by : (b : Bool) → eqb c.0 n ≡ b → (place_from (suc at) cs n ≡ Some p → IsPlaceOf cs (suc at) n p) → IsPlaceOf (c ∷ cs) at n p
    by true t rest =
        let here : at ≡ p = same_place at p (ap (λ (x : Bool). cond x (some_place at) (place_from (suc at) cs n)) (sym t) ∙ e) in
        record {
          behind = 0;
          is = omega (arith, here);
          within = omega arith;
          steps = λ d is. ap (λ (x : Bool). cond x (some_steps (steps_of c.1)) (certificate_for (read cs) n)) t ∙ ap (λ (x : ℕ × Cert). some_steps (steps_of x.1)) (sym is);
        }
    by false t rest =
        let later : place_from (suc at) cs n ≡ Some p = ap (λ (x : Bool). cond x (some_place at) (place_from (suc at) cs n)) (sym t) ∙ e in
        let h = rest later in
        record {
          behind = suc h.behind;
          is = omega (arith, h.is);
          within = omega (arith, h.within);
          steps = λ d is. ap (λ (x : Bool). cond x (some_steps (steps_of c.1)) (certificate_for (read cs) n)) t ∙ h.steps d is;
        }
