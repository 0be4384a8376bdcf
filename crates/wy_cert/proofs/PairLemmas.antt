-- The pairs of a line, one after the other.
use Rattle.std.proofs.Common.{◌≡◌, ℕ, ◌<◌, List, [], ◌∷◌, ◌++◌, length, refl, sym, ap, ◌∙◌, subst, arith, append_assoc}
use Rattle.std.proofs.lemmas.List.{append-nil}
use Rattle.wy_cert.specs.Only.{IsTheOne, HasNone, IsBehind, GoesOn}
use Rattle.wy_cert.specs.Numbers.{IsPairAt, NoPair, ArePairs}
use Rattle.wy_cert.proofs.NumberLemmas.{one_pair, length_none}

-- ---- pairs

pub pairs_to : (text rest more : List ℕ) (done ps : List (ℕ × ℕ)) (m i : ℕ) → IsPairAt rest m i more → GoesOn done (ArePairs rest) (ArePairs text) → ArePairs more ps → ArePairs text ((done ++ (m, i) ∷ []) ++ ps)
pairs_to text rest more done ps m i here goes h = subst (ArePairs text) (sym (append_assoc done ((m, i) ∷ []) ps)) (goes.to ((m, i) ∷ ps) (more, here, h))

pub pairs_behind : (rest more : List ℕ) (done all others : List (ℕ × ℕ)) (m i : ℕ) → IsPairAt rest m i more → all ≡ done ++ others → ArePairs rest others → IsBehind (done ++ (m, i) ∷ []) (ArePairs more) all
pairs_behind rest more done all [] m i here is h = absurd (let e : rest ≡ 32 ∷ here.start = here.space in cc)
pairs_behind rest more done all ((n, j) ∷ ps) m i here is (next, pair, h) =
    let one = one_pair rest n m j i next more pair here in
    let both : all ≡ done ++ ((m, i) ∷ ps) = let a = one.multiplier in let b = one.literal in cc in
    record { others = ps; is = both ∙ sym (append_assoc done ((m, i) ∷ []) ps); holds = subst (λ t. ArePairs t ps) one.rest h }

pub pairs_turn : (text rest more : List ℕ) (done : List (ℕ × ℕ)) (m i : ℕ) → IsPairAt rest m i more → GoesOn done (ArePairs rest) (ArePairs text) → GoesOn (done ++ (m, i) ∷ []) (ArePairs more) (ArePairs text)
pairs_turn text rest more done m i here goes = record {
  to = λ ps h. pairs_to text rest more done ps m i here goes h;
  back = λ all h. let b = goes.back all h in pairs_behind rest more done all b.others m i here b.is b.holds;
}

pub no_more : (rest : List ℕ) (others : List (ℕ × ℕ)) → rest ≡ [] → ArePairs rest others → others ≡ []
no_more rest [] ends h = refl
no_more rest (p ∷ ps) ends (next, pair, h) = absurd (let e : rest ≡ 32 ∷ pair.start = pair.space in cc)

pub pairs_end : (text rest : List ℕ) (done : List (ℕ × ℕ)) → length rest ≡ 0 → GoesOn done (ArePairs rest) (ArePairs text) → IsTheOne (ArePairs text) done
pairs_end text rest done none goes = let ends = length_none rest none in record {
  holds = subst (ArePairs text) (append-nil done) (goes.to [] ends);
  only = λ all h. let b = goes.back all h in b.is ∙ ap (λ ps. done ++ ps) (no_more rest b.others ends b.holds) ∙ append-nil done;
}

pub none_goes : (rest : List ℕ) (others : List (ℕ × ℕ)) → 0 < length rest → NoPair rest → ArePairs rest others → ⊥
none_goes rest [] some never h = absurd (omega (arith, some, ap length h))
none_goes rest (p ∷ ps) some never (next, pair, h) = never.none p.0 p.1 next pair

pub pairs_none : (text rest : List ℕ) (done : List (ℕ × ℕ)) → 0 < length rest → NoPair rest → GoesOn done (ArePairs rest) (ArePairs text) → HasNone (ArePairs text)
pairs_none text rest done some never goes = record { none = λ all h. let b = goes.back all h in none_goes rest b.others some never b.holds }
