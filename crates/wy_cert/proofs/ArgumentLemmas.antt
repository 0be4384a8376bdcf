-- The arguments of a line, one after the other.
use Rattle.std.proofs.Common.{◌≡◌, ℕ, ◌<◌, List, [], ◌∷◌, ◌++◌, Bool, All, map, Option, Some, None, MatchOption, refl, sym, ap, ◌∙◌, subst, append_assoc}
use denote.Ref.{Bor}
use Rattle.std.proofs.lemmas.List.Elements.{All-head, All-tail}
use Rattle.wy_term_text.specs.wy_term.Term.{Term}
use Rattle.wy_cert.specs.Only.{IsTheOne, HasNone, IsBehind, GoesOn}
use Rattle.wy_cert.specs.Arguments.{IsCut, NoCut, IsPieceAt, IsArgument, AreArguments, FollowBy}
use Rattle.wy_cert.proofs.CutLemmas.{one_piece}

pub arguments_to : (formulas : Bool) (text rest front more : List ℕ) (done ts : List Term) (t : Term) → IsCut rest front more → IsTheOne (IsArgument formulas front) t → GoesOn done (AreArguments formulas rest) (AreArguments formulas text)
    → AreArguments formulas more ts → AreArguments formulas text ((done ++ t ∷ []) ++ ts)
arguments_to formulas text rest front more done ts t piece here goes h =
    subst (AreArguments formulas text) (sym (append_assoc done (t ∷ []) ts)) (goes.to (t ∷ ts) (front, Some more, piece, here.holds, h))

pub follow : (formulas : Bool) (more : List ℕ) (o : Option (List ℕ)) (ts : List Term) → o ≡ Some more → FollowBy (λ rest. AreArguments formulas rest ts) o ts → AreArguments formulas more ts
follow formulas more None ts e h = absurd (cc)
follow formulas more (Some r) ts e h = let s : r ≡ more = cc in subst (λ i. AreArguments formulas i ts) s h

pub arguments_behind : (formulas : Bool) (rest front more : List ℕ) (done all others : List Term) (t : Term) → IsCut rest front more → IsTheOne (IsArgument formulas front) t → all ≡ done ++ others
    → AreArguments formulas rest others → IsBehind (done ++ t ∷ []) (AreArguments formulas more) all
arguments_behind formulas rest front more done all [] t piece here is h = absurd h
arguments_behind formulas rest front more done all (u ∷ ts) t piece here is (f, o, other, spelled, h) =
    let one = one_piece rest f front o (Some more) other piece in
    let e : u ≡ t = here.only u (subst (λ i. IsArgument formulas i u) one.front spelled) in
    let both : all ≡ done ++ (t ∷ ts) = cc in
    record { others = ts; is = both ∙ sym (append_assoc done (t ∷ []) ts); holds = follow formulas more o ts one.more h }

pub arguments_turn : (formulas : Bool) (text rest front more : List ℕ) (done : List Term) (t : Term) → IsCut rest front more → IsTheOne (IsArgument formulas front) t
    → GoesOn done (AreArguments formulas rest) (AreArguments formulas text) → GoesOn (done ++ t ∷ []) (AreArguments formulas more) (AreArguments formulas text)
arguments_turn formulas text rest front more done t piece here goes = record {
  to = λ ts h. arguments_to formulas text rest front more done ts t piece here goes h;
  back = λ all h. let b = goes.back all h in arguments_behind formulas rest front more done all b.others t piece here b.is b.holds;
}

pub last : (formulas : Bool) (o : Option (List ℕ)) (ts : List Term) → o ≡ None → FollowBy (λ rest. AreArguments formulas rest ts) o ts → ts ≡ []
last formulas None ts e h = h
last formulas (Some r) ts e h = absurd (cc)

pub end_only : (formulas : Bool) (rest front : List ℕ) (done all others : List Term) (t : Term) → IsPieceAt rest front None → IsTheOne (IsArgument formulas front) t → all ≡ done ++ others
    → AreArguments formulas rest others → all ≡ done ++ t ∷ []
end_only formulas rest front done all [] t piece here is h = absurd h
end_only formulas rest front done all (u ∷ ts) t piece here is (f, o, other, spelled, h) =
    let one = one_piece rest f front o None other piece in
    let e : u ≡ t = here.only u (subst (λ i. IsArgument formulas i u) one.front spelled) in
    let ends : ts ≡ [] = last formulas o ts one.more h in
    cc

pub arguments_end : (formulas : Bool) (text rest front : List ℕ) (done : List Term) (t : Term) → NoCut rest → front ≡ rest → IsTheOne (IsArgument formulas front) t
    → GoesOn done (AreArguments formulas rest) (AreArguments formulas text) → IsTheOne (AreArguments formulas text) (done ++ t ∷ [])
arguments_end formulas text rest front done t never whole here goes = record {
  holds = goes.to (t ∷ []) (front, None, (never, whole), here.holds, refl);
  only = λ all h. let b = goes.back all h in end_only formulas rest front done all b.others t (never, whole) here b.is b.holds;
}

pub none_follows : (formulas : Bool) (rest front : List ℕ) (o : Option (List ℕ)) (others : List Term) → IsPieceAt rest front o → HasNone (IsArgument formulas front) → AreArguments formulas rest others → ⊥
none_follows formulas rest front o [] piece never h = h
none_follows formulas rest front o (u ∷ ts) piece never (f, p, other, spelled, h) = never.none u (subst (λ i. IsArgument formulas i u) (one_piece rest f front p o other piece).front spelled)

pub arguments_none : (formulas : Bool) (text rest front : List ℕ) (o : Option (List ℕ)) (done : List Term) → IsPieceAt rest front o → HasNone (IsArgument formulas front)
    → GoesOn done (AreArguments formulas rest) (AreArguments formulas text) → HasNone (AreArguments formulas text)
arguments_none formulas text rest front o done piece never goes = record { none = λ all h. let b = goes.back all h in none_follows formulas rest front o b.others piece never b.holds }

-- ---- terms that are named in a longer list

pub map_kept : {X : Type 0} (new old : ℕ → X) (n : ℕ) (ks : List ℕ) → All (λ k. k < n) ks → ((k : ℕ) → k < n → new k ≡ old k) → map new ks ≡ map old ks
map_kept new old n [] below kept = refl
map_kept new old n (k ∷ ks) below kept =
    let first : new k ≡ old k = kept k (All-head (λ j. j < n) k ks below) in
    let others : map new ks ≡ map old ks = map_kept new old n ks (All-tail (λ j. j < n) k ks below) kept in
    cc

map_push : {X : Type 0} (f : ℕ → X) (ks : List ℕ) (t : ℕ) → map f (ks ++ t ∷ []) ≡ map f ks ++ f t ∷ []
map_push f [] t = refl
map_push f (k ∷ ks) t = ap (λ ys. f k ∷ ys) (map_push f ks t)

-- the terms of the numbers, with one more, where the list of terms has grown
pub pushed : {X : Type 0} (new old : ℕ → X) (n : ℕ) (all more : List ℕ) (t : ℕ) → more ≡ all ++ t ∷ [] → All (λ k. k < n) all → ((k : ℕ) → k < n → new k ≡ old k) → map new more ≡ map old all ++ new t ∷ []
pushed new old n all more t is below kept = ap (map new) is ∙ map_push new all t ∙ ap (λ ys. ys ++ new t ∷ []) (map_kept new old n all below kept)

-- ---- what `cut_first` gives

pub cut_of : (text front : List ℕ) (r : Option (Bor (List ℕ))) (b : Bor (List ℕ)) → r ≡ Some b → MatchOption r (NoCut text × (front ≡ text)) (λ rest. IsCut text front rest.now) → IsCut text front b.now
cut_of text front r b e h = subst (λ (o : Option (Bor (List ℕ))). MatchOption o (NoCut text × (front ≡ text)) (λ rest. IsCut text front rest.now)) e h

pub uncut_of : (text front : List ℕ) (r : Option (Bor (List ℕ))) → r ≡ None → MatchOption r (NoCut text × (front ≡ text)) (λ rest. IsCut text front rest.now) → NoCut text × (front ≡ text)
uncut_of text front r e h = subst (λ (o : Option (Bor (List ℕ))). MatchOption o (NoCut text × (front ≡ text)) (λ rest. IsCut text front rest.now)) e h

pub arguments_none_at : (formulas : Bool) (text rest front : List ℕ) (r : Option (Bor (List ℕ))) (done : List Term) → MatchOption r (NoCut rest × (front ≡ rest)) (λ b. IsCut rest front b.now) → HasNone (IsArgument formulas front)
    → GoesOn done (AreArguments formulas rest) (AreArguments formulas text) → HasNone (AreArguments formulas text)
arguments_none_at formulas text rest front None done piece never goes = arguments_none formulas text rest front None done piece never goes
arguments_none_at formulas text rest front (Some b) done piece never goes = arguments_none formulas text rest front (Some b.now) done piece never goes
