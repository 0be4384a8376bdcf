-- The list of what is still to be read, turn by turn.
use Rattle.std.proofs.Common.{◌≡◌, ℕ, ◌<◌, List, [], ◌∷◌, ◌++◌, All, length, map, reverse, Option, Some, None, MatchOption, IfSome, refl, sym, ap, ◌∙◌, subst, arith}
use Rattle.std.proofs.lemmas.List.{reverse-append}
use Rattle.wy_term.specs.Term.{Term}
use Rattle.wy_term.specs.Sorts.{Sort}
use Rattle.wy_term.specs.Nodes.{Plain, tree_at}
use Rattle.wy_term_text.specs.declared.spell.work.Task.{Task}
use Rattle.wy_term_text.specs.spell.Grammar.{Spans, Spells}
use Rattle.wy_term_text.specs.spell.Made.{made, IsSpelled, SpellsNone, IsOnly}
use Rattle.wy_term_text.specs.spell.Todo.{Work, a_term, Goes}
use Rattle.wy_term_text.specs.spell.Done.{trees, IsEnded, NotEnded, Turns, Blocks}
use Rattle.wy_term_text.specs.spell.View.{seen}
use Rattle.wy_term_text.proofs.spell_lemmas.DoneLemmas.{trees_length}

last_first : (todo : List Task) (x : Task) → map seen (reverse (todo ++ x ∷ [])) ≡ seen x ∷ map seen (reverse todo)
last_first todo x = ap (map seen) (reverse-append todo (x ∷ []))

-- ---- the invariant through a turn

pub goes_on_sound : (W : Term → Type 0) (todo left new : List Task) (x : Task) (i k : List ℕ) (done then_done : List Term)
    → todo ≡ left ++ x ∷ [] → Turns (seen x) i done (map seen (reverse left)) (map seen (reverse new)) k then_done
    → ((r : Term) → Goes (map seen (reverse todo)) i done r → W r) → (r : Term) → Goes (map seen (reverse new)) k then_done r → W r
goes_on_sound W todo left new x i k done then_done popped turns sound r h =
    sound r (subst (λ (ws : List Work). Goes ws i done r) (sym (ap (λ (ts : List Task). map seen (reverse ts)) popped ∙ last_first left x)) (turns.sound r h))

pub goes_on_complete : (W : Term → Type 0) (todo left new : List Task) (x : Task) (i k : List ℕ) (done then_done : List Term)
    → todo ≡ left ++ x ∷ [] → Turns (seen x) i done (map seen (reverse left)) (map seen (reverse new)) k then_done
    → ((r : Term) → W r → Goes (map seen (reverse todo)) i done r) → (r : Term) → W r → Goes (map seen (reverse new)) k then_done r
goes_on_complete W todo left new x i k done then_done popped turns complete r h =
    turns.complete r (subst (λ (ws : List Work). Goes ws i done r) (ap (λ (ts : List Task). map seen (reverse ts)) popped ∙ last_first left x) (complete r h))

-- what is spelled comes of the first list
begins : (sort : Sort) (text : List ℕ) (raw : Term) → Spells sort text raw → Goes (a_term sort ∷ []) text [] (made raw)
begins sort text raw spells = (raw, [], spells, (refl, refl))

-- nothing may come of the first thing
pub stops : (sort : Sort) (text : List ℕ) (todo left : List Task) (x : Task) (i : List ℕ) (done : List Term)
    → todo ≡ left ++ x ∷ [] → Blocks (seen x) i done (map seen (reverse left)) → ((r : Term) → Goes (a_term sort ∷ []) text [] r → Goes (map seen (reverse todo)) i done r) → SpellsNone sort text
stops sort text todo left x i done popped blocks complete = record {
  none = λ raw spells. blocks.none (made raw) (subst (λ (ws : List Work). Goes ws i done (made raw)) (ap (λ (ts : List Task). map seen (reverse ts)) popped ∙ last_first left x) (complete (made raw) (begins sort text raw spells)));
}

-- ---- nothing is left to be read

read_end : (sort : Sort) (text i : List ℕ) (todo : List Task) (nodes : List Plain) (done : List ℕ) (t : ℕ)
    → todo ≡ [] → IsEnded i done t → ((r : Term) → Goes (map seen (reverse todo)) i (trees nodes done) r → Goes (a_term sort ∷ []) text [] r) → IsSpelled sort text (tree_at nodes t)
read_end sort text i todo nodes done t none ended sound =
    spelled (sound (tree_at nodes t) (subst (λ (ts : List Task). Goes (map seen (reverse ts)) i (trees nodes done) (tree_at nodes t)) (sym none) (ended.ends, ap (trees nodes) ended.one)))
  where
    spelled : Goes (a_term sort ∷ []) text [] (tree_at nodes t) → IsSpelled sort text (tree_at nodes t)
    spelled (raw, k, spans, (ends, is)) = record { raw = raw; spells = subst (λ x. Spans raw sort text x) ends spans; folds = let e = is in cc }

ended_within : (i done : List ℕ) (t n : ℕ) → IsEnded i done t → All (λ k. k < n) done → t < n
ended_within i done t n ended below = (subst (All (λ k. k < n)) ended.one below) 0 0 (omega arith)

pub end_covers : (sort : Sort) (text i : List ℕ) (todo : List Task) (nodes : List Plain) (done : List ℕ) (o : Option ℕ)
    → todo ≡ [] → MatchOption o (NotEnded i done) (λ t. IsEnded i done t) → ((r : Term) → Goes (a_term sort ∷ []) text [] r → Goes (map seen (reverse todo)) i (trees nodes done) r) → MatchOption o (SpellsNone sort text) (λ t. IsOnly sort text (tree_at nodes t))
end_covers sort text i todo nodes done None none ended complete = record { none = λ raw spells. by raw (subst (λ (ts : List Task). Goes (map seen (reverse ts)) i (trees nodes done) (made raw)) none (complete (made raw) (begins sort text raw spells))) }
  where
    by : (raw : Term) → Goes [] i (trees nodes done) (made raw) → ⊥
    by raw (ends, is) = ended.none ends (sym (trees_length nodes done) ∙ ap length is)
end_covers sort text i todo nodes done (Some t) none ended complete = record { only = λ raw spells. by raw (subst (λ (ts : List Task). Goes (map seen (reverse ts)) i (trees nodes done) (made raw)) none (complete (made raw) (begins sort text raw spells))) }
  where
    by : (raw : Term) → Goes [] i (trees nodes done) (made raw) → made raw ≡ tree_at nodes t
    by raw (ends, is) = let there : trees nodes done ≡ tree_at nodes t ∷ [] = ap (trees nodes) ended.one in cc

-- the same of the soundness
pub end_of : (sort : Sort) (text i : List ℕ) (todo : List Task) (nodes : List Plain) (done : List ℕ) (o : Option ℕ)
    → todo ≡ [] → MatchOption o (NotEnded i done) (λ t. IsEnded i done t) → ((r : Term) → Goes (map seen (reverse todo)) i (trees nodes done) r → Goes (a_term sort ∷ []) text [] r) → IfSome o (λ t. IsSpelled sort text (tree_at nodes t))
end_of sort text i todo nodes done None none ended sound = tt
end_of sort text i todo nodes done (Some t) none ended sound = read_end sort text i todo nodes done t none ended sound

pub end_within : (i done : List ℕ) (n : ℕ) (o : Option ℕ) → MatchOption o (NotEnded i done) (λ t. IsEnded i done t) → All (λ k. k < n) done → IfSome o (λ t. t < n)
end_within i done n None ended below = tt
end_within i done n (Some t) ended below = ended_within i done t n ended below

pub none_left : (todo : List Task) → length todo ≡ 0 → todo ≡ []
none_left [] e = refl
none_left (t ∷ ts) e = absurd (omega (arith, e))
