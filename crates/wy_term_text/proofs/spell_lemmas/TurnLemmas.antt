-- A turn of the reader.
use Rattle.std.proofs.Common.{◌≡◌, ℕ, List, ◌∷◌, ◌++◌, length, map, reverse, Option, Some, None, Result, Ok, Err, IfOk, MatchOption, Bor, sym, ap, ◌∙◌, subst}
use Rattle.std.proofs.lemmas.List.{reverse-append, reverse-reverse, map-append}
use Rattle.wy_term.specs.Term.{Symbol, Term}
use Rattle.wy_term.specs.Nodes.{Plain}
use Rattle.wy_term.specs.wy_items.declared.memory.NoMemory.{NoMemory}
use Rattle.wy_term_text.specs.declared.spell.work.Task.{Task}
use Rattle.wy_term_text.specs.spell.Todo.{Work, root, Goes, Replaces, Covers, Refuses}
use Rattle.wy_term_text.specs.spell.Done.{trees, IsMade, CannotBe, Turns, Blocks, Puts}
use Rattle.wy_term_text.specs.spell.View.{seen}
use Rattle.wy_term_text.proofs.spell_lemmas.DoneLemmas.{trees_length}

-- what is put on the list, last thing first
pushed : (left turned new tasks : List Task) → turned ≡ reverse tasks → new ≡ left ++ turned → map seen (reverse new) ≡ map seen tasks ++ map seen (reverse left)
pushed left turned new tasks turns makes =
    ap (λ (ts : List Task). map seen (reverse ts)) (makes ∙ ap (λ (ts : List Task). left ++ ts) turns) ∙ ap (map seen) (reverse-append left (reverse tasks) ∙ ap (λ (ts : List Task). ts ++ reverse left) (reverse-reverse tasks)) ∙ map-append seen tasks (reverse left)

pub puts : (w : Work) (i k : List ℕ) (base : ℕ) (left turned new tasks : List Task) → turned ≡ reverse tasks → new ≡ left ++ turned → Replaces w i base (map seen tasks) k → Covers w i base (map seen tasks) k → Puts w i base (map seen (reverse left)) (map seen (reverse new)) k
puts w i k base left turned new tasks turns makes down up =
    let same = pushed left turned new tasks turns makes in
    record {
      turns = λ done is. record {
        sound = λ r h. down.sound (map seen (reverse left)) done r is (subst (λ (ws : List Work). Goes ws k done r) same h);
        complete = λ r h. subst (λ (ws : List Work). Goes ws k done r) (sym same) (up.complete (map seen (reverse left)) done r is h);
      };
    }

pub ruleset put_steps = (puts)

-- ---- a node

made_sound : (symbol : Symbol) (base : ℕ) (i : List ℕ) (done then_done : List Term) (others : List Work) (r : Term) → IsMade symbol base done then_done → Goes others i then_done r → Goes (root symbol base ∷ others) i done r
made_sound symbol base i done then_done others r m h = (m.within, m.has, subst (λ d. Goes others i d r) m.is h)

made_complete : (symbol : Symbol) (base : ℕ) (i : List ℕ) (done then_done : List Term) (others : List Work) (r : Term) → IsMade symbol base done then_done → Goes (root symbol base ∷ others) i done r → Goes others i then_done r
made_complete symbol base i done then_done others r m (within, has, h) = subst (λ d. Goes others i d r) (sym m.is) h

pub root_turns : (symbol : Symbol) (base : ℕ) (i : List ℕ) (done then_done : List Term) (others : List Work) → IsMade symbol base done then_done → Turns (root symbol base) i done others others i then_done
root_turns symbol base i done then_done others m = record { sound = λ r h. made_sound symbol base i done then_done others r m h; complete = λ r h. made_complete symbol base i done then_done others r m h }

cannot : (symbol : Symbol) (base : ℕ) (i : List ℕ) (done : List Term) (others : List Work) (r : Term) → CannotBe symbol base done → Goes (root symbol base ∷ others) i done r → ⊥
cannot symbol base i done others r not_so (within, has, h) = not_so.none within has

pub root_blocks : (symbol : Symbol) (base : ℕ) (i : List ℕ) (done : List Term) (others : List Work) → CannotBe symbol base done → Blocks (root symbol base) i done others
root_blocks symbol base i done others not_so = record { none = λ r h. cannot symbol base i done others r not_so h }

-- another thing
pub put_turns : (w : Work) (i : List ℕ) (n : ℕ) (nodes : List Plain) (done : List ℕ) (others new : List Work) (o : Result (Option (Bor (List ℕ))) NoMemory) → n ≡ length done
    → IfOk o (λ p. MatchOption p (Refuses w i n) (λ left. Puts w i n others new left.now))
    → IfOk o (λ p. MatchOption p (Blocks w i (trees nodes done) others) (λ left. Turns w i (trees nodes done) others new left.now (trees nodes done)))
put_turns w i n nodes done others new (Err e) is put = tt
put_turns w i n nodes done others new (Ok None) is put = record { none = λ r h. put.none others (trees nodes done) r (trees_length nodes done ∙ sym is) h }
put_turns w i n nodes done others new (Ok (Some left)) is put = put.turns (trees nodes done) (trees_length nodes done ∙ sym is)

pub ruleset turn_steps = (root_turns, root_blocks, put_turns)
