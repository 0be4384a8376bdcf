-- The parse of a command line comes to what the definition reads.
use Rattle.std.proofs.Common.{◌≡◌, ◌∙◌, ◌⊎◌, Bool, cond, false, List, [], ◌∷◌, Option, Some, None, is_some, inl, inr, refl, sym, ap, subst}
use Rattle.std.specs.Prelude.{option_and_then}
use Rattle.std.specs.List.{fold}
use Rattle.clap.specs.Walk.{Row, Walk, nothing_held, settled_rows, walk, walk_from, walked}
use Rattle.clap.specs.Kinds.{Kinds, or_else}
use Rattle.clap.specs.Faults.{settle_fault, turn_fault, walk_fault}
use Rattle.wy_top_words.specs.CommandLine.{Given, Reading, Text, closed, given_by, nothing, read, start, turn}
use Rattle.wy_top_words.specs.Rules.{leaf_shape, rules}
use Rattle.wy_top_words.proofs.MarkLemmas.{AreTexts}
use Rattle.wy_top_words.proofs.StepLemmas.{Comes, Holds, IsDoomed, IsFaulty, Tied, doomed_step, first_faulty, missing, step}

module _ (name : Text) where
  -- the faults of a walk and of its end
  abbrev pub end_fault : Walk → List Text → Kinds
  end_fault w words = or_else (walk_fault (leaf_shape name) [] w words) (settle_fault rules false (fold (walked rules []) w words).held)

  abbrev pub end_rows : Walk → List Text → List Row
  end_rows w words = settled_rows rules (fold (walked rules []) w words).held.pending (fold (walked rules []) w words).held.rows

  abbrev pub Ends : Option Given → Walk → List Text → Type 0
  Ends None w words = IsFaulty (end_fault w words)
  Ends (Some g) w words = (end_fault w words ≡ []) × Holds g (end_rows w words)

  later : (a b c : Kinds) → IsFaulty (or_else b c) → IsFaulty (or_else (or_else a b) c)
  later [] b c f = f
  later (k ∷ ks) b c f = tt

  pub doomed : (words : List Text) (w : Walk) → AreTexts words → IsDoomed w → IsFaulty (end_fault w words)
  unfolding walk_fault
  doomed [] w us d = subst (λ (x : Walk). IsFaulty (settle_fault rules false x.held)) (sym d.is) d.faulty
  doomed (x ∷ xs) w us d = go (doomed_step name w x us.0 d) (λ e. doomed xs (walked rules [] w x) us.1 e)
    where
      go : IsFaulty (turn_fault (leaf_shape name) [] w x) ⊎ IsDoomed (walked rules [] w x)
          → (IsDoomed (walked rules [] w x) → IsFaulty (end_fault (walked rules [] w x) xs)) → IsFaulty (end_fault w (x ∷ xs))
      go (inl f) more = first_faulty _ _ (first_faulty _ _ f)
      go (inr e) more = later (turn_fault (leaf_shape name) [] w x) _ _ (more e)

  one_more : (o : Option Given) (w : Walk) (x : Text) (xs : List Text) → turn_fault (leaf_shape name) [] w x ≡ [] → Ends o (walked rules [] w x) xs → Ends o w (x ∷ xs)
  unfolding walk_fault
  one_more None w x xs free e = later (turn_fault (leaf_shape name) [] w x) _ _ e
  one_more (Some g) w x xs free e =
      (ap (λ (k : Kinds). or_else (or_else k (walk_fault (leaf_shape name) [] (walked rules [] w x) xs)) (settle_fault rules false (fold (walked rules []) (walked rules [] w x) xs).held)) free ∙ e.0, e.1)

  pub reads : (words : List Text) (r : Reading) (w : Walk) → AreTexts words → Tied r w → Ends (option_and_then closed (read r words)) w words
  unfolding read walk_fault
  reads [] r w us (inl o) = subst (λ (x : Option Given). Ends x w []) (sym (ap (λ (k : Bool). cond k None (Some r.given)) (ap (λ k. is_some k) o.awaits)))
      (subst (λ (x : Walk). (settle_fault rules false x.held ≡ []) × Holds r.given (settled_rows rules x.held.pending x.held.rows)) (sym o.is) (o.settles.free, o.settles.holds))
  reads [] r w us (inr o) = subst (λ (x : Option Given). Ends x w []) (sym (ap (λ (k : Bool). cond k None (Some r.given)) (ap (λ k. is_some k) o.awaits)))
      (subst (λ (x : Walk). IsFaulty (settle_fault rules false x.held)) (sym o.is) (missing name o.key o.rows))
  reads (x ∷ xs) r w us t = go (turn r x) (step name r w x us.0 t) (λ s c. reads xs s (walked rules [] w x) us.1 c)
    where
      go : (o : Option Reading) → Comes o (turn_fault (leaf_shape name) [] w x) (walked rules [] w x)
          → ((s : Reading) → Tied s (walked rules [] w x) → Ends (option_and_then closed (read s xs)) (walked rules [] w x) xs)
          → Ends (option_and_then closed (option_and_then (λ s. read s xs) o)) w (x ∷ xs)
      go None (inl f) more = first_faulty _ _ (first_faulty _ _ f)
      go None (inr d) more = later (turn_fault (leaf_shape name) [] w x) _ _ (doomed xs (walked rules [] w x) us.1 d)
      go (Some s) c more = one_more (option_and_then closed (read s xs)) w x xs c.0 (more s c.1)

  nothing_holds : Holds nothing []
  nothing_holds = record { operands = refl; budget = refl; steps = refl; workers = refl; stats = refl }

  -- the words behind a command
  pub reads_all : (words : List Text) → AreTexts words → Ends (given_by words) (walk_from nothing_held) words
  reads_all words us = reads words start (walk_from nothing_held) us
      (inl (record { rows = []; pending = None; waiting = Rattle.clap.specs.Walk.idle; is = refl; awaits = refl; plain = λ _. refl; settles = record { free = refl; holds = nothing_holds } }))
