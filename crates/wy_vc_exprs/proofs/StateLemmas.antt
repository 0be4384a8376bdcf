-- What walks assume and owe.
use Rattle.std.proofs.Common.{Vec, ◌≡◌, ◌<◌, ℕ, List, [], ◌∷◌, ◌++◌, All, map, length, take, refl, ◌∙◌, sym, ap, subst, arith}
use Rattle.std.specs.declared.alloc.Global.{Global}
use Rattle.std.proofs.lemmas.List.{take_all, append-nil, append_assoc}
use Rattle.std.proofs.lemmas.List.Elements.{All-nil, All-cons, All-head, All-tail, All-weaker}
use Rattle.wy_lemmas.proofs.Lists.{front as take_front}
use Rattle.wy_term.specs.Term.{Term}
use Rattle.wy_term.specs.Nodes.{Plain, tree_at}
use Rattle.wy_term.specs.Numbers.{IsAt}
use Rattle.wy_vc_terms.specs.wy_vc_spec.Owed.{Owed, assume, members}
use Rattle.wy_vc_terms.specs.wy_vc_spec.Clauses.{Passed, passed, after}
use Rattle.wy_vc_terms.specs.wy_vc_spec.Calls.{Walked}
use Rattle.wy_vc_operations.proofs.GrowingLemmas.{kept_all}
use Rattle.wy_vc_operations.specs.Growing.{Kept, AreBelow, AreAt}
use Rattle.wy_vc_exprs.specs.Numbered.{Grown, trees_of}
use Rattle.wy_vc_exprs.specs.State.{IsGoal, IsSound, Steps, Walks, goal_of, seen_goal, hyps_of, owed_of}
use Rattle.wy_vc_exprs.specs.declared.walk.Walk.{Walk}
use Rattle.wy_vc_terms.specs.declared.maker.Maker.{Maker}
use Rattle.wy_vc_exprs.specs.declared.goal.Goal.{Goal}
use Rattle.wy_vc_exprs.proofs.NumberedLemmas.{trees_kept, below_on, grown_front, grown_below, grown_trees}

pub kept_on : (a b c : List Plain) → Kept a b → Kept b c → Kept a c
kept_on a b c k l = record {
  grows = omega (arith, k.grows, l.grows);
  trees = λ t lt. l.trees t (omega (arith, k.grows)) ∙ k.trees t lt;
}

pub at_kept : (old new : List Plain) (t : ℕ) (tree : Term) → Kept old new → IsAt old t tree → IsAt new t tree
at_kept old new t tree k at = record { within = omega (arith, k.grows, at.within); is = k.trees t at.within ∙ at.is }

-- ---- goals as terms grow

pub goal_kept : (old new : List Plain) → Kept old new → (g : Goal) → IsGoal old g → IsGoal new g
goal_kept old new k g is = record { hyps = below_on old new k g.hyps.items is.hyps; goal = omega (arith, k.grows, is.goal) }

pub seen_kept : (old new : List Plain) → Kept old new → (g : Goal) → IsGoal old g → seen_goal new g ≡ seen_goal old g
seen_kept old new k g is =
    ap (λ (hs : List Term). goal_of g.kind g.at hs (tree_at new g.goal)) (trees_kept old new k g.hyps.items is.hyps)
    ∙ ap (λ (t : Term). goal_of g.kind g.at (trees_of old g.hyps.items) t) (k.trees g.goal is.goal)

pub goals_kept : (old new : List Plain) → Kept old new → (gs : List Goal) → All (IsGoal old) gs → map (seen_goal new) gs ≡ map (seen_goal old) gs
goals_kept old new k [] are = refl
goals_kept old new k (g ∷ gs) are =
    ap (λ (o : Owed). o ∷ map (seen_goal new) gs) (seen_kept old new k g (All-head (IsGoal old) g gs are))
    ∙ ap (λ (os : List Owed). seen_goal old g ∷ os) (goals_kept old new k gs (All-tail (IsGoal old) g gs are))

-- ---- one walk behind another

-- terms are made, and nothing else
pub steps_made : (a b : Walk) → IsSound a → Kept a.maker.terms b.maker.terms → b.hyps.items ≡ a.hyps.items → b.owed.items ≡ a.owed.items → Steps a b (passed b.maker.count (hyps_of a) [])
steps_made a b sound kept hyps owed = record {
  sound = record {
    hyps = subst (λ (xs : List ℕ). AreBelow (length b.maker.terms) xs) (sym hyps) (below_on a.maker.terms b.maker.terms kept a.hyps.items sound.hyps);
    owed = subst (λ (xs : List Goal). All (IsGoal b.maker.terms) xs) (sym owed) (All-weaker (IsGoal a.maker.terms) (IsGoal b.maker.terms) (goal_kept a.maker.terms b.maker.terms kept) a.owed.items sound.owed);
  };
  kept = kept;
  count = refl;
  hyps = ap (λ (xs : List ℕ). trees_of b.maker.terms xs) hyps ∙ trees_kept a.maker.terms b.maker.terms kept a.hyps.items sound.hyps;
  owed = ap (λ (xs : List Goal). map (seen_goal b.maker.terms) xs) owed ∙ goals_kept a.maker.terms b.maker.terms kept a.owed.items sound.owed ∙ sym (append-nil (owed_of a));
  longer = ap (λ (xs : List ℕ). take (length a.hyps.items) xs) hyps ∙ take_all (length a.hyps.items) a.hyps.items (omega arith);
}

-- the walk is sound while terms are made
pub sound_made : (a b : Walk) → IsSound a → Kept a.maker.terms b.maker.terms → b.hyps.items ≡ a.hyps.items → b.owed.items ≡ a.owed.items → IsSound b
sound_made a b sound kept hyps owed = (steps_made a b sound kept hyps owed).sound

-- nothing is done
pub steps_none : (a : Walk) → IsSound a → Steps a a (passed a.maker.count (hyps_of a) [])
steps_none a sound = steps_made a a sound (kept_all a.maker.terms) refl refl

-- the one, and behind it the other, which goes by what is assumed and how many names are made
pub steps_on : (F : List Term → ℕ → Passed) (a b c : Walk) (p : Passed) → Steps a b p → Steps b c (F (hyps_of b) b.maker.count) → Steps a c (after p (F p.hyps p.count))
steps_on F a b c p first rest =
    let at : F (hyps_of b) b.maker.count ≡ F p.hyps p.count = ap (λ (hs : List Term). F hs b.maker.count) first.hyps ∙ ap (λ (n : ℕ). F p.hyps n) first.count in
    record {
      sound = rest.sound;
      kept = kept_on a.maker.terms b.maker.terms c.maker.terms first.kept rest.kept;
      count = rest.count ∙ ap (λ (q : Passed). q.count) at;
      hyps = rest.hyps ∙ ap (λ (q : Passed). q.hyps) at;
      owed = rest.owed ∙ ap (λ (os : List Owed). os ++ (F (hyps_of b) b.maker.count).owed) first.owed ∙ append_assoc (owed_of a) p.owed (F (hyps_of b) b.maker.count).owed
          ∙ ap (λ (q : Passed). owed_of a ++ (p.owed ++ q.owed)) at;
      longer = take_front a.hyps.items b.hyps.items c.hyps.items first.longer rest.longer;
    }

-- so much was said of it
pub steps_as : (a b : Walk) (p q : Passed) → p ≡ q → Steps a b p → Steps a b q
steps_as a b p q e s = subst (λ (x : Passed). Steps a b x) e s

-- what is owed behind this
abbrev pub owed_before : List Owed → Walked → Walked
owed_before os w = record w { owed = os ++ w.owed }

-- a formula is assumed
pub steps_assume : (a b : Walk) (f : ℕ) → IsSound a → b.maker ≡ a.maker → b.owed ≡ a.owed → Grown a.maker.terms a.hyps.items b.hyps.items (members (tree_at a.maker.terms f)) → Steps a b (passed a.maker.count (assume (hyps_of a) (tree_at a.maker.terms f)) [])
steps_assume a b f sound maker owed grown = record {
  sound = record {
    hyps = subst (λ (m : Maker). AreBelow (length m.terms) b.hyps.items) (sym maker) (grown_below a.maker.terms a.hyps.items b.hyps.items _ sound.hyps grown);
    owed = subst (λ (m : Maker). All (IsGoal m.terms) b.owed.items) (sym maker) (subst (λ (os : Vec Goal Global). All (IsGoal a.maker.terms) os.items) (sym owed) sound.owed);
  };
  kept = subst (λ (m : Maker). Kept a.maker.terms m.terms) (sym maker) (kept_all a.maker.terms);
  count = ap (λ (m : Maker). m.count) maker;
  hyps = ap (λ (m : Maker). trees_of m.terms b.hyps.items) maker ∙ grown_trees a.maker.terms a.hyps.items b.hyps.items _ grown;
  owed = ap (λ (m : Maker). map (seen_goal m.terms) b.owed.items) maker ∙ ap (λ (os : Vec Goal Global). map (seen_goal a.maker.terms) os.items) owed ∙ sym (append-nil (owed_of a));
  longer = grown_front a.maker.terms a.hyps.items b.hyps.items _ grown;
}

-- what was assumed since a point is forgotten
pub steps_cut : (a b c : Walk) (p : Passed) → IsSound a → Steps a b p → c.maker ≡ b.maker → c.owed ≡ b.owed → c.hyps.items ≡ take (length a.hyps.items) b.hyps.items → Steps a c (passed p.count (hyps_of a) p.owed)
steps_cut a b c p sound s maker owed hyps =
    let same : c.hyps.items ≡ a.hyps.items = hyps ∙ s.longer in
    record {
      sound = record {
        hyps = subst (λ (m : Maker). AreBelow (length m.terms) c.hyps.items) (sym maker) (subst (λ (xs : List ℕ). AreBelow (length b.maker.terms) xs) (sym same) (below_on a.maker.terms b.maker.terms s.kept a.hyps.items sound.hyps));
        owed = subst (λ (m : Maker). All (IsGoal m.terms) c.owed.items) (sym maker) (subst (λ (os : Vec Goal Global). All (IsGoal b.maker.terms) os.items) (sym owed) s.sound.owed);
      };
      kept = subst (λ (m : Maker). Kept a.maker.terms m.terms) (sym maker) s.kept;
      count = ap (λ (m : Maker). m.count) maker ∙ s.count;
      hyps = ap (λ (m : Maker). trees_of m.terms c.hyps.items) maker ∙ ap (λ (xs : List ℕ). trees_of b.maker.terms xs) same ∙ trees_kept a.maker.terms b.maker.terms s.kept a.hyps.items sound.hyps;
      owed = ap (λ (m : Maker). map (seen_goal m.terms) c.owed.items) maker ∙ ap (λ (os : Vec Goal Global). map (seen_goal b.maker.terms) os.items) owed ∙ s.owed;
      longer = ap (λ (xs : List ℕ). take (length a.hyps.items) xs) same ∙ take_all (length a.hyps.items) a.hyps.items (omega arith);
    }

-- the same walk
pub steps_same : (a c d : Walk) (p : Passed) → Steps a c p → d.maker ≡ c.maker → d.owed ≡ c.owed → d.hyps.items ≡ c.hyps.items → Steps a d p
steps_same a c d p s maker owed hyps = record {
  sound = record {
    hyps = subst (λ (m : Maker). AreBelow (length m.terms) d.hyps.items) (sym maker) (subst (λ (xs : List ℕ). AreBelow (length c.maker.terms) xs) (sym hyps) s.sound.hyps);
    owed = subst (λ (m : Maker). All (IsGoal m.terms) d.owed.items) (sym maker) (subst (λ (os : Vec Goal Global). All (IsGoal c.maker.terms) os.items) (sym owed) s.sound.owed);
  };
  kept = subst (λ (m : Maker). Kept a.maker.terms m.terms) (sym maker) s.kept;
  count = ap (λ (m : Maker). m.count) maker ∙ s.count;
  hyps = ap (λ (m : Maker). trees_of m.terms d.hyps.items) maker ∙ ap (λ (xs : List ℕ). trees_of c.maker.terms xs) hyps ∙ s.hyps;
  owed = ap (λ (m : Maker). map (seen_goal m.terms) d.owed.items) maker ∙ ap (λ (os : Vec Goal Global). map (seen_goal c.maker.terms) os.items) owed ∙ s.owed;
  longer = ap (λ (xs : List ℕ). take (length a.hyps.items) xs) hyps ∙ s.longer;
}

-- ---- terms made

-- a term is made, and nothing else
pub walks_made : (a b : Walk) (r : ℕ) (t : Term) → IsSound a → Kept a.maker.terms b.maker.terms → b.hyps.items ≡ a.hyps.items → b.owed.items ≡ a.owed.items → b.maker.count ≡ a.maker.count → IsAt b.maker.terms r t → Walks a b r (record { count = a.maker.count; hyps = hyps_of a; term = t; owed = [] })
walks_made a b r t sound kept hyps owed count at = record {
  steps = steps_as a b (passed b.maker.count (hyps_of a) []) (passed a.maker.count (hyps_of a) []) (ap (λ (n : ℕ). passed n (hyps_of a) []) count) (steps_made a b sound kept hyps owed);
  is = at;
}

-- the node that comes next makes no difference
pub steps_noded : (a b c : Walk) (p : Passed) → Steps a b p → c.maker.terms ≡ b.maker.terms → c.maker.count ≡ b.maker.count → c.hyps ≡ b.hyps → c.owed ≡ b.owed → Steps a c p
steps_noded a b c p s terms count hyps owed = record {
  sound = record {
    hyps = subst (λ (ns : List Plain). AreBelow (length ns) c.hyps.items) (sym terms) (subst (λ (hs : Vec ℕ Global). AreBelow (length b.maker.terms) hs.items) (sym hyps) s.sound.hyps);
    owed = subst (λ (ns : List Plain). All (IsGoal ns) c.owed.items) (sym terms) (subst (λ (os : Vec Goal Global). All (IsGoal b.maker.terms) os.items) (sym owed) s.sound.owed);
  };
  kept = subst (λ (ns : List Plain). Kept a.maker.terms ns) (sym terms) s.kept;
  count = count ∙ s.count;
  hyps = ap (λ (ns : List Plain). trees_of ns c.hyps.items) terms ∙ ap (λ (hs : Vec ℕ Global). trees_of b.maker.terms hs.items) hyps ∙ s.hyps;
  owed = ap (λ (ns : List Plain). map (seen_goal ns) c.owed.items) terms ∙ ap (λ (os : Vec Goal Global). map (seen_goal b.maker.terms) os.items) owed ∙ s.owed;
  longer = ap (λ (hs : Vec ℕ Global). take (length a.hyps.items) hs.items) hyps ∙ s.longer;
}

-- ---- many steps, one behind the other

-- what is left to do comes to all
pub record Toward (a b : Walk) (rest all : Passed) : Type 0 where
  pub sound : IsSound b
  pub kept : Kept a.maker.terms b.maker.terms
  pub count : rest.count ≡ all.count
  pub hyps : rest.hyps ≡ all.hyps
  pub owed : owed_of b ++ rest.owed ≡ owed_of a ++ all.owed
  pub longer : take (length a.hyps.items) b.hyps.items ≡ a.hyps.items

pub toward_begin : (a : Walk) (all : Passed) → IsSound a → Toward a a all all
toward_begin a all sound = record {
  sound = sound;
  kept = kept_all a.maker.terms;
  count = refl;
  hyps = refl;
  owed = refl;
  longer = take_all (length a.hyps.items) a.hyps.items (omega arith);
}

pub toward_step : (F : List Term → ℕ → Passed) (a b c : Walk) (p all : Passed) → Toward a b (after p (F p.hyps p.count)) all → Steps b c p → Toward a c (F (hyps_of c) c.maker.count) all
toward_step F a b c p all t s =
    let at : F (hyps_of c) c.maker.count ≡ F p.hyps p.count = ap (λ (hs : List Term). F hs c.maker.count) s.hyps ∙ ap (λ (n : ℕ). F p.hyps n) s.count in
    record {
      sound = s.sound;
      kept = kept_on a.maker.terms b.maker.terms c.maker.terms t.kept s.kept;
      count = ap (λ (q : Passed). q.count) at ∙ t.count;
      hyps = ap (λ (q : Passed). q.hyps) at ∙ t.hyps;
      owed = ap (λ (q : Passed). owed_of c ++ q.owed) at ∙ ap (λ (os : List Owed). os ++ (F p.hyps p.count).owed) s.owed ∙ append_assoc (owed_of b) p.owed (F p.hyps p.count).owed ∙ t.owed;
      longer = take_front a.hyps.items b.hyps.items c.hyps.items t.longer s.longer;
    }

pub toward_end : (a b : Walk) (all : Passed) → Toward a b (passed b.maker.count (hyps_of b) []) all → Steps a b all
toward_end a b all t = record {
  sound = t.sound;
  kept = t.kept;
  count = t.count;
  hyps = t.hyps;
  owed = sym (append-nil (owed_of b)) ∙ t.owed;
  longer = t.longer;
}

-- ---- numbers of terms

pub are_two : (nodes : List Plain) (a b : ℕ) (s t : Term) → IsAt nodes a s → IsAt nodes b t → AreAt nodes (a ∷ b ∷ []) (s ∷ t ∷ [])
are_two nodes a b s t x y = record {
  within = All-cons (λ k. k < length nodes) a (b ∷ []) x.within (All-cons (λ k. k < length nodes) b [] y.within (All-nil (λ k. k < length nodes)));
  are = ap (λ (u : Term). u ∷ tree_at nodes b ∷ []) x.is ∙ ap (λ (u : Term). s ∷ u ∷ []) y.is;
}

pub are_one : (nodes : List Plain) (a : ℕ) (s : Term) → IsAt nodes a s → AreAt nodes (a ∷ []) (s ∷ [])
are_one nodes a s x = record {
  within = All-cons (λ k. k < length nodes) a [] x.within (All-nil (λ k. k < length nodes));
  are = ap (λ (u : Term). u ∷ []) x.is;
}

pub are_kept : (old new : List Plain) (ks : List ℕ) (ts : List Term) → Kept old new → AreAt old ks ts → AreAt new ks ts
are_kept old new ks ts k x = record { within = below_on old new k ks x.within; are = trees_kept old new k ks x.within ∙ x.are }

pub at_same : (n : List Plain) (r : ℕ) (s t : Term) → s ≡ t → IsAt n r s → IsAt n r t
at_same n r s t e x = record { within = x.within; is = x.is ∙ e }
