-- Paths on which a variable has no value behind them: of courses, by their parts.
use Rattle.std.proofs.Common.{◌≡◌, inl, inr, ℕ, Bool, true, List, [], ◌∷◌, ◌++◌, refl, sym, ◌∙◌, subst}
use Rattle.wy_assign.proofs.EventLemmas.{unset-append, unset_more, unset_reads}
use Rattle.wy_assign.specs.Paths.{Event, End, Falls, Breaks, Through, Course, Nothing, One, Then, Ending, Before, Either, InOrder, Loop}
use Rattle.wy_assign.specs.Assigned.{unset_behind}
use Rattle.wy_sound.proofs.marks_lemmas.ReadLemmas.{Reading}

-- a path that ends so, behind which the variable has no value if v says so, where u says so of before it
pub record Way (C : Course) (end : End) (x : ℕ) (u v : Bool) : Type 0 where
  pub events : List Event
  pub is_way : C events end
  pub unset : v ≡ true → unset_behind x u events ≡ true

-- one path with uses alone
pub way_reads : (end : End) (A : Through) (x : ℕ) (u : Bool) → Reading A → Way (Ending end A) end x u u
way_reads end A x u a = record { events = a.some; is_way = (refl, a.is_some); unset = λ e. unset_reads x u a.some a.reads ∙ e }

pub way_nothing : (end : End) (x : ℕ) (u : Bool) → Way (Ending end Nothing) end x u u
way_nothing end x u = record { events = []; is_way = (refl, refl); unset = λ e. e }

-- uses, and behind them an event
pub way_event : (A : Through) (e : Event) (x : ℕ) (u v : Bool) → Reading A → (v ≡ true → unset_behind x u (e ∷ []) ≡ true) → Way (Ending Falls (Then A (One e))) Falls x u v
way_event A e x u v a h = record {
  events = a.some ++ e ∷ [];
  is_way = (refl, (a.some, e ∷ [], refl, a.is_some, refl));
  unset = λ q. unset-append x u a.some (e ∷ []) ∙ subst (λ (b : Bool). unset_behind x b (e ∷ []) ≡ true) (sym (unset_reads x u a.some a.reads)) (h q);
}

-- less is said of what is behind
pub way_less : (C : Course) (end : End) (x : ℕ) (u v w : Bool) → (w ≡ true → v ≡ true) → Way C end x u v → Way C end x u w
way_less C end x u v w h c = record { events = c.events; is_way = c.is_way; unset = λ e. c.unset (h e) }

-- ---- one thing behind another

-- two paths, one behind the other
append_unset : (x : ℕ) (u v w : Bool) (p q : List Event) → (v ≡ true → unset_behind x u p ≡ true) → (w ≡ true → unset_behind x v q ≡ true) → w ≡ true → unset_behind x u (p ++ q) ≡ true
append_unset x u v w p q f g e = unset-append x u p q ∙ unset_more x v (unset_behind x u p) q f (g e)

pub way_order : (C D : Course) (end : End) (x : ℕ) (u v w : Bool) → Way C Falls x u v → Way D end x v w → Way (InOrder C D) end x u w
way_order C D end x u v w c d = record {
  events = c.events ++ d.events;
  is_way = inr (c.events, d.events, refl, c.is_way, d.is_way);
  unset = append_unset x u v w c.events d.events c.unset d.unset;
}

-- a `break` of the first
pub way_first : (C D : Course) (x : ℕ) (u v : Bool) → Way C Breaks x u v → Way (InOrder C D) Breaks x u v
way_first C D x u v c = record { events = c.events; is_way = inl (refl, c.is_way); unset = c.unset }

pub way_before : (A : Through) (C : Course) (end : End) (x : ℕ) (u v : Bool) → Reading A → Way C end x u v → Way (Before A C) end x u v
way_before A C end x u v a c = record {
  events = a.some ++ c.events;
  is_way = (a.some, c.events, refl, a.is_some, c.is_way);
  unset = append_unset x u u v a.some c.events (λ e. unset_reads x u a.some a.reads ∙ e) c.unset;
}

pub way_left : (C D : Course) (end : End) (x : ℕ) (u v : Bool) → Way C end x u v → Way (Either C D) end x u v
way_left C D end x u v c = record { events = c.events; is_way = inl c.is_way; unset = c.unset }

pub way_right : (C D : Course) (end : End) (x : ℕ) (u v : Bool) → Way D end x u v → Way (Either C D) end x u v
way_right C D end x u v d = record { events = d.events; is_way = inr d.is_way; unset = d.unset }

-- ---- loops

-- the head, and no turn
pub way_past : (A : Through) (C : Course) (x : ℕ) (u : Bool) → Reading A → Way (Loop A C) Falls x u u
way_past A C x u a = record { events = a.some; is_way = (0, (refl, a.is_some)); unset = λ e. unset_reads x u a.some a.reads ∙ e }

-- a turn that a `break` ends
pub way_broken : (A : Through) (C : Course) (x : ℕ) (u v : Bool) → Reading A → Way C Breaks x u v → Way (Loop A C) Falls x u v
way_broken A C x u v a c = record {
  events = a.some ++ c.events;
  is_way = (1, (a.some, c.events, refl, a.is_some, inl (refl, c.is_way)));
  unset = append_unset x u u v a.some c.events (λ e. unset_reads x u a.some a.reads ∙ e) c.unset;
}
