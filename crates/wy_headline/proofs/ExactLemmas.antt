-- What is due is what comes, unless the call is cut short.
use Rattle.std.proofs.Common.{◌≡◌, ◌⊎◌, inl, inr, ◌∙◌, ℕ, Ok, Err, sym, ap, subst}
use Rattle.wy_top.specs.wy_top_answers.Showing.{Shown, ShowsWhole, Sinks}
use Rattle.wy_top.specs.wy_top_answers.Steps.{Came, EndsFree, IsFree, Sense, Setting, answer_in, due, failed, from_outside, memory, uncertified}
use Rattle.wy_top.specs.wy_top_answers.declared.answer.Answer.{Answer}
use Rattle.wy_top.specs.Statement.{IsAnswered}
use Rattle.wy_headline.specs.Accepted.{IsCutShort, load_failed, no_memory, sink_failed}
use Rattle.wy_headline.proofs.ApartLemmas.{Apart}

module _ (s : Setting) (status : ℕ) (k : Sinks) where
  -- an answer in place of which another one is due
  pub shown_short : (a : Answer) → Apart a → IsFree s a → Shown a status k → IsCutShort s status k
  shown_short a apart free (inr f) = sink_failed f.answer f.fault
  shown_short a apart (from_outside (memory e)) (inl w) = no_memory (w.answer ∙ ap (λ (b : Answer). b.status) e)
  shown_short a apart (from_outside (failed name e rose)) (inl w) = load_failed name rose (subst (λ (b : Answer). ShowsWhole b status k) e w)
  shown_short a apart (uncertified e) (inl w) = absurd (apart (ap (λ (b : Answer). b.status) e))

  pub whole_or : (a : Answer) → Shown a status k → ShowsWhole a status k ⊎ IsCutShort s status k
  whole_or a (inl w) = inl w
  whole_or a (inr f) = inr (sink_failed f.answer f.fault)

  by_last : (last other : Came Answer) → Apart (answer_in last) → Shown (answer_in last) status k → (other ≡ last) ⊎ EndsFree s last → ShowsWhole (answer_in other) status k ⊎ IsCutShort s status k
  by_last last other apart shown (inl e) = whole_or (answer_in other) (subst (λ (r : Came Answer). Shown (answer_in r) status k) (sym e) shown)
  by_last (Ok a) other apart shown (inr free) = absurd free
  by_last (Err a) other apart shown (inr free) = inr (shown_short a apart free shown)

  -- the answer of a command that answers
  pub exactly : (step : Sense → Came Answer → Type 0) (h : IsAnswered s step status k) → Apart h.answer → (other : Came Answer) → step due other → ShowsWhole (answer_in other) status k ⊎ IsCutShort s status k
  exactly step h apart other is_due =
      by_last h.answers.last other (subst Apart h.answers.is apart) (subst (λ (a : Answer). Shown a status k) h.answers.is h.shown) (h.answers.gives.only other is_due)
