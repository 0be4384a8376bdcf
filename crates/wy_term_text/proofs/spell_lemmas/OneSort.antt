-- No text spells an Int term and a Val term.
use Rattle.std.proofs.Common.{ℕ, List, [], Option, Some, None, refl}
use Rattle.wy_term.specs.Term.{Term}
use Rattle.wy_term.specs.Sorts.{int_sort, val_sort}
use Rattle.wy_term_text.specs.declared.spell.lead.Lead.{Lead}
use Rattle.wy_term_text.specs.declared.spell.lead.Lead.TheVariants as lead
use Rattle.wy_term_text.specs.declared.spell.lead.Class.{Class}
use Rattle.wy_term_text.specs.declared.spell.lead.Class.TheVariants as class
use Rattle.wy_term_text.specs.spell.Grammar.{Spells}
use Rattle.wy_term_text.specs.spell.Made.{IsSpelled, SpellsNone, IsOnly, SpellsNoTerm, IsOnlyTerm}
use Rattle.wy_term_text.specs.spell.Heads.{class_at, lead_at, IntBy, ValBy, ByLead, ByWorks, int_works, val_works}
use Rattle.wy_term_text.proofs.spell_lemmas.GoesUp.{Anything, int_front, val_front}

by_works : (l : Lead) (k : List ℕ) (s t : Term) → ByWorks (int_works l 0) k Anything [] s → ByWorks (val_works l 0) k Anything [] t → ⊥
by_works lead.Add k s t a b = b
by_works lead.Sub k s t a b = b
by_works lead.Neg k s t a b = b
by_works lead.Mul k s t a b = b
by_works lead.Div k s t a b = b
by_works lead.Mod k s t a b = b
by_works lead.Num k s t a b = b
by_works lead.Len k s t a b = b
by_works l k s t a b = a

by_lead : (o : Option (Lead × List ℕ)) (s t : Term) → ByLead int_sort 0 o Anything [] s → ByLead val_sort 0 o Anything [] t → ⊥
by_lead None s t a b = a
by_lead (Some p) s t a b = by_works p.0 p.1 s t a.1 b.1

by_class : (c : Class) (i : List ℕ) (s t : Term) → IntBy c 0 i Anything [] s → ValBy c 0 i Anything [] t → ⊥
by_class class.Number i s t a b = b
by_class class.IntName i s t a b = b
by_class class.ValName i s t a b = a
by_class class.Lead i s t a b = by_lead (lead_at i) s t a b
by_class class.Datum i s t a b = by_lead (lead_at i) s t a b

one_sort : (text : List ℕ) (s t : Term) → Spells int_sort text s → Spells val_sort text t → ⊥
one_sort text s t a b = by_class (class_at text) text s t (int_front s 0 Anything text [] [] s refl a tt) (val_front t 0 Anything text [] [] t refl b tt)

pub no_term : (text : List ℕ) → SpellsNone int_sort text → SpellsNone val_sort text → SpellsNoTerm text
no_term text a b = record { no_int = a; no_val = b }

pub only_int_term : (text : List ℕ) (r : Term) → IsSpelled int_sort text r → IsOnly int_sort text r → IsOnlyTerm text r
only_int_term text r spelled only = record { only_int = only; only_val = record { only = λ raw spells. absurd (one_sort text spelled.raw raw spelled.spells spells) } }

pub only_val_term : (text : List ℕ) (r : Term) → SpellsNone int_sort text → IsOnly val_sort text r → IsOnlyTerm text r
only_val_term text r none only = record { only_int = record { only = λ raw spells. absurd (none.none raw spells) }; only_val = only }

pub ruleset sort_steps = (no_term, only_int_term, only_val_term)
