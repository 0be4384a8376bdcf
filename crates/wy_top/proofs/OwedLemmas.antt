-- A source has one list of conditions, or one reason why there is none.
use Rattle.std.proofs.Common.{◌≡◌, ◌∙◌, ℕ, List, Bool, true, false, IsTrue, refl, sym, ap, subst}
use Rattle.wy_top_probe.specs.wy_top_source.wy_assign.Assigned.{IsAssigned}
use Rattle.wy_vc.specs.wy_vc_spec.Limits.{Passing, Within}
use Rattle.wy_core.specs.CoreTree.{Core}
use Rattle.wy_core.specs.Types.{Ty}
use Rattle.wy_top_probe.specs.wy_top_source.texts.Refusals as refusals
use Rattle.wy_top_probe.specs.wy_top_source.texts.Sources as sources
use Rattle.wy_top_probe.specs.wy_top_source.declared.refusal.Refusal.{Refusal}
use Rattle.wy_top_probe.proofs.wy_top_source_proofs.ApartLemmas.{not_refused, one_flow}
use Rattle.wy_top_probe.proofs.wy_top_source_proofs.OneLemmas.{one_core}
use Rattle.wy_vc.specs.Listed as vc
use Rattle.wy_vc.specs.declared.fault.VcFault.{VcFault}
use Rattle.wy_vc.specs.declared.fault.VcFault.TheVariants.{TooManyConds, TooManyTerms, NoMemory}
use Rattle.wy_vc.specs.Told.{Told}
use Rattle.wy_top.specs.Faults.{is_no_memory, lacks_memory}
use Rattle.wy_top.specs.Owed.{IsDue, IsOver, IsOwed, IsRefused, Owes, Tells, conditions_text, limit_by, told_by}
use Rattle.wy_top.specs.declared.fault.OwedFault.{OwedFault}
use Rattle.wy_top.specs.declared.fault.OwedFault.TheVariants.{Source, Limit}

-- what a reading tells of the programs of the bytes
abbrev pub IsOnly : List ℕ → Core ℕ → List Ty → Type 0
IsOnly bytes core flow = (c : Core ℕ) (f : List Ty) → sources.IsProgram bytes c f → (core ≡ c) × (flow ≡ f)

-- and of the programs that owe no more than they may
abbrev pub OwesOnly : List ℕ → Core ℕ → List Ty → Type 0
OwesOnly bytes core flow = (c : Core ℕ) (f : List Ty) → Owes bytes c f → (core ≡ c) × (flow ≡ f)

-- what is said of the program is said of the only one
moved : (core c : Core ℕ) (flow f : List Ty) (P : Core ℕ → List Ty → Type 0) → (core ≡ c) × (flow ≡ f) → P c f → P core flow
moved core c flow f P same p = subst (λ (d : Core ℕ). P d flow) (sym same.0) (subst (λ (g : List Ty). P c g) (sym same.1) p)

-- ---- the source is refused

pub unread_complete : (bytes : List ℕ) (e : Refusal) → ((c : Core ℕ) (flow : List Ty) → sources.IsProgram bytes c flow → IsTrue (refusals.is_no_memory e)) → (c : Core ℕ) (flow : List Ty) → Owes bytes c flow → IsTrue (is_no_memory (Source e))
unread_complete bytes e complete c flow h = complete c flow h.program

never_both : (b : Bool) → IsTrue b → b ≡ false → ⊥
never_both true is un_so = absurd (cc)
never_both false is un_so = absurd (cc)

pub unread_exact : (bytes : List ℕ) (e : Refusal) → ((c : Core ℕ) (flow : List Ty) → sources.IsProgram bytes c flow → IsTrue (refusals.is_no_memory e))
    → ((f : Refusal) → sources.IsDue bytes f → refusals.is_no_memory e ≡ false → e ≡ f) → (g : OwedFault) → IsDue bytes g → is_no_memory (Source e) ≡ false → Source e ≡ g
unread_exact bytes e complete exact (Source f) due un_so = ap Source (exact f due un_so)
unread_exact bytes e complete exact (Limit f) due un_so = absurd (never_both (refusals.is_no_memory e) (complete due.core due.flow due.program) un_so)

-- ---- a limit is passed

tells : (f : VcFault) (p : Passing) → lacks_memory f ≡ false → vc.IsDue f p → Tells f p
tells TooManyConds p un_so due = due
tells (TooManyTerms k) p un_so due = due
tells NoMemory p un_so due = absurd (cc)

pub limit_refused : (bytes : List ℕ) (core : Core ℕ) (flow : List Ty) (f : VcFault) → sources.IsProgram bytes core flow → vc.IsDue f (limit_by core flow) → is_no_memory (Limit f) ≡ false → IsRefused bytes (Limit f)
limit_refused bytes core flow f h due un_so = record { core = core; flow = flow; program = h; over = tells f (limit_by core flow) un_so due }

one_limit : (f g : VcFault) (p : Passing) → Tells f p → Tells g p → f ≡ g
one_limit TooManyConds TooManyConds p a b = refl
one_limit TooManyConds (TooManyTerms k) p a b = absurd (cc)
one_limit TooManyConds NoMemory p a b = absurd b
one_limit (TooManyTerms j) TooManyConds p a b = absurd (cc)
one_limit (TooManyTerms j) (TooManyTerms k) p a b = ap TooManyTerms (cc)
one_limit (TooManyTerms j) NoMemory p a b = absurd b
one_limit NoMemory g p a b = absurd a

not_within : (f : VcFault) (p : Passing) → Tells f p → p ≡ Within → ⊥
not_within TooManyConds p a w = absurd (cc)
not_within (TooManyTerms k) p a w = absurd (cc)
not_within NoMemory p a w = a

over_here : (bytes : List ℕ) (core : Core ℕ) (flow : List Ty) (g : VcFault) → IsOnly bytes core flow → IsOver bytes g → Tells g (limit_by core flow)
over_here bytes core flow g only h = moved core h.core flow h.flow (λ c f. Tells g (limit_by c f)) (only h.core h.flow h.program) h.over

limit_complete_if : (f : VcFault) (p : Passing) → vc.IsDue f p → p ≡ Within → IsTrue (lacks_memory f)
limit_complete_if TooManyConds p due w = absurd (cc)
limit_complete_if (TooManyTerms k) p due w = absurd (cc)
limit_complete_if NoMemory p due w = refl

pub limit_complete : (bytes : List ℕ) (core : Core ℕ) (flow : List Ty) (f : VcFault) → IsOnly bytes core flow → vc.IsDue f (limit_by core flow) → (c : Core ℕ) (g : List Ty) → Owes bytes c g → IsTrue (is_no_memory (Limit f))
limit_complete bytes core flow f only due c g h = limit_complete_if f (limit_by core flow) due (moved core c flow g (λ d i. limit_by d i ≡ Within) (only c g h.program) h.within)

pub limit_exact : (bytes : List ℕ) (core : Core ℕ) (flow : List Ty) (f : VcFault) → IsOnly bytes core flow → ((g : Refusal) → sources.IsDue bytes g → ⊥) → vc.IsDue f (limit_by core flow)
    → (g : OwedFault) → IsDue bytes g → is_no_memory (Limit f) ≡ false → Limit f ≡ g
limit_exact bytes core flow f only exact due (Source g) owed un_so = absurd (exact g owed)
limit_exact bytes core flow f only exact due (Limit g) owed un_so = ap Limit (one_limit f g (limit_by core flow) (tells f (limit_by core flow) un_so due) (over_here bytes core flow g only owed))

-- ---- there are conditions

pub owes : (bytes : List ℕ) (core : Core ℕ) (flow : List Ty) → sources.IsProgram bytes core flow → limit_by core flow ≡ Within → Owes bytes core flow
owes bytes core flow h within = record { program = h; within = within }

pub assigned : (bytes : List ℕ) (core : Core ℕ) (flow : List Ty) → sources.IsProgram bytes core flow → IsAssigned core
assigned bytes core flow h = subst IsAssigned h.holds.0 h.holds.2

pub owes_only : (bytes : List ℕ) (core : Core ℕ) (flow : List Ty) → IsOnly bytes core flow → OwesOnly bytes core flow
owes_only bytes core flow only = λ c f h. only c f h.program

pub owes_exact : (bytes : List ℕ) (core : Core ℕ) (flow : List Ty) → IsOnly bytes core flow → ((g : Refusal) → sources.IsDue bytes g → ⊥) → limit_by core flow ≡ Within → (g : OwedFault) → IsDue bytes g → ⊥
owes_exact bytes core flow only exact within (Source g) owed = exact g owed
owes_exact bytes core flow only exact within (Limit g) owed = not_within g (limit_by core flow) (over_here bytes core flow g only owed) within

-- and none for which it is refused
pub owes_unrefused : (bytes : List ℕ) (core : Core ℕ) (flow : List Ty) → Owes bytes core flow → (f : OwedFault) → is_no_memory f ≡ false → IsRefused bytes f → ⊥
owes_unrefused bytes core flow h (Source f) known r = not_refused bytes core flow f h.program known r
owes_unrefused bytes core flow h (Limit f) known r =
    not_within f (limit_by core flow) (over_here bytes core flow f (λ c g p. (one_core bytes core c flow g h.program p, one_flow bytes core c flow g h.program p)) r) h.within

-- ---- there is a list

abbrev list_text : List ℕ → Core ℕ → List Ty → List ℕ
list_text bytes core flow = conditions_text bytes 1 (told_by core flow)

pub text_is : (bytes text : List ℕ) (core : Core ℕ) (flow : List Ty) (ts : List Told) → Owes bytes core flow → ts ≡ told_by core flow → text ≡ conditions_text bytes 1 ts → IsOwed bytes text
text_is bytes text core flow ts h is e = record { core = core; flow = flow; owes = h; listed = sym (e ∙ ap (λ (us : List Told). conditions_text bytes 1 us) is) }

pub text_complete : (bytes text : List ℕ) (core : Core ℕ) (flow : List Ty) (ts : List Told) → OwesOnly bytes core flow → ts ≡ told_by core flow → text ≡ conditions_text bytes 1 ts → (t : List ℕ) → IsOwed bytes t → text ≡ t
text_complete bytes text core flow ts only is e t h =
    e ∙ ap (λ (us : List Told). conditions_text bytes 1 us) is ∙ moved core h.core flow h.flow (λ c f. list_text bytes c f ≡ t) (only h.core h.flow h.owes) h.listed

-- there is none
pub textless : (bytes : List ℕ) (e : OwedFault) → ((c : Core ℕ) (flow : List Ty) → Owes bytes c flow → IsTrue (is_no_memory e)) → (t : List ℕ) → IsOwed bytes t → IsTrue (is_no_memory e)
textless bytes e complete t h = complete h.core h.flow h.owes
