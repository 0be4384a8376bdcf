-- A refusal is want of memory, or else none of its passes ran out of it.
use Rattle.std.proofs.Common.{◌≡◌, ◌≢◌, false, IsTrue, refl, sym, ap, ◌∙◌}
use Rattle.wy_assign.specs.declared.fault.AssignFault.{AssignFault}
use Rattle.wy_assign.specs.declared.fault.AssignFault.TheVariants as assign
use Rattle.wy_print_laws.specs.wy_parse_front.Faults as front
use Rattle.wy_print_laws.specs.wy_parse_front.declared.fault.SourceFault.{SourceFault}
use Rattle.wy_print_laws.specs.wy_parse_front.declared.fault.SourceFault.TheVariants as source
use Rattle.wy_lemmas.proofs.Choices.{off as not_true}
use Rattle.wy_names.specs.declared.name_fault.NameFault.{NameFault}
use Rattle.wy_names.specs.declared.name_fault.NameFault.TheVariants as name
use Rattle.wy_top_source.specs.Refusals.{is_no_memory, lacks_memory_for_names, lacks_memory_for_types, lacks_memory_for_paths}
use Rattle.wy_top_source.specs.declared.refusal.Refusal.{Refusal}
use Rattle.wy_assign.specs.wy_flow_spec.declared.typing.fault.FlowFault.{FlowFault}
use Rattle.wy_assign.specs.wy_flow_spec.declared.typing.fault.FlowFault.TheVariants as flow

-- a refusal that is want of memory isn't another one
pub memory_apart : (e f : Refusal) → IsTrue (is_no_memory e) → is_no_memory e ≡ false → e ≡ f
memory_apart e f up_so un_so = absurd (not_true (sym up_so ∙ un_so))

-- ---- texts

pub text_memory : (f : SourceFault) → (f ≢ source.NoMemory → ⊥) → IsTrue (front.is_no_memory f)
text_memory (source.NotUtf8 at) h = absurd (h (λ e. absurd (cc)))
text_memory (source.BadChar at) h = absurd (h (λ e. absurd (cc)))
text_memory (source.BadIndent at) h = absurd (h (λ e. absurd (cc)))
text_memory (source.BadNumeral at) h = absurd (h (λ e. absurd (cc)))
text_memory (source.OpenComment at) h = absurd (h (λ e. absurd (cc)))
text_memory (source.Unexpected at) h = absurd (h (λ e. absurd (cc)))
text_memory (source.Mixed at) h = absurd (h (λ e. absurd (cc)))
text_memory (source.Deep at) h = absurd (h (λ e. absurd (cc)))
text_memory (source.TooMany at) h = absurd (h (λ e. absurd (cc)))
text_memory source.NoMemory h = refl

pub text_apart : (f : SourceFault) → front.is_no_memory f ≡ false → f ≢ source.NoMemory
text_apart f un_so e = not_true (sym (ap front.is_no_memory e) ∙ un_so)

-- ---- names

pub name_memory : (f : NameFault) → (f ≢ name.NoMemory → ⊥) → IsTrue (lacks_memory_for_names f)
name_memory (name.Unknown at) h = absurd (h (λ e. absurd (cc)))
name_memory (name.Twice at) h = absurd (h (λ e. absurd (cc)))
name_memory (name.BareRecursion at) h = absurd (h (λ e. absurd (cc)))
name_memory (name.PropertyLoop at) h = absurd (h (λ e. absurd (cc)))
name_memory (name.CallInContract at) h = absurd (h (λ e. absurd (cc)))
name_memory (name.MethodInFunction at) h = absurd (h (λ e. absurd (cc)))
name_memory (name.Arity at) h = absurd (h (λ e. absurd (cc)))
name_memory (name.OutsideLoop at) h = absurd (h (λ e. absurd (cc)))
name_memory (name.TooLarge at) h = absurd (h (λ e. absurd (cc)))
name_memory name.NoMemory h = refl

pub name_apart : (f : NameFault) → lacks_memory_for_names f ≡ false → f ≢ name.NoMemory
name_apart f un_so e = not_true (sym (ap lacks_memory_for_names e) ∙ un_so)

-- ---- types and paths

pub flow_memory : (f : FlowFault) → f ≡ flow.NoMemory → IsTrue (lacks_memory_for_types f)
flow_memory f e = ap lacks_memory_for_types e

pub flow_apart : (f : FlowFault) → lacks_memory_for_types f ≡ false → f ≢ flow.NoMemory
flow_apart f un_so e = not_true (sym (ap lacks_memory_for_types e) ∙ un_so)

pub assign_memory : (f : AssignFault) → f ≡ assign.NoMemory → IsTrue (lacks_memory_for_paths f)
assign_memory f e = ap lacks_memory_for_paths e

pub assign_apart : (f : AssignFault) → lacks_memory_for_paths f ≡ false → f ≢ assign.NoMemory
assign_apart f un_so e = not_true (sym (ap lacks_memory_for_paths e) ∙ un_so)
