-- What the statements of a body go by, as terms grow.
use Rattle.std.proofs.Common.{◌≡◌, ◌≤◌, ℕ, List, [], ◌++◌, length, take, Option, Some, None, sym, ◌∙◌, ap, subst, arith}
use Rattle.std.proofs.lemmas.List.{append_assoc}
use Rattle.wy_term.specs.Term.{Term}
use Rattle.wy_term.specs.Nodes.{Plain}
use Rattle.wy_vc_exprs.specs.wy_vc_spec.Clauses.{Passed}
use Rattle.wy_vc_exprs.specs.wy_vc_spec.Owed.{Owed}
use Rattle.wy_vc_exprs.specs.wy_vc_spec.Spots.{Spot, spot, Flow}
use Rattle.wy_vc_exprs.specs.wy_vc_spec.Variables.{Vars}
use Rattle.wy_vc_exprs.specs.wy_vc_operations.Growing.{Kept}
use Rattle.wy_vc_body.specs.declared.here.Here.{Here}
use Rattle.wy_vc_exprs.specs.Slots.{AreSlots, slots_of}
use Rattle.wy_vc_exprs.specs.State.{Steps, owed_of}
use Rattle.wy_vc_exprs.specs.declared.walk.Walk.{Walk}
use Rattle.wy_vc_exprs.proofs.SlotLemmas.{slots_kept, slots_on}
use Rattle.wy_vc_exprs.proofs.StateLemmas.{kept_on}
use Rattle.wy_vc_body.specs.Paths.{IsSpot}
use Rattle.wy_vc_body.specs.declared.frame.Frame.{Frame}
use Rattle.wy_vc_body.specs.Frames.{IsFrame, body_at}
use Rattle.wy_vc_body.specs.Going.{Went}
use Rattle.std.proofs.lemmas.List.{take-take, length-take}

pub body_kept : (old new : List Plain) → Kept old new → (f : Frame) → IsFrame old f → body_at new f ≡ body_at old f
body_kept old new k f is = ap (λ (vs : Vars). record (body_at old f) { entry = vs }) (slots_kept old new k f.entry.items is.entry)

pub frame_on : (old new : List Plain) → Kept old new → (f : Frame) → IsFrame old f → IsFrame new f
frame_on old new k f is = record { described = is.described; called = is.called; entry = slots_on old new k f.entry.items is.entry }

-- ---- one behind the other

-- behind what was passed, a step of a body that goes by the body, what is assumed, what is known of variables, and the count of names
abbrev pub behind : List Owed → Flow → Flow
behind os f = record f { owed = os ++ f.owed }

pub went_on : (a b c : Walk) (p : Passed) (h : Option Here) (f g : Flow) → Steps a b p → Went b c h f → f ≡ g → Went a c h (behind p.owed g)
went_on a b c p h f g first second same = subst (λ (x : Flow). Went a c h (behind p.owed x)) same (record {
  sound = second.sound;
  kept = kept_on a.maker.terms b.maker.terms c.maker.terms first.kept second.kept;
  longer = front a.hyps.items b.hyps.items c.hyps.items first.longer second.longer;
  count = second.count;
  owed = second.owed ∙ ap (λ (os : List Owed). os ++ f.owed) first.owed ∙ append_assoc (owed_of a) p.owed f.owed;
  ends = second.ends;
})
  where
    front : (x y z : List ℕ) → take (length x) y ≡ x → take (length y) z ≡ y → take (length x) z ≡ x
    front x y z e g =
        let short : length x ≤ length y = omega (arith, sym (ap length e) ∙ length-take (length x) y) in
        sym (take-take (length x) (length y) z short) ∙ ap (λ (l : List ℕ). take (length x) l) g ∙ e

-- steps behind which a path goes on with what is known of variables
pub went_goes : (a b : Walk) (p : Passed) (h : Here) (s : Spot) → Steps a b p → IsSpot b h s → Went a b (Some h) (record { count = p.count; ends = Some s; breaks = []; owed = p.owed })
went_goes a b p h s steps is = record { sound = steps.sound; kept = steps.kept; longer = steps.longer; count = steps.count; owed = steps.owed; ends = is }

-- steps behind which none does
pub went_stops : (a b : Walk) (p : Passed) → Steps a b p → Went a b None (record { count = p.count; ends = None; breaks = []; owed = p.owed })
went_stops a b p steps = record { sound = steps.sound; kept = steps.kept; longer = steps.longer; count = steps.count; owed = steps.owed; ends = tt }

-- what is known of variables stays, and this is assumed
pub spot_behind : (a b : Walk) (p : Passed) (h : Here) → Steps a b p → AreSlots a.maker.terms h.vars.items → IsSpot b h (spot p.hyps (slots_of a.maker.terms h.vars.items) h.set.items)
spot_behind a b p h steps slots = record {
  slots = slots_on a.maker.terms b.maker.terms steps.kept h.vars.items slots;
  is = ap (λ (hs : List Term). spot hs (slots_of b.maker.terms h.vars.items) h.set.items) steps.hyps
      ∙ ap (λ (vs : Vars). spot p.hyps vs h.set.items) (slots_kept a.maker.terms b.maker.terms steps.kept h.vars.items slots);
}
