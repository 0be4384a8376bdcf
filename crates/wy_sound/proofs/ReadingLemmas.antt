-- Whatever names a condition is read by, its types have the data that they have by the semantics.
use Rattle.std.proofs.Common.{◌≡◌, ◌<◌, ℕ, Bool, true, List, [], ◌∷◌, length, map, refl, sym, ap, ◌∙◌}
use Rattle.std.proofs.lemmas.Bool.{or_left, or_right}
use Rattle.std.specs.Prelude.{eqb}
use Rattle.wy_lemmas.proofs.Choices.{eqb_itself as eqb_self}
use Rattle.wy_value.specs.Datum.{Datum}
use Rattle.wy_core.specs.Types.{Ty, NamedTy}
use Rattle.wy_core.specs.CoreTree.{Core}
use Rattle.wy_term.specs.Meaning.{Names}
use Rattle.wy_term.specs.Condition.{Entry, AreUnfolded}
use Rattle.wy_sound_types.specs.wy_term_subst.grounded.Readings.{with_members, AlikeOn}
use Rattle.wy_sound_types.proofs.wy_term_subst_proofs.grounded_lemmas.UniqueLemmas.{one_reading}
use Rattle.wy_sound_types.proofs.wy_vc_laws_proofs.grounded_lemmas.ReachLemmas.{listed_below}
use Rattle.wy_sound_types.proofs.wy_vc_laws_proofs.grounded_lemmas.GroundedLemmas.{grounded}
use Rattle.wy_sound_programs.specs.wy_vc_spec.Numbered.{Node}
use Rattle.wy_sound_programs.specs.wy_vc_spec.Owed.{Owed}
use Rattle.wy_sound_programs.specs.wy_vc_spec.Values.{Setting}
use Rattle.wy_sound_programs.specs.wy_vc_spec.Limits.{is_among, types_of, unfolded, unfold_of}
use Rattle.wy_sound_programs.specs.wy_vc_spec.Programs.{conditions_of}
use Rattle.wy_sound_programs.specs.wy_sound_terms.formed.OwedConditions.{with_types}
use Rattle.wy_sound_types.specs.members.Members.{MeetFormulas}
use Rattle.wy_sound_types.specs.members.Laws.{told_by}
use Rattle.wy_sound_types.proofs.members_lemmas.MemberLemmas.{some_meet, all_unfolded}
use Rattle.wy_sound.specs.Sound.{Shown}
use Rattle.wy_sound.specs.Readings.{TellMembers, AllTellMembers, ConditionsTellMembers}
use Rattle.wy_sound.proofs.SoundLemmas.{member_is}

module _ (core : Core ℕ) (flow : List Ty) (shown : Shown core flow) (members : ℕ → Datum → Bool) (meet : MeetFormulas (told_by core flow) members) (place : ℕ → ℕ) where
  abbrev s : Setting Node
  s = told_by core flow

  alike_tell : (names : Names) (es : List Entry) → AlikeOn es names (with_members names members) → TellMembers place core names es
  alike_tell names [] h = tt
  alike_tell names (e ∷ es) h = (λ d b. h.0 d ∙ sym (member_is core flow shown members meet place d b (NamedTy e.type_number)), alike_tell names es h.1)

  all_tell : (cs : List Owed) → AllTellMembers place core (map (with_types s) cs)
  all_tell [] = tt
  all_tell (c ∷ cs) = (
    λ names h.
        alike_tell names (unfold_of s c)
        (one_reading (unfold_of s c) (grounded core shown.formed.bound shown.formed.recursion flow c) names (with_members names members) h
        (all_unfolded s (with_members names members) members meet refl (types_of s c) (λ n t. listed_below s c n t))),
    all_tell cs,
  )

pub conditions_tell : ConditionsTellMembers
conditions_tell place core flow shown =
    let some = some_meet core flow shown.formed.bound shown.formed.recursion in all_tell core flow shown some.0 some.1 place (conditions_of core flow)
