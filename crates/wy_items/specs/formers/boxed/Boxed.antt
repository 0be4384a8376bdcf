-- How `Boxed` keeps its value: behind the pointer of the `Box` inside, seen as the value alone.
use mathlib.Core.Path.{refl}
use mathlib.Core.Former.{Former, this, const, pair, via}
use base.Stored.{gnil}
use base.Fml.{ftrue}
use denote.RattleType.{RattleType}
use denote.Memory.{part_of}
use denote.RawPtr.{Ptr}
use denote.Sharing.{nothing}
use denote.HoleLaws.{Alike}
use denote.HolePlaces.{Recodes, struct_places, laid, one_value}
use denote.Hole.Fix.{over}
use denote.Param.Weighed.{Weighed}
use denote.Model.Placed.{view_places}
use Rattle.std.specs.declared.boxed.Box.{Box}
use Rattle.std.specs.contracts.boxed.Box as std_box
use Rattle.std.specs.declared.alloc.Global.{Global}
use Rattle.std.specs.contracts.alloc.Global as global
use Rattle.std.specs.contracts.impls.GlobalAllocator.TheImpl.{ghosts}
use Rattle.wy_items.specs.declared.boxed.Boxed.TheInside.{Inside}
use Rattle.wy_items.specs.declared.boxed.Boxed.TheView.{view, invariant}
use Rattle.wy_items.specs.contracts.boxed.Boxed as seen
use Rattle.wy_items.specs.contracts.boxed.Boxed.TheInside as inside

-- What a clause sees: the value itself.
abbrev pub the_former : Former {0} → Former {0}
the_former inner = inner

abbrev pub the_weighed : {inner : Former {0}} → Weighed inner → Weighed (the_former inner)
the_weighed weights = weights

-- What stands in memory: a pointer and an allocator, and the value behind them.
abbrev kept : Former {0}
kept = via (pair (const (Ptr × Global)) this) Inside (λ T b. ((b.held.ptr, b.held.alloc), b.held.value))
    (λ T parts. record { held = record { ptr = parts.0.0; alloc = parts.0.1; value = parts.1 } }) (λ T b. refl) (λ T parts. refl)

-- The same pointer before another value.
abbrev before : {T U : Type 0} → Box T Global → U → Box U Global
before b value = record { ptr = b.ptr; alloc = b.alloc; value = value }

abbrev boxes : RattleType → RattleType
boxes R = std_box.the_row R global.the_row ghosts

module _ (Old New : RattleType) (map : Old.Denot → New.Denot) where
  boxes_alike : Alike Old New map → Alike (boxes Old) (boxes New) (λ b. before b (map b.value))
  unfolding part_of
  boxes_alike alike = record {
    mir_same = λ i. (boxes (one_value Old (alike.mir_same i) (λ _. ftrue) (λ _ _. nothing) gnil)).mir;
    own_same = λ b i. (boxes (one_value Old (alike.mir_same i) (alike.own_same b.value i) (alike.shr_same b.value i) gnil)).own_val (before b tt);
    shr_same = λ b i. (boxes (one_value Old (alike.mir_same i) (alike.own_same b.value i) (alike.shr_same b.value i) gnil)).shr_at (before b tt);
  }

  pub the_places : Alike Old New map → Alike (seen.the_row Old) (seen.the_row New) ((the_former this).map Old.Denot New.Denot map)
  the_places alike = view_places kept this view (λ T U k b. refl) (λ T b. refl) Old.Denot New.Denot map
      (seen.the_row Old).coded (seen.the_row New).coded (invariant Old.Denot) (invariant New.Denot)
      (λ b p q. refl) (λ b p q. refl) (λ b e. tt) (λ b e. tt) (over (inside.the_row Old)) (over (inside.the_row New))
      (struct_places (inside.the_type Old) (inside.the_type New) ((λ b. before b (map b.value)), tt) _ (λ b. refl) refl
      (laid _ _ _ (boxes_alike alike), tt))

  pub the_codes_placed : Recodes Old New map → Recodes (seen.the_row Old) (seen.the_row New) ((the_former this).map Old.Denot New.Denot map)
  the_codes_placed recodes b = recodes b
