-- How `Items` keeps its items: as the `Vec` inside does, seen as their list.
use mathlib.Core.Path.{◌≡◌, refl, sym}
use mathlib.Core.List.{List, []}
use mathlib.Core.Former.{Former, this, list, via, children}
use base.Stored.{code_map}
use denote.RattleType.{RattleType}
use denote.HoleLaws.{Alike}
use denote.HolePlaces.{Recodes, struct_places, laid}
use denote.Hole.Carrier.{listed, list-listed}
use denote.Hole.Fix.{over}
use denote.Param.Weighed.{Weighed, w_list}
use denote.Model.Placed.{view_places}
use Rattle.std.specs.formers.vec.Vec as vec
use Rattle.std.specs.declared.alloc.Global.{Global}
use Rattle.std.specs.contracts.alloc.Global as global
use Rattle.std.specs.contracts.impls.GlobalAllocator.TheImpl.{ghosts}
use Rattle.wy_items.specs.declared.items.Items.TheInside.{Inside}
use Rattle.wy_items.specs.declared.items.Items.TheView.{view, invariant}
use Rattle.wy_items.specs.contracts.items.Items as seen
use Rattle.wy_items.specs.contracts.items.Items.TheInside as inside

-- What a clause sees: a list. Its shape is a count, and no item at all is a value.
abbrev pub the_former : Former {0} → Former {0}
the_former inner = list inner

abbrev pub the_weighed : {inner : Former {0}} → Weighed inner → Weighed (the_former inner)
the_weighed weights = w_list weights

pub the_empty : List ⊥
the_empty = []

-- The items in order.
abbrev pub the_items : (T : Type 0) → List T → List T
the_items T all = all

pub the_items_listed : (T : Type 0) (all : List T) → listed _ (children (the_former this) T all) ≡ the_items T all
the_items_listed T all = list-listed T all

-- What stands in memory: the one field.
abbrev kept : Former {0}
kept = via (vec.the_former this Global) Inside (λ T all. all.row) (λ T row. record { row = row }) (λ T all. refl) (λ T row. refl)

module _ (Old New : RattleType) (map : Old.Denot → New.Denot) where
  pub the_places : Alike Old New map → Alike (seen.the_row Old) (seen.the_row New) ((the_former this).map Old.Denot New.Denot map)
  the_places alike = view_places kept (list this) view (λ T U k all. refl) (λ T all. refl) Old.Denot New.Denot map
      (seen.the_row Old).coded (seen.the_row New).coded (invariant Old.Denot) (invariant New.Denot)
      (λ all p q. refl) (λ all p q. refl) (λ all e. tt) (λ all e. tt) (over (inside.the_row Old)) (over (inside.the_row New))
      (struct_places (inside.the_type Old) (inside.the_type New) (vec.mapped map, tt) _ (λ all. refl) refl
      (laid _ _ _ (vec.the_places global.the_row ghosts Old New map alike), tt))

  pub the_codes_placed : Recodes Old New map → Recodes (seen.the_row Old) (seen.the_row New) ((the_former this).map Old.Denot New.Denot map)
  the_codes_placed recodes all = sym (code_map Old.coded.code New.coded.code map (λ item. sym (recodes item)) all)
