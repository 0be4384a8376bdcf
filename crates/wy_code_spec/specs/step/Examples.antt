-- What each instruction does in a small routine, computed step by step.
use Rattle.std.specs.Prelude.{◌≡◌, ℕ, List, [], ◌∷◌, true, false, pos, negsuc}
use Rattle.wy_value.specs.Datum.{Datum, Null, Truth, Whole, Array, Record, no_items, item, no_fields, field}
use Rattle.wy_value.specs.declared.bounds.TheConstants.{INT_MAX}
use Rattle.wy_code.specs.declared.instructions.Scalar.TheVariants as scalar
use Rattle.wy_code.specs.declared.instructions.Arithmetic.TheVariants.{Add, Div, Mod}
use Rattle.wy_code.specs.declared.instructions.Comparison.TheVariants.{Greater, LessEqual}
use Rattle.wy_code.specs.declared.instructions.Slot.TheVariants as slot
use Rattle.wy_code.specs.declared.instructions.Kind.TheVariants as kind
use Rattle.wy_code.specs.declared.instructions.Instr.{Instr}
use Rattle.wy_code.specs.declared.instructions.Instr.TheVariants.{Const, Move, Share, Clear, Arith, Compare, Equal, Not, Jump, Branch, Fill, Len, Get, Field, Put, Call, Return, Print, PrintInt}
use Rattle.wy_code.specs.declared.instructions.Instr.TheVariants as instr
use Rattle.wy_code.specs.declared.routines.Code.{Code}
use Rattle.wy_code_spec.specs.step.Step.{State, Ended, Stuck, start, after}

-- the names `x` and `y`, and the shapes `{x, y}` and `{x}`; a routine with four registers, and one that adds its two arguments
abbrev pub code_of : ℕ → List Instr → Code
code_of params body = record {
  shapes = record { names = (120 ∷ []) ∷ (121 ∷ []) ∷ []; lists = (0 ∷ 1 ∷ []) ∷ (0 ∷ []) ∷ [] };
  routines = record { registers = 4; params = params; body = body } ∷ record { registers = 2; params = 2; body = Arith 0 Add 0 1 ∷ Return 0 ∷ [] } ∷ [];
}

-- eight steps of the first routine on one argument, and on two
abbrev pub on_one : List Instr → Datum → State
on_one body v = after (code_of 1 body) 8 (start (code_of 1 body) 0 (v ∷ []))

abbrev pub on_two : List Instr → Datum → Datum → State
on_two body v w = after (code_of 2 body) 8 (start (code_of 2 body) 0 (v ∷ w ∷ []))

abbrev pub three : Datum
three = Whole (pos 3)

abbrev pub minus_seven : Datum
minus_seven = Whole (negsuc 6)

abbrev pub one_two : Datum
one_two = Array (item (Whole (pos 1)) (item (Whole (pos 2)) no_items))

-- `{x: [1, 2], y: 3}`
abbrev pub point : Datum
point = Record (field (120 ∷ []) one_two (field (121 ∷ []) three no_fields))

pub record RoutinesDo : Type 0 where
  pub a_constant : on_one (Const 1 (scalar.Int (pos 3)) ∷ Return 1 ∷ []) Null ≡ Ended three []
  pub a_move : on_one (Move 1 0 ∷ Return 1 ∷ []) three ≡ Ended three []
  pub a_move_empties : on_one (Move 1 0 ∷ Return 0 ∷ []) three ≡ Stuck
  pub a_share_keeps : on_one (Share 1 0 ∷ Return 0 ∷ []) three ≡ Ended three []
  pub a_clear_empties : on_two (Clear (0 ∷ 1 ∷ []) ∷ Return 1 ∷ []) three three ≡ Stuck
  pub a_sum : on_two (Arith 2 Add 0 1 ∷ Return 2 ∷ []) three three ≡ Ended (Whole (pos 6)) []
  -- a sum that is no `int` has no step
  pub too_great_a_sum : on_two (Arith 2 Add 0 1 ∷ Return 2 ∷ []) (Whole INT_MAX) three ≡ Stuck
  pub a_quotient : on_two (Arith 2 Div 0 1 ∷ Return 2 ∷ []) minus_seven three ≡ Ended (Whole (negsuc 2)) []
  -- the rest isn't negative
  pub a_rest : on_two (Arith 2 Mod 0 1 ∷ Return 2 ∷ []) minus_seven three ≡ Ended (Whole (pos 2)) []
  pub no_quotient : on_two (Arith 2 Div 0 1 ∷ Return 2 ∷ []) three (Whole (pos 0)) ≡ Stuck
  pub a_comparison : on_two (Compare 2 Greater 0 1 ∷ Return 2 ∷ []) three minus_seven ≡ Ended (Truth true) []
  pub not_a_comparison : on_two (Compare 2 LessEqual 0 1 ∷ Return 2 ∷ []) three one_two ≡ Stuck
  pub an_equation : on_two (Equal 2 0 1 ∷ Return 2 ∷ []) one_two one_two ≡ Ended (Truth true) []
  pub a_denial : on_one (Not 1 0 ∷ Return 1 ∷ []) (Truth false) ≡ Ended (Truth true) []
  pub a_jump : on_two (Jump 2 ∷ Return 0 ∷ Return 1 ∷ []) three Null ≡ Ended Null []
  pub a_jump_out : on_one (Jump 2 ∷ Return 0 ∷ []) three ≡ Stuck
  pub no_branch : on_two (Branch 0 2 ∷ Return 0 ∷ Return 1 ∷ []) (Truth true) three ≡ Ended (Truth true) []
  pub a_branch : on_two (Branch 0 2 ∷ Return 0 ∷ Return 1 ∷ []) (Truth false) three ≡ Ended three []
  pub an_array : on_two (instr.Array 2 (1 ∷ 0 ∷ []) ∷ Return 2 ∷ []) (Whole (pos 2)) (Whole (pos 1)) ≡ Ended one_two []
  -- a part is moved once
  pub an_array_of_one : on_one (instr.Array 2 (0 ∷ 0 ∷ []) ∷ Return 2 ∷ []) three ≡ Stuck
  pub a_record : on_two (instr.Record 2 0 (0 ∷ 1 ∷ []) ∷ Return 2 ∷ []) one_two three ≡ Ended point []
  pub a_part_too_few : on_one (instr.Record 2 0 (0 ∷ []) ∷ Return 2 ∷ []) one_two ≡ Stuck
  pub copies : on_two (Fill 2 0 1 ∷ Return 2 ∷ []) three (Whole (pos 2)) ≡ Ended (Array (item three (item three no_items))) []
  pub less_than_no_copy : on_two (Fill 2 0 1 ∷ Return 2 ∷ []) three minus_seven ≡ Stuck
  pub a_length : on_one (Len 0 0 ∷ Return 0 ∷ []) one_two ≡ Ended (Whole (pos 2)) []
  pub an_item : on_two (Get 2 0 1 ∷ Return 2 ∷ []) one_two (Whole (pos 1)) ≡ Ended (Whole (pos 2)) []
  pub an_item_too_far : on_two (Get 2 0 1 ∷ Return 2 ∷ []) one_two (Whole (pos 2)) ≡ Stuck
  pub a_field : on_one (Field 1 0 1 ∷ Return 1 ∷ []) point ≡ Ended three []
  pub no_field : on_one (Field 1 0 1 ∷ Return 1 ∷ []) (Record (field (120 ∷ []) three no_fields)) ≡ Stuck
  -- `{x: [1, 2], y: 3}` with `x[1] = 3` is `{x: [1, 3], y: 3}`
  pub an_update : on_one (Const 1 (scalar.Int (pos 1)) ∷ Field 2 0 1 ∷ Put 0 (slot.Field 0 ∷ slot.Item 1 ∷ []) 2 ∷ Return 0 ∷ []) point
      ≡ Ended (Record (field (120 ∷ []) (Array (item (Whole (pos 1)) (item three no_items))) (field (121 ∷ []) three no_fields))) []
  pub an_update_moves : on_one (Const 1 (scalar.Int (pos 1)) ∷ Put 0 (slot.Item 1 ∷ []) 1 ∷ Return 1 ∷ []) one_two ≡ Stuck
  pub an_update_too_far : on_two (Put 0 (slot.Item 1 ∷ []) 2 ∷ Return 0 ∷ []) one_two (Whole (pos 2)) ≡ Stuck
  pub is_null : on_one (instr.Kind 1 0 kind.Null ∷ Return 1 ∷ []) Null ≡ Ended (Truth true) []
  pub is_no_int : on_one (instr.Kind 1 0 kind.Int ∷ Return 1 ∷ []) Null ≡ Ended (Truth false) []
  pub is_an_array : on_one (instr.Kind 1 0 kind.Array ∷ Return 1 ∷ []) one_two ≡ Ended (Truth true) []
  pub has_the_shape : on_one (instr.Kind 1 0 (kind.Shape 0) ∷ Return 1 ∷ []) point ≡ Ended (Truth true) []
  pub has_more_fields : on_one (instr.Kind 1 0 (kind.Shape 1) ∷ Return 1 ∷ []) point ≡ Ended (Truth false) []
  pub a_call : on_two (Call 3 1 (0 ∷ 1 ∷ []) ∷ Return 3 ∷ []) three three ≡ Ended (Whole (pos 6)) []
  pub a_call_moves : on_two (Call 3 1 (0 ∷ 1 ∷ []) ∷ Return 0 ∷ []) three three ≡ Stuck
  pub an_argument_too_few : on_one (Call 3 1 (0 ∷ []) ∷ Return 3 ∷ []) three ≡ Stuck
  pub an_argument_too_many : on_two (Share 2 0 ∷ Call 3 1 (0 ∷ 1 ∷ 2 ∷ []) ∷ Return 3 ∷ []) three three ≡ Stuck
  pub no_such_routine : on_two (Call 3 2 (0 ∷ 1 ∷ []) ∷ Return 3 ∷ []) three three ≡ Stuck
  pub text : on_one (Print 0 ∷ Return 0 ∷ []) (Array (item (Whole (pos 104)) (item (Whole (pos 105)) no_items))) ≡ Ended (Array (item (Whole (pos 104)) (item (Whole (pos 105)) no_items))) (104 ∷ 105 ∷ [])
  pub no_text : on_one (Print 0 ∷ Return 0 ∷ []) (Array (item (Whole (pos 128)) no_items)) ≡ Stuck
  pub a_number : on_one (PrintInt 0 ∷ Return 0 ∷ []) minus_seven ≡ Ended minus_seven (45 ∷ 55 ∷ [])
  -- nothing goes on behind the last instruction
  pub the_end : on_one (Const 1 scalar.Null ∷ []) Null ≡ Stuck
