-- What certificates of real programs are judged to be.
use Rattle.std.specs.Prelude.{◌≡◌, [], ◌∷◌, pos, negsuc, Some, None}
use Rattle.wy_check_spec.specs.wy_term.Term as term
use Rattle.wy_check_spec.specs.wy_term.Term.{Of, no_parts, part}
use Rattle.wy_check_spec.specs.wy_term.Condition.{Condition}
use Rattle.wy_check_spec.specs.wy_cert.Steps.{split, shut, chain, sum_of, cut, fact, prod}
use Rattle.wy_check_spec.specs.valid.Validity.{first_bad}

abbrev pub t_neg_1 : Condition
t_neg_1 = record { hyps = ((Of term.any_of (part (Of term.all_of (part (Of (term.of_kind term.int_kind) (part (Of (term.val_name (120 ∷ []) 0) no_parts) no_parts)) (part (Of term.at_most (part (Of (term.number (negsuc 39614081257132168796771975167)) no_parts) (part (Of term.num (part (Of (term.val_name (120 ∷ []) 0) no_parts) no_parts)) no_parts))) (part (Of term.at_most (part (Of term.num (part (Of (term.val_name (120 ∷ []) 0) no_parts) no_parts)) (part (Of (term.number (pos 39614081257132168796771975167)) no_parts) no_parts))) no_parts)))) (part (Of (term.of_kind term.null_kind) (part (Of (term.val_name (120 ∷ []) 0) no_parts) no_parts)) no_parts))) ∷ (Of (term.of_kind term.int_kind) (part (Of (term.val_name (120 ∷ []) 0) no_parts) no_parts)) ∷ (Of term.at_most (part (Of (term.number (negsuc 39614081257132168796771975167)) no_parts) (part (Of term.num (part (Of (term.val_name (120 ∷ []) 0) no_parts) no_parts)) no_parts))) ∷ (Of term.at_most (part (Of term.num (part (Of (term.val_name (120 ∷ []) 0) no_parts) no_parts)) (part (Of (term.number (pos 39614081257132168796771975167)) no_parts) no_parts))) ∷ (Of term.denied (part (Of term.all_of (part (Of term.all_of (part (Of (term.of_kind term.int_kind) (part (Of (term.val_name (120 ∷ []) 0) no_parts) no_parts)) (part (Of term.at_most (part (Of (term.number (negsuc 39614081257132168796771975167)) no_parts) (part (Of term.num (part (Of (term.val_name (120 ∷ []) 0) no_parts) no_parts)) no_parts))) (part (Of term.at_most (part (Of term.num (part (Of (term.val_name (120 ∷ []) 0) no_parts) no_parts)) (part (Of (term.number (pos 39614081257132168796771975167)) no_parts) no_parts))) no_parts)))) (part (Of term.at_most (part (Of (term.number (pos 0)) no_parts) (part (Of term.num (part (Of (term.val_name (120 ∷ []) 0) no_parts) no_parts)) no_parts))) no_parts))) no_parts)) ∷ []); goal = (Of term.denied (part (Of term.at_most (part (Of (term.number (pos 3)) no_parts) (part (Of term.num (part (Of (term.val_name (120 ∷ []) 0) no_parts) no_parts)) no_parts))) no_parts)); types = [] }

abbrev pub t_neg_2 : Condition
t_neg_2 = record { hyps = ((Of term.any_of (part (Of term.all_of (part (Of (term.of_kind term.int_kind) (part (Of (term.val_name (120 ∷ []) 0) no_parts) no_parts)) (part (Of term.at_most (part (Of (term.number (negsuc 39614081257132168796771975167)) no_parts) (part (Of term.num (part (Of (term.val_name (120 ∷ []) 0) no_parts) no_parts)) no_parts))) (part (Of term.at_most (part (Of term.num (part (Of (term.val_name (120 ∷ []) 0) no_parts) no_parts)) (part (Of (term.number (pos 39614081257132168796771975167)) no_parts) no_parts))) no_parts)))) (part (Of (term.of_kind term.null_kind) (part (Of (term.val_name (120 ∷ []) 0) no_parts) no_parts)) no_parts))) ∷ (Of (term.of_kind term.int_kind) (part (Of (term.val_name (120 ∷ []) 0) no_parts) no_parts)) ∷ (Of term.at_most (part (Of (term.number (negsuc 39614081257132168796771975167)) no_parts) (part (Of term.num (part (Of (term.val_name (120 ∷ []) 0) no_parts) no_parts)) no_parts))) ∷ (Of term.at_most (part (Of term.num (part (Of (term.val_name (120 ∷ []) 0) no_parts) no_parts)) (part (Of (term.number (pos 39614081257132168796771975167)) no_parts) no_parts))) ∷ (Of term.denied (part (Of term.all_of (part (Of term.all_of (part (Of (term.of_kind term.int_kind) (part (Of (term.val_name (120 ∷ []) 0) no_parts) no_parts)) (part (Of term.at_most (part (Of (term.number (negsuc 39614081257132168796771975167)) no_parts) (part (Of term.num (part (Of (term.val_name (120 ∷ []) 0) no_parts) no_parts)) no_parts))) (part (Of term.at_most (part (Of term.num (part (Of (term.val_name (120 ∷ []) 0) no_parts) no_parts)) (part (Of (term.number (pos 39614081257132168796771975167)) no_parts) no_parts))) no_parts)))) (part (Of term.at_most (part (Of (term.number (pos 0)) no_parts) (part (Of term.num (part (Of (term.val_name (120 ∷ []) 0) no_parts) no_parts)) no_parts))) no_parts))) no_parts)) ∷ (Of term.denied (part (Of term.at_most (part (Of (term.number (pos 3)) no_parts) (part (Of term.num (part (Of (term.val_name (120 ∷ []) 0) no_parts) no_parts)) no_parts))) no_parts)) ∷ []); goal = (Of term.all_of no_parts); types = [] }

abbrev pub t_neg_3 : Condition
t_neg_3 = record { hyps = ((Of term.any_of (part (Of term.all_of (part (Of (term.of_kind term.int_kind) (part (Of (term.val_name (120 ∷ []) 0) no_parts) no_parts)) (part (Of term.at_most (part (Of (term.number (negsuc 39614081257132168796771975167)) no_parts) (part (Of term.num (part (Of (term.val_name (120 ∷ []) 0) no_parts) no_parts)) no_parts))) (part (Of term.at_most (part (Of term.num (part (Of (term.val_name (120 ∷ []) 0) no_parts) no_parts)) (part (Of (term.number (pos 39614081257132168796771975167)) no_parts) no_parts))) no_parts)))) (part (Of (term.of_kind term.null_kind) (part (Of (term.val_name (120 ∷ []) 0) no_parts) no_parts)) no_parts))) ∷ (Of term.denied (part (Of term.all_of (part (Of term.all_of (part (Of (term.of_kind term.int_kind) (part (Of (term.val_name (120 ∷ []) 0) no_parts) no_parts)) (part (Of term.at_most (part (Of (term.number (negsuc 39614081257132168796771975167)) no_parts) (part (Of term.num (part (Of (term.val_name (120 ∷ []) 0) no_parts) no_parts)) no_parts))) (part (Of term.at_most (part (Of term.num (part (Of (term.val_name (120 ∷ []) 0) no_parts) no_parts)) (part (Of (term.number (pos 39614081257132168796771975167)) no_parts) no_parts))) no_parts)))) (part (Of term.denied (part (Of term.all_of (part (Of term.all_of (part (Of (term.of_kind term.int_kind) (part (Of (term.val_name (120 ∷ []) 0) no_parts) no_parts)) (part (Of term.at_most (part (Of (term.number (negsuc 39614081257132168796771975167)) no_parts) (part (Of term.num (part (Of (term.val_name (120 ∷ []) 0) no_parts) no_parts)) no_parts))) (part (Of term.at_most (part (Of term.num (part (Of (term.val_name (120 ∷ []) 0) no_parts) no_parts)) (part (Of (term.number (pos 39614081257132168796771975167)) no_parts) no_parts))) no_parts)))) (part (Of term.at_most (part (Of (term.number (pos 0)) no_parts) (part (Of term.num (part (Of (term.val_name (120 ∷ []) 0) no_parts) no_parts)) no_parts))) no_parts))) no_parts)) no_parts))) no_parts)) ∷ (Of (term.of_kind term.null_kind) (part (Of (term.val_name (120 ∷ []) 0) no_parts) no_parts)) ∷ []); goal = (Of term.all_of no_parts); types = [] }

abbrev pub t_neg_4 : Condition
t_neg_4 = record { hyps = ((Of term.any_of (part (Of term.all_of (part (Of (term.of_kind term.int_kind) (part (Of (term.val_name (120 ∷ []) 0) no_parts) no_parts)) (part (Of term.at_most (part (Of (term.number (negsuc 39614081257132168796771975167)) no_parts) (part (Of term.num (part (Of (term.val_name (120 ∷ []) 0) no_parts) no_parts)) no_parts))) (part (Of term.at_most (part (Of term.num (part (Of (term.val_name (120 ∷ []) 0) no_parts) no_parts)) (part (Of (term.number (pos 39614081257132168796771975167)) no_parts) no_parts))) no_parts)))) (part (Of (term.of_kind term.null_kind) (part (Of (term.val_name (120 ∷ []) 0) no_parts) no_parts)) no_parts))) ∷ (Of term.denied (part (Of term.all_of (part (Of term.all_of (part (Of (term.of_kind term.int_kind) (part (Of (term.val_name (120 ∷ []) 0) no_parts) no_parts)) (part (Of term.at_most (part (Of (term.number (negsuc 39614081257132168796771975167)) no_parts) (part (Of term.num (part (Of (term.val_name (120 ∷ []) 0) no_parts) no_parts)) no_parts))) (part (Of term.at_most (part (Of term.num (part (Of (term.val_name (120 ∷ []) 0) no_parts) no_parts)) (part (Of (term.number (pos 39614081257132168796771975167)) no_parts) no_parts))) no_parts)))) (part (Of term.denied (part (Of term.all_of (part (Of term.all_of (part (Of (term.of_kind term.int_kind) (part (Of (term.val_name (120 ∷ []) 0) no_parts) no_parts)) (part (Of term.at_most (part (Of (term.number (negsuc 39614081257132168796771975167)) no_parts) (part (Of term.num (part (Of (term.val_name (120 ∷ []) 0) no_parts) no_parts)) no_parts))) (part (Of term.at_most (part (Of term.num (part (Of (term.val_name (120 ∷ []) 0) no_parts) no_parts)) (part (Of (term.number (pos 39614081257132168796771975167)) no_parts) no_parts))) no_parts)))) (part (Of term.at_most (part (Of (term.number (pos 0)) no_parts) (part (Of term.num (part (Of (term.val_name (120 ∷ []) 0) no_parts) no_parts)) no_parts))) no_parts))) no_parts)) no_parts))) no_parts)) ∷ (Of term.denied (part (Of (term.of_kind term.null_kind) (part (Of (term.val_name (120 ∷ []) 0) no_parts) no_parts)) no_parts)) ∷ (Of (term.of_kind term.int_kind) (part (Of (term.val_name (120 ∷ []) 0) no_parts) no_parts)) ∷ (Of term.at_most (part (Of (term.number (negsuc 39614081257132168796771975167)) no_parts) (part (Of term.num (part (Of (term.val_name (120 ∷ []) 0) no_parts) no_parts)) no_parts))) ∷ (Of term.at_most (part (Of term.num (part (Of (term.val_name (120 ∷ []) 0) no_parts) no_parts)) (part (Of (term.number (pos 39614081257132168796771975167)) no_parts) no_parts))) ∷ (Of term.at_most (part (Of (term.number (pos 0)) no_parts) (part (Of term.num (part (Of (term.val_name (120 ∷ []) 0) no_parts) no_parts)) no_parts))) ∷ []); goal = (Of term.all_of no_parts); types = [] }

abbrev pub t_neg_5 : Condition
t_neg_5 = record { hyps = ((Of term.any_of (part (Of term.all_of (part (Of (term.of_kind term.int_kind) (part (Of (term.val_name (120 ∷ []) 0) no_parts) no_parts)) (part (Of term.at_most (part (Of (term.number (negsuc 39614081257132168796771975167)) no_parts) (part (Of term.num (part (Of (term.val_name (120 ∷ []) 0) no_parts) no_parts)) no_parts))) (part (Of term.at_most (part (Of term.num (part (Of (term.val_name (120 ∷ []) 0) no_parts) no_parts)) (part (Of (term.number (pos 39614081257132168796771975167)) no_parts) no_parts))) no_parts)))) (part (Of (term.of_kind term.null_kind) (part (Of (term.val_name (120 ∷ []) 0) no_parts) no_parts)) no_parts))) ∷ (Of term.denied (part (Of term.all_of (part (Of term.all_of (part (Of (term.of_kind term.int_kind) (part (Of (term.val_name (120 ∷ []) 0) no_parts) no_parts)) (part (Of term.at_most (part (Of (term.number (negsuc 39614081257132168796771975167)) no_parts) (part (Of term.num (part (Of (term.val_name (120 ∷ []) 0) no_parts) no_parts)) no_parts))) (part (Of term.at_most (part (Of term.num (part (Of (term.val_name (120 ∷ []) 0) no_parts) no_parts)) (part (Of (term.number (pos 39614081257132168796771975167)) no_parts) no_parts))) no_parts)))) (part (Of term.denied (part (Of term.all_of (part (Of term.all_of (part (Of (term.of_kind term.int_kind) (part (Of (term.val_name (120 ∷ []) 0) no_parts) no_parts)) (part (Of term.at_most (part (Of (term.number (negsuc 39614081257132168796771975167)) no_parts) (part (Of term.num (part (Of (term.val_name (120 ∷ []) 0) no_parts) no_parts)) no_parts))) (part (Of term.at_most (part (Of term.num (part (Of (term.val_name (120 ∷ []) 0) no_parts) no_parts)) (part (Of (term.number (pos 39614081257132168796771975167)) no_parts) no_parts))) no_parts)))) (part (Of term.at_most (part (Of (term.number (pos 0)) no_parts) (part (Of term.num (part (Of (term.val_name (120 ∷ []) 0) no_parts) no_parts)) no_parts))) no_parts))) no_parts)) no_parts))) no_parts)) ∷ (Of term.denied (part (Of (term.of_kind term.null_kind) (part (Of (term.val_name (120 ∷ []) 0) no_parts) no_parts)) no_parts)) ∷ (Of term.denied (part (Of term.all_of (part (Of term.all_of (part (Of (term.of_kind term.int_kind) (part (Of (term.val_name (120 ∷ []) 0) no_parts) no_parts)) (part (Of term.at_most (part (Of (term.number (negsuc 39614081257132168796771975167)) no_parts) (part (Of term.num (part (Of (term.val_name (120 ∷ []) 0) no_parts) no_parts)) no_parts))) (part (Of term.at_most (part (Of term.num (part (Of (term.val_name (120 ∷ []) 0) no_parts) no_parts)) (part (Of (term.number (pos 39614081257132168796771975167)) no_parts) no_parts))) no_parts)))) (part (Of term.at_most (part (Of (term.number (pos 0)) no_parts) (part (Of term.num (part (Of (term.val_name (120 ∷ []) 0) no_parts) no_parts)) no_parts))) no_parts))) no_parts)) ∷ []); goal = (Of term.all_of no_parts); types = [] }

abbrev pub t_calls_1 : Condition
t_calls_1 = record { hyps = ((Of (term.of_kind term.int_kind) (part (Of (term.val_name (110 ∷ []) 0) no_parts) no_parts)) ∷ (Of term.at_most (part (Of (term.number (negsuc 39614081257132168796771975167)) no_parts) (part (Of term.num (part (Of (term.val_name (110 ∷ []) 0) no_parts) no_parts)) no_parts))) ∷ (Of term.at_most (part (Of term.num (part (Of (term.val_name (110 ∷ []) 0) no_parts) no_parts)) (part (Of (term.number (pos 39614081257132168796771975167)) no_parts) no_parts))) ∷ (Of term.at_most (part (Of (term.number (pos 0)) no_parts) (part (Of term.num (part (Of (term.val_name (110 ∷ []) 0) no_parts) no_parts)) no_parts))) ∷ (Of term.denied (part (Of term.at_most (part (Of (term.number (pos 52)) no_parts) (part (Of term.num (part (Of (term.val_name (110 ∷ []) 0) no_parts) no_parts)) no_parts))) no_parts)) ∷ (Of (term.of_kind term.int_kind) (part (Of (term.val_name (114 ∷ []) 1) no_parts) no_parts)) ∷ (Of term.at_most (part (Of (term.number (negsuc 39614081257132168796771975167)) no_parts) (part (Of term.num (part (Of (term.val_name (114 ∷ []) 1) no_parts) no_parts)) no_parts))) ∷ (Of term.at_most (part (Of term.num (part (Of (term.val_name (114 ∷ []) 1) no_parts) no_parts)) (part (Of (term.number (pos 39614081257132168796771975167)) no_parts) no_parts))) ∷ (Of term.at_most (part (Of (term.number (pos 0)) no_parts) (part (Of term.num (part (Of (term.val_name (114 ∷ []) 1) no_parts) no_parts)) no_parts))) ∷ []); goal = (Of term.at_most (part (Of (term.number (negsuc 39614081257132168796771975167)) no_parts) (part (Of term.add (part (Of term.num (part (Of (term.val_name (110 ∷ []) 0) no_parts) no_parts)) (part (Of (term.number (pos 1)) no_parts) no_parts))) no_parts))); types = [] }

abbrev pub t_calls_2 : Condition
t_calls_2 = record { hyps = ((Of (term.of_kind term.int_kind) (part (Of (term.val_name (110 ∷ []) 0) no_parts) no_parts)) ∷ (Of term.at_most (part (Of (term.number (negsuc 39614081257132168796771975167)) no_parts) (part (Of term.num (part (Of (term.val_name (110 ∷ []) 0) no_parts) no_parts)) no_parts))) ∷ (Of term.at_most (part (Of term.num (part (Of (term.val_name (110 ∷ []) 0) no_parts) no_parts)) (part (Of (term.number (pos 39614081257132168796771975167)) no_parts) no_parts))) ∷ (Of term.at_most (part (Of (term.number (pos 0)) no_parts) (part (Of term.num (part (Of (term.val_name (110 ∷ []) 0) no_parts) no_parts)) no_parts))) ∷ (Of term.denied (part (Of term.at_most (part (Of (term.number (pos 52)) no_parts) (part (Of term.num (part (Of (term.val_name (110 ∷ []) 0) no_parts) no_parts)) no_parts))) no_parts)) ∷ (Of (term.of_kind term.int_kind) (part (Of (term.val_name (114 ∷ []) 1) no_parts) no_parts)) ∷ (Of term.at_most (part (Of (term.number (negsuc 39614081257132168796771975167)) no_parts) (part (Of term.num (part (Of (term.val_name (114 ∷ []) 1) no_parts) no_parts)) no_parts))) ∷ (Of term.at_most (part (Of term.num (part (Of (term.val_name (114 ∷ []) 1) no_parts) no_parts)) (part (Of (term.number (pos 39614081257132168796771975167)) no_parts) no_parts))) ∷ (Of term.at_most (part (Of (term.number (pos 0)) no_parts) (part (Of term.num (part (Of (term.val_name (114 ∷ []) 1) no_parts) no_parts)) no_parts))) ∷ (Of term.at_most (part (Of (term.number (negsuc 39614081257132168796771975167)) no_parts) (part (Of term.add (part (Of term.num (part (Of (term.val_name (110 ∷ []) 0) no_parts) no_parts)) (part (Of (term.number (pos 1)) no_parts) no_parts))) no_parts))) ∷ []); goal = (Of term.at_most (part (Of term.add (part (Of term.num (part (Of (term.val_name (110 ∷ []) 0) no_parts) no_parts)) (part (Of (term.number (pos 1)) no_parts) no_parts))) (part (Of (term.number (pos 39614081257132168796771975167)) no_parts) no_parts))); types = [] }

abbrev pub t_calls_3 : Condition
t_calls_3 = record { hyps = ((Of (term.of_kind term.int_kind) (part (Of (term.val_name (110 ∷ []) 0) no_parts) no_parts)) ∷ (Of term.at_most (part (Of (term.number (negsuc 39614081257132168796771975167)) no_parts) (part (Of term.num (part (Of (term.val_name (110 ∷ []) 0) no_parts) no_parts)) no_parts))) ∷ (Of term.at_most (part (Of term.num (part (Of (term.val_name (110 ∷ []) 0) no_parts) no_parts)) (part (Of (term.number (pos 39614081257132168796771975167)) no_parts) no_parts))) ∷ (Of term.at_most (part (Of (term.number (pos 0)) no_parts) (part (Of term.num (part (Of (term.val_name (110 ∷ []) 0) no_parts) no_parts)) no_parts))) ∷ (Of term.denied (part (Of term.at_most (part (Of (term.number (pos 52)) no_parts) (part (Of term.num (part (Of (term.val_name (110 ∷ []) 0) no_parts) no_parts)) no_parts))) no_parts)) ∷ []); goal = (Of term.at_most (part (Of (term.number (negsuc 39614081257132168796771975167)) no_parts) (part (Of term.add (part (Of term.num (part (Of (term.val_name (110 ∷ []) 0) no_parts) no_parts)) (part (Of (term.number (pos 1)) no_parts) no_parts))) no_parts))); types = [] }

abbrev pub t_calls_4 : Condition
t_calls_4 = record { hyps = ((Of (term.of_kind term.int_kind) (part (Of (term.val_name (110 ∷ []) 0) no_parts) no_parts)) ∷ (Of term.at_most (part (Of (term.number (negsuc 39614081257132168796771975167)) no_parts) (part (Of term.num (part (Of (term.val_name (110 ∷ []) 0) no_parts) no_parts)) no_parts))) ∷ (Of term.at_most (part (Of term.num (part (Of (term.val_name (110 ∷ []) 0) no_parts) no_parts)) (part (Of (term.number (pos 39614081257132168796771975167)) no_parts) no_parts))) ∷ (Of term.at_most (part (Of (term.number (pos 0)) no_parts) (part (Of term.num (part (Of (term.val_name (110 ∷ []) 0) no_parts) no_parts)) no_parts))) ∷ (Of term.denied (part (Of term.at_most (part (Of (term.number (pos 52)) no_parts) (part (Of term.num (part (Of (term.val_name (110 ∷ []) 0) no_parts) no_parts)) no_parts))) no_parts)) ∷ (Of term.at_most (part (Of (term.number (negsuc 39614081257132168796771975167)) no_parts) (part (Of term.add (part (Of term.num (part (Of (term.val_name (110 ∷ []) 0) no_parts) no_parts)) (part (Of (term.number (pos 1)) no_parts) no_parts))) no_parts))) ∷ []); goal = (Of term.at_most (part (Of term.add (part (Of term.num (part (Of (term.val_name (110 ∷ []) 0) no_parts) no_parts)) (part (Of (term.number (pos 1)) no_parts) no_parts))) (part (Of (term.number (pos 39614081257132168796771975167)) no_parts) no_parts))); types = [] }

abbrev pub t_calls_5 : Condition
t_calls_5 = record { hyps = ((Of (term.of_kind term.int_kind) (part (Of (term.val_name (110 ∷ []) 0) no_parts) no_parts)) ∷ (Of term.at_most (part (Of (term.number (negsuc 39614081257132168796771975167)) no_parts) (part (Of term.num (part (Of (term.val_name (110 ∷ []) 0) no_parts) no_parts)) no_parts))) ∷ (Of term.at_most (part (Of term.num (part (Of (term.val_name (110 ∷ []) 0) no_parts) no_parts)) (part (Of (term.number (pos 39614081257132168796771975167)) no_parts) no_parts))) ∷ (Of term.at_most (part (Of (term.number (pos 0)) no_parts) (part (Of term.num (part (Of (term.val_name (110 ∷ []) 0) no_parts) no_parts)) no_parts))) ∷ (Of term.denied (part (Of term.at_most (part (Of (term.number (pos 52)) no_parts) (part (Of term.num (part (Of (term.val_name (110 ∷ []) 0) no_parts) no_parts)) no_parts))) no_parts)) ∷ (Of term.at_most (part (Of (term.number (negsuc 39614081257132168796771975167)) no_parts) (part (Of term.add (part (Of term.num (part (Of (term.val_name (110 ∷ []) 0) no_parts) no_parts)) (part (Of (term.number (pos 1)) no_parts) no_parts))) no_parts))) ∷ (Of term.at_most (part (Of term.add (part (Of term.num (part (Of (term.val_name (110 ∷ []) 0) no_parts) no_parts)) (part (Of (term.number (pos 1)) no_parts) no_parts))) (part (Of (term.number (pos 39614081257132168796771975167)) no_parts) no_parts))) ∷ []); goal = (Of term.all_of (part (Of term.all_of (part (Of term.at_most (part (Of (term.number (negsuc 39614081257132168796771975167)) no_parts) (part (Of term.add (part (Of term.num (part (Of (term.val_name (110 ∷ []) 0) no_parts) no_parts)) (part (Of (term.number (pos 1)) no_parts) no_parts))) no_parts))) (part (Of term.at_most (part (Of term.add (part (Of term.num (part (Of (term.val_name (110 ∷ []) 0) no_parts) no_parts)) (part (Of (term.number (pos 1)) no_parts) no_parts))) (part (Of (term.number (pos 39614081257132168796771975167)) no_parts) no_parts))) no_parts))) (part (Of term.at_most (part (Of (term.number (pos 0)) no_parts) (part (Of term.add (part (Of term.num (part (Of (term.val_name (110 ∷ []) 0) no_parts) no_parts)) (part (Of (term.number (pos 1)) no_parts) no_parts))) no_parts))) no_parts))); types = [] }

abbrev pub t_calls_6 : Condition
t_calls_6 = record { hyps = ((Of (term.of_kind term.int_kind) (part (Of (term.val_name (110 ∷ []) 0) no_parts) no_parts)) ∷ (Of term.at_most (part (Of (term.number (negsuc 39614081257132168796771975167)) no_parts) (part (Of term.num (part (Of (term.val_name (110 ∷ []) 0) no_parts) no_parts)) no_parts))) ∷ (Of term.at_most (part (Of term.num (part (Of (term.val_name (110 ∷ []) 0) no_parts) no_parts)) (part (Of (term.number (pos 39614081257132168796771975167)) no_parts) no_parts))) ∷ (Of term.at_most (part (Of (term.number (pos 0)) no_parts) (part (Of term.num (part (Of (term.val_name (110 ∷ []) 0) no_parts) no_parts)) no_parts))) ∷ (Of term.denied (part (Of term.at_most (part (Of (term.number (pos 52)) no_parts) (part (Of term.num (part (Of (term.val_name (110 ∷ []) 0) no_parts) no_parts)) no_parts))) no_parts)) ∷ (Of term.at_most (part (Of (term.number (negsuc 39614081257132168796771975167)) no_parts) (part (Of term.add (part (Of term.num (part (Of (term.val_name (110 ∷ []) 0) no_parts) no_parts)) (part (Of (term.number (pos 1)) no_parts) no_parts))) no_parts))) ∷ (Of term.at_most (part (Of term.add (part (Of term.num (part (Of (term.val_name (110 ∷ []) 0) no_parts) no_parts)) (part (Of (term.number (pos 1)) no_parts) no_parts))) (part (Of (term.number (pos 39614081257132168796771975167)) no_parts) no_parts))) ∷ (Of term.at_most (part (Of (term.number (negsuc 39614081257132168796771975167)) no_parts) (part (Of term.add (part (Of term.num (part (Of (term.val_name (110 ∷ []) 0) no_parts) no_parts)) (part (Of (term.number (pos 1)) no_parts) no_parts))) no_parts))) ∷ (Of term.at_most (part (Of term.add (part (Of term.num (part (Of (term.val_name (110 ∷ []) 0) no_parts) no_parts)) (part (Of (term.number (pos 1)) no_parts) no_parts))) (part (Of (term.number (pos 39614081257132168796771975167)) no_parts) no_parts))) ∷ (Of term.at_most (part (Of (term.number (pos 0)) no_parts) (part (Of term.add (part (Of term.num (part (Of (term.val_name (110 ∷ []) 0) no_parts) no_parts)) (part (Of (term.number (pos 1)) no_parts) no_parts))) no_parts))) ∷ []); goal = (Of term.all_of no_parts); types = [] }

abbrev pub t_calls_7 : Condition
t_calls_7 = record { hyps = ((Of (term.of_kind term.int_kind) (part (Of (term.val_name (110 ∷ []) 0) no_parts) no_parts)) ∷ (Of term.at_most (part (Of (term.number (negsuc 39614081257132168796771975167)) no_parts) (part (Of term.num (part (Of (term.val_name (110 ∷ []) 0) no_parts) no_parts)) no_parts))) ∷ (Of term.at_most (part (Of term.num (part (Of (term.val_name (110 ∷ []) 0) no_parts) no_parts)) (part (Of (term.number (pos 39614081257132168796771975167)) no_parts) no_parts))) ∷ (Of term.at_most (part (Of (term.number (pos 0)) no_parts) (part (Of term.num (part (Of (term.val_name (110 ∷ []) 0) no_parts) no_parts)) no_parts))) ∷ (Of term.denied (part (Of term.at_most (part (Of (term.number (pos 51)) no_parts) (part (Of term.num (part (Of (term.val_name (110 ∷ []) 0) no_parts) no_parts)) no_parts))) no_parts)) ∷ (Of (term.of_kind term.int_kind) (part (Of (term.val_name (114 ∷ []) 1) no_parts) no_parts)) ∷ (Of term.at_most (part (Of (term.number (negsuc 39614081257132168796771975167)) no_parts) (part (Of term.num (part (Of (term.val_name (114 ∷ []) 1) no_parts) no_parts)) no_parts))) ∷ (Of term.at_most (part (Of term.num (part (Of (term.val_name (114 ∷ []) 1) no_parts) no_parts)) (part (Of (term.number (pos 39614081257132168796771975167)) no_parts) no_parts))) ∷ []); goal = (Of term.at_most (part (Of (term.number (negsuc 39614081257132168796771975167)) no_parts) (part (Of term.add (part (Of term.num (part (Of (term.val_name (110 ∷ []) 0) no_parts) no_parts)) (part (Of (term.number (pos 2)) no_parts) no_parts))) no_parts))); types = [] }

abbrev pub t_calls_8 : Condition
t_calls_8 = record { hyps = ((Of (term.of_kind term.int_kind) (part (Of (term.val_name (110 ∷ []) 0) no_parts) no_parts)) ∷ (Of term.at_most (part (Of (term.number (negsuc 39614081257132168796771975167)) no_parts) (part (Of term.num (part (Of (term.val_name (110 ∷ []) 0) no_parts) no_parts)) no_parts))) ∷ (Of term.at_most (part (Of term.num (part (Of (term.val_name (110 ∷ []) 0) no_parts) no_parts)) (part (Of (term.number (pos 39614081257132168796771975167)) no_parts) no_parts))) ∷ (Of term.at_most (part (Of (term.number (pos 0)) no_parts) (part (Of term.num (part (Of (term.val_name (110 ∷ []) 0) no_parts) no_parts)) no_parts))) ∷ (Of term.denied (part (Of term.at_most (part (Of (term.number (pos 51)) no_parts) (part (Of term.num (part (Of (term.val_name (110 ∷ []) 0) no_parts) no_parts)) no_parts))) no_parts)) ∷ (Of (term.of_kind term.int_kind) (part (Of (term.val_name (114 ∷ []) 1) no_parts) no_parts)) ∷ (Of term.at_most (part (Of (term.number (negsuc 39614081257132168796771975167)) no_parts) (part (Of term.num (part (Of (term.val_name (114 ∷ []) 1) no_parts) no_parts)) no_parts))) ∷ (Of term.at_most (part (Of term.num (part (Of (term.val_name (114 ∷ []) 1) no_parts) no_parts)) (part (Of (term.number (pos 39614081257132168796771975167)) no_parts) no_parts))) ∷ (Of term.at_most (part (Of (term.number (negsuc 39614081257132168796771975167)) no_parts) (part (Of term.add (part (Of term.num (part (Of (term.val_name (110 ∷ []) 0) no_parts) no_parts)) (part (Of (term.number (pos 2)) no_parts) no_parts))) no_parts))) ∷ []); goal = (Of term.at_most (part (Of term.add (part (Of term.num (part (Of (term.val_name (110 ∷ []) 0) no_parts) no_parts)) (part (Of (term.number (pos 2)) no_parts) no_parts))) (part (Of (term.number (pos 39614081257132168796771975167)) no_parts) no_parts))); types = [] }

abbrev pub t_calls_9 : Condition
t_calls_9 = record { hyps = ((Of (term.of_kind term.int_kind) (part (Of (term.val_name (110 ∷ []) 0) no_parts) no_parts)) ∷ (Of term.at_most (part (Of (term.number (negsuc 39614081257132168796771975167)) no_parts) (part (Of term.num (part (Of (term.val_name (110 ∷ []) 0) no_parts) no_parts)) no_parts))) ∷ (Of term.at_most (part (Of term.num (part (Of (term.val_name (110 ∷ []) 0) no_parts) no_parts)) (part (Of (term.number (pos 39614081257132168796771975167)) no_parts) no_parts))) ∷ (Of term.at_most (part (Of (term.number (pos 0)) no_parts) (part (Of term.num (part (Of (term.val_name (110 ∷ []) 0) no_parts) no_parts)) no_parts))) ∷ (Of term.denied (part (Of term.at_most (part (Of (term.number (pos 51)) no_parts) (part (Of term.num (part (Of (term.val_name (110 ∷ []) 0) no_parts) no_parts)) no_parts))) no_parts)) ∷ []); goal = (Of term.all_of (part (Of term.all_of (part (Of (term.of_kind term.int_kind) (part (Of (term.val_name (110 ∷ []) 0) no_parts) no_parts)) (part (Of term.at_most (part (Of (term.number (negsuc 39614081257132168796771975167)) no_parts) (part (Of term.num (part (Of (term.val_name (110 ∷ []) 0) no_parts) no_parts)) no_parts))) (part (Of term.at_most (part (Of term.num (part (Of (term.val_name (110 ∷ []) 0) no_parts) no_parts)) (part (Of (term.number (pos 39614081257132168796771975167)) no_parts) no_parts))) no_parts)))) (part (Of term.at_most (part (Of (term.number (pos 0)) no_parts) (part (Of term.num (part (Of (term.val_name (110 ∷ []) 0) no_parts) no_parts)) no_parts))) no_parts))); types = [] }

abbrev pub t_calls_10 : Condition
t_calls_10 = record { hyps = ((Of (term.of_kind term.int_kind) (part (Of (term.val_name (110 ∷ []) 0) no_parts) no_parts)) ∷ (Of term.at_most (part (Of (term.number (negsuc 39614081257132168796771975167)) no_parts) (part (Of term.num (part (Of (term.val_name (110 ∷ []) 0) no_parts) no_parts)) no_parts))) ∷ (Of term.at_most (part (Of term.num (part (Of (term.val_name (110 ∷ []) 0) no_parts) no_parts)) (part (Of (term.number (pos 39614081257132168796771975167)) no_parts) no_parts))) ∷ (Of term.at_most (part (Of (term.number (pos 0)) no_parts) (part (Of term.num (part (Of (term.val_name (110 ∷ []) 0) no_parts) no_parts)) no_parts))) ∷ (Of term.denied (part (Of term.at_most (part (Of (term.number (pos 51)) no_parts) (part (Of term.num (part (Of (term.val_name (110 ∷ []) 0) no_parts) no_parts)) no_parts))) no_parts)) ∷ (Of (term.of_kind term.int_kind) (part (Of (term.val_name (110 ∷ []) 0) no_parts) no_parts)) ∷ (Of term.at_most (part (Of (term.number (negsuc 39614081257132168796771975167)) no_parts) (part (Of term.num (part (Of (term.val_name (110 ∷ []) 0) no_parts) no_parts)) no_parts))) ∷ (Of term.at_most (part (Of term.num (part (Of (term.val_name (110 ∷ []) 0) no_parts) no_parts)) (part (Of (term.number (pos 39614081257132168796771975167)) no_parts) no_parts))) ∷ (Of term.at_most (part (Of (term.number (pos 0)) no_parts) (part (Of term.num (part (Of (term.val_name (110 ∷ []) 0) no_parts) no_parts)) no_parts))) ∷ []); goal = (Of term.denied (part (Of term.at_most (part (Of (term.number (pos 52)) no_parts) (part (Of term.num (part (Of (term.val_name (110 ∷ []) 0) no_parts) no_parts)) no_parts))) no_parts)); types = [] }

abbrev pub t_calls_11 : Condition
t_calls_11 = record { hyps = ((Of (term.of_kind term.int_kind) (part (Of (term.val_name (110 ∷ []) 0) no_parts) no_parts)) ∷ (Of term.at_most (part (Of (term.number (negsuc 39614081257132168796771975167)) no_parts) (part (Of term.num (part (Of (term.val_name (110 ∷ []) 0) no_parts) no_parts)) no_parts))) ∷ (Of term.at_most (part (Of term.num (part (Of (term.val_name (110 ∷ []) 0) no_parts) no_parts)) (part (Of (term.number (pos 39614081257132168796771975167)) no_parts) no_parts))) ∷ (Of term.at_most (part (Of (term.number (pos 0)) no_parts) (part (Of term.num (part (Of (term.val_name (110 ∷ []) 0) no_parts) no_parts)) no_parts))) ∷ (Of term.denied (part (Of term.at_most (part (Of (term.number (pos 51)) no_parts) (part (Of term.num (part (Of (term.val_name (110 ∷ []) 0) no_parts) no_parts)) no_parts))) no_parts)) ∷ (Of (term.of_kind term.int_kind) (part (Of (term.val_name (110 ∷ []) 0) no_parts) no_parts)) ∷ (Of term.at_most (part (Of (term.number (negsuc 39614081257132168796771975167)) no_parts) (part (Of term.num (part (Of (term.val_name (110 ∷ []) 0) no_parts) no_parts)) no_parts))) ∷ (Of term.at_most (part (Of term.num (part (Of (term.val_name (110 ∷ []) 0) no_parts) no_parts)) (part (Of (term.number (pos 39614081257132168796771975167)) no_parts) no_parts))) ∷ (Of term.at_most (part (Of (term.number (pos 0)) no_parts) (part (Of term.num (part (Of (term.val_name (110 ∷ []) 0) no_parts) no_parts)) no_parts))) ∷ (Of term.denied (part (Of term.at_most (part (Of (term.number (pos 52)) no_parts) (part (Of term.num (part (Of (term.val_name (110 ∷ []) 0) no_parts) no_parts)) no_parts))) no_parts)) ∷ (Of (term.of_kind term.int_kind) (part (Of (term.val_name (105 ∷ 110 ∷ 99 ∷ []) 1) no_parts) no_parts)) ∷ (Of term.at_most (part (Of (term.number (negsuc 39614081257132168796771975167)) no_parts) (part (Of term.num (part (Of (term.val_name (105 ∷ 110 ∷ 99 ∷ []) 1) no_parts) no_parts)) no_parts))) ∷ (Of term.at_most (part (Of term.num (part (Of (term.val_name (105 ∷ 110 ∷ 99 ∷ []) 1) no_parts) no_parts)) (part (Of (term.number (pos 39614081257132168796771975167)) no_parts) no_parts))) ∷ (Of term.at_most (part (Of (term.number (pos 0)) no_parts) (part (Of term.num (part (Of (term.val_name (105 ∷ 110 ∷ 99 ∷ []) 1) no_parts) no_parts)) no_parts))) ∷ (Of term.at_most (part (Of term.num (part (Of (term.val_name (105 ∷ 110 ∷ 99 ∷ []) 1) no_parts) no_parts)) (part (Of term.add (part (Of term.num (part (Of (term.val_name (110 ∷ []) 0) no_parts) no_parts)) (part (Of (term.number (pos 1)) no_parts) no_parts))) no_parts))) ∷ (Of term.at_most (part (Of term.add (part (Of term.num (part (Of (term.val_name (110 ∷ []) 0) no_parts) no_parts)) (part (Of (term.number (pos 1)) no_parts) no_parts))) (part (Of term.num (part (Of (term.val_name (105 ∷ 110 ∷ 99 ∷ []) 1) no_parts) no_parts)) no_parts))) ∷ []); goal = (Of term.all_of (part (Of term.all_of (part (Of (term.of_kind term.int_kind) (part (Of (term.val_name (105 ∷ 110 ∷ 99 ∷ []) 1) no_parts) no_parts)) (part (Of term.at_most (part (Of (term.number (negsuc 39614081257132168796771975167)) no_parts) (part (Of term.num (part (Of (term.val_name (105 ∷ 110 ∷ 99 ∷ []) 1) no_parts) no_parts)) no_parts))) (part (Of term.at_most (part (Of term.num (part (Of (term.val_name (105 ∷ 110 ∷ 99 ∷ []) 1) no_parts) no_parts)) (part (Of (term.number (pos 39614081257132168796771975167)) no_parts) no_parts))) no_parts)))) (part (Of term.at_most (part (Of (term.number (pos 0)) no_parts) (part (Of term.num (part (Of (term.val_name (105 ∷ 110 ∷ 99 ∷ []) 1) no_parts) no_parts)) no_parts))) no_parts))); types = [] }

abbrev pub t_calls_12 : Condition
t_calls_12 = record { hyps = ((Of (term.of_kind term.int_kind) (part (Of (term.val_name (110 ∷ []) 0) no_parts) no_parts)) ∷ (Of term.at_most (part (Of (term.number (negsuc 39614081257132168796771975167)) no_parts) (part (Of term.num (part (Of (term.val_name (110 ∷ []) 0) no_parts) no_parts)) no_parts))) ∷ (Of term.at_most (part (Of term.num (part (Of (term.val_name (110 ∷ []) 0) no_parts) no_parts)) (part (Of (term.number (pos 39614081257132168796771975167)) no_parts) no_parts))) ∷ (Of term.at_most (part (Of (term.number (pos 0)) no_parts) (part (Of term.num (part (Of (term.val_name (110 ∷ []) 0) no_parts) no_parts)) no_parts))) ∷ (Of term.denied (part (Of term.at_most (part (Of (term.number (pos 51)) no_parts) (part (Of term.num (part (Of (term.val_name (110 ∷ []) 0) no_parts) no_parts)) no_parts))) no_parts)) ∷ (Of (term.of_kind term.int_kind) (part (Of (term.val_name (110 ∷ []) 0) no_parts) no_parts)) ∷ (Of term.at_most (part (Of (term.number (negsuc 39614081257132168796771975167)) no_parts) (part (Of term.num (part (Of (term.val_name (110 ∷ []) 0) no_parts) no_parts)) no_parts))) ∷ (Of term.at_most (part (Of term.num (part (Of (term.val_name (110 ∷ []) 0) no_parts) no_parts)) (part (Of (term.number (pos 39614081257132168796771975167)) no_parts) no_parts))) ∷ (Of term.at_most (part (Of (term.number (pos 0)) no_parts) (part (Of term.num (part (Of (term.val_name (110 ∷ []) 0) no_parts) no_parts)) no_parts))) ∷ (Of term.denied (part (Of term.at_most (part (Of (term.number (pos 52)) no_parts) (part (Of term.num (part (Of (term.val_name (110 ∷ []) 0) no_parts) no_parts)) no_parts))) no_parts)) ∷ (Of (term.of_kind term.int_kind) (part (Of (term.val_name (105 ∷ 110 ∷ 99 ∷ []) 1) no_parts) no_parts)) ∷ (Of term.at_most (part (Of (term.number (negsuc 39614081257132168796771975167)) no_parts) (part (Of term.num (part (Of (term.val_name (105 ∷ 110 ∷ 99 ∷ []) 1) no_parts) no_parts)) no_parts))) ∷ (Of term.at_most (part (Of term.num (part (Of (term.val_name (105 ∷ 110 ∷ 99 ∷ []) 1) no_parts) no_parts)) (part (Of (term.number (pos 39614081257132168796771975167)) no_parts) no_parts))) ∷ (Of term.at_most (part (Of (term.number (pos 0)) no_parts) (part (Of term.num (part (Of (term.val_name (105 ∷ 110 ∷ 99 ∷ []) 1) no_parts) no_parts)) no_parts))) ∷ (Of term.at_most (part (Of term.num (part (Of (term.val_name (105 ∷ 110 ∷ 99 ∷ []) 1) no_parts) no_parts)) (part (Of term.add (part (Of term.num (part (Of (term.val_name (110 ∷ []) 0) no_parts) no_parts)) (part (Of (term.number (pos 1)) no_parts) no_parts))) no_parts))) ∷ (Of term.at_most (part (Of term.add (part (Of term.num (part (Of (term.val_name (110 ∷ []) 0) no_parts) no_parts)) (part (Of (term.number (pos 1)) no_parts) no_parts))) (part (Of term.num (part (Of (term.val_name (105 ∷ 110 ∷ 99 ∷ []) 1) no_parts) no_parts)) no_parts))) ∷ (Of (term.of_kind term.int_kind) (part (Of (term.val_name (105 ∷ 110 ∷ 99 ∷ []) 1) no_parts) no_parts)) ∷ (Of term.at_most (part (Of (term.number (negsuc 39614081257132168796771975167)) no_parts) (part (Of term.num (part (Of (term.val_name (105 ∷ 110 ∷ 99 ∷ []) 1) no_parts) no_parts)) no_parts))) ∷ (Of term.at_most (part (Of term.num (part (Of (term.val_name (105 ∷ 110 ∷ 99 ∷ []) 1) no_parts) no_parts)) (part (Of (term.number (pos 39614081257132168796771975167)) no_parts) no_parts))) ∷ (Of term.at_most (part (Of (term.number (pos 0)) no_parts) (part (Of term.num (part (Of (term.val_name (105 ∷ 110 ∷ 99 ∷ []) 1) no_parts) no_parts)) no_parts))) ∷ []); goal = (Of term.all_of (part (Of term.all_of (part (Of (term.of_kind term.int_kind) (part (Of (term.val_name (105 ∷ 110 ∷ 99 ∷ []) 1) no_parts) no_parts)) (part (Of term.at_most (part (Of (term.number (negsuc 39614081257132168796771975167)) no_parts) (part (Of term.num (part (Of (term.val_name (105 ∷ 110 ∷ 99 ∷ []) 1) no_parts) no_parts)) no_parts))) (part (Of term.at_most (part (Of term.num (part (Of (term.val_name (105 ∷ 110 ∷ 99 ∷ []) 1) no_parts) no_parts)) (part (Of (term.number (pos 39614081257132168796771975167)) no_parts) no_parts))) no_parts)))) (part (Of term.at_most (part (Of (term.number (pos 0)) no_parts) (part (Of term.num (part (Of (term.val_name (105 ∷ 110 ∷ 99 ∷ []) 1) no_parts) no_parts)) no_parts))) no_parts))); types = [] }

abbrev pub t_calls_13 : Condition
t_calls_13 = record { hyps = ((Of (term.of_kind term.int_kind) (part (Of (term.val_name (110 ∷ []) 0) no_parts) no_parts)) ∷ (Of term.at_most (part (Of (term.number (negsuc 39614081257132168796771975167)) no_parts) (part (Of term.num (part (Of (term.val_name (110 ∷ []) 0) no_parts) no_parts)) no_parts))) ∷ (Of term.at_most (part (Of term.num (part (Of (term.val_name (110 ∷ []) 0) no_parts) no_parts)) (part (Of (term.number (pos 39614081257132168796771975167)) no_parts) no_parts))) ∷ (Of term.at_most (part (Of (term.number (pos 0)) no_parts) (part (Of term.num (part (Of (term.val_name (110 ∷ []) 0) no_parts) no_parts)) no_parts))) ∷ (Of term.denied (part (Of term.at_most (part (Of (term.number (pos 51)) no_parts) (part (Of term.num (part (Of (term.val_name (110 ∷ []) 0) no_parts) no_parts)) no_parts))) no_parts)) ∷ (Of (term.of_kind term.int_kind) (part (Of (term.val_name (110 ∷ []) 0) no_parts) no_parts)) ∷ (Of term.at_most (part (Of (term.number (negsuc 39614081257132168796771975167)) no_parts) (part (Of term.num (part (Of (term.val_name (110 ∷ []) 0) no_parts) no_parts)) no_parts))) ∷ (Of term.at_most (part (Of term.num (part (Of (term.val_name (110 ∷ []) 0) no_parts) no_parts)) (part (Of (term.number (pos 39614081257132168796771975167)) no_parts) no_parts))) ∷ (Of term.at_most (part (Of (term.number (pos 0)) no_parts) (part (Of term.num (part (Of (term.val_name (110 ∷ []) 0) no_parts) no_parts)) no_parts))) ∷ (Of term.denied (part (Of term.at_most (part (Of (term.number (pos 52)) no_parts) (part (Of term.num (part (Of (term.val_name (110 ∷ []) 0) no_parts) no_parts)) no_parts))) no_parts)) ∷ (Of (term.of_kind term.int_kind) (part (Of (term.val_name (105 ∷ 110 ∷ 99 ∷ []) 1) no_parts) no_parts)) ∷ (Of term.at_most (part (Of (term.number (negsuc 39614081257132168796771975167)) no_parts) (part (Of term.num (part (Of (term.val_name (105 ∷ 110 ∷ 99 ∷ []) 1) no_parts) no_parts)) no_parts))) ∷ (Of term.at_most (part (Of term.num (part (Of (term.val_name (105 ∷ 110 ∷ 99 ∷ []) 1) no_parts) no_parts)) (part (Of (term.number (pos 39614081257132168796771975167)) no_parts) no_parts))) ∷ (Of term.at_most (part (Of (term.number (pos 0)) no_parts) (part (Of term.num (part (Of (term.val_name (105 ∷ 110 ∷ 99 ∷ []) 1) no_parts) no_parts)) no_parts))) ∷ (Of term.at_most (part (Of term.num (part (Of (term.val_name (105 ∷ 110 ∷ 99 ∷ []) 1) no_parts) no_parts)) (part (Of term.add (part (Of term.num (part (Of (term.val_name (110 ∷ []) 0) no_parts) no_parts)) (part (Of (term.number (pos 1)) no_parts) no_parts))) no_parts))) ∷ (Of term.at_most (part (Of term.add (part (Of term.num (part (Of (term.val_name (110 ∷ []) 0) no_parts) no_parts)) (part (Of (term.number (pos 1)) no_parts) no_parts))) (part (Of term.num (part (Of (term.val_name (105 ∷ 110 ∷ 99 ∷ []) 1) no_parts) no_parts)) no_parts))) ∷ (Of (term.of_kind term.int_kind) (part (Of (term.val_name (105 ∷ 110 ∷ 99 ∷ []) 1) no_parts) no_parts)) ∷ (Of term.at_most (part (Of (term.number (negsuc 39614081257132168796771975167)) no_parts) (part (Of term.num (part (Of (term.val_name (105 ∷ 110 ∷ 99 ∷ []) 1) no_parts) no_parts)) no_parts))) ∷ (Of term.at_most (part (Of term.num (part (Of (term.val_name (105 ∷ 110 ∷ 99 ∷ []) 1) no_parts) no_parts)) (part (Of (term.number (pos 39614081257132168796771975167)) no_parts) no_parts))) ∷ (Of term.at_most (part (Of (term.number (pos 0)) no_parts) (part (Of term.num (part (Of (term.val_name (105 ∷ 110 ∷ 99 ∷ []) 1) no_parts) no_parts)) no_parts))) ∷ (Of (term.of_kind term.int_kind) (part (Of (term.val_name (105 ∷ 110 ∷ 99 ∷ []) 1) no_parts) no_parts)) ∷ (Of term.at_most (part (Of (term.number (negsuc 39614081257132168796771975167)) no_parts) (part (Of term.num (part (Of (term.val_name (105 ∷ 110 ∷ 99 ∷ []) 1) no_parts) no_parts)) no_parts))) ∷ (Of term.at_most (part (Of term.num (part (Of (term.val_name (105 ∷ 110 ∷ 99 ∷ []) 1) no_parts) no_parts)) (part (Of (term.number (pos 39614081257132168796771975167)) no_parts) no_parts))) ∷ (Of term.at_most (part (Of (term.number (pos 0)) no_parts) (part (Of term.num (part (Of (term.val_name (105 ∷ 110 ∷ 99 ∷ []) 1) no_parts) no_parts)) no_parts))) ∷ []); goal = (Of term.denied (part (Of term.at_most (part (Of (term.number (pos 52)) no_parts) (part (Of term.num (part (Of (term.val_name (105 ∷ 110 ∷ 99 ∷ []) 1) no_parts) no_parts)) no_parts))) no_parts)); types = [] }

abbrev pub t_calls_14 : Condition
t_calls_14 = record { hyps = ((Of (term.of_kind term.int_kind) (part (Of (term.val_name (110 ∷ []) 0) no_parts) no_parts)) ∷ (Of term.at_most (part (Of (term.number (negsuc 39614081257132168796771975167)) no_parts) (part (Of term.num (part (Of (term.val_name (110 ∷ []) 0) no_parts) no_parts)) no_parts))) ∷ (Of term.at_most (part (Of term.num (part (Of (term.val_name (110 ∷ []) 0) no_parts) no_parts)) (part (Of (term.number (pos 39614081257132168796771975167)) no_parts) no_parts))) ∷ (Of term.at_most (part (Of (term.number (pos 0)) no_parts) (part (Of term.num (part (Of (term.val_name (110 ∷ []) 0) no_parts) no_parts)) no_parts))) ∷ (Of term.denied (part (Of term.at_most (part (Of (term.number (pos 51)) no_parts) (part (Of term.num (part (Of (term.val_name (110 ∷ []) 0) no_parts) no_parts)) no_parts))) no_parts)) ∷ (Of (term.of_kind term.int_kind) (part (Of (term.val_name (110 ∷ []) 0) no_parts) no_parts)) ∷ (Of term.at_most (part (Of (term.number (negsuc 39614081257132168796771975167)) no_parts) (part (Of term.num (part (Of (term.val_name (110 ∷ []) 0) no_parts) no_parts)) no_parts))) ∷ (Of term.at_most (part (Of term.num (part (Of (term.val_name (110 ∷ []) 0) no_parts) no_parts)) (part (Of (term.number (pos 39614081257132168796771975167)) no_parts) no_parts))) ∷ (Of term.at_most (part (Of (term.number (pos 0)) no_parts) (part (Of term.num (part (Of (term.val_name (110 ∷ []) 0) no_parts) no_parts)) no_parts))) ∷ (Of term.denied (part (Of term.at_most (part (Of (term.number (pos 52)) no_parts) (part (Of term.num (part (Of (term.val_name (110 ∷ []) 0) no_parts) no_parts)) no_parts))) no_parts)) ∷ (Of (term.of_kind term.int_kind) (part (Of (term.val_name (105 ∷ 110 ∷ 99 ∷ []) 1) no_parts) no_parts)) ∷ (Of term.at_most (part (Of (term.number (negsuc 39614081257132168796771975167)) no_parts) (part (Of term.num (part (Of (term.val_name (105 ∷ 110 ∷ 99 ∷ []) 1) no_parts) no_parts)) no_parts))) ∷ (Of term.at_most (part (Of term.num (part (Of (term.val_name (105 ∷ 110 ∷ 99 ∷ []) 1) no_parts) no_parts)) (part (Of (term.number (pos 39614081257132168796771975167)) no_parts) no_parts))) ∷ (Of term.at_most (part (Of (term.number (pos 0)) no_parts) (part (Of term.num (part (Of (term.val_name (105 ∷ 110 ∷ 99 ∷ []) 1) no_parts) no_parts)) no_parts))) ∷ (Of term.at_most (part (Of term.num (part (Of (term.val_name (105 ∷ 110 ∷ 99 ∷ []) 1) no_parts) no_parts)) (part (Of term.add (part (Of term.num (part (Of (term.val_name (110 ∷ []) 0) no_parts) no_parts)) (part (Of (term.number (pos 1)) no_parts) no_parts))) no_parts))) ∷ (Of term.at_most (part (Of term.add (part (Of term.num (part (Of (term.val_name (110 ∷ []) 0) no_parts) no_parts)) (part (Of (term.number (pos 1)) no_parts) no_parts))) (part (Of term.num (part (Of (term.val_name (105 ∷ 110 ∷ 99 ∷ []) 1) no_parts) no_parts)) no_parts))) ∷ (Of (term.of_kind term.int_kind) (part (Of (term.val_name (105 ∷ 110 ∷ 99 ∷ []) 1) no_parts) no_parts)) ∷ (Of term.at_most (part (Of (term.number (negsuc 39614081257132168796771975167)) no_parts) (part (Of term.num (part (Of (term.val_name (105 ∷ 110 ∷ 99 ∷ []) 1) no_parts) no_parts)) no_parts))) ∷ (Of term.at_most (part (Of term.num (part (Of (term.val_name (105 ∷ 110 ∷ 99 ∷ []) 1) no_parts) no_parts)) (part (Of (term.number (pos 39614081257132168796771975167)) no_parts) no_parts))) ∷ (Of term.at_most (part (Of (term.number (pos 0)) no_parts) (part (Of term.num (part (Of (term.val_name (105 ∷ 110 ∷ 99 ∷ []) 1) no_parts) no_parts)) no_parts))) ∷ (Of (term.of_kind term.int_kind) (part (Of (term.val_name (105 ∷ 110 ∷ 99 ∷ []) 1) no_parts) no_parts)) ∷ (Of term.at_most (part (Of (term.number (negsuc 39614081257132168796771975167)) no_parts) (part (Of term.num (part (Of (term.val_name (105 ∷ 110 ∷ 99 ∷ []) 1) no_parts) no_parts)) no_parts))) ∷ (Of term.at_most (part (Of term.num (part (Of (term.val_name (105 ∷ 110 ∷ 99 ∷ []) 1) no_parts) no_parts)) (part (Of (term.number (pos 39614081257132168796771975167)) no_parts) no_parts))) ∷ (Of term.at_most (part (Of (term.number (pos 0)) no_parts) (part (Of term.num (part (Of (term.val_name (105 ∷ 110 ∷ 99 ∷ []) 1) no_parts) no_parts)) no_parts))) ∷ (Of term.denied (part (Of term.at_most (part (Of (term.number (pos 52)) no_parts) (part (Of term.num (part (Of (term.val_name (105 ∷ 110 ∷ 99 ∷ []) 1) no_parts) no_parts)) no_parts))) no_parts)) ∷ (Of (term.of_kind term.int_kind) (part (Of (term.val_name (105 ∷ 110 ∷ 99 ∷ []) 2) no_parts) no_parts)) ∷ (Of term.at_most (part (Of (term.number (negsuc 39614081257132168796771975167)) no_parts) (part (Of term.num (part (Of (term.val_name (105 ∷ 110 ∷ 99 ∷ []) 2) no_parts) no_parts)) no_parts))) ∷ (Of term.at_most (part (Of term.num (part (Of (term.val_name (105 ∷ 110 ∷ 99 ∷ []) 2) no_parts) no_parts)) (part (Of (term.number (pos 39614081257132168796771975167)) no_parts) no_parts))) ∷ (Of term.at_most (part (Of (term.number (pos 0)) no_parts) (part (Of term.num (part (Of (term.val_name (105 ∷ 110 ∷ 99 ∷ []) 2) no_parts) no_parts)) no_parts))) ∷ (Of term.at_most (part (Of term.num (part (Of (term.val_name (105 ∷ 110 ∷ 99 ∷ []) 2) no_parts) no_parts)) (part (Of term.add (part (Of term.num (part (Of (term.val_name (105 ∷ 110 ∷ 99 ∷ []) 1) no_parts) no_parts)) (part (Of (term.number (pos 1)) no_parts) no_parts))) no_parts))) ∷ (Of term.at_most (part (Of term.add (part (Of term.num (part (Of (term.val_name (105 ∷ 110 ∷ 99 ∷ []) 1) no_parts) no_parts)) (part (Of (term.number (pos 1)) no_parts) no_parts))) (part (Of term.num (part (Of (term.val_name (105 ∷ 110 ∷ 99 ∷ []) 2) no_parts) no_parts)) no_parts))) ∷ []); goal = (Of term.all_of (part (Of term.all_of (part (Of (term.of_kind term.int_kind) (part (Of (term.val_name (105 ∷ 110 ∷ 99 ∷ []) 2) no_parts) no_parts)) (part (Of term.at_most (part (Of (term.number (negsuc 39614081257132168796771975167)) no_parts) (part (Of term.num (part (Of (term.val_name (105 ∷ 110 ∷ 99 ∷ []) 2) no_parts) no_parts)) no_parts))) (part (Of term.at_most (part (Of term.num (part (Of (term.val_name (105 ∷ 110 ∷ 99 ∷ []) 2) no_parts) no_parts)) (part (Of (term.number (pos 39614081257132168796771975167)) no_parts) no_parts))) no_parts)))) (part (Of term.at_most (part (Of (term.number (pos 0)) no_parts) (part (Of term.num (part (Of (term.val_name (105 ∷ 110 ∷ 99 ∷ []) 2) no_parts) no_parts)) no_parts))) no_parts))); types = [] }

abbrev pub t_calls_15 : Condition
t_calls_15 = record { hyps = ((Of (term.of_kind term.int_kind) (part (Of (term.val_name (110 ∷ []) 0) no_parts) no_parts)) ∷ (Of term.at_most (part (Of (term.number (negsuc 39614081257132168796771975167)) no_parts) (part (Of term.num (part (Of (term.val_name (110 ∷ []) 0) no_parts) no_parts)) no_parts))) ∷ (Of term.at_most (part (Of term.num (part (Of (term.val_name (110 ∷ []) 0) no_parts) no_parts)) (part (Of (term.number (pos 39614081257132168796771975167)) no_parts) no_parts))) ∷ (Of term.at_most (part (Of (term.number (pos 0)) no_parts) (part (Of term.num (part (Of (term.val_name (110 ∷ []) 0) no_parts) no_parts)) no_parts))) ∷ (Of term.denied (part (Of term.at_most (part (Of (term.number (pos 51)) no_parts) (part (Of term.num (part (Of (term.val_name (110 ∷ []) 0) no_parts) no_parts)) no_parts))) no_parts)) ∷ (Of (term.of_kind term.int_kind) (part (Of (term.val_name (110 ∷ []) 0) no_parts) no_parts)) ∷ (Of term.at_most (part (Of (term.number (negsuc 39614081257132168796771975167)) no_parts) (part (Of term.num (part (Of (term.val_name (110 ∷ []) 0) no_parts) no_parts)) no_parts))) ∷ (Of term.at_most (part (Of term.num (part (Of (term.val_name (110 ∷ []) 0) no_parts) no_parts)) (part (Of (term.number (pos 39614081257132168796771975167)) no_parts) no_parts))) ∷ (Of term.at_most (part (Of (term.number (pos 0)) no_parts) (part (Of term.num (part (Of (term.val_name (110 ∷ []) 0) no_parts) no_parts)) no_parts))) ∷ (Of term.denied (part (Of term.at_most (part (Of (term.number (pos 52)) no_parts) (part (Of term.num (part (Of (term.val_name (110 ∷ []) 0) no_parts) no_parts)) no_parts))) no_parts)) ∷ (Of (term.of_kind term.int_kind) (part (Of (term.val_name (105 ∷ 110 ∷ 99 ∷ []) 1) no_parts) no_parts)) ∷ (Of term.at_most (part (Of (term.number (negsuc 39614081257132168796771975167)) no_parts) (part (Of term.num (part (Of (term.val_name (105 ∷ 110 ∷ 99 ∷ []) 1) no_parts) no_parts)) no_parts))) ∷ (Of term.at_most (part (Of term.num (part (Of (term.val_name (105 ∷ 110 ∷ 99 ∷ []) 1) no_parts) no_parts)) (part (Of (term.number (pos 39614081257132168796771975167)) no_parts) no_parts))) ∷ (Of term.at_most (part (Of (term.number (pos 0)) no_parts) (part (Of term.num (part (Of (term.val_name (105 ∷ 110 ∷ 99 ∷ []) 1) no_parts) no_parts)) no_parts))) ∷ (Of term.at_most (part (Of term.num (part (Of (term.val_name (105 ∷ 110 ∷ 99 ∷ []) 1) no_parts) no_parts)) (part (Of term.add (part (Of term.num (part (Of (term.val_name (110 ∷ []) 0) no_parts) no_parts)) (part (Of (term.number (pos 1)) no_parts) no_parts))) no_parts))) ∷ (Of term.at_most (part (Of term.add (part (Of term.num (part (Of (term.val_name (110 ∷ []) 0) no_parts) no_parts)) (part (Of (term.number (pos 1)) no_parts) no_parts))) (part (Of term.num (part (Of (term.val_name (105 ∷ 110 ∷ 99 ∷ []) 1) no_parts) no_parts)) no_parts))) ∷ (Of (term.of_kind term.int_kind) (part (Of (term.val_name (105 ∷ 110 ∷ 99 ∷ []) 1) no_parts) no_parts)) ∷ (Of term.at_most (part (Of (term.number (negsuc 39614081257132168796771975167)) no_parts) (part (Of term.num (part (Of (term.val_name (105 ∷ 110 ∷ 99 ∷ []) 1) no_parts) no_parts)) no_parts))) ∷ (Of term.at_most (part (Of term.num (part (Of (term.val_name (105 ∷ 110 ∷ 99 ∷ []) 1) no_parts) no_parts)) (part (Of (term.number (pos 39614081257132168796771975167)) no_parts) no_parts))) ∷ (Of term.at_most (part (Of (term.number (pos 0)) no_parts) (part (Of term.num (part (Of (term.val_name (105 ∷ 110 ∷ 99 ∷ []) 1) no_parts) no_parts)) no_parts))) ∷ (Of (term.of_kind term.int_kind) (part (Of (term.val_name (105 ∷ 110 ∷ 99 ∷ []) 1) no_parts) no_parts)) ∷ (Of term.at_most (part (Of (term.number (negsuc 39614081257132168796771975167)) no_parts) (part (Of term.num (part (Of (term.val_name (105 ∷ 110 ∷ 99 ∷ []) 1) no_parts) no_parts)) no_parts))) ∷ (Of term.at_most (part (Of term.num (part (Of (term.val_name (105 ∷ 110 ∷ 99 ∷ []) 1) no_parts) no_parts)) (part (Of (term.number (pos 39614081257132168796771975167)) no_parts) no_parts))) ∷ (Of term.at_most (part (Of (term.number (pos 0)) no_parts) (part (Of term.num (part (Of (term.val_name (105 ∷ 110 ∷ 99 ∷ []) 1) no_parts) no_parts)) no_parts))) ∷ (Of term.denied (part (Of term.at_most (part (Of (term.number (pos 52)) no_parts) (part (Of term.num (part (Of (term.val_name (105 ∷ 110 ∷ 99 ∷ []) 1) no_parts) no_parts)) no_parts))) no_parts)) ∷ (Of (term.of_kind term.int_kind) (part (Of (term.val_name (105 ∷ 110 ∷ 99 ∷ []) 2) no_parts) no_parts)) ∷ (Of term.at_most (part (Of (term.number (negsuc 39614081257132168796771975167)) no_parts) (part (Of term.num (part (Of (term.val_name (105 ∷ 110 ∷ 99 ∷ []) 2) no_parts) no_parts)) no_parts))) ∷ (Of term.at_most (part (Of term.num (part (Of (term.val_name (105 ∷ 110 ∷ 99 ∷ []) 2) no_parts) no_parts)) (part (Of (term.number (pos 39614081257132168796771975167)) no_parts) no_parts))) ∷ (Of term.at_most (part (Of (term.number (pos 0)) no_parts) (part (Of term.num (part (Of (term.val_name (105 ∷ 110 ∷ 99 ∷ []) 2) no_parts) no_parts)) no_parts))) ∷ (Of term.at_most (part (Of term.num (part (Of (term.val_name (105 ∷ 110 ∷ 99 ∷ []) 2) no_parts) no_parts)) (part (Of term.add (part (Of term.num (part (Of (term.val_name (105 ∷ 110 ∷ 99 ∷ []) 1) no_parts) no_parts)) (part (Of (term.number (pos 1)) no_parts) no_parts))) no_parts))) ∷ (Of term.at_most (part (Of term.add (part (Of term.num (part (Of (term.val_name (105 ∷ 110 ∷ 99 ∷ []) 1) no_parts) no_parts)) (part (Of (term.number (pos 1)) no_parts) no_parts))) (part (Of term.num (part (Of (term.val_name (105 ∷ 110 ∷ 99 ∷ []) 2) no_parts) no_parts)) no_parts))) ∷ (Of (term.of_kind term.int_kind) (part (Of (term.val_name (105 ∷ 110 ∷ 99 ∷ []) 2) no_parts) no_parts)) ∷ (Of term.at_most (part (Of (term.number (negsuc 39614081257132168796771975167)) no_parts) (part (Of term.num (part (Of (term.val_name (105 ∷ 110 ∷ 99 ∷ []) 2) no_parts) no_parts)) no_parts))) ∷ (Of term.at_most (part (Of term.num (part (Of (term.val_name (105 ∷ 110 ∷ 99 ∷ []) 2) no_parts) no_parts)) (part (Of (term.number (pos 39614081257132168796771975167)) no_parts) no_parts))) ∷ (Of term.at_most (part (Of (term.number (pos 0)) no_parts) (part (Of term.num (part (Of (term.val_name (105 ∷ 110 ∷ 99 ∷ []) 2) no_parts) no_parts)) no_parts))) ∷ []); goal = (Of term.all_of (part (Of term.at_most (part (Of term.num (part (Of (term.val_name (105 ∷ 110 ∷ 99 ∷ []) 2) no_parts) no_parts)) (part (Of term.add (part (Of term.num (part (Of (term.val_name (110 ∷ []) 0) no_parts) no_parts)) (part (Of (term.number (pos 2)) no_parts) no_parts))) no_parts))) (part (Of term.at_most (part (Of term.add (part (Of term.num (part (Of (term.val_name (110 ∷ []) 0) no_parts) no_parts)) (part (Of (term.number (pos 2)) no_parts) no_parts))) (part (Of term.num (part (Of (term.val_name (105 ∷ 110 ∷ 99 ∷ []) 2) no_parts) no_parts)) no_parts))) no_parts))); types = [] }

abbrev pub t_calls_16 : Condition
t_calls_16 = record { hyps = ((Of (term.of_kind term.int_kind) (part (Of (term.val_name (110 ∷ []) 0) no_parts) no_parts)) ∷ (Of term.at_most (part (Of (term.number (negsuc 39614081257132168796771975167)) no_parts) (part (Of term.num (part (Of (term.val_name (110 ∷ []) 0) no_parts) no_parts)) no_parts))) ∷ (Of term.at_most (part (Of term.num (part (Of (term.val_name (110 ∷ []) 0) no_parts) no_parts)) (part (Of (term.number (pos 39614081257132168796771975167)) no_parts) no_parts))) ∷ (Of term.at_most (part (Of (term.number (pos 0)) no_parts) (part (Of term.num (part (Of (term.val_name (110 ∷ []) 0) no_parts) no_parts)) no_parts))) ∷ (Of term.denied (part (Of term.at_most (part (Of (term.number (pos 51)) no_parts) (part (Of term.num (part (Of (term.val_name (110 ∷ []) 0) no_parts) no_parts)) no_parts))) no_parts)) ∷ []); goal = (Of term.at_most (part (Of (term.number (pos 0)) no_parts) (part (Of term.num (part (Of (term.val_name (110 ∷ []) 0) no_parts) no_parts)) no_parts))); types = [] }

abbrev pub t_calls_17 : Condition
t_calls_17 = record { hyps = ((Of (term.of_kind term.int_kind) (part (Of (term.val_name (110 ∷ []) 0) no_parts) no_parts)) ∷ (Of term.at_most (part (Of (term.number (negsuc 39614081257132168796771975167)) no_parts) (part (Of term.num (part (Of (term.val_name (110 ∷ []) 0) no_parts) no_parts)) no_parts))) ∷ (Of term.at_most (part (Of term.num (part (Of (term.val_name (110 ∷ []) 0) no_parts) no_parts)) (part (Of (term.number (pos 39614081257132168796771975167)) no_parts) no_parts))) ∷ (Of term.at_most (part (Of (term.number (pos 0)) no_parts) (part (Of term.num (part (Of (term.val_name (110 ∷ []) 0) no_parts) no_parts)) no_parts))) ∷ (Of term.denied (part (Of term.at_most (part (Of (term.number (pos 51)) no_parts) (part (Of term.num (part (Of (term.val_name (110 ∷ []) 0) no_parts) no_parts)) no_parts))) no_parts)) ∷ (Of term.at_most (part (Of (term.number (pos 0)) no_parts) (part (Of term.num (part (Of (term.val_name (110 ∷ []) 0) no_parts) no_parts)) no_parts))) ∷ []); goal = (Of term.denied (part (Of term.at_most (part (Of (term.number (pos 51)) no_parts) (part (Of term.num (part (Of (term.val_name (110 ∷ []) 0) no_parts) no_parts)) no_parts))) no_parts)); types = [] }

abbrev pub t_calls_18 : Condition
t_calls_18 = record { hyps = ((Of (term.of_kind term.int_kind) (part (Of (term.val_name (110 ∷ []) 0) no_parts) no_parts)) ∷ (Of term.at_most (part (Of (term.number (negsuc 39614081257132168796771975167)) no_parts) (part (Of term.num (part (Of (term.val_name (110 ∷ []) 0) no_parts) no_parts)) no_parts))) ∷ (Of term.at_most (part (Of term.num (part (Of (term.val_name (110 ∷ []) 0) no_parts) no_parts)) (part (Of (term.number (pos 39614081257132168796771975167)) no_parts) no_parts))) ∷ (Of term.at_most (part (Of (term.number (pos 0)) no_parts) (part (Of term.num (part (Of (term.val_name (110 ∷ []) 0) no_parts) no_parts)) no_parts))) ∷ (Of term.denied (part (Of term.at_most (part (Of (term.number (pos 51)) no_parts) (part (Of term.num (part (Of (term.val_name (110 ∷ []) 0) no_parts) no_parts)) no_parts))) no_parts)) ∷ (Of term.at_most (part (Of (term.number (pos 0)) no_parts) (part (Of term.num (part (Of (term.val_name (110 ∷ []) 0) no_parts) no_parts)) no_parts))) ∷ (Of term.denied (part (Of term.at_most (part (Of (term.number (pos 51)) no_parts) (part (Of term.num (part (Of (term.val_name (110 ∷ []) 0) no_parts) no_parts)) no_parts))) no_parts)) ∷ (Of (term.of_kind term.int_kind) (part (Of (term.val_name (116 ∷ 119 ∷ 105 ∷ 99 ∷ 101 ∷ []) 1) no_parts) no_parts)) ∷ (Of term.at_most (part (Of (term.number (negsuc 39614081257132168796771975167)) no_parts) (part (Of term.num (part (Of (term.val_name (116 ∷ 119 ∷ 105 ∷ 99 ∷ 101 ∷ []) 1) no_parts) no_parts)) no_parts))) ∷ (Of term.at_most (part (Of term.num (part (Of (term.val_name (116 ∷ 119 ∷ 105 ∷ 99 ∷ 101 ∷ []) 1) no_parts) no_parts)) (part (Of (term.number (pos 39614081257132168796771975167)) no_parts) no_parts))) ∷ (Of term.at_most (part (Of term.num (part (Of (term.val_name (116 ∷ 119 ∷ 105 ∷ 99 ∷ 101 ∷ []) 1) no_parts) no_parts)) (part (Of term.add (part (Of term.num (part (Of (term.val_name (110 ∷ []) 0) no_parts) no_parts)) (part (Of (term.number (pos 2)) no_parts) no_parts))) no_parts))) ∷ (Of term.at_most (part (Of term.add (part (Of term.num (part (Of (term.val_name (110 ∷ []) 0) no_parts) no_parts)) (part (Of (term.number (pos 2)) no_parts) no_parts))) (part (Of term.num (part (Of (term.val_name (116 ∷ 119 ∷ 105 ∷ 99 ∷ 101 ∷ []) 1) no_parts) no_parts)) no_parts))) ∷ []); goal = (Of term.at_most (part (Of term.num (part (Of (term.val_name (116 ∷ 119 ∷ 105 ∷ 99 ∷ 101 ∷ []) 1) no_parts) no_parts)) (part (Of (term.number (pos 53)) no_parts) no_parts))); types = [] }

abbrev pub t_calls_19 : Condition
t_calls_19 = record { hyps = ((Of (term.of_kind term.int_kind) (part (Of (term.val_name (110 ∷ []) 0) no_parts) no_parts)) ∷ (Of term.at_most (part (Of (term.number (negsuc 39614081257132168796771975167)) no_parts) (part (Of term.num (part (Of (term.val_name (110 ∷ []) 0) no_parts) no_parts)) no_parts))) ∷ (Of term.at_most (part (Of term.num (part (Of (term.val_name (110 ∷ []) 0) no_parts) no_parts)) (part (Of (term.number (pos 39614081257132168796771975167)) no_parts) no_parts))) ∷ (Of term.at_most (part (Of (term.number (pos 0)) no_parts) (part (Of term.num (part (Of (term.val_name (110 ∷ []) 0) no_parts) no_parts)) no_parts))) ∷ (Of term.at_most (part (Of (term.number (pos 51)) no_parts) (part (Of term.num (part (Of (term.val_name (110 ∷ []) 0) no_parts) no_parts)) no_parts))) ∷ []); goal = (Of term.all_of no_parts); types = [] }

abbrev pub t_unset_1 : Condition
t_unset_1 = record { hyps = ((Of (term.of_kind term.int_kind) (part (Of (term.val_name (110 ∷ []) 0) no_parts) no_parts)) ∷ (Of term.at_most (part (Of (term.number (negsuc 39614081257132168796771975167)) no_parts) (part (Of term.num (part (Of (term.val_name (110 ∷ []) 0) no_parts) no_parts)) no_parts))) ∷ (Of term.at_most (part (Of term.num (part (Of (term.val_name (110 ∷ []) 0) no_parts) no_parts)) (part (Of (term.number (pos 39614081257132168796771975167)) no_parts) no_parts))) ∷ (Of term.at_most (part (Of (term.number (pos 0)) no_parts) (part (Of term.num (part (Of (term.val_name (110 ∷ []) 0) no_parts) no_parts)) no_parts))) ∷ (Of term.denied (part (Of term.at_most (part (Of (term.number (pos 100)) no_parts) (part (Of term.num (part (Of (term.val_name (110 ∷ []) 0) no_parts) no_parts)) no_parts))) no_parts)) ∷ (Of term.any_of (part (Of term.all_of (part (Of term.denied (part (Of term.at_most (part (Of term.num (part (Of (term.val_name (110 ∷ []) 0) no_parts) no_parts)) (part (Of (term.number (pos 43)) no_parts) no_parts))) no_parts)) (part (Of term.equal (part (Of (term.val_name (121 ∷ []) 3) no_parts) (part (Of (term.val_name (110 ∷ []) 0) no_parts) no_parts))) no_parts))) (part (Of term.all_of (part (Of term.at_most (part (Of term.num (part (Of (term.val_name (110 ∷ []) 0) no_parts) no_parts)) (part (Of (term.number (pos 43)) no_parts) no_parts))) (part (Of term.equal (part (Of (term.val_name (121 ∷ []) 3) no_parts) (part (Of (term.val_name (121 ∷ []) 1) no_parts) no_parts))) no_parts))) no_parts))) ∷ []); goal = (Of term.all_of no_parts); types = [] }

abbrev pub t_unset_2 : Condition
t_unset_2 = record { hyps = ((Of (term.of_kind term.int_kind) (part (Of (term.val_name (110 ∷ []) 0) no_parts) no_parts)) ∷ (Of term.at_most (part (Of (term.number (negsuc 39614081257132168796771975167)) no_parts) (part (Of term.num (part (Of (term.val_name (110 ∷ []) 0) no_parts) no_parts)) no_parts))) ∷ (Of term.at_most (part (Of term.num (part (Of (term.val_name (110 ∷ []) 0) no_parts) no_parts)) (part (Of (term.number (pos 39614081257132168796771975167)) no_parts) no_parts))) ∷ (Of term.at_most (part (Of (term.number (pos 0)) no_parts) (part (Of term.num (part (Of (term.val_name (110 ∷ []) 0) no_parts) no_parts)) no_parts))) ∷ (Of term.denied (part (Of term.at_most (part (Of (term.number (pos 100)) no_parts) (part (Of term.num (part (Of (term.val_name (110 ∷ []) 0) no_parts) no_parts)) no_parts))) no_parts)) ∷ (Of term.any_of (part (Of term.all_of (part (Of term.denied (part (Of term.at_most (part (Of term.num (part (Of (term.val_name (110 ∷ []) 0) no_parts) no_parts)) (part (Of (term.number (pos 43)) no_parts) no_parts))) no_parts)) (part (Of term.equal (part (Of (term.val_name (121 ∷ []) 3) no_parts) (part (Of (term.val_name (110 ∷ []) 0) no_parts) no_parts))) no_parts))) (part (Of term.all_of (part (Of term.at_most (part (Of term.num (part (Of (term.val_name (110 ∷ []) 0) no_parts) no_parts)) (part (Of (term.number (pos 43)) no_parts) no_parts))) (part (Of term.equal (part (Of (term.val_name (121 ∷ []) 3) no_parts) (part (Of (term.val_name (121 ∷ []) 1) no_parts) no_parts))) no_parts))) no_parts))) ∷ []); goal = (Of term.at_most (part (Of (term.number (pos 0)) no_parts) (part (Of term.num (part (Of (term.val_name (110 ∷ []) 0) no_parts) no_parts)) no_parts))); types = [] }

abbrev pub t_unset_3 : Condition
t_unset_3 = record { hyps = ((Of (term.of_kind term.int_kind) (part (Of (term.val_name (110 ∷ []) 0) no_parts) no_parts)) ∷ (Of term.at_most (part (Of (term.number (negsuc 39614081257132168796771975167)) no_parts) (part (Of term.num (part (Of (term.val_name (110 ∷ []) 0) no_parts) no_parts)) no_parts))) ∷ (Of term.at_most (part (Of term.num (part (Of (term.val_name (110 ∷ []) 0) no_parts) no_parts)) (part (Of (term.number (pos 39614081257132168796771975167)) no_parts) no_parts))) ∷ (Of term.at_most (part (Of (term.number (pos 0)) no_parts) (part (Of term.num (part (Of (term.val_name (110 ∷ []) 0) no_parts) no_parts)) no_parts))) ∷ (Of term.denied (part (Of term.at_most (part (Of (term.number (pos 100)) no_parts) (part (Of term.num (part (Of (term.val_name (110 ∷ []) 0) no_parts) no_parts)) no_parts))) no_parts)) ∷ (Of term.any_of (part (Of term.all_of (part (Of term.denied (part (Of term.at_most (part (Of term.num (part (Of (term.val_name (110 ∷ []) 0) no_parts) no_parts)) (part (Of (term.number (pos 43)) no_parts) no_parts))) no_parts)) (part (Of term.equal (part (Of (term.val_name (121 ∷ []) 3) no_parts) (part (Of (term.val_name (110 ∷ []) 0) no_parts) no_parts))) no_parts))) (part (Of term.all_of (part (Of term.at_most (part (Of term.num (part (Of (term.val_name (110 ∷ []) 0) no_parts) no_parts)) (part (Of (term.number (pos 43)) no_parts) no_parts))) (part (Of term.equal (part (Of (term.val_name (121 ∷ []) 3) no_parts) (part (Of (term.val_name (121 ∷ []) 1) no_parts) no_parts))) no_parts))) no_parts))) ∷ (Of term.at_most (part (Of (term.number (pos 0)) no_parts) (part (Of term.num (part (Of (term.val_name (110 ∷ []) 0) no_parts) no_parts)) no_parts))) ∷ (Of (term.of_kind term.int_kind) (part (Of (term.val_name (105 ∷ []) 6) no_parts) no_parts)) ∷ (Of term.at_most (part (Of (term.number (negsuc 39614081257132168796771975167)) no_parts) (part (Of term.num (part (Of (term.val_name (105 ∷ []) 6) no_parts) no_parts)) no_parts))) ∷ (Of term.at_most (part (Of term.num (part (Of (term.val_name (105 ∷ []) 6) no_parts) no_parts)) (part (Of (term.number (pos 39614081257132168796771975167)) no_parts) no_parts))) ∷ (Of term.at_most (part (Of (term.number (pos 0)) no_parts) (part (Of term.num (part (Of (term.val_name (105 ∷ []) 6) no_parts) no_parts)) no_parts))) ∷ (Of term.at_most (part (Of term.num (part (Of (term.val_name (105 ∷ []) 6) no_parts) no_parts)) (part (Of term.num (part (Of (term.val_name (110 ∷ []) 0) no_parts) no_parts)) no_parts))) ∷ (Of term.denied (part (Of term.at_most (part (Of term.num (part (Of (term.val_name (110 ∷ []) 0) no_parts) no_parts)) (part (Of term.num (part (Of (term.val_name (105 ∷ []) 6) no_parts) no_parts)) no_parts))) no_parts)) ∷ []); goal = (Of term.at_most (part (Of (term.number (negsuc 39614081257132168796771975167)) no_parts) (part (Of term.add (part (Of term.num (part (Of (term.val_name (105 ∷ []) 6) no_parts) no_parts)) (part (Of (term.number (pos 1)) no_parts) no_parts))) no_parts))); types = [] }

abbrev pub t_unset_4 : Condition
t_unset_4 = record { hyps = ((Of (term.of_kind term.int_kind) (part (Of (term.val_name (110 ∷ []) 0) no_parts) no_parts)) ∷ (Of term.at_most (part (Of (term.number (negsuc 39614081257132168796771975167)) no_parts) (part (Of term.num (part (Of (term.val_name (110 ∷ []) 0) no_parts) no_parts)) no_parts))) ∷ (Of term.at_most (part (Of term.num (part (Of (term.val_name (110 ∷ []) 0) no_parts) no_parts)) (part (Of (term.number (pos 39614081257132168796771975167)) no_parts) no_parts))) ∷ (Of term.at_most (part (Of (term.number (pos 0)) no_parts) (part (Of term.num (part (Of (term.val_name (110 ∷ []) 0) no_parts) no_parts)) no_parts))) ∷ (Of term.denied (part (Of term.at_most (part (Of (term.number (pos 100)) no_parts) (part (Of term.num (part (Of (term.val_name (110 ∷ []) 0) no_parts) no_parts)) no_parts))) no_parts)) ∷ (Of term.any_of (part (Of term.all_of (part (Of term.denied (part (Of term.at_most (part (Of term.num (part (Of (term.val_name (110 ∷ []) 0) no_parts) no_parts)) (part (Of (term.number (pos 43)) no_parts) no_parts))) no_parts)) (part (Of term.equal (part (Of (term.val_name (121 ∷ []) 3) no_parts) (part (Of (term.val_name (110 ∷ []) 0) no_parts) no_parts))) no_parts))) (part (Of term.all_of (part (Of term.at_most (part (Of term.num (part (Of (term.val_name (110 ∷ []) 0) no_parts) no_parts)) (part (Of (term.number (pos 43)) no_parts) no_parts))) (part (Of term.equal (part (Of (term.val_name (121 ∷ []) 3) no_parts) (part (Of (term.val_name (121 ∷ []) 1) no_parts) no_parts))) no_parts))) no_parts))) ∷ (Of term.at_most (part (Of (term.number (pos 0)) no_parts) (part (Of term.num (part (Of (term.val_name (110 ∷ []) 0) no_parts) no_parts)) no_parts))) ∷ (Of (term.of_kind term.int_kind) (part (Of (term.val_name (105 ∷ []) 6) no_parts) no_parts)) ∷ (Of term.at_most (part (Of (term.number (negsuc 39614081257132168796771975167)) no_parts) (part (Of term.num (part (Of (term.val_name (105 ∷ []) 6) no_parts) no_parts)) no_parts))) ∷ (Of term.at_most (part (Of term.num (part (Of (term.val_name (105 ∷ []) 6) no_parts) no_parts)) (part (Of (term.number (pos 39614081257132168796771975167)) no_parts) no_parts))) ∷ (Of term.at_most (part (Of (term.number (pos 0)) no_parts) (part (Of term.num (part (Of (term.val_name (105 ∷ []) 6) no_parts) no_parts)) no_parts))) ∷ (Of term.at_most (part (Of term.num (part (Of (term.val_name (105 ∷ []) 6) no_parts) no_parts)) (part (Of term.num (part (Of (term.val_name (110 ∷ []) 0) no_parts) no_parts)) no_parts))) ∷ (Of term.denied (part (Of term.at_most (part (Of term.num (part (Of (term.val_name (110 ∷ []) 0) no_parts) no_parts)) (part (Of term.num (part (Of (term.val_name (105 ∷ []) 6) no_parts) no_parts)) no_parts))) no_parts)) ∷ (Of term.at_most (part (Of (term.number (negsuc 39614081257132168796771975167)) no_parts) (part (Of term.add (part (Of term.num (part (Of (term.val_name (105 ∷ []) 6) no_parts) no_parts)) (part (Of (term.number (pos 1)) no_parts) no_parts))) no_parts))) ∷ []); goal = (Of term.at_most (part (Of term.add (part (Of term.num (part (Of (term.val_name (105 ∷ []) 6) no_parts) no_parts)) (part (Of (term.number (pos 1)) no_parts) no_parts))) (part (Of (term.number (pos 39614081257132168796771975167)) no_parts) no_parts))); types = [] }

abbrev pub t_unset_5 : Condition
t_unset_5 = record { hyps = ((Of (term.of_kind term.int_kind) (part (Of (term.val_name (110 ∷ []) 0) no_parts) no_parts)) ∷ (Of term.at_most (part (Of (term.number (negsuc 39614081257132168796771975167)) no_parts) (part (Of term.num (part (Of (term.val_name (110 ∷ []) 0) no_parts) no_parts)) no_parts))) ∷ (Of term.at_most (part (Of term.num (part (Of (term.val_name (110 ∷ []) 0) no_parts) no_parts)) (part (Of (term.number (pos 39614081257132168796771975167)) no_parts) no_parts))) ∷ (Of term.at_most (part (Of (term.number (pos 0)) no_parts) (part (Of term.num (part (Of (term.val_name (110 ∷ []) 0) no_parts) no_parts)) no_parts))) ∷ (Of term.denied (part (Of term.at_most (part (Of (term.number (pos 100)) no_parts) (part (Of term.num (part (Of (term.val_name (110 ∷ []) 0) no_parts) no_parts)) no_parts))) no_parts)) ∷ (Of term.any_of (part (Of term.all_of (part (Of term.denied (part (Of term.at_most (part (Of term.num (part (Of (term.val_name (110 ∷ []) 0) no_parts) no_parts)) (part (Of (term.number (pos 43)) no_parts) no_parts))) no_parts)) (part (Of term.equal (part (Of (term.val_name (121 ∷ []) 3) no_parts) (part (Of (term.val_name (110 ∷ []) 0) no_parts) no_parts))) no_parts))) (part (Of term.all_of (part (Of term.at_most (part (Of term.num (part (Of (term.val_name (110 ∷ []) 0) no_parts) no_parts)) (part (Of (term.number (pos 43)) no_parts) no_parts))) (part (Of term.equal (part (Of (term.val_name (121 ∷ []) 3) no_parts) (part (Of (term.val_name (121 ∷ []) 1) no_parts) no_parts))) no_parts))) no_parts))) ∷ (Of term.at_most (part (Of (term.number (pos 0)) no_parts) (part (Of term.num (part (Of (term.val_name (110 ∷ []) 0) no_parts) no_parts)) no_parts))) ∷ (Of (term.of_kind term.int_kind) (part (Of (term.val_name (105 ∷ []) 6) no_parts) no_parts)) ∷ (Of term.at_most (part (Of (term.number (negsuc 39614081257132168796771975167)) no_parts) (part (Of term.num (part (Of (term.val_name (105 ∷ []) 6) no_parts) no_parts)) no_parts))) ∷ (Of term.at_most (part (Of term.num (part (Of (term.val_name (105 ∷ []) 6) no_parts) no_parts)) (part (Of (term.number (pos 39614081257132168796771975167)) no_parts) no_parts))) ∷ (Of term.at_most (part (Of (term.number (pos 0)) no_parts) (part (Of term.num (part (Of (term.val_name (105 ∷ []) 6) no_parts) no_parts)) no_parts))) ∷ (Of term.at_most (part (Of term.num (part (Of (term.val_name (105 ∷ []) 6) no_parts) no_parts)) (part (Of term.num (part (Of (term.val_name (110 ∷ []) 0) no_parts) no_parts)) no_parts))) ∷ (Of term.denied (part (Of term.at_most (part (Of term.num (part (Of (term.val_name (110 ∷ []) 0) no_parts) no_parts)) (part (Of term.num (part (Of (term.val_name (105 ∷ []) 6) no_parts) no_parts)) no_parts))) no_parts)) ∷ (Of term.at_most (part (Of (term.number (negsuc 39614081257132168796771975167)) no_parts) (part (Of term.add (part (Of term.num (part (Of (term.val_name (105 ∷ []) 6) no_parts) no_parts)) (part (Of (term.number (pos 1)) no_parts) no_parts))) no_parts))) ∷ (Of term.at_most (part (Of term.add (part (Of term.num (part (Of (term.val_name (105 ∷ []) 6) no_parts) no_parts)) (part (Of (term.number (pos 1)) no_parts) no_parts))) (part (Of (term.number (pos 39614081257132168796771975167)) no_parts) no_parts))) ∷ (Of term.at_most (part (Of term.num (part (Of (term.val_name (105 ∷ []) 6) no_parts) no_parts)) (part (Of (term.number (pos 3)) no_parts) no_parts))) ∷ []); goal = (Of term.at_most (part (Of (term.number (pos 0)) no_parts) (part (Of term.add (part (Of term.num (part (Of (term.val_name (105 ∷ []) 6) no_parts) no_parts)) (part (Of (term.number (pos 1)) no_parts) no_parts))) no_parts))); types = [] }

abbrev pub t_unset_6 : Condition
t_unset_6 = record { hyps = ((Of (term.of_kind term.int_kind) (part (Of (term.val_name (110 ∷ []) 0) no_parts) no_parts)) ∷ (Of term.at_most (part (Of (term.number (negsuc 39614081257132168796771975167)) no_parts) (part (Of term.num (part (Of (term.val_name (110 ∷ []) 0) no_parts) no_parts)) no_parts))) ∷ (Of term.at_most (part (Of term.num (part (Of (term.val_name (110 ∷ []) 0) no_parts) no_parts)) (part (Of (term.number (pos 39614081257132168796771975167)) no_parts) no_parts))) ∷ (Of term.at_most (part (Of (term.number (pos 0)) no_parts) (part (Of term.num (part (Of (term.val_name (110 ∷ []) 0) no_parts) no_parts)) no_parts))) ∷ (Of term.denied (part (Of term.at_most (part (Of (term.number (pos 100)) no_parts) (part (Of term.num (part (Of (term.val_name (110 ∷ []) 0) no_parts) no_parts)) no_parts))) no_parts)) ∷ (Of term.any_of (part (Of term.all_of (part (Of term.denied (part (Of term.at_most (part (Of term.num (part (Of (term.val_name (110 ∷ []) 0) no_parts) no_parts)) (part (Of (term.number (pos 43)) no_parts) no_parts))) no_parts)) (part (Of term.equal (part (Of (term.val_name (121 ∷ []) 3) no_parts) (part (Of (term.val_name (110 ∷ []) 0) no_parts) no_parts))) no_parts))) (part (Of term.all_of (part (Of term.at_most (part (Of term.num (part (Of (term.val_name (110 ∷ []) 0) no_parts) no_parts)) (part (Of (term.number (pos 43)) no_parts) no_parts))) (part (Of term.equal (part (Of (term.val_name (121 ∷ []) 3) no_parts) (part (Of (term.val_name (121 ∷ []) 1) no_parts) no_parts))) no_parts))) no_parts))) ∷ (Of term.at_most (part (Of (term.number (pos 0)) no_parts) (part (Of term.num (part (Of (term.val_name (110 ∷ []) 0) no_parts) no_parts)) no_parts))) ∷ (Of (term.of_kind term.int_kind) (part (Of (term.val_name (105 ∷ []) 6) no_parts) no_parts)) ∷ (Of term.at_most (part (Of (term.number (negsuc 39614081257132168796771975167)) no_parts) (part (Of term.num (part (Of (term.val_name (105 ∷ []) 6) no_parts) no_parts)) no_parts))) ∷ (Of term.at_most (part (Of term.num (part (Of (term.val_name (105 ∷ []) 6) no_parts) no_parts)) (part (Of (term.number (pos 39614081257132168796771975167)) no_parts) no_parts))) ∷ (Of term.at_most (part (Of (term.number (pos 0)) no_parts) (part (Of term.num (part (Of (term.val_name (105 ∷ []) 6) no_parts) no_parts)) no_parts))) ∷ (Of term.at_most (part (Of term.num (part (Of (term.val_name (105 ∷ []) 6) no_parts) no_parts)) (part (Of term.num (part (Of (term.val_name (110 ∷ []) 0) no_parts) no_parts)) no_parts))) ∷ (Of term.denied (part (Of term.at_most (part (Of term.num (part (Of (term.val_name (110 ∷ []) 0) no_parts) no_parts)) (part (Of term.num (part (Of (term.val_name (105 ∷ []) 6) no_parts) no_parts)) no_parts))) no_parts)) ∷ (Of term.at_most (part (Of (term.number (negsuc 39614081257132168796771975167)) no_parts) (part (Of term.add (part (Of term.num (part (Of (term.val_name (105 ∷ []) 6) no_parts) no_parts)) (part (Of (term.number (pos 1)) no_parts) no_parts))) no_parts))) ∷ (Of term.at_most (part (Of term.add (part (Of term.num (part (Of (term.val_name (105 ∷ []) 6) no_parts) no_parts)) (part (Of (term.number (pos 1)) no_parts) no_parts))) (part (Of (term.number (pos 39614081257132168796771975167)) no_parts) no_parts))) ∷ (Of term.at_most (part (Of term.num (part (Of (term.val_name (105 ∷ []) 6) no_parts) no_parts)) (part (Of (term.number (pos 3)) no_parts) no_parts))) ∷ (Of term.at_most (part (Of (term.number (pos 0)) no_parts) (part (Of term.add (part (Of term.num (part (Of (term.val_name (105 ∷ []) 6) no_parts) no_parts)) (part (Of (term.number (pos 1)) no_parts) no_parts))) no_parts))) ∷ []); goal = (Of term.at_most (part (Of term.add (part (Of term.num (part (Of (term.val_name (105 ∷ []) 6) no_parts) no_parts)) (part (Of (term.number (pos 1)) no_parts) no_parts))) (part (Of term.num (part (Of (term.val_name (110 ∷ []) 0) no_parts) no_parts)) no_parts))); types = [] }

abbrev pub t_unset_7 : Condition
t_unset_7 = record { hyps = ((Of (term.of_kind term.int_kind) (part (Of (term.val_name (110 ∷ []) 0) no_parts) no_parts)) ∷ (Of term.at_most (part (Of (term.number (negsuc 39614081257132168796771975167)) no_parts) (part (Of term.num (part (Of (term.val_name (110 ∷ []) 0) no_parts) no_parts)) no_parts))) ∷ (Of term.at_most (part (Of term.num (part (Of (term.val_name (110 ∷ []) 0) no_parts) no_parts)) (part (Of (term.number (pos 39614081257132168796771975167)) no_parts) no_parts))) ∷ (Of term.at_most (part (Of (term.number (pos 0)) no_parts) (part (Of term.num (part (Of (term.val_name (110 ∷ []) 0) no_parts) no_parts)) no_parts))) ∷ (Of term.denied (part (Of term.at_most (part (Of (term.number (pos 100)) no_parts) (part (Of term.num (part (Of (term.val_name (110 ∷ []) 0) no_parts) no_parts)) no_parts))) no_parts)) ∷ (Of term.any_of (part (Of term.all_of (part (Of term.denied (part (Of term.at_most (part (Of term.num (part (Of (term.val_name (110 ∷ []) 0) no_parts) no_parts)) (part (Of (term.number (pos 43)) no_parts) no_parts))) no_parts)) (part (Of term.equal (part (Of (term.val_name (121 ∷ []) 3) no_parts) (part (Of (term.val_name (110 ∷ []) 0) no_parts) no_parts))) no_parts))) (part (Of term.all_of (part (Of term.at_most (part (Of term.num (part (Of (term.val_name (110 ∷ []) 0) no_parts) no_parts)) (part (Of (term.number (pos 43)) no_parts) no_parts))) (part (Of term.equal (part (Of (term.val_name (121 ∷ []) 3) no_parts) (part (Of (term.val_name (121 ∷ []) 1) no_parts) no_parts))) no_parts))) no_parts))) ∷ (Of term.at_most (part (Of (term.number (pos 0)) no_parts) (part (Of term.num (part (Of (term.val_name (110 ∷ []) 0) no_parts) no_parts)) no_parts))) ∷ (Of (term.of_kind term.int_kind) (part (Of (term.val_name (105 ∷ []) 6) no_parts) no_parts)) ∷ (Of term.at_most (part (Of (term.number (negsuc 39614081257132168796771975167)) no_parts) (part (Of term.num (part (Of (term.val_name (105 ∷ []) 6) no_parts) no_parts)) no_parts))) ∷ (Of term.at_most (part (Of term.num (part (Of (term.val_name (105 ∷ []) 6) no_parts) no_parts)) (part (Of (term.number (pos 39614081257132168796771975167)) no_parts) no_parts))) ∷ (Of term.at_most (part (Of (term.number (pos 0)) no_parts) (part (Of term.num (part (Of (term.val_name (105 ∷ []) 6) no_parts) no_parts)) no_parts))) ∷ (Of term.at_most (part (Of term.num (part (Of (term.val_name (105 ∷ []) 6) no_parts) no_parts)) (part (Of term.num (part (Of (term.val_name (110 ∷ []) 0) no_parts) no_parts)) no_parts))) ∷ (Of term.any_of (part (Of term.all_of (part (Of term.at_most (part (Of term.num (part (Of (term.val_name (110 ∷ []) 0) no_parts) no_parts)) (part (Of term.num (part (Of (term.val_name (105 ∷ []) 6) no_parts) no_parts)) no_parts))) (part (Of term.equal (part (Of (term.val_name (121 ∷ []) 7) no_parts) (part (Of (term.val_name (121 ∷ []) 4) no_parts) no_parts))) (part (Of term.equal (part (Of (term.val_name (100 ∷ 111 ∷ 110 ∷ 101 ∷ []) 8) no_parts) (part (Of (term.val_name (100 ∷ 111 ∷ 110 ∷ 101 ∷ []) 5) no_parts) no_parts))) (part (Of term.equal (part (Of (term.val_name (105 ∷ []) 9) no_parts) (part (Of (term.val_name (105 ∷ []) 6) no_parts) no_parts))) no_parts))))) (part (Of term.all_of (part (Of term.denied (part (Of term.at_most (part (Of term.num (part (Of (term.val_name (110 ∷ []) 0) no_parts) no_parts)) (part (Of term.num (part (Of (term.val_name (105 ∷ []) 6) no_parts) no_parts)) no_parts))) no_parts)) (part (Of term.at_most (part (Of (term.number (negsuc 39614081257132168796771975167)) no_parts) (part (Of term.add (part (Of term.num (part (Of (term.val_name (105 ∷ []) 6) no_parts) no_parts)) (part (Of (term.number (pos 1)) no_parts) no_parts))) no_parts))) (part (Of term.at_most (part (Of term.add (part (Of term.num (part (Of (term.val_name (105 ∷ []) 6) no_parts) no_parts)) (part (Of (term.number (pos 1)) no_parts) no_parts))) (part (Of (term.number (pos 39614081257132168796771975167)) no_parts) no_parts))) (part (Of term.denied (part (Of term.at_most (part (Of term.num (part (Of (term.val_name (105 ∷ []) 6) no_parts) no_parts)) (part (Of (term.number (pos 3)) no_parts) no_parts))) no_parts)) (part (Of term.equal (part (Of (term.val_name (121 ∷ []) 7) no_parts) (part (Of (term.val_name (105 ∷ []) 6) no_parts) no_parts))) (part (Of term.equal (part (Of (term.val_name (100 ∷ 111 ∷ 110 ∷ 101 ∷ []) 8) no_parts) (part (Of term.bool (part (Of term.denied (part (Of term.at_most (part (Of term.num (part (Of (term.val_name (105 ∷ []) 6) no_parts) no_parts)) (part (Of (term.number (pos 3)) no_parts) no_parts))) no_parts)) no_parts)) no_parts))) (part (Of term.equal (part (Of (term.val_name (105 ∷ []) 9) no_parts) (part (Of term.int (part (Of term.add (part (Of term.num (part (Of (term.val_name (105 ∷ []) 6) no_parts) no_parts)) (part (Of (term.number (pos 1)) no_parts) no_parts))) no_parts)) no_parts))) no_parts)))))))) no_parts))) ∷ []); goal = (Of term.at_most (part (Of (term.number (pos 0)) no_parts) (part (Of term.num (part (Of (term.val_name (105 ∷ []) 9) no_parts) no_parts)) no_parts))); types = [] }

abbrev pub area_1 : Condition
area_1 = record { hyps = ((Of (term.of_kind term.int_kind) (part (Of (term.val_name (119 ∷ []) 0) no_parts) no_parts)) ∷ (Of term.at_most (part (Of (term.number (negsuc 39614081257132168796771975167)) no_parts) (part (Of term.num (part (Of (term.val_name (119 ∷ []) 0) no_parts) no_parts)) no_parts))) ∷ (Of term.at_most (part (Of term.num (part (Of (term.val_name (119 ∷ []) 0) no_parts) no_parts)) (part (Of (term.number (pos 39614081257132168796771975167)) no_parts) no_parts))) ∷ (Of (term.of_kind term.int_kind) (part (Of (term.val_name (104 ∷ []) 1) no_parts) no_parts)) ∷ (Of term.at_most (part (Of (term.number (negsuc 39614081257132168796771975167)) no_parts) (part (Of term.num (part (Of (term.val_name (104 ∷ []) 1) no_parts) no_parts)) no_parts))) ∷ (Of term.at_most (part (Of term.num (part (Of (term.val_name (104 ∷ []) 1) no_parts) no_parts)) (part (Of (term.number (pos 39614081257132168796771975167)) no_parts) no_parts))) ∷ (Of term.at_most (part (Of (term.number (pos 0)) no_parts) (part (Of term.num (part (Of (term.val_name (119 ∷ []) 0) no_parts) no_parts)) no_parts))) ∷ (Of term.at_most (part (Of term.num (part (Of (term.val_name (119 ∷ []) 0) no_parts) no_parts)) (part (Of (term.number (pos 1000)) no_parts) no_parts))) ∷ (Of term.at_most (part (Of (term.number (pos 0)) no_parts) (part (Of term.num (part (Of (term.val_name (104 ∷ []) 1) no_parts) no_parts)) no_parts))) ∷ (Of term.at_most (part (Of term.num (part (Of (term.val_name (104 ∷ []) 1) no_parts) no_parts)) (part (Of (term.number (pos 1000)) no_parts) no_parts))) ∷ []); goal = (Of term.at_most (part (Of (term.number (negsuc 39614081257132168796771975167)) no_parts) (part (Of term.mul (part (Of term.num (part (Of (term.val_name (119 ∷ []) 0) no_parts) no_parts)) (part (Of term.num (part (Of (term.val_name (104 ∷ []) 1) no_parts) no_parts)) no_parts))) no_parts))); types = [] }

abbrev pub area_2 : Condition
area_2 = record { hyps = ((Of (term.of_kind term.int_kind) (part (Of (term.val_name (119 ∷ []) 0) no_parts) no_parts)) ∷ (Of term.at_most (part (Of (term.number (negsuc 39614081257132168796771975167)) no_parts) (part (Of term.num (part (Of (term.val_name (119 ∷ []) 0) no_parts) no_parts)) no_parts))) ∷ (Of term.at_most (part (Of term.num (part (Of (term.val_name (119 ∷ []) 0) no_parts) no_parts)) (part (Of (term.number (pos 39614081257132168796771975167)) no_parts) no_parts))) ∷ (Of (term.of_kind term.int_kind) (part (Of (term.val_name (104 ∷ []) 1) no_parts) no_parts)) ∷ (Of term.at_most (part (Of (term.number (negsuc 39614081257132168796771975167)) no_parts) (part (Of term.num (part (Of (term.val_name (104 ∷ []) 1) no_parts) no_parts)) no_parts))) ∷ (Of term.at_most (part (Of term.num (part (Of (term.val_name (104 ∷ []) 1) no_parts) no_parts)) (part (Of (term.number (pos 39614081257132168796771975167)) no_parts) no_parts))) ∷ (Of term.at_most (part (Of (term.number (pos 0)) no_parts) (part (Of term.num (part (Of (term.val_name (119 ∷ []) 0) no_parts) no_parts)) no_parts))) ∷ (Of term.at_most (part (Of term.num (part (Of (term.val_name (119 ∷ []) 0) no_parts) no_parts)) (part (Of (term.number (pos 1000)) no_parts) no_parts))) ∷ (Of term.at_most (part (Of (term.number (pos 0)) no_parts) (part (Of term.num (part (Of (term.val_name (104 ∷ []) 1) no_parts) no_parts)) no_parts))) ∷ (Of term.at_most (part (Of term.num (part (Of (term.val_name (104 ∷ []) 1) no_parts) no_parts)) (part (Of (term.number (pos 1000)) no_parts) no_parts))) ∷ (Of term.at_most (part (Of (term.number (negsuc 39614081257132168796771975167)) no_parts) (part (Of term.mul (part (Of term.num (part (Of (term.val_name (119 ∷ []) 0) no_parts) no_parts)) (part (Of term.num (part (Of (term.val_name (104 ∷ []) 1) no_parts) no_parts)) no_parts))) no_parts))) ∷ []); goal = (Of term.at_most (part (Of term.mul (part (Of term.num (part (Of (term.val_name (119 ∷ []) 0) no_parts) no_parts)) (part (Of term.num (part (Of (term.val_name (104 ∷ []) 1) no_parts) no_parts)) no_parts))) (part (Of (term.number (pos 39614081257132168796771975167)) no_parts) no_parts))); types = [] }

abbrev pub inc_1 : Condition
inc_1 = record { hyps = ((Of (term.of_kind term.int_kind) (part (Of (term.val_name (120 ∷ []) 0) no_parts) no_parts)) ∷ (Of term.at_most (part (Of (term.number (negsuc 39614081257132168796771975167)) no_parts) (part (Of term.num (part (Of (term.val_name (120 ∷ []) 0) no_parts) no_parts)) no_parts))) ∷ (Of term.at_most (part (Of term.num (part (Of (term.val_name (120 ∷ []) 0) no_parts) no_parts)) (part (Of (term.number (pos 39614081257132168796771975167)) no_parts) no_parts))) ∷ (Of term.denied (part (Of term.at_most (part (Of (term.number (pos 100)) no_parts) (part (Of term.num (part (Of (term.val_name (120 ∷ []) 0) no_parts) no_parts)) no_parts))) no_parts)) ∷ []); goal = (Of term.at_most (part (Of (term.number (negsuc 39614081257132168796771975167)) no_parts) (part (Of term.add (part (Of term.num (part (Of (term.val_name (120 ∷ []) 0) no_parts) no_parts)) (part (Of (term.number (pos 1)) no_parts) no_parts))) no_parts))); types = [] }

abbrev pub inc_2 : Condition
inc_2 = record { hyps = ((Of (term.of_kind term.int_kind) (part (Of (term.val_name (120 ∷ []) 0) no_parts) no_parts)) ∷ (Of term.at_most (part (Of (term.number (negsuc 39614081257132168796771975167)) no_parts) (part (Of term.num (part (Of (term.val_name (120 ∷ []) 0) no_parts) no_parts)) no_parts))) ∷ (Of term.at_most (part (Of term.num (part (Of (term.val_name (120 ∷ []) 0) no_parts) no_parts)) (part (Of (term.number (pos 39614081257132168796771975167)) no_parts) no_parts))) ∷ (Of term.denied (part (Of term.at_most (part (Of (term.number (pos 100)) no_parts) (part (Of term.num (part (Of (term.val_name (120 ∷ []) 0) no_parts) no_parts)) no_parts))) no_parts)) ∷ (Of term.at_most (part (Of (term.number (negsuc 39614081257132168796771975167)) no_parts) (part (Of term.add (part (Of term.num (part (Of (term.val_name (120 ∷ []) 0) no_parts) no_parts)) (part (Of (term.number (pos 1)) no_parts) no_parts))) no_parts))) ∷ []); goal = (Of term.at_most (part (Of term.add (part (Of term.num (part (Of (term.val_name (120 ∷ []) 0) no_parts) no_parts)) (part (Of (term.number (pos 1)) no_parts) no_parts))) (part (Of (term.number (pos 39614081257132168796771975167)) no_parts) no_parts))); types = [] }

abbrev pub inc_3 : Condition
inc_3 = record { hyps = ((Of (term.of_kind term.int_kind) (part (Of (term.val_name (120 ∷ []) 0) no_parts) no_parts)) ∷ (Of term.at_most (part (Of (term.number (negsuc 39614081257132168796771975167)) no_parts) (part (Of term.num (part (Of (term.val_name (120 ∷ []) 0) no_parts) no_parts)) no_parts))) ∷ (Of term.at_most (part (Of term.num (part (Of (term.val_name (120 ∷ []) 0) no_parts) no_parts)) (part (Of (term.number (pos 39614081257132168796771975167)) no_parts) no_parts))) ∷ (Of term.denied (part (Of term.at_most (part (Of (term.number (pos 100)) no_parts) (part (Of term.num (part (Of (term.val_name (120 ∷ []) 0) no_parts) no_parts)) no_parts))) no_parts)) ∷ (Of term.at_most (part (Of (term.number (negsuc 39614081257132168796771975167)) no_parts) (part (Of term.add (part (Of term.num (part (Of (term.val_name (120 ∷ []) 0) no_parts) no_parts)) (part (Of (term.number (pos 1)) no_parts) no_parts))) no_parts))) ∷ (Of term.at_most (part (Of term.add (part (Of term.num (part (Of (term.val_name (120 ∷ []) 0) no_parts) no_parts)) (part (Of (term.number (pos 1)) no_parts) no_parts))) (part (Of (term.number (pos 39614081257132168796771975167)) no_parts) no_parts))) ∷ []); goal = (Of term.denied (part (Of term.at_most (part (Of term.add (part (Of term.num (part (Of (term.val_name (120 ∷ []) 0) no_parts) no_parts)) (part (Of (term.number (pos 1)) no_parts) no_parts))) (part (Of term.num (part (Of (term.val_name (120 ∷ []) 0) no_parts) no_parts)) no_parts))) no_parts)); types = [] }

pub record RealCertificates : Type 0 where
  pub row_1 : first_bad t_neg_1 ((split (Of term.at_most (part (Of (term.number (pos 0)) no_parts) (part (Of term.num (part (Of (term.val_name (120 ∷ []) 0) no_parts) no_parts)) no_parts)))) ∷ shut ∷ (sum_of ((1, 4) ∷ (1, 5) ∷ [])) ∷ []) ≡ None
  pub row_2 : first_bad t_neg_2 (shut ∷ []) ≡ None
  pub row_3 : first_bad t_neg_3 (shut ∷ []) ≡ None
  pub row_4 : first_bad t_neg_4 (shut ∷ []) ≡ None
  pub row_5 : first_bad t_neg_5 (shut ∷ []) ≡ None
  pub row_6 : first_bad t_neg_1 ((split (Of term.at_most (part (Of (term.number (pos 0)) no_parts) (part (Of term.num (part (Of (term.val_name (120 ∷ []) 0) no_parts) no_parts)) no_parts)))) ∷ shut ∷ (sum_of ((1, 9) ∷ (1, 5) ∷ [])) ∷ []) ≡ Some 3
  pub row_7 : first_bad t_calls_1 ((sum_of ((1, 4) ∷ (1, 10) ∷ [])) ∷ []) ≡ None
  pub row_8 : first_bad t_calls_2 ((sum_of ((1, 11) ∷ (1, 5) ∷ [])) ∷ []) ≡ None
  pub row_9 : first_bad t_calls_3 ((sum_of ((1, 4) ∷ (1, 6) ∷ [])) ∷ []) ≡ None
  pub row_10 : first_bad t_calls_4 ((sum_of ((1, 7) ∷ (1, 5) ∷ [])) ∷ []) ≡ None
  pub row_11 : first_bad t_calls_5 ((split (Of term.at_most (part (Of (term.number (pos 0)) no_parts) (part (Of term.add (part (Of term.num (part (Of (term.val_name (110 ∷ []) 0) no_parts) no_parts)) (part (Of (term.number (pos 1)) no_parts) no_parts))) no_parts)))) ∷ shut ∷ (sum_of ((1, 4) ∷ (1, 8) ∷ [])) ∷ []) ≡ None
  pub row_12 : first_bad t_calls_6 (shut ∷ []) ≡ None
  pub row_13 : first_bad t_calls_7 ((sum_of ((1, 4) ∷ (1, 9) ∷ [])) ∷ []) ≡ None
  pub row_14 : first_bad t_calls_8 ((sum_of ((1, 10) ∷ (1, 5) ∷ [])) ∷ []) ≡ None
  pub row_15 : first_bad t_calls_9 (shut ∷ []) ≡ None
  pub row_16 : first_bad t_calls_10 ((sum_of ((1, 6) ∷ (1, 5) ∷ [])) ∷ []) ≡ None
  pub row_17 : first_bad t_calls_11 (shut ∷ []) ≡ None
  pub row_18 : first_bad t_calls_12 (shut ∷ []) ≡ None
  pub row_19 : first_bad t_calls_13 ((cut 2 ((2, 11) ∷ (2, 5) ∷ [])) ∷ (sum_of ((1, 13) ∷ (1, 14) ∷ [])) ∷ []) ≡ None
  pub row_20 : first_bad t_calls_14 (shut ∷ []) ≡ None
  pub row_21 : first_bad t_calls_15 ((split (Of term.at_most (part (Of term.num (part (Of (term.val_name (105 ∷ 110 ∷ 99 ∷ []) 2) no_parts) no_parts)) (part (Of term.add (part (Of term.num (part (Of (term.val_name (110 ∷ []) 0) no_parts) no_parts)) (part (Of (term.number (pos 2)) no_parts) no_parts))) no_parts)))) ∷ (split (Of term.at_most (part (Of term.add (part (Of term.num (part (Of (term.val_name (110 ∷ []) 0) no_parts) no_parts)) (part (Of (term.number (pos 2)) no_parts) no_parts))) (part (Of term.num (part (Of (term.val_name (105 ∷ 110 ∷ 99 ∷ []) 2) no_parts) no_parts)) no_parts)))) ∷ shut ∷ (cut 2 ((2, 21) ∷ (2, 12) ∷ [])) ∷ (sum_of ((1, 22) ∷ (1, 19) ∷ [])) ∷ (cut 2 ((2, 11) ∷ (2, 20) ∷ [])) ∷ (sum_of ((1, 18) ∷ (1, 21) ∷ [])) ∷ []) ≡ None
  pub row_22 : first_bad t_calls_16 (shut ∷ []) ≡ None
  pub row_23 : first_bad t_calls_17 (shut ∷ []) ≡ None
  pub row_24 : first_bad t_calls_18 ((cut 2 ((2, 9) ∷ (2, 5) ∷ [])) ∷ (sum_of ((1, 11) ∷ (1, 12) ∷ [])) ∷ []) ≡ None
  pub row_25 : first_bad t_calls_19 (shut ∷ []) ≡ None
  pub row_26 : first_bad t_calls_18 ((cut 2 ((2, 9) ∷ (2, 5) ∷ [])) ∷ shut ∷ []) ≡ Some 2
  pub row_27 : first_bad t_calls_15 ((split (Of term.at_most (part (Of term.num (part (Of (term.val_name (105 ∷ 110 ∷ 99 ∷ []) 2) no_parts) no_parts)) (part (Of term.add (part (Of term.num (part (Of (term.val_name (110 ∷ []) 0) no_parts) no_parts)) (part (Of (term.number (pos 2)) no_parts) no_parts))) no_parts)))) ∷ (split (Of term.at_most (part (Of term.add (part (Of term.num (part (Of (term.val_name (110 ∷ []) 0) no_parts) no_parts)) (part (Of (term.number (pos 7)) no_parts) no_parts))) (part (Of term.num (part (Of (term.val_name (105 ∷ 110 ∷ 99 ∷ []) 2) no_parts) no_parts)) no_parts)))) ∷ shut ∷ (cut 2 ((2, 21) ∷ (2, 12) ∷ [])) ∷ (sum_of ((1, 22) ∷ (1, 19) ∷ [])) ∷ (cut 2 ((2, 11) ∷ (2, 20) ∷ [])) ∷ (sum_of ((1, 18) ∷ (1, 21) ∷ [])) ∷ []) ≡ Some 3
  pub row_28 : first_bad t_unset_1 (shut ∷ []) ≡ None
  pub row_29 : first_bad t_unset_2 (shut ∷ []) ≡ None
  pub row_30 : first_bad t_unset_3 ((sum_of ((1, 9) ∷ (1, 12) ∷ [])) ∷ []) ≡ None
  pub row_31 : first_bad t_unset_4 ((cut 2 ((2, 11) ∷ (2, 5) ∷ [])) ∷ (sum_of ((1, 13) ∷ (1, 14) ∷ [])) ∷ []) ≡ None
  pub row_32 : first_bad t_unset_5 ((sum_of ((1, 9) ∷ (1, 15) ∷ [])) ∷ []) ≡ None
  pub row_33 : first_bad t_unset_6 ((sum_of ((1, 11) ∷ (1, 16) ∷ [])) ∷ []) ≡ None
  pub row_34 : first_bad t_unset_7 ((split (Of term.at_most (part (Of term.num (part (Of (term.val_name (110 ∷ []) 0) no_parts) no_parts)) (part (Of (term.number (pos 43)) no_parts) no_parts)))) ∷ (split (Of term.equal (part (Of (term.val_name (121 ∷ []) 3) no_parts) (part (Of (term.val_name (121 ∷ []) 1) no_parts) no_parts)))) ∷ (split (Of term.at_most (part (Of term.num (part (Of (term.val_name (110 ∷ []) 0) no_parts) no_parts)) (part (Of term.num (part (Of (term.val_name (105 ∷ []) 6) no_parts) no_parts)) no_parts)))) ∷ (split (Of term.equal (part (Of (term.val_name (121 ∷ []) 7) no_parts) (part (Of (term.val_name (121 ∷ []) 4) no_parts) no_parts)))) ∷ (split (Of term.equal (part (Of (term.val_name (100 ∷ 111 ∷ 110 ∷ 101 ∷ []) 8) no_parts) (part (Of (term.val_name (100 ∷ 111 ∷ 110 ∷ 101 ∷ []) 5) no_parts) no_parts)))) ∷ (split (Of term.equal (part (Of (term.val_name (105 ∷ []) 9) no_parts) (part (Of (term.val_name (105 ∷ []) 6) no_parts) no_parts)))) ∷ (chain ((Of term.num (part (Of (term.val_name (105 ∷ []) 9) no_parts) no_parts)) ∷ (Of term.num (part (Of (term.val_name (105 ∷ []) 6) no_parts) no_parts)) ∷ [])) ∷ (cut 2 ((2, 11) ∷ (2, 19) ∷ [])) ∷ (sum_of ((1, 9) ∷ (1, 20) ∷ [])) ∷ shut ∷ shut ∷ shut ∷ (split (Of term.at_most (part (Of (term.number (negsuc 39614081257132168796771975167)) no_parts) (part (Of term.add (part (Of term.num (part (Of (term.val_name (105 ∷ []) 6) no_parts) no_parts)) (part (Of (term.number (pos 1)) no_parts) no_parts))) no_parts)))) ∷ (split (Of term.at_most (part (Of term.add (part (Of term.num (part (Of (term.val_name (105 ∷ []) 6) no_parts) no_parts)) (part (Of (term.number (pos 1)) no_parts) no_parts))) (part (Of (term.number (pos 39614081257132168796771975167)) no_parts) no_parts)))) ∷ (split (Of term.at_most (part (Of term.num (part (Of (term.val_name (105 ∷ []) 6) no_parts) no_parts)) (part (Of (term.number (pos 3)) no_parts) no_parts)))) ∷ shut ∷ (split (Of term.equal (part (Of (term.val_name (121 ∷ []) 7) no_parts) (part (Of (term.val_name (105 ∷ []) 6) no_parts) no_parts)))) ∷ (split (Of term.equal (part (Of (term.val_name (100 ∷ 111 ∷ 110 ∷ 101 ∷ []) 8) no_parts) (part (Of term.bool (part (Of term.denied (part (Of term.at_most (part (Of term.num (part (Of (term.val_name (105 ∷ []) 6) no_parts) no_parts)) (part (Of (term.number (pos 3)) no_parts) no_parts))) no_parts)) no_parts)) no_parts)))) ∷ (split (Of term.equal (part (Of (term.val_name (105 ∷ []) 9) no_parts) (part (Of term.int (part (Of term.add (part (Of term.num (part (Of (term.val_name (105 ∷ []) 6) no_parts) no_parts)) (part (Of (term.number (pos 1)) no_parts) no_parts))) no_parts)) no_parts)))) ∷ (fact 11 ((Of term.equal (part (Of (term.val_name (121 ∷ []) 3) no_parts) (part (Of (term.val_name (121 ∷ []) 1) no_parts) no_parts))) ∷ [])) ∷ (fact 11 ((Of term.equal (part (Of (term.val_name (121 ∷ []) 7) no_parts) (part (Of (term.val_name (105 ∷ []) 6) no_parts) no_parts))) ∷ [])) ∷ (fact 11 ((Of term.equal (part (Of (term.val_name (100 ∷ 111 ∷ 110 ∷ 101 ∷ []) 8) no_parts) (part (Of term.bool (part (Of term.denied (part (Of term.at_most (part (Of term.num (part (Of (term.val_name (105 ∷ []) 6) no_parts) no_parts)) (part (Of (term.number (pos 3)) no_parts) no_parts))) no_parts)) no_parts)) no_parts))) ∷ [])) ∷ (fact 11 ((Of term.equal (part (Of (term.val_name (105 ∷ []) 9) no_parts) (part (Of term.int (part (Of term.add (part (Of term.num (part (Of (term.val_name (105 ∷ []) 6) no_parts) no_parts)) (part (Of (term.number (pos 1)) no_parts) no_parts))) no_parts)) no_parts))) ∷ [])) ∷ (fact 11 ((Of term.equal (part (Of (term.val_name (121 ∷ []) 3) no_parts) (part (Of (term.val_name (110 ∷ []) 0) no_parts) no_parts))) ∷ [])) ∷ (fact 11 ((Of term.equal (part (Of (term.val_name (121 ∷ []) 7) no_parts) (part (Of (term.val_name (121 ∷ []) 4) no_parts) no_parts))) ∷ [])) ∷ (fact 11 ((Of term.equal (part (Of (term.val_name (100 ∷ 111 ∷ 110 ∷ 101 ∷ []) 8) no_parts) (part (Of (term.val_name (100 ∷ 111 ∷ 110 ∷ 101 ∷ []) 5) no_parts) no_parts))) ∷ [])) ∷ (fact 11 ((Of term.equal (part (Of (term.val_name (105 ∷ []) 9) no_parts) (part (Of (term.val_name (105 ∷ []) 6) no_parts) no_parts))) ∷ [])) ∷ (fact 14 ((Of (term.val_name (110 ∷ []) 0) no_parts) ∷ [])) ∷ (fact 14 ((Of (term.val_name (105 ∷ []) 6) no_parts) ∷ [])) ∷ (fact 14 ((Of term.bool (part (Of term.denied (part (Of term.at_most (part (Of term.num (part (Of (term.val_name (105 ∷ []) 6) no_parts) no_parts)) (part (Of (term.number (pos 3)) no_parts) no_parts))) no_parts)) no_parts)) ∷ [])) ∷ (split (Of term.at_most (part (Of term.num (part (Of (term.val_name (121 ∷ []) 3) no_parts) no_parts)) (part (Of term.num (part (Of (term.val_name (121 ∷ []) 1) no_parts) no_parts)) no_parts)))) ∷ (split (Of term.at_most (part (Of term.num (part (Of (term.val_name (121 ∷ []) 1) no_parts) no_parts)) (part (Of term.num (part (Of (term.val_name (121 ∷ []) 3) no_parts) no_parts)) no_parts)))) ∷ (split (Of term.at_most (part (Of term.num (part (Of (term.val_name (121 ∷ []) 7) no_parts) no_parts)) (part (Of term.num (part (Of (term.val_name (105 ∷ []) 6) no_parts) no_parts)) no_parts)))) ∷ (split (Of term.at_most (part (Of term.num (part (Of (term.val_name (105 ∷ []) 6) no_parts) no_parts)) (part (Of term.num (part (Of (term.val_name (121 ∷ []) 7) no_parts) no_parts)) no_parts)))) ∷ (split (Of term.at_most (part (Of term.num (part (Of (term.val_name (100 ∷ 111 ∷ 110 ∷ 101 ∷ []) 8) no_parts) no_parts)) (part (Of term.num (part (Of term.bool (part (Of term.denied (part (Of term.at_most (part (Of term.num (part (Of (term.val_name (105 ∷ []) 6) no_parts) no_parts)) (part (Of (term.number (pos 3)) no_parts) no_parts))) no_parts)) no_parts)) no_parts)) no_parts)))) ∷ (split (Of term.at_most (part (Of term.num (part (Of term.bool (part (Of term.denied (part (Of term.at_most (part (Of term.num (part (Of (term.val_name (105 ∷ []) 6) no_parts) no_parts)) (part (Of (term.number (pos 3)) no_parts) no_parts))) no_parts)) no_parts)) no_parts)) (part (Of term.num (part (Of (term.val_name (100 ∷ 111 ∷ 110 ∷ 101 ∷ []) 8) no_parts) no_parts)) no_parts)))) ∷ (split (Of term.at_most (part (Of term.num (part (Of (term.val_name (105 ∷ []) 9) no_parts) no_parts)) (part (Of term.add (part (Of term.num (part (Of (term.val_name (105 ∷ []) 6) no_parts) no_parts)) (part (Of (term.number (pos 1)) no_parts) no_parts))) no_parts)))) ∷ (split (Of term.at_most (part (Of term.add (part (Of term.num (part (Of (term.val_name (105 ∷ []) 6) no_parts) no_parts)) (part (Of (term.number (pos 1)) no_parts) no_parts))) (part (Of term.num (part (Of (term.val_name (105 ∷ []) 9) no_parts) no_parts)) no_parts)))) ∷ (cut 2 ((2, 28) ∷ (2, 11) ∷ [])) ∷ (sum_of ((1, 17) ∷ (1, 29) ∷ [])) ∷ shut ∷ shut ∷ shut ∷ shut ∷ shut ∷ shut ∷ shut ∷ shut ∷ shut ∷ shut ∷ shut ∷ shut ∷ shut ∷ shut ∷ (split (Of term.equal (part (Of (term.val_name (121 ∷ []) 3) no_parts) (part (Of (term.val_name (110 ∷ []) 0) no_parts) no_parts)))) ∷ (split (Of term.at_most (part (Of term.num (part (Of (term.val_name (110 ∷ []) 0) no_parts) no_parts)) (part (Of term.num (part (Of (term.val_name (105 ∷ []) 6) no_parts) no_parts)) no_parts)))) ∷ (split (Of term.equal (part (Of (term.val_name (121 ∷ []) 7) no_parts) (part (Of (term.val_name (121 ∷ []) 4) no_parts) no_parts)))) ∷ (split (Of term.equal (part (Of (term.val_name (100 ∷ 111 ∷ 110 ∷ 101 ∷ []) 8) no_parts) (part (Of (term.val_name (100 ∷ 111 ∷ 110 ∷ 101 ∷ []) 5) no_parts) no_parts)))) ∷ (split (Of term.equal (part (Of (term.val_name (105 ∷ []) 9) no_parts) (part (Of (term.val_name (105 ∷ []) 6) no_parts) no_parts)))) ∷ (cut 2 ((2, 12) ∷ (2, 14) ∷ [])) ∷ (chain ((Of term.num (part (Of (term.val_name (105 ∷ []) 9) no_parts) no_parts)) ∷ (Of term.num (part (Of (term.val_name (105 ∷ []) 6) no_parts) no_parts)) ∷ [])) ∷ (cut 2 ((2, 11) ∷ (2, 20) ∷ [])) ∷ (sum_of ((1, 18) ∷ (1, 21) ∷ [])) ∷ shut ∷ shut ∷ shut ∷ (split (Of term.at_most (part (Of (term.number (negsuc 39614081257132168796771975167)) no_parts) (part (Of term.add (part (Of term.num (part (Of (term.val_name (105 ∷ []) 6) no_parts) no_parts)) (part (Of (term.number (pos 1)) no_parts) no_parts))) no_parts)))) ∷ (split (Of term.at_most (part (Of term.add (part (Of term.num (part (Of (term.val_name (105 ∷ []) 6) no_parts) no_parts)) (part (Of (term.number (pos 1)) no_parts) no_parts))) (part (Of (term.number (pos 39614081257132168796771975167)) no_parts) no_parts)))) ∷ (split (Of term.at_most (part (Of term.num (part (Of (term.val_name (105 ∷ []) 6) no_parts) no_parts)) (part (Of (term.number (pos 3)) no_parts) no_parts)))) ∷ shut ∷ (split (Of term.equal (part (Of (term.val_name (121 ∷ []) 7) no_parts) (part (Of (term.val_name (105 ∷ []) 6) no_parts) no_parts)))) ∷ (split (Of term.equal (part (Of (term.val_name (100 ∷ 111 ∷ 110 ∷ 101 ∷ []) 8) no_parts) (part (Of term.bool (part (Of term.denied (part (Of term.at_most (part (Of term.num (part (Of (term.val_name (105 ∷ []) 6) no_parts) no_parts)) (part (Of (term.number (pos 3)) no_parts) no_parts))) no_parts)) no_parts)) no_parts)))) ∷ (split (Of term.equal (part (Of (term.val_name (105 ∷ []) 9) no_parts) (part (Of term.int (part (Of term.add (part (Of term.num (part (Of (term.val_name (105 ∷ []) 6) no_parts) no_parts)) (part (Of (term.number (pos 1)) no_parts) no_parts))) no_parts)) no_parts)))) ∷ (fact 11 ((Of term.equal (part (Of (term.val_name (121 ∷ []) 3) no_parts) (part (Of (term.val_name (110 ∷ []) 0) no_parts) no_parts))) ∷ [])) ∷ (fact 11 ((Of term.equal (part (Of (term.val_name (121 ∷ []) 7) no_parts) (part (Of (term.val_name (105 ∷ []) 6) no_parts) no_parts))) ∷ [])) ∷ (fact 11 ((Of term.equal (part (Of (term.val_name (100 ∷ 111 ∷ 110 ∷ 101 ∷ []) 8) no_parts) (part (Of term.bool (part (Of term.denied (part (Of term.at_most (part (Of term.num (part (Of (term.val_name (105 ∷ []) 6) no_parts) no_parts)) (part (Of (term.number (pos 3)) no_parts) no_parts))) no_parts)) no_parts)) no_parts))) ∷ [])) ∷ (fact 11 ((Of term.equal (part (Of (term.val_name (105 ∷ []) 9) no_parts) (part (Of term.int (part (Of term.add (part (Of term.num (part (Of (term.val_name (105 ∷ []) 6) no_parts) no_parts)) (part (Of (term.number (pos 1)) no_parts) no_parts))) no_parts)) no_parts))) ∷ [])) ∷ (fact 11 ((Of term.equal (part (Of (term.val_name (121 ∷ []) 3) no_parts) (part (Of (term.val_name (121 ∷ []) 1) no_parts) no_parts))) ∷ [])) ∷ (fact 11 ((Of term.equal (part (Of (term.val_name (121 ∷ []) 7) no_parts) (part (Of (term.val_name (121 ∷ []) 4) no_parts) no_parts))) ∷ [])) ∷ (fact 11 ((Of term.equal (part (Of (term.val_name (100 ∷ 111 ∷ 110 ∷ 101 ∷ []) 8) no_parts) (part (Of (term.val_name (100 ∷ 111 ∷ 110 ∷ 101 ∷ []) 5) no_parts) no_parts))) ∷ [])) ∷ (fact 11 ((Of term.equal (part (Of (term.val_name (105 ∷ []) 9) no_parts) (part (Of (term.val_name (105 ∷ []) 6) no_parts) no_parts))) ∷ [])) ∷ (fact 14 ((Of (term.val_name (110 ∷ []) 0) no_parts) ∷ [])) ∷ (fact 14 ((Of (term.val_name (105 ∷ []) 6) no_parts) ∷ [])) ∷ (fact 14 ((Of term.bool (part (Of term.denied (part (Of term.at_most (part (Of term.num (part (Of (term.val_name (105 ∷ []) 6) no_parts) no_parts)) (part (Of (term.number (pos 3)) no_parts) no_parts))) no_parts)) no_parts)) ∷ [])) ∷ (split (Of term.at_most (part (Of term.num (part (Of (term.val_name (121 ∷ []) 3) no_parts) no_parts)) (part (Of term.num (part (Of (term.val_name (110 ∷ []) 0) no_parts) no_parts)) no_parts)))) ∷ (split (Of term.at_most (part (Of term.num (part (Of (term.val_name (110 ∷ []) 0) no_parts) no_parts)) (part (Of term.num (part (Of (term.val_name (121 ∷ []) 3) no_parts) no_parts)) no_parts)))) ∷ (split (Of term.at_most (part (Of term.num (part (Of (term.val_name (121 ∷ []) 7) no_parts) no_parts)) (part (Of term.num (part (Of (term.val_name (105 ∷ []) 6) no_parts) no_parts)) no_parts)))) ∷ (split (Of term.at_most (part (Of term.num (part (Of (term.val_name (105 ∷ []) 6) no_parts) no_parts)) (part (Of term.num (part (Of (term.val_name (121 ∷ []) 7) no_parts) no_parts)) no_parts)))) ∷ (split (Of term.at_most (part (Of term.num (part (Of (term.val_name (100 ∷ 111 ∷ 110 ∷ 101 ∷ []) 8) no_parts) no_parts)) (part (Of term.num (part (Of term.bool (part (Of term.denied (part (Of term.at_most (part (Of term.num (part (Of (term.val_name (105 ∷ []) 6) no_parts) no_parts)) (part (Of (term.number (pos 3)) no_parts) no_parts))) no_parts)) no_parts)) no_parts)) no_parts)))) ∷ (split (Of term.at_most (part (Of term.num (part (Of term.bool (part (Of term.denied (part (Of term.at_most (part (Of term.num (part (Of (term.val_name (105 ∷ []) 6) no_parts) no_parts)) (part (Of (term.number (pos 3)) no_parts) no_parts))) no_parts)) no_parts)) no_parts)) (part (Of term.num (part (Of (term.val_name (100 ∷ 111 ∷ 110 ∷ 101 ∷ []) 8) no_parts) no_parts)) no_parts)))) ∷ (split (Of term.at_most (part (Of term.num (part (Of (term.val_name (105 ∷ []) 9) no_parts) no_parts)) (part (Of term.add (part (Of term.num (part (Of (term.val_name (105 ∷ []) 6) no_parts) no_parts)) (part (Of (term.number (pos 1)) no_parts) no_parts))) no_parts)))) ∷ (split (Of term.at_most (part (Of term.add (part (Of term.num (part (Of (term.val_name (105 ∷ []) 6) no_parts) no_parts)) (part (Of (term.number (pos 1)) no_parts) no_parts))) (part (Of term.num (part (Of (term.val_name (105 ∷ []) 9) no_parts) no_parts)) no_parts)))) ∷ (cut 2 ((2, 28) ∷ (2, 11) ∷ [])) ∷ (sum_of ((1, 17) ∷ (1, 29) ∷ [])) ∷ shut ∷ shut ∷ shut ∷ shut ∷ shut ∷ shut ∷ shut ∷ shut ∷ shut ∷ shut ∷ shut ∷ shut ∷ shut ∷ shut ∷ []) ≡ None
  pub row_35 : first_bad t_unset_4 ((cut 2 ((2, 11) ∷ (4, 5) ∷ [])) ∷ (sum_of ((1, 13) ∷ (1, 14) ∷ [])) ∷ []) ≡ Some 2
  pub row_36 : first_bad area_1 ((prod 7 9 (Of term.mul (part (Of term.num (part (Of (term.val_name (119 ∷ []) 0) no_parts) no_parts)) (part (Of term.num (part (Of (term.val_name (104 ∷ []) 1) no_parts) no_parts)) no_parts)))) ∷ (sum_of ((1, 11) ∷ (1, 12) ∷ [])) ∷ []) ≡ None
  pub row_37 : first_bad area_1 ((prod 7 8 (Of term.mul (part (Of term.num (part (Of (term.val_name (119 ∷ []) 0) no_parts) no_parts)) (part (Of term.num (part (Of (term.val_name (104 ∷ []) 1) no_parts) no_parts)) no_parts)))) ∷ (sum_of ((1, 11) ∷ (1, 12) ∷ [])) ∷ []) ≡ Some 1
  pub row_38 : first_bad area_2 ((prod 7 10 (Of term.mul (part (Of term.num (part (Of (term.val_name (119 ∷ []) 0) no_parts) no_parts)) (part (Of term.num (part (Of (term.val_name (104 ∷ []) 1) no_parts) no_parts)) no_parts)))) ∷ (sum_of ((1, 12) ∷ (1, 13) ∷ (1000, 8) ∷ [])) ∷ []) ≡ None
  pub row_39 : first_bad inc_1 ((sum_of ((1, 2) ∷ (1, 5) ∷ [])) ∷ []) ≡ None
  pub row_40 : first_bad inc_2 ((sum_of ((1, 4) ∷ (1, 6) ∷ [])) ∷ []) ≡ None
  pub row_41 : first_bad inc_3 ((sum_of ((1, 7) ∷ [])) ∷ []) ≡ None
