-- One walk behind another, where of the hypotheses the first so many stay.
use Rattle.std.proofs.Common.{◌≡◌, ◌≤◌, ℕ, List, [], ◌++◌, length, take, Option, sym, ◌∙◌, ap, arith}
use Rattle.std.proofs.lemmas.List.{append-nil, append_assoc, length-take, take-take, take_all}
use Rattle.wy_vc_spec.specs.Clauses.{Passed}
use Rattle.wy_vc_spec.specs.Joins as joins
use Rattle.wy_vc_spec.specs.Owed.{Owed}
use Rattle.wy_vc_spec.specs.Spots.{Flow}
use Rattle.wy_vc_spec.specs.Statements as spec
use Rattle.wy_vc_body.specs.declared.here.Here.{Here}
use Rattle.wy_vc_body.specs.wy_vc_exprs.State.{Steps, owed_of}
use Rattle.wy_vc_body.specs.wy_vc_exprs.declared.walk.Walk.{Walk}
use Rattle.wy_vc_body.proofs.wy_vc_exprs_proofs.NumberedLemmas.{kept_then}
use Rattle.wy_vc_body.specs.Paths.{IsEnd, Meets}
use Rattle.wy_vc_body.specs.Going.{Went}
use Rattle.wy_vc_body.specs.Loops.{Renews}
use Rattle.wy_vc.specs.Flows.{Moves}

-- ---- counts

pub le_self : (n : ℕ) → n ≤ n
le_self n = omega arith

pub le_through : (x y z : ℕ) → x ≤ y → y ≤ z → x ≤ z
le_through x y z p q = omega (arith, p, q)

pub le_at : (x y z : ℕ) → x ≤ y → z ≡ y → x ≤ z
le_at x y z p q = omega (arith, p, q)

pub le_from : (x y z : ℕ) → x ≤ y → z ≡ x → z ≤ y
le_from x y z p q = omega (arith, p, q)

-- ---- lists of which the front stays

-- what stays of the front of a front
pub front_less : (low base : ℕ) (xs ys : List ℕ) → low ≤ base → take base ys ≡ take base xs → take low ys ≡ take low xs
front_less low base xs ys le same = sym (take-take low base ys le) ∙ ap (λ (l : List ℕ). take low l) same ∙ take-take low base xs le

-- where the whole list stays in front
pub front_long : (base : ℕ) (xs ys : List ℕ) → base ≤ length xs → take (length xs) ys ≡ xs → take base ys ≡ take base xs
front_long base xs ys le longer = front_less base (length xs) xs ys le (longer ∙ sym (take_all (length xs) xs (le_self (length xs))))

pub front_whole : (xs ys : List ℕ) → take (length xs) ys ≡ take (length xs) xs → take (length xs) ys ≡ xs
front_whole xs ys same = same ∙ take_all (length xs) xs (le_self (length xs))

pub longer_length : (xs ys : List ℕ) → take (length xs) ys ≡ xs → length xs ≤ length ys
longer_length xs ys longer = omega (arith, sym (ap length longer) ∙ length-take (length xs) ys)

-- ---- walks

pub moves_steps : (a b : Walk) (p : Passed) (base : ℕ) → base ≤ length a.hyps.items → Steps a b p → Moves a b base p.count p.owed
moves_steps a b p base le s = record { sound = s.sound; kept = s.kept; front = front_long base a.hyps.items b.hyps.items le s.longer; count = s.count; owed = s.owed }

pub moves_went : (a b : Walk) (h : Option Here) (f : Flow) (base : ℕ) → base ≤ length a.hyps.items → Went a b h f → Moves a b base f.count f.owed
moves_went a b h f base le w = record { sound = w.sound; kept = w.kept; front = front_long base a.hyps.items b.hyps.items le w.longer; count = w.count; owed = w.owed }

pub moves_renews : (a b : Walk) (h : Here) (r : spec.Renewed) (base : ℕ) → base ≤ length a.hyps.items → Renews a b h r → Moves a b base r.count []
moves_renews a b h r base le s = record { sound = s.sound; kept = s.kept; front = front_long base a.hyps.items b.hyps.items le s.longer; count = s.count; owed = s.owed ∙ sym (append-nil (owed_of a)) }

pub moves_meets : (a b : Walk) (base : ℕ) (h : Option Here) (m : joins.Met) → Meets a b base h m → Moves a b base m.count []
moves_meets a b base h m s = record { sound = s.sound; kept = s.kept; front = s.front; count = s.count; owed = s.owed ∙ sym (append-nil (owed_of a)) }

pub moves_less : (a b : Walk) (low base n : ℕ) (os : List Owed) → low ≤ base → Moves a b base n os → Moves a b low n os
moves_less a b low base n os le m = record { sound = m.sound; kept = m.kept; front = front_less low base a.hyps.items b.hyps.items le m.front; count = m.count; owed = m.owed }

pub moves_on : (a b c : Walk) (base n m : ℕ) (os us : List Owed) → Moves a b base n os → Moves b c base m us → Moves a c base m (os ++ us)
moves_on a b c base n m os us first second = record {
  sound = second.sound;
  kept = kept_then first.kept second.kept;
  front = second.front ∙ first.front;
  count = second.count;
  owed = second.owed ∙ ap (λ (l : List Owed). l ++ us) first.owed ∙ append_assoc (owed_of a) os us;
}

pub moves_as : (a b : Walk) (base n m : ℕ) (os us : List Owed) → n ≡ m → os ≡ us → Moves a b base n os → Moves a b base m us
moves_as a b base n m os us count owed s = record { sound = s.sound; kept = s.kept; front = s.front; count = s.count ∙ count; owed = s.owed ∙ ap (λ (l : List Owed). owed_of a ++ l) owed }

-- all that was there stays
pub went_moves : (a b : Walk) (h : Option Here) (f : Flow) → Moves a b (length a.hyps.items) f.count f.owed → IsEnd b h f.ends → Went a b h f
went_moves a b h f m ends = record { sound = m.sound; kept = m.kept; longer = front_whole a.hyps.items b.hyps.items m.front; count = m.count; owed = m.owed; ends = ends }
