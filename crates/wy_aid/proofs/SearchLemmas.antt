-- The conditions of a program, as a search takes them.
use Rattle.std.proofs.Common.{◌≡◌, ◌<◌, ℕ, List, All, length, get_or, sym, subst}
use Rattle.std.proofs.lemmas.List.Elements.{All-weaker}
use Rattle.wy_term.specs.Nodes.{Plain}
use Rattle.wy_term.specs.declared.cond.Cond.{Cond}
use Rattle.wy_vc.specs.Told.{IsCond, IsEntry}

-- a condition of a list
pub cond_at : (nodes : List Plain) (cs : List Cond) (i : ℕ) (c : Cond) → All (IsCond nodes) cs → i < length cs → c ≡ get_or cs i c → IsCond nodes c
cond_at nodes cs i c all lt is = subst (IsCond nodes) (sym is) (all i c lt)

pub hyps_below : (old new : List Plain) (c : Cond) → length new ≡ length old → IsCond old c → All (λ (h : ℕ). h < length new) c.hyps.items
hyps_below old new c same h = subst (λ (n : ℕ). All (λ (h : ℕ). h < n) c.hyps.items) (sym same) h.hyps

pub goal_below : (old new : List Plain) (c : Cond) → length new ≡ length old → IsCond old c → c.goal < length new
goal_below old new c same h = subst (λ (n : ℕ). c.goal < n) (sym same) h.goal

pub types_below : (old new : List Plain) (c : Cond) → length new ≡ length old → IsCond old c → All (λ (e : ℕ × ℕ × ℕ). (e.1 < length new) × (e.2 < length new)) c.unfold.list.items
types_below old new c same h =
    subst (λ (n : ℕ). All (λ (e : ℕ × ℕ × ℕ). (e.1 < n) × (e.2 < n)) c.unfold.list.items) (sym same)
    (All-weaker (IsEntry old) (λ (e : ℕ × ℕ × ℕ). (e.1 < length old) × (e.2 < length old)) (λ (e : ℕ × ℕ × ℕ) (i : IsEntry old e). (i.name, i.formula)) c.unfold.list.items h.entries)
