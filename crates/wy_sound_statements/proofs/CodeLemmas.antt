-- Expressions of code, calls in them, tests, and values that come into variables.
use Rattle.std.proofs.Common.{◌≡◌, ℕ, ◌≤◌, List, length, Bool, true, false, Some, refl, sym, ap, ◌∙◌, subst, arith}
use Rattle.wy_value.specs.Datum.{Datum, Null, Truth, Whole, Array, Record}
use Rattle.wy_core.specs.Types.{Ty}
use Rattle.wy_core.specs.CoreTree.{Expr, Exprs}
use Rattle.wy_term.specs.Term.{Term}
use Rattle.wy_term.specs.Sorts.{val_sort}
use Rattle.wy_term.specs.Meaning.{Names}
use Rattle.wy_sound_kinds.specs.wy_sem.Meter.{Meter, Done}
use Rattle.wy_sound_kinds.specs.wy_sem.Operations.{as_truth}
use Rattle.wy_sound_kinds.specs.wy_sem.Expressions as sem
use Rattle.wy_sound_kinds.specs.wy_sem.Expressions.{Store, put}
use Rattle.wy_sound_kinds.specs.wy_sem.TypeTests.{Test}
use Rattle.wy_sound_kinds.specs.wy_sem.Statements as run
use Rattle.wy_sound_kinds.specs.wy_sem.Statements.{Exit, Went, Frame, type_at}
use Rattle.wy_sound_kinds.specs.wy_vc_spec.Numbered.{Node}
use Rattle.wy_sound_kinds.specs.wy_vc_spec.Variables.{Vars}
use Rattle.wy_sound_kinds.specs.wy_vc_spec.Values.{Setting, named_in}
use Rattle.wy_sound_kinds.specs.wy_vc_spec.Owed.{Owed}
use Rattle.wy_sound_kinds.specs.wy_vc_spec.Clauses.{in_type, owe_member}
use Rattle.wy_sound_kinds.specs.wy_vc_spec.Calls.{Walked, call_walk}
use Rattle.wy_sound_kinds.specs.wy_vc_spec.Walks.{WalkedAll, walk_all}
use Rattle.wy_sound_kinds.specs.wy_vc_spec.Spots.{Spot, is_set}
use Rattle.wy_sound_kinds.specs.wy_vc_spec.Statements.{Body, words, expr as walked_expr, given}
use Rattle.wy_sound_kinds.proofs.wy_sound_terms_proofs.formed_lemmas.MakingLemmas.{AllOf}
use Rattle.wy_sound_kinds.proofs.wy_sound_terms_proofs.formed_lemmas.ValueLemmas.{AreData, holds_sorted, named_sorted}
use Rattle.wy_sound_kinds.specs.wy_sound_terms.operations.Kinds.{IsTruth}
use Rattle.wy_sound_kinds.specs.wy_sound_walks.expressions.Names.{Agree, Known, AllMean, Stand}
use Rattle.wy_sound_kinds.specs.wy_sound_walks.expressions.Truth.{AreTrueBy, Good}
use Rattle.wy_sound_kinds.specs.wy_sound_walks.expressions.Types.{is_in}
use Rattle.wy_sound_kinds.specs.wy_sound_walks.expressions.Written.{IsWritten}
use Rattle.wy_sound_kinds.specs.wy_sound_walks.expressions.Suits.{Each, Suits, AllSuit}
use Rattle.wy_sound_kinds.specs.wy_sound_walks.expressions.Sound.{Ok}
use Rattle.wy_sound_kinds.specs.wy_sound_walks.expressions.Laws.{NamesTold}
use Rattle.wy_sound_kinds.proofs.wy_sound_walks_proofs.expressions_lemmas.NameLemmas.{agree_trans, right_later, stand_later}
use Rattle.wy_sound_kinds.proofs.wy_sound_walks_proofs.expressions_lemmas.GoodLemmas.{good_map, good_bind}
use Rattle.wy_sound_kinds.proofs.wy_sound_walks_proofs.expressions_lemmas.ValueGrows.{named_grows}
use Rattle.wy_sound_kinds.proofs.wy_sound_walks_proofs.expressions_lemmas.CallGrows.{in_type_grows, call_grows, call_sorted}
use Rattle.wy_sound_kinds.proofs.wy_sound_walks_proofs.expressions_lemmas.GenericWalks.{walk_is, all_is}
use Rattle.wy_sound_kinds.proofs.wy_sound_walks_proofs.expressions_lemmas.ListLemmas.{OkAll, OkResult}
use Rattle.wy_sound_kinds.proofs.wy_sound_walks_proofs.expressions_lemmas.ExpressionLemmas.{expr, exprs}
use Rattle.wy_sound_kinds.proofs.wy_sound_walks_proofs.expressions_lemmas.LawLemmas.{tells_by}
use Rattle.wy_sound_kinds.specs.wy_sound_walks.joins.Points.{At}
use Rattle.wy_sound_statements.specs.calls.CallLaws.{Returned}
use Rattle.wy_sound_statements.proofs.calls_lemmas.ArgumentLemmas.{given_right}
use Rattle.wy_sound_statements.specs.steps.Steps.{Behind, IsIn}
use Rattle.wy_sound_statements.proofs.steps_lemmas.StepLemmas.{values_come_in}
use Rattle.wy_sound_statements.specs.StatementSuits.{IsFree}
use Rattle.wy_sound_statements.specs.Ends.{AreDeclared, frame_at, Exits, Rests, AreHandled, GiveValues, code_kinds}
use Rattle.wy_sound_statements.proofs.PlaceLemmas.{end_back, are_values, good_both}
use Rattle.wy_sound_statements.proofs.StoreLemmas.{declared_put}

-- a truth value goes on as it is
pub truth_end : (q : Bool) (n : ℕ) (names : Names) (m : ℕ) (hyps : List Term) (term : Term) (place : ℕ) (d : Datum) (j : Meter) → IsTruth d → Ok q n names m hyps term d
    → Good (Unit {0}) (as_truth place d Done j) (λ c. Ok q n names m hyps term (Truth c) × (d ≡ Truth c))
truth_end q n names m hyps term place (Truth c) j is x = (x, refl)
truth_end q n names m hyps term place Null j is x = absurd is
truth_end q n names m hyps term place (Whole z) j is x = absurd is
truth_end q n names m hyps term place (Array ds) j is x = absurd is
truth_end q n names m hyps term place (Record fs) j is x = absurd is

module _ (w : sem.Setting Node) (b : Body Node) (members : ℕ → Datum → Bool) (takes : ℕ → List Datum → Bool) (told : NamesTold members (named_in b.program.setting)) (handles : AreHandled w b members takes) (gives : GiveValues w takes) where
  abbrev s : Setting Node
  s = b.program.setting

  abbrev call : ℕ → ℕ → List Term → List Term → ℕ → Walked
  call = call_walk b.program.setting b.program.routines

  handled : (f from at n : ℕ) (ts hyps : List Term) (names : Names) (vs : List Datum) (m : Meter) → takes f vs ≡ true → names.is_member ≡ members → AllOf val_sort ts → AllMean n names ts vs → Known n names hyps
      → Good (AreTrueBy members (call f from ts hyps n).owed) (w.call f at vs m) (OkResult false n names (call f from ts hyps n).count (call f from ts hyps n).hyps (call f from ts hyps n).term)
  handled f from at n ts hyps names vs m may right are means h =
      let c = call f from ts hyps n in
      good_map (AreTrueBy members c.owed) (w.call f at vs m) (Returned n names c) (OkResult false n names c.count c.hyps c.term) (handles f from at n ts hyps names vs m may right (are_values ts are) means h)
      (λ v k e r.
      let d = gives f at vs m k v may e in
      record { value = d.0; is = d.1; ok = record { later = r.later; goes = r.agree; known = r.known; means = r.means d.0 d.1; is = (call_sorted s b.program.routines f from ts hyps n).has } })

  -- an expression of code
  pub code_right : (e : Expr Node) (vars : Vars) (hyps : List Term) (n : ℕ) (names : Names) (seen : ℕ → Bool) (st : Store) (m : Meter) → Suits (code_kinds w b members takes) false seen e st → names.is_member ≡ members → AreData vars → Stand n names vars seen st → Known n names hyps
      → Good (AreTrueBy members (walked_expr b e vars hyps n).owed) (sem.eval w true e st m) (Ok false n names (walked_expr b e vars hyps n).count (walked_expr b e vars hyps n).hyps (walked_expr b e vars hyps n).term)
  code_right e vars hyps n names seen st m su right da sd h =
      subst (λ (r : Walked). Good (AreTrueBy members r.owed) (sem.eval w true e st m) (Ok false n names r.count r.hyps r.term))
      (sym (walk_is s call (words b) e vars hyps n))
      (expr (code_kinds w b members takes) s.place s.types members (in_type s) call
      (λ t v i. in_type_grows s t v i)
      (λ t i v is. holds_sorted (named_sorted s) t i is)
      (tells_by members (named_in s) (named_sorted s) (λ number i u. named_grows s (length s.types) number i u) told)
      (λ f at ts hs i. call_grows s b.program.routines f at ts hs i)
      (λ f at i ts hs all. call_sorted s b.program.routines f at ts hs i)
      handled
      (words b) e false vars hyps n names seen st m su right da sd h)

  pub codes_right : (es : Exprs Node) (vars : Vars) (hyps : List Term) (n : ℕ) (names : Names) (seen : ℕ → Bool) (st : Store) (m : Meter) → AllSuit (code_kinds w b members takes) false seen es st → names.is_member ≡ members → AreData vars → Stand n names vars seen st → Known n names hyps
      → Good (AreTrueBy members (walk_all s call (words b) es vars hyps n).owed) (sem.eval_all w true es st m) (OkAll false n names (walk_all s call (words b) es vars hyps n).count (walk_all s call (words b) es vars hyps n).hyps (walk_all s call (words b) es vars hyps n).terms)
  codes_right es vars hyps n names seen st m su right da sd h =
      subst (λ (r : WalkedAll). Good (AreTrueBy members r.owed) (sem.eval_all w true es st m) (OkAll false n names r.count r.hyps r.terms))
      (sym (all_is s call (words b) es vars hyps n))
      (exprs (code_kinds w b members takes) s.place s.types members (in_type s) call
      (λ t v i. in_type_grows s t v i)
      (λ t i v is. holds_sorted (named_sorted s) t i is)
      (tells_by members (named_in s) (named_sorted s) (λ number i u. named_grows s (length s.types) number i u) told)
      (λ f at ts hs i. call_grows s b.program.routines f at ts hs i)
      (λ f at i ts hs all. call_sorted s b.program.routines f at ts hs i)
      handled
      (words b) es false vars hyps n names seen st m su right da sd h)

  -- what a test gives, and what its expression gave
  abbrev pub Tested : Expr Node → Store → ℕ → Names → Walked → Bool → Type 0
  Tested e st n names v c = Ok false n names v.count v.hyps v.term (Truth c) × ((m : Meter) × (k : Meter) × (sem.eval w true e st m ≡ Done (Truth c) k))

  -- the test of an `if` or a loop
  pub test_right : (place : ℕ) (e : Expr Node) (vars : Vars) (hyps : List Term) (n : ℕ) (names : Names) (seen : ℕ → Bool) (st : Store) (m : Meter) → Suits (code_kinds w b members takes) false seen e st → Each (code_kinds w b members takes) e st IsTruth
      → names.is_member ≡ members → AreData vars → Stand n names vars seen st → Known n names hyps
      → Good (AreTrueBy members (walked_expr b e vars hyps n).owed) (run.tested_truth w place e st m) (Tested e st n names (walked_expr b e vars hyps n))
  test_right place e vars hyps n names seen st m su truth right da sd h =
      let v = walked_expr b e vars hyps n in
      let A = AreTrueBy members v.owed in
      good_bind A A (Unit {0}) (sem.eval w true e st m) (λ d. as_truth place d Done) (Ok false n names v.count v.hyps v.term) (Tested e st n names v) (λ a. a) (λ a. tt)
      (code_right e vars hyps n names seen st m su right da sd h)
      (λ d j q x. good_map (Unit {0}) (as_truth place d Done j) (λ c. Ok false n names v.count v.hyps v.term (Truth c) × (d ≡ Truth c)) (Tested e st n names v) (truth_end false n names v.count v.hyps v.term place d j (truth d m j q) x)
      (λ c l r y. (y.0, (m, j, q ∙ ap (λ (a : Datum). Done a j) y.1))))

module _ (w : sem.Setting Node) (b : Body Node) (members : ℕ → Datum → Bool) (owed : Ty → Datum → Test) (vs : List Datum) (n : ℕ) (names : Names) (rests : Rests w b members owed vs n names) where
  abbrev fr : Frame Node
  fr = frame_at b owed vs

  -- a value comes into a variable of the type, from an expression that was walked at names behind those of the point
  pub comes_right : (around : List (Expr Node)) (at : ℕ) (t : Ty) (x : ℕ) (gone : List Owed) (p : Spot) (m : ℕ) (st : Store) (v : Walked) (d : Datum) (k : Meter) → n ≤ m → m ≤ v.count → IsWritten t → type_at b.types x ≡ t → (h : At n names m p st) → AreDeclared b.types members st
      → Ok false m h.later v.count v.hyps v.term d → IsFree b members t d
      → Good (AreTrueBy members (owe_member b.program.setting at t v.term v.hyps v.count).owed) (run.stored fr at x t st d k) (Exits w b members vs n names around (given b at t x v.term gone p v.hyps v.count))
  comes_right around at t x gone p m st v d k le up wr is h decl o free =
      let s = b.program.setting in
      let A = AreTrueBy members (owe_member s at t v.term v.hyps v.count).owed in
      let f = given b at t x v.term gone p v.hyps v.count in
      let agree : Agree n names o.later = agree_trans n m names h.later o.later le h.agree o.goes in
      let right = right_later members n names o.later rests.right agree in
      let behind : Behind members p v.hyps v.count o.later st v.term d =
      record { right = right; known = o.known; stand = stand_later m v.count h.later o.later p.vars (is_set p.set) st up o.goes h.stand; is = o.is; means = o.means } in
      let Q : Exit → Type 0 = IsIn v.count o.later f.count f.ends (put st x (Some d)) in
      let P : Exit → Type 0 = λ y. is_in members t d ≡ true in
      good_map A (run.stored fr at x t st d k) (λ y. Q y × P y) (Exits w b members vs n names around f)
      (good_both A (run.stored fr at x t st d k) Q P
      (values_come_in fr b members rests.told rests.checks at at t x v.term gone p v.hyps v.count o.later st d k wr free behind)
      (given_right s members owed rests.told rests.checks A P at at v.count t v.term v.hyps o.later d (Done (Went (put st x (Some d)))) wr free right (record { has = o.is }) o.means o.known (λ a. a) (λ q known l. q) k))
      (λ y l e z.
      subst (Exits w b members vs n names around f) (sym z.0.0) (
        end_back n v.count f.count names o.later f.ends (put st x (Some d)) (omega (arith, le, up)) agree z.0.1,
        declared_put b.types members st x d decl (subst (λ (u : Ty). is_in members u d ≡ true) (sym is) z.1),
      ))
