-- The steps of a path follow their walk.
use Rattle.std.proofs.Common.{◌≡◌, ℕ, ◌≤◌, List, [], ◌∷◌, ◌++◌, Bool, true, false, ◌&&◌, Option, ℤ, pos, negsuc, int_le, int_lt, refl, sym, ap, ◌∙◌, subst}
use Rattle.wy_lemmas.proofs.Choices.{true_false as not_both}
use Rattle.wy_value.specs.Datum.{Datum, Null, Truth, Whole, Array, Record, Data}
use Rattle.wy_value.specs.Values.{length_of}
use Rattle.wy_core.specs.CoreTree.{Step, IndexStep, FieldStep}
use Rattle.wy_term.specs.declared.cond.CondKind.TheVariants as kind
use Rattle.wy_term.specs.Term.{Term}
use Rattle.wy_term.specs.Data as shapes
use Rattle.wy_term.specs.Meaning.{Names}
use Rattle.wy_sound_kinds.specs.wy_sem.Meter.{Meter, Done, Run, ◌>>=◌, check}
use Rattle.wy_sound_kinds.specs.wy_sem.Operations.{nat_of, item_at, find, is_index, as_fields, needed, indexed, Slot, ItemSlot, FieldSlot}
use Rattle.wy_sound_kinds.specs.wy_sem.Expressions as sem
use Rattle.wy_sound_kinds.specs.wy_sem.Expressions.{Store}
use Rattle.wy_sound_kinds.specs.wy_sem.Statements as run
use Rattle.wy_sound_kinds.specs.wy_vc_spec.Making.{field}
use Rattle.wy_sound_kinds.specs.wy_vc_spec.Numbered.{Node}
use Rattle.wy_sound_kinds.specs.wy_vc_spec.Variables.{Vars}
use Rattle.wy_sound_kinds.specs.wy_vc_spec.Values.{named_in}
use Rattle.wy_sound_kinds.specs.wy_vc_spec.Owed.{assume_all, owe}
use Rattle.wy_sound_kinds.specs.wy_vc_spec.Operations as op
use Rattle.wy_sound_kinds.specs.wy_vc_spec.Walks.{index_goals}
use Rattle.wy_sound_kinds.specs.wy_vc_spec.Statements.{Body, expr, Part, ElementOf, FieldOf, along}
use Rattle.wy_sound_kinds.proofs.wy_sound_terms_proofs.formed_lemmas.ValueLemmas.{AreData}
use Rattle.wy_sound_kinds.specs.wy_sound_terms.operations.Kinds.{IsWhole, IsArray}
use Rattle.wy_sound_kinds.specs.wy_sound_terms.operations.Updates.{Leads}
use Rattle.wy_sound_kinds.proofs.wy_sound_terms_proofs.operations_lemmas.DataLemmas.{field_is}
use Rattle.wy_sound_kinds.proofs.wy_sound_terms_proofs.operations_lemmas.FollowLemmas.{all_true, true_all}
use Rattle.wy_sound_kinds.proofs.wy_sound_terms_proofs.operations_lemmas.MadeLemmas.{all, field_means}
use Rattle.wy_sound_kinds.proofs.wy_sound_terms_proofs.operations_lemmas.OtherLemmas.{index_is, element_means}
use Rattle.wy_sound_kinds.specs.wy_sound_walks.expressions.Names.{Agree, Known, Means, Stand}
use Rattle.wy_sound_kinds.specs.wy_sound_walks.expressions.Truth.{AreTrueBy, Good}
use Rattle.wy_sound_kinds.specs.wy_sound_walks.expressions.Sound.{Ok}
use Rattle.wy_sound_kinds.specs.wy_sound_walks.expressions.Laws.{NamesTold}
use Rattle.wy_sound_kinds.proofs.wy_sound_walks_proofs.expressions_lemmas.NameLemmas.{agree_refl, agree_trans, means_later, stand_later, right_later}
use Rattle.wy_sound_kinds.proofs.wy_sound_walks_proofs.expressions_lemmas.GoodLemmas.{true_left, true_right, good_bind}
use Rattle.wy_sound_kinds.proofs.wy_sound_walks_proofs.expressions_lemmas.AssumeLemmas.{all_assumed_true, owed_true}
use Rattle.wy_sound_kinds.proofs.wy_sound_walks_proofs.points_lemmas.StayLemmas.{expr_up, along_up}
use Rattle.wy_sound_statements.specs.StatementSuits.{PathSuits}
use Rattle.wy_sound_statements.specs.Ends.{AreHandled, GiveValues, code_kinds}
use Rattle.wy_sound_statements.proofs.CodeLemmas.{code_right}

-- there are names behind the walk of a path, at which its parts lead into the datum as the steps do
pub record OkPath (n : ℕ) (names : Names) (m : ℕ) (hyps : List Term) (parts : List Part) (d : Datum) (slots : List Slot) : Type 0 where
  pub later : Names
  pub agree : Agree n names later
  pub known : Known m later hyps
  pub leads : (u : Names) → Agree m later u → Leads u parts slots d

index_is_pos : (z : ℤ) (ds : Data) → is_index z ds ≡ true → z ≡ pos (nat_of z)
index_is_pos (pos k) ds e = refl
index_is_pos (negsuc k) ds e = absurd (none e) where
  none : (int_le (pos 0) (negsuc k) && int_lt (negsuc k) (pos (length_of ds))) ≡ true → ⊥
  none q = absurd cc

module _ (w : sem.Setting Node) (b : Body Node) (members : ℕ → Datum → Bool) (takes : ℕ → List Datum → Bool) (told : NamesTold members (named_in b.program.setting)) (handles : AreHandled w b members takes) (gives : GiveValues w takes) (vars : Vars) (da : AreData vars) (seen : ℕ → Bool) (st : Store) where
  abbrev Path : List (Step Node) → Type 0
  Path steps =
      (whole : Term) (d : Datum) (hyps : List Term) (n : ℕ) (names : Names) (m : Meter) → PathSuits (code_kinds w b members takes) seen steps d st → names.is_member ≡ members → Stand n names vars seen st → Known n names hyps → Means n names whole d
      → Good (AreTrueBy members (along b steps whole vars hyps n).owed) (run.path_of w st steps d m) (OkPath n names (along b steps whole vars hyps n).count (along b steps whole vars hyps n).hyps (along b steps whole vars hyps n).parts d)

  -- the index was checked: where it is that of an item the path goes on there
  checked : (at : ℕ) (steps : List (Step Node)) (whole index : Term) (ds : Data) (z : ℤ) (hyps : List Term) (n c : ℕ) (names later : Names) (k : Meter) → n ≤ c → Agree n names later → later.is_member ≡ members → Stand c later vars seen st → Known c later hyps → Means c later whole (Array ds) → Means c later index (Whole z)
      → ((i : ℕ) → z ≡ pos i → is_index z ds ≡ true → PathSuits (code_kinds w b members takes) seen steps (item_at ds i) st) → Path steps → (bit : Bool) → is_index z ds ≡ bit
      → Good (AreTrueBy members (owe kind.Index at hyps (index_goals whole index) ++ (along b steps (op.element whole index) vars (assume_all hyps (index_goals whole index)) c).owed))
      (check bit kind.Index at (λ j. run.path_of w st steps (item_at ds (nat_of z)) j >>= (λ slots. Done (ItemSlot (nat_of z) ∷ slots))) k)
      (OkPath n names (along b steps (op.element whole index) vars (assume_all hyps (index_goals whole index)) c).count (along b steps (op.element whole index) vars (assume_all hyps (index_goals whole index)) c).hyps
      (ElementOf whole index ∷ (along b steps (op.element whole index) vars (assume_all hyps (index_goals whole index)) c).parts) (Array ds))
  checked at steps whole index ds z hyps n c names later k le a right sd h mw mi su more false e = λ t.
      let goals = index_goals whole index in
      let rest = along b steps (op.element whole index) vars (assume_all hyps goals) c in
      not_both (all later goals)
      (true_all later goals (owed_true members kind.Index at later right hyps goals (h later (agree_refl c later)) (true_left members (owe kind.Index at hyps goals) rest.owed t)))
      (index_is later whole index ds z (mw later (agree_refl c later)) (mi later (agree_refl c later)) ∙ e)
  checked at steps whole index ds z hyps n c names later k le a right sd h mw mi su more true e =
      let goals = index_goals whole index in
      let hyps2 = assume_all hyps goals in
      let rest = along b steps (op.element whole index) vars hyps2 c in
      let A = AreTrueBy members (owe kind.Index at hyps goals ++ rest.owed) in
      let B = AreTrueBy members rest.owed in
      let i = nat_of z in
      let is = index_is_pos z ds e in
      let P : List Slot → Type 0 = OkPath n names rest.count rest.hyps (ElementOf whole index ∷ rest.parts) (Array ds) in
      let known : Known c later hyps2 = λ u q. all_assumed_true u hyps goals (h u q) (all_true u goals (index_is u whole index ds z (mw u q) (mi u q) ∙ e)) in
      let up = along_up b steps (op.element whole index) vars hyps2 c in
      good_bind A B (Unit {0}) (run.path_of w st steps (item_at ds i) k) (λ slots. Done (ItemSlot i ∷ slots)) (OkPath c later rest.count rest.hyps rest.parts (item_at ds i)) P (true_right members (owe kind.Index at hyps goals) rest.owed) (λ t. tt)
      (more (op.element whole index) (item_at ds i) hyps2 c later k (su i is e) right sd known (λ u q. element_means u whole index ds z (mw u q) (mi u q) e))
      (λ slots j q o. record {
        later = o.later;
        agree = agree_trans n c names later o.later le a o.agree;
        known = o.known;
        leads = λ u r.
            let back = agree_trans c rest.count later o.later u up o.agree r in
            (mw u back, mi u back ∙ ap Whole is, subst (λ (y : ℤ). is_index y ds ≡ true) is e, o.leads u r);
      })

  by_index : (at : ℕ) (steps : List (Step Node)) (whole index : Term) (d c : Datum) (hyps : List Term) (n m : ℕ) (names later : Names) (k : Meter) → n ≤ m → Agree n names later → later.is_member ≡ members → Stand m later vars seen st → Known m later hyps → Means m later whole d → Means m later index c
      → IsArray d → IsWhole c → ((ds : Data) (i : ℕ) → d ≡ Array ds → c ≡ Whole (pos i) → is_index (pos i) ds ≡ true → PathSuits (code_kinds w b members takes) seen steps (item_at ds i) st) → Path steps
      → Good (AreTrueBy members (owe kind.Index at hyps (index_goals whole index) ++ (along b steps (op.element whole index) vars (assume_all hyps (index_goals whole index)) m).owed))
      (indexed at d c (λ ds i j. run.path_of w st steps (item_at ds i) j >>= (λ slots. Done (ItemSlot i ∷ slots))) k)
      (OkPath n names (along b steps (op.element whole index) vars (assume_all hyps (index_goals whole index)) m).count (along b steps (op.element whole index) vars (assume_all hyps (index_goals whole index)) m).hyps
      (ElementOf whole index ∷ (along b steps (op.element whole index) vars (assume_all hyps (index_goals whole index)) m).parts) d)
  by_index at steps whole index (Array ds) (Whole z) hyps n m names later k le a right sd h mw mi ar wh su more =
      checked at steps whole index ds z hyps n m names later k le a right sd h mw mi (λ i e q. su ds i refl (ap Whole e) (subst (λ (y : ℤ). is_index y ds ≡ true) e q)) more (is_index z ds) refl
  by_index at steps whole index (Array ds) Null hyps n m names later k le a right sd h mw mi ar wh su more = absurd wh
  by_index at steps whole index (Array ds) (Truth x) hyps n m names later k le a right sd h mw mi ar wh su more = absurd wh
  by_index at steps whole index (Array ds) (Array es) hyps n m names later k le a right sd h mw mi ar wh su more = absurd wh
  by_index at steps whole index (Array ds) (Record fs) hyps n m names later k le a right sd h mw mi ar wh su more = absurd wh
  by_index at steps whole index Null c hyps n m names later k le a right sd h mw mi ar wh su more = absurd ar
  by_index at steps whole index (Truth x) c hyps n m names later k le a right sd h mw mi ar wh su more = absurd ar
  by_index at steps whole index (Whole x) c hyps n m names later k le a right sd h mw mi ar wh su more = absurd ar
  by_index at steps whole index (Record fs) c hyps n m names later k le a right sd h mw mi ar wh su more = absurd ar

  pub path_right : (steps : List (Step Node)) → Path steps
  path_right [] whole d hyps n names m su right sd h mw = record { later = names; agree = agree_refl n names; known = h; leads = λ u a. tt }
  path_right (IndexStep at e ∷ steps) whole d hyps n names m su right sd h mw =
      let i = expr b e vars hyps n in
      let goals = index_goals whole i.term in
      let rest = along b steps (op.element whole i.term) vars (assume_all i.hyps goals) i.count in
      let up = expr_up b e vars hyps n in
      let last = owe kind.Index at i.hyps goals ++ rest.owed in
      let P : List Slot → Type 0 = OkPath n names rest.count rest.hyps (ElementOf whole i.term ∷ rest.parts) d in
      good_bind (AreTrueBy members (i.owed ++ last)) (AreTrueBy members i.owed) (AreTrueBy members last) (sem.eval w true e st m) (λ c. indexed at d c (λ ds k j. run.path_of w st steps (item_at ds k) j >>= (λ slots. Done (ItemSlot k ∷ slots))))
      (Ok false n names i.count i.hyps i.term) P (true_left members i.owed last) (true_right members i.owed last)
      (code_right w b members takes told handles gives e vars hyps n names seen st m su.0 right da sd h)
      (λ c j q x.
      let each = su.2 c m j q in
      by_index at steps whole i.term d c i.hyps n i.count names x.later j up x.goes (right_later members n names x.later right x.goes) (stand_later n i.count names x.later vars seen st up x.goes sd) x.known (means_later n i.count names x.later whole d up x.goes mw) x.means su.1 each.0 each.1 (path_right steps))
  path_right (FieldStep at name ∷ steps) whole d hyps n names m su right sd h mw =
      let rest = along b steps (field name whole) vars hyps n in
      let fs = su.0 in
      let part = su.3.0 in
      let A = AreTrueBy members rest.owed in
      let P : List Slot → Type 0 = OkPath n names rest.count rest.hyps (FieldOf name whole ∷ rest.parts) (Record fs) in
      let next : Datum → Run (List Slot) = λ x j. run.path_of w st steps x j >>= (λ slots. Done (FieldSlot name ∷ slots)) in
      let of_record : Means n names whole (Record fs) = λ u a. mw u a ∙ su.1 in
      let means : Means n names (field name whole) part = λ u a. field_means u name whole ∙ ap (λ (y : Datum). shapes.field_in y name) (of_record u a) ∙ field_is fs name part su.3.1 in
      let up = along_up b steps (field name whole) vars hyps n in
      let go : Good A (next part m) P =
      good_bind A A (Unit {0}) (run.path_of w st steps part m) (λ slots. Done (FieldSlot name ∷ slots)) (OkPath n names rest.count rest.hyps rest.parts part) P (λ t. t) (λ t. tt)
      (path_right steps (field name whole) part hyps n names m su.3.2 right sd h means)
      (λ slots j q o. record {
        later = o.later;
        agree = o.agree;
        known = o.known;
        leads = λ u r. (refl, (of_record u (agree_trans n rest.count names o.later u up o.agree r), su.2, (part, su.3.1, o.leads u r)));
      }) in
      let found : Good A (needed at (find fs name) next m) P = subst (λ (o : Option Datum). Good A (needed at o next m) P) (sym su.3.1) go in
      subst (λ (y : Datum). Good A (as_fields at y (λ gs. needed at (find gs name) next) m) (OkPath n names rest.count rest.hyps (FieldOf name whole ∷ rest.parts) y)) (sym su.1) found
