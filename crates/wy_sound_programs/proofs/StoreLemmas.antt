-- Stores at points of typing: with another value for a variable, behind a test, where paths meet, and along a loop.
use Rattle.std.proofs.Common.{◌≡◌, ◌⊎◌, inl, inr, ℕ, ◌<◌, List, [], Bool, true, false, ◌==◌, Option, Some, None, refl, sym, ap, ◌∙◌, subst}
use Rattle.wy_lemmas.proofs.Choices.{both_true as two_true, apart_of, false_true as no_truth}
use Rattle.wy_sound_statements.proofs.wy_sound_kinds_proofs.frames_lemmas.FrameLemmas.{put_other}
use Rattle.wy_value.specs.Datum.{Datum}
use Rattle.wy_core.specs.Types.{Ty, InterTy}
use Rattle.wy_types.specs.Names.{Declared, Up}
use Rattle.wy_types.specs.Recursion.{RecurThroughParts}
use Rattle.wy_subtype_parts.specs.Norms.{IsNorm}
use Rattle.wy_sound_statements.specs.wy_flow_spec.environment.Slots.{slot_at}
use Rattle.wy_sound_statements.specs.wy_flow_spec.environment.Variables.{Environment, Changes, given, changed, type_of}
use Rattle.wy_sem.specs.Expressions.{Store, slot, put}
use Rattle.wy_sem.specs.Statements.{type_at}
use Rattle.wy_vc_spec.specs.Spots.{Spot, is_set, mark}
use Rattle.wy_sound_statements.specs.wy_sound_walks.expressions.Types.{is_in}
use Rattle.wy_sound_statements.specs.wy_sound_kinds.frames.Frames.{Keeps}
use Rattle.wy_sound_statements.proofs.wy_types_laws_proofs.parts_lemmas.NormLemmas.{norms_same}
use Rattle.wy_sound_statements.specs.wy_sound_kinds.Bounded.{IsBounded}
use Rattle.wy_sound_statements.specs.wy_sound_kinds.Kinds.{HasTypes}
use Rattle.wy_sound_statements.proofs.wy_sound_kinds_proofs.TypeLemmas.{put_length, put_same}
use Rattle.wy_sound_statements.proofs.StoreLemmas.{declared_put, declared_unset}
use Rattle.wy_sound_programs.specs.Typed.{Has, Holds}
use Rattle.wy_sound_programs.proofs.SlotLemmas.{same_or_apart, same_slot, mark_same, mark_other, given_reached, given_same, given_other, type_here, type_same, changed_types}
use Rattle.wy_sound_programs.proofs.JoinLemmas.{In}
use Rattle.wy_sound_programs.proofs.HeadLemmas.{Headed, Old, New}

pub same_datum : (a b : Datum) → ◌≡◌ {A = Option Datum} (Some a) (Some b) → a ≡ b
same_datum a b e = cc

-- a datum in a value of a declared type
pub in_both : (names : List Declared) → RecurThroughParts names → (a t made : Ty) → IsNorm names (InterTy a t) made → (d : Datum) → Up names d a ≡ true → Up names d t ≡ true → Up names d made ≡ true
in_both names recur a t made normal d e f = norms_same names recur (InterTy a t) made normal d ∙ two_true (Up names d a) (Up names d t) e f

-- ---- types of variables

pub in_of : (names : List Declared) (env : Environment) (x : ℕ) (d : Datum) → env.reached ≡ true → Has env x → Up names d (type_of env [] x) ≡ true → In names env x d
in_of names env x d reached h e = record { reached = reached; ty = h.0; slot = h.1; inside = sym (ap (Up names d) (type_here env x h.0 reached h.1)) ∙ e }

pub of_in : (names : List Declared) (env : Environment) (x : ℕ) (d : Datum) → In names env x d → Up names d (type_of env [] x) ≡ true
of_in names env x d i = ap (Up names d) (type_here env x i.ty i.reached i.slot) ∙ i.inside

module _ (names : List Declared) (types : List Ty) (members : ℕ → Datum → Bool) (many : ℕ) where
  abbrev H : Environment → (ℕ → Bool) → Store → Type 0
  H = Holds names types members many

  -- the value of a marked variable is one that a program may hold
  pub bounded_at : (env : Environment) (seen : ℕ → Bool) (s : Store) (x : ℕ) (d : Datum) → H env seen s → seen x ≡ true → slot s x ≡ Some d → IsBounded d
  bounded_at env seen s x d h on e = let o = h.values x on in subst IsBounded (same_datum o.0 d (sym o.1 ∙ e)) o.2

  -- at other marks that are among these
  pub fewer : (env : Environment) (seen less : ℕ → Bool) (s : Store) → ((x : ℕ) → less x ≡ true → seen x ≡ true) → H env seen s → H env less s
  fewer env seen less s sub h = record { size = h.size; values = λ x e. h.values x (sub x e); typed = λ x d e q. h.typed x d (sub x e) q; declared = h.declared }

  -- ---- another value

  module _ (env next : Environment) (q r : Spot) (s : Store) (x : ℕ) (made : Ty) (reached : env.reached ≡ true) (is : next ≡ given env x made) (h : H env (is_set q.set) s) where
    old_type : (y : ℕ) → (x == y) ≡ false → type_of next [] y ≡ type_of env [] y
    old_type y g = ap (λ (e : Environment). type_of e [] y) is ∙ type_same env (given env x made) y reached (given_reached env x made reached) (given_other env x made y reached (apart_of x y g))

    new_type : type_of next [] x ≡ made
    new_type = ap (λ (e : Environment). type_of e [] x) is ∙ type_here (given env x made) x made (given_reached env x made reached) (given_same env x made reached)

    module _ (d : Datum) (set : r.set ≡ mark q.set x true) (lt : x < many) (bounded : IsBounded d) (inside : Up names d made ≡ true) (member : is_in members (type_at types x) d ≡ true) where
      here : slot (put s x (Some d)) x ≡ Some d
      here = put_same s x (Some d) (subst (λ (n : ℕ). x < n) (sym h.size) lt)

      marked : (y : ℕ) → is_set r.set y ≡ true → (x == y) ≡ false → is_set q.set y ≡ true
      marked y e g = sym (mark_other q.set x true y (apart_of x y g)) ∙ (sym (ap (λ (l : List Bool). is_set l y) set) ∙ e)

      pub put_holds : H next (is_set r.set) (put s x (Some d))
      put_holds = record {
        size = put_length s x (Some d) ∙ h.size;
        values = λ y e. by_value y e (same_or_apart x y);
        typed = λ y c e o. by_type y c e o (same_or_apart x y);
        declared = declared_put types members s x d h.declared member;
      } where
        by_value : (y : ℕ) → is_set r.set y ≡ true → (x ≡ y) ⊎ ((x == y) ≡ false) → (c : Datum) × (slot (put s x (Some d)) y ≡ Some c) × IsBounded c
        by_value y e (inl g) = (d, subst (λ (z : ℕ). slot (put s x (Some d)) z ≡ Some d) g here, bounded)
        by_value y e (inr g) = let o = h.values y (marked y e g) in (o.0, put_other s x (Some d) y (apart_of x y g) ∙ o.1, o.2)

        by_type : (y : ℕ) (c : Datum) → is_set r.set y ≡ true → slot (put s x (Some d)) y ≡ Some c → (x ≡ y) ⊎ ((x == y) ≡ false) → Up names c (type_of next [] y) ≡ true
        by_type y c e o (inl g) =
            let is_d : d ≡ c = same_datum d c (sym here ∙ (ap (slot (put s x (Some d))) g ∙ o)) in
            subst (λ (z : ℕ). Up names c (type_of next [] z) ≡ true) g (ap (Up names c) new_type ∙ subst (λ (a : Datum). Up names a made ≡ true) is_d inside)
        by_type y c e o (inr g) = ap (Up names c) (old_type y g) ∙ h.typed y c (marked y e g) (sym (put_other s x (Some d) y (apart_of x y g)) ∙ o)

    module _ (set : r.set ≡ mark q.set x false) where
      not_here : {X : Type 0} → is_set r.set x ≡ true → X
      not_here e = no_truth (sym (mark_same q.set x false) ∙ (sym (ap (λ (l : List Bool). is_set l x) set) ∙ e))

      others : (y : ℕ) → is_set r.set y ≡ true → (x == y) ≡ false → is_set q.set y ≡ true
      others y e g = sym (mark_other q.set x false y (apart_of x y g)) ∙ (sym (ap (λ (l : List Bool). is_set l y) set) ∙ e)

      pub unset_holds : H next (is_set r.set) (put s x None)
      unset_holds = record {
        size = put_length s x None ∙ h.size;
        values = λ y e. by_value y e (same_or_apart x y);
        typed = λ y c e o. by_type y c e o (same_or_apart x y);
        declared = declared_unset types members s x h.declared;
      } where
        by_value : (y : ℕ) → is_set r.set y ≡ true → (x ≡ y) ⊎ ((x == y) ≡ false) → (c : Datum) × (slot (put s x None) y ≡ Some c) × IsBounded c
        by_value y e (inl g) = not_here (ap (is_set r.set) g ∙ e)
        by_value y e (inr g) = let o = h.values y (others y e g) in (o.0, put_other s x None y (apart_of x y g) ∙ o.1, o.2)

        by_type : (y : ℕ) (c : Datum) → is_set r.set y ≡ true → slot (put s x None) y ≡ Some c → (x ≡ y) ⊎ ((x == y) ≡ false) → Up names c (type_of next [] y) ≡ true
        by_type y c e o (inl g) = not_here (ap (is_set r.set) g ∙ e)
        by_type y c e o (inr g) = ap (Up names c) (old_type y g) ∙ h.typed y c (others y e g) (sym (put_other s x None y (apart_of x y g)) ∙ o)

  -- ---- behind a test

  pub changed_holds : (env : Environment) (cs : Changes) (seen : ℕ → Bool) (s : Store) → env.reached ≡ true → HasTypes names env cs seen s → H env seen s → H (changed env cs) seen s
  changed_holds env cs seen s reached t h = record { size = h.size; values = h.values; typed = λ x d on e. ap (Up names d) (changed_types cs env x reached) ∙ t x d on e; declared = h.declared }

  -- ---- where paths meet

  -- from the one point to the other, at which fewer variables are marked, each of which keeps its type
  pub meets_holds : (env next : Environment) (seen less : ℕ → Bool) (s : Store) → ((x : ℕ) → less x ≡ true → seen x ≡ true) → env.reached ≡ true → ((x : ℕ) → less x ≡ true → Has env x) → ((x : ℕ) (d : Datum) → less x ≡ true → In names env x d → In names next x d) → H env seen s → H next less s
  meets_holds env next seen less s sub reached has on h = record {
    size = h.size;
    values = λ x e. h.values x (sub x e);
    typed = λ x d e q. of_in names next x d (on x d e (in_of names env x d reached (has x e) (h.typed x d (sub x e) q)));
    declared = h.declared;
  }

  -- ---- loops

  -- a variable that is assigned has its declared type at the head
  abbrev pub Renews : Environment → (ℕ → Bool) → (ℕ → Bool) → Type 0
  Renews start kept assigned = (x : ℕ) → kept x ≡ true → assigned x ≡ true → (d : Datum) → IsBounded d → is_in members (type_at types x) d ≡ true → Up names d (type_of start [] x) ≡ true

  -- behind what keeps other variables, the store is still as at the head
  pub carry : (start env : Environment) (kept seen assigned unset : ℕ → Bool) (s t : Store) → Renews start kept assigned → ((x : ℕ) → kept x ≡ true → unset x ≡ false) → ((x : ℕ) → kept x ≡ true → seen x ≡ true) → H start kept s → Keeps assigned unset s t → H env seen t → H start kept t
  carry start env kept seen assigned unset s t renews lasts sub h keeps g = record {
    size = g.size;
    values = λ x e. g.values x (sub x e);
    typed = λ x d e q. by x d e q (assigned x) refl;
    declared = g.declared;
  } where
    by : (x : ℕ) (d : Datum) → kept x ≡ true → slot t x ≡ Some d → (b : Bool) → assigned x ≡ b → Up names d (type_of start [] x) ≡ true
    by x d e q true a = renews x e a d (bounded_at env seen t x d g (sub x e) q) (g.declared x d q)
    by x d e q false a = h.typed x d e (sym (keeps.others x a (lasts x e)) ∙ q)

  module _ (recur : RecurThroughParts names) (upward : (x : ℕ) (d : Datum) → IsBounded d → is_in members (type_at types x) d ≡ true → Up names d (type_at types x) ≡ true) (declared : List (Option Ty)) (xs : List ℕ) (env start : Environment)
      (hd : Headed names declared xs env start) where
    new_in : (x : ℕ) (d : Datum) → slot_at declared x ≡ Some (type_at types x) → New names declared start x → IsBounded d → is_in members (type_at types x) d ≡ true → Up names d (type_of start [] x) ≡ true
    new_in x d known n bounded member =
        let is : n.ty ≡ type_at types x = same_slot n.ty (type_at types x) (sym n.known ∙ known) in
        ap (Up names d) (type_here start x n.made hd.reached n.slot) ∙ (norms_same names recur n.ty n.made n.normal d ∙ (ap (Up names d) is ∙ upward x d bounded member))

    -- a store before a loop is one at its head
    pub head_holds : (seen : ℕ → Bool) (s : Store) → env.reached ≡ true → ((x : ℕ) → seen x ≡ true → slot_at declared x ≡ Some (type_at types x)) → H env seen s → H start seen s
    head_holds seen s reached known h = record {
      size = h.size;
      values = h.values;
      typed = λ x d e q. by x d e q (hd.each x);
      declared = h.declared;
    } where
      by : (x : ℕ) (d : Datum) → seen x ≡ true → slot s x ≡ Some d → Old declared xs env start x ⊎ New names declared start x → Up names d (type_of start [] x) ≡ true
      by x d e q (inl o) = ap (Up names d) (type_same env start x reached hd.reached o.1) ∙ h.typed x d e q
      by x d e q (inr n) = new_in x d (known x e) n (bounded_at env seen s x d h e q) (h.declared x d q)

    -- a variable that the body assigns has its declared type there
    pub head_renews : (kept assigned : ℕ → Bool) → ((x : ℕ) → kept x ≡ true → slot_at declared x ≡ Some (type_at types x)) → ((x : ℕ) → kept x ≡ true → assigned x ≡ true → (Old declared xs env start x → ⊥)) → Renews start kept assigned
    head_renews kept assigned known apart x e a d bounded member = by (hd.each x) where
      by : Old declared xs env start x ⊎ New names declared start x → Up names d (type_of start [] x) ≡ true
      by (inl o) = absurd (apart x e a o)
      by (inr n) = new_in x d (known x e) n bounded member
