-- Types of variables at the head of a loop: those of variables that its body assigns are the declared ones.
use Rattle.std.proofs.Common.{◌≡◌, ◌⊎◌, inl, inr, ℕ, List, [], ◌∷◌, Bool, true, false, cond, ◌==◌, Option, Some, None, refl, ap, ◌∙◌, subst}
use Rattle.std.proofs.lemmas.Bool.{or_from}
use Rattle.wy_core.specs.Types.{Ty}
use Rattle.wy_lemmas.proofs.Choices.{apart_of}
use Rattle.wy_types.specs.Names.{Declared}
use Rattle.wy_subtype_parts.specs.Norms.{IsNorm}
use Rattle.wy_sound_statements.specs.wy_flow_spec.environment.Slots.{slot_at}
use Rattle.wy_sound_statements.specs.wy_flow_spec.environment.Variables.{Environment, given}
use Rattle.wy_sound_statements.specs.wy_flow_spec.typing.Outcomes.{Gives, Give}
use Rattle.wy_sound_statements.specs.wy_flow_spec.typing.Narrowing.{is_among}
use Rattle.wy_sound_statements.specs.wy_flow_spec.typing.States.{State}
use Rattle.wy_sound_statements.specs.wy_flow_spec.typing.Loops.{Renewed, RenewedAll, Head}
use Rattle.wy_sound_statements.proofs.wy_sound_kinds_proofs.TypeLemmas.{then_gives, given_is}
use Rattle.wy_sound_programs.proofs.SlotLemmas.{same_or_apart, given_reached, given_same, given_other}

-- the variable was declared, and has its declared type
pub record New (names : List Declared) (declared : List (Option Ty)) (out : Environment) (x : ℕ) : Type 0 where
  pub ty : Ty
  pub made : Ty
  pub known : slot_at declared x ≡ Some ty
  pub slot : slot_at out.types x ≡ Some made
  pub normal : IsNorm names ty made

-- or it isn't one of these variables, or wasn't declared, and has the type that it had
abbrev pub Old : List (Option Ty) → List ℕ → Environment → Environment → ℕ → Type 0
Old declared xs env out x = ((is_among xs x ≡ false) ⊎ (slot_at declared x ≡ None)) × (slot_at out.types x ≡ slot_at env.types x)

-- ---- one variable

record Step (names : List Declared) (declared : List (Option Ty)) (env out : Environment) (x : ℕ) : Type 0 where
  pub reached : out.reached ≡ true
  pub others : (y : ℕ) → (x == y) ≡ false → slot_at out.types y ≡ slot_at env.types y
  pub itself : ((slot_at declared x ≡ None) × (slot_at out.types x ≡ slot_at env.types x)) ⊎ New names declared out x

step : (names : List Declared) (at : ℕ) (declared : List (Option Ty)) (env out : Environment) (x : ℕ) (o : Option Ty) → env.reached ≡ true → slot_at declared x ≡ o → Renewed names at env x o (Gives out) → Step names declared env out x
step names at declared env out x None e q h =
    let is = given_is out env h in
    let same : (y : ℕ) → slot_at out.types y ≡ slot_at env.types y = λ y. ap (λ (v : Environment). slot_at v.types y) is in
    record { reached = ap (λ (v : Environment). v.reached) is ∙ e; others = λ y n. same y; itself = inl (q, same x) }
step names at declared env out x (Some t) e q h =
    let u = then_gives _ _ out h in
    let is : out ≡ given env x u.0 = given_is out (given env x u.0) u.2 in
    record {
      reached = ap (λ (v : Environment). v.reached) is ∙ given_reached env x u.0 e;
      others = λ y n. ap (λ (v : Environment). slot_at v.types y) is ∙ given_other env x u.0 y e (apart_of x y n);
      itself = inr (record { ty = t; made = u.0; known = q; slot = ap (λ (v : Environment). slot_at v.types x) is ∙ given_same env x u.0 e; normal = u.1.1 });
    }

-- ---- all variables

pub record Headed (names : List Declared) (declared : List (Option Ty)) (xs : List ℕ) (env out : Environment) : Type 0 where
  pub reached : out.reached ≡ true
  pub each : (x : ℕ) → Old declared xs env out x ⊎ New names declared out x

more : (names : List Declared) (declared : List (Option Ty)) (y : ℕ) (xs : List ℕ) (env mid out : Environment) (x : ℕ) → Step names declared env mid y → Old declared xs mid out x ⊎ New names declared out x → Old declared (y ∷ xs) env out x ⊎ New names declared out x
more names declared y xs env mid out x s (inr n) = inr n
more names declared y xs env mid out x s (inl o) = by (same_or_apart y x) where
  here : y ≡ x → ((slot_at declared y ≡ None) × (slot_at mid.types y ≡ slot_at env.types y)) ⊎ New names declared mid y → Old declared (y ∷ xs) env out x ⊎ New names declared out x
  here q (inl g) = inl (inr (subst (λ (z : ℕ). slot_at declared z ≡ None) q g.0), o.1 ∙ subst (λ (z : ℕ). slot_at mid.types z ≡ slot_at env.types z) q g.1)
  here q (inr n) = inr (record {
    ty = n.ty;
    made = n.made;
    known = subst (λ (z : ℕ). slot_at declared z ≡ Some n.ty) q n.known;
    slot = o.1 ∙ subst (λ (z : ℕ). slot_at mid.types z ≡ Some n.made) q n.slot;
    normal = n.normal;
  })

  among : (y == x) ≡ false → (is_among xs x ≡ false) ⊎ (slot_at declared x ≡ None) → (is_among (y ∷ xs) x ≡ false) ⊎ (slot_at declared x ≡ None)
  among q (inl f) = inl (or_from (y == x) (is_among xs x) q f)
  among q (inr f) = inr f

  by : (y ≡ x) ⊎ ((y == x) ≡ false) → Old declared (y ∷ xs) env out x ⊎ New names declared out x
  by (inl q) = here q s.itself
  by (inr q) = inl (among q o.0, o.1 ∙ s.others x q)

renewed_all : (names : List Declared) (at : ℕ) (declared : List (Option Ty)) (xs : List ℕ) (env out : Environment) → env.reached ≡ true → RenewedAll names at declared xs env (Gives out) → Headed names declared xs env out
renewed_all names at declared [] env out e h =
    let is = given_is out env h in record { reached = ap (λ (v : Environment). v.reached) is ∙ e; each = λ x. inl (inl refl, ap (λ (v : Environment). slot_at v.types x) is) }
renewed_all names at declared (y ∷ xs) env out e h =
    let t = then_gives _ _ out h in
    let s = step names at declared env t.0 y (slot_at declared y) e refl t.1 in
    let r = renewed_all names at declared xs t.0 out s.reached t.2 in
    record { reached = r.reached; each = λ x. more names declared y xs env t.0 out x s (r.each x) }

pub headed : (names : List Declared) (at : ℕ) (s : State) (xs : List ℕ) (out : Environment) → s.env.reached ≡ true → Head names at s xs (Gives out) → Headed names s.declared xs s.env out
headed names at s xs out e h = renewed_all names at s.declared xs s.env out e (subst (λ (b : Bool). cond b (RenewedAll names at s.declared xs s.env (Gives out)) (Give s.env (Gives out))) e h)
