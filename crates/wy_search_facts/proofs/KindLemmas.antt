-- What is known of terms of a kind.
use Rattle.std.proofs.Common.{◌≡◌, ◌∙◌, ◌&&◌, ℕ, List, [], ◌∷◌, Bool, true, false, cond, not, Option, Some, None, refl, sym, ap}
use Rattle.std.specs.Prelude.{option_map}
use Rattle.wy_facts.specs.Made.{implies, is_equal, made_one}
use Rattle.wy_cong.specs.wy_check_spec.judge.Node.{Node, has_literal}
use Rattle.wy_cong.specs.wy_search_spec.Expansion.{everything, in_equation, kind_fact}
use Rattle.wy_search_facts.specs.About.{about_fact, is_formula, literal_said}
use Rattle.wy_search_facts.specs.declared.kinds.About.{About}
use Rattle.wy_search_facts.specs.declared.kinds.About.TheVariants as about
use Rattle.wy_cong.specs.wy_check_spec.valid.Membership.{fact_among}
use Rattle.wy_term.specs.Term.{Term, one, of_kind, null_kind, bool_kind, int_kind, array_kind, record_kind, int, num}

pub null_about : (node : Node) (at : ℕ → Term) (t : Term) (v : ℕ) → t ≡ one (of_kind null_kind) (at v) → kind_fact node t ≡ about_fact node at t (about.Null v)
null_about node at t v is = rw is refl

pub bool_about : (node : Node) (at : ℕ → Term) (t : Term) (v : ℕ) → t ≡ one (of_kind bool_kind) (at v) → kind_fact node t ≡ about_fact node at t (about.Bool v)
bool_about node at t v is = rw is refl

said : (e : Bool) (t u : Term) → cond (not e) None (Some (implies t u)) ≡ option_map (implies t) (cond e (Some u) None)
said true t u = refl
said false t u = refl

pub int_about : (node : Node) (at : ℕ → Term) (t : Term) (v : ℕ) → t ≡ one (of_kind int_kind) (at v) → kind_fact node t ≡ about_fact node at t (about.Int v)
int_about node at t v is =
    let u = one (of_kind int_kind) (at v) in
    let h = has_literal node.literals (record { atom = u; holds = true }) in
    ap (kind_fact node) is
    ∙ ap (λ (o : Option Term). cond h o None) (said (in_equation (everything node) (at v)) u (is_equal (at v) (made_one int (made_one num (at v)))))
    ∙ ap (λ (w : Term). about_fact node at w (about.Int v)) (sym is)

abbrev none_of : Option Term
none_of = None

neither : (h : Bool) → cond h none_of none_of ≡ none_of
neither true = refl
neither false = refl

pub array_about : (node : Node) (at : ℕ → Term) (t v : Term) → t ≡ one (of_kind array_kind) v → kind_fact node t ≡ about_fact node at t about.Nothing
array_about node at t v is = ap (kind_fact node) is ∙ neither (has_literal node.literals (record { atom = one (of_kind array_kind) v; holds = true }))

pub record_about : (node : Node) (at : ℕ → Term) (t v : Term) (names : List (List ℕ)) → t ≡ one (of_kind (record_kind names)) v → kind_fact node t ≡ about_fact node at t about.Nothing
record_about node at t v names is = ap (kind_fact node) is ∙ neither (has_literal node.literals (record { atom = one (of_kind (record_kind names)) v; holds = true }))

pub formula_about : (node : Node) (at : ℕ → Term) (t : Term) (what : About) → is_formula what ≡ true → about_fact node at t what ≡ fact_among [] 14 (t ∷ [])
formula_about node at t about.Formula up = refl
formula_about node at t (about.Null v) up = absurd cc
formula_about node at t (about.Bool v) up = absurd cc
formula_about node at t (about.Int v) up = absurd cc
formula_about node at t about.Nothing up = absurd cc

pub other_about : (node : Node) (at : ℕ → Term) (t : Term) (what : About) → is_formula what ≡ false → about_fact node at t what ≡ literal_said node at t what
other_about node at t about.Formula un = absurd cc
other_about node at t (about.Null v) un = refl
other_about node at t (about.Bool v) un = refl
other_about node at t (about.Int v) un = refl
other_about node at t about.Nothing un = sym (neither (has_literal node.literals (record { atom = t; holds = true })))
