-- Forms that are known.
use Rattle.std.proofs.Common.{◌≡◌, ◌∙◌, ◌<◌, ◌≤◌, ◌+◌, ℕ, zero, suc, List, [], ◌∷◌, ◌++◌, All, length, get_or, map, set, take, Bool, true, false, cond, Option, Some, None, Result, Ok, Err, ℤ, refl, sym, ap, subst, arith}
use Rattle.std.specs.Bool.{beq}
use Rattle.std.specs.HashMap.{get}
use Rattle.std.specs.Prelude.{◌&&◌, nat_eq, option_map, slice_get, IfSome, OnOk}
use Rattle.std.proofs.lemmas.Bool.{eqb-true}
use Rattle.std.proofs.lemmas.List.{take_all, take_more}
use Rattle.std.proofs.Math.Dec.{eqb-suc-suc, eqb-suc-zero, eqb-zero-suc}
use Rattle.std.proofs.lemmas.Option.{slice_get_within}
use Rattle.wy_cong.specs.wy_facts.Seen.{Stays}
use Rattle.wy_cong.specs.wy_check_nodes.Seen.{same_signed, seen_literal}
use Rattle.wy_cong.proofs.wy_check_nodes_proofs.FormLemmas.{form_up, with_parts, all_pushed}
use Rattle.wy_lemmas.proofs.Choices.{and_false, and_end as and_true, and-left as and_first, and-right as and_second, bits_are as beq_true}
use Rattle.wy_lemmas.proofs.Lists.{first_of, rest_of}
use Rattle.wy_lemmas.proofs.Options.{pair_is as same_pair}
use Rattle.wy_lin.proofs.SharedLemmas.{some_form}
use Rattle.wy_lin.specs.Linear.{Linear}
use Rattle.wy_lin.specs.Seen.{linear_form, seen_form, seen_part, IsOver}
use Rattle.wy_lin.specs.TermForm.{form_of_literal}
use Rattle.wy_lin.specs.declared.linear.Form.{Form}
use Rattle.wy_cong.specs.wy_check_spec.judge.Node.{Literal}
use Rattle.wy_term.specs.Nodes.{Plain, tree_at}
use Rattle.wy_term.specs.Term.{Term}
use Rattle.wy_cong.specs.wy_check_spec.valid.Literals.{signed}
use Rattle.wy_cong.specs.wy_check_spec.valid.Sums.{form_at}
use Rattle.wy_search_bounds.proofs.GatherLemmas.{form_behind}
use Rattle.wy_search_bounds.specs.Known.{form_of_signed, form_placed, lasting_place, place_by, place_there, AgreesUpTo, AreKnown, AreNoted, HasForm, IsFormAt, IsFormIn, IsKnown, IsPlace, IsPlaced, Notes, StartsWithForms}
use Rattle.wy_search_bounds.specs.declared.known.KnownForms.{KnownForms}
use Rattle.wy_search_bounds.specs.declared.known.Place.{Place}
use Rattle.wy_search_bounds.specs.declared.known.Place.TheVariants.{Lasting, Passing}

abbrev some_literal : Literal → Option Literal
some_literal l = Some l

-- ---- literals

pub seen_there : (at : ℕ → Term) (ps : List (ℕ × Bool)) (i : ℕ) (l : ℕ × Bool) → slice_get ps i ≡ Some l → slice_get (map (seen_literal at) ps) i ≡ Some (seen_literal at l)
seen_there at [] i l e = absurd cc
seen_there at (p ∷ ps) zero l e = ap (λ (q : ℕ × Bool). some_literal (seen_literal at q)) (same_pair p l e)
seen_there at (p ∷ ps) (suc i) l e = seen_there at ps i l e

pub form_here : (at : ℕ → Term) (ps : List (ℕ × Bool)) (i n : ℕ) (l : ℕ × Bool) → n ≡ i + 1 → slice_get ps i ≡ Some l → form_at (map (seen_literal at) ps) n ≡ form_of_signed at l
form_here at ps i n l is e = form_behind (map (seen_literal at) ps) i n (seen_literal at l) is (seen_there at ps i l e)

pub signed_kept : (old new : List Plain) (l : ℕ × Bool) → Stays old new → l.0 < length old → form_of_signed (tree_at new) l ≡ form_of_signed (tree_at old) l
signed_kept old new l stays lt = ap (λ (t : Term). form_of_literal (signed t l.1)) (stays.trees l.0 lt)

abbrev pair_of : ℕ → Bool → ℕ × Bool
pair_of n b = (n, b)

same_one : (p q : ℕ × Bool) → same_signed p q ≡ true → p ≡ q
same_one p q e =
    let first : p.0 ≡ q.0 = eqb-true p.0 q.0 (and_first (nat_eq p.0 q.0) (beq p.1 q.1) e) in
    let second : p.1 ≡ q.1 = beq_true p.1 q.1 (and_second (nat_eq p.0 q.0) (beq p.1 q.1) e) in
    ap (λ (n : ℕ). pair_of n p.1) first ∙ ap (pair_of q.0) second

-- ---- more forms

get_more : (fs more : List Form) (k : ℕ) (f : Form) → slice_get fs k ≡ Some f → slice_get (fs ++ more) k ≡ Some f
get_more [] more k f e = absurd cc
get_more (g ∷ gs) more zero f e = e
get_more (g ∷ gs) more (suc k) f e = get_more gs more k f e

get_last : (fs : List Form) (f : Form) → slice_get (fs ++ f ∷ []) (length fs) ≡ Some f
get_last [] f = refl
get_last (g ∷ gs) f = get_last gs f

form_more : (n : ℕ) (at : ℕ → Term) (fs gs : List Form) (o : Option ℕ) (given : Option (Linear Term)) → StartsWithForms fs gs → IsFormIn n at fs o given → IsFormIn n at gs o given
form_more n at fs gs None given starts is = is
form_more n at fs gs (Some k) given starts is = record {
  form = is.form;
  here = subst (λ (hs : List Form). slice_get hs k ≡ Some is.form) (sym starts.1) (get_more fs starts.0 k is.form is.here);
  is = is.is;
  over = is.over;
}

pub form_pushed : (n : ℕ) (at : ℕ → Term) (fs gs : List Form) (f : Form) → gs ≡ fs ++ f ∷ [] → IsOver n (linear_form f) → IsPlaced n at gs (length fs) (Some (seen_form at f))
form_pushed n at fs gs f put over = record {
  form = f;
  here = subst (λ (hs : List Form). slice_get hs (length fs) ≡ Some f) (sym put) (get_last fs f);
  is = refl;
  over = over;
}

-- ---- variables

abbrev pub IsOverParts : ℕ → List (ℤ × ℕ) → Type 0
IsOverParts n ps = All (λ (p : ℤ × ℕ). p.1 < n) ps

-- one part more
pub over_more : (n : ℕ) (ps : List (ℤ × ℕ)) (i : ℕ) (d : ℤ × ℕ) → i < length ps → (get_or ps i d).1 < n → IsOverParts n (take i ps) → IsOverParts n (take (i + 1) ps)
over_more n ps i d lt one all = subst (IsOverParts n) (sym (take_more ps i d lt)) (all_pushed (λ (p : ℤ × ℕ). p.1 < n) (take i ps) (get_or ps i d) all one)

pub over_whole : (n : ℕ) (ps : List (ℤ × ℕ)) (i : ℕ) → length ps ≤ i → IsOverParts n (take i ps) → IsOverParts n ps
over_whole n ps i le all = subst (IsOverParts n) (take_all i ps le) all

-- ---- other terms

abbrev Agree : ℕ → (ℕ → Term) → (ℕ → Term) → Type 0
Agree n at new = (t : ℕ) → t < n → new t ≡ at t

parts_agree : (n : ℕ) (at new : ℕ → Term) (ps : List (ℤ × ℕ)) → Agree n at new → All (λ (p : ℤ × ℕ). p.1 < n) ps → map (seen_part new) ps ≡ map (seen_part at) ps
parts_agree n at new [] agree all = refl
parts_agree n at new (p ∷ ps) agree all = rw (agree p.1 (first_of (λ (p : ℤ × ℕ). p.1 < n) p ps all), parts_agree n at new ps agree (rest_of (λ (p : ℤ × ℕ). p.1 < n) p ps all)) refl

form_agrees : (n : ℕ) (at new : ℕ → Term) (f : Form) → Agree n at new → IsOver n (linear_form f) → seen_form new f ≡ seen_form at f
form_agrees n at new f agree over = ap (with_parts f.constant) (parts_agree n at new f.parts.items agree over)

signed_agrees : (n : ℕ) (at new : ℕ → Term) (l : ℕ × Bool) → Agree n at new → l.0 < n → form_of_signed new l ≡ form_of_signed at l
signed_agrees n at new l agree lt = ap (λ (t : Term). form_of_literal (signed t l.1)) (agree l.0 lt)

in_agrees : (n m : ℕ) (at new : ℕ → Term) (fs : List Form) (o : Option ℕ) (given : Option (Linear Term)) → Agree n at new → n ≤ m → IsFormIn n at fs o given → IsFormIn m new fs o given
in_agrees n m at new fs None given agree le is = is
in_agrees n m at new fs (Some k) given agree le is = record {
  form = is.form;
  here = is.here;
  is = is.is ∙ ap some_form (sym (form_agrees n at new is.form agree is.over));
  over = form_up n m is.form le is.over;
}

pub noted_agree : (n m : ℕ) (at new : ℕ → Term) (noted : ℕ × Bool → Option (Option ℕ)) (fs : List Form) → Agree n at new → n ≤ m → AreNoted n at noted fs → AreNoted m new noted fs
noted_agree n m at new noted fs agree le are l o e =
    let one = are l o e in
    record {
      within = omega (arith, one.within, le);
      form = subst (IsFormIn m new fs o) (sym (signed_agrees n at new l agree one.within)) (in_agrees n m at new fs o (form_of_signed at l) agree le one.form);
    }

pub known_stays : (old new : List Plain) (known : KnownForms) → Stays old new → AreKnown old known → AreKnown new known
known_stays old new known stays are = record {
  floor = omega (arith, are.floor, stays.grows);
  lasting = noted_agree known.floor known.floor (tree_at old) (tree_at new) (lasting_place known.lasting) known.lasting.made.items
      (λ t lt. stays.trees t (omega (arith, lt, are.floor))) (omega arith) are.lasting;
  passing = noted_agree (length old) (length new) (tree_at old) (tree_at new) (get same_signed known.passing.places) known.passing.made.items
      stays.trees stays.grows are.passing;
}

-- ---- fewer terms

-- what lasts is over terms that both lists name
pub lasting_kept : (count : ℕ) (old new : List Plain) (known : KnownForms) → AgreesUpTo count old new → AreKnown old known → known.floor ≤ count
    → AreNoted known.floor (tree_at new) (lasting_place known.lasting) known.lasting.made.items
lasting_kept count old new known agrees are le =
    noted_agree known.floor known.floor (tree_at old) (tree_at new) (lasting_place known.lasting) known.lasting.made.items (λ t lt. agrees.trees t (omega (arith, lt, le))) (omega arith) are.lasting

-- ---- one literal more

abbrev some_place : Option ℕ → Option (Option ℕ)
some_place o = Some o

noted_more : (n : ℕ) (at : ℕ → Term) (was now : ℕ × Bool → Option (Option ℕ)) (fs gs : List Form) (l : ℕ × Bool) (o : Option ℕ)
    → StartsWithForms fs gs → l.0 < n → IsFormIn n at gs o (form_of_signed at l)
    → ((q : ℕ × Bool) → now q ≡ cond (same_signed l q) (Some o) (was q))
    → AreNoted n at was fs
    → AreNoted n at now gs
noted_more n at was now fs gs l o starts lt is puts are q p e = by (same_signed l q) refl (sym (puts q) ∙ e)
  where
    by : (t : Bool) → same_signed l q ≡ t → cond t (some_place o) (was q) ≡ some_place p → IsKnown n at gs q p
    by true t f =
        let place : o ≡ p = cc in
        let key : l ≡ q = same_one l q t in
        record {
          within = subst (λ (m : ℕ × Bool). m.0 < n) key lt;
          form = subst (λ (m : ℕ × Bool). IsFormIn n at gs p (form_of_signed at m)) key (subst (λ (r : Option ℕ). IsFormIn n at gs r (form_of_signed at l)) place is);
        }
    by false t f =
        let one = are q p f in
        record { within = one.within; form = form_more n at fs gs p (form_of_signed at q) starts one.form }

-- the form was pushed, and its place noted
pub notes_one : (was now : ℕ × Bool → Option (Option ℕ)) (fs gs : List Form) (l : ℕ × Bool) (form : Option Form) (o : Option ℕ)
    → ((n : ℕ) (at : ℕ → Term) → IfSome form (λ (f : Form). IsOver n (linear_form f)) → IsFormIn n at gs o (option_map (seen_form at) form))
    → StartsWithForms fs gs
    → ((q : ℕ × Bool) → now q ≡ cond (same_signed l q) (Some o) (was q))
    → Notes was fs now gs l form o
notes_one was now fs gs l form o made starts puts n at are of =
    let is : IsFormIn n at gs o (form_of_signed at l) = subst (IsFormIn n at gs o) of.is (made n at of.over) in
    (noted_more n at was now fs gs l o starts of.within is puts are, is)

pub none_known : {A : Type 0} (q : Option (Option ℕ)) (o : Option ℕ) → q ≡ None → q ≡ some_place o → A
none_known q o none e = absurd cc

-- ---- the table of what lasts

abbrev no_place_there : Option (Option ℕ)
no_place_there = None

none_there : (t : Bool) (a : ℕ) → place_by t [] [] a ≡ None
none_there true a = refl
none_there false a = refl

pub none_lasts : (holding denied : List (Option (Option ℕ))) (l : ℕ × Bool) → holding ≡ [] → denied ≡ [] → place_by l.1 holding denied l.0 ≡ None
none_lasts holding denied l h d = rw (h, d) (none_there l.1 l.0)

pub there_pushed : (os : List (Option (Option ℕ))) (a : ℕ) → place_there (os ++ no_place_there ∷ []) a ≡ place_there os a
there_pushed [] zero = refl
there_pushed [] (suc a) = refl
there_pushed (o ∷ os) zero = refl
there_pushed (o ∷ os) (suc a) = there_pushed os a

cond_by : (s t : Bool) (o : Option ℕ) (p : Option (Option ℕ)) → s ≡ t → cond s (some_place o) p ≡ cond t (some_place o) p
cond_by s t o p e = ap (λ (b : Bool). cond b (some_place o) p) e

-- an atom's place was put where those of literals that hold stand, or where those of denied ones do
pub there_set : (os : List (Option (Option ℕ))) (k : ℕ) (o : Option ℕ) (a : ℕ) → k < length os → place_there (set os k (Some o)) a ≡ cond (nat_eq k a) (Some o) (place_there os a)
there_set [] k o a lt = absurd (omega (arith, lt))
there_set (p ∷ os) zero o zero lt = refl
there_set (p ∷ os) zero o (suc a) lt = cond_by false (nat_eq 0 (suc a)) o (place_there os a) (sym (eqb-zero-suc a))
there_set (p ∷ os) (suc k) o zero lt = cond_by false (nat_eq (suc k) 0) o p (sym (eqb-suc-zero k))
there_set (p ∷ os) (suc k) o (suc a) lt = there_set os k o a (omega (arith, lt)) ∙ cond_by (nat_eq k a) (nat_eq (suc k) (suc a)) o (place_there os a) (sym (eqb-suc-suc k a))

holding_put : (a : ℕ) (o : Option ℕ) (was now denied : List (Option (Option ℕ))) → ((b : ℕ) → place_there now b ≡ cond (nat_eq a b) (Some o) (place_there was b))
    → (b : ℕ) (t : Bool) → place_by t now denied b ≡ cond (nat_eq a b && beq true t) (Some o) (place_by t was denied b)
holding_put a o was now denied puts b true = puts b ∙ cond_by (nat_eq a b) (nat_eq a b && true) o (place_there was b) (sym (and_true (nat_eq a b)))
holding_put a o was now denied puts b false = cond_by false (nat_eq a b && false) o (place_there denied b) (sym (and_false (nat_eq a b)))

denied_put : (a : ℕ) (o : Option ℕ) (was now holding : List (Option (Option ℕ))) → ((b : ℕ) → place_there now b ≡ cond (nat_eq a b) (Some o) (place_there was b))
    → (b : ℕ) (t : Bool) → place_by t holding now b ≡ cond (nat_eq a b && beq false t) (Some o) (place_by t holding was b)
denied_put a o was now holding puts b false = puts b ∙ cond_by (nat_eq a b) (nat_eq a b && true) o (place_there was b) (sym (and_true (nat_eq a b)))
denied_put a o was now holding puts b true = cond_by false (nat_eq a b && false) o (place_there holding b) (sym (and_false (nat_eq a b)))

pub put_holding : (l : ℕ × Bool) (o : Option ℕ) (was now denied : List (Option (Option ℕ))) → l.1 ≡ true → ((b : ℕ) → place_there now b ≡ cond (nat_eq l.0 b) (Some o) (place_there was b))
    → (q : ℕ × Bool) → place_by q.1 now denied q.0 ≡ cond (same_signed l q) (Some o) (place_by q.1 was denied q.0)
put_holding l o was now denied holds puts q = subst (λ (t : Bool). place_by q.1 now denied q.0 ≡ cond (nat_eq l.0 q.0 && beq t q.1) (some_place o) (place_by q.1 was denied q.0)) (sym holds) (holding_put l.0 o was now denied puts q.0 q.1)

pub put_denied : (l : ℕ × Bool) (o : Option ℕ) (was now holding : List (Option (Option ℕ))) → l.1 ≡ false → ((b : ℕ) → place_there now b ≡ cond (nat_eq l.0 b) (Some o) (place_there was b))
    → (q : ℕ × Bool) → place_by q.1 holding now q.0 ≡ cond (same_signed l q) (Some o) (place_by q.1 holding was q.0)
put_denied l o was now holding denied puts q = subst (λ (t : Bool). place_by q.1 holding now q.0 ≡ cond (nat_eq l.0 q.0 && beq t q.1) (some_place o) (place_by q.1 holding was q.0)) (sym denied) (denied_put l.0 o was now holding puts q.0 q.1)

-- ---- the form with a place

lasting_form : (nodes : List Plain) (known : KnownForms) (o : Option ℕ) (given : Option (Linear Term)) → known.floor ≤ length nodes
    → IsFormIn known.floor (tree_at nodes) known.lasting.made.items o given → IsFormAt nodes known (option_map Lasting o) given
lasting_form nodes known None given le is = is
lasting_form nodes known (Some k) given le is = record { form = is.form; here = is.here; is = is.is; over = form_up known.floor (length nodes) is.form le is.over }

passing_form : (nodes : List Plain) (known : KnownForms) (o : Option ℕ) (given : Option (Linear Term))
    → IsFormIn (length nodes) (tree_at nodes) known.passing.made.items o given → IsFormAt nodes known (option_map Passing o) given
passing_form nodes known None given is = is
passing_form nodes known (Some k) given is = record { form = is.form; here = is.here; is = is.is; over = is.over }

pub lasting_at : (nodes : List Plain) (known : KnownForms) (o : Option ℕ) (p : Option Place) (given : Option (Linear Term)) → p ≡ option_map Lasting o → known.floor ≤ length nodes
    → IsFormIn known.floor (tree_at nodes) known.lasting.made.items o given → IsFormAt nodes known p given
lasting_at nodes known o p given is le at = subst (λ (q : Option Place). IsFormAt nodes known q given) (sym is) (lasting_form nodes known o given le at)

pub passing_at : (nodes : List Plain) (known : KnownForms) (o : Option ℕ) (p : Option Place) (given : Option (Linear Term)) → p ≡ option_map Passing o
    → IsFormIn (length nodes) (tree_at nodes) known.passing.made.items o given → IsFormAt nodes known p given
passing_at nodes known o p given is at = subst (λ (q : Option Place). IsFormAt nodes known q given) (sym is) (passing_form nodes known o given at)

same_form : (f g : Form) → Some f ≡ Some g → f ≡ g
same_form f g e = cc

pub placed_at : (nodes : List Plain) (known : KnownForms) (o : Option Place) (p : Place) (given : Option (Linear Term)) → o ≡ Some p → IsFormAt nodes known o given → HasForm nodes known p given
placed_at nodes known o p given is at = subst (λ (q : Option Place). IsFormAt nodes known q given) is at

pub no_place : (nodes : List Plain) (known : KnownForms) (o : Option Place) (given : Option (Linear Term)) → o ≡ None → IsFormAt nodes known o given → given ≡ None
no_place nodes known o given is at = subst (λ (q : Option Place). IsFormAt nodes known q given) is at

pub place_within : (nodes : List Plain) (known : KnownForms) (p : Place) (given : Option (Linear Term)) → HasForm nodes known p given → IsPlace known p
place_within nodes known (Lasting k) given is = slice_get_within known.lasting.made.items k is.form is.here
place_within nodes known (Passing k) given is = slice_get_within known.passing.made.items k is.form is.here

pub placed_is : (nodes : List Plain) (known : KnownForms) (p : Place) (given : Option (Linear Term)) (f : Form) → HasForm nodes known p given → form_placed known p ≡ Some f → given ≡ Some (seen_form (tree_at nodes) f)
placed_is nodes known p given f is here = is.is ∙ ap (λ (g : Form). some_form (seen_form (tree_at nodes) g)) (same_form is.form f (sym is.here ∙ here))

pub placed_over : (nodes : List Plain) (known : KnownForms) (p : Place) (given : Option (Linear Term)) (f : Form) → HasForm nodes known p given → form_placed known p ≡ Some f → IsOver (length nodes) (linear_form f)
placed_over nodes known p given f is here = subst (λ (g : Form). IsOver (length nodes) (linear_form g)) (same_form is.form f (sym is.here ∙ here)) is.over

pub if_known : {X E : Type 0} (r : Result X E) (old new : List Plain) (known : KnownForms) → Stays old new → AreKnown old known → OnOk r (AreKnown new known)
if_known (Ok x) old new known stays are = known_stays old new known stays are
if_known (Err e) old new known stays are = tt

-- what holds anyway
pub on_ok_anyway : {X E : Type 0} (P : Type 0) (r : Result X E) → P → OnOk r P
on_ok_anyway P (Ok x) is = is
on_ok_anyway P (Err e) is = tt
