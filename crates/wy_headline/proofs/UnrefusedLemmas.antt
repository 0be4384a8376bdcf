-- An accepted program is never refused for its file, its source, its certificates or its conditions.
use Rattle.std.proofs.Common.{◌≡◌, ◌∙◌, ℕ, List, [], ◌∷◌, Bool, true, false, Result, Ok, Err, sym, ap, subst}
use Rattle.wy_core.specs.CoreTree.{Core}
use Rattle.wy_core.specs.Types.{Ty}
use Rattle.wy_lemmas.proofs.Choices.{true_false as never_both}
use Rattle.wy_top.proofs.wy_batch_proofs.OneLemmas.{one_list}
use Rattle.wy_top.specs.wy_cert.Only.{IsTheOne}
use Rattle.wy_top.specs.wy_cert.Steps.{Certificates}
use Rattle.wy_top.specs.wy_cert.File.{ReadsFile}
use Rattle.wy_top.specs.wy_cert.declared.fault.CertFault.{CertFault}
use Rattle.wy_top.specs.wy_link_load.Alone.{IsAlone, loads_alone, takes_with}
use Rattle.wy_top.specs.wy_link_load.Files.{reads}
use Rattle.wy_top.specs.wy_link_load.Loading.{loads, loads_behind, loads_file, loads_imports}
use Rattle.wy_top.specs.wy_link_load.wy_parse_front.Front.{Spells}
use Rattle.wy_top.specs.wy_link_load.declared.file.SourceFile.{SourceFile}
use Rattle.wy_top.specs.wy_link_load.declared.loading.Sources.{Sources}
use Rattle.wy_top.proofs.wy_link_load_proofs.AloneLemmas.{takes_nothing}
use Rattle.wy_top.proofs.wy_link_load_proofs.wy_top_answers_proofs.LoadLemmas.{fails_not}
use Rattle.wy_top.proofs.wy_top_source_proofs.ApartLemmas.{one_flow, text_apart}
use Rattle.wy_top.proofs.wy_top_source_proofs.OneLemmas.{one_core, one_spelled}
use Rattle.wy_top.specs.wy_top_answers.Loading.{Loads, certificate_limit, source_limit}
use Rattle.wy_top.specs.wy_top_answers.Steps.{Came, IsTold, Setting, ends, goes_on, stated}
use Rattle.wy_top.specs.wy_top_answers.declared.answer.Answer.{Answer}
use Rattle.wy_top.specs.wy_top_answers.supplied.Certificates.{IsFileTold, certificates, certificates_read, from_file, without}
use Rattle.wy_top.specs.wy_top_source.wy_ast.declared.declarations.Program.{Program as Written}
use Rattle.wy_top.specs.Acceptance.{Acceptance, accepts, accepts_file, accepts_source, accepts_with, are_closed}
use Rattle.wy_top.specs.Owed.{Owes}
use Rattle.wy_top.specs.Programs.{Program, conditions_of, count_of}
use Rattle.wy_top.proofs.OwedLemmas.{owes_unrefused}
use Rattle.wy_headline.specs.Accepted.{AcceptsBytes, AcceptsFile, AreTold}
use Rattle.wy_headline.proofs.StartedLemmas.{closed_so, same_bytes}
use Rattle.wy_headline.proofs.StepLemmas.{both_came, no_value, value_is}

-- ---- its file

module _ (s : Setting) (name bytes : List ℕ) (told : IsTold s name) (h : IsAlone s name bytes) where
  -- what was loaded is the source
  same_source : (other : List ℕ) → Loads s name source_limit other → bytes ≡ other
  same_source other load = same_bytes (s.told name) bytes other told h.loads.told load.told

  no_read : (a : Answer) → reads s name stated (Err a) → ⊥
  no_read a (ends b load e) = fails_not s name source_limit bytes told h.loads load.fault load.cause
  no_read a (goes_on other load f) = text_apart other h.program f.fault (subst (λ (bs : List ℕ). Spells bs h.program) (same_source other load) h.spelled) f.known f.cause

  -- what was read imports nothing
  nothing_in : (file : SourceFile) → reads s name stated (Ok file) → file.program.imports ≡ []
  nothing_in file r =
      let f = both_came _ _ file r in
      let spelled = subst (λ (bs : List ℕ). Spells bs file.program) (sym (same_source f.value f.came)) f.then.spelled in
      ap (λ (p : Written). p.imports) (one_spelled bytes h.program file.program h.spelled spelled) ∙ h.nothing

  no_behind : (file : SourceFile) → file.program.imports ≡ [] → (a : Answer) → loads_behind s file stated (Err a) → ⊥
  no_behind file none a (goes_on files l e) = no_value _ a e
  no_behind file none a (ends b l e) =
      let stack = file.name ∷ [] in
      no_value _ b (subst (λ (imports : List (List ℕ × ℕ)). loads_imports (loads_file 63 s stack) 63 stack file [] imports [] stated (Err b)) none l)

  no_loads : (a : Answer) → loads s name stated (Err a) → ⊥
  no_loads a (ends b r e) = no_read b r
  no_loads a (goes_on file r l) = no_behind file (nothing_in file r) a l

  nothing_loaded : (all : Sources) → loads s name stated (Ok all) → all.source.program.imports ≡ []
  nothing_loaded all l =
      let f = both_came _ _ all l in
      let g = both_came _ _ all f.then in
      ap (λ (x : Sources). x.source.program.imports) (value_is all _ g.then) ∙ nothing_in f.value f.came

  no_alone : (a : Answer) → loads_alone s name stated (Err a) → ⊥
  no_alone a (ends b l e) = no_loads b l
  no_alone a (goes_on all l t) = no_value _ a (subst (λ (imports : List (List ℕ × ℕ)). takes_with all.source imports stated (Err a)) (nothing_loaded all l) t)

-- ---- its certificates

abbrev read_as : Certificates → Result Certificates CertFault
read_as c = Ok c

abbrev unread : CertFault → Result Certificates CertFault
unread f = Err f

one_value : (c d : Certificates) → read_as d ≡ read_as c → d ≡ c
one_value c d e = cc

never_unread : (c : Certificates) (f : CertFault) → unread f ≡ read_as c → ⊥
never_unread c f e = absurd cc

one_read : (name bytes : List ℕ) (count : ℕ) (c : Certificates) → IsTheOne (ReadsFile count bytes) (Ok c) → (r : Came Certificates) → certificates_read name count bytes r → r ≡ Ok c
one_read name bytes count c one (Ok d) h = ap (λ (x : Certificates). Ok x) (one_value c d (one.only (Ok d) h.holds))
one_read name bytes count c one (Err a) h = absurd (never_unread c h.fault (one.only (Err h.fault) h.read.holds))

-- a told file has one list of certificates, or is the word for none
one_list_of : (s : Setting) (name : List ℕ) (count : ℕ) (c : Certificates) → IsFileTold s name → certificates s name count stated (Ok c) → (r : Came Certificates) → certificates s name count stated r → r ≡ Ok c
one_list_of s name count c told (without e is) r (without d h) = h ∙ sym is
one_list_of s name count c told (without e is) r (from_file d h) = absurd (d e)
one_list_of s name count c told (from_file e h) r (without d is) = absurd (e d)
one_list_of s name count c told (from_file e h) r (from_file d (ends a load is)) =
    let f = both_came _ _ c h in
    absurd (fails_not s name certificate_limit f.value (told e) f.came load.fault load.cause)
one_list_of s name count c told (from_file e h) r (from_file d (goes_on bytes load g)) =
    let f = both_came _ _ c h in
    let same = same_bytes (s.told name) bytes f.value (told e) load.told f.came.told in
    one_read name f.value count c f.then r (subst (λ (bs : List ℕ). certificates_read name count bs r) same g)

-- ---- its conditions

abbrev of_parts : Core ℕ → List Ty → Program
of_parts core flow = record { core = core; flow = flow }

module _ (s : Setting) (source cert : List ℕ) (budget : ℕ) (x : Acceptance) (told : AreTold s source cert) where
  module _ (bytes : List ℕ) (h : AcceptsBytes s cert budget bytes x) where
    one_program : (p : Program) → Owes bytes p.core p.flow → p ≡ x.program
    one_program p o =
        let its = h.owes.program in
        ap (λ (core : Core ℕ). of_parts core p.flow) (one_core bytes p.core x.program.core p.flow x.program.flow o.program its)
        ∙ ap (of_parts x.program.core) (one_flow bytes p.core x.program.core p.flow x.program.flow o.program its)

    no_conditions : (a : Answer) → accepts source cert bytes x.program h.certs budget stated (Err a) → ⊥
    no_conditions a u =
        let same = one_list h.certs budget 1 (conditions_of x.program) h.verdicts u.verdicts h.known u.known in
        never_both (are_closed h.verdicts) (closed_so s cert budget bytes x h) (ap are_closed same ∙ u.some)

    no_with : (a : Answer) → accepts_with s source cert budget bytes x.program stated (Err a) → ⊥
    no_with a (ends b c e) = no_value _ b (one_list_of s cert (count_of x.program) h.certs told.cert_is h.given (Err b) c)
    no_with a (goes_on certs c u) =
        let same = value_is certs h.certs (one_list_of s cert (count_of x.program) h.certs told.cert_is h.given (Ok certs) c) in
        no_conditions a (subst (λ (cs : Certificates). accepts source cert bytes x.program cs budget stated (Err a)) same u)

    no_source : (a : Answer) → accepts_source s source cert budget bytes stated (Err a) → ⊥
    no_source a (ends b o e) = owes_unrefused bytes x.program.core x.program.flow h.owes o.fault o.known o.cause
    no_source a (goes_on p o w) = no_with a (subst (λ (q : Program). accepts_with s source cert budget bytes q stated (Err a)) (one_program p o) w)

  -- nothing that stands before its run refuses it
  pub never_refused : AcceptsFile s source cert budget x → (a : Answer) → accepts_file s source cert budget stated (Err a) → ⊥
  never_refused f a (ends b l e) = no_alone s source f.bytes told.source_is f.alone b l
  never_refused f a (goes_on bytes l h) =
      let same = same_bytes (s.told source) f.bytes bytes told.source_is f.alone.loads.told (takes_nothing s source bytes l).loads.told in
      no_source bytes (subst (λ (bs : List ℕ). AcceptsBytes s cert budget bs x) same f.accepts) a h
