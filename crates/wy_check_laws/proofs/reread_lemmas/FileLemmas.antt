-- Files are what is read as certificates.
use Rattle.std.proofs.Common.{◌≡◌, inl, inr, ℕ, List, [], Bool, true, false, Result, Ok, Err, refl, sym, subst}
use Rattle.wy_check_spec.specs.wy_cert.declared.fault.CertFault.{CertFault}
use Rattle.wy_check_spec.specs.wy_cert.Steps.{Certificates}
use Rattle.wy_check_spec.specs.wy_cert.File.{ReadsCerts, ReadsFile, first, second, no_header}
use Rattle.wy_check_laws.specs.reread.Grammar.{IsBody, IsFile, AreCertificates, AreApart, FilesAreRead}
use Rattle.wy_check_laws.proofs.reread_lemmas.ReadLemmas.{certificates_are_read}
use Rattle.wy_check_laws.proofs.reread_lemmas.SpelledLemmas.{certificates_spelled}

pub body_is_read : (products : Bool) (conds : ℕ) (certs : Certificates) (text : List ℕ) → IsBody products conds certs text → ReadsCerts products conds [] 2 text (Ok certs)
body_is_read products conds certs text h =
    subst (λ (t : List ℕ). ReadsCerts products conds [] 2 t (Ok certs)) (sym h.is) (certificates_are_read products conds certs [] 2 h.body (Ok certs) h.spelled h.apart refl)

pub body_is_spelled : (products : Bool) (conds : ℕ) (certs : Certificates) (text : List ℕ) → ReadsCerts products conds [] 2 text (Ok certs) → IsBody products conds certs text
body_is_spelled products conds certs text reads =
    let r = certificates_spelled products conds [] 2 text (Ok certs) certs reads refl in
    record {
      body = r.body;
      is = r.cut;
      spelled = subst (λ (cs : Certificates). AreCertificates products cs r.body) (sym r.are) r.spelled;
      apart = subst (AreApart conds []) (sym r.are) r.apart;
    }

never_ok : (certs : Certificates) (f : CertFault) → (let o : Result Certificates CertFault = Ok certs in o) ≡ Err f → ⊥
never_ok certs f e = cc

pub files_are_read : FilesAreRead
files_are_read conds bytes certs = (λ h. there h, λ h. back h)
  where
    there : IsFile conds bytes certs → ReadsFile conds bytes (Ok certs)
    there (inl h) = first h.rest (record { is = h.is }) (body_is_read false conds certs h.rest h.goes_on)
    there (inr h) = second h.rest (record { is = h.is }) (body_is_read true conds certs h.rest h.goes_on)

    back : ReadsFile conds bytes (Ok certs) → IsFile conds bytes certs
    back (first rest behind reads) = inl (record { rest = rest; is = behind.is; goes_on = body_is_spelled false conds certs rest reads })
    back (second rest behind reads) = inr (record { rest = rest; is = behind.is; goes_on = body_is_spelled true conds certs rest reads })
    back (no_header no_first no_second is) = absurd (never_ok certs _ is)
