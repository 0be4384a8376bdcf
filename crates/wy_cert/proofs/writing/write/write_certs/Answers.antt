use Rattle.wy_cert.proofs.writing_lemmas.WriteLemmas.{file_joined}
use Rattle.wy_cert.proofs.writing.write.write_certs.Goals as goal

pub returns : goal.returns
returns c =
    file_joined c.args.certs.now.list.items c.deref.result.now c.header.result.now c.new-out.result.items c.put.new.out.items c.put_certs.new.out.items c.put-2.new.out.items
    c.new-out.ensures.items c.header.ensures c.deref.ensures.value c.in_ok-put.ensures c.in_ok-put_certs.ensures c.in_ok-put-2.ensures
