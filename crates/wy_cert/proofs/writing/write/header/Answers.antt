use Rattle.std.proofs.Common.{rules, ◌≡◌, true, false}
use Rattle.wy_cert.proofs.writing_lemmas.ProductLemmas.{header_is}
use Rattle.wy_cert.proofs.writing.write.header.Goals as goal

pub returns-then-some_have_product : goal.returns-then-some_have_product
returns-then-some_have_product c =
    let is : c.some_have_product.result ≡ true = search rules in
    header_is c.args.certs.now.list.items c.deref.result.now c.some_have_product.result true c.deref.ensures.value c.some_have_product.ensures is

pub returns : goal.returns
returns c =
    let is : c.some_have_product.result ≡ false = search rules in
    header_is c.args.certs.now.list.items c.deref.result.now c.some_have_product.result false c.deref.ensures.value c.some_have_product.ensures is
