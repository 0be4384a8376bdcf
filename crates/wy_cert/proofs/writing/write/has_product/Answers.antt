use Rattle.wy_term_text.specs.wy_term.Nodes.{tree_at}
use Rattle.wy_cert.proofs.writing_lemmas.ProductLemmas.{cert_product}
use Rattle.wy_cert.proofs.writing.write.has_product.Goals as goal

pub returns : goal.returns
returns c = cert_product (tree_at c.args.cert.now.terms) c.deref.result.now c.args.cert.now.steps.items c.have_product.result c.deref.ensures.value (c.have_product.ensures (tree_at c.args.cert.now.terms))
