use Rattle.wy_term_text.specs.wy_term.Nodes.{tree_at}
use Rattle.wy_cert.proofs.writing_lemmas.WriteLemmas.{cert_answer}
use Rattle.wy_cert.proofs.writing.write.put_cert.Goals as goal

pub returns : goal.returns
returns c =
    cert_answer (tree_at c.args.cert.now.terms) c.args.cert.now.steps.items c.deref.result.now c.args.number c.args.out.now.items c.put.new.out.items c.put_place.new.out.items c.put-2.new.out.items c.put_steps.new.out.items c.put_steps.result
    c.in_ok-put.ensures c.in_ok-put_place.ensures c.in_ok-put-2.ensures c.deref.ensures.value c.put_steps.ensures
