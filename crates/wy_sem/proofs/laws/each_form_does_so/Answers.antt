use Rattle.wy_sem.proofs.FormsHold.{forms_do}
use Rattle.wy_sem.proofs.laws.each_form_does_so.Goals as goal

pub returns : goal.returns
returns c = record { value = forms_do }
