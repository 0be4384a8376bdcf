use Rattle.wy_search.proofs.carried.nothing_carried.Goals as goal

pub returns : goal.returns
returns c = λ nodes le. record { forms = c.no_forms.ensures nodes le; front = c.no_front.ensures nodes }
