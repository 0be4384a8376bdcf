use Rattle.wy_top.proofs.texts.source_for.Goals as goal

pub returns-in-Layout-clause-gives : goal.returns-in-Layout-clause-gives
returns-in-Layout-clause-gives g c = λ s during. rw c.in-Layout.is (c.load.ensures.gives s during)

pub returns-in-Listing-clause-gives : goal.returns-in-Listing-clause-gives
returns-in-Listing-clause-gives g c = λ s during. rw c.in-Listing.is (c.load_alone.ensures.gives s during)

pub returns-in-Conditions-clause-gives : goal.returns-in-Conditions-clause-gives
returns-in-Conditions-clause-gives g c = λ s during. rw c.in-Conditions.is (c.load_alone-in-Conditions.ensures.gives s during)
