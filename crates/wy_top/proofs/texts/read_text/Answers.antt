use Rattle.wy_top.proofs.texts.read_text.Goals as goal

pub returns-in-Layout : goal.returns-in-Layout
returns-in-Layout c = record { gives = λ s. rw c.in-Layout.is (c.program_text.ensures.gives s) }

pub returns-in-Listing : goal.returns-in-Listing
returns-in-Listing c = record { gives = λ s. rw c.in-Listing.is (c.program_text-in-Listing.ensures.gives s) }

pub returns-in-Conditions : goal.returns-in-Conditions
returns-in-Conditions c = record { gives = λ s. rw c.in-Conditions.is (c.listed.ensures.gives s) }
