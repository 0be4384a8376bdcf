use Rattle.wy_top_source.proofs.texts_lemmas.TextLemmas.{listing_complete, listing_is, unlisted_complete}
use Rattle.wy_top_source.proofs.texts.writing.listed.Goals as goal
use Rattle.wy_assign.specs.wy_flow_spec.typing.TypedPrograms.{core_of, flow_of}

pub returns-in-Err-clause-complete : goal.returns-in-Err-clause-complete
returns-in-Err-clause-complete c = unlisted_complete c.args.source.now c.in-Err.refusal c.in-Err.ensures.complete

pub returns-in-Ok-listing-clause-text : goal.returns-in-Ok-listing-clause-text
returns-in-Ok-listing-clause-text c = listing_is c.args.source.now c.in-Ok-listing.text.items (core_of c.in-Ok.typed) (flow_of c.in-Ok.typed) c.in-Ok.ensures.program c.in-Ok-listing.ensures.value

pub returns-in-Ok-listing-clause-complete : goal.returns-in-Ok-listing-clause-complete
returns-in-Ok-listing-clause-complete c = listing_complete c.args.source.now c.in-Ok-listing.text.items (core_of c.in-Ok.typed) (flow_of c.in-Ok.typed) c.in-Ok.ensures.complete c.in-Ok-listing.ensures.value
