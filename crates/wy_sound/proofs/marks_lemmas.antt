-- events in order, and paths of uses alone
pub mod ReadLemmas
-- what no path uses without a value is marked
pub mod UseLemmas
pub mod MarkedLemmas
-- paths that lead to the points of a walk
pub mod WayLemmas
pub mod MarkLemmas
pub mod MeetLemmas
pub mod HeadLemmas
pub mod ReachLemmas
-- parts of a block of which no path uses a variable without a value
pub mod CleanLemmas
pub mod AlongLemmas
-- declarations of a program
pub mod DeclLemmas
pub mod ClauseLemmas
pub mod BodyLemmas
