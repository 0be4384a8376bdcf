-- what a source owes
pub mod OwedLemmas
-- what conditions of a program are
pub mod ConditionLemmas
-- the text of what it owes
pub mod ListLemmas
-- counts
pub mod CountLemmas
-- the laws
pub mod ShownLemmas
-- certificates that aren't valid
pub mod InvalidLemmas
-- lines of conditions
pub mod LineLemmas
-- lines of literals
pub mod LiteralLemmas
-- certificates for conditions that were found
pub mod FoundLemmas
-- what they are
pub mod GivenLemmas
-- what is kept of a cache, and what is saved of it
pub mod TakenLemmas
pub mod OthersLemmas
pub mod CachingLemmas
pub mod RenewLemmas
pub mod RepeatLemmas
pub mod KeepLemmas
-- they are read again
pub mod WritableLemmas
-- they are accepted
pub mod SavedLemmas
pub mod OwingLemmas
pub mod AcceptLemmas
pub mod ProofLemmas
pub mod LengthLemmas
pub mod CodeLemmas
pub mod TextLemmas
pub mod LaunchLemmas
pub mod RunLemmas
pub mod LargeLemmas
pub mod SaveLemmas
pub mod ExactLemmas
-- passed on to the crates above
pub use Rattle.wy_batch.proofs as wy_batch_proofs
pub use Rattle.wy_gen_sources.proofs as wy_gen_sources_proofs
pub use Rattle.wy_top_probe.proofs.wy_link_load_proofs as wy_link_load_proofs
pub use Rattle.wy_top_probe.proofs.wy_mach_run_proofs as wy_mach_run_proofs
pub use Rattle.wy_prove.proofs.wy_search_laws_proofs as wy_search_laws_proofs
pub use Rattle.wy_top_probe.proofs.wy_probe_proofs as wy_probe_proofs
pub use Rattle.wy_top_probe.proofs.wy_top_source_proofs as wy_top_source_proofs
