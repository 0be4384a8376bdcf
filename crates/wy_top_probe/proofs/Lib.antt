pub mod LineLemmas
pub mod PlaceLemmas
pub mod ProbeLemmas
-- passed on to the crates above
pub use Rattle.wy_probe.proofs as wy_probe_proofs
pub use Rattle.wy_link_load.proofs as wy_link_load_proofs
pub use Rattle.wy_mach_run.proofs as wy_mach_run_proofs
pub use Rattle.wy_top_source.proofs as wy_top_source_proofs
pub use Rattle.wy_link_load.proofs.wy_top_answers_proofs as wy_top_answers_proofs
