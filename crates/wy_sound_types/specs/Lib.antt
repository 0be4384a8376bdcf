-- how tests of types answer
pub mod Tests
-- the laws
pub mod Laws
-- the clauses of types, as typing finds them
pub mod Typed
-- contracts of functions and methods, as typing finds them
pub mod Routines
pub mod members
pub mod sound_routines
-- passed on to the crates above
pub use Rattle.wy_vc_laws.specs.wy_cert as wy_cert
pub use Rattle.wy_vc_laws.specs.wy_check_laws as wy_check_laws
pub use Rattle.wy_vc_laws.specs.wy_check_spec as wy_check_spec
pub use Rattle.wy_sound_statements.specs.wy_sound_walks as wy_sound_walks
pub use Rattle.wy_term_subst.specs as wy_term_subst
pub use Rattle.wy_vc_laws.specs as wy_vc_laws
