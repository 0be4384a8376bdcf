-- what public contracts cite
pub mod CertifiedPrograms
