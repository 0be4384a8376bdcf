-- labels and cycles
pub mod Cycles
-- the test of a certificate
pub mod Certificates
-- labels by the nodes that lead to each
pub mod Ancestors
