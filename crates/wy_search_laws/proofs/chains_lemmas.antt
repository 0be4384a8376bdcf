-- literals, and what folding makes of an equation
pub mod LiteralLemmas
pub mod MadeLemmas
-- chains
pub mod LinkLemmas
pub mod ChainLemmas
pub mod ClassLemmas
-- clashes
pub mod KindLemmas
pub mod ClashLemmas
