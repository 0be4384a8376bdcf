pub mod SingleLemmas
pub mod AskedLemmas
pub mod RuleLemmas
pub mod ExpressionLemmas
pub mod StatementLemmas
