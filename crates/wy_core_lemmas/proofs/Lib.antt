pub mod BlockDepths
pub mod ExpressionKinds
pub mod TypeKinds
