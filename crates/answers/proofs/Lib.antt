pub mod BestLines
pub mod BestMatches
pub mod ExplainedPieces
pub mod Givens
pub mod LineMatches
pub mod JsonTexts
pub mod Lowest
pub mod OneExplanation
pub mod ReadArguments
pub mod Sorted
pub mod TextLists
mod ErrorJson
pub mod Whether
pub mod WritableArguments
pub mod Simplified
