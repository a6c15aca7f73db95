-- No canonical line has a fault, whatever line is in front of it.
pub mod CanonicalSizes
pub mod FaultlessParts
pub mod NoFault
pub mod FineLeaves
pub mod LeafNames
pub mod FaultlessProducts
pub mod ParameterWords
pub mod FaultlessStatements
pub mod CanonicalScopes
pub mod SaidLines
pub mod CanonicalWalk
pub mod CanonicalParts
pub mod CanonicalBlocks
pub mod FaultlessLines
