-- What is claimed of the definitions, in words that 01's reader knows. The proofs of it all are in proofs/.
pub mod Given
pub mod When
pub mod Left
pub mod Unit
pub mod Protocol
pub mod Order
