-- What the contracts of the examples cite. Each file goes with the file of the same subject in src/.
pub mod Arguments
pub mod Endpoint
pub mod Hearing
pub mod Invocation
pub mod Keeping
pub mod Tickets
pub mod Saving
pub mod Ledger
pub mod Serving
pub mod Pieces
pub mod Retrying
pub mod Cutting
pub mod Forwarding
pub mod Relaying
pub mod Handing
pub mod Accounts
-- proofs that `impl Servant` cites, which nobody has to read
pub mod facts
