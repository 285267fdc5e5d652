-- What the counter promises, in the order in which to read it.

-- the object: its key, its operations, and what each gives
pub mod Counter
-- its object reference
pub mod Addresses
-- an object beside it that leads each caller elsewhere
pub mod Forwarding
-- a proof that an `impl` cites, which nobody has to read
pub mod facts
