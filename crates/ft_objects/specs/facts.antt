-- Proofs that clauses cite, or that those of servants do. Nobody has to read them to know what is promised.
-- that arguments are there and of their types, that numbers are in their ranges by a test and back, that numbers and sequences fit as
-- results, that outcomes of bounded types can be sent, and that a servant by a table keeps its promises: proofs of servants cite them
pub mod Accessors
pub mod Ranges
pub mod Results
pub mod Sizes
pub mod Objects
-- that an outcome of an operation may be handed in for it: proofs of callers cite it
pub mod Answers
-- that types are valid is a fact, with at most one proof: a field of `Typed` cites it
pub mod Validity
-- that catalogues that are filled in keep the promises of one: the `impl`s of `Interfaces` and of `Families` cite it
pub mod Promises
