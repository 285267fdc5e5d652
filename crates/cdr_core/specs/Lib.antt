-- Common Data Representation, CDR 9.3: what the contracts of this crate say. Read it in this order.
--
-- What octets mean:
--   Form        the types
--   Value       the values
--   View        what a `Ty` and a `Val` of the code stand for
--   Numbers     padding, and numbers as octets in either order
--   Spelling    which octets are a value of a type: the standard's rules
--   Stopping    which fault is reported where no front of the octets is one: own rules
-- What the calls do:
--   Reading     reading from left to right, as a function
--   Memory      where reading may run out of memory
--   Answering   what `read`, `read_list` and `pass_list` return
--   Fitting     which types are valid, and which values are of a type
--   Validity    that types are valid is a fact
--   Writing     the octets that are written, and what a `Writer` appends
--   Octets      values in which each octet is one
--   Encapsulation  octets that name their own byte order
--   Parts       the types and values of the parts that a `Cursor` reads
--   Cursor      what a `Cursor` stands for, and what its calls return
-- Laws          how Reading and Writing agree with Spelling and Stopping
-- Private       words for contracts of private functions; no public contract, definition or law uses them
pub mod Form
pub mod Value
pub mod View
pub mod Numbers
pub mod Spelling
pub mod Stopping
pub mod Reading
pub mod Memory
pub mod Answering
pub mod Fitting
pub mod Validity
pub mod Writing
pub mod Octets
pub mod Encapsulation
pub mod Parts
pub mod Cursor
pub mod Laws
pub mod Private
