-- The texts, in the order in which to read them: octets in lines of text, and the parts of a message and its lines.
pub mod Text
pub mod MessageLines
