-- What a server over TCP does, in the order in which to read it.

-- moments of the clock
pub mod Moments
-- connections that are served one after another, and the past of a server that has served them
pub mod Visits
