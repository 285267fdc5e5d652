-- What has to be believed of this crate.
-- Times: how long after a request its answer came.
pub mod Times
