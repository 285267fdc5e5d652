-- An assembler, and the first fault of its stream, as a number.
use Rattle.std.specs.Prelude.{ℕ}
use Rattle.giop_frames.specs.Standing.{Standing}

pub record Assembled : Type 0 where
  pub assembler : Standing
  pub fault : ℕ
