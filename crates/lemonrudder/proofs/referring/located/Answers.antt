use Rattle.std.proofs.Common.{rules, inl, inr}
use Rattle.lemonrudder.proofs.referring.located.Goals as goal

pub returns-in-Err : goal.returns-in-Err
returns-in-Err c = inl (c.in-Err.ensures.refused (search rules))

pub returns-then-len-gt-MOST_ADDRESSES : goal.returns-then-len-gt-MOST_ADDRESSES
returns-then-len-gt-MOST_ADDRESSES c = inr (c.in-Ok.location, c.in-Ok.ensures.spelled, inl (search rules))

pub returns-in-Ok-reference_of : goal.returns-in-Ok-reference_of
returns-in-Ok-reference_of c = (c.in-Ok.location, c.in-Ok.ensures.spelled, (search rules), (c.in-Ok-reference_of.ensures.empty, c.in-Ok-reference_of.ensures.profiles))

pub returns : goal.returns
returns c = inr (c.in-Ok.location, c.in-Ok.ensures.spelled, inr (c.in-Err-reference_of.ensures.refused (search rules)))
