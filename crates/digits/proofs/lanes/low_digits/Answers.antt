use Rattle.digits.proofs.Written.{low_are, low_ok}
use Rattle.digits.proofs.lanes.low_digits.Goals as goal

pub swizzle : goal.swizzle
swizzle c = low_ok c.args.octets c.fits-octets

pub returns : goal.returns
returns c = low_are c.args.octets c.fits-octets
