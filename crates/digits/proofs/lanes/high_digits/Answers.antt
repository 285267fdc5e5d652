use Rattle.digits.proofs.Written.{high_are, high_ok}
use Rattle.digits.proofs.lanes.high_digits.Goals as goal

pub swizzle : goal.swizzle
swizzle c = high_ok c.args.octets c.fits-octets

pub returns : goal.returns
returns c = high_are c.args.octets c.fits-octets
