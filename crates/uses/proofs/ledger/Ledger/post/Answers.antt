use Rattle.std.proofs.Common.{rules}
use Rattle.cdr_core.specs.Form as form
use Rattle.ft_objects.specs.facts.Ranges.{test_by_range}
use Rattle.uses.specs.facts.Ledger.{posted_stays, total_of-append}
use Rattle.uses.proofs.ledger.Ledger.post.Goals as goal

-- the new entries are those of a ledger, since the cents are a long long
pub invariant_of-self-2 : goal.invariant_of-self-2
invariant_of-self-2 c =
    let long = test_by_range form.longlong c.args.cents c.ranges.cents in
    let stays = posted_stays c.self.inside.entries.items c.args.cents c.self.invariant.4 long in
    search (rules, stays, total_of-append)
