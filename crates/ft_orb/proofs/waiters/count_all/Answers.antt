use Rattle.std.proofs.Common.{rules, ◌≡◌, map, ap, arith}
use Rattle.std.specs.List.{sum_by}
use Rattle.std.specs.BTreeMap.{values}
use Rattle.std.specs.Map.Iter.{deref}
use Rattle.std.proofs.lemmas.Map.Iter.{iter_end}
use Rattle.std.proofs.lemmas.Map.Entries.{length-values_of}
use Rattle.ft_orb.specs.declared.parked.Parked.{Parked}
use Rattle.ft_orb.specs.Counts.{on_connection}
use Rattle.ft_orb.proofs.Countings.{waiters-fit}
use Rattle.ft_orb.proofs.waiters.count_all.Goals as goal

pub returns : goal.returns
returns c =
    let all : map deref c.loop-parked.yielded ≡ values c.args.requests.now = search (rules, iter_end) in
    let sum = ap (λ ps. sum_by (λ (p : Parked). on_connection c.args.connection p.waiters.items) ps) all in
    let fits = waiters-fit c.args.connection (values c.args.requests.now) in
    let size = length-values_of c.args.requests.now.entries in
    let few = c.requires in
    let kept = c.loop-parked.invariant in
    grind (arith, sum, fits, size, few, kept)
