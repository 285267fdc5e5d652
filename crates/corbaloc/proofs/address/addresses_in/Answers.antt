use Rattle.std.proofs.Common.{[], ◌∷◌, inl, inr, refl, sym, arith, rules, tests}
use Rattle.std.proofs.lemmas.List.{append-nil}
use Rattle.std.proofs.lemmas.Result.{err_from_is_err_and}
use Rattle.corbaloc.specs.Grammar.{IsCut, IsFree}
use Rattle.corbaloc.proofs.Fronts.{address_end, address_step}
use Rattle.corbaloc.proofs.address.addresses_in.Goals as goal

pub returns-in_err-one-clause-refused : goal.returns-in_err-one-clause-refused
returns-in_err-one-clause-refused c =
    let p = err_from_is_err_and c.from_residual.result c.from_residual.ensures.1 in
    let left = c.loop-first.left.now in
    let first = c.in-Some.first.now in
    let rest = c.in-Some.rest.now in
    let cut : IsCut 44 left first rest = c.in-Some.ensures in
    let fault = rw c.place_of.ensures at c.in_err-one.ensures.refused in
    rw (p.1, p.2) (λ other. (c.loop-first.all.items, left, first, 44 ∷ rest, c.loop-first.invariant.1, (cut.0, cut.1, inr (rest, refl)), fault other))

pub loop-first-preserved : goal.loop-first-preserved
loop-first-preserved c = (
  search rules,
  address_step c.args.text.now c.loop-first.left.now c.in-Some.first.now c.in-Some.rest.now c.in_ok-one.one c.loop-first.all.items c.push.new.self.items (search rules) c.in-Some.ensures c.in_ok-one.ensures.spelled c.loop-first.invariant.1,
)

pub returns-in_err-last-clause-refused : goal.returns-in_err-last-clause-refused
returns-in_err-last-clause-refused c =
    let p = err_from_is_err_and c.from_residual-in_err-last.result c.from_residual-in_err-last.ensures.1 in
    let left = c.loop-first.left.now in
    let free : IsFree 44 c.loop-first.left.now = first_of (search rules, grind arith, search (rules, tests)) in
    let fault = rw c.place_of-2.ensures at c.in_err-last.ensures.refused in
    rw (p.1, p.2) (λ other. (c.loop-first.all.items, left, left, [], c.loop-first.invariant.1, (sym (append-nil left), free, inl refl), fault other))

pub returns-clause-spelled : goal.returns-clause-spelled
returns-clause-spelled c =
    let free : IsFree 44 c.loop-first.left.now = first_of (search rules, grind arith, search (rules, tests)) in
    address_end c.args.text.now c.loop-first.left.now c.in_ok-last.last c.loop-first.all.items c.push-2.new.self.items (search rules) free c.in_ok-last.ensures.spelled c.loop-first.invariant.1
